-- What a node refers to is known there, and has its stub where it is of another bunch: this stands where an entry is
-- replaced by one that refers to no more, or to what has its stub; where one is added; where a register is set.
use Rattle.std.proofs.Common.{◌≡◌, ◌≢◌, ℕ, ◌<◌, ◌≤◌, ⊎_elim, Bool, true, false, List, [], ◌∷◌, filter, fold, Contains, IsSome, refl, ap, sym, ◌∙◌, subst, arith}
use Rattle.std.specs.Prelude.{Option, Some, None, is_some}
use Rattle.std.specs.Option.{option_map_or}
use Rattle.std.specs.List.{list_any}
use Rattle.std.proofs.lemmas.List.Elements.{Contains-append_left, Contains-append_right}
use Rattle.bmx_types.specs.Words.{maker, count_of, anchor_of}
use Rattle.bmx_types.specs.Openings.{bunches_of}
use Rattle.bmx_types.specs.declared.values.Val.{Val}
use Rattle.bmx_types.specs.declared.values.Val.TheVariants as val
use Rattle.bmx_types.specs.Updates.{put}
use Rattle.bmx_inter.specs.declared.inter.Stub.{Stub}
use Rattle.bmx_inter.specs.Order.{is_ahead, is_same, with_one}
use Rattle.bmx_inter.specs.Inter.{stub_pair}
use Rattle.bmx_inter.proofs.Keys.{is_same-true, key_cases}
use Rattle.bmx_protocol.specs.Nodes.{Setting, Known}
use Rattle.bmx_protocol.proofs.Basics.{put_same, put_apart, Two, Same, Apart, two, some_same}
use Rattle.bmx_collection.specs.Links.{Links, with_pair}
use Rattle.bmx_collection.specs.Reach.{is_reference_to}
use Rattle.bmx_collection.proofs.Listing.{clash, nothing_in, first_of, behind, one_of, in_filter}

-- a copy has a reference to the object of a name
abbrev pub holds : Known → ℕ → Bool
holds k name = option_map_or (list_any (is_reference_to name)) k.copy false

-- the stub of a reference from an object of the bunch stands
pub record HasStub (stubs : List Stub) (source target bunch : ℕ) : Type 0 where
  pub stub : Stub
  pub there : Contains stubs stub
  pub pair : stub_pair stub ≡ record { source = source; target = target }
  pub of_bunch : stub.bunch ≡ bunch

-- of a node that has made so many names: those that it made are counted; anchors are known, in their bunches; what
-- registers and copies refer to is known, and has its stub where it is of another bunch
pub record Stand (st : Setting) (me made : ℕ) (known : ℕ → Option Known) (register : ℕ → Val) (stubs : List Stub) : Type 0 where
  pub counted : (x : ℕ) (j : Known) → known x ≡ Some j → maker x ≡ me → count_of x ≤ made
  pub anchors : (b : ℕ) → b < bunches_of st.births → (k : Known) × (known (anchor_of b) ≡ Some k) × (k.bunch ≡ b)
  pub registers : (r x : ℕ) → r < 16 → register r ≡ val.Ref x → IsSome (known x)
  pub targets : (y z : ℕ) (j : Known) → known y ≡ Some j → holds j z ≡ true → IsSome (known z)
  pub pairs : (y z : ℕ) (j k : Known) → known y ≡ Some j → known z ≡ Some k → holds j z ≡ true → j.bunch ≢ k.bunch → HasStub stubs y z j.bunch

-- what is some is one
pub the_known : (o : Option Known) → IsSome o → (k : Known) × (o ≡ Some k)
the_known None e = cc
the_known (Some k) e = (k, refl)

-- ## stubs

has_with_one : (x : Stub) (xs : List Stub) (y : Stub) → Contains xs y → is_same (stub_pair x) (stub_pair y) ≡ false → Contains (with_one stub_pair x xs) y
has_with_one x xs y c apart = ⊎_elim
    (λ before. Contains-append_right (filter (λ z. is_ahead (stub_pair z) (stub_pair x)) xs) (x ∷ filter (λ z. is_ahead (stub_pair x) (stub_pair z)) xs) y
    (behind x y (filter (λ z. is_ahead (stub_pair x) (stub_pair z)) xs) (in_filter (λ z. is_ahead (stub_pair x) (stub_pair z)) xs y c before)))
    (λ rest. ⊎_elim
    (λ same. absurd (clash (is_same (stub_pair x) (stub_pair y)) same apart))
    (λ after. Contains-append_left (filter (λ z. is_ahead (stub_pair z) (stub_pair x)) xs) (x ∷ filter (λ z. is_ahead (stub_pair x) (stub_pair z)) xs) y
    (in_filter (λ z. is_ahead (stub_pair z) (stub_pair x)) xs y c after))
    rest)
    (key_cases (stub_pair x) (stub_pair y))

one_there : (x : Stub) (xs : List Stub) → Contains (with_one stub_pair x xs) x
one_there x xs =
    Contains-append_right (filter (λ z. is_ahead (stub_pair z) (stub_pair x)) xs) (x ∷ filter (λ z. is_ahead (stub_pair x) (stub_pair z)) xs) x
    (first_of x (filter (λ z. is_ahead (stub_pair x) (stub_pair z)) xs))

-- references that get their pairs are from objects of their bunches
abbrev pub Fit : List Stub → ℕ → ℕ → ℕ → Type 0
Fit xs y z bunch = (x : Stub) → Contains xs x → stub_pair x ≡ record { source = y; target = z } → x.bunch ≡ bunch

stub_stays : (clock : ℕ) (l : Links) (x : Stub) (y z bunch : ℕ) → (stub_pair x ≡ record { source = y; target = z } → x.bunch ≡ bunch) → HasStub l.stubs y z bunch →
    HasStub (with_pair clock l x).stubs y z bunch
stub_stays clock l x y z bunch fits h = by (is_same (stub_pair x) (stub_pair h.stub)) refl
  where
    by : (b : Bool) → is_same (stub_pair x) (stub_pair h.stub) ≡ b → HasStub (with_pair clock l x).stubs y z bunch
    by true e =
        let pair : stub_pair x ≡ record { source = y; target = z } = is_same-true (stub_pair x) (stub_pair h.stub) e ∙ h.pair in
        record { stub = x; there = one_there x l.stubs; pair = pair; of_bunch = fits pair }
    by false e = record { stub = h.stub; there = has_with_one x l.stubs h.stub h.there e; pair = h.pair; of_bunch = h.of_bunch }

pub stubs_stay : (clock : ℕ) (xs : List Stub) (l : Links) (y z bunch : ℕ) → Fit xs y z bunch → HasStub l.stubs y z bunch → HasStub (fold (with_pair clock) l xs).stubs y z bunch
stubs_stay clock [] l y z bunch fits h = h
stubs_stay clock (x ∷ xs) l y z bunch fits h =
    stubs_stay clock xs (with_pair clock l x) y z bunch (λ w there. fits w (behind x w xs there)) (stub_stays clock l x y z bunch (fits x (first_of x xs)) h)

pub stub_comes : (clock : ℕ) (xs : List Stub) (l : Links) (y z bunch : ℕ) (x : Stub) → Fit xs y z bunch → Contains xs x → stub_pair x ≡ record { source = y; target = z } →
    HasStub (fold (with_pair clock) l xs).stubs y z bunch
stub_comes clock [] l y z bunch x fits c pair = absurd (nothing_in x c)
stub_comes clock (w ∷ xs) l y z bunch x fits c pair = ⊎_elim
    (λ here. stubs_stay clock xs (with_pair clock l w) y z bunch (λ v there. fits v (behind w v xs there))
    (record { stub = w; there = one_there w l.stubs; pair = ap stub_pair here ∙ pair; of_bunch = fits w (first_of w xs) (ap stub_pair here ∙ pair) }))
    (λ later. stub_comes clock xs (with_pair clock l w) y z bunch x (λ v there. fits v (behind w v xs there)) later pair)
    (one_of w x xs c)

-- ## entries

module _ (st : Setting) (me made : ℕ) (known : ℕ → Option Known) (register : ℕ → Val) (stubs : List Stub) (w : Stand st me made known register stubs) where
  -- stubs of what stands stay
  abbrev pub Stay : List Stub → Type 0
  Stay later = (y z : ℕ) (j : Known) → known y ≡ Some j → HasStub stubs y z j.bunch → HasStub later y z j.bunch

  pub restubbed : (later : List Stub) → Stay later → Stand st me made known register later
  restubbed later stay = record {
    counted = w.counted;
    anchors = w.anchors;
    registers = w.registers;
    targets = w.targets;
    pairs = λ y z j k ey ez h apart. stay y z j ey (w.pairs y z j k ey ez h apart);
  }

  pub set : (r : ℕ) (v : Val) → ((x : ℕ) → v ≡ val.Ref x → IsSome (known x)) → Stand st me made known (put register r v) stubs
  set r v fits = record {
    counted = w.counted;
    anchors = w.anchors;
    registers = λ q x less e. by q x less (two r q) e;
    targets = w.targets;
    pairs = w.pairs;
  }
    where
      by : (q x : ℕ) → q < 16 → Two r q → put register r v q ≡ val.Ref x → IsSome (known x)
      by q x less (Same same) e = fits x (sym (ap (λ (i : ℕ). put register r v i) (sym same) ∙ put_same register r v) ∙ e)
      by q x less (Apart other differ) e = w.registers q x less (sym (put_apart register r q v other) ∙ e)

  -- an entry is replaced by one of the same bunch, whose references are known and have their stubs
  module _ (later : List Stub) (name : ℕ) (k k' : Known) (was : known name ≡ Some k) (same_bunch : k'.bunch ≡ k.bunch) where
    there : (x : ℕ) → name ≡ x → put known name (Some k') x ≡ Some k'
    there x same = ap (λ (i : ℕ). put known name (Some k') i) (sym same) ∙ put_same known name (Some k')

    still : (x : ℕ) → IsSome (known x) → IsSome (put known name (Some k') x)
    still x some = by (two name x)
      where
        by : Two name x → IsSome (put known name (Some k') x)
        by (Same same) = ap (λ (o : Option Known). is_some o) (there x same)
        by (Apart other differ) = ap (λ (o : Option Known). is_some o) (put_apart known name x (Some k') other) ∙ some

    before : (x : ℕ) (j : Known) → put known name (Some k') x ≡ Some j → (i : Known) × (known x ≡ Some i) × (i.bunch ≡ j.bunch)
    before x j e = by (two name x)
      where
        by : Two name x → (i : Known) × (known x ≡ Some i) × (i.bunch ≡ j.bunch)
        by (Same same) =
            let is : k' ≡ j = some_same (sym (there x same) ∙ e) in
            (k, ap known (sym same) ∙ was, sym same_bunch ∙ ap (λ (i : Known). i.bunch) is)
        by (Apart other differ) = (j, sym (put_apart known name x (Some k') other) ∙ e, refl)

    pub replaced : ((z : ℕ) → holds k' z ≡ true → IsSome (known z)) →
        ((z : ℕ) (kz : Known) → known z ≡ Some kz → holds k' z ≡ true → k.bunch ≢ kz.bunch → HasStub later name z k.bunch) → Stay later →
        Stand st me made (put known name (Some k')) register later
    replaced fresh paired stay = record {
      counted = λ x j e by_me. (let b : (i : Known) × (known x ≡ Some i) × (i.bunch ≡ j.bunch) = before x j e in w.counted x b.0 b.1 by_me);
      anchors = λ b less. anchor b (w.anchors b less) (two name (anchor_of b));
      registers = λ r x less e. still x (w.registers r x less e);
      targets = λ y z j e h. target y z j h (two name y) e;
      pairs = λ y z j kz ey ez h apart. pair y z j kz ez h apart (two name y) ey;
    }
      where
        anchor : (b : ℕ) → (a : Known) × (known (anchor_of b) ≡ Some a) × (a.bunch ≡ b) → Two name (anchor_of b) → (a : Known) × (put known name (Some k') (anchor_of b) ≡ Some a) × (a.bunch ≡ b)
        anchor b a (Same same) =
            let is : k ≡ a.0 = some_same (sym was ∙ ap known same ∙ a.1) in
            (k', there (anchor_of b) same, same_bunch ∙ ap (λ (i : Known). i.bunch) is ∙ a.2)
        anchor b a (Apart other differ) = (a.0, put_apart known name (anchor_of b) (Some k') other ∙ a.1, a.2)

        target : (y z : ℕ) (j : Known) → holds j z ≡ true → Two name y → put known name (Some k') y ≡ Some j → IsSome (put known name (Some k') z)
        target y z j h (Same same) e =
            let is : k' ≡ j = some_same (sym (there y same) ∙ e) in
            still z (fresh z (ap (λ (i : Known). holds i z) is ∙ h))
        target y z j h (Apart other differ) e = still z (w.targets y z j (sym (put_apart known name y (Some k') other) ∙ e) h)

        pair : (y z : ℕ) (j kz : Known) → put known name (Some k') z ≡ Some kz → holds j z ≡ true → j.bunch ≢ kz.bunch → Two name y → put known name (Some k') y ≡ Some j →
            HasStub later y z j.bunch
        pair y z j kz ez h apart (Same same) ey =
            let is : k' ≡ j = some_same (sym (there y same) ∙ ey) in
            let bunches : k.bunch ≡ j.bunch = sym same_bunch ∙ ap (λ (i : Known). i.bunch) is in
            let b : (i : Known) × (known z ≡ Some i) × (i.bunch ≡ kz.bunch) = before z kz ez in
            subst (λ (i : ℕ). HasStub later i z j.bunch) same (subst (λ (i : ℕ). HasStub later name z i) bunches
            (paired z b.0 b.1 (ap (λ (i : Known). holds i z) is ∙ h) (λ e. apart (sym bunches ∙ e ∙ b.2))))
        pair y z j kz ez h apart (Apart other differ) ey =
            let was_y : known y ≡ Some j = sym (put_apart known name y (Some k') other) ∙ ey in
            let b : (i : Known) × (known z ≡ Some i) × (i.bunch ≡ kz.bunch) = before z kz ez in
            stay y z j was_y (w.pairs y z j b.0 was_y b.1 h (λ e. apart (e ∙ b.2)))

  -- an entry comes that refers to nothing
  pub added : (more name : ℕ) (v : Known) → is_some (known name) ≡ false → ((z : ℕ) → holds v z ≡ true → ⊥) → made ≤ more → (maker name ≡ me → count_of name ≤ more) →
      Stand st me more (put known name (Some v)) register stubs
  added more name v none empty less fits = record {
    counted = λ x j e by_me. count x j by_me (two name x) e;
    anchors = λ b below. (let a : (k : Known) × (known (anchor_of b) ≡ Some k) × (k.bunch ≡ b) = w.anchors b below in (a.0, stays (anchor_of b) a.0 a.1, a.2));
    registers = λ r x below e. still_some x (w.registers r x below e);
    targets = λ y z j e h. still_some z (w.targets y z j (old y z j h e) h);
    pairs = λ y z j kz ey ez h apart.
        let was_y : known y ≡ Some j = old y z j h ey in
        let k : (k : Known) × (known z ≡ Some k) = the_known (known z) (w.targets y z j was_y h) in
        let is : kz ≡ k.0 = some_same (sym ez ∙ stays z k.0 k.1) in
        w.pairs y z j k.0 was_y k.1 h (λ e. apart (e ∙ ap (λ (i : Known). i.bunch) (sym is)));
  }
    where
      stays : (x : ℕ) (j : Known) → known x ≡ Some j → put known name (Some v) x ≡ Some j
      stays x j e = by (two name x)
        where
          by : Two name x → put known name (Some v) x ≡ Some j
          by (Same same) = absurd (clash (is_some (known name)) (ap (λ (o : Option Known). is_some o) (ap known same ∙ e)) none)
          by (Apart other differ) = put_apart known name x (Some v) other ∙ e

      still_some : (x : ℕ) → IsSome (known x) → IsSome (put known name (Some v) x)
      still_some x some = (let k : (k : Known) × (known x ≡ Some k) = the_known (known x) some in ap (λ (o : Option Known). is_some o) (stays x k.0 k.1))

      old : (y z : ℕ) (j : Known) → holds j z ≡ true → put known name (Some v) y ≡ Some j → known y ≡ Some j
      old y z j h e = by (two name y)
        where
          by : Two name y → known y ≡ Some j
          by (Same same) =
              let is : v ≡ j = some_same (sym (ap (λ (i : ℕ). put known name (Some v) i) (sym same) ∙ put_same known name (Some v)) ∙ e) in
              absurd (empty z (ap (λ (i : Known). holds i z) is ∙ h))
          by (Apart other differ) = sym (put_apart known name y (Some v) other) ∙ e

      count : (x : ℕ) (j : Known) → maker x ≡ me → Two name x → put known name (Some v) x ≡ Some j → count_of x ≤ more
      count x j by_me (Same same) e = subst (λ (i : ℕ). count_of i ≤ more) same (fits (ap maker same ∙ by_me))
      count x j by_me (Apart other differ) e =
          (let was : count_of x ≤ made = w.counted x j (sym (put_apart known name x (Some v) other) ∙ e) by_me in omega (arith, was, less))
