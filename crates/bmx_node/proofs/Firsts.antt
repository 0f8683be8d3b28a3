-- What nodes have at first beside node 0's memory: births told one after another.
use Rattle.std.proofs.Common.{◌≡◌, ◌≢◌, inl, inr, ℕ, ◌+◌, ◌<◌, ◌≤◌, arith, refl, ap, sym, subst, ◌∙◌, Bool, true, false, cond, List, [], ◌∷◌, ◌++◌, zero, suc, length, take, get_or}
use Rattle.std.specs.Prelude.{◌==◌, ◌&&◌, nat_lt, nat_le, Option, Some, None, filter, slice_get, is_some}
use Rattle.std.specs.Option.{option_map}
use Rattle.std.proofs.Math.Path.{fun_ext}
use Rattle.std.proofs.lemmas.List.{take_more}
use Rattle.std.proofs.lemmas.Bool.Decides.{nat_tests}
use Rattle.bmx_types.specs.Openings.{bunches_of}
use Rattle.bmx_types.specs.declared.openings.Birth.{Birth}
use Rattle.bmx_types.specs.declared.openings.Opening.{Opening}
use Rattle.bmx_types.specs.declared.addresses.Place.{Place}
use Rattle.bmx_types.specs.declared.addresses.Info.{Info}
use Rattle.bmx_types.specs.declared.values.Val.TheVariants as val
use Rattle.bmx_types.specs.Updates.{put}
use Rattle.bmx_token.specs.declared.parts.Part.{Part}
use Rattle.bmx_token.specs.Tokens.{child_part}
use Rattle.bmx_protocol.specs.Nodes.{Setting, Known, is_anchor, birth_of, heard_birth}
use Rattle.bmx_protocol.specs.Places.{Places, with_learnt, learn_at, no_places, owner_places, told_place, with_told}
use Rattle.bmx_protocol.specs.Strays.{clashes}
use Rattle.bmx_protocol.proofs.Basics.{Every, eqb_apart, put_apart, none_some, some_same}
use Rattle.bmx_protocol.proofs.Births.{In, Distinct, every_in, in_contains, distinct_filter, learns, learns_not, learns_in, distinct, anchors, anchors_of, known_all, known_told}
use Rattle.bmx_memory.specs.Shown.{Shown, Object, known_as, known_with, lies_in, info_of, object_told, with_info, Fits}
use Rattle.bmx_places.proofs.Opened.{lies_somewhere, told_fits}
use Rattle.bmx_node.specs.Inside.Births.{setting_of, owner_shown, born_object, heard_object}
use Rattle.bmx_node.specs.Inside.Others.{heard_memory}

-- ## the anchors are the first births

pub is_in : (x n : ℕ) → 0 < x → x ≤ n → (nat_lt 0 x && nat_le x n) ≡ true
is_in x n some few = grind (arith, nat_tests)

pub is_out : (x n : ℕ) → n < x → (nat_lt 0 x && nat_le x n) ≡ false
is_out x n many = grind (arith, nat_tests)

is_first : ℕ → Birth → Bool
is_first n b = nat_lt 0 b.name && nat_le b.name n

none_of : (bs : List Birth) (k n : ℕ) → n ≤ k → ((i : ℕ) (b : Birth) → slice_get bs i ≡ Some b → b.name ≡ k + i + 1) → filter (λ (b : Birth). nat_lt 0 b.name && nat_le b.name n) bs ≡ []
none_of [] k n few named = refl
none_of (c ∷ bs) k n few named =
    let first : c.name ≡ k + 0 + 1 = named 0 c refl in
    let out : (nat_lt 0 c.name && nat_le c.name n) ≡ false = is_out c.name n (omega arith) in
    ap (λ t. cond t (c ∷ filter (λ (b : Birth). nat_lt 0 b.name && nat_le b.name n) bs) (filter (λ (b : Birth). nat_lt 0 b.name && nat_le b.name n) bs)) out
    ∙ none_of bs (k + 1) n (omega arith) (λ i b e. (let is : b.name ≡ k + suc i + 1 = named (suc i) b e in omega arith))

first_of : (bs : List Birth) (k m n : ℕ) → n ≡ k + m → ((i : ℕ) (b : Birth) → slice_get bs i ≡ Some b → b.name ≡ k + i + 1) → filter (λ (b : Birth). nat_lt 0 b.name && nat_le b.name n) bs ≡ take m bs
first_of [] k zero n sum named = refl
first_of [] k (suc m) n sum named = refl
first_of (c ∷ bs) k zero n sum named = none_of (c ∷ bs) k n (omega arith) named
first_of (c ∷ bs) k (suc m) n sum named =
    let first : c.name ≡ k + 0 + 1 = named 0 c refl in
    let there : (nat_lt 0 c.name && nat_le c.name n) ≡ true = is_in c.name n (omega arith) (omega arith) in
    ap (λ t. cond t (c ∷ filter (λ (b : Birth). nat_lt 0 b.name && nat_le b.name n) bs) (filter (λ (b : Birth). nat_lt 0 b.name && nat_le b.name n) bs)) there
    ∙ ap (λ zs. c ∷ zs) (first_of bs (k + 1) m n (omega arith) (λ i b e. (let is : b.name ≡ k + suc i + 1 = named (suc i) b e in omega arith)))

pub anchors_first : (o : Opening) (bunches : ℕ) → bunches ≡ bunches_of o.births → take bunches o.births ≡ anchors (setting_of o) o.opened
anchors_first o bunches same = sym (first_of o.births 0 bunches (bunches_of o.births) (omega (arith, same)) (λ i b e. (let is : b.name ≡ i + 1 = o.opened.born.named i b e in omega arith)))

pub births_apart : (o : Opening) (bs : List Birth) → bs ≡ o.births → Distinct bs
births_apart o bs are = subst Distinct (sym are) (distinct (setting_of o) o.opened)

pub anchors_apart : (o : Opening) (bs : List Birth) → bs ≡ anchors (setting_of o) o.opened → Distinct bs
anchors_apart o bs are = subst Distinct (sym are) (distinct_filter (λ b. is_anchor (setting_of o) b.name) o.births (distinct (setting_of o) o.opened))

-- a birth is found by its name
pub born : (o : Opening) (b : Birth) → In b o.births → birth_of (setting_of o) b.name ≡ Some b
born o b there = by_birth (birth_of (setting_of o) b.name) (known_all (setting_of o) o.opened (λ c. c) b.name ∙ learns_in (λ c. c) o.births (λ x. None) b (distinct (setting_of o) o.opened) there)
  where
    by_birth : (c : Option Birth) → option_map (λ (d : Birth). d) c ≡ Some b → c ≡ Some b
    by_birth None h = none_some h
    by_birth (Some c) h = h

-- ## one birth more

learns_append : {A : Type 0} (f : Birth → A) (known : ℕ → Option A) (a bs : List Birth) → learns f known (a ++ bs) ≡ learns f (learns f known a) bs
learns_append f known [] bs = refl
learns_append f known (b ∷ a) bs = learns_append f (put known b.name (Some (f b))) a bs

told_append : (told a : Places) (bs cs : List Birth) → with_told told a (bs ++ cs) ≡ with_told told (with_told told a bs) cs
told_append told a [] cs = refl
told_append told a (b ∷ bs) cs = told_append told (told_place a (told.place b.name) b) bs cs

every_take : (P : Birth → Type 0) (bs : List Birth) (i : ℕ) → Every P bs → Every P (take i bs)
every_take P [] zero h = tt
every_take P [] (suc i) h = tt
every_take P (c ∷ bs) zero h = tt
every_take P (c ∷ bs) (suc i) h = (h.0, every_take P bs i h.1)

in_at : (bs : List Birth) (i : ℕ) (b : Birth) → i < length bs → b ≡ get_or bs i b → In b bs
in_at [] i b lt is = absurd (omega (arith, lt))
in_at (c ∷ bs) zero b lt is = inl (sym is)
in_at (c ∷ bs) (suc i) b lt is = inr (in_at bs i b (omega (arith, lt)) is)

apart_at : (bs : List Birth) (i : ℕ) (b : Birth) → Distinct bs → i < length bs → b ≡ get_or bs i b → Every (λ (c : Birth). c.name ≢ b.name) (take i bs)
apart_at [] i b h lt is = absurd (omega (arith, lt))
apart_at (c ∷ bs) zero b h lt is = tt
apart_at (c ∷ bs) (suc i) b h lt is = (every_in (λ (d : Birth). c.name ≢ d.name) bs b h.0 (in_at bs i b (omega (arith, lt)) is), apart_at bs i b h.1 (omega (arith, lt)) is)

module _ (bs : List Birth) (i : ℕ) (b : Birth) (lt : i < length bs) (is : b ≡ get_or bs i b) where
  one_more : take (i + 1) bs ≡ take i bs ++ b ∷ []
  one_more = take_more bs i b lt ∙ ap (λ x. take i bs ++ x ∷ []) (sym is)

  -- it is known of no birth before
  pub none_yet : {A : Type 0} (f : Birth → A) → Distinct bs → learns f (λ x. None) (take i bs) b.name ≡ None
  none_yet f apart = learns_not f (take i bs) (λ x. None) b.name (apart_at bs i b apart lt is)

  pub learnt_more : {A : Type 0} (f : Birth → A) → learns f (λ x. None) (take (i + 1) bs) ≡ put (learns f (λ x. None) (take i bs)) b.name (Some (f b))
  learnt_more f = ap (learns f (λ x. None)) one_more ∙ learns_append f (λ x. None) (take i bs) (b ∷ [])

  told_more : (told : Places) → with_told told no_places (take (i + 1) bs) ≡ told_place (with_told told no_places (take i bs)) (told.place b.name) b
  told_more told = ap (with_told told no_places) one_more ∙ told_append told no_places (take i bs) (b ∷ [])

  -- so its token is new
  pub no_part : (f : Birth → Part) (parts : ℕ → Option Part) → Distinct bs → parts ≡ learns f (λ x. None) (take i bs) → parts b.name ≡ None
  no_part f parts apart before = (λ j. before j b.name) ∙ none_yet f apart

  pub part_more : (f : Birth → Part) (parts new : ℕ → Option Part) → parts ≡ learns f (λ x. None) (take i bs) → new ≡ put parts b.name (Some (f b)) → new ≡ learns f (λ x. None) (take (i + 1) bs)
  part_more f parts new before after = after ∙ ap (λ g. put g b.name (Some (f b))) before ∙ sym (learnt_more f)

-- ## all of them

take_all : (bs : List Birth) (i : ℕ) → length bs ≤ i → take i bs ≡ bs
take_all [] zero far = refl
take_all [] (suc i) far = refl
take_all (b ∷ bs) zero far = absurd (omega (arith, far))
take_all (b ∷ bs) (suc i) far = ap (λ zs. b ∷ zs) (take_all bs i (omega (arith, far)))

-- so many births from the first on are all of them, or all anchors
module _ (o : Opening) (bs : List Birth) (i : ℕ) (far : length bs ≤ i) where
  pub all_owned : (f : Birth → Part) (parts : ℕ → Option Part) → bs ≡ o.births → parts ≡ learns f (λ x. None) (take i bs) → (name : ℕ) → parts name ≡ option_map f (birth_of (setting_of o) name)
  all_owned f parts are h name = (λ j. h j name) ∙ ap (λ cs. learns f (λ x. None) cs name) (take_all bs i far ∙ are) ∙ sym (known_all (setting_of o) o.opened f name)

  pub all_heard : (f : Birth → Part) (parts : ℕ → Option Part) → bs ≡ anchors (setting_of o) o.opened → parts ≡ learns f (λ x. None) (take i bs) →
      (name : ℕ) → parts name ≡ cond (is_anchor (setting_of o) name) (option_map f (birth_of (setting_of o) name)) None
  all_heard f parts are h name = (λ j. h j name) ∙ ap (λ cs. learns f (λ x. None) cs name) (take_all bs i far ∙ are) ∙ sym (known_told (setting_of o) o.opened f name)

-- ## memory

-- another node has heard of births
abbrev pub heard : ℕ → Setting → List Birth → Shown
heard me st bs = record {
  me = me;
  limit = st.limit;
  object = learns heard_object (λ x. None) bs;
  places = with_told (owner_places st) no_places bs;
  register = λ r. val.Null;
}

-- what node 0 tells of a birth
abbrev pub told_of : Setting → Birth → Info
told_of st b = record { name = b.name; bunch = b.bunch; size = length b.fields; place = lies_in (owner_places st) b.name }

known_heard : (object : ℕ → Option Object) (known : ℕ → Option Known) (bs : List Birth) (x : ℕ) → known_with object (λ y. child_part 0) x ≡ known x →
    known_with (learns heard_object object bs) (λ y. child_part 0) x ≡ learns heard_birth known bs x
known_heard object known [] x h = h
known_heard object known (b ∷ bs) x h = known_heard (put object b.name (Some (heard_object b))) (put known b.name (Some (heard_birth b))) bs x (by_test (b.name == x))
  where
    by_test : (t : Bool) → option_map (known_as (child_part 0)) (cond t (Some (heard_object b)) (object x)) ≡ cond t (Some (heard_birth b)) (known x)
    by_test true = refl
    by_test false = h

lies_not : (told a : Places) (bs : List Birth) (x : ℕ) → Every (λ (b : Birth). b.name ≢ x) bs → (with_told told a bs).place x ≡ a.place x
lies_not told a [] x h = refl
lies_not told a (b ∷ bs) x h = lies_not told (told_place a (told.place b.name) b) bs x h.1 ∙ one (told.place b.name)
  where
    one : (p : Option Place) → (told_place a p b).place x ≡ a.place x
    one None = refl
    one (Some p) = put_apart a.place b.name x (Some p) (eqb_apart b.name x h.0)

module _ (o : Opening) (bs : List Birth) (are : bs ≡ anchors (setting_of o) o.opened) where
  abbrev st : Setting
  st = setting_of o

  births : Every (λ (b : Birth). In b o.births) bs
  births = subst (λ cs. Every (λ (b : Birth). In b o.births) cs) (sym are) (anchors_of st o.opened)

  lies : (b : Birth) → In b o.births → (owner_places st).place b.name ≡ Some (lies_in (owner_places st) b.name)
  lies b there = lies_somewhere st o.opened b there

  module _ (i : ℕ) (b : Birth) (lt : i < length bs) (is : b ≡ get_or bs i b) where
    there : In b o.births
    there = every_in (λ (c : Birth). In c o.births) bs b births (in_at bs i b lt is)

    -- node 0 tells that of an anchor
    pub tells : (m : Shown) (info : Option Info) → m ≡ owner_shown st → info ≡ info_of m b.name → info ≡ Some (told_of st b)
    tells m info shows told = told ∙ ap (λ (n : Shown). info_of n b.name) shows
        ∙ ap (λ (c : Option Birth). option_map (λ (k : Object). record { name = b.name; bunch = k.bunch; size = k.size; place = lies_in (owner_places st) b.name }) (option_map born_object c)) (born o b there)

    pub is_told : (m : Shown) (answer : Option Info) (info : Info) → m ≡ owner_shown st → answer ≡ info_of m b.name → answer ≡ Some info → info ≡ told_of st b
    is_told m answer info shows told some = some_same (sym some ∙ tells m answer shows told)

    pub is_small : (told_of st b).size ≤ 32
    is_small = o.opened.born.sizes b (in_contains o.births b there)

    module _ (me : ℕ) (info : Info) (told : info ≡ told_of st b) (m : Shown) (shows : m ≡ heard me st (take i bs)) where
      pub it_fits : 0 < me → Fits m info
      it_fits other = subst (λ n. Fits n info) (sym shows) (subst (λ n. Fits (heard me st (take i bs)) n) (sym told) (record {
        parts = λ x. child_part 0;
        none = ap (λ known. clashes me known (with_told (owner_places st) no_places (take i bs)) (told_of st b)) (fun_ext (λ x. known_heard (λ y. None) (λ y. None) (take i bs) x refl))
            ∙ told_fits st o.opened me other (take i bs) (every_take (λ (c : Birth). In c o.births) bs i births) b there (told_of st b) refl refl refl (lies b there);
      }))

      pub heard_more : with_info m info ≡ heard me st (take (i + 1) bs)
      heard_more = (λ j. with_info (shows j) (told j)) ∙ (λ j. record (heard me st (take i bs)) { object = objects j; places = places j })
        where
          unheard : learns heard_object (λ x. None) (take i bs) b.name ≡ None
          unheard = none_yet bs i b lt is heard_object (anchors_apart o bs are)

          objects : object_told (learns heard_object (λ x. None) (take i bs)) (told_of st b) ≡ learns heard_object (λ x. None) (take (i + 1) bs)
          objects = ap (λ (c : Option Object). cond (is_some c) (learns heard_object (λ x. None) (take i bs)) (put (learns heard_object (λ x. None) (take i bs)) b.name (Some (heard_object b)))) unheard
              ∙ sym (learnt_more bs i b lt is heard_object)

          places : with_learnt (with_told (owner_places st) no_places (take i bs)) (told_of st b) ≡ with_told (owner_places st) no_places (take (i + 1) bs)
          places = ap (λ p. learn_at (with_told (owner_places st) no_places (take i bs)) (told_of st b) p) (lies_not (owner_places st) no_places (take i bs) b.name (apart_at bs i b (anchors_apart o bs are) lt is))
              ∙ sym (told_more bs i b lt is (owner_places st) ∙ ap (λ p. told_place (with_told (owner_places st) no_places (take i bs)) p b) (lies b there))

  -- all of them
  pub heard_all : (me i : ℕ) → length bs ≤ i → heard me st (take i bs) ≡ heard_memory me st
  heard_all me i far = ap (heard me st) (take_all bs i far ∙ are) ∙ (λ j. record (heard_memory me st) { object = sym (fun_ext (λ x. known_told st o.opened heard_object x)) j })
