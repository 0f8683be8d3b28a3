-- The births of a store's opening: each is there once, and they are placed bunch by bunch; and what nodes know of
-- them at first, told one birth after another.
use Rattle.std.proofs.Common.{◌≡◌, ◌≢◌, ◌⊎◌, inl, inr, ℕ, ◌+◌, ◌<◌, ◌≤◌, arith, refl, ap, sym, subst, ◌∙◌, Bool, true, false, cond, List, [], ◌∷◌, ◌++◌, zero, suc}
use Rattle.std.specs.Prelude.{◌==◌, Option, Some, None, find, filter, slice_get, Contains}
use Rattle.std.specs.Option.{option_map}
use Rattle.bmx_types.specs.Openings.{IsOpening, bunches_of}
use Rattle.bmx_types.specs.declared.openings.Birth.{Birth}
use Rattle.bmx_types.specs.Updates.{put}
use Rattle.bmx_protocol.specs.Nodes.{Setting, Known, is_anchor, birth_of, owned_birth, heard_birth}
use Rattle.bmx_protocol.specs.Places.{by_bunch}
use Rattle.bmx_protocol.proofs.Basics.{eqb_is, eqb_of, Two, Same, Apart, two, put_same, put_apart, Every, every_append, some_same, none_some}

-- ## births

-- a birth is of a list
abbrev pub In : Birth → List Birth → Type 0
In b [] = ⊥
In b (c ∷ bs) = (c ≡ b) ⊎ In b bs

-- no two of a list have one name
abbrev pub Distinct : List Birth → Type 0
Distinct [] = Unit {0}
Distinct (b ∷ bs) = Every (λ (c : Birth). b.name ≢ c.name) bs × Distinct bs

pub every_in : (P : Birth → Type 0) (bs : List Birth) (b : Birth) → Every P bs → In b bs → P b
every_in P [] b h there = absurd there
every_in P (c ∷ bs) b h (inl e) = subst P e h.0
every_in P (c ∷ bs) b h (inr there) = every_in P bs b h.1 there

pub every_of : (P : Birth → Type 0) (bs : List Birth) → ((b : Birth) → In b bs → P b) → Every P bs
every_of P [] h = tt
every_of P (c ∷ bs) h = (h c (inl refl), every_of P bs (λ b there. h b (inr there)))

pub in_contains : (bs : List Birth) (b : Birth) → In b bs → Contains bs b
in_contains [] b there = absurd there
in_contains (c ∷ bs) b (inl e) = (0, omega arith, e)
in_contains (c ∷ bs) b (inr there) = (let rest : Contains bs b = in_contains bs b there in (suc rest.0, omega (arith, rest.1), rest.2))

pub in_append : (a bs : List Birth) (b : Birth) → In b a ⊎ In b bs → In b (a ++ bs)
in_append [] bs b (inl there) = absurd there
in_append [] bs b (inr there) = there
in_append (c ∷ a) bs b (inl (inl e)) = inl e
in_append (c ∷ a) bs b (inl (inr there)) = inr (in_append a bs b (inl there))
in_append (c ∷ a) bs b (inr there) = inr (in_append a bs b (inr there))

pub in_filter : (t : Birth → Bool) (bs : List Birth) (b : Birth) → In b bs → t b ≡ true → In b (filter t bs)
in_filter t [] b there is = absurd there
in_filter t (c ∷ bs) b (inl e) is =
    let same : t c ≡ true = ap t e ∙ is in
    subst (λ (z : Bool). In b (cond z (c ∷ filter t bs) (filter t bs))) (sym same) (inl e)
in_filter t (c ∷ bs) b (inr there) is = by_test (t c) (in_filter t bs b there is)
  where
    by_test : (z : Bool) → In b (filter t bs) → In b (cond z (c ∷ filter t bs) (filter t bs))
    by_test true rest = inr rest
    by_test false rest = rest

pub filtered : (t : Birth → Bool) (bs : List Birth) (b : Birth) → In b (filter t bs) → In b bs × (t b ≡ true)
filtered t [] b there = absurd there
filtered t (c ∷ bs) b there = by_test (t c) refl there (filtered t bs b)
  where
    by_test : (z : Bool) → t c ≡ z → In b (cond z (c ∷ filter t bs) (filter t bs)) → (In b (filter t bs) → In b bs × (t b ≡ true)) → In b (c ∷ bs) × (t b ≡ true)
    by_test true is (inl e) rest = (inl e, ap t (sym e) ∙ is)
    by_test true is (inr there) rest = (let r : In b bs × (t b ≡ true) = rest there in (inr r.0, r.1))
    by_test false is there rest = (let r : In b bs × (t b ≡ true) = rest there in (inr r.0, r.1))

pub distinct_filter : (t : Birth → Bool) (bs : List Birth) → Distinct bs → Distinct (filter t bs)
distinct_filter t [] h = tt
distinct_filter t (c ∷ bs) h = by_test (t c) (distinct_filter t bs h.1)
  where
    by_test : (z : Bool) → Distinct (filter t bs) → Distinct (cond z (c ∷ filter t bs) (filter t bs))
    by_test true rest = (every_of (λ (d : Birth). c.name ≢ d.name) (filter t bs) (λ d there. every_in (λ (d : Birth). c.name ≢ d.name) bs d h.0 (filtered t bs d there).0), rest)
    by_test false rest = rest

pub distinct_append : (a bs : List Birth) → Distinct a → Distinct bs → ((x y : Birth) → In x a → In y bs → x.name ≢ y.name) → Distinct (a ++ bs)
distinct_append [] bs h k apart = k
distinct_append (c ∷ a) bs h k apart = (
  every_append (λ (d : Birth). c.name ≢ d.name) a bs h.0 (every_of (λ (d : Birth). c.name ≢ d.name) bs (λ d there. apart c d (inl refl) there)),
  distinct_append a bs h.1 k (λ x y p q. apart x y (inr p) q),
)

pub one_name : (bs : List Birth) (x y : Birth) → Distinct bs → In x bs → In y bs → x.name ≡ y.name → x ≡ y
one_name [] x y h p q e = absurd p
one_name (c ∷ bs) x y h (inl a) (inl b) e = sym a ∙ b
one_name (c ∷ bs) x y h (inl a) (inr q) e = absurd (every_in (λ (d : Birth). c.name ≢ d.name) bs y h.0 q (ap (λ (z : Birth). z.name) a ∙ e))
one_name (c ∷ bs) x y h (inr p) (inl b) e = absurd (every_in (λ (d : Birth). c.name ≢ d.name) bs x h.0 p (ap (λ (z : Birth). z.name) b ∙ sym e))
one_name (c ∷ bs) x y h (inr p) (inr q) e = one_name bs x y h.1 p q e

pub found : (bs : List Birth) (x : ℕ) (b : Birth) → find (λ b. b.name == x) bs ≡ Some b → In b bs × (b.name ≡ x)
found [] x b h = none_some h
found (c ∷ bs) x b h = by_test (c.name == x) refl h (found bs x b)
  where
    by_test : (t : Bool) → (c.name == x) ≡ t → cond t (Some c) (find (λ b. b.name == x) bs) ≡ Some b →
        (find (λ b. b.name == x) bs ≡ Some b → In b bs × (b.name ≡ x)) → In b (c ∷ bs) × (b.name ≡ x)
    by_test true is e rest = (let same : c ≡ b = some_same e in (inl same, ap (λ (z : Birth). z.name) (sym same) ∙ eqb_is c.name x is))
    by_test false is e rest = (let r : In b bs × (b.name ≡ x) = rest e in (inr r.0, r.1))

pub not_found : (bs : List Birth) (x : ℕ) → find (λ b. b.name == x) bs ≡ None → Every (λ (b : Birth). b.name ≢ x) bs
not_found [] x h = tt
not_found (c ∷ bs) x h = by_two (two c.name x) h (not_found bs x)
  where
    by_two : Two c.name x → cond (c.name == x) (Some c) (find (λ b. b.name == x) bs) ≡ None → (find (λ b. b.name == x) bs ≡ None → Every (λ (b : Birth). b.name ≢ x) bs) → Every (λ (b : Birth). b.name ≢ x) (c ∷ bs)
    by_two (Same e) g rest = none_some (sym g ∙ (λ i. cond (eqb_of e i) (Some c) (find (λ b. b.name == x) bs)))
    by_two (Apart f d) g rest = (d, rest ((λ i. cond (sym f i) (Some c) (find (λ b. b.name == x) bs)) ∙ g))

-- names count up
pub numbered_above : (bs : List Birth) (k : ℕ) → ((i : ℕ) (b : Birth) → slice_get bs i ≡ Some b → b.name ≡ k + i + 1) → Every (λ (b : Birth). k < b.name) bs
numbered_above [] k h = tt
numbered_above (c ∷ bs) k h = (
  (let first : c.name ≡ k + 0 + 1 = h 0 c refl in omega arith),
  later bs (numbered_above bs (k + 1) (λ i b e. (let is : b.name ≡ k + suc i + 1 = h (suc i) b e in omega arith))),
)
  where
    later : (bs : List Birth) → Every (λ (b : Birth). k + 1 < b.name) bs → Every (λ (b : Birth). k < b.name) bs
    later [] h = tt
    later (b ∷ bs) h = ((let more : k + 1 < b.name = h.0 in omega arith), later bs h.1)

pub numbered_distinct : (bs : List Birth) (k : ℕ) → ((i : ℕ) (b : Birth) → slice_get bs i ≡ Some b → b.name ≡ k + i + 1) → Distinct bs
numbered_distinct [] k h = tt
numbered_distinct (c ∷ bs) k h = (
  apart bs (numbered_above bs (k + 1) rest),
  numbered_distinct bs (k + 1) rest,
)
  where
    rest : (i : ℕ) (b : Birth) → slice_get bs i ≡ Some b → b.name ≡ k + 1 + i + 1
    rest i b e = (let is : b.name ≡ k + suc i + 1 = h (suc i) b e in omega arith)

    apart : (bs : List Birth) → Every (λ (b : Birth). k + 1 < b.name) bs → Every (λ (b : Birth). c.name ≢ b.name) bs
    apart [] h = tt
    apart (b ∷ bs) more = ((λ e. (let first : c.name ≡ k + 0 + 1 = h 0 c refl in let above : k + 1 < b.name = more.0 in absurd (omega (arith, e)))), apart bs more.1)

pub in_bunches : (bs : List Birth) (b : Birth) → In b bs → b.bunch < bunches_of bs
in_bunches [] b there = absurd there
in_bunches (c ∷ bs) b (inl e) = omega (arith, ap (λ (z : Birth). z.bunch) e)
in_bunches (c ∷ bs) b (inr there) = omega (arith, in_bunches bs b there)

-- births by bunch are the births of those bunches
pub of_bunches : (births : List Birth) (n : ℕ) (b : Birth) → In b (by_bunch births n) → In b births × (b.bunch < n)
of_bunches births zero b there = absurd there
of_bunches births (suc n) b there = by_part (split (by_bunch births n) (filter (λ b. b.bunch == n) births) there) (of_bunches births n b)
  where
    split : (a bs : List Birth) → In b (a ++ bs) → In b a ⊎ In b bs
    split [] bs p = inr p
    split (c ∷ a) bs (inl e) = inl (inl e)
    split (c ∷ a) bs (inr p) = by_rest (split a bs p)
      where
        by_rest : In b a ⊎ In b bs → In b (c ∷ a) ⊎ In b bs
        by_rest (inl q) = inl (inr q)
        by_rest (inr q) = inr q

    by_part : In b (by_bunch births n) ⊎ In b (filter (λ b. b.bunch == n) births) → (In b (by_bunch births n) → In b births × (b.bunch < n)) → In b births × (b.bunch < suc n)
    by_part (inl p) rest = (let r : In b births × (b.bunch < n) = rest p in (r.0, omega (arith, r.1)))
    by_part (inr p) rest =
        let f : In b births × ((b.bunch == n) ≡ true) = filtered (λ b. b.bunch == n) births b p in
        (f.0, omega (arith, eqb_is b.bunch n f.1))

pub all_bunches : (births : List Birth) (n : ℕ) (b : Birth) → In b births → b.bunch < n → In b (by_bunch births n)
all_bunches births zero b there below = absurd (omega arith)
all_bunches births (suc n) b there below = by_two (two b.bunch n) (all_bunches births n b there)
  where
    by_two : Two b.bunch n → (b.bunch < n → In b (by_bunch births n)) → In b (by_bunch births n ++ filter (λ b. b.bunch == n) births)
    by_two (Same e) rest = in_append (by_bunch births n) (filter (λ b. b.bunch == n) births) b (inr (in_filter (λ b. b.bunch == n) births b there (eqb_of e)))
    by_two (Apart f d) rest = in_append (by_bunch births n) (filter (λ b. b.bunch == n) births) b (inl (rest (omega (arith, below, d))))

pub distinct_bunches : (births : List Birth) → Distinct births → (n : ℕ) → Distinct (by_bunch births n)
distinct_bunches births h zero = tt
distinct_bunches births h (suc n) = distinct_append (by_bunch births n) (filter (λ b. b.bunch == n) births) (distinct_bunches births h n) (distinct_filter (λ b. b.bunch == n) births h)
    (λ x y p q e. (let a : In x births × (x.bunch < n) = of_bunches births n x p in
    let f : In y births × ((y.bunch == n) ≡ true) = filtered (λ b. b.bunch == n) births y q in
    let same : x ≡ y = one_name births x y h a.0 f.0 e in
    absurd (omega (arith, a.1, eqb_is y.bunch n f.1, ap (λ (z : Birth). z.bunch) same))))

-- ## what is known of them

-- each birth, one after another, is known as this
abbrev pub learns : {A : Type 0} → (Birth → A) → (ℕ → Option A) → List Birth → ℕ → Option A
learns f known [] = known
learns f known (b ∷ bs) = learns f (put known b.name (Some (f b))) bs

pub learns_not : {A : Type 0} (f : Birth → A) (bs : List Birth) (known : ℕ → Option A) (x : ℕ) → Every (λ (b : Birth). b.name ≢ x) bs → learns f known bs x ≡ known x
learns_not f [] known x h = refl
learns_not f (b ∷ bs) known x h = learns_not f bs (put known b.name (Some (f b))) x h.1 ∙ by_two (two b.name x)
  where
    by_two : Two b.name x → put known b.name (Some (f b)) x ≡ known x
    by_two (Same e) = absurd (h.0 e)
    by_two (Apart g d) = put_apart known b.name x (Some (f b)) g

pub learns_in : {A : Type 0} (f : Birth → A) (bs : List Birth) (known : ℕ → Option A) (b : Birth) → Distinct bs → In b bs → learns f known bs b.name ≡ Some (f b)
learns_in f [] known b h there = absurd there
learns_in f (c ∷ bs) known b h (inl e) =
    learns_not f bs (put known c.name (Some (f c))) b.name (every_of (λ (d : Birth). d.name ≢ b.name) bs (λ d there q. every_in (λ (d : Birth). c.name ≢ d.name) bs d h.0 there (ap (λ (z : Birth). z.name) e ∙ sym q)))
    ∙ (ap (put known c.name (Some (f c))) (ap (λ (z : Birth). z.name) (sym e)) ∙ put_same known c.name (Some (f c))) ∙ ap (λ (z : Birth). Some (f z)) e
learns_in f (c ∷ bs) known b h (inr there) = learns_in f bs (put known c.name (Some (f c))) b h.1 there

-- ## what nodes know of them at first

module _ (st : Setting) (opening : IsOpening st.nodes st.limit st.births) where
  pub distinct : Distinct st.births
  distinct = numbered_distinct st.births 0 (λ i b e. (let is : b.name ≡ i + 1 = opening.born.named i b e in omega arith))

  -- births in the order in which node 0 places them
  abbrev pub ordered : List Birth
  ordered = by_bunch st.births (bunches_of st.births)

  -- those of which other nodes have heard
  abbrev pub anchors : List Birth
  anchors = filter (λ b. is_anchor st b.name) st.births

  pub anchors_of : Every (λ (b : Birth). In b st.births) anchors
  anchors_of = every_of (λ (b : Birth). In b st.births) anchors (λ b there. (filtered (λ b. is_anchor st b.name) st.births b there).0)

  -- births that are those whose names pass a test, told one after another, are known as what their names find
  pub known_by : {A : Type 0} (f : Birth → A) (test : ℕ → Bool) (bs : List Birth) → Distinct bs →
      ((b : Birth) → In b bs → In b st.births × (test b.name ≡ true)) → ((b : Birth) → In b st.births → test b.name ≡ true → In b bs) →
      (x : ℕ) → cond (test x) (option_map f (birth_of st x)) None ≡ learns f (λ x. None) bs x
  known_by f test bs apart of all x = by_birth (birth_of st x) refl (test x) refl
    where
      none : (t : Bool) → cond t (option_map f None) None ≡ None
      none true = refl
      none false = refl

      by_birth : (b : Option Birth) → birth_of st x ≡ b → (t : Bool) → test x ≡ t → cond t (option_map f b) None ≡ learns f (λ x. None) bs x
      by_birth None e t is = none t ∙ sym (learns_not f bs (λ x. None) x (every_of (λ (b : Birth). b.name ≢ x) bs
          (λ b there. every_in (λ (b : Birth). b.name ≢ x) st.births b (not_found st.births x e) (of b there).0)))
      by_birth (Some b) e true is =
          let g : In b st.births × (b.name ≡ x) = found st.births x b e in
          sym (learns_in f bs (λ x. None) b apart (all b g.0 (ap test g.1 ∙ is))) ∙ ap (learns f (λ x. None) bs) g.1
      by_birth (Some b) e false is = sym (learns_not f bs (λ x. None) x (every_of (λ (b : Birth). b.name ≢ x) bs
          (λ c there q. true_not_false (sym (of c there).1 ∙ ap test q ∙ is))))
        where
          true_not_false : true ≡ false → ⊥
          true_not_false h = cc

  -- all of them, as they stand and in the order in which they are placed
  pub known_all : {A : Type 0} (f : Birth → A) (x : ℕ) → option_map f (birth_of st x) ≡ learns f (λ x. None) st.births x
  known_all f x = known_by f (λ x. true) st.births distinct (λ b there. (there, refl)) (λ b there is. there) x

  pub known_first : {A : Type 0} (f : Birth → A) (x : ℕ) → option_map f (birth_of st x) ≡ learns f (λ x. None) ordered x
  known_first f x = known_by f (λ x. true) ordered (distinct_bunches st.births distinct (bunches_of st.births))
      (λ b there. ((of_bunches st.births (bunches_of st.births) b there).0, refl))
      (λ b there is. all_bunches st.births (bunches_of st.births) b there (in_bunches st.births b there)) x

  -- the anchors
  pub known_told : {A : Type 0} (f : Birth → A) (x : ℕ) → cond (is_anchor st x) (option_map f (birth_of st x)) None ≡ learns f (λ x. None) anchors x
  known_told f x = known_by f (is_anchor st) anchors (distinct_filter (λ b. is_anchor st b.name) st.births distinct)
      (λ b there. filtered (λ b. is_anchor st b.name) st.births b there) (λ b there is. in_filter (λ b. is_anchor st b.name) st.births b there is) x
