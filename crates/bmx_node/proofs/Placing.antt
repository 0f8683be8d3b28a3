-- Births made one after another: what a memory shows then, and that it is what the rules say of an opening.
use Rattle.std.proofs.Common.{◌≡◌, ◌≢◌, ◌⊎◌, inl, inr, ℕ, ◌+◌, ◌-◌, ◌*◌, ◌<◌, ◌≤◌, arith, refl, ap, sym, subst, ◌∙◌, Bool, true, false, cond, List, [], ◌∷◌, ◌++◌, zero, suc, length, length-append, append_assoc, max, get_or}
use Rattle.std.specs.Prelude.{◌==◌, nat_lt, nat_le, Option, Some, None, find, filter, take, slice_get, slice_set, map, replicate, IsSome, Contains, All}
use Rattle.std.specs.Option.{option_map, option_and_then}
use Rattle.bmx_types.specs.Openings.{IsOpening, AreBirths, IsOfBunch, bunches_of}
use Rattle.bmx_types.specs.declared.openings.Birth.{Birth}
use Rattle.bmx_types.specs.Updates.{put}
use Rattle.bmx_types.specs.declared.values.Val.{Val}
use Rattle.bmx_types.specs.declared.values.Val.TheVariants as val
use Rattle.bmx_protocol.specs.declared.views.ViewField.{ViewField}
use Rattle.bmx_protocol.specs.declared.views.ViewField.TheVariants as field
use Rattle.bmx_protocol.specs.Nodes.{Setting, birth_of, field_of, value_in}
use Rattle.bmx_protocol.specs.Places.{Places, has_room, with_segment, with_placed, with_made, no_places, with_births, by_bunch}
use Rattle.std.proofs.lemmas.Bool.Decides.{nat_tests}
use Rattle.bmx_protocol.proofs.Basics.{eqb_is, eqb_apart, Two, Same, Apart, two, put_same, put_apart, Every, none_some, some_same}
use Rattle.bmx_protocol.proofs.Births.{In, Distinct, in_contains, in_bunches, found, not_found, ordered, all_bunches, distinct_bunches, numbered_distinct, one_name, filtered, of_bunches, learns, learns_not, learns_in, every_of, every_in}
use Rattle.bmx_memory.specs.Shown.{Shown, Object, with_object, with_value, with_stored, value_of, HasEntry}
use Rattle.bmx_node.specs.Inside.Births.{with_blanks, blank_until, no_object, owner_shown, blank_object, born_object}

-- ## one more of a list

pub take_more : {A : Type 0} (xs : List A) (i : ℕ) (x : A) → slice_get xs i ≡ Some x → take (suc i) xs ≡ take i xs ++ x ∷ []
take_more [] i x e = none_some e
take_more (y ∷ xs) zero x e = ap (λ z. z ∷ []) (some_same e)
take_more (y ∷ xs) (suc i) x e = ap (λ zs. y ∷ zs) (take_more xs i x e)

filter_append : {A : Type 0} (t : A → Bool) (xs ys : List A) → filter t (xs ++ ys) ≡ filter t xs ++ filter t ys
filter_append t [] ys = refl
filter_append t (x ∷ xs) ys = by_test (t x) (filter_append t xs ys)
  where
    by_test : (b : Bool) → filter t (xs ++ ys) ≡ filter t xs ++ filter t ys → cond b (x ∷ filter t (xs ++ ys)) (filter t (xs ++ ys)) ≡ cond b (x ∷ filter t xs) (filter t xs) ++ filter t ys
    by_test true h = ap (λ zs. x ∷ zs) h
    by_test false h = h

pub filter_more : {A : Type 0} (t : A → Bool) (xs : List A) (i : ℕ) (x : A) → slice_get xs i ≡ Some x → t x ≡ true → filter t (take (suc i) xs) ≡ filter t (take i xs) ++ x ∷ []
filter_more t xs i x e is =
    ap (filter t) (take_more xs i x e) ∙ filter_append t (take i xs) (x ∷ []) ∙ (λ j. filter t (take i xs) ++ cond (is j) (x ∷ []) [])

append_empty : {A : Type 0} (xs : List A) → xs ++ [] ≡ xs
append_empty [] = refl
append_empty (x ∷ xs) = ap (λ zs. x ∷ zs) (append_empty xs)

pub filter_same : {A : Type 0} (t : A → Bool) (xs : List A) (i : ℕ) (x : A) → slice_get xs i ≡ Some x → t x ≡ false → filter t (take (suc i) xs) ≡ filter t (take i xs)
filter_same t xs i x e is =
    ap (filter t) (take_more xs i x e) ∙ filter_append t (take i xs) (x ∷ []) ∙ (λ j. filter t (take i xs) ++ cond (is j) (x ∷ []) []) ∙ append_empty (filter t (take i xs))

-- ## births made

pub blanks_append : (m : Shown) (xs ys : List Birth) → with_blanks m (xs ++ ys) ≡ with_blanks (with_blanks m xs) ys
blanks_append m [] ys = refl
blanks_append m (x ∷ xs) ys = blanks_append (with_object m x.name x.bunch (length x.fields)) xs ys

pub blanks_object : (m : Shown) (bs : List Birth) → (with_blanks m bs).object ≡ learns blank_object m.object bs
blanks_object m [] = refl
blanks_object m (b ∷ bs) = blanks_object (with_object m b.name b.bunch (length b.fields)) bs

pub blanks_me : (m : Shown) (bs : List Birth) → (with_blanks m bs).me ≡ m.me
blanks_me m [] = refl
blanks_me m (b ∷ bs) = blanks_me (with_object m b.name b.bunch (length b.fields)) bs

pub blanks_limit : (m : Shown) (bs : List Birth) → (with_blanks m bs).limit ≡ m.limit
blanks_limit m [] = refl
blanks_limit m (b ∷ bs) = blanks_limit (with_object m b.name b.bunch (length b.fields)) bs

pub blanks_register : (m : Shown) (bs : List Birth) → (with_blanks m bs).register ≡ m.register
blanks_register m [] = refl
blanks_register m (b ∷ bs) = blanks_register (with_object m b.name b.bunch (length b.fields)) bs

pub blanks_places : (m : Shown) (bs : List Birth) → m.me ≡ 0 → (with_blanks m bs).places ≡ with_births m.places bs
blanks_places m [] e = refl
blanks_places m (b ∷ bs) e =
    blanks_places (with_object m b.name b.bunch (length b.fields)) bs e ∙ (λ i. with_births (with_made (e i) m.places b.name b.bunch (length b.fields)) bs)

births_append : (a : Places) (xs ys : List Birth) → with_births a (xs ++ ys) ≡ with_births (with_births a xs) ys
births_append a [] ys = refl
births_append a (x ∷ xs) ys = births_append (with_made 0 a x.name x.bunch (length x.fields)) xs ys

-- ## which births were made

-- births of the first bunches, and of the next those among the first i
abbrev pub until : List Birth → ℕ → ℕ → List Birth
until births bunch i = by_bunch births bunch ++ filter (λ b. b.bunch == bunch) (take i births)

in_append : (xs ys : List Birth) (b : Birth) → In b (xs ++ ys) → In b xs ⊎ In b ys
in_append [] ys b h = inr h
in_append (x ∷ xs) ys b (inl e) = inl (inl e)
in_append (x ∷ xs) ys b (inr h) = by_rest (in_append xs ys b h)
  where
    by_rest : In b xs ⊎ In b ys → In b (x ∷ xs) ⊎ In b ys
    by_rest (inl p) = inl (inr p)
    by_rest (inr p) = inr p

in_take : (xs : List Birth) (i : ℕ) (b : Birth) → In b (take i xs) → In b xs
in_take [] i b h = in_none i h
  where
    in_none : (i : ℕ) → In b (take i []) → In b []
    in_none zero h = absurd h
    in_none (suc i) h = absurd h
in_take (x ∷ xs) zero b h = absurd h
in_take (x ∷ xs) (suc i) b (inl e) = inl e
in_take (x ∷ xs) (suc i) b (inr h) = inr (in_take xs i b h)

in_get : (xs : List Birth) (i : ℕ) (b : Birth) → slice_get xs i ≡ Some b → In b xs
in_get [] i b e = none_some e
in_get (x ∷ xs) zero b e = inl (some_same e)
in_get (x ∷ xs) (suc i) b e = inr (in_get xs i b e)

-- the first i have other names than the next
others_before : (xs : List Birth) (i : ℕ) (b c : Birth) → Distinct xs → slice_get xs i ≡ Some b → In c (take i xs) → c.name ≢ b.name
others_before [] i b c apart e h q = none_some e
others_before (x ∷ xs) zero b c apart e h q = absurd h
others_before (x ∷ xs) (suc i) b c apart e (inl same) q = every_in (λ (d : Birth). x.name ≢ d.name) xs b apart.0 (in_get xs i b e) (ap (λ (d : Birth). d.name) same ∙ q)
others_before (x ∷ xs) (suc i) b c apart e (inr h) q = others_before xs i b c apart.1 e h q

pub still_new : (births : List Birth) (bunch i : ℕ) (b : Birth) → Distinct births → slice_get births i ≡ Some b → b.bunch ≡ bunch → Every (λ (c : Birth). c.name ≢ b.name) (until births bunch i)
still_new births bunch i b apart e of = every_of (λ (c : Birth). c.name ≢ b.name) (until births bunch i) (λ c h. by_part c (in_append (by_bunch births bunch) (filter (λ b. b.bunch == bunch) (take i births)) c h))
  where
    by_part : (c : Birth) → In c (by_bunch births bunch) ⊎ In c (filter (λ b. b.bunch == bunch) (take i births)) → c.name ≢ b.name
    by_part c (inl h) q =
        let before : In c births × (c.bunch < bunch) = of_bunches births bunch c h in
        let same : c ≡ b = one_name births c b apart before.0 (in_get births i b e) q in
        absurd (omega (arith, before.1, ap (λ (d : Birth). d.bunch) same, of))
    by_part c (inr h) q = others_before births i b c apart e (filtered (λ b. b.bunch == bunch) (take i births) c h).0 q

-- ## how many segments they need

-- so many segments were made for n births, of at most 36 words, of the first bunches and of this one: each but the
-- last of a bunch has at least 989 words
abbrev Weighs : Places → ℕ → ℕ → Option ℕ → Type 0
Weighs a bunch n None = 989 * a.made ≤ 36 * n + 989 * bunch
Weighs a bunch n (Some s) = 989 * a.made + a.handed s ≤ 36 * n + 989 * (bunch + 1)

record Counts (a : Places) (bunch n : ℕ) : Type 0 where
  weighs : Weighs a bunch n (a.opened bunch)
  closed : (later : ℕ) → bunch < later → a.opened later ≡ None

counts_none : Counts no_places 0 0
counts_none = record { weighs = omega arith; closed = λ later h. refl }

module _ (a : Places) (bunch n x size : ℕ) (few : size ≤ 32) (c : Counts a bunch n) where
  abbrev opened_new : Places
  opened_new = with_segment 0 a bunch

  new_opened : (with_segment 0 a bunch).opened bunch ≡ Some (a.made + 1)
  new_opened = put_same a.opened bunch (Some (a.made + 1))

  -- in a new segment
  by_new : 989 * (a.made + 1) ≤ 36 * n + 989 * (bunch + 1) → Counts (with_placed 0 opened_new x size (Some (a.made + 1))) bunch (n + 1)
  by_new h = record {
    weighs = subst (Weighs (with_placed 0 opened_new x size (Some (a.made + 1))) bunch (n + 1)) (sym new_opened)
        (omega (arith, h, few, put_same opened_new.handed (a.made + 1) (opened_new.handed (a.made + 1) + (4 + size)), put_same a.handed (a.made + 1) 0));
    closed = λ later above. put_apart a.opened bunch later (Some (a.made + 1)) (eqb_apart bunch later (omega (arith, above))) ∙ c.closed later above;
  }

  -- in the one that is open
  by_open : (s : ℕ) → a.opened bunch ≡ Some s → Counts (with_placed 0 a x size (Some s)) bunch (n + 1)
  by_open s e = record {
    weighs = subst (Weighs (with_placed 0 a x size (Some s)) bunch (n + 1)) (sym e)
        (omega (arith, subst (Weighs a bunch n) e c.weighs, few, put_same a.handed s (a.handed s + (4 + size))));
    closed = c.closed;
  }

  counts_one : Counts (with_made 0 a x bunch size) bunch (n + 1)
  counts_one = by_room (a.opened bunch) refl (has_room a (a.opened bunch) (4 + size)) refl
    where
      full : (o : Option ℕ) → a.opened bunch ≡ o → has_room a o (4 + size) ≡ false → 989 * (a.made + 1) ≤ 36 * n + 989 * (bunch + 1)
      full None e r = (let w : Weighs a bunch n None = subst (Weighs a bunch n) e c.weighs in omega (arith, w))
      full (Some s) e r =
          let w : Weighs a bunch n (Some s) = subst (Weighs a bunch n) e c.weighs in
          let more : 1024 < a.handed s + (4 + size) = not_within (a.handed s + (4 + size)) 1024 r in
          omega (arith, w, more, few)
        where
          not_within : (k m : ℕ) → nat_le k m ≡ false → m < k
          not_within k m h = grind (arith, nat_tests)

      by_room : (o : Option ℕ) → a.opened bunch ≡ o → (t : Bool) → has_room a (a.opened bunch) (4 + size) ≡ t →
          Counts (with_placed 0 (cond t a opened_new) x size ((cond t a opened_new).opened bunch)) bunch (n + 1)
      by_room (Some s) e true r = subst (λ o. Counts (with_placed 0 a x size o) bunch (n + 1)) (sym e) (by_open s e)
      by_room None e true r = absurd (no_room (sym (ap (λ o. has_room a o (4 + size)) e) ∙ r))
        where
          no_room : false ≡ true → ⊥
          no_room h = cc
      by_room o e false r = subst (λ o. Counts (with_placed 0 opened_new x size o) bunch (n + 1)) (sym new_opened) (by_new (full o e (sym (ap (λ o. has_room a o (4 + size)) e) ∙ r)))

counts_next : (a : Places) (bunch n : ℕ) → Counts a bunch n → Counts a (bunch + 1) n
counts_next a bunch n c = record {
  weighs = subst (Weighs a (bunch + 1) n) (sym (c.closed (bunch + 1) (omega arith))) (by_open (a.opened bunch) c.weighs);
  closed = λ later h. c.closed later (omega (arith, h));
}
  where
    by_open : (o : Option ℕ) → Weighs a bunch n o → 989 * a.made ≤ 36 * n + 989 * (bunch + 1)
    by_open None w = omega (arith, w)
    by_open (Some s) w = omega (arith, w)

counts_all : (bs : List Birth) (a : Places) (bunch n : ℕ) → Every (λ (b : Birth). (b.bunch ≡ bunch) × (length b.fields ≤ 32)) bs → Counts a bunch n → Counts (with_births a bs) bunch (n + length bs)
counts_all [] a bunch n h c = subst (Counts a bunch) (omega arith) c
counts_all (b ∷ bs) a bunch n h c =
    subst (Counts (with_births (with_made 0 a b.name b.bunch (length b.fields)) bs) bunch) (omega arith)
    (counts_all bs (with_made 0 a b.name b.bunch (length b.fields)) bunch (n + 1) h.1
    (subst (λ k. Counts (with_made 0 a b.name k (length b.fields)) bunch (n + 1)) (sym h.0.0) (counts_one a bunch n b.name (length b.fields) h.0.1 c)))

module _ (births : List Birth) (small : (b : Birth) → In b births → length b.fields ≤ 32) where
  each_of : (bunch : ℕ) (bs : List Birth) → ((b : Birth) → In b bs → In b births) → Every (λ (b : Birth). (b.bunch ≡ bunch) × (length b.fields ≤ 32)) (filter (λ b. b.bunch == bunch) bs)
  each_of bunch bs of = every_of (λ (b : Birth). (b.bunch ≡ bunch) × (length b.fields ≤ 32)) (filter (λ b. b.bunch == bunch) bs)
      (λ b h. (let f : In b bs × ((b.bunch == bunch) ≡ true) = filtered (λ b. b.bunch == bunch) bs b h in (eqb_is b.bunch bunch f.1, small b (of b f.0))))

  counts_bunches : (bunch : ℕ) → Counts (with_births no_places (by_bunch births bunch)) bunch (length (by_bunch births bunch))
  counts_bunches zero = counts_none
  counts_bunches (suc bunch) =
      subst (λ (a : Places). Counts a (suc bunch) (length (by_bunch births bunch ++ filter (λ b. b.bunch == bunch) births))) (sym (births_append no_places (by_bunch births bunch) (filter (λ b. b.bunch == bunch) births)))
      (subst (Counts (with_births (with_births no_places (by_bunch births bunch)) (filter (λ b. b.bunch == bunch) births)) (suc bunch)) (sym (length-append (by_bunch births bunch) (filter (λ b. b.bunch == bunch) births)))
      (subst (λ k. Counts (with_births (with_births no_places (by_bunch births bunch)) (filter (λ b. b.bunch == bunch) births)) k (length (by_bunch births bunch) + length (filter (λ b. b.bunch == bunch) births))) (omega arith)
      (counts_next (with_births (with_births no_places (by_bunch births bunch)) (filter (λ b. b.bunch == bunch) births)) bunch (length (by_bunch births bunch) + length (filter (λ b. b.bunch == bunch) births))
      (counts_all (filter (λ b. b.bunch == bunch) births) (with_births no_places (by_bunch births bunch)) bunch (length (by_bunch births bunch)) (each_of bunch births (λ b h. h)) (counts_bunches bunch)))))

  counts_until : (bunch i : ℕ) → Counts (with_births no_places (until births bunch i)) bunch (length (until births bunch i))
  counts_until bunch i =
      subst (λ (a : Places). Counts a bunch (length (until births bunch i))) (sym (births_append no_places (by_bunch births bunch) (filter (λ b. b.bunch == bunch) (take i births))))
      (subst (Counts (with_births (with_births no_places (by_bunch births bunch)) (filter (λ b. b.bunch == bunch) (take i births))) bunch) (sym (length-append (by_bunch births bunch) (filter (λ b. b.bunch == bunch) (take i births))))
      (counts_all (filter (λ b. b.bunch == bunch) (take i births)) (with_births no_places (by_bunch births bunch)) bunch (length (by_bunch births bunch)) (each_of bunch (take i births) (λ b h. in_take births i b h)) (counts_bunches bunch)))

-- as many as there are births
short_until : (births : List Birth) (bunch i : ℕ) → length (until births bunch i) ≤ length births
short_until births bunch i = omega (arith, length-append (by_bunch births bunch) (filter (λ b. b.bunch == bunch) (take i births)), first bunch, fewer (λ b. b.bunch == bunch) births i, both bunch births)
  where
    fewer : (t : Birth → Bool) (bs : List Birth) (i : ℕ) → length (filter t (take i bs)) ≤ length (filter t bs)
    fewer t [] zero = omega arith
    fewer t [] (suc i) = omega arith
    fewer t (b ∷ bs) zero = omega arith
    fewer t (b ∷ bs) (suc i) = by_test (t b) (fewer t bs i)
      where
        by_test : (z : Bool) → length (filter t (take i bs)) ≤ length (filter t bs) → length (cond z (b ∷ filter t (take i bs)) (filter t (take i bs))) ≤ length (cond z (b ∷ filter t bs) (filter t bs))
        by_test true h = omega (arith, h)
        by_test false h = h

    below : ℕ → List Birth → ℕ
    below n bs = length (filter (λ (b : Birth). nat_lt b.bunch n) bs)

    -- of a bunch and of those before it
    both : (n : ℕ) (bs : List Birth) → length (filter (λ b. b.bunch == n) bs) + below n bs ≤ length bs
    both n [] = omega arith
    both n (b ∷ bs) = by_tests (b.bunch == n) refl (nat_lt b.bunch n) refl (both n bs)
      where
        by_tests : (t : Bool) → (b.bunch == n) ≡ t → (u : Bool) → nat_lt b.bunch n ≡ u → length (filter (λ b. b.bunch == n) bs) + below n bs ≤ length bs →
            length (cond t (b ∷ filter (λ b. b.bunch == n) bs) (filter (λ b. b.bunch == n) bs)) + length (cond u (b ∷ filter (λ (b : Birth). nat_lt b.bunch n) bs) (filter (λ (b : Birth). nat_lt b.bunch n) bs)) ≤ suc (length bs)
        by_tests true e true f h = absurd (grind (arith, nat_tests))
        by_tests true e false f h = omega (arith, h)
        by_tests false e true f h = omega (arith, h)
        by_tests false e false f h = omega (arith, h)

    next : (n : ℕ) (bs : List Birth) → length (filter (λ b. b.bunch == n) bs) + below n bs ≤ below (suc n) bs
    next n [] = omega arith
    next n (b ∷ bs) = by_tests (b.bunch == n) refl (nat_lt b.bunch n) refl (nat_lt b.bunch (suc n)) refl (next n bs)
      where
        by_tests : (t : Bool) → (b.bunch == n) ≡ t → (u : Bool) → nat_lt b.bunch n ≡ u → (v : Bool) → nat_lt b.bunch (suc n) ≡ v → length (filter (λ b. b.bunch == n) bs) + below n bs ≤ below (suc n) bs →
            length (cond t (b ∷ filter (λ b. b.bunch == n) bs) (filter (λ b. b.bunch == n) bs)) + length (cond u (b ∷ filter (λ (b : Birth). nat_lt b.bunch n) bs) (filter (λ (b : Birth). nat_lt b.bunch n) bs)) ≤ length (cond v (b ∷ filter (λ (b : Birth). nat_lt b.bunch (suc n)) bs) (filter (λ (b : Birth). nat_lt b.bunch (suc n)) bs))
        by_tests true e true f v g h = absurd (grind (arith, nat_tests))
        by_tests true e false f true g h = omega (arith, h)
        by_tests true e false f false g h = absurd (grind (arith, nat_tests))
        by_tests false e true f true g h = omega (arith, h)
        by_tests false e true f false g h = absurd (grind (arith, nat_tests))
        by_tests false e false f true g h = omega (arith, h)
        by_tests false e false f false g h = h

    first : (n : ℕ) → length (by_bunch births n) ≤ below n births
    first zero = omega arith
    first (suc n) = omega (arith, first n, next n births, length-append (by_bunch births n) (filter (λ b. b.bunch == n) births))

pub few_made : (births : List Birth) → ((b : Birth) → In b births → length b.fields ≤ 32) → length births ≤ 320000 → (bunch i : ℕ) → bunch ≤ 16 → (with_births no_places (until births bunch i)).made < 65535
few_made births small few bunch i bunches = by_open ((with_births no_places (until births bunch i)).opened bunch) (counts_until births small bunch i).weighs
  where
    by_open : (o : Option ℕ) → Weighs (with_births no_places (until births bunch i)) bunch (length (until births bunch i)) o → (with_births no_places (until births bunch i)).made < 65535
    by_open None w = omega (arith, w, short_until births bunch i, few, bunches)
    by_open (Some s) w = omega (arith, w, short_until births bunch i, few, bunches)

-- ## fields written one after another

-- the first i fields, and null in the others
abbrev pub first_fields : List Val → ℕ → List ViewField
first_fields [] i = []
first_fields (f ∷ fields) zero = field.Null ∷ first_fields fields zero
first_fields (f ∷ fields) (suc i) = field_of f ∷ first_fields fields i

abbrev pub partly : Birth → ℕ → Object
partly b i = record { bunch = b.bunch; size = length b.fields; copy = Some (first_fields b.fields i) }

pub partly_none : (b : Birth) → partly b 0 ≡ blank_object b
partly_none b = λ j. record { bunch = b.bunch; size = length b.fields; copy = Some (none b.fields j) }
  where
    none : (fields : List Val) → first_fields fields 0 ≡ replicate (length fields) field.Null
    none [] = refl
    none (f ∷ fields) = ap (λ zs. field.Null ∷ zs) (none fields)

pub partly_all : (b : Birth) → partly b (length b.fields) ≡ born_object b
partly_all b = λ j. record { bunch = b.bunch; size = length b.fields; copy = Some (all b.fields j) }
  where
    all : (fields : List Val) → first_fields fields (length fields) ≡ map field_of fields
    all [] = refl
    all (f ∷ fields) = ap (λ zs. field_of f ∷ zs) (all fields)

field_more : (fields : List Val) (i : ℕ) (v : Val) → slice_get fields i ≡ Some v → slice_set (first_fields fields i) i (field_of v) ≡ first_fields fields (suc i)
field_more [] i v e = none_some e
field_more (f ∷ fields) zero v e = ap (λ (w : Val). field_of w ∷ first_fields fields zero) (sym (some_same e))
field_more (f ∷ fields) (suc i) v e = ap (λ zs. field_of f ∷ zs) (field_more fields i v e)

put_put : {A : Type 0} (f : ℕ → A) (x : ℕ) (u v : A) → put (put f x u) x v ≡ put f x v
put_put f x u v = λ j y. by_test (x == y) y j
  where
    by_test : (t : Bool) (y : ℕ) → cond t v (cond t u (f y)) ≡ cond t v (f y)
    by_test true y = refl
    by_test false y = refl

-- an object is there with its first i fields
abbrev pub filled : Shown → Birth → ℕ → Shown
filled m b i = record m { object = put m.object b.name (Some (partly b i)) }

pub filled_none : (m : Shown) (b : Birth) → m.object b.name ≡ Some (blank_object b) → m ≡ filled m b 0
filled_none m b e = λ j. record m { object = λ x. same x (two b.name x) j }
  where
    same : (x : ℕ) → Two b.name x → m.object x ≡ put m.object b.name (Some (partly b 0)) x
    same x (Same h) = ap m.object (sym h) ∙ e ∙ ap (λ o. Some o) (sym (partly_none b)) ∙ sym (ap (put m.object b.name (Some (partly b 0))) (sym h) ∙ put_same m.object b.name (Some (partly b 0)))
    same x (Apart f d) = sym (put_apart m.object b.name x (Some (partly b 0)) f)

pub filled_more : (m : Shown) (b : Birth) (i : ℕ) (v : Val) → slice_get b.fields i ≡ Some v → with_stored (filled m b i) b.name i v ≡ filled m b (i + 1)
filled_more m b i v e =
    (λ j. record m { object = put (put m.object b.name (Some (partly b i))) b.name (option_map (with_value i v) (put_same m.object b.name (Some (partly b i)) j)) })
    ∙ (λ j. record m { object = put_put m.object b.name (Some (partly b i)) (Some (with_value i v (partly b i))) j })
    ∙ (λ j. record m { object = put m.object b.name (Some (record { bunch = b.bunch; size = length b.fields; copy = Some (field_more b.fields i v e j) })) })
    ∙ ap (filled m b) next
  where
    next : suc i ≡ i + 1
    next = omega arith

pub filled_field : (m : Shown) (b : Birth) (i : ℕ) → i < length b.fields → IsSome (value_of (filled m b i) b.name i)
filled_field m b i below = subst (λ o. IsSome (option_and_then (λ fields. slice_get fields i) (option_and_then (λ (o : Object). option_map (map value_in) o.copy) o))) (sym (put_same m.object b.name (Some (partly b i)))) (by_fields b.fields i below)
  where
    by_fields : (fields : List Val) (i : ℕ) → i < length fields → IsSome (slice_get (map value_in (first_fields fields i)) i)
    by_fields [] i h = absurd (omega (arith, h))
    by_fields (f ∷ fields) zero h = refl
    by_fields (f ∷ fields) (suc i) h = by_fields fields i (omega (arith, h))

pub filled_entry : (m : Shown) (b : Birth) (i : ℕ) (v : Val) → HasEntry m v → HasEntry (filled m b i) v
filled_entry m b i val.Null h = h
filled_entry m b i (val.Int k) h = h
filled_entry m b i (val.Ref name) h = by_test (b.name == name)
  where
    by_test : (t : Bool) → IsSome (cond t (Some (partly b i)) (m.object name))
    by_test true = refl
    by_test false = h

-- ## what a loop over births keeps

pub got_is : {A : Type 0} (xs : List A) (i : ℕ) (x d : A) → slice_get xs i ≡ Some x → get_or xs i d ≡ x
got_is [] i x d e = none_some e
got_is (y ∷ xs) zero x d e = some_same e
got_is (y ∷ xs) (suc i) x d e = got_is xs i x d e

got_any : {A : Type 0} (xs : List A) (i : ℕ) (d e : A) → i < length xs → get_or xs i d ≡ get_or xs i e
got_any [] i d e below = absurd (omega (arith, below))
got_any (y ∷ xs) zero d e below = refl
got_any (y ∷ xs) (suc i) d e below = got_any xs i d e (omega (arith, below))

-- the item of a loop is the one at its index
pub item_got : {A : Type 0} (xs : List A) (i : ℕ) (x : A) → i < length xs → x ≡ get_or xs i x → slice_get xs i ≡ Some x
item_got [] i x below e = absurd (omega (arith, below))
item_got (y ∷ xs) zero x below e = ap (λ z. Some z) (sym e)
item_got (y ∷ xs) (suc i) x below e = item_got xs i x (omega (arith, below)) e

pub bunches_more : (xs : List Birth) (i : ℕ) (x : Birth) → slice_get xs i ≡ Some x → bunches_of (take (i + 1) xs) ≡ max (bunches_of (take i xs)) (x.bunch + 1)
bunches_more xs i x e = ap (λ k. bunches_of (take k xs)) next ∙ ap bunches_of (take_more xs i x e) ∙ behind (take i xs)
  where
    next : i + 1 ≡ suc i
    next = omega arith

    behind : (ys : List Birth) → bunches_of (ys ++ x ∷ []) ≡ max (bunches_of ys) (x.bunch + 1)
    behind [] = omega arith
    behind (y ∷ ys) = omega (arith, behind ys)

distinct_births : (births : List Birth) → AreBirths births → Distinct births
distinct_births births h = numbered_distinct births 0 (λ i b e. (let is : b.name ≡ i + 1 = h.named i b e in omega arith))

pub fresh_birth : (limit : ℕ) (births : List Birth) (bunch i : ℕ) (b : Birth) → AreBirths births → slice_get births i ≡ Some b → b.bunch ≡ bunch →
    (with_blanks (no_object 0 limit) (until births bunch i)).object b.name ≡ None
fresh_birth limit births bunch i b h e of =
    (λ j. blanks_object (no_object 0 limit) (until births bunch i) j b.name)
    ∙ learns_not blank_object (until births bunch i) (λ x. None) b.name (still_new births bunch i b (distinct_births births h) e of)

pub few_segments : (limit : ℕ) (births : List Birth) (bunch i : ℕ) → AreBirths births → bunch < bunches_of births → (with_blanks (no_object 0 limit) (until births bunch i)).places.made < 65535
few_segments limit births bunch i h below =
    subst (λ (a : Places). a.made < 65535) (sym (blanks_places (no_object 0 limit) (until births bunch i) refl))
    (few_made births (λ b there. h.sizes b (in_contains births b there)) h.few bunch i (omega (arith, below, h.bunches)))

pub blanks_more : (m : Shown) (births : List Birth) (bunch i : ℕ) (b : Birth) → slice_get births i ≡ Some b → (b.bunch == bunch) ≡ true →
    with_object (with_blanks m (until births bunch i)) b.name b.bunch (length b.fields) ≡ with_blanks m (until births bunch (i + 1))
blanks_more m births bunch i b e of =
    sym (ap (λ k. with_blanks m (until births bunch k)) next
    ∙ ap (λ zs. with_blanks m (by_bunch births bunch ++ zs)) (filter_more (λ b. b.bunch == bunch) births i b e of)
    ∙ ap (with_blanks m) (sym (append_assoc (by_bunch births bunch) (filter (λ b. b.bunch == bunch) (take i births)) (b ∷ [])))
    ∙ blanks_append m (until births bunch i) (b ∷ []))
  where
    next : i + 1 ≡ suc i
    next = omega arith

pub blanks_same : (m : Shown) (births : List Birth) (bunch i : ℕ) (b : Birth) → slice_get births i ≡ Some b → (b.bunch == bunch) ≡ false →
    with_blanks m (until births bunch i) ≡ with_blanks m (until births bunch (i + 1))
blanks_same m births bunch i b e of =
    sym (ap (λ k. with_blanks m (until births bunch k)) next ∙ ap (λ zs. with_blanks m (by_bunch births bunch ++ zs)) (filter_same (λ b. b.bunch == bunch) births i b e of))
  where
    next : i + 1 ≡ suc i
    next = omega arith

-- a bunch is begun, and ended
pub blanks_begun : (limit : ℕ) (births : List Birth) (bunch : ℕ) → blank_until limit births bunch ≡ with_blanks (no_object 0 limit) (until births bunch 0)
blanks_begun limit births bunch = ap (with_blanks (no_object 0 limit)) (sym (append_empty (by_bunch births bunch)))

take_all : {A : Type 0} (xs : List A) → take (length xs) xs ≡ xs
take_all [] = refl
take_all (x ∷ xs) = ap (λ zs. x ∷ zs) (take_all xs)

pub blanks_ended : (limit : ℕ) (births : List Birth) (bunch : ℕ) → with_blanks (no_object 0 limit) (until births bunch (length births)) ≡ blank_until limit births (bunch + 1)
blanks_ended limit births bunch =
    ap (λ zs. with_blanks (no_object 0 limit) (by_bunch births bunch ++ filter (λ b. b.bunch == bunch) zs)) (take_all births)
    ∙ ap (blank_until limit births) next
  where
    next : suc bunch ≡ bunch + 1
    next = omega arith

-- ## what node 0 has at first

learns_append : {A : Type 0} (f : Birth → A) (known : ℕ → Option A) (xs ys : List Birth) → learns f known (xs ++ ys) ≡ learns f (learns f known xs) ys
learns_append f known [] ys = refl
learns_append f known (x ∷ xs) ys = learns_append f (put known x.name (Some (f x))) xs ys

learns_some : {A : Type 0} (f : Birth → A) (bs : List Birth) (known : ℕ → Option A) (x : ℕ) → IsSome (known x) → IsSome (learns f known bs x)
learns_some f [] known x h = h
learns_some f (b ∷ bs) known x h = learns_some f bs (put known b.name (Some (f b))) x (by_test (b.name == x))
  where
    by_test : (t : Bool) → IsSome (cond t (Some (f b)) (known x))
    by_test true = refl
    by_test false = h

-- node 0 has made all births, and written the fields of the first i
abbrev pub written_until : ℕ → List Birth → ℕ → Shown
written_until limit births i = record (blank_until limit births (bunches_of births)) {
  object = learns born_object (blank_until limit births (bunches_of births)).object (take i births);
}

pub limit_until : (limit : ℕ) (births : List Birth) (bunch : ℕ) → (blank_until limit births bunch).limit ≡ limit
limit_until limit births bunch = blanks_limit (no_object 0 limit) (by_bunch births bunch)

-- there is a birth at a place
record IsAt (xs : List Birth) (i : ℕ) : Type 0 where
  birth : Birth
  at : slice_get xs i ≡ Some birth

module _ (limit : ℕ) (births : List Birth) (h : AreBirths births) where
  blank_there : (b : Birth) → In b births → (blank_until limit births (bunches_of births)).object b.name ≡ Some (blank_object b)
  blank_there b there =
      (λ j. blanks_object (no_object 0 limit) (by_bunch births (bunches_of births)) j b.name)
      ∙ learns_in blank_object (by_bunch births (bunches_of births)) (λ x. None) b (distinct_bunches births (distinct_births births h) (bunches_of births))
      (all_bunches births (bunches_of births) b there (in_bunches births b there))

  pub written_blank : (i : ℕ) (b : Birth) → slice_get births i ≡ Some b → (written_until limit births i).object b.name ≡ Some (blank_object b)
  written_blank i b e =
      learns_not born_object (take i births) (blank_until limit births (bunches_of births)).object b.name
      (every_of (λ (c : Birth). c.name ≢ b.name) (take i births) (λ c there. others_before births i b c (distinct_births births h) e there))
      ∙ blank_there b (in_get births i b e)

  pub written_few : (i : ℕ) (b : Birth) → slice_get births i ≡ Some b → length b.fields ≤ 32
  written_few i b e = h.sizes b (in_contains births b (in_get births i b e))

  pub written_known : (i : ℕ) (b : Birth) → slice_get births i ≡ Some b → All (λ v. HasEntry (written_until limit births i) v) b.fields
  written_known i b e = λ j v below. by_value (get_or b.fields j v) (j, below, got_any b.fields j (get_or b.fields j v) v below)
    where
      got : (xs : List Birth) (k : ℕ) → k < length xs → IsAt xs k
      got [] k below = absurd (omega (arith, below))
      got (x ∷ xs) zero below = record { birth = x; at = refl }
      got (x ∷ xs) (suc k) below = (let r : IsAt xs k = got xs k (omega (arith, below)) in record { birth = r.birth; at = r.at })

      by_value : (v : Val) → Contains b.fields v → HasEntry (written_until limit births i) v
      by_value val.Null there = tt
      by_value (val.Int k) there = tt
      by_value (val.Ref name) there =
          let of : IsOfBunch births b.bunch name = h.closed b name (in_contains births b (in_get births i b e)) there in
          let r : IsAt births (name - 1) = got births (name - 1) (omega (arith, of.named, of.there)) in
          let named : r.birth.name ≡ name = (let is : r.birth.name ≡ name - 1 + 1 = h.named (name - 1) r.birth r.at in omega (arith, is, of.named)) in
          learns_some born_object (take i births) (blank_until limit births (bunches_of births)).object name
          (subst (λ x. IsSome ((blank_until limit births (bunches_of births)).object x)) named
          (subst IsSome (sym (blank_there r.birth (in_get births (name - 1) r.birth r.at))) refl))

pub written_more : (limit : ℕ) (births : List Birth) (i : ℕ) (b : Birth) → slice_get births i ≡ Some b →
    record (written_until limit births i) { object = put (written_until limit births i).object b.name (Some (born_object b)) } ≡ written_until limit births (i + 1)
written_more limit births i b e = λ j. record (blank_until limit births (bunches_of births)) { object = same j }
  where
    next : suc i ≡ i + 1
    next = omega arith

    same : put (written_until limit births i).object b.name (Some (born_object b)) ≡ learns born_object (blank_until limit births (bunches_of births)).object (take (i + 1) births)
    same = sym (ap (λ k. learns born_object (blank_until limit births (bunches_of births)).object (take k births)) (sym next)
        ∙ ap (learns born_object (blank_until limit births (bunches_of births)).object) (take_more births i b e)
        ∙ learns_append born_object (blank_until limit births (bunches_of births)).object (take i births) (b ∷ []))

pub written_all : (st : Setting) → IsOpening st.nodes st.limit st.births → written_until st.limit st.births (length st.births) ≡ owner_shown st
written_all st opening = λ j. record {
  me = blanks_me (no_object 0 st.limit) (ordered st opening) j;
  limit = blanks_limit (no_object 0 st.limit) (ordered st opening) j;
  object = λ x. object x (birth_of st x) refl j;
  places = blanks_places (no_object 0 st.limit) (ordered st opening) refl j;
  register = blanks_register (no_object 0 st.limit) (ordered st opening) j;
}
  where
    blank : ℕ → Option Object
    blank = (blank_until st.limit st.births (bunches_of st.births)).object

    object : (x : ℕ) (b : Option Birth) → birth_of st x ≡ b → learns born_object blank (take (length st.births) st.births) x ≡ option_map born_object (birth_of st x)
    object x None e =
        (λ j. learns born_object blank (take_all st.births j) x)
        ∙ learns_not born_object st.births blank x (not_found st.births x e)
        ∙ (λ j. blanks_object (no_object 0 st.limit) (ordered st opening) j x)
        ∙ learns_not blank_object (ordered st opening) (λ x. None) x (every_of (λ (c : Birth). c.name ≢ x) (ordered st opening)
        (λ c there. every_in (λ (c : Birth). c.name ≢ x) st.births c (not_found st.births x e) (of_bunches st.births (bunches_of st.births) c there).0))
        ∙ ap (option_map born_object) (sym e)
    object x (Some b) e =
        let f : In b st.births × (b.name ≡ x) = found st.births x b e in
        (λ j. learns born_object blank (take_all st.births j) (sym f.1 j))
        ∙ learns_in born_object st.births blank b (distinct_births st.births opening.born) f.0
        ∙ ap (option_map born_object) (sym e)
