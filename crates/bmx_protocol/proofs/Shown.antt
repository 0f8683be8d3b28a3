-- A state has at most one view that shows it: lists in order with the same finds are the same.
use Rattle.std.proofs.Common.{◌≡◌, ℕ, suc, ⊎_elim, inl, inr, ◌⊎◌, ◌<◌, Bool, true, false, ◌==◌, List, [], ◌∷◌, length, refl, sym, ◌∙◌, subst, arith, find, All, AllPairs}
use Rattle.std.specs.Prelude.{Some, None, slice_get}
use Rattle.std.proofs.lemmas.Bool.{cond_both, cond-true, cond-false, cases_Bool}
use Rattle.std.proofs.lemmas.Bool.Decides.{nat_tests}
use Rattle.bmx_types.specs.declared.values.Val.{Val}
use Rattle.bmx_owner.specs.declared.entering.Record.{Record}
use Rattle.bmx_owner.specs.Records.{is_of, IsBefore}
use Rattle.bmx_owner.proofs.Keys.{is_of-itself, is_of-later}
use Rattle.bmx_owner.proofs.Parts.{AllPairs-head, AllPairs-tail}
use Rattle.bmx_protocol.specs.declared.views.Entry.{Entry}
use Rattle.bmx_protocol.specs.Nodes.{AreNumbers}
use Rattle.bmx_protocol.specs.Laws.{StateHasOneView}

-- ## lists with the same elements at each index

module _ {X : Type 0} where
  same_at : (xs ys : List X) → length xs ≡ length ys → ((k : ℕ) → k < length xs → slice_get xs k ≡ slice_get ys k) → xs ≡ ys
  same_at [] [] e h = refl
  same_at [] (y ∷ ys) e h = absurd (omega (arith, e))
  same_at (x ∷ xs) [] e h = absurd (omega (arith, e))
  same_at (x ∷ xs) (y ∷ ys) e h =
      let first : Some x ≡ Some y = h 0 (omega arith) in
      let heads : x ≡ y = cc in
      let tails : xs ≡ ys = same_at xs ys (omega (arith, e)) (λ k lt. h (suc k) (omega arith)) in
      cc

-- ## lists in order with the same finds

-- a key of an element, the test of a key, and an order by keys
pub record IsKeyed {X K : Type 0} (key : X → K) (hit : K → X → Bool) (R : X → X → Type 0) : Type 0 where
  pub itself : (x : X) → hit (key x) x ≡ true
  pub one_way : (x y : X) → R x y → R y x → ⊥
  pub apart : (k : K) (x y : X) → R x y → hit k x ≡ true → hit k y ≡ false

module _ {X K : Type 0} (key : X → K) (hit : K → X → Bool) (R : X → X → Type 0) (keyed : IsKeyed key hit R) where
  -- what is found in a list whose elements all have a property has it
  found : (P : X → Type 0) (p : X → Bool) (xs : List X) (x : X) → find p xs ≡ Some x → All P xs → P x
  found P p [] x e h = cc
  found P p (y ∷ ys) x e h =
      cond_both (p y) (Some y) (find p ys) (λ o. o ≡ Some x → P x)
      (λ _ same. let is : y ≡ x = cc in subst P is (h 0 y (omega arith)))
      (λ _ rest. found P p ys x rest (λ i d lt. h (suc i) d (omega arith)))
      e

  -- behind an element that passes none does
  none_behind : (k : K) (x : X) (xs : List X) → All (R x) xs → hit k x ≡ true → find (hit k) xs ≡ None
  none_behind k x [] h here = refl
  none_behind k x (y ∷ ys) h here =
      cond-false (hit k y) (Some y) (find (hit k) ys) (keyed.apart k x y (h 0 y (omega arith)) here)
      ∙ none_behind k x ys (λ i d lt. h (suc i) d (omega arith)) here

  -- the first of one list is the first of the other, or stands behind it
  is_first_or_behind : (x y : X) (xs ys : List X) → AllPairs R (y ∷ ys) →
      find (hit (key x)) (x ∷ xs) ≡ find (hit (key x)) (y ∷ ys) → (y ≡ x) ⊎ R y x
  is_first_or_behind x y xs ys order e =
      let p : X → Bool = hit (key x) in
      let here : find p (y ∷ ys) ≡ Some x = sym e ∙ cond-true (p x) (Some x) (find p xs) (keyed.itself x) in
      cond_both (p y) (Some y) (find p ys) (λ o. o ≡ Some x → (y ≡ x) ⊎ R y x)
      (λ _ same. let is : y ≡ x = cc in inl is)
      (λ _ rest. inr (found (R y) p ys x rest (AllPairs-head R y ys order)))
      here

  -- without the same first element they find the same
  same_tails : (x : X) (xs ys : List X) (k : K) → AllPairs R (x ∷ xs) → AllPairs R (x ∷ ys) →
      find (hit k) (x ∷ xs) ≡ find (hit k) (x ∷ ys) → find (hit k) xs ≡ find (hit k) ys
  same_tails x xs ys k order others e =
      ⊎_elim
      (λ here. none_behind k x xs (AllPairs-head R x xs order) here ∙ sym (none_behind k x ys (AllPairs-head R x ys others) here))
      (λ out. sym (cond-false (hit k x) (Some x) (find (hit k) xs) out) ∙ e ∙ cond-false (hit k x) (Some x) (find (hit k) ys) out)
      (cases_Bool (hit k x))

  pub same_finds : (xs ys : List X) → AllPairs R xs → AllPairs R ys → ((k : K) → find (hit k) xs ≡ find (hit k) ys) → xs ≡ ys
  same_finds [] [] order others e = refl
  same_finds [] (y ∷ ys) order others e =
      let here : find (hit (key y)) (y ∷ ys) ≡ Some y = cond-true (hit (key y) y) (Some y) (find (hit (key y)) ys) (keyed.itself y) in
      let none : None ≡ Some y = e (key y) ∙ here in
      cc
  same_finds (x ∷ xs) [] order others e =
      let here : find (hit (key x)) (x ∷ xs) ≡ Some x = cond-true (hit (key x) x) (Some x) (find (hit (key x)) xs) (keyed.itself x) in
      let none : Some x ≡ None = sym here ∙ e (key x) in
      cc
  same_finds (x ∷ xs) (y ∷ ys) order others e =
      let heads : y ≡ x =
      ⊎_elim (λ same. same)
      (λ y_ahead. ⊎_elim (λ same. sym same) (λ x_ahead. absurd (keyed.one_way x y x_ahead y_ahead))
      (is_first_or_behind y x ys xs order (sym (e (key y)))))
      (is_first_or_behind x y xs ys others (e (key x))) in
      let others_too : AllPairs R (x ∷ ys) = subst (λ z. AllPairs R (z ∷ ys)) heads others in
      let finds : (k : K) → find (hit k) (x ∷ xs) ≡ find (hit k) (x ∷ ys) = λ k. subst (λ z. find (hit k) (x ∷ xs) ≡ find (hit k) (z ∷ ys)) heads (e k) in
      let tails : xs ≡ ys =
      same_finds xs ys (AllPairs-tail R x xs order) (AllPairs-tail R x ys others_too)
      (λ k. same_tails x xs ys k order others_too (finds k)) in
      cc

-- ## the lists of a view

entries_keyed : IsKeyed (λ (e : Entry). e.name) (λ name (e : Entry). e.name == name) (λ (d e : Entry). d.name < e.name)
entries_keyed = record {
  itself = λ e. grind (arith, nat_tests);
  one_way = λ d e lt more. omega arith;
  apart = λ k d e lt here. grind (arith, nat_tests);
}

records_keyed : IsKeyed (λ (r : Record). (r.name, r.from)) (λ (k : ℕ × ℕ) (r : Record). is_of k.0 k.1 r) IsBefore
records_keyed = record {
  itself = λ r. is_of-itself r;
  one_way = λ r s ahead behind.
      let here : is_of r.name r.from r ≡ true = is_of-itself r in
      let apart : is_of r.name r.from r ≡ false = grind (arith, nat_tests) in
      cc;
  apart = λ k r s ahead here. is_of-later k.0 k.1 r s ahead here;
}

numbers_same : (nodes : ℕ) (xs ys : List ℕ) (f : ℕ → ℕ) → AreNumbers nodes xs f → AreNumbers nodes ys f → xs ≡ ys
numbers_same nodes xs ys f a b =
    same_at xs ys (a.each ∙ sym b.each)
    (λ k lt. let below : k < nodes = omega (arith, a.each) in a.same k below ∙ sym (b.same k below))

registers_same : (f : ℕ → Val) (xs ys : List Val) → length xs ≡ 16 → length ys ≡ 16 →
    ((r : ℕ) → r < 16 → slice_get xs r ≡ Some (f r)) → ((r : ℕ) → r < 16 → slice_get ys r ≡ Some (f r)) → xs ≡ ys
registers_same f xs ys many others a b =
    same_at xs ys (many ∙ sym others)
    (λ k lt. let below : k < 16 = omega (arith, many) in a k below ∙ sym (b k below))

-- ## the view

pub state_has_one_view : StateHasOneView
state_has_one_view nodes s v w a b =
    let entries : v.entries ≡ w.entries =
    same_finds (λ (e : Entry). e.name) (λ name (e : Entry). e.name == name) (λ (d e : Entry). d.name < e.name) entries_keyed
    v.entries w.entries a.rising b.rising (λ name. a.entries name ∙ sym (b.entries name)) in
    let records : v.records ≡ w.records =
    same_finds (λ (r : Record). (r.name, r.from)) (λ (k : ℕ × ℕ) (r : Record). is_of k.0 k.1 r) IsBefore records_keyed
    v.records w.records a.in_order b.in_order (λ k. a.records k.0 k.1 ∙ sym (b.records k.0 k.1)) in
    let registers : v.registers ≡ w.registers =
    registers_same s.register v.registers w.registers a.all_registers b.all_registers a.registers b.registers in
    let issued : v.issued ≡ w.issued = numbers_same nodes v.issued w.issued s.issued a.issued b.issued in
    let taken : v.taken ≡ w.taken = numbers_same nodes v.taken w.taken s.taken a.taken b.taken in
    let clock : v.clock ≡ w.clock = a.clock ∙ sym b.clock in
    let made : v.made ≡ w.made = a.made ∙ sym b.made in
    λ i. record {
      entries = entries i;
      registers = registers i;
      records = records i;
      issued = issued i;
      taken = taken i;
      clock = clock i;
      made = made i;
    }
