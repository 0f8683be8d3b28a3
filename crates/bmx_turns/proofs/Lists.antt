-- Lists of events that are cut in two ways, or made event after event; elements by their places.
use Rattle.std.proofs.Common.{◌≡◌, ℕ, ◌+◌, ◌<◌, arith, refl, ap, sym, ◌∙◌, subst, zero, suc, List, [], ◌∷◌, ◌++◌, length, take}
use Rattle.std.specs.Prelude.{slice_get, Some}
use Rattle.std.proofs.lemmas.List.{append-nil, take_more}
use Rattle.std.proofs.lemmas.Option.{slice_get_within, get_or_from_slice_get}
use Rattle.bmx_protocol.specs.declared.events.Event.{Event}
use Rattle.bmx_protocol.proofs.Prefixes.{joined, not_empty}

-- ## two cuts of one list

-- c and d are cut as late as a and b or later, or sooner, within a
pub data Cuts {A : Type 0} (a b c d : List A) : Type 0 where
  Later : (z : List A) → c ≡ a ++ z → b ≡ z ++ d → Cuts a b c d
  Sooner : (e : A) (z : List A) → a ≡ c ++ e ∷ z → d ≡ e ∷ (z ++ b) → Cuts a b c d

pub first_same : {A : Type 0} (x y : A) (a b : List A) → x ∷ a ≡ y ∷ b → x ≡ y
first_same x y a b h = cc

pub rest_same : {A : Type 0} (x y : A) (a b : List A) → x ∷ a ≡ y ∷ b → a ≡ b
rest_same x y a b h = cc

grown : {A : Type 0} (x y : A) (a b c d : List A) → x ≡ y → Cuts a b c d → Cuts (x ∷ a) b (y ∷ c) d
grown x y a b c d same (Later z e f) = Later z (λ i. sym same i ∷ e i) f
grown x y a b c d same (Sooner g z e f) = Sooner g z (λ i. same i ∷ e i) f

pub cuts : {A : Type 0} (a b c d : List A) → a ++ b ≡ c ++ d → Cuts a b c d
cuts [] b c d h = Later c refl h
cuts (x ∷ a) b [] d h = Sooner x a refl (sym h)
cuts (x ∷ a) b (y ∷ c) d h =
    grown x y a b c d (first_same x y (a ++ b) (c ++ d) h) (cuts a b c d (rest_same x y (a ++ b) (c ++ d) h))

-- lists that are empty together
pub both_empty : {A : Type 0} (a b : List A) → a ++ b ≡ [] → (a ≡ []) × (b ≡ [])
both_empty [] b h = (refl, h)
both_empty (x ∷ a) b h = absurd cc

-- ## one event more

-- an event of a list with one more at its end: it is of the list, or the last
pub data Place (part : List Event) (e : Event) (before : List Event) (f : Event) : Type 0 where
  Within : (z : List Event) → before ++ f ∷ z ≡ part → Place part e before f
  Last : before ≡ part → f ≡ e → Place part e before f

pub place : (part : List Event) (e : Event) (before rest : List Event) (f : Event) → before ++ f ∷ rest ≡ part ++ e ∷ [] → Place part e before f
place part e before rest f h = by_cut (cuts part (e ∷ []) before (f ∷ rest) (sym h))
  where
    last : (z : List Event) → before ≡ part ++ z → e ∷ [] ≡ z ++ f ∷ rest → Place part e before f
    last [] is ends = Last (is ∙ append-nil part) (sym (first_same e f [] rest ends))
    last (g ∷ z) is ends = absurd (not_empty z rest f (sym (rest_same e g [] (z ++ f ∷ rest) ends)))

    by_cut : Cuts part (e ∷ []) before (f ∷ rest) → Place part e before f
    by_cut (Later z is ends) = last z is ends
    by_cut (Sooner g z is ends) =
        Within z (ap (λ (x : Event). before ++ x ∷ z) (first_same f g rest (z ++ e ∷ []) ends) ∙ sym is)

-- what holds of no events, and of one more where it holds of some, holds of all
pub by_last : (P : List Event → Type 0) → P [] → ((l : List Event) (e : Event) → P l → P (l ++ e ∷ [])) → (l : List Event) → P l
by_last P none one l = go [] l none
  where
    go : (done rest : List Event) → P done → P (done ++ rest)
    go done [] h = subst P (sym (append-nil done)) h
    go done (e ∷ rest) h = subst P (joined done (e ∷ []) rest) (go (done ++ e ∷ []) rest (one done e h))

-- ## elements by their places

pub slice_get_front : {A : Type 0} (a b : List A) (k : ℕ) → k < length a → slice_get (a ++ b) k ≡ slice_get a k
slice_get_front [] b k lt = absurd (omega (arith, lt))
slice_get_front (x ∷ a) b zero lt = refl
slice_get_front (x ∷ a) b (suc k) lt = slice_get_front a b k (omega (arith, lt))

pub slice_get_behind : {A : Type 0} (a b : List A) (k : ℕ) → slice_get (a ++ b) (length a + k) ≡ slice_get b k
slice_get_behind [] b k = (let e : 0 + k ≡ k = omega arith in ap (slice_get b) e)
slice_get_behind (x ∷ a) b k =
    let e : suc (length a) + k ≡ suc (length a + k) = omega arith in
    ap (slice_get (x ∷ (a ++ b))) e ∙ slice_get_behind a b k

pub take_one : {A : Type 0} (xs : List A) (k : ℕ) (c : A) → slice_get xs k ≡ Some c → take (k + 1) xs ≡ take k xs ++ c ∷ []
take_one xs k c h =
    take_more xs k c (slice_get_within xs k c h) ∙ (λ i. take k xs ++ get_or_from_slice_get xs k c c h i ∷ [])
