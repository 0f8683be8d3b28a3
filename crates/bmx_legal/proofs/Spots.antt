-- Where letters stand as a history grows.
use Rattle.std.proofs.Common.{◌≡◌, ℕ, ◌+◌, zero, suc, arith, refl, ap, sym, subst, ◌∙◌, Bool, true, false, cond, List, [], ◌∷◌, ◌++◌, length, drop}
use Rattle.std.specs.Prelude.{◌==◌, ◌≢◌, Some, slice_get}
use Rattle.bmx_msg.specs.declared.letters.Letter.{Letter}
use Rattle.bmx_protocol.specs.declared.inputs.Sending.{Sending}
use Rattle.bmx_protocol.specs.declared.events.Event.{Event}
use Rattle.bmx_protocol.specs.Histories.{letters_to}
use Rattle.bmx_protocol.proofs.Basics.{none_some, some_same, eqb_of, eqb_apart}
use Rattle.bmx_legal.specs.Inside.Spots.{StandsAt, Finds, spots_to}

-- ## lists

pub slice_more : {A : Type 0} (xs more : List A) (i : ℕ) (x : A) → slice_get xs i ≡ Some x → slice_get (xs ++ more) i ≡ Some x
slice_more [] more i x h = none_some h
slice_more (y ∷ xs) more zero x h = h
slice_more (y ∷ xs) more (suc i) x h = slice_more xs more i x h

pub slice_end : {A : Type 0} (xs : List A) (x : A) (rest : List A) → slice_get (xs ++ x ∷ rest) (length xs) ≡ Some x
slice_end [] x rest = refl
slice_end (y ∷ xs) x rest = slice_end xs x rest

-- ## spots

-- no letter has no spot
pub finds_none : (history : List Event) → Finds history [] []
finds_none history = tt

-- where no spot is left there is no letter
pub finds_empty : (history : List Event) (letters : List Letter) → Finds history [] letters → letters ≡ []
finds_empty history [] f = refl
finds_empty history (l ∷ letters) f = absurd f

-- as many spots as letters
pub finds_lengths : (history : List Event) (spots : List (ℕ × ℕ)) (letters : List Letter) → Finds history spots letters → length spots ≡ length letters
finds_lengths history [] [] f = refl
finds_lengths history [] (l ∷ letters) f = absurd f
finds_lengths history (p ∷ spots) [] f = absurd f
finds_lengths history (p ∷ spots) (l ∷ letters) f = ap suc (finds_lengths history spots letters f.1)

-- the first spot has the first letter, and the others have the rest
pub record Front (history : List Event) (spot : ℕ × ℕ) (spots : List (ℕ × ℕ)) (letters : List Letter) : Type 0 where
  pub letter : Letter
  pub rest : List Letter
  pub all : letters ≡ letter ∷ rest
  pub stands : StandsAt history spot letter
  pub finds : Finds history spots rest

pub finds_first : (history : List Event) (spot : ℕ × ℕ) (spots : List (ℕ × ℕ)) (letters : List Letter) → Finds history (spot ∷ spots) letters → Front history spot spots letters
finds_first history spot spots [] f = absurd f
finds_first history spot spots (l ∷ letters) f = record { letter = l; rest = letters; all = refl; stands = f.0; finds = f.1 }

-- without the first
pub finds_rest : (history : List Event) (spot : ℕ × ℕ) (spots : List (ℕ × ℕ)) (letter : Letter) (letters : List Letter) →
    Finds history (spot ∷ spots) (letter ∷ letters) → Finds history spots letters
finds_rest history spot spots letter letters f = f.1

-- one list after another
pub finds_more : (history : List Event) (spots more : List (ℕ × ℕ)) (letters others : List Letter) →
    Finds history spots letters → Finds history more others → Finds history (spots ++ more) (letters ++ others)
finds_more history [] more [] others f g = g
finds_more history [] more (l ∷ letters) others f g = absurd f
finds_more history (p ∷ spots) more [] others f g = absurd f
finds_more history (p ∷ spots) more (l ∷ letters) others f g = (f.0, finds_more history spots more letters others f.1 g)

-- without the first ones
pub finds_drop : (history : List Event) (k : ℕ) (spots : List (ℕ × ℕ)) (letters : List Letter) → Finds history spots letters → Finds history (drop k spots) (drop k letters)
finds_drop history zero [] [] f = f
finds_drop history zero [] (l ∷ letters) f = absurd f
finds_drop history zero (p ∷ spots) [] f = absurd f
finds_drop history zero (p ∷ spots) (l ∷ letters) f = f
finds_drop history (suc k) [] [] f = f
finds_drop history (suc k) [] (l ∷ letters) f = absurd f
finds_drop history (suc k) (p ∷ spots) [] f = absurd f
finds_drop history (suc k) (p ∷ spots) (l ∷ letters) f = finds_drop history k spots letters f.1

-- who looks a spot up finds its letter
pub found : (history : List Event) (spot : ℕ × ℕ) (letter : Letter) (e : Event) (s : Sending) → StandsAt history spot letter →
    slice_get history spot.0 ≡ Some e → slice_get e.done.letters spot.1 ≡ Some s → s.letter ≡ letter
found history spot letter e s at there among =
    let same : at.event ≡ e = some_same (sym at.there ∙ there) in
    let one : at.sending ≡ s = some_same (sym at.among ∙ ap (λ (f : Event). slice_get f.done.letters spot.1) same ∙ among) in
    ap (λ (x : Sending). x.letter) (sym one) ∙ at.is

-- spots stay as a history grows
pub stands_grown : (history more : List Event) (spot : ℕ × ℕ) (letter : Letter) → StandsAt history spot letter → StandsAt (history ++ more) spot letter
stands_grown history more spot letter s = record {
  event = s.event;
  sending = s.sending;
  there = slice_more history more spot.0 s.event s.there;
  among = s.among;
  is = s.is;
}

pub finds_grown : (history more : List Event) (spots : List (ℕ × ℕ)) (letters : List Letter) → Finds history spots letters → Finds (history ++ more) spots letters
finds_grown history more [] [] f = tt
finds_grown history more [] (l ∷ letters) f = absurd f
finds_grown history more (p ∷ spots) [] f = absurd f
finds_grown history more (p ∷ spots) (l ∷ letters) f = (stands_grown history more p l f.0, finds_grown history more spots letters f.1)

-- the letters of an event from number k on
finds_from : (history : List Event) (e : Event) (number m k : ℕ) (letters : List Sending) → slice_get history number ≡ Some e →
    ((i : ℕ) (s : Sending) → slice_get letters i ≡ Some s → slice_get e.done.letters (k + i) ≡ Some s) →
    Finds history (spots_to m number k letters) (letters_to m letters)
finds_from history e number m k [] there each = tt
finds_from history e number m k (l ∷ letters) there each =
    by_test (l.to == m) (finds_from history e number m (k + 1) letters there next)
  where
    next : (i : ℕ) (s : Sending) → slice_get letters i ≡ Some s → slice_get e.done.letters ((k + 1) + i) ≡ Some s
    next i s h =
        let same : k + suc i ≡ (k + 1) + i = omega arith in
        subst (λ (j : ℕ). slice_get e.done.letters j ≡ Some s) same (each (suc i) s h)

    here : slice_get e.done.letters k ≡ Some l
    here =
        let same : k + zero ≡ k = omega arith in
        subst (λ (j : ℕ). slice_get e.done.letters j ≡ Some l) same (each zero l refl)

    by_test : (b : Bool) → Finds history (spots_to m number (k + 1) letters) (letters_to m letters) →
        Finds history (cond b ((number, k) ∷ spots_to m number (k + 1) letters) (spots_to m number (k + 1) letters))
        (cond b (l.letter ∷ letters_to m letters) (letters_to m letters))
    by_test true rest = (record { event = e; sending = l; there = there; among = here; is = refl }, rest)
    by_test false rest = rest

-- those of a new event
pub finds_new : (past : List Event) (e : Event) (m : ℕ) →
    Finds (past ++ e ∷ []) (spots_to m (length past) 0 e.done.letters) (letters_to m e.done.letters)
finds_new past e m = finds_from (past ++ e ∷ []) e (length past) m 0 e.done.letters (slice_end past e []) each
  where
    each : (i : ℕ) (s : Sending) → slice_get e.done.letters i ≡ Some s → slice_get e.done.letters (0 + i) ≡ Some s
    each i s h =
        let same : i ≡ 0 + i = omega arith in
        subst (λ (j : ℕ). slice_get e.done.letters j ≡ Some s) same h

-- the spots of more letters
pub spots_append : (m number k : ℕ) (letters more : List Sending) →
    spots_to m number k (letters ++ more) ≡ spots_to m number k letters ++ spots_to m number (k + length letters) more
spots_append m number k [] more = (let same : k ≡ k + zero = omega arith in ap (λ (j : ℕ). spots_to m number j more) same)
spots_append m number k (l ∷ letters) more =
    let same : (k + 1) + length letters ≡ k + suc (length letters) = omega arith in
    by_test (l.to == m) (spots_append m number (k + 1) letters more ∙ ap (λ (j : ℕ). spots_to m number (k + 1) letters ++ spots_to m number j more) same)
  where
    by_test : (b : Bool) →
        spots_to m number (k + 1) (letters ++ more) ≡ spots_to m number (k + 1) letters ++ spots_to m number (k + suc (length letters)) more →
        cond {A = List (ℕ × ℕ)} b ((number, k) ∷ spots_to m number (k + 1) (letters ++ more)) (spots_to m number (k + 1) (letters ++ more))
        ≡ cond {A = List (ℕ × ℕ)} b ((number, k) ∷ spots_to m number (k + 1) letters) (spots_to m number (k + 1) letters)
        ++ spots_to m number (k + suc (length letters)) more
    by_test true h = (let here : ℕ × ℕ = (number, k) in ap (λ (spots : List (ℕ × ℕ)). here ∷ spots) h)
    by_test false h = h

-- a letter to the node has a spot more, and one to another has none
pub spots_one : (m number k : ℕ) (s : Sending) → s.to ≡ m → spots_to m number k (s ∷ []) ≡ (number, k) ∷ []
spots_one m number k s to = (let here : ℕ × ℕ = (number, k) in ap (λ (b : Bool). cond b (here ∷ []) []) (eqb_of to))

pub spots_no : (m number k : ℕ) (s : Sending) → s.to ≢ m → spots_to m number k (s ∷ []) ≡ []
spots_no m number k s apart = (let here : ℕ × ℕ = (number, k) in ap (λ (b : Bool). cond b (here ∷ []) []) (eqb_apart s.to m apart))
