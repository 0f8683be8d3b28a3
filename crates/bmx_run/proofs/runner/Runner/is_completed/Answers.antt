use Rattle.std.proofs.Common.{◌≡◌, ℕ, ◌<◌, Bool, true, false, refl, sym, ◌∙◌, subst, arith, rules, tests, List, length, get_or, Some, None, IsTrue, MatchBool}
use Rattle.std.specs.Prelude.{slice_get, HoldsAt}
use Rattle.std.specs.List.{AllWithin}
use Rattle.std.proofs.lemmas.Bool.{false≢true}
use Rattle.std.proofs.lemmas.Option.{slice_get-get_or, slice_get_within}
use Rattle.std.proofs.lemmas.Iterator.{cases_from_all, YieldsList-from_slice}
use Rattle.bmx_run.specs.declared.seats.Seat.{Seat}
use Rattle.bmx_run.proofs.Phasing.{there_at, NoneNext, completed_where_none, none_where_completed}
use Rattle.bmx_run.proofs.runner.Runner.is_completed.Goals as goal

-- a seat has no next command
abbrev Rests : Seat → Type 0
Rests s = slice_get s.orders.items s.completed ≡ None

abbrev Goes : Seat → Type 0
Goes s = Rests s → ⊥

all_rest : (seats : List Seat) → AllWithin Rests seats 0 (length seats) → NoneNext seats
all_rest seats all n s got =
    let within : n < length seats = slice_get_within seats n s got in
    let is : Some (get_or seats n s) ≡ Some s = sym (slice_get-get_or seats n s within) ∙ got in
    let same : get_or seats n s ≡ s = cc in
    subst Rests same (all n s (omega arith) within)

one_goes : (seats : List Seat) → (k : ℕ) × (k < length seats) × HoldsAt Goes seats k → NoneNext seats → ⊥
one_goes seats (k, within, goes) none =
    let s : (x : Seat) × (slice_get seats k ≡ Some x) = there_at seats k within in
    goes s.0 (none k (get_or seats k s.0) (slice_get-get_or seats k s.0 within))

by_answer : (r : Bool) (seats : List Seat) → MatchBool r (AllWithin Rests seats 0 (length seats)) ((k : ℕ) × (k < length seats) × HoldsAt Goes seats k) →
    (IsTrue r → NoneNext seats) × (NoneNext seats → IsTrue r)
by_answer true seats h = (λ _. all_rest seats h, λ _. refl)
by_answer false seats h = (λ e. absurd (false≢true e), λ none. absurd (one_goes seats h none))

pub returns : goal.returns
returns c =
    let seats = c.args.self.now.seats.items in
    let found = cases_from_all _ _ _ Rests Goes c.all.ensures.ran (YieldsList-from_slice seats (c.iter.ensures.rest ∙ c.deref.ensures.value)) (λ x q k. search (rules, tests)) (λ x q k. search (rules, tests)) in
    let told = by_answer c.all.result seats found in
    λ p at. (λ yes. completed_where_none p c.args.self.now at (told.0 yes), λ all. told.1 (none_where_completed p c.args.self.now at all))
