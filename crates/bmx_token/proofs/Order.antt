-- Readers and waiting nodes stay in rising order.
use Rattle.std.proofs.Common.{◌≡◌, ◌≢◌, ℕ, zero, suc, ◌+◌, ◌<◌, inl, inr, List, [], ◌∷◌, arith, add-one, cond, true, false, Bool}
use Rattle.std.specs.Prelude.{Option, Some, None, is_some, ◌==◌, ◌||◌, nat_lt, not, slice_index}
use Rattle.std.specs.List.Sorted.{IsStrictlyIncreasing}
use Rattle.std.specs.List.{list_any}
use Rattle.std.proofs.lemmas.Bool.{cases_lt}
use Rattle.std.proofs.lemmas.List.Kept.{IsStrictlyIncreasing-filter}
use Rattle.bmx_types.specs.declared.numbers.Mode.{Mode}
use Rattle.bmx_types.specs.declared.numbers.Mode.TheVariants.{Read, Write}
use Rattle.bmx_token.specs.declared.parts.Ask.{Ask}
use Rattle.bmx_token.specs.declared.parts.Role.{Role}
use Rattle.bmx_token.specs.declared.parts.Role.TheVariants.{Owner, Parent}
use Rattle.bmx_token.specs.declared.parts.Part.{Part}
use Rattle.bmx_token.specs.Nodes.{nodes_with, nodes_without}
use Rattle.bmx_token.specs.Tokens.{IsInOrder, take_wanted, want_read, want_write, acquire_by, release_by, is_write, revoke, serve_alone, serve_write, serve_head, serve_by, request_by, granted_by, inval_by, ack_by}
use Rattle.bmx_token.specs.Laws.{KeepsOrder}
use Rattle.bmx_token.proofs.NodeLists.{lt_true, lt_false, eq_true, eq_false}

-- the first number of a list is above another
abbrev Above : ℕ → List ℕ → Type 0
Above x [] = Unit {0}
Above x (y ∷ ys) = x < y

-- a list rises, by recursion
abbrev Rises : List ℕ → Type 0
Rises [] = Unit {0}
Rises (x ∷ xs) = Above x xs × Rises xs

to_increasing : (xs : List ℕ) → Rises xs → IsStrictlyIncreasing xs
to_increasing [] r k h = absurd (omega arith)
to_increasing (x ∷ []) r k h = absurd (omega arith)
to_increasing (x ∷ y ∷ ys) r zero h = r.0
to_increasing (x ∷ y ∷ ys) r (suc k) h =
    let rest : slice_index (y ∷ ys) k < slice_index (y ∷ ys) (k + 1) = to_increasing (y ∷ ys) r.1 k (omega arith) in
    let step : slice_index (y ∷ ys) k < slice_index (y ∷ ys) (suc k) = rw add-one at rest in
    rw add-one step

tail_increases : (x : ℕ) (xs : List ℕ) → IsStrictlyIncreasing (x ∷ xs) → IsStrictlyIncreasing xs
tail_increases x xs up k h =
    let step : slice_index (x ∷ xs) (suc k) < slice_index (x ∷ xs) (suc k + 1) = up (suc k) (omega arith) in
    let rest : slice_index xs k < slice_index xs (suc k) = rw add-one at step in
    rw add-one rest

first_increases : (x : ℕ) (xs : List ℕ) → IsStrictlyIncreasing (x ∷ xs) → Above x xs
first_increases x [] up = tt
first_increases x (y ∷ ys) up = up 0 (omega arith)

from_increasing : (xs : List ℕ) → IsStrictlyIncreasing xs → Rises xs
from_increasing [] up = tt
from_increasing (x ∷ xs) up = (first_increases x xs up, from_increasing xs (tail_increases x xs up))

-- a node goes to its place
above_more : (x node : ℕ) (xs : List ℕ) → x < node → Above x xs → Above x (nodes_with node xs)
above_more x node [] h a = h
above_more x node (y ∷ ys) h a =
    above_cond (node == y) (nat_lt node y) (y ∷ ys) (node ∷ y ∷ ys) (y ∷ nodes_with node ys) a h a
  where
    above_cond : (b c : Bool) (us vs ws : List ℕ) → Above x us → Above x vs → Above x ws → Above x (cond b us (cond c vs ws))
    above_cond b c us vs ws u v w =
        elim b as (λ b. Above x (cond b us (cond c vs ws))) [ true ↦ u | false ↦ elim c as (λ c. Above x (cond c vs ws)) [ true ↦ v | false ↦ w ] ]

with_rises : (node : ℕ) (xs : List ℕ) → Rises xs → Rises (nodes_with node xs)
with_rises node [] r = (tt, tt)
with_rises node (x ∷ xs) r =
    elim (cases_lt x node) [
      | inl below ↦ let apart : node ≢ x = λ e. absurd (omega arith) in
          rw (eq_false node x apart, lt_false node x (omega arith)) (above_more x node xs below r.0, with_rises node xs r.1)
      | inr here ↦ elim (cases_lt node x) [
        | inl above ↦ let apart : node ≢ x = λ e. absurd (omega arith) in
            rw (eq_false node x apart, lt_true node x above) (above, r)
        | inr there ↦ let same : node ≡ x = omega arith in rw (eq_true node x same) r
      ]
    ]

pub nodes_with-increases : (node : ℕ) (xs : List ℕ) → IsStrictlyIncreasing xs → IsStrictlyIncreasing (nodes_with node xs)
nodes_with-increases node xs up = to_increasing (nodes_with node xs) (with_rises node xs (from_increasing xs up))

pub nodes_without-increases : (node : ℕ) (xs : List ℕ) → IsStrictlyIncreasing xs → IsStrictlyIncreasing (nodes_without node xs)
nodes_without-increases node xs up = IsStrictlyIncreasing-filter (λ n. not (n == node)) xs up

nil_increases : IsStrictlyIncreasing []
nil_increases k h = absurd (omega arith)

-- one case of two
either : {A : Type 0} (b : Bool) (x y : Part × A) → IsInOrder x.0 → IsInOrder y.0 → IsInOrder (cond b x y).0
either b x y h i = elim b as (λ b. IsInOrder (cond b x y).0) [ true ↦ h | false ↦ i ]

order_take : (p : Part) (mode : Mode) (ready : Bool) → IsInOrder p → IsInOrder (take_wanted p mode ready).0
order_take p mode true h = record { readers_rise = h.readers_rise; waiting_rises = h.waiting_rises }
order_take p mode false h = h

order_want_read : (p : Part) (role : Role) (copy : Bool) → IsInOrder p → IsInOrder (want_read p role copy).0
order_want_read p Owner copy h = record { readers_rise = h.readers_rise; waiting_rises = h.waiting_rises }
order_want_read p (Parent parent) true h = record { readers_rise = h.readers_rise; waiting_rises = h.waiting_rises }
order_want_read p (Parent parent) false h = record { readers_rise = h.readers_rise; waiting_rises = h.waiting_rises }

order_want_write : (me : ℕ) (p : Part) (role : Role) (readers : List ℕ) → IsInOrder p → IsInOrder (want_write me p role readers).0
order_want_write me p Owner [] h = record { readers_rise = h.readers_rise; waiting_rises = h.waiting_rises }
order_want_write me p Owner (reader ∷ readers) h = record { readers_rise = h.readers_rise; waiting_rises = h.waiting_rises }
order_want_write me p (Parent parent) readers h = record { readers_rise = h.readers_rise; waiting_rises = h.waiting_rises }

order_acquire : (me : ℕ) (p : Part) (copy : Bool) (mode : Mode) (held want : Option Mode) → IsInOrder p → IsInOrder (acquire_by me p copy mode held want).0
order_acquire me p copy mode (Some held) want h = h
order_acquire me p copy Read None (Some Write) h = h
order_acquire me p copy Read None (Some Read) h = order_take p Read p.ready h
order_acquire me p copy Read None None h = order_want_read p p.role copy h
order_acquire me p copy Write None (Some Read) h = h
order_acquire me p copy Write None (Some Write) h = order_take p Write p.ready h
order_acquire me p copy Write None None h = order_want_write me p p.role p.readers h

order_release : (p : Part) (held : Option Mode) (due : Option ℕ) → IsInOrder p → IsInOrder (release_by p held due).0
order_release p None due h = h
order_release p (Some held) None h = record { readers_rise = h.readers_rise; waiting_rises = h.waiting_rises }
order_release p (Some held) (Some owner) h = record { readers_rise = h.readers_rise; waiting_rises = h.waiting_rises }

order_revoke : (p : Part) (waiting : List ℕ) → IsInOrder p → IsInOrder (revoke p waiting).0
order_revoke p [] h = record { readers_rise = h.readers_rise; waiting_rises = h.readers_rise }
order_revoke p (node ∷ waiting) h = h

order_serve_alone : (me : ℕ) (p : Part) (asker : ℕ) (rest : List Ask) → IsInOrder p → IsInOrder (serve_alone me p asker rest).0
order_serve_alone me p asker rest h =
    either (is_some p.held || p.ready) _ _ h
    (either (asker == me) _ _
    record { readers_rise = h.readers_rise; waiting_rises = h.waiting_rises }
    record { readers_rise = h.readers_rise; waiting_rises = h.waiting_rises })

order_serve_write : (me : ℕ) (p : Part) (asker : ℕ) (rest : List Ask) (readers : List ℕ) → IsInOrder p → IsInOrder (serve_write me p asker rest readers).0
order_serve_write me p asker rest [] h = order_serve_alone me p asker rest h
order_serve_write me p asker rest (reader ∷ readers) h = order_revoke p p.waiting h

order_serve_head : (me : ℕ) (p : Part) (asker : ℕ) (rest : List Ask) (mode : Mode) → IsInOrder p → IsInOrder (serve_head me p asker rest mode).0
order_serve_head me p asker rest Read h =
    either (is_write p.held || p.ready) _ _ h
    record { readers_rise = nodes_with-increases asker p.readers h.readers_rise; waiting_rises = h.waiting_rises }
order_serve_head me p asker rest Write h = order_serve_write me p asker rest p.readers h

order_serve : (me : ℕ) (p : Part) (role : Role) (queue : List Ask) → IsInOrder p → IsInOrder (serve_by me p role queue).0
order_serve me p (Parent parent) queue h = h
order_serve me p Owner [] h = h
order_serve me p Owner (head ∷ rest) h = order_serve_head me p head.asker rest head.mode h

order_request : (me : ℕ) (p : Part) (asker : ℕ) (mode : Mode) (role : Role) → IsInOrder p → IsInOrder (request_by me p asker mode role).0
order_request me p asker mode Owner h =
    either (asker == me) _ _ h record { readers_rise = h.readers_rise; waiting_rises = h.waiting_rises }
order_request me p asker mode (Parent parent) h = h

order_granted : (p : Part) (from : ℕ) (mode : Mode) (role : Role) (want : Option Mode) (ready : Bool) → IsInOrder p → IsInOrder (granted_by p from mode role want ready).0
order_granted p from Read (Parent parent) (Some Read) false h = record { readers_rise = h.readers_rise; waiting_rises = h.waiting_rises }
order_granted p from Write (Parent parent) (Some Write) false h = record { readers_rise = nil_increases; waiting_rises = nil_increases }
order_granted p from mode role want ready h = h

order_inval : (p : Part) (from : ℕ) (role : Role) (due : Option ℕ) (copy : Bool) → IsInOrder p → IsInOrder (inval_by p from role due copy).0
order_inval p from Owner due copy h = h
order_inval p from (Parent parent) (Some owner) copy h = h
order_inval p from (Parent parent) None false h = h
order_inval p from (Parent parent) None true h =
    either (is_some p.held || p.ready) _ _ record { readers_rise = h.readers_rise; waiting_rises = h.waiting_rises } h

order_ack : (p : Part) (from : ℕ) (role : Role) → IsInOrder p → IsInOrder (ack_by p from role).0
order_ack p from Owner h =
    either (list_any (λ node. node == from) p.waiting) _ _
    record { readers_rise = nodes_without-increases from p.readers h.readers_rise; waiting_rises = nodes_without-increases from p.waiting h.waiting_rises }
    h
order_ack p from (Parent parent) h = h

pub keeps_order : KeepsOrder
keeps_order = record {
  of_owner = record { readers_rise = nil_increases; waiting_rises = nil_increases };
  of_child = λ parent. record { readers_rise = nil_increases; waiting_rises = nil_increases };
  by_acquire = λ me p mode copy h. order_acquire me p copy mode p.held p.want h;
  by_release = λ p h. order_release p p.held p.due h;
  by_serve = λ me p h. order_serve me p p.role p.queue h;
  by_request = λ me p asker mode h. order_request me p asker mode p.role h;
  by_granted = λ p from mode h. order_granted p from mode p.role p.want p.ready h;
  by_inval = λ p from copy h. order_inval p from p.role p.due copy h;
  by_ack = λ p from h. order_ack p from p.role h;
}
