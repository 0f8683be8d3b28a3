-- What an event leaves of what other nodes may try.
use Rattle.std.proofs.Common.{◌≡◌, ℕ, ◌+◌, refl, ap, sym, ◌∙◌, subst, Bool, false, cond, List, [], ◌∷◌, ◌++◌, length, Some, None, arith}
use Rattle.std.specs.Prelude.{◌==◌, ◌-◌, ◌<◌, slice_get, slice_set, get_or}
use Rattle.bmx_types.specs.Updates.{put}
use Rattle.bmx_protocol.specs.declared.events.Event.{Event}
use Rattle.bmx_protocol.specs.Nodes.{Setting}
use Rattle.bmx_protocol.specs.Steps.{Node}
use Rattle.bmx_protocol.specs.Histories.{Replays, AreAfter, waits_with}
use Rattle.bmx_protocol.specs.Runs.Programs.{program_in}
use Rattle.bmx_protocol.specs.Runs.Turns.{command_action}
use Rattle.std.proofs.lemmas.Option.{slice_get-get_or, slice_get_within}
use Rattle.bmx_protocol.proofs.Basics.{Two, Same, Apart, two, some_same}
use Rattle.bmx_protocol.proofs.Replayed.{replay_is_determined}
use Rattle.bmx_run.specs.declared.runner.Runner.{Runner}
use Rattle.bmx_run.specs.Inside.Steps.{nodes_in}
use Rattle.bmx_run.specs.Inside.Running.{Point, store_of, history_of, with_event, IsAt}
use Rattle.bmx_run.specs.Inside.Picking.{MayTry, AreTries, tries_by}
use Rattle.bmx_run.proofs.Listing.{got_same, got_other}
use Rattle.bmx_run.proofs.Sitting.{Leaves, leaves_apart}
use Rattle.bmx_run.proofs.Turned.{history_next, last_is}
use Rattle.std.proofs.lemmas.List.{length-append}

-- the nodes before the last event of a history, and that it leaves the others
record Before (st : Setting) (start : ℕ → Node) (past : List Event) (e : Event) (last : ℕ → Node) : Type 0 where
  mid : ℕ → Node
  before : Replays st start past mid
  others : (n : ℕ) → (e.node == n) ≡ false → last n ≡ mid n

before_last : (st : Setting) (past : List Event) (e : Event) (start last : ℕ → Node) → Replays st start (past ++ e ∷ []) last → Before st start past e last
before_last st [] e start last h = record {
  mid = start;
  before = refl;
  others = λ n apart. ap (λ (f : ℕ → Node). f n) (sym h.2) ∙ ap (λ (b : Bool). cond b h.0 (start n)) apart;
}
before_last st (f ∷ past) e start last h =
    let b : Before st (put start f.node h.0) past e last = before_last st past e (put start f.node h.0) last h.2 in
    record { mid = b.mid; before = (h.0, h.1, b.before); others = b.others }

-- a node that didn't step is as it was
node_stays : (p : Point) (e : Event) (old new : Runner) (n : ℕ) → IsAt p old → IsAt (with_event p e) new → (e.node == n) ≡ false →
    nodes_in (store_of p) new.nodes.items n ≡ nodes_in (store_of p) old.nodes.items n
node_stays p e old new n was is apart =
    let reached : AreAfter (store_of p) (history_of p ++ e ∷ []) (nodes_in (store_of p) new.nodes.items) =
    subst (λ (l : List Event). AreAfter (store_of p) l (nodes_in (store_of p) new.nodes.items)) (sym (history_next p e)) is.whole.leads.reached in
    let b = before_last (store_of p) (history_of p) e _ _ reached in
    b.others n apart
    ∙ ap (λ (f : ℕ → Node). f n) (replay_is_determined (store_of p) (history_of p) b.mid (nodes_in (store_of p) old.nodes.items) b.before was.whole.leads.reached)

-- nor does what it may try change
pub tries_stay : (p : Point) (e : Event) (old new : Runner) (n : ℕ) → IsAt p old → IsAt (with_event p e) new → (e.node == n) ≡ false →
    tries_by (with_event p e) new n ≡ tries_by p old n
tries_stay p e old new n was is apart =
    let l : Leaves n p.part (history_of p) e = leaves_apart n p.part (history_of p) e apart in
    let waits : waits_with n None (history_of (with_event p e)) ≡ waits_with n None (history_of p) =
    ap (waits_with n None) (sym (history_next p e)) ∙ l.waits in
    let node = node_stays p e old new n was is apart in
    λ j. command_action n (node j).state (waits j) (slice_get (program_in p.stage n) (length (l.completed j)))

-- so where it was known of all nodes which may try, only the node of the event is to be looked at again
pub go_on : (p : Point) (e : Event) (old new : Runner) (tries : List Bool) (b : Bool) → e.node < length tries → IsAt p old → AreTries p old tries → IsAt (with_event p e) new →
    MayTry (with_event p e) new e.node b → AreTries (with_event p e) new (slice_set tries e.node b)
go_on p e old new tries b short was are is told n below = at (two e.node n)
  where
    had : (x : Bool) × (slice_get tries n ≡ Some x) × MayTry p old n x
    had = are n below

    at : Two e.node n → (x : Bool) × (slice_get (slice_set tries e.node b) n ≡ Some x) × MayTry (with_event p e) new n x
    at (Same q) = subst (λ (k : ℕ). (x : Bool) × (slice_get (slice_set tries e.node b) k ≡ Some x) × MayTry (with_event p e) new k x) q (b, got_same tries e.node b short, told)
    at (Apart u q) = (had.0, got_other tries e.node n b q ∙ had.1, (had.2.0, had.2.1, tries_stay p e old new n was is u ∙ had.2.2))

-- what is known of one node
pub may_at : (p : Point) (r : Runner) (tries : List Bool) (n m : ℕ) → AreTries p r tries → n < (store_of p).nodes → m ≡ n → MayTry p r m (get_or tries n false)
may_at p r tries n m are below is =
    let t : (b : Bool) × (slice_get tries n ≡ Some b) × MayTry p r n b = are n below in
    let same : t.0 ≡ get_or tries n false = some_same (sym t.1 ∙ slice_get-get_or tries n false (slice_get_within tries n t.0 t.1)) in
    subst (λ (k : ℕ). MayTry p r k (get_or tries n false)) (sym is) (subst (MayTry p r n) same t.2)

-- where so many nodes were looked at, one more is
pub looked_more : (p : Point) (r : Runner) (tries : List Bool) (number : ℕ) (b : Bool) → number < length tries → MayTry p r number b →
    ((n : ℕ) → n < number → (x : Bool) × (slice_get tries n ≡ Some x) × MayTry p r n x) →
    (n : ℕ) → n < number + 1 → (x : Bool) × (slice_get (slice_set tries number b) n ≡ Some x) × MayTry p r n x
looked_more p r tries number b short told had n below = at (two number n)
  where
    at : Two number n → (x : Bool) × (slice_get (slice_set tries number b) n ≡ Some x) × MayTry p r n x
    at (Same q) = subst (λ (k : ℕ). (x : Bool) × (slice_get (slice_set tries number b) k ≡ Some x) × MayTry p r k x) q (b, got_same tries number b short, told)
    at (Apart u q) = (let h = had n (omega (arith, below, q)) in (h.0, got_other tries number n b q ∙ h.1, h.2))

-- ## the last event

-- it is the one that the runner made
pub last_event : (p : Point) (e : Event) (r : Runner) (x : Event) → IsAt (with_event p e) r → slice_get r.history.items (length r.history.items - 1) ≡ Some x → x ≡ e
last_event p e r x at there = last_is r.history.items (history_of p) e x (at.whole.history ∙ sym (history_next p e)) there

pub some_event : (p : Point) (e : Event) (r : Runner) → IsAt (with_event p e) r → 0 < length r.history.items
some_event p e r at =
    let long : length r.history.items ≡ length (history_of p ++ e ∷ []) = ap (λ (l : List Event). length l) (at.whole.history ∙ sym (history_next p e)) in
    omega (arith, long, length-append (history_of p) (e ∷ []))

-- and of one of its nodes
pub its_node : (p : Point) (e : Event) (r : Runner) → IsAt (with_event p e) r → e.node < length r.nodes.items
its_node p e r at =
    let below : e.node < (store_of p).nodes = (at.whole.leads.legal.fits (history_of p) [] e (history_next p e)).a_node in
    let each : length r.nodes.items ≡ (store_of p).nodes = at.whole.nodes.each in
    omega (arith, below, each)
