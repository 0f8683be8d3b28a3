-- A history without collectors is legal exactly where its events are by the rules without them.
use Rattle.std.proofs.Common.{◌≡◌, ℕ, zero, suc, ◌+◌, ◌^◌, ◌<◌, ◌≤◌, ◌==◌, Bool, true, false, cond, List, [], ◌∷◌, ◌++◌, length, Contains, refl, ap, sym, ◌∙◌, subst, arith}
use Rattle.std.specs.Prelude.{map, None}
use Rattle.std.specs.List.{fold}
use Rattle.std.proofs.lemmas.List.{map-append, length-map}
use Rattle.bmx_types.specs.Updates.{put}
use Rattle.bmx_protocol.specs.declared.events.Event.{Event}
use Rattle.bmx_protocol.specs.Nodes.{Setting}
use Rattle.bmx_protocol.specs.Steps.{Node}
use Rattle.bmx_protocol.specs.Histories.{IsNext, IsAgain, waits_with, Fits, Replays, IsLegal}
use Rattle.bmx_collection.specs.Links.{links_after}
use Rattle.bmx_collection.specs.Steps.{LinkedNode, unlinked, first_linked, IsLinkedStep}
use Rattle.bmx_collection.specs.Histories.{Deed, Plain, Collector, LinkedEvent, plainly, plain_events, FitsLinked, ReplaysLinked, IsLegalLinked, IsWithoutCollector}
use Rattle.bmx_collection.specs.Laws.{WithoutCollectorsAlike}

-- ## events

events_of : (h : List Event) → plain_events (map plainly h) ≡ h
events_of [] = refl
events_of (e ∷ h) = ap (λ (l : List Event). e ∷ l) (events_of h)

-- there are at most as many events without a collector
fewer : (h : List LinkedEvent) → length (plain_events h) ≤ length h
fewer [] = omega arith
fewer (e ∷ h) = by e.node e.stamp e.deed (fewer h)
  where
    by : (node stamp : ℕ) (d : Deed) → length (plain_events h) ≤ length h → length (plain_events (record { node = node; stamp = stamp; deed = d } ∷ h)) ≤ length (record { node = node; stamp = stamp; deed = d } ∷ h)
    by node stamp (Plain i d) rest = omega (arith, rest)
    by node stamp (Collector i d) rest = omega (arith, rest)

-- a history without collectors has events without them alone
all_plain : (h : List LinkedEvent) → IsWithoutCollector h → map plainly (plain_events h) ≡ h
all_plain [] n = refl
all_plain (e ∷ h) n = by e.node e.stamp e.deed (all_plain h) n
  where
    by : (node stamp : ℕ) (d : Deed) → (IsWithoutCollector h → map plainly (plain_events h) ≡ h) →
        IsWithoutCollector (record { node = node; stamp = stamp; deed = d } ∷ h) →
        map plainly (plain_events (record { node = node; stamp = stamp; deed = d } ∷ h)) ≡ record { node = node; stamp = stamp; deed = d } ∷ h
    by node stamp (Plain i d) later n =
        (let m : length (plain_events h) ≡ length h = omega (arith, n) in
        ap (λ (l : List LinkedEvent). record { node = node; stamp = stamp; deed = Plain i d } ∷ l) (later m))
    by node stamp (Collector i d) later n = (let m : length (plain_events h) ≤ length h = fewer h in absurd (omega (arith, n, m)))

-- ## what fits

count_alike : (n a : ℕ) (past : List Event) →
    fold (λ c (f : LinkedEvent). c + cond (f.node == n) 1 0) a (map plainly past) ≡ fold (λ c (f : Event). c + cond (f.node == n) 1 0) a past
count_alike n a [] = refl
count_alike n a (e ∷ past) = count_alike n (a + cond (e.node == n) 1 0) past

map_in : (past : List Event) (g : Event) → Contains past g → Contains (map plainly past) (plainly g)
map_in [] g (k, lt, is) = absurd (omega (arith, lt))
map_in (e ∷ past) g (zero, lt, is) = (0, omega arith, ap plainly is)
map_in (e ∷ past) g (suc k, lt, is) =
    let it : Contains (map plainly past) (plainly g) = map_in past g (k, omega (arith, lt), is) in
    (let less : it.0 < length (map plainly past) = it.1 in (suc it.0, omega (arith, less), it.2))

in_map : (past : List Event) (f : LinkedEvent) → Contains (map plainly past) f → (g : Event) × Contains past g × (plainly g ≡ f)
in_map [] f (k, lt, is) = absurd (omega (arith, lt))
in_map (e ∷ past) f (zero, lt, is) = (e, (0, omega arith, refl), is)
in_map (e ∷ past) f (suc k, lt, is) =
    let it : (g : Event) × Contains past g × (plainly g ≡ f) = in_map past f (k, omega (arith, lt), is) in
    let there : Contains past it.0 = it.1 in
    (let less : there.0 < length past = there.1 in (it.0, (suc there.0, omega (arith, less), there.2), it.2))

fits_plainly : (st : Setting) (past : List Event) (e : Event) → FitsLinked st (map plainly past) (plainly e) → Fits st past e
fits_plainly st past e f = record {
  a_node = f.a_node;
  an_input = f.deed.an_input;
  few = subst (λ (c : ℕ). c + 1 < 2 ^ 55) (count_alike e.node 0 past) f.few;
  rising = λ g there same. f.rising (plainly g) (map_in past g there) same;
  later = f.deed.later;
  early = subst (λ (c : ℕ). e.stamp ≤ c + 1) (length-map past plainly) f.early;
  next = subst (λ (l : List Event). IsNext l e.node e.input) (events_of past) f.deed.next;
  again = subst (λ (l : List Event). IsAgain (waits_with e.node None l) e.input) (events_of past) f.deed.again;
}

fits_linked : (st : Setting) (past : List Event) (e : Event) → Fits st past e → FitsLinked st (map plainly past) (plainly e)
fits_linked st past e f = record {
  a_node = f.a_node;
  few = subst (λ (c : ℕ). c + 1 < 2 ^ 55) (sym (count_alike e.node 0 past)) f.few;
  rising = λ g there same.
      let it : (x : Event) × Contains past x × (plainly x ≡ g) = in_map past g there in
      subst (λ (y : LinkedEvent). y.stamp < e.stamp) it.2 (f.rising it.0 it.1 (ap (λ (y : LinkedEvent). y.node) it.2 ∙ same));
  early = subst (λ (c : ℕ). e.stamp ≤ c + 1) (sym (length-map past plainly)) f.early;
  deed = record {
    an_input = f.an_input;
    later = f.later;
    next = subst (λ (l : List Event). IsNext l e.node e.input) (sym (events_of past)) f.next;
    again = subst (λ (l : List Event). IsAgain (waits_with e.node None l) e.input) (sym (events_of past)) f.again;
  };
}

-- ## parts of a history

-- a history is cut at an event
record Cut (h : List Event) (p : List LinkedEvent) (x : LinkedEvent) : Type 0 where
  past : List Event
  event : Event
  rest : List Event
  whole : past ++ event ∷ rest ≡ h
  before : map plainly past ≡ p
  at : plainly event ≡ x

cut : (h : List Event) (p r : List LinkedEvent) (x : LinkedEvent) → p ++ x ∷ r ≡ map plainly h → Cut h p x
cut [] [] r x e = cc
cut [] (y ∷ p) r x e = cc
cut (f ∷ h) [] r x e = (let same : plainly f ≡ x = cc in record { past = []; event = f; rest = h; whole = refl; before = refl; at = same })
cut (f ∷ h) (y ∷ p) r x e =
    let tails : p ++ x ∷ r ≡ map plainly h = cc in
    let heads : plainly f ≡ y = cc in
    let c : Cut h p x = cut h p r x tails in
    record {
      past = f ∷ c.past;
      event = c.event;
      rest = c.rest;
      whole = ap (λ (l : List Event). f ∷ l) {x = c.past ++ c.event ∷ c.rest} c.whole;
      before = λ j. heads j ∷ c.before j;
      at = c.at;
    }

-- ## replay

abbrev bare : (ℕ → LinkedNode) → ℕ → Node
bare nodes n = unlinked (nodes n)

bare_put : (nodes : ℕ → LinkedNode) (me : ℕ) (v : LinkedNode) → bare (put nodes me v) ≡ put (bare nodes) me (unlinked v)
bare_put nodes me v = λ j n. by (me == n) n j
  where
    by : (b : Bool) (n : ℕ) → unlinked (cond b v (nodes n)) ≡ cond b (unlinked v) (unlinked (nodes n))
    by true n = refl
    by false n = refl

replays_plainly : (st : Setting) (start last : ℕ → LinkedNode) (h : List Event) → ReplaysLinked st start (map plainly h) last → Replays st (bare start) h (bare last)
replays_plainly st start last [] r = ap bare r
replays_plainly st start last (e ∷ h) r =
    let rest : Replays st (bare (put start e.node r.0)) h (bare last) = replays_plainly st (put start e.node r.0) last h r.2 in
    (unlinked r.0, r.1.step, subst (λ (f : ℕ → Node). Replays st f h (bare last)) (bare_put start e.node r.0) rest)

-- the nodes of a replay without links, with them
record WithLinks (st : Setting) (start : ℕ → LinkedNode) (h : List Event) : Type 0 where
  last : ℕ → LinkedNode
  replays : ReplaysLinked st start (map plainly h) last

replays_linked : (st : Setting) (start : ℕ → LinkedNode) (h : List Event) (last : ℕ → Node) → Replays st (bare start) h last → WithLinks st start h
replays_linked st start [] last r = record { last = start; replays = refl }
replays_linked st start (e ∷ h) last r =
    let n : Node = r.0 in
    let m : LinkedNode = record { state = n.state; links = links_after e.node (start e.node).state (start e.node).links e.input e.done.answer; places = n.places } in
    let step : IsLinkedStep st e.node (start e.node) e.stamp e.input e.done m = record { step = r.1; links = refl } in
    let rest : WithLinks st (put start e.node m) h =
    replays_linked st (put start e.node m) h last (subst (λ (f : ℕ → Node). Replays st f h last) (sym (bare_put start e.node m)) r.2) in
    record { last = rest.last; replays = (m, step, rest.replays) }

-- ## the law

legal_plainly : (st : Setting) (h : List Event) → IsLegalLinked st (map plainly h) → IsLegal st h
legal_plainly st h legal = record {
  fits = λ past rest e whole. fits_plainly st past e
      (legal.fits (map plainly past) (map plainly rest) (plainly e) (sym (map-append plainly past (e ∷ rest)) ∙ ap (map plainly) whole));
  steps = (bare legal.steps.0, replays_plainly st (first_linked st) legal.steps.0 h legal.steps.1);
}

legal_linked : (st : Setting) (h : List Event) → IsLegal st h → IsLegalLinked st (map plainly h)
legal_linked st h legal = record {
  fits = λ p r x whole.
      let c : Cut h p x = cut h p r x whole in
      subst (λ (q : List LinkedEvent). FitsLinked st q x) c.before (subst (λ (y : LinkedEvent). FitsLinked st (map plainly c.past) y) c.at
      (fits_linked st c.past c.event (legal.fits c.past c.rest c.event c.whole)));
  steps = (let it : WithLinks st (first_linked st) h = replays_linked st (first_linked st) h legal.steps.0 legal.steps.1 in (it.last, it.replays));
}

pub without_collectors_alike : WithoutCollectorsAlike
without_collectors_alike = record {
  legal = λ st history without. (
    λ legal. legal_plainly st (plain_events history) (subst (IsLegalLinked st) (sym (all_plain history without)) legal),
    λ legal. subst (IsLegalLinked st) (all_plain history without) (legal_linked st (plain_events history) legal),
  );
  nodes = λ st history last without replays.
      replays_plainly st (first_linked st) last (plain_events history)
      (subst (λ (l : List LinkedEvent). ReplaysLinked st (first_linked st) l last) (sym (all_plain history without)) replays);
  each = λ history. (ap length (events_of history) ∙ sym (length-map history plainly), events_of history);
}
