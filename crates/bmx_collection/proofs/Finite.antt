-- After each legal history each node knows finitely many names; so its collector has a step by each input.
use Rattle.std.proofs.Common.{◌≡◌, ℕ, ◌+◌, ◌^◌, ◌<◌, ◌≤◌, ◌==◌, ◌&&◌, nat_lt, Bool, true, false, cond, List, [], ◌∷◌, filter, refl, sym, subst, arith}
use Rattle.std.proofs.lemmas.Bool.Decides.{nat_tests}
use Rattle.bmx_types.specs.Updates.{put}
use Rattle.bmx_types.specs.declared.openings.Birth.{Birth}
use Rattle.bmx_types.specs.declared.commands.Refusal.TheVariants as refusal
use Rattle.bmx_protocol.specs.Nodes.{Setting, NodeState}
use Rattle.bmx_protocol.specs.Changes.{Change, Sets, Makes, Knows, Hears, Gives, Gets, Issues, Takes}
use Rattle.bmx_protocol.specs.Steps.{rule, changes_of}
use Rattle.bmx_collection.specs.ToSpaces.{is_too_large}
use Rattle.bmx_collection.specs.Tables.{is_stray_table}
use Rattle.bmx_collection.specs.Steps.{LinkedNode, first_linked, CollectorInput, Collect, Sweep, MakeTable, TakeTable, CollectorTold, CollectorReaction, Refused, Stray, unchanged, collector_rule, CollectorDone, outcome_of, counted, IsCollectorTold, IsCollectorStep}
use Rattle.bmx_collection.specs.Histories.{Deed, Plain, Collector, LinkedEvent, IsDeed, ReplaysLinked}
use Rattle.bmx_collection.specs.Finding.{found, told_nothing, is_dropped, first_words}
use Rattle.bmx_collection.specs.Laws.{IsRecordBelow, IsWithin, CollectorsCanStep}
use Rattle.bmx_collection.proofs.Listing.{both}
use Rattle.bmx_collection.proofs.Within.{births_below, first_within, change_below, changes_below, changes_within, step_within, forgotten_within, cleaned_within}
use Rattle.bmx_collection.proofs.Passing.{none_has}
use Rattle.bmx_collection.proofs.Found.{found_is_told, dropped_found}
use Rattle.bmx_collection.proofs.Few.{Few, always_few}

-- ## bounds

less_more : (a n m : ℕ) → n ≤ m → nat_lt a n ≡ true → nat_lt a m ≡ true
less_more a n m more e = grind (arith, nat_tests)

less_next : (a m : ℕ) → nat_lt a (a + 1 + m) ≡ true
less_next a m = grind (arith, nat_tests)

less_behind : (a b : ℕ) → nat_lt b (a + 1 + b) ≡ true
less_behind a b = grind (arith, nat_tests)

pass : (a b : Bool) → a ≡ true → b ≡ true → (a && b) ≡ true
pass true true e f = refl
pass true false e f = f
pass false b e f = e

within_more : (n m : ℕ) (s : NodeState) → n ≤ m → IsWithin n s → IsWithin m s
within_more n m s more w = record {
  names = λ name k e. (let less : name < n = w.names name k e in omega (arith, less, more));
  records = λ name node r e. (let is : IsRecordBelow n name node r = w.records name node r e in record {
    of_name = is.of_name;
    of_node = is.of_node;
    name_below = (let less : name < n = is.name_below in omega (arith, less, more));
    node_below = (let less : node < n = is.node_below in omega (arith, less, more));
  });
}

change_more : (n m : ℕ) (c : Change) → n ≤ m → change_below n c ≡ true → change_below m c ≡ true
change_more n m (Sets register v) more e = refl
change_more n m Makes more e = refl
change_more n m (Knows name k) more e = less_more name n m more e
change_more n m (Hears from info) more e = less_more info.name n m more e
change_more n m (Gives name to seq) more e =
    let it : (nat_lt name n ≡ true) × (nat_lt to n ≡ true) = both (nat_lt name n) (nat_lt to n) e in
    pass (nat_lt name m) (nat_lt to m) (less_more name n m more it.0) (less_more to n m more it.1)
change_more n m (Gets name from seq) more e =
    let it : (nat_lt name n ≡ true) × (nat_lt from n ≡ true) = both (nat_lt name n) (nat_lt from n) e in
    pass (nat_lt name m) (nat_lt from m) (less_more name n m more it.0) (less_more from n m more it.1)
change_more n m (Issues to) more e = refl
change_more n m (Takes from) more e = refl

changes_more : (n m : ℕ) (cs : List Change) → n ≤ m → changes_below n cs ≡ true → changes_below m cs ≡ true
changes_more n m [] more e = refl
changes_more n m (c ∷ cs) more e =
    let it : (change_below n c ≡ true) × (changes_below n cs ≡ true) = both (change_below n c) (changes_below n cs) e in
    pass (change_below m c) (changes_below m cs) (change_more n m c more it.0) (changes_more n m cs more it.1)

change_bound : (c : Change) → (n : ℕ) × (change_below n c ≡ true)
change_bound (Sets register v) = (0, refl)
change_bound Makes = (0, refl)
change_bound (Knows name k) = (name + 1 + 0, less_next name 0)
change_bound (Hears from info) = (info.name + 1 + 0, less_next info.name 0)
change_bound (Gives name to seq) = (name + 1 + to, pass (nat_lt name (name + 1 + to)) (nat_lt to (name + 1 + to)) (less_next name to) (less_behind name to))
change_bound (Gets name from seq) = (name + 1 + from, pass (nat_lt name (name + 1 + from)) (nat_lt from (name + 1 + from)) (less_next name from) (less_behind name from))
change_bound (Issues to) = (0, refl)
change_bound (Takes from) = (0, refl)

changes_bound : (cs : List Change) → (n : ℕ) × (changes_below n cs ≡ true)
changes_bound [] = (0, refl)
changes_bound (c ∷ cs) =
    let one : (n : ℕ) × (change_below n c ≡ true) = change_bound c in
    let rest : (n : ℕ) × (changes_below n cs ≡ true) = changes_bound cs in (
      one.0 + rest.0,
      pass (change_below (one.0 + rest.0) c) (changes_below (one.0 + rest.0) cs)
          (change_more one.0 (one.0 + rest.0) c (omega arith) one.1) (changes_more rest.0 (one.0 + rest.0) cs (omega arith) rest.1),
    )

births_more : (n m : ℕ) (bs : List Birth) → n ≤ m → births_below n bs ≡ true → births_below m bs ≡ true
births_more n m [] more e = refl
births_more n m (b ∷ bs) more e =
    let it : (nat_lt b.name n ≡ true) × (births_below n bs ≡ true) = both (nat_lt b.name n) (births_below n bs) e in
    pass (nat_lt b.name m) (births_below m bs) (less_more b.name n m more it.0) (births_more n m bs more it.1)

births_bound : (bs : List Birth) → (n : ℕ) × (births_below n bs ≡ true)
births_bound [] = (0, refl)
births_bound (b ∷ bs) =
    let rest : (n : ℕ) × (births_below n bs ≡ true) = births_bound bs in
    (b.name + 1 + rest.0, pass (nat_lt b.name (b.name + 1 + rest.0)) (births_below (b.name + 1 + rest.0) bs) (less_next b.name rest.0) (births_more rest.0 (b.name + 1 + rest.0) bs (omega arith) rest.1))

-- ## a step

abbrev pub Finite : NodeState → Type 0
Finite s = (n : ℕ) × IsWithin n s

either_finite : (b : Bool) (r q : CollectorReaction) → Finite r.node.state → Finite q.node.state → Finite (cond b r q).node.state
either_finite true r q x y = x
either_finite false r q x y = y

rule_finite : (st : Setting) (me stamp : ℕ) (n : LinkedNode) (t : CollectorTold) (i : CollectorInput) → Finite n.state → Finite (collector_rule st me n t stamp i).node.state
rule_finite st me stamp n t (Collect bunch) k =
    either_finite (is_too_large st.limit n.state n.places t.owned) (unchanged n (Refused refusal.Full)) _ k (k.0, forgotten_within k.0 bunch t.kept n.state k.1)
rule_finite st me stamp n t Sweep k = k
rule_finite st me stamp n t (MakeTable bunch to) k = k
rule_finite st me stamp n t (TakeTable table) k =
    either_finite (is_stray_table st me table) (unchanged n Stray) _ k (k.0, cleaned_within k.0 table n.state k.1)

deed_finite : (st : Setting) (me stamp : ℕ) (n m : LinkedNode) (d : Deed) → IsDeed st me n stamp d m → Finite n.state → Finite m.state
deed_finite st me stamp n m (Plain i d) step k =
    let cs : List Change = changes_of stamp n.state (rule st me n.state step.step.told i) in
    let more : (b : ℕ) × (changes_below b cs ≡ true) = changes_bound cs in (
      k.0 + more.0,
      subst (IsWithin (k.0 + more.0)) (sym step.step.state)
          (step_within (k.0 + more.0) _ (changes_within (k.0 + more.0) cs n.state (changes_more more.0 (k.0 + more.0) cs (omega arith) more.1) (within_more k.0 (k.0 + more.0) n.state (omega arith) k.1))),
    )
deed_finite st me stamp n m (Collector i d) step k =
    let after : Finite (collector_rule st me n step.told stamp i).node.state = rule_finite st me stamp n step.told i k in
    (after.0, subst (λ (x : LinkedNode). IsWithin after.0 x.state) (sym step.node) (step_within after.0 _ after.1))

-- ## a history

abbrev EachFinite : (ℕ → LinkedNode) → Type 0
EachFinite nodes = (k : ℕ) → Finite (nodes k).state

finite_either : (b : Bool) (n m : LinkedNode) → Finite n.state → Finite m.state → Finite (cond b n m).state
finite_either true n m x y = x
finite_either false n m x y = y

replay_finite : (st : Setting) (events : List LinkedEvent) (nodes last : ℕ → LinkedNode) → EachFinite nodes → ReplaysLinked st nodes events last → EachFinite last
replay_finite st [] nodes last all r = subst EachFinite r all
replay_finite st (e ∷ events) nodes last all r =
    replay_finite st events (put nodes e.node r.0) last
    (λ k. finite_either (e.node == k) r.0 (nodes k) (deed_finite st e.node e.stamp (nodes e.node) r.0 e.deed r.1 (all e.node)) (all k)) r.2

first_finite : (st : Setting) → EachFinite (first_linked st)
first_finite st k =
    let births : (n : ℕ) × (births_below n st.births ≡ true) = births_bound st.births in
    (births.0 + st.nodes, first_within (births.0 + st.nodes) st k (births_more births.0 (births.0 + st.nodes) st.births (omega arith) births.1) (omega arith))

pub always_finite : (st : Setting) (history : List LinkedEvent) (nodes : ℕ → LinkedNode) → ReplaysLinked st (first_linked st) history nodes → (n : ℕ) → Finite (nodes n).state
always_finite st history nodes r n = replay_finite st history (first_linked st) nodes (first_finite st) r n

-- a sweep is told the segments of so many homes
sweep_told : (me : ℕ) (n : LinkedNode) → Few n.places → (t : CollectorTold) × IsCollectorTold me n Sweep t
sweep_told me n k = (
  record told_nothing { dropped = filter (is_dropped k.0 me n.places) (first_words k.0 (2 ^ 24)) },
  record {
    kept = none_has;
    owned = none_has;
    gone = none_has;
    children = none_has;
    records = refl;
    dropped = dropped_found k.0 (2 ^ 24) me n.places (omega arith) k.1.bunches (λ home segment less e. (k.1.homes home segment e, less));
  },
)

told_of : (me : ℕ) (n : LinkedNode) (i : CollectorInput) → Finite n.state → Few n.places → (t : CollectorTold) × IsCollectorTold me n i t
told_of me n (Collect bunch) k f = (found k.0 me n (Collect bunch), found_is_told.collections k.0 me bunch n k.1)
told_of me n Sweep k f = sweep_told me n f
told_of me n (MakeTable bunch to) k f = (found k.0 me n (MakeTable bunch to), found_is_told.tables k.0 me bunch to n k.1)
told_of me n (TakeTable table) k f = (found k.0 me n (TakeTable table), found_is_told.takings k.0 me table n k.1)

a_step : (st : Setting) (me stamp : ℕ) (n : LinkedNode) (i : CollectorInput) → (t : CollectorTold) × IsCollectorTold me n i t → (d : CollectorDone) × (m : LinkedNode) × IsCollectorStep st me n stamp i d m
a_step st me stamp n i t =
    let r : CollectorReaction = collector_rule st me n t.0 stamp i in
    (outcome_of r, counted r.node, record { told = t.0; is_told = t.1; outcome = refl; node = refl })

pub collectors_can_step : CollectorsCanStep
collectors_can_step = record {
  names = λ st history nodes legal r n. always_finite st history nodes r n;
  places = λ st history nodes legal r n. always_few st history nodes r n;
  steps = λ st history nodes legal r me stamp i.
      a_step st me stamp (nodes me) i (told_of me (nodes me) i (always_finite st history nodes r me) (always_few st history nodes r me));
}
