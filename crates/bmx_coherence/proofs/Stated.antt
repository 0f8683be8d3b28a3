-- What stands after every legal history, by induction over its events from the opening, and the laws as they are stated.
use Rattle.bmx_store_laws.proofs.Words.{◌≡◌, ℕ, refl, ap, sym, subst, ◌∙◌, Bool, true, false, cond, List, [], ◌∷◌, arith, length, inl, inr, ◌≤◌, ◌++◌, ◌-◌, slice_get_cases, option_map, option_map_or, ◌↔◌, Option, Some, None, is_some, ◌==◌, ◌&&◌, nat_lt, nat_tests}
use Rattle.bmx_store_laws.proofs.Words.{IsOpening, put, name_word, Command, Birth, Val, opening_state, empty_is_legal, replay_is_determined, AreAfter, IsLegal, Replays, Setting, Known, fields_known, first_known, birth_of, is_anchor, owned_birth}
use Rattle.bmx_store_laws.proofs.Words.{heard_birth, is_full, Reaction, refused, graph_rule, first_node, Node, command_in, rule, IsStep, finds_full, Event, Input, Do, along_history, step_answer, finds_birth}
use Rattle.bmx_store_laws.proofs.Words.command
use Rattle.bmx_store_laws.proofs.Words.refusal
use Rattle.bmx_store_laws.proofs.Words.answer
use Rattle.bmx_coherence.specs.Laws.{EveryHistoryIsAGraphRun, FullIsAtTheLimit, NodesHaveTheGraph, CopiesAreCurrent, TargetsStand, EachWaitsForItsWant, StuckNodesNameHolders}
use Rattle.bmx_coherence.proofs.Events.{Stands, one_more}
use Rattle.bmx_coherence.proofs.Following.{stuck_names_holders, targets_are_known, are_current, wants_waited_for}
use Rattle.bmx_coherence.proofs.Parts.{want_of, values_again, IsPart, nothing, held_of}

-- ## the opening

-- what a node knows at first, by whether it is node 0 and whether it was told
abbrev known_first : Option Birth → Bool → Bool → Option Known
known_first b first told = cond first (option_map owned_birth b) (cond told (option_map heard_birth b) None)

pub free_first : (b : Option Birth) (z t : Bool) → (held_of (known_first b z t) ≡ None) × (want_of (known_first b z t) ≡ None)
free_first b z t = grind arith

copy_first : (b : Option Birth) (z t : Bool) (fields : List Val) → fields_known (known_first b z t) ≡ Some fields → option_map (λ (c : Birth). c.fields) b ≡ Some fields
copy_first (Some b) true t fields h = ap Some (sym (values_again b.fields)) ∙ h
copy_first b z t fields h = grind arith

part_first : (st : Setting) (n : ℕ) → IsPart n (first_node st n).state (opening_state st.births) nothing
part_first st n = record {
  register = λ r. refl;
  known = λ x. record { held = grind arith; want = grind arith; fields = copy_first (birth_of st x) (n == 0) (nat_lt n st.nodes && is_anchor st x) };
  made = refl;
}

-- node 0 has counted as many names as there are births
born : (st : Setting) → IsOpening st.nodes st.limit st.births → (count : ℕ) → 1 ≤ count → count ≤ length st.births →
    is_some (birth_of st (name_word 0 count)) ≡ true
born st opening count one most = elim (slice_get_cases st.births (count - 1)).1 [
  | inl at ↦ finds_birth st.births (name_word 0 count) (count - 1) at.0 at.2 (omega (arith, opening.born.named (count - 1) at.0 at.2, one))
  | inr past ↦ absurd (omega (arith, past.0, one, most))
]

maker_first : (st : Setting) → IsOpening st.nodes st.limit st.births → (n count : ℕ) → 1 ≤ count → count ≤ cond (n == 0) (length st.births) 0 →
    is_some (first_known st n (name_word n count)) ≡ true
maker_first st opening n count one most = grind (arith, nat_tests, one, most, born st opening count)

first_stands : (st : Setting) → IsOpening st.nodes st.limit st.births → Stands st [] (first_node st)
first_stands st opening = record {
  now = record { opening = opening; legal = empty_is_legal st; after = refl };
  parts = part_first st;
  waits = λ n. tt;
  grants = λ n m l there. absurd (omega (arith, there.1));
  each = λ e there. absurd (omega (arith, there.1));
  run = tt;
  makers = maker_first st opening;
}

-- after every legal history
pub stands_after : (st : Setting) (history : List Event) (nodes : ℕ → Node) → IsOpening st.nodes st.limit st.births → IsLegal st history → AreAfter st history nodes → Stands st history nodes
stands_after st history nodes opening = along_history st (Stands st) (λ past nodes e n ev stands. one_more st opening past nodes e n ev stands) (first_stands st opening) history nodes

-- ## the laws

pub every_history_is_a_graph_run : EveryHistoryIsAGraphRun
every_history_is_a_graph_run st history opening legal =
    (let stands : Stands st history legal.steps.0 = stands_after st history legal.steps.0 opening legal legal.steps.1 in record { each = stands.each; run = stands.run })

pub nodes_have_the_graph : NodesHaveTheGraph
nodes_have_the_graph st history nodes opening legal after =
    let stands : Stands st history nodes = stands_after st history nodes opening legal after in
    record {
      registers = λ n r. (stands.parts n).register r;
      held = λ n x. ((stands.parts n).known x).held;
      made = λ n. (stands.parts n).made;
      copies = λ n x. ((stands.parts n).known x).fields;
      grants = λ n m l info fields there grants. stands.grants n m l there info fields grants;
    }

pub copies_are_current : CopiesAreCurrent
copies_are_current st history nodes opening legal after = are_current st history nodes (stands_after st history nodes opening legal after)

pub targets_stand : TargetsStand
targets_stand st history nodes opening legal after = targets_are_known st history nodes (stands_after st history nodes opening legal after)

pub each_waits_for_its_want : EachWaitsForItsWant
each_waits_for_its_want st history nodes opening legal after = wants_waited_for st history nodes (stands_after st history nodes opening legal after)

pub stuck_nodes_name_holders : StuckNodesNameHolders
stuck_nodes_name_holders st history nodes opening legal after = stuck_names_holders st history nodes (stands_after st history nodes opening legal after)

-- ## full

split_replay : (st : Setting) (past : List Event) (e : Event) (rest : List Event) (start last : ℕ → Node) → Replays st start (past ++ e ∷ rest) last →
    (mid : ℕ → Node) × Replays st start past mid × (n : Node) × IsStep st e.node (mid e.node) e.stamp e.input e.done n
split_replay st [] e rest start last h = (start, refl, h.0, h.1)
split_replay st (f ∷ past) e rest start last h = (let t = split_replay st past e rest (put start f.node h.0) last h.2 in (t.0, (h.0, h.1, t.1), t.2, t.3))

full_is : (limit_reached : Bool) (o : Reaction) → o.answer ≡ answer.Nil → ((cond limit_reached (refused refusal.Full) o).answer ≡ answer.Refused refusal.Full) ↔ (limit_reached ≡ true)
full_is b o nil = (λ full. grind arith, λ full. grind arith)

pub full_is_at_the_limit : FullIsAtTheLimit
full_is_at_the_limit st past rest e nodes register bunch size legal after is =
    let t = split_replay st past e rest (first_node st) legal.steps.0 legal.steps.1 in
    let step : IsStep st e.node (nodes e.node) e.stamp e.input e.done t.2 =
    subst (λ (f : ℕ → Node). IsStep st e.node (f e.node) e.stamp e.input e.done t.2) (replay_is_determined st past t.0 nodes t.1 after) t.3 in
    let new : Command = command.New register bunch size in
    let told : step.told.full ≡ is_full st.limit (nodes e.node).places bunch size = step.is_told.full ∙ ap (λ (i : Input). option_map_or (finds_full st (nodes e.node).places) (command_in i) false) is in
    let answered : e.done.answer ≡ (rule st e.node (nodes e.node).state step.told (Do new)).answer = step_answer step _ refl ∙ ap (λ (i : Input). (rule st e.node (nodes e.node).state step.told i).answer) is in
    let both = full_is step.told.full (graph_rule e.node (nodes e.node).state new) refl in
    (λ full. sym told ∙ both.0 (sym answered ∙ full), λ full. answered ∙ both.1 (told ∙ full))
