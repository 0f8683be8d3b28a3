-- States that differ only outside the registers and the nodes of the store have one outcome, and its changes
-- keep them so.
use Rattle.std.proofs.Common.{◌≡◌, ℕ, ◌<◌, ◌==◌, refl, ap, sym, ◌∙◌, subst, Bool, true, false, cond, List, [], ◌∷◌}
use Rattle.std.specs.Prelude.{◌+◌, ◌||◌, not, nat_le, ℤ, Option, Some, None}
use Rattle.std.specs.Option.{option_map}
use Rattle.std.proofs.lemmas.Bool.{eqb-true}
use Rattle.bmx_types.specs.declared.values.Val.{Val}
use Rattle.bmx_types.specs.declared.values.Val.TheVariants as val
use Rattle.bmx_types.specs.declared.commands.Operand.{Operand}
use Rattle.bmx_types.specs.declared.commands.Operand.TheVariants as operand
use Rattle.bmx_types.specs.declared.commands.Command.{Command}
use Rattle.bmx_types.specs.declared.commands.Command.TheVariants as command
use Rattle.bmx_types.specs.declared.addresses.Place.{Place}
use Rattle.bmx_graph.specs.State.{State}
use Rattle.bmx_types.specs.Updates.{put}
use Rattle.bmx_graph.specs.Step.{value_of, target_of, reference, answer_of, set_answer, add_answer, get_answer, same_value, field_at, effect, storing, setting, raised_by}
use Rattle.bmx_graph.specs.declared.effects.Effect.{Effect}
use Rattle.bmx_graph.specs.declared.effects.Effect.TheVariants as effect_is
use Rattle.bmx_graph.specs.declared.answers.Answer.TheVariants as graph
use Rattle.bmx_types.specs.declared.numbers.Mode.TheVariants as mode
use Rattle.bmx_types.specs.declared.commands.Refusal.TheVariants as refusal
use Rattle.bmx_msg.specs.declared.letters.Msg.{Msg}
use Rattle.bmx_token.specs.Transitions.{Transition, Operation, Acquires, Releases, Serves, transition_of, note_transition}
use Rattle.bmx_protocol.specs.declared.inputs.Input.{Input}
use Rattle.bmx_protocol.specs.declared.inputs.Input.TheVariants as input
use Rattle.bmx_protocol.specs.declared.inputs.NodeAnswer.{NodeAnswer}
use Rattle.bmx_protocol.specs.declared.inputs.NodeAnswer.TheVariants as answer
use Rattle.bmx_protocol.specs.Nodes.{Setting, NodeState, Known, seen_graph, share_of}
use Rattle.bmx_protocol.specs.Changes.{Change, Sets, Makes, Knows, Hears, Gives, Gets, Issues, Takes, heard, after_change, after_changes}
use Rattle.bmx_protocol.specs.Rules.{only, refused, operation_answer, after_operation, operation_rule, about, graph_changes, answered, graph_rule, token_rule, knows, command_rule, took, take_rule, name_in, note_in}
use Rattle.bmx_protocol.specs.Strays.{too_large, is_no_node, is_bad_msg}
use Rattle.bmx_protocol.specs.Steps.{Told, rule}
use Rattle.bmx_protocol.specs.Histories.{IsOperandOf, IsCommandOf, IsInputOf}

-- functions are the same below a number
abbrev pub SameBelow : {A : Type 0} → ℕ → (ℕ → A) → (ℕ → A) → Type 0
SameBelow k f g = (m : ℕ) → m < k → f m ≡ g m

-- states are the same in all that a view of so many nodes shows
pub record Alike (nodes : ℕ) (s t : NodeState) : Type 0 where
  pub known : s.known ≡ t.known
  pub register : SameBelow 16 s.register t.register
  pub entering : s.entering ≡ t.entering
  pub issued : SameBelow nodes s.issued t.issued
  pub taken : SameBelow nodes s.taken t.taken
  pub clock : s.clock ≡ t.clock
  pub made : s.made ≡ t.made

-- with the same value at one number they are the same below still
pub put_same : {A : Type 0} (k x : ℕ) (v w : A) (f g : ℕ → A) → SameBelow k f g → (x < k → v ≡ w) → SameBelow k (put f x v) (put g x w)
put_same k x v w f g same here m lt =
    by_test (x == m) (λ e. here (subst (λ y. y < k) (sym (eqb-true x m e)) lt))
  where
    by_test : (b : Bool) → (b ≡ true → v ≡ w) → cond b v (f m) ≡ cond b w (g m)
    by_test true h = h refl
    by_test false h = same m lt

pub alike_by : (nodes : ℕ) (s t : NodeState) → s.known ≡ t.known → SameBelow 16 s.register t.register → s.entering ≡ t.entering →
    SameBelow nodes s.issued t.issued → SameBelow nodes s.taken t.taken → s.clock ≡ t.clock → s.made ≡ t.made → Alike nodes s t
alike_by nodes s t known register entering issued taken clock made =
    record { known = known; register = register; entering = entering; issued = issued; taken = taken; clock = clock; made = made }

-- a change keeps states alike
change_alike : (nodes : ℕ) (s t : NodeState) (c : Change) → Alike nodes s t → Alike nodes (after_change s c) (after_change t c)
change_alike nodes s t (Sets register v) a =
    alike_by nodes _ _ a.known (put_same 16 register v v s.register t.register a.register (λ _. refl)) a.entering a.issued a.taken a.clock a.made
change_alike nodes s t Makes a = alike_by nodes _ _ a.known a.register a.entering a.issued a.taken a.clock (ap (λ k. k + 1) a.made)
change_alike nodes s t (Knows name k) a =
    alike_by nodes _ _ (ap (λ f. put f name (Some k)) a.known) a.register a.entering a.issued a.taken a.clock a.made
change_alike nodes s t (Hears from info) a =
    alike_by nodes _ _ (ap (λ f. heard from f info) a.known) a.register a.entering a.issued a.taken a.clock a.made
change_alike nodes s t (Gives name to seq) a = alike_by nodes _ _ a.known a.register
    (λ i. (after_change (record s { known = a.known i; entering = a.entering i }) (Gives name to seq)).entering) a.issued a.taken a.clock a.made
change_alike nodes s t (Gets name from seq) a = alike_by nodes _ _ a.known a.register
    (λ i. (after_change (record s { known = a.known i; entering = a.entering i }) (Gets name from seq)).entering) a.issued a.taken a.clock a.made
change_alike nodes s t (Issues to) a = alike_by nodes _ _ a.known a.register a.entering
    (put_same nodes to (s.issued to + 1) (t.issued to + 1) s.issued t.issued a.issued (λ lt. ap (λ k. k + 1) (a.issued to lt))) a.taken a.clock a.made
change_alike nodes s t (Takes from) a = alike_by nodes _ _ a.known a.register a.entering a.issued
    (put_same nodes from (s.taken from + 1) (t.taken from + 1) s.taken t.taken a.taken (λ lt. ap (λ k. k + 1) (a.taken from lt))) a.clock a.made

pub changes_alike : (nodes : ℕ) (changes : List Change) (s t : NodeState) → Alike nodes s t → Alike nodes (after_changes s changes) (after_changes t changes)
changes_alike nodes [] s t same = same
changes_alike nodes (c ∷ changes) s t same = changes_alike nodes changes (after_change s c) (after_change t c) (change_alike nodes s t c same)

-- ## one state, and the same with other registers and counts

module _ (s : NodeState) (registers : ℕ → Val) (issues takes : ℕ → ℕ) (same_registers : SameBelow 16 s.register registers) where
  abbrev t : NodeState
  t = record s { register = registers; issued = issues; taken = takes }

  -- what an operand of the store stands for
  value_same : (st : Setting) (me : ℕ) (on : Operand) → IsOperandOf st on → value_of (seen_graph me s) me on ≡ value_of (seen_graph me t) me on
  value_same st me (operand.Register r) lt = ap (λ v. cond (me == me) v val.Null) (same_registers r lt)
  value_same st me (operand.Anchor b) h = refl
  value_same st me (operand.Int k) h = refl
  value_same st me operand.Null h = refl

  target_same : (st : Setting) (me : ℕ) (on : Operand) → IsOperandOf st on → target_of (seen_graph me s) me on ≡ target_of (seen_graph me t) me on
  target_same st me on h = ap reference (value_same st me on h)

  set_same : (me : ℕ) (x : Option ℕ) (index : ℕ) → set_answer (seen_graph me s) me x index ≡ set_answer (seen_graph me t) me x index
  set_same me None index = refl
  set_same me (Some name) index = refl

  add_same : (me : ℕ) (x : Option ℕ) (index : ℕ) (by : ℤ) → add_answer (seen_graph me s) me x index by ≡ add_answer (seen_graph me t) me x index by
  add_same me None index by = refl
  add_same me (Some name) index by = refl

  get_same : (me : ℕ) (x : Option ℕ) (index : ℕ) → get_answer (seen_graph me s) me x index ≡ get_answer (seen_graph me t) me x index
  get_same me None index = refl
  get_same me (Some name) index = refl

  field_same : (me : ℕ) (x : Option ℕ) (index : ℕ) → field_at (seen_graph me s) x index ≡ field_at (seen_graph me t) x index
  field_same me None index = refl
  field_same me (Some name) index = refl

  -- the graph's answer to a command that touches no token, and its effect
  record Same (me : ℕ) (c : Command) : Type 0 where
    answers : answer_of (seen_graph me s) me c ≡ answer_of (seen_graph me t) me c
    effects : effect (seen_graph me s) me c ≡ effect (seen_graph me t) me c

  graph_same : (me : ℕ) (c : Command) → Same me c → graph_rule me s c ≡ graph_rule me t c
  graph_same me c same = λ i. answered (changes_same (same.effects i) i) (same.answers i)
    where
      changes_same : (e : Effect) → graph_changes me s e ≡ graph_changes me t e
      changes_same effect_is.Nothing = refl
      changes_same (effect_is.Makes register bunch size) = refl
      changes_same (effect_is.Sets register v) = refl
      changes_same (effect_is.Stores name index v) = refl
      changes_same (effect_is.Holds name hold) = refl

  -- a rule of a token
  act_same : (me : ℕ) (lies : ℕ → Place) (a : Operation) (unknown : NodeAnswer) (name : ℕ) (k : Option Known) →
      operation_rule me s lies a unknown name k ≡ operation_rule me t lies a unknown name k
  act_same me lies a unknown name None = refl
  act_same me lies a unknown name (Some k) = by_transition (transition_of me a (share_of k))
    where
      by_transition : (u : Option Transition) → after_operation s lies name k (operation_answer me a (share_of k)) u ≡ after_operation t lies name k (operation_answer me a (share_of k)) u
      by_transition None = refl
      by_transition (Some u) = refl

  token_same : (me : ℕ) (lies : ℕ → Place) (a : Operation) (x : Option ℕ) → token_rule me s lies a x ≡ token_rule me t lies a x
  token_same me lies a None = refl
  token_same me lies a (Some name) = act_same me lies a _ name (s.known name)

  token_on : (st : Setting) (me : ℕ) (lies : ℕ → Place) (a : Operation) (on : Operand) → IsOperandOf st on →
      token_rule me s lies a (target_of (seen_graph me s) me on) ≡ token_rule me t lies a (target_of (seen_graph me t) me on)
  token_on st me lies a on h =
      ap (token_rule me s lies a) (target_same st me on h) ∙ token_same me lies a (target_of (seen_graph me t) me on)

  -- a rule of fields
  knows_same : (x : Option ℕ) → knows s x ≡ knows t x
  knows_same None = refl
  knows_same (Some name) = refl

  fields_on : (st : Setting) (me : ℕ) (c : Command) (on : Operand) → IsOperandOf st on → Same me c →
      cond (knows s (target_of (seen_graph me s) me on)) (graph_rule me s c) (refused refusal.Empty)
      ≡ cond (knows t (target_of (seen_graph me t) me on)) (graph_rule me t c) (refused refusal.Empty)
  fields_on st me c on h same =
      (λ i. cond (knows s (target_same st me on h i)) (graph_same me c same i) (refused refusal.Empty))
      ∙ ap (λ b. cond b (graph_rule me t c) (refused refusal.Empty)) (knows_same (target_of (seen_graph me t) me on))

  command_same : (st : Setting) (me : ℕ) (full : Bool) (lies : ℕ → Place) (c : Command) → IsCommandOf st c →
      command_rule me s full lies c (about c) ≡ command_rule me t full lies c (about c)
  command_same st me full lies (command.New r b n) h = refl
  command_same st me full lies (command.Copy r v) h =
      (graph_same me (command.Copy r v) record { answers = refl; effects = λ i. effect_is.Sets r (value_same st me v h.1 i) })
  command_same st me full lies (command.Drop r) h = refl
  command_same st me full lies (command.Read on) h = token_on st me lies (Acquires mode.Read) on h
  command_same st me full lies (command.Write on) h = token_on st me lies (Acquires mode.Write) on h
  command_same st me full lies (command.Done on) h = token_on st me lies Releases on h
  command_same st me full lies (command.Set on index v) h = fields_on st me (command.Set on index v) on h.0 record {
    answers = (λ i. set_answer (seen_graph me s) me (target_same st me on h.0 i) index) ∙ set_same me (target_of (seen_graph me t) me on) index;
    effects = λ i. storing (target_same st me on h.0 i) index (Some (value_same st me v h.1 i));
  }
  command_same st me full lies (command.Add on index by) h =
      let g : State = seen_graph me s in
      let u : State = seen_graph me t in
      fields_on st me (command.Add on index by) on h record {
        answers = (λ i. add_answer g me (target_same st me on h i) index by) ∙ add_same me (target_of u me on) index by;
        effects = (λ i. storing (target_same st me on h i) index (raised_by (field_at g (target_same st me on h i) index) by))
            ∙ ap (λ v. storing (target_of u me on) index (raised_by v by)) (field_same me (target_of u me on) index);
      }
  command_same st me full lies (command.Get r on index) h =
      let g : State = seen_graph me s in
      let u : State = seen_graph me t in
      fields_on st me (command.Get r on index) on h.1 record {
        answers = (λ i. get_answer g me (target_same st me on h.1 i) index) ∙ get_same me (target_of u me on) index;
        effects = (λ i. setting r (field_at g (target_same st me on h.1 i) index)) ∙ ap (setting r) (field_same me (target_of u me on) index);
      }
  command_same st me full lies (command.Show on index) h = fields_on st me (command.Show on index) on h record {
    answers = (λ i. get_answer (seen_graph me s) me (target_same st me on h i) index) ∙ get_same me (target_of (seen_graph me t) me on) index;
    effects = refl;
  }
  command_same st me full lies (command.Same a b) h =
      (graph_same me (command.Same a b) record { answers = λ i. cond (same_value (value_same st me a h.0 i) (value_same st me b h.1 i)) graph.Yes graph.No; effects = refl })

  -- a letter
  take_same : (me : ℕ) (lies : ℕ → Place) (from seq : ℕ) (m : Msg) → take_rule me s lies from seq m ≡ take_rule me t lies from seq m
  take_same me lies from seq m = by_transition (s.known (name_in m)) (note_transition me from (note_in m) (option_map share_of (s.known (name_in m))))
    where
      by_transition : (k : Option Known) (u : Option Transition) → took s lies from seq m k u ≡ took t lies from seq m k u
      by_transition k None = refl
      by_transition k (Some u) = refl

  pub rule_same : (st : Setting) → SameBelow st.nodes s.taken takes → (me : ℕ) (told : Told) (i : Input) → IsInputOf st i → rule st me s told i ≡ rule st me t told i
  rule_same st same me told (input.Do c) ok = command_same st me told.full told.lies c ok
  rule_same st same me told (input.Serve name) ok = act_same me told.lies Serves answer.Idle name (s.known name)
  rule_same st same me told (input.Take from l) ok = λ i.
      cond (from == me || is_no_node st from || not (l.seq == same from ok i + 1) || nat_le too_large l.stamp || is_bad_msg st me s l.msg || told.clash)
      (only answer.Stray) (take_same me told.lies from l.seq l.msg i)
