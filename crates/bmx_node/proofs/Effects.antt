-- What a node refers to it knows: so a command that touches no token does what the graph does, and stores what has an
-- entry.
use Rattle.std.proofs.lemmas.Bool.{eq-eqb, false≢true}
use Rattle.std.proofs.lemmas.Option.{none-some, same_Some}
use Rattle.bmx_node.proofs.Graphing.{graph_is}
use Rattle.bmx_node.proofs.Commanding.{graph_reacts}
use Rattle.std.proofs.Common.{◌≡◌, ℕ, Bool, true, false, not, cond, if◌then◌else◌, List, [], Option, Some, None, IsSome, is_some, unwrap_or, option_and_then, slice_get, refl, sym, ◌∙◌, ap, subst}
use Rattle.std.specs.Prelude.{ℤ}
use Rattle.std.specs.Option.{option_map}
use Rattle.bmx_types.specs.declared.addresses.Place.{Place}
use Rattle.bmx_types.specs.declared.values.Val.{Val}
use Rattle.bmx_types.specs.declared.commands.Operand.{Operand}
use Rattle.bmx_types.specs.declared.commands.Command.{Command}
use Rattle.bmx_types.specs.declared.numbers.Mode.{Mode}
use Rattle.bmx_graph.specs.State.{State, fields_of}
use Rattle.bmx_graph.specs.Step.{effect, answer_of, effect_after, value_of as operand_value, reference, target_of, field_at, setting, storing, holding, raised_by, sum_of, set_answer, add_answer, get_answer}
use Rattle.bmx_graph.specs.declared.answers.Answer.{Answer}
use Rattle.bmx_graph.specs.declared.effects.Effect.{Effect}
use Rattle.bmx_graph.specs.declared.effects.Effect.TheVariants.{Nothing, Makes, Sets, Stores, Holds}
use Rattle.bmx_token.specs.declared.parts.Part.{Part}
use Rattle.bmx_tokens.specs.Tables.{part_at}
use Rattle.bmx_protocol.specs.Nodes.{NodeState, seen_graph}
use Rattle.bmx_protocol.specs.declared.inputs.NodeAnswer.{NodeAnswer}
use Rattle.bmx_protocol.specs.declared.inputs.Done.{Done}
use Rattle.bmx_protocol.specs.Changes.{after_changes}
use Rattle.bmx_protocol.specs.Places.{Places, is_full, with_made}
use Rattle.bmx_protocol.specs.Rules.{Reaction, graph_changes, answered, graph_rule, do_rule, knows, refused, next_name}
use Rattle.bmx_protocol.specs.Steps.{Node, made_places, is_nil}
use Rattle.bmx_memory.specs.Shown.{Shown, Object, shown, HasEntry, AllHaveEntries, values_of, value_of, known_as}
use Rattle.bmx_node.specs.declared.holdings.Holdings.{Holdings}
use Rattle.bmx_node.specs.Seen.{state_of, places_of, limit_of, node_of, FitsOperand, FitsCommand}
use Rattle.bmx_node.specs.Inside.Graphs.{graph_of}
use Rattle.bmx_node.specs.Inside.Keeping.{Keeps}
use Rattle.bmx_node.specs.Inside.Reacting.{Reacts, lies_at, node_answer, lacks_room, touches_token}
use Rattle.bmx_types.specs.declared.values.Val.TheVariants as val
use Rattle.bmx_types.specs.declared.commands.Operand.TheVariants as operand
use Rattle.bmx_types.specs.declared.commands.Command.TheVariants as command
use Rattle.bmx_types.specs.declared.commands.Refusal.TheVariants as refusal
use Rattle.bmx_types.specs.declared.numbers.Mode.TheVariants as mode
use Rattle.bmx_graph.specs.declared.answers.Answer.TheVariants as graph
use Rattle.bmx_protocol.specs.declared.inputs.NodeAnswer.TheVariants as answer

-- ## what is known

-- what an operand stands for has an entry
operand_known : (h : Holdings) (on : Operand) → Keeps h → AllHaveEntries (shown h.memory) → FitsOperand h.store.bunches on → HasEntry (shown h.memory) (operand_value (graph_of h) h.me on)
unfolding graph_of
operand_known h (operand.Register r) keeps all fits =
    subst (HasEntry (shown h.memory)) (sym (ap (λ b. cond b ((shown h.memory).register r) val.Null) (eq-eqb h.me h.me refl))) (all.registers r)
operand_known h (operand.Anchor bunch) keeps all fits = keeps.agree.anchors bunch fits
operand_known h (operand.Int k) keeps all fits = tt
operand_known h operand.Null keeps all fits = tt

got_value : (o : Option (List Val)) (i : ℕ) (v : Val) → slice_get (unwrap_or o []) i ≡ Some v → option_and_then (λ (fields : List Val). slice_get fields i) o ≡ Some v
got_value None i v is = absurd (none-some v is)
got_value (Some fields) i v is = is

-- and so has what a field holds
field_known : (h : Holdings) (t : Option ℕ) (i : ℕ) (v : Val) → AllHaveEntries (shown h.memory) → field_at (graph_of h) t i ≡ Some v → HasEntry (shown h.memory) v
unfolding graph_of
field_known h None i v all is = absurd (none-some v is)
field_known h (Some name) i v all is = all.fields name i v (got_value (values_of (shown h.memory) name) i v is)

raised_known : (m : Shown) (o : Option Val) (by : ℤ) (v : Val) → raised_by o by ≡ Some v → HasEntry m v
raised_known m None by v is = absurd (none-some v is)
raised_known m (Some w) by v is = summed (sum_of w by) is
  where
    summed : (o : Option ℤ) → option_map (λ k. val.Int k) o ≡ Some v → HasEntry m v
    summed None is = absurd (none-some v is)
    summed (Some k) is = subst (HasEntry m) (same_Some (val.Int k) v is) tt

-- what an effect stores in a register or a field has an entry
abbrev pub IsKnown : Shown → Effect → Type 0
IsKnown m Nothing = Unit {0}
IsKnown m (Makes register bunch size) = Unit {0}
IsKnown m (Sets register v) = HasEntry m v
IsKnown m (Stores name index v) = HasEntry m v
IsKnown m (Holds name hold) = Unit {0}

holding_known : (m : Shown) (t : Option ℕ) (hold : Option Mode) → IsKnown m (holding t hold)
holding_known m None hold = tt
holding_known m (Some name) hold = tt

setting_known : (m : Shown) (register : ℕ) (o : Option Val) → ((v : Val) → o ≡ Some v → HasEntry m v) → IsKnown m (setting register o)
setting_known m register None known = tt
setting_known m register (Some v) known = known v refl

storing_known : (m : Shown) (t : Option ℕ) (i : ℕ) (o : Option Val) → ((v : Val) → o ≡ Some v → HasEntry m v) → IsKnown m (storing t i o)
storing_known m None i o known = tt
storing_known m (Some name) i None known = tt
storing_known m (Some name) i (Some v) known = known v refl

effect_known : (h : Holdings) (c : Command) → Keeps h → AllHaveEntries (shown h.memory) → FitsCommand h.store.bunches c → IsKnown (shown h.memory) (effect (graph_of h) h.me c)
effect_known h (command.New register bunch size) keeps all fits = tt
effect_known h (command.Copy register value) keeps all fits = operand_known h value keeps all fits.1
effect_known h (command.Drop register) keeps all fits = tt
effect_known h (command.Read on) keeps all fits = holding_known (shown h.memory) (target_of (graph_of h) h.me on) (Some mode.Read)
effect_known h (command.Write on) keeps all fits = holding_known (shown h.memory) (target_of (graph_of h) h.me on) (Some mode.Write)
effect_known h (command.Done on) keeps all fits = holding_known (shown h.memory) (target_of (graph_of h) h.me on) None
effect_known h (command.Set on index value) keeps all fits =
    storing_known (shown h.memory) (target_of (graph_of h) h.me on) index (Some (operand_value (graph_of h) h.me value))
    (λ v is. subst (HasEntry (shown h.memory)) (same_Some (operand_value (graph_of h) h.me value) v is) (operand_known h value keeps all fits.1))
effect_known h (command.Add on index by) keeps all fits =
    storing_known (shown h.memory) (target_of (graph_of h) h.me on) index (raised_by (field_at (graph_of h) (target_of (graph_of h) h.me on) index) by)
    (raised_known (shown h.memory) (field_at (graph_of h) (target_of (graph_of h) h.me on) index) by)
effect_known h (command.Get register on index) keeps all fits =
    setting_known (shown h.memory) register (field_at (graph_of h) (target_of (graph_of h) h.me on) index)
    (λ v is. field_known h (target_of (graph_of h) h.me on) index v all is)
effect_known h (command.Show on index) keeps all fits = tt
effect_known h (command.Same left right) keeps all fits = tt

pub after_known : (h : Holdings) (c : Command) (a : Answer) → Keeps h → AllHaveEntries (shown h.memory) → FitsCommand h.store.bunches c → IsKnown (shown h.memory) (effect_after (graph_of h) h.me c a)
after_known h c graph.Wait keeps all fits = tt
after_known h c (graph.Refused why) keeps all fits = tt
after_known h c graph.Nil keeps all fits = effect_known h c keeps all fits
after_known h c (graph.Value v) keeps all fits = effect_known h c keeps all fits
after_known h c graph.Yes keeps all fits = effect_known h c keeps all fits
after_known h c graph.No keeps all fits = effect_known h c keeps all fits

-- a field that a store needs is there
pub stored_there : (h : Holdings) (name i : ℕ) → IsSome (slice_get (fields_of (graph_of h) name) i) → IsSome (value_of (shown h.memory) name i)
unfolding graph_of
stored_there h name i there = by (values_of (shown h.memory) name) there
  where
    by : (o : Option (List Val)) → IsSome (slice_get (unwrap_or o []) i) → IsSome (option_and_then (λ (fields : List Val). slice_get fields i) o)
    by None there = absurd (false≢true there)
    by (Some fields) there = there

-- ## the rule is the graph's

-- what an operand means is known
target_known : (h : Holdings) (on : Operand) (name : ℕ) → Keeps h → AllHaveEntries (shown h.memory) → FitsOperand h.store.bunches on →
    target_of (seen_graph h.me (state_of h)) h.me on ≡ Some name → is_some ((state_of h).known name) ≡ true
unfolding state_of
target_known h on name keeps all fits is =
    of_object ((shown h.memory).object name) (part_at h.tokens name)
    (refers (operand_value (graph_of h) h.me on) (operand_known h on keeps all fits) (ap (λ (g : State). target_of g h.me on) (graph_is h keeps) ∙ is))
  where
    refers : (v : Val) → HasEntry (shown h.memory) v → reference v ≡ Some name → IsSome ((shown h.memory).object name)
    refers val.Null has e = absurd (none-some name e)
    refers (val.Int k) has e = absurd (none-some name e)
    refers (val.Ref n) has e = subst (λ (x : ℕ). IsSome ((shown h.memory).object x)) (same_Some n name e) has

    of_object : (o : Option Object) (p : Part) → IsSome o → is_some (option_map (known_as p) o) ≡ true
    of_object None p there = absurd (false≢true there)
    of_object (Some o) p there = refl

-- a command on the fields of what is known, or of nothing, is done as the graph does it
fields_rule : (me : ℕ) (s : NodeState) (c : Command) (t : Option ℕ) → (t ≡ None → answer_of (seen_graph me s) me c ≡ graph.Refused refusal.Empty) → ((name : ℕ) → t ≡ Some name → is_some (s.known name) ≡ true) →
    (if knows s t then graph_rule me s c else refused refusal.Empty) ≡ graph_rule me s c
fields_rule me s c None empty known = sym (ap (answered (graph_changes me s (effect (seen_graph me s) me c))) (empty refl))
fields_rule me s c (Some name) empty known = ap (λ b. cond b (graph_rule me s c) (refused refusal.Empty)) (known name refl)

pub do_is_graph : (h : Holdings) (lies : ℕ → Place) (c : Command) → Keeps h → AllHaveEntries (shown h.memory) → FitsCommand h.store.bunches c → touches_token c ≡ false → lacks_room (shown h.memory) c ≡ false →
    do_rule h.me (state_of h) (lacks_room (shown h.memory) c) lies c ≡ graph_rule h.me (state_of h) c
do_is_graph h lies (command.New register bunch size) keeps all fits off room =
    ap (λ b. cond b (refused refusal.Full) (graph_rule h.me (state_of h) (command.New register bunch size))) room
do_is_graph h lies (command.Copy register value) keeps all fits off room = refl
do_is_graph h lies (command.Drop register) keeps all fits off room = refl
do_is_graph h lies (command.Read on) keeps all fits off room = absurd (false≢true (sym off))
do_is_graph h lies (command.Write on) keeps all fits off room = absurd (false≢true (sym off))
do_is_graph h lies (command.Done on) keeps all fits off room = absurd (false≢true (sym off))
do_is_graph h lies (command.Set on index value) keeps all fits off room =
    fields_rule h.me (state_of h) (command.Set on index value) (target_of (seen_graph h.me (state_of h)) h.me on)
    (ap (λ t. set_answer (seen_graph h.me (state_of h)) h.me t index)) (λ name. target_known h on name keeps all fits.0)
do_is_graph h lies (command.Add on index by) keeps all fits off room =
    fields_rule h.me (state_of h) (command.Add on index by) (target_of (seen_graph h.me (state_of h)) h.me on)
    (ap (λ t. add_answer (seen_graph h.me (state_of h)) h.me t index by)) (λ name. target_known h on name keeps all fits)
do_is_graph h lies (command.Get register on index) keeps all fits off room =
    fields_rule h.me (state_of h) (command.Get register on index) (target_of (seen_graph h.me (state_of h)) h.me on)
    (ap (λ t. get_answer (seen_graph h.me (state_of h)) h.me t index)) (λ name. target_known h on name keeps all fits.1)
do_is_graph h lies (command.Show on index) keeps all fits off room =
    fields_rule h.me (state_of h) (command.Show on index) (target_of (seen_graph h.me (state_of h)) h.me on)
    (ap (λ t. get_answer (seen_graph h.me (state_of h)) h.me t index)) (λ name. target_known h on name keeps all fits)
do_is_graph h lies (command.Same left right) keeps all fits off room = refl

-- ## what makes an object

abbrev is_making : Effect → Bool
is_making Nothing = false
is_making (Makes register bunch size) = true
is_making (Sets register v) = false
is_making (Stores name index v) = false
is_making (Holds name hold) = false

abbrev is_new : Command → Bool
is_new (command.New register bunch size) = true
is_new (command.Copy register value) = false
is_new (command.Drop register) = false
is_new (command.Read on) = false
is_new (command.Write on) = false
is_new (command.Done on) = false
is_new (command.Set on index value) = false
is_new (command.Add on index by) = false
is_new (command.Get register on index) = false
is_new (command.Show on index) = false
is_new (command.Same left right) = false

holding_quiet : (t : Option ℕ) (hold : Option Mode) → is_making (holding t hold) ≡ false
holding_quiet None hold = refl
holding_quiet (Some name) hold = refl

setting_quiet : (register : ℕ) (o : Option Val) → is_making (setting register o) ≡ false
setting_quiet register None = refl
setting_quiet register (Some v) = refl

storing_quiet : (t : Option ℕ) (i : ℕ) (o : Option Val) → is_making (storing t i o) ≡ false
storing_quiet None i o = refl
storing_quiet (Some name) i None = refl
storing_quiet (Some name) i (Some v) = refl

effect_quiet : (g : State) (n : ℕ) (c : Command) → is_new c ≡ false → is_making (effect g n c) ≡ false
effect_quiet g n (command.New register bunch size) off = absurd (false≢true (sym off))
effect_quiet g n (command.Copy register value) off = refl
effect_quiet g n (command.Drop register) off = refl
effect_quiet g n (command.Read on) off = holding_quiet (target_of g n on) (Some mode.Read)
effect_quiet g n (command.Write on) off = holding_quiet (target_of g n on) (Some mode.Write)
effect_quiet g n (command.Done on) off = holding_quiet (target_of g n on) None
effect_quiet g n (command.Set on index value) off = storing_quiet (target_of g n on) index (Some (operand_value g n value))
effect_quiet g n (command.Add on index by) off = storing_quiet (target_of g n on) index (raised_by (field_at g (target_of g n on) index) by)
effect_quiet g n (command.Get register on index) off = setting_quiet register (field_at g (target_of g n on) index)
effect_quiet g n (command.Show on index) off = refl
effect_quiet g n (command.Same left right) off = refl

after_quiet : (g : State) (n : ℕ) (c : Command) (a : Answer) → is_new c ≡ false → is_making (effect_after g n c a) ≡ false
after_quiet g n c graph.Wait off = refl
after_quiet g n c (graph.Refused why) off = refl
after_quiet g n c graph.Nil off = effect_quiet g n c off
after_quiet g n c (graph.Value v) off = effect_quiet g n c off
after_quiet g n c graph.Yes off = effect_quiet g n c off
after_quiet g n c graph.No off = effect_quiet g n c off

-- what was decided of a command
pub record Decided (g : State) (n : ℕ) (c : Command) (a : Answer) (e : Effect) : Type 0 where
  pub answer : a ≡ answer_of g n c
  pub effect : e ≡ effect_after g n c a

-- an effect that makes nothing isn't of a new object
quiet_new : (g : State) (n : ℕ) (c : Command) (a : Answer) (e : Effect) → Decided g n c a e → is_making e ≡ false → is_new c ≡ false
quiet_new g n (command.New register bunch size) a e d off =
    absurd (false≢true (sym off ∙ ap is_making (d.effect ∙ ap (effect_after g n (command.New register bunch size)) d.answer)))
quiet_new g n (command.Copy register value) a e d off = refl
quiet_new g n (command.Drop register) a e d off = refl
quiet_new g n (command.Read on) a e d off = refl
quiet_new g n (command.Write on) a e d off = refl
quiet_new g n (command.Done on) a e d off = refl
quiet_new g n (command.Set on index value) a e d off = refl
quiet_new g n (command.Add on index by) a e d off = refl
quiet_new g n (command.Get register on index) a e d off = refl
quiet_new g n (command.Show on index) a e d off = refl
quiet_new g n (command.Same left right) a e d off = refl

lacks_none : (m : Shown) (c : Command) → is_new c ≡ false → lacks_room m c ≡ false
lacks_none m (command.New register bunch size) off = absurd (false≢true (sym off))
lacks_none m (command.Copy register value) off = refl
lacks_none m (command.Drop register) off = refl
lacks_none m (command.Read on) off = refl
lacks_none m (command.Write on) off = refl
lacks_none m (command.Done on) off = refl
lacks_none m (command.Set on index value) off = refl
lacks_none m (command.Add on index by) off = refl
lacks_none m (command.Get register on index) off = refl
lacks_none m (command.Show on index) off = refl
lacks_none m (command.Same left right) off = refl

pub quiet_room : (m : Shown) (g : State) (n : ℕ) (c : Command) (a : Answer) (e : Effect) → Decided g n c a e → is_making e ≡ false → lacks_room m c ≡ false
quiet_room m g n c a e d off = lacks_none m c (quiet_new g n c a e d off)

made_none : (me : ℕ) (n : Node) (c : Command) → is_new c ≡ false → made_places me n c ≡ n.places
made_none me n (command.New register bunch size) off = absurd (false≢true (sym off))
made_none me n (command.Copy register value) off = refl
made_none me n (command.Drop register) off = refl
made_none me n (command.Read on) off = refl
made_none me n (command.Write on) off = refl
made_none me n (command.Done on) off = refl
made_none me n (command.Set on index value) off = refl
made_none me n (command.Add on index by) off = refl
made_none me n (command.Get register on index) off = refl
made_none me n (command.Show on index) off = refl
made_none me n (command.Same left right) off = refl

same_either : {A : Type 0} (b : Bool) (x y : A) → x ≡ y → y ≡ cond b x y
same_either true x y e = sym e
same_either false x y e = refl

-- places stay, however it was answered
pub quiet_places : (g : State) (n me : ℕ) (old : Node) (b : Bool) (c : Command) (a : Answer) (e : Effect) → Decided g n c a e → is_making e ≡ false → old.places ≡ (if b then made_places me old c else old.places)
quiet_places g n me old b c a e d off = same_either b (made_places me old c) old.places (made_none me old c (quiet_new g n c a e d off))

-- one that makes an object is of a new object
first_of : Effect → ℕ
first_of Nothing = 0
first_of (Makes register bunch size) = register
first_of (Sets register v) = 0
first_of (Stores name index v) = 0
first_of (Holds name hold) = 0

second_of : Effect → ℕ
second_of Nothing = 0
second_of (Makes register bunch size) = bunch
second_of (Sets register v) = 0
second_of (Stores name index v) = 0
second_of (Holds name hold) = 0

third_of : Effect → ℕ
third_of Nothing = 0
third_of (Makes register bunch size) = size
third_of (Sets register v) = 0
third_of (Stores name index v) = 0
third_of (Holds name hold) = 0

new_is : (c : Command) → (is_new c ≡ false → ⊥) → (r : ℕ) × (b : ℕ) × (s : ℕ) × (c ≡ command.New r b s)
new_is (command.New register bunch size) holds = (register, bunch, size, refl)
new_is (command.Copy register value) holds = absurd (holds refl)
new_is (command.Drop register) holds = absurd (holds refl)
new_is (command.Read on) holds = absurd (holds refl)
new_is (command.Write on) holds = absurd (holds refl)
new_is (command.Done on) holds = absurd (holds refl)
new_is (command.Set on index value) holds = absurd (holds refl)
new_is (command.Add on index by) holds = absurd (holds refl)
new_is (command.Get register on index) holds = absurd (holds refl)
new_is (command.Show on index) holds = absurd (holds refl)
new_is (command.Same left right) holds = absurd (holds refl)

pub made_new : (g : State) (n : ℕ) (c : Command) (a : Answer) (register bunch size : ℕ) → Decided g n c a (Makes register bunch size) → c ≡ command.New register bunch size
unfolding first_of second_of third_of
made_new g n c a register bunch size d =
    let new = new_is c (λ off. false≢true (sym (after_quiet g n c a off) ∙ ap is_making (sym d.effect))) in
    let same : Makes register bunch size ≡ Makes new.0 new.1 new.2 = d.effect ∙ ap (effect_after g n c) d.answer ∙ ap (λ (x : Command). effect_after g n x (answer_of g n x)) new.3 in
    new.3 ∙ (λ i. command.New (first_of (sym same i)) (second_of (sym same i)) (third_of (sym same i)))

-- ## what came of it

-- a command that touches no token, at a node that knows what it refers to
pub record Usable (h : Holdings) (c : Command) : Type 0 where
  pub keeps : Keeps h
  pub all : AllHaveEntries (shown h.memory)
  pub fits : FitsCommand h.store.bunches c
  pub none : touches_token c ≡ false

pub done_reacts : (stamp : ℕ) (h : Holdings) (c : Command) (a : Answer) (e : Effect) (x : NodeAnswer) (d : Done) (t : NodeState) → Usable h c → Decided (graph_of h) h.me c a e →
    lacks_room (shown h.memory) c ≡ false → x ≡ node_answer a → d ≡ record { answer = x; letters = [] } → t ≡ after_changes (state_of h) (graph_changes h.me (state_of h) e) →
    Reacts stamp (state_of h) (do_rule h.me (state_of h) (lacks_room (shown h.memory) c) (lies_at h) c) d t
done_reacts stamp h c a e x d t given decided room says is after =
    subst (λ (y : Done). Reacts stamp (state_of h) (do_rule h.me (state_of h) (lacks_room (shown h.memory) c) (lies_at h) c) y t) (sym (is ∙ ap (λ (y : NodeAnswer). record { answer = y; letters = [] }) says))
    (subst (λ (r : Reaction). Reacts stamp (state_of h) r (record { answer = node_answer a; letters = [] }) t) (sym (do_is_graph h (lies_at h) c given.keeps given.all given.fits given.none room))
    (graph_reacts stamp h c a e t given.keeps decided.answer decided.effect after))

-- ### an object that is made, or finds no room

pub has_room : (h : Holdings) (c : Command) (register bunch size : ℕ) (made : Bool) → c ≡ command.New register bunch size → made ≡ not (is_full (limit_of h) (places_of h) bunch size) →
    lacks_room (shown h.memory) c ≡ not made
unfolding limit_of places_of
has_room h c register bunch size made is fits = ap (lacks_room (shown h.memory)) is ∙ twice (is_full (shown h.memory).limit (shown h.memory).places bunch size) ∙ ap not (sym fits)
  where
    twice : (b : Bool) → b ≡ not (not b)
    twice true = refl
    twice false = refl

pub one_of : {A : Type 0} (b : Bool) (x y z : A) → z ≡ cond b x y → b ≡ true → z ≡ x
one_of b x y z is holds = is ∙ ap (λ (t : Bool). cond t x y) holds

pub other_of : {A : Type 0} (b : Bool) (x y z : A) → z ≡ cond b x y → b ≡ false → z ≡ y
other_of b x y z is off = is ∙ ap (λ (t : Bool). cond t x y) off

pub made_where : (h : Holdings) (c : Command) (a : Answer) (register bunch size : ℕ) (x : NodeAnswer) (d : Done) (p : Places) → c ≡ command.New register bunch size → a ≡ answer_of (graph_of h) h.me c →
    x ≡ node_answer a → d ≡ record { answer = x; letters = [] } → p ≡ with_made h.me (places_of h) (next_name h.me (state_of h)) bunch size →
    p ≡ (if is_nil d.answer then made_places h.me (node_of h) c else places_of h)
made_where h c a register bunch size x d p is answer_is says done placed =
    let nil : is_nil d.answer ≡ true = ap (λ (y : Done). is_nil y.answer) done ∙ ap is_nil (says ∙ ap node_answer (answer_is ∙ ap (answer_of (graph_of h) h.me) is)) in
    placed ∙ sym (ap (made_places h.me (node_of h)) is) ∙ sym (ap (λ (b : Bool). if b then made_places h.me (node_of h) c else places_of h) nil)

pub full_reacts : (stamp : ℕ) (h : Holdings) (c : Command) (register bunch size : ℕ) (d : Done) (t : NodeState) → c ≡ command.New register bunch size → lacks_room (shown h.memory) c ≡ true →
    d ≡ record { answer = answer.Refused refusal.Full; letters = [] } → t ≡ state_of h →
    Reacts stamp (state_of h) (do_rule h.me (state_of h) (lacks_room (shown h.memory) c) (lies_at h) c) d t
full_reacts stamp h c register bunch size d t is full done same =
    let new : Command = command.New register bunch size in
    let rule : do_rule h.me (state_of h) (lacks_room (shown h.memory) c) (lies_at h) c ≡ refused refusal.Full =
    ap (λ (x : Command). do_rule h.me (state_of h) (lacks_room (shown h.memory) x) (lies_at h) x) is
    ∙ ap (λ (b : Bool). do_rule h.me (state_of h) b (lies_at h) new) (sym (ap (lacks_room (shown h.memory)) is) ∙ full) in
    subst (λ (r : Reaction). Reacts stamp (state_of h) r d t) (sym rule) (record { done = done; state = same })
