-- A name to which nothing at a node refers: no field of a copy and no register. No change of a rule makes anything
-- refer to a name that stays unknown.
use Rattle.std.proofs.Common.{◌≡◌, ℕ, ℤ, refl, ap, sym, subst, ◌∙◌, Bool, true, false, cond, List, [], ◌∷◌, ◌++◌, map, zero, suc}
use Rattle.std.specs.Prelude.{◌==◌, ◌≢◌, ◌<◌, Option, Some, None, is_some, unwrap_or, replicate, filter_map, slice_get, slice_set}
use Rattle.std.specs.Option.{option_map}
use Rattle.bmx_types.specs.Words.{anchor_of}
use Rattle.bmx_types.specs.Openings.{bunches_of}
use Rattle.bmx_types.specs.declared.values.Val.{Val}
use Rattle.bmx_types.specs.declared.values.Val.TheVariants as val
use Rattle.bmx_types.specs.declared.addresses.Info.{Info}
use Rattle.bmx_types.specs.declared.addresses.Place.{Place}
use Rattle.bmx_types.specs.declared.commands.Command.{Command}
use Rattle.bmx_types.specs.declared.commands.Command.TheVariants as command
use Rattle.bmx_types.specs.declared.commands.Operand.{Operand}
use Rattle.bmx_types.specs.declared.commands.Operand.TheVariants as operand
use Rattle.bmx_types.specs.declared.numbers.Mode.TheVariants as mode
use Rattle.bmx_msg.specs.declared.letters.Field.{Field}
use Rattle.bmx_msg.specs.declared.letters.Field.TheVariants as msg_field
use Rattle.bmx_msg.specs.declared.letters.Msg.{Msg}
use Rattle.bmx_msg.specs.declared.letters.Msg.TheVariants as msg
use Rattle.bmx_graph.specs.State.{State}
use Rattle.bmx_types.specs.Updates.{put}
use Rattle.bmx_graph.specs.declared.answers.Answer.{Answer}
use Rattle.bmx_graph.specs.declared.answers.Answer.TheVariants as graph
use Rattle.bmx_graph.specs.Step.{answer_of, target_of, value_of, field_at, sum_of, raised_by, effect, storing, setting, holding}
use Rattle.bmx_graph.specs.declared.effects.Effect.{Effect}
use Rattle.bmx_graph.specs.declared.effects.Effect.TheVariants as graph_effect
use Rattle.bmx_token.specs.Transitions.{Share, Note, Asks, Grants, Recalls, Returns, Transition, Operation, transition_of}
use Rattle.bmx_protocol.specs.declared.inputs.NodeAnswer.{NodeAnswer}
use Rattle.bmx_protocol.specs.declared.views.ViewField.{ViewField}
use Rattle.bmx_protocol.specs.declared.views.ViewField.TheVariants as field
use Rattle.bmx_protocol.specs.Nodes.{Setting, NodeState, Known, share_of, field_of, value_in, fields_known, seen_graph}
use Rattle.bmx_protocol.specs.Changes.{Change, Sets, Makes, Knows, Hears, Gives, Gets, Issues, Takes, heard_of, after_change, after_changes}
use Rattle.bmx_protocol.specs.Rules.{Reaction, known_change, operation_answer, after_operation, operation_rule, About, Token, Fields, Making, Nothing, next_name, stored, graph_changes, answered, graph_rule, token_rule, knows, command_rule, heard_field, name_in, note_in, info_in, infos, copy_after, got_change, took, take_rule}
use Rattle.bmx_protocol.specs.Histories.{IsOperandOf, IsCommandOf}
use Rattle.bmx_protocol.proofs.Changing.{Each, each_append, kept_by_each}
use Rattle.bmx_protocol.proofs.Basics.{eqb_of, Two, Same, Apart, two, put_apart}
use Rattle.bmx_store_laws.proofs.Shares.{Spares}
use Rattle.bmx_store_laws.proofs.Ruled.{HasNo, NoRefs, FreeOf}

-- nothing at a node refers to x
pub record IsFree (x : ℕ) (s : NodeState) : Type 0 where
  pub fields : FreeOf x s.known
  pub registers : (r : ℕ) → s.register r ≢ val.Ref x

-- x is no anchor of the store
abbrev pub IsUnborn : Setting → ℕ → Type 0
IsUnborn st x = (b : ℕ) → b < bunches_of st.births → x ≢ anchor_of b

-- a change makes nothing refer to x
abbrev pub Frees : ℕ → Change → Type 0
Frees x (Sets register v) = v ≢ val.Ref x
Frees x Makes = Unit {0}
Frees x (Knows name k) = NoRefs x k
Frees x (Hears from info) = Unit {0}
Frees x (Gives name to seq) = Unit {0}
Frees x (Gets name from seq) = Unit {0}
Frees x (Issues to) = Unit {0}
Frees x (Takes from) = Unit {0}

-- ## changes

put_free : (x name : ℕ) (known : ℕ → Option Known) (k : Known) → FreeOf x known → NoRefs x k → FreeOf x (put known name (Some k))
put_free x name known k free none y j is = by_two (two name y)
  where
    some_is : (a b : Known) → Some a ≡ Some b → a ≡ b
    some_is a b h = cc

    by_two : Two name y → NoRefs x j
    by_two (Same e) = subst (NoRefs x) (some_is k j ((λ i. cond (sym (eqb_of e) i) (Some k) (known y)) ∙ is)) none
    by_two (Apart h d) = free y j (sym (put_apart known name y (Some k) h) ∙ is)

change_free : (x : ℕ) (s : NodeState) (c : Change) → Frees x c → IsFree x s → IsFree x (after_change s c)
change_free x s (Sets register v) none free = record { fields = free.fields; registers = λ r. by_test r (register == r) }
  where
    by_test : (r : ℕ) (b : Bool) → cond b v (s.register r) ≢ val.Ref x
    by_test r true = none
    by_test r false = free.registers r
change_free x s Makes none free = record { fields = free.fields; registers = free.registers }
change_free x s (Knows name k) none free = record { fields = put_free x name s.known k free.fields none; registers = free.registers }
change_free x s (Hears from info) none free = record { fields = by_test (is_some (s.known info.name)); registers = free.registers }
  where
    by_test : (b : Bool) → FreeOf x (cond b s.known (put s.known info.name (Some (heard_of from info))))
    by_test true = free.fields
    by_test false = put_free x info.name s.known (heard_of from info) free.fields tt
change_free x s (Gives name to seq) none free = record { fields = free.fields; registers = free.registers }
change_free x s (Gets name from seq) none free = record { fields = free.fields; registers = free.registers }
change_free x s (Issues to) none free = record { fields = free.fields; registers = free.registers }
change_free x s (Takes from) none free = record { fields = free.fields; registers = free.registers }

pub changes_free : (x : ℕ) (changes : List Change) → Each (Frees x) changes → (s : NodeState) → IsFree x s → IsFree x (after_changes s changes)
changes_free x changes each s free = kept_by_each (IsFree x) (Frees x) (λ u c none h. change_free x u c none h) changes each s free

-- ## tokens

copy_free : (x : ℕ) (fields : Option (List ViewField)) (b : Bool) → HasNo x (unwrap_or fields []) → HasNo x (unwrap_or (cond b fields None) [])
copy_free x fields true none = none
copy_free x fields false none = tt

known_free : (x name : ℕ) (k : Option Known) (fields : Option (List ViewField)) (h : Option Share) → HasNo x (unwrap_or fields []) → Each (Frees x) (known_change name k fields h)
known_free x name None fields h none = tt
known_free x name (Some k) fields None none = tt
known_free x name (Some k) fields (Some h) none = (copy_free x fields h.copy none, tt)

pub act_free : (x me : ℕ) (s : NodeState) (lies : ℕ → Place) (a : Operation) (unknown : NodeAnswer) (name : ℕ) (k : Option Known) → s.known name ≡ k →
    FreeOf x s.known → Each (Frees x) (operation_rule me s lies a unknown name k).changes
act_free x me s lies a unknown name None is free = tt
act_free x me s lies a unknown name (Some k) is free = by_transition (transition_of me a (share_of k))
  where
    by_transition : (t : Option Transition) → Each (Frees x) (after_operation s lies name k (operation_answer me a (share_of k)) t).changes
    by_transition None = tt
    by_transition (Some t) = known_free x name (Some k) k.copy t.after (free name k is)

-- ## values

int_free : (x : ℕ) (k : ℤ) → val.Int k ≢ val.Ref x
int_free x k h = cc

pub null_free : (x : ℕ) → val.Null ≢ val.Ref x
null_free x h = cc

ref_is : (x y : ℕ) → val.Ref y ≡ val.Ref x → x ≡ y
ref_is x y h = cc

value_free : (st : Setting) (x me : ℕ) (s : NodeState) (v : Operand) → IsUnborn st x → IsOperandOf st v → IsFree x s → value_of (seen_graph me s) me v ≢ val.Ref x
value_free st x me s (operand.Register r) unborn of free = by_test (me == me)
  where
    by_test : (b : Bool) → cond b (s.register r) val.Null ≢ val.Ref x
    by_test true = free.registers r
    by_test false = null_free x
value_free st x me s (operand.Anchor b) unborn of free = λ h. unborn b of (ref_is x (anchor_of b) h)
value_free st x me s (operand.Int k) unborn of free = int_free x k
value_free st x me s operand.Null unborn of free = null_free x

value_in_free : (x : ℕ) (f : ViewField) → f ≢ field.Ref x → value_in f ≢ val.Ref x
value_in_free x field.Null h = null_free x
value_in_free x (field.Int k) h = int_free x k
value_in_free x (field.Ref y) h = λ e. h (ap (λ (z : ℕ). field.Ref z) (sym (ref_is x y e)))

field_free : (x : ℕ) (v : Val) → v ≢ val.Ref x → field_of v ≢ field.Ref x
field_free x val.Null h = λ e. cc
field_free x (val.Int k) h = λ e. cc
field_free x (val.Ref y) h = λ e. h (ap (λ (z : ℕ). val.Ref z) (named e))
  where
    named : field.Ref y ≡ field.Ref x → y ≡ x
    named e = cc

-- a value that is there, if any, isn't a reference to x
abbrev pub NotRef : ℕ → Option Val → Type 0
NotRef x None = Unit {0}
NotRef x (Some v) = v ≢ val.Ref x

-- ## fields

set_free : (x : ℕ) (fields : List ViewField) (index : ℕ) (f : ViewField) → HasNo x fields → f ≢ field.Ref x → HasNo x (slice_set fields index f)
set_free x [] index f none new = tt
set_free x (g ∷ fields) zero f none new = (new, none.1)
set_free x (g ∷ fields) (suc index) f none new = (none.0, set_free x fields index f none.1 new)

at_free : (x : ℕ) (fields : List ViewField) (index : ℕ) → HasNo x fields → NotRef x (slice_get (map value_in fields) index)
at_free x [] index none = tt
at_free x (f ∷ fields) zero none = value_in_free x f none.0
at_free x (f ∷ fields) (suc index) none = at_free x fields index none.1

read_free : (x me : ℕ) (s : NodeState) (name : Option ℕ) (index : ℕ) → FreeOf x s.known → NotRef x (field_at (seen_graph me s) name index)
read_free x me s None index free = tt
read_free x me s (Some name) index free = by_known (s.known name) refl
  where
    by_copy : (c : Option (List ViewField)) → HasNo x (unwrap_or c []) → NotRef x (slice_get (unwrap_or (option_map (map value_in) c) []) index)
    by_copy None none = tt
    by_copy (Some fields) none = at_free x fields index none

    by_known : (k : Option Known) → s.known name ≡ k → NotRef x (slice_get (unwrap_or (fields_known k) []) index)
    by_known None is = tt
    by_known (Some k) is = by_copy k.copy (free name k is)

sum_free : (x : ℕ) (v : Option Val) (by : ℤ) → NotRef x (raised_by v by)
sum_free x None by = tt
sum_free x (Some v) by = by_sum (sum_of v by)
  where
    by_sum : (k : Option ℤ) → NotRef x (option_map (λ k. val.Int k) k)
    by_sum None = tt
    by_sum (Some k) = int_free x k

-- ## commands

-- an effect stores no reference to x
abbrev NoRefIn : ℕ → Effect → Type 0
NoRefIn x graph_effect.Nothing = Unit {0}
NoRefIn x (graph_effect.Makes register bunch size) = Unit {0}
NoRefIn x (graph_effect.Sets register v) = v ≢ val.Ref x
NoRefIn x (graph_effect.Stores name index v) = v ≢ val.Ref x
NoRefIn x (graph_effect.Holds name hold) = Unit {0}

storing_free : (x : ℕ) (name : Option ℕ) (index : ℕ) (v : Option Val) → NotRef x v → NoRefIn x (storing name index v)
storing_free x None index v none = tt
storing_free x (Some name) index None none = tt
storing_free x (Some name) index (Some v) none = none

setting_free : (x register : ℕ) (v : Option Val) → NotRef x v → NoRefIn x (setting register v)
setting_free x register None none = tt
setting_free x register (Some v) none = none

holding_free : (x : ℕ) (name : Option ℕ) (hold : _) → NoRefIn x (holding name hold)
holding_free x None hold = tt
holding_free x (Some name) hold = tt

effect_free : (st : Setting) (x me : ℕ) (s : NodeState) (c : Command) → IsUnborn st x → IsCommandOf st c → IsFree x s → NoRefIn x (effect (seen_graph me s) me c)
effect_free st x me s (command.New r b n) unborn of free = tt
effect_free st x me s (command.Copy r v) unborn of free = value_free st x me s v unborn of.1 free
effect_free st x me s (command.Drop r) unborn of free = null_free x
effect_free st x me s (command.Read on) unborn of free = holding_free x (target_of (seen_graph me s) me on) _
effect_free st x me s (command.Write on) unborn of free = holding_free x (target_of (seen_graph me s) me on) _
effect_free st x me s (command.Done on) unborn of free = holding_free x (target_of (seen_graph me s) me on) _
effect_free st x me s (command.Set on i v) unborn of free = storing_free x (target_of (seen_graph me s) me on) i (Some (value_of (seen_graph me s) me v)) (value_free st x me s v unborn of.1 free)
effect_free st x me s (command.Add on i by) unborn of free =
    let g : State = seen_graph me s in
    storing_free x (target_of g me on) i (raised_by (field_at g (target_of g me on) i) by) (sum_free x (field_at g (target_of g me on) i) by)
effect_free st x me s (command.Get r on i) unborn of free =
    let g : State = seen_graph me s in
    setting_free x r (field_at g (target_of g me on) i) (read_free x me s (target_of g me on) i free.fields)
effect_free st x me s (command.Show on i) unborn of free = tt
effect_free st x me s (command.Same a b) unborn of free = tt

nulls_free : (x size : ℕ) → HasNo x (replicate size field.Null)
nulls_free x zero = tt
nulls_free x (suc size) = ((λ e. cc), nulls_free x size)

-- where the changes leave x unknown
changed_free : (x me : ℕ) (s : NodeState) (e : Effect) → NoRefIn x e → FreeOf x s.known → Each (Spares x) (graph_changes me s e) → Each (Frees x) (graph_changes me s e)
changed_free x me s graph_effect.Nothing none free spares = tt
changed_free x me s (graph_effect.Makes register bunch size) none free spares =
    (nulls_free x size, ((λ e. spares.0 (sym (ref_is x (next_name me s) e))), (tt, tt)))
changed_free x me s (graph_effect.Sets register v) none free spares = (none, tt)
changed_free x me s (graph_effect.Stores name index v) none free spares = by_known (s.known name) refl
  where
    by_copy : (c : Option (List ViewField)) → HasNo x (unwrap_or c []) → HasNo x (unwrap_or (option_map (λ fields. slice_set fields index (field_of v)) c) [])
    by_copy None h = tt
    by_copy (Some fields) h = set_free x fields index (field_of v) h (field_free x v none)

    by_known : (k : Option Known) → s.known name ≡ k → Each (Frees x) (stored name k index v)
    by_known None is = tt
    by_known (Some k) is = (by_copy k.copy (free name k is), tt)
changed_free x me s (graph_effect.Holds name hold) none free spares = tt

graph_free : (st : Setting) (x me : ℕ) (s : NodeState) (c : Command) → IsUnborn st x → IsCommandOf st c → IsFree x s →
    Each (Spares x) (graph_rule me s c).changes → Each (Frees x) (graph_rule me s c).changes
graph_free st x me s c unborn of free = by_answer (answer_of (seen_graph me s) me c)
  where
    e : Effect
    e = effect (seen_graph me s) me c

    by_answer : (a : Answer) → Each (Spares x) (answered (graph_changes me s e) a).changes → Each (Frees x) (answered (graph_changes me s e) a).changes
    by_answer graph.Nil = changed_free x me s e (effect_free st x me s c unborn of free) free.fields
    by_answer (graph.Value v) = changed_free x me s e (effect_free st x me s c unborn of free) free.fields
    by_answer graph.Yes = changed_free x me s e (effect_free st x me s c unborn of free) free.fields
    by_answer graph.No = changed_free x me s e (effect_free st x me s c unborn of free) free.fields
    by_answer graph.Wait = λ _. tt
    by_answer (graph.Refused why) = λ _. tt

token_free : (x me : ℕ) (s : NodeState) (lies : ℕ → Place) (a : Operation) (name : Option ℕ) → FreeOf x s.known → Each (Frees x) (token_rule me s lies a name).changes
token_free x me s lies a None free = tt
token_free x me s lies a (Some name) free = act_free x me s lies a _ name (s.known name) refl free

either_free : (x : ℕ) (b : Bool) (o p : Reaction) → (Each (Spares x) o.changes → Each (Frees x) o.changes) → (Each (Spares x) p.changes → Each (Frees x) p.changes) →
    Each (Spares x) (cond b o p).changes → Each (Frees x) (cond b o p).changes
either_free x true o p h k = h
either_free x false o p h k = k

pub command_free : (st : Setting) (x me : ℕ) (s : NodeState) (full : Bool) (lies : ℕ → Place) (c : Command) (what : About) → IsUnborn st x → IsCommandOf st c → IsFree x s →
    Each (Spares x) (command_rule me s full lies c what).changes → Each (Frees x) (command_rule me s full lies c what).changes
command_free st x me s full lies c (Token a on) unborn of free = λ _. token_free x me s lies a (target_of (seen_graph me s) me on) free.fields
command_free st x me s full lies c (Fields on) unborn of free =
    either_free x (knows s (target_of (seen_graph me s) me on)) _ _ (graph_free st x me s c unborn of free) (λ _. tt)
command_free st x me s full lies c Making unborn of free = either_free x full _ _ (λ _. tt) (graph_free st x me s c unborn of free)
command_free st x me s full lies c Nothing unborn of free = graph_free st x me s c unborn of free

-- ## letters

told_free : (x from : ℕ) (fields : List Field) → Each (Spares x) (map (Hears from) (filter_map info_in fields)) → HasNo x (map heard_field fields)
told_free x from [] spares = tt
told_free x from (msg_field.Null ∷ fields) spares = ((λ e. cc), told_free x from fields spares)
told_free x from (msg_field.Int k ∷ fields) spares = ((λ e. cc), told_free x from fields spares)
told_free x from (msg_field.Ref info ∷ fields) spares = ((λ e. spares.0 (named e)), told_free x from fields spares.1)
  where
    named : field.Ref info.name ≡ field.Ref x → info.name ≡ x
    named e = cc

spares_left : (x : ℕ) (a b : List Change) → Each (Spares x) (a ++ b) → Each (Spares x) a
spares_left x [] b h = tt
spares_left x (c ∷ a) b h = (h.0, spares_left x a b h.1)

copy_told : (x from : ℕ) (m : Msg) (k : Option Known) → ((j : Known) → k ≡ Some j → NoRefs x j) → Each (Spares x) (map (Hears from) (infos m)) → HasNo x (unwrap_or (copy_after m k) [])
copy_told x from (msg.ReadReq name asker) None old spares = tt
copy_told x from (msg.ReadReq name asker) (Some k) old spares = old k refl
copy_told x from (msg.WriteReq name asker) None old spares = tt
copy_told x from (msg.WriteReq name asker) (Some k) old spares = old k refl
copy_told x from (msg.ReadGrant info fields) k old spares = told_free x from fields spares.1
copy_told x from (msg.WriteGrant info fields) k old spares = told_free x from fields spares.1
copy_told x from (msg.Inval name) None old spares = tt
copy_told x from (msg.Inval name) (Some k) old spares = old k refl
copy_told x from (msg.InvAck name) None old spares = tt
copy_told x from (msg.InvAck name) (Some k) old spares = old k refl

hears_free : (x from : ℕ) (more : List Info) → Each (Frees x) (map (Hears from) more)
hears_free x from [] = tt
hears_free x from (info ∷ more) = (tt, hears_free x from more)

got_free : (x from seq name : ℕ) (n : Note) → Each (Frees x) (got_change from seq name n)
got_free x from seq name (Asks m asker) = tt
got_free x from seq name (Grants mode.Read) = tt
got_free x from seq name (Grants mode.Write) = (tt, tt)
got_free x from seq name Recalls = tt
got_free x from seq name Returns = tt

pub take_free : (x me : ℕ) (s : NodeState) (lies : ℕ → Place) (from seq : ℕ) (m : Msg) → FreeOf x s.known →
    Each (Spares x) (take_rule me s lies from seq m).changes → Each (Frees x) (take_rule me s lies from seq m).changes
take_free x me s lies from seq m free = by_transition (s.known (name_in m)) refl _
  where
    by_transition : (k : Option Known) → s.known (name_in m) ≡ k → (t : Option Transition) → Each (Spares x) (took s lies from seq m k t).changes → Each (Frees x) (took s lies from seq m k t).changes
    by_transition k is None spares = tt
    by_transition k is (Some t) spares =
        each_append (Frees x) (map (Hears from) (infos m)) _ (hears_free x from (infos m))
        (each_append (Frees x) (known_change (name_in m) k (copy_after m k) t.after) _
        (known_free x (name_in m) k (copy_after m k) t.after (copy_told x from m k (λ j e. free (name_in m) j (is ∙ e)) (spares_left x (map (Hears from) (infos m)) _ spares)))
        (each_append (Frees x) (got_change from seq (name_in m) (note_in m)) (Takes from ∷ []) (got_free x from seq (name_in m) (note_in m)) (tt, tt)))
