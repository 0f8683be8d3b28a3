-- An object has one bunch: each entry, each record and each letter in flight that names it has that bunch, whatever a
-- node does.
use Rattle.std.proofs.Common.{◌≡◌, ℕ, ◌+◌, ◌||◌, refl, ap, sym, ◌∙◌, subst, Bool, true, false, cond, List, [], ◌∷◌, ◌++◌, map}
use Rattle.std.specs.Prelude.{◌==◌, Option, Some, None, IsSome, is_some, unwrap_or, filter_map}
use Rattle.std.specs.Option.{option_map, option_map_or}
use Rattle.std.specs.List.{list_any, flat_map}
use Rattle.bmx_types.specs.declared.numbers.Mode.TheVariants as mode
use Rattle.bmx_types.specs.declared.addresses.Info.{Info}
use Rattle.bmx_types.specs.declared.addresses.Place.{Place}
use Rattle.bmx_types.specs.declared.commands.Command.{Command}
use Rattle.bmx_types.specs.declared.values.Val.{Val}
use Rattle.bmx_types.specs.declared.values.Val.TheVariants as val
use Rattle.bmx_types.specs.Updates.{put, put_at}
use Rattle.bmx_graph.specs.Step.{answer_of, target_of, effect}
use Rattle.bmx_graph.specs.declared.answers.Answer.{Answer}
use Rattle.bmx_graph.specs.declared.answers.Answer.TheVariants as graph
use Rattle.bmx_graph.specs.declared.effects.Effect.{Effect}
use Rattle.bmx_graph.specs.declared.effects.Effect.TheVariants as graph_effect
use Rattle.bmx_msg.specs.declared.letters.Letter.{Letter}
use Rattle.bmx_msg.specs.declared.letters.Msg.{Msg}
use Rattle.bmx_msg.specs.Letters.{targets, given}
use Rattle.bmx_owner.specs.declared.entering.Record.{Record}
use Rattle.bmx_owner.specs.Records.{blank, sent_by, got_by}
use Rattle.bmx_token.specs.Transitions.{Share, Note, Asks, Grants, Recalls, Returns, Send, Transition, Operation, Serves, transition_of, note_transition}
use Rattle.bmx_token_model.specs.Machine.{is_grant}
use Rattle.bmx_protocol.specs.declared.inputs.Input.{Input}
use Rattle.bmx_protocol.specs.declared.inputs.Input.TheVariants as input
use Rattle.bmx_protocol.specs.declared.inputs.NodeAnswer.{NodeAnswer}
use Rattle.bmx_protocol.specs.declared.inputs.NodeAnswer.TheVariants as answer
use Rattle.bmx_protocol.specs.declared.views.ViewField.{ViewField}
use Rattle.bmx_protocol.specs.declared.views.ViewField.TheVariants as field
use Rattle.bmx_protocol.specs.Nodes.{Setting, NodeState, Known, share_of, seen_graph}
use Rattle.bmx_protocol.specs.Changes.{Change, Sets, Makes, Knows, Hears, Gives, Gets, Issues, Takes, heard_of, record_of, after_change, after_changes}
use Rattle.bmx_protocol.specs.Rules.{Draft, Reaction, only, info_of, told_field, told_fields, message, drafts_of, known_change, operation_answer, after_operation, operation_rule, About, Token, Fields, Making, Nothing, about, next_name, new_object, stored, graph_changes, answered, graph_rule, token_rule, knows, command_rule, name_in, note_in, info_in, infos, copy_after, got_change, took, take_rule}
use Rattle.bmx_protocol.specs.Strays.{is_bad_letter}
use Rattle.bmx_protocol.specs.Steps.{Told, rule, numbered, letters_of, sent_changes, changes_of, closed}
use Rattle.bmx_protocol.specs.Histories.{letters_to}
use Rattle.bmx_protocol.proofs.Basics.{eqb_of, Two, Same, Apart, two, Every, some_same, none_some}
use Rattle.bmx_protocol.proofs.Changing.{Each, each_append, kept_by_each}
use Rattle.bmx_collection.specs.Reach.{is_reference_to}
use Rattle.bmx_collection.proofs.References.{holds}
use Rattle.bmx_store_laws.proofs.Copies.{NoGrants, GrantsNothing, note_grants}

-- a record of x and a node, of the bunch
pub record IsRecordOf (b x node : ℕ) (r : Record) : Type 0 where
  pub of_bunch : r.bunch ≡ b
  pub of_name : r.name ≡ x
  pub of_node : r.from ≡ node

-- what a node knows of x, and its records of it, have the bunch
pub record SaysBunch (b x : ℕ) (s : NodeState) : Type 0 where
  pub entries : (k : Known) → s.known x ≡ Some k → k.bunch ≡ b
  pub records : (node : ℕ) (r : Record) → s.entering x node ≡ Some r → IsRecordOf b x node r

-- an Info of x has it
abbrev pub InfoOf : ℕ → ℕ → Info → Type 0
InfoOf b x info = info.name ≡ x → info.bunch ≡ b

abbrev pub LetterOf : ℕ → ℕ → Letter → Type 0
LetterOf b x l = Every (InfoOf b x) (infos l.msg)

-- ## changes

-- a change keeps the bunch, where x is known if it is given
abbrev pub ChangeOf : ℕ → ℕ → Type 0 → Change → Type 0
ChangeOf b x K (Sets register v) = Unit {0}
ChangeOf b x K Makes = Unit {0}
ChangeOf b x K (Knows name k) = name ≡ x → k.bunch ≡ b
ChangeOf b x K (Hears from info) = InfoOf b x info
ChangeOf b x K (Gives name to seq) = name ≡ x → K
ChangeOf b x K (Gets name from seq) = name ≡ x → K
ChangeOf b x K (Issues to) = Unit {0}
ChangeOf b x K (Takes from) = Unit {0}

-- a state has the bunch, and knows x if it was known
pub record Of (b x : ℕ) (K : Type 0) (s : NodeState) : Type 0 where
  pub says : SaysBunch b x s
  pub knows : K → IsSome (s.known x)

known_put : (b x name : ℕ) (K : Type 0) (s : NodeState) (k : Known) → (name ≡ x → k.bunch ≡ b) → Of b x K s → Of b x K (record s { known = put s.known name (Some k) })
known_put b x name K s k new old = by (two name x)
  where
    by : Two name x → Of b x K (record s { known = put s.known name (Some k) })
    by (Same e) = record {
      says = record {
        entries = λ j at. ap (λ (i : Known). i.bunch) (some_same (sym at ∙ (λ i. cond (eqb_of e i) (Some k) (s.known x)))) ∙ new e;
        records = old.says.records;
      };
      knows = λ known. (λ i. is_some (cond (eqb_of e i) (Some k) (s.known x)));
    }
    by (Apart h d) = record {
      says = record { entries = λ j at. old.says.entries j ((λ i. cond (sym h i) (Some k) (s.known x)) ∙ at); records = old.says.records };
      knows = λ known. (λ i. is_some (cond (h i) (Some k) (s.known x))) ∙ old.knows known;
    }

-- the record of x and a node that is written has the bunch
record_is : (b x node : ℕ) (K : Type 0) (s : NodeState) → K → Of b x K s → IsRecordOf b x node (record_of s x node)
record_is b x node K s known old = by (s.entering x node) refl (s.known x) refl
  where
    by : (o : Option Record) → s.entering x node ≡ o → (k : Option Known) → s.known x ≡ k →
        IsRecordOf b x node (unwrap_or o (blank x (option_map_or (λ (j : Known). j.bunch) k 0) node))
    by (Some r) at k is = old.says.records node r at
    by None at (Some k) is = record { of_bunch = old.says.entries k is; of_name = refl; of_node = refl }
    by None at None is = (let both : false ≡ true = sym (ap (λ (j : Option Known). is_some j) is) ∙ old.knows known in absurd cc)

record_put : (b x name node : ℕ) (s : NodeState) (r : Record) → (name ≡ x → IsRecordOf b x node r) → SaysBunch b x s →
    (m : ℕ) (q : Record) → put_at s.entering name node (Some r) x m ≡ Some q → IsRecordOf b x m q
record_put b x name node s r new old m q = by (two name x) (two node m)
  where
    by : Two name x → Two node m → put_at s.entering name node (Some r) x m ≡ Some q → IsRecordOf b x m q
    by (Same e) (Same f) at =
        subst (λ (z : ℕ). IsRecordOf b x z q) f
        (subst (IsRecordOf b x node) (some_same ((λ i. cond (sym (eqb_of f) i) (Some r) (s.entering name m)) ∙ (λ i. cond (sym (eqb_of e) i) (put (s.entering name) node (Some r)) (s.entering x) m) ∙ at)) (new e))
    by (Same e) (Apart h d) at =
        old.records m q ((λ i. s.entering (sym e i) m) ∙ (λ i. cond (sym h i) (Some r) (s.entering name m)) ∙ (λ i. cond (sym (eqb_of e) i) (put (s.entering name) node (Some r)) (s.entering x) m) ∙ at)
    by (Apart h d) other at = old.records m q ((λ i. cond (sym h i) (put (s.entering name) node (Some r)) (s.entering x) m) ∙ at)

change_of : (b x : ℕ) (K : Type 0) (s : NodeState) (c : Change) → ChangeOf b x K c → Of b x K s → Of b x K (after_change s c)
change_of b x K s (Sets register v) new old = record { says = record { entries = old.says.entries; records = old.says.records }; knows = old.knows }
change_of b x K s Makes new old = record { says = record { entries = old.says.entries; records = old.says.records }; knows = old.knows }
change_of b x K s (Knows name k) new old = known_put b x name K s k new old
change_of b x K s (Hears from info) new old = by (is_some (s.known info.name))
  where
    by : (t : Bool) → Of b x K (record s { known = cond t s.known (put s.known info.name (Some (heard_of from info))) })
    by true = old
    by false = known_put b x info.name K s (heard_of from info) new old
change_of b x K s (Gives name to seq) new old = record {
  says = record {
    entries = old.says.entries;
    records = record_put b x name to s (sent_by seq (record_of s name to))
        (λ e. (let r : IsRecordOf b x to (record_of s x to) = record_is b x to K s (new e) old in
        subst (λ (y : ℕ). IsRecordOf b x to (sent_by seq (record_of s y to))) (sym e) (record { of_bunch = r.of_bunch; of_name = r.of_name; of_node = r.of_node }))) old.says;
  };
  knows = old.knows;
}
change_of b x K s (Gets name from seq) new old = record {
  says = record {
    entries = old.says.entries;
    records = record_put b x name from s (got_by seq (record_of s name from))
        (λ e. (let r : IsRecordOf b x from (record_of s x from) = record_is b x from K s (new e) old in
        subst (λ (y : ℕ). IsRecordOf b x from (got_by seq (record_of s y from))) (sym e) (record { of_bunch = r.of_bunch; of_name = r.of_name; of_node = r.of_node }))) old.says;
  };
  knows = old.knows;
}
change_of b x K s (Issues to) new old = record { says = record { entries = old.says.entries; records = old.says.records }; knows = old.knows }
change_of b x K s (Takes from) new old = record { says = record { entries = old.says.entries; records = old.says.records }; knows = old.knows }

-- ## messages

-- a message tells of x with its bunch, and gives it only if it is known
pub record MsgOf (b x : ℕ) (K : Type 0) (m : Msg) : Type 0 where
  pub tells : Every (InfoOf b x) (infos m)
  pub gives : Every (λ name. name ≡ x → K) (given m)

abbrev pub DraftOf : ℕ → ℕ → Type 0 → Draft → Type 0
DraftOf b x K d = MsgOf b x K d.msg

-- what a rule makes keeps the bunch
pub record RuleOf (b x : ℕ) (K : Type 0) (o : Reaction) : Type 0 where
  pub changes : Each (ChangeOf b x K) o.changes
  pub drafts : Every (DraftOf b x K) o.drafts

-- x is made of the bunch, if these changes make it
abbrev pub MadeOf : ℕ → ℕ → ℕ → NodeState → List Change → Type 0
MadeOf b x me s changes = (k : Known) (rest : List Change) → changes ≡ Knows (next_name me s) k ∷ rest → next_name me s ≡ x → k.bunch ≡ b

none_of : (b x : ℕ) (K : Type 0) (a : NodeAnswer) → RuleOf b x K (only a)
none_of b x K a = record { changes = tt; drafts = tt }

gives_of : (b x to seq : ℕ) (K : Type 0) (names : List ℕ) → Every (λ name. name ≡ x → K) names → Each (ChangeOf b x K) (map (λ name. Gives name to seq) names)
gives_of b x to seq K [] h = tt
gives_of b x to seq K (name ∷ names) h = (h.0, gives_of b x to seq K names h.1)

sent_of : (b x stamp : ℕ) (K : Type 0) (counts : ℕ → ℕ) (drafts : List Draft) → Every (DraftOf b x K) drafts →
    Each (ChangeOf b x K) (flat_map sent_changes (numbered counts stamp drafts))
sent_of b x stamp K counts [] h = tt
sent_of b x stamp K counts (d ∷ drafts) h =
    each_append (ChangeOf b x K) (map (λ name. Gives name d.to (counts d.to + 1)) (given d.msg) ++ Issues d.to ∷ []) _
    (each_append (ChangeOf b x K) (map (λ name. Gives name d.to (counts d.to + 1)) (given d.msg)) (Issues d.to ∷ []) (gives_of b x d.to (counts d.to + 1) K (given d.msg) (h.0).gives) (tt, tt))
    (sent_of b x stamp K (put counts d.to (counts d.to + 1)) drafts h.1)

-- the letters of drafts
pub letters_tell : (b x stamp : ℕ) (K : Type 0) (counts : ℕ → ℕ) (drafts : List Draft) → Every (DraftOf b x K) drafts → (m : ℕ) →
    Every (LetterOf b x) (letters_to m (numbered counts stamp drafts))
letters_tell b x stamp K counts [] h m = tt
letters_tell b x stamp K counts (d ∷ drafts) h m = by (d.to == m) (letters_tell b x stamp K (put counts d.to (counts d.to + 1)) drafts h.1 m)
  where
    by : (t : Bool) → Every (LetterOf b x) (letters_to m (numbered (put counts d.to (counts d.to + 1)) stamp drafts)) →
        Every (LetterOf b x) (cond t (record { seq = counts d.to + 1; stamp = stamp; msg = d.msg } ∷ letters_to m (numbered (put counts d.to (counts d.to + 1)) stamp drafts))
        (letters_to m (numbered (put counts d.to (counts d.to + 1)) stamp drafts)))
    by true rest = ((h.0).tells, rest)
    by false rest = rest

-- a state after a rule that keeps the bunch
pub closed_says : (b x stamp : ℕ) (s : NodeState) (o : Reaction) → SaysBunch b x s → RuleOf b x (IsSome (s.known x)) o → SaysBunch b x (closed stamp s o)
closed_says b x stamp s o says r = (let all : Of b x (IsSome (s.known x)) (after_changes s (changes_of stamp s o)) =
    kept_by_each (Of b x (IsSome (s.known x))) (ChangeOf b x (IsSome (s.known x))) (λ u c new old. change_of b x (IsSome (s.known x)) u c new old) (changes_of stamp s o)
    (each_append (ChangeOf b x (IsSome (s.known x))) o.changes (flat_map sent_changes (letters_of stamp s o)) r.changes
    (sent_of b x stamp (IsSome (s.known x)) s.issued o.drafts r.drafts)) s (record { says = says; knows = λ known. known }) in
    record { entries = all.says.entries; records = all.says.records })

-- ## rules

module _ (b x me : ℕ) (s : NodeState) (lies : ℕ → Place) (says : SaysBunch b x s) (stands : (y z : ℕ) (j : Known) → s.known y ≡ Some j → holds j z ≡ true → IsSome (s.known z)) where
  abbrev K : Type 0
  K = IsSome (s.known x)

  -- an Info that a node makes of what it knows
  info_is : (y : ℕ) → IsSome (s.known y) → InfoOf b x (info_of s lies y)
  info_is y some e = by (s.known y) refl some
    where
      by : (k : Option Known) → s.known y ≡ k → IsSome k → option_map_or (λ (j : Known). j.bunch) k 0 ≡ b
      by (Some k) is some = says.entries k (subst (λ (z : ℕ). s.known z ≡ Some k) e is)
      by None is some = absurd cc

  -- fields of which each target is known
  abbrev AllKnown : List ViewField → Type 0
  AllKnown fields = (z : ℕ) → list_any (is_reference_to z) fields ≡ true → IsSome (s.known z)

  or_right : (a t : Bool) → t ≡ true → (a || t) ≡ true
  or_right true t e = refl
  or_right false t e = e

  fields_of : (fields : List ViewField) → AllKnown fields →
      Every (InfoOf b x) (filter_map info_in (map (told_field s lies) fields)) × Every (λ name. name ≡ x → K) (targets (map (told_field s lies) fields))
  fields_of [] known = (tt, tt)
  fields_of (field.Null ∷ fields) known = fields_of fields known
  fields_of (field.Int k ∷ fields) known = fields_of fields known
  fields_of (field.Ref y ∷ fields) known =
      let rest : Every (InfoOf b x) (filter_map info_in (map (told_field s lies) fields)) × Every (λ name. name ≡ x → K) (targets (map (told_field s lies) fields)) =
      fields_of fields (λ z e. known z (or_right (y == z) (list_any (is_reference_to z) fields) e)) in
      let here : IsSome (s.known y) = known y (λ i. eqb_of {a = y} {b = y} refl i || list_any (is_reference_to y) fields) in
      ((info_is y here, rest.0), ((λ e. subst (λ (z : ℕ). IsSome (s.known z)) e here), rest.1))

  -- the messages about an object that is known
  drafts_are : (y : ℕ) (k : Known) → s.known y ≡ Some k → (sends : List Send) → Every (DraftOf b x K) (drafts_of s lies y sends)
  drafts_are y k is [] = tt
  drafts_are y k is (n ∷ sends) = (by n.note, drafts_are y k is sends)
    where
      here : IsSome (s.known y)
      here = ap (λ (j : Option Known). is_some j) is

      targets_known : (c : Option (List ViewField)) → k.copy ≡ c → AllKnown (unwrap_or c [])
      targets_known None at z e = cc
      targets_known (Some fields) at z e = stands y z k is (ap (λ (o : Option (List ViewField)). option_map_or (list_any (is_reference_to z)) o false) at ∙ e)

      told : Every (InfoOf b x) (filter_map info_in (told_fields s lies y)) × Every (λ name. name ≡ x → K) (targets (told_fields s lies y))
      told = subst (λ (j : Option Known). Every (InfoOf b x) (filter_map info_in (map (told_field s lies) (option_map_or (λ (i : Known). unwrap_or i.copy []) j [])))
          × Every (λ name. name ≡ x → K) (targets (map (told_field s lies) (option_map_or (λ (i : Known). unwrap_or i.copy []) j [])))) (sym is)
          (fields_of (unwrap_or k.copy []) (targets_known k.copy refl))

      by : (note : Note) → MsgOf b x K (message (info_of s lies y) (told_fields s lies y) note)
      by (Asks mode.Read asker) = record { tells = tt; gives = tt }
      by (Asks mode.Write asker) = record { tells = tt; gives = tt }
      by (Grants mode.Read) = record { tells = (info_is y here, told.0); gives = ((λ e. subst (λ (z : ℕ). IsSome (s.known z)) e here), told.1) }
      by (Grants mode.Write) = record { tells = (info_is y here, told.0); gives = told.1 }
      by Recalls = record { tells = tt; gives = tt }
      by Returns = record { tells = tt; gives = tt }

  -- what a transition leaves of an object that is known
  known_of : (y : ℕ) (k : Option Known) (fields : Option (List ViewField)) (h : Option Share) → s.known y ≡ k → Each (ChangeOf b x K) (known_change y k fields h)
  known_of y None fields h is = tt
  known_of y (Some k) fields None is = tt
  known_of y (Some k) fields (Some h) is = ((λ e. says.entries k (subst (λ (z : ℕ). s.known z ≡ Some k) e is)), tt)

  operation_of : (a : Operation) (unknown : NodeAnswer) (y : ℕ) (k : Option Known) → s.known y ≡ k → RuleOf b x K (operation_rule me s lies a unknown y k)
  operation_of a unknown y None is = none_of b x K unknown
  operation_of a unknown y (Some k) is = by (transition_of me a (share_of k))
    where
      by : (t : Option Transition) → RuleOf b x K (after_operation s lies y k (operation_answer me a (share_of k)) t)
      by None = none_of b x K (operation_answer me a (share_of k))
      by (Some t) = record { changes = known_of y (Some k) k.copy t.after is; drafts = drafts_are y k is t.sends }

  stored_of : (y index : ℕ) (v : Val) (k : Option Known) → s.known y ≡ k → Each (ChangeOf b x K) (stored y k index v)
  stored_of y index v None is = tt
  stored_of y index v (Some k) is = ((λ e. says.entries k (subst (λ (z : ℕ). s.known z ≡ Some k) e is)), tt)

  effect_of : (e : Effect) → MadeOf b x me s (graph_changes me s e) → Each (ChangeOf b x K) (graph_changes me s e)
  effect_of graph_effect.Nothing made = tt
  effect_of (graph_effect.Makes register bunch size) made = ((λ e. made (new_object bunch size) (Sets register (val.Ref (next_name me s)) ∷ Makes ∷ []) refl e), (tt, (tt, tt)))
  effect_of (graph_effect.Sets register v) made = (tt, tt)
  effect_of (graph_effect.Stores name index v) made = stored_of name index v (s.known name) refl
  effect_of (graph_effect.Holds name hold) made = tt

  graph_of : (c : Command) → MadeOf b x me s (graph_rule me s c).changes → RuleOf b x K (graph_rule me s c)
  graph_of c = by (answer_of (seen_graph me s) me c)
    where
      e : Effect
      e = effect (seen_graph me s) me c

      by : (a : Answer) → MadeOf b x me s (answered (graph_changes me s e) a).changes → RuleOf b x K (answered (graph_changes me s e) a)
      by graph.Nil made = record { changes = effect_of e made; drafts = tt }
      by (graph.Value v) made = record { changes = effect_of e made; drafts = tt }
      by graph.Yes made = record { changes = effect_of e made; drafts = tt }
      by graph.No made = record { changes = effect_of e made; drafts = tt }
      by graph.Wait made = none_of b x K _
      by (graph.Refused why) made = none_of b x K _

  token_of : (a : Operation) (y : Option ℕ) → RuleOf b x K (token_rule me s lies a y)
  token_of a None = none_of b x K _
  token_of a (Some y) = operation_of a _ y (s.known y) refl

  either_of : (t : Bool) (p q : Reaction) → (MadeOf b x me s p.changes → RuleOf b x K p) → (MadeOf b x me s q.changes → RuleOf b x K q) →
      MadeOf b x me s (cond t p q).changes → RuleOf b x K (cond t p q)
  either_of true p q f g made = f made
  either_of false p q f g made = g made

  command_of : (full : Bool) (c : Command) (what : About) → MadeOf b x me s (command_rule me s full lies c what).changes → RuleOf b x K (command_rule me s full lies c what)
  command_of full c (Token a on) made = token_of a (target_of (seen_graph me s) me on)
  command_of full c (Fields on) made = either_of (knows s (target_of (seen_graph me s) me on)) _ _ (graph_of c) (λ none. none_of b x K _) made
  command_of full c Making made = either_of full _ _ (λ none. none_of b x K _) (graph_of c) made
  command_of full c Nothing made = graph_of c made

  -- ## letters

  hears_of : (from : ℕ) (more : List Info) → Every (InfoOf b x) more → Each (ChangeOf b x K) (map (Hears from) more)
  hears_of from [] h = tt
  hears_of from (info ∷ more) h = (h.0, hears_of from more h.1)

  -- who takes a note grants nothing, so tells of nothing and gives nothing
  mute_of : (y : ℕ) (sends : List Send) → NoGrants sends → Every (DraftOf b x K) (drafts_of s lies y sends)
  mute_of y [] none = tt
  mute_of y (n ∷ sends) none = (by n.note none.0, mute_of y sends none.1)
    where
      by : (note : Note) → is_grant note ≡ false → MsgOf b x K (message (info_of s lies y) (told_fields s lies y) note)
      by (Asks mode.Read asker) none = record { tells = tt; gives = tt }
      by (Asks mode.Write asker) none = record { tells = tt; gives = tt }
      by (Grants mode.Read) none = absurd cc
      by (Grants mode.Write) none = absurd cc
      by Recalls none = record { tells = tt; gives = tt }
      by Returns none = record { tells = tt; gives = tt }

  -- who takes ownership knows the object
  got_of : (from seq y : ℕ) (note : Note) (k : Option Known) (t : Transition) → s.known y ≡ k → note_transition me from note (option_map share_of k) ≡ Some t →
      Each (ChangeOf b x K) (got_change from seq y note)
  got_of from seq y (Asks m asker) k t is makes = tt
  got_of from seq y (Grants mode.Read) k t is makes = tt
  got_of from seq y (Grants mode.Write) None t is makes = none_some makes
  got_of from seq y (Grants mode.Write) (Some k) t is makes = ((λ e. subst (λ (z : ℕ). IsSome (s.known z)) e (ap (λ (j : Option Known). is_some j) is)), tt)
  got_of from seq y Recalls k t is makes = tt
  got_of from seq y Returns k t is makes = tt

  take_of : (from seq : ℕ) (m : Msg) → Every (InfoOf b x) (infos m) → RuleOf b x K (take_rule me s lies from seq m)
  take_of from seq m told = by (note_transition me from (note_in m) (option_map share_of (s.known (name_in m)))) refl (note_grants me from (note_in m) (option_map share_of (s.known (name_in m))))
    where
      by : (t : Option Transition) → note_transition me from (note_in m) (option_map share_of (s.known (name_in m))) ≡ t → GrantsNothing t →
          RuleOf b x K (took s lies from seq m (s.known (name_in m)) t)
      by None makes none = none_of b x K _
      by (Some t) makes none = record {
        changes = each_append (ChangeOf b x K) (map (Hears from) (infos m)) _ (hears_of from (infos m) told)
            (each_append (ChangeOf b x K) (known_change (name_in m) (s.known (name_in m)) (copy_after m (s.known (name_in m))) t.after) _
            (known_of (name_in m) (s.known (name_in m)) (copy_after m (s.known (name_in m))) t.after refl)
            (each_append (ChangeOf b x K) (got_change from seq (name_in m) (note_in m)) (Takes from ∷ [])
            (got_of from seq (name_in m) (note_in m) (s.known (name_in m)) t refl makes) (tt, tt)));
        drafts = mute_of (name_in m) t.sends none;
      }

-- the letter in an input tells of x with its bunch, where it isn't bad
abbrev pub InputOf : Setting → ℕ → ℕ → ℕ → NodeState → Told → Input → Type 0
InputOf st b x me s t (input.Do c) = Unit {0}
InputOf st b x me s t (input.Serve name) = Unit {0}
InputOf st b x me s t (input.Take from l) = (is_bad_letter st me s from l || t.clash) ≡ false → LetterOf b x l

pub rule_of : (st : Setting) (b x me : ℕ) (s : NodeState) (t : Told) (i : Input) → SaysBunch b x s →
    ((y z : ℕ) (j : Known) → s.known y ≡ Some j → holds j z ≡ true → IsSome (s.known z)) → InputOf st b x me s t i → MadeOf b x me s (rule st me s t i).changes →
    RuleOf b x (IsSome (s.known x)) (rule st me s t i)
rule_of st b x me s t (input.Do c) says stands told made = command_of b x me s t.lies says stands t.full c (about c) made
rule_of st b x me s t (input.Serve name) says stands told made = operation_of b x me s t.lies says stands Serves _ name (s.known name) refl
rule_of st b x me s t (input.Take from l) says stands told made = by (is_bad_letter st me s from l || t.clash) refl
  where
    by : (u : Bool) → (is_bad_letter st me s from l || t.clash) ≡ u → RuleOf b x (IsSome (s.known x)) (cond u (only answer.Stray) (take_rule me s t.lies from l.seq l.msg))
    by true e = none_of b x (IsSome (s.known x)) answer.Stray
    by false e = take_of b x me s t.lies says stands from l.seq l.msg (told e)
