-- What a rule is for one name: an operation of the model of one object, letters that may tell of it, or its making.
use Rattle.std.proofs.Common.{◌≡◌, ◌⊎◌, ℕ, ◌+◌, ◌≤◌, arith, refl, ap, sym, subst, ◌∙◌, Bool, true, false, cond, List, [], ◌∷◌, map}
use Rattle.std.specs.Prelude.{◌==◌, ◌≢◌, ◌&&◌, ◌||◌, Option, Some, None, is_some, slice_set, unwrap_or}
use Rattle.std.specs.Option.{option_map, option_map_or}
use Rattle.bmx_types.specs.declared.values.Val.{Val}
use Rattle.bmx_types.specs.declared.addresses.Info.{Info}
use Rattle.bmx_types.specs.declared.addresses.Place.{Place}
use Rattle.bmx_types.specs.declared.commands.Command.{Command}
use Rattle.bmx_types.specs.declared.numbers.Mode.TheVariants as mode
use Rattle.bmx_graph.specs.declared.answers.Answer.{Answer}
use Rattle.bmx_graph.specs.declared.answers.Answer.TheVariants as graph
use Rattle.bmx_graph.specs.Step.{answer_of, target_of, effect}
use Rattle.bmx_graph.specs.declared.effects.Effect.{Effect}
use Rattle.bmx_graph.specs.declared.effects.Effect.TheVariants as graph_effect
use Rattle.bmx_msg.specs.declared.letters.Field.{Field}
use Rattle.bmx_msg.specs.Letters.{targets}
use Rattle.bmx_token.specs.Transitions.{Share, Note, Asks, Grants, Recalls, Returns, Send, Transition, Operation, transition_of, made_share}
use Rattle.bmx_token_model.specs.Machine.{draft, is_grant}
use Rattle.bmx_protocol.specs.declared.inputs.NodeAnswer.{NodeAnswer}
use Rattle.bmx_protocol.specs.declared.views.ViewField.{ViewField}
use Rattle.bmx_protocol.specs.declared.views.ViewField.TheVariants as field
use Rattle.bmx_protocol.specs.Nodes.{NodeState, Known, seen_graph, share_of, with_field, field_of}
use Rattle.bmx_protocol.specs.Changes.{after_changes}
use Rattle.bmx_protocol.specs.Rules.{Draft, Reaction, only, info_of, told_field, told_fields, message, drafts_of, with_share, known_change, operation_answer, after_operation, operation_rule, About, Token, Fields, Making, Nothing, next_name, stored, graph_changes, answered, graph_rule, token_rule, knows, command_rule}
use Rattle.bmx_store_laws.specs.Inside.Seen.{has_name, seen_note, tells_of, seen_draft, seen_known}
use Rattle.bmx_protocol.proofs.Basics.{eqb_of, eqb_same, Two, Same, Apart, two}
use Rattle.bmx_store_laws.proofs.Shares.{shares_after}
use Rattle.bmx_store_laws.proofs.Copies.{IsCopied, act_copied, share_again, NoGrants}

-- ## fields that refer to a name

-- no field refers to x
abbrev pub HasNo : ℕ → List ViewField → Type 0
HasNo x [] = Unit {0}
HasNo x (f ∷ fields) = (f ≢ field.Ref x) × HasNo x fields

-- no field of a copy refers to x
abbrev pub NoRefs : ℕ → Known → Type 0
NoRefs x k = HasNo x (unwrap_or k.copy [])

-- no copy of what is known has a field that refers to x
abbrev pub FreeOf : ℕ → (ℕ → Option Known) → Type 0
FreeOf x known = (y : ℕ) (k : Known) → known y ≡ Some k → NoRefs x k

-- what no field refers to isn't told of
none_told : (x : ℕ) (s : NodeState) (lies : ℕ → Place) (fields : List ViewField) → HasNo x fields → has_name x (targets (map (told_field s lies) fields)) ≡ false
none_told x s lies [] h = refl
none_told x s lies (field.Null ∷ fields) h = none_told x s lies fields h.1
none_told x s lies (field.Int k ∷ fields) h = none_told x s lies fields h.1
none_told x s lies (field.Ref name ∷ fields) h = by_two (two name x) (none_told x s lies fields h.1)
  where
    by_two : Two name x → has_name x (targets (map (told_field s lies) fields)) ≡ false →
        ((name == x) || has_name x (targets (map (told_field s lies) fields))) ≡ false
    by_two (Same e) rest = absurd (h.0 (ap (λ (y : ℕ). field.Ref y) e))
    by_two (Apart f d) rest = λ i. f i || rest i

none_told_at : (x name : ℕ) (s : NodeState) (lies : ℕ → Place) → FreeOf x s.known → has_name x (targets (told_fields s lies name)) ≡ false
none_told_at x name s lies free = by_known (s.known name) refl
  where
    by_known : (k : Option Known) → s.known name ≡ k →
        has_name x (targets (map (told_field s lies) (option_map_or (λ (j : Known). unwrap_or j.copy []) k []))) ≡ false
    by_known None is = refl
    by_known (Some k) is = none_told x s lies (unwrap_or k.copy []) (free name k is)

-- ## what messages are for a name

note_seen : (x : ℕ) (info : Info) (fields : List Field) (n : Note) → seen_note x (message info fields n) ≡ cond (info.name == x) (Some n) None
note_seen x info fields (Asks mode.Read asker) = refl
note_seen x info fields (Asks mode.Write asker) = refl
note_seen x info fields (Grants mode.Read) = refl
note_seen x info fields (Grants mode.Write) = refl
note_seen x info fields Recalls = refl
note_seen x info fields Returns = refl

and_false : (b : Bool) → false ≡ (b && false)
and_false true = refl
and_false false = refl

and_true : (b : Bool) → b ≡ (b && true)
and_true true = refl
and_true false = refl

tells_seen : (x : ℕ) (info : Info) (fields : List Field) (n : Note) → tells_of x (message info fields n) ≡ (has_name x (targets fields) && is_grant n)
tells_seen x info fields (Asks mode.Read asker) = and_false (has_name x (targets fields))
tells_seen x info fields (Asks mode.Write asker) = and_false (has_name x (targets fields))
tells_seen x info fields (Grants mode.Read) = and_true (has_name x (targets fields))
tells_seen x info fields (Grants mode.Write) = and_true (has_name x (targets fields))
tells_seen x info fields Recalls = and_false (has_name x (targets fields))
tells_seen x info fields Returns = and_false (has_name x (targets fields))

-- notes on x are seen as they are
pub drafts_same : (x : ℕ) (s : NodeState) (lies : ℕ → Place) (sends : List Send) →
    map (seen_draft x) (drafts_of s lies x sends) ≡ map (draft (has_name x (targets (told_fields s lies x)))) sends
drafts_same x s lies [] = refl
drafts_same x s lies (n ∷ sends) = λ i.
    record {
      to = n.to;
      note = (note_seen x (info_of s lies x) (told_fields s lies x) n.note ∙ (λ j. cond (eqb_same x j) (Some n.note) None)) i;
      tells = tells_seen x (info_of s lies x) (told_fields s lies x) n.note i;
    } ∷ drafts_same x s lies sends i

-- a message about another object: it tells of x only where something refers to x
pub record MayTell (x : ℕ) (s : NodeState) (d : Draft) : Type 0 where
  pub note : seen_note x d.msg ≡ None
  pub none : FreeOf x s.known → tells_of x d.msg ≡ false

abbrev pub OnlyTell : ℕ → NodeState → List Draft → Type 0
OnlyTell x s [] = Unit {0}
OnlyTell x s (d ∷ drafts) = MayTell x s d × OnlyTell x s drafts

pub drafts_apart : (x name : ℕ) (s : NodeState) (lies : ℕ → Place) (sends : List Send) → (name == x) ≡ false → OnlyTell x s (drafts_of s lies name sends)
drafts_apart x name s lies [] h = tt
drafts_apart x name s lies (n ∷ sends) h = (
  record {
    note = note_seen x (info_of s lies name) (told_fields s lies name) n.note ∙ (λ i. cond (h i) (Some n.note) None);
    none = λ free. tells_seen x (info_of s lies name) (told_fields s lies name) n.note ∙ (λ i. none_told_at x name s lies free i && is_grant n.note);
  },
  drafts_apart x name s lies sends h,
)

-- messages that say nothing of x
pub record IsSilentOn (x : ℕ) (d : Draft) : Type 0 where
  pub note : seen_note x d.msg ≡ None
  pub tells : tells_of x d.msg ≡ false

abbrev pub Silent : ℕ → List Draft → Type 0
Silent x [] = Unit {0}
Silent x (d ∷ drafts) = IsSilentOn x d × Silent x drafts

pub notes_silent : (x name : ℕ) (s : NodeState) (lies : ℕ → Place) (sends : List Send) → (name == x) ≡ false → NoGrants sends → Silent x (drafts_of s lies name sends)
notes_silent x name s lies [] h none = tt
notes_silent x name s lies (n ∷ sends) h none = (
  record {
    note = note_seen x (info_of s lies name) (told_fields s lies name) n.note ∙ (λ i. cond (h i) (Some n.note) None);
    tells = tells_seen x (info_of s lies name) (told_fields s lies name) n.note
        ∙ ap (λ (b : Bool). has_name x (targets (told_fields s lies name)) && b) none.0 ∙ sym (and_false _);
  },
  notes_silent x name s lies sends h none.1,
)

-- ## what a rule is for a name

-- for x it is an operation of the model, or nothing but that letters may tell of it, or its making
pub data Did (x me : ℕ) (s : NodeState) (o : Reaction) : Type 0 where
  Acts : (refers : Bool) (a : Operation) (h : Share) (t : Transition) → seen_known (s.known x) ≡ Some h → transition_of me a h ≡ Some t →
      shares_after x (seen_known (s.known x)) o.changes ≡ t.after → map (seen_draft x) o.drafts ≡ map (draft refers) t.sends → Did x me s o
  Passes : shares_after x (seen_known (s.known x)) o.changes ≡ seen_known (s.known x) → OnlyTell x s o.drafts → Did x me s o
  Makes : x ≡ next_name me s → shares_after x (seen_known (s.known x)) o.changes ≡ Some made_share → o.drafts ≡ [] → (after_changes s o.changes).made ≡ s.made + 1 → Did x me s o

pub known_apart : (x name : ℕ) (k : Option Known) (fields : Option (List ViewField)) (h g : Option Share) → (name == x) ≡ false → shares_after x g (known_change name k fields h) ≡ g
known_apart x name None fields h g apart = refl
known_apart x name (Some k) fields None g apart = refl
known_apart x name (Some k) fields (Some h) g apart = λ i. cond (apart i) (Some (share_of (with_share k fields h))) g

pub known_same : (x : ℕ) (k : Known) (fields : Option (List ViewField)) (h : Share) (g : Option Share) → (h.copy ≡ is_some fields) ⊎ (h.copy ≡ false) →
    shares_after x g (known_change x (Some k) fields (Some h)) ≡ Some h
known_same x k fields h g kept = (λ i. cond (eqb_same x i) (Some (share_of (with_share k fields h))) g) ∙ ap Some (share_again k fields h kept)

act_did : (x me : ℕ) (s : NodeState) (lies : ℕ → Place) (a : Operation) (unknown : NodeAnswer) (name : ℕ) (k : Option Known) → s.known name ≡ k →
    Did x me s (operation_rule me s lies a unknown name k)
act_did x me s lies a unknown name None is = Passes refl tt
act_did x me s lies a unknown name (Some k) is = by_transition (transition_of me a (share_of k)) refl (act_copied me a (share_of k)) (two name x)
  where
    by_transition : (t : Option Transition) → transition_of me a (share_of k) ≡ t → IsCopied (is_some k.copy) t → Two name x →
        Did x me s (after_operation s lies name k (operation_answer me a (share_of k)) t)
    by_transition None does copied q = Passes refl tt
    by_transition (Some t) does copied (Apart h d) = Passes (known_apart x name (Some k) k.copy t.after (seen_known (s.known x)) h) (drafts_apart x name s lies t.sends h)
    by_transition (Some t) does copied (Same e) = subst (λ (y : ℕ). Did y me s (after_operation s lies name k (operation_answer me a (share_of k)) (Some t))) e
        (Acts (has_name name (targets (told_fields s lies name))) a (share_of k) t (ap seen_known is) does
        (ap (λ (h : Option Share). shares_after name (seen_known (s.known name)) (known_change name (Some k) k.copy h)) copied.1
        ∙ known_same name k k.copy copied.0 (seen_known (s.known name)) copied.2 ∙ sym copied.1)
        (drafts_same name s lies t.sends))

-- ## commands

copy_kept : (index : ℕ) (v : Val) (k : Known) → share_of (with_field index v k) ≡ share_of k
copy_kept index v k = λ i. record { copy = by_copy k.copy i; part = k.part }
  where
    by_copy : (c : Option (List ViewField)) → is_some (option_map (λ fields. slice_set fields index (field_of v)) c) ≡ is_some c
    by_copy None = refl
    by_copy (Some fields) = refl

effect_passes : (x me : ℕ) (s : NodeState) (name index : ℕ) (v : Val) (k : Option Known) → s.known name ≡ k →
    shares_after x (seen_known (s.known x)) (stored name k index v) ≡ seen_known (s.known x)
effect_passes x me s name index v None is = refl
effect_passes x me s name index v (Some k) is = by_two (two name x)
  where
    by_two : Two name x → cond (name == x) (Some (share_of (with_field index v k))) (seen_known (s.known x)) ≡ seen_known (s.known x)
    by_two (Same e) = (λ i. cond (eqb_of e i) (Some (share_of (with_field index v k))) (seen_known (s.known x)))
        ∙ ap Some (copy_kept index v k) ∙ sym (ap seen_known is) ∙ ap (λ (y : ℕ). seen_known (s.known y)) e
    by_two (Apart h d) = λ i. cond (h i) (Some (share_of (with_field index v k))) (seen_known (s.known x))

-- an outcome with these changes and no message
effect_did : (x me : ℕ) (s : NodeState) (e : Effect) (a : NodeAnswer) → Did x me s (record { changes = graph_changes me s e; drafts = []; answer = a })
effect_did x me s graph_effect.Nothing a = Passes refl tt
effect_did x me s (graph_effect.Makes register bunch size) a = by_two (two (next_name me s) x)
  where
    by_two : Two (next_name me s) x → Did x me s (record { changes = graph_changes me s (graph_effect.Makes register bunch size); drafts = []; answer = a })
    by_two (Same e) = Makes (sym e) (λ i. cond (eqb_of e i) (Some made_share) (seen_known (s.known x))) refl refl
    by_two (Apart h d) = Passes (λ i. cond (h i) (Some made_share) (seen_known (s.known x))) tt
effect_did x me s (graph_effect.Sets register v) a = Passes refl tt
effect_did x me s (graph_effect.Stores name index v) a = Passes (effect_passes x me s name index v (s.known name) refl) tt
effect_did x me s (graph_effect.Holds name hold) a = Passes refl tt

graph_did : (x me : ℕ) (s : NodeState) (c : Command) → Did x me s (graph_rule me s c)
graph_did x me s c = by_answer (answer_of (seen_graph me s) me c)
  where
    by_answer : (a : Answer) → Did x me s (answered (graph_changes me s (effect (seen_graph me s) me c)) a)
    by_answer graph.Nil = effect_did x me s (effect (seen_graph me s) me c) _
    by_answer (graph.Value v) = effect_did x me s (effect (seen_graph me s) me c) _
    by_answer graph.Yes = effect_did x me s (effect (seen_graph me s) me c) _
    by_answer graph.No = effect_did x me s (effect (seen_graph me s) me c) _
    by_answer graph.Wait = Passes refl tt
    by_answer (graph.Refused why) = Passes refl tt

either_did : (x me : ℕ) (s : NodeState) (b : Bool) (o p : Reaction) → Did x me s o → Did x me s p → Did x me s (cond b o p)
either_did x me s true o p h k = h
either_did x me s false o p h k = k

token_did : (x me : ℕ) (s : NodeState) (lies : ℕ → Place) (a : Operation) (name : Option ℕ) → Did x me s (token_rule me s lies a name)
token_did x me s lies a None = Passes refl tt
token_did x me s lies a (Some name) = act_did x me s lies a _ name (s.known name) refl

pub command_did : (x me : ℕ) (s : NodeState) (full : Bool) (lies : ℕ → Place) (c : Command) (what : About) → Did x me s (command_rule me s full lies c what)
command_did x me s full lies c (Token a on) = token_did x me s lies a (target_of (seen_graph me s) me on)
command_did x me s full lies c (Fields on) =
    either_did x me s (knows s (target_of (seen_graph me s) me on)) _ _ (graph_did x me s c) (Passes refl tt)
command_did x me s full lies c Making = either_did x me s full _ _ (Passes refl tt) (graph_did x me s c)
command_did x me s full lies c Nothing = graph_did x me s c

pub serve_did : (x me : ℕ) (s : NodeState) (lies : ℕ → Place) (a : Operation) (unknown : NodeAnswer) (name : ℕ) → Did x me s (operation_rule me s lies a unknown name (s.known name))
serve_did x me s lies a unknown name = act_did x me s lies a unknown name (s.known name) refl

-- ## what a rule without a letter leaves

-- records and what was taken stay, and at most one name was made
pub record IsQuiet (s : NodeState) (o : Reaction) : Type 0 where
  pub entering : (after_changes s o.changes).entering ≡ s.entering
  pub taken : (after_changes s o.changes).taken ≡ s.taken
  pub at_least : s.made ≤ (after_changes s o.changes).made
  pub at_most : (after_changes s o.changes).made ≤ s.made + 1

none_quiet : (s : NodeState) (a : NodeAnswer) → IsQuiet s (only a)
none_quiet s a = record { entering = refl; taken = refl; at_least = omega arith; at_most = omega arith }

known_quiet : (s : NodeState) (name : ℕ) (k : Option Known) (fields : Option (List ViewField)) (h : Option Share) (drafts : List Draft) (a : NodeAnswer) →
    IsQuiet s (record { changes = known_change name k fields h; drafts = drafts; answer = a })
known_quiet s name None fields h drafts a = record { entering = refl; taken = refl; at_least = omega arith; at_most = omega arith }
known_quiet s name (Some k) fields None drafts a = record { entering = refl; taken = refl; at_least = omega arith; at_most = omega arith }
known_quiet s name (Some k) fields (Some h) drafts a = record { entering = refl; taken = refl; at_least = omega arith; at_most = omega arith }

pub act_quiet : (me : ℕ) (s : NodeState) (lies : ℕ → Place) (a : Operation) (unknown : NodeAnswer) (name : ℕ) (k : Option Known) → IsQuiet s (operation_rule me s lies a unknown name k)
act_quiet me s lies a unknown name None = none_quiet s unknown
act_quiet me s lies a unknown name (Some k) = by_transition (transition_of me a (share_of k))
  where
    by_transition : (t : Option Transition) → IsQuiet s (after_operation s lies name k (operation_answer me a (share_of k)) t)
    by_transition None = none_quiet s _
    by_transition (Some t) = known_quiet s name (Some k) k.copy t.after (drafts_of s lies name t.sends) _

effect_quiet : (me : ℕ) (s : NodeState) (e : Effect) (a : NodeAnswer) → IsQuiet s (record { changes = graph_changes me s e; drafts = []; answer = a })
effect_quiet me s graph_effect.Nothing a = record { entering = refl; taken = refl; at_least = omega arith; at_most = omega arith }
effect_quiet me s (graph_effect.Makes register bunch size) a = record { entering = refl; taken = refl; at_least = omega arith; at_most = omega arith }
effect_quiet me s (graph_effect.Sets register v) a = record { entering = refl; taken = refl; at_least = omega arith; at_most = omega arith }
effect_quiet me s (graph_effect.Stores name index v) a = by_known (s.known name)
  where
    by_known : (k : Option Known) → IsQuiet s (record { changes = stored name k index v; drafts = []; answer = a })
    by_known None = record { entering = refl; taken = refl; at_least = omega arith; at_most = omega arith }
    by_known (Some k) = record { entering = refl; taken = refl; at_least = omega arith; at_most = omega arith }
effect_quiet me s (graph_effect.Holds name hold) a = record { entering = refl; taken = refl; at_least = omega arith; at_most = omega arith }

graph_quiet : (me : ℕ) (s : NodeState) (c : Command) → IsQuiet s (graph_rule me s c)
graph_quiet me s c = by_answer (answer_of (seen_graph me s) me c)
  where
    by_answer : (a : Answer) → IsQuiet s (answered (graph_changes me s (effect (seen_graph me s) me c)) a)
    by_answer graph.Nil = effect_quiet me s (effect (seen_graph me s) me c) _
    by_answer (graph.Value v) = effect_quiet me s (effect (seen_graph me s) me c) _
    by_answer graph.Yes = effect_quiet me s (effect (seen_graph me s) me c) _
    by_answer graph.No = effect_quiet me s (effect (seen_graph me s) me c) _
    by_answer graph.Wait = none_quiet s _
    by_answer (graph.Refused why) = none_quiet s _

either_quiet : (s : NodeState) (b : Bool) (o p : Reaction) → IsQuiet s o → IsQuiet s p → IsQuiet s (cond b o p)
either_quiet s true o p h k = h
either_quiet s false o p h k = k

token_quiet : (me : ℕ) (s : NodeState) (lies : ℕ → Place) (a : Operation) (name : Option ℕ) → IsQuiet s (token_rule me s lies a name)
token_quiet me s lies a None = none_quiet s _
token_quiet me s lies a (Some name) = act_quiet me s lies a _ name (s.known name)

pub command_quiet : (me : ℕ) (s : NodeState) (full : Bool) (lies : ℕ → Place) (c : Command) (what : About) → IsQuiet s (command_rule me s full lies c what)
command_quiet me s full lies c (Token a on) = token_quiet me s lies a (target_of (seen_graph me s) me on)
command_quiet me s full lies c (Fields on) = either_quiet s (knows s (target_of (seen_graph me s) me on)) _ _ (graph_quiet me s c) (none_quiet s _)
command_quiet me s full lies c Making = either_quiet s full _ _ (none_quiet s _) (graph_quiet me s c)
command_quiet me s full lies c Nothing = graph_quiet me s c
