-- A node's part of the graph: its registers, what it holds, how many names it made, and its copies, which have the fields of
-- the graph. What changes of a node, effects of its commands on the graph, and transitions of its tokens make of it.
use Rattle.bmx_store_laws.proofs.Words.{◌≡◌, ℕ, refl, ap, ◌∙◌, Bool, true, false, cond, List, [], ◌∷◌, map, arith, zero, suc, ◌⊎◌, nat_tests, map-set, option_map, option_map_or, Option, Some, None, is_some, unwrap_or, replicate, ◌==◌, Info, Place}
use Rattle.bmx_store_laws.proofs.Words.{Command, Operand, Mode, Write, Val, Field, Msg, State, value_of, reference, target_of, changed, Effect, MakesOne, Stores, Holds, acquire, release, Share, Note, Send, Transition, transition_of, Serves}
use Rattle.bmx_store_laws.proofs.Words.{note_transition, Acquire, Release, Part, Owner, none_some, Every, Each, kept_by_each, each_append, Knows, after_changes, Change, Sets, Hears, NodeState, Known, fields_known, value_in, seen_graph, share_of}
use Rattle.bmx_store_laws.proofs.Words.{field_of, Draft, Reaction, drafts_of, told_fields, grant_in, operation_rule, next_name, graph_changes, name_in, note_in, copy_after, took, told_field, heard_field, infos, known_change, ViewField, some_is}
use Rattle.bmx_store_laws.proofs.Words.{taking_each, IfSome, ◌≢◌, some_or_none, inl, inr, option_and_then, some_same}
use Rattle.bmx_store_laws.proofs.Words.val
use Rattle.bmx_store_laws.proofs.Words.graph_step
use Rattle.bmx_store_laws.proofs.Words.acquire_is
use Rattle.bmx_store_laws.proofs.Words.release_is
use Rattle.bmx_store_laws.proofs.Words.answer
use Rattle.bmx_store_laws.proofs.Words.field
use Rattle.std.proofs.lemmas.Simd.{map-map}
use Rattle.bmx_protocol.specs.Changes.{Makes}
use Rattle.bmx_coherence.specs.Waits.{taking}

-- how a node holds an object, and in which mode it wants it
abbrev pub held_of : Option Known → Option Mode
held_of k = option_map_or (λ j. j.part.held) k None

abbrev pub want_of : Option Known → Option Mode
want_of k = option_map_or (λ j. j.part.want) k None

-- what is held or wanted in a mode is known
pub known_of : (of : Known → Option Mode) (k : Option Known) (m : Mode) → option_map_or of k None ≡ Some m → (j : Known) × (k ≡ Some j) × (of j ≡ Some m)
known_of of None m e = none_some e
known_of of (Some j) m e = (j, refl, e)

-- what is known of x is as the graph has it: how it is held, and the fields of a copy; and it is wanted in this mode
pub record FitsAt (me : ℕ) (g : State) (wanted : Option Mode) (x : ℕ) (k : Option Known) : Type 0 where
  pub held : held_of k ≡ g.held me x
  pub want : want_of k ≡ wanted
  pub fields : (l : List Val) → fields_known k ≡ Some l → g.object x ≡ Some l

-- a node's state is its part of the graph, and it wants objects in these modes
pub record IsPart (me : ℕ) (s : NodeState) (g : State) (wanted : ℕ → Option Mode) : Type 0 where
  pub register : (r : ℕ) → s.register r ≡ g.register me r
  pub known : (x : ℕ) → FitsAt me g (wanted x) x (s.known x)
  pub made : s.made ≡ g.made me

-- nothing is wanted
abbrev pub nothing : ℕ → Option Mode
nothing y = None

pub fits_else : {me x : ℕ} {g next : State} {v u : Option Mode} {k : Option Known} → FitsAt me g v x k → g.held me x ≡ next.held me x → v ≡ u →
    ((l : List Val) → fields_known k ≡ Some l → next.object x ≡ g.object x) → FitsAt me next u x k
fits_else f held want objects = record { held = f.held ∙ held; want = f.want ∙ want; fields = λ l has. objects l has ∙ f.fields l has }

-- ## changes without an effect on the graph

-- a change that leaves the part as the graph has it, and what is wanted
abbrev pub Leaves : ℕ → State → (ℕ → Option Mode) → Change → Type 0
Leaves me g v (Sets register value) = ⊥
Leaves me g v Makes = ⊥
Leaves me g v (Knows name k) = FitsAt me g (v name) name (Some k)
Leaves me g v _ = Unit {0}

pub parts_left : (me : ℕ) (g : State) (v : ℕ → Option Mode) (changes : List Change) → Each (Leaves me g v) changes → (s : NodeState) → IsPart me s g v → IsPart me (after_changes s changes) g v
parts_left me g v = kept_by_each (λ s. IsPart me s g v) (Leaves me g v) (λ s c leaves p. record {
  register = λ r. grind (arith, nat_tests, p.register r);
  known = λ x. record { held = grind (arith, nat_tests, (p.known x).held); want = grind (arith, nat_tests, (p.known x).want); fields = λ l h. grind (arith, nat_tests, (p.known x).fields) };
  made = grind (arith, nat_tests, p.made);
})

-- a transition leaves the fields of a copy, or takes the copy away
pub fields_kept : (copy : Option (List ViewField)) (b : Bool) (fields : List Val) → option_map (map value_in) (cond b copy None) ≡ Some fields → option_map (map value_in) copy ≡ Some fields
fields_kept copy b fields h = grind arith

-- ## effects at the node

values_same : (v : Val) → value_in (field_of v) ≡ v
values_same v = grind arith

pub values_again : (fields : List Val) → map value_in (map field_of fields) ≡ fields
values_again [] = refl
values_again (v ∷ fields) = λ i. values_same v i ∷ values_again fields i

nulls : (size : ℕ) → map value_in (replicate size field.Null) ≡ replicate size val.Null
nulls zero = refl
nulls (suc size) = ap (λ (l : List Val). val.Null ∷ l) (nulls size)

-- a new name isn't known yet, and what a store is about is known
abbrev pub IsReadyFor : ℕ → NodeState → Effect → Type 0
IsReadyFor me s (MakesOne register bunch size) = s.known (next_name me s) ≡ None
IsReadyFor me s (Stores name index v) = is_some (s.known name) ≡ true
IsReadyFor me s (Holds name hold) = ⊥
IsReadyFor me s _ = Unit {0}

-- a store is of an object that the node holds for writing
abbrev pub IsOwnStore : ℕ → State → Effect → Type 0
IsOwnStore me g (Stores name index v) = g.held me name ≡ Some Write
IsOwnStore me g _ = Unit {0}

-- what an effect of a command that is about no token changes at the node is what it changes in the graph
pub effect_part : (me : ℕ) (s : NodeState) (g : State) (e : Effect) → IsReadyFor me s e → IsPart me s g nothing → IsPart me (after_changes s (graph_changes me s e)) (changed g me e) nothing
effect_part me s g e ready p = record {
  register = λ r. grind (arith, nat_tests, p.register r, p.made);
  known = λ x. record {
    held = grind (arith, nat_tests, (p.known x).held);
    want = grind (arith, nat_tests, (p.known x).want);
    fields = λ l h. grind (arith, nat_tests, (p.known x).fields, p.made, nulls, map-set, values_same);
  };
  made = grind (arith, nat_tests, p.made);
}

-- ## what is waited for

-- what an operand stands for at a node it is for what the node sees, and so it means the same
pub seen_value : (me : ℕ) (s : NodeState) (g : State) (v : ℕ → Option Mode) → IsPart me s g v → (on : Operand) → value_of (seen_graph me s) me on ≡ value_of g me on
seen_value me s g v p on = grind (arith, p.register)

pub seen_target : (me : ℕ) (s : NodeState) (g : State) (v : ℕ → Option Mode) → IsPart me s g v → (on : Operand) → target_of (seen_graph me s) me on ≡ target_of g me on
seen_target me s g v p on = ap reference (seen_value me s g v p on)

-- the token of what an operand means at a node, that which a command takes, and that of the command with which the node waits
abbrev pub taken_at : State → ℕ → Option (Mode × Operand) → Option (Mode × ℕ)
taken_at g me t = option_and_then (λ p. option_map (λ x. (p.0, x)) (target_of g me p.1)) t

abbrev pub waited : State → ℕ → Option Command → Option (Mode × ℕ)
waited g me w = option_and_then (λ c. taken_at g me (taking c)) w

-- the mode in which a name is wanted where that token is
abbrev pub wanted_at : Option (Mode × ℕ) → ℕ → Option Mode
wanted_at t y = option_and_then (λ p. cond (p.1 == y) (Some p.0) None) t

abbrev pub wants : State → ℕ → Option Command → ℕ → Option Mode
wants g me w = wanted_at (waited g me w)

-- a node waits with a command that takes a token, and doesn't hold it
pub record IsWaiting (g : State) (me : ℕ) (c : Command) : Type 0 where
  pub mode : Mode
  pub name : ℕ
  pub operand : Operand
  pub takes : taking c ≡ Some (mode, operand)
  pub means : target_of g me operand ≡ Some name
  pub unheld : g.held me name ≡ None

pub waiting_token : (g : State) (me : ℕ) (c : Command) (i : IsWaiting g me c) → waited g me (Some c) ≡ Some (i.mode, i.name)
waiting_token g me c i = ap (taken_at g me) i.takes ∙ ap (option_map (λ (x : ℕ). (i.mode, x))) i.means

-- ## effects elsewhere

-- an effect is about another object than x, or none
abbrev pub IsBeside : State → ℕ → ℕ → Effect → Type 0
IsBeside g me x (MakesOne register bunch size) = graph_step.next_name g me ≢ x
IsBeside g me x (Stores name index v) = name ≢ x
IsBeside g me x _ = Unit {0}

-- it leaves the fields of x
pub object_kept : (g : State) (me x : ℕ) (e : Effect) → IsBeside g me x e → (changed g me e).object x ≡ g.object x
object_kept g me x e beside = grind (arith, nat_tests)

-- another node's part stays, and what it waits for
module _ (me n : ℕ) (g : State) (e : Effect) (apart : (me == n) ≡ false) where
  values_else : (on : Operand) → value_of (changed g me e) n on ≡ value_of g n on
  values_else on = grind arith

  pub part_else : (s : NodeState) (w : Option Command) → ((x : ℕ) (fields : List Val) → fields_known (s.known x) ≡ Some fields → IsBeside g me x e) →
      IsPart n s g (wants g n w) → IsPart n s (changed g me e) (wants (changed g me e) n w)
  part_else s w beside p = record {
    register = λ r. grind (arith, p.register r);
    known = λ x. fits_else (p.known x) (grind arith) (grind (arith, values_else)) (λ l has. object_kept g me x e (beside x l has));
    made = grind (arith, p.made);
  }

  pub waiting_else : (w : Option Command) → IfSome w (IsWaiting g n) → IfSome w (IsWaiting (changed g me e) n)
  waiting_else None i = tt
  waiting_else (Some c) i = record { mode = i.mode; name = i.name; operand = i.operand; takes = i.takes; means = ap reference (values_else i.operand) ∙ i.means; unheld = grind (arith, i.unheld) }

-- ## taking a token, and giving it back

-- what comes of taking a token in a mode: it is held, or waited for, or refused, since something is held or it is wanted in the other mode
abbrev pub Taken : Mode → Part → Part → Acquire → Type 0
Taken m p q acquire_is.Held = (p.held ≡ None) × (q.held ≡ Some m) × (q.want ≡ None)
Taken m p q acquire_is.Refused = (is_some p.held ≡ true) ⊎ ((n : Mode) × (p.want ≡ Some n) × (n ≢ m))
Taken m p q _ = (p.held ≡ None) × (q.held ≡ None) × (q.want ≡ Some m)

pub acquiring : (me : ℕ) (m : Mode) (p : Part) (copy : Bool) → Taken m p (acquire me p m copy).0 (acquire me p m copy).1
acquiring me m p copy = grind arith

-- it is given back, or wasn't held
abbrev pub Given : Part → Part → Release → Type 0
Given p q release_is.Refused = p.held ≡ None
Given p q _ = (is_some p.held ≡ true) × (q.held ≡ None) × (q.want ≡ p.want)

pub releasing : (p : Part) → Given p (release p).0 (release p).1
releasing p = grind arith

-- ## serves and letters

-- a transition leaves an entry, and what is held and wanted there
abbrev pub Keeps : Share → Transition → Type 0
Keeps b t = (h : Share) × (t.after ≡ Some h) × (h.part.held ≡ b.part.held) × (h.part.want ≡ b.part.want)

serving_keeps : (me : ℕ) (b : Share) (t : Transition) → transition_of me Serves b ≡ Some t → Keeps b t
serving_keeps me b t does = (unwrap_or t.after b, grind arith, grind arith, grind arith)

note_keeps : (me from : ℕ) (n : Note) (b : Share) (t : Transition) → note_transition me from n (Some b) ≡ Some t → Keeps b t
note_keeps me from n b t does = (unwrap_or t.after b, grind arith, grind arith, grind arith)

-- ## what grants bring

-- the values in the fields of a letter
abbrev pub values_told : List Field → List Val
values_told fields = map (λ f. value_in (heard_field f)) fields

-- a grant brings the fields that the graph has
abbrev pub BringsFields : State → Msg → Type 0
BringsFields g m = (info : Info) (fields : List Field) → grant_in m ≡ Some (info, fields) → g.object info.name ≡ Some (values_told fields)

abbrev pub EachBrings : State → List Draft → Type 0
EachBrings g drafts = Every (λ (d : Draft). BringsFields g d.msg) drafts

-- fields that are told have the values of those of the copy
told_values : (s : NodeState) (lies : ℕ → Place) (fields : List ViewField) → values_told (map (told_field s lies) fields) ≡ map value_in fields
told_values s lies [] = refl
told_values s lies (f ∷ fields) = grind (arith, told_values s lies fields)

-- the messages of notes about an object of whose fields the node has a copy as the graph has them
module _ (g : State) (s : NodeState) (lies : ℕ → Place) (name : ℕ) (k : Known) (fields : List ViewField) (is : s.known name ≡ Some k) (has : k.copy ≡ Some fields)
    (there : g.object name ≡ Some (map value_in fields)) where
  pub notes_bring : (sends : List Send) → EachBrings g (drafts_of s lies name sends)
  notes_bring [] = tt
  notes_bring (n ∷ sends) = (
    λ info l e. (let told : values_told (told_fields s lies name) ≡ map value_in fields = grind (arith, is, has, told_values s lies fields) in grind (arith, there, told)),
    notes_bring sends,
  )

-- ## what a serve and a letter leave

module _ (me : ℕ) (s : NodeState) (g : State) (v : ℕ → Option Mode) (lies : ℕ → Place) (p : IsPart me s g v) where
  -- what a transition leaves of a name fits the graph, if its fields do
  left_fits : (name : ℕ) (k : Option Known) (fields : Option (List ViewField)) (t : Transition) → s.known name ≡ k → ((j : Known) → k ≡ Some j → Keeps (share_of j) t) →
      ((l : List Val) → option_map (map value_in) fields ≡ Some l → g.object name ≡ Some l) → Each (Leaves me g v) (known_change name k fields t.after)
  left_fits name k fields t is keeps there = grind (arith, nat_tests, is, keeps, p.known name, fields_kept)

  -- a serve: only an owner serves, and it has a copy
  pub served_part : (name : ℕ) (k : Option Known) → s.known name ≡ k → ((j : Known) → k ≡ Some j → j.part.role ≡ Owner → is_some j.copy ≡ true) →
      let o : Reaction = operation_rule me s lies Serves answer.Idle name k in IsPart me (after_changes s o.changes) g v × EachBrings g o.drafts
  served_part name None is owners = (p, tt)
  served_part name (Some k) is owners = elim (some_or_none (transition_of me Serves (share_of k))) [
    | inl none ↦ rw none (p, tt)
    | inr t ↦ rw t.1 (
        let c = some_is k.copy (owners k refl (grind (arith, t.1))) in (
          parts_left me g v _ (left_fits name (Some k) k.copy t.0 is (λ j at. serving_keeps me (share_of j) t.0 (rw (some_same at) at t.1)) (λ l has. grind (arith, is, has, (p.known name).fields))) s p,
          notes_bring g s lies name k c.0 is c.1 (grind (arith, is, c.1, (p.known name).fields)) t.0.sends,
        ))
  ]

  heard_leaves : (from : ℕ) (more : List Info) → Each (Leaves me g v) (map (Hears from) more)
  heard_leaves from [] = tt
  heard_leaves from (info ∷ more) = (tt, heard_leaves from more)

  pub took_part : (from seq : ℕ) (m : Msg) (k : Option Known) → s.known (name_in m) ≡ k → BringsFields g m → (t : Option Transition) → note_transition me from (note_in m) (option_map share_of k) ≡ t →
      IsPart me (after_changes s (took s lies from seq m k t).changes) g v
  took_part from seq m k is brings None does = p
  took_part from seq m k is brings (Some t) does = parts_left me g v _ (each_append (Leaves me g v) (map (Hears from) (infos m)) _ (heard_leaves from (infos m))
      (taking_each (Leaves me g v) from seq (name_in m) (note_in m) _
      (left_fits (name_in m) k (copy_after m k) t is (λ j at. note_keeps me from (note_in m) (share_of j) t (rw at at does)) (λ l has. elim (some_or_none (grant_in m)) [
        | inl none ↦ grind (arith, none, has, is, (p.known (name_in m)).fields)
        | inr q ↦ grind (arith, brings q.0.0 q.0.1 q.1, q.1, has, map-map value_in heard_field)
      ])) (λ _. tt) tt)) s p
