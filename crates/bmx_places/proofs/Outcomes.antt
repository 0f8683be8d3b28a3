-- What a rule comes to for blocks: plain changes, which make nothing known and change no bunch or size, and messages of
-- known objects, or a new object; and that no rule but that of a letter answers that it is stray.
use Rattle.bmx_store_laws.proofs.Words.{◌≡◌, ℕ, refl, ap, sym, subst, ◌∙◌, Bool, true, false, cond, List, [], ◌∷◌, map, arith, length, ◌⊎◌, inl, inr, ◌+◌, ◌++◌, ◌≢◌, length-set, length-map, flat_map, list_any, option_map, option_map_or, Option, Some, None}
use Rattle.bmx_store_laws.proofs.Words.{is_some, unwrap_or, ◌||◌, slice_set, filter_map, put, put_at, Info, Place, Command, Read, Write, Val, targets, given, Field, Msg, blank, sent_by, got_by, Record, target_of, effect, Effect, MakesOne, SetsOne}
use Rattle.bmx_store_laws.proofs.Words.{Stores, Share, Note, Asks, Grants, Send, Transition, Operation, Acquires, Releases, transition_of, Serves, Owner, is_grant, some_same, none_some, Every, Each, kept_by_each, each_append, Knows, after_changes, Change, Sets}
use Rattle.bmx_store_laws.proofs.Words.{Hears, after_change, Gets, Gives, Issues, record_of, issued, NodeState, Known, seen_graph, share_of, field_of, Places, Draft, Reaction, message, drafts_of, info_of, told_fields, grant_in, operation_answer}
use Rattle.bmx_store_laws.proofs.Words.{after_operation, operation_rule, next_name, new_object, graph_changes, token_rule, command_rule, about, stored, told_field, infos, known_change, info_in, Node, numbered, sent_changes, is_nil, made_places}
use Rattle.bmx_store_laws.proofs.Words.{NodeAnswer, ViewField, some_or_none, some_is, either, put_each, NoGrants, HasNo, FreeOf}
use Rattle.bmx_store_laws.proofs.Words.command
use Rattle.bmx_store_laws.proofs.Words.val
use Rattle.bmx_store_laws.proofs.Words.answer
use Rattle.bmx_store_laws.proofs.Words.field
use Rattle.bmx_protocol.specs.Changes.{Makes}
use Rattle.bmx_places.specs.Ledger.{Block, block_at, LiesIn, IsOf}
use Rattle.bmx_places.proofs.Blocks.{Keeps, IsFull, one_keeps, IsTold, KeepsOne}

-- ## shapes

-- the bunch and size of what is known
abbrev pub shape : Option Known → Option (ℕ × ℕ)
shape k = option_map (λ (j : Known). (j.bunch, j.size)) k

shaped : (k : Option Known) (bunch size : ℕ) → shape k ≡ Some (bunch, size) → (j : Known) × (k ≡ Some j) × (j.bunch ≡ bunch) × (j.size ≡ size)
shaped None bunch size e = none_some e
shaped (Some j) bunch size e = (let same : (j.bunch, j.size) ≡ (bunch, size) = some_same e in (j, refl, ap (λ (p : ℕ × ℕ). p.0) same, ap (λ (p : ℕ × ℕ). p.1) same))

-- a name is known
abbrev pub IsKnown : (ℕ → Option Known) → ℕ → Type 0
IsKnown known name = (j : Known) × (known name ≡ Some j)

-- each record is of a block
abbrev pub AllOf : (ℕ → Option Block) → (ℕ → ℕ → Option Record) → Type 0
AllOf blocks entering = (x m : ℕ) (r : Record) → entering x m ≡ Some r → IsOf blocks x r.bunch

-- ## changes

-- what a node has belongs to blocks, and is of the shapes that were known
pub record Belongs (blocks : ℕ → Option Block) (a : Places) (known : ℕ → Option Known) (s : NodeState) : Type 0 where
  pub keeps : Keeps blocks s.known a
  pub records : AllOf blocks s.entering
  pub shapes : (x : ℕ) → shape (s.known x) ≡ shape (known x)

-- a change makes nothing known and keeps bunches and sizes; what it gives is known
abbrev pub Plain : (ℕ → Option Known) → Change → Type 0
Plain known (Knows name k) = (shape (known name) ≡ Some (k.bunch, k.size)) × IsFull k.copy k.size
Plain known (Hears from info) = ⊥
Plain known (Gives name to seq) = IsKnown known name
Plain known (Gets name from seq) = IsKnown known name
Plain known _ = Unit {0}

module _ (blocks : ℕ → Option Block) (a : Places) (known : ℕ → Option Known) where
  -- what is known is of another token, or has other fields
  known_again : (s : NodeState) (name : ℕ) (k : Known) → shape (known name) ≡ Some (k.bunch, k.size) → IsFull k.copy k.size → Belongs blocks a known s →
      Belongs blocks a known (record s { known = put s.known name (Some k) })
  known_again s name k of full b =
      let old = shaped (s.known name) k.bunch k.size (b.shapes name ∙ of) in
      let l : LiesIn blocks (a.place name) name old.0 = (b.keeps.known name).lies old.0 old.1 in
      record {
        keeps = record {
          known = put_each (λ x o. KeepsOne blocks (a.place x) x o) s.known name (Some k) (one_keeps blocks (a.place name) name k
              (record { place = l.place; lies = l.lies; block = l.block ∙ (λ i. Some (record { name = name; bunch = old.2 i; size = old.3 i; moves = l.place.moves })) }) full)
              (λ x _. b.keeps.known x);
          headers = b.keeps.headers;
          home = b.keeps.home;
        };
        records = b.records;
        shapes = put_each (λ x o. shape o ≡ shape (known x)) s.known name (Some k) (sym of) (λ x _. b.shapes x);
      }

  -- the record of a known name is of its bunch
  record_is_of : (s : NodeState) (name m : ℕ) → IsKnown known name → Belongs blocks a known s → IsOf blocks name (record_of s name m).bunch
  record_is_of s name m is b = by_record (s.entering name m) refl
    where
      by_record : (r : Option Record) → s.entering name m ≡ r → IsOf blocks name (unwrap_or r (blank name (option_map_or (λ (j : Known). j.bunch) (s.known name) 0) m)).bunch
      by_record (Some r) e = b.records name m r e
      by_record None e =
          let old = shaped (s.known name) is.0.bunch is.0.size (b.shapes name ∙ ap shape is.1) in
          let l : LiesIn blocks (a.place name) name old.0 = (b.keeps.known name).lies old.0 old.1 in
          record { address = l.place.address; block = block_at name old.0 l.place; there = l.block; named = refl; of = ap (λ (k : Option Known). option_map_or (λ (j : Known). j.bunch) k 0) (sym old.1) }

  record_again : (s : NodeState) (name m : ℕ) (r : Record) → r.bunch ≡ (record_of s name m).bunch → IsKnown known name →
      Belongs blocks a known s → Belongs blocks a known (record s { entering = put_at s.entering name m (Some r) })
  record_again s name m r bunch is b = record {
    keeps = b.keeps;
    records = put_each (λ x row. (n : ℕ) (q : Record) → row n ≡ Some q → IsOf blocks x q.bunch) s.entering name (put (s.entering name) m (Some r))
        (put_each (λ n o. (q : Record) → o ≡ Some q → IsOf blocks name q.bunch) (s.entering name) m (Some r)
        (λ q e. subst (λ (z : Record). IsOf blocks name z.bunch) (some_same e) (subst (IsOf blocks name) (sym bunch) (record_is_of s name m is b))) (λ n _. b.records name n)) (λ x _. b.records x);
    shapes = b.shapes;
  }

  change_kept : (s : NodeState) (c : Change) → Plain known c → Belongs blocks a known s → Belongs blocks a known (after_change s c)
  change_kept s (Knows name k) plain b = known_again s name k plain.0 plain.1 b
  change_kept s (Hears from info) plain b = absurd plain
  change_kept s (Gives name to seq) plain b = record_again s name to (sent_by seq (record_of s name to)) refl plain b
  change_kept s (Gets name from seq) plain b = record_again s name from (got_by seq (record_of s name from)) refl plain b
  change_kept s _ plain b = record { keeps = b.keeps; records = b.records; shapes = b.shapes }

  pub changes_kept : (changes : List Change) → Each (Plain known) changes → (s : NodeState) → Belongs blocks a known s → Belongs blocks a known (after_changes s changes)
  changes_kept = kept_by_each (Belongs blocks a known) (Plain known) (λ t c plain h. change_kept t c plain h)

-- ## messages

-- what a message tells is of blocks, a grant brings as many fields as its object has, and what it gives is known
pub record IsRight (blocks : ℕ → Option Block) (m : Msg) : Type 0 where
  pub told : Every (IsTold blocks) (infos m)
  pub full : (g : Info × List Field) → grant_in m ≡ Some g → length g.1 ≡ g.0.size

pub record IsDraft (blocks : ℕ → Option Block) (known : ℕ → Option Known) (d : Draft) : Type 0 where
  pub right : IsRight blocks d.msg
  pub gives : Every (IsKnown known) (given d.msg)

gives_plain : (known : ℕ → Option Known) (names : List ℕ) (to seq : ℕ) → Every (IsKnown known) names → Each (Plain known) (map (λ name. Gives name to seq) names)
gives_plain known [] to seq each = tt
gives_plain known (name ∷ names) to seq each = (each.0, gives_plain known names to seq each.1)

pub sent_plain : (blocks : ℕ → Option Block) (known : ℕ → Option Known) (drafts : List Draft) (issued : ℕ → ℕ) (stamp : ℕ) → Every (IsDraft blocks known) drafts →
    Each (Plain known) (flat_map sent_changes (numbered issued stamp drafts))
sent_plain blocks known [] issued stamp each = tt
sent_plain blocks known (d ∷ drafts) issued stamp each =
    each_append (Plain known) (map (λ name. Gives name d.to (issued d.to + 1)) (given d.msg) ++ Issues d.to ∷ []) _
    (each_append (Plain known) (map (λ name. Gives name d.to (issued d.to + 1)) (given d.msg)) (Issues d.to ∷ []) (gives_plain known (given d.msg) d.to (issued d.to + 1) each.0.gives) (tt, tt))
    (sent_plain blocks known drafts (put issued d.to (issued d.to + 1)) stamp each.1)

-- a note that is no grant tells of nothing
other_draft : (blocks : ℕ → Option Block) (known : ℕ → Option Known) (to : ℕ) (info : Info) (fields : List Field) (n : Note) → is_grant n ≡ false → IsDraft blocks known (record { to = to; msg = message info fields n })
other_draft blocks known to info fields (Grants Read) e = absurd cc
other_draft blocks known to info fields (Grants Write) e = absurd cc
other_draft blocks known to info fields (Asks Read asker) e = record { right = record { told = tt; full = λ g e. none_some e }; gives = tt }
other_draft blocks known to info fields _ e = record { right = record { told = tt; full = λ g e. none_some e }; gives = tt }

pub silent_drafts : (blocks : ℕ → Option Block) (known : ℕ → Option Known) (s : NodeState) (lies : ℕ → Place) (name : ℕ) (sends : List Send) → NoGrants sends → Every (IsDraft blocks known) (drafts_of s lies name sends)
silent_drafts blocks known s lies name [] none = tt
silent_drafts blocks known s lies name (n ∷ sends) none = (other_draft blocks known n.to (info_of s lies name) (told_fields s lies name) n.note none.0, silent_drafts blocks known s lies name sends none.1)

-- ## what nodes tell

abbrev Granting : List Send → Bool
Granting sends = list_any (λ (n : Send). is_grant n.note) sends

-- nothing is known of what nothing refers to: so what a copy refers to is known
module _ (blocks : ℕ → Option Block) (s : NodeState) (a : Places) (lies : ℕ → Place) (keeps : Keeps blocks s.known a)
    (told : (x : ℕ) (p : Place) → a.place x ≡ Some p → lies x ≡ p) (aware : (x : ℕ) → s.known x ≡ None → FreeOf x s.known) where
  info_told : (x : ℕ) (k : Known) → s.known x ≡ Some k → IsTold blocks (info_of s lies x)
  info_told x k e =
      let l : LiesIn blocks (a.place x) x k = (keeps.known x).lies k e in
      let at : lies x ≡ l.place = told x l.place l.lies in
      (λ i. blocks (at i).address) ∙ l.block ∙ (λ i. Some (record {
        name = x;
        bunch = option_map_or (λ (j : Known). j.bunch) (sym e i) 0;
        size = option_map_or (λ (j : Known). j.size) (sym e i) 0;
        moves = (sym at i).moves;
      }))

  -- fields of a copy refer to known objects
  fields_told : (fields : List ViewField) → ((x : ℕ) → s.known x ≡ None → HasNo x fields) →
      Every (IsTold blocks) (filter_map info_in (map (told_field s lies) fields)) × Every (IsKnown s.known) (targets (map (told_field s lies) fields))
  fields_told [] refers = (tt, tt)
  fields_told (field.Ref y ∷ fields) refers = elim (some_or_none (s.known y)) [
    | inl none ↦ absurd ((refers y none).0 refl)
    | inr k ↦ ((info_told y k.0 k.1, (fields_told fields (λ x e. (refers x e).1)).0), (k, (fields_told fields (λ x e. (refers x e).1)).1))
  ]
  fields_told (f ∷ fields) refers = fields_told fields (λ x e. (refers x e).1)

  module _ (name : ℕ) (k : Known) (is : s.known name ≡ Some k) where
    fields_are : told_fields s lies name ≡ map (told_field s lies) (unwrap_or k.copy [])
    fields_are = ap (λ (j : Option Known). map (told_field s lies) (option_map_or (λ (i : Known). unwrap_or i.copy []) j [])) is

    all_told : Every (IsTold blocks) (filter_map info_in (told_fields s lies name)) × Every (IsKnown s.known) (targets (told_fields s lies name))
    all_told = rw fields_are (fields_told (unwrap_or k.copy []) (λ x none. aware x none name k is))

    grant_full : is_some k.copy ≡ true → (g : Info × List Field) → Some (info_of s lies name, told_fields s lies name) ≡ Some g → length g.1 ≡ g.0.size
    grant_full has g e =
        let c = some_is k.copy has in
        let all : length (told_fields s lies name) ≡ (info_of s lies name).size = ap length fields_are ∙ (λ i. length (map (told_field s lies) (unwrap_or (c.1 i) []))) ∙ length-map c.0 (told_field s lies)
        ∙ (keeps.known name).full k is c.0 c.1 ∙ (λ i. option_map_or (λ (j : Known). j.size) (sym is i) 0) in
        subst (λ (h : Info × List Field). length h.1 ≡ h.0.size) (some_same e) all

    note_draft : (to : ℕ) (n : Note) → (is_grant n ≡ true → is_some k.copy ≡ true) → IsDraft blocks s.known (record { to = to; msg = message (info_of s lies name) (told_fields s lies name) n })
    note_draft to (Grants Read) has = record { right = record { told = (info_told name k is, all_told.0); full = grant_full (has refl) }; gives = ((k, is), all_told.1) }
    note_draft to (Grants Write) has = record { right = record { told = (info_told name k is, all_told.0); full = grant_full (has refl) }; gives = all_told.1 }
    note_draft to n has = other_draft blocks s.known to (info_of s lies name) (told_fields s lies name) n refl

    notes_drafts : (sends : List Send) → (Granting sends ≡ true → is_some k.copy ≡ true) → Every (IsDraft blocks s.known) (drafts_of s lies name sends)
    notes_drafts [] has = tt
    notes_drafts (n ∷ sends) has = (note_draft n.to n.note (λ e. has (λ i. e i || Granting sends)), notes_drafts sends (λ e. has (grind arith)))

-- ## outcomes

-- plain changes and drafts
pub record IsPlain (blocks : ℕ → Option Block) (known : ℕ → Option Known) (o : Reaction) : Type 0 where
  pub changes : Each (Plain known) o.changes
  pub drafts : Every (IsDraft blocks known) o.drafts

pub of_kept : {A : Type 0} (b : Bool) (o : Option A) (a : A) → cond b o None ≡ Some a → o ≡ Some a
of_kept true o a e = e
of_kept false o a e = none_some e

-- what a transition leaves of what was known is of its shape
pub known_plain : (known : ℕ → Option Known) (name : ℕ) (k : Known) (fields : Option (List ViewField)) (h : Option Share) → known name ≡ Some k → IsFull fields k.size →
    Each (Plain known) (known_change name (Some k) fields h)
known_plain known name k fields None is full = tt
known_plain known name k fields (Some h) is full = ((ap shape is, λ f e. full f (of_kept h.copy fields f e)), tt)

-- a transition grants only what it has a copy of
act_grants : (me : ℕ) (a : Operation) (h : Share) (t : Transition) → (h.part.role ≡ Owner → h.copy ≡ true) → transition_of me a h ≡ Some t → Granting t.sends ≡ true → h.copy ≡ true
act_grants me a h t has does some = grind arith

-- a command that takes or gives back no token, and makes nothing
abbrev makes_nothing : Command → Bool
makes_nothing (command.New register bunch size) = false
makes_nothing (command.Read on) = false
makes_nothing (command.Write on) = false
makes_nothing (command.Done on) = false
makes_nothing _ = true

-- an effect that makes nothing and leaves tokens
abbrev IsStoring : Effect → Type 0
IsStoring (MakesOne register bunch size) = ⊥
IsStoring _ = Unit {0}

unmade : (me : ℕ) (n : Node) (c : Command) → makes_nothing c ≡ true → made_places me n c ≡ n.places
unmade me n c plain = grind arith

-- no rule but that of a letter answers that it is stray
pub never_stray : (me : ℕ) (s : NodeState) (full : Bool) (lies : ℕ → Place) (c : Command) → (command_rule me s full lies c (about c)).answer ≢ answer.Stray
never_stray me s full lies c e = grind arith

pub serve_not_stray : (me : ℕ) (s : NodeState) (lies : ℕ → Place) (name : ℕ) → (operation_rule me s lies Serves answer.Idle name (s.known name)).answer ≢ answer.Stray
serve_not_stray me s lies name e = grind arith

-- two ways that come to one
either_way : {A : Type 0} (b : Bool) (x y : A) → x ≡ y → cond b x y ≡ y
either_way true x y e = e
either_way false x y e = refl

-- what making an object comes to
abbrev pub making : ℕ → NodeState → ℕ → ℕ → ℕ → Reaction
making me s register bunch size = record {
  changes = Knows (next_name me s) (new_object bunch size) ∷ Sets register (val.Ref (next_name me s)) ∷ Makes ∷ [];
  drafts = [];
  answer = answer.Nil;
}

-- what a command comes to: plain changes, or the making of a new object in a bunch
pub data Comes (blocks : ℕ → Option Block) (me : ℕ) (s : NodeState) (full : Bool) (c : Command) (o : Reaction) : Type 0 where
  Plainly : IsPlain blocks s.known o → ((n : Node) → cond (is_nil o.answer) (made_places me n c) n.places ≡ n.places) → Comes blocks me s full c o
  New : (register bunch size : ℕ) → c ≡ command.New register bunch size → full ≡ false → o ≡ making me s register bunch size → Comes blocks me s full c o

module _ (blocks : ℕ → Option Block) (me : ℕ) (s : NodeState) (a : Places) (full : Bool) (lies : ℕ → Place) (keeps : Keeps blocks s.known a)
    (told : (x : ℕ) (p : Place) → a.place x ≡ Some p → lies x ≡ p) (aware : (x : ℕ) → s.known x ≡ None → FreeOf x s.known)
    (owners : (x : ℕ) (k : Known) → s.known x ≡ Some k → k.part.role ≡ Owner → is_some k.copy ≡ true) where
  pub act_plain : (act : Operation) (unknown : NodeAnswer) (name : ℕ) (k : Option Known) → s.known name ≡ k → IsPlain blocks s.known (operation_rule me s lies act unknown name k)
  act_plain act unknown name None is = record { changes = tt; drafts = tt }
  act_plain act unknown name (Some k) is = by_turn (transition_of me act (share_of k)) refl
    where
      by_turn : (t : Option Transition) → transition_of me act (share_of k) ≡ t → IsPlain blocks s.known (after_operation s lies name k (operation_answer me act (share_of k)) t)
      by_turn None does = record { changes = tt; drafts = tt }
      by_turn (Some t) does = record {
        changes = known_plain s.known name k k.copy t.after is ((keeps.known name).full k is);
        drafts = notes_drafts blocks s a lies keeps told aware name k is t.sends (act_grants me act (share_of k) t (owners name k is) does);
      }

  -- the graph's commands but `new`
  stored_plain : (name index : ℕ) (v : Val) (k : Option Known) → s.known name ≡ k → Each (Plain s.known) (stored name k index v)
  stored_plain name index v None is = tt
  stored_plain name index v (Some k) is = ((ap shape is, λ f e. by_copy k.copy refl f e), tt)
    where
      by_copy : (c : Option (List ViewField)) → k.copy ≡ c → (f : List ViewField) → option_map (λ fields. slice_set fields index (field_of v)) c ≡ Some f → length f ≡ k.size
      by_copy None e f g = none_some g
      by_copy (Some fields) e f g = ap length (sym (some_same g)) ∙ length-set fields index (field_of v) ∙ (keeps.known name).full k is fields e

  effect_plain : (e : Effect) → IsStoring e → Each (Plain s.known) (graph_changes me s e)
  effect_plain (MakesOne register bunch size) none = absurd none
  effect_plain (SetsOne register v) none = (tt, tt)
  effect_plain (Stores name index v) none = stored_plain name index v (s.known name) refl
  effect_plain _ none = tt

  token_plain : (act : Operation) (name : Option ℕ) → IsPlain blocks s.known (token_rule me s lies act name)
  token_plain act None = record { changes = tt; drafts = tt }
  token_plain act (Some name) = act_plain act _ name (s.known name) refl

  -- what such a command changes is an effect of the graph that the node sees, or nothing
  storing_plain : (c : Command) → makes_nothing c ≡ true → IsPlain blocks s.known (command_rule me s full lies c (about c))
  storing_plain c plain =
      let storing : IsStoring (effect (seen_graph me s) me c) = grind arith in
      let changes : ((command_rule me s full lies c (about c)).changes ≡ graph_changes me s (effect (seen_graph me s) me c)) ⊎ ((command_rule me s full lies c (about c)).changes ≡ []) = grind arith in
      let silent : (command_rule me s full lies c (about c)).drafts ≡ [] = grind arith in
      record { changes = elim changes [ inl e ↦ rw e (effect_plain (effect (seen_graph me s) me c) storing) | inr e ↦ rw e tt ]; drafts = rw silent tt }

  pub command_comes : (c : Command) → Comes blocks me s full c (command_rule me s full lies c (about c))
  command_comes (command.New register bunch size) = either (Comes blocks me s full (command.New register bunch size)) full _ _
      (λ is. Plainly (record { changes = tt; drafts = tt }) (λ n. refl)) (λ is. New register bunch size refl is refl)
  command_comes (command.Read on) = Plainly (token_plain (Acquires Read) (target_of (seen_graph me s) me on)) (λ n. either_way (is_nil _) n.places n.places refl)
  command_comes (command.Write on) = Plainly (token_plain (Acquires Write) (target_of (seen_graph me s) me on)) (λ n. either_way (is_nil _) n.places n.places refl)
  command_comes (command.Done on) = Plainly (token_plain Releases (target_of (seen_graph me s) me on)) (λ n. either_way (is_nil _) n.places n.places refl)
  command_comes c = Plainly (storing_plain c refl) (λ n. either_way (is_nil (command_rule me s full lies c (about c)).answer) (made_places me n c) n.places (unmade me n c refl))
