-- One more event without a collector, seen for one name, as steps of the model that neither forget nor clear.
use Rattle.std.proofs.Common.{◌≡◌, ℕ, ◌+◌, refl, ap, sym, subst, ◌∙◌, Bool, true, false, cond, List, [], ◌∷◌, ◌++◌, map}
use Rattle.std.specs.Prelude.{◌==◌, ◌≢◌, Some, None}
use Rattle.std.specs.Option.{option_map_or}
use Rattle.std.proofs.lemmas.List.{map-append}
use Rattle.bmx_types.specs.Updates.{put, put_at}
use Rattle.bmx_msg.specs.declared.letters.Letter.{Letter}
use Rattle.bmx_token_model.specs.Machine.{Message, Numbers, Object, with_holding, issue, issue_all, draft, got_in, popped, is_handover, IsNowhere, Makes, Does, Receives, Writes}
use Rattle.bmx_token_model.specs.Tables.{Table, Tabled, TableRun, Goes, Moves}
use Rattle.bmx_protocol.specs.declared.events.Event.{Event}
use Rattle.bmx_protocol.specs.Nodes.{NodeState}
use Rattle.bmx_protocol.specs.Rules.{Draft, Reaction, next_name}
use Rattle.bmx_protocol.specs.Steps.{Node}
use Rattle.bmx_protocol.specs.Histories.{in_flight}
use Rattle.bmx_protocol.specs.Worlds.{world_of}
use Rattle.bmx_protocol.proofs.Basics.{eqb_of, eqb_is, Two, Same, Apart, two, put_at_row, put_at_else}
use Rattle.bmx_store_laws.specs.Inside.Seen.{seen, seen_message, seen_draft, seen_known, seen_note}
use Rattle.bmx_store_laws.proofs.Sends.{records_of}
use Rattle.bmx_store_laws.proofs.Shares.{shares_after}
use Rattle.bmx_store_laws.proofs.Ruled.{FreeOf, MayTell, OnlyTell, IsSilentOn, Silent, Did, IsQuiet}
use Rattle.bmx_store_laws.proofs.Ruled as did
use Rattle.bmx_store_laws.proofs.Taken.{got_records, Says, Own, Others, Took}
use Rattle.bmx_store_laws.proofs.Channels.{letters_by, way_left}
use Rattle.bmx_store_laws.proofs.Events.{IsOutcomeOf, IsReady, seen_after}

-- an object, beside tables
abbrev pub beside : (ℕ → ℕ → List Table) → Object → Tabled
beside tables o = record { object = o; tables = tables }

-- the object x as it is seen before an event, and after it
abbrev pub object_before : ℕ → (ℕ → Node) → List Event → Object
object_before x nodes past = seen x (world_of nodes past)

abbrev pub object_after : ℕ → (ℕ → Node) → List Event → Event → Node → Object
object_after x nodes past e after = seen x (world_of (put nodes e.node after) (past ++ e ∷ []))

module _ (start : Tabled) (tables : ℕ → ℕ → List Table) where
  -- a run leads to an object, beside those tables
  abbrev pub Leads : Object → Type 0
  Leads o = TableRun start (beside tables o)

  -- letters that may tell of x: a node that doesn't know x refers to it nowhere
  tell_run : (x me : ℕ) (s : NodeState) (drafts : List Draft) (o : Object) → (o.holds me ≡ None → FreeOf x s.known) → OnlyTell x s drafts → Leads o →
      Leads (issue_all o me (map (seen_draft x) drafts))
  tell_run x me s [] o clean only run = run
  tell_run x me s (d ∷ drafts) o clean only run =
      let t : MayTell x s d = only.0 in
      tell_run x me s drafts (issue o me (seen_draft x d)) clean only.1
      (Goes run (Moves (Writes me d.to (seen_draft x d).tells (λ unknown. t.none (clean unknown)) (λ i. issue o me (record (seen_draft x d) { note = t.note i }))) tt refl))

  -- letters that say nothing of it
  silent_run : (x me : ℕ) (drafts : List Draft) (o : Object) → Silent x drafts → Leads o → Leads (issue_all o me (map (seen_draft x) drafts))
  silent_run x me [] o silent run = run
  silent_run x me (d ∷ drafts) o silent run =
      let t : IsSilentOn x d = silent.0 in
      silent_run x me drafts (issue o me (seen_draft x d)) silent.1
      (Goes run (Moves (Writes me d.to (seen_draft x d).tells (λ unknown. t.tells) (λ i. issue o me (record (seen_draft x d) { note = t.note i }))) tt refl))

module _ (start : Tabled) (tables : ℕ → ℕ → List Table) (x : ℕ) (nodes : ℕ → Node) (past : List Event) (e : Event) (after : Node) (o : Reaction)
    (of : IsOutcomeOf e (nodes e.node).state after o) where
  abbrev me : ℕ
  me = e.node

  abbrev s : NodeState
  s = (nodes me).state

  abbrev before : Object
  before = object_before x nodes past

  abbrev then_seen : Object
  then_seen = object_after x nodes past e after

  -- ## no letter is taken

  has_again : with_holding before me (before.holds me) ≡ before
  has_again i = record before { holds = λ n. again n (me == n) (eqb_is me n) i }
    where
      again : (n : ℕ) (b : Bool) → (b ≡ true → me ≡ n) → cond b (before.holds me) (before.holds n) ≡ before.holds n
      again n true q = ap before.holds (q refl)
      again n false q = refl

  pub quiet_run : IsQuiet s o → ((n m : ℕ) → in_flight n m (past ++ e ∷ []) ≡ in_flight n m past ++ letters_by e n m) → Did x me s o →
      (seen_known (s.known x) ≡ None → FreeOf x s.known) → (x ≡ next_name me s → IsNowhere before) → Leads start tables before → Leads start tables then_seen
  quiet_run quiet channel acts clean fresh run = by acts
    where
      ready : IsReady x nodes e o past before
      ready = record {
        holds = λ n. refl;
        channel = λ n m. ap (map (seen_message x)) (channel n m) ∙ map-append (seen_message x) (in_flight n m past) (letters_by e n m);
        records = λ m. (λ i. records_of x (record s { entering = sym quiet.entering i }) m);
        other_records = λ n m h. refl;
        issued = λ n m. refl;
        taken = λ m. (λ i. sym quiet.taken i m);
        other_taken = λ n m h. refl;
      }

      is : then_seen ≡ issue_all (with_holding before me (shares_after x (seen_known (s.known x)) o.changes)) me (map (seen_draft x) o.drafts)
      is = seen_after x nodes e after o past before of ready

      by : Did x me s o → Leads start tables then_seen
      by (did.Acts refers a h t has does shares drafts) =
          Goes run (Moves (Does me refers a h t has does (is ∙ (λ i. issue_all (with_holding before me (shares i)) me (drafts i)))) tt refl)
      by (did.Passes shares only) = subst (Leads start tables)
          (sym (is ∙ ap (λ (p : Object). issue_all p me (map (seen_draft x) o.drafts)) ((λ i. with_holding before me (shares i)) ∙ has_again)))
          (tell_run start tables x me s o.drafts before clean only run)
      by (did.Makes named shares none more) =
          Goes run (Moves (Makes me (fresh named) (is ∙ (λ i. issue_all (with_holding before me (shares i)) me (map (seen_draft x) (none i))))) tt refl)

  -- ## a letter is taken

  pub taking_run : (from : ℕ) (l : Letter) (rest : List Letter) → in_flight from me past ≡ l ∷ rest → from ≢ me → Took x me from l.seq s l.msg o →
      ((n m : ℕ) → in_flight n m (past ++ e ∷ []) ≡ way_left past e from rest n m ++ letters_by e n m) → Leads start tables before → Leads start tables then_seen
  taking_run from l rest first apart took channel run = by took.says
    where
      message : Message
      message = seen_message x l

      left : List Message
      left = map (seen_message x) rest

      q : Object
      q = popped before from me message left

      left_way : (n m : ℕ) → Two me m → Two from n → map (seen_message x) (way_left past e from rest n m) ≡ put_at before.channel from me left n m
      left_way n m (Same a) (Same b) =
          ap (map (seen_message x)) ((λ i. cond (eqb_of a i) (cond (from == n) rest (in_flight n m past)) (in_flight n m past)) ∙ (λ i. cond (eqb_of b i) rest (in_flight n m past)))
          ∙ (λ i. cond (sym (eqb_of a) i) left (before.channel from m))
          ∙ (λ i. cond (sym (eqb_of b) i) (put (before.channel from) me left) (before.channel n) m)
      left_way n m (Same a) (Apart f c) =
          ap (map (seen_message x)) ((λ i. cond (eqb_of a i) (cond (from == n) rest (in_flight n m past)) (in_flight n m past)) ∙ (λ i. cond (f i) rest (in_flight n m past)))
          ∙ (λ i. cond (sym f i) (put (before.channel from) me left) (before.channel n) m)
      left_way n m (Apart h d) (Same b) =
          ap (map (seen_message x)) (λ i. cond (h i) (cond (from == n) rest (in_flight n m past)) (in_flight n m past))
          ∙ (λ i. before.channel (sym b i) m)
          ∙ (λ i. cond (sym h i) left (before.channel from m))
          ∙ (λ i. cond (sym (eqb_of b) i) (put (before.channel from) me left) (before.channel n) m)
      left_way n m (Apart h d) (Apart f c) =
          ap (map (seen_message x)) (λ i. cond (h i) (cond (from == n) rest (in_flight n m past)) (in_flight n m past))
          ∙ (λ i. cond (sym f i) (put (before.channel from) me left) (before.channel n) m)

      got : Numbers
      got = got_in l.seq (before.entering me from)

      -- the records here, and elsewhere
      records_at : (b : Bool) → ((m : ℕ) → cond b (put_at before.entering me from (Some got)) before.entering me m ≡ got_records b (records_of x s) from l.seq m)
          × ((n m : ℕ) → (me == n) ≡ false → cond b (put_at before.entering me from (Some got)) before.entering n m ≡ before.entering n m)
      records_at true = ((λ m. put_at_row before.entering me from m (Some got)), (λ n m h. put_at_else before.entering me from n m (Some got) h))
      records_at false = ((λ m. refl), (λ n m h. refl))

      brings_it : Bool
      brings_it = option_map_or is_handover (seen_note x l.msg) false

      ready : IsReady x nodes e o past q
      ready = record {
        holds = λ n. refl;
        channel = λ n m. ap (map (seen_message x)) (channel n m) ∙ map-append (seen_message x) (way_left past e from rest n m) (letters_by e n m)
            ∙ ap (λ (k : List Message). k ++ map (seen_message x) (letters_by e n m)) (left_way n m (two me m) (two from n));
        records = λ m. (records_at brings_it).0 m ∙ sym (took.entering m);
        other_records = λ n m h. (records_at brings_it).1 n m h;
        issued = λ n m. refl;
        taken = λ m. put_at_row before.taken me from m (before.taken me from + 1) ∙ ap (λ (f : ℕ → ℕ). f m) (sym took.taken);
        other_taken = λ n m h. put_at_else before.taken me from n m (before.taken me from + 1) h;
      }

      is : then_seen ≡ issue_all (with_holding q me took.transition.after) me (map (seen_draft x) o.drafts)
      is = seen_after x nodes e after o past q of ready ∙ (λ i. issue_all (with_holding q me (took.after i)) me (map (seen_draft x) o.drafts))

      by : Says x o.drafts took.transition.sends → Leads start tables then_seen
      by (Own drafts) = Goes run (Moves (Receives from me message left took.transition apart (ap (map (seen_message x)) first) (took.makes message refl refl)
          (is ∙ ap (issue_all (with_holding q me took.transition.after) me) drafts)) tt refl)
      by (Others none silent) = subst (Leads start tables) (sym is)
          (silent_run start tables x me o.drafts (with_holding q me took.transition.after) silent
          (Goes run (Moves (Receives from me message left took.transition apart (ap (map (seen_message x)) first) (took.makes message refl refl)
          (λ i. issue_all (with_holding q me took.transition.after) me (map (draft false) (sym none i)))) tt refl)))
