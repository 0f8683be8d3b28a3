-- One more event, seen for one name, as steps of the model.
use Rattle.std.proofs.Common.{◌≡◌, ℕ, ◌+◌, refl, ap, sym, subst, ◌∙◌, Bool, true, false, cond, List, [], ◌∷◌, ◌++◌, map}
use Rattle.std.specs.Prelude.{◌==◌, ◌≢◌, Some, None}
use Rattle.std.specs.Option.{option_map_or}
use Rattle.std.specs.List.{flat_map}
use Rattle.std.proofs.lemmas.List.{map-append, append-nil}
use Rattle.bmx_types.specs.Updates.{put, put_at}
use Rattle.bmx_msg.specs.declared.letters.Letter.{Letter}
use Rattle.bmx_token.specs.Transitions.{made_share}
use Rattle.bmx_token_model.specs.Machine.{Message, Numbers, Object, with_holding, issue, issue_all, draft, got_in, popped, is_handover, Does, Receives, Writes}
use Rattle.bmx_protocol.specs.declared.inputs.Sending.{Sending}
use Rattle.bmx_protocol.specs.declared.events.Event.{Event}
use Rattle.bmx_protocol.specs.Nodes.{NodeState}
use Rattle.bmx_protocol.specs.Changes.{after_changes, with_step}
use Rattle.bmx_protocol.specs.Rules.{Draft, Reaction, next_name}
use Rattle.bmx_protocol.specs.Steps.{Node, numbered, letters_of, sent_changes, closed}
use Rattle.bmx_protocol.specs.Histories.{letters_to, in_flight}
use Rattle.bmx_protocol.specs.Worlds.{world_of}
use Rattle.bmx_protocol.proofs.Changing.{after_append}
use Rattle.bmx_store_laws.specs.Inside.Seen.{seen, seen_message, seen_draft, seen_known, seen_note}
use Rattle.bmx_protocol.proofs.Basics.{eqb_of, eqb_is, eqb_same, Two, Same, Apart, two, put_at_row, put_at_else}
use Rattle.bmx_store_laws.proofs.Sends.{records_of, IsSent, all_sent, letters_left}
use Rattle.bmx_store_laws.proofs.Shares.{shares_after, shares_changed}
use Rattle.bmx_store_laws.proofs.Ruled.{FreeOf, MayTell, OnlyTell, IsSilentOn, Silent, Did, Acts, Passes, Makes, IsQuiet}
use Rattle.bmx_store_laws.proofs.Taken.{got_records, Says, Own, Others, Took}
use Rattle.bmx_store_laws.proofs.Channels.{letters_by, way_left}
use Rattle.bmx_store_laws.proofs.Calm.{Calm, Still, Then}

-- ## the object after an event

-- an event's node and letters are those of an outcome
pub record IsOutcomeOf (e : Event) (s : NodeState) (after : Node) (o : Reaction) : Type 0 where
  pub state : after.state ≡ closed e.stamp s o
  pub letters : e.done.letters ≡ letters_of e.stamp s o
  pub issued : (after_changes s o.changes).issued ≡ s.issued

-- an object is as what is seen of nodes, but for what node me has, its records and what it has taken, which are
-- those after the rule's own changes
pub record IsReady (x : ℕ) (nodes : ℕ → Node) (e : Event) (o : Reaction) (past : List Event) (q : Object) : Type 0 where
  pub holds : (n : ℕ) → q.holds n ≡ seen_known ((nodes n).state.known x)
  pub channel : (n m : ℕ) → map (seen_message x) (in_flight n m (past ++ e ∷ [])) ≡ q.channel n m ++ map (seen_message x) (letters_by e n m)
  pub records : (m : ℕ) → q.entering e.node m ≡ records_of x (after_changes (nodes e.node).state o.changes) m
  pub other_records : (n m : ℕ) → (e.node == n) ≡ false → q.entering n m ≡ records_of x (nodes n).state m
  pub issued : (n m : ℕ) → q.issued n m ≡ (nodes n).state.issued m
  pub taken : (m : ℕ) → q.taken e.node m ≡ (after_changes (nodes e.node).state o.changes).taken m
  pub other_taken : (n m : ℕ) → (e.node == n) ≡ false → q.taken n m ≡ (nodes n).state.taken m

module _ (x : ℕ) (nodes : ℕ → Node) (e : Event) (after : Node) (o : Reaction) (past : List Event) (q : Object)
    (of : IsOutcomeOf e (nodes e.node).state after o) (ready : IsReady x nodes e o past q) where
  abbrev s : NodeState
  s = after_changes (nodes e.node).state o.changes

  abbrev letters : List Sending
  letters = letters_of e.stamp (nodes e.node).state o

  abbrev last : NodeState
  last = after_changes s (flat_map sent_changes letters)

  -- the state that the event leads to
  leads : after.state ≡ with_step last
  leads = of.state ∙ ap with_step (after_append (nodes e.node).state o.changes (flat_map sent_changes letters))

  abbrev with_it : Object
  with_it = with_holding q e.node (shares_after x (seen_known ((nodes e.node).state.known x)) o.changes)

  abbrev r : Object
  r = issue_all with_it e.node (map (seen_draft x) o.drafts)

  sent : IsSent x with_it r e.node s letters
  sent = subst (λ (f : ℕ → ℕ). IsSent x with_it r e.node s (numbered f e.stamp o.drafts)) of.issued
      (all_sent x e.node e.stamp o.drafts with_it s (record {
        records = ready.records;
        counts = λ m. ready.issued e.node m ∙ ap (λ (f : ℕ → ℕ). f m) (sym of.issued);
      }))

  holds : (n : ℕ) → Two e.node n → seen_known ((put nodes e.node after n).state.known x) ≡ r.holds n
  holds n (Same a) = subst (λ (z : ℕ). seen_known ((put nodes e.node after z).state.known x) ≡ r.holds z) a
      ((λ i. seen_known ((cond (eqb_same e.node i) after (nodes e.node)).state.known x))
      ∙ ap (λ (t : NodeState). seen_known (t.known x)) leads
      ∙ (λ i. seen_known ((letters_left letters s).known i x))
      ∙ shares_changed x o.changes (nodes e.node).state
      ∙ (λ i. cond (sym (eqb_same e.node) i) (shares_after x (seen_known ((nodes e.node).state.known x)) o.changes) (q.holds e.node))
      ∙ (λ i. sym sent.holds i e.node))
  holds n (Apart h d) =
      (λ i. seen_known ((cond (h i) after (nodes n)).state.known x))
      ∙ sym (ready.holds n)
      ∙ (λ i. cond (sym h i) (shares_after x (seen_known ((nodes e.node).state.known x)) o.changes) (q.holds n))
      ∙ (λ i. sym sent.holds i n)

  channel : (n m : ℕ) → map (seen_message x) (in_flight n m (past ++ e ∷ [])) ≡ r.channel n m
  channel n m = ready.channel n m ∙ by_test (e.node == n) ∙ sym (sent.channel n m)
    where
      by_test : (b : Bool) → q.channel n m ++ map (seen_message x) (cond b (letters_to m e.done.letters) [])
          ≡ cond b (q.channel n m ++ map (seen_message x) (letters_to m letters)) (q.channel n m)
      by_test true = ap (λ (l : List Sending). q.channel n m ++ map (seen_message x) (letters_to m l)) of.letters
      by_test false = append-nil (q.channel n m)

  entering : (n m : ℕ) → Two e.node n → records_of x (put nodes e.node after n).state m ≡ r.entering n m
  entering n m (Same a) = subst (λ (z : ℕ). records_of x (put nodes e.node after z).state m ≡ r.entering z m) a
      ((λ i. records_of x (cond (eqb_same e.node i) after (nodes e.node)).state m)
      ∙ ap (λ (t : NodeState). records_of x t m) leads ∙ sym (sent.at.records m))
  entering n m (Apart h d) =
      (λ i. records_of x (cond (h i) after (nodes n)).state m) ∙ sym (ready.other_records n m h) ∙ sym (sent.records_else n m h)

  issued : (n m : ℕ) → Two e.node n → (put nodes e.node after n).state.issued m ≡ r.issued n m
  issued n m (Same a) = subst (λ (z : ℕ). (put nodes e.node after z).state.issued m ≡ r.issued z m) a
      ((λ i. (cond (eqb_same e.node i) after (nodes e.node)).state.issued m)
      ∙ ap (λ (t : NodeState). t.issued m) leads ∙ sym (sent.at.counts m))
  issued n m (Apart h d) =
      (λ i. (cond (h i) after (nodes n)).state.issued m) ∙ sym (ready.issued n m) ∙ sym (sent.issued_else n m h)

  taken : (n m : ℕ) → Two e.node n → (put nodes e.node after n).state.taken m ≡ r.taken n m
  taken n m (Same a) = subst (λ (z : ℕ). (put nodes e.node after z).state.taken m ≡ r.taken z m) a
      ((λ i. (cond (eqb_same e.node i) after (nodes e.node)).state.taken m)
      ∙ ap (λ (t : NodeState). t.taken m) leads
      ∙ (λ i. (letters_left letters s).taken i m)
      ∙ sym (ready.taken m) ∙ (λ i. sym sent.taken i e.node m))
  taken n m (Apart h d) =
      (λ i. (cond (h i) after (nodes n)).state.taken m) ∙ sym (ready.other_taken n m h) ∙ (λ i. sym sent.taken i n m)

  -- what is seen after an event: what the node then has, and its letters issued one after another
  pub seen_after : seen x (world_of (put nodes e.node after) (past ++ e ∷ [])) ≡ r
  seen_after i = record {
    holds = λ n. holds n (two e.node n) i;
    channel = λ n m. channel n m i;
    entering = λ n m. entering n m (two e.node n) i;
    issued = λ n m. issued n m (two e.node n) i;
    taken = λ n m. taken n m (two e.node n) i;
  }

-- ## letters about other objects

-- letters that may tell of x: a node that doesn't know x refers to it nowhere
tell_calm : (x me : ℕ) (s : NodeState) (drafts : List Draft) (start o : Object) → (o.holds me ≡ None → FreeOf x s.known) →
    OnlyTell x s drafts → Calm start o → Calm start (issue_all o me (map (seen_draft x) drafts))
tell_calm x me s [] start o clean only calm = calm
tell_calm x me s (d ∷ drafts) start o clean only calm =
    let t : MayTell x s d = only.0 in
    tell_calm x me s drafts start (issue o me (seen_draft x d)) clean only.1
    (Then calm (Writes me d.to (seen_draft x d).tells (λ unknown. t.none (clean unknown)) (λ i. issue o me (record (seen_draft x d) { note = t.note i }))) tt)

-- letters that say nothing of it
silent_calm : (x me : ℕ) (drafts : List Draft) (start o : Object) → Silent x drafts → Calm start o → Calm start (issue_all o me (map (seen_draft x) drafts))
silent_calm x me [] start o silent calm = calm
silent_calm x me (d ∷ drafts) start o silent calm =
    let t : IsSilentOn x d = silent.0 in
    silent_calm x me drafts start (issue o me (seen_draft x d)) silent.1
    (Then calm (Writes me d.to (seen_draft x d).tells (λ unknown. t.tells) (λ i. issue o me (record (seen_draft x d) { note = t.note i }))) tt)

-- ## what an event is for x

-- it makes x, or is steps that don't
pub data Happened (x me : ℕ) (s own : NodeState) (before after : Object) : Type 0 where
  Made : x ≡ next_name me s → own.made ≡ s.made + 1 → after ≡ with_holding before me (Some made_share) → Happened x me s own before after
  Calmly : Calm before after → Happened x me s own before after

-- a node that has what it had
holding_again : (o : Object) (me : ℕ) → with_holding o me (o.holds me) ≡ o
holding_again o me i = record o { holds = λ n. again n (me == n) (eqb_is me n) i }
  where
    again : (n : ℕ) (b : Bool) → (b ≡ true → me ≡ n) → cond b (o.holds me) (o.holds n) ≡ o.holds n
    again n true q = ap o.holds (q refl)
    again n false q = refl

quiet_ready : (x : ℕ) (nodes : ℕ → Node) (past : List Event) (e : Event) (o : Reaction) → IsQuiet (nodes e.node).state o →
    ((n m : ℕ) → in_flight n m (past ++ e ∷ []) ≡ in_flight n m past ++ letters_by e n m) → IsReady x nodes e o past (seen x (world_of nodes past))
quiet_ready x nodes past e o quiet channel = record {
  holds = λ n. refl;
  channel = λ n m. ap (map (seen_message x)) (channel n m) ∙ map-append (seen_message x) (in_flight n m past) (letters_by e n m);
  records = λ m. (λ i. records_of x (record ((nodes e.node).state) { entering = sym quiet.entering i }) m);
  other_records = λ n m h. refl;
  issued = λ n m. refl;
  taken = λ m. (λ i. sym quiet.taken i m);
  other_taken = λ n m h. refl;
}

-- an event that takes no letter
pub quiet_happened : (x : ℕ) (nodes : ℕ → Node) (past : List Event) (e : Event) (after : Node) (o : Reaction) → IsOutcomeOf e (nodes e.node).state after o →
    IsQuiet (nodes e.node).state o → ((n m : ℕ) → in_flight n m (past ++ e ∷ []) ≡ in_flight n m past ++ letters_by e n m) → Did x e.node (nodes e.node).state o →
    (seen_known ((nodes e.node).state.known x) ≡ None → FreeOf x (nodes e.node).state.known) →
    Happened x e.node (nodes e.node).state (after_changes (nodes e.node).state o.changes) (seen x (world_of nodes past)) (seen x (world_of (put nodes e.node after) (past ++ e ∷ [])))
quiet_happened x nodes past e after o of quiet channel did clean = by_did did
  where
    me : ℕ
    me = e.node

    before : Object
    before = seen x (world_of nodes past)

    ready : IsReady x nodes e o past before
    ready = quiet_ready x nodes past e o quiet channel

    is : seen x (world_of (put nodes me after) (past ++ e ∷ []))
        ≡ issue_all (with_holding before me (shares_after x (seen_known ((nodes me).state.known x)) o.changes)) me (map (seen_draft x) o.drafts)
    is = seen_after x nodes e after o past before of ready

    by_did : Did x me (nodes me).state o → Happened x me (nodes me).state (after_changes (nodes me).state o.changes) before (seen x (world_of (put nodes me after) (past ++ e ∷ [])))
    by_did (Acts refers a h t has does shares drafts) = Calmly (Then Still (Does me refers a h t has does
        (is ∙ (λ i. issue_all (with_holding before me (shares i)) me (drafts i)))) tt)
    by_did (Passes shares only) = Calmly (subst (Calm before)
        (sym (is ∙ ap (λ (p : Object). issue_all p me (map (seen_draft x) o.drafts)) ((λ i. with_holding before me (shares i)) ∙ holding_again before me)))
        (tell_calm x me (nodes me).state o.drafts before before clean only Still))
    by_did (Makes named shares none more) = Made named more
        (is ∙ (λ i. issue_all (with_holding before me (shares i)) me (map (seen_draft x) (none i))))

-- ## letters taken

pub taking_happened : (x : ℕ) (nodes : ℕ → Node) (past : List Event) (e : Event) (after : Node) (o : Reaction) (from : ℕ) (l : Letter) (rest : List Letter) →
    IsOutcomeOf e (nodes e.node).state after o → in_flight from e.node past ≡ l ∷ rest → from ≢ e.node → Took x e.node from l.seq (nodes e.node).state l.msg o →
    ((n m : ℕ) → in_flight n m (past ++ e ∷ []) ≡ way_left past e from rest n m ++ letters_by e n m) →
    Happened x e.node (nodes e.node).state (after_changes (nodes e.node).state o.changes) (seen x (world_of nodes past)) (seen x (world_of (put nodes e.node after) (past ++ e ∷ [])))
taking_happened x nodes past e after o from l rest of first apart took channel = Calmly (by_says took.says)
  where
    me : ℕ
    me = e.node

    before : Object
    before = seen x (world_of nodes past)

    st : NodeState
    st = (nodes me).state

    message : Message
    message = seen_message x l

    left : List Message
    left = map (seen_message x) rest

    q : Object
    q = popped before from me message left

    left_way : (n m : ℕ) → map (seen_message x) (way_left past e from rest n m) ≡ put_at before.channel from me left n m
    left_way n m = by_tests (two me m) (two from n)
      where
        by_tests : Two me m → Two from n → map (seen_message x) (way_left past e from rest n m) ≡ put_at before.channel from me left n m
        by_tests (Same a) (Same b) =
            (λ i. map (seen_message x) (cond (eqb_of a i) (cond (eqb_of b i) rest (in_flight n m past)) (in_flight n m past)))
            ∙ (λ i. cond (sym (eqb_of a) i) left (before.channel from m))
            ∙ (λ i. cond (sym (eqb_of b) i) (put (before.channel from) me left) (before.channel n) m)
        by_tests (Same a) (Apart h d) =
            (λ i. map (seen_message x) (cond (eqb_of a i) (cond (h i) rest (in_flight n m past)) (in_flight n m past)))
            ∙ (λ i. cond (sym h i) (put (before.channel from) me left) (before.channel n) m)
        by_tests (Apart h d) (Same b) =
            (λ i. map (seen_message x) (cond (h i) (cond (from == n) rest (in_flight n m past)) (in_flight n m past)))
            ∙ (λ i. before.channel (sym b i) m)
            ∙ (λ i. cond (sym h i) left (before.channel from m))
            ∙ (λ i. cond (sym (eqb_of b) i) (put (before.channel from) me left) (before.channel n) m)
        by_tests (Apart h d) (Apart f c) =
            (λ i. map (seen_message x) (cond (h i) (cond (from == n) rest (in_flight n m past)) (in_flight n m past)))
            ∙ (λ i. cond (sym f i) (put (before.channel from) me left) (before.channel n) m)

    got : Numbers
    got = got_in l.seq (before.entering me from)

    records_at : (b : Bool) (m : ℕ) → cond b (put_at before.entering me from (Some got)) before.entering me m ≡ got_records b (records_of x st) from l.seq m
    records_at true m = put_at_row before.entering me from m (Some got)
    records_at false m = refl

    records_else : (b : Bool) (n m : ℕ) → (me == n) ≡ false → cond b (put_at before.entering me from (Some got)) before.entering n m ≡ before.entering n m
    records_else true n m h = put_at_else before.entering me from n m (Some got) h
    records_else false n m h = refl

    ready : IsReady x nodes e o past q
    ready = record {
      holds = λ n. refl;
      channel = λ n m. ap (map (seen_message x)) (channel n m) ∙ map-append (seen_message x) (way_left past e from rest n m) (letters_by e n m)
          ∙ ap (λ (k : List Message). k ++ map (seen_message x) (letters_by e n m)) (left_way n m);
      records = λ m. records_at (option_map_or is_handover (seen_note x l.msg) false) m ∙ sym (took.entering m);
      other_records = λ n m h. records_else (option_map_or is_handover (seen_note x l.msg) false) n m h;
      issued = λ n m. refl;
      taken = λ m. put_at_row before.taken me from m (before.taken me from + 1) ∙ ap (λ (f : ℕ → ℕ). f m) (sym took.taken);
      other_taken = λ n m h. put_at_else before.taken me from n m (before.taken me from + 1) h;
    }

    is : seen x (world_of (put nodes me after) (past ++ e ∷ [])) ≡ issue_all (with_holding q me took.transition.after) me (map (seen_draft x) o.drafts)
    is = seen_after x nodes e after o past q of ready ∙ (λ i. issue_all (with_holding q me (took.after i)) me (map (seen_draft x) o.drafts))

    by_says : Says x o.drafts took.transition.sends → Calm before (seen x (world_of (put nodes me after) (past ++ e ∷ [])))
    by_says (Own drafts) = Then Still (Receives from me message left took.transition apart (ap (map (seen_message x)) first) (took.makes message refl refl)
        (is ∙ ap (issue_all (with_holding q me took.transition.after) me) drafts)) tt
    by_says (Others none silent) = subst (Calm before) (sym is)
        (silent_calm x me o.drafts before (with_holding q me took.transition.after) silent
        (Then Still (Receives from me message left took.transition apart (ap (map (seen_message x)) first) (took.makes message refl refl)
        (λ i. issue_all (with_holding q me took.transition.after) me (map (draft false) (sym none i)))) tt))
