-- What letters that bring no object come to.
use Rattle.std.proofs.lemmas.Bool.{false≢true}
use Rattle.std.proofs.Common.{◌≡◌, ℕ, ◌==◌, ◌||◌, Bool, true, false, if◌then◌else◌, List, [], ◌∷◌, ◌++◌, map, Option, Some, None, IsSome, is_some, unwrap_or, refl, sym, ◌∙◌, ap, subst, cond}
use Rattle.std.specs.Option.{option_map, option_map_or}
use Rattle.std.specs.List.{list_any, flat_map}
use Rattle.bmx_types.specs.declared.addresses.Place.{Place}
use Rattle.bmx_types.specs.declared.addresses.Info.{Info}
use Rattle.bmx_types.specs.declared.numbers.Mode.{Mode}
use Rattle.bmx_types.specs.declared.numbers.Mode.TheVariants as mode
use Rattle.bmx_msg.specs.declared.letters.Field.{Field}
use Rattle.bmx_msg.specs.declared.letters.Msg.{Msg}
use Rattle.bmx_msg.specs.declared.letters.Msg.TheVariants as msg
use Rattle.bmx_msg.specs.Letters.{given}
use Rattle.bmx_token.specs.declared.parts.Part.{Part}
use Rattle.bmx_token.specs.declared.parts.Role.{Role}
use Rattle.bmx_token.specs.declared.parts.Role.TheVariants.{Owner, Parent}
use Rattle.bmx_token.specs.declared.answers.Requested.{Requested}
use Rattle.bmx_token.specs.declared.answers.Requested.TheVariants as requested_is
use Rattle.bmx_token.specs.declared.answers.Revoked.{Revoked}
use Rattle.bmx_token.specs.declared.answers.Revoked.TheVariants as revoked_is
use Rattle.bmx_token.specs.Tokens.{owner_part, request, request_by, inval, inval_by, ack, ack_by}
use Rattle.bmx_token.specs.Transitions.{Share, Note, Asks, Recalls, Returns, Send, send, note_transition, with_token, without_copy, saying, requested, recalled, returned}
use Rattle.bmx_tokens.specs.Tables.{Table, part_of, part_at, Becomes}
use Rattle.bmx_protocol.specs.declared.inputs.NodeAnswer.{NodeAnswer}
use Rattle.bmx_protocol.specs.declared.inputs.NodeAnswer.TheVariants as answer
use Rattle.bmx_protocol.specs.declared.inputs.Sending.{Sending}
use Rattle.bmx_protocol.specs.declared.inputs.Done.{Done}
use Rattle.bmx_protocol.specs.Nodes.{NodeState, Known, share_of}
use Rattle.bmx_protocol.specs.Places.{Places, with_all_learnt}
use Rattle.bmx_protocol.specs.Changes.{Change, Knows, Gives, Issues, Takes, after_changes, after_change}
use Rattle.bmx_protocol.specs.Rules.{Reaction, only, name_in, note_in, grant_in, infos, drafts_of, with_share, took, take_rule}
use Rattle.bmx_protocol.specs.Steps.{numbered, sent_changes}
use Rattle.bmx_memory.specs.Shown.{Object, shown, known_as, has_copy, with_copy as cleared_copy}
use Rattle.bmx_memory.specs.Contents.{Contents}
use Rattle.bmx_mail.specs.Mails.{MailState, issued_of, with_mail, Tracks, next_letter}
use Rattle.bmx_node.specs.declared.holdings.Holdings.{Holdings}
use Rattle.bmx_node.specs.Seen.{state_of, places_of}
use Rattle.bmx_node.specs.Inside.Keeping.{IsFit, Keeps}
use Rattle.bmx_node.specs.Inside.Reacting.{Reacts, lies_at, letter_on, request_msg}
use Rattle.bmx_node.specs.Inside.Taking.{Took}
use Rattle.bmx_node.proofs.Fitting.{fit_request, fit_inval, fit_ack}
use Rattle.bmx_node.proofs.Turning.{Turns, turns_token, turns_cleared, turned_state, turned_places, turned_keeps}
use Rattle.bmx_node.proofs.Reactions.{reacts_only, reacts_saying, with_token_is}
use Rattle.bmx_node.proofs.Operating.{object_there, known_here, unknown_here, keeps_mail, turned_nothing}

-- ## rules of letters

-- a letter of a name that is known so, with a note that is taken so
pub rule_taken : (me : ℕ) (s : NodeState) (lies : ℕ → Place) (from seq : ℕ) (m : Msg) (k : Known) (x : Share) (sends : List Send) →
    s.known (name_in m) ≡ Some k → note_transition me from (note_in m) (Some (share_of k)) ≡ Some (saying x sends) →
    take_rule me s lies from seq m ≡ took s lies from seq m (Some k) (Some (saying x sends))
rule_taken me s lies from seq m k x sends known is =
    ap (λ (y : Option Known). took s lies from seq m y (note_transition me from (note_in m) (option_map share_of y))) known
    ∙ ap (took s lies from seq m (Some k)) is

-- one that brings no object changes what is known of the name, and counts
plain_took : (s : NodeState) (lies : ℕ → Place) (from seq : ℕ) (m : Msg) (k : Known) (x : Share) (sends : List Send) → grant_in m ≡ None →
    took s lies from seq m (Some k) (Some (saying x sends))
    ≡ record { changes = Knows (name_in m) (with_share k k.copy x) ∷ Takes from ∷ []; drafts = drafts_of s lies (name_in m) sends; answer = answer.Nil }
plain_took s lies from seq (msg.ReadReq name asker) k x sends none = refl
plain_took s lies from seq (msg.WriteReq name asker) k x sends none = refl
plain_took s lies from seq (msg.ReadGrant info fields) k x sends none = absurd (false≢true (sym (ap is_some none)))
plain_took s lies from seq (msg.WriteGrant info fields) k x sends none = absurd (false≢true (sym (ap is_some none)))
plain_took s lies from seq (msg.Inval name) k x sends none = refl
plain_took s lies from seq (msg.InvAck name) k x sends none = refl

plain_rule : (me : ℕ) (s : NodeState) (lies : ℕ → Place) (from seq : ℕ) (m : Msg) (name : ℕ) (n : Note) (k : Known) (x : Share) (sends : List Send) →
    name_in m ≡ name → note_in m ≡ n → grant_in m ≡ None → s.known name ≡ Some k → note_transition me from n (Some (share_of k)) ≡ Some (saying x sends) →
    take_rule me s lies from seq m ≡ record { changes = Knows name (with_share k k.copy x) ∷ Takes from ∷ []; drafts = drafts_of s lies name sends; answer = answer.Nil }
plain_rule me s lies from seq m name n k x sends names notes none known is =
    rule_taken me s lies from seq m k x sends (ap s.known names ∙ known) (ap (λ (y : Note). note_transition me from y (Some (share_of k))) notes ∙ is)
    ∙ plain_took s lies from seq m k x sends none
    ∙ ap (λ (y : ℕ). record { changes = Knows y (with_share k k.copy x) ∷ Takes from ∷ []; drafts = drafts_of s lies y sends; answer = answer.Nil }) names

-- one with a note that is stray
pub stray_rule : (me : ℕ) (s : NodeState) (lies : ℕ → Place) (from seq : ℕ) (m : Msg) (name : ℕ) (n : Note) (o : Option Known) →
    name_in m ≡ name → note_in m ≡ n → s.known name ≡ o → note_transition me from n (option_map share_of o) ≡ None →
    take_rule me s lies from seq m ≡ only answer.Stray
stray_rule me s lies from seq m name n o names notes known none =
    let there : s.known (name_in m) ≡ o = ap s.known names ∙ known in
    ap (λ (y : Option Known). took s lies from seq m y (note_transition me from (note_in m) (option_map share_of y))) there
    ∙ ap (λ (y : Note). took s lies from seq m o (note_transition me from y (option_map share_of o))) notes
    ∙ ap (took s lies from seq m o) none

plain_infos : (m : Msg) → grant_in m ≡ None → infos m ≡ []
plain_infos m none = ap (λ (g : Option (Info × List Field)). option_map_or (λ (y : Info × List Field). y.0 ∷ Rattle.std.specs.Prelude.filter_map Rattle.bmx_protocol.specs.Rules.info_in y.1) g []) none

-- ## what holdings make of them

-- a stray letter changes nothing
pub takes_stray : (stamp : ℕ) (h new : Holdings) (from seq : ℕ) (m : Msg) → letter_on h from seq m ≡ only answer.Stray →
    state_of new ≡ state_of h → places_of new ≡ places_of h → Took stamp h from seq m (record { answer = answer.Stray; letters = [] }) new
takes_stray stamp h new from seq m rule state places = record {
  reacts = subst (Reacts stamp (state_of h) (letter_on h from seq m) (record { answer = answer.Stray; letters = [] })) (sym state)
      (subst (λ (r : Reaction). Reacts stamp (state_of h) r (record { answer = answer.Stray; letters = [] }) (state_of h)) (sym rule) (reacts_only stamp (state_of h) answer.Stray));
  places = places;
}

-- one that is taken, with letters that were posted for it
takes_by : (stamp : ℕ) (h new : Holdings) (mid : NodeState) (from seq : ℕ) (m : Msg) (changes : List Change) (name : ℕ) (sends : List Send) (letters : List Sending) →
    grant_in m ≡ None →
    letter_on h from seq m ≡ record { changes = changes; drafts = drafts_of (state_of h) (lies_at h) name sends; answer = answer.Nil } →
    mid ≡ after_changes (state_of h) changes → letters ≡ numbered (state_of h).issued stamp (drafts_of (state_of h) (lies_at h) name sends) →
    state_of new ≡ after_changes mid (flat_map sent_changes letters) → places_of new ≡ places_of h →
    Took stamp h from seq m (record { answer = answer.Nil; letters = letters }) new
takes_by stamp h new mid from seq m changes name sends letters none rule first sent last places = record {
  reacts = subst (λ (r : Reaction). Reacts stamp (state_of h) r (record { answer = answer.Nil; letters = letters }) (state_of new)) (sym rule)
      (reacts_saying stamp (state_of h) mid (state_of new) changes (drafts_of (state_of h) (lies_at h) name sends) answer.Nil letters first sent last);
  places = places ∙ ap (with_all_learnt (places_of h)) (sym (plain_infos m none));
}

-- the token and the object of its name turned as the transition of its note says
pub takes_turn : (stamp : ℕ) (h mid : Holdings) (mail : MailState) (from seq : ℕ) (m : Msg) (name : ℕ) (n : Note) (k : Known) (q : Part) (o : Object) (x : Share) (sends : List Send) (letters : List Sending) →
    name_in m ≡ name → note_in m ≡ n → grant_in m ≡ None →
    Turns h mid name q o → mid.mail ≡ h.mail → (state_of h).known name ≡ Some k → note_transition h.me from n (Some (share_of k)) ≡ Some (saying x sends) →
    with_share k k.copy x ≡ known_as q o → letters ≡ numbered (issued_of h.mail) stamp (drafts_of (state_of h) (lies_at h) name sends) →
    ((s : NodeState) → after_changes (with_mail s h.mail) (Takes from ∷ flat_map sent_changes letters) ≡ with_mail s mail) →
    Took stamp h from seq m (record { answer = answer.Nil; letters = letters }) (record mid { mail = mail })
unfolding state_of places_of
takes_turn stamp h mid mail from seq m name n k q o x sends letters names notes none turns same known is shared sent tracked =
    takes_by stamp h (record mid { mail = mail }) (after_change (with_mail (state_of mid) h.mail) (Takes from)) from seq m (Knows name (with_share k k.copy x) ∷ Takes from ∷ []) name sends letters none
    (plain_rule h.me (state_of h) (lies_at h) from seq m name n k x sends names notes none known is)
    (ap (λ (s : NodeState). after_change (with_mail s h.mail) (Takes from)) (turned_state h mid name q o turns)
    ∙ ap (λ (y : Known). after_change (after_change (state_of h) (Knows name y)) (Takes from)) (sym shared))
    sent (sym (tracked (state_of mid))) (turned_places h mid name q o turns)

-- ## counting it

-- no letter is issued
pub counted : (old new : MailState) (from : ℕ) → Tracks old new (Takes from ∷ []) (λ _. Unit {0}) →
    (s : NodeState) → after_changes (with_mail s old) (Takes from ∷ flat_map sent_changes []) ≡ with_mail s new
counted old new from change s = change s tt

-- it is counted before a letter that gives no name, or after it
counts_apart : (s : NodeState) (from : ℕ) (l : Sending) → given l.letter.msg ≡ [] →
    after_changes s (Takes from ∷ flat_map sent_changes (l ∷ [])) ≡ after_change (after_changes s (flat_map sent_changes (l ∷ []))) (Takes from)
counts_apart s from l none =
    subst (λ (names : List ℕ). after_changes s (Takes from ∷ ((map (λ name. Gives name l.to l.letter.seq) names ++ Issues l.to ∷ []) ++ []))
    ≡ after_change (after_changes s ((map (λ name. Gives name l.to l.letter.seq) names ++ Issues l.to ∷ []) ++ [])) (Takes from)) (sym none) refl

pub counted_after : (old mid new : MailState) (from : ℕ) (l : Sending) → given l.letter.msg ≡ [] →
    Tracks mid new (Takes from ∷ []) (λ _. Unit {0}) → ((s : NodeState) → after_changes (with_mail s old) (flat_map sent_changes (l ∷ [])) ≡ with_mail s mid) →
    (s : NodeState) → after_changes (with_mail s old) (Takes from ∷ flat_map sent_changes (l ∷ [])) ≡ with_mail s new
counted_after old mid new from l none change sent s =
    counts_apart (with_mail s old) from l none ∙ ap (λ (y : NodeState). after_change y (Takes from)) (sent s) ∙ change s tt

-- ## tokens

-- the token of a name that has one
pub part_there : (h : Holdings) (name : ℕ) → IsSome (part_of h.tokens name) → part_of h.tokens name ≡ Some (part_at h.tokens name)
part_there h name there = by (part_of h.tokens name) there
  where
    by : (x : Option Part) → IsSome x → x ≡ Some (unwrap_or x owner_part)
    by None there = absurd (false≢true there)
    by (Some p) there = refl

-- letters leave the role but for grants
ack_role : (p : Part) (from : ℕ) → (ack p from).0.role ≡ p.role
ack_role p from = by p.role
  where
    at : (b : Bool) → (cond {A = Part × Bool} b (record p { waiting = Rattle.bmx_token.specs.Nodes.nodes_without from p.waiting; readers = Rattle.bmx_token.specs.Nodes.nodes_without from p.readers }, true) (p, false)).0.role ≡ p.role
    at true = refl
    at false = refl

    by : (r : Role) → (ack_by p from r).0.role ≡ p.role
    by Owner = at (list_any (λ node. node == from) p.waiting)
    by (Parent parent) = refl

-- a return that isn't waited for changes nothing
ack_same : (p : Part) (from : ℕ) → (ack p from).1 ≡ false → (ack p from).0 ≡ p
ack_same p from none = by p.role none
  where
    at : (b : Bool) → (cond {A = Part × Bool} b (record p { waiting = Rattle.bmx_token.specs.Nodes.nodes_without from p.waiting; readers = Rattle.bmx_token.specs.Nodes.nodes_without from p.readers }, true) (p, false)).1 ≡ false →
        (cond {A = Part × Bool} b (record p { waiting = Rattle.bmx_token.specs.Nodes.nodes_without from p.waiting; readers = Rattle.bmx_token.specs.Nodes.nodes_without from p.readers }, true) (p, false)).0 ≡ p
    at true none = absurd (false≢true (sym none))
    at false none = refl

    by : (r : Role) → (ack_by p from r).1 ≡ false → (ack_by p from r).0 ≡ p
    by Owner none = at (list_any (λ node. node == from) p.waiting) none
    by (Parent parent) none = refl

request_role : (me : ℕ) (p : Part) (asker : ℕ) (m : Mode) → (request me p asker m).0.role ≡ p.role
request_role me p asker m = by p.role
  where
    at : (b : Bool) → (cond {A = Part × Requested} b (p, requested_is.Stray) (record p { queue = p.queue ++ record { asker = asker; mode = m } ∷ [] }, requested_is.Queued)).0.role ≡ p.role
    at true = refl
    at false = refl

    by : (r : Role) → (request_by me p asker m r).0.role ≡ p.role
    by Owner = at (asker == me)
    by (Parent parent) = refl

is_queued : Requested → Bool
is_queued requested_is.Queued = true
is_queued (requested_is.Forward parent) = false
is_queued requested_is.Stray = false

-- a request that isn't queued changes nothing
request_same : (me : ℕ) (p : Part) (asker : ℕ) (m : Mode) → is_queued (request me p asker m).1 ≡ false → (request me p asker m).0 ≡ p
unfolding is_queued
request_same me p asker m none = by p.role none
  where
    at : (b : Bool) → is_queued (cond {A = Part × Requested} b (p, requested_is.Stray) (record p { queue = p.queue ++ record { asker = asker; mode = m } ∷ [] }, requested_is.Queued)).1 ≡ false →
        (cond {A = Part × Requested} b (p, requested_is.Stray) (record p { queue = p.queue ++ record { asker = asker; mode = m } ∷ [] }, requested_is.Queued)).0 ≡ p
    at true none = refl
    at false none = absurd (false≢true (sym none))

    by : (r : Role) → is_queued (request_by me p asker m r).1 ≡ false → (request_by me p asker m r).0 ≡ p
    by Owner none = at (asker == me) none
    by (Parent parent) none = refl

inval_role : (p : Part) (from : ℕ) (copy : Bool) → (inval p from copy).0.role ≡ p.role
inval_role p from copy = by p.role p.due copy
  where
    at : (b : Bool) → (cond {A = Part × Option Revoked} b (record p { due = Some from }, Some revoked_is.AtRelease) (p, Some revoked_is.Now)).0.role ≡ p.role
    at true = refl
    at false = refl

    by : (r : Role) (due : Option ℕ) (c : Bool) → (inval_by p from r due c).0.role ≡ p.role
    by Owner due c = refl
    by (Parent parent) (Some owner) c = refl
    by (Parent parent) None false = refl
    by (Parent parent) None true = at (is_some p.held || p.ready)

-- a recall that is stray changes nothing
inval_same : (p : Part) (from : ℕ) (copy : Bool) → (inval p from copy).1 ≡ None → (inval p from copy).0 ≡ p
inval_same p from copy none = by p.role p.due copy none
  where
    at : (b : Bool) → (cond {A = Part × Option Revoked} b (record p { due = Some from }, Some revoked_is.AtRelease) (p, Some revoked_is.Now)).1 ≡ None →
        (cond {A = Part × Option Revoked} b (record p { due = Some from }, Some revoked_is.AtRelease) (p, Some revoked_is.Now)).0 ≡ p
    at true none = absurd (false≢true (sym (ap is_some none)))
    at false none = absurd (false≢true (sym (ap is_some none)))

    by : (r : Role) (due : Option ℕ) (c : Bool) → (inval_by p from r due c).1 ≡ None → (inval_by p from r due c).0 ≡ p
    by Owner due c none = refl
    by (Parent parent) (Some owner) c none = refl
    by (Parent parent) None false none = absurd (false≢true (sym (ap is_some none)))
    by (Parent parent) None true none = at (is_some p.held || p.ready) none

-- an owner's copy isn't recalled
inval_owner : (p : Part) (from : ℕ) (copy : Bool) (x : Revoked) → (inval p from copy).1 ≡ Some x → p.role ≡ Owner → ⊥
inval_owner p from copy x some own = false≢true (sym (ap (λ (r : Role). is_some (inval_by p from r p.due copy).1) own) ∙ ap is_some some)

-- ## requests

pub request_name : (name asker : ℕ) (m : Mode) → name_in (request_msg name asker m) ≡ name
request_name name asker mode.Read = refl
request_name name asker mode.Write = refl

pub request_note : (name asker : ℕ) (m : Mode) → note_in (request_msg name asker m) ≡ Asks m asker
request_note name asker mode.Read = refl
request_note name asker mode.Write = refl

pub request_brings : (name asker : ℕ) (m : Mode) → grant_in (request_msg name asker m) ≡ None
request_brings name asker mode.Read = refl
request_brings name asker mode.Write = refl

-- a letter of a name that isn't known
pub takes_unknown : (stamp : ℕ) (h : Holdings) (from seq : ℕ) (m : Msg) (name : ℕ) (n : Note) → Keeps h → name_in m ≡ name → note_in m ≡ n →
    part_of h.tokens name ≡ None → note_transition h.me from n None ≡ None → Took stamp h from seq m (record { answer = answer.Stray; letters = [] }) h
takes_unknown stamp h from seq m name n keeps names notes none stray =
    takes_stray stamp h h from seq m (stray_rule h.me (state_of h) (lies_at h) from seq m name n None names notes (unknown_here h name keeps none) stray) refl refl

-- a recall of an object that isn't known is answered
pub recall_unknown : (stamp : ℕ) (h : Holdings) (mail : MailState) (from seq name : ℕ) → Keeps h → part_of h.tokens name ≡ None →
    ((s : NodeState) → after_changes (with_mail s h.mail) (Takes from ∷ flat_map sent_changes (next_letter h.mail stamp from (msg.InvAck name) ∷ [])) ≡ with_mail s mail) →
    Took stamp h from seq (msg.Inval name) (record { answer = answer.Nil; letters = next_letter h.mail stamp from (msg.InvAck name) ∷ [] }) (record h { mail = mail })
unfolding state_of places_of
recall_unknown stamp h mail from seq name keeps none tracked =
    let s : NodeState = state_of h in
    takes_by stamp h (record h { mail = mail }) (after_change s (Takes from)) from seq (msg.Inval name) (Takes from ∷ []) name (send from Returns ∷ []) (next_letter h.mail stamp from (msg.InvAck name) ∷ []) refl
    (ap (λ (y : Option Known). took s (lies_at h) from seq (msg.Inval name) y (note_transition h.me from Recalls (option_map share_of y))) (unknown_here h name keeps none))
    refl refl (sym (tracked s)) refl

module _ (stamp : ℕ) (h : Holdings) (from seq name : ℕ) (keeps : Keeps h) (there : IsSome (part_of h.tokens name)) where
  has : part_of h.tokens name ≡ Some (part_at h.tokens name)
  has = part_there h name there

  here : (o : Object) × ((shown h.memory).object name ≡ Some o)
  here = object_there h name (part_at h.tokens name) keeps has

  owned : (q : Part) → q.role ≡ (part_at h.tokens name).role → q.role ≡ Owner → is_some here.0.copy ≡ true
  owned q same own =
      sym (ap (λ (y : Option Object). option_map_or (λ (x : Object). is_some x.copy) y false) here.1) ∙ keeps.agree.owners name (part_at h.tokens name) has (sym same ∙ own)

  -- a token that stays with its copy is kept
  pub token_keeps : (t : Table) (mail : MailState) (q : Part) → Becomes h.tokens t name q → IsFit q → q.role ≡ (part_at h.tokens name).role → Keeps (record h { tokens = t; mail = mail })
  token_keeps t mail q becomes fit same =
      keeps_mail (record h { tokens = t }) mail (turned_keeps h (record h { tokens = t }) name q here.0 here.0 (turns_token h t name q here.0 here.1 becomes) here.1 fit (owned q same) keeps)

  -- a letter that changes the token alone
  token_takes : (t : Table) (mail : MailState) (q : Part) (m : Msg) (n : Note) (x : Share) (sends : List Send) (letters : List Sending) →
      name_in m ≡ name → note_in m ≡ n → grant_in m ≡ None → Becomes h.tokens t name q →
      note_transition h.me from n (Some (share_of (known_as (part_at h.tokens name) here.0))) ≡ Some (saying x sends) →
      x ≡ with_token (share_of (known_as (part_at h.tokens name) here.0)) q → letters ≡ numbered (issued_of h.mail) stamp (drafts_of (state_of h) (lies_at h) name sends) →
      ((s : NodeState) → after_changes (with_mail s h.mail) (Takes from ∷ flat_map sent_changes letters) ≡ with_mail s mail) →
      Took stamp h from seq m (record { answer = answer.Nil; letters = letters }) (record h { tokens = t; mail = mail })
  token_takes t mail q m n x sends letters names notes none becomes is same sent tracked =
      let k : Known = known_as (part_at h.tokens name) here.0 in
      takes_turn stamp h (record h { tokens = t }) mail from seq m name n k q here.0 x sends letters names notes none
      (turns_token h t name q here.0 here.1 becomes) refl (known_here h name (part_at h.tokens name) here.0 has here.1) is
      (ap (with_share k k.copy) same ∙ with_token_is k q) sent tracked

  -- one that is stray
  token_stray : (t : Table) (q : Part) (m : Msg) (n : Note) → name_in m ≡ name → note_in m ≡ n → Becomes h.tokens t name q → q ≡ part_at h.tokens name →
      note_transition h.me from n (Some (share_of (known_as (part_at h.tokens name) here.0))) ≡ None →
      Took stamp h from seq m (record { answer = answer.Stray; letters = [] }) (record h { tokens = t })
  token_stray t q m n names notes becomes same none =
      let p : Part = part_at h.tokens name in
      let turns : Turns h (record h { tokens = t }) name p here.0 = turns_token h t name p here.0 here.1 (subst (Becomes h.tokens t name) same becomes) in
      let known : (state_of h).known name ≡ Some (known_as p here.0) = known_here h name p here.0 has here.1 in
      takes_stray stamp h (record h { tokens = t }) from seq m (stray_rule h.me (state_of h) (lies_at h) from seq m name n (Some (known_as p here.0)) names notes known none)
      (turned_nothing h (record h { tokens = t }) name p here.0 turns refl known) (turned_places h (record h { tokens = t }) name p here.0 turns)

  -- ## returns

  pub return_taken : (t : Table) (mail : MailState) → Becomes h.tokens t name (ack (part_at h.tokens name) from).0 → (ack (part_at h.tokens name) from).1 ≡ true →
      Tracks h.mail mail (Takes from ∷ []) (λ _. Unit {0}) →
      Took stamp h from seq (msg.InvAck name) (record { answer = answer.Nil; letters = [] }) (record h { tokens = t; mail = mail })
  return_taken t mail becomes is change =
      let p : Part = part_at h.tokens name in
      let y : Share = share_of (known_as p here.0) in
      token_takes t mail (ack p from).0 (msg.InvAck name) Returns (with_token y (ack p from).0) [] [] refl refl refl becomes
      (ap (returned y (ack p from).0) is) refl refl (counted h.mail mail from change)

  pub return_stray : (t : Table) → Becomes h.tokens t name (ack (part_at h.tokens name) from).0 → (ack (part_at h.tokens name) from).1 ≡ false →
      Took stamp h from seq (msg.InvAck name) (record { answer = answer.Stray; letters = [] }) (record h { tokens = t })
  return_stray t becomes is =
      let p : Part = part_at h.tokens name in
      token_stray t (ack p from).0 (msg.InvAck name) Returns refl refl becomes (ack_same p from is) (ap (returned (share_of (known_as p here.0)) (ack p from).0) is)

  pub return_keeps : (t : Table) (mail : MailState) → Becomes h.tokens t name (ack (part_at h.tokens name) from).0 → Keeps (record h { tokens = t; mail = mail })
  return_keeps t mail becomes =
      let p : Part = part_at h.tokens name in
      token_keeps t mail (ack p from).0 becomes (fit_ack p from (keeps.agree.fit name p has)) (ack_role p from)

  -- ## requests

  request_here : (asker : ℕ) (m : Mode) → request h.tokens.me (part_at h.tokens name) asker m ≡ request h.me (part_at h.tokens name) asker m
  request_here asker m = ap (λ (me : ℕ). request me (part_at h.tokens name) asker m) keeps.tokens

  pub request_keeps : (t : Table) (mail : MailState) (asker : ℕ) (m : Mode) → Becomes h.tokens t name (request h.tokens.me (part_at h.tokens name) asker m).0 → Keeps (record h { tokens = t; mail = mail })
  request_keeps t mail asker m becomes =
      let p : Part = part_at h.tokens name in
      token_keeps t mail (request h.tokens.me p asker m).0 becomes (fit_request h.tokens.me p asker m (keeps.agree.fit name p has)) (request_role h.tokens.me p asker m)

  pub request_queued : (t : Table) (mail : MailState) (asker : ℕ) (m : Mode) → Becomes h.tokens t name (request h.tokens.me (part_at h.tokens name) asker m).0 →
      (request h.tokens.me (part_at h.tokens name) asker m).1 ≡ requested_is.Queued → Tracks h.mail mail (Takes from ∷ []) (λ _. Unit {0}) →
      Took stamp h from seq (request_msg name asker m) (record { answer = answer.Nil; letters = [] }) (record h { tokens = t; mail = mail })
  request_queued t mail asker m becomes is change =
      let p : Part = part_at h.tokens name in
      let y : Share = share_of (known_as p here.0) in
      let q : Part = (request h.tokens.me p asker m).0 in
      token_takes t mail q (request_msg name asker m) (Asks m asker) (with_token y q) [] [] (request_name name asker m) (request_note name asker m) (request_brings name asker m) becomes
      (ap (λ (r : Part × Requested). requested m asker y r.0 r.1) (sym (request_here asker m)) ∙ ap (requested m asker y q) is) refl refl (counted h.mail mail from change)

  pub request_passed : (t : Table) (mail : MailState) (asker : ℕ) (m : Mode) (parent : ℕ) → Becomes h.tokens t name (request h.tokens.me (part_at h.tokens name) asker m).0 →
      (request h.tokens.me (part_at h.tokens name) asker m).1 ≡ requested_is.Forward parent →
      next_letter h.mail stamp parent (request_msg name asker m) ∷ [] ≡ numbered (issued_of h.mail) stamp (drafts_of (state_of h) (lies_at h) name (send parent (Asks m asker) ∷ [])) →
      ((s : NodeState) → after_changes (with_mail s h.mail) (Takes from ∷ flat_map sent_changes (next_letter h.mail stamp parent (request_msg name asker m) ∷ [])) ≡ with_mail s mail) →
      Took stamp h from seq (request_msg name asker m) (record { answer = answer.Nil; letters = next_letter h.mail stamp parent (request_msg name asker m) ∷ [] }) (record h { tokens = t; mail = mail })
  unfolding is_queued
  request_passed t mail asker m parent becomes is sent tracked =
      let p : Part = part_at h.tokens name in
      let y : Share = share_of (known_as p here.0) in
      let q : Part = (request h.tokens.me p asker m).0 in
      token_takes t mail q (request_msg name asker m) (Asks m asker) y (send parent (Asks m asker) ∷ []) (next_letter h.mail stamp parent (request_msg name asker m) ∷ [])
      (request_name name asker m) (request_note name asker m) (request_brings name asker m) becomes
      (ap (λ (r : Part × Requested). requested m asker y r.0 r.1) (sym (request_here asker m)) ∙ ap (requested m asker y q) is)
      (ap (with_token y) (sym (request_same h.tokens.me p asker m (ap is_queued is)))) sent tracked

  pub request_stray : (t : Table) (asker : ℕ) (m : Mode) → Becomes h.tokens t name (request h.tokens.me (part_at h.tokens name) asker m).0 →
      (request h.tokens.me (part_at h.tokens name) asker m).1 ≡ requested_is.Stray →
      Took stamp h from seq (request_msg name asker m) (record { answer = answer.Stray; letters = [] }) (record h { tokens = t })
  unfolding is_queued
  request_stray t asker m becomes is =
      let p : Part = part_at h.tokens name in
      let y : Share = share_of (known_as p here.0) in
      let q : Part = (request h.tokens.me p asker m).0 in
      token_stray t q (request_msg name asker m) (Asks m asker) (request_name name asker m) (request_note name asker m) becomes (request_same h.tokens.me p asker m (ap is_queued is))
      (ap (λ (r : Part × Requested). requested m asker y r.0 r.1) (sym (request_here asker m)) ∙ ap (requested m asker y q) is)

  -- ## recalls

  copied : has_copy (shown h.memory) name ≡ is_some here.0.copy
  copied = ap (λ (y : Option Object). option_map_or (λ (o : Object). is_some o.copy) y false) here.1

  recall_here : (copy : Bool) → copy ≡ has_copy (shown h.memory) name → inval (part_at h.tokens name) from copy ≡ inval (part_at h.tokens name) from (is_some here.0.copy)
  recall_here copy is = ap (inval (part_at h.tokens name) from) (is ∙ copied)

  pub recall_keeps : (t : Table) (mail : MailState) (copy : Bool) → Becomes h.tokens t name (inval (part_at h.tokens name) from copy).0 → Keeps (record h { tokens = t; mail = mail })
  recall_keeps t mail copy becomes =
      let p : Part = part_at h.tokens name in
      token_keeps t mail (inval p from copy).0 becomes (fit_inval p from copy (keeps.agree.fit name p has)) (inval_role p from copy)

  pub recall_stray : (t : Table) (copy : Bool) → copy ≡ has_copy (shown h.memory) name → Becomes h.tokens t name (inval (part_at h.tokens name) from copy).0 →
      (inval (part_at h.tokens name) from copy).1 ≡ None →
      Took stamp h from seq (msg.Inval name) (record { answer = answer.Stray; letters = [] }) (record h { tokens = t })
  recall_stray t copy copies becomes is =
      let p : Part = part_at h.tokens name in
      let y : Share = share_of (known_as p here.0) in
      token_stray t (inval p from copy).0 (msg.Inval name) Recalls refl refl becomes (inval_same p from copy is)
      (ap (λ (r : Part × Option Revoked). recalled from y r.0 r.1) (sym (recall_here copy copies)) ∙ ap (recalled from y (inval p from copy).0) is)

  pub recall_later : (t : Table) (mail : MailState) (copy : Bool) → copy ≡ has_copy (shown h.memory) name → Becomes h.tokens t name (inval (part_at h.tokens name) from copy).0 →
      (inval (part_at h.tokens name) from copy).1 ≡ Some revoked_is.AtRelease → Tracks h.mail mail (Takes from ∷ []) (λ _. Unit {0}) →
      Took stamp h from seq (msg.Inval name) (record { answer = answer.Nil; letters = [] }) (record h { tokens = t; mail = mail })
  recall_later t mail copy copies becomes is change =
      let p : Part = part_at h.tokens name in
      let y : Share = share_of (known_as p here.0) in
      let q : Part = (inval p from copy).0 in
      token_takes t mail q (msg.Inval name) Recalls (with_token y q) [] [] refl refl refl becomes
      (ap (λ (r : Part × Option Revoked). recalled from y r.0 r.1) (sym (recall_here copy copies)) ∙ ap (recalled from y q) is) refl refl (counted h.mail mail from change)

  pub recall_now : (t : Table) (c : Contents) (mail : MailState) (copy : Bool) → copy ≡ has_copy (shown h.memory) name → Becomes h.tokens t name (inval (part_at h.tokens name) from copy).0 →
      (inval (part_at h.tokens name) from copy).1 ≡ Some revoked_is.Now → shown c ≡ cleared_copy (shown h.memory) name None →
      ((s : NodeState) → after_changes (with_mail s h.mail) (Takes from ∷ flat_map sent_changes (next_letter h.mail stamp from (msg.InvAck name) ∷ [])) ≡ with_mail s mail) →
      Took stamp h from seq (msg.Inval name) (record { answer = answer.Nil; letters = next_letter h.mail stamp from (msg.InvAck name) ∷ [] }) (record h { tokens = t; memory = c; mail = mail })
  recall_now t c mail copy copies becomes is cleared tracked =
      let p : Part = part_at h.tokens name in
      let y : Share = share_of (known_as p here.0) in
      let q : Part = (inval p from copy).0 in
      takes_turn stamp h (record h { tokens = t; memory = c }) mail from seq (msg.Inval name) name Recalls (known_as p here.0) q (record here.0 { copy = None }) (without_copy q) (send from Returns ∷ [])
      (next_letter h.mail stamp from (msg.InvAck name) ∷ []) refl refl refl
      (turns_cleared h t c name q here.0 here.1 becomes cleared) refl (known_here h name p here.0 has here.1)
      (ap (λ (r : Part × Option Revoked). recalled from y r.0 r.1) (sym (recall_here copy copies)) ∙ ap (recalled from y q) is) refl refl tracked

  pub recall_keeps_cleared : (t : Table) (c : Contents) (mail : MailState) (copy : Bool) → Becomes h.tokens t name (inval (part_at h.tokens name) from copy).0 →
      (inval (part_at h.tokens name) from copy).1 ≡ Some revoked_is.Now → shown c ≡ cleared_copy (shown h.memory) name None → Keeps (record h { tokens = t; memory = c; mail = mail })
  recall_keeps_cleared t c mail copy becomes is cleared =
      let p : Part = part_at h.tokens name in
      let q : Part = (inval p from copy).0 in
      keeps_mail (record h { tokens = t; memory = c }) mail (turned_keeps h (record h { tokens = t; memory = c }) name q (record here.0 { copy = None }) here.0
      (turns_cleared h t c name q here.0 here.1 becomes cleared) here.1 (fit_inval p from copy (keeps.agree.fit name p has))
      (λ own. absurd (inval_owner p from copy revoked_is.Now is (sym (inval_role p from copy) ∙ own))) keeps)

-- another word for the outcome, and for where it leads
pub took_so : (stamp : ℕ) (h new there : Holdings) (from seq : ℕ) (m : Msg) (d e : Done) → e ≡ d → there ≡ new → Took stamp h from seq m d new → Took stamp h from seq m e there
took_so stamp h new there from seq m d e done to is =
    subst (λ (x : Holdings). Took stamp h from seq m e x) (sym to) (subst (λ (x : Done). Took stamp h from seq m x new) (sym done) is)
