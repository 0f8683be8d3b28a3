-- What operations on the token of a name come to.
use Rattle.bmx_node.proofs.Puts.{put_again}
use Rattle.std.proofs.lemmas.Bool.{false≢true}
use Rattle.bmx_node.proofs.Turning.{Turns, turns_token, turns_cleared, turned_state, turned_places, turned_keeps}
use Rattle.bmx_node.proofs.Reactions.{operation_none, operation_unknown, operation_done, with_token_is, append_nil}
use Rattle.bmx_node.proofs.Fitting.{fit_serve, fit_acquire, fit_release, acquire_role, release_role}
use Rattle.std.proofs.Common.{◌-◌, ◌++◌, if◌then◌else◌, IsSome, ◌≡◌, ℕ, Bool, true, false, List, [], ◌∷◌, Option, Some, None, is_some, unwrap_or, refl, sym, ◌∙◌, ap, subst}
use Rattle.std.specs.Option.{option_map, option_map_or}
use Rattle.std.specs.List.{flat_map}
use Rattle.bmx_types.specs.declared.addresses.Place.{Place}
use Rattle.bmx_types.specs.declared.numbers.Mode.{Mode}
use Rattle.bmx_msg.specs.declared.letters.Field.{Field}
use Rattle.bmx_msg.specs.Letters.{given}
use Rattle.bmx_token.specs.declared.parts.Part.{Part}
use Rattle.bmx_token.specs.declared.parts.Role.{Role}
use Rattle.bmx_token.specs.declared.parts.Role.TheVariants.{Owner, Parent}
use Rattle.bmx_token.specs.declared.answers.Acquire.{Acquire}
use Rattle.bmx_token.specs.Services.{service_of}
use Rattle.bmx_token.specs.declared.answers.Served.{Served}
use Rattle.bmx_token.specs.declared.answers.Served.TheVariants as served_is
use Rattle.bmx_token.specs.declared.answers.Service.{Service}
use Rattle.bmx_token.specs.declared.answers.Service.TheVariants as service
use Rattle.bmx_token.specs.declared.parts.Ask.{Ask}
use Rattle.bmx_protocol.specs.declared.inputs.Done.{Done}
use Rattle.bmx_msg.specs.declared.letters.Msg.{Msg}
use Rattle.bmx_token.specs.declared.answers.Release.{Release}
use Rattle.bmx_token.specs.declared.answers.Release.TheVariants as release_is
use Rattle.bmx_msg.specs.declared.letters.Msg.TheVariants as msg
use Rattle.bmx_token.specs.Tokens.{owner_part, acquire, take_wanted, want_read, want_write, acquire_by, release, release_by, serve, serve_by}
use Rattle.bmx_token.specs.Transitions.{Operation, Acquires, Releases, Serves, served, is_served, Share, Send, send, Asks, Returns, transition_of, with_token, without_copy, saying, acquired, released}
use Rattle.bmx_tokens.specs.Tables.{Table, part_of, part_at, Becomes}
use Rattle.bmx_protocol.specs.declared.inputs.NodeAnswer.{NodeAnswer}
use Rattle.bmx_protocol.specs.declared.inputs.Sending.{Sending}
use Rattle.bmx_protocol.specs.Nodes.{NodeState, Known, share_of}
use Rattle.bmx_protocol.specs.Changes.{Knows, after_changes, after_change}
use Rattle.bmx_protocol.specs.Rules.{Reaction, info_of, message, drafts_of, with_share, operation_answer, acquire_answer, release_answer}
use Rattle.bmx_protocol.specs.Steps.{numbered, sent_changes}
use Rattle.bmx_memory.specs.Shown.{Shown, Object, shown, known_as, has_copy, with_copy as cleared_copy}
use Rattle.bmx_memory.specs.Contents.{Contents}
use Rattle.bmx_mail.specs.Mails.{MailState, OutboxState, issued_of, with_mail, Tracks, TellsBunches, next_letter}
use Rattle.bmx_node.specs.declared.holdings.Holdings.{Holdings}
use Rattle.bmx_node.specs.Seen.{state_of, places_of, limit_of}
use Rattle.bmx_node.specs.Inside.Keeping.{IsFit, Keeps, Frame}
use Rattle.bmx_node.specs.Inside.Reacting.{Reacts, lies_at, Does, operation_on, request_msg}
use Rattle.bmx_types.specs.declared.numbers.Mode.TheVariants as mode
use Rattle.bmx_types.specs.declared.commands.Refusal.TheVariants as refusal
use Rattle.bmx_protocol.specs.declared.inputs.NodeAnswer.TheVariants as answer
use Rattle.bmx_token.specs.declared.answers.Acquire.TheVariants as acquire_is

-- an option that isn't empty
there_is : (x : Option Object) → is_some x ≡ true → (o : Object) × (x ≡ Some o)
there_is None h = absurd (false≢true h)
there_is (Some o) h = (o, refl)

-- a name with a token has an object
pub object_there : (h : Holdings) (name : ℕ) (p : Part) → Keeps h → part_of h.tokens name ≡ Some p → (o : Object) × ((shown h.memory).object name ≡ Some o)
object_there h name p keeps has = there_is ((shown h.memory).object name) (sym (keeps.agree.same name) ∙ ap is_some has)

-- which is known with it
pub known_here : (h : Holdings) (name : ℕ) (p : Part) (o : Object) → part_of h.tokens name ≡ Some p → (shown h.memory).object name ≡ Some o →
    (state_of h).known name ≡ Some (known_as p o)
unfolding state_of
known_here h name p o has had =
    ap (option_map (known_as (part_at h.tokens name))) had ∙ ap (λ (x : Option Part). Some (known_as (unwrap_or x owner_part) o)) has

-- a name without a token isn't known
no_object : (x : Option Object) → is_some x ≡ false → x ≡ None
no_object None h = refl
no_object (Some o) h = absurd (false≢true (sym h))

pub unknown_here : (h : Holdings) (name : ℕ) → Keeps h → part_of h.tokens name ≡ None → (state_of h).known name ≡ None
unfolding state_of
unknown_here h name keeps none =
    ap (option_map (known_as (part_at h.tokens name))) (no_object ((shown h.memory).object name) (sym (keeps.agree.same name) ∙ ap is_some none))

-- the mail is no part of what is kept, nor of where objects lie
pub keeps_mail : (h : Holdings) (m : MailState) → Keeps h → Keeps (record h { mail = m })
keeps_mail h m keeps = record { me = keeps.me; tokens = keeps.tokens; few = keeps.few; agree = keeps.agree }

pub frame_same : (h : Holdings) → Frame h h
frame_same h = record { me = refl; store = refl; limit = refl; clock = refl }

pub frame_tokens : (h : Holdings) (t : Table) (m : MailState) → Frame h (record h { tokens = t; mail = m })
unfolding limit_of
frame_tokens h t m = record { me = refl; store = refl; limit = refl; clock = refl }

pub frame_cleared : (h : Holdings) (t : Table) (c : Contents) (m : MailState) (name : ℕ) → shown c ≡ cleared_copy (shown h.memory) name None →
    Frame h (record h { tokens = t; memory = c; mail = m })
unfolding limit_of
frame_cleared h t c m name cleared = record { me = refl; store = refl; limit = ap (λ (x : Shown). x.limit) cleared; clock = refl }

pub does_unknown : (stamp : ℕ) (h : Holdings) (op : Operation) (unknown : NodeAnswer) (name : ℕ) → Keeps h → part_of h.tokens name ≡ None →
    Does stamp h (operation_on h op unknown name) (record { answer = unknown; letters = [] }) h
does_unknown stamp h op unknown name keeps none = record {
  reacts = operation_unknown stamp h.me (state_of h) (lies_at h) op unknown name (unknown_here h name keeps none);
  places = refl;
}

-- the token and the object of a name turned as its transition says, and the letters were posted
pub turn_does : (stamp : ℕ) (h mid : Holdings) (m : MailState) (op : Operation) (unknown a : NodeAnswer) (name : ℕ) (k : Known) (q : Part) (o : Object) (x : Share) (sends : List Send) (letters : List Sending) →
    Turns h mid name q o → mid.mail ≡ h.mail → (state_of h).known name ≡ Some k → transition_of h.me op (share_of k) ≡ Some (saying x sends) →
    operation_answer h.me op (share_of k) ≡ a → with_share k k.copy x ≡ known_as q o →
    letters ≡ numbered (issued_of h.mail) stamp (drafts_of (state_of h) (lies_at h) name sends) →
    after_changes (with_mail (state_of mid) h.mail) (flat_map sent_changes letters) ≡ with_mail (state_of mid) m →
    Does stamp h (operation_on h op unknown name) (record { answer = a; letters = letters }) (record mid { mail = m })
unfolding state_of places_of
turn_does stamp h mid m op unknown a name k q o x sends letters turns same known moves is shared sent tracked = record {
  reacts = operation_done stamp h.me (state_of h) (with_mail (state_of mid) h.mail) (state_of (record mid { mail = m })) (lies_at h) op unknown a name k x sends letters known moves is
      (ap (λ (s : NodeState). with_mail s h.mail) (turned_state h mid name q o turns) ∙ ap (λ (y : Known). after_change (state_of h) (Knows name y)) (sym shared))
      sent (sym tracked);
  places = turned_places h mid name q o turns;
}

-- nothing of the name turned
pub turned_nothing : (h new : Holdings) (name : ℕ) (p : Part) (o : Object) → Turns h new name p o → new.mail ≡ h.mail → (state_of h).known name ≡ Some (known_as p o) → state_of new ≡ state_of h
unfolding state_of
turned_nothing h new name p o turns mail known =
    turned_state h new name p o turns
    ∙ ap (λ (m : MailState). with_mail (after_change (state_of h) (Knows name (known_as p o))) m) mail
    ∙ ap (λ (f : ℕ → Option Known). record (state_of h) { known = f }) (sym (put_again (state_of h).known name (Some (known_as p o)) known))

-- the token refused, and nothing turned
pub none_does : (stamp : ℕ) (h new : Holdings) (op : Operation) (unknown a : NodeAnswer) (name : ℕ) (p : Part) (o : Object) →
    Turns h new name p o → new.mail ≡ h.mail → (state_of h).known name ≡ Some (known_as p o) → transition_of h.me op (share_of (known_as p o)) ≡ None →
    operation_answer h.me op (share_of (known_as p o)) ≡ a →
    Does stamp h (operation_on h op unknown name) (record { answer = a; letters = [] }) new
none_does stamp h new op unknown a name p o turns mail known none is = record {
  reacts = subst (Reacts stamp (state_of h) (operation_on h op unknown name) (record { answer = a; letters = [] })) (sym (turned_nothing h new name p o turns mail known))
      (operation_none stamp h.me (state_of h) (lies_at h) op unknown a name (known_as p o) known none is);
  places = turned_places h new name p o turns;
}

-- one letter that gives no name
pub tracked_one : (old new : MailState) (l : Sending) (s : NodeState) → after_changes (with_mail s old) (sent_changes l) ≡ with_mail s new →
    after_changes (with_mail s old) (flat_map sent_changes (l ∷ [])) ≡ with_mail s new
tracked_one old new l s is = ap (after_changes (with_mail s old)) (append_nil (sent_changes l)) ∙ is

-- no letter
pub tracked_none : (m : MailState) (s : NodeState) → after_changes (with_mail s m) (flat_map sent_changes []) ≡ with_mail s m
tracked_none m s = refl

-- ## acquiring

is_refusal : Acquire → Bool
is_refusal acquire_is.Held = false
is_refusal (acquire_is.Asks parent) = false
is_refusal acquire_is.Waits = false
is_refusal acquire_is.Refused = true

-- a refusal changes nothing
refusal_keeps : (me : ℕ) (p : Part) (m : Mode) (copy : Bool) → (acquire me p m copy).1 ≡ acquire_is.Refused → (acquire me p m copy).0 ≡ p
unfolding is_refusal
refusal_keeps me p m copy is = by m p.held p.want is
  where
    not_so : (a : Acquire) → is_refusal a ≡ false → a ≡ acquire_is.Refused → ⊥
    not_so a other e = false≢true (sym other ∙ ap is_refusal e)

    taken : (n : Mode) (ready : Bool) → (take_wanted p n ready).1 ≡ acquire_is.Refused → (take_wanted p n ready).0 ≡ p
    taken n true e = absurd (not_so acquire_is.Held refl e)
    taken n false e = refl

    read : (r : Role) (c : Bool) → (want_read p r c).1 ≡ acquire_is.Refused → (want_read p r c).0 ≡ p
    read Owner c e = absurd (not_so acquire_is.Held refl e)
    read (Parent parent) true e = absurd (not_so acquire_is.Held refl e)
    read (Parent parent) false e = absurd (not_so (acquire_is.Asks parent) refl e)

    write : (r : Role) (readers : List ℕ) → (want_write me p r readers).1 ≡ acquire_is.Refused → (want_write me p r readers).0 ≡ p
    write Owner [] e = absurd (not_so acquire_is.Held refl e)
    write Owner (x ∷ xs) e = absurd (not_so acquire_is.Waits refl e)
    write (Parent parent) readers e = absurd (not_so (acquire_is.Asks parent) refl e)

    by : (n : Mode) (held want : Option Mode) → (acquire_by me p copy n held want).1 ≡ acquire_is.Refused → (acquire_by me p copy n held want).0 ≡ p
    by mode.Read (Some held) want e = refl
    by mode.Write (Some held) want e = refl
    by mode.Read None (Some mode.Write) e = refl
    by mode.Read None (Some mode.Read) e = taken mode.Read p.ready e
    by mode.Read None None e = read p.role copy e
    by mode.Write None (Some mode.Read) e = refl
    by mode.Write None (Some mode.Write) e = taken mode.Write p.ready e
    by mode.Write None None e = write p.role p.readers e

module _ (stamp : ℕ) (h : Holdings) (unknown : NodeAnswer) (name : ℕ) (p : Part) (m : Mode) (copy : Bool) (keeps : Keeps h)
    (has : part_of h.tokens name ≡ Some p) (copied : copy ≡ has_copy (shown h.memory) name) where
  here : (o : Object) × ((shown h.memory).object name ≡ Some o)
  here = object_there h name p keeps has

  copy_is : copy ≡ is_some here.0.copy
  copy_is = copied ∙ ap (λ (y : Option Object). option_map_or (λ (o : Object). is_some o.copy) y false) here.1

  outcome : acquire h.tokens.me (part_at h.tokens name) m copy ≡ acquire h.me p m (is_some here.0.copy)
  outcome = λ i. acquire (keeps.tokens i) (unwrap_or (has i) owner_part) m (copy_is i)

  -- a token that is told to nobody, or asked for
  pub acquire_does : (t : Table) (mail : MailState) (ans : Acquire) (sends : List Send) (letters : List Sending) →
      Becomes h.tokens t name (acquire h.tokens.me (part_at h.tokens name) m copy).0 → ans ≡ (acquire h.tokens.me (part_at h.tokens name) m copy).1 →
      ((x : Share) (q : Part) → acquired h.me m x q ans ≡ Some (saying (with_token x q) sends)) →
      letters ≡ numbered (issued_of h.mail) stamp (drafts_of (state_of h) (lies_at h) name sends) →
      ((s : NodeState) → after_changes (with_mail s h.mail) (flat_map sent_changes letters) ≡ with_mail s mail) →
      Does stamp h (operation_on h (Acquires m) unknown name) (record { answer = acquire_answer ans; letters = letters }) (record h { tokens = t; mail = mail })
  acquire_does t mail ans sends letters becomes answered says sent tracked =
      let o : Object = here.0 in
      let q : Part = (acquire h.me p m (is_some o.copy)).0 in
      let turned : Becomes h.tokens t name q = subst (λ (y : Part × Acquire). Becomes h.tokens t name y.0) outcome becomes in
      let is : (acquire h.me p m (is_some o.copy)).1 ≡ ans = sym (answered ∙ ap (λ (y : Part × Acquire). y.1) outcome) in
      turn_does stamp h (record h { tokens = t }) mail (Acquires m) unknown (acquire_answer ans) name (known_as p o) q o (with_token (share_of (known_as p o)) q) sends letters
      (turns_token h t name q o here.1 turned) refl (known_here h name p o has here.1)
      (ap (acquired h.me m (share_of (known_as p o)) q) is ∙ says (share_of (known_as p o)) q)
      (ap acquire_answer is) (with_token_is (known_as p o) q) sent (tracked (state_of (record h { tokens = t })))

  -- one that is refused
  pub acquire_refused : (t : Table) →
      Becomes h.tokens t name (acquire h.tokens.me (part_at h.tokens name) m copy).0 → acquire_is.Refused ≡ (acquire h.tokens.me (part_at h.tokens name) m copy).1 →
      Does stamp h (operation_on h (Acquires m) unknown name) (record { answer = answer.Refused refusal.Held; letters = [] }) (record h { tokens = t })
  acquire_refused t becomes answered =
      let o : Object = here.0 in
      let is : (acquire h.me p m (is_some o.copy)).1 ≡ acquire_is.Refused = sym (answered ∙ ap (λ (y : Part × Acquire). y.1) outcome) in
      let turned : Becomes h.tokens t name p = subst (Becomes h.tokens t name) (refusal_keeps h.me p m (is_some o.copy) is) (subst (λ (y : Part × Acquire). Becomes h.tokens t name y.0) outcome becomes) in
      none_does stamp h (record h { tokens = t }) (Acquires m) unknown (answer.Refused refusal.Held) name p o
      (turns_token h t name p o here.1 turned) refl (known_here h name p o has here.1)
      (ap (acquired h.me m (share_of (known_as p o)) (acquire h.me p m (is_some o.copy)).0) is) (ap acquire_answer is)

  -- what is kept
  pub acquire_keeps : (t : Table) (mail : MailState) → Becomes h.tokens t name (acquire h.tokens.me (part_at h.tokens name) m copy).0 → Keeps (record h { tokens = t; mail = mail })
  acquire_keeps t mail becomes =
      let o : Object = here.0 in
      let q : Part = (acquire h.me p m (is_some o.copy)).0 in
      let turned : Becomes h.tokens t name q = subst (λ (y : Part × Acquire). Becomes h.tokens t name y.0) outcome becomes in
      keeps_mail (record h { tokens = t }) mail (turned_keeps h (record h { tokens = t }) name q o o (turns_token h t name q o here.1 turned) here.1
      (fit_acquire h.me p m (is_some o.copy) (keeps.agree.fit name p has))
      (λ own. sym (ap (λ (y : Option Object). option_map_or (λ (x : Object). is_some x.copy) y false) here.1) ∙ keeps.agree.owners name p has (sym (acquire_role h.me p m (is_some o.copy)) ∙ own))
      keeps)

-- ## releasing

-- what is given up is held, and an owner owes nothing
release_refused_same : (p : Part) → (release p).1 ≡ release_is.Refused → (release p).0 ≡ p
release_refused_same p is = by p.held p.due is
  where
    is_refused : Release → Bool
    is_refused release_is.Free = false
    is_refused (release_is.Answers owner) = false
    is_refused release_is.Refused = true

    not_so : (a : Release) → is_refused a ≡ false → a ≡ release_is.Refused → ⊥
    not_so a other e = false≢true (sym other ∙ ap is_refused e)

    by : (held : Option Mode) (due : Option ℕ) → (release_by p held due).1 ≡ release_is.Refused → (release_by p held due).0 ≡ p
    by None due e = refl
    by (Some held) None e = absurd (not_so release_is.Free refl e)
    by (Some held) (Some owner) e = absurd (not_so (release_is.Answers owner) refl e)

-- who answers at its release isn't the owner
answers_no_owner : (p : Part) (owner : ℕ) → IsFit p → (release p).1 ≡ release_is.Answers owner → p.role ≡ Owner → ⊥
answers_no_owner p owner fit is own = by p.held p.due is (fit.fair.owner own)
  where
    is_answer : Release → Bool
    is_answer release_is.Free = false
    is_answer (release_is.Answers to) = true
    is_answer release_is.Refused = false

    by : (held : Option Mode) (due : Option ℕ) → (release_by p held due).1 ≡ release_is.Answers owner → due ≡ None → ⊥
    by None due e none = false≢true (ap is_answer e)
    by (Some held) None e none = false≢true (ap is_answer e)
    by (Some held) (Some to) e none = false≢true (sym (ap is_some none))

module _ (stamp : ℕ) (h : Holdings) (unknown : NodeAnswer) (name : ℕ) (p : Part) (keeps : Keeps h) (has : part_of h.tokens name ≡ Some p) where
  there : (o : Object) × ((shown h.memory).object name ≡ Some o)
  there = object_there h name p keeps has

  freed : release (part_at h.tokens name) ≡ release p
  freed = ap (λ (y : Option Part). release (unwrap_or y owner_part)) has

  pub release_free : (t : Table) → Becomes h.tokens t name (release (part_at h.tokens name)).0 → release_is.Free ≡ (release (part_at h.tokens name)).1 →
      Does stamp h (operation_on h Releases unknown name) (record { answer = answer.Nil; letters = [] }) (record h { tokens = t })
  release_free t becomes answered =
      let o : Object = there.0 in
      let q : Part = (release p).0 in
      let turned : Becomes h.tokens t name q = subst (λ (y : Part × Release). Becomes h.tokens t name y.0) freed becomes in
      let is : (release p).1 ≡ release_is.Free = sym (answered ∙ ap (λ (y : Part × Release). y.1) freed) in
      turn_does stamp h (record h { tokens = t }) h.mail Releases unknown answer.Nil name (known_as p o) q o (with_token (share_of (known_as p o)) q) [] []
      (turns_token h t name q o there.1 turned) refl (known_here h name p o has there.1)
      (ap (released (share_of (known_as p o)) q) is) (ap release_answer is) (with_token_is (known_as p o) q) refl refl

  pub release_refused : (t : Table) → Becomes h.tokens t name (release (part_at h.tokens name)).0 → release_is.Refused ≡ (release (part_at h.tokens name)).1 →
      Does stamp h (operation_on h Releases unknown name) (record { answer = answer.Refused refusal.NoToken; letters = [] }) (record h { tokens = t })
  release_refused t becomes answered =
      let o : Object = there.0 in
      let is : (release p).1 ≡ release_is.Refused = sym (answered ∙ ap (λ (y : Part × Release). y.1) freed) in
      let turned : Becomes h.tokens t name p = subst (Becomes h.tokens t name) (release_refused_same p is) (subst (λ (y : Part × Release). Becomes h.tokens t name y.0) freed becomes) in
      none_does stamp h (record h { tokens = t }) Releases unknown (answer.Refused refusal.NoToken) name p o
      (turns_token h t name p o there.1 turned) refl (known_here h name p o has there.1)
      (ap (released (share_of (known_as p o)) (release p).0) is) (ap release_answer is)

  pub release_answers : (t : Table) (m : Contents) (mail : MailState) (owner : ℕ) → Becomes h.tokens t name (release (part_at h.tokens name)).0 →
      release_is.Answers owner ≡ (release (part_at h.tokens name)).1 → shown m ≡ cleared_copy (shown h.memory) name None →
      ((s : NodeState) → after_changes (with_mail s h.mail) (sent_changes (next_letter h.mail stamp owner (msg.InvAck name))) ≡ with_mail s mail) →
      Does stamp h (operation_on h Releases unknown name) (record { answer = answer.Nil; letters = next_letter h.mail stamp owner (msg.InvAck name) ∷ [] }) (record h { tokens = t; memory = m; mail = mail })
  release_answers t m mail owner becomes answered cleared tracked =
      let o : Object = there.0 in
      let q : Part = (release p).0 in
      let turned : Becomes h.tokens t name q = subst (λ (y : Part × Release). Becomes h.tokens t name y.0) freed becomes in
      let is : (release p).1 ≡ release_is.Answers owner = sym (answered ∙ ap (λ (y : Part × Release). y.1) freed) in
      let l : Sending = next_letter h.mail stamp owner (msg.InvAck name) in
      turn_does stamp h (record h { tokens = t; memory = m }) mail Releases unknown answer.Nil name (known_as p o) q (record o { copy = None }) (without_copy q) (send owner Returns ∷ []) (l ∷ [])
      (turns_cleared h t m name q o there.1 turned cleared) refl (known_here h name p o has there.1)
      (ap (released (share_of (known_as p o)) q) is) (ap release_answer is) refl refl
      (tracked_one h.mail mail l (state_of (record h { tokens = t; memory = m })) (tracked (state_of (record h { tokens = t; memory = m }))))

  pub release_keeps : (t : Table) → Becomes h.tokens t name (release (part_at h.tokens name)).0 → Keeps (record h { tokens = t })
  release_keeps t becomes =
      let o : Object = there.0 in
      let turned : Becomes h.tokens t name (release p).0 = subst (λ (y : Part × Release). Becomes h.tokens t name y.0) freed becomes in
      turned_keeps h (record h { tokens = t }) name (release p).0 o o (turns_token h t name (release p).0 o there.1 turned) there.1
      (fit_release p (keeps.agree.fit name p has))
      (λ own. sym (ap (λ (y : Option Object). option_map_or (λ (x : Object). is_some x.copy) y false) there.1) ∙ keeps.agree.owners name p has (sym (release_role p) ∙ own))
      keeps

  pub release_keeps_cleared : (t : Table) (m : Contents) (mail : MailState) (owner : ℕ) → Becomes h.tokens t name (release (part_at h.tokens name)).0 →
      release_is.Answers owner ≡ (release (part_at h.tokens name)).1 → shown m ≡ cleared_copy (shown h.memory) name None →
      Keeps (record h { tokens = t; memory = m; mail = mail })
  release_keeps_cleared t m mail owner becomes answered cleared =
      let o : Object = there.0 in
      let turned : Becomes h.tokens t name (release p).0 = subst (λ (y : Part × Release). Becomes h.tokens t name y.0) freed becomes in
      let is : (release p).1 ≡ release_is.Answers owner = sym (answered ∙ ap (λ (y : Part × Release). y.1) freed) in
      keeps_mail (record h { tokens = t; memory = m }) mail (turned_keeps h (record h { tokens = t; memory = m }) name (release p).0 (record o { copy = None }) o
      (turns_cleared h t m name (release p).0 o there.1 turned cleared) there.1
      (fit_release p (keeps.agree.fit name p has))
      (λ own. absurd (answers_no_owner p owner (keeps.agree.fit name p has) is (sym (release_role p) ∙ own)))
      keeps)

-- the message of a request is that of its note
pub request_is : (s : NodeState) (lies : ℕ → Place) (name asker : ℕ) (fields : List Field) (m : Mode) → request_msg name asker m ≡ message (info_of s lies name) fields (Asks m asker)
request_is s lies name asker fields mode.Read = refl
request_is s lies name asker fields mode.Write = refl

-- a request is told of nothing
pub request_tells : (s : NodeState) (name asker : ℕ) (m : Mode) → TellsBunches s (request_msg name asker m)
request_tells s name asker mode.Read = tt
request_tells s name asker mode.Write = tt

-- nor does it give a name
pub request_gives : (name asker : ℕ) (m : Mode) → given (request_msg name asker m) ≡ []
request_gives name asker mode.Read = refl
request_gives name asker mode.Write = refl

-- another word for the outcome
pub does_done : (stamp : ℕ) (h new : Holdings) (r : Reaction) (d e : Done) → e ≡ d → Does stamp h r d new → Does stamp h r e new
does_done stamp h new r d e is does = subst (λ (x : Done). Does stamp h r x new) (sym is) does

-- a message that was posted in a new outbox
module _ (old new : MailState) (stamp to room : ℕ) (m : Msg) (box more : OutboxState) (opened : box ≡ record { stamp = stamp; letters = []; room = room }) where
  pub sent_one : more ≡ record box { letters = box.letters ++ next_letter old box.stamp to m ∷ []; room = box.room - 1 } → more.letters ≡ next_letter old stamp to m ∷ []
  sent_one boxed = ap (λ (b : OutboxState). b.letters) boxed ∙ ap (λ (b : OutboxState). b.letters ++ next_letter old b.stamp to m ∷ []) opened

  pub tracked_sent : Tracks old new (sent_changes (next_letter old box.stamp to m)) (λ s. TellsBunches s m) → (s : NodeState) → TellsBunches s m →
      after_changes (with_mail s old) (flat_map sent_changes (next_letter old stamp to m ∷ [])) ≡ with_mail s new
  tracked_sent change s tells =
      tracked_one old new (next_letter old stamp to m) s
      (subst (λ (n : ℕ). after_changes (with_mail s old) (sent_changes (next_letter old n to m)) ≡ with_mail s new) (ap (λ (b : OutboxState). b.stamp) opened) (change s tells))

  pub tracked_letter : Tracks old new (sent_changes (next_letter old box.stamp to m)) (λ s. TellsBunches s m) → (s : NodeState) → TellsBunches s m →
      after_changes (with_mail s old) (sent_changes (next_letter old stamp to m)) ≡ with_mail s new
  tracked_letter change s tells =
      subst (λ (n : ℕ). after_changes (with_mail s old) (sent_changes (next_letter old n to m)) ≡ with_mail s new) (ap (λ (b : OutboxState). b.stamp) opened) (change s tells)

-- ## serving

-- a service is told by what is served
is_ready : Service → Bool
is_ready service.Idle = false
is_ready service.Ready = true
is_ready (service.Read asker) = false
is_ready service.Revokes = false
is_ready (service.Moves to) = false

served_ready : (x : Served) → service_of x ≡ service.Ready → x ≡ served_is.Ready
unfolding is_ready
served_ready served_is.Idle e = absurd (false≢true (ap is_ready e))
served_ready served_is.Ready e = refl
served_ready (served_is.Read asker) e = absurd (false≢true (ap is_ready e))
served_ready (served_is.Revokes nodes) e = absurd (false≢true (ap is_ready e))
served_ready (served_is.Moves to rest) e = absurd (false≢true (ap is_ready e))

-- who owns after a serve owned before it
pub serve_owner : (me : ℕ) (p : Part) → (serve me p).0.role ≡ Owner → p.role ≡ Owner
serve_owner me p own = by p.role p.queue refl own
  where
    by : (r : Role) (queue : List Ask) → p.role ≡ r → (serve_by me p r queue).0.role ≡ Owner → p.role ≡ Owner
    by (Parent parent) queue r own = own
    by Owner queue r own = r

module _ (stamp : ℕ) (h : Holdings) (unknown : NodeAnswer) (name : ℕ) (p : Part) (keeps : Keeps h) (has : part_of h.tokens name ≡ Some p) where
  at : (o : Object) × ((shown h.memory).object name ≡ Some o)
  at = object_there h name p keeps has

  came : serve h.tokens.me (part_at h.tokens name) ≡ serve h.me p
  came = λ i. serve (keeps.tokens i) (unwrap_or (has i) owner_part)

  -- what is served and leaves the copy
  pub serve_does : (t : Table) (mail : MailState) (x : Served) (sends : List Send) (letters : List Sending) →
      Becomes h.tokens t name (serve h.tokens.me (part_at h.tokens name)).0 → x ≡ (serve h.tokens.me (part_at h.tokens name)).1 → is_served x ≡ true →
      ((y : Share) (q : Part) → served y q x ≡ Some (saying (with_token y q) sends)) →
      letters ≡ numbered (issued_of h.mail) stamp (drafts_of (state_of h) (lies_at h) name sends) →
      after_changes (with_mail (state_of (record h { tokens = t })) h.mail) (flat_map sent_changes letters) ≡ with_mail (state_of (record h { tokens = t })) mail →
      Does stamp h (operation_on h Serves unknown name) (record { answer = answer.Nil; letters = letters }) (record h { tokens = t; mail = mail })
  serve_does t mail x sends letters becomes answered done says sent tracked =
      let o : Object = at.0 in
      let q : Part = (serve h.me p).0 in
      let turned : Becomes h.tokens t name q = subst (λ (y : Part × Served). Becomes h.tokens t name y.0) came becomes in
      let is : (serve h.me p).1 ≡ x = sym (answered ∙ ap (λ (y : Part × Served). y.1) came) in
      turn_does stamp h (record h { tokens = t }) mail Serves unknown answer.Nil name (known_as p o) q o (with_token (share_of (known_as p o)) q) sends letters
      (turns_token h t name q o at.1 turned) refl (known_here h name p o has at.1)
      (ap (served (share_of (known_as p o)) q) is ∙ says (share_of (known_as p o)) q)
      (ap (λ (b : Bool). if b then answer.Nil else answer.Idle) (ap is_served is ∙ done)) (with_token_is (known_as p o) q) sent tracked

  pub serve_keeps : (t : Table) (mail : MailState) → Becomes h.tokens t name (serve h.tokens.me (part_at h.tokens name)).0 → Keeps (record h { tokens = t; mail = mail })
  serve_keeps t mail becomes =
      let o : Object = at.0 in
      let q : Part = (serve h.me p).0 in
      let turned : Becomes h.tokens t name q = subst (λ (y : Part × Served). Becomes h.tokens t name y.0) came becomes in
      keeps_mail (record h { tokens = t }) mail (turned_keeps h (record h { tokens = t }) name q o o (turns_token h t name q o at.1 turned) at.1
      (fit_serve h.me p (keeps.agree.fit name p has))
      (λ own. sym (ap (λ (y : Option Object). option_map_or (λ (x : Object). is_some x.copy) y false) at.1) ∙ keeps.agree.owners name p has (serve_owner h.me p own))
      keeps)

-- a token that is there
pub part_there : (o : Option Part) → IsSome o → (p : Part) × (o ≡ Some p)
part_there None some = absurd (false≢true some)
part_there (Some p) some = (p, refl)

-- an owner's own write is ready
pub ready_does : (stamp : ℕ) (h : Holdings) (name : ℕ) (t : Table) → Keeps h → IsSome (part_of h.tokens name) → service_of (serve h.me (part_at h.tokens name)).1 ≡ service.Ready →
    Becomes h.tokens t name (serve h.tokens.me (part_at h.tokens name)).0 →
    Does stamp h (operation_on h Serves answer.Idle name) (record { answer = answer.Nil; letters = [] }) (record h { tokens = t })
ready_does stamp h name t keeps there is becomes =
    let has = part_there (part_of h.tokens name) there in
    let ready : (serve h.tokens.me (part_at h.tokens name)).1 ≡ served_is.Ready =
    ap (λ (n : ℕ). (serve n (part_at h.tokens name)).1) keeps.tokens ∙ served_ready (serve h.me (part_at h.tokens name)).1 is in
    serve_does stamp h answer.Idle name has.0 keeps has.1 t h.mail served_is.Ready [] [] becomes (sym ready) refl (λ y q. refl) refl refl

pub ready_keeps : (h : Holdings) (name : ℕ) (t : Table) → Keeps h → IsSome (part_of h.tokens name) →
    Becomes h.tokens t name (serve h.tokens.me (part_at h.tokens name)).0 → Keeps (record h { tokens = t })
ready_keeps h name t keeps there becomes =
    let has = part_there (part_of h.tokens name) there in
    serve_keeps 0 h answer.Idle name has.0 keeps has.1 t h.mail becomes
