-- What granting the token of a name comes to.
use Rattle.bmx_mail.proofs.Bunches.{KnowsAlike, drafts_tell, known_alike}
use Rattle.bmx_node.proofs.Turning.{Turns, turns_token, turned_state}
use Rattle.bmx_node.proofs.Reactions.{with_token_is}
use Rattle.bmx_node.proofs.Operating.{object_there, known_here, serve_does, serve_keeps, part_there, keeps_mail, sent_one, tracked_sent}
use Rattle.std.proofs.Common.{◌≡◌, ℕ, ◌-◌, List, [], ◌∷◌, ◌++◌, Some, IsSome, refl, sym, ◌∙◌, ap, subst}
use Rattle.std.specs.List.{flat_map}
use Rattle.bmx_types.specs.declared.addresses.Info.{Info}
use Rattle.bmx_msg.specs.declared.letters.Field.{Field}
use Rattle.bmx_msg.specs.declared.letters.Msg.{Msg}
use Rattle.bmx_token.specs.declared.parts.Part.{Part}
use Rattle.bmx_token.specs.Tokens.{serve}
use Rattle.bmx_token.specs.Transitions.{Serves, Send, send, Grants, with_token, served, is_served}
use Rattle.bmx_tokens.specs.Tables.{Table, part_of, part_at, Becomes}
use Rattle.bmx_protocol.specs.declared.inputs.Sending.{Sending}
use Rattle.bmx_protocol.specs.Nodes.{NodeState, Known, share_of}
use Rattle.bmx_protocol.specs.Changes.{Knows, after_changes, after_change}
use Rattle.bmx_protocol.specs.Rules.{info_of, told_fields}
use Rattle.bmx_protocol.specs.Steps.{sent_changes}
use Rattle.bmx_memory.specs.Shown.{Object, known_as}
use Rattle.bmx_mail.specs.Mails.{MailState, OutboxState, with_mail, Tracks, bunch_known, TellsBunches, next_letter}
use Rattle.bmx_node.specs.declared.holdings.Holdings.{Holdings}
use Rattle.bmx_node.specs.Seen.{state_of, places_of, node_of, limit_of}
use Rattle.bmx_node.specs.Inside.Keeping.{Keeps, Frame}
use Rattle.bmx_node.specs.Inside.Reacting.{lies_at, Does, operation_on}
use Rattle.bmx_types.specs.declared.numbers.Mode.TheVariants as mode
use Rattle.bmx_protocol.specs.declared.inputs.NodeAnswer.TheVariants as answer
use Rattle.bmx_msg.specs.declared.letters.Msg.TheVariants as msg
use Rattle.bmx_token.specs.declared.answers.Served.TheVariants as served_is

-- holdings with room for so many more records
abbrev roomy : Holdings → ℕ → Holdings
roomy h n = record h { mail = record h.mail { spare = n } }

-- holdings that turned a token know the bunches that they knew
alike_turned : (g mid : Holdings) (name : ℕ) (p q : Part) (o : Object) → Turns g mid name q o → (state_of g).known name ≡ Some (known_as p o) → KnowsAlike (state_of mid) (state_of g)
alike_turned g mid name p q o turns known x =
    ap (λ (s : NodeState). bunch_known s x) (turned_state g mid name q o turns)
    ∙ ap (λ (y : Known). bunch_known (after_change (state_of g) (Knows name y)) x) (sym (with_token_is (known_as p o) q))
    ∙ known_alike (state_of g) name (known_as p o) o.copy (Some (with_token (share_of (known_as p o)) q)) known x

-- a read is granted
read_from : (stamp room n : ℕ) (h : Holdings) (name : ℕ) (t : Table) (mail : MailState) (to : ℕ) (info : Info) (fields : List Field) (box more : OutboxState) → Keeps h → IsSome (part_of h.tokens name) →
    Becomes h.tokens t name (serve h.tokens.me (part_at h.tokens name)).0 → served_is.Read to ≡ (serve h.tokens.me (part_at h.tokens name)).1 →
    info ≡ info_of (state_of h) (lies_at h) name → fields ≡ told_fields (state_of h) (lies_at h) name →
    box ≡ record { stamp = stamp; letters = []; room = room } →
    more ≡ record box { letters = box.letters ++ next_letter (roomy h n).mail box.stamp to (msg.ReadGrant info fields) ∷ []; room = box.room - 1 } →
    Tracks (roomy h n).mail mail (sent_changes (next_letter (roomy h n).mail box.stamp to (msg.ReadGrant info fields))) (λ s. TellsBunches s (msg.ReadGrant info fields)) →
    Does stamp h (operation_on h Serves answer.Idle name) (record { answer = answer.Nil; letters = more.letters }) (record (roomy h n) { tokens = t; mail = mail })
unfolding state_of places_of
read_from stamp room n h name t mail to info fields box more keeps there becomes answered info_is fields_are opened boxed change =
    let g : Holdings = roomy h n in
    let kept : Keeps g = keeps_mail h g.mail keeps in
    let has = part_there (part_of h.tokens name) there in
    let p : Part = has.0 in
    let o = object_there h name p keeps has.1 in
    let mid : Holdings = record g { tokens = t } in
    let m : Msg = msg.ReadGrant info fields in
    let sends : List Send = send to (Grants mode.Read) ∷ [] in
    let one : more.letters ≡ next_letter g.mail stamp to m ∷ [] = sent_one g.mail mail stamp to room m box more opened boxed in
    let alike : KnowsAlike (state_of mid) (state_of g) =
    alike_turned g mid name p (serve h.tokens.me (part_at h.tokens name)).0 o.0 (turns_token g t name (serve h.tokens.me (part_at h.tokens name)).0 o.0 o.1 becomes) (known_here h name p o.0 has.1 o.1) in
    let told : TellsBunches (state_of mid) (msg.ReadGrant (info_of (state_of h) (lies_at h) name) (told_fields (state_of h) (lies_at h) name)) =
    (drafts_tell (state_of mid) (state_of g) (lies_at g) alike name sends).0 in
    let tells : TellsBunches (state_of mid) m = subst (λ (f : List Field). TellsBunches (state_of mid) (msg.ReadGrant info f)) (sym fields_are)
    (subst (λ (i : Info). TellsBunches (state_of mid) (msg.ReadGrant i (told_fields (state_of h) (lies_at h) name))) (sym info_is) told) in
    let d = serve_does stamp g answer.Idle name p kept has.1 t mail (served_is.Read to) sends more.letters becomes answered refl (λ y q. refl)
    (one ∙ (λ j. next_letter g.mail stamp to (msg.ReadGrant (info_is j) (fields_are j)) ∷ []))
    (subst (λ (l : List Sending). after_changes (with_mail (state_of mid) g.mail) (flat_map sent_changes l) ≡ with_mail (state_of mid) mail) (sym one)
    (tracked_sent g.mail mail stamp to room m box more opened change (state_of mid) tells)) in
    record { reacts = d.reacts; places = d.places }

pub read_does : (stamp room : ℕ) (h g : Holdings) (name : ℕ) (t : Table) (mail : MailState) (to : ℕ) (info : Info) (fields : List Field) (box more : OutboxState) → Keeps h → IsSome (part_of h.tokens name) →
    g ≡ roomy h g.mail.spare →
    Becomes g.tokens t name (serve g.tokens.me (part_at g.tokens name)).0 → served_is.Read to ≡ (serve g.tokens.me (part_at g.tokens name)).1 →
    info ≡ info_of (state_of h) (lies_at h) name → fields ≡ told_fields (state_of h) (lies_at h) name →
    box ≡ record { stamp = stamp; letters = []; room = room } →
    more ≡ record box { letters = box.letters ++ next_letter g.mail box.stamp to (msg.ReadGrant info fields) ∷ []; room = box.room - 1 } →
    Tracks g.mail mail (sent_changes (next_letter g.mail box.stamp to (msg.ReadGrant info fields))) (λ s. TellsBunches s (msg.ReadGrant info fields)) →
    Does stamp h (operation_on h Serves answer.Idle name) (record { answer = answer.Nil; letters = more.letters }) (record g { tokens = t; mail = mail })
read_does stamp room h g name t mail to info fields box more keeps there rest =
    subst (λ (x : Holdings).
    Becomes x.tokens t name (serve x.tokens.me (part_at x.tokens name)).0 → served_is.Read to ≡ (serve x.tokens.me (part_at x.tokens name)).1 →
    info ≡ info_of (state_of h) (lies_at h) name → fields ≡ told_fields (state_of h) (lies_at h) name →
    box ≡ record { stamp = stamp; letters = []; room = room } →
    more ≡ record box { letters = box.letters ++ next_letter x.mail box.stamp to (msg.ReadGrant info fields) ∷ []; room = box.room - 1 } →
    Tracks x.mail mail (sent_changes (next_letter x.mail box.stamp to (msg.ReadGrant info fields))) (λ s. TellsBunches s (msg.ReadGrant info fields)) →
    Does stamp h (operation_on h Serves answer.Idle name) (record { answer = answer.Nil; letters = more.letters }) (record x { tokens = t; mail = mail })) (sym rest)
    (read_from stamp room g.mail.spare h name t mail to info fields box more keeps there)

pub grant_keeps : (h g : Holdings) (name : ℕ) (t : Table) (mail : MailState) → Keeps h → IsSome (part_of h.tokens name) → g ≡ roomy h g.mail.spare →
    Becomes g.tokens t name (serve g.tokens.me (part_at g.tokens name)).0 → Keeps (record g { tokens = t; mail = mail })
grant_keeps h g name t mail keeps there rest =
    subst (λ (x : Holdings). Becomes x.tokens t name (serve x.tokens.me (part_at x.tokens name)).0 → Keeps (record x { tokens = t; mail = mail })) (sym rest)
    (λ becomes. let has = part_there (part_of h.tokens name) there in serve_keeps 0 (roomy h g.mail.spare) answer.Idle name has.0 (keeps_mail h (roomy h g.mail.spare).mail keeps) has.1 t mail becomes)

pub grant_frame : (h g : Holdings) (t : Table) (mail : MailState) → g ≡ roomy h g.mail.spare → Frame h (record g { tokens = t; mail = mail })
unfolding limit_of
grant_frame h g t mail rest = subst (λ (x : Holdings). Frame h (record x { tokens = t; mail = mail })) (sym rest) (record { me = refl; store = refl; limit = refl; clock = refl })

pub roomy_frame : (h g : Holdings) → g ≡ roomy h g.mail.spare → Frame h g
unfolding limit_of
roomy_frame h g rest = subst (Frame h) (sym rest) (record { me = refl; store = refl; limit = refl; clock = refl })

pub roomy_node : (h g : Holdings) → g ≡ roomy h g.mail.spare → node_of g ≡ node_of h
unfolding state_of places_of
roomy_node h g rest = ap node_of rest

pub roomy_tokens : (h g : Holdings) (t : Table) → g ≡ roomy h g.mail.spare → t ≡ g.tokens → node_of (record g { tokens = t }) ≡ node_of h
roomy_tokens h g t rest same = ap (λ (x : Table). node_of (record g { tokens = x })) same ∙ roomy_node h g rest
