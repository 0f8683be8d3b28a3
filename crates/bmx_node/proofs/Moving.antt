-- What handing the ownership of a name over comes to.
use Rattle.std.proofs.lemmas.Bool.{false≢true}
use Rattle.bmx_mail.specs.Inside.Posts.{Posts, TellBunches}
use Rattle.bmx_mail.proofs.Bunches.{KnowsAlike, drafts_tell, known_alike}
use Rattle.bmx_node.proofs.Fitting.{fit_serve, no_owner}
use Rattle.bmx_node.proofs.Turning.{Turns, turns_cleared, turned_state, turned_keeps}
use Rattle.bmx_node.proofs.Operating.{object_there, known_here, part_there, keeps_mail, turn_does, request_is}
use Rattle.bmx_node.proofs.Posting.{posted_more}
use Rattle.bmx_node.proofs.Queueing.{posts_none_in}
use Rattle.bmx_token.specs.Nodes.{nodes_with}
use Rattle.std.proofs.Common.{◌≡◌, ℕ, ◌+◌, ◌-◌, ◌==◌, ◌||◌, Bool, true, false, if◌then◌else◌, List, [], ◌∷◌, ◌++◌, map, Some, None, is_some, IsSome, unwrap_or, refl, sym, ◌∙◌, ap, subst, cond}
use Rattle.bmx_types.specs.Updates.{put}
use Rattle.bmx_types.specs.declared.addresses.Place.{Place}
use Rattle.bmx_types.specs.declared.addresses.Info.{Info}
use Rattle.bmx_types.specs.declared.numbers.Mode.{Mode}
use Rattle.bmx_msg.specs.declared.letters.Field.{Field}
use Rattle.bmx_token.specs.declared.parts.Ask.{Ask}
use Rattle.bmx_token.specs.declared.parts.Part.{Part}
use Rattle.bmx_token.specs.declared.parts.Role.{Role}
use Rattle.bmx_token.specs.declared.parts.Role.TheVariants.{Owner, Parent}
use Rattle.bmx_token.specs.declared.answers.Served.{Served}
use Rattle.bmx_token.specs.Tokens.{owner_part, serve, serve_by, serve_head, serve_write, serve_alone, revoke, is_write}
use Rattle.bmx_token.specs.Transitions.{Serves, Send, send, Asks, Grants, without_copy, served, is_served}
use Rattle.bmx_tokens.specs.Tables.{Table, part_of, part_at, Becomes}
use Rattle.bmx_protocol.specs.declared.inputs.Sending.{Sending}
use Rattle.bmx_protocol.specs.Nodes.{NodeState, Known, share_of}
use Rattle.bmx_protocol.specs.Rules.{Draft, info_of, told_fields, drafts_of}
use Rattle.bmx_protocol.specs.Steps.{numbered, sent_changes}
use Rattle.bmx_memory.specs.Contents.{Contents}
use Rattle.bmx_memory.specs.Shown.{Shown, Object, shown, known_as, with_copy as cleared_copy}
use Rattle.bmx_mail.specs.Mails.{MailState, OutboxState, issued_of, Tracks, bunch_known, TellsBunches, next_letter}
use Rattle.bmx_node.specs.declared.holdings.Holdings.{Holdings}
use Rattle.bmx_node.specs.Seen.{state_of, places_of, limit_of}
use Rattle.bmx_node.specs.Inside.Keeping.{Keeps, Frame}
use Rattle.bmx_node.specs.Inside.Reacting.{lies_at, Does, operation_on}
use Rattle.bmx_node.specs.Inside.Posting.{requests}
use Rattle.bmx_types.specs.declared.numbers.Mode.TheVariants as mode
use Rattle.bmx_protocol.specs.declared.inputs.NodeAnswer.TheVariants as answer
use Rattle.bmx_msg.specs.declared.letters.Msg.TheVariants as msg
use Rattle.bmx_token.specs.declared.answers.Served.TheVariants as served_is

-- ## who hands over isn't the owner any more

is_moved : Served → Bool
is_moved served_is.Idle = false
is_moved served_is.Ready = false
is_moved (served_is.Read asker) = false
is_moved (served_is.Revokes nodes) = false
is_moved (served_is.Moves to rest) = true

moved_apart : (x : Served) (to : ℕ) (rest : List Ask) → is_moved x ≡ false → x ≡ served_is.Moves to rest → ⊥
unfolding is_moved
moved_apart x to rest other e = false≢true (sym other ∙ ap is_moved e)

pub moves_no_owner : (me : ℕ) (p : Part) (to : ℕ) (rest : List Ask) → (serve me p).1 ≡ served_is.Moves to rest → (serve me p).0.role ≡ Owner → ⊥
unfolding is_moved
moves_no_owner me p to rest is own = by p.role p.queue is own
  where
    alone : (asker : ℕ) (asks : List Ask) (busy mine : Bool) →
        (cond {A = Part × Served} busy (p, served_is.Idle) (cond {A = Part × Served} mine (record p { queue = asks; ready = true }, served_is.Ready) (record p { role = Parent asker; queue = [] }, served_is.Moves asker asks))).1 ≡ served_is.Moves to rest →
        (cond {A = Part × Served} busy (p, served_is.Idle) (cond {A = Part × Served} mine (record p { queue = asks; ready = true }, served_is.Ready) (record p { role = Parent asker; queue = [] }, served_is.Moves asker asks))).0.role ≡ Owner → ⊥
    alone asker asks true mine e o = moved_apart served_is.Idle to rest refl e
    alone asker asks false true e o = moved_apart served_is.Ready to rest refl e
    alone asker asks false false e o = no_owner asker o

    recall : (waiting : List ℕ) → (revoke p waiting).1 ≡ served_is.Moves to rest → ⊥
    recall [] e = moved_apart (served_is.Revokes p.readers) to rest refl e
    recall (x ∷ xs) e = moved_apart served_is.Idle to rest refl e

    write : (asker : ℕ) (asks : List Ask) (readers : List ℕ) → (serve_write me p asker asks readers).1 ≡ served_is.Moves to rest → (serve_write me p asker asks readers).0.role ≡ Owner → ⊥
    write asker asks [] e o = alone asker asks (is_some p.held || p.ready) (asker == me) e o
    write asker asks (x ∷ xs) e o = recall p.waiting e

    read : (asker : ℕ) (asks : List Ask) (b : Bool) → (cond {A = Part × Served} b (p, served_is.Idle) (record p { queue = asks; readers = nodes_with asker p.readers }, served_is.Read asker)).1 ≡ served_is.Moves to rest → ⊥
    read asker asks true e = moved_apart served_is.Idle to rest refl e
    read asker asks false e = moved_apart (served_is.Read asker) to rest refl e

    head : (asker : ℕ) (asks : List Ask) (m : Mode) → (serve_head me p asker asks m).1 ≡ served_is.Moves to rest → (serve_head me p asker asks m).0.role ≡ Owner → ⊥
    head asker asks mode.Read e o = read asker asks (is_write p.held || p.ready) e
    head asker asks mode.Write e o = write asker asks p.readers e o

    by : (r : Role) (queue : List Ask) → (serve_by me p r queue).1 ≡ served_is.Moves to rest → (serve_by me p r queue).0.role ≡ Owner → ⊥
    by (Parent parent) queue e o = moved_apart served_is.Idle to rest refl e
    by Owner [] e o = moved_apart served_is.Idle to rest refl e
    by Owner (a ∷ asks) e o = head a.asker asks a.mode e o

-- ## the letters

requests_are : (s : NodeState) (lies : ℕ → Place) (to name : ℕ) (asks : List Ask) → requests to name asks ≡ drafts_of s lies name (map (λ (a : Ask). send to (Asks a.mode a.asker)) asks)
requests_are s lies to name [] = refl
requests_are s lies to name (a ∷ asks) =
    (λ i. record { to = to; msg = request_is s lies name a.asker (told_fields s lies name) a.mode i } ∷ requests_are s lies to name asks i)

-- holdings with room for so many more records
abbrev roomy : Holdings → ℕ → Holdings
roomy h n = record h { mail = record h.mail { spare = n } }

-- the messages that hand ownership over
abbrev moves : ℕ → ℕ → Info → List Field → List Ask → List Draft
moves to name info fields rest = record { to = to; msg = msg.WriteGrant info fields } ∷ requests to name rest

moves_are : (s : NodeState) (lies : ℕ → Place) (to name : ℕ) (info : Info) (fields : List Field) (rest : List Ask) → info ≡ info_of s lies name → fields ≡ told_fields s lies name →
    moves to name info fields rest ≡ drafts_of s lies name (send to (Grants mode.Write) ∷ map (λ (a : Ask). send to (Asks a.mode a.asker)) rest)
moves_are s lies to name info fields rest info_is fields_are =
    λ i. record { to = to; msg = msg.WriteGrant (info_is i) (fields_are i) } ∷ requests_are s lies to name rest i

alike_cleared : (g mid : Holdings) (name : ℕ) (p q : Part) (o : Object) → Turns g mid name q (record o { copy = None }) → (state_of g).known name ≡ Some (known_as p o) → KnowsAlike (state_of mid) (state_of g)
alike_cleared g mid name p q o turns known x =
    ap (λ (s : NodeState). bunch_known s x) (turned_state g mid name q (record o { copy = None }) turns)
    ∙ known_alike (state_of g) name (known_as p o) o.copy (Some (without_copy q)) known x

-- the first letter, and those behind it
pub all_posted : (stamp room : ℕ) (first next mail : MailState) (to name : ℕ) (info : Info) (fields : List Field) (slice : List Ask) (box one more : OutboxState) →
    box ≡ record { stamp = stamp; letters = []; room = room } →
    one ≡ record box { letters = box.letters ++ next_letter first box.stamp to (msg.WriteGrant info fields) ∷ []; room = box.room - 1 } →
    issued_of next ≡ put (issued_of first) to (issued_of first to + 1) →
    Tracks first next (sent_changes (next_letter first box.stamp to (msg.WriteGrant info fields))) (λ s. TellsBunches s (msg.WriteGrant info fields)) →
    ((m : MailState) (drafts : List Draft) → Posts m next one.stamp drafts one.letters → Posts m mail one.stamp (drafts ++ requests to name slice) more.letters) →
    Posts first mail stamp (moves to name info fields slice) more.letters
all_posted stamp room first next mail to name info fields slice box one more opened boxed issued change posts =
    let d : Draft = record { to = to; msg = msg.WriteGrant info fields } in
    let there : one.stamp ≡ box.stamp = ap (λ (b : OutboxState). b.stamp) boxed in
    let begun : Posts first next box.stamp (d ∷ []) one.letters =
    posted_more first first next box one box.stamp [] (d ∷ []) d (posts_none_in first stamp room box opened) refl (ap (λ (b : OutboxState). b.letters) boxed) issued change refl in
    subst (λ (n : ℕ). Posts first mail n (moves to name info fields slice) more.letters) (there ∙ ap (λ (b : OutboxState). b.stamp) opened)
    (posts first (d ∷ []) (subst (λ (n : ℕ). Posts first next n (d ∷ []) one.letters) (sym there) begun))

move_from : (stamp n : ℕ) (h : Holdings) (name : ℕ) (t : Table) (c : Contents) (mail : MailState) (to : ℕ) (info : Info) (fields : List Field) (rest slice : List Ask) (letters : List Sending) →
    Keeps h → IsSome (part_of h.tokens name) →
    Becomes h.tokens t name (serve h.tokens.me (part_at h.tokens name)).0 → served_is.Moves to rest ≡ (serve h.tokens.me (part_at h.tokens name)).1 → slice ≡ rest →
    info ≡ info_of (state_of h) (lies_at h) name → fields ≡ told_fields (state_of h) (lies_at h) name → shown c ≡ cleared_copy (shown h.memory) name None →
    Posts (roomy h n).mail mail stamp (moves to name info fields slice) letters →
    Does stamp h (operation_on h Serves answer.Idle name) (record { answer = answer.Nil; letters = letters }) (record (roomy h n) { tokens = t; memory = c; mail = mail })
unfolding state_of places_of
move_from stamp n h name t c mail to info fields rest slice letters keeps there becomes answered same info_is fields_are cleared posts =
    let g : Holdings = roomy h n in
    let has = part_there (part_of h.tokens name) there in
    let p : Part = has.0 in
    let o = object_there h name p keeps has.1 in
    let mid : Holdings = record g { tokens = t; memory = c } in
    let came : serve h.tokens.me (part_at h.tokens name) ≡ serve h.me p = (λ i. serve (keeps.tokens i) (unwrap_or (has.1 i) owner_part)) in
    let q : Part = (serve h.me p).0 in
    let turned : Becomes h.tokens t name q = subst (λ (y : Part × Served). Becomes h.tokens t name y.0) came becomes in
    let is : (serve h.me p).1 ≡ served_is.Moves to rest = sym (answered ∙ ap (λ (y : Part × Served). y.1) came) in
    let turns : Turns g mid name q (record o.0 { copy = None }) = turns_cleared g t c name q o.0 o.1 turned cleared in
    let k : Known = known_as p o.0 in
    let known : (state_of h).known name ≡ Some k = known_here h name p o.0 has.1 o.1 in
    let sends : List Send = send to (Grants mode.Write) ∷ map (λ (a : Ask). send to (Asks a.mode a.asker)) rest in
    let drafts : moves to name info fields slice ≡ drafts_of (state_of h) (lies_at h) name sends =
    ap (moves to name info fields) same ∙ moves_are (state_of h) (lies_at h) to name info fields rest info_is fields_are in
    let told : TellBunches (state_of mid) (drafts_of (state_of h) (lies_at h) name sends) = drafts_tell (state_of mid) (state_of g) (lies_at g) (alike_cleared g mid name p q o.0 turns known) name sends in
    let d = turn_does stamp g mid mail Serves answer.Idle answer.Nil name k q (record o.0 { copy = None }) (without_copy q) sends letters turns refl known
    (ap (served (share_of k) q) is) (ap (λ (x : Served). if is_served x then answer.Nil else answer.Idle) is) refl
    (posts.letters_are ∙ ap (numbered (issued_of g.mail) stamp) drafts)
    (posts.change (state_of mid) (subst (TellBunches (state_of mid)) (sym drafts) told)) in
    record { reacts = d.reacts; places = d.places }

pub move_does : (stamp : ℕ) (h g : Holdings) (name : ℕ) (t : Table) (c : Contents) (mail : MailState) (to : ℕ) (info : Info) (fields : List Field) (rest slice : List Ask) (letters : List Sending) →
    Keeps h → IsSome (part_of h.tokens name) → g ≡ roomy h g.mail.spare →
    Becomes g.tokens t name (serve g.tokens.me (part_at g.tokens name)).0 → served_is.Moves to rest ≡ (serve g.tokens.me (part_at g.tokens name)).1 → slice ≡ rest →
    info ≡ info_of (state_of h) (lies_at h) name → fields ≡ told_fields (state_of h) (lies_at h) name → shown c ≡ cleared_copy (shown g.memory) name None →
    Posts g.mail mail stamp (moves to name info fields slice) letters →
    Does stamp h (operation_on h Serves answer.Idle name) (record { answer = answer.Nil; letters = letters }) (record g { tokens = t; memory = c; mail = mail })
move_does stamp h g name t c mail to info fields rest slice letters keeps there roomed =
    subst (λ (x : Holdings).
    Becomes x.tokens t name (serve x.tokens.me (part_at x.tokens name)).0 → served_is.Moves to rest ≡ (serve x.tokens.me (part_at x.tokens name)).1 → slice ≡ rest →
    info ≡ info_of (state_of h) (lies_at h) name → fields ≡ told_fields (state_of h) (lies_at h) name → shown c ≡ cleared_copy (shown x.memory) name None →
    Posts x.mail mail stamp (moves to name info fields slice) letters →
    Does stamp h (operation_on h Serves answer.Idle name) (record { answer = answer.Nil; letters = letters }) (record x { tokens = t; memory = c; mail = mail })) (sym roomed)
    (move_from stamp g.mail.spare h name t c mail to info fields rest slice letters keeps there)

pub move_keeps : (h g : Holdings) (name : ℕ) (t : Table) (c : Contents) (mail : MailState) (to : ℕ) (rest : List Ask) → Keeps h → IsSome (part_of h.tokens name) → g ≡ roomy h g.mail.spare →
    Becomes g.tokens t name (serve g.tokens.me (part_at g.tokens name)).0 → served_is.Moves to rest ≡ (serve g.tokens.me (part_at g.tokens name)).1 →
    shown c ≡ cleared_copy (shown g.memory) name None → Keeps (record g { tokens = t; memory = c; mail = mail })
move_keeps h g name t c mail to rest keeps there roomed =
    subst (λ (x : Holdings).
    Becomes x.tokens t name (serve x.tokens.me (part_at x.tokens name)).0 → served_is.Moves to rest ≡ (serve x.tokens.me (part_at x.tokens name)).1 →
    shown c ≡ cleared_copy (shown x.memory) name None → Keeps (record x { tokens = t; memory = c; mail = mail })) (sym roomed)
    (λ becomes answered cleared.
    let has = part_there (part_of h.tokens name) there in
    let p : Part = has.0 in
    let o = object_there h name p keeps has.1 in
    let came : serve h.tokens.me (part_at h.tokens name) ≡ serve h.me p = (λ i. serve (keeps.tokens i) (unwrap_or (has.1 i) owner_part)) in
    let q : Part = (serve h.me p).0 in
    let turned : Becomes h.tokens t name q = subst (λ (y : Part × Served). Becomes h.tokens t name y.0) came becomes in
    let is : (serve h.me p).1 ≡ served_is.Moves to rest = sym (answered ∙ ap (λ (y : Part × Served). y.1) came) in
    let mid : Holdings = record h { tokens = t; memory = c } in
    keeps_mail mid mail (turned_keeps h mid name q (record o.0 { copy = None }) o.0 (turns_cleared h t c name q o.0 o.1 turned cleared) o.1
    (fit_serve h.me p (keeps.agree.fit name p has.1)) (λ own. absurd (moves_no_owner h.me p to rest is own)) keeps))

pub move_frame : (h g : Holdings) (name : ℕ) (t : Table) (c : Contents) (mail : MailState) → g ≡ roomy h g.mail.spare → shown c ≡ cleared_copy (shown g.memory) name None →
    Frame h (record g { tokens = t; memory = c; mail = mail })
unfolding limit_of
move_frame h g name t c mail roomed = subst (λ (x : Holdings). shown c ≡ cleared_copy (shown x.memory) name None → Frame h (record x { tokens = t; memory = c; mail = mail })) (sym roomed)
    (λ cleared. record { me = refl; store = refl; limit = ap (λ (y : Shown). y.limit) cleared; clock = refl })
