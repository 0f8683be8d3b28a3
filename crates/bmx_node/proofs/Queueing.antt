-- What serving the queue of a name comes to.
use Rattle.std.proofs.lemmas.Bool.{false≢true}
use Rattle.bmx_mail.specs.Inside.Posts.{Posts, TellBunches}
use Rattle.bmx_mail.proofs.Posting.{posts-none}
use Rattle.bmx_node.proofs.Reactions.{operation_none}
use Rattle.bmx_node.proofs.Operating.{object_there, known_here, serve_does, serve_keeps, part_there, keeps_mail}
use Rattle.std.proofs.Common.{◌≡◌, ℕ, Bool, true, false, if◌then◌else◌, List, [], ◌∷◌, map, Option, Some, IsSome, unwrap_or, refl, sym, ◌∙◌, ap, subst}
use Rattle.std.specs.Option.{option_map, option_map_or}
use Rattle.bmx_types.specs.declared.addresses.Place.{Place}
use Rattle.bmx_types.specs.declared.addresses.Info.{Info}
use Rattle.bmx_token.specs.declared.parts.Part.{Part}
use Rattle.bmx_token.specs.declared.answers.Service.{Service}
use Rattle.bmx_token.specs.declared.answers.Served.{Served}
use Rattle.bmx_token.specs.Tokens.{serve}
use Rattle.bmx_token.specs.Services.{service_of}
use Rattle.bmx_token.specs.Transitions.{Serves, send, Recalls, served, is_served}
use Rattle.bmx_tokens.specs.Tables.{Table, part_of, part_at, Becomes}
use Rattle.bmx_protocol.specs.Nodes.{NodeState, Known, share_of}
use Rattle.bmx_protocol.specs.Rules.{Draft, info_of, drafts_of}
use Rattle.bmx_protocol.specs.Steps.{numbered}
use Rattle.bmx_memory.specs.Shown.{Object, shown, known_as, Sees, info_of as memory_info}
use Rattle.bmx_mail.specs.Mails.{MailState, OutboxState, issued_of}
use Rattle.bmx_node.specs.declared.holdings.Holdings.{Holdings}
use Rattle.bmx_node.specs.Seen.{state_of, places_of}
use Rattle.bmx_node.specs.Inside.Keeping.{Keeps}
use Rattle.bmx_node.specs.Inside.Reacting.{lies_at, Does, operation_on}
use Rattle.bmx_node.specs.Inside.Posting.{recalls}
use Rattle.bmx_protocol.specs.declared.inputs.NodeAnswer.TheVariants as answer
use Rattle.bmx_msg.specs.declared.letters.Msg.TheVariants as msg
use Rattle.bmx_token.specs.declared.answers.Service.TheVariants as service
use Rattle.bmx_token.specs.declared.answers.Served.TheVariants as served_is

-- ## nothing to serve

is_idle : Service → Bool
is_idle service.Idle = true
is_idle service.Ready = false
is_idle (service.Read asker) = false
is_idle service.Revokes = false
is_idle (service.Moves to) = false

served_idle : (x : Served) → service_of x ≡ service.Idle → x ≡ served_is.Idle
unfolding is_idle
served_idle served_is.Idle e = refl
served_idle served_is.Ready e = absurd (false≢true (ap is_idle e))
served_idle (served_is.Read asker) e = absurd (false≢true (ap is_idle e))
served_idle (served_is.Revokes nodes) e = absurd (false≢true (ap is_idle e))
served_idle (served_is.Moves to rest) e = absurd (false≢true (ap is_idle e))

pub idle_does : (stamp : ℕ) (h : Holdings) (name : ℕ) (p : Part) (s : Service) → Keeps h → part_of h.tokens name ≡ Some p → s ≡ service_of (serve h.me p).1 → s ≡ service.Idle →
    Does stamp h (operation_on h Serves answer.Idle name) (record { answer = answer.Idle; letters = [] }) h
idle_does stamp h name p s keeps has told is =
    let there = object_there h name p keeps has in
    let idle : (serve h.me p).1 ≡ served_is.Idle = served_idle (serve h.me p).1 (sym told ∙ is) in
    let k : Known = known_as p there.0 in
    record {
      reacts = operation_none stamp h.me (state_of h) (lies_at h) Serves answer.Idle answer.Idle name k (known_here h name p there.0 has there.1)
          (ap (served (share_of k) (serve h.me p).0) idle) (ap (λ (x : Served). if is_served x then answer.Nil else answer.Idle) idle);
      places = refl;
    }

-- ## grants

abbrev told_info : ℕ → ℕ → ℕ → Place → Info
told_info name bunch size place = record { name = name; bunch = bunch; size = size; place = place }

-- what a node tells of an object that it knows
pub info_same : (h : Holdings) (name : ℕ) → Keeps h → IsSome (part_of h.tokens name) → memory_info (shown h.memory) name ≡ Some (info_of (state_of h) (lies_at h) name)
unfolding places_of
info_same h name keeps there =
    let p = part_there (part_of h.tokens name) there in
    let o = object_there h name p.0 keeps p.1 in
    let known : (state_of h).known name ≡ Some (known_as p.0 o.0) = known_here h name p.0 o.0 p.1 o.1 in
    ap (λ (x : Option Object). option_map (λ (y : Object). told_info name y.bunch y.size (lies_at h name)) x) o.1
    ∙ (λ i. Some (told_info name (option_map_or (λ (k : Known). k.bunch) (sym known i) 0) (option_map_or (λ (k : Known). k.size) (sym known i) 0) (lies_at h name)))

pub info_granted : (x : Option Info) (info y : Info) → x ≡ Some info → x ≡ Some y → info ≡ y
info_granted x info y is so = ap (λ (z : Option Info). unwrap_or z info) (sym is ∙ so)

pub sees_itself : (h : Holdings) → Sees (shown h.memory) (state_of h) (lies_at h)
unfolding state_of places_of
sees_itself h = record { parts = part_at h.tokens; known = refl; places = λ name. refl }

-- ## recalls

recalls_are : (s : NodeState) (lies : ℕ → Place) (name : ℕ) (nodes : List ℕ) → recalls name nodes ≡ drafts_of s lies name (map (λ node. send node Recalls) nodes)
recalls_are s lies name [] = refl
recalls_are s lies name (n ∷ nodes) = ap (λ (l : List Draft). record { to = n; msg = msg.Inval name } ∷ l) (recalls_are s lies name nodes)

recalls_tell : (s : NodeState) (name : ℕ) (nodes : List ℕ) → TellBunches s (recalls name nodes)
recalls_tell s name [] = tt
recalls_tell s name (n ∷ nodes) = (tt, recalls_tell s name nodes)

pub posts_none_in : (m : MailState) (stamp room : ℕ) (box : OutboxState) → box ≡ record { stamp = stamp; letters = []; room = room } → Posts m m box.stamp [] box.letters
posts_none_in m stamp room box opened = subst (λ (b : OutboxState). Posts m m b.stamp [] b.letters) (sym opened) (posts-none m stamp)

pub recall_does : (stamp room : ℕ) (h : Holdings) (name : ℕ) (t : Table) (mail : MailState) (nodes slice : List ℕ) (box more : OutboxState) → Keeps h → IsSome (part_of h.tokens name) →
    Becomes h.tokens t name (serve h.tokens.me (part_at h.tokens name)).0 → served_is.Revokes nodes ≡ (serve h.tokens.me (part_at h.tokens name)).1 → slice ≡ nodes →
    box ≡ record { stamp = stamp; letters = []; room = room } → Posts h.mail mail box.stamp (recalls name slice) more.letters →
    Does stamp h (operation_on h Serves answer.Idle name) (record { answer = answer.Nil; letters = more.letters }) (record h { tokens = t; mail = mail })
unfolding state_of
recall_does stamp room h name t mail nodes slice box more keeps there becomes answered same opened posts =
    let has = part_there (part_of h.tokens name) there in
    let sent : more.letters ≡ numbered (issued_of h.mail) stamp (recalls name nodes) =
    posts.letters_are ∙ (λ i. numbered (issued_of h.mail) (opened i).stamp (recalls name (same i))) in
    serve_does stamp h answer.Idle name has.0 keeps has.1 t mail (served_is.Revokes nodes) (map (λ node. send node Recalls) nodes) more.letters becomes answered refl (λ y q. refl)
    (sent ∙ ap (numbered (issued_of h.mail) stamp) (recalls_are (state_of h) (lies_at h) name nodes))
    (posts.change (state_of (record h { tokens = t })) (recalls_tell (state_of (record h { tokens = t })) name slice))

pub recall_keeps : (h : Holdings) (name : ℕ) (t : Table) (mail : MailState) → Keeps h → IsSome (part_of h.tokens name) →
    Becomes h.tokens t name (serve h.tokens.me (part_at h.tokens name)).0 → Keeps (record h { tokens = t; mail = mail })
recall_keeps h name t mail keeps there becomes =
    let has = part_there (part_of h.tokens name) there in
    serve_keeps 0 h answer.Idle name has.0 keeps has.1 t mail becomes
