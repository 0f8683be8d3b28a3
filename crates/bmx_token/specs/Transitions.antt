-- What a node makes of one object's token, with its copy beside, and what it then says of the token to other
-- nodes: the calls of Tokens as transitions. The rules of a store and the model of one object both cite them.
use Rattle.std.specs.Prelude.{◌≡◌, ℕ, ◌==◌, ◌&&◌, Bool, true, false, if◌then◌else◌, List, [], ◌∷◌, map, Option, Some, None, refl}
use Rattle.bmx_types.specs.declared.numbers.Mode.{Mode}
use Rattle.bmx_types.specs.declared.numbers.Mode.TheVariants.{Read, Write}
use Rattle.bmx_token.specs.declared.parts.Ask.{Ask}
use Rattle.bmx_token.specs.declared.parts.Part.{Part}
use Rattle.bmx_token.specs.declared.answers.Acquire.{Acquire}
use Rattle.bmx_token.specs.declared.answers.Acquire.TheVariants as acquire_is
use Rattle.bmx_token.specs.declared.answers.Release.{Release}
use Rattle.bmx_token.specs.declared.answers.Release.TheVariants as release_is
use Rattle.bmx_token.specs.declared.answers.Served.{Served}
use Rattle.bmx_token.specs.declared.answers.Served.TheVariants as served_is
use Rattle.bmx_token.specs.declared.answers.Requested.{Requested}
use Rattle.bmx_token.specs.declared.answers.Requested.TheVariants as requested_is
use Rattle.bmx_token.specs.declared.answers.Revoked.{Revoked}
use Rattle.bmx_token.specs.declared.answers.Revoked.TheVariants as revoked_is
use Rattle.bmx_token.specs.Tokens.{owner_part, child_part, acquire, release, serve, request, granted, inval, ack}

-- what a node has of an object: whether it has a copy, and its token there
pub record Share : Type 0 where
  pub copy : Bool
  pub part : Part

-- what a node says of the token to another: that a node asks for it, that it is granted, that the copy is to
-- be given up, that it was given up
pub data Note : Type 0 where
  Asks : (m : Mode) (asker : ℕ) → Note
  Grants : (m : Mode) → Note
  Recalls : Note
  Returns : Note

-- two modes are the same
abbrev pub same_mode : Mode → Mode → Bool
same_mode Read Read = true
same_mode Read Write = false
same_mode Write Read = false
same_mode Write Write = true

-- a note is the request of a node in a mode, or the grant of a mode
abbrev pub is_request_of : Mode → ℕ → Note → Bool
is_request_of m a (Asks n b) = same_mode m n && (b == a)
is_request_of m a (Grants n) = false
is_request_of m a Recalls = false
is_request_of m a Returns = false

abbrev pub is_grant_of : Mode → Note → Bool
is_grant_of m (Asks n b) = false
is_grant_of m (Grants n) = same_mode m n
is_grant_of m Recalls = false
is_grant_of m Returns = false

-- a note to a node
pub record Send : Type 0 where
  pub to : ℕ
  pub note : Note

abbrev pub send : ℕ → Note → Send
send to note = record { to = to; note = note }

-- what a node has after a transition, None where it has no entry, and what it says in it
pub record Transition : Type 0 where
  pub after : Option Share
  pub sends : List Send

-- the token changes; the copy is given up; a copy comes
abbrev pub with_token : Share → Part → Share
with_token h p = record h { part = p }

abbrev pub without_copy : Part → Share
without_copy p = record { copy = false; part = p }

abbrev pub with_copy : Part → Share
with_copy p = record { copy = true; part = p }

-- a transition that says nothing, and one that says this
abbrev pub silently : Share → Transition
silently h = record { after = Some h; sends = [] }

abbrev pub saying : Share → List Send → Transition
saying h sends = record { after = Some h; sends = sends }

-- ## what a node does by itself

-- it takes the token in a mode, gives it back, or serves the head of the queue
pub data Operation : Type 0 where
  Acquires : (m : Mode) → Operation
  Releases : Operation
  Serves : Operation

abbrev pub acquired : ℕ → Mode → Share → Part → Acquire → Option Transition
acquired me m h p acquire_is.Held = Some (silently (with_token h p))
acquired me m h p (acquire_is.Asks parent) = Some (saying (with_token h p) (send parent (Asks m me) ∷ []))
acquired me m h p acquire_is.Waits = Some (silently (with_token h p))
acquired me m h p acquire_is.Refused = None

-- an owner that waits for the copy is told that it is given up
abbrev pub released : Share → Part → Release → Option Transition
released h p release_is.Free = Some (silently (with_token h p))
released h p (release_is.Answers owner) = Some (saying (without_copy p) (send owner Returns ∷ []))
released h p release_is.Refused = None

-- ownership goes with the rest of the queue
abbrev pub served : Share → Part → Served → Option Transition
served h p served_is.Idle = None
served h p served_is.Ready = Some (silently (with_token h p))
served h p (served_is.Read asker) = Some (saying (with_token h p) (send asker (Grants Read) ∷ []))
served h p (served_is.Revokes nodes) = Some (saying (with_token h p) (map (λ node. send node Recalls) nodes))
served h p (served_is.Moves to rest) =
    Some (saying (without_copy p) (send to (Grants Write) ∷ map (λ (a : Ask). send to (Asks a.mode a.asker)) rest))

-- the transition of node me by an operation, None where it is refused or there is nothing to do
abbrev pub transition_of : ℕ → Operation → Share → Option Transition
transition_of me (Acquires m) h = let a : Part × Acquire = acquire me h.part m h.copy in acquired me m h a.0 a.1
transition_of me Releases h = let r : Part × Release = release h.part in released h r.0 r.1
transition_of me Serves h = let r : Part × Served = serve me h.part in served h r.0 r.1

-- something was served
abbrev pub is_served : Served → Bool
is_served served_is.Idle = false
is_served served_is.Ready = true
is_served (served_is.Read asker) = true
is_served (served_is.Revokes nodes) = true
is_served (served_is.Moves to rest) = true

-- the head of the queue can be served at node me
abbrev pub can_serve : ℕ → Part → Bool
can_serve me p = is_served (serve me p).1

-- ## what a node makes of a note

-- an owner queues who asks, another node passes the request on
abbrev pub requested : Mode → ℕ → Share → Part → Requested → Option Transition
requested m asker h p requested_is.Queued = Some (silently (with_token h p))
requested m asker h p (requested_is.Forward parent) = Some (saying h (send parent (Asks m asker) ∷ []))
requested m asker h p requested_is.Stray = None

-- a copy comes with what was granted
abbrev pub grant_taken : Part → Bool → Option Transition
grant_taken p true = Some (silently (with_copy p))
grant_taken p false = None

-- the copy is given up at once, and the sender is told, or at the release
abbrev pub recalled : ℕ → Share → Part → Option Revoked → Option Transition
recalled from h p None = None
recalled from h p (Some revoked_is.Now) = Some (saying (without_copy p) (send from Returns ∷ []))
recalled from h p (Some revoked_is.AtRelease) = Some (silently (with_token h p))

abbrev pub returned : Share → Part → Bool → Option Transition
returned h p true = Some (silently (with_token h p))
returned h p false = None

-- the transition of node me by a note from a node, None where the note is stray; a node with no entry has no copy
-- to give up, and says so
abbrev pub note_transition : ℕ → ℕ → Note → Option Share → Option Transition
note_transition me from (Asks m asker) None = None
note_transition me from (Asks m asker) (Some h) = let r : Part × Requested = request me h.part asker m in requested m asker h r.0 r.1
note_transition me from (Grants m) None = None
note_transition me from (Grants m) (Some h) = let r : Part × Bool = granted h.part from m in grant_taken r.0 r.1
note_transition me from Recalls None = Some (record { after = None; sends = send from Returns ∷ [] })
note_transition me from Recalls (Some h) = let r : Part × Option Revoked = inval h.part from h.copy in recalled from h r.0 r.1
note_transition me from Returns None = None
note_transition me from Returns (Some h) = let r : Part × Bool = ack h.part from in returned h r.0 r.1

-- ## what nodes begin with

-- its maker has a copy, and owns the object
abbrev pub made_share : Share
made_share = with_copy owner_part

-- a node that hears of the object has no copy, and asks who told it
abbrev pub heard_share : ℕ → Share
heard_share from = without_copy (child_part from)

-- ## cases

-- node 1 has heard of an object of node 0: it asks for it, and to give it back is refused
abbrev asks_to_read : Share
asks_to_read = without_copy (record (child_part 0) { want = Some Read })

it_asks : transition_of 1 (Acquires Read) (heard_share 0) ≡ Some (saying asks_to_read (send 0 (Asks Read 1) ∷ []))
it_asks = refl

nothing_is_given_back : transition_of 1 Releases (heard_share 0) ≡ None
nothing_is_given_back = refl

-- it is granted a copy, and not a second time
abbrev may_read : Share
may_read = with_copy (record (child_part 0) { want = Some Read; ready = true })

it_gets_a_copy : note_transition 1 0 (Grants Read) (Some asks_to_read) ≡ Some (silently may_read)
it_gets_a_copy = refl

no_second_copy : note_transition 1 0 (Grants Read) (Some may_read) ≡ None
no_second_copy = refl

-- the owner is asked, and can serve
abbrev asked_share : Share
asked_share = with_copy (record owner_part { queue = record { asker = 1; mode = Write } ∷ record { asker = 2; mode = Read } ∷ [] })

it_can_serve : can_serve 0 asked_share.part ≡ true
it_can_serve = refl

nothing_to_serve : can_serve 0 owner_part ≡ false
nothing_to_serve = refl

-- ownership goes to who asks to write, and the rest of the queue behind it
ownership_goes : transition_of 0 Serves asked_share ≡ Some (saying (heard_share 1) (send 1 (Grants Write) ∷ send 1 (Asks Read 2) ∷ []))
ownership_goes = refl

-- a node that knows nothing of the object has nothing to give up
nothing_to_give_up : note_transition 2 0 Recalls None ≡ Some (record { after = None; sends = send 0 Returns ∷ [] })
nothing_to_give_up = refl
