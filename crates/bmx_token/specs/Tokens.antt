-- The token of one object at one node: what each call makes of it, and what it answers. One equation
-- stands for each case, and a call that is refused, finds nothing to do or is stray changes nothing.
use Rattle.std.specs.Prelude.{ℕ, Bool, true, false, ◌==◌, ◌||◌, if◌then◌else◌, List, [], ◌∷◌, ◌++◌, Option, Some, None, is_some}
use Rattle.std.specs.List.{list_any}
use Rattle.std.specs.List.Sorted.{IsStrictlyIncreasing}
use Rattle.bmx_types.specs.declared.numbers.Mode.{Mode}
use Rattle.bmx_types.specs.declared.numbers.Mode.TheVariants.{Read, Write}
use Rattle.bmx_token.specs.declared.parts.Ask.{Ask}
use Rattle.bmx_token.specs.declared.parts.Role.{Role}
use Rattle.bmx_token.specs.declared.parts.Role.TheVariants.{Owner, Parent}
use Rattle.bmx_token.specs.declared.parts.Part.{Part}
use Rattle.bmx_token.specs.declared.answers.Acquire.{Acquire}
use Rattle.bmx_token.specs.declared.answers.Acquire.TheVariants.{Held, Asks, Waits, Refused}
use Rattle.bmx_token.specs.declared.answers.Release.{Release}
use Rattle.bmx_token.specs.declared.answers.Release.TheVariants.{Free, Answers, Refused as NotHeld}
use Rattle.bmx_token.specs.declared.answers.Served.{Served}
use Rattle.bmx_token.specs.declared.answers.Served.TheVariants.{Idle, Ready, Read as Reads, Revokes, Moves}
use Rattle.bmx_token.specs.declared.answers.Requested.{Requested}
use Rattle.bmx_token.specs.declared.answers.Requested.TheVariants.{Queued, Forward, Stray}
use Rattle.bmx_token.specs.declared.answers.Revoked.{Revoked}
use Rattle.bmx_token.specs.declared.answers.Revoked.TheVariants.{Now, AtRelease}
use Rattle.bmx_token.specs.Nodes.{nodes_with, nodes_without}

-- ## the parts that a name begins with

-- the node that makes or loads an object owns it
abbrev pub owner_part : Part
owner_part = record { role = Owner; held = None; want = None; ready = false; due = None; readers = []; queue = []; waiting = [] }

-- a node that hears of an object knows a node to ask
abbrev pub child_part : ℕ → Part
child_part parent = record owner_part { role = Parent parent }

-- whom a node asks
abbrev pub parent_of : Role → Option ℕ
parent_of Owner = None
parent_of (Parent parent) = Some parent

-- readers and waiting nodes stand in rising order, each once
pub record IsInOrder (p : Part) : Type 0 where
  pub readers_rise : IsStrictlyIncreasing p.readers
  pub waiting_rises : IsStrictlyIncreasing p.waiting

-- ## acquiring a token

-- what was wanted is taken once it is ready, and waited for until then
abbrev pub take_wanted : Part → Mode → Bool → Part × Acquire
take_wanted p mode true = (record p { held = Some mode; want = None; ready = false }, Held)
take_wanted p mode false = (p, Waits)

-- a read that isn't wanted yet: with a copy it is held, and an owner has one; else the parent is asked
abbrev pub want_read : Part → Role → Bool → Part × Acquire
want_read p Owner copy = (record p { held = Some Read }, Held)
want_read p (Parent parent) true = (record p { held = Some Read }, Held)
want_read p (Parent parent) false = (record p { want = Some Read }, Asks parent)

-- a write that isn't wanted yet: an owner holds it where nobody reads, and else queues behind the
-- others for it; another node asks its parent
abbrev pub want_write : ℕ → Part → Role → List ℕ → Part × Acquire
want_write me p Owner [] = (record p { held = Some Write }, Held)
want_write me p Owner (reader ∷ readers) =
    (record p { want = Some Write; queue = p.queue ++ record { asker = me; mode = Write } ∷ [] }, Waits)
want_write me p (Parent parent) readers = (record p { want = Some Write }, Asks parent)

-- by the mode, what is held and what is wanted: a token that is held, or wanted in the other mode,
-- refuses a second
abbrev pub acquire_by : ℕ → Part → Bool → Mode → Option Mode → Option Mode → Part × Acquire
acquire_by me p copy mode (Some held) want = (p, Refused)
acquire_by me p copy Read None (Some Write) = (p, Refused)
acquire_by me p copy Read None (Some Read) = take_wanted p Read p.ready
acquire_by me p copy Read None None = want_read p p.role copy
acquire_by me p copy Write None (Some Read) = (p, Refused)
acquire_by me p copy Write None (Some Write) = take_wanted p Write p.ready
acquire_by me p copy Write None None = want_write me p p.role p.readers

-- acquiring the token in a mode at node me, which has a copy or not
abbrev pub acquire : ℕ → Part → Mode → Bool → Part × Acquire
acquire me p mode copy = acquire_by me p copy mode p.held p.want

-- ## releasing it

-- by what is held, and to whom an answer is due
abbrev pub release_by : Part → Option Mode → Option ℕ → Part × Release
release_by p None due = (p, NotHeld)
release_by p (Some held) None = (record p { held = None }, Free)
release_by p (Some held) (Some owner) = (record p { held = None; due = None }, Answers owner)

-- releasing the token: an owner that waits for it back is answered
abbrev pub release : Part → Part × Release
release p = release_by p p.held p.due

-- ## serving the queue of the owner

-- a write is held
abbrev pub is_write : Option Mode → Bool
is_write (Some Write) = true
is_write (Some Read) = false
is_write None = false

-- others read: all of them are told to give up their copies, unless they were told
abbrev pub revoke : Part → List ℕ → Part × Served
revoke p [] = (record p { waiting = p.readers }, Revokes p.readers)
revoke p (node ∷ waiting) = (p, Idle)

-- nobody else reads: once nothing is held here the owner writes, or hands ownership and the rest of
-- the queue over
abbrev pub serve_alone : ℕ → Part → ℕ → List Ask → Part × Served
serve_alone me p asker rest =
    if is_some p.held || p.ready then (p, Idle)
    else (if asker == me then (record p { queue = rest; ready = true }, Ready)
    else (record p { role = Parent asker; queue = [] }, Moves asker rest))

-- the head is a write: it waits for all who read
abbrev pub serve_write : ℕ → Part → ℕ → List Ask → List ℕ → Part × Served
serve_write me p asker rest [] = serve_alone me p asker rest
serve_write me p asker rest (reader ∷ readers) = revoke p p.waiting

-- the head is a read: it is granted where nobody writes here or is about to
abbrev pub serve_head : ℕ → Part → ℕ → List Ask → Mode → Part × Served
serve_head me p asker rest Read =
    if is_write p.held || p.ready then (p, Idle)
    else (record p { queue = rest; readers = nodes_with asker p.readers }, Reads asker)
serve_head me p asker rest Write = serve_write me p asker rest p.readers

-- by the role and the queue
abbrev pub serve_by : ℕ → Part → Role → List Ask → Part × Served
serve_by me p (Parent parent) queue = (p, Idle)
serve_by me p Owner [] = (p, Idle)
serve_by me p Owner (head ∷ rest) = serve_head me p head.asker rest head.mode

-- serving the head of the queue at node me
abbrev pub serve : ℕ → Part → Part × Served
serve me p = serve_by me p p.role p.queue

-- ## letters

-- by the role: an owner queues who asks, unless it is itself; another node passes the request on
abbrev pub request_by : ℕ → Part → ℕ → Mode → Role → Part × Requested
request_by me p asker mode Owner =
    if asker == me then (p, Stray)
    else (record p { queue = p.queue ++ record { asker = asker; mode = mode } ∷ [] }, Queued)
request_by me p asker mode (Parent parent) = (p, Forward parent)

-- a request to read or write comes to node me
abbrev pub request : ℕ → Part → ℕ → Mode → Part × Requested
request me p asker mode = request_by me p asker mode p.role

-- by the mode, the role, what is wanted and whether it is ready: only what is wanted and not there
-- yet is taken; who grants a read is the parent from then on, and a write makes its taker the owner
abbrev pub granted_by : Part → ℕ → Mode → Role → Option Mode → Bool → Part × Bool
granted_by p from Read (Parent parent) (Some Read) false = (record p { role = Parent from; ready = true }, true)
granted_by p from Write (Parent parent) (Some Write) false =
    (record p { role = Owner; ready = true; readers = []; queue = []; waiting = [] }, true)
granted_by p from mode role want ready = (p, false)

-- a grant comes; whether it isn't stray
abbrev pub granted : Part → ℕ → Mode → Part × Bool
granted p from mode = granted_by p from mode p.role p.want p.ready

-- by the role, what is due and the copy: a copy that is held, or about to be, is given up at its
-- release, and another at once
abbrev pub inval_by : Part → ℕ → Role → Option ℕ → Bool → Part × Option Revoked
inval_by p from Owner due copy = (p, None)
inval_by p from (Parent parent) (Some owner) copy = (p, None)
inval_by p from (Parent parent) None false = (p, Some Now)
inval_by p from (Parent parent) None true =
    if is_some p.held || p.ready then (record p { due = Some from }, Some AtRelease) else (p, Some Now)

-- an invalidation comes to a node that has a copy or not; none where it is stray
abbrev pub inval : Part → ℕ → Bool → Part × Option Revoked
inval p from copy = inval_by p from p.role p.due copy

-- by the role: an owner takes the sender from who is waited for and who reads
abbrev pub ack_by : Part → ℕ → Role → Part × Bool
ack_by p from Owner =
    if list_any (λ node. node == from) p.waiting
    then (record p { waiting = nodes_without from p.waiting; readers = nodes_without from p.readers }, true)
    else (p, false)
ack_by p from (Parent parent) = (p, false)

-- an acknowledgement of an invalidation comes; whether it isn't stray
abbrev pub ack : Part → ℕ → Part × Bool
ack p from = ack_by p from p.role
