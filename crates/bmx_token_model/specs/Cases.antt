-- Runs of the model worked by hand, each closed by computing: node 0 owns an object, and node 1 has
-- heard of it.
use Rattle.std.specs.Prelude.{◌≡◌, ℕ, ◌==◌, ◌&&◌, true, false, if◌then◌else◌, List, [], ◌∷◌, Option, Some, None, IsSome, refl}
use Rattle.bmx_types.specs.Updates.{put_at}
use Rattle.bmx_types.specs.declared.numbers.Mode.TheVariants.{Read, Write}
use Rattle.bmx_token.specs.Tokens.{owner_part, child_part}
use Rattle.bmx_token_model.specs.Tables.{Table, Tabled, looks_to, MayForget}
use Rattle.bmx_token_model.specs.Laws.{owned_at, handovers_in, Requested, Queued, Granted, standing, answers_owed}
use Rattle.bmx_token.specs.Transitions.{Share, Note, Asks, Grants, Recalls, Operation, Acquires, Releases, Serves, Transition, transition_of, silently, made_share, heard_share, without_copy}
use Rattle.bmx_token_model.specs.Machine.{Message, Numbers, no_numbers, Object, moved, popped, letter_transition}

-- ## running

-- what comes next: a node does something by itself, or takes the next letter from another
pub data Next : Type 0 where
  Do : (me : ℕ) (a : Operation) → Next
  Take : (from me : ℕ) → Next

-- the object after a transition; one that is none leaves it
abbrev pub after_transition : Object → Object → ℕ → Option Transition → Object
after_transition o p me None = o
after_transition o p me (Some t) = moved p me false t

abbrev pub did : Object → ℕ → Operation → Option Share → Object
did o me a None = o
did o me a (Some h) = after_transition o o me (transition_of me a h)

abbrev pub took : Object → ℕ → ℕ → List Message → Object
took o from me [] = o
took o from me (l ∷ rest) = after_transition o (popped o from me l rest) me (letter_transition me from l (o.holds me))

-- a node with nothing of it, nothing to do, an empty channel, a letter to itself or a stray one leaves it
abbrev pub next : Object → Next → Object
next o (Do me a) = did o me a (o.holds me)
next o (Take from me) = if from == me then o else took o from me (o.channel from me)

abbrev pub after : Object → List Next → Object
after o [] = o
after o (t ∷ more) = after (next o t) more

-- ## the opening

abbrev pub first_holds : ℕ → Option Share
first_holds n = if n == 0 then Some made_share else (if n == 1 then Some (heard_share 0) else None)

-- node 0 has a record of node 1
abbrev pub first_entering : ℕ → ℕ → Option Numbers
first_entering n m = if (n == 0) && (m == 1) then Some no_numbers else None

abbrev pub opening : Object
opening = record { holds = first_holds; channel = λ n m. []; entering = first_entering; issued = λ n m. 0; taken = λ n m. 0 }

-- a letter with a note
abbrev pub letter : ℕ → Note → Message
letter seq note = record { seq = seq; note = Some note; tells = false }

-- ## node 1 reads: it asks, is granted a copy, and holds

abbrev pub asked : Object
asked = after opening (Do 1 (Acquires Read) ∷ [])

it_asks : asked.channel 1 0 ≡ letter 1 (Asks Read 1) ∷ []
it_asks = refl

abbrev pub granted_read : Object
granted_read = after asked (Take 1 0 ∷ Do 0 Serves ∷ [])

it_is_granted : granted_read.channel 0 1 ≡ letter 1 (Grants Read) ∷ []
it_is_granted = refl

the_channel_there_is_empty : granted_read.channel 1 0 ≡ []
the_channel_there_is_empty = refl

the_giver_records_its_letter : granted_read.entering 0 1 ≡ Some record { sent = 1; got = 0 }
the_giver_records_its_letter = refl

the_owner_knows_its_reader : granted_read.holds 0 ≡ Some record { copy = true; part = record owner_part { readers = 1 ∷ [] } }
the_owner_knows_its_reader = refl

abbrev pub reads : Object
reads = after granted_read (Take 0 1 ∷ Do 1 (Acquires Read) ∷ [])

it_reads : reads.holds 1 ≡ Some record { copy = true; part = record (child_part 0) { held = Some Read } }
it_reads = refl

-- ## node 0 writes meanwhile: it waits until node 1 releases the token and returns its copy

abbrev pub recalled_held : Object
recalled_held = after reads (Do 0 (Acquires Write) ∷ Do 0 Serves ∷ [])

its_copy_is_recalled : recalled_held.channel 0 1 ≡ letter 2 (Recalls) ∷ []
its_copy_is_recalled = refl

abbrev pub kept_waiting : Object
kept_waiting = after recalled_held (Take 0 1 ∷ [])

a_reader_goes_on : kept_waiting.holds 1 ≡ Some record { copy = true; part = record (child_part 0) { held = Some Read; due = Some 0 } }
a_reader_goes_on = refl

and_answers_nothing_yet : kept_waiting.channel 1 0 ≡ []
and_answers_nothing_yet = refl

abbrev pub writes_at_home : Object
writes_at_home = after kept_waiting (Do 1 Releases ∷ Take 1 0 ∷ Do 0 Serves ∷ Do 0 (Acquires Write) ∷ [])

then_the_owner_writes : writes_at_home.holds 0 ≡ Some record { copy = true; part = record owner_part { held = Some Write } }
then_the_owner_writes = refl

and_the_reader_has_no_copy : writes_at_home.holds 1 ≡ Some (heard_share 0)
and_the_reader_has_no_copy = refl

-- ## node 1 writes after it has read: it gives up its copy, and ownership comes to it

abbrev pub handed_over : Object
handed_over = after reads (Do 1 Releases ∷ Do 1 (Acquires Write) ∷ Take 1 0 ∷ Do 0 Serves ∷ Take 0 1 ∷ Take 1 0 ∷ Do 0 Serves ∷ [])

ownership_is_in_flight : handed_over.channel 0 1 ≡ letter 3 (Grants Write) ∷ []
ownership_is_in_flight = refl

and_left_where_it_was : handed_over.holds 0 ≡ Some (heard_share 1)
and_left_where_it_was = refl

nobody_owns_it_meanwhile : owned_at (handed_over.holds 0) ≡ 0
nobody_owns_it_meanwhile = refl

one_handover_is_in_flight : handovers_in (handed_over.channel 0 1) ≡ 1
one_handover_is_in_flight = refl

abbrev pub writes : Object
writes = after handed_over (Take 0 1 ∷ Do 1 (Acquires Write) ∷ [])

it_writes : writes.holds 1 ≡ Some record { copy = true; part = record owner_part { held = Some Write } }
it_writes = refl

then_it_owns_it : owned_at (writes.holds 1) ≡ 1
then_it_owns_it = refl

the_taker_records_who_brought_it : writes.entering 1 0 ≡ Some record { sent = 0; got = 3 }
the_taker_records_who_brought_it = refl

-- ## where a want stands: in flight, in the queue, as a grant in flight, and at one of them alone

it_stands_in_flight : standing asked Read 1 (Requested 1 0) ≡ 1
it_stands_in_flight = refl

abbrev queued_read : Object
queued_read = after asked (Take 1 0 ∷ [])

then_in_the_queue : standing queued_read Read 1 (Queued 0) ≡ 1
then_in_the_queue = refl

and_no_more_in_flight : standing queued_read Read 1 (Requested 1 0) ≡ 0
and_no_more_in_flight = refl

then_it_is_granted : standing granted_read Read 1 (Granted 0) ≡ 1
then_it_is_granted = refl

what_is_held_is_nowhere : standing reads Read 1 (Granted 0) ≡ 0
what_is_held_is_nowhere = refl

-- ## who is waited for owes one answer: to the recall, at the release, in flight back

a_recall_is_owed_an_answer : answers_owed recalled_held 0 1 ≡ 1
a_recall_is_owed_an_answer = refl

then_the_release_owes_it : answers_owed kept_waiting 0 1 ≡ 1
then_the_release_owes_it = refl

then_it_is_in_flight : answers_owed (after kept_waiting (Do 1 Releases ∷ [])) 0 1 ≡ 1
then_it_is_in_flight = refl

and_then_none_is_owed : answers_owed writes_at_home 0 1 ≡ 0
and_then_none_is_owed = refl

-- ## letters fit, and nobody writes to itself

the_request_fits : IsSome (letter_transition 0 1 (letter 1 (Asks Read 1)) (asked.holds 0))
the_request_fits = refl

the_grant_fits : IsSome (letter_transition 1 0 (letter 1 (Grants Read)) (granted_read.holds 1))
the_grant_fits = refl

nobody_writes_to_itself : handed_over.channel 0 0 ≡ []
nobody_writes_to_itself = refl

-- ## who is asked knows the object, and has a record of the asker

who_is_asked_knows_it : asked.holds 0 ≡ Some made_share
who_is_asked_knows_it = refl

and_has_a_record_of_the_asker : IsSome (asked.entering 0 1)
and_has_a_record_of_the_asker = refl

-- ## while ownership is in flight the giver looks to its taker, and the taker still to the giver

abbrev pub the_taker_waits : Share
the_taker_waits = without_copy (record (child_part 0) { want = Some Write })

the_giver_looks_to_the_taker : looks_to (handed_over.holds 0) 1 ≡ true
the_giver_looks_to_the_taker = refl

the_taker_looks_to_the_giver : handed_over.holds 1 ≡ Some the_taker_waits
the_taker_looks_to_the_giver = refl

-- ## node 1 may forget what it has once it is idle

it_may_forget : MayForget writes_at_home 1 (heard_share 0)
it_may_forget = record { has = refl; idle = record { held = refl; want = refl; due = refl; queue = refl; waiting = refl }; no_record = λ m. refl }

-- ## node 1 owns the object, and makes a table for node 0, which may clear its record by it

abbrev pub table_of_the_owner : Table
table_of_the_owner = record { sent = 3; got = 3; lists = false }

it_is_made : table_of_the_owner ≡ record { sent = writes.issued 1 0; got = writes.taken 1 0; lists = looks_to (writes.holds 1) 0 }
it_is_made = refl

it_speaks_of_all_letters_sent : writes.taken 0 1 ≡ 3
it_speaks_of_all_letters_sent = refl

and_of_all_in_the_record : writes.entering 0 1 ≡ Some record { sent = 1; got = 0 }
and_of_all_in_the_record = refl

abbrev pub tabled : Tabled
tabled = record { object = writes; tables = put_at (λ n m. []) 1 0 (table_of_the_owner ∷ []) }

-- ## single letters

a_stranger_hears_of_it : letter_transition 2 0 (record { seq = 1; note = None; tells = true }) None ≡ Some (silently (heard_share 0))
a_stranger_hears_of_it = refl

a_request_at_a_stranger_is_stray : letter_transition 2 0 (letter 1 (Asks Read 1)) None ≡ None
a_request_at_a_stranger_is_stray = refl
