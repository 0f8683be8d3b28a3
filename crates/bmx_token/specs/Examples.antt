-- Small cases of the calls on a token.
use Rattle.std.specs.Prelude.{◌≡◌, ℕ, true, false, List, [], ◌∷◌, Some, None, refl}
use Rattle.bmx_types.specs.declared.numbers.Mode.{Mode}
use Rattle.bmx_types.specs.declared.numbers.Mode.TheVariants.{Read, Write}
use Rattle.bmx_token.specs.declared.parts.Ask.{Ask}
use Rattle.bmx_token.specs.declared.parts.Part.{Part}
use Rattle.bmx_token.specs.declared.answers.Acquire.TheVariants.{Held, Asks, Waits, Refused}
use Rattle.bmx_token.specs.declared.answers.Release.TheVariants.{Answers}
use Rattle.bmx_token.specs.declared.answers.Served.TheVariants.{Idle, Ready, Read as Reads, Revokes, Moves}
use Rattle.bmx_token.specs.declared.answers.Requested.TheVariants.{Forward, Stray}
use Rattle.bmx_token.specs.declared.answers.Revoked.TheVariants.{Now, AtRelease}
use Rattle.bmx_token.specs.Nodes.{nodes_with, nodes_without}
use Rattle.bmx_token.specs.Tokens.{owner_part, child_part, acquire, release, serve, request, granted, inval, ack}

-- a request
abbrev ask : ℕ → Mode → Ask
ask asker mode = record { asker = asker; mode = mode }

-- a node goes to its place, and once
a_node_goes_to_its_place : nodes_with 3 (1 ∷ 4 ∷ []) ≡ 1 ∷ 3 ∷ 4 ∷ []
a_node_goes_to_its_place = refl

a_node_stands_once : nodes_with 4 (1 ∷ 4 ∷ []) ≡ 1 ∷ 4 ∷ []
a_node_stands_once = refl

a_node_leaves : nodes_without 1 (1 ∷ 4 ∷ []) ≡ 4 ∷ []
a_node_leaves = refl

-- ## node 1 reads an object of node 0: it asks, waits, is granted, holds

abbrev asked : Part
asked = (acquire 1 (child_part 0) Read false).0

abbrev let_read : Part
let_read = (granted asked 0 Read).0

reading_asks_the_parent : acquire 1 (child_part 0) Read false ≡ (asked, Asks 0)
reading_asks_the_parent = refl

then_it_waits : acquire 1 asked Read false ≡ (asked, Waits)
then_it_waits = refl

a_write_is_refused_meanwhile : acquire 1 asked Write false ≡ (asked, Refused)
a_write_is_refused_meanwhile = refl

then_it_is_granted : (granted asked 0 Read).1 ≡ true
then_it_is_granted = refl

a_grant_that_nobody_wants_is_stray : granted (child_part 0) 0 Read ≡ (child_part 0, false)
a_grant_that_nobody_wants_is_stray = refl

a_second_grant_is_stray : granted let_read 0 Read ≡ (let_read, false)
a_second_grant_is_stray = refl

then_it_holds : acquire 1 let_read Read true ≡ (record (child_part 0) { held = Some Read }, Held)
then_it_holds = refl

-- ## node 0 owns, nodes 1 and 2 read, and node 0 wants to write

abbrev read_by_two : Part
read_by_two = record owner_part { readers = 1 ∷ 2 ∷ [] }

abbrev wanting : Part
wanting = (acquire 0 read_by_two Write true).0

abbrev revoking : Part
revoking = (serve 0 wanting).0

abbrev read_by_one : Part
read_by_one = (ack revoking 1).0

abbrev read_by_none : Part
read_by_none = (ack read_by_one 2).0

abbrev write_ready : Part
write_ready = (serve 0 read_by_none).0

the_write_waits : acquire 0 read_by_two Write true ≡ (record read_by_two { want = Some Write; queue = ask 0 Write ∷ [] }, Waits)
the_write_waits = refl

both_are_told : serve 0 wanting ≡ (record wanting { waiting = 1 ∷ 2 ∷ [] }, Revokes (1 ∷ 2 ∷ []))
both_are_told = refl

nobody_is_told_twice : serve 0 revoking ≡ (revoking, Idle)
nobody_is_told_twice = refl

the_first_answers : ack revoking 1 ≡ (record revoking { waiting = 2 ∷ []; readers = 2 ∷ [] }, true)
the_first_answers = refl

a_second_answer_is_stray : ack read_by_one 1 ≡ (read_by_one, false)
a_second_answer_is_stray = refl

one_reader_holds_it_off : serve 0 read_by_one ≡ (read_by_one, Idle)
one_reader_holds_it_off = refl

then_the_write_is_ready : serve 0 read_by_none ≡ (record owner_part { want = Some Write; ready = true }, Ready)
then_the_write_is_ready = refl

then_it_is_held : acquire 0 write_ready Write true ≡ (record owner_part { held = Some Write }, Held)
then_it_is_held = refl

-- ## node 0 owns, and nodes 2, 1 and 3 have asked

abbrev queue_of_three : List Ask
queue_of_three = ask 2 Write ∷ ask 1 Read ∷ ask 3 Write ∷ []

abbrev asked_by_three : Part
asked_by_three = (request 0 (request 0 (request 0 owner_part 2 Write).0 1 Read).0 3 Write).0

they_queue_in_order : asked_by_three ≡ record owner_part { queue = queue_of_three }
they_queue_in_order = refl

ownership_goes_to_the_head_with_the_rest :
    serve 0 asked_by_three ≡ (child_part 2, Moves 2 (ask 1 Read ∷ ask 3 Write ∷ []))
ownership_goes_to_the_head_with_the_rest = refl

later_requests_go_after_it : request 0 (child_part 2) 3 Read ≡ (child_part 2, Forward 2)
later_requests_go_after_it = refl

an_owner_asks_nobody : request 0 owner_part 0 Read ≡ (owner_part, Stray)
an_owner_asks_nobody = refl

the_grant_makes_an_owner :
    granted (acquire 2 (child_part 0) Write false).0 0 Write ≡ (record owner_part { want = Some Write; ready = true }, true)
the_grant_makes_an_owner = refl

-- ## what is held here holds the others off

a_read_waits_for_a_write :
    let held = record owner_part { held = Some Write; queue = ask 1 Read ∷ [] } in serve 0 held ≡ (held, Idle)
a_read_waits_for_a_write = refl

a_read_goes_beside_a_read :
    let held = record owner_part { held = Some Read; queue = ask 1 Read ∷ [] } in
    serve 0 held ≡ (record held { queue = []; readers = 1 ∷ [] }, Reads 1)
a_read_goes_beside_a_read = refl

a_write_waits_for_a_read_here :
    let held = record owner_part { held = Some Read; queue = ask 1 Write ∷ [] } in serve 0 held ≡ (held, Idle)
a_write_waits_for_a_read_here = refl

-- ## node 1 has a copy, and node 0 takes it back

a_copy_at_rest_goes_at_once : inval (child_part 0) 0 true ≡ (child_part 0, Some Now)
a_copy_at_rest_goes_at_once = refl

a_held_copy_stays :
    let held = record (child_part 0) { held = Some Read } in
    inval held 0 true ≡ (record held { due = Some 0 }, Some AtRelease)
a_held_copy_stays = refl

the_release_answers :
    release (record (child_part 0) { held = Some Read; due = Some 0 }) ≡ (child_part 0, Answers 0)
the_release_answers = refl

an_owner_is_not_invalidated : inval owner_part 1 true ≡ (owner_part, None)
an_owner_is_not_invalidated = refl
