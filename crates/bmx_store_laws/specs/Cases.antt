-- Runs worked by hand, seen for one name, each closed by computing.
use Rattle.std.specs.Prelude.{◌≡◌, ℕ, true, false, [], ◌∷◌, Some, None, refl}
use Rattle.std.specs.Option.{option_map}
use Rattle.bmx_types.specs.declared.commands.Command.TheVariants as command
use Rattle.bmx_types.specs.declared.numbers.Mode.TheVariants as mode
use Rattle.bmx_protocol.specs.Histories.{in_flight}
use Rattle.bmx_protocol.specs.Worlds.{World, world_of}
use Rattle.bmx_protocol.specs.Cases.{Play, Do, Serve, Next, played, one_bunch, anchor, r0, told_of_the_object}
use Rattle.bmx_token.specs.Transitions.{Share, Grants, made_share, heard_share}
use Rattle.bmx_token_model.specs.Machine.{Object, no_numbers}
use Rattle.bmx_store_laws.specs.Inside.Seen.{seen, first_world}
use Rattle.bmx_store_laws.specs.Laws.{handovers_of}

abbrev seen_in : Play → ℕ → Object
seen_in p x = seen x (world_of p.nodes p.past)

-- 0.2 is stored in 0.1, and a grant of 0.1 is in flight to node 1
abbrev granted_the_anchor : Play
granted_the_anchor = played (one_bunch 2) (
    Do 0 (command.New 0 0 1) ∷ Do 0 (command.Write anchor) ∷ Do 0 (command.Set anchor 0 r0) ∷ Do 0 (command.Done anchor)
    ∷ Do 1 (command.Read anchor) ∷ Next 1 0 ∷ Serve 0 1 ∷ [])

-- of 0.1 the letter says that it is granted, of 0.2 that a field refers to it, and nothing of 0.3
of_the_anchor : (seen_in granted_the_anchor 1).channel 0 1 ≡ record { seq = 1; note = Some (Grants mode.Read); tells = false } ∷ []
of_the_anchor = refl

of_the_object : (seen_in granted_the_anchor 2).channel 0 1 ≡ record { seq = 1; note = None; tells = true } ∷ []
of_the_object = refl

of_another : (seen_in granted_the_anchor 3).channel 0 1 ≡ record { seq = 1; note = None; tells = false } ∷ []
of_another = refl

-- at first node 0 has a record that the anchor is known to node 1, and no letter gave it
the_first_record : (seen 1 (first_world (one_bunch 2))).entering 0 1 ≡ Some no_numbers
the_first_record = refl

none_elsewhere : (seen 1 (first_world (one_bunch 2))).entering 1 0 ≡ None
none_elsewhere = refl

none_of_an_object : (seen 2 (first_world (one_bunch 2))).entering 0 1 ≡ None
none_of_an_object = refl

-- both are given to node 1 by letter 1
the_anchor_is_given : (seen_in granted_the_anchor 1).entering 0 1 ≡ Some (record { sent = 1; got = 0 })
the_anchor_is_given = refl

the_object_is_given : (seen_in granted_the_anchor 2).entering 0 1 ≡ Some (record { sent = 1; got = 0 })
the_object_is_given = refl

-- a grant to read is in flight to node 1, and node 0 has it among the readers of the anchor, not of the object
the_reader_is_listed : option_map (λ (h : Share). h.part.readers) ((seen_in granted_the_anchor 1).holds 0) ≡ Some (1 ∷ [])
the_reader_is_listed = refl

no_reader_of_the_object : option_map (λ (h : Share). h.part.readers) ((seen_in granted_the_anchor 2).holds 0) ≡ Some []
no_reader_of_the_object = refl

-- node 0 has what it made, and node 1 has heard of it once it has taken the grant
its_maker_has_it : (seen_in told_of_the_object 2).holds 0 ≡ Some made_share
its_maker_has_it = refl

not_heard_of : (seen_in granted_the_anchor 2).holds 1 ≡ None
not_heard_of = refl

heard_of : (seen_in told_of_the_object 2).holds 1 ≡ Some (heard_share 0)
heard_of = refl

no_letter_left : (seen_in told_of_the_object 2).channel 0 1 ≡ []
no_letter_left = refl

-- ## ownership in flight

-- node 1 asks for the anchor to write it, and node 0 hands it over
abbrev handed_the_anchor : Play
handed_the_anchor = played (one_bunch 2) (Do 1 (command.Write anchor) ∷ Next 1 0 ∷ Serve 0 1 ∷ [])

abbrev handed_world : World
handed_world = world_of handed_the_anchor.nodes handed_the_anchor.past

one_handover : handovers_of 1 (handed_world.channel 0 1) ≡ 1
one_handover = refl

no_other : handovers_of 2 (handed_world.channel 0 1) ≡ 0
no_other = refl

nobody_has_the_role : (seen 1 handed_world).holds 0 ≡ Some (heard_share 1)
nobody_has_the_role = refl

-- a grant to read hands nothing over
no_handover : handovers_of 1 (in_flight 0 1 granted_the_anchor.past) ≡ 0
no_handover = refl
