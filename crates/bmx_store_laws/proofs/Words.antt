-- The words of proofs about steps of a store and their histories, and the lemmas on numbers, lists, changes and runs that such
-- proofs cite, passed on by one module.
pub use Rattle.std.proofs.Common.{◌≡◌, ℕ, ℤ, refl, ap, sym, subst, ◌∙◌, Bool, true, false, cond, List, [], ◌∷◌, map, ◌<◌, arith, drop, length, zero, suc, ◌⊎◌, inl, inr, ◌+◌, ◌≤◌, ◌++◌, ◌≢◌, ◌^◌, append_assoc, length-append, ◌-◌, get_or, ◌*◌, length-set}
pub use Rattle.std.proofs.lemmas.Bool.{le-ltb, leb-true, ltb-true, ltb-false}
pub use Rattle.std.proofs.lemmas.Bool.Decides.{nat_tests}
pub use Rattle.std.proofs.lemmas.List.{append-nil, map-append, drop-append-le, drop-drop, map-set, length-map, length-replicate}
pub use Rattle.std.proofs.lemmas.List.Elements.{filter_map-append, Contains-append_cases, filter-append}
pub use Rattle.std.proofs.lemmas.List.Filters.{length-filter_both}
pub use Rattle.std.proofs.lemmas.List.Sums.{sum_by-append, sum_by-cons}
pub use Rattle.std.proofs.lemmas.Nat.{div-mul-add, mod-mul-add}
pub use Rattle.std.proofs.lemmas.Option.{slice_get_cases}
pub use Rattle.std.specs.List.{flat_map, cons_option, list_any}
pub use Rattle.std.specs.Option.{option_map, option_map_or, option_and_then}
pub use Rattle.std.specs.Prelude.{◌↔◌, Option, Some, None, is_some, unwrap_or, slice_get, replicate, ◌==◌, ◌&&◌, nat_lt, not, ◌||◌, nat_le, Contains, IsSome, IfSome, count_by, filter, slice_set, find, slice_index_or, filter_map}
pub use Rattle.bmx_types.specs.Openings.{IsOpening, bunches_of}
pub use Rattle.bmx_types.specs.Updates.{put, put_at}
pub use Rattle.bmx_types.specs.Words.{name_word, anchor_of, maker, count_of, address_word, home_of, segment_of, index_of}
pub use Rattle.bmx_types.specs.declared.addresses.Info.{Info}
pub use Rattle.bmx_types.specs.declared.addresses.Place.{Place}
pub use Rattle.bmx_types.specs.declared.commands.Command.{Command}
pub use Rattle.bmx_types.specs.declared.commands.Command.TheVariants as command
pub use Rattle.bmx_types.specs.declared.commands.Operand.{Operand}
pub use Rattle.bmx_types.specs.declared.commands.Operand.TheVariants.{Register, Anchor}
pub use Rattle.bmx_types.specs.declared.commands.Refusal.{Refusal}
pub use Rattle.bmx_types.specs.declared.commands.Refusal.TheVariants as refusal
pub use Rattle.bmx_types.specs.declared.numbers.Mode.{Mode}
pub use Rattle.bmx_types.specs.declared.numbers.Mode.TheVariants.{Read, Write}
pub use Rattle.bmx_types.specs.declared.openings.Birth.{Birth}
pub use Rattle.bmx_types.specs.declared.values.Val.{Val}
pub use Rattle.bmx_types.specs.declared.values.Val.TheVariants as val
pub use Rattle.bmx_msg.specs.Letters.{targets, given}
pub use Rattle.bmx_msg.specs.declared.letters.Field.{Field}
pub use Rattle.bmx_msg.specs.declared.letters.Field.TheVariants as msg_field
pub use Rattle.bmx_msg.specs.declared.letters.Letter.{Letter}
pub use Rattle.bmx_msg.specs.declared.letters.Msg.{Msg}
pub use Rattle.bmx_msg.specs.declared.letters.Msg.TheVariants.{ReadReq, WriteReq, ReadGrant, WriteGrant, Inval, InvAck}
pub use Rattle.bmx_owner.specs.Records.{blank, sent_by, got_by}
pub use Rattle.bmx_owner.specs.declared.entering.Record.{Record}
pub use Rattle.bmx_graph.proofs.Excluded.{is_excluded-none}
pub use Rattle.bmx_graph.specs.Inside.Parts.{is_excluded, excludes}
pub use Rattle.bmx_graph.specs.Reached
pub use Rattle.bmx_graph.specs.State.{State, fields_of, opening_state}
pub use Rattle.bmx_graph.specs.Step.{value_of, reference, target_of, same_value, is_writer, read_answer, write_answer, done_answer, set_at, set_answer, sum_of, add_to, add_at, add_answer, get_at, get_answer, answer_of, field_at, holding, storing, setting, raised_by, effect, changed, state_after, MayAnswer, IsAnswer, state_after_all, Act, IsRun, effect_after, other_writes, other_holds}
pub use Rattle.bmx_graph.specs.Step as graph_step
pub use Rattle.bmx_graph.specs.declared.answers.Answer.{Answer}
pub use Rattle.bmx_graph.specs.declared.answers.Answer.TheVariants as graph
pub use Rattle.bmx_graph.specs.declared.effects.Effect.{Effect}
pub use Rattle.bmx_graph.specs.declared.effects.Effect.TheVariants.{Nothing, Makes as MakesOne, Sets as SetsOne, Stores, Holds}
pub use Rattle.bmx_token.specs.Tokens.{is_write, revoke, serve_write, serve_head, serve_by, serve, take_wanted, want_read, want_write, acquire_by, release_by, request_by, granted_by, inval_by, ack_by, acquire, release}
pub use Rattle.bmx_token.specs.Transitions.{Share, Note, Asks, Grants, Send, Transition, Operation, Acquires, Releases, silently, saying, transition_of, can_serve, Serves, note_transition, same_mode, is_request_of, is_grant_of, is_served, Recalls, Returns, acquired, released, served, requested, grant_taken, recalled, returned, with_token, without_copy, send}
pub use Rattle.bmx_token.specs.declared.answers.Acquire.{Acquire}
pub use Rattle.bmx_token.specs.declared.answers.Acquire.TheVariants as acquire_is
pub use Rattle.bmx_token.specs.declared.answers.Release.{Release}
pub use Rattle.bmx_token.specs.declared.answers.Release.TheVariants as release_is
pub use Rattle.bmx_token.specs.declared.answers.Requested.{Requested}
pub use Rattle.bmx_token.specs.declared.answers.Revoked.{Revoked}
pub use Rattle.bmx_token.specs.declared.answers.Served.{Served}
pub use Rattle.bmx_token.specs.declared.answers.Served.TheVariants as served_is
pub use Rattle.bmx_token.specs.declared.parts.Ask.{Ask}
pub use Rattle.bmx_token.specs.declared.parts.Part.{Part}
pub use Rattle.bmx_token.specs.declared.parts.Role.{Role}
pub use Rattle.bmx_token.specs.declared.parts.Role.TheVariants.{Owner, Parent}
pub use Rattle.bmx_token_model.proofs.Requests.{IsAsking, IsRequested, requested_run}
pub use Rattle.bmx_token_model.proofs.Shared.{IsShared, shared_run}
pub use Rattle.bmx_token_model.proofs.Sound.{IsSound, IsSoundIf}
pub use Rattle.bmx_token_model.proofs.Stated.{gifts_are_recorded, each_owes_one_answer, nobody_asks_itself}
pub use Rattle.bmx_token_model.specs.Laws.{RecordsAreKept, is_owner, owned_at, queue_at, answers_owed, owes, is_due, waits_for, count_notes, is_recall, is_return, AnswersAreOwed, NoneIsStray, IsApart}
pub use Rattle.bmx_token_model.specs.Machine.{is_grant, Numbers, IsNowhere, hears, said_transition, letter_transition, Object, IsFirst, Run}
pub use Rattle.bmx_protocol.proofs.Basics.{eqb_same, put_same, some_same, none_some, Two, Same, Apart, two, put_apart, eqb_is, eqb_not, eqb_of, eqb_apart, put_at_row, put_at_else, Every, at_each, every_append}
pub use Rattle.bmx_protocol.proofs.Births.{In, Distinct, every_in, every_of, in_contains, found, numbered_above, in_bunches, of_bunches, all_bunches, distinct_bunches, learns, learns_in, distinct, ordered, known_first, anchors, anchors_of, known_told}
pub use Rattle.bmx_protocol.proofs.Changing.{after_append, Each, kept_by_each, each_append}
pub use Rattle.bmx_protocol.proofs.Prefixes.{joined, empty_is_legal, prefix_is_legal}
pub use Rattle.bmx_protocol.proofs.Replayed.{replay_is_determined}
pub use Rattle.bmx_protocol.specs.Cases.{Play, anchor, the_anchor, told_of_the_object, written_by_its_taker, told_at, one_bunch}
pub use Rattle.bmx_protocol.specs.Changes.{Knows, after_changes, with_step, Change, Sets, Hears, heard_of, after_change, Gets, heard, Gives, Issues, record_of}
pub use Rattle.bmx_protocol.specs.Histories.{is_wait, IsOperandOf, IsCommandOf, in_flight, waits_with, taken, letters_to, issued, arrived, IsNext, waits_after, IsAgain, IsInputOf, Fits, AreAfter, IsLegal, letter_from, Replays}
pub use Rattle.bmx_protocol.specs.Nodes.{Setting, NodeState, Known, fields_known, value_in, seen_graph, share_of, first_known, birth_of, is_anchor, owned_birth, heard_birth, field_of, with_field, first_entering}
pub use Rattle.bmx_protocol.specs.Places.{Places, is_full, Lives, Header, with_object, overlaps, any_below, is_in_the_way, is_barred, with_went, with_learnt, learn_at, with_all_learnt, differs, clashes_at, has_room, with_made, with_segment, with_room, with_placed, no_places, with_births, by_bunch, owner_places, told_place, with_told}
pub use Rattle.bmx_protocol.specs.Rules.{Draft, Reaction, refused, message, drafts_of, info_of, told_fields, grant_in, with_share, operation_answer, after_operation, operation_rule, next_name, new_object, graph_changes, answered, graph_rule, token_rule, knows, command_rule, about, only, name_in, note_in, copy_after, took, take_rule, stored, acquire_answer, release_answer, told_field, heard_field, infos, known_change, got_change, info_in}
pub use Rattle.bmx_protocol.specs.Runs.Programs.{CanServe}
pub use Rattle.bmx_protocol.specs.Runs.Turns.{is_ready, ready_at}
pub use Rattle.bmx_protocol.specs.Steps.{first_node, Node, command_in, rule, numbered, letters_of, sent_changes, closed, IsStep, is_taken, finds_full, done_of, letter_in, nowhere, changes_of, is_nil, made_places, MovesTo}
pub use Rattle.bmx_protocol.specs.Strays.{too_large, is_no_node, is_bad_msg, is_bad_letter, some_clash, clashes, is_no_name, is_bad_info, asker_in}
pub use Rattle.bmx_protocol.specs.Worlds.{world_of, IsCurrent, World, Sent, names_in, IsSomewhere, IsReached, HasOwned}
pub use Rattle.bmx_protocol.specs.declared.events.Event.{Event}
pub use Rattle.bmx_protocol.specs.declared.inputs.Done.{Done}
pub use Rattle.bmx_protocol.specs.declared.inputs.Input.{Input}
pub use Rattle.bmx_protocol.specs.declared.inputs.Input.TheVariants.{Do, Serve, Take}
pub use Rattle.bmx_protocol.specs.declared.inputs.NodeAnswer.{NodeAnswer}
pub use Rattle.bmx_protocol.specs.declared.inputs.NodeAnswer.TheVariants as answer
pub use Rattle.bmx_protocol.specs.declared.inputs.Sending.{Sending}
pub use Rattle.bmx_protocol.specs.declared.views.ViewField.{ViewField}
pub use Rattle.bmx_protocol.specs.declared.views.ViewField.TheVariants as field
pub use Rattle.bmx_store_laws.proofs.Applied.{laws_apply}
pub use Rattle.bmx_store_laws.proofs.Chains.{nodes_of}
pub use Rattle.bmx_store_laws.proofs.Channels.{Channels, numbered_at, slice_drop, letters_by}
pub use Rattle.bmx_store_laws.proofs.Forms.{tested, some_or_none, some_is, either, at_each_number, put_each, heard_each, every_map, every_there, first_there, contains_drop, contains_map, flight_more, IsOneMore, along_history, step_state, step_letters, step_answer, step_leaves, taking_each, numbered_each, issued_to}
pub use Rattle.bmx_store_laws.proofs.Copies.{NoGrants, GrantsNothing, note_grants}
pub use Rattle.bmx_store_laws.proofs.Histories.{each_name, Came, came_after, first_letter, good_letter, maker_is, count_is, new_nowhere, replay_more}
pub use Rattle.bmx_store_laws.proofs.Histories as names
pub use Rattle.bmx_store_laws.proofs.Lifted.{write_excludes, one_seat, wants_stand_once, readers_are_listed_always, names_are_counted}
pub use Rattle.bmx_store_laws.proofs.Owners.{split_at, HandsAmong, among, one_if, moving_counted}
pub use Rattle.bmx_store_laws.proofs.Ruled.{HasNo, FreeOf}
pub use Rattle.bmx_store_laws.proofs.Sends.{IsLeft, letters_left, notes_give}
pub use Rattle.bmx_store_laws.proofs.Shares.{shares_changed, all_spared}
pub use Rattle.bmx_store_laws.specs.Inside.Seen.{seen_known, has_name, seen, seen_record, seen_message, seen_note, first_world}
pub use Rattle.bmx_store_laws.specs.Laws.{IsSeated, Spot, Asked, Queued, Granted, letters_about, times_at, StandsOnce, HasReader, IsCounted, handovers_of}
pub use Rattle.bmx_store_laws.proofs.Free.{IsFree, IsUnborn}
pub use Rattle.bmx_store_laws.proofs.Openings.{finds_birth}
pub use Rattle.bmx_store_laws.specs.Laws as seated
