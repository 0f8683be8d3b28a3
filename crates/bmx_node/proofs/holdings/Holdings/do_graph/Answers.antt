use Rattle.std.proofs.Common.{◌≡◌, true, false, not, IsSome, refl, sym, ◌∙◌, ap, subst}
use Rattle.bmx_types.specs.declared.commands.Command.TheVariants as command
use Rattle.bmx_graph.specs.Step.{IsPossible}
use Rattle.bmx_graph.specs.declared.effects.Effect.TheVariants.{Nothing, Makes, Sets, Stores, Holds}
use Rattle.bmx_protocol.specs.Changes.{after_changes}
use Rattle.bmx_protocol.specs.Places.{with_made}
use Rattle.bmx_protocol.specs.Rules.{graph_changes, next_name}
use Rattle.bmx_protocol.specs.Steps.{is_nil}
use Rattle.bmx_memory.specs.Shown.{shown, value_of}
use Rattle.bmx_node.specs.declared.holdings.Holdings.{Holdings}
use Rattle.bmx_node.specs.Seen.{state_of, places_of, node_of}
use Rattle.bmx_node.specs.Inside.Graphs.{graph_of}
use Rattle.bmx_node.specs.Inside.Reacting.{lacks_room}
use Rattle.bmx_node.proofs.Effects.{IsKnown, after_known, stored_there, Decided, quiet_room, quiet_places, made_new, Usable, done_reacts, has_room, one_of, other_of, made_where, full_reacts}
use Rattle.bmx_node.proofs.Storing.{set_state, set_places, set_frame, store_state, store_places, store_frame}
use Rattle.bmx_node.proofs.holdings.Holdings.do_graph.Goals as goal

pub set_register-requires-clause-known : goal.set_register-requires-clause-known
set_register-requires-clause-known c =
    let h : Holdings = c.args.self.now in
    subst (IsKnown (shown h.memory)) (sym c.decide-answer.ensures.effect ∙ c.in-Sets.is)
    (after_known h c.args.command.now c.decide-answer.result.answer c.requires.keeps c.replica-known.ensures.known c.requires.command)

pub write_field-requires-clause-field : goal.write_field-requires-clause-field
write_field-requires-clause-field c = stored_there c.args.self.now c.in-Stores.name c.in-Stores.index (subst (IsPossible (graph_of c.args.self.now)) c.in-Stores.is c.decide-answer.ensures.possible)

pub write_field-requires-clause-known : goal.write_field-requires-clause-known
write_field-requires-clause-known c =
    let h : Holdings = c.args.self.now in
    subst (IsKnown (shown h.memory)) (sym c.decide-answer.ensures.effect ∙ c.in-Stores.is)
    (after_known h c.args.command.now c.decide-answer.result.answer c.requires.keeps c.replica-known.ensures.known c.requires.command)

pub returns-then-branch-clause-reacts : goal.returns-then-branch-clause-reacts
returns-then-branch-clause-reacts c stamp =
    let h : Holdings = c.args.self.now in
    let given : Usable h c.args.command.now = record { keeps = c.requires.keeps; all = c.replica-known.ensures.known; fits = c.requires.command; none = c.requires.graph } in
    let decided : Decided (graph_of h) h.me c.args.command.now c.decide-answer.result.answer (Makes c.in-Makes.register c.in-Makes.bunch c.in-Makes.size) = record { answer = c.decide-answer.ensures.answer; effect = sym c.in-Makes.is ∙ c.decide-answer.ensures.effect } in
    let new : c.args.command.now ≡ command.New c.in-Makes.register c.in-Makes.bunch c.in-Makes.size = made_new (graph_of h) h.me c.args.command.now c.decide-answer.result.answer c.in-Makes.register c.in-Makes.bunch c.in-Makes.size decided in
    let room : lacks_room (shown h.memory) c.args.command.now ≡ false = has_room h c.args.command.now c.in-Makes.register c.in-Makes.bunch c.in-Makes.size c.in_ok-make-in-Makes.field-0 new c.in_ok-make-in-Makes.ensures.fits ∙ ap not c.if-branch.true in
    done_reacts stamp h c.args.command.now c.decide-answer.result.answer (Makes c.in-Makes.register c.in-Makes.bunch c.in-Makes.size) c.as_node.result c.tell.result (state_of c.make.new.self) given decided room c.as_node.ensures c.tell.ensures
    (one_of c.in_ok-make-in-Makes.field-0 (after_changes (state_of h) (graph_changes h.me (state_of h) (Makes c.in-Makes.register c.in-Makes.bunch c.in-Makes.size))) (state_of h) (state_of c.make.new.self) c.in_ok-make-in-Makes.ensures.state c.if-branch.true)

pub returns-then-branch-clause-places : goal.returns-then-branch-clause-places
returns-then-branch-clause-places c =
    let h : Holdings = c.args.self.now in
    let decided : Decided (graph_of h) h.me c.args.command.now c.decide-answer.result.answer (Makes c.in-Makes.register c.in-Makes.bunch c.in-Makes.size) = record { answer = c.decide-answer.ensures.answer; effect = sym c.in-Makes.is ∙ c.decide-answer.ensures.effect } in
    let new : c.args.command.now ≡ command.New c.in-Makes.register c.in-Makes.bunch c.in-Makes.size = made_new (graph_of h) h.me c.args.command.now c.decide-answer.result.answer c.in-Makes.register c.in-Makes.bunch c.in-Makes.size decided in
    made_where h c.args.command.now c.decide-answer.result.answer c.in-Makes.register c.in-Makes.bunch c.in-Makes.size c.as_node.result c.tell.result (places_of c.make.new.self) new c.decide-answer.ensures.answer c.as_node.ensures c.tell.ensures
    (one_of c.in_ok-make-in-Makes.field-0 (with_made h.me (places_of h) (next_name h.me (state_of h)) c.in-Makes.bunch c.in-Makes.size) (places_of h) (places_of c.make.new.self) c.in_ok-make-in-Makes.ensures.places c.if-branch.true)

pub returns-else-branch-clause-reacts : goal.returns-else-branch-clause-reacts
returns-else-branch-clause-reacts c stamp =
    let h : Holdings = c.args.self.now in
    let decided : Decided (graph_of h) h.me c.args.command.now c.decide-answer.result.answer (Makes c.in-Makes.register c.in-Makes.bunch c.in-Makes.size) = record { answer = c.decide-answer.ensures.answer; effect = sym c.in-Makes.is ∙ c.decide-answer.ensures.effect } in
    let new : c.args.command.now ≡ command.New c.in-Makes.register c.in-Makes.bunch c.in-Makes.size = made_new (graph_of h) h.me c.args.command.now c.decide-answer.result.answer c.in-Makes.register c.in-Makes.bunch c.in-Makes.size decided in
    let full : lacks_room (shown h.memory) c.args.command.now ≡ true = has_room h c.args.command.now c.in-Makes.register c.in-Makes.bunch c.in-Makes.size c.in_ok-make-in-Makes.field-0 new c.in_ok-make-in-Makes.ensures.fits ∙ ap not c.if-branch.false in
    full_reacts stamp h c.args.command.now c.in-Makes.register c.in-Makes.bunch c.in-Makes.size c.refuse.result (state_of c.make.new.self) new full c.refuse.ensures
    (other_of c.in_ok-make-in-Makes.field-0 (after_changes (state_of h) (graph_changes h.me (state_of h) (Makes c.in-Makes.register c.in-Makes.bunch c.in-Makes.size))) (state_of h) (state_of c.make.new.self) c.in_ok-make-in-Makes.ensures.state c.if-branch.false)

pub returns-in-Sets-clause-reacts : goal.returns-in-Sets-clause-reacts
returns-in-Sets-clause-reacts c stamp =
    let h : Holdings = c.args.self.now in
    let given : Usable h c.args.command.now = record { keeps = c.requires.keeps; all = c.replica-known.ensures.known; fits = c.requires.command; none = c.requires.graph } in
    let decided : Decided (graph_of h) h.me c.args.command.now c.decide-answer.result.answer (Sets c.in-Sets.register c.in-Sets.value) = record { answer = c.decide-answer.ensures.answer; effect = sym c.in-Sets.is ∙ c.decide-answer.ensures.effect } in
    done_reacts stamp h c.args.command.now c.decide-answer.result.answer (Sets c.in-Sets.register c.in-Sets.value) c.as_node-in-Sets.result c.tell-in-Sets.result (state_of (record h { memory = c.set_register.new.self })) given decided
    (quiet_room (shown h.memory) (graph_of h) h.me c.args.command.now c.decide-answer.result.answer (Sets c.in-Sets.register c.in-Sets.value) decided refl) c.as_node-in-Sets.ensures c.tell-in-Sets.ensures
    (set_state h c.set_register.new.self c.in-Sets.register c.in-Sets.value c.set_register.ensures.shown)

pub returns-in-Sets-clause-places : goal.returns-in-Sets-clause-places
returns-in-Sets-clause-places c =
    let h : Holdings = c.args.self.now in
    let decided : Decided (graph_of h) h.me c.args.command.now c.decide-answer.result.answer (Sets c.in-Sets.register c.in-Sets.value) = record { answer = c.decide-answer.ensures.answer; effect = sym c.in-Sets.is ∙ c.decide-answer.ensures.effect } in
    set_places h c.set_register.new.self c.in-Sets.register c.in-Sets.value c.set_register.ensures.shown
    ∙ quiet_places (graph_of h) h.me h.me (node_of h) (is_nil c.tell-in-Sets.result.answer) c.args.command.now c.decide-answer.result.answer (Sets c.in-Sets.register c.in-Sets.value) decided refl

pub returns-in-Sets-clause-frame : goal.returns-in-Sets-clause-frame
returns-in-Sets-clause-frame c =
    let h : Holdings = c.args.self.now in
    set_frame h c.set_register.new.self c.in-Sets.register c.in-Sets.value c.set_register.ensures.shown

pub returns-in-Stores-clause-reacts : goal.returns-in-Stores-clause-reacts
returns-in-Stores-clause-reacts c stamp =
    let h : Holdings = c.args.self.now in
    let given : Usable h c.args.command.now = record { keeps = c.requires.keeps; all = c.replica-known.ensures.known; fits = c.requires.command; none = c.requires.graph } in
    let decided : Decided (graph_of h) h.me c.args.command.now c.decide-answer.result.answer (Stores c.in-Stores.name c.in-Stores.index c.in-Stores.value) = record { answer = c.decide-answer.ensures.answer; effect = sym c.in-Stores.is ∙ c.decide-answer.ensures.effect } in
    let there : IsSome (value_of (shown h.memory) c.in-Stores.name c.in-Stores.index) = stored_there h c.in-Stores.name c.in-Stores.index (subst (IsPossible (graph_of h)) c.in-Stores.is c.decide-answer.ensures.possible) in
    done_reacts stamp h c.args.command.now c.decide-answer.result.answer (Stores c.in-Stores.name c.in-Stores.index c.in-Stores.value) c.as_node-in-Stores.result c.tell-in-Stores.result (state_of (record h { memory = c.write_field.new.self })) given decided
    (quiet_room (shown h.memory) (graph_of h) h.me c.args.command.now c.decide-answer.result.answer (Stores c.in-Stores.name c.in-Stores.index c.in-Stores.value) decided refl) c.as_node-in-Stores.ensures c.tell-in-Stores.ensures
    (store_state h c.write_field.new.self c.in-Stores.name c.in-Stores.index c.in-Stores.value c.requires.keeps there c.write_field.ensures.shown)

pub returns-in-Stores-clause-places : goal.returns-in-Stores-clause-places
returns-in-Stores-clause-places c =
    let h : Holdings = c.args.self.now in
    let decided : Decided (graph_of h) h.me c.args.command.now c.decide-answer.result.answer (Stores c.in-Stores.name c.in-Stores.index c.in-Stores.value) = record { answer = c.decide-answer.ensures.answer; effect = sym c.in-Stores.is ∙ c.decide-answer.ensures.effect } in
    let there : IsSome (value_of (shown h.memory) c.in-Stores.name c.in-Stores.index) = stored_there h c.in-Stores.name c.in-Stores.index (subst (IsPossible (graph_of h)) c.in-Stores.is c.decide-answer.ensures.possible) in
    store_places h c.write_field.new.self c.in-Stores.name c.in-Stores.index c.in-Stores.value c.requires.keeps there c.write_field.ensures.shown
    ∙ quiet_places (graph_of h) h.me h.me (node_of h) (is_nil c.tell-in-Stores.result.answer) c.args.command.now c.decide-answer.result.answer (Stores c.in-Stores.name c.in-Stores.index c.in-Stores.value) decided refl

pub returns-in-Stores-clause-frame : goal.returns-in-Stores-clause-frame
returns-in-Stores-clause-frame c =
    let h : Holdings = c.args.self.now in
    let there : IsSome (value_of (shown h.memory) c.in-Stores.name c.in-Stores.index) = stored_there h c.in-Stores.name c.in-Stores.index (subst (IsPossible (graph_of h)) c.in-Stores.is c.decide-answer.ensures.possible) in
    store_frame h c.write_field.new.self c.in-Stores.name c.in-Stores.index c.in-Stores.value c.requires.keeps there c.write_field.ensures.shown

pub returns-in-Nothing-clause-reacts : goal.returns-in-Nothing-clause-reacts
returns-in-Nothing-clause-reacts c stamp =
    let h : Holdings = c.args.self.now in
    let given : Usable h c.args.command.now = record { keeps = c.requires.keeps; all = c.replica-known.ensures.known; fits = c.requires.command; none = c.requires.graph } in
    let decided : Decided (graph_of h) h.me c.args.command.now c.decide-answer.result.answer (Nothing) = record { answer = c.decide-answer.ensures.answer; effect = sym c.in-Nothing.is ∙ c.decide-answer.ensures.effect } in
    done_reacts stamp h c.args.command.now c.decide-answer.result.answer (Nothing) c.as_node-in-Nothing.result c.tell-in-Nothing.result (state_of h) given decided
    (quiet_room (shown h.memory) (graph_of h) h.me c.args.command.now c.decide-answer.result.answer (Nothing) decided refl) c.as_node-in-Nothing.ensures c.tell-in-Nothing.ensures refl

pub returns-in-Holds-clause-reacts : goal.returns-in-Holds-clause-reacts
returns-in-Holds-clause-reacts c stamp =
    let h : Holdings = c.args.self.now in
    let given : Usable h c.args.command.now = record { keeps = c.requires.keeps; all = c.replica-known.ensures.known; fits = c.requires.command; none = c.requires.graph } in
    let decided : Decided (graph_of h) h.me c.args.command.now c.decide-answer.result.answer (Holds c.in-Holds.name c.in-Holds.hold) = record { answer = c.decide-answer.ensures.answer; effect = sym c.in-Holds.is ∙ c.decide-answer.ensures.effect } in
    done_reacts stamp h c.args.command.now c.decide-answer.result.answer (Holds c.in-Holds.name c.in-Holds.hold) c.as_node-in-Holds.result c.tell-in-Holds.result (state_of h) given decided
    (quiet_room (shown h.memory) (graph_of h) h.me c.args.command.now c.decide-answer.result.answer (Holds c.in-Holds.name c.in-Holds.hold) decided refl) c.as_node-in-Holds.ensures c.tell-in-Holds.ensures refl
