use Rattle.std.proofs.Common.{◌≡◌, if◌then◌else◌, IfOk, sym, ◌∙◌, subst}
use Rattle.std.proofs.lemmas.Result.{IfOk-weaker}
use Rattle.bmx_protocol.specs.declared.inputs.Input.{Input}
use Rattle.bmx_protocol.specs.declared.inputs.Input.TheVariants as input
use Rattle.bmx_protocol.specs.declared.inputs.NodeAnswer.TheVariants as answer
use Rattle.bmx_protocol.specs.declared.inputs.Done.{Done}
use Rattle.bmx_protocol.specs.Nodes.{Setting}
use Rattle.bmx_protocol.specs.Rules.{do_rule}
use Rattle.bmx_protocol.specs.Steps.{is_nil, made_places}
use Rattle.bmx_token.specs.Transitions.{Serves}
use Rattle.bmx_memory.specs.Shown.{shown}
use Rattle.bmx_node.specs.Seen.{state_of, places_of, node_of, Suits}
use Rattle.bmx_node.specs.Inside.Reacting.{Reacts, Does, IsReaction, lies_at, lacks_room, operation_on}
use Rattle.bmx_node.specs.Inside.Taking.{Took}
use Rattle.bmx_node.proofs.Stepping.{some_setting, both, command_reacts, serve_reacts, stray_reacts, take_reacts}
use Rattle.bmx_node.proofs.holdings.Holdings.react.Goals as goal

pub returns-then-is_stray-clause-reacts : goal.returns-then-is_stray-clause-reacts
returns-then-is_stray-clause-reacts c st suits =
    let h = c.args.self.now in
    subst (λ (i : Input). IsReaction st c.args.stamp h i c.tell.result h) (sym c.in-Take.is)
    (subst (λ (d : Done). IsReaction st c.args.stamp h (input.Take c.in-Take.from c.in-Take.letter) d h) (sym c.tell.ensures)
    (stray_reacts st c.args.stamp h c.in-Take.from c.in-Take.letter (sym (c.is_stray.ensures.is st suits) ∙ c.if-is_stray.true)))

pub take-requires-clause-can : goal.take-requires-clause-can
take-requires-clause-can c =
    let found : (st : Setting) × Suits st c.args.self.now = some_setting c.args.self.now in
    c.is_stray.ensures.can found.0 found.1 c.if-is_stray.false

pub take-requires-clause-next : goal.take-requires-clause-next
take-requires-clause-next c =
    let found : (st : Setting) × Suits st c.args.self.now = some_setting c.args.self.now in
    c.is_stray.ensures.next found.0 found.1 c.if-is_stray.false

pub returns-in-Do-clause-reacts : goal.returns-in-Do-clause-reacts
returns-in-Do-clause-reacts c st suits =
    let old = c.args.self.now in
    let new = c.command.new.self in
    let told = c.in-Do.command in
    subst (λ (i : Input). IfOk c.command.result (λ (d : Done). IsReaction st c.args.stamp old i d new)) (sym c.in-Do.is)
    (both c.command.result
    (λ (d : Done). Reacts c.args.stamp (state_of old) (do_rule old.me (state_of old) (lacks_room (shown old.memory) told) (lies_at old) told) d (state_of new))
    (λ (d : Done). places_of new ≡ (if is_nil d.answer then made_places old.me (node_of old) told else places_of old))
    (λ (d : Done). IsReaction st c.args.stamp old (input.Do told) d new)
    (λ d reacts places. command_reacts st c.args.stamp old new told d suits reacts places)
    c.command.ensures.reacts c.command.ensures.places)

pub returns-in-Serve-clause-reacts : goal.returns-in-Serve-clause-reacts
returns-in-Serve-clause-reacts c st suits =
    let old = c.args.self.now in
    let new = c.serve.new.self in
    let name = c.in-Serve.name in
    subst (λ (i : Input). IfOk c.serve.result (λ (d : Done). IsReaction st c.args.stamp old i d new)) (sym c.in-Serve.is)
    (IfOk-weaker c.serve.result
    (λ (d : Done). Does c.args.stamp old (operation_on old Serves answer.Idle name) d new)
    (λ (d : Done). IsReaction st c.args.stamp old (input.Serve name) d new)
    (λ d does. serve_reacts st c.args.stamp old new name d does)
    c.serve.ensures.does)

pub returns-else-is_stray-clause-reacts : goal.returns-else-is_stray-clause-reacts
returns-else-is_stray-clause-reacts c st suits =
    let old = c.args.self.now in
    let new = c.take.new.self in
    let from = c.in-Take.from in
    let letter = c.in-Take.letter in
    subst (λ (i : Input). IfOk c.take.result (λ (d : Done). IsReaction st c.args.stamp old i d new)) (sym c.in-Take.is)
    (IfOk-weaker c.take.result
    (λ (d : Done). Took c.args.stamp old from letter.seq letter.msg d new)
    (λ (d : Done). IsReaction st c.args.stamp old (input.Take from letter) d new)
    (λ d took. take_reacts st c.args.stamp old new from letter d (sym (c.is_stray.ensures.is st suits) ∙ c.if-is_stray.false) took)
    c.take.ensures.takes)
