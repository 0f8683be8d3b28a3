use Rattle.std.proofs.Common.{rules, ◌≡◌, ℕ, ◌<◌, ◌^◌, ◌||◌, Bool, false, arith, sym, ◌∙◌, ap}
use Rattle.bmx_protocol.specs.Nodes.{Setting}
use Rattle.bmx_protocol.specs.Rules.{infos}
use Rattle.bmx_protocol.specs.Strays.{is_bad_letter, some_clash}
use Rattle.bmx_node.specs.Seen.{state_of, places_of}
use Rattle.bmx_node.proofs.Passed.{setting_of, setting_suits, clash_is, letter_small, letter_can, letter_next}
use Rattle.bmx_node.proofs.holdings.Holdings.is_stray.Goals as goal

pub clashes-requires : goal.clashes-requires
clashes-requires c =
    let h = c.args.self.now in
    let st : Setting = setting_of h in
    letter_small h c.args.from c.args.letter.now st (sym (c.is_bad.ensures st (setting_suits h)) ∙ c.if-is_bad.false)

pub returns-else-is_bad-clause-is : goal.returns-else-is_bad-clause-is
returns-else-is_bad-clause-is c st suits =
    let h = c.args.self.now in
    let letter = c.args.letter.now in
    let good : is_bad_letter st h.me (state_of h) c.args.from letter ≡ false = sym (c.is_bad.ensures st suits) ∙ c.if-is_bad.false in
    clash_is h c.args.from letter.msg c.clashes.result c.requires c.clashes.ensures
    ∙ sym (ap (λ (b : Bool). b || some_clash h.me c.args.from (state_of h).known (places_of h) (infos letter.msg)) good)

pub returns-else-is_bad-clause-can : goal.returns-else-is_bad-clause-can
returns-else-is_bad-clause-can c st suits none =
    let h = c.args.self.now in
    let letter = c.args.letter.now in
    letter_can h c.args.from letter st (sym (c.is_bad.ensures st suits) ∙ c.if-is_bad.false) (sym (clash_is h c.args.from letter.msg c.clashes.result c.requires c.clashes.ensures) ∙ none)

pub returns-else-is_bad-clause-next : goal.returns-else-is_bad-clause-next
returns-else-is_bad-clause-next c st suits none =
    let letter = c.args.letter.now in
    let below : letter.seq < 2 ^ 64 = first_of (search rules, omega arith, grind arith) in
    (letter_next c.args.self.now c.args.from letter st (sym (c.is_bad.ensures st suits) ∙ c.if-is_bad.false), below)
