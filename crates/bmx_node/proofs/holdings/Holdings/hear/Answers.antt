use Rattle.std.proofs.Common.{◌≡◌, ℕ, Bool, true, false, not, Option, Some, None, IsSome, is_some, refl, sym, ◌∙◌, ap}
use Rattle.std.proofs.lemmas.Bool.{false≢true}
use Rattle.bmx_types.specs.Updates.{put}
use Rattle.bmx_token.specs.declared.parts.Part.{Part}
use Rattle.bmx_token.specs.Tokens.{child_part}
use Rattle.bmx_tokens.specs.Tables.{part_of}
use Rattle.bmx_node.proofs.Hearing.{can_few, can_fit, can_past, hears_places, hears_frame, known_state, known_keeps, added_state, added_keeps}
use Rattle.bmx_node.proofs.holdings.Holdings.hear.Goals as goal

was_none : {A : Type 0} (o : Option A) {b : Bool} → is_some o ≡ b → not b ≡ true → o ≡ None
was_none None same new = refl
was_none (Some x) same new = absurd (false≢true (ap not same ∙ new))

was_there : {A : Type 0} (o : Option A) {b : Bool} → is_some o ≡ b → not b ≡ false → IsSome o
was_there None same new = absurd (false≢true (sym (ap not same ∙ new)))
was_there (Some x) same new = refl

pub hear-new-requires-clause-few : goal.hear-new-requires-clause-few
hear-new-requires-clause-few c = can_few c.args.self.now c.args.from c.args.info.now c.requires.can

pub hear-new-requires-clause-fits : goal.hear-new-requires-clause-fits
hear-new-requires-clause-fits c = can_fit c.args.self.now c.args.from c.args.info.now c.requires.keeps c.requires.can

pub returns-then-new-clause-state : goal.returns-then-new-clause-state
returns-then-new-clause-state c =
    let h = c.args.self.now in
    let none : part_of h.tokens c.args.info.now.name ≡ None = was_none (part_of h.tokens c.args.info.now.name) (c.requires.keeps.1.agree.same c.args.info.now.name) (sym c.hear-new.ensures.new ∙ c.if-new.true) in
    added_state h c.hear-new.new.self c.args.from c.args.info.now c.requires.keeps c.hear-new.ensures.shown c.add.new.self none
    (c.add.ensures.part ∙ ap (λ (p : Part). put (part_of h.tokens) c.args.info.now.name (Some p)) c.child.ensures) c.add.ensures.me

pub returns-then-new-clause-places : goal.returns-then-new-clause-places
returns-then-new-clause-places c = hears_places c.args.self.now c.hear-new.new.self c.args.from c.args.info.now c.requires.keeps c.hear-new.ensures.shown c.add.new.self

pub returns-then-new-clause-keeps : goal.returns-then-new-clause-keeps
returns-then-new-clause-keeps c but keeps =
    let h = c.args.self.now in
    let none : part_of h.tokens c.args.info.now.name ≡ None = was_none (part_of h.tokens c.args.info.now.name) (c.requires.keeps.1.agree.same c.args.info.now.name) (sym c.hear-new.ensures.new ∙ c.if-new.true) in
    added_keeps h c.hear-new.new.self c.args.from c.args.info.now c.requires.keeps c.hear-new.ensures.shown c.add.new.self none
    (c.add.ensures.part ∙ ap (λ (p : Part). put (part_of h.tokens) c.args.info.now.name (Some p)) c.child.ensures) c.add.ensures.me
    (can_past h c.args.from c.args.info.now c.requires.can) but keeps

pub returns-then-new-clause-frame : goal.returns-then-new-clause-frame
returns-then-new-clause-frame c = hears_frame c.args.self.now c.hear-new.new.self c.args.from c.args.info.now c.requires.keeps c.hear-new.ensures.shown c.add.new.self

pub returns-else-new-clause-state : goal.returns-else-new-clause-state
returns-else-new-clause-state c =
    let h = c.args.self.now in
    let there : IsSome (part_of h.tokens c.args.info.now.name) = was_there (part_of h.tokens c.args.info.now.name) (c.requires.keeps.1.agree.same c.args.info.now.name) (sym c.hear-new.ensures.new ∙ c.if-new.false) in
    known_state h c.hear-new.new.self c.args.from c.args.info.now c.requires.keeps c.hear-new.ensures.shown there

pub returns-else-new-clause-places : goal.returns-else-new-clause-places
returns-else-new-clause-places c = hears_places c.args.self.now c.hear-new.new.self c.args.from c.args.info.now c.requires.keeps c.hear-new.ensures.shown c.args.self.now.tokens

pub returns-else-new-clause-keeps : goal.returns-else-new-clause-keeps
returns-else-new-clause-keeps c but keeps =
    let h = c.args.self.now in
    let there : IsSome (part_of h.tokens c.args.info.now.name) = was_there (part_of h.tokens c.args.info.now.name) (c.requires.keeps.1.agree.same c.args.info.now.name) (sym c.hear-new.ensures.new ∙ c.if-new.false) in
    known_keeps h c.hear-new.new.self c.args.from c.args.info.now c.requires.keeps c.hear-new.ensures.shown there but keeps

pub returns-else-new-clause-frame : goal.returns-else-new-clause-frame
returns-else-new-clause-frame c = hears_frame c.args.self.now c.hear-new.new.self c.args.from c.args.info.now c.requires.keeps c.hear-new.ensures.shown c.args.self.now.tokens
