use Rattle.std.proofs.Common.{◌≡◌, ℕ, refl, ap, ◌∙◌, subst, length, get_or, inl}
use Rattle.std.specs.Prelude.{slice_set}
use Rattle.std.proofs.lemmas.Option.{slice_get_read}
use Rattle.bmx_protocol.specs.Runs.Programs.{Order}
use Rattle.bmx_run.proofs.runner.Runner.give.Goals as goal

pub returns-in-Ok-clause-given : goal.returns-in-Ok-clause-given
returns-in-Ok-clause-given c =
    let items = c.args.self.now.seats.items in
    let place : c.from.result ≡ c.args.order.node = c.from.ensures ∙ c.get.ensures.value ∙ ap (λ (g : Order). g.node) c.order.view_is in
    inl (
      refl,
      record {
        before = c.index_mut.result.now;
        behind = c.give.new.self;
        there = slice_get_read items (length items) c.args.order.node c.index_mut.result.now refl c.requires
            (subst (λ (k : ℕ). c.index_mut.result.now ≡ get_or items k c.index_mut.result.now) place c.index_mut.ensures.value);
        seats = ap (λ (k : ℕ). slice_set items k c.give.new.self) place;
        orders = c.in-Ok.ensures.ok;
        completed = c.give.ensures.completed;
        waits = c.give.ensures.waits;
      },
    )
