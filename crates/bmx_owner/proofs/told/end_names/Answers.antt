use Rattle.std.proofs.Common.{◌≡◌, ◌+◌, ℕ, Bool, not, filter, count_by, subst, ◌∙◌}
use Rattle.bmx_shelves.specs.Shelves.{on_shelf}
use Rattle.bmx_owner.specs.Inside.Named.{ends_name}
use Rattle.bmx_owner.proofs.told.end_names.Goals as goal

pub returns-clause-shelf : goal.returns-clause-shelf
returns-clause-shelf c =
    let told = c.args.told.now in
    let ends : ℕ → Bool = λ name. ends_name told.bunch told.from told.sent told.got told.listed.now c.args.records.now name in
    subst (λ n. on_shelf c.end_items.new.shelves.shelves n ≡ filter (λ name. not (ends name)) (on_shelf c.args.names.now.shelves n)) c.get.ensures.value c.end_items.ensures.shelf

pub returns-clause-others : goal.returns-clause-others
returns-clause-others c = λ m apart. c.end_items.ensures.others m (λ e. apart (e ∙ c.get.ensures.value))

pub returns-clause-spare : goal.returns-clause-spare
returns-clause-spare c =
    let told = c.args.told.now in
    let ends : ℕ → Bool = λ name. ends_name told.bunch told.from told.sent told.got told.listed.now c.args.records.now name in
    let old = c.args.names.now in
    subst (λ n. c.end_items.new.shelves.spare ≡ old.spare + count_by ends (on_shelf old.shelves n)) c.get.ensures.value c.end_items.ensures.spare

pub returns-clause-none : goal.returns-clause-none
returns-clause-none c = λ h.
    let told = c.args.told.now in
    let ends : ℕ → Bool = λ name. ends_name told.bunch told.from told.sent told.got told.listed.now c.args.records.now name in
    subst (λ n. count_by ends (on_shelf c.args.names.now.shelves n) ≡ 0) c.get.ensures.value (c.end_items.ensures.none h)
