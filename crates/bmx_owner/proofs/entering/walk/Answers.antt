use Rattle.std.proofs.Common.{subst}
use Rattle.bmx_owner.specs.Inside.Named.{AreShelved, OnShelves}
use Rattle.bmx_owner.proofs.Named.{OnShelves-cleaned, none_go}
use Rattle.bmx_owner.proofs.entering.walk.Goals as goal

pub returns-in-Some-clause-names : goal.returns-in-Some-clause-names
returns-in-Some-clause-names c = λ room shelved.
    let told = c.args.told.now in
    let records = c.args.records.now in
    let on : OnShelves records room c.in-Some.shelves = subst (AreShelved records room) c.in-Some.is shelved in
    OnShelves-cleaned told.bunch told.from told.sent told.got told.listed.now records c.requires.order c.in-Some.shelves c.end_names.new.names room c.end_names.ensures.node on c.end_names.ensures.count c.end_names.ensures.shelf c.end_names.ensures.others c.end_names.ensures.spare

pub returns-in-Some-clause-none : goal.returns-in-Some-clause-none
returns-in-Some-clause-none c = λ h.
    let told = c.args.told.now in
    let records = c.args.records.now in
    let on : OnShelves records c.requires.shelved.0 c.in-Some.shelves = subst (AreShelved records c.requires.shelved.0) c.in-Some.is c.requires.shelved.1 in
    none_go told.bunch told.from told.sent told.got told.listed.now records c.requires.order c.in-Some.shelves c.end_names.ensures.node on.named (c.end_names.ensures.none h)
