use Rattle.bmx_collection.proofs.Views.{links_have_one_view}
use Rattle.bmx_collection.proofs.laws.links_have_one_view.Goals as goal

pub returns : goal.returns
returns c = links_have_one_view
