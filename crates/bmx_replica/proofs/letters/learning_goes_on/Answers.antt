use Rattle.bmx_replica.proofs.Following.{CanLearn-goes_on}
use Rattle.bmx_replica.proofs.letters.learning_goes_on.Goals as goal

pub returns : goal.returns
returns c = λ old new i more kept l. CanLearn-goes_on old new i more kept l
