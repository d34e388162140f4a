use Rattle.block_build.proofs.Lemmas.Driven.{offers_stand}
use Rattle.block_build.proofs.laws.offers_stand.Goals as goal

pub returns : goal.returns
returns c = offers_stand
