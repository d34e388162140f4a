use Rattle.dslx_check.proofs.OnLeast.OnPlaces.{one_place}
use Rattle.dslx_check.proofs.least.laws.one_place_is_one_fault.Goals as goal

pub returns : goal.returns
returns c = one_place
