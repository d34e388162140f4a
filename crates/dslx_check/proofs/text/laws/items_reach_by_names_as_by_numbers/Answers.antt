use Rattle.dslx_check.proofs.OnText.OnReaching.{reach_alike}
use Rattle.dslx_check.proofs.text.laws.items_reach_by_names_as_by_numbers.Goals as goal

pub returns : goal.returns
returns c = λ text plain. reach_alike text plain (c.items_have_names_of_their_own.ensures text plain)
