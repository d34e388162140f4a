use Rattle.dslx_check.proofs.OnText.OnMarks.{distinct}
use Rattle.dslx_check.proofs.text.laws.items_have_names_of_their_own.Goals as goal

pub returns : goal.returns
returns c = distinct
