use Rattle.dslx_check_declarations.proofs.OnWork.OnKinds.{by_kind}
use Rattle.dslx_check_declarations.proofs.work.laws.texts_have_items_by_kind.Goals as goal

pub returns : goal.returns
returns c = by_kind
