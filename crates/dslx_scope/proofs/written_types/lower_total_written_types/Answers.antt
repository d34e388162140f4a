use Rattle.dslx_scope.proofs.OnWrittenTypes.Written.{type_is_lowered}
use Rattle.dslx_scope.proofs.written_types.lower_total_written_types.Goals as goal

pub returns : goal.returns
returns c = type_is_lowered
