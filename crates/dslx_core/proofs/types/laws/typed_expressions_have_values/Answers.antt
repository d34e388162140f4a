use Rattle.dslx_core.proofs.OnTypes.OnExprs.{expressions_sound}
use Rattle.dslx_core.proofs.types.laws.typed_expressions_have_values.Goals as goal

pub returns : goal.returns
returns c = λ e functions calls types bound t give own h. expressions_sound e functions calls types bound t give own h
