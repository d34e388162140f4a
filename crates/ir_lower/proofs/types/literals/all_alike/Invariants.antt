use Rattle.ir_lower.proofs.OnTypes.OnLiterals.{AlikeLeft}
use Rattle.ir_lower.proofs.types.literals.all_alike.Given as goal

abbrev pub invariant-rest : goal.invariant-rest
invariant-rest l = AlikeLeft l.first l.rest l.ty-index
