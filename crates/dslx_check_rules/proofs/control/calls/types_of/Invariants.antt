use Rattle.std.proofs.Common.{◌≡◌, map, take}
use Rattle.dslx_check_rules.specs.declared.nodes.parts.Spanned.{Spanned}
use Rattle.dslx_check_rules.proofs.control.calls.types_of.Given as goal

abbrev pub invariant-operands : goal.invariant-operands
invariant-operands l = l.types.items ≡ map (λ (operand : Spanned). operand.typing.ty) (take l.operand-index l.operands)
