-- Limits on a type's widths.
use Rattle.std.specs.Prelude.{Bool, map}
use Rattle.xb_span.specs.declared.limit.What.TheVariants as what
use Rattle.ir_tree.specs.declared.ir_type.IrType.{IrType}
use Rattle.ir_tree.specs.NodeTypes.Types.{widths_in}
use Rattle.ir_tree.specs.Rules.Checks.{limit_at}
use Rattle.ir_tree.specs.Rules.Typed.Typed.{none_broken}

-- no `bits` in the type is too wide
abbrev pub widths_within : IrType → Bool
widths_within t = none_broken (map (λ w. limit_at 0 what.Width w 128) (widths_in t))
