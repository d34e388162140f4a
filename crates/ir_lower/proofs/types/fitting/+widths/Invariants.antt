use Rattle.std.proofs.Common.{◌≡◌, Bool, drop, map}
use Rattle.std.specs.List.{list_all}
use Rattle.xb_value.specs.declared.ty.Ty.{fold-Ty}
use Rattle.xb_value.specs.Width.{widths_step}
use Rattle.ir_lower.proofs.types.fitting.+widths.Given as goal

abbrev pub invariant-have_widths-types : goal.invariant-have_widths-types
invariant-have_widths-types l = list_all (λ b. b) (map (fold-Ty Bool widths_step) (drop l.ty-index l.types)) ≡ list_all (λ b. b) (map (fold-Ty Bool widths_step) l.types)
