use Rattle.std.proofs.Common.{◌≡◌, drop, map}
use Rattle.std.specs.List.{list_all}
use Rattle.dslx_core.specs.Lowering.Steps.{is_sized}
use Rattle.dslx_core_exprs.proofs.alike.sized.+is_sized.Given as goal

abbrev pub invariant-are_sized-types : goal.invariant-are_sized-types
invariant-are_sized-types l = list_all (λ b. b) (map is_sized (drop l.ty-index l.types)) ≡ list_all (λ b. b) (map is_sized l.types)
