-- What steps do with the arms of matches.
use Rattle.std.specs.Prelude.{List, [], ◌∷◌, ◌++◌, map, Bool, Option, Some, None, if◌then◌else◌}
use Rattle.std.specs.List.{list_all}
use Rattle.dslx_tree.specs.declared.expr.Arm.{Arm, out-Arm}
use Rattle.dslx_tree.specs.declared.pattern.Pattern.{Pattern}
use Rattle.dslx_meaning.specs.Lists.{and_then}
use Rattle.dslx_meaning.specs.declared.ty.DslxType.{DslxType}
use Rattle.dslx_core.specs.declared.expr.Shape.{Shape}
use Rattle.dslx_core.specs.Lowering.CoreScopes.{CoreScope}
use Rattle.dslx_core.specs.Lowering.Lowering.{LoweredExpr}
use Rattle.dslx_core.specs.Lowering.Patterns.{LoweredArm, LoweredShape, alternatives_shaped, arm_of, arms_of, lower_in_scope, names_of_all}
use Rattle.dslx_core.specs.Lowering.Steps.{lower_pattern_of_text}
use Rattle.dslx_core.specs.Machines.Machine.Tasks.{MatchWork, LowersExpr, TakesArm, OpenBody, InstanceEnv}
use Rattle.dslx_core.specs.Machines.Machine.Bodies.{bound_as, doing, gives, scope_in, restores}

-- a pattern in its scope, against values of a type
abbrev pub shaped_at : Pattern → CoreScope → DslxType → Option LoweredShape
shaped_at p scope t = lower_in_scope (lower_pattern_of_text p) scope t

-- the alternatives of an arm, which bind nothing
abbrev pub alternatives_begin : InstanceEnv → MatchWork → List Pattern → OpenBody → Option OpenBody
alternatives_begin context work ps body =
    and_then (alternatives_shaped (map lower_pattern_of_text ps) (scope_in context body) work.value.ty) (λ shapes.
    Some (doing (LowersExpr (out-Arm work.arm).value ∷ TakesArm work shapes ∷ []) body))

-- the one pattern of an arm may bind names
abbrev pub binding_begins : InstanceEnv → MatchWork → List Pattern → OpenBody → Option OpenBody
binding_begins context work (p ∷ []) body =
    and_then (shaped_at p (scope_in context body) work.value.ty) (λ s.
    Some (bound_as s.scope (doing (LowersExpr (out-Arm work.arm).value ∷ restores body ∷ TakesArm work (s.shape ∷ []) ∷ []) body)))
binding_begins context work _ body = None

-- each name in these patterns is a constant's
abbrev pub binds_nothing_new : InstanceEnv → List Pattern → Bool
binds_nothing_new context ps = list_all context.items.is_constant (names_of_all (map lower_pattern_of_text ps))

abbrev pub arm_begins : InstanceEnv → MatchWork → OpenBody → Option OpenBody
arm_begins context work body =
    if binds_nothing_new context (out-Arm work.arm).patterns then alternatives_begin context work (out-Arm work.arm).patterns body
    else binding_begins context work (out-Arm work.arm).patterns body

-- the arms that are left of a match on a value, behind these
abbrev pub arms_on : InstanceEnv → LoweredExpr → List LoweredArm → List Arm → OpenBody → Option OpenBody
arms_on context e before [] body = gives (arms_of e before) body
arms_on context e before (a ∷ rest) body = arm_begins context (record { value = e; before = before; arm = a; behind = rest }) body

-- an arm of these shapes and this value
abbrev pub arm_taken : InstanceEnv → MatchWork → List Shape → LoweredExpr → OpenBody → Option OpenBody
arm_taken context work shapes v body = and_then (arm_of shapes v) (λ arm. arms_on context work.value (work.before ++ arm ∷ []) work.behind body)
