-- The types of what steps bind, where all their parts have types that nodes may have.
use Rattle.std.specs.Prelude.{true, List, [], ◌∷◌, Option, Some, None}
use Rattle.xb_value.specs.declared.ty.Ty.{Ty, Bits, Tuple}
use Rattle.dslx_meaning.specs.Lists.{and_then}
use Rattle.dslx_core.specs.declared.expr.CoreExpr.{CoreExpr}
use Rattle.dslx_core.specs.declared.step.Step.{Step}
use Rattle.dslx_core.specs.declared.step.Step.TheVariants as step
use Rattle.dslx_core.specs.Types.Typing.{FunctionTypes, binds_types, if_alike}
use Rattle.dslx_core.specs.Types.Designs.{WordTypes, token_type}
use Rattle.ir_lower_nodes.specs.Exprs.NodeTypes.{if_node, node_type}

-- a token and a value
abbrev pub pair_type : Ty → Ty
pair_type t = Tuple (token_type ∷ t ∷ [])

-- a condition is a bit
abbrev pub under_node_condition : FunctionTypes → List Ty → Option CoreExpr → Option Ty → Option Ty
under_node_condition calls bound None t = t
under_node_condition calls bound (Some c) t = and_then (if_alike (Bits 1) (node_type c calls bound)) (λ b. t)

-- the word where nothing is received
abbrev pub node_otherwise : FunctionTypes → List Ty → Ty → Option (CoreExpr × CoreExpr) → Option Ty
node_otherwise calls bound t None = Some t
node_otherwise calls bound t (Some both) = under_node_condition calls bound (Some both.0) (if_alike t (node_type both.1 calls bound))

-- the types of what is bound behind a step
abbrev pub step_node_binds : FunctionTypes → WordTypes → Step → List Ty → Option (List Ty)
step_node_binds calls words (step.Bind e shape) bound = and_then (node_type e calls bound) (λ t. binds_types true shape t bound)
step_node_binds calls words (step.Receive r) bound =
    and_then (if_alike r.word (words r.member)) (λ t.
    and_then (node_otherwise calls bound t r.condition) (λ u.
    and_then (if_node (Some (pair_type u))) (λ pair. binds_types true r.shape pair bound)))
step_node_binds calls words (step.Send s) bound =
    and_then (words s.member) (λ t.
    and_then (under_node_condition calls bound s.condition (if_alike t (node_type s.word calls bound))) (λ u. binds_types true s.shape token_type bound))

-- and behind several
abbrev pub steps_node_bind : FunctionTypes → WordTypes → List Step → List Ty → Option (List Ty)
steps_node_bind calls words [] bound = Some bound
steps_node_bind calls words (s ∷ ss) bound = and_then (step_node_binds calls words s bound) (steps_node_bind calls words ss)
