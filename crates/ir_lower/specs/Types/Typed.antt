-- Expressions that have types, by signatures that code holds.
use Rattle.std.specs.Prelude.{◌≡◌, ℕ, List, [], ◌∷◌, map, take, length, slice_get, Some}
use Rattle.xb_value.specs.declared.ty.Ty.{Ty}
use Rattle.dslx_core.specs.declared.expr.Arm.{Arm}
use Rattle.dslx_core.specs.declared.expr.CoreExpr.{CoreExpr}
use Rattle.dslx_core.specs.declared.design.Function.{Function}
use Rattle.dslx_core.specs.declared.design.Instance.{Instance}
use Rattle.dslx_core.specs.Types.Typing.{Typing, all_fit, arms_type, shapes_of}
use Rattle.ir_rebuild.specs.Putting.Types.{ir_type_of}
use Rattle.ir_rebuild.specs.Putting.Given.{IsNodeType}
use Rattle.ir_lower_nodes.specs.Exprs.NodeTypes.{arm_node_type, node_type}
use Rattle.ir_lower_nodes.specs.Procs.Instances.{next_node_type}
use Rattle.ir_lower.specs.declared.types.signature.Signature.{Signature}
use Rattle.ir_lower.specs.Types.Signatures.{call_types}
use Rattle.ir_lower.specs.Types.Words.{word_at}

-- each has its type
abbrev pub EachTyped : List Signature → List Ty → List CoreExpr → List Ty → Type 0
EachTyped signatures bound es ts = map (λ (q : Typing). q (call_types signatures) bound) (map node_type es) ≡ map Some ts

-- these arms, the last ones of all, have this type for a value of a type
abbrev pub ArmsTyped : List Signature → List Arm → List Arm → Ty → List Ty → Ty → Type 0
ArmsTyped signatures all arms t bound u = arms_type (all_fit (shapes_of (map arm_node_type all)) t) (call_types signatures) bound t (map arm_node_type arms) ≡ Some u

-- the state is of a type that nodes may have, and so is each part of the steps and of the next state, which is of the state's type
pub record InstanceTyped (signatures : List Signature) (words : List Ty) (i : Instance) : Type 0 where
  pub state : IsNodeType (ir_type_of i.state)
  pub next : next_node_type (call_types signatures) (word_at words) i.steps i.next (i.state ∷ []) ≡ Some i.state

-- the function of a number has its signature, over those before it
pub record IsSigned (signatures : List Signature) (fs : List Function) (k : ℕ) : Type 0 where
  pub signature : Signature
  pub own : slice_get signatures k ≡ Some signature
  pub function : Function
  pub there : slice_get fs k ≡ Some function
  pub arity : length signature.arguments ≡ function.arity
  pub body : node_type function.body (call_types (take k signatures)) signature.arguments ≡ Some signature.result
