-- Which steps the statements of `next` are lowered to.
use Rattle.std.specs.Prelude.{ℕ, List, [], ◌∷◌, ◌&&◌, map, nat_le, Bool, true, not, Option, Some, None, slice_get}
use Rattle.std.specs.List.{list_all}
use Rattle.xb_value.specs.declared.ty.Ty.{Ty, fold-Ty}
use Rattle.xb_value.specs.Width.{width_of, widths_step}
use Rattle.dslx_tree.specs.declared.block.Block.{out-Block}
use Rattle.dslx_tree.specs.declared.block.Let.{out-Let}
use Rattle.dslx_tree.specs.declared.block.Stmt.{Stmt, out-Stmt}
use Rattle.dslx_tree.specs.declared.block.Stmt.TheOpen.{Stmt-F}
use Rattle.dslx_tree.specs.declared.expr.Expr.{Expr}
use Rattle.dslx_tree.specs.declared.pattern.Pattern.{Pattern}
use Rattle.dslx_tree.specs.declared.item.Module.{Module}
use Rattle.dslx_tree.specs.declared.process.End.{End}
use Rattle.dslx_tree.specs.declared.process.Proc.{Proc}
use Rattle.dslx_meaning.specs.Lists.{and_then, index_in, where_true, with_both}
use Rattle.dslx_meaning.specs.Types.{plain_type, received, unit_type}
use Rattle.dslx_meaning.specs.Activation.{SiteAct, Computes, SendsWord, SendsWordIf, StmtLayer, TakesWord, TakesWordIf, act_of}
use Rattle.dslx_meaning.specs.Environment.{Meanings}
use Rattle.dslx_meaning.specs.Items.{parametric_args_bound}
use Rattle.dslx_meaning.specs.declared.value.DslxValue.{DslxValue}
use Rattle.dslx_meaning.specs.declared.ty.DslxType.{DslxType, fold-DslxType}
use Rattle.dslx_meaning.specs.declared.ty.DslxType as ty
use Rattle.dslx_meaning.specs.declared.ty.DslxType.TheOpen.{DslxType-F}
use Rattle.dslx_meaning.specs.Rules.ConstantRules.{is_zero}
use Rattle.dslx_meaning.specs.Rules.Paired.{paired_pattern}
use Rattle.dslx_core.specs.declared.step.Step.{Step}
use Rattle.dslx_core.specs.declared.step.Step.TheVariants as step
use Rattle.dslx_core.specs.declared.expr.CoreExpr as core
use Rattle.dslx_core.specs.declared.expr.Shape as shape
use Rattle.dslx_core.specs.Lowering.CoreScopes.{BodyEnv, CoreScope, with_local}
use Rattle.dslx_core.specs.Lowering.EqualTypes.{equal_type}
use Rattle.dslx_core.specs.Lowering.Functions.{CoreInstance, callee_in, parametric_args_are_well_typed, outer_scope}
use Rattle.dslx_core.specs.Lowering.Lowering.{LoweredExpr, lowered}
use Rattle.dslx_core.specs.Lowering.Patterns.{LoweredShape, PatternLowering, lower_in_scope, shaped}
use Rattle.dslx_core.specs.Lowering.Trees.{lower_expression, lowering_sorts, lowering_steps, of_type, lower_type_of_text}
use Rattle.dslx_core.specs.declared.lowering.next.CoreMember as member_data
use Rattle.dslx_core.specs.declared.lowering.next.LoweredNext as next_data
use Rattle.dslx_core.specs.declared.lowering.next.LoweredSteps as steps_data

-- a pattern
abbrev pub lower_pattern_of_text : Pattern → PatternLowering
lower_pattern_of_text p = (paired_pattern lowering_sorts lowering_steps p).1

-- ---- words

abbrev pub sized_step : DslxType-F Bool → Bool
sized_step (DslxType-F.Bits s w) = true
sized_step (DslxType-F.Tuple bs) = list_all (λ b. b) bs
sized_step (DslxType-F.Array b n) = not (is_zero n) && b
sized_step (DslxType-F.Struct name fields bs) = list_all (λ b. b) bs
sized_step (DslxType-F.Enum name s w) = true
sized_step DslxType-F.Token = true

-- each array in it has an element
abbrev pub is_sized : DslxType → Bool
is_sized = fold-DslxType Bool sized_step

-- a word holds a value of the type: its bits are 1 to 128 wide, and so are all of them
abbrev pub fits_word : Ty → Bool
fits_word t = fold-Ty Bool widths_step t && (nat_le 1 (width_of t) && nat_le (width_of t) 128)

-- a type whose words a channel holds
abbrev pub can_travel : DslxType → Bool
can_travel t = is_sized t && fits_word (plain_type t)

-- a member: its number, and the type of its words
abbrev pub CoreMember : Type 0
CoreMember = member_data.CoreMember

abbrev pub end_names : List End → List (List ℕ)
end_names ends = map (λ (e : End). e.name.name) ends

-- the type of its words sees no local
abbrev pub member_in : CoreScope → List End → List ℕ → Option CoreMember
member_in outer ends name =
    and_then (index_in name (end_names ends)) (λ k.
    and_then (slice_get ends k) (λ e.
    and_then (lower_type_of_text e.word outer) (λ t. where_true (can_travel t) (Some (record { number = k; word = t })))))

-- ---- steps

-- steps, and the state behind them
abbrev pub LoweredSteps : Type 0
LoweredSteps = steps_data.LoweredSteps

abbrev pub StepsLowering : Type 0
StepsLowering = CoreScope → Option LoweredSteps

-- what a step binds
abbrev pub BindsInScope : Type 0
BindsInScope = CoreScope → DslxType → Option LoweredShape

abbrev pub step_then : Step → Option LoweredSteps → Option LoweredSteps
step_then s rest = and_then rest (λ rest. Some (record { steps = s ∷ rest.steps; next = rest.next }))

abbrev pub lower_compute : LoweredExpr → BindsInScope → StepsLowering → StepsLowering
lower_compute e binds rest scope = and_then (binds scope e.ty) (λ s. step_then (step.Bind e.core s.shape) (rest s.scope))

abbrev pub lower_receive : CoreMember → Option (LoweredExpr × LoweredExpr) → BindsInScope → StepsLowering → StepsLowering
lower_receive m None binds rest scope =
    and_then (binds scope (received m.word)) (λ s. step_then (step.Receive (record { member = m.number; word = plain_type m.word; condition = None; shape = s.shape })) (rest s.scope))
lower_receive m (Some both) binds rest scope =
    and_then (binds scope (received m.word)) (λ s.
    step_then (step.Receive (record { member = m.number; word = plain_type m.word; condition = Some (both.0.core, both.1.core); shape = s.shape })) (rest s.scope))

abbrev pub lower_send : CoreMember → Option LoweredExpr → LoweredExpr → BindsInScope → StepsLowering → StepsLowering
lower_send m None word binds rest scope =
    and_then (binds scope ty.Token) (λ s. step_then (step.Send (record { member = m.number; condition = None; word = word.core; shape = s.shape })) (rest s.scope))
lower_send m (Some c) word binds rest scope =
    and_then (binds scope ty.Token) (λ s. step_then (step.Send (record { member = m.number; condition = Some c.core; word = word.core; shape = s.shape })) (rest s.scope))

-- what an expression does as a statement or as the whole value of a `let`
abbrev pub lower_act : CoreScope → List End → SiteAct → Expr → BindsInScope → StepsLowering → StepsLowering
lower_act outer ends Computes e binds rest scope = and_then (lower_expression e scope) (λ e. lower_compute e binds rest scope)
lower_act outer ends (TakesWord c) e binds rest scope = and_then (member_in outer ends c) (λ m. lower_receive m None binds rest scope)
lower_act outer ends (TakesWordIf c p other) e binds rest scope =
    and_then (member_in outer ends c) (λ m. with_both (lower_expression p scope) (of_type m.word (lower_expression other scope)) (λ p other. lower_receive m (Some (p, other)) binds rest scope))
lower_act outer ends (SendsWord c word) e binds rest scope =
    and_then (member_in outer ends c) (λ m. and_then (of_type m.word (lower_expression word scope)) (λ word. lower_send m None word binds rest scope))
lower_act outer ends (SendsWordIf c p word) e binds rest scope =
    and_then (member_in outer ends c) (λ m. with_both (lower_expression p scope) (of_type m.word (lower_expression word scope)) (λ p word. lower_send m (Some p) word binds rest scope))

abbrev pub binds_nothing : BindsInScope
binds_nothing scope t = shaped shape.Wild scope

abbrev pub statement_steps : CoreScope → List End → StmtLayer → StepsLowering → StepsLowering
statement_steps outer ends (Stmt-F.Let l) rest scope = lower_act outer ends (act_of (out-Let l).value) (out-Let l).value (lower_in_scope (lower_pattern_of_text (out-Let l).pattern)) rest scope
statement_steps outer ends (Stmt-F.Bare e) rest scope = lower_act outer ends (act_of e) e binds_nothing rest scope

abbrev pub last_of_steps : Option Expr → CoreScope → Option LoweredExpr
last_of_steps None scope = lowered (core.Tuple []) unit_type
last_of_steps (Some e) scope = lower_expression e scope

abbrev pub statements_steps : CoreScope → List End → List Stmt → Option Expr → StepsLowering
statements_steps outer ends [] last scope = and_then (last_of_steps last scope) (λ e. Some (record { steps = []; next = e }))
statements_steps outer ends (s ∷ ss) last scope = statement_steps outer ends (out-Stmt s) (statements_steps outer ends ss last) scope

-- ---- an instance of a proc

-- the state's type, the steps of an activation, and the state behind them
abbrev pub LoweredNext : Type 0
LoweredNext = next_data.LoweredNext

abbrev pub steps_from : CoreScope → Proc → DslxType → Option LoweredNext
steps_from outer p t =
    and_then (statements_steps outer p.members (out-Block p.next.body).statements (out-Block p.next.body).value (with_local p.next.state.name t outer)) (λ s.
    where_true (equal_type t s.next.ty) (Some (record { state = t; steps = s.steps; next = s.next.core })))

-- the state is the first value that is bound
abbrev pub lower_next : BodyEnv → Proc → Option LoweredNext
lower_next known p =
    where_true (parametric_args_are_well_typed known.items known.parametric_args && not (known.items.is_constant p.next.state.name))
    (and_then (lower_type_of_text p.next.ty (outer_scope known)) (λ t. where_true (is_sized t) (steps_from (outer_scope known) p t)))

-- the environment of the body in an instance of a proc
abbrev pub proc_globals : Module → Meanings → List CoreInstance → Proc → List DslxValue → BodyEnv
proc_globals m items instances p parametric_args = record { items = items; parametric_args = parametric_args_bound [] p.parametrics parametric_args; callee = callee_in m items instances }
