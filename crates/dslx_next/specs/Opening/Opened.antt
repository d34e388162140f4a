-- Steps that bind nothing yet, with the type of the value that each gives.
use Rattle.std.specs.Prelude.{List, Option, None, Some}
use Rattle.dslx_tree.specs.declared.expr.Expr.{Expr}
use Rattle.dslx_tree.specs.declared.process.End.{End}
use Rattle.dslx_meaning.specs.Activation.{SiteAct, Computes, SendsWord, SendsWordIf, TakesWord, TakesWordIf}
use Rattle.dslx_meaning.specs.Lists.{and_then}
use Rattle.dslx_meaning.specs.Types.{plain_type, received}
use Rattle.dslx_meaning.specs.declared.ty.DslxType.{DslxType}
use Rattle.dslx_meaning.specs.declared.ty.DslxType as ty
use Rattle.dslx_core.specs.declared.expr.CoreExpr.{CoreExpr}
use Rattle.dslx_core.specs.declared.expr.Shape.{Shape}
use Rattle.dslx_core.specs.declared.expr.Shape as shape
use Rattle.dslx_core.specs.declared.step.Step.{Step}
use Rattle.dslx_core.specs.declared.step.Step.TheVariants as step
use Rattle.dslx_core.specs.Lowering.CoreScopes.{CoreScope}
use Rattle.dslx_core.specs.Lowering.Lowering.{LoweredExpr}
use Rattle.dslx_core.specs.Lowering.Steps.{BindsInScope, CoreMember, StepsLowering, member_in, step_then}
use Rattle.dslx_core.specs.Lowering.Trees.{lower_expression, of_type}
use Rattle.dslx_next.specs.declared.opening.opened.OpenStep.{OpenStep}
use Rattle.dslx_next.specs.declared.opening.work.Conditional.{Conditional}

-- with what it binds
abbrev pub with_shape : Step → Shape → Step
with_shape (step.Bind e s) t = step.Bind e t
with_shape (step.Receive r) t = step.Receive (record { member = r.member; word = r.word; condition = r.condition; shape = t })
with_shape (step.Send s) t = step.Send (record { member = s.member; condition = s.condition; word = s.word; shape = t })

abbrev pub opened : Step → DslxType → Option OpenStep
opened s t = Some (record { step = s; ty = t })

abbrev pub computing : LoweredExpr → Option OpenStep
computing e = opened (step.Bind e.core shape.Wild) e.ty

abbrev pub receiving : CoreMember → Option (CoreExpr × CoreExpr) → Option OpenStep
receiving m c = opened (step.Receive (record { member = m.number; word = plain_type m.word; condition = c; shape = shape.Wild })) (received m.word)

abbrev pub sending : CoreMember → Option CoreExpr → LoweredExpr → Option OpenStep
sending m c word = opened (step.Send (record { member = m.number; condition = c; word = word.core; shape = shape.Wild })) ty.Token

-- ---- at a member

-- a condition, and a value of the type
abbrev pub conditional : DslxType → Expr → Expr → CoreScope → Option Conditional
conditional t c e scope = and_then (lower_expression c scope) (λ c. and_then (of_type t (lower_expression e scope)) (λ e. Some (record { condition = c; value = e })))

abbrev pub receive_opened : Option CoreMember → Option OpenStep
receive_opened m = and_then m (λ m. receiving m None)

abbrev pub receive_if_opened : Option CoreMember → Expr → Expr → CoreScope → Option OpenStep
receive_if_opened m c other scope = and_then m (λ m. and_then (conditional m.word c other scope) (λ (b : Conditional). receiving m (Some (b.condition.core, b.value.core))))

abbrev pub send_opened : Option CoreMember → Expr → CoreScope → Option OpenStep
send_opened m word scope = and_then m (λ m. and_then (of_type m.word (lower_expression word scope)) (sending m None))

abbrev pub send_if_opened : Option CoreMember → Expr → Expr → CoreScope → Option OpenStep
send_if_opened m c word scope = and_then m (λ m. and_then (conditional m.word c word scope) (λ (b : Conditional). sending m (Some b.condition.core) b.value))

-- ---- any expression

-- as a statement or as the whole value of a `let`
abbrev pub act_opened : CoreScope → List End → SiteAct → Expr → CoreScope → Option OpenStep
act_opened outer ends Computes e scope = and_then (lower_expression e scope) computing
act_opened outer ends (TakesWord c) e scope = receive_opened (member_in outer ends c)
act_opened outer ends (TakesWordIf c p other) e scope = receive_if_opened (member_in outer ends c) p other scope
act_opened outer ends (SendsWord c word) e scope = send_opened (member_in outer ends c) word scope
act_opened outer ends (SendsWordIf c p word) e scope = send_if_opened (member_in outer ends c) p word scope

-- what it binds, and the steps behind it
abbrev pub binds_then : Option OpenStep → BindsInScope → StepsLowering → StepsLowering
binds_then o binds rest scope = and_then o (λ (o : OpenStep). and_then (binds scope o.ty) (λ s. step_then (with_shape o.step s.shape) (rest s.scope)))
