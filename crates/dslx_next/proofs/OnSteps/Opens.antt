-- Steps that bind nothing yet, and what they bind.
use Rattle.std.proofs.Common.{◌≡◌, ◌∷◌, ◌++◌, [], List, Option, Some, None, refl, ap, sym}
use Rattle.std.proofs.lemmas.List.{append_assoc}
use Rattle.dslx_tree.specs.declared.expr.Expr.{Expr}
use Rattle.dslx_tree.specs.declared.process.End.{End}
use Rattle.dslx_meaning.specs.Activation.{SiteAct, Computes, SendsWord, SendsWordIf, TakesWord, TakesWordIf}
use Rattle.dslx_meaning.specs.Lists.{and_then, with_both}
use Rattle.dslx_core.specs.declared.step.Step.{Step}
use Rattle.dslx_core.specs.Lowering.CoreScopes.{CoreScope}
use Rattle.dslx_core.specs.Lowering.Lowering.{LoweredExpr}
use Rattle.dslx_core.specs.Lowering.Steps.{BindsInScope, CoreMember, LoweredSteps, StepsLowering, lower_act, lower_compute, member_in, lower_receive, lower_send, step_then}
use Rattle.dslx_core.specs.Lowering.Trees.{lower_expression, of_type}
use Rattle.dslx_next.specs.Opening.Opened.{act_opened, binds_then, computing, receiving, sending}
use Rattle.dslx_next.specs.Steps.Passing.{behind_steps}
use Rattle.dslx_next.specs.declared.opening.opened.OpenStep.{OpenStep}
use Rattle.dslx_next.specs.declared.opening.work.Conditional.{Conditional}

-- both parts of a condition, one after the other
in_turn : (o p : Option LoweredExpr) (f : LoweredExpr → LoweredExpr → Option LoweredSteps) (g : Conditional → Option OpenStep) (h : OpenStep → Option LoweredSteps)
    → ((c e : LoweredExpr) → f c e ≡ and_then (g (record { condition = c; value = e })) h)
    → with_both o p f ≡ and_then (and_then (and_then o (λ c. and_then p (λ e. Some (record { condition = c; value = e })))) g) h
in_turn None p f g h same = refl
in_turn (Some c) None f g h same = refl
in_turn (Some c) (Some e) f g h same = same c e

pub act_opens : (outer : CoreScope) (ends : List End) (a : SiteAct) (e : Expr) (binds : BindsInScope) (rest : StepsLowering) (scope : CoreScope)
    → lower_act outer ends a e binds rest scope ≡ binds_then (act_opened outer ends a e scope) binds rest scope
act_opens outer ends Computes e binds rest scope = by (lower_expression e scope)
  where
    by : (o : Option LoweredExpr) → and_then o (λ e. lower_compute e binds rest scope) ≡ binds_then (and_then o computing) binds rest scope
    by None = refl
    by (Some e) = refl
act_opens outer ends (TakesWord c) e binds rest scope = by (member_in outer ends c)
  where
    by : (o : Option CoreMember) → and_then o (λ m. lower_receive m None binds rest scope) ≡ binds_then (and_then o (λ m. receiving m None)) binds rest scope
    by None = refl
    by (Some m) = refl
act_opens outer ends (TakesWordIf c p other) e binds rest scope = by (member_in outer ends c)
  where
    by : (o : Option CoreMember)
        → and_then o (λ m. with_both (lower_expression p scope) (of_type m.word (lower_expression other scope)) (λ p other. lower_receive m (Some (p, other)) binds rest scope))
        ≡ binds_then (and_then o (λ m. and_then (and_then (lower_expression p scope) (λ c. and_then (of_type m.word (lower_expression other scope)) (λ e. Some (record { condition = c; value = e }))))
        (λ (b : Conditional). receiving m (Some (b.condition.core, b.value.core))))) binds rest scope
    by None = refl
    by (Some m) = in_turn (lower_expression p scope) (of_type m.word (lower_expression other scope)) (λ p other. lower_receive m (Some (p, other)) binds rest scope)
        (λ (b : Conditional). receiving m (Some (b.condition.core, b.value.core))) (λ o. binds_then (Some o) binds rest scope) (λ c e. refl)
act_opens outer ends (SendsWord c word) e binds rest scope = by (member_in outer ends c)
  where
    by_word : (m : CoreMember) (o : Option LoweredExpr) → and_then o (λ word. lower_send m None word binds rest scope) ≡ binds_then (and_then o (sending m None)) binds rest scope
    by_word m None = refl
    by_word m (Some w) = refl

    by : (o : Option CoreMember) → and_then o (λ m. and_then (of_type m.word (lower_expression word scope)) (λ word. lower_send m None word binds rest scope))
        ≡ binds_then (and_then o (λ m. and_then (of_type m.word (lower_expression word scope)) (sending m None))) binds rest scope
    by None = refl
    by (Some m) = by_word m (of_type m.word (lower_expression word scope))
act_opens outer ends (SendsWordIf c p word) e binds rest scope = by (member_in outer ends c)
  where
    by : (o : Option CoreMember)
        → and_then o (λ m. with_both (lower_expression p scope) (of_type m.word (lower_expression word scope)) (λ p word. lower_send m (Some p) word binds rest scope))
        ≡ binds_then (and_then o (λ m. and_then (and_then (lower_expression p scope) (λ c. and_then (of_type m.word (lower_expression word scope)) (λ e. Some (record { condition = c; value = e }))))
        (λ (b : Conditional). sending m (Some b.condition.core) b.value))) binds rest scope
    by None = refl
    by (Some m) = in_turn (lower_expression p scope) (of_type m.word (lower_expression word scope)) (λ p word. lower_send m (Some p) word binds rest scope)
        (λ (b : Conditional). sending m (Some b.condition.core) b.value) (λ o. binds_then (Some o) binds rest scope) (λ c e. refl)

-- a step behind others
pub pushed_behind : (steps : List Step) (s : Step) (o : Option LoweredSteps) → behind_steps steps (step_then s o) ≡ behind_steps (steps ++ s ∷ []) o
pushed_behind steps s None = refl
pushed_behind steps s (Some r) = ap (λ (l : List Step). Some (record { steps = l; next = r.next })) (sym (append_assoc steps (s ∷ []) r.steps))
