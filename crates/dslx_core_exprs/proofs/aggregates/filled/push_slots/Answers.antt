use Rattle.std.proofs.Common.{[], ◌∷◌, ◌++◌, ap, ◌∙◌}
use Rattle.dslx_core.specs.declared.expr.CoreExpr as core
use Rattle.dslx_core_exprs.proofs.OnAggregates.ListLemmas.{repeated_behind}
use Rattle.dslx_core_exprs.proofs.aggregates.filled.push_slots.Goals as goal

pub times-preserved : goal.times-preserved
times-preserved c =
    c.in_ok-push.ensures.ok
    ∙ ap (λ slots. slots ++ core.Slot c.args.slot ∷ []) c.times.invariant
    ∙ repeated_behind c.args.slots.now c.times.counter (core.Slot c.args.slot)
