use Rattle.std.proofs.Common.{[], ◌∷◌, ◌++◌, ap, ◌∙◌}
use Rattle.dslx_values.proofs.ListLemmas.{repeated_behind}
use Rattle.dslx_values.proofs.fill.push_copies.Goals as goal

pub copies-preserved : goal.copies-preserved
copies-preserved c =
    c.in_ok-push.ensures.ok
    ∙ ap (λ x. c.copies.values ++ x ∷ []) c.in_ok-copy_value.ensures
    ∙ ap (λ vs. vs ++ c.args.value.now ∷ []) c.copies.invariant
    ∙ repeated_behind c.args.values.now c.copies.counter c.args.value.now
