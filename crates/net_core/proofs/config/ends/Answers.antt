use Rattle.std.proofs.Common.{◌∙◌, ap, sym, List, ◌++◌, ◌∷◌, [], arith}
use Rattle.std.proofs.lemmas.List.{length_push}
use Rattle.net_core.specs.declared.outcome.ProcEnd.{ProcEnd}
use Rattle.net_core.specs.Inner.Making.{end_with}
use Rattle.base.proofs.Lemmas.Lists.Indexed.{indexed_push}
use Rattle.net_core.proofs.config.ends.Goals as goal

pub loop-progress-preserved : goal.loop-progress-preserved
loop-progress-preserved c =
    let count = length_push c.loop-progress.yielded c.in-Some.progress in
    let items = c.in_ok-push.ensures.items in (
      omega (arith, count, c.loop-progress.invariant.0),
      items ∙ (ap (λ (x : ProcEnd). c.loop-progress.ends.items ++ x ∷ []) c.into_end.ensures ∙ ap (λ (xs : List ProcEnd). xs ++ end_with c.args.stalls.now c.loop-progress.p c.in-Some.progress ∷ []) c.loop-progress.invariant.1
          ∙ sym (indexed_push (end_with c.args.stalls.now) 0 c.loop-progress.p c.loop-progress.yielded c.in-Some.progress (omega (arith, c.loop-progress.invariant.0)))),
    )
