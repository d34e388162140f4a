use Rattle.std.proofs.Common.{◌∙◌, Some, sym, ap}
use Rattle.std.proofs.lemmas.Result.{IfOk-weaker}
use Rattle.std.specs.Option.{option_copied}
use Rattle.dslx_check_tasks.proofs.OnDeclarations.OnBehind.{foreign_judged}
use Rattle.dslx_check_tasks.proofs.declarations.parts.part_seen.Goals as goal

pub returns-in_ok-values-in-Some : goal.returns-in_ok-values-in-Some
returns-in_ok-values-in-Some c = IfOk-weaker c.part_behind.result _ _
    (λ there h. foreign_judged (sym c.definition.ensures ∙ ap option_copied c.in-Some.is) (c.in_ok-values-in-Some.ensures ∙ ap Some (sym c.as_slice.ensures.value)) h) c.part_behind.ensures
