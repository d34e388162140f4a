use Rattle.std.proofs.Common.{sym, refl}
use Rattle.std.proofs.lemmas.Result.{IfOk-weaker}
use Rattle.std.specs.Option.{option_copied}
use Rattle.dslx_check_judge.proofs.Lemmas.Items.OnTrees.{constant_walked}
use Rattle.dslx_check_tasks.proofs.OnDeclarations.OnForeign.{no_default, some_default, tree_as}
use Rattle.dslx_check_tasks.proofs.declarations.parametrics.default_typing.Goals as goal

pub returns-in-None : goal.returns-in-None
returns-in-None c = tree_as (λ i. option_copied (sym c.in-None.is i)) (no_default c.untyped.ensures.0 c.untyped.ensures.1 c.untyped.ensures.2 refl)

pub returns-in-Some : goal.returns-in-Some
returns-in-Some c = IfOk-weaker c.constant.result _ _
    (λ k h. tree_as (λ i. option_copied (sym c.in-Some.is i)) (some_default c.in-Some.e.now (constant_walked c.in-Some.e.now h))) c.constant.ensures
