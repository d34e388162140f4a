use Rattle.std.proofs.Common.{◌≡◌, None, Some, subst, sym}
use Rattle.std.specs.Prelude.{MatchBool}
use Rattle.std.proofs.lemmas.Result.{IfOk-weaker}
use Rattle.dslx_interp.proofs.OnOperate.Parts.{two_by_two}
use Rattle.dslx_interp.proofs.operate.shapes.take_parts.Goals as goal

pub returns : goal.returns
returns c =
    IfOk-weaker c.take_two.result _ _
    (λ fits h. subst (λ o. MatchBool fits (o ≡ Some c.take_two.new.bound.items) (o ≡ None)) (sym (two_by_two c.args.shapes.now c.args.first c.args.second c.args.bound.now.items)) h)
    c.take_two.ensures
