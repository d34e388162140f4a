use Rattle.std.proofs.Common.{◌≤◌, ◌∙◌, min, length, sym, arith}
use Rattle.dslx_scope_names.proofs.Lemmas.Numbers.InOrder.{all_bound}
use Rattle.dslx_scope_names.proofs.parametric_args.bound.scope_of.Goals as goal

pub returns : goal.returns
returns c =
    let past : min (length c.args.parametrics.now) (length c.args.parametric_args.now) ≤ c.parametrics.i = omega arith in
    sym (all_bound c.parametrics.bound c.args.parametrics.now c.args.parametric_args.now c.parametrics.i past) ∙ c.parametrics.invariant
