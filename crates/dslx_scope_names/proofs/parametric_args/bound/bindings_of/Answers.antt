use Rattle.std.proofs.Common.{◌≤◌, ◌∙◌, min, length, map, reverse, sym, arith}
use Rattle.dslx_meaning.specs.Names.Bound.{given}
use Rattle.dslx_scope_names.proofs.Lemmas.Numbers.InOrder.{all_bound}
use Rattle.dslx_scope_names.proofs.parametric_args.bound.bindings_of.Goals as goal

pub returns : goal.returns
returns c =
    let past : min (length c.args.parametrics.now) (length c.args.parametric_args.now) ≤ c.parametrics.i = omega arith in
    sym (all_bound (reverse (map given c.parametrics.bound.items)) c.args.parametrics.now c.args.parametric_args.now c.parametrics.i past) ∙ c.parametrics.invariant
