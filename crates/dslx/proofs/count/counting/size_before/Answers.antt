use Rattle.std.proofs.Common.{◌∙◌, sym, arith}
use Rattle.dslx.proofs.OnCount.OnLookups.{none_left, passed_one, there}
use Rattle.dslx.proofs.count.counting.size_before.Goals as goal

pub sizes-preserved : goal.sizes-preserved
sizes-preserved c =
    let found = c.in-Some.ensures.lookup in
    passed_one c.args.order.now c.args.sizes.now c.args.instance.now c.sizes.i c.in-Some.other.now c.sizes-test.true (there c.args.order.now c.sizes.i c.in-Some.other.now found.3.0 found.1) (sym c.is_same.ensures ∙ c.if-is_same.false) c.sizes.invariant

pub returns : goal.returns
returns c = c.nothing-2.ensures ∙ none_left c.args.order.now c.args.sizes.now c.args.instance.now c.sizes.i (omega (arith, c.sizes-test.false)) c.sizes.invariant
