use Rattle.std.proofs.Common.{sym, ap, ◌∙◌, arith}
use Rattle.dslx_core.specs.declared.expr.Shape as shape
use Rattle.ir_lower_nodes.proofs.OnPatterns.OnBound.{on_ok, grown_none, grown_twice, bound_binds, tuple_binds, binds_first, binds_step, binds_last}
use Rattle.ir_lower_nodes.proofs.patterns.binding.+bind.Goals as goal

pub bind-returns-in-Bound-clause-binds : goal.bind-returns-in-Bound-clause-binds
bind-returns-in-Bound-clause-binds t c =
    on_ok c.bind_one.result _ _
    (λ e. bound_binds c.args.nodes.now c.args.a c.args.slots.now.items c.bind_one.new.slots.items c.args.shape.now c.in-Bound.is e)
    c.bind_one.ensures

pub bind-returns-in-Tuple-clause-binds : goal.bind-returns-in-Tuple-clause-binds
bind-returns-in-Tuple-clause-binds t c =
    on_ok c.bind_each.result _ _
    (λ call. tuple_binds c.args.nodes.now c.bind_each.new.nodes c.args.a c.args.slots.now.items c.bind_each.new.slots.items c.args.shape.now c.as_slice.result.now (c.in-Tuple.is ∙ ap shape.Tuple (sym c.as_slice.ensures)) call)
    c.bind_each.ensures.binds

pub bind_each-shapes-init : goal.bind_each-shapes-init
bind_each-shapes-init t c = (grown_none c.args.slots.now.items, binds_first c.args.nodes.now c.args.tuple c.args.slots.now.items c.args.shapes.now)

pub bind_each-shapes-preserved : goal.bind_each-shapes-preserved
bind_each-shapes-preserved t c = (
  grown_twice c.args.slots.now.items c.shapes.slots.items c.bind.new.slots.items c.shapes.invariant.0 c.in_ok-bind.ensures.kept,
  binds_step c.args.nodes.now c.shapes.nodes c.element.new.self c.bind.new.nodes c.args.tuple c.in_ok-part.part c.args.slots.now.items c.shapes.slots.items c.bind.new.slots.items c.shapes.i c.index-shapes-i.result c.args.shapes.now
      c.shapes-test.true c.index-shapes-i.is c.shapes.invariant.1 c.in_ok-part.ensures c.in_ok-bind.ensures.binds,
)

pub bind_each-returns-clause-kept : goal.bind_each-returns-clause-kept
bind_each-returns-clause-kept t c = c.shapes.invariant.0

pub bind_each-returns-clause-binds : goal.bind_each-returns-clause-binds
bind_each-returns-clause-binds t c = binds_last c.args.nodes.now c.shapes.nodes c.args.tuple c.args.slots.now.items c.shapes.slots.items c.shapes.i c.args.shapes.now (omega (arith, c.shapes-test.false, c.shapes.auto.i-end)) c.shapes.invariant.1
