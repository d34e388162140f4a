use Rattle.std.proofs.Common.{Some, None}
use Rattle.dslx_scope_names.proofs.OnPatterns.InScope.{in_scope}
use Rattle.dslx_scope_names.proofs.patterns.there.shape_there.Goals as goal

pub returns-in-Some : goal.returns-in-Some
returns-in-Some c =
    in_scope c.args.pattern.now c.args.ty.now (record { context = c.args.context; count = c.args.count }) c.new-fresh.result c.pattern_shape.new.fresh c.in_ok-shape.field-0 (Some c.in-Some.shape)
    c.types_and_patterns_know_no_calls.ensures.pattern c.new-fresh.ensures c.in_ok-shape.ensures c.in-Some.is

pub returns-in-None : goal.returns-in-None
returns-in-None c =
    in_scope c.args.pattern.now c.args.ty.now (record { context = c.args.context; count = c.args.count }) c.new-fresh.result c.pattern_shape.new.fresh c.in_ok-shape.field-0 None
    c.types_and_patterns_know_no_calls.ensures.pattern c.new-fresh.ensures c.in_ok-shape.ensures c.in-None.is
