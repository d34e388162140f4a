use Rattle.std.proofs.Common.{ap, ◌∙◌, arith}
use Rattle.block_build.specs.Netlist.Gates.{net}
use Rattle.block_build.specs.Netlist.Operators.{part_of}
use Rattle.block_build.proofs.OnNetlist.OnOperating.{sign_extended_put, not_longer}
use Rattle.block_build.proofs.netlist.operators.sign_extended.Goals as goal

pub returns-then-width-all : goal.returns-then-width-all
returns-then-width-all c = λ v h. (h, λ longer most. not_longer v c.args.all c.args.width (net c.args.signal.0) c.if-width-all.true longer)

pub returns : goal.returns
returns c =
    sign_extended_put c.driven.result c.args.wires.now c.simple.new.self c.driven.new.self c.args.all c.args.width c.args.signal c.in_ok-sign.sign c.zeros.result c.ones.result c.part.result c.in_ok-negative.negative c.in_ok-positive.positive
    (c.part.ensures (omega (arith, c.ranges.all.fits, c.saturating_sub.ensures)) ∙ ap (λ n. part_of c.args.all c.args.signal.0 n 1) c.saturating_sub.ensures)
    c.in_ok-sign.ensures c.in_ok-negative.ensures c.in_ok-positive.ensures c.zeros.ensures c.ones.ensures (omega (arith, c.if-width-all.false)) c.driven.ensures
