use Rattle.std.proofs.Common.{ap, ◌∙◌}
use Rattle.block_build.specs.Netlist.Literals.{literal_atom}
use Rattle.block_build.proofs.OnNetlist.OnOperating.{longer_put, sign_extended_named}
use Rattle.block_build.proofs.netlist.operators.extend.Goals as goal

pub returns-in_ok-longer-in-Zero : goal.returns-in_ok-longer-in-Zero
returns-in_ok-longer-in-Zero c =
    longer_put c.simple.result c.args.wires.now c.named.new.self c.simple.new.self c.args.operation c.args.all c.args.width c.args.a c.zeros.result c.in_ok-signal.signal c.in_ok-longer-in-Zero.longer
    c.in-Zero.is c.in_ok-signal.ensures c.in_ok-longer-in-Zero.ensures (c.zeros.ensures ∙ ap (λ n. literal_atom n 0) c.saturating_sub.ensures) c.simple.ensures

pub returns-in-Sign : goal.returns-in-Sign
returns-in-Sign c =
    sign_extended_named c.sign_extended.result c.args.wires.now c.named.new.self c.sign_extended.new.wires c.args.operation c.args.all c.args.width c.args.a c.in_ok-signal.signal
    c.in-Sign.is c.in_ok-signal.ensures c.sign_extended.ensures
