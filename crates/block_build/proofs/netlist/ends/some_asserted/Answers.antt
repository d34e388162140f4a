use Rattle.std.proofs.Common.{get_or, arith}
use Rattle.block_build.specs.Netlist.Literals.{literal_atom}
use Rattle.block_build.proofs.OnNetlist.OnRequests.{get_same, some_step, some_done}
use Rattle.block_build.proofs.netlist.ends.some_asserted.Goals as goal

pub sites-preserved : goal.sites-preserved
sites-preserved c =
    some_step c.args.wires.now c.sites.wires c.some_more.new.wires c.args.channel c.args.sends c.args.proc.sites.now c.args.proc.shaken.now c.sites.i (literal_atom 1 0) c.sites.some c.in_ok-some.some (get_or c.args.proc.sites.now c.sites.i c.index-proc-i.result) (get_or c.args.proc.shaken.now c.sites.i c.index-proc-i-in-sites.result)
    (omega (arith, c.sites-test.true, c.min-count.ensures)) (omega (arith, c.sites-test.true, c.min-count.ensures)) (get_same c.args.proc.sites.now c.sites.i _ _ (omega (arith, c.sites-test.true, c.min-count.ensures))) (get_same c.args.proc.shaken.now c.sites.i _ _ (omega (arith, c.sites-test.true, c.min-count.ensures))) c.sites.invariant c.in_ok-some.ensures.signal c.in_ok-some.ensures.puts

pub returns-clause-signal : goal.returns-clause-signal
returns-clause-signal c =
    (some_done c.args.wires.now c.sites.wires c.args.channel c.args.sends c.args.proc.sites.now c.args.proc.shaken.now c.sites.i (literal_atom 1 0) c.sites.some (omega (arith, c.sites-test.false, c.min-count.ensures)) c.sites.invariant).0

pub returns-clause-puts : goal.returns-clause-puts
returns-clause-puts c =
    (some_done c.args.wires.now c.sites.wires c.args.channel c.args.sends c.args.proc.sites.now c.args.proc.shaken.now c.sites.i (literal_atom 1 0) c.sites.some (omega (arith, c.sites-test.false, c.min-count.ensures)) c.sites.invariant).1
