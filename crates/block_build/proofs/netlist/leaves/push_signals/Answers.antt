use Rattle.std.proofs.Common.{refl, arith}
use Rattle.block_build.specs.Netlist.Gates.{net}
use Rattle.block_build.proofs.OnNetlist.OnLiterals.{signals_more}
use Rattle.block_build.proofs.netlist.leaves.push_signals.Goals as goal

pub signals-preserved : goal.signals-preserved
signals-preserved c =
    signals_more c.args.first c.signals.i c.saturating_add-number.result (net c.saturating_add-number.result) c.signals.atoms.items c.push.new.self.items c.args.atoms.now.items
    (omega (arith, c.saturating_add-number.ensures, c.from.ensures, c.if-number-ge4294967295.false)) refl c.signals.invariant c.in_ok-push.ensures.items
