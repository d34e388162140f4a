use Rattle.std.proofs.Common.{arith}
use Rattle.chan_file.specs.OutcomeText.{proc_line}
use Rattle.chan_file.proofs.Written.{lines_done}
use Rattle.chan_file.proofs.outcome.push_procs.Goals as goal

pub returns : goal.returns
returns c = lines_done (proc_line c.args.chans.now) c.args.heads.now c.args.ends.now c.procs.p _ _ (omega arith) c.procs.invariant
