use Rattle.std.proofs.Common.{◌≡◌, take}
use Rattle.base.specs.Lists.Indexed.{indexed}
use Rattle.net_core.specs.declared.net.Chan.{Chan}
use Rattle.net_core.specs.Cuts.{index_of}
use Rattle.proc_task.specs.Outcome.Places.{head_sends}
use Rattle.proc_runner.proofs.start.senders.Given as goal

abbrev pub invariant-loop-c : goal.invariant-loop-c
invariant-loop-c l = l.procs.items ≡ indexed (λ c (chan : Chan). index_of (head_sends c) l.net.procs) 0 (take l.c l.net.chans)
