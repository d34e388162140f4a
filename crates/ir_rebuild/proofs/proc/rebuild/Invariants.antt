use Rattle.std.proofs.Common.{take}
use Rattle.ir_rebuild.specs.Walks.{EachProcRebuildsTo}
use Rattle.ir_rebuild.proofs.Packages.{AllRebuilt}
use Rattle.ir_rebuild.proofs.proc.rebuild.Given as goal

abbrev pub invariant-procs : goal.invariant-procs
invariant-procs g l =
    AllRebuilt l.fn.ir.channels (take l.proc-index l.proc-items) l.all.items
    × EachProcRebuildsTo g.R.Rewrite.marks g.R.Rewrite.gives (take l.proc-index l.proc-items) l.all.items
