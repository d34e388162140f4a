use Rattle.std.proofs.Common.{◌≡◌, length}
use Rattle.ir_lower.specs.Inner.Made.{AreLowered}
use Rattle.ir_lower.proofs.procs.procs_of.Given as goal

abbrev pub invariant-procs : goal.invariant-procs
invariant-procs l =
    record {
      count : length l.procs.items ≡ l.number;
      each : AreLowered l.signatures l.design l.made.net.chans l.made.instances.items l.procs.items;
    }
