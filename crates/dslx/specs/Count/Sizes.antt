-- Sizes of networks: how many procs and channels they have, each number up to one more than there may be.
use Rattle.std.specs.Prelude.{◌+◌, min, nat_lt, Option, Some, None, if◌then◌else◌}
use Rattle.xb_span.specs.declared.fault.Fault.{Fault}
use Rattle.xb_span.specs.declared.fault.Fault.TheVariants.{Whole}
use Rattle.xb_span.specs.declared.limit.What.TheVariants as what
use Rattle.dslx_meaning.specs.Rules.NetworkLimits.{Count}
use Rattle.dslx.specs.declared.count.size.NetworkSize.{NetworkSize}

-- at most 256 procs, and at most 1,024 channels
abbrev pub size_of_count : Count → NetworkSize
size_of_count n = record { procs = min 257 n.procs; channels = min 1025 n.channels }

abbrev pub both_sizes : NetworkSize → NetworkSize → NetworkSize
both_sizes a b = record { procs = min 257 (a.procs + b.procs); channels = min 1025 (a.channels + b.channels) }

-- the limit that is passed; procs come first
abbrev pub limit_passed : NetworkSize → Option Fault
limit_passed s =
    if nat_lt 256 s.procs then Some (Whole (record { what = what.Procs; found = 257; most = 256 }))
    else if nat_lt 1024 s.channels then Some (Whole (record { what = what.Channels; found = 1025; most = 1024 }))
    else None
