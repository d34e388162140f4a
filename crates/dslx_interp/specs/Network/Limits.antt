-- The limits of a network.
use Rattle.std.specs.Prelude.{ℕ, nat_lt, length, Option, Some, None, if◌then◌else◌}
use Rattle.xb_span.specs.declared.limit.Limit.{Limit}
use Rattle.xb_span.specs.declared.limit.What.TheVariants as what
use Rattle.net_core.specs.declared.net.Net.{Net}

-- the limit that so many procs and channels pass, if they pass one: 256 procs, and then 1,024 channels. Named is one more than there may be
abbrev pub limit_passed : ℕ → ℕ → Option Limit
limit_passed procs chans =
    if nat_lt 256 procs then Some (record { what = what.Procs; found = 257; most = 256 })
    else if nat_lt 1024 chans then Some (record { what = what.Channels; found = 1025; most = 1024 })
    else None

-- the limit that a network passes
abbrev pub network_limit : Net → Option Limit
network_limit net = limit_passed (length net.procs) (length net.chans)
