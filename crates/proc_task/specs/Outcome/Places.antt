-- The procs at the ends of a channel, by the heads of a network.
use Rattle.std.specs.Prelude.{ℕ, Bool, ◌&&◌, ◌==◌, not}
use Rattle.std.specs.List.{list_any}
use Rattle.net_core.specs.declared.net.ProcHead.{ProcHead}
use Rattle.net_core.specs.declared.net.Site.{Site}

-- a proc with this head sends on channel c, or receives from it
abbrev pub head_sends : ℕ → ProcHead → Bool
head_sends c head = list_any (λ (site : Site). site.sends && (site.chan == c)) head.sites

abbrev pub head_receives : ℕ → ProcHead → Bool
head_receives c head = list_any (λ (site : Site). not site.sends && (site.chan == c)) head.sites
