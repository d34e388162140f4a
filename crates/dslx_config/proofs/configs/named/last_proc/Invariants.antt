use Rattle.std.proofs.Common.{◌≡◌, None, drop}
use Rattle.std.specs.Option.{option_copied}
use Rattle.dslx_meaning.specs.Network.{last_proc_of}
use Rattle.dslx_config.proofs.configs.named.last_proc.Given as goal

abbrev pub invariant-items : goal.invariant-items
invariant-items l = last_proc_of (drop l.item-index l.items) (option_copied l.last) ≡ last_proc_of l.items None
