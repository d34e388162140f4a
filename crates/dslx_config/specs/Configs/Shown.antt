-- Ends in a `config`, by what code has of them.
use Rattle.dslx_meaning.specs.Network.{Held}
use Rattle.dslx_config.specs.declared.configs.end.NumberedEnd.{NumberedEnd}

-- an end, with its number as the channel
abbrev pub held : NumberedEnd → Held
held e = record { name = e.name.now; channel = e.number }
