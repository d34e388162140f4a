-- What several instances come to.
use Rattle.std.specs.Prelude.{◌&&◌, Option, Some, None}
use Rattle.dslx_check_facts.specs.declared.facts.Sums.{Sums}
use Rattle.dslx_check_facts.specs.declared.lookups.Reached.{Reached}

-- these and one more, if something is known of it
abbrev pub and_sums : Reached → Option Sums → Reached
and_sums all None = all
and_sums all (Some sums) = record { sound = all.sound && sums.sound; unbroken = all.unbroken && sums.unbroken }
