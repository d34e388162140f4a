-- What is kept of faults and of sizes: the fault that is named and whether a rule is broken; and counts up to one more than there
-- may be.
use Rattle.std.specs.Prelude.{ℕ, List, min, Option, Some, None}
use Rattle.std.specs.Option.{option_map}
use Rattle.xb_span.specs.declared.fault.Fault.{Fault}
use Rattle.xb_span.specs.Fault.{earlier, first_of}
use Rattle.dslx_meaning.specs.Rules.TypeEnvs.{has_broken}
use Rattle.dslx_check_rules.specs.declared.faults.Faults.{Faults}

abbrev pub seen : List Fault → Faults
seen faults = record { first = first_of faults; broken = has_broken faults }

-- the one of two that is named
abbrev pub named : Option Fault → Option Fault → Option Fault
named held None = held
named held (Some fault) = earlier held fault

-- one more than the most nodes
abbrev pub most_counted : ℕ
most_counted = 65537

abbrev pub capped : Option ℕ → Option ℕ
capped size = option_map (min most_counted) size
