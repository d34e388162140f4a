-- What a simulator writes to its numbers in a cycle: what the outside gives, and what registers take.
use Rattle.std.specs.Prelude.{◌≡◌, ℕ, ◌+◌, ◌<◌, List, [], ◌∷◌, length, slice_set, true, false, Some, None, if◌then◌else◌}
use Rattle.xb_bits.specs.Word.{Word, word}
use Rattle.vlog_tree.specs.declared.module.Set.{Set}
use Rattle.vlog_tree.specs.declared.row.Drive.{Drive}
use Rattle.vlog_tree.specs.declared.row.Drive.TheVariants.{Offer, Ready}
use Rattle.vlog_tree.specs.Value.{Values, bit, atom_value}
use Rattle.vlog_tree.specs.Settled.{values_of, settled}
use Rattle.vlog_tree.specs.declared.module.VModule.{VModule}
use Rattle.vlog_tree.specs.declared.row.Row.{Row}
use Rattle.cycle_sim.specs.Ordered.{taken}

-- the numbers after the sets were written one after another, each with its value by `values`
abbrev pub stored : List Set → Values → List Word → List Word
stored [] values words = words
stored (set ∷ sets) values words = stored sets values (slice_set words set.target.0 (atom_value values set.value))

-- the numbers after the outside drove a channel, the first of whose ports is signal `at`
abbrev pub driven : ℕ → Drive → List Word → List Word
driven at (Offer (Some w)) words = slice_set (slice_set words at w) (at + 1) (bit true)
driven at (Offer None) words = slice_set (slice_set words at (word (values_of words at).width 0)) (at + 1) (bit false)
driven at (Ready ready) words = slice_set words (at + 2) (bit ready)

-- the numbers after the outside drove these channels, the first of whose ports is signal `at`
abbrev pub all_driven : ℕ → List Drive → List Word → List Word
all_driven at [] words = words
all_driven at (drive ∷ drives) words = all_driven (at + 3) drives (driven at drive words)

-- the numbers in a cycle, before the registers take theirs
abbrev pub evaluated : VModule → List ℕ → Row → List Word → List Word
evaluated m indices row words = settled (taken m.assignments indices) (all_driven 2 row.channels (slice_set words 1 (bit row.reset)))

-- the numbers behind a cycle
abbrev pub cycled : VModule → List ℕ → Row → List Word → List Word
cycled m indices row words =
    stored (if row.reset then m.at_reset else m.at_clock) (values_of (evaluated m indices row words)) (evaluated m indices row words)
