use Rattle.std.proofs.Common.{◌≡◌, ◌-◌, drop, length}
use Rattle.std.specs.Prelude.{flat_map}
use Rattle.dslx_check_items.specs.Inner.Walks.{binding}
use Rattle.dslx_check_items.specs.Inner.Parts.{pattern_names}
use Rattle.dslx_check_items.specs.Inner.Plain.{walk_shown}
use Rattle.dslx_check_items.proofs.binds.+bind.Given as goal

abbrev pub invariant-bind_patterns-patterns : goal.invariant-bind_patterns-patterns
invariant-bind_patterns-patterns l = walk_shown l.w ≡ binding (flat_map pattern_names (drop (length l.patterns - l.i) l.patterns)) (walk_shown l.initial.w)
