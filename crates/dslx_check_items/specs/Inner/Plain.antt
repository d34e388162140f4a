-- The walk without references.
use Rattle.std.specs.Prelude.{map}
use Rattle.dslx_check_items.specs.Shown.{mention_shown}
use Rattle.dslx_check_items.specs.Inner.Walks.{MentionWalk}
use Rattle.dslx_check_items.specs.declared.walk.Walk.{Walk}

abbrev pub walk_shown : Walk → MentionWalk
walk_shown w = record { found = map mention_shown w.found.items; bound = w.bound }
