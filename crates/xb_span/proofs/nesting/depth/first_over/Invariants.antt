use Rattle.std.proofs.Common.{◌≡◌, drop}
use Rattle.std.specs.List.{position_from}
use Rattle.xb_span.specs.Nesting.Nesting.{first_past, is_past, nestings_from}
use Rattle.xb_span.proofs.nesting.depth.first_over.Given as goal

abbrev pub invariant-loop-index : goal.invariant-loop-index
invariant-loop-index l = first_past l.bracket_classes ≡ position_from is_past l.index (nestings_from l.around (drop l.index l.bracket_classes))
