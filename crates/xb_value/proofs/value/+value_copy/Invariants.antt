use Rattle.std.proofs.Common.{◌≡◌, take}
use Rattle.xb_value.proofs.value.+value_copy.Given as goal

abbrev pub invariant-copies-parts : goal.invariant-copies-parts
invariant-copies-parts l = l.copies.items ≡ take l.part-index l.parts
