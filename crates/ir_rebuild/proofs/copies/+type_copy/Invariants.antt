use Rattle.std.proofs.Common.{◌≡◌, take}
use Rattle.ir_rebuild.proofs.copies.+type_copy.Given as goal

abbrev pub invariant-parts : goal.invariant-parts
invariant-parts l = l.copies.items ≡ take l.part-index l.part-items
