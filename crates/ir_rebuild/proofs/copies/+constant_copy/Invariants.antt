use Rattle.std.proofs.Common.{◌≡◌, take}
use Rattle.ir_rebuild.proofs.copies.+constant_copy.Given as goal

abbrev pub invariant-constants_copy-parts : goal.invariant-constants_copy-parts
invariant-constants_copy-parts l = l.copies.items ≡ take l.part-index l.parts
