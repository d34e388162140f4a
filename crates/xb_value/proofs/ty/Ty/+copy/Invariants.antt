use Rattle.std.proofs.Common.{◌≡◌, take}
use Rattle.xb_value.proofs.ty.Ty.+copy.Given as goal

abbrev pub invariant-parts : goal.invariant-parts
invariant-parts l = l.copies.items ≡ take l.part-index l.part-items
