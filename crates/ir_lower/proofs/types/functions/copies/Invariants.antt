use Rattle.std.proofs.Common.{◌≡◌, take}
use Rattle.ir_lower.proofs.types.functions.copies.Given as goal

abbrev pub invariant-types : goal.invariant-types
invariant-types l = l.copies.items ≡ take l.ty-index l.types
