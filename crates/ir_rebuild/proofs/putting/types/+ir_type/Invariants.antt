use Rattle.std.proofs.Common.{◌≡◌, take, map}
use Rattle.ir_rebuild.specs.Putting.Types.{ir_type_of}
use Rattle.ir_rebuild.proofs.putting.types.+ir_type.Given as goal

abbrev pub invariant-parts : goal.invariant-parts
invariant-parts l = l.types.items ≡ map ir_type_of (take l.part-index l.part-items)
