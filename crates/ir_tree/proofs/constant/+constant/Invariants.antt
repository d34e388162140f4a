use Rattle.std.proofs.Common.{◌≡◌, ◌++◌, take, drop, map}
use Rattle.ir_tree.specs.Constants.{constant_value, each_read}
use Rattle.ir_tree.proofs.constant.+constant.Given as goal

abbrev pub invariant-each_value-types : goal.invariant-each_value-types
invariant-each_value-types l = l.values.items ++ each_read (map constant_value (drop l.i l.types)) (drop l.i l.parts) ≡ each_read (map constant_value l.types) l.parts

abbrev pub invariant-all_values-parts : goal.invariant-all_values-parts
invariant-all_values-parts l = l.values.items ≡ map (constant_value l.ty) (take l.part-index l.parts)
