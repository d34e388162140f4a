use Rattle.std.proofs.Common.{◌≡◌, length, drop, map}
use Rattle.ir_tree.specs.NodeTypes.Types.{same_type, each_same}
use Rattle.ir_tree.proofs.node_types.types.+same.Given as goal

abbrev pub invariant-same_types-types : goal.invariant-same_types-types
invariant-same_types-types l =
    record {
      same_length : length l.types ≡ length l.others;
      same_rest : each_same (map same_type l.types) l.others ≡ each_same (map same_type (drop l.i l.types)) (drop l.i l.others);
    }
