use Rattle.std.proofs.Common.{◌≡◌, length, drop, map}
use Rattle.std.specs.List.{list_all}
use Rattle.ir_tree.specs.Types.{arrays_of}
use Rattle.ir_tree.specs.NodeTypes.Constants.{constant_fits, each_fits, base_of}
use Rattle.ir_tree.specs.NodeTypes.Inner.Scaled.{own_fits}
use Rattle.ir_tree.proofs.node_types.constants.+fits.Given as goal

abbrev pub invariant-all_fit-parts : goal.invariant-all_fit-parts
invariant-all_fit-parts l =
    let test = constant_fits (arrays_of l.sizes (base_of l.ty)) in
    list_all test l.parts ≡ list_all test (drop l.part-index l.parts)

abbrev pub invariant-each_fits-parts : goal.invariant-each_fits-parts
invariant-each_fits-parts l =
    record {
      same_length : length l.parts ≡ length l.types;
      same_rest : each_fits (map own_fits l.types) l.parts ≡ each_fits (map own_fits (drop l.i l.types)) (drop l.i l.parts);
    }
