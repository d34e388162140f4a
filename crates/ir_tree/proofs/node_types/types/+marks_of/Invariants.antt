use Rattle.std.proofs.Common.{◌≡◌, ◌||◌, ◌&&◌, drop, map}
use Rattle.ir_tree.specs.NodeTypes.Types.{marks_of, any_bits, any_token, all_sound}
use Rattle.ir_tree.proofs.node_types.types.+marks_of.Given as goal

abbrev pub invariant-parts : goal.invariant-parts
invariant-parts l =
    let all = map marks_of l.part-items in
    let left = map marks_of (drop l.part-index l.part-items) in
    record {
      bits : any_bits all ≡ (l.marks.bits || any_bits left);
      token : any_token all ≡ (l.marks.token || any_token left);
      sound : all_sound all ≡ (l.marks.sound && all_sound left);
    }
