use Rattle.std.proofs.Common.{◌≤◌, min, length, ap, arith}
use Rattle.std.proofs.lemmas.List.{append-nil}
use Rattle.xb_value.specs.declared.value.Value.{Tuple}
use Rattle.ir_tree.specs.Constants.{constant_value}
use Rattle.ir_tree.proofs.EachRead.{none_left}
use Rattle.ir_tree.proofs.constant.+constant.Goals as goal

pub each_value-returns : goal.each_value-returns
each_value-returns t c =
    let over : min (length c.args.types.now) (length c.args.parts.now) ≤ c.types.i = omega arith in
    let none = none_left constant_value c.args.types.now c.args.parts.now c.types.i over in
    ap Tuple (grind (arith, none, append-nil, c.types.invariant))
