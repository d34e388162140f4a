use Rattle.std.proofs.Common.{◌+◌, ◌*◌, ◌^◌, ◌<◌, ◌∙◌, arith}
use Rattle.xb_bits.proofs.BitLemmas.{reversed_fits, reversed_more, reversed_room, reversed_done}
use Rattle.xb_bits.proofs.bit_positions.reversed.Goals as goal

pub overflow_mul-bits : goal.overflow_mul-bits
overflow_mul-bits c =
    let fits : c.bit_positions.bits * 2 + 1 < 2 ^ 128 =
    reversed_fits c.bit_positions.counter c.args.width c.bit_positions.bits c.bit_positions-test.true c.requires c.bit_positions.invariant.below in
    omega arith

pub overflow_add-bits : goal.overflow_add-bits
overflow_add-bits c =
    let fits : c.bit_positions.bits * 2 + 1 < 2 ^ 128 =
    reversed_fits c.bit_positions.counter c.args.width c.bit_positions.bits c.bit_positions-test.true c.requires c.bit_positions.invariant.below in
    omega arith

pub bit_positions-preserved : goal.bit_positions-preserved
bit_positions-preserved c = record {
  same =
      reversed_more c.args.width c.bit_positions.counter c.bit_positions.bits c.bit_positions.rest c.bit_positions-test.true ∙ c.bit_positions.invariant.same;
  below = reversed_room c.bit_positions.counter c.bit_positions.bits c.bit_positions.rest c.bit_positions.invariant.below;
}

pub returns : goal.returns
returns c = reversed_done _ _ _ _ _ c.bit_positions.auto.counter-end c.bit_positions-test.false c.bit_positions.invariant.same
