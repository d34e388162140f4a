use Rattle.std.proofs.Common.{◌++◌, refl}
use Rattle.dslx_check_judge.proofs.OnItems.OnEnums as on
use Rattle.dslx_check_judge.proofs.items.enums.enum_parts.Goals as goal

pub returns : goal.returns
returns c = on.enum_parts c.args.choice.now c.base_if_bits-of.result c.new-s.ensures c.as_slice-all.ensures c.in_ok-base.ensures c.base_if_bits-of.ensures.is c.base_if_bits-of.ensures.there c.in_ok-faults.ensures c.as_slice.ensures.value c.in_ok-own.ensures
    (λ fs gs hs a b d. c.and-faults.ensures (fs ++ gs) hs (c.and-both.ensures fs gs a b) d) refl refl refl
