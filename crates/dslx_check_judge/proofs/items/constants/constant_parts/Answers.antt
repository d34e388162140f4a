use Rattle.std.proofs.Common.{◌++◌, refl}
use Rattle.dslx_check_judge.proofs.OnItems.OnConstants as on
use Rattle.dslx_check_judge.proofs.Lemmas.Items.OnTrees.{constant_walked}
use Rattle.dslx_check_judge.proofs.items.constants.constant_parts.Goals as goal

pub returns : goal.returns
returns c = on.constant_parts c.args.own.now c.new-s.ensures c.in_ok-written.ensures (constant_walked c.args.own.now.value c.in_ok-typing.ensures) c.annotation_of-by.ensures c.written_faults-first.ensures
    (λ fs gs hs a b d. c.and-faults.ensures (fs ++ gs) hs (c.and-both.ensures fs gs a b) d) c.if_fine-value.ensures refl refl
