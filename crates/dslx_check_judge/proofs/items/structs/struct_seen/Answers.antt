use Rattle.std.proofs.lemmas.Result.{IfOk-weaker}
use Rattle.dslx_check_judge.proofs.OnItems.OnStructs.{struct_named}
use Rattle.dslx_check_judge.proofs.items.structs.struct_seen.Goals as goal

pub returns : goal.returns
returns c = IfOk-weaker c.struct_of.result _ _
    (λ j h. struct_named c.args.structure.now c.new-s.ensures c.as_slice-fields.ensures c.as_slice.ensures.value c.in_ok-seen.ensures c.has_none.ensures c.breaks_if-own.ensures c.and.ensures h) c.struct_of.ensures
