use Rattle.std.proofs.lemmas.Result.{IfOk-weaker}
use Rattle.dslx_check_uses.proofs.OnFields.{declared_from, undeclared_from}
use Rattle.dslx_check_uses.proofs.structs.struct_of.Goals as goal

pub returns-in_ok-ty-in-Some : goal.returns-in_ok-ty-in-Some
returns-in_ok-ty-in-Some c =
    let ty = c.in_ok-ty-in-Some.ensures in
    IfOk-weaker c.declared_struct.result _ _ (λ j from. declared_from c.args.name.now c.in-Some.ensures ty.misses ty.row ty.structure c.is_cyclic-is_cyclic.ensures from) c.declared_struct.ensures

pub returns-in-None : goal.returns-in-None
returns-in-None c = IfOk-weaker c.undeclared_struct.result _ _ (λ j from. undeclared_from c.args.name.now c.args.fields.now c.in-None.ensures from) c.undeclared_struct.ensures
