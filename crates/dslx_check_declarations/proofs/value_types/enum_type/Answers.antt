use Rattle.std.proofs.lemmas.Result.{IfOk-weaker}
use Rattle.dslx_check_declarations.proofs.OnValueTypes.{enum_named}
use Rattle.dslx_check_declarations.proofs.value_types.enum_type.Goals as goal

pub returns-in_ok-ty-in-Some : goal.returns-in_ok-ty-in-Some
returns-in_ok-ty-in-Some c = IfOk-weaker c.if_enum.result _ _ (λ t h. enum_named c.args.name.now c.args.signed c.args.word.width c.in-Some.ensures c.kind_of.ensures h) c.if_enum.ensures
