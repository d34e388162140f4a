use Rattle.std.proofs.Common.{◌∙◌, map, ap}
use Rattle.std.specs.Str.{bytes_eq}
use Rattle.dslx_meaning.specs.Items.{name_of_field}
use Rattle.dslx_meaning.specs.Lists.{pairwise}
use Rattle.std.proofs.lemmas.Result.{IfOk-weaker}
use Rattle.dslx_check_declarations.proofs.OnValueTypes.{struct_named}
use Rattle.dslx_check_declarations.proofs.value_types.struct_there.Goals as goal

pub returns-then-are_fields : goal.returns-then-are_fields
returns-then-are_fields c = IfOk-weaker c.if_struct.result _ _
    (λ t h. struct_named c.args.parts.now c.args.name.now c.args.fields.now c.in-Some.structure.now c.in-Some.ensures (c.are_fields.ensures ∙ ap (λ l. pairwise bytes_eq c.args.fields.now (map name_of_field l)) c.as_slice.ensures) c.if-are_fields.true h) c.if_struct.ensures
