use Rattle.std.proofs.Common.{◌∙◌, map, ap, refl}
use Rattle.std.proofs.lemmas.Bool.Decides.{Decides-eqb}
use Rattle.std.specs.Str.{bytes_eq}
use Rattle.dslx_meaning.specs.Items.{name_of_field}
use Rattle.dslx_meaning.specs.Lists.{pairwise}
use Rattle.dslx_check_facts.proofs.OnTypedValues.{struct_named}
use Rattle.dslx_check_facts.proofs.typed_values.is_structure.Goals as goal

pub returns-then-meant-item : goal.returns-then-meant-item
returns-then-meant-item c = λ so. struct_named c.args.name.now c.args.fields.now c.in-Some.structure.now c.in-Some.ensures refl ((Decides-eqb c.in-Some.meant c.args.item).1 c.if-meant-item.true) (c.are_fields.ensures ∙ ap (λ l. pairwise bytes_eq c.args.fields.now (map name_of_field l)) c.as_slice.ensures) so
