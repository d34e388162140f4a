use Rattle.std.proofs.Common.{◌∙◌, [], ap, map, sym}
use Rattle.std.specs.Option.{option_copied}
use Rattle.dslx_meaning.specs.Items.{name_of_field}
use Rattle.dslx_meaning.specs.Lists.{index_in}
use Rattle.dslx_check_facts.specs.Known.{text_of}
use Rattle.dslx_check_facts.specs.Names.{field_names}
use Rattle.dslx_check_uses.proofs.OnFields.{fields_apart}
use Rattle.dslx_check_uses.proofs.structs.place_in_item.Goals as goal

pub returns-in-Some : goal.returns-in-Some
returns-in-Some c =
    c.field_place.ensures ∙ ap (λ l. index_in c.args.name.now (map name_of_field l)) c.as_slice.ensures ∙ ap (λ o. index_in c.args.name.now (field_names o)) (sym (ap option_copied c.in-Some.is) ∙ c.struct_at.ensures)
    ∙ ap (index_in c.args.name.now) (sym (fields_apart [] (text_of c.args.f.now).items c.args.item))

pub returns-in-None : goal.returns-in-None
returns-in-None c =
    ap (λ o. index_in c.args.name.now (field_names o)) (sym (ap option_copied c.in-None.is) ∙ c.struct_at.ensures)
    ∙ ap (index_in c.args.name.now) (sym (fields_apart [] (text_of c.args.f.now).items c.args.item))
