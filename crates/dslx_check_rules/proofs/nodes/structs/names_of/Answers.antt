use Rattle.std.proofs.Common.{◌≡◌, ◌∙◌, ◌<◌, ◌||◌, true, is_some, length, map, take, get_or, arith, sym, ap}
use Rattle.std.specs.Str.{bytes_eq}
use Rattle.std.proofs.lemmas.List.{map_more}
use Rattle.base.specs.NameTable.Found.{found}
use Rattle.dslx_meaning.specs.Lists.{is_in}
use Rattle.dslx_meaning.specs.Items.{name_of_field}
use Rattle.dslx_check_rules.proofs.OnNodes.OnFields.{is_in_next, seen_next}
use Rattle.dslx_check_rules.proofs.nodes.structs.names_of.Goals as goal

pub fields-preserved : goal.fields-preserved
fields-preserved c = λ name.
    let within : c.fields.field-index < length c.args.fields.now = omega arith in
    let key : c.as_str.result.now ≡ name_of_field (get_or c.args.fields.now c.fields.field-index c.field-item.result) = c.as_str.ensures ∙ ap name_of_field c.field-item.is in
    ap is_some (c.in_ok-put_new.ensures name) ∙ seen_next (found c.fields.names name) (bytes_eq name c.as_str.result.now) true
    ∙ (λ i. c.fields.invariant name i || bytes_eq name (key i))
    ∙ sym (ap (is_in name) (map_more name_of_field c.args.fields.now c.fields.field-index c.field-item.result within)
    ∙ is_in_next name (map name_of_field (take c.fields.field-index c.args.fields.now)) (name_of_field (get_or c.args.fields.now c.fields.field-index c.field-item.result)))
