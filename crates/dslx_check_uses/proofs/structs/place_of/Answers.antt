use Rattle.std.proofs.Common.{◌∙◌, ap, sym}
use Rattle.std.specs.Option.{option_map}
use Rattle.dslx_meaning.specs.Lists.{and_then, index_in}
use Rattle.dslx_check_facts.specs.Known.{item_names}
use Rattle.dslx_check_uses.proofs.structs.place_of.Goals as goal

pub returns-in-Some : goal.returns-in-Some
returns-in-Some c = λ later p h.
    let names = item_names c.args.f.now in
    c.place_in_item.ensures ∙ ap (λ o. and_then o (index_in c.args.name.now)) (sym (ap (option_map names.fields) c.in-Some.is) ∙ c.struct_item.ensures names later p h)

pub returns-in-None : goal.returns-in-None
returns-in-None c = λ later p h.
    let names = item_names c.args.f.now in
    ap (λ o. and_then o (index_in c.args.name.now)) (sym (ap (option_map names.fields) c.in-None.is) ∙ c.struct_item.ensures names later p h)
