use Rattle.std.proofs.Common.{◌∙◌, Some, sym, ap}
use Rattle.std.specs.Option.{option_map}
use Rattle.dslx_meaning.specs.declared.ty.DslxType.{DslxType}
use Rattle.dslx_check_rules.specs.Interned.{types_in}
use Rattle.dslx_check_rules.specs.Nodes.Nodes.Structs.{fields_of}
use Rattle.dslx_check_rules.proofs.Lemmas.Nodes.Rows.{item_by_row}
use Rattle.dslx_check_rules.proofs.nodes.structs.item_of_type.Goals as goal

pub returns-in-Some : goal.returns-in-Some
returns-in-Some c = λ names later p h.
    ap (option_map names.fields) c.item_of_row.ensures ∙ item_by_row names (types_in names later) c.in-Some.row.now ∙ ap (λ (t : DslxType). fields_of (Some t)) (sym (c.in-Some.ensures.is names later p))
