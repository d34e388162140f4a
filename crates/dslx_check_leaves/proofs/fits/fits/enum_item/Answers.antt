use Rattle.std.proofs.Common.{◌∙◌, sym, ap}
use Rattle.std.specs.Option.{option_map}
use Rattle.dslx_meaning.specs.declared.ty.DslxType.{DslxType, out-DslxType}
use Rattle.dslx_check_rules.specs.Interned.{types_in}
use Rattle.dslx_check_leaves.proofs.fits.fits.enum_item.Goals as goal
use Rattle.dslx_check_leaves.specs.Fits.Fits.{enum_name}
use Rattle.dslx_check_leaves.proofs.OnFits.OnMatches.{enum_by_row}

pub returns-in-Some : goal.returns-in-Some
returns-in-Some c = λ names later p h.
    ap (λ (t : DslxType). enum_name (out-DslxType t)) (c.in-Some.ensures.is names later p) ∙ enum_by_row names (types_in names later) c.in-Some.row.now ∙ ap (option_map names.item) (sym c.enum_of_row.ensures)
