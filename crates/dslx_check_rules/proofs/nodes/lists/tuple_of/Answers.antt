use Rattle.std.proofs.Common.{◌∙◌, refl, sym}
use Rattle.base.proofs.Lemmas.Lists.Prefixes.{IsPrefix-refl}
use Rattle.dslx_check_rules.specs.declared.table.row.TypeRow.TheVariants as row
use Rattle.dslx_check_rules.proofs.Lemmas.Nodes.Lists.{no_tuple_there, tuple_there, with_row_kept}
use Rattle.dslx_check_rules.proofs.nodes.lists.tuple_of.Goals as goal

pub returns-in_ok-ty-in-Some-clause-is : goal.returns-in_ok-ty-in-Some-clause-is
returns-in_ok-ty-in-Some-clause-is c = λ names later xs p parts.
    tuple_there names c.args.types.now later c.args.parts.now xs c.in-Some.all c.in_ok-ty-in-Some.ty parts (sym c.in-Some.is ∙ c.in_ok-all.ensures.is) (c.in_ok-ty-in-Some.ensures.is names later p)

pub returns-in_ok-ty-in-Some-clause-items : goal.returns-in_ok-ty-in-Some-clause-items
returns-in_ok-ty-in-Some-clause-items c = with_row_kept c.args.types.now c.tuple.new.self (row.Tuple c.in-Some.all) refl c.in_ok-ty-in-Some.ensures.rows

pub returns-in-None-clause-is : goal.returns-in-None-clause-is
returns-in-None-clause-is c = λ names later xs p parts. no_tuple_there names c.args.types.now later c.args.parts.now xs parts (sym c.in-None.is ∙ c.in_ok-all.ensures.is)

pub returns-in-None-clause-grows : goal.returns-in-None-clause-grows
returns-in-None-clause-grows c = IsPrefix-refl c.args.types.now
