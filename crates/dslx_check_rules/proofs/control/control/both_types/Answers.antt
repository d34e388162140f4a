use Rattle.std.proofs.Common.{◌∙◌, ◌∷◌, [], List, Some, map, refl, sym, ap, subst}
use Rattle.std.specs.List.{All}
use Rattle.std.proofs.lemmas.List.Elements.{All-from_recursion}
use Rattle.dslx_meaning.specs.declared.ty.DslxType as ty
use Rattle.dslx_check_rules.specs.Interned.{HasRow, type_at}
use Rattle.dslx_check_rules.specs.declared.table.row.TypeId.{TypeId}
use Rattle.dslx_check_rules.specs.declared.table.row.TypeRow.TheVariants as row
use Rattle.dslx_check_rules.proofs.Lemmas.Nodes.Lists.{with_row_kept}
use Rattle.dslx_check_rules.proofs.control.control.both_types.Goals as goal

pub tuple-requires : goal.tuple-requires
tuple-requires c =
    subst (All (HasRow c.args.types.now)) (sym c.in_ok-parts.ensures)
    (All-from_recursion (HasRow c.args.types.now) (c.in_ok-first.first ∷ c.in_ok-second.second ∷ []) (c.in_ok-first.ensures.there, (c.in_ok-second.ensures.there, tt)))

pub returns-clause-is : goal.returns-clause-is
returns-clause-is c = λ names later p.
    ap Some (c.in_ok-ty.ensures.is names later p ∙ ap (λ (ts : List TypeId). ty.Tuple (map (type_at names later) ts)) c.in_ok-parts.ensures
    ∙ (λ i. ty.Tuple (type_at names later (c.in_ok-first.ensures.same i) ∷ type_at names later (c.in_ok-second.ensures.same i) ∷ [])))

pub returns-clause-items : goal.returns-clause-items
returns-clause-items c = with_row_kept c.args.types.now c.tuple.new.self (row.Tuple c.in_ok-parts.parts) refl c.in_ok-ty.ensures.rows
