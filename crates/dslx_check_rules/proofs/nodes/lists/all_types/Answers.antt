use Rattle.std.proofs.Common.{◌∙◌, ◌<◌, Option, Some, None, length, map, take, arith, sym, ap, subst}
use Rattle.std.specs.List.{All}
use Rattle.std.proofs.lemmas.List.{get_or-map, length-map, map_more}
use Rattle.std.proofs.lemmas.List.Elements.{All-push}
use Rattle.dslx_meaning.specs.Lists.{all_some}
use Rattle.dslx_check_rules.specs.Interned.{HasRow}
use Rattle.dslx_check_rules.specs.declared.table.row.TypeId.{TypeId}
use Rattle.dslx_check_rules.specs.declared.nodes.parts.Spanned.{Spanned}
use Rattle.dslx_check_rules.proofs.Lemmas.Nodes.Lists.{one_missing, there_next}
use Rattle.dslx_check_rules.proofs.nodes.lists.all_types.Goals as goal

pub returns-in-None-clause-is : goal.returns-in-None-clause-is
returns-in-None-clause-is c =
    let f : Spanned → Option TypeId = λ (part : Spanned). part.typing.ty in
    let within : c.parts.part-index < length c.args.parts.now = omega arith in
    sym (one_missing (map f c.args.parts.now) c.parts.part-index None (omega (arith, within, length-map c.args.parts.now f)) (get_or-map f c.args.parts.now c.parts.part-index _ None within ∙ c.in-None.is))

pub parts-preserved : goal.parts-preserved
parts-preserved c =
    let f : Spanned → Option TypeId = λ (part : Spanned). part.typing.ty in
    let within : c.parts.part-index < length c.args.parts.now = omega arith in
    record {
      found = ap all_some (map_more f c.args.parts.now c.parts.part-index _ within)
          ∙ there_next (map f (take c.parts.part-index c.args.parts.now)) c.parts.all.items _ c.in_ok-ty-in-Some.ty c.parts.invariant.found (c.in-Some.is ∙ ap Some (sym c.in_ok-ty-in-Some.ensures.same))
          ∙ ap Some (sym c.in_ok-push-in-Some.ensures.items);
      rows = subst (All (HasRow c.args.types.now)) (sym c.in_ok-push-in-Some.ensures.items)
          (All-push (HasRow c.args.types.now) c.parts.all.items c.in_ok-ty-in-Some.ty c.parts.invariant.rows c.in_ok-ty-in-Some.ensures.there);
    }
