use Rattle.std.proofs.Common.{◌≡◌, ◌∙◌, ◌<◌, Some, None, length, take, arith, refl, sym, ap, subst}
use Rattle.std.specs.List.{All}
use Rattle.std.proofs.lemmas.List.Elements.{All-push}
use Rattle.std.proofs.lemmas.List.{take_more}
use Rattle.dslx_meaning.specs.Lists.{all_some}
use Rattle.dslx_check_rules.specs.Interned.{HasRow}
use Rattle.dslx_check_rules.proofs.Lemmas.Nodes.Lists.{one_missing, there_next}
use Rattle.dslx_check_declarations.proofs.structs.all_there.Goals as goal

pub returns-in-None-clause-is : goal.returns-in-None-clause-is
returns-in-None-clause-is c =
    let within : c.types.ty-index < length c.args.types.now = omega arith in
    sym (one_missing c.args.types.now c.types.ty-index _ within c.in-None.is)

pub types-preserved : goal.types-preserved
types-preserved c =
    let within : c.types.ty-index < length c.args.types.now = omega arith in
    record {
      found = ap all_some (take_more c.args.types.now c.types.ty-index _ within)
          ∙ there_next (take c.types.ty-index c.args.types.now) c.types.all.items _ c.in_ok-ty-in-Some.ty c.types.invariant.found (c.in-Some.is ∙ ap Some (sym c.in_ok-ty-in-Some.ensures.same))
          ∙ ap Some (sym c.in_ok-push-in-Some.ensures.items);
      rows = subst (All (HasRow c.args.table.now)) (sym c.in_ok-push-in-Some.ensures.items)
          (All-push (HasRow c.args.table.now) c.types.all.items c.in_ok-ty-in-Some.ty c.types.invariant.rows c.in_ok-ty-in-Some.ensures.there);
    }
