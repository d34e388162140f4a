use Rattle.std.proofs.Common.{Some, refl, sym, ap, ◌∙◌}
use Rattle.std.proofs.lemmas.Option.{slice_get-get_or}
use Rattle.dslx_check_items.proofs.OnReaching.Reached.{by_groups}
use Rattle.dslx_check_items.proofs.reaching.Reaching.are_mutual.Goals as goal

pub returns : goal.returns
returns c = λ needs are.
    by_groups needs c.args.self.now.groups.items c.args.item c.args.other c.index.result.now c.index-2.result.now _ are.groups
    (slice_get-get_or c.args.self.now.groups.items c.args.item c.index.result.now c.requires.item ∙ ap Some (sym c.index.ensures))
    (slice_get-get_or c.args.self.now.groups.items c.args.other c.index-2.result.now c.requires.other ∙ ap Some (sym c.index-2.ensures)) refl
