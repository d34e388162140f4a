use Rattle.std.proofs.Common.{Some, sym, ap, ◌∙◌}
use Rattle.std.proofs.lemmas.Option.{slice_get-get_or}
use Rattle.dslx_check_items.proofs.reaching.Reaching.is_looping.Goals as goal

pub returns : goal.returns
returns c = λ needs are.
    are.loops c.args.item c.index.result.now (slice_get-get_or c.args.self.now.loops.items c.args.item c.index.result.now c.requires ∙ ap Some (sym c.index.ensures))
