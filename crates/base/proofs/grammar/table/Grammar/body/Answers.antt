use Rattle.std.proofs.Common.{arith}
use Rattle.base.proofs.OnGrammar.Tested.{body-at}
use Rattle.base.proofs.grammar.table.Grammar.body.Goals as goal

pub slice_bounds-result-count : goal.slice_bounds-result-count
slice_bounds-result-count c =
    let at = body-at c.args.self.now c.requires.valid _ _ _ _ _ c.from.ensures c.requires.within c.from-first.ensures c.from-end.ensures in
    omega (arith, at.ordered)

pub slice_bounds-result-start : goal.slice_bounds-result-start
slice_bounds-result-start c =
    let at = body-at c.args.self.now c.requires.valid _ _ _ _ _ c.from.ensures c.requires.within c.from-first.ensures c.from-end.ensures in
    omega (arith, at.ordered)

pub slice_bounds-result-end : goal.slice_bounds-result-end
slice_bounds-result-end c =
    let at = body-at c.args.self.now c.requires.valid _ _ _ _ _ c.from.ensures c.requires.within c.from-first.ensures c.from-end.ensures in
    omega (arith, at.within)

pub returns : goal.returns
returns c =
    let at = body-at c.args.self.now c.requires.valid _ _ _ _ _ c.from.ensures c.requires.within c.from-first.ensures c.from-end.ensures in
    (at.head, at.rule)
