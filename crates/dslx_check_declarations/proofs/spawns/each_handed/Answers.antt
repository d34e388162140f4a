use Rattle.std.proofs.Common.{◌≡◌, ◌∙◌, ◌<◌, ◌≤◌, length, map, min, take, arith, ap}
use Rattle.dslx_meaning.specs.Rules.ProcRules as the
use Rattle.dslx_check_rules.specs.Interned.{HasRowIf, type_if}
use Rattle.dslx_check_rules.specs.Seen.{seen}
use Rattle.dslx_check_declarations.specs.Spawns.{one_handed}
use Rattle.dslx_check_declarations.proofs.OnSpawns.{at_all, handed_all, handed_next, place_read}
use Rattle.dslx_check_declarations.proofs.spawns.each_handed.Goals as goal

pub ends-preserved : goal.ends-preserved
ends-preserved c = λ names later m distinct p means rows.
    let words = c.args.words.now in
    let ends = c.args.ends.now in
    let idents = c.args.idents.now in
    let i = c.ends.i in
    let w = c.word_at-word.result in
    let e = c.index-ends-i.result in
    let x = c.index-idents-i.result in
    let g = type_if names later in
    let there = place_read words i w (omega (arith, c.lesser-both.ensures, c.lesser-count.ensures)) c.word_at-word.ensures in
    c.and-faults.ensures (the.handed_faults m (map g (take i words)) ends idents) (one_handed m (g w) e x) (c.ends.invariant names later m distinct p means rows)
    (c.handed_fault-own.ensures names later m distinct p means (at_all (HasRowIf c.args.types.now) words i w rows (omega (arith, c.lesser-both.ensures, c.lesser-count.ensures)) there))
    ∙ ap seen (handed_next g m words ends idents i w e x (omega (arith, c.lesser-both.ensures, c.lesser-count.ensures)) (omega (arith, c.lesser-both.ensures, c.lesser-count.ensures)) (omega (arith, c.lesser-count.ensures)) there c.index-ends-i.is c.index-idents-i.is)

pub returns : goal.returns
returns c = λ names later m distinct p means rows.
    c.ends.invariant names later m distinct p means rows
    ∙ ap seen (handed_all (type_if names later) m c.args.words.now c.args.ends.now c.args.idents.now c.ends.i (omega (arith, c.lesser-both.ensures, c.lesser-count.ensures)))
