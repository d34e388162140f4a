use Rattle.std.proofs.Common.{arith, ◌∙◌, sym}
use Rattle.std.proofs.lemmas.Bool.{false≢true}
use Rattle.base.proofs.OnGrammar.Choosing.{none-below-start, none-below-more, none-below-end, no-span, choice-at, span-at, number-within, production-at, absent}
use Rattle.base.proofs.grammar.table.Grammar.choose.Goals as goal
use Rattle.base.proofs.grammar.table.Grammar.choose.Goals.{else-production-nonterminal-via-then-production-nonterminal+else-is_taken_before, else-production-nonterminal-via-else-production-nonterminal}

pub returns-in_default-clause-none : goal.returns-in_default-clause-none
returns-in_default-clause-none c = no-span c.args.self.now c.requires c.args.nonterminal c.args.kind (absent c.args.self.now c.args.nonterminal _ c.from.ensures c.in_default.ensures.lookup.3)

pub loop-number-init : goal.loop-number-init
loop-number-init c =
    let got = c.in-Some.ensures.lookup in
    let at = span-at c.args.self.now c.args.nonterminal _ c.in-Some.field-0.now c.from.ensures got.3.0 got.1 in
    none-below-start c.args.self.now c.requires c.args.nonterminal c.args.kind c.in-Some.field-0.now at

pub bounds-self-from : goal.bounds-self-from
bounds-self-from c =
    let got = c.in-Some.ensures.lookup in
    let at = span-at c.args.self.now c.args.nonterminal _ c.in-Some.field-0.now c.from.ensures got.3.0 got.1 in
    let lt = number-within c.args.self.now c.requires c.args.nonterminal c.loop-number.number c.in-Some.field-0.now at c.loop-number-test.true in
    omega (arith, lt, c.from-in-loop-number.ensures)

pub returns-then-is_taken_before-clause-some : goal.returns-then-is_taken_before-clause-some
returns-then-is_taken_before-clause-some c =
    let got = c.in-Some.ensures.lookup in
    let at = span-at c.args.self.now c.args.nonterminal _ c.in-Some.field-0.now c.from.ensures got.3.0 got.1 in
    let lt = number-within c.args.self.now c.requires c.args.nonterminal c.loop-number.number c.in-Some.field-0.now at c.loop-number-test.true in
    choice-at c.args.self.now c.args.nonterminal c.args.kind c.loop-number.number _ (production-at c.args.self.now c.loop-number.number _ _ c.from-in-loop-number.ensures lt) c.if-production-nonterminal.true (c.is_taken_before.ensures.0 c.if-is_taken_before.true)

pub loop-number-preserved : goal.loop-number-preserved
loop-number-preserved c =
    let got = c.in-Some.ensures.lookup in
    let at = span-at c.args.self.now c.args.nonterminal _ c.in-Some.field-0.now c.from.ensures got.3.0 got.1 in
    let lt = number-within c.args.self.now c.requires c.args.nonterminal c.loop-number.number c.in-Some.field-0.now at c.loop-number-test.true in
    let here = production-at c.args.self.now c.loop-number.number _ (record { head = 0; first = 0; end = 0; chosen = 0 }) c.from-in-loop-number.ensures lt in
    elim c.else-production-nonterminal.branch [
      | else-production-nonterminal-via-then-production-nonterminal+else-is_taken_before w ↦
          none-below-more c.args.self.now c.args.nonterminal c.args.kind c.loop-number.number _ here c.loop-number.invariant
          (λ head has. false≢true (sym w.if-is_taken_before.false ∙ w.is_taken_before.ensures.1 has))
      | else-production-nonterminal-via-else-production-nonterminal w ↦
          none-below-more c.args.self.now c.args.nonterminal c.args.kind c.loop-number.number _ here c.loop-number.invariant
          (λ head has. w.if-production-nonterminal.false head)
    ]

pub returns-clause-none : goal.returns-clause-none
returns-clause-none c =
    let got = c.in-Some.ensures.lookup in
    let at = span-at c.args.self.now c.args.nonterminal _ c.in-Some.field-0.now c.from.ensures got.3.0 got.1 in
    none-below-end c.args.self.now c.requires c.args.nonterminal c.args.kind c.loop-number.number c.in-Some.field-0.now at c.loop-number-test.false c.loop-number.invariant
