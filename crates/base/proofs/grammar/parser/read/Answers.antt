use Rattle.std.proofs.Common.{◌∙◌, ◌∷◌, ap, reverse, arith}
use Rattle.std.proofs.lemmas.List.{nil_from_length}
use Rattle.base.proofs.OnGrammar.Stepping.{leads-start, popped, terminal-yes, terminal-no, choice-none, nothing-left, leads-more, cost-less}
use Rattle.base.proofs.grammar.parser.read.Goals as goal

pub loop-symbol-init : goal.loop-symbol-init
loop-symbol-init c = leads-start c.args.grammar.now c.requires.valid c.args.kind _ _ c.requires.left

pub returns-in-Terminal-clause-yes : goal.returns-in-Terminal-clause-yes
returns-in-Terminal-clause-yes c =
    terminal-yes c.args.grammar.now c.args.kind c.in-Terminal.wanted _ _ _ _ _ c.loop-symbol.invariant (popped _ _ _ c.in-Some.ensures.items ∙ ap (λ x. x ∷ reverse c.pop.new.self.items) c.in-Terminal.is)

pub returns-in-Terminal-clause-no : goal.returns-in-Terminal-clause-no
returns-in-Terminal-clause-no c =
    terminal-no c.args.grammar.now c.requires.valid c.args.kind c.in-Terminal.wanted _ _ _ _ _ c.loop-symbol.invariant (popped _ _ _ c.in-Some.ensures.items ∙ ap (λ x. x ∷ reverse c.pop.new.self.items) c.in-Terminal.is)

pub returns-in_default-choose-clause-no : goal.returns-in_default-choose-clause-no
returns-in_default-choose-clause-no c =
    choice-none c.args.grammar.now c.requires.valid c.args.kind c.in-Nonterminal.nonterminal _ _ _ _ _ c.loop-symbol.invariant (popped _ _ _ c.in-Some.ensures.items ∙ ap (λ x. x ∷ reverse c.pop.new.self.items) c.in-Nonterminal.is) c.in_default-choose.ensures.none

pub loop-symbol-smaller : goal.loop-symbol-smaller
loop-symbol-smaller c =
    cost-less c.args.grammar.now c.requires.valid c.args.kind c.in-Nonterminal.nonterminal c.in-Some-choose.number _ _ _ _ _ (popped _ _ _ c.in-Some.ensures.items ∙ ap (λ x. x ∷ reverse c.pop.new.self.items) c.in-Nonterminal.is) c.in-Some-choose.ensures.some c.body.ensures.1 c.in_ok-push_reversed-in-Nonterminal.ensures

pub loop-symbol-preserved : goal.loop-symbol-preserved
loop-symbol-preserved c =
    leads-more c.args.grammar.now c.requires.valid c.args.kind c.in-Nonterminal.nonterminal c.in-Some-choose.number _ _ _ _ _ _ _ _ _ c.loop-symbol.invariant (popped _ _ _ c.in-Some.ensures.items ∙ ap (λ x. x ∷ reverse c.pop.new.self.items) c.in-Nonterminal.is) c.in-Some-choose.ensures.some c.body.ensures.1 c.in_ok-push_reversed-in-Nonterminal.ensures c.in_ok-push-in-Nonterminal.ensures.items

pub returns-clause-no : goal.returns-clause-no
returns-clause-no c =
    nothing-left c.args.grammar.now c.requires.valid c.args.kind _ _ _ _ c.loop-symbol.invariant
    (ap reverse (nil_from_length c.loop-symbol.stack.items (omega (arith, c.in_default.ensures.cases, c.loop-symbol.stack.ok.0))))
