use Rattle.std.proofs.Common.{◌≡◌, ◌∙◌, ap, get_or, refl}
use Rattle.base.specs.Grammar.Syntax.{rules_of}
use Rattle.dslx_token.specs.Rules.Dslx.{dslx}
use Rattle.dslx_token.specs.BracketClasses.Takers.{body_of}
use Rattle.dslx_token.proofs.OnBracketClasses.Taking.{rule_step}
use Rattle.dslx_token.proofs.bracket_classes.owners.takers.Goals as goal

pub loop-number-preserved : goal.loop-number-preserved
loop-number-preserved c =
    let same : rules_of c.grammar-grammar.result ≡ dslx.rules = ap (λ y. y.rules) c.grammar-grammar.ensures.syntax in
    rule_step dslx.rules c.args.productions.now c.loop-number.number-index (get_or c.args.productions.now c.loop-number.number-index 0) c.loop-number.ahead.items c.take_prefix.new.ahead.items c.push_body-in-loop-number.new.ahead.items c.loop-number.takers.items c.take_prefix.new.takers.items _ c.body.result.now
    c.loop-number-test.true refl c.in_ok-take_prefix.ensures.takers c.in_ok-take_prefix.ensures.ahead (c.body.ensures ∙ ap (λ rs. body_of rs (get_or c.args.productions.now c.loop-number.number-index 0)) same) c.in_ok-push_body-2.ensures c.loop-number.invariant
