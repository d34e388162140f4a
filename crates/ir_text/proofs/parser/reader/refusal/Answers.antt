use Rattle.std.proofs.Common.{◌∙◌, sym, subst}
use Rattle.base.specs.Grammar.Derivation.{IsSentence}
use Rattle.base.specs.Lists.Fault.{IsFirstFault}
use Rattle.ir_builder.specs.Token.Rules.Ir.{ir}
use Rattle.ir_text.proofs.OnParser.OneTree.{deep_before}
use Rattle.ir_text.proofs.parser.reader.refusal.Goals as goal

pub returns-then-deep-place : goal.returns-then-deep-place
returns-then-deep-place c =
    deep_before c.args.tokens.now c.in-Some.deep c.args.place
    (subst (λ ks. IsFirstFault (IsSentence ir) ks c.args.place) c.requires.same c.requires.fault)
    (sym c.requires.deep ∙ c.in-Some.is) c.if-deep-place.true
