use Rattle.std.proofs.Common.{sym, subst}
use Rattle.base.specs.Grammar.Derivation.{IsDerivation}
use Rattle.ir_builder.specs.Token.Rules.Ir.{ir}
use Rattle.ir_text.proofs.OnParser.OneTree.{deep_sentence}
use Rattle.ir_text.proofs.parser.reader.depth_fault.Goals as goal

pub returns : goal.returns
returns c =
    deep_sentence c.args.tokens.now c.args.productions.now c.args.deep
    (subst (λ ks. IsDerivation ir c.args.productions.now ks) c.requires.same c.requires.derived) (sym c.requires.deep)
