use Rattle.std.proofs.Common.{subst}
use Rattle.base.specs.Grammar.Derivation.{IsDerivation}
use Rattle.dslx_token.specs.Rules.Dslx.{dslx}
use Rattle.dslx_parser.proofs.OneTree.{sentence_within}
use Rattle.dslx_parser.proofs.reader.nests_within.Goals as goal

pub returns : goal.returns
returns c =
    sentence_within c.one_derivation.ensures c.args.tokens.now c.args.productions.now c.args.kinds.now c.requires.same
    (subst (λ ks. IsDerivation dslx c.args.productions.now ks) c.requires.same c.requires.derived) c.requires.none
