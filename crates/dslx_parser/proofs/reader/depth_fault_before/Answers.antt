use Rattle.std.proofs.Common.{◌∙◌, ap, subst, take}
use Rattle.base.specs.Grammar.Derivation.{IsBeginning, IsSentence}
use Rattle.base.specs.Lists.Fault.{IsFirstFault}
use Rattle.dslx_token.specs.Rules.Dslx.{dslx}
use Rattle.dslx_parser.proofs.OneTree.{fault_deep}
use Rattle.dslx_parser.proofs.reader.depth_fault_before.Goals as goal

pub returns : goal.returns
returns c =
    fault_deep c.args.tokens.now c.args.place c.args.productions.now c.args.front.now c.args.deep (c.requires.front ∙ ap (take c.args.place) c.requires.same)
    (subst (λ ks. IsFirstFault (IsSentence dslx) ks c.args.place) c.requires.same c.requires.fault)
    (subst (λ ks. IsBeginning dslx c.args.productions.now (take c.args.place ks)) c.requires.same c.requires.so_far) c.requires.deep
