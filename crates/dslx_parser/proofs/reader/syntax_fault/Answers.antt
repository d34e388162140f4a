use Rattle.std.proofs.Common.{refl, subst, ap, arith, length}
use Rattle.std.specs.Prelude.{slice_get}
use Rattle.base.specs.Grammar.Derivation.{IsSentence}
use Rattle.base.specs.Lists.Fault.{IsFirstFault}
use Rattle.dslx_token.specs.Rules.Dslx.{dslx}
use Rattle.dslx_parser.proofs.OneTree.{fault_at, kinds_length}
use Rattle.dslx_parser.proofs.reader.syntax_fault.Goals as goal

pub start_of-requires : goal.start_of-requires
start_of-requires c = omega (arith, c.requires.inside, ap length c.requires.same, kinds_length c.args.tokens.now)

pub returns : goal.returns
returns c =
    fault_at c.args.tokens.now c.args.place c.start_of.result (slice_get c.args.tokens.now c.args.place) refl
    (omega (arith, c.requires.inside, ap length c.requires.same, kinds_length c.args.tokens.now)) c.start_of.ensures
    (subst (λ ks. IsFirstFault (IsSentence dslx) ks c.args.place) c.requires.same c.requires.fault) c.requires.within
