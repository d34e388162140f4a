use Rattle.std.proofs.Common.{refl, subst, ap, arith, length}
use Rattle.std.specs.Prelude.{slice_get}
use Rattle.base.specs.Grammar.Derivation.{IsSentence}
use Rattle.base.specs.Lists.Fault.{IsFirstFault}
use Rattle.vlog_text.specs.Token.Rules.Verilog.{verilog}
use Rattle.vlog_text.proofs.OnParser.OneTree.{fault_at, kinds_length}
use Rattle.vlog_text.proofs.parser.reader.refusal.Goals as goal

pub start_of-requires : goal.start_of-requires
start_of-requires c = omega (arith, c.requires.within, ap length c.requires.same, kinds_length c.args.tokens.now)

pub returns : goal.returns
returns c =
    fault_at c.args.tokens.now c.args.place c.start_of.result (slice_get c.args.tokens.now c.args.place) refl
    (omega (arith, c.requires.within, ap length c.requires.same, kinds_length c.args.tokens.now)) c.start_of.ensures
    (subst (λ ks. IsFirstFault (IsSentence verilog) ks c.args.place) c.requires.same c.requires.fault)
