use Rattle.ir_text.specs.Parser.Texts.{accepted}
use Rattle.ir_text.proofs.OnParser.OnePackage.{fault_given}
use Rattle.ir_text.proofs.OnParser.Verdicts.{verified_anywhere}
use Rattle.ir_text.proofs.parser.read.read.Goals as goal

pub returns-in-Ok-check-clause-gives : goal.returns-in-Ok-check-clause-gives
returns-in-Ok-check-clause-gives c = accepted c.in-Ok.spanned c.in-Ok.ensures.shows c.in-Ok-check.ensures.ok

pub returns-in-Ok-check-clause-verified : goal.returns-in-Ok-check-clause-verified
returns-in-Ok-check-clause-verified c = verified_anywhere c.in-Ok.spanned.tree c.in-Ok.spanned.line_spans c.in-Ok-check.ensures.ok

pub returns-in-Err-check-clause-refused : goal.returns-in-Err-check-clause-refused
returns-in-Err-check-clause-refused c = fault_given c.args.text.now c.in-Ok.spanned c.in-Err-check.error c.in-Ok.ensures.shows c.in-Err-check.ensures.refused
