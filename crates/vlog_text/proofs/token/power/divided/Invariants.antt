use Rattle.std.proofs.Common.{◌^◌}
use Rattle.vlog_text.proofs.OnToken.Powers.{AreDivided}
use Rattle.vlog_text.proofs.token.power.divided.Given as goal

abbrev pub invariant-digits : goal.invariant-digits
invariant-digits l = AreDivided l.digits (2 ^ l.power) l.digit-index l.quotient.items l.rest
