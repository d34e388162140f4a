-- Comparisons and shifts to the right, by how words are read.
use Rattle.delay_model.specs.declared.op.Compare.{Compare}
use Rattle.delay_model.specs.declared.op.Compare.TheVariants.{Ult, Uge, Slt, Sge}
use Rattle.delay_model.specs.declared.op.Shift.{Shift}
use Rattle.delay_model.specs.declared.op.Shift.TheVariants.{Shrl, Shra}
use Rattle.dslx_core.specs.declared.expr.Sign.{Sign}
use Rattle.dslx_core.specs.declared.expr.Sign.TheVariants.{Unsigned, Signed}

abbrev pub right : Sign → Shift
right Unsigned = Shrl
right Signed = Shra

abbrev pub less : Sign → Compare
less Unsigned = Ult
less Signed = Slt

abbrev pub not_less : Sign → Compare
not_less Unsigned = Uge
not_less Signed = Sge
