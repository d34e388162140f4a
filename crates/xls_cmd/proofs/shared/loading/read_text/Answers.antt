use Rattle.std.proofs.Common.{sym, arith, ap, ◌∙◌}
use Rattle.xb_span.specs.declared.read_error.ReadError.TheVariants.{Syntax}
use Rattle.xls_cmd.specs.declared.shared.fault.Fault.TheVariants.{Text}
use Rattle.std.proofs.Common.{Ok, Err}
use Rattle.xls_cmd.proofs.OnShared.Loaded.{text_is_whole, text_is_odd}
use Rattle.xls_cmd.proofs.shared.loading.read_text.Goals as goal

pub overflow_cast-at : goal.overflow_cast-at
overflow_cast-at c = omega (arith, c.in-Err.ensures.cases.1.short)

pub returns-in-Ok-clause-found : goal.returns-in-Ok-clause-found
returns-in-Ok-clause-found c = ap Ok c.in-Ok.ensures.cases.0 ∙ sym (text_is_whole c.args.name.now c.args.bytes.now c.in-Ok.ensures.cases.1)

pub returns-in-Err-clause-refused : goal.returns-in-Err-clause-refused
returns-in-Err-clause-refused c = (
  ap (λ at. Err (Text c.args.name.now (Syntax at))) (c.valid_up_to.ensures ∙ c.in-Err.ensures.valid_len)
      ∙ sym (text_is_odd c.args.name.now c.args.bytes.now c.in-Err.ensures.cases.0),
  tt,
)
