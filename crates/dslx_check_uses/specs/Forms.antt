-- Forms of calls: effects by their directions and how many arguments they have, functions of the text, and builtins.
use Rattle.dslx_tree.specs.declared.process.Direction.TheVariants.{In, Out}
use Rattle.dslx_meaning.specs.Callees.{CallKind, AllOnes, Calls, CountsLeading, CountsTrailing, Joins, Parity, Receives, ReceivesIf, Reverses, Sends, SendsIf, SomeOne, Updates}
use Rattle.dslx_check_uses.specs.declared.forms.CallForm.{CallForm}
use Rattle.dslx_check_uses.specs.declared.forms.CallForm.TheVariants as form

abbrev pub form_by : CallKind → CallForm
form_by Receives = form.Effect In 2
form_by ReceivesIf = form.Effect In 4
form_by Sends = form.Effect Out 3
form_by SendsIf = form.Effect Out 4
form_by Calls = form.Function
form_by Joins = form.Builtin
form_by CountsLeading = form.Builtin
form_by CountsTrailing = form.Builtin
form_by Reverses = form.Builtin
form_by AllOnes = form.Builtin
form_by SomeOne = form.Builtin
form_by Parity = form.Builtin
form_by Updates = form.Builtin
