-- Builtins by what they do with their operands.
use Rattle.std.specs.Prelude.{List, true, false, map}
use Rattle.xb_span.specs.declared.span.Span.{Span}
use Rattle.dslx_tree.specs.declared.expr.Expr.{Expr}
use Rattle.dslx_meaning.specs.Callees.{AllOnes, CallKind, Calls, CountsLeading, CountsTrailing, Joins, Parity, Receives, ReceivesIf, Reverses, Sends, SendsIf, SomeOne, Updates}
use Rattle.dslx_meaning.specs.Rules.CallRules.{joining, updating}
use Rattle.dslx_meaning.specs.Rules.TypeEnvs.{Judgement, TypeEnv, all_alone}
use Rattle.dslx_check_leaves.specs.Named.Constants.{expr_typed}
use Rattle.dslx_check_leaves.specs.Typed.{counting_at}
use Rattle.dslx_check_parts.specs.declared.builtins.BuiltinForm.{BuiltinForm}
use Rattle.dslx_check_parts.specs.declared.builtins.BuiltinForm.TheVariants as form

abbrev pub builtin_form_of : CallKind → BuiltinForm
builtin_form_of Joins = form.Join
builtin_form_of Updates = form.Update
builtin_form_of CountsLeading = form.Count false
builtin_form_of CountsTrailing = form.Count false
builtin_form_of Reverses = form.Count false
builtin_form_of _ = form.Count true

abbrev pub builtin_by_form : BuiltinForm → Span → List Expr → TypeEnv → Judgement
builtin_by_form form.Join span es context = joining span context (map expr_typed es)
builtin_by_form form.Update span es context = updating span (map expr_typed es) (all_alone context (map expr_typed es))
builtin_by_form (form.Count gives_bool) span es context = counting_at gives_bool span es context
