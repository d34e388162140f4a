use Rattle.std.proofs.Common.{◌≡◌, ◌∙◌, [], length, sym}
use Rattle.std.specs.Option.{option_map}
use Rattle.std.proofs.lemmas.Result.{IfOk-weaker}
use Rattle.dslx_meaning.specs.Items.{meanings_of}
use Rattle.dslx_core.specs.Machines.Machine.Callees.{CalleesByName}
use Rattle.dslx_scope_names.specs.Numbers.InScope.{arguments_of, arguments_shown, globals_with, locals_in_scope}
use Rattle.dslx_scope_names.proofs.OnParametricArgs.Located.{are_in_scope, are_not_in_scope, arguments_with, types_there}
use Rattle.dslx_scope_names.proofs.parametric_args.arguments.arguments_there.Goals as goal

pub returns-in-Some : goal.returns-in-Some
returns-in-Some c =
    IfOk-weaker c.scope_arguments.result (λ found. found ≡ option_map (arguments_with c.in-Some.types (length c.args.arguments.now)) (locals_in_scope (meanings_of c.args.text.now) c.args.arguments.now c.in-Some.types [] 0))
    (λ found. (callee : CalleesByName) → arguments_shown callee c.args.text.now c.args.parametric_args.now found ≡ arguments_of (globals_with callee c.args.text.now c.args.parametric_args.now) c.args.arguments.now)
    (λ found is callee. are_in_scope callee c.args.text.now c.args.parametric_args.now c.args.arguments.now c.in-Some.types found
    (sym c.in-Some.is ∙ c.in_ok-types.ensures callee ∙ types_there (globals_with callee c.args.text.now c.args.parametric_args.now) _ c.args.arguments.now c.new-locals.ensures) is)
    c.scope_arguments.ensures

pub returns : goal.returns
returns c = λ callee.
    are_not_in_scope callee c.args.text.now c.args.parametric_args.now c.args.arguments.now
    (sym c.in-None.is ∙ c.in_ok-types.ensures callee ∙ types_there (globals_with callee c.args.text.now c.args.parametric_args.now) _ c.args.arguments.now c.new-locals.ensures)
