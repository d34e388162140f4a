use Rattle.std.proofs.Common.{◌≡◌, ◌∙◌, sym}
use Rattle.std.proofs.lemmas.Result.{IfOk-weaker}
use Rattle.dslx_tree.specs.declared.expr.For.{out-For}
use Rattle.dslx_meaning.specs.Lists.{and_then}
use Rattle.dslx_meaning.specs.Values.{bits_of}
use Rattle.dslx_core.specs.Lowering.CoreScopes.{constant_at}
use Rattle.dslx_core.specs.Machines.Machine.Bodies.{scope_in}
use Rattle.dslx_instance.specs.Tasks.Shown.{body_shown, instance_env_of}
use Rattle.dslx_instance_arms.proofs.Both.{both_missing, both_there}
use Rattle.dslx_instance_arms.proofs.turns.begin_between.Goals as goal

pub returns-in-Some : goal.returns-in-Some
returns-in-Some c = IfOk-weaker c.begin_turns.result _ _
    (λ is h table. h table ∙ both_there
    (and_then (constant_at (scope_in (instance_env_of c.args.text.now table) (body_shown c.args.body.now)) (out-For c.args.turns.now).from) bits_of)
    (and_then (constant_at (scope_in (instance_env_of c.args.text.now table) (body_shown c.args.body.now)) (out-For c.args.turns.now).to) bits_of)
    _ _ _ (sym c.in-Some.is ∙ c.in_ok-from.ensures table))
    c.begin_turns.ensures

pub returns-in-None : goal.returns-in-None
returns-in-None c = λ table. both_missing
    (and_then (constant_at (scope_in (instance_env_of c.args.text.now table) (body_shown c.args.body.now)) (out-For c.args.turns.now).from) bits_of)
    (and_then (constant_at (scope_in (instance_env_of c.args.text.now table) (body_shown c.args.body.now)) (out-For c.args.turns.now).to) bits_of)
    _ (sym c.in-None.is ∙ c.in_ok-from.ensures table)
