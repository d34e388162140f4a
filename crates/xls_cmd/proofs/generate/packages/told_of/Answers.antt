use Rattle.std.proofs.Common.{◌≡◌, ◌∙◌, List, ap, sym, subst, arith, map}
use Rattle.std.proofs.lemmas.List.{length-map}
use Rattle.std.proofs.lemmas.Result.{IfOk-weaker}
use Rattle.net_core.specs.Behavior.{Behavior}
use Rattle.net_core.specs.WellFormed.{AreBehaviorsOf, IsInputs, IsNet}
use Rattle.net_core.specs.declared.net.Net.{Net}
use Rattle.ir_tree.specs.Networks.{behaviors_of, head_of, network_of}
use Rattle.ir_tree.proofs.Lemmas.Rules.Typed.{network_fits, procs_fit}
use Rattle.ir_eval.specs.IrBodies.{behavior_of}
use Rattle.xls_cmd.specs.Gen.Inner.{TellsRun}
use Rattle.xls_cmd.proofs.generate.packages.told_of.Goals as goal

pub bodies_of-requires-clause-few : goal.bodies_of-requires-clause-few
bodies_of-requires-clause-few c = omega (arith, length-map c.args.ir.now.procs head_of, (network_fits c.args.ir.now c.requires.verified).few_procs)

pub told_alone-requires-clause-net : goal.told_alone-requires-clause-net
told_alone-requires-clause-net c = subst IsNet (sym (c.in_ok-net.ensures {u = tt})) (network_fits c.args.ir.now c.requires.verified)

pub told_alone-requires-clause-bodies : goal.told_alone-requires-clause-bodies
told_alone-requires-clause-bodies c =
    let bodies : map behavior_of c.as_slice.result.now ≡ behaviors_of c.args.ir.now = ap (map behavior_of) c.as_slice.ensures.value ∙ c.in_ok-bodies.ensures in
    subst (AreBehaviorsOf c.in_ok-net.net) (sym bodies)
    (subst (λ (n : Net). AreBehaviorsOf n (behaviors_of c.args.ir.now)) (sym (c.in_ok-net.ensures {u = tt})) (procs_fit c.args.ir.now))

pub told_alone-requires-clause-inputs : goal.told_alone-requires-clause-inputs
told_alone-requires-clause-inputs c = subst (λ (n : Net). IsInputs n c.args.inputs.now.words) (sym (c.in_ok-net.ensures {u = tt})) c.requires.inputs

pub returns : goal.returns
returns c =
    let words = c.args.inputs.now.words in
    let bodies : map behavior_of c.as_slice.result.now ≡ behaviors_of c.args.ir.now = ap (map behavior_of) c.as_slice.ensures.value ∙ c.in_ok-bodies.ensures in
    IfOk-weaker c.told_alone.result _ _
    (λ told is. subst (λ (b : List Behavior). TellsRun c.args.level words (network_of c.args.ir.now) b told) bodies
    (subst (λ (n : Net). TellsRun c.args.level words n (map behavior_of c.as_slice.result.now) told) (c.in_ok-net.ensures {u = tt}) is))
    c.told_alone.ensures
