use Rattle.std.proofs.Common.{◌≡◌, ◌∙◌, ap, sym, subst, arith, map}
use Rattle.std.proofs.lemmas.List.{length-map}
use Rattle.std.proofs.lemmas.Result.{IfOk-weaker}
use Rattle.net_core.specs.WellFormed.{AreBehaviorsOf, IsNet}
use Rattle.ir_tree.specs.Networks.{behaviors_of, head_of}
use Rattle.ir_tree.proofs.Lemmas.Rules.Typed.{network_fits, procs_fit}
use Rattle.ir_eval.specs.IrBodies.{behavior_of}
use Rattle.xls_cmd.specs.Design.Written.{depths_by, run_text}
use Rattle.xls_cmd.proofs.ir.run.run_package_alone.Goals as goal

pub bodies_of-requires-clause-few : goal.bodies_of-requires-clause-few
bodies_of-requires-clause-few c = omega (arith, length-map c.args.ready.now.ir.procs head_of, (network_fits c.args.ready.now.ir c.requires.fits.verified).few_procs)

pub run_text_alone-requires-clause-net : goal.run_text_alone-requires-clause-net
run_text_alone-requires-clause-net c = subst IsNet (sym c.requires.fits.network) (network_fits c.args.ready.now.ir c.requires.fits.verified)

pub run_text_alone-requires-clause-bodies : goal.run_text_alone-requires-clause-bodies
run_text_alone-requires-clause-bodies c =
    let bodies : map behavior_of c.as_slice.result.now ≡ behaviors_of c.args.ready.now.ir = ap (map behavior_of) c.as_slice.ensures.value ∙ c.in_ok-bodies.ensures in
    subst (AreBehaviorsOf c.args.ready.now.net) (sym bodies)
    (subst (λ n. AreBehaviorsOf n (behaviors_of c.args.ready.now.ir)) (sym c.requires.fits.network) (procs_fit c.args.ready.now.ir))

pub returns : goal.returns
returns c =
    let net = c.args.ready.now.net in
    let bodies : map behavior_of c.as_slice.result.now ≡ behaviors_of c.args.ready.now.ir = ap (map behavior_of) c.as_slice.ensures.value ∙ c.in_ok-bodies.ensures in
    IfOk-weaker c.run_text_alone.result _ _
    (λ text is. is ∙ ap (λ b. run_text net b c.args.ready.now.inputs c.args.how.activations (depths_by c.args.how.depth net)) bodies)
    c.run_text_alone.ensures
