use Rattle.std.proofs.Common.{◌≡◌, ◌∙◌, ◌++◌, ◌∷◌, [], List, ap, sym, map, length, get_or, arith}
use Rattle.std.specs.Prelude.{slice_get}
use Rattle.net_core.specs.Behavior.{Behavior}
use Rattle.dslx_core.specs.Designs.{core_behaviors, core_family}
use Rattle.dslx_interp.specs.Network.DslxBodies.{behavior_of}
use Rattle.dslx_interp.proofs.OnNetwork.OnBody.Numbers.{as_many, instance_found, keeps_found, map_one_more, proc_there, take_all, take_one_more}
use Rattle.dslx_interp.proofs.network.bodies.bodies_of.Goals as goal

pub instance_at-instance-requires : goal.instance_at-instance-requires
instance_at-instance-requires c =
    let design = c.args.design.now in
    let h = proc_there design.procs c.args.instances.now (core_family design).procs c.requires.instances c.procs.number c.procs-test.true in
    ((h.proc).instance, ap (λ is. slice_get is (get_or c.args.instances.now c.procs.number 0)) c.as_slice-procs.ensures ∙ h.instance)

pub new-requires-clause-is : goal.new-requires-clause-is
new-requires-clause-is c =
    let design = c.args.design.now in
    let n = get_or c.args.instances.now c.procs.number 0 in
    let h = proc_there design.procs c.args.instances.now (core_family design).procs c.requires.instances c.procs.number c.procs-test.true in
    instance_found design c.procs.number n c.instance_at-instance.result.now h (ap (λ is. slice_get is n) (sym c.as_slice-procs.ensures) ∙ c.instance_at-instance.ensures)

pub new-requires-clause-words : goal.new-requires-clause-words
new-requires-clause-words c =
    let design = c.args.design.now in
    let n = get_or c.args.instances.now c.procs.number 0 in
    c.requires.words n c.instance_at-instance.result.now (ap (λ is. slice_get is n) (sym c.as_slice-procs.ensures) ∙ c.instance_at-instance.ensures)

pub new-requires-clause-keeps : goal.new-requires-clause-keeps
new-requires-clause-keeps c =
    let design = c.args.design.now in
    let n = get_or c.args.instances.now c.procs.number 0 in
    let h = proc_there design.procs c.args.instances.now (core_family design).procs c.requires.instances c.procs.number c.procs-test.true in
    keeps_found design c.procs.number n c.instance_at-instance.result.now h (ap (λ is. slice_get is n) (sym c.as_slice-procs.ensures) ∙ c.instance_at-instance.ensures) c.requires.keep

pub procs-preserved : goal.procs-preserved
procs-preserved c =
    let body = c.new.result in
    ap (map behavior_of) c.in_ok-push.ensures.items
    ∙ (map_one_more behavior_of c.procs.bodies.items body
    ∙ (ap (λ (bs : List Behavior). bs ++ behavior_of body ∷ []) c.procs.invariant
    ∙ sym (take_one_more (core_behaviors c.args.design.now) c.procs.number (behavior_of body) c.new.ensures)))

pub returns : goal.returns
returns c =
    let design = c.args.design.now in
    let whole : length (core_behaviors design) ≡ c.procs.number = omega (arith, as_many design c.args.instances.now c.requires.instances, c.procs-test.false, c.procs.auto.number-end) in
    c.procs.invariant ∙ take_all (core_behaviors design) c.procs.number whole
