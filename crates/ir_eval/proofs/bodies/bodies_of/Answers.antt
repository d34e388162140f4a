use Rattle.std.proofs.Common.{◌≡◌, ◌∙◌, ◌++◌, ◌∷◌, [], List, ap, sym, map, length, arith}
use Rattle.std.proofs.lemmas.List.{length-map}
use Rattle.net_core.specs.Behavior.{Behavior}
use Rattle.ir_tree.specs.Activations.{activation}
use Rattle.ir_tree.specs.Networks.{behaviors_of}
use Rattle.ir_eval.specs.IrBodies.{behavior_of}
use Rattle.ir_eval.proofs.OneMore.{map_one_more, take_all, take_one_more}
use Rattle.ir_eval.proofs.bodies.bodies_of.Goals as goal

pub procs-preserved : goal.procs-preserved
procs-preserved c =
    let body = c.new.result in
    ap (map behavior_of) c.in_ok-push.ensures.items
    ∙ (map_one_more behavior_of c.procs.bodies.items body
    ∙ (ap (λ (bs : List Behavior). bs ++ behavior_of body ∷ []) c.procs.invariant
    ∙ sym (take_one_more (behaviors_of c.args.ir.now) c.procs.number (behavior_of body) c.new.ensures)))

pub returns : goal.returns
returns c =
    let ir = c.args.ir.now in
    let whole : length (behaviors_of ir) ≡ c.procs.number = omega (arith, length-map ir.procs (activation ir.channels), c.requires.few) in
    c.procs.invariant ∙ take_all (behaviors_of ir) c.procs.number whole
