use Rattle.std.proofs.Common.{◌≤◌, List, length, map, sym, ap, ◌∙◌, subst, arith}
use Rattle.std.proofs.lemmas.List.{take_all}
use Rattle.net_core.specs.Behavior.{Behavior}
use Rattle.net_core.specs.WellFormed.{AreBehaviorsOf}
use Rattle.net_tests.specs.declared.held.Held.{Held}
use Rattle.net_tests.proofs.running.run_pair.Goals as goal

pub run-requires-clause-bodies : goal.run-requires-clause-bodies
run-requires-clause-bodies g c κs within =
    let all : length c.args.bodies.now ≤ c.loop-p.p = omega arith in
    let held = ap (λ (xs : List (Held _)). map (λ (held : Held _). g.B.Body.behavior held.body.now) xs) c.as_slice.ensures.value in
    let same = held ∙ (c.loop-p.invariant ∙ ap (map g.B.Body.behavior) (take_all c.loop-p.p c.args.bodies.now all)) in
    subst (λ (bs : List Behavior). AreBehaviorsOf c.args.fixture.now.net bs) (sym same) c.requires.bodies
