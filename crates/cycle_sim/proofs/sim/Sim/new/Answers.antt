use Rattle.std.proofs.Common.{◌≡◌, ◌∙◌, [], length, ap, subst, sym}
use Rattle.cycle_sim.specs.Sim.{IsRunning, StandsAfter}
use Rattle.cycle_sim.proofs.Making.{new_runs, new_stands, zero_words}
use Rattle.cycle_sim.proofs.sim.Sim.new.Goals as goal

pub invariant_of-result : goal.invariant_of-result
invariant_of-result c =
    let room : length c.in_ok-before.before.items ≡ length (zero_words c.args.design) =
    ap length c.in_ok-before.ensures.items ∙ ap length c.as_slice.ensures.value ∙ ap length c.in_ok-values.ensures in
    subst (λ words. IsRunning c.args.design c.in_ok-indices.indices.items words c.in_ok-before.before.items) (sym c.in_ok-values.ensures)
    (new_runs c.args.design c.in_ok-indices.indices.items c.in_ok-before.before.items c.requires c.in_ok-indices.ensures room)

pub returns-clause-stands : goal.returns-clause-stands
returns-clause-stands c =
    subst (λ words. StandsAfter (record { design = c.args.design; words = words }) [] []) (sym c.in_ok-values.ensures) (new_stands c.args.design)
