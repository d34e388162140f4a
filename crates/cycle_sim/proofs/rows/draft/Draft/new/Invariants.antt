use Rattle.cycle_sim.proofs.OnRows.Drafts.{AreBlank}
use Rattle.cycle_sim.proofs.rows.draft.Draft.new.Given as goal

abbrev pub invariant-shapes : goal.invariant-shapes
invariant-shapes l = AreBlank l.shapes l.shape-index l.named l.drives
