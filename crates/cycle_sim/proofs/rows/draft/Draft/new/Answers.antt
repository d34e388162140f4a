use Rattle.std.proofs.Common.{◌≡◌, length, ap₂, None, arith}
use Rattle.cycle_sim.specs.declared.rows.draft.Draft.{Draft}
use Rattle.cycle_sim.proofs.OnRows.Drafts.{all_blank}
use Rattle.cycle_sim.proofs.rows.draft.Draft.new.Goals as goal

pub returns : goal.returns
returns c = λ channels e.
    let end : c.shapes.shape-index ≡ length c.args.shapes.now = omega (arith, c.shapes-test.false, c.shapes.auto.shape-index-end) in
    let blank = all_blank c.args.shapes.now c.shapes.shape-index c.shapes.named c.shapes.drives channels c.shapes.invariant end e in
    ap₂ {C = Draft} (λ named drives. record { named = named; drives = drives; worst = None }) blank.0 blank.1
