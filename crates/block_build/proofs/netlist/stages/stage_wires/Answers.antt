use Rattle.block_build.proofs.OnNetlist.OnStaging.{stages_made}
use Rattle.block_build.proofs.netlist.stages.stage_wires.Goals as goal

pub returns : goal.returns
returns c = (
  _,
  λ next done.
      let e = c.in_ok-acting.ensures in
      let g = c.in_ok-moves.ensures in
      let d = stages_made c.args.wires.now c.act.new.wires c.move_all.new.wires c.args.run c.args.full c.args.stages c.args.sites.now c.in_ok-acting.acting.handshakes.items c.in_ok-acting.acting.passed.items c.as_slice.result.now
      c.in_ok-moves.moves.items (record { handshakes = e.handshakes; passes_are = e.passed; wired = e.wired }) c.as_slice.ensures.value (record { moves_are = g.moves; wired = g.wired }) next done in
      (d.handshakes, d.moves_are, d.wired),
)
