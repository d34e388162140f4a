use Rattle.std.proofs.Common.{◌++◌, ◌∙◌, ap, sym, length, refl}
use Rattle.vlog_tree.specs.Signals.{channels_of}
use Rattle.vlog_tree.specs.Rows.{outs_of}
use Rattle.vlog_tree.specs.Settled.{values_of}
use Rattle.cycle_sim.specs.Cycles.CycleText.{names_of, row_text}
use Rattle.cycle_sim.proofs.OnCycles.Written.{cycle_written, drives_count, names_count}
use Rattle.cycle_sim.proofs.cycles.bench.Bench.cycle.Goals as goal

pub push_row-requires : goal.push_row-requires
push_row-requires c = c.as_slice.ensures ∙ c.requires.written.1.names_are ∙ ap names_of (sym c.cycle.ensures.design)

pub move_all-requires-clause-drives : goal.move_all-requires-clause-drives
move_all-requires-clause-drives c =
    drives_count (channels_of c.args.self.now.sim.design) c.args.row.now.channels c.requires.row ∙ ap (λ m. length (channels_of m)) (sym c.cycle.ensures.design)

pub move_all-requires-clause-moved : goal.move_all-requires-clause-moved
move_all-requires-clause-moved c =
    let w = c.requires.written.1 in
    w.sizes ∙ ap length w.names_are ∙ names_count (channels_of c.args.self.now.sim.design) ∙ ap (λ m. length (channels_of m)) (sym c.cycle.ensures.design)

pub returns-clause-written : goal.returns-clause-written
returns-clause-written c = λ rows w.
    cycle_written c.args.self.now _ rows c.args.row.now w c.cycle.ensures.design refl refl (c.cycle.ensures.stands rows w.outs w.stands)
    (c.in_ok-push_row.ensures
    ∙ ap (λ ns. c.args.self.now.text.items ++ row_text ns c.args.self.now.count (outs_of c.cycle.new.self.design (values_of c.cycle.new.self.words))) c.as_slice.ensures)
    c.in_ok-move_all.ensures
