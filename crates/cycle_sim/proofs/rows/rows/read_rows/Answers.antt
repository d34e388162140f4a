use Rattle.std.proofs.Common.{◌≡◌, ◌<◌, ◌≤◌, ◌+◌, ◌∷◌, ◌++◌, [], length, ap, sym, subst, ◌∙◌, arith, Ok}
use Rattle.std.specs.Prelude.{min}
use Rattle.base.specs.Texts.Lines.{lines_of, positioned}
use Rattle.base.proofs.Lemmas.Texts.Lines.{lines-within}
use Rattle.vlog_tree.specs.Signals.{channels_of}
use Rattle.cycle_sim.specs.Rows.RowFile.{Reads, SaysRowLine}
use Rattle.cycle_sim.proofs.OnRows.Lines.{AreRead, none_read, nothing_more, row_more, fault_read, all_read, too_many_read}
use Rattle.cycle_sim.proofs.rows.rows.read_rows.Goals as goal

pub lines-init : goal.lines-init
lines-init c =
    let text = c.args.text.now in
    let channels = channels_of c.args.design.now in
    let all = positioned 0 (lines_of text) in
    record {
      so_far = subst (λ rows. AreRead channels all c.new-lines.result (length text) rows 0) (sym c.new-rows.ensures.items)
          (subst (λ lines. AreRead channels all lines (length text) [] 0) (sym c.new-lines.ensures) (none_read channels all (length text) (lines-within 0 (length text) text (omega arith))));
    }

pub lines-preserved-in-Nothing : goal.lines-preserved-in-Nothing
lines-preserved-in-Nothing c =
    let channels = channels_of c.args.design.now in
    let says = subst (SaysRowLine channels c.in-Some.line.bytes.now) c.in-Nothing.is (c.in_ok-read_line.ensures channels c.in_ok-known.ensures) in
    record {
      so_far = nothing_more channels (positioned 0 (lines_of c.args.text.now)) c.lines.lines c.next.new.self (length c.args.text.now) c.in-Some.line.at c.in-Some.line.bytes.now c.lines.rows.items c.lines.count
          c.lines.invariant.so_far c.in-Some.ensures says;
    }

pub lines-preserved : goal.lines-preserved
lines-preserved c =
    let channels = channels_of c.args.design.now in
    let all = positioned 0 (lines_of c.args.text.now) in
    let says = subst (SaysRowLine channels c.in-Some.line.bytes.now) c.in-Repeat.is (c.in_ok-read_line.ensures channels c.in_ok-known.ensures) in
    record {
      so_far = subst (λ rows. AreRead channels all c.next.new.self (length c.args.text.now) rows c.min-count.result) (sym c.in_ok-push-in-Repeat.ensures.items)
          (row_more channels all c.lines.lines c.next.new.self (length c.args.text.now) c.in-Some.line.at c.in-Some.line.bytes.now c.lines.rows.items c.in-Repeat.repeated c.lines.count c.min-count.result
          c.lines.invariant.so_far c.in-Some.ensures says (c.min-count.ensures ∙ ap (λ k. min (c.lines.count + k) 1048577) c.from.ensures));
    }

pub returns-in-Fault : goal.returns-in-Fault
returns-in-Fault c =
    let channels = channels_of c.args.design.now in
    let says = subst (SaysRowLine channels c.in-Some.line.bytes.now) c.in-Fault.is (c.in_ok-read_line.ensures channels c.in_ok-known.ensures) in
    fault_read c.args.design.now c.args.text.now c.lines.lines c.next.new.self (length c.args.text.now) c.in-Some.line.at c.in-Some.line.bytes.now c.in-Fault.cause c.lines.rows.items c.lines.count
    c.lines.invariant.so_far c.in-Some.ensures says

pub returns-then-count-gt-MOST : goal.returns-then-count-gt-MOST
returns-then-count-gt-MOST c =
    too_many_read c.args.design.now c.args.text.now c.lines.lines (length c.args.text.now) c.lines.rows.items c.lines.count c.lines.invariant.so_far c.in_default.ensures.0 (omega (arith, c.if-count-gt-MOST.true))

pub returns : goal.returns
returns c =
    subst (λ rows. Reads c.args.design.now c.args.text.now (Ok rows)) (sym c.from_vec.ensures)
    (all_read c.args.design.now c.args.text.now c.lines.lines (length c.args.text.now) c.lines.rows.items c.lines.count c.lines.invariant.so_far c.in_default.ensures.0 (omega (arith, c.if-count-gt-MOST.false)))
