use Rattle.std.proofs.Common.{ℕ, ◌<◌, ◌≤◌, length, map, ap, sym, ◌∙◌, arith}
use Rattle.xb_span.specs.declared.limit.What.TheVariants as what
use Rattle.ir_tree.specs.Rules.Checks.{noted, limit_at}
use Rattle.ir_tree.specs.NodeTypes.Types.{widths_in}
use Rattle.ir_tree.proofs.OnRules.Noted.{widths_step, widths_end, widths_noted, widths_in-Tuple}
use Rattle.ir_tree.proofs.rules.lines.+note_widths.Goals as goal

pub parts-preserved : goal.parts-preserved
parts-preserved t c =
    let below : c.parts.part-index < length c.as_slice-part-items.result.now = omega arith in
    widths_step c.args.end c.as_slice-part-items.result.now c.parts.part-index c.part-item.result c.parts.held c.note_widths-held.result
    (widths_noted c.args.end c.args.held c.as_slice-part-items.result.now) below c.part-item.is c.note_widths-held.ensures c.parts.invariant

pub returns-after-parts : goal.returns-after-parts
returns-after-parts t c =
    let over : length c.as_slice-part-items.result.now ≤ c.parts.part-index = omega arith in
    widths_end c.args.end c.as_slice-part-items.result.now c.parts.part-index c.parts.held (widths_noted c.args.end c.args.held c.as_slice-part-items.result.now) over c.parts.invariant
    ∙ ap (widths_noted c.args.end c.args.held) c.as_slice-part-items.ensures
    ∙ ap (λ ws. noted c.args.held (map (λ (w : ℕ). limit_at c.args.end what.Width w 128) ws)) (sym (widths_in-Tuple c.in-Tuple.parts c.in-Tuple.field-1) ∙ ap widths_in (sym c.in-Tuple.is))
