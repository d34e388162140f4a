use Rattle.std.proofs.Common.{◌≡◌, ℕ, drop, map}
use Rattle.xb_span.specs.declared.limit.What.TheVariants as what
use Rattle.ir_tree.specs.Rules.Checks.{noted, limit_at}
use Rattle.ir_tree.specs.NodeTypes.Types.{widths_in, joined_lists}
use Rattle.ir_tree.proofs.rules.lines.+note_widths.Given as goal

abbrev pub invariant-parts : goal.invariant-parts
invariant-parts l =
    let check = λ (w : ℕ). limit_at l.end what.Width w 128 in
    noted l.held (map check (joined_lists (map widths_in (drop l.part-index l.part-items)))) ≡ noted l.fn.held (map check (joined_lists (map widths_in l.part-items)))
