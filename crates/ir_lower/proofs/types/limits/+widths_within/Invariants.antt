use Rattle.std.proofs.Common.{◌≡◌, ℕ, drop, map}
use Rattle.xb_span.specs.declared.limit.What.TheVariants as what
use Rattle.ir_tree.specs.NodeTypes.Types.{joined_lists, widths_in}
use Rattle.ir_tree.specs.Rules.Checks.{limit_at}
use Rattle.ir_tree.specs.Rules.Typed.Typed.{none_broken}
use Rattle.ir_lower.proofs.types.limits.+widths_within.Given as goal

abbrev pub invariant-parts : goal.invariant-parts
invariant-parts l =
    let check = λ (w : ℕ). limit_at 0 what.Width w 128 in
    none_broken (map check (joined_lists (map widths_in (drop l.part-index l.part-items)))) ≡ none_broken (map check (joined_lists (map widths_in l.part-items)))
