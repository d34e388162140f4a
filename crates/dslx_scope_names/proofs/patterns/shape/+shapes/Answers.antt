use Rattle.std.proofs.Common.{map, sym, ◌∙◌}
use Rattle.std.proofs.lemmas.List.{length-map}
use Rattle.dslx_core.specs.Lowering.Steps.{lower_pattern_of_text}
use Rattle.dslx_scope_names.specs.Patterns.Behind.{fresh_scope, outer_scope}
use Rattle.dslx_scope_names.proofs.OnPatterns.InOrder.{lengths_differ}
use Rattle.dslx_scope_names.proofs.patterns.shape.+shapes.Goals as goal

pub part_shapes-returns-then-parts-types : goal.part_shapes-returns-then-parts-types
part_shapes-returns-then-parts-types t c =
    lengths_differ (map lower_pattern_of_text c.args.parts.now) c.args.types.now (outer_scope c.args.outer) (fresh_scope c.args.outer c.args.fresh.now)
    (λ e. c.if-parts-types.true (sym (length-map c.args.parts.now lower_pattern_of_text) ∙ e))
