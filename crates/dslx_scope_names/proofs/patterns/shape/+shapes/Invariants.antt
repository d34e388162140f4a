use Rattle.std.proofs.Common.{◌≡◌, length, drop, map}
use Rattle.dslx_core.specs.Lowering.Patterns.{parts_shaped}
use Rattle.dslx_core.specs.Lowering.Steps.{lower_pattern_of_text}
use Rattle.dslx_scope_names.specs.Patterns.Behind.{fresh_scope, outer_scope}
use Rattle.dslx_scope_names.proofs.OnPatterns.InOrder.{behind_shapes}
use Rattle.dslx_scope_names.proofs.patterns.shape.+shapes.Given as goal

abbrev pub invariant-part_shapes-parts : goal.invariant-part_shapes-parts
invariant-part_shapes-parts l =
    record {
      same_length : length l.parts ≡ length l.types;
      same_rest : behind_shapes l.shapes.items (parts_shaped (map lower_pattern_of_text (drop l.i l.parts)) (drop l.i l.types) (outer_scope l.outer) (fresh_scope l.outer l.fresh))
          ≡ parts_shaped (map lower_pattern_of_text l.parts) l.types (outer_scope l.outer) (fresh_scope l.outer l.initial.fresh);
    }
