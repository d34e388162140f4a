-- Arguments in scope.
use Rattle.std.specs.Prelude.{List, [], ◌∷◌, Option}
use Rattle.dslx_tree.specs.declared.item.Field.{Field}
use Rattle.dslx_check_rules.specs.declared.table.row.TypeId.{TypeId}
use Rattle.dslx_check_leaves.specs.Walked.{PatternNames}

-- arguments of these types behind the names before them, the last one first
abbrev pub bound_behind : PatternNames → List Field → List (Option TypeId) → PatternNames
bound_behind so_far [] ts = so_far
bound_behind so_far (f ∷ fs) [] = so_far
bound_behind so_far (f ∷ fs) (t ∷ ts) = bound_behind ((f.name.name, t) ∷ so_far) fs ts
