-- The measures of a type by those of its parts, as the code makes them.
use Rattle.std.specs.Prelude.{ℕ, List, [], ◌∷◌, ◌+◌, ◌*◌, nat_lt, max, map, Bool, true, false, Option, Some, None, if◌then◌else◌}
use Rattle.std.specs.List.{fold}
use Rattle.dslx_meaning.specs.Rules.TypeEnvs.{found_number}
use Rattle.dslx_check_rules.specs.declared.table.measures.TypeMeasures.{TypeMeasures}
use Rattle.dslx_check_rules.specs.declared.table.row.TypeId.{TypeId}
use Rattle.dslx_check_rules.specs.declared.table.row.TypeRow.{TypeRow}
use Rattle.dslx_check_rules.specs.declared.table.row.TypeRow.TheVariants.{Bits, Tuple, Array, Struct, Enum, Token}
use Rattle.dslx_check_rules.specs.Measures.{least}

abbrev pub wide : ℕ → Option ℕ
wide w = if nat_lt 128 w then Some (found_number w) else None

abbrev pub times : ℕ → ℕ → ℕ
times n k = found_number (n * k)

abbrev pub of_nothing : TypeMeasures
of_nothing = record { leaves = 0; levels = 0; flat = 0; too_wide = None; is_token = false }

abbrev pub of_leaf : ℕ → TypeMeasures
of_leaf w = record { leaves = 1; levels = 0; flat = found_number w; too_wide = wide w; is_token = false }

abbrev pub of_token : TypeMeasures
of_token = record { leaves = 0; levels = 0; flat = 0; too_wide = None; is_token = true }

abbrev pub joined : TypeMeasures → TypeMeasures → TypeMeasures
joined a b = record {
  leaves = found_number (a.leaves + b.leaves);
  levels = max a.levels b.levels;
  flat = found_number (a.flat + b.flat);
  too_wide = least a.too_wide b.too_wide;
  is_token = false;
}

abbrev pub raised : TypeMeasures → TypeMeasures
raised m = record { leaves = m.leaves; levels = found_number (m.levels + 1); flat = m.flat; too_wide = m.too_wide; is_token = false }

abbrev pub of_array : TypeMeasures → ℕ → TypeMeasures
of_array m n = record { leaves = times m.leaves n; levels = found_number (m.levels + 1); flat = times m.flat n; too_wide = m.too_wide; is_token = false }

abbrev pub of_parts : List TypeMeasures → TypeMeasures
of_parts ms = fold joined of_nothing ms

abbrev pub begins_with_token : List TypeMeasures → Bool
begins_with_token [] = false
begins_with_token (m ∷ ms) = m.is_token

-- a receive's pair adds no level
abbrev pub of_tuple : List TypeMeasures → TypeMeasures
of_tuple ms = if begins_with_token ms then of_parts ms else raised (of_parts ms)

abbrev pub row_measures : (ℕ → TypeMeasures) → TypeRow → TypeMeasures
row_measures measures (Bits k) = of_leaf k.width
row_measures measures (Tuple ts) = of_tuple (map (λ (t : TypeId). measures t.0) ts)
row_measures measures (Array t n) = of_array (measures t.0) n
row_measures measures (Struct i ts) = raised (of_parts (map (λ (t : TypeId). measures t.0) ts))
row_measures measures (Enum i k) = of_leaf k.width
row_measures measures Token = of_token
