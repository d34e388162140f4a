-- How large a type is, as a table keeps it.
use Rattle.std.specs.Prelude.{ℕ, List, [], ◌∷◌, nat_lt, min, Option, Some, None, if◌then◌else◌}
use Rattle.dslx_meaning.specs.Types.{leaves_of, levels_of, flat_bits, is_token_type}
use Rattle.dslx_meaning.specs.Rules.TypeEnvs.{found_number, leaf_widths}
use Rattle.dslx_meaning.specs.declared.ty.DslxType.{DslxType}
use Rattle.dslx_check_rules.specs.declared.table.measures.TypeMeasures.{TypeMeasures}

-- the less of the two that are there
abbrev pub least : Option ℕ → Option ℕ → Option ℕ
least None b = b
least (Some a) None = Some a
least (Some a) (Some b) = Some (min a b)

-- the least width of more than 128 bits
abbrev pub least_wide : List ℕ → Option ℕ
least_wide [] = None
least_wide (w ∷ ws) = least (if nat_lt 128 w then Some (found_number w) else None) (least_wide ws)

abbrev pub measures_of : DslxType → TypeMeasures
measures_of t = record {
  leaves = found_number (leaves_of t);
  levels = found_number (levels_of t);
  flat = found_number (flat_bits t);
  too_wide = least_wide (leaf_widths t);
  is_token = is_token_type t;
}
