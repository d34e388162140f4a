-- Patterns by their parts.
use Rattle.std.specs.Prelude.{ℕ, ◌≡◌, ◌==◌, List, [], length, slice_get, true, Option, Some, None, if◌then◌else◌}
use Rattle.xb_span.specs.declared.span.Span.{Span}
use Rattle.dslx_meaning.specs.Lists.{and_then}
use Rattle.dslx_meaning.specs.declared.ty.DslxType.{DslxType}
use Rattle.dslx_meaning.specs.Rules.TypeEnvs.{Typed}
use Rattle.dslx_meaning.specs.Rules.Typings.{PatternSeen}
use Rattle.dslx_meaning.specs.Rules.PatternRules.{part_types, tuple_faults}
use Rattle.dslx_check_rules.specs.Seen.{seen, capped}
use Rattle.dslx_check_rules.specs.declared.table.row.TypeId.{TypeId}
use Rattle.dslx_check_rules.specs.declared.table.row.TypeRow.{TypeRow}
use Rattle.dslx_check_rules.specs.declared.table.row.TypeRow.TheVariants as row
use Rattle.dslx_check_rules.specs.declared.control.patterns.PatternTyping.{PatternTyping}

-- the typing is what the pattern comes to, but for the names that it binds
pub record IsPattern (pattern : PatternTyping) (x : PatternSeen) : Type 0 where
  pub faults : pattern.faults ≡ seen x.faults
  pub size : pattern.size ≡ capped (Some x.size)
  pub known : pattern.is_known ≡ x.is_known
  pub sure : pattern.is_sure ≡ x.is_sure

-- a tuple of so many parts before any of them
abbrev pub tuple_head : Span → ℕ → Option DslxType → List (List ℕ) → List Typed → PatternSeen
tuple_head span count t names locals = record {
  names = names;
  locals = locals;
  faults = tuple_faults span t (part_types count t);
  reached = [];
  size = 1;
  is_known = true;
  is_sure = true;
}

-- the type of the part at a place of a tuple of so many
abbrev pub part_of_so_many : ℕ → ℕ → Option DslxType → Option DslxType
part_of_so_many count at t = and_then (part_types count t) (λ ts. slice_get ts at)

-- the parts of a row of a tuple that has so many
abbrev pub parts_in : ℕ → TypeRow → Option (List TypeId)
parts_in count (row.Tuple parts) = if length parts == count then Some parts else None
parts_in count _ = None
