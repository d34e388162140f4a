-- The rules of patterns.
use Rattle.std.specs.Prelude.{ℕ, List, [], ◌∷◌, ◌++◌, ◌+◌, ◌==◌, ◌&&◌, Bool, true, false, not, Option, Some, None, length, option_map, if◌then◌else◌}
use Rattle.xb_span.specs.declared.span.Span.{Span}
use Rattle.xb_span.specs.declared.fault.Fault.{Fault}
use Rattle.dslx_tree.specs.declared.block.Stmt.TheOpen.{Shape-F}
use Rattle.dslx_meaning.specs.Types.{same_type, bool_type}
use Rattle.dslx_meaning.specs.Values.{type_of_value}
use Rattle.dslx_meaning.specs.declared.ty.DslxType.{DslxType, out-DslxType}
use Rattle.dslx_meaning.specs.declared.ty.DslxType.TheOpen.{DslxType-F}
use Rattle.dslx_meaning.specs.declared.value.DslxValue.{DslxValue}
use Rattle.dslx_meaning.specs.Rules.TypeEnvs.{TypeEnv, Typed, Judgement, breaks, breaks_if, unlimited}
use Rattle.dslx_meaning.specs.Rules.Typings.{PatternSeen, PatternTyping, PatternPair, ShapeLayer}
use Rattle.dslx_meaning.specs.Rules.NameRules.{member_typing, local_name}
use Rattle.dslx_meaning.specs.Rules.RuleNumbers as rule

-- rule 8: it hasn't the value's shape
abbrev pub shape_faults : Span → Option DslxType → Option DslxType → List Fault
shape_faults span (Some t) (Some own) = breaks_if (not (same_type t own)) rule.PATTERN_FITS_TYPE span
shape_faults span _ _ = []

abbrev pub is_there : {A : Type 0} → Option A → Bool
is_there None = false
is_there (Some a) = true

-- a pattern that is one value, of the type of this judgement: where patterns may not fail it breaks rule 8
abbrev pub one_value : Span → Bool → Option DslxType → List (List ℕ) → List Typed → Judgement → Bool → PatternSeen
one_value span may_fail ty names locals own is_known = record {
  names = names;
  locals = locals;
  faults = own.faults ++ shape_faults span ty own.ty ++ breaks_if (not may_fail) rule.PATTERN_FITS_TYPE span;
  reached = own.reached;
  size = 1;
  is_known = is_known;
  is_sure = false;
}

-- a name that is bound
abbrev pub bound_name : Span → TypeEnv → Option DslxType → List (List ℕ) → List Typed → List ℕ → PatternSeen
bound_name span context ty names locals name = record {
  names = name ∷ names;
  locals = record { name = name; ty = ty } ∷ locals;
  faults = local_name context names (record { span = span; name = name });
  reached = [];
  size = 1;
  is_known = true;
  is_sure = true;
}

-- no limit applies to a pattern's type
abbrev pub constant_pattern : Span → TypeEnv → List ℕ → Option DslxValue → Judgement
constant_pattern span context name v = unlimited (option_map type_of_value v) (breaks_if (context.known.is_cyclic context.owner name) rule.NO_ITEM_REACHES_ITSELF span) [] (Some 1)

-- the types of the parts of a tuple, where it has as many
abbrev pub part_types_in : ℕ → DslxType-F DslxType → Option (List DslxType)
part_types_in n (DslxType-F.Tuple ts) = if length ts == n then Some ts else None
part_types_in n _ = None

abbrev pub part_types : ℕ → Option DslxType → Option (List DslxType)
part_types n None = None
part_types n (Some t) = part_types_in n (out-DslxType t)

abbrev pub tuple_faults : Span → Option DslxType → Option (List DslxType) → List Fault
tuple_faults span None parts = []
tuple_faults span (Some t) None = breaks rule.PATTERN_FITS_TYPE span ∷ []
tuple_faults span (Some t) (Some parts) = []

abbrev pub nothing_bound : List (List ℕ) → List Typed → PatternSeen
nothing_bound names locals = record { names = names; locals = locals; faults = []; reached = []; size = 0; is_known = true; is_sure = true }

abbrev pub both_patterns : PatternSeen → PatternSeen → PatternSeen
both_patterns first rest = record {
  names = rest.names;
  locals = rest.locals;
  faults = first.faults ++ rest.faults;
  reached = first.reached ++ rest.reached;
  size = first.size + rest.size;
  is_known = first.is_known && rest.is_known;
  is_sure = first.is_sure && rest.is_sure;
}

abbrev pub first_part_type : Option (List DslxType) → Option DslxType
first_part_type None = None
first_part_type (Some []) = None
first_part_type (Some (t ∷ ts)) = Some t

abbrev pub other_part_types : Option (List DslxType) → Option (List DslxType)
other_part_types None = None
other_part_types (Some []) = None
other_part_types (Some (t ∷ ts)) = Some ts

-- the parts in order, each from what those before it bound
abbrev pub parts_typing : Bool → TypeEnv → List PatternPair → Option (List DslxType) → List (List ℕ) → List Typed → PatternSeen
parts_typing may_fail context [] types names locals = nothing_bound names locals
parts_typing may_fail context (p ∷ ps) types names locals =
    let first = p.1 may_fail context (first_part_type types) names locals in
    both_patterns first (parts_typing may_fail context ps (other_part_types types) first.names first.locals)

abbrev pub tuple_pattern : Span → Option DslxType → Option (List DslxType) → PatternSeen → PatternSeen
tuple_pattern span ty types parts = record parts { faults = tuple_faults span ty types ++ parts.faults; size = 1 + parts.size }

abbrev pub name_pattern : Span → Bool → TypeEnv → Option DslxType → List (List ℕ) → List Typed → List ℕ → Bool → PatternSeen
name_pattern span may_fail context ty names locals name false = bound_name span context ty names locals name
name_pattern span may_fail context ty names locals name true =
    let v = context.known.items.constant name in
    one_value span may_fail ty names locals (constant_pattern span context name v) (is_there v)

abbrev pub shape_typing : ShapeLayer → Span → PatternTyping
shape_typing Shape-F.Wild span may_fail context ty names locals = record (nothing_bound names locals) { size = 1 }
shape_typing (Shape-F.Shape::Bool b) span may_fail context ty names locals = one_value span may_fail ty names locals (unlimited (Some bool_type) [] [] (Some 1)) true
shape_typing (Shape-F.Shape::Number n) span may_fail context ty names locals =
    let own = n.1 span context in
    one_value span may_fail ty names locals own (is_there own.ty)
shape_typing (Shape-F.Shape::Name name) span may_fail context ty names locals = name_pattern span may_fail context ty names locals name (context.known.items.is_constant name)
shape_typing (Shape-F.Shape::Member e a) span may_fail context ty names locals =
    one_value span may_fail ty names locals (member_typing context e a) (is_there (context.known.items.member e.name a.name))
shape_typing (Shape-F.Shape::Tuple ps) span may_fail context ty names locals =
    let types = part_types (length ps) ty in
    tuple_pattern span ty types (parts_typing may_fail context ps types names locals)

-- a pattern of its own, from the type environment
abbrev pub pattern_alone : Bool → TypeEnv → Option DslxType → PatternPair → PatternSeen
pattern_alone may_fail context ty p = p.1 may_fail context ty [] context.locals
