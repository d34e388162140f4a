-- What items come to that are no functions and no procs.
use Rattle.std.specs.Prelude.{ℕ, List, [], ◌++◌, ◌≡◌, ◌==◌, ◌&&◌, ◌||◌, Bool, true, false, Option, Some, None, map, slice_get, if◌then◌else◌}
use Rattle.base.specs.Lists.Prefix.{IsPrefix}
use Rattle.xb_span.specs.declared.fault.Fault.{Fault}
use Rattle.xb_span.specs.declared.span.Span.{Span}
use Rattle.dslx_tree.specs.declared.type_expr.TypeExpr.{TypeExpr}
use Rattle.dslx_meaning.specs.Items.{enum_member}
use Rattle.dslx_meaning.specs.Lists.{all_some, and_then}
use Rattle.dslx_meaning.specs.Operators.{number_value}
use Rattle.dslx_meaning.specs.Types.{bits_in}
use Rattle.dslx_meaning.specs.declared.ty.DslxType.{DslxType}
use Rattle.dslx_meaning.specs.declared.ty.DslxType as ty
use Rattle.dslx_meaning.specs.declared.value.DslxValue.{DslxValue}
use Rattle.dslx_meaning.specs.declared.value.UntypedLiteral.{UntypedLiteral}
use Rattle.dslx_meaning.specs.Rules.AggregateRules.{wanted_faults}
use Rattle.dslx_meaning.specs.Rules.ConstantRules.{is_empty}
use Rattle.dslx_meaning.specs.Rules.ItemRules.{has_equal_values, is_annotated}
use Rattle.dslx_meaning.specs.Rules.OperatorRules.{is_bits, unless_type}
use Rattle.dslx_meaning.specs.Rules.RuleNumbers as rule
use Rattle.dslx_meaning.specs.Rules.TypeEnvs.{Judgement, breaks_if}
use Rattle.dslx_check_rules.specs.declared.faults.Faults.{Faults}
use Rattle.dslx_check_rules.specs.declared.table.row.TypeId.{TypeId}
use Rattle.dslx_check_rules.specs.declared.table.row.TypeRow.{TypeRow}
use Rattle.dslx_check_rules.specs.declared.table.row.TypeRow.TheVariants as row
use Rattle.dslx_check_rules.specs.declared.typing.Typing.{Typing}
use Rattle.dslx_check_rules.specs.Interned.{AreDistinct, HasRowIf, ItemNames, is_item_row, type_if}
use Rattle.dslx_check_rules.specs.Seen.{seen}
use Rattle.dslx_check_rules.specs.Nodes.Parts.{IsPart}
use Rattle.dslx_check_facts.specs.Walks.{HasTables, WalkShown}

-- ---- constants

-- the type that is written for a constant, if one is
abbrev pub IsWrittenType : ItemNames → List TypeRow → List TypeRow → Option TypeExpr → Option Typing → Judgement → Type 0
IsWrittenType names rows later None None x = Unit {0}
IsWrittenType names rows later (Some t) (Some j) x = IsPart names rows later j x
IsWrittenType names rows later _ _ x = ⊥

abbrev pub annotated : Option TypeExpr → Judgement → Option DslxType
annotated None x = None
annotated (Some t) x = x.ty

abbrev pub annotated_faults : Option TypeExpr → Judgement → List Fault
annotated_faults None x = []
annotated_faults (Some t) x = x.faults

-- what a value of this type breaks by it, and whether it has it
pub record AnnotatesBy (rows : List TypeRow) (span : Span) (written : Option Typing) (value : Option TypeId) (faults : Faults) (is_fine : Bool) : Type 0 where
  pub is : (names : ItemNames) (later : List TypeRow) → AreDistinct names → IsPrefix rows later → HasRowIf rows value → (t : Option TypeExpr) (x : Judgement) → IsWrittenType names rows later t written x
      → faults ≡ seen (wanted_faults span (annotated t x) (type_if names later value))
  pub fine : (names : ItemNames) (later : List TypeRow) → AreDistinct names → IsPrefix rows later → HasRowIf rows value → (t : Option TypeExpr) (x : Judgement) → IsWrittenType names rows later t written x
      → is_fine ≡ (is_empty (annotated_faults t x ++ wanted_faults span (annotated t x) (type_if names later value)) && is_annotated t (annotated t x))

-- ---- rows of items

-- whether it is the row of a struct or an enum of this item
abbrev pub is_row_of : ℕ → TypeRow → Bool
is_row_of item (row.Struct i ts) = i == item
is_row_of item (row.Enum i k) = i == item
is_row_of item _ = false

pub record HasNoRow (rows : List TypeRow) (item : ℕ) : Type 0 where
  pub none : (k : ℕ) (r : TypeRow) → slice_get rows k ≡ Some r → is_row_of item r ≡ false

-- a walk over the text of an item grows as any walk does, but that the item's type may be met
pub record ItemGrows (item : ℕ) (old new : WalkShown) : Type 0 where
  pub tables : HasTables old new
  pub others : (k : ℕ) (r : TypeRow) → slice_get new.rows k ≡ Some r → is_item_row r ≡ true → is_row_of item r ≡ false → slice_get old.rows k ≡ Some r
  pub reached : IsPrefix old.reached new.reached
  pub missing : IsPrefix old.missing new.missing

-- ---- structs

-- the type of a struct of an item whose fields have these types. Its row is put where nothing is missing, before which there is none of it
pub record FindsStruct (old new : WalkShown) (item : ℕ) (faults : Faults) (types : List (Option TypeId)) (t : Option TypeId) : Type 0 where
  pub grows : ItemGrows item old new
  pub same : (new.reached ≡ old.reached) × (new.missing ≡ old.missing)
  pub row : HasRowIf new.rows t
  pub is : HasNoRow old.rows item → old.missing ≡ [] → (names : ItemNames) (later : List TypeRow) → IsPrefix new.rows later
      → type_if names later t ≡ (if faults.broken then None else and_then (all_some (map (type_if names later) types)) (λ ts. Some (ty.Struct (names.item item) (names.fields item) ts)))

-- ---- enums

-- a number without a type as the value of a member
abbrev pub number_in_base : Option DslxType → UntypedLiteral → Option DslxValue
number_in_base None number = None
number_in_base (Some t) number = number_value t number

-- rule 23 by the base and the members' values
abbrev pub enum_faults : Span → Option DslxType → List (Option DslxValue) → List Fault
enum_faults span base values = unless_type is_bits rule.ENUM_MEMBERS span base ++ breaks_if (is_empty values || has_equal_values values) rule.ENUM_MEMBERS span

-- the type of an enum of an item over a base
pub record FindsEnum (old new : WalkShown) (item : ℕ) (faults : Faults) (base t : Option TypeId) : Type 0 where
  pub grows : ItemGrows item old new
  pub same : (new.reached ≡ old.reached) × (new.missing ≡ old.missing)
  pub row : HasRowIf new.rows t
  pub is : HasNoRow old.rows item → old.missing ≡ [] → HasRowIf old.rows base → (names : ItemNames) (later : List TypeRow) → IsPrefix new.rows later
      → type_if names later t ≡ (if faults.broken then None else and_then (and_then (type_if names later base) bits_in) (λ kind. Some (ty.Enum (names.item item) kind.signed kind.width)))

-- the value of a member of an enum of this name, if the enum is a type
abbrev pub member_if : Bool → List ℕ → Option DslxValue → Option DslxValue
member_if false name v = None
member_if true name v = and_then v (enum_member name)
