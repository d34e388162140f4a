-- Struct values and fields by their parts.
use Rattle.std.specs.Prelude.{ℕ, ◌≡◌, ◌++◌, ◌∷◌, List, [], map, slice_get, Bool, Option, Some, None, not}
use Rattle.base.specs.Lists.Prefix.{IsPrefix}
use Rattle.xb_span.specs.declared.span.Span.{Span}
use Rattle.xb_span.specs.declared.fault.Fault.{Fault}
use Rattle.dslx_tree.specs.declared.ident.Ident.{Ident}
use Rattle.dslx_tree.specs.declared.expr.FieldValue.{FieldValue, out-FieldValue}
use Rattle.dslx_meaning.specs.Lists.{and_then, is_in}
use Rattle.dslx_meaning.specs.declared.ty.DslxType.{DslxType, out-DslxType}
use Rattle.dslx_meaning.specs.declared.ty.DslxType.TheOpen.{DslxType-F}
use Rattle.dslx_meaning.specs.Rules.TypeEnvs.{Judgement, breaks, breaks_if, settled, faults_of_all, reached_of_all, size_of_all, types_of, plus_size, one_and}
use Rattle.dslx_meaning.specs.Rules.AggregateRules.{field_type, when_all}
use Rattle.dslx_meaning.specs.Rules.RuleNumbers as rule
use Rattle.dslx_check_rules.specs.declared.table.row.TypeId.{TypeId}
use Rattle.dslx_check_rules.specs.declared.table.row.TypeRow.{TypeRow}
use Rattle.dslx_check_rules.specs.declared.table.row.TypeRow.TheVariants as row
use Rattle.dslx_check_rules.specs.declared.typing.Typing.{Typing}
use Rattle.dslx_check_rules.specs.Seen.{seen}
use Rattle.dslx_check_rules.specs.Interned.{AreDistinct, HasRowIf, ItemNames, type_if}
use Rattle.dslx_check_rules.specs.declared.nodes.parts.Spanned.{Spanned}
use Rattle.dslx_check_rules.specs.declared.nodes.structs.FieldTyping.{FieldTyping}
use Rattle.dslx_check_rules.specs.declared.nodes.structs.StructParts.{StructParts}
use Rattle.dslx_check_rules.specs.Nodes.Parts.{IsPart, IsPlaced, IsPlacedIf, Pairs, Placed}
use Rattle.dslx_check_rules.specs.Nodes.Nodes.Lists.{fitted}
use Rattle.dslx_check_rules.specs.Nodes.Nodes.Aggregates.{lacks}

-- ---- fields of a struct value

-- a field's value, and the type that its struct has there
pub record FieldPlaced : Type 0 where
  pub wanted : Option DslxType
  pub value : Placed

pub record IsField (names : ItemNames) (rows later : List TypeRow) (field : FieldTyping) (x : FieldPlaced) : Type 0 where
  pub row : HasRowIf rows field.wanted
  pub wanted : type_if names later field.wanted ≡ x.wanted
  pub value : IsPlaced names rows later field.value x.value

abbrev pub field_of : FieldPlaced → Judgement
field_of x = fitted x.wanted x.value

-- what gives the other fields is of the struct
abbrev pub others_of : Option DslxType → Option Placed → Judgement
others_of struct None = record { ty = struct; faults = []; reached = []; size = Some 0 }
others_of struct (Some x) = fitted struct x

-- no struct of the name at this span is declared
abbrev pub undeclared_struct : Span → Span → List FieldPlaced → Option Placed → Judgement
undeclared_struct span at xs others =
    let js = map field_of xs in
    let rest = others_of None others in
    settled span None (breaks rule.NAME_IS_DECLARED at ∷ faults_of_all js ++ rest.faults) (reached_of_all js ++ rest.reached) (one_and (plus_size (size_of_all js) rest.size))

-- one is, of this type: which fields it hasn't, and which aren't there once, is found beside
abbrev pub declared_struct : Span → Span → Bool → Option DslxType → List Fault → List Fault → List FieldPlaced → Option Placed → Judgement
declared_struct span at cyclic struct unknown uneven xs others =
    let js = map field_of xs in
    let rest = others_of struct others in
    settled span (when_all (rest.ty ∷ types_of js) struct)
    (breaks_if cyclic rule.NO_ITEM_REACHES_ITSELF at ++ faults_of_all js ++ rest.faults ++ unknown ++ uneven)
    (reached_of_all js ++ rest.reached) (one_and (plus_size (size_of_all js) rest.size))

pub record FromUndeclared (span at : Span) (rows : List TypeRow) (fields : List FieldTyping) (others : Option Spanned) (result : Typing) : Type 0 where
  pub typed : (names : ItemNames) (later : List TypeRow) → AreDistinct names → IsPrefix rows later → (xs : List FieldPlaced) (o : Option Placed) → Pairs (IsField names rows later) fields xs
      → IsPlacedIf names rows later others o → IsPart names rows later result (undeclared_struct span at xs o)

pub record FromStruct (span : Span) (rows : List TypeRow) (parts : StructParts) (result : Typing) : Type 0 where
  pub typed : (names : ItemNames) (later : List TypeRow) → AreDistinct names → IsPrefix rows later → HasRowIf rows parts.ty → (t : Option DslxType) (us es : List Fault) (xs : List FieldPlaced) (o : Option Placed)
      → type_if names later parts.ty ≡ t → parts.unknown ≡ seen us → parts.uneven ≡ seen es → Pairs (IsField names rows later) parts.fields.now xs → IsPlacedIf names rows later parts.others o
      → IsPart names rows later result (declared_struct span parts.name parts.is_cyclic t us es xs o)

-- ---- a field of a value

abbrev pub field_part_of : Span → List ℕ → Judgement → Judgement
field_part_of span name whole =
    settled span (field_type whole.ty name) (whole.faults ++ lacks (λ t. field_type (Some t) name) span whole.ty) whole.reached (one_and whole.size)

pub record FromField (span : Span) (rows : List TypeRow) (whole : Typing) (field : Option TypeId) (result : Typing) : Type 0 where
  pub typed : (names : ItemNames) (later : List TypeRow) → AreDistinct names → IsPrefix rows later → (name : List ℕ) (x : Judgement) → IsPart names rows later whole x → HasRowIf rows field
      → type_if names later field ≡ field_type (type_if names later whole.ty) name → IsPart names rows later result (field_part_of span name x)

-- the fields of a struct's type, and the type at a place among them
abbrev pub fields_in : DslxType-F DslxType → Option (List (List ℕ))
fields_in (DslxType-F.Struct name fields ts) = Some fields
fields_in _ = None

abbrev pub fields_of : Option DslxType → Option (List (List ℕ))
fields_of t = and_then t (λ u. fields_in (out-DslxType u))

abbrev pub item_in : TypeRow → Option ℕ
item_in (row.Struct item parts) = Some item
item_in _ = None

abbrev pub part_in : TypeRow → ℕ → Option TypeId
part_in (row.Struct item parts) at = slice_get parts at
part_in _ at = None

-- ---- the names of fields

abbrev pub ident_of : FieldValue → Ident
ident_of f = (out-FieldValue f).name

abbrev pub written_names : List FieldValue → List (List ℕ)
written_names fs = map (λ (f : FieldValue). (ident_of f).name) fs

abbrev pub unknown_idents : List (List ℕ) → List Ident → List Fault
unknown_idents declared [] = []
unknown_idents declared (i ∷ is) = breaks_if (not (is_in i.name declared)) rule.NAME_IS_DECLARED i.span ++ unknown_idents declared is
