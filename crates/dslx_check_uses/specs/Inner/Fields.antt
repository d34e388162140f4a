-- What functions of struct values promise to one another: from the values of the fields and what gives the others.
use Rattle.std.specs.Prelude.{List, Bool, Option, None}
use Rattle.base.specs.Lists.Prefix.{IsPrefix}
use Rattle.xb_span.specs.declared.span.Span.{Span}
use Rattle.dslx_tree.specs.declared.expr.FieldValue.{FieldValue}
use Rattle.dslx_tree.specs.declared.item.Struct.{Struct}
use Rattle.dslx_check_rules.specs.declared.table.row.TypeId.{TypeId}
use Rattle.dslx_check_rules.specs.declared.table.row.TypeRow.{TypeRow}
use Rattle.dslx_check_rules.specs.declared.typing.Typing.{Typing}
use Rattle.dslx_check_rules.specs.Interned.{AreDistinct, HasRowIf, ItemNames, type_if}
use Rattle.dslx_check_facts.specs.declared.facts.Facts.{Facts}
use Rattle.dslx_check_facts.specs.Known.{item_names}
use Rattle.dslx_check_rules.specs.declared.nodes.parts.Spanned.{Spanned}
use Rattle.dslx_check_rules.specs.declared.nodes.structs.FieldTyping.{FieldTyping}
use Rattle.dslx_check_rules.specs.Nodes.Parts.{ArePlaced, IsPart, IsPlacedIf, Pairs, Placed}
use Rattle.dslx_check_rules.specs.Nodes.Nodes.Structs.{IsField, declared_struct, undeclared_struct}
use Rattle.dslx_check_uses.specs.Uses.{uneven_at, unknown_at, unwanted, wanted_of}

-- a field of which no type is wanted
abbrev pub without_type : Spanned → FieldTyping
without_type value = record { wanted = None; value = value }

pub record UndeclaredFrom (rows : List TypeRow) (span at : Span) (values : List Spanned) (others : Option Spanned) (j : Typing) : Type 0 where
  pub typed : (names : ItemNames) (later : List TypeRow) → AreDistinct names → IsPrefix rows later → (xs : List Placed) (o : Option Placed) → ArePlaced names rows later values xs
      → IsPlacedIf names rows later others o → IsPart names rows later j (undeclared_struct span at (unwanted xs) o)

-- each field has the type that is wanted of it beside its value, where the struct has one
abbrev pub AreFields : Facts → List TypeRow → Option TypeId → List FieldValue → List Spanned → List FieldTyping → Type 0
AreFields f rows ty fields values all = (later : List TypeRow) (xs : List Placed) → IsPrefix rows later → HasRowIf rows ty → ArePlaced (item_names f) rows later values xs
    → Pairs (IsField (item_names f) rows later) all (wanted_of (type_if (item_names f) later ty) fields xs)

pub record DeclaredFrom (f : Facts) (rows : List TypeRow) (span at : Span) (declared : Struct) (ty : Option TypeId) (cyclic : Bool) (fields : List FieldValue) (values : List Spanned) (others : Option Spanned)
    (j : Typing) : Type 0 where
  pub typed : (later : List TypeRow) → AreDistinct (item_names f) → IsPrefix rows later → HasRowIf rows ty → (xs : List Placed) (o : Option Placed) → ArePlaced (item_names f) rows later values xs
      → IsPlacedIf (item_names f) rows later others o
      → IsPart (item_names f) rows later j (declared_struct span at cyclic (type_if (item_names f) later ty) (unknown_at declared fields) (uneven_at span declared fields o)
      (wanted_of (type_if (item_names f) later ty) fields xs) o)
