-- Nodes that use other declarations, from what their parts came to: struct values and fields.
use Rattle.std.specs.Prelude.{List, [], ◌∷◌, ◌≡◌, ◌||◌, Option, Some, None, map}
use Rattle.xb_span.specs.declared.fault.Fault.{Fault}
use Rattle.xb_span.specs.declared.span.Span.{Span}
use Rattle.dslx_tree.specs.declared.expr.FieldValue.{FieldValue, out-FieldValue}
use Rattle.dslx_tree.specs.declared.ident.Ident.{Ident}
use Rattle.dslx_tree.specs.declared.item.Struct.{Struct}
use Rattle.dslx_meaning.specs.Items.{as_struct, item_named, name_of_field}
use Rattle.dslx_meaning.specs.declared.ty.DslxType.{DslxType}
use Rattle.dslx_meaning.specs.Rules.AggregateRules.{field_type, has_twice, lacks_one}
use Rattle.dslx_meaning.specs.Rules.PatternRules.{is_there}
use Rattle.dslx_meaning.specs.Rules.RuleNumbers as rule
use Rattle.dslx_meaning.specs.Rules.TypeEnvs.{Judgement, TypeEnv, breaks_if}
use Rattle.dslx_check_rules.specs.declared.table.row.TypeRow.{TypeRow}
use Rattle.dslx_check_rules.specs.declared.typing.Typing.{Typing}
use Rattle.dslx_check_rules.specs.Interned.{ItemNames}
use Rattle.dslx_check_facts.specs.declared.facts.Facts.{Facts}
use Rattle.dslx_check_facts.specs.declared.type_env.TypeEnv.{TypeEnv as CodeEnv}
use Rattle.dslx_check_facts.specs.Judged.{Comes, environment}
use Rattle.dslx_check_facts.specs.Known.{item_names}
use Rattle.dslx_check_facts.specs.Walks.{WalkShown, WalkGrows}
use Rattle.dslx_check_rules.specs.declared.nodes.parts.Spanned.{Spanned}
use Rattle.dslx_check_rules.specs.Nodes.Nodes.Structs.{FieldPlaced, declared_struct, ident_of, undeclared_struct, unknown_idents, written_names}
use Rattle.dslx_check_rules.specs.Nodes.Parts.{ArePlaced, IsPart, IsPlacedIf, Placed}

-- ---- what functions promise that look things up

-- a node from what its parts came to, where nothing more is reached
pub record NodeFrom {X : Type 0} (f : Facts) (s : CodeEnv) (old new : WalkShown) (is : ItemNames → List TypeRow → List TypeRow → X → Type 0) (half : TypeEnv → X → Judgement) (j : Typing) : Type 0 where
  pub grows : WalkGrows old new
  pub reached : new.reached ≡ old.reached
  pub comes : Comes f s old new (λ known later. (x : X) → is (item_names f) old.rows later.rows x → IsPart (item_names f) new.rows later.rows j (half (environment f s known later) x))

-- the fields of a struct value and what gives the others
abbrev pub AreFieldValues : List Spanned → Option Spanned → ItemNames → List TypeRow → List TypeRow → List Placed × Option Placed → Type 0
AreFieldValues values others items rows later x = ArePlaced items rows later values x.0 × IsPlacedIf items rows later others x.1

-- ---- struct values

-- fields of which no type is wanted
abbrev pub unwanted : List Placed → List FieldPlaced
unwanted [] = []
unwanted (x ∷ xs) = record { wanted = None; value = x } ∷ unwanted xs

-- fields of which the struct's types are wanted
abbrev pub wanted_of : Option DslxType → List FieldValue → List Placed → List FieldPlaced
wanted_of struct (f ∷ fs) (x ∷ xs) = record { wanted = field_type struct (out-FieldValue f).name.name; value = x } ∷ wanted_of struct fs xs
wanted_of struct _ _ = []

-- fields that the struct hasn't, and those that aren't there once
abbrev pub unknown_at : Struct → List FieldValue → List Fault
unknown_at declared fields = unknown_idents (map name_of_field declared.fields) (map ident_of fields)

abbrev pub uneven_at : Span → Struct → List FieldValue → Option Placed → List Fault
uneven_at span declared fields o = breaks_if (has_twice (written_names fields) || lacks_one (map name_of_field declared.fields) (written_names fields) (is_there o)) rule.STRUCT_FIELDS span

abbrev pub struct_by : Span → Ident → List FieldValue → TypeEnv → List Placed × Option Placed → Option Struct → Judgement
struct_by span name fields context x None = undeclared_struct span name.span (unwanted x.0) x.1
struct_by span name fields context x (Some declared) =
    let struct = context.known.items.struct_named name.name in
    declared_struct span name.span (context.known.is_cyclic context.owner name.name) struct (unknown_at declared fields) (uneven_at span declared fields x.1) (wanted_of struct fields x.0) x.1

abbrev pub struct_half : Span → Ident → List FieldValue → TypeEnv → List Placed × Option Placed → Judgement
struct_half span name fields context x = struct_by span name fields context x (as_struct (item_named name.name context.known.whole.items))
