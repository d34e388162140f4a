-- Constants, types, structs and enums, each from what the walk over its parts came to.
use Rattle.std.specs.Prelude.{ℕ, List, [], ◌++◌, ◌≡◌, ◌&&◌, ◌||◌, Option, Some, None, is_some, map, if◌then◌else◌}
use Rattle.base.specs.Lists.Prefix.{IsPrefix}
use Rattle.xb_span.specs.declared.fault.Fault.{Fault}
use Rattle.dslx_tree.specs.declared.expr.Expr.{Expr, out-Expr}
use Rattle.dslx_tree.specs.declared.ident.Ident.{Ident}
use Rattle.dslx_tree.specs.declared.item.Constant.{Constant}
use Rattle.dslx_tree.specs.declared.item.Definition.{Definition}
use Rattle.dslx_tree.specs.declared.item.Enum.{Enum}
use Rattle.dslx_tree.specs.declared.type_expr.TypeExpr.{TypeExpr}
use Rattle.dslx_meaning.specs.Lists.{and_then}
use Rattle.dslx_meaning.specs.declared.ty.DslxType.{DslxType}
use Rattle.dslx_meaning.specs.declared.value.DslxValue.{DslxValue}
use Rattle.dslx_meaning.specs.declared.value.UntypedLiteral.{UntypedLiteral}
use Rattle.dslx_meaning.specs.Rules.AggregateRules.{untyped_value, wanted_faults}
use Rattle.dslx_meaning.specs.Rules.ConstantRules.{constant_of, is_empty}
use Rattle.dslx_meaning.specs.Rules.ItemRules.{ConstantFound, annotation_typing, base_if_bits, has_equal_values, is_annotated, member_values, members_found, typing_of_type}
use Rattle.dslx_meaning.specs.Rules.ModuleRules.{item_found}
use Rattle.dslx_meaning.specs.Rules.NodeRules.{expr_pair}
use Rattle.dslx_meaning.specs.Rules.OperatorRules.{is_bits, unless_type}
use Rattle.dslx_meaning.specs.Rules.RuleNumbers as rule
use Rattle.dslx_meaning.specs.Rules.TypeEnvs.{TypeEnv, breaks_if, type_limits}
use Rattle.dslx_check_rules.specs.declared.faults.Faults.{Faults}
use Rattle.dslx_check_rules.specs.declared.table.row.TypeId.{TypeId}
use Rattle.dslx_check_rules.specs.declared.table.row.TypeRow.{TypeRow}
use Rattle.dslx_check_rules.specs.declared.typing.Typing.{Typing}
use Rattle.dslx_check_rules.specs.Interned.{ItemNames, type_if}
use Rattle.dslx_check_rules.specs.Seen.{seen}
use Rattle.dslx_check_facts.specs.declared.facts.Facts.{Facts}
use Rattle.dslx_check_facts.specs.Known.{item_at}
use Rattle.dslx_check_facts.specs.Walks.{WalkGrows, WalkShown, instances_at}
use Rattle.dslx_check_declarations.specs.declared.items.ItemSeen.{ItemSeen}
use Rattle.dslx_check_declarations.specs.Items.{FindsEnum, FindsStruct, HasNoRow, IsWrittenType, ItemGrows, member_if}
use Rattle.dslx_check_declarations.specs.Tops.{named_as}
use Rattle.dslx_check_declarations.specs.Work.Comes.{ItemComesTo}
use Rattle.dslx_check_judge.specs.declared.items.constants.ConstantParts.{ConstantParts}
use Rattle.dslx_check_judge.specs.declared.items.enums.EnumParts.{EnumParts}
use Rattle.dslx_check_judge.specs.Items.Lists.{IsTypeAs}
use Rattle.dslx_check_judge.specs.Items.Judged.{ComesWhole, FindsAs}

-- ---- items of any kind

-- the item of this definition, under the name that it has where items of one name are told apart. Its type is met only where nothing is missing
pub record JudgesNamed (f : Facts) (old new : WalkShown) (item : ℕ) (definition : Definition) (j : ItemSeen) : Type 0 where
  pub grows : ItemGrows item old new
  pub postponed : (new.missing ≡ [] → ⊥) → WalkGrows old new
  pub finds : ComesWhole f old new (λ known. (name : Ident) → item_at f item ≡ Some (named_as name definition) → HasNoRow old.rows item → FindsAs f old new j.faults (item_found known (named_as name definition)))
  pub comes : ComesWhole f old new (λ known. (name : Ident) → item_at f item ≡ Some (named_as name definition) → HasNoRow old.rows item → ItemComesTo f new known (named_as name definition) j)

-- ---- constants

-- what a constant is in this type environment
abbrev pub constant_in : TypeEnv → Constant → ConstantFound
constant_in context c =
    let written = annotation_typing context c.ty in
    let value = constant_of context (expr_pair c.value) in
    let wrong = wanted_faults (out-Expr c.value).span written.ty value.judgement.ty in
    record {
      found = record { faults = written.faults ++ value.judgement.faults ++ wrong; reached = written.reached ++ value.judgement.reached };
      value = if is_empty (written.faults ++ wrong) && is_annotated c.ty written.ty then value.value else None;
    }

-- the type that is written, if one is
pub record TypesWritten (j : Option Typing) (t : Option TypeExpr) (names : ItemNames) (rows : List TypeRow) (later : WalkShown) (more : List ℕ) (env : TypeEnv) : Type 0 where
  pub written : IsWrittenType names rows later.rows t j (annotation_typing env t)
  pub reaches : instances_at names later.met more ≡ (annotation_typing env t).reached

pub record TypesNamedValue (p : ConstantParts) (c : Constant) (names : ItemNames) (rows : List TypeRow) (later : WalkShown) (more : List ℕ) (env : TypeEnv) : Type 0 where
  pub faults_are : p.faults ≡ seen (constant_in env c).found.faults
  pub value : p.value ≡ (constant_in env c).value
  pub reaches : instances_at names later.met more ≡ (constant_in env c).found.reached

-- ---- structs

-- a struct that ends here, whose fields have these types, with what it breaks but for the limits
pub record StructNamed (old new : WalkShown) (item end : ℕ) (faults : Faults) (types : List (Option TypeId)) (j : ItemSeen) : Type 0 where
  pub finds : FindsStruct old new item faults types j.named_type
  pub postponed : (new.missing ≡ [] → ⊥) → WalkGrows old new
  pub faults_are : (names : ItemNames) (later : List TypeRow) (fs : List Fault) → IsPrefix new.rows later → faults ≡ seen fs → j.faults ≡ seen (fs ++ type_limits end (type_if names later j.named_type))
  pub no_value : j.value ≡ None
  pub no_value_type : j.value_type ≡ None

-- ---- members of enums

-- a number without a type as a member's value
abbrev pub number_of_base : Option DslxType → UntypedLiteral → Option DslxValue
number_of_base None number = None
number_of_base (Some t) number = untyped_value t number

-- a constant as a member's value
abbrev pub constant_of_base : TypeEnv → Option DslxType → Expr → ConstantFound
constant_of_base context base e =
    let c = constant_of context (expr_pair e) in
    let wrong = wanted_faults (out-Expr e).span base c.judgement.ty in
    record {
      found = record { faults = c.judgement.faults ++ wrong; reached = c.judgement.reached };
      value = and_then base (λ t. if is_empty wrong then c.value else None);
    }

-- ---- enums

-- what an enum breaks in this type environment
abbrev pub faults_of_enum : TypeEnv → Enum → List Fault
faults_of_enum context e =
    let base = typing_of_type context e.base in
    base.faults ++ (members_found context (base_if_bits base.ty) [] e.members).faults ++ unless_type is_bits rule.ENUM_MEMBERS e.span base.ty
    ++ breaks_if (is_empty e.members || has_equal_values (member_values context (base_if_bits base.ty) e.members)) rule.ENUM_MEMBERS e.span

pub record TypesEnum (p : EnumParts) (e : Enum) (names : ItemNames) (rows : List TypeRow) (later : WalkShown) (more : List ℕ) (env : TypeEnv) : Type 0 where
  pub base : IsTypeAs names rows later.rows p.base (typing_of_type env e.base).ty
  pub values : p.values.items ≡ member_values env (base_if_bits (typing_of_type env e.base).ty) e.members
  pub faults_are : p.faults ≡ seen (faults_of_enum env e)
  pub reaches : instances_at names later.met more ≡ (typing_of_type env e.base).reached ++ (members_found env (base_if_bits (typing_of_type env e.base).ty) [] e.members).reached

-- an enum of this name over a base, whose members have these values
pub record EnumNamed (old new : WalkShown) (item : ℕ) (name : List ℕ) (faults : Faults) (base : Option TypeId) (values : List (Option DslxValue)) (j : ItemSeen) : Type 0 where
  pub finds : FindsEnum old new item faults base j.named_type
  pub postponed : (new.missing ≡ [] → ⊥) → WalkGrows old new
  pub faults_are : j.faults ≡ faults
  pub members : j.members.items ≡ map (member_if (is_some j.named_type) name) values
  pub no_value : j.value ≡ None
  pub no_value_type : j.value_type ≡ None
