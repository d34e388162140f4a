-- Parts of declarations.
use Rattle.std.specs.Prelude.{ℕ, List, [], ◌++◌, ◌≡◌, ◌==◌, map, Bool, true, Option, Some, None}
use Rattle.std.specs.List.{AllByRecursion}
use Rattle.dslx_tree.specs.declared.expr.Expr.{Expr}
use Rattle.dslx_tree.specs.declared.ident.Ident.{Ident}
use Rattle.dslx_tree.specs.declared.item.Definition.{Definition}
use Rattle.dslx_tree.specs.declared.item.Field.{Field}
use Rattle.dslx_tree.specs.declared.item.Parametric.{Parametric}
use Rattle.dslx_tree.specs.declared.process.End.{End}
use Rattle.dslx_meaning.specs.Items.{item_named}
use Rattle.dslx_meaning.specs.declared.value.DslxValue.{DslxValue}
use Rattle.dslx_meaning.specs.Rules.ConstantRules.{untyped_typing}
use Rattle.dslx_meaning.specs.Rules.ItemRules.{typing_of_inner, typing_of_type}
use Rattle.dslx_meaning.specs.Rules.ModuleRules.{default_if, signature_of}
use Rattle.dslx_meaning.specs.Rules.TypeEnvs.{DefaultSeen, GlobalEnv, Instance, Judgement, Signature, TypeEnv}
use Rattle.dslx_meaning.specs.Rules.TypeRules.{unless_unit}
use Rattle.dslx_check_rules.specs.declared.table.row.TypeId.{TypeId}
use Rattle.dslx_check_rules.specs.declared.table.row.TypeRow.{TypeRow}
use Rattle.dslx_check_rules.specs.Interned.{HasRowIf, ItemNames, type_if}
use Rattle.dslx_check_rules.specs.Seen.{seen}
use Rattle.dslx_check_facts.specs.declared.asked.ForeignKey.{ForeignKey}
use Rattle.dslx_check_facts.specs.declared.asked.ForeignPart.{ForeignPart}
use Rattle.dslx_check_facts.specs.declared.asked.ForeignPart.TheVariants as part
use Rattle.dslx_check_facts.specs.declared.facts.DefaultThere.{DefaultThere}
use Rattle.dslx_check_facts.specs.declared.facts.Facts.{Facts}
use Rattle.dslx_check_facts.specs.declared.facts.ForeignSeen.{ForeignSeen}
use Rattle.dslx_check_facts.specs.declared.facts.ForeignSeen.TheVariants as foreign
use Rattle.dslx_check_facts.specs.declared.facts.SignatureThere.{SignatureThere}
use Rattle.dslx_check_facts.specs.declared.facts.TypingThere.{TypingThere}
use Rattle.dslx_check_facts.specs.declared.type_env.TypeEnv.{TypeEnv as CodeEnv}
use Rattle.dslx_check_facts.specs.Known.{FactsHold, HasKnownRows, item_names}
use Rattle.dslx_check_facts.specs.Typings.{HasForeignRows}
use Rattle.dslx_check_facts.specs.Walks.{HasTables, WalkGrows, WalkShown, instances_at}
use Rattle.dslx_check_rules.specs.declared.nodes.parts.ConstantTyping.{ConstantTyping}
use Rattle.dslx_check_rules.specs.Nodes.Parts.{IsPart}
use Rattle.dslx_check_declarations.specs.Tops.{named_as}
use Rattle.dslx_check_leaves.specs.Walked.{WalksTo}
use Rattle.dslx_check_declarations.specs.Work.Comes.{PartIsThere}
use Rattle.dslx_check_judge.specs.Items.Lists.{IsTypeAs}

-- ---- by the definitions, of the parametric that is the next one, if there is one

abbrev pub parameter_in : TypeEnv → Option Parametric → Judgement
parameter_in context None = untyped_typing
parameter_in context (Some p) = typing_of_inner context p.ty

abbrev pub default_tree : Option Parametric → Option Expr
default_tree None = None
default_tree (Some p) = p.default

-- whether a part may be asked for behind so many values of so many parametrics
abbrev pub has_all_of : ForeignPart → ℕ → ℕ → Bool
has_all_of part.Signature values parametrics = values == parametrics
has_all_of _ values parametrics = true

-- an argument and an end of a signature
abbrev pub argument_in : TypeEnv → Field → Judgement
argument_in context x = typing_of_type context x.ty

abbrev pub end_in : TypeEnv → End → Judgement
end_in context x = typing_of_type context x.word

-- ---- by a walk

-- the typing, which reached these instances before and those of the walk
pub record TypesThere (t : TypingThere) (before : List ℕ) (judged : TypeEnv → Judgement) (names : ItemNames) (rows : List TypeRow) (later : WalkShown) (more : List ℕ) (env : TypeEnv) : Type 0 where
  pub type : IsTypeAs names rows later.rows t.ty (judged env).ty
  pub faults_are : t.faults ≡ seen (judged env).faults
  pub all : t.reached.items ≡ before ++ more
  pub reaches : instances_at names later.met more ≡ (judged env).reached

pub record TypesDefault (d : DefaultThere) (before : List ℕ) (found : TypeEnv → DefaultSeen) (names : ItemNames) (rows : List TypeRow) (later : WalkShown) (more : List ℕ) (env : TypeEnv) : Type 0 where
  pub typing : TypesThere d.typing before (λ env. (found env).judgement) names rows later more env
  pub value : d.value ≡ (found env).value

-- a constant, but for how many nodes it has and whether it is a number without a type
pub record TypesTree (c : ConstantTyping) (found : TypeEnv → DefaultSeen) (names : ItemNames) (rows : List TypeRow) (later : WalkShown) (more : List ℕ) (env : TypeEnv) : Type 0 where
  pub part : IsPart names rows later.rows c.typing (found env).judgement
  pub value : c.value ≡ (found env).value
  pub reaches : instances_at names later.met more ≡ (found env).judgement.reached

-- the type of an argument or of an end's words, where () is none
abbrev pub IsDeclaredAs : ItemNames → List TypeRow → List TypeRow → Option TypeId → Judgement → Type 0
IsDeclaredAs names rows later c j = IsTypeAs names rows later c (unless_unit j.ty)

abbrev pub reached_in : Judgement → List Instance
reached_in j = j.reached

pub record TypesSignature (s : SignatureThere) (signature : TypeEnv → Signature) (names : ItemNames) (rows : List TypeRow) (later : WalkShown) (more : List ℕ) (env : TypeEnv) : Type 0 where
  pub rows_there : AllByRecursion (HasRowIf rows) s.arguments.items
  pub arguments : map (type_if names later.rows) s.arguments.items ≡ (signature env).arguments
  pub result : IsTypeAs names rows later.rows s.result (signature env).result

-- ---- as a part of a declaration

abbrev pub GivesParameter : Facts → CodeEnv → CodeEnv → WalkShown → WalkShown → ForeignSeen → Option Parametric → Type 0
GivesParameter f s0 s1 w0 w1 there p = (t : TypingThere) × (there ≡ foreign.Parameter t) × WalksTo f s0 s1 w0 w1 (TypesThere t w0.reached (λ env. parameter_in env p))

abbrev pub GivesDefault : Facts → CodeEnv → CodeEnv → WalkShown → WalkShown → ForeignSeen → Option Parametric → Type 0
GivesDefault f s0 s1 w0 w1 there p = (d : DefaultThere) × (there ≡ foreign.Default d) × WalksTo f s0 s1 w0 w1 (TypesDefault d w0.reached (λ env. default_if env (default_tree p)))

abbrev pub GivesSignature : Facts → CodeEnv → CodeEnv → WalkShown → WalkShown → ForeignSeen → (TypeEnv → Signature) → Type 0
GivesSignature f s0 s1 w0 w1 there signature = (s : SignatureThere) × (there ≡ foreign.Signature s) × WalksTo f s0 s1 w0 w1 (TypesSignature s signature)

-- the part of this kind of the declaration, where this parametric is the next one
abbrev pub GivesPart : Facts → CodeEnv → CodeEnv → WalkShown → WalkShown → ForeignSeen → ForeignPart → Definition → Option Parametric → Type 0
GivesPart f s0 s1 w0 w1 there part.Parameter own next = GivesParameter f s0 s1 w0 w1 there next
GivesPart f s0 s1 w0 w1 there part.Default own next = GivesDefault f s0 s1 w0 w1 there next
GivesPart f s0 s1 w0 w1 there part.Signature own next = GivesSignature f s0 s1 w0 w1 there (λ context. signature_of context (Some own))

-- a part behind parametrics of these values, the last one first, of the item of this definition. Where items of one name are told apart it has
-- another name
pub record JudgesBehind (f : Facts) (old new : WalkShown) (key : ForeignKey) (own : Definition) (values : List (Option DslxValue)) (there : ForeignSeen) : Type 0 where
  pub grows : WalkGrows old new
  pub is : (known : GlobalEnv) (later : WalkShown) → HasTables new later → FactsHold f later known → HasKnownRows old.rows f → new.missing ≡ [] → old.reached ≡ []
      → (name : Ident) → item_named ((item_names f).item key.item) known.whole.items ≡ Some (named_as name own) → PartIsThere (item_names f) known later key values there
  pub rows : (known : GlobalEnv) (later : WalkShown) → HasTables new later → FactsHold f later known → HasKnownRows old.rows f → new.missing ≡ [] → HasForeignRows new.rows there
