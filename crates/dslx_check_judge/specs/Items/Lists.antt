-- Lists whose elements have names: fields, arguments, members.
use Rattle.std.specs.Prelude.{ℕ, List, [], ◌∷◌, ◌≡◌, Option, map}
use Rattle.xb_span.specs.declared.fault.Fault.{Fault}
use Rattle.dslx_tree.specs.declared.item.Field.{Field}
use Rattle.dslx_meaning.specs.declared.ty.DslxType.{DslxType}
use Rattle.dslx_meaning.specs.declared.value.DslxValue.{DslxValue}
use Rattle.dslx_meaning.specs.Rules.ItemRules.{Found, and_found, nothing_found, only_faults, typing_of_inner}
use Rattle.dslx_meaning.specs.Rules.TypeEnvs.{TypeEnv}
use Rattle.dslx_check_rules.specs.declared.faults.Faults.{Faults}
use Rattle.dslx_check_rules.specs.declared.table.row.TypeId.{TypeId}
use Rattle.dslx_check_rules.specs.declared.table.row.TypeRow.{TypeRow}
use Rattle.dslx_check_rules.specs.Interned.{HasRowIf, ItemNames, type_if}
use Rattle.dslx_check_rules.specs.Seen.{seen}
use Rattle.dslx_check_facts.specs.Walks.{WalkShown, instances_at}
use Rattle.dslx_check_rules.specs.Nodes.Parts.{Pairs}
use Rattle.dslx_check_leaves.specs.Walked.{Claim}

-- ---- by the definitions

-- what a list breaks and reaches: at each element what its name breaks behind those before it, and what the element itself breaks and reaches
abbrev pub found_listed : {A : Type 0} → (A → List ℕ) → (List (List ℕ) → A → List Fault) → (A → Found) → List (List ℕ) → List A → Found
found_listed name taken part before [] = nothing_found
found_listed name taken part before (x ∷ xs) = and_found (only_faults (taken before x)) (and_found (part x) (found_listed name taken part (name x ∷ before) xs))

-- the types of fields and of arguments
abbrev pub inner_types_of : TypeEnv → List Field → List (Option DslxType)
inner_types_of context fields = map (λ (x : Field). (typing_of_inner context x.ty).ty) fields

-- ---- by a walk

-- the type is this one, and has a row
pub record IsTypeAs (names : ItemNames) (rows later : List TypeRow) (c : Option TypeId) (d : Option DslxType) : Type 0 where
  pub row : HasRowIf rows c
  pub ty : type_if names later c ≡ d

-- the value is this one
abbrev pub IsValueAs : ItemNames → List TypeRow → List TypeRow → Option DslxValue → Option DslxValue → Type 0
IsValueAs names rows later c d = c ≡ d

-- what an element is, breaks and reaches
pub record TypesElement {C D : Type 0} (is : ItemNames → List TypeRow → List TypeRow → C → D → Type 0) (faults : Faults) (c : C) (found : TypeEnv → Found) (d : TypeEnv → D)
    (names : ItemNames) (rows : List TypeRow) (later : WalkShown) (more : List ℕ) (env : TypeEnv) : Type 0 where
  pub part : is names rows later.rows c (d env)
  pub faults_are : faults ≡ seen (found env).faults
  pub reaches : instances_at names later.met more ≡ (found env).reached

-- and of a list, whose elements are these
pub record TypesList {C D : Type 0} (is : ItemNames → List TypeRow → List TypeRow → C → D → Type 0) (faults : Faults) (cs : List C) (found : TypeEnv → Found) (ds : TypeEnv → List D)
    (names : ItemNames) (rows : List TypeRow) (later : WalkShown) (more : List ℕ) (env : TypeEnv) : Type 0 where
  pub parts : Pairs (is names rows later.rows) cs (ds env)
  pub faults_are : faults ≡ seen (found env).faults
  pub reaches : instances_at names later.met more ≡ (found env).reached

-- a claim about what this number's type is, which has a row
abbrev pub OfType : List TypeRow → Option TypeId → (Option DslxType → Claim) → Claim
OfType old ty claim names rows later more env = HasRowIf old ty → claim (type_if names later.rows ty) names rows later more env
