-- Structs.
use Rattle.std.proofs.Common.{◌≡◌, ◌∙◌, ◌==◌, ◌++◌, ℕ, suc, Bool, true, false, List, [], ◌∷◌, Option, Some, None, map, length, drop, arith, refl, sym, ap, subst}
use Rattle.std.specs.Prelude.{Result, Ok, Err, IfOk, OnOk, if◌then◌else◌}
use Rattle.std.proofs.lemmas.Bool.Decides.{Decides-eqb}
use Rattle.base.specs.Lists.Prefix.{IsPrefix}
use Rattle.base.proofs.Lemmas.Lists.Prefixes.{IsPrefix-refl}
use Rattle.xb_span.specs.declared.fault.Fault.{Fault}
use Rattle.dslx_tree.specs.declared.ident.Ident.{Ident}
use Rattle.dslx_tree.specs.declared.item.Definition.TheVariants as d
use Rattle.dslx_tree.specs.declared.item.Field.{Field}
use Rattle.dslx_tree.specs.declared.item.Struct.{Struct}
use Rattle.dslx_meaning.specs.Items.{as_struct, name_of_field}
use Rattle.dslx_meaning.specs.Lists.{all_some, and_then}
use Rattle.dslx_meaning.specs.declared.ty.DslxType.{DslxType}
use Rattle.dslx_meaning.specs.declared.ty.DslxType as ty
use Rattle.dslx_meaning.specs.Rules.ConstantRules.{is_empty}
use Rattle.dslx_meaning.specs.Rules.ItemRules.{fields_found, item_type_env, struct_seen}
use Rattle.dslx_meaning.specs.Rules.RuleNumbers as rule
use Rattle.dslx_meaning.specs.Rules.TypeEnvs.{GlobalEnv, TypeEnv, breaks_if, has_broken, type_limits}
use Rattle.dslx_check_rules.specs.declared.faults.Faults.{Faults}
use Rattle.dslx_check_rules.specs.declared.table.row.TypeId.{TypeId}
use Rattle.dslx_check_rules.specs.declared.table.row.TypeRow.{TypeRow}
use Rattle.dslx_check_rules.specs.Interned.{HasRowIf, ItemNames, type_if}
use Rattle.dslx_check_rules.specs.Seen.{seen}
use Rattle.dslx_check_facts.specs.declared.facts.Facts.{Facts}
use Rattle.dslx_check_facts.specs.declared.type_env.TypeEnv.{TypeEnv as CodeEnv}
use Rattle.dslx_check_facts.specs.Known.{FactsHold, HasKnownRows, item_at, item_names}
use Rattle.dslx_check_facts.specs.Names.{field_names}
use Rattle.dslx_check_facts.specs.Walks.{HasTables, WalkGrows, WalkShown, instances_at}
use Rattle.dslx_check_facts.proofs.Lemmas.Walks.{grows_trans, tables_refl, tables_trans}
use Rattle.dslx_check_rules.specs.Nodes.Parts.{Pairs}
use Rattle.dslx_check_declarations.specs.declared.items.ItemSeen.{ItemSeen}
use Rattle.dslx_check_declarations.specs.Items.{FindsStruct, HasNoRow}
use Rattle.dslx_check_declarations.specs.Scopes.{outside}
use Rattle.dslx_check_declarations.specs.Tops.{named_as}
use Rattle.dslx_check_declarations.proofs.Lemmas.Items.{item_after, no_row_stays, nothing_put}
use Rattle.dslx_check_leaves.specs.Walked.{Claim, WalksTo}
use Rattle.dslx_check_judge.specs.Items.Inner.Kinds.{JudgesNamed, StructNamed}
use Rattle.dslx_check_judge.specs.Items.Lists.{IsTypeAs, TypesList, inner_types_of}
use Rattle.dslx_check_judge.proofs.Lemmas.Items.OnNames.{called}
use Rattle.dslx_check_judge.proofs.OnItems.OnItems.{holds_named, none_of}
use Rattle.dslx_check_judge.proofs.Lemmas.Items.OnLists.{Adds}

-- ---- where something is missing

pub no_struct : {w : WalkShown} {item : ℕ} {faults : Faults} {types : List (Option TypeId)} → (w.missing ≡ [] → ⊥) → FindsStruct w w item faults types None
no_struct {w} {item} {faults} {types} misses = record { grows = nothing_put w item; same = (refl, refl); row = tt; is = λ fresh none. absurd (misses none) }

-- ---- lists

pub none_is : {A : Type 0} (xs : List A) → (length xs == 0) ≡ is_empty xs
none_is [] = refl
none_is (x ∷ xs) = by (length xs)
  where
    by : (n : ℕ) → (suc n == 0) ≡ false
    by n = other (suc n == 0) refl
      where
        other : (b : Bool) → (suc n == 0) ≡ b → b ≡ false
        other true e = absurd (omega (arith, (Decides-eqb (suc n) 0).0 e))
        other false e = refl

pub types_are : (names : ItemNames) (rows later : List TypeRow) (ts : List (Option TypeId)) (us : List (Option DslxType)) → Pairs (IsTypeAs names rows later) ts us → map (type_if names later) ts ≡ us
types_are names rows later [] [] h = refl
types_are names rows later [] (u ∷ us) h = absurd h
types_are names rows later (t ∷ ts) [] h = absurd h
types_are names rows later (t ∷ ts) (u ∷ us) h = λ i. h.0.ty i ∷ types_are names rows later ts us h.1 i

-- ---- a struct

-- what it breaks but for the limits, and its type where it has these names
abbrev faults_in : TypeEnv → Struct → List Fault
faults_in context s = (fields_found context [] s.fields).faults ++ breaks_if (is_empty s.fields) rule.NO_UNIT_INSIDE s.span

abbrev type_of : List Fault → List ℕ → List (List ℕ) → List (Option DslxType) → Option DslxType
type_of faults name fields types = if has_broken faults then None else and_then (all_some types) (λ ts. Some (ty.Struct name fields ts))

pub struct_named : {f : Facts} {item : ℕ} {s0 s1 : CodeEnv} {w0 w1 w2 : WalkShown} (s : Struct) {found own faults : Faults} {types all : List (Option TypeId)} {fields : List Field} {b : Bool} {j : ItemSeen} → s0 ≡ outside item → fields ≡ s.fields → types ≡ all
    → WalksTo f s0 s1 w0 w1 (TypesList IsTypeAs found all (λ env. fields_found env [] fields) (λ env. inner_types_of env fields))
    → b ≡ (length fields == 0) → own ≡ seen (breaks_if b rule.NO_UNIT_INSIDE s.span) → Adds found own faults → StructNamed w1 w2 item s.span.to faults types j
    → JudgesNamed f w0 w2 item (d.Struct s) j
struct_named {f} {item} {s0} {s1} {w0} {w1} {w2} s {found} {own} {faults} {types} {all} {fields} {b} {j} fresh_env slice as_all g is_none breaks adds n =
    let P : List Field → Claim = λ fs. TypesList IsTypeAs found all (λ env. fields_found env [] fs) (λ env. inner_types_of env fs) in
    let walked : WalksTo f (outside item) s1 w0 w1 (P s.fields) = subst (λ (fs : List Field). WalksTo f (outside item) s1 w0 w1 (P fs)) slice (subst (λ (s : CodeEnv). WalksTo f s s1 w0 w1 (P fields)) fresh_env g) in
    let names = item_names f in
    let before : (later : WalkShown) → HasTables w2 later → HasTables w1 later = λ later has. tables_trans w1 w2 later n.finds.grows.tables has in
    let none_before : w2.missing ≡ [] → w1.missing ≡ [] = λ none. sym n.finds.same.1 ∙ none in
    let own_is : own ≡ seen (breaks_if (is_empty s.fields) rule.NO_UNIT_INSIDE s.span) =
    breaks ∙ ap (λ c. seen (breaks_if c rule.NO_UNIT_INSIDE s.span)) (is_none ∙ ap (λ (fs : List Field). length fs == 0) slice ∙ none_is s.fields) in
    let all_faults : (env : TypeEnv) → found ≡ seen (fields_found env [] s.fields).faults → faults ≡ seen (faults_in env s) =
    λ env e. adds (fields_found env [] s.fields).faults (breaks_if (is_empty s.fields) rule.NO_UNIT_INSIDE s.span) e own_is in
    let came : (known : GlobalEnv) (later : WalkShown) → HasTables w2 later → FactsHold f later known → HasKnownRows w0.rows f → w2.missing ≡ [] → (name : Ident) → item_at f item ≡ Some (named_as name (d.Struct s))
    → P s.fields names w1.rows later (drop (length w0.reached) w1.reached) (item_type_env known name.name []) =
    λ known later has agrees rows none name at. holds_named (P s.fields) walked known later (before later has) agrees rows (none_before none) (called f item _ at) in
    let typed : (known : GlobalEnv) (later : WalkShown) → HasTables w2 later → FactsHold f later known → HasKnownRows w0.rows f → w2.missing ≡ [] → (name : Ident) → item_at f item ≡ Some (named_as name (d.Struct s))
    → HasNoRow w0.rows item → type_if names later.rows j.named_type ≡ (struct_seen known (record s { name = name })).ty =
    λ known later has agrees rows none name at fresh.
    let t = came known later has agrees rows none name at in
    let env = item_type_env known name.name [] in
    n.finds.is (no_row_stays walked.grows fresh) (none_before none) names later.rows has.rows
    ∙ (λ i. if (all_faults env t.faults_are i).broken then None else and_then (all_some (map (type_if names later.rows) (as_all i))) (λ ts. Some (ty.Struct (called f item _ at i) (field_names (as_struct (at i))) ts)))
    ∙ ap (type_of (faults_in env s) name.name (map name_of_field s.fields)) (types_are names w1.rows later.rows all (inner_types_of env s.fields) t.parts) in
    record {
      grows = item_after walked.grows n.finds.grows;
      postponed = λ missing. grows_trans w0 w1 w2 walked.grows (n.postponed missing);
      finds = λ known agrees rows none name at fresh. record {
        faults_are =
            let here = came known w2 (tables_refl w2) (agrees w2 (tables_refl w2)) rows none name at in
            let env = item_type_env known name.name [] in
            n.faults_are names w2.rows (faults_in env s) (IsPrefix-refl w2.rows) (all_faults env here.faults_are)
            ∙ ap (λ (o : Option DslxType). seen (faults_in env s ++ type_limits s.span.to o)) (typed known w2 (tables_refl w2) (agrees w2 (tables_refl w2)) rows none name at fresh);
        reaches = λ later has.
            ap (λ (l : List ℕ). instances_at names later.met (drop (length w0.reached) l)) n.finds.same.0 ∙ (came known later has (agrees later has) rows none name at).reaches;
      };
      comes = λ known agrees rows none name at fresh. record {
        named = λ later has. typed known later has (agrees later has) rows none name at fresh;
        row = n.finds.row;
        no_value = n.no_value;
        no_value_type = n.no_value_type;
      };
    }

-- from its type and the limits on that
pub struct_parts : {w0 w1 : WalkShown} {item end : ℕ} {faults limits all : Faults} {types : List (Option TypeId)} {t : Option TypeId} {j : ItemSeen} → FindsStruct w0 w1 item faults types t → ((w1.missing ≡ [] → ⊥) → WalkGrows w0 w1)
    → ((names : ItemNames) (later : List TypeRow) → IsPrefix w1.rows later → HasRowIf w1.rows t → limits ≡ seen (type_limits end (type_if names later t))) → Adds faults limits all
    → j.faults ≡ all → j.named_type ≡ t → j.value ≡ None → j.value_type ≡ None → StructNamed w0 w1 item end faults types j
struct_parts {w0} {w1} {item} {end} {faults} {limits} {all} {types} {t} {j} finds postponed limited adds all_is type no_value no_value_type = record {
  finds = subst (FindsStruct w0 w1 item faults types) (sym type) finds;
  postponed = postponed;
  faults_are = λ names later fs p e.
      all_is ∙ adds fs (type_limits end (type_if names later t)) e (limited names later p finds.row) ∙ ap (λ (o : Option TypeId). seen (fs ++ type_limits end (type_if names later o))) (sym type);
  no_value = no_value;
  no_value_type = no_value_type;
}

-- where nothing was missing nothing is
pub whole_struct : {E : Type 0} (w0 w1 : WalkShown) (item : ℕ) (faults : Faults) (types : List (Option TypeId)) (r : Result (Option TypeId) E) {b : Bool} → b ≡ (length w0.missing == 0) → b ≡ true → IfOk r (λ t. FindsStruct w0 w1 item faults types t)
    → OnOk r ((w1.missing ≡ [] → ⊥) → WalkGrows w0 w1)
whole_struct w0 w1 item faults types (Ok t) whole is h = λ misses. absurd (misses (h.same.1 ∙ none_of w0.missing whole is))
whole_struct w0 w1 item faults types (Err e) whole is h = tt
