-- Instances of functions and procs.
use Rattle.std.specs.Prelude.{ℕ, List, [], ◌∷◌, ◌≡◌, Bool, Option, None, drop, length, true, false}
use Rattle.xb_span.specs.declared.limit.What.TheVariants as what
use Rattle.dslx_tree.specs.declared.block.Block.{out-Block}
use Rattle.dslx_tree.specs.declared.block.Let.{out-Let}
use Rattle.dslx_tree.specs.declared.block.Stmt.TheOpen.{Stmt-F}
use Rattle.dslx_tree.specs.declared.ident.Ident.{Ident}
use Rattle.dslx_tree.specs.declared.item.Function.{Function}
use Rattle.dslx_tree.specs.declared.process.Proc.{Proc}
use Rattle.dslx_meaning.specs.Activation.{StmtLayer}
use Rattle.dslx_meaning.specs.declared.ty.DslxType.{DslxType}
use Rattle.dslx_meaning.specs.declared.value.DslxValue.{DslxValue}
use Rattle.dslx_meaning.specs.Rules.EffectNames.{is_effect}
use Rattle.dslx_meaning.specs.Rules.ItemRules.{Found, and_found, body_typing, found_in, function_seen, only_faults}
use Rattle.dslx_meaning.specs.Rules.NameRules.{local_name}
use Rattle.dslx_meaning.specs.Rules.ProcRules.{count_sites, proc_seen}
use Rattle.dslx_meaning.specs.Rules.TypeEnvs.{GlobalEnv, TypeEnv, passes_count}
use Rattle.dslx_check_rules.specs.declared.faults.Faults.{Faults}
use Rattle.dslx_check_rules.specs.declared.table.row.TypeId.{TypeId}
use Rattle.dslx_check_rules.specs.Seen.{capped, seen}
use Rattle.dslx_check_rules.specs.Interned.{HasRowIf, type_if}
use Rattle.dslx_check_facts.specs.declared.facts.Facts.{Facts}
use Rattle.dslx_check_facts.specs.declared.type_env.TypeEnv.{TypeEnv as CodeEnv}
use Rattle.dslx_check_facts.specs.Judged.{Comes, environment}
use Rattle.dslx_check_facts.specs.Known.{FactsHold, HasKnownRows, item_names}
use Rattle.dslx_check_facts.specs.Walks.{HasTables, WalkGrows, WalkShown, instances_at}
use Rattle.dslx_check_judge.specs.declared.instances.functions.InstanceSeen.{InstanceSeen}

-- ---- functions

-- an instance of the function of a number. Where items of one name are told apart it has this name
pub record JudgesFunction (f : Facts) (old new : WalkShown) (item : ℕ) (own : Function) (values : List DslxValue) (j : InstanceSeen) : Type 0 where
  pub grows : WalkGrows old new
  pub is : (known : GlobalEnv) (later : WalkShown) (name : Ident) → HasTables new later → FactsHold f later known → HasKnownRows old.rows f → new.missing ≡ [] → (item_names f).item item ≡ name.name
      → j.faults ≡ seen (function_seen known (record own { name = name }) values).found.faults
  pub reaches : (known : GlobalEnv) (later : WalkShown) (name : Ident) → HasTables new later → FactsHold f later known → HasKnownRows old.rows f → new.missing ≡ [] → (item_names f).item item ≡ name.name
      → instances_at (item_names f) later.met (drop (length old.reached) new.reached) ≡ (function_seen known (record own { name = name }) values).found.reached
  pub size : (known : GlobalEnv) (later : WalkShown) (name : Ident) → HasTables new later → FactsHold f later known → HasKnownRows old.rows f → new.missing ≡ [] → (item_names f).item item ≡ name.name
      → j.size ≡ capped (function_seen known (record own { name = name }) values).body.size

-- ---- procs

-- a statement of `next` that is a receive or a send
abbrev pub is_site : StmtLayer → Bool
is_site (Stmt-F.Let l) = is_effect (out-Let l).value
is_site (Stmt-F.Bare e) = is_effect e

-- what `init` and `next` break and reach, where the state has this type and the members are in scope; and the limit on sites
abbrev pub activity_found : Proc → Option DslxType → TypeEnv → Found
activity_found p state context =
    and_found (found_in (body_typing false context state p.init))
    (and_found (only_faults (local_name context [] p.next.state))
    (and_found (found_in (body_typing true (record context { locals = record { name = p.next.state.name; ty = state } ∷ [] }) state p.next.body))
    (only_faults (passes_count what.Sites 32 p.span.to (count_sites (out-Block p.next.body).statements)))))

-- where no name is bound before
pub record JudgesActivity (f : Facts) (before : CodeEnv) (old new : WalkShown) (faults : Faults) (p : Proc) (state : Option TypeId) : Type 0 where
  pub grows : WalkGrows old new
  pub is : before.locals ≡ [] → HasRowIf old.rows state
      → Comes f before old new (λ known later. faults ≡ seen (activity_found p (type_if (item_names f) later.rows state) (environment f before known later)).faults)
  pub reaches : before.locals ≡ [] → HasRowIf old.rows state
      → Comes f before old new (λ known later. instances_at (item_names f) later.met (drop (length old.reached) new.reached)
      ≡ (activity_found p (type_if (item_names f) later.rows state) (environment f before known later)).reached)

-- an instance of the proc of a number. Where items of one name are told apart it has this name
pub record JudgesProc (f : Facts) (old new : WalkShown) (item : ℕ) (own : Proc) (values : List DslxValue) (j : InstanceSeen) : Type 0 where
  pub grows : WalkGrows old new
  pub is : (known : GlobalEnv) (later : WalkShown) (name : Ident) → HasTables new later → FactsHold f later known → HasKnownRows old.rows f → new.missing ≡ [] → (item_names f).item item ≡ name.name
      → j.faults ≡ seen (proc_seen known (record own { name = name }) values).faults
  pub reaches : (known : GlobalEnv) (later : WalkShown) (name : Ident) → HasTables new later → FactsHold f later known → HasKnownRows old.rows f → new.missing ≡ [] → (item_names f).item item ≡ name.name
      → instances_at (item_names f) later.met (drop (length old.reached) new.reached) ≡ (proc_seen known (record own { name = name }) values).reached
  pub size : j.size ≡ None
