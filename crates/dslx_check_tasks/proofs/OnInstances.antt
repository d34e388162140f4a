-- An instance that was walked over, and missed nothing, is told.
use Rattle.std.proofs.Common.{◌≡◌, ◌∙◌, ◌&&◌, ℕ, not, List, [], length, drop, Option, Some, None, slice_get, refl, sym, ap, subst}
use Rattle.std.specs.List.{list_all}
use Rattle.xb_span.specs.declared.fault.Fault.{Fault}
use Rattle.dslx_tree.specs.declared.item.Definition.{Definition}
use Rattle.dslx_tree.specs.declared.item.Definition.TheVariants as d
use Rattle.dslx_tree.specs.declared.item.Function.{Function}
use Rattle.dslx_tree.specs.declared.item.Module.{Module}
use Rattle.dslx_meaning.specs.Items.{item_named}
use Rattle.dslx_meaning.specs.Rules.ConstantRules.{is_empty}
use Rattle.dslx_meaning.specs.Rules.ModuleRules.{found_of_instance, found_of_item}
use Rattle.dslx_meaning.specs.Rules.TypeEnvs.{GlobalEnv, has_broken}
use Rattle.dslx_check_rules.proofs.Lemmas.Types.{get_in_prefix}
use Rattle.dslx_check_facts.specs.declared.facts.Facts.{Facts}
use Rattle.dslx_check_facts.specs.declared.facts.Sums.{Sums}
use Rattle.dslx_check_facts.specs.declared.instances.InstanceKey.{InstanceKey}
use Rattle.dslx_check_facts.specs.declared.walk.Walk.{Walk}
use Rattle.dslx_check_facts.specs.Known.{FactsHold, item_at, item_names, text_of}
use Rattle.dslx_check_facts.specs.Names.{definition_at}
use Rattle.dslx_check_facts.specs.Walks.{HasTables, OnlyMisses, WalkGrows, WalkShown, instance_of, instances_at, shown}
use Rattle.dslx_check_facts.proofs.Lemmas.Walks.{grows_trans, misses_grows, nothing_missing, tables_refl, tables_trans}
use Rattle.dslx_check_declarations.specs.Tops.{named_as}
use Rattle.dslx_check_declarations.proofs.Lemmas.Told.{told_at}
use Rattle.dslx_check_judge.specs.Instances.Judged.{JudgesInstance}
use Rattle.dslx_check_judge.specs.Items.Judged.{FindsAs}
use Rattle.dslx_check_judge.specs.declared.instances.functions.InstanceSeen.{InstanceSeen}
use Rattle.dslx_check_declarations.specs.Work.Comes.{FunctionComesTo}
use Rattle.dslx_check_declarations.specs.Work.Learnt.{LearnsInstance, PutsThere}
use Rattle.dslx_check_declarations.specs.Work.Tables.{KnowsBy}
use Rattle.dslx_check_declarations.specs.Work.Text.{IsTextEnv}
use Rattle.dslx_check_declarations.proofs.Lemmas.Work.Firsts.{first_named, name_is}
use Rattle.dslx_check_tasks.specs.Laws.{InstanceIsKnown, InstanceIsThere, KnownHolds, KnownStays}
use Rattle.dslx_check_tasks.specs.declared.work.Reaches.{Reaches}
use Rattle.dslx_check_tasks.specs.declared.work.Work.{Work}
use Rattle.dslx_check_tasks.specs.Standing.{AreFound, WorkGoesOn, IsFoundBy, IsInstanceFound, Stands, own_globals}
use Rattle.dslx_check_tasks.specs.Told.{IsSumIf, IsSumOf, LearnsSums, TellsInstance}
use Rattle.dslx_check_tasks.proofs.Lemmas.Standing.{begun, by_put, found_stays, stands_begun, tables_begun}
use Rattle.dslx_check_tasks.proofs.OnItems.{stands_for}

-- what is found of an instance is what is found of its item
pub of_item : (text : Module) (known : GlobalEnv) (f : Facts) → text_of f ≡ text → IsTextEnv (text_of f) f.reaching known → (key : InstanceKey) (x : Definition) → item_at f key.item ≡ Some x
    → found_of_instance known (instance_of (item_names f) key) ≡ found_of_item known key.parametric_args (Some x)
of_item text known f same t key x at = ap (found_of_item known key.parametric_args)
    ((λ k. item_named (name_is (text_of f) key.item x at k) (t.whole k).items) ∙ first_named (text_of f) t.distinct key.item x at)

module _ (holds : KnownHolds) (stays : KnownStays) (f : Facts) (v1 v2 v3 : WalkShown) (instance : ℕ) (key : InstanceKey) (own : Definition) (j : InstanceSeen)
    (judges : JudgesInstance f v1 v2 key.item own key.parametric_args j) (only : OnlyMisses v2 v3) (none : v3.missing ≡ []) (met : slice_get v1.met instance ≡ Some key)
    (own_at : definition_at (text_of f).items key.item ≡ Some own) (nothing : v1.reached ≡ []) (items instances : List (Option Reaches)) (s : Stands f v1 items instances) where
  abbrev known : GlobalEnv
  known = own_globals (text_of f)

  grows : WalkGrows v2 v3
  grows = misses_grows v2 v3 only

  none_before : v2.missing ≡ []
  none_before = nothing_missing v2 v3 grows none

  pub grows_all : WalkGrows v1 v3
  grows_all = grows_trans v1 v2 v3 judges.grows grows

  later_holds : (later : WalkShown) → HasTables v2 later → FactsHold f later known
  later_holds later t = holds f v1 later known s.knows (tables_trans v1 v2 later judges.grows.tables t)

  finds : (x : Definition) → item_at f key.item ≡ Some x → FindsAs f v1 v2 j.faults (found_of_item known key.parametric_args (Some x))
  finds x at = judges.finds known later_holds s.knows.rows none_before x own_at at

  met_now : slice_get v3.met instance ≡ Some key
  met_now = get_in_prefix v1.met v3.met instance key grows_all.tables.met met

  there : (x : Definition) × (item_at f key.item ≡ Some x)
  there = let t = told_at [] (text_of f).items key.item own own_at in (named_as t.0 own, t.2)

  -- what it reaches
  reaches : (x : Definition) → item_at f key.item ≡ Some x → (later : WalkShown) → HasTables v3 later → instances_at (item_names f) later.met v2.reached ≡ (found_of_item known key.parametric_args (Some x)).reached
  reaches x at later t = ap (λ (l : List ℕ). instances_at (item_names f) later.met (drop (length l) v2.reached)) (sym nothing) ∙ (finds x at).reaches later (tables_trans v2 v3 later grows.tables t)

  found_here : (is : Reaches) → is.faults ≡ j.faults → is.reached.items ≡ v3.reached → IsInstanceFound (text_of f) v3 instance is
  found_here is faults reached = record {
    key = key;
    met = met_now;
    is = subst (IsFoundBy (item_names f) v3 is) (sym (of_item (text_of f) known f refl s.knows.text key there.0 there.1)) (record {
      faults = faults ∙ (finds there.0 there.1).faults_are;
      reached = λ later t. ap (instances_at (item_names f) later.met) (reached ∙ only.reached) ∙ reaches there.0 there.1 later t;
    });
  }

  pub found_now : (is : Reaches) (new : List (Option Reaches)) → is.faults ≡ j.faults → is.reached.items ≡ v3.reached → PutsThere instances new instance is → AreFound (text_of f) v3 items new
  found_now is new faults reached put =
      let before = found_stays (text_of f) v1 v3 items instances grows_all.tables s.found in
      record { items_are = before.items_are; instances_are = λ n r e. by_put (IsInstanceFound (text_of f) v3) put (found_here is faults reached) n r (before.instances_are n r) e }

  known_here : KnowsBy f v3 known
  known_here = stays f v1 v3 known grows_all s.knows

  function_comes : (o : Function) → item_at f key.item ≡ Some (d.Function o) → (sums : Sums) → IsSumOf f v2 v3 j sums → FunctionComesTo f v3 known instance o sums
  function_comes o at sums sum = record {
    key = key;
    met = met_now;
    name = name_is (text_of f) key.item (d.Function o) at;
    sound = sum.sound known v3 faults now none (finds (d.Function o) at).faults_are ∙ ap (λ is. is_empty faults && list_all known.is_sound is) (reaches (d.Function o) at v3 (tables_refl v3));
    unbroken = sum.unbroken known v3 faults now none (finds (d.Function o) at).faults_are ∙ ap (λ is. not (has_broken faults) && list_all known.is_unbroken is) (reaches (d.Function o) at v3 (tables_refl v3));
    size = sum.size ∙ judges.size known later_holds s.knows.rows none_before (d.Function o) own_at at;
  }
    where
      faults : List Fault
      faults = (found_of_item known key.parametric_args (Some (d.Function o))).faults

      now : FactsHold f v3 known
      now = later_holds v3 grows.tables

  known_done : InstanceIsKnown → InstanceIsThere → (o : Function) → item_at f key.item ≡ Some (d.Function o) → (sums : Sums) → IsSumOf f v2 v3 j sums → (new : Facts) → LearnsInstance f new instance sums → KnowsBy new v3 known
  known_done is_known is_there o at sums sum new l =
      is_known f new v3 known instance sums known_here l (is_there f v3 known instance key.item o sums s.knows.text s.settled.functions at (function_comes o at sums sum))

same_text : (old new : Facts) (instance : ℕ) (sums : Option Sums) → LearnsSums old new instance sums → text_of new ≡ text_of old
same_text old new instance None l = ap text_of l
same_text old new instance (Some sums) l = ap text_of l.rest

pub told : (holds : KnownHolds) (stays : KnownStays) → InstanceIsKnown → InstanceIsThere → (f : Facts) (v1 v2 v3 : WalkShown) (instance : ℕ) (key : InstanceKey) (own : Definition) (j : InstanceSeen)
    → JudgesInstance f v1 v2 key.item own key.parametric_args j → OnlyMisses v2 v3 → v3.missing ≡ [] → slice_get v1.met instance ≡ Some key → definition_at (text_of f).items key.item ≡ Some own → v1.reached ≡ []
    → (items instances : List (Option Reaches)) → Stands f v1 items instances → (is : Reaches) (new_instances : List (Option Reaches)) → is.faults ≡ j.faults → is.reached.items ≡ v3.reached
    → PutsThere instances new_instances instance is → (sums : Option Sums) → IsSumIf f v2 v3 own j sums → (new : Facts) → LearnsSums f new instance sums → Stands new v3 items new_instances
told holds stays is_known is_there f v1 v2 v3 instance key own j judges only none met own_at nothing items instances s is new_instances faults reached put sums sum new l = by own own_at judges sums sum l
  where
    found : (x : Definition) → definition_at (text_of f).items key.item ≡ Some x → JudgesInstance f v1 v2 key.item x key.parametric_args j → AreFound (text_of f) v3 items new_instances
    found x at judge = found_now holds stays f v1 v2 v3 instance key x j judge only none met at nothing items instances s is new_instances faults reached put

    nothing_learnt : (x : Definition) → definition_at (text_of f).items key.item ≡ Some x → JudgesInstance f v1 v2 key.item x key.parametric_args j → new ≡ f → Stands new v3 items new_instances
    nothing_learnt x at judge e = subst (λ (g : Facts). Stands g v3 items new_instances) (sym e) (record {
      settled = s.settled;
      knows = stays f v1 v3 (own_globals (text_of f)) (grows_all holds stays f v1 v2 v3 instance key x j judge only none met at nothing items instances s) s.knows;
      found = found x at judge;
    })

    by : (x : Definition) → definition_at (text_of f).items key.item ≡ Some x → JudgesInstance f v1 v2 key.item x key.parametric_args j → (o : Option Sums) → IsSumIf f v2 v3 x j o → LearnsSums f new instance o → Stands new v3 items new_instances
    by x at judge None sum l = nothing_learnt x at judge l
    by (d.Function o) at judge (Some sums) sum l =
        let t = told_at [] (text_of f).items key.item (d.Function o) at in
        stands_for f new v3 items new_instances (same_text f new instance (Some sums) l) s.settled
        (known_done holds stays f v1 v2 v3 instance key (d.Function o) j judge only none met at nothing items instances s is_known is_there (record o { name = t.0 }) t.2 sums sum new l)
        (found (d.Function o) at judge)
    by (d.Alias a) at judge (Some sums) sum l = absurd sum
    by (d.Struct x) at judge (Some sums) sum l = absurd sum
    by (d.Enum x) at judge (Some sums) sum l = absurd sum
    by (d.Constant c) at judge (Some sums) sum l = absurd sum
    by (d.Proc p) at judge (Some sums) sum l = absurd sum

-- an instance that was walked over from where a walk began, and is told
pub instance_goes : KnownHolds → KnownStays → InstanceIsKnown → InstanceIsThere → (w new : Work) (walk1 walk2 walk3 : Walk) (instance : ℕ) (key : InstanceKey) (own : Definition) (j : InstanceSeen) → shown walk1 ≡ begun (shown w.walk)
    → JudgesInstance w.facts (shown walk1) (shown walk2) key.item own key.parametric_args j → OnlyMisses (shown walk2) (shown walk3) → (shown walk3).missing ≡ [] → slice_get (shown w.walk).met instance ≡ Some key
    → definition_at (text_of w.facts).items key.item ≡ Some own → (sums : Option Sums) → IsSumIf w.facts (shown walk2) (shown walk3) own j sums → TellsInstance (record w { walk = walk3 }) new instance j.faults sums → WorkGoesOn w new
instance_goes holds stays is_known is_there w new walk1 walk2 walk3 instance key own j e judges only none met own_at sums sum tells =
    let grows = grows_trans (shown walk1) (shown walk2) (shown walk3) judges.grows (misses_grows (shown walk2) (shown walk3) only) in record {
      text = same_text w.facts new.facts instance sums tells.learnt;
      tables = subst (λ (x : Work). HasTables (shown w.walk) (shown x.walk)) (sym tells.rest) (tables_begun (shown w.walk) (shown walk1) (shown walk3) e grows.tables);
      right = λ r. subst (λ (x : Work). Stands x.facts (shown x.walk) x.items.items x.instances.items) (sym tells.rest)
          (told holds stays is_known is_there w.facts (shown walk1) (shown walk2) (shown walk3) instance key own j judges only none (ap (λ (v : WalkShown). slice_get v.met instance) e ∙ met) own_at
          (ap (λ (v : WalkShown). v.reached) e) w.items.items w.instances.items (stands_begun w.facts (shown w.walk) (shown walk1) w.items.items w.instances.items e r) tells.is new.instances.items tells.faults_are
          tells.reached tells.put sums sum new.facts tells.learnt);
    }
