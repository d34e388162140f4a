-- Instances in an order in which each spawns those before it are all made.
use Rattle.std.proofs.Common.{◌≡◌, ◌≤◌, ◌++◌, ◌-◌, ◌&&◌, ◌∙◌, ℕ, zero, suc, List, [], ◌∷◌, map, length, Bool, true, false, if◌then◌else◌, Option, Some, None, refl, sym, ap, subst, append_assoc}
use mathlib.Core.Bool.{true≢false}
use Rattle.std.specs.Prelude.{slice_get}
use Rattle.std.specs.Str.{bytes_eq}
use Rattle.std.proofs.lemmas.List.{append-nil, length-map, map-append}
use Rattle.std.proofs.lemmas.Slice.Eq.{bytes_eq-Decides}
use Rattle.dslx_tree.specs.declared.item.Module.{Module}
use Rattle.dslx_tree.specs.declared.process.ConfigStatement.{ConfigStatement}
use Rattle.dslx_tree.specs.declared.process.ConfigStatement.TheVariants as config_statement
use Rattle.dslx_tree.specs.declared.process.Proc.{Proc}
use Rattle.dslx_tree.specs.declared.process.Spawn.{Spawn}
use Rattle.dslx_meaning.specs.Activation.{opening_state}
use Rattle.dslx_meaning.specs.Items.{item_named, meanings_of}
use Rattle.dslx_meaning.specs.Lists.{and_then, pairwise, where_true, with_both}
use Rattle.dslx_meaning.specs.Network.{as_proc, top_parametric_args}
use Rattle.dslx_meaning.specs.Rules.EqualValues.{equal_value}
use Rattle.dslx_meaning.specs.declared.value.DslxValue.{DslxValue}
use Rattle.dslx_core.specs.Lowering.Functions.{CoreInstance, Instantiated}
use Rattle.dslx_core.specs.Lowering.Steps.{LoweredNext}
use Rattle.dslx_core.specs.Machines.Extension.Results.{NoTableGives}
use Rattle.dslx_core.specs.Machines.Machine.Reached.{ExtendsTable, IsTable}
use Rattle.dslx_core.specs.Networks.Configs.{LoweredConfig, ProcInstance, config_scope, is_proc_instance, lower_config, proc_instance_in}
use Rattle.dslx_core.specs.Networks.Procs.{instance_of, lower_proc, next_proc}
use Rattle.dslx_core.specs.Typing.Typed.Kinds.{is_of}
use Rattle.dslx_core.specs.declared.design.Design.{Design}
use Rattle.dslx_core.specs.declared.design.Instance.{Instance}
use Rattle.dslx_core.proofs.Lemmas.Lowering.{from_then}
use Rattle.dslx_core.proofs.Lemmas.Typing.Laws.{and_true, value_equals_itself}
use Rattle.dslx_core.proofs.Lemmas.Typing.Laws.Chains.{same_name}
use Rattle.dslx_core.proofs.Lemmas.Typing.Typed.{none_some, same_some}
use Rattle.dslx_total.specs.Configs.LowersTotally.{ConfigLowers, TopLowers}
use Rattle.dslx_total.specs.Configs.ReachedProcs.{IsReachedProc}
use Rattle.dslx_total.specs.Configs.Spawned.{EachSpawn, HasItsInstance}
use Rattle.dslx_total.specs.Families.EachElaborated.{NextLowers}
use Rattle.dslx_elab.specs.Adding.{AddsProc, IsAdded, IsAmong}
use Rattle.dslx_elab.specs.Assembling.{AddsAll, AddsFrom, AllAdded, Assembles, IsAssembled, LacksInstance, LacksOuters, LacksTop, OneAdded, OneMissing, is_last_of, is_of_found}
use Rattle.dslx_elab.specs.Orders.{CanBeNext, EndsWithTop, IsSpawnOrder, SpawnsOneOf, StandsIn}
use Rattle.dslx_elab.specs.declared.adding.MadeInstances.{MadeInstances}
use Rattle.dslx_elab.proofs.OnDesign.{same_args}

-- ---- names of what is made

abbrev pub name_of : ProcInstance → Instantiated
name_of c = record { name = c.name; parametric_args = c.parametric_args }

abbrev pub names_of : List ProcInstance → List Instantiated
names_of is = map name_of is

pub args_equal : (vs : List DslxValue) → pairwise equal_value vs vs ≡ true
args_equal [] = refl
args_equal (v ∷ vs) = λ i. value_equals_itself v i && args_equal vs i

-- what stands among the names is found
found_named : (is : List ProcInstance) (n k : ℕ) (i : Instantiated) → slice_get (names_of is) k ≡ Some i → (j : ℕ) × (proc_instance_in i.name i.parametric_args n is ≡ Some j)
found_named [] n k i e = none_some i e
found_named (c ∷ is) n zero i e =
    let same = same_some (name_of c) i e in
    let test : is_proc_instance i.name i.parametric_args c ≡ true =
    subst (λ (x : Instantiated). is_proc_instance x.name x.parametric_args c ≡ true) same (λ t. (bytes_eq-Decides c.name c.name).1 refl t && args_equal c.parametric_args t) in
    (n, ap (λ b. if b then Some n else proc_instance_in i.name i.parametric_args (suc n) is) test)
found_named (c ∷ is) n (suc k) i e = by_test (is_proc_instance i.name i.parametric_args c) (found_named is (suc n) k i e)
  where
    by_test : (b : Bool) → (j : ℕ) × (proc_instance_in i.name i.parametric_args (suc n) is ≡ Some j) → (j : ℕ) × ((if b then Some n else proc_instance_in i.name i.parametric_args (suc n) is) ≡ Some j)
    by_test true r = (n, refl)
    by_test false r = r

-- what is found stands among them
named_found : (is : List ProcInstance) (n j : ℕ) (i : Instantiated) → proc_instance_in i.name i.parametric_args n is ≡ Some j → StandsIn (names_of is) i
named_found [] n j i e = none_some j e
named_found (c ∷ is) n j i e = by_test (is_proc_instance i.name i.parametric_args c) refl e (named_found is (suc n) j i)
  where
    by_test : (b : Bool) → is_proc_instance i.name i.parametric_args c ≡ b → (if b then Some n else proc_instance_in i.name i.parametric_args (suc n) is) ≡ Some j
        → (proc_instance_in i.name i.parametric_args (suc n) is ≡ Some j → StandsIn (names_of is) i) → StandsIn (names_of (c ∷ is)) i
    by_test true q h rest =
        let both = and_true (bytes_eq i.name c.name) (pairwise equal_value i.parametric_args c.parametric_args) q in
        let name = same_name i.name c.name both.0 in
        let args = same_args i.parametric_args c.parametric_args both.1 in
        (0, λ t. Some (record { name = sym name t; parametric_args = sym args t }))
    by_test false q h rest = let r = rest h in (suc r.0, r.1)

-- the last one is the one that is named last
last_named : (is : List ProcInstance) (k : ℕ) (i : Instantiated) → slice_get (names_of is) k ≡ Some i → is_of_found i.name i.parametric_args (slice_get is k) ≡ true
last_named [] k i e = none_some i e
last_named (c ∷ is) zero i e =
    subst (λ (x : Instantiated). is_of_found x.name x.parametric_args (Some c) ≡ true) (same_some (name_of c) i e) (λ t. (bytes_eq-Decides c.name c.name).1 refl t && args_equal c.parametric_args t)
last_named (c ∷ is) (suc k) i e = last_named is k i e

-- ---- one more

each_spawn : (P Q : Spawn → Type 0) → ((s : Spawn) → P s → Q s) → (ms : List ConfigStatement) → EachSpawn P ms → EachSpawn Q ms
each_spawn P Q f [] h = tt
each_spawn P Q f (config_statement.Channel c ∷ ms) h = each_spawn P Q f ms h
each_spawn P Q f (config_statement.Spawn s ∷ ms) h = (f s h.0, each_spawn P Q f ms h.1)

abbrev pub NextsLower : Module → Option (List ℕ) → List CoreInstance → Type 0
NextsLower m top table = (p : Proc) (parametric_args : List DslxValue) → IsReachedProc m top p parametric_args → NextLowers m table p parametric_args

abbrev pub ConfigsLower : Module → Option (List ℕ) → Type 0
ConfigsLower m top = (p : Proc) (parametric_args : List DslxValue) → IsReachedProc m top p parametric_args → ConfigLowers m (meanings_of m) top p parametric_args

module _ (m : Module) (top : Option (List ℕ)) (limit : ℕ) (table : List CoreInstance) (is_table : IsTable m (meanings_of m) table) (few : length table ≤ limit) (nexts : NextsLower m top table) (configs : ConfigsLower m top) where
  -- behind these it becomes something
  pub can_make : (procs : List ProcInstance) (i : Instantiated) → CanBeNext m top (names_of procs) i → (c : ProcInstance) × (next_proc m (meanings_of m) table procs i ≡ Some c)
  can_make procs i k = (as_instance whole, ap (λ o. and_then o (λ q. and_then (lower_proc m (meanings_of m) table procs q i.parametric_args) (λ l. Some (as_instance l)))) of_text ∙ ap (λ o. and_then o (λ l. Some (as_instance l))) made)
    where
      as_instance : Instance → ProcInstance
      as_instance l = record { name = i.name; parametric_args = i.parametric_args; instance = l }

      of_text : as_proc (item_named i.name m.items) ≡ Some k.proc
      of_text = ap (λ name. as_proc (item_named name m.items)) (sym k.name) ∙ ap as_proc (k.checked).named

      there : (s : Spawn) → SpawnsOneOf m (config_scope (meanings_of m) k.proc i.parametric_args) (names_of procs) s → HasItsInstance m (config_scope (meanings_of m) k.proc i.parametric_args) procs s
      there s h target parametric_args is given =
          let stands = h target parametric_args is given in
          found_named procs 0 stands.0 (record { name = s.target.name; parametric_args = parametric_args }) stands.1

      config : (config : LoweredConfig) × (lower_config m (meanings_of m) procs k.proc i.parametric_args ≡ Some config)
      config = (configs k.proc i.parametric_args k.checked).becomes procs
          (each_spawn (SpawnsOneOf m (config_scope (meanings_of m) k.proc i.parametric_args) (names_of procs)) (HasItsInstance m (config_scope (meanings_of m) k.proc i.parametric_args) procs) there (k.proc).config.config_statements k.spawns)

      next : NextLowers m table k.proc i.parametric_args
      next = nexts k.proc i.parametric_args k.checked

      whole : Instance
      whole = instance_of k.proc next.next config.0 next.opening

      opened : LoweredNext → LoweredConfig → Option Instance
      opened n x = and_then (opening_state (meanings_of m) k.proc i.parametric_args) (λ v. where_true (is_of n.state v) (Some (instance_of k.proc n x v)))

      made : lower_proc m (meanings_of m) table procs k.proc i.parametric_args ≡ Some whole
      made =
          (λ t. with_both (next.is t) (config.1 t) opened)
          ∙ ap (λ o. and_then o (λ v. where_true (is_of (next.next).state v) (Some (instance_of k.proc next.next config.0 v)))) next.opens
          ∙ ap (λ b. where_true b (Some whole)) next.of

  -- so it isn't given up
  not_missing : {X : Type 0} (procs : List ProcInstance) (i : Instantiated) → CanBeNext m top (names_of procs) i → NoTableGives m limit (λ t. next_proc m (meanings_of m) t procs i) → X
  not_missing procs i k never = let c = can_make procs i k in none_some c.0 (sym (never table is_table few) ∙ c.1)

  -- and stands behind the others then
  is_named : (procs : List ProcInstance) (functions : List CoreInstance) (i : Instantiated) (c : ProcInstance) → next_proc m (meanings_of m) functions procs i ≡ Some c → name_of c ≡ i
  is_named procs functions i c e =
      let p = from_then (as_proc (item_named i.name m.items)) (λ p. and_then (lower_proc m (meanings_of m) functions procs p i.parametric_args) (λ l. Some (record { name = i.name; parametric_args = i.parametric_args; instance = l }))) c e in
      let l = from_then (lower_proc m (meanings_of m) functions procs p.0 i.parametric_args) (λ l. Some (record { name = i.name; parametric_args = i.parametric_args; instance = l })) c p.2 in
      ap name_of (sym (same_some (record { name = i.name; parametric_args = i.parametric_args; instance = l.0 }) c l.2))

  pub one_named : (before : MadeInstances) (i : Instantiated) (o : Option MadeInstances) → AddsProc m limit before i o → CanBeNext m top (names_of before.procs.items) i
      → (mid : MadeInstances) × (o ≡ Some mid) × (names_of mid.procs.items ≡ names_of before.procs.items ++ i ∷ [])
  one_named before i _ (IsAmong k e) can = absurd (can.new (named_found before.procs.items 0 k i e))
  one_named before i _ (IsAdded None e missing) can = not_missing before.procs.items i can missing
  one_named before i _ (IsAdded (Some after) e added) can =
      let all : ExtendsTable after.functions after.functions = record { more = []; is = sym (append-nil after.functions) } in
      let name = is_named before.procs.items after.functions i added.made ((added.comes).some after.functions all) in
      (after, refl, ap names_of added.procs ∙ (map-append name_of before.procs.items (added.made ∷ []) ∙ ap (λ n. names_of before.procs.items ++ n ∷ []) name))

  all_named : (before : MadeInstances) (is : List Instantiated) (o : Option MadeInstances) → AddsFrom m limit before is o → (names : List Instantiated) → names_of before.procs.items ≡ names → IsSpawnOrder m top names is
      → (made : MadeInstances) × (o ≡ Some made) × (names_of made.procs.items ≡ names ++ is)
  all_named before _ _ (AllAdded _) names e order = (before, refl, e ∙ sym (append-nil names))
  all_named before _ o (OneAdded _ mid i is _ one rest) names e order =
      let can = subst (λ ns. CanBeNext m top ns i) (sym e) order.0 in
      let n = one_named before i (Some mid) one can in
      let same : names_of mid.procs.items ≡ names ++ i ∷ [] = ap (λ (x : MadeInstances). names_of x.procs.items) (same_some mid n.0 n.1) ∙ (n.2 ∙ ap (λ ns. ns ++ i ∷ []) e) in
      let r = all_named mid is o rest (names ++ i ∷ []) same order.1 in
      (r.0, r.1, r.2 ∙ append_assoc names (i ∷ []) is)
  all_named before _ _ (OneMissing _ i is none) names e order =
      let can = subst (λ ns. CanBeNext m top ns i) (sym e) order.0 in
      let n = one_named before i None none can in
      none_some n.0 n.1

  all_made : (wanted : List Instantiated) (o : Option MadeInstances) → AddsAll m limit wanted o → IsSpawnOrder m top [] wanted → (made : MadeInstances) × (o ≡ Some made) × (names_of made.procs.items ≡ wanted)
  all_made wanted o h order = all_named h.0 wanted o h.2 [] (ap names_of (h.1).procs) order

  -- ---- the whole

  module _ (p : Proc) (wanted : List Instantiated) (order : IsSpawnOrder m top [] wanted) (ends : EndsWithTop m p wanted) where
    last_made : (made : MadeInstances) → AddsAll m limit wanted (Some made) → is_last_of p.name.name (top_parametric_args (meanings_of m) p) made.procs.items ≡ true
    last_made made h =
        let r = all_made wanted (Some made) h order in
        let names : names_of made.procs.items ≡ wanted = ap (λ (x : MadeInstances). names_of x.procs.items) (same_some made r.0 r.1) ∙ r.2 in
        let many : length made.procs.items ≡ length wanted = sym (length-map made.procs.items name_of) ∙ ap length names in
        last_named made.procs.items (length made.procs.items - 1) (record { name = p.name.name; parametric_args = top_parametric_args (meanings_of m) p })
        ((λ t. slice_get (names t) (many t - 1)) ∙ ends)

    assembled_if : (o : Option Design) → Assembles m p limit wanted o → TopLowers m (meanings_of m) top p → o ≡ None → ⊥
    assembled_if _ (IsAssembled design made adds procs is) lowers e = none_some design (sym e)
    assembled_if _ (LacksOuters none) lowers e = none_some lowers.outer (sym none ∙ lowers.outers)
    assembled_if _ (LacksInstance missing) lowers e = let r = all_made wanted None missing order in none_some r.0 r.1
    assembled_if _ (LacksTop made adds other) lowers e = absurd (true≢false (sym (last_made made adds) ∙ other))

    pub not_given_up : TopLowers m (meanings_of m) top p → Assembles m p limit wanted None → ⊥
    not_given_up lowers h = assembled_if None h lowers refl
