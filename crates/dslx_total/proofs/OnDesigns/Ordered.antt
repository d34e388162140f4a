-- Instances of procs by how long the chains of items are that begin with them: each spawns those with shorter chains alone.
use Rattle.std.proofs.Common.{◌≡◌, ◌≤◌, ◌&&◌, ◌++◌, ℕ, zero, suc, length, Bool, true, false, not, if◌then◌else◌, List, [], ◌∷◌, Option, Some, None, arith, refl, sym, ap, subst, ◌∙◌}
use mathlib.Core.Bool.{true≢false}
use Rattle.std.specs.Prelude.{flat_map}
use Rattle.std.specs.List.{list_all}
use Rattle.std.proofs.lemmas.List.{length-append}
use Rattle.dslx_tree.specs.declared.expr.Arg.{Arg}
use Rattle.dslx_tree.specs.declared.item.Definition.{Definition}
use Rattle.dslx_tree.specs.declared.item.Definition.TheVariants as d
use Rattle.dslx_tree.specs.declared.item.Module.{Module}
use Rattle.dslx_tree.specs.declared.process.ConfigStatement.{ConfigStatement}
use Rattle.dslx_tree.specs.declared.process.ConfigStatement.TheVariants as config_statement
use Rattle.dslx_tree.specs.declared.process.Proc.{Proc}
use Rattle.dslx_tree.specs.declared.process.Spawn.{Spawn}
use Rattle.dslx_meaning.specs.Environment.{Meanings}
use Rattle.dslx_meaning.specs.Items.{item_named, meanings_of}
use Rattle.dslx_meaning.specs.Network.{as_proc}
use Rattle.dslx_meaning.specs.declared.value.DslxValue.{DslxValue}
use Rattle.dslx_meaning.specs.Rules.TypeEnvs.{Instance}
use Rattle.dslx_meaning.specs.Rules.Mentions.{AsProc, is_of_use, config_statement_mentions, mention, mentioned_in_arg, mentions_of, parametric_names}
use Rattle.dslx_meaning.specs.Rules.ModuleRules.{instances_of, is_reached}
use Rattle.dslx_core.proofs.Lemmas.Typing.Laws.{and_true}
use Rattle.dslx_core.specs.Typing.TypingRelations.Closed.{IsOneOf, ends_within}
use Rattle.dslx_core.proofs.Lemmas.Typing.TypingRelations.{item_so_named, longer}
use Rattle.dslx_core.proofs.Lemmas.Typing.Depends.{den_parts}
use Rattle.dslx_core.proofs.Lemmas.Typing.Typed.{same_some}
use Rattle.dslx_core.proofs.Lemmas.Typing.Accepted.{one_of_these}
use Rattle.dslx_core.specs.Lowering.CoreScopes.{CoreScope}
use Rattle.dslx_core.specs.Lowering.Functions.{CoreInstance, Instantiated}
use Rattle.dslx_core.specs.Networks.Configs.{ProcInstance, config_scope, lower_spawn_parametrics}
use Rattle.dslx_core.specs.Networks.Procs.{procs_from}
use Rattle.dslx_total.proofs.OnTables.Lists.{AreApart, as_named, both_chosen, chosen}
use Rattle.dslx_total.specs.Families.EachElaborated.{NextLowers}
use Rattle.dslx_total.proofs.OnFamilies.Reached.{Within, proc_within}
use Rattle.dslx_total.proofs.OnFamilies.Spawns.{proc_is}
use Rattle.dslx_total.specs.Configs.LowersTotally.{ConfigLowers}
use Rattle.dslx_total.specs.Configs.ReachedProcs.{IsReachedProc}
use Rattle.dslx_total.specs.Configs.Spawned.{EachSpawn, HasItsInstance, SpawnsReached}
use Rattle.dslx_total.proofs.OnDesigns.Growing.{Grown, IsNext, all_grown, appended, lowers_to_next, found_in, stands}
use Rattle.dslx_total.proofs.OnDesigns.Lists.{reached_there}

-- the proc of an instance
proc_there : (o : Option Definition) → is_of_use AsProc o ≡ true → (p : Proc) × (o ≡ Some (d.Proc p))
proc_there (Some (d.Proc p)) h = (p, refl)
proc_there (Some (d.Function f)) h = absurd (true≢false (sym h))
proc_there (Some (d.Constant c)) h = absurd (true≢false (sym h))
proc_there (Some (d.Alias a)) h = absurd (true≢false (sym h))
proc_there (Some (d.Struct x)) h = absurd (true≢false (sym h))
proc_there (Some (d.Enum x)) h = absurd (true≢false (sym h))
proc_there None h = absurd (true≢false (sym h))

-- a proc that is mentioned has shorter chains
mentioned_proc : (m : Module) (k : ℕ) (name : List ℕ) (p : Proc) → item_named name m.items ≡ Some (d.Proc p) → Within (ends_within m k) m (mention AsProc name) → ends_within m k name ≡ true
mentioned_proc m k name p e h =
    (and_true (ends_within m k name) true ((λ t. list_all (ends_within m k) (if is_of_use AsProc (sym e t) then name ∷ [] else [])) ∙ h)).0

module _ (m : Module) (top : Option (List ℕ)) (functions : List CoreInstance) (nexts : (p : Proc) (parametric_args : List DslxValue) → IsReachedProc m top p parametric_args → NextLowers m functions p parametric_args)
    (configs : (p : Proc) (parametric_args : List DslxValue) → IsReachedProc m top p parametric_args → ConfigLowers m (meanings_of m) top p parametric_args) where
  abbrev items : Meanings
  items = meanings_of m

  abbrev pub all : List Instance
  all = instances_of m top

  -- an instance of a proc
  abbrev is_proc : Instance → Bool
  is_proc i = is_of_use AsProc (item_named i.name m.items)

  -- chains from it have one item more, and no fewer
  abbrev is_next : ℕ → Instance → Bool
  is_next k i = ends_within m (suc k) i.name && not (ends_within m k i.name)

  abbrev due : ℕ → Instance → Bool
  due k i = is_next k i && is_proc i

  -- those with the shortest chains first
  abbrev pub in_order : ℕ → List Instantiated
  in_order zero = []
  in_order (suc k) = in_order k ++ chosen (due k) all

  -- all with shorter chains stand in a table
  abbrev pub HoldsShorter : ℕ → List ProcInstance → Type 0
  HoldsShorter k table = (i : Instance) → IsOneOf i all → is_proc i ≡ true → ends_within m k i.name ≡ true → stands table i.name i.parametric_args ≡ true

  -- ---- one instance

  -- the instance that a spawn comes to
  spawned_there : (k : ℕ) (table : List ProcInstance) → HoldsShorter k table → (scope : CoreScope) (s : Spawn) → Within (ends_within m k) m (mention AsProc s.target.name) → SpawnsReached m top scope s → HasItsInstance m scope table s
  spawned_there k table holds scope s w h target parametric_args is given =
      let named : item_named s.target.name m.items ≡ Some (d.Proc h.target) = proc_is (item_named s.target.name m.items) h.target h.is in
      let name : h.target.name.name ≡ s.target.name = item_so_named m.items s.target.name (d.Proc h.target) named in
      let one = same_some h.target target (sym h.is ∙ is) in
      let same = same_some h.parametric_args parametric_args (sym h.given ∙ ((λ t. lower_spawn_parametrics scope (one t) s.arguments) ∙ given)) in
      let i : Instance = record { name = s.target.name; parametric_args = h.parametric_args } in
      let among = one_of_these i all (subst (λ n. is_reached (record { name = n; parametric_args = h.parametric_args }) all ≡ true) name h.checked.checked) in
      let there = holds i among (ap (is_of_use AsProc) named) (mentioned_proc m k s.target.name h.target named w) in
      found_in s.target.name parametric_args 0 table (subst (λ (vs : List DslxValue). stands table s.target.name vs ≡ true) same there)

  each_there : (k : ℕ) (table : List ProcInstance) → HoldsShorter k table → (scope : CoreScope) (bound : List (List ℕ)) (ms : List ConfigStatement) → Within (ends_within m k) m (flat_map (λ (x : ConfigStatement). config_statement_mentions x bound) ms) → EachSpawn (SpawnsReached m top scope) ms
      → EachSpawn (HasItsInstance m scope table) ms
  each_there k table holds scope bound [] w h = tt
  each_there k table holds scope bound (config_statement.Channel c ∷ ms) w h =
      let v = den_parts (ends_within m k) m (config_statement_mentions (config_statement.Channel c) bound) (flat_map (λ (x : ConfigStatement). config_statement_mentions x bound) ms) w in
      each_there k table holds scope bound ms v.1 h
  each_there k table holds scope bound (config_statement.Spawn s ∷ ms) w h =
      let v = den_parts (ends_within m k) m (config_statement_mentions (config_statement.Spawn s) bound) (flat_map (λ (x : ConfigStatement). config_statement_mentions x bound) ms) w in
      let u = den_parts (ends_within m k) m (mention AsProc s.target.name) (flat_map (λ (a : Arg). mentioned_in_arg a bound) s.arguments) v.0 in
      (spawned_there k table holds scope s u.0 h.0, each_there k table holds scope bound ms v.1 h.1)

  -- where all with shorter chains stand, it becomes something
  pub checked_next : (k : ℕ) (table : List ProcInstance) → HoldsShorter k table → (p : Proc) (parametric_args : List DslxValue) → IsReachedProc m top p parametric_args → ends_within m (suc k) p.name.name ≡ true
      → IsNext m functions table (record { name = p.name.name; parametric_args = parametric_args })
  checked_next k table holds p parametric_args checked e =
      let within = proc_within (ends_within m k) m p ((λ t. list_all (ends_within m k) (mentions_of m (sym checked.named t))) ∙ e) in
      let c = configs p parametric_args checked in
      let config = c.becomes table (each_there k table holds (config_scope items p parametric_args) (parametric_names p.parametrics) p.config.config_statements within.config_statements c.spawns) in
      lowers_to_next m functions table (record { name = p.name.name; parametric_args = parametric_args }) p (ap as_proc checked.named) (nexts p parametric_args checked) config.0 config.1

  due_next : (k : ℕ) (table : List ProcInstance) → HoldsShorter k table → (i : Instance) → IsOneOf i all → due k i ≡ true → IsNext m functions table (as_named i)
  due_next k table holds i one e =
      let q = and_true (is_next k i) (is_proc i) e in
      let p = proc_there (item_named i.name m.items) q.1 in
      let name : p.0.name.name ≡ i.name = item_so_named m.items i.name (d.Proc p.0) p.1 in
      subst (λ n. IsNext m functions table (record { name = n; parametric_args = i.parametric_args })) name
      (checked_next k table holds p.0 i.parametric_args
      (record {
        named = (λ t. item_named (name t) m.items) ∙ p.1;
        checked = (λ t. is_reached (record { name = name t; parametric_args = i.parametric_args }) all) ∙ reached_there i all one;
      })
      ((λ t. ends_within m (suc k) (name t)) ∙ (and_true (ends_within m (suc k) i.name) (not (ends_within m k i.name)) q.0).0))

  -- ---- the table of those with chains of so many items

  pub record TableOf (k : ℕ) : Type 0 where
    pub table : List ProcInstance
    pub lowered : procs_from m items functions [] (in_order k) ≡ Some table
    pub holds : HoldsShorter k table
    pub many : length table ≡ length (in_order k)

  pub table_of : (k : ℕ) → TableOf k
  table_of zero = record { table = []; lowered = refl; holds = λ i one p e. absurd (true≢false (sym e)); many = refl }
  table_of (suc k) =
      let t = table_of k in
      let more = all_grown m functions t.table (due k) all (λ i one e after keeps. due_next k after (λ j other p q. keeps j.name j.parametric_args (t.holds j other p q)) i one e) in
      let shorter = t.many in
      let longer = more.many in
      let both = length-append (in_order k) (chosen (due k) all) in
      record {
        table = more.table;
        lowered = appended m functions [] (in_order k) (chosen (due k) all) t.table t.lowered ∙ more.lowered;
        holds = λ i one p e. by_shorter k t more i one p e (ends_within m k i.name) refl;
        many = omega (arith, shorter, longer, both);
      }
    where
      by_shorter : (k : ℕ) (t : TableOf k) (more : Grown m functions t.table (due k) all (chosen (due k) all)) (i : Instance) → IsOneOf i all → is_proc i ≡ true → ends_within m (suc k) i.name ≡ true → (b : Bool) → ends_within m k i.name ≡ b
          → stands more.table i.name i.parametric_args ≡ true
      by_shorter k t more i one p e true q = more.keeps i.name i.parametric_args (t.holds i one p q)
      by_shorter k t more i one p e false q = more.each i one (λ u. (e u && not (q u)) && p u)

  -- ---- how many they are

  apart : (k : ℕ) (i : Instance) → AreApart (λ (j : Instance). ends_within m k j.name) (due k) (λ (j : Instance). ends_within m (suc k) j.name) i
  apart k i = record {
    first = longer m k i.name;
    second = λ e. (and_true (ends_within m (suc k) i.name) (not (ends_within m k i.name)) (and_true (is_next k i) (is_proc i) e).0).0;
    apart = λ p e. true≢false (sym (and_true (ends_within m (suc k) i.name) (not (ends_within m k i.name)) (and_true (is_next k i) (is_proc i) e).0).1 ∙ ap not p);
  }

  pub no_more_than : (k : ℕ) → length (in_order k) ≤ length (chosen (λ (i : Instance). ends_within m k i.name) all)
  no_more_than zero = omega arith
  no_more_than (suc k) =
      let shorter = no_more_than k in
      let one = both_chosen (λ (i : Instance). ends_within m k i.name) (due k) (λ (i : Instance). ends_within m (suc k) i.name) (apart k) all in
      let both = length-append (in_order k) (chosen (due k) all) in
      omega (arith, shorter, one, both)
