-- Instances that are added behind those that they spawn.
use Rattle.std.proofs.Common.{◌≡◌, ◌++◌, ◌-◌, ◌+◌, ◌<◌, ◌≤◌, ◌∙◌, ◌⊎◌, inl, inr, ℕ, zero, suc, List, [], ◌∷◌, length, get_or, take, true, false, Option, Some, None, refl, sym, ap, subst, append_assoc, arith}
use mathlib.Core.Bool.{true≢false}
use Rattle.std.specs.Prelude.{flat_map, slice_get}
use Rattle.std.proofs.lemmas.List.{take_all, take_more}
use Rattle.std.specs.List.{list_all}
use Rattle.dslx_tree.specs.declared.expr.Arg.{Arg}
use Rattle.dslx_tree.specs.declared.item.Definition.TheVariants as d
use Rattle.dslx_tree.specs.declared.item.Module.{Module}
use Rattle.dslx_tree.specs.declared.process.ConfigStatement.{ConfigStatement}
use Rattle.dslx_tree.specs.declared.process.ConfigStatement.TheVariants as config_statement
use Rattle.dslx_tree.specs.declared.process.Proc.{Proc}
use Rattle.dslx_tree.specs.declared.process.Spawn.{Spawn}
use Rattle.dslx_meaning.specs.Items.{item_named, meanings_of}
use Rattle.dslx_meaning.specs.Lists.{and_then, with_both}
use Rattle.dslx_meaning.specs.Network.{as_proc}
use Rattle.dslx_meaning.specs.declared.value.DslxValue.{DslxValue}
use Rattle.dslx_meaning.specs.Rules.Mentions.{AsProc, config_statement_mentions, mention, mentioned_in_arg, mentions_of, parametric_names}
use Rattle.dslx_core.specs.Lowering.CoreScopes.{CoreScope}
use Rattle.dslx_core.specs.Lowering.Functions.{Instantiated}
use Rattle.dslx_core.specs.Networks.Configs.{config_scope, lower_spawn_parametrics}
use Rattle.dslx_core.specs.Typing.TypingRelations.Closed.{ends_within}
use Rattle.dslx_core.proofs.Lemmas.Typing.Depends.{den_parts}
use Rattle.dslx_core.proofs.Lemmas.Typing.TypingRelations.{item_so_named}
use Rattle.dslx_core.proofs.Lemmas.Typing.Typed.{none_some, same_some}
use Rattle.dslx_config.specs.Configs.Spawned.{spawned_instance, spawned_instances}
use Rattle.dslx_total.specs.Configs.LowersTotally.{ConfigLowers}
use Rattle.dslx_total.specs.Configs.ReachedProcs.{IsReachedProc}
use Rattle.dslx_total.specs.Configs.Spawned.{EachSpawn, SpawnsReached}
use Rattle.dslx_elab.specs.Orders.{CanBeNext, IsSpawnOrder, SpawnsOneOf, StandsIn}
use Rattle.dslx.specs.Order.Adding.{AddsInstance, AddsSpawned, CanAllBeAdded, EachEnds, EachStandsIn, CanBeAdded}
use Rattle.dslx.proofs.OnOrder.OnMentions.{Within, config_within, mentioned_proc, proc_of}
use Rattle.dslx.proofs.OnOrder.OnOrder.{each_and, each_first, ends_at, ends_join, ends_longer, ends_parts, last_at, last_there, order_and, order_join, stands_one, within_ends}

module _ (m : Module) (top : Option (List ℕ)) (configs : (p : Proc) (parametric_args : List DslxValue) → IsReachedProc m top p parametric_args → ConfigLowers m (meanings_of m) top p parametric_args) where
  -- ---- what spawns come to

  record OneSpawned (k : ℕ) (scope : CoreScope) (s : Spawn) : Type 0 where
    instance : Instantiated
    comes : spawned_instance m scope s ≡ Some instance
    within : CanBeAdded m top k instance
    one : (order : List Instantiated) → StandsIn order instance → SpawnsOneOf m scope order s

  one_spawned : (k : ℕ) (scope : CoreScope) (s : Spawn) → Within (ends_within m k) m (mention AsProc s.target.name) → SpawnsReached m top scope s → OneSpawned k scope s
  one_spawned k scope s w h =
      let named : item_named s.target.name m.items ≡ Some (d.Proc h.target) = proc_of (item_named s.target.name m.items) h.target h.is in
      record {
        instance = record { name = s.target.name; parametric_args = h.parametric_args };
        comes = comes_to h.target h.parametric_args h.is h.given;
        within = record { proc = h.target; name = item_so_named m.items s.target.name (d.Proc h.target) named; checked = h.checked; ends = mentioned_proc m k s.target.name h.target named w };
        one = λ order there target parametric_args is given.
            subst (StandsIn order) (same_some (record { name = s.target.name; parametric_args = h.parametric_args }) (record { name = s.target.name; parametric_args = parametric_args })
            (sym (comes_to h.target h.parametric_args h.is h.given) ∙ comes_to target parametric_args is given)) there;
      }
    where
      comes_to : (target : Proc) (parametric_args : List DslxValue) → as_proc (item_named s.target.name m.items) ≡ Some target → lower_spawn_parametrics scope target s.arguments ≡ Some parametric_args
          → spawned_instance m scope s ≡ Some (record { name = s.target.name; parametric_args = parametric_args })
      comes_to target parametric_args is given =
          (λ t. and_then (is t) (λ (p : Proc). and_then (lower_spawn_parametrics scope p s.arguments) (λ (vs : List DslxValue). Some (record { name = s.target.name; parametric_args = vs }))))
          ∙ (λ t. and_then (given t) (λ (vs : List DslxValue). Some (record { name = s.target.name; parametric_args = vs })))

  record AllSpawned (k : ℕ) (scope : CoreScope) (ms : List ConfigStatement) : Type 0 where
    instances : List Instantiated
    comes : spawned_instances m scope ms ≡ Some instances
    within : CanAllBeAdded m top k instances
    each : (order : List Instantiated) → EachStandsIn order instances → EachSpawn (SpawnsOneOf m scope order) ms

  all_spawned : (k : ℕ) (scope : CoreScope) (bound : List (List ℕ)) (ms : List ConfigStatement) → Within (ends_within m k) m (flat_map (λ (x : ConfigStatement). config_statement_mentions x bound) ms) → EachSpawn (SpawnsReached m top scope) ms → AllSpawned k scope ms
  all_spawned k scope bound [] w h = record { instances = []; comes = refl; within = tt; each = λ order there. tt }
  all_spawned k scope bound (config_statement.Channel c ∷ ms) w h =
      let v = den_parts (ends_within m k) m (config_statement_mentions (config_statement.Channel c) bound) (flat_map (λ (x : ConfigStatement). config_statement_mentions x bound) ms) w in
      let r = all_spawned k scope bound ms v.1 h in
      record { instances = r.instances; comes = r.comes; within = r.within; each = r.each }
  all_spawned k scope bound (config_statement.Spawn s ∷ ms) w h =
      let v = den_parts (ends_within m k) m (config_statement_mentions (config_statement.Spawn s) bound) (flat_map (λ (x : ConfigStatement). config_statement_mentions x bound) ms) w in
      let u = den_parts (ends_within m k) m (mention AsProc s.target.name) (flat_map (λ (a : Arg). mentioned_in_arg a bound) s.arguments) v.0 in
      let one = one_spawned k scope s u.0 h.0 in
      let r = all_spawned k scope bound ms v.1 h.1 in
      record {
        instances = one.instance ∷ r.instances;
        comes = λ t. with_both (one.comes t) (r.comes t) (λ i is. Some (i ∷ is));
        within = (one.within, r.within);
        each = λ order there. (one.one order there.0, r.each order there.1);
      }

  -- what an instance spawns, from which chains are shorter
  proc_spawned : (k : ℕ) (p : Proc) (parametric_args : List DslxValue) → IsReachedProc m top p parametric_args → ends_within m (suc k) p.name.name ≡ true → AllSpawned k (config_scope (meanings_of m) p parametric_args) p.config.config_statements
  proc_spawned k p parametric_args checked e =
      let within = config_within (ends_within m k) m p ((λ t. list_all (ends_within m k) (mentions_of m (sym checked.named t))) ∙ e) in
      all_spawned k (config_scope (meanings_of m) p parametric_args) (parametric_names p.parametrics) p.config.config_statements within (configs p parametric_args checked).spawns

  -- ---- an instance that isn't there yet

  module _ (k : ℕ) (i : Instantiated) (w : CanBeAdded m top (suc k) i) where
    abbrev scope : CoreScope
    scope = config_scope (meanings_of m) w.proc i.parametric_args

    of_proc : (n : ℕ) → ends_within m (suc n) i.name ≡ true → AllSpawned n scope w.proc.config.config_statements
    of_proc n e = proc_spawned n w.proc i.parametric_args w.checked (subst (λ name. ends_within m (suc n) name ≡ true) (sym w.name) e)

    -- what it spawns is there
    pub spawned_comes : (instances : List Instantiated) × (spawned_instances m scope w.proc.config.config_statements ≡ Some instances)
    spawned_comes = let r = of_proc k w.ends in (r.instances, r.comes)

    module _ (spawned : List Instantiated) (is : spawned_instances m scope w.proc.config.config_statements ≡ Some spawned) where
      pub spawned_within : CanAllBeAdded m top k spawned
      spawned_within = let r = of_proc k w.ends in subst (CanAllBeAdded m top k) (same_some r.instances spawned (sym r.comes ∙ is)) r.within

      spawned_end : (n : ℕ) → ends_within m (suc n) i.name ≡ true → EachEnds m n spawned
      spawned_end n e = let r = of_proc n e in subst (EachEnds m n) (same_some r.instances spawned (sym r.comes ∙ is)) (within_ends m n top r.instances r.within)

      spawned_one : (order : List Instantiated) → EachStandsIn order spawned → EachSpawn (SpawnsOneOf m scope order) w.proc.config.config_statements
      spawned_one order there = let r = of_proc k w.ends in r.each order (subst (EachStandsIn order) (sym (same_some r.instances spawned (sym r.comes ∙ is))) there)

      module _ (before mid : List Instantiated) (new : StandsIn before i → ⊥) (adds : AddsSpawned m top spawned before mid) where
        -- it isn't among those that were put for what it spawns
        not_among : (n : ℕ) → ends_within m n i.name ≡ true → StandsIn adds.more i → ⊥
        not_among zero e s = true≢false (sym e)
        not_among (suc n) e s = not_among n (ends_at m n adds.more i s (adds.chains n (spawned_end n e))) s

        not_yet : StandsIn mid i → ⊥
        not_yet s = by_side (stands_one before adds.more i (subst (λ order. StandsIn order i) adds.is s))
          where
            by_side : StandsIn before i ⊎ StandsIn adds.more i → ⊥
            by_side (inl t) = new t
            by_side (inr t) = not_among (suc k) w.ends t

        next : CanBeNext m top mid i
        next = record { proc = w.proc; name = w.name; checked = w.checked; new = not_yet; spawns = spawned_one mid adds.there }

        chains : (n : ℕ) → ends_within m n i.name ≡ true → EachEnds m n (adds.more ++ i ∷ [])
        chains zero e = absurd (true≢false (sym e))
        chains (suc n) e = ends_join m (suc n) adds.more (i ∷ []) (adds.chains (suc n) (ends_longer m n spawned (spawned_end n e))) (e, tt)

        pub added : (after : List Instantiated) → after ≡ mid ++ i ∷ [] → AddsInstance m top i before after
        added after e = record {
          more = adds.more ++ i ∷ [];
          is = e ∙ ap (λ order. order ++ i ∷ []) adds.is ∙ append_assoc before adds.more (i ∷ []);
          order = order_and m top before adds.more i adds.order (subst (λ order. CanBeNext m top order i) adds.is next);
          there = subst (λ order. StandsIn order i) (sym e) (length mid, last_at mid i);
          last = λ absent. subst (λ (order : List Instantiated). slice_get order (length order - 1) ≡ Some i) (sym e) (last_there mid i);
          chains = chains;
        }

module _ (m : Module) (top : Option (List ℕ)) (configs : (p : Proc) (parametric_args : List DslxValue) → IsReachedProc m top p parametric_args → ConfigLowers m (meanings_of m) top p parametric_args)
    (i : Instantiated) (p : Proc) (found : Some p ≡ as_proc (item_named i.name m.items)) where
  abbrev pub spawned_by_proc : Option (List Instantiated)
  spawned_by_proc = spawned_instances m (config_scope (meanings_of m) p i.parametric_args) p.config.config_statements

  same_proc : (most : ℕ) (w : CanBeAdded m top most i) → p ≡ w.proc
  same_proc most w = same_some p w.proc (found ∙ (λ t. as_proc (item_named (sym w.name t) m.items)) ∙ ap as_proc w.checked.named)

  of_same : (most : ℕ) (w : CanBeAdded m top most i) (o : Option (List Instantiated)) → spawned_by_proc ≡ o → spawned_instances m (config_scope (meanings_of m) w.proc i.parametric_args) w.proc.config.config_statements ≡ o
  of_same most w o e = subst (λ (q : Proc). spawned_instances m (config_scope (meanings_of m) q i.parametric_args) q.config.config_statements ≡ o) (same_proc most w) e

  -- what is spawned is there
  pub not_missing : (most : ℕ) → CanBeAdded m top most i → spawned_by_proc ≡ None → ⊥
  not_missing zero w e = true≢false (sym w.ends)
  not_missing (suc k) w e = let r = spawned_comes m top configs k i w in none_some r.0 (sym (of_same (suc k) w None e) ∙ r.1)

  -- chains from it are shorter
  pub shorter : (most : ℕ) → CanBeAdded m top most i → (spawned : List Instantiated) → spawned_by_proc ≡ Some spawned → CanAllBeAdded m top (most - 1) spawned
  shorter zero w spawned e = absurd (true≢false (sym w.ends))
  shorter (suc k) w spawned e = let one : k ≡ suc k - 1 = omega arith in subst (λ n. CanAllBeAdded m top n spawned) one (spawned_within m top configs k i w spawned (of_same (suc k) w (Some spawned) e))

  -- the instance comes behind it
  pub behind : (most : ℕ) → CanBeAdded m top most i → (spawned : List Instantiated) → spawned_by_proc ≡ Some spawned → (before mid after : List Instantiated) → (StandsIn before i → ⊥) → AddsSpawned m top spawned before mid → after ≡ mid ++ i ∷ []
      → AddsInstance m top i before after
  behind zero w spawned e before mid after new adds is = absurd (true≢false (sym w.ends))
  behind (suc k) w spawned e before mid after new adds is = added m top configs k i w spawned (of_same (suc k) w (Some spawned) e) before mid new adds after is

-- an instance that is there already
pub unchanged : (m : Module) (top : Option (List ℕ)) (i : Instantiated) (order after : List Instantiated) → after ≡ order → StandsIn order i → AddsInstance m top i order after
unchanged m top i order after e there = record {
  more = [];
  is = e ∙ sym (append_none order);
  order = tt;
  there = subst (λ (is : List Instantiated). StandsIn is i) (sym e) there;
  last = λ absent. absurd (absent there);
  chains = λ n h. tt;
}
  where
    append_none : (is : List Instantiated) → is ++ [] ≡ is
    append_none [] = refl
    append_none (x ∷ xs) = ap (λ r. x ∷ r) (append_none xs)

-- ---- several instances

pub none_added : (m : Module) (top : Option (List ℕ)) (order : List Instantiated) → AddsSpawned m top [] order order
none_added m top order = let one = unchanged_none order in record { more = []; is = one; order = tt; there = tt; chains = λ n h. tt }
  where
    unchanged_none : (is : List Instantiated) → is ≡ is ++ []
    unchanged_none [] = refl
    unchanged_none (x ∷ xs) = ap (λ r. x ∷ r) (unchanged_none xs)

pub one_more : (m : Module) (top : Option (List ℕ)) (xs : List Instantiated) (i : Instantiated) (before mid after : List Instantiated) → AddsSpawned m top xs before mid → AddsInstance m top i mid after
    → AddsSpawned m top (xs ++ i ∷ []) before after
one_more m top xs i before mid after a b = record {
  more = a.more ++ b.more;
  is = b.is ∙ ap (λ order. order ++ b.more) a.is ∙ append_assoc before a.more b.more;
  order = order_join m top before a.more b.more a.order (subst (λ order. IsSpawnOrder m top order b.more) a.is b.order);
  there = each_and after xs i (subst (λ order. EachStandsIn order xs) (sym b.is) (each_first mid b.more xs a.there)) b.there;
  chains = λ n h. let parts = ends_parts m n xs (i ∷ []) h in ends_join m n a.more b.more (a.chains n parts.0) (b.chains n parts.1.0);
}

-- the next of a list is added
pub one_more_at : (m : Module) (top : Option (List ℕ)) (spawned : List Instantiated) (k : ℕ) (i : Instantiated) (before mid after : List Instantiated) → k < length spawned → i ≡ get_or spawned k i
    → AddsSpawned m top (take k spawned) before mid → AddsInstance m top i mid after → AddsSpawned m top (take (k + 1) spawned) before after
one_more_at m top spawned k i before mid after within e a b =
    subst (λ xs. AddsSpawned m top xs before after) (sym (take_more spawned k i within ∙ ap (λ x. take k spawned ++ x ∷ []) (sym e))) (one_more m top (take k spawned) i before mid after a b)

-- none is left
pub all_added : (m : Module) (top : Option (List ℕ)) (spawned : List Instantiated) (k : ℕ) (before after : List Instantiated) → length spawned ≤ k → AddsSpawned m top (take k spawned) before after → AddsSpawned m top spawned before after
all_added m top spawned k before after past a = subst (λ xs. AddsSpawned m top xs before after) (take_all k spawned past) a
