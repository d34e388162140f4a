-- Sizes of instances in an order: each is that of what is counted of the instance.
use Rattle.std.proofs.Common.{◌≡◌, ◌++◌, ◌+◌, ◌-◌, ◌∙◌, inl, inr, ℕ, zero, suc, List, [], ◌∷◌, map, length, Bool, true, false, if◌then◌else◌, Option, Some, refl, sym, ap, subst, append_assoc, arith}
use mathlib.Core.Bool.{true≢false}
use Rattle.std.specs.Prelude.{flat_map, slice_get}
use Rattle.std.specs.List.{list_all, list_any}
use Rattle.dslx_tree.specs.declared.block.Stmt.TheFolds.{fold_out-Arg}
use Rattle.dslx_tree.specs.declared.expr.Arg.{Arg, out-Arg}
use Rattle.dslx_tree.specs.declared.item.Definition.TheVariants as d
use Rattle.dslx_tree.specs.declared.item.Module.{Module}
use Rattle.dslx_tree.specs.declared.process.ConfigStatement.{ConfigStatement}
use Rattle.dslx_tree.specs.declared.process.ConfigStatement.TheVariants as config_statement
use Rattle.dslx_tree.specs.declared.process.Proc.{Proc}
use Rattle.dslx_tree.specs.declared.process.Spawn.{Spawn}
use Rattle.dslx_meaning.specs.Environment.{Env, Meanings}
use Rattle.dslx_meaning.specs.Items.{all_parametric_args, instance_env, item_named, meanings_of}
use Rattle.dslx_meaning.specs.Lists.{all_some, and_then, is_in, with_both}
use Rattle.dslx_meaning.specs.Meaning as den
use Rattle.dslx_meaning.specs.Meaning.{ArmDen, ExprDen, FieldDen, PatternDen, StmtDen, TypeDen, ValueDen, arg_denotation, denotation, value_of}
use Rattle.dslx_meaning.specs.Network.{as_proc, spawn_parametric_args, top_parametric_args}
use Rattle.dslx_meaning.specs.declared.value.DslxValue.{DslxValue}
use Rattle.dslx_meaning.specs.Rules.Mentions.{AsProc, config_statement_mentions, free_names, mention, mentioned_in_arg, mentions_of, parametric_names}
use Rattle.dslx_meaning.specs.Rules.ModuleRules.{instances_of, is_reached}
use Rattle.dslx_meaning.specs.Rules.NetworkLimits.{Count, Counted, and_count, config_statements_count, count_in, count_of_parametric_args, count_of_proc, counted_within, instance_count, network_count, nobody, one_channel, spawn_count}
use Rattle.dslx_meaning.specs.Rules.TypeEnvs.{Instance, same_instance}
use Rattle.dslx_core.specs.Lowering.CoreScopes.{CoreScope, constant_at, unless_local}
use Rattle.dslx_core.specs.Lowering.Functions.{Instantiated}
use Rattle.dslx_core.specs.Networks.Configs.{config_scope, lower_spawn_parametrics}
use Rattle.dslx_core.specs.Typing.TypingRelations.Closed.{IsOneOf, ends_within}
use Rattle.dslx_core.proofs.Lemmas.Typing.Accepted.{one_instance, one_of_these}
use Rattle.dslx_core.proofs.Lemmas.Typing.Depends.{den_parts}
use Rattle.dslx_core.proofs.Lemmas.Typing.Typed.{none_some, same_some}
use Rattle.dslx_core.proofs.Lemmas.Typing.TypingRelations.{item_so_named, itself}
use Rattle.dslx_config.specs.Configs.Spawned.{spawned_instance, spawned_instances}
use Rattle.dslx_total.specs.Configs.LowersTotally.{ConfigLowers}
use Rattle.dslx_total.specs.Configs.ReachedProcs.{IsReachedProc}
use Rattle.dslx_total.specs.Configs.Spawned.{EachSpawn, SpawnsReached}
use Rattle.dslx_elab.specs.Orders.{CanBeNext, EndsWithTop, IsSpawnOrder, SpawnsOneOf, StandsIn}
use Rattle.dslx.proofs.Lemmas.Order.{Within, config_within, mentioned_proc, proc_of}
use Rattle.dslx.specs.declared.count.size.NetworkSize.{NetworkSize}
use Rattle.dslx.specs.Count.Sizes.{both_sizes, size_of_count}
use Rattle.dslx.specs.Count.Counting.{is_same_instance, last_of, size_among, size_of_config, size_of_instance, size_of_proc, size_or_none, sizes_behind, with_channels, with_sizes}
use Rattle.dslx.proofs.OnCount.OnSizes.{one_count, size_of_both}

-- ---- sums of counts

and_none : (a : Count) → a ≡ and_count a nobody
and_none a = one_count a (and_count a nobody) (omega arith) (omega arith)

and_more : (a b c : Count) → and_count (and_count a b) c ≡ and_count a (and_count b c)
and_more a b c = one_count (and_count (and_count a b) c) (and_count a (and_count b c)) (omega arith) (omega arith)

and_between : (a b c : Count) → and_count a (and_count b c) ≡ and_count b (and_count a c)
and_between a b c = one_count (and_count a (and_count b c)) (and_count b (and_count a c)) (omega arith) (omega arith)

-- the channels that are made
abbrev channels_of : List ConfigStatement → Count
channels_of [] = nobody
channels_of (config_statement.Channel c ∷ xs) = and_count one_channel (channels_of xs)
channels_of (config_statement.Spawn s ∷ xs) = channels_of xs

abbrev total_of : (Instantiated → Count) → List Instantiated → Count
total_of count [] = nobody
total_of count (i ∷ is) = and_count (count i) (total_of count is)

channels_counted : (a : Count) (xs : List ConfigStatement) → with_channels (size_of_count a) xs ≡ size_of_count (and_count a (channels_of xs))
channels_counted a [] = ap size_of_count (and_none a)
channels_counted a (config_statement.Channel c ∷ xs) =
    ap (λ (size : NetworkSize). with_channels size xs) (size_of_both a one_channel) ∙ channels_counted (and_count a one_channel) xs ∙ ap size_of_count (and_more a one_channel (channels_of xs))
channels_counted a (config_statement.Spawn s ∷ xs) = channels_counted a xs

-- the sizes that these have are those of their counts
abbrev EachSized : (Instantiated → NetworkSize) → (Instantiated → Count) → List Instantiated → Type 0
EachSized size count [] = Unit {0}
EachSized size count (i ∷ is) = (size i ≡ size_of_count (count i)) × EachSized size count is

spawned_counted : (order : List Instantiated) (sizes : List NetworkSize) (count : Instantiated → Count) (a : Count) (is : List Instantiated) → EachSized (size_among order sizes) count is
    → with_sizes order sizes (size_of_count a) is ≡ size_of_count (and_count a (total_of count is))
spawned_counted order sizes count a [] h = ap size_of_count (and_none a)
spawned_counted order sizes count a (i ∷ is) h =
    (λ t. with_sizes order sizes (both_sizes (size_of_count a) (h.0 t)) is) ∙ ap (λ (size : NetworkSize). with_sizes order sizes size is) (size_of_both a (count i))
    ∙ spawned_counted order sizes count (and_count a (count i)) is h.1 ∙ ap size_of_count (and_more a (count i) (total_of count is))

-- ---- parametric arguments of a spawn

none_bound : (names : List (List ℕ)) → list_any (λ name. is_in name []) names ≡ false
none_bound [] = refl
none_bound (n ∷ ns) = none_bound ns

arg_means : (a : Arg) → arg_denotation a ≡ denotation (out-Arg a).value
arg_means a =
    fold_out-Arg StmtDen ExprDen PatternDen TypeDen ValueDen StmtDen ExprDen ArmDen ExprDen FieldDen ValueDen ExprDen PatternDen TypeDen
    den.stmt_den den.node_den den.shape_den den.type_den den.block_den den.let_den den.arg_den den.arm_den den.expr_den den.field_den den.for_den den.number_node den.pattern_den den.type_expr_den a

module _ (items : Meanings) (p : Proc) (parametric_args : List DslxValue) where
  abbrev scope_of_config : CoreScope
  scope_of_config = config_scope items p parametric_args

  abbrev env_of_config : Env
  env_of_config = instance_env items p.parametrics parametric_args

  value_given : (a : Arg) → constant_at scope_of_config (out-Arg a).value ≡ (arg_denotation a).value env_of_config
  value_given a =
      ap (λ b. unless_local b (value_of (out-Arg a).value env_of_config)) (none_bound (free_names (out-Arg a).value)) ∙ ap (λ (x : ExprDen). x.value env_of_config) (sym (arg_means a))

  values_given : (as' : List Arg) → map (λ (a : Arg). constant_at scope_of_config (out-Arg a).value) as' ≡ map (λ (e : ExprDen). e.value env_of_config) (map arg_denotation as')
  values_given [] = refl
  values_given (a ∷ as') = λ i. value_given a i ∷ values_given as' i

  args_given : (target : Proc) (as' : List Arg) → lower_spawn_parametrics scope_of_config target as' ≡ spawn_parametric_args items env_of_config target as'
  args_given target as' = ap (λ os. and_then (all_some os) (all_parametric_args items [] [] target.parametrics)) (values_given as')

-- ---- instances

abbrev as_instance : Instantiated → Instance
as_instance i = record { name = i.name; parametric_args = i.parametric_args }

one_instantiated : (i j : Instantiated) → is_same_instance i j ≡ true → i ≡ j
one_instantiated i j e = let same = one_instance (as_instance i) (as_instance j) e in λ t. record { name = (same t).name; parametric_args = (same t).parametric_args }

-- the count of one of these instances
counted_there : (count : Instance → Count) (i : Instance) (is : List Instance) → IsOneOf i is → count_in (map (λ (j : Instance). record { instance = j; count = count j }) is) i ≡ count i
counted_there count i [] h = absurd h
counted_there count i (x ∷ xs) h = by_same (same_instance x i) refl h (counted_there count i xs)
  where
    Rest : Bool → Type 0
    Rest b = (if b then count x else count_in (map (λ (j : Instance). record { instance = j; count = count j }) xs) i) ≡ count i

    by_same : (b : Bool) → same_instance x i ≡ b → IsOneOf i (x ∷ xs) → (IsOneOf i xs → Rest false) → Rest b
    by_same true q k rest = ap count (one_instance x i q)
    by_same false q (inl e) rest = absurd (true≢false (sym (itself i) ∙ ap (λ j. same_instance j i) e ∙ q))
    by_same false q (inr k) rest = rest k

module _ (m : Module) (top : Option (List ℕ)) where
  abbrev items : Meanings
  items = meanings_of m

  abbrev counted : ℕ → List Counted
  counted n = counted_within m items (instances_of m top) n

  -- the size of what is counted of the instance, however many spawns one in another are counted, if they are enough
  abbrev IsSize : Instantiated → NetworkSize → Type 0
  IsSize i size = (n : ℕ) → ends_within m n i.name ≡ true → size ≡ size_of_count (count_in (counted n) (as_instance i))

  abbrev AreSizes : List Instantiated → List NetworkSize → Type 0
  AreSizes [] [] = Unit {0}
  AreSizes [] (size ∷ sizes) = ⊥
  AreSizes (i ∷ is) [] = ⊥
  AreSizes (i ∷ is) (size ∷ sizes) = IsSize i size × AreSizes is sizes

  -- ---- what a `config` spawns

  module _ (p : Proc) (parametric_args : List DslxValue) (k : ℕ) (before order : List Instantiated) (sizes : List NetworkSize)
      (among : (i : Instantiated) → StandsIn before i → ends_within m k i.name ≡ true → size_among order sizes i ≡ size_of_count (count_in (counted k) (as_instance i))) where
    abbrev scope : CoreScope
    scope = config_scope items p parametric_args

    abbrev env : Env
    env = instance_env items p.parametrics parametric_args

    abbrev count : Instantiated → Count
    count i = count_in (counted k) (as_instance i)

    record ConfigCounted (xs : List ConfigStatement) : Type 0 where
      spawned : List Instantiated
      comes : spawned_instances m scope xs ≡ Some spawned
      sized : EachSized (size_among order sizes) count spawned
      counts : config_statements_count m items (counted k) env xs ≡ and_count (channels_of xs) (total_of count spawned)

    record SpawnCounted (s : Spawn) : Type 0 where
      instance : Instantiated
      comes : spawned_instance m scope s ≡ Some instance
      sized : size_among order sizes instance ≡ size_of_count (count instance)
      counts : spawn_count items (counted k) env s (as_proc (item_named s.target.name m.items)) ≡ count instance

    spawn_counted : (s : Spawn) → SpawnsReached m top scope s → SpawnsOneOf m scope before s → Within (ends_within m k) m (mention AsProc s.target.name) → SpawnCounted s
    spawn_counted s h one w =
        let named : item_named s.target.name m.items ≡ Some (d.Proc h.target) = proc_of (item_named s.target.name m.items) h.target h.is in
        let same = item_so_named m.items s.target.name (d.Proc h.target) named in
        record {
          instance = record { name = s.target.name; parametric_args = h.parametric_args };
          comes =
              (λ t. and_then (h.is t) (λ (q : Proc). and_then (lower_spawn_parametrics scope q s.arguments) (λ (vs : List DslxValue). Some (record { name = s.target.name; parametric_args = vs }))))
              ∙ (λ t. and_then (h.given t) (λ (vs : List DslxValue). Some (record { name = s.target.name; parametric_args = vs })));
          sized = among (record { name = s.target.name; parametric_args = h.parametric_args }) (one h.target h.parametric_args h.is h.given) (mentioned_proc m k s.target.name h.target named w);
          counts =
              ap (spawn_count items (counted k) env s) h.is ∙ ap (count_of_parametric_args (counted k) h.target) (sym (args_given items p parametric_args h.target s.arguments) ∙ h.given)
              ∙ ap (λ n. count_in (counted k) (record { name = n; parametric_args = h.parametric_args })) same;
        }

    config_counted : (bound : List (List ℕ)) (xs : List ConfigStatement) → EachSpawn (SpawnsReached m top scope) xs → EachSpawn (SpawnsOneOf m scope before) xs
        → Within (ends_within m k) m (flat_map (λ (x : ConfigStatement). config_statement_mentions x bound) xs) → ConfigCounted xs
    config_counted bound [] h ones w = record { spawned = []; comes = refl; sized = tt; counts = and_none nobody }
    config_counted bound (config_statement.Channel c ∷ xs) h ones w =
        let v = den_parts (ends_within m k) m (config_statement_mentions (config_statement.Channel c) bound) (flat_map (λ (x : ConfigStatement). config_statement_mentions x bound) xs) w in
        let r = config_counted bound xs h ones v.1 in
        record {
          spawned = r.spawned;
          comes = r.comes;
          sized = r.sized;
          counts = ap (and_count one_channel) r.counts ∙ sym (and_more one_channel (channels_of xs) (total_of count r.spawned));
        }
    config_counted bound (config_statement.Spawn s ∷ xs) h ones w =
        let v = den_parts (ends_within m k) m (config_statement_mentions (config_statement.Spawn s) bound) (flat_map (λ (x : ConfigStatement). config_statement_mentions x bound) xs) w in
        let u = den_parts (ends_within m k) m (mention AsProc s.target.name) (flat_map (λ (a : Arg). mentioned_in_arg a bound) s.arguments) v.0 in
        let one = spawn_counted s h.0 ones.0 u.0 in
        let r = config_counted bound xs h.1 ones.1 v.1 in
        record {
          spawned = one.instance ∷ r.spawned;
          comes = λ t. with_both (one.comes t) (r.comes t) (λ i is. Some (i ∷ is));
          sized = (one.sized, r.sized);
          counts = (λ t. and_count (one.counts t) (r.counts t)) ∙ and_between (count one.instance) (channels_of xs) (total_of count r.spawned);
        }

  -- ---- an instance behind those that it spawns

  -- one of the first that have their sizes
  sized_among : (before rest : List Instantiated) (sizes : List NetworkSize) → AreSizes before sizes → (i : Instantiated) (j : ℕ) → slice_get before j ≡ Some i → IsSize i (size_among (before ++ rest) sizes i)
  sized_among [] rest sizes h i j e = none_some i e
  sized_among (x ∷ xs) rest [] h i j e = absurd h
  sized_among (x ∷ xs) rest (size ∷ sizes) h i j e = by_same (is_same_instance i x) refl j e (sized_among xs rest sizes h.1 i)
    where
      by_same : (b : Bool) → is_same_instance i x ≡ b → (j : ℕ) → slice_get (x ∷ xs) j ≡ Some i → ((j : ℕ) → slice_get xs j ≡ Some i → IsSize i (size_among (xs ++ rest) sizes i))
          → IsSize i (if b then size else size_among (xs ++ rest) sizes i)
      by_same true q j e later = subst (λ (y : Instantiated). IsSize y size) (sym (one_instantiated i x q)) h.0
      by_same false q zero e later = absurd (true≢false (sym (itself (as_instance i)) ∙ ap (λ (y : Instantiated). is_same_instance i y) (sym (same_some x i e)) ∙ q))
      by_same false q (suc j) e later = later j e

  abbrev ConfigsLower : Type 0
  ConfigsLower = (p : Proc) (parametric_args : List DslxValue) → IsReachedProc m top p parametric_args → ConfigLowers m items top p parametric_args

  abbrev one_proc : Count
  one_proc = record { procs = 1; channels = 0 }

  instance_sized : ConfigsLower → (before rest : List Instantiated) (i : Instantiated) → CanBeNext m top before i → (sizes : List NetworkSize) → AreSizes before sizes → IsSize i (size_of_instance m (before ++ rest) sizes i)
  instance_sized configs before rest i next sizes h zero e = absurd (true≢false (sym e))
  instance_sized configs before rest i next sizes h (suc k) e =
      let p = next.proc in
      let order = before ++ rest in
      let xs = p.config.config_statements in
      let ends = subst (λ name. ends_within m (suc k) name ≡ true) (sym next.name) e in
      let within = config_within (ends_within m k) m p ((λ t. list_all (ends_within m k) (mentions_of m (sym next.checked.named t))) ∙ ends) in
      let c = config_counted p i.parametric_args k before order sizes (λ j s q. sized_among before rest sizes h j s.0 s.1 k q) (parametric_names p.parametrics) xs (configs p i.parametric_args next.checked).spawns next.spawns within in
      let item : as_proc (item_named i.name m.items) ≡ Some p = (λ t. as_proc (item_named (sym next.name t) m.items)) ∙ ap as_proc next.checked.named in
      let reached = subst (λ name. is_reached (record { name = name; parametric_args = i.parametric_args }) (instances_of m top) ≡ true) next.name next.checked.checked in
      ap (size_of_proc m order sizes i.parametric_args) item ∙ ap (size_of_config order sizes xs) c.comes
      ∙ ap (λ (size : NetworkSize). with_sizes order sizes size c.spawned) (channels_counted one_proc xs)
      ∙ spawned_counted order sizes (λ (j : Instantiated). count_in (counted k) (as_instance j)) (and_count one_proc (channels_of xs)) c.spawned c.sized
      ∙ ap size_of_count
      (and_more one_proc (channels_of xs) (total_of (λ (j : Instantiated). count_in (counted k) (as_instance j)) c.spawned) ∙ ap (and_count one_proc) (sym c.counts)
      ∙ sym (ap (count_of_proc m items (counted k) i.parametric_args) item)
      ∙ sym (counted_there (instance_count m items (counted k)) (as_instance i) (instances_of m top) (one_of_these (as_instance i) (instances_of m top) reached)))

  -- ---- the whole order

  sizes_join : (before : List Instantiated) (sizes : List NetworkSize) (i : Instantiated) (size : NetworkSize) → AreSizes before sizes → IsSize i size → AreSizes (before ++ i ∷ []) (sizes ++ size ∷ [])
  sizes_join [] [] i size h one = (one, tt)
  sizes_join [] (s ∷ ss) i size h one = absurd h
  sizes_join (x ∷ xs) [] i size h one = absurd h
  sizes_join (x ∷ xs) (s ∷ ss) i size h one = (h.0, sizes_join xs ss i size h.1 one)

  append_none : (is : List Instantiated) → is ≡ is ++ []
  append_none [] = refl
  append_none (i ∷ is) = ap (λ r. i ∷ r) (append_none is)

  sizes_done : ConfigsLower → (before rest : List Instantiated) (sizes : List NetworkSize) → AreSizes before sizes → IsSpawnOrder m top before rest → AreSizes (before ++ rest) (sizes_behind m (before ++ rest) sizes rest)
  sizes_done configs before [] sizes h o = subst (λ (is : List Instantiated). AreSizes is sizes) (append_none before) h
  sizes_done configs before (i ∷ is) sizes h o =
      let size = size_of_instance m (before ++ i ∷ is) sizes i in
      let one = instance_sized configs before (i ∷ is) i o.0 sizes h in
      subst (λ (order : List Instantiated). AreSizes order (sizes_behind m order (sizes ++ size ∷ []) is)) (append_assoc before (i ∷ []) is)
      (sizes_done configs (before ++ i ∷ []) is (sizes ++ size ∷ []) (sizes_join before sizes i size h one) o.1)

  size_at : (is : List Instantiated) (sizes : List NetworkSize) → AreSizes is sizes → (j : ℕ) (i : Instantiated) → slice_get is j ≡ Some i → IsSize i (size_or_none (slice_get sizes j))
  size_at [] sizes h j i e = none_some i e
  size_at (x ∷ xs) [] h j i e = absurd h
  size_at (x ∷ xs) (size ∷ sizes) h zero i e = subst (λ (y : Instantiated). IsSize y size) (same_some x i e) h.0
  size_at (x ∷ xs) (size ∷ sizes) h (suc j) i e = size_at xs sizes h.1 j i e

  as_many : (is : List Instantiated) (sizes : List NetworkSize) → AreSizes is sizes → length is ≡ length sizes
  as_many [] [] h = refl
  as_many [] (size ∷ sizes) h = absurd h
  as_many (x ∷ xs) [] h = absurd h
  as_many (x ∷ xs) (size ∷ sizes) h = ap suc (as_many xs sizes h.1)

  pub network_sized : ConfigsLower → (p : Proc) (order : List Instantiated) → IsSpawnOrder m top [] order → EndsWithTop m p order → ends_within m (length m.items) p.name.name ≡ true
      → both_sizes (size_of_count (record { procs = 0; channels = length p.config.ends })) (last_of (sizes_behind m order [] order)) ≡ size_of_count (network_count m top p)
  network_sized configs p order is_order last ends =
      let sizes = sizes_behind m order [] order in
      let done = sizes_done configs [] order [] tt is_order in
      let first : Instantiated = record { name = p.name.name; parametric_args = top_parametric_args items p } in
      let at : slice_get order (length sizes - 1) ≡ Some first = subst (λ n. slice_get order (n - 1) ≡ Some first) (as_many order sizes done) last in
      let is_size = size_at order sizes done (length sizes - 1) first at (length m.items) ends in
      ap (both_sizes (size_of_count (record { procs = 0; channels = length p.config.ends }))) is_size
      ∙ size_of_both (record { procs = 0; channels = length p.config.ends }) (count_in (counted (length m.items)) (as_instance first))
