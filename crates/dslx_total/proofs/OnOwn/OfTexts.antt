-- The instances of a text without faults that are checked: the parametric arguments of each are of their own types.
use Rattle.std.proofs.Common.{◌*◌, ◌≡◌, ◌≤◌, ◌&&◌, ◌||◌, ◌++◌, ◌==◌, ℕ, zero, suc, length, Bool, true, false, not, if◌then◌else◌, List, [], ◌∷◌, map, Option, Some, None, arith, inl, inr, refl, sym, ap, subst, ◌∙◌}
use mathlib.Core.Bool.{true≢false}
use Rattle.std.specs.Prelude.{flat_map, nat_lt}
use Rattle.std.specs.List.{list_all}
use Rattle.std.specs.Str.{bytes_eq}
use Rattle.std.proofs.lemmas.Slice.Eq.{bytes_eq-Decides}
use Rattle.xb_span.specs.declared.fault.Fault.{Fault}
use Rattle.dslx_tree.specs.declared.block.Stmt.TheFolds.{fold_out-Arg}
use Rattle.dslx_tree.specs.declared.expr.Arg.{Arg, out-Arg}
use Rattle.dslx_tree.specs.declared.item.Definition.{Definition}
use Rattle.dslx_tree.specs.declared.item.Definition.TheVariants as d
use Rattle.dslx_tree.specs.declared.item.Function.{Function}
use Rattle.dslx_tree.specs.declared.item.Item.{Item}
use Rattle.dslx_tree.specs.declared.item.Module.{Module}
use Rattle.dslx_tree.specs.declared.process.Channel.{Channel}
use Rattle.dslx_tree.specs.declared.process.ConfigStatement.{ConfigStatement}
use Rattle.dslx_tree.specs.declared.process.ConfigStatement.TheVariants as config_statement
use Rattle.dslx_tree.specs.declared.process.Proc.{Proc}
use Rattle.dslx_tree.specs.declared.process.Spawn.{Spawn}
use Rattle.dslx_tree.proofs.Lemmas.Folds.Folds.{Steps, fold_arg, folds}
use Rattle.dslx_tree.proofs.Lemmas.Folds.Levels.{Carriers, map_arg, trees}
use Rattle.dslx_meaning.specs.Callees.{is_own_name}
use Rattle.dslx_meaning.specs.Environment.{Env}
use Rattle.dslx_meaning.specs.Items.{as_function, item_named, name_of_definition, parametric_args_bound}
use Rattle.dslx_meaning.specs.Lists.{is_in}
use Rattle.dslx_meaning.specs.Meaning.{arg_denotation}
use Rattle.dslx_meaning.specs.Network.{as_proc, top_proc}
use Rattle.dslx_meaning.specs.declared.value.DslxValue.{DslxValue}
use Rattle.dslx_meaning.specs.Rules.CallRules.{JudgedThere, ParametricArgsSeen, ParametricArgument, given_judgements, given_parametric_args, is_refused, known_before, reached_by, typing_there}
use Rattle.dslx_meaning.specs.Rules.ItemRules.{Found, body_typing, function_seen, only_faults, parametrics_found, typing_of_type}
use Rattle.dslx_meaning.specs.Rules.Mentions.{AsFunction, arg_if, ends_mentions, mentioned_in_arg, mentioned_in_type, mentions_of, parametric_names}
use Rattle.dslx_meaning.specs.Rules.ModuleRules.{found_of_instance, found_of_item, globals_of, globals_over, ident_of, instances_of, is_reached, item_names, item_found, items_found, outside_instances, own_instance, own_instances, top_faults, top_found}
use Rattle.dslx_meaning.specs.Rules.NameRules.{listed_name}
use Rattle.dslx_meaning.specs.Rules.NodeRules.{arg_pair}
use Rattle.dslx_meaning.specs.Rules.ProcRules.{Made, behind_ends, channel_end_of, channel_found, channel_type, config_found, config_statements_found, depth_found, ends_found, made_at_start, made_with, proc_parametric_args, proc_seen, proc_type_env, right_spawn, spawn_found, spawn_of, unknown_ends}
use Rattle.dslx_meaning.specs.Rules.ConstantRules.{count_of, is_empty}
use Rattle.dslx_meaning.specs.Rules.TypeEnvs.{GlobalEnv, Instance, TypeEnv, breaks, breaks_if, faults_of_all, has_broken, reached_of_all}
use Rattle.dslx_meaning.specs.Rules.Typings.{ArgPair}
use Rattle.dslx_core.proofs.Lemmas.Typing.Accepted.{IsAccepted, all_empty, all_so, instance_faults, names_apart, one_of_these, sound}
use Rattle.dslx_core.proofs.Lemmas.Typing.Complete.{item_env, own_parametric_args}
use Rattle.dslx_core.proofs.Lemmas.Typing.Depends.{every_item_settles, is_proc_item, no_proc_in_type, reached_below, settles, settles_closed, stands_first, uses_settle}
use Rattle.dslx_core.proofs.Lemmas.Typing.Laws.{and_true}
use Rattle.dslx_core.proofs.Lemmas.Typing.Sound.{all_in, none_in, not_broken, AreGiven, parametric_args_given, typing_right}
use Rattle.dslx_core.proofs.Lemmas.Typing.TypingRelations.{arguments_reach, found_ends, function_is, given_reach, item_so_named, items_reach, join, whole_is, written_type_reaches}
use Rattle.dslx_core.proofs.Lemmas.Typing.Typed.{or_false}
use Rattle.dslx_core.specs.Typing.Complete.Acts.{acts_found}
use Rattle.dslx_core.specs.Typing.Complete.HasValue.{AreTyped}
use Rattle.dslx_core.specs.Typing.Depends.Alike.{DeclaredAlike}
use Rattle.dslx_core.specs.Typing.Typed.Complete.{IsComplete}
use Rattle.dslx_core.specs.Typing.Typed.Numbers.{AllOwn}
use Rattle.dslx_core.specs.Typing.Typed.WellTyped.{IsWellTypedEnv}
use Rattle.dslx_core.specs.Typing.TypingRelations.Closed.{IsLeastClosed, IsOneOf}
use Rattle.dslx_core.specs.Typing.TypingRelations.Reached.{AllNamed}
use Rattle.dslx_total.proofs.OnConfigs.Configs.{depth_none, depth_reaches}
use Rattle.dslx_total.proofs.OnExpressions.Joined.{seeing, seen}
use Rattle.dslx_total.proofs.OnFamilies.Acts.{PartsWellTyped, parts_well_typed}
use Rattle.dslx_total.proofs.OnFamilies.LastProc.{names_agree}
use Rattle.dslx_total.proofs.OnFamilies.Knows.{Knows, all_sound, knows_itself}
use Rattle.dslx_total.proofs.OnFamilies.Parametrics.{LoopsHaveNoValue, globals_alike, proc_known}
use Rattle.dslx_total.proofs.OnFamilies.Reached.{IsProcOf, K, Listed, Passing, all, all_listed, arguments_none, ends_none, most}
use Rattle.dslx_total.proofs.OnFamilies.Spawns.{each_argument, parametric_args_there, proc_named, well_behind}
use Rattle.dslx_total.proofs.OnFamilies.There.{IsThere, well}
use Rattle.dslx_total.proofs.OnFamilies.Tops.{defaults_there, named_by, none_wrong, top_empty, top_instance, top_listed, top_right}
use Rattle.dslx_total.proofs.OnOwn.Joined.{expression_passes}
use Rattle.dslx_total.proofs.OnOwn.OfCalls.{given_pass}
use Rattle.dslx_total.proofs.OnOwn.OfItems.{acts_pass, channel_passes, declared_pass, ends_pass, function_passes, items_pass}
use Rattle.dslx_total.proofs.OnOwn.Passing.{CalleesPass, EachPasses, ExprPasses, Passes, alone_passes, before_more, both_pass, count_passes}
use Rattle.dslx_total.proofs.OnTables.Own.{all_own_pass, all_own_there, are_own}

-- ---- lists of instances

-- each of these passes where all do
one_passes : (f : Instance → Bool) (is : List Instance) (i : Instance) → list_all f is ≡ true → IsOneOf i is → f i ≡ true
one_passes f [] i h one = absurd one
one_passes f (x ∷ xs) i h (inl e) = ap f e ∙ (and_true (f x) (list_all f xs) h).0
one_passes f (x ∷ xs) i h (inr one) = one_passes f xs i (and_true (f x) (list_all f xs) h).1 one

-- one of two lists
one_of_both : (i : Instance) (xs ys : List Instance) → {X : Type 0} → (IsOneOf i xs → X) → (IsOneOf i ys → X) → IsOneOf i (xs ++ ys) → X
one_of_both i [] ys f g h = g h
one_of_both i (x ∷ xs) ys f g (inl e) = f (inl e)
one_of_both i (x ∷ xs) ys f g (inr h) = one_of_both i xs ys (λ k. f (inr k)) g h

-- ---- a parametric argument

-- an argument, by its parts
pub out_arg : (c : Carriers) (s : Steps c) (a : Arg) → fold_arg c s a ≡ s.arg (map_arg trees c (folds c s) (out-Arg a))
out_arg c s a =
    fold_out-Arg c.stmt c.node c.shape c.type_node c.block c.bind c.arg c.arm c.expr c.field c.loop c.number c.pattern c.type_expr s.stmt s.node s.shape s.type_node s.block s.bind s.arg s.arm s.expr s.field s.loop s.number s.pattern s.type_expr a

argument_passes : (here test : Instance → Bool) (a : Arg) → ExprPasses here test (arg_pair a).1.1
argument_passes here test a = subst (λ (p : ArgPair). ExprPasses here test p.1.1) (sym (out_arg seen seeing a)) (expression_passes here test (out-Arg a).value)

module _ (m : Module) (top : Option (List ℕ)) (s : IsAccepted m top) (loops : LoopsHaveNoValue m) (complete : IsComplete (K m top s)) (typed : AreTyped (K m top s)) where
  abbrev known : GlobalEnv
  known = K m top s

  abbrev knows : Knows m top s known
  knows = knows_itself m top s loops complete typed

  abbrev is_checked : Instance → Bool
  is_checked i = is_reached i (all m top s)

  -- its parametric arguments are of their own types
  abbrev pub test : Instance → Bool
  test i = are_own known.items.type_named i.parametric_args

  -- checked, and of no proc, and of at most this rank
  abbrev low : ℕ → Instance → Bool
  low k i = is_checked i && settles m k i.name

  pub known_item : (name : List ℕ) → item_named name known.whole.items ≡ item_named name m.items
  known_item name = λ i. item_named name (whole_is m (2 * length m.items) i).items

  pub function_alike : (f : Function) → item_named f.name.name m.items ≡ Some (d.Function f) → DeclaredAlike known (globals_over known) f.name.name
  function_alike f named =
      let n = length m.items in
      let least : 2 * n ≤ 2 * n = omega arith in
      let more : 2 * n ≤ suc (2 * n) = omega arith in
      ((uses_settle m (2 * n) (suc (2 * n)) least more AsFunction f.name.name).function f (ap as_function (known_item f.name.name ∙ named))).declared

  pub seen_there : (i : Instance) (f : Function) → item_named i.name m.items ≡ Some (d.Function f) → found_of_instance known i ≡ (function_seen known f i.parametric_args).found
  seen_there i f named = ap (found_of_item known i.parametric_args) (known_item i.name ∙ named)

  -- functions of at most this rank reach instances that pass
  abbrev FunctionsPass : ℕ → Type 0
  FunctionsPass k = (i : Instance) (f : Function) → IsOneOf i (all m top s) → item_named i.name m.items ≡ Some (d.Function f) → AllOwn known.items.type_named i.parametric_args → settles m k i.name ≡ true
      → list_all test (found_of_instance known i).reached ≡ true

  callees_pass : (k : ℕ) → k ≤ length m.items → FunctionsPass k → CalleesPass (low k) test known
  callees_pass k l functions = record {
    sound = λ j h. let q = and_true (is_checked j) (settles m k j.name) h in sound m top s k l j (one_of_these j (all m top s) q.0) q.1;
    calls = λ name f is inferred maybe gs vs values fit h.
        let found = function_is (item_named name m.items) f (ap as_function (sym (known_item name)) ∙ is) in
        let named : item_named f.name.name m.items ≡ Some (d.Function f) = subst (λ n. item_named n m.items ≡ Some (d.Function f)) (sym (item_so_named m.items name (d.Function f) found)) found in
        let i : Instance = record { name = f.name.name; parametric_args = vs } in
        let q = and_true (is_checked i) (settles m k i.name) h in
        let own = own_parametric_args known f.name.name [] f.parametrics vs fit in
        let passes = functions i f (one_of_these i (all m top s) q.0) named own q.1 in
        let parametrics = parametrics_found known f.name.name [] [] f.parametrics vs in
        let part = (all_in test parametrics.reached _ (ap (λ (x : Found). list_all test x.reached) (sym (seen_there i f named)) ∙ passes)).0 in (
          declared_pass test known f.name.name (d.Function f) (known_item f.name.name ∙ named) (function_alike f named) inferred maybe [] [] [] f.parametrics gs vs (stands_first f.name.name (d.Function f)) values part,
          all_own_pass known.items.type_named vs own,
        );
  }

  functions_pass : (k : ℕ) → k ≤ length m.items → FunctionsPass k
  functions_pass zero l i f one named own h = absurd (true≢false (sym h))
  functions_pass (suc k) l i f one named own h =
      let shorter : k ≤ length m.items = omega (arith, l) in
      let callees = callees_pass k shorter (λ j g other is all_own settled. functions_pass k shorter j g other is all_own settled) in
      let same = seen_there i f named in
      let below = all_so (low k) (settles m k) (found_of_instance known i).reached (reached_below m k (2 * length m.items) i h) (λ j r p t. s.among i j one r t && p t) in
      ap (λ (x : Found). list_all test x.reached) same
      ∙ function_passes (low k) test known complete typed callees f i.parametric_args own
      (ap (λ (x : Found). x.faults) (sym same) ∙ instance_faults known i (all m top s) one (all_empty m top s).1) (ap (λ (x : Found). list_all (low k) x.reached) (sym same) ∙ below)

  abbrev pub here : Instance → Bool
  here = low (most m top s)

  pub callees : CalleesPass here test known
  callees = let enough : most m top s ≤ length m.items = omega arith in callees_pass (most m top s) enough (functions_pass (most m top s) enough)

  pub all_here : (is : List Instance) → AllNamed (Passing m top s) is → Listed m top s is → list_all here is ≡ true
  all_here [] named h = refl
  all_here (i ∷ is) named h =
      let q = and_true (is_checked i) (list_all is_checked is) h in
      λ t. (q.0 t && named.0 t) && all_here is named.1 q.1 t

  -- ---- instances of procs

  -- what a spawn of a checked instance reaches in the text of the proc
  spawned_pass : (target : Proc) → IsProcOf m target → (gs : List ParametricArgument) (vs : List DslxValue) → (proc_parametric_args known target gs).values ≡ Some vs → AllOwn known.items.type_named vs
      → is_checked (record { name = target.name.name; parametric_args = vs }) ≡ true → list_all test (proc_parametric_args known target gs).declared.reached ≡ true
  spawned_pass target named gs vs values own checked =
      let i : Instance = record { name = target.name.name; parametric_args = vs } in
      let parts = parts_well_typed m top s known knows target vs (record { named = named; among = one_of_these i (all m top s) checked }) in
      let parametrics = parametrics_found known target.name.name [] [] target.parametrics vs in
      let passes = acts_pass here test known complete typed callees target vs own parts.acts.faults (all_here (acts_found known target vs).reached parts.passing parts.checked) in
      declared_pass test known target.name.name (d.Proc target) (proc_known m target named) (globals_alike m target named loops) [] [] [] [] [] target.parametrics gs vs (stands_first target.name.name (d.Proc target)) values
      (all_in test parametrics.reached _ passes).0

  module _ (p : Proc) (parametric_args : List DslxValue) (there : IsThere m top s known p parametric_args) where
    abbrev context : TypeEnv
    context = proc_type_env known p parametric_args

    abbrev env : Env
    env = item_env known (parametric_args_bound [] p.parametrics parametric_args)

    abbrev bound : List (List ℕ)
    bound = parametric_names p.parametrics

    place : IsWellTypedEnv context env
    place = well m top s known complete typed p parametric_args there

    depth_passes : (made : Made) (o : Option Arg) → Passes here test (depth_found (behind_ends context made) o).faults (depth_found (behind_ends context made) o).reached
    depth_passes made None = λ f r. refl
    depth_passes made (Some a) =
        let behind = behind_ends context made in
        let e = (arg_pair a).1 in
        let n = count_of behind e in
        before_more here test n.judgement.faults _ n.judgement.reached
        (count_passes here test behind e (alone_passes here test behind e (argument_passes here test a false behind env (well_behind context env made place) callees)))

    channel_passes_there : (made : Made) (c : Channel) → (channel_found context made c).faults ≡ [] → Listed m top s (channel_found context made c).reached → list_all test (channel_found context made c).reached ≡ true
    channel_passes_there made c f r =
        let behind = behind_ends context made in
        let word = channel_type behind c.word in
        let depth = depth_found behind c.depth in
        let P = Passing m top s in
        let inside = all_here (word.reached ++ depth.reached)
        (join P word.reached depth.reached (written_type_reaches P c.word bound behind (knows.reaching behind.owner (mentioned_in_type c.word bound) (no_proc_in_type c.word bound)))
        (depth_reaches P behind c.depth bound (knows.reaching behind.owner (arg_if c.depth bound) (depth_none c.depth bound)))) r in
        let q = none_in word.faults depth.faults (none_in _ (word.faults ++ depth.faults) f).1 in
        let k = all_in here word.reached depth.reached inside in
        both_pass test word.reached depth.reached (channel_passes here test known complete typed callees behind env (well_behind context env made place) refl c.word q.0 k.0) (depth_passes made c.depth q.1 k.1)

    -- ---- spawns

    each_given : (made : Made) (as' : List Arg) → EachPasses here test (behind_ends context made) (map (λ (a : ArgPair). a.1) (map arg_pair as'))
    each_given made [] = tt
    each_given made (a ∷ as') = (argument_passes here test a false (behind_ends context made) env (well_behind context env made place) callees, each_given made as')

    module _ (made : Made) (sp : Spawn) where
      abbrev behind : TypeEnv
      behind = behind_ends context made

      abbrev gs : List ParametricArgument
      gs = given_parametric_args behind (map arg_pair sp.arguments)

      abbrev seen_of : Proc → ParametricArgsSeen
      seen_of target = proc_parametric_args known target gs

      abbrev cyclic : Proc → List Fault
      cyclic target = breaks_if (known.is_cyclic p.name.name target.name.name) 3 sp.span

      right_passes : (target : Proc) → as_proc (item_named sp.target.name m.items) ≡ Some target → AreGiven behind env (map arg_pair sp.arguments) (map arg_denotation sp.arguments) → (right_spawn context made sp target (cyclic target) (seen_of target)).faults ≡ []
          → Listed m top s (right_spawn context made sp target (cyclic target) (seen_of target)).reached → list_all test (right_spawn context made sp target (cyclic target) (seen_of target)).reached ≡ true
      right_passes target is g f r =
          let n = seen_of target in
          let wrong = breaks_if n.is_wrong 10 sp.span in
          let declared = typing_there (cyclic target) n in
          let a = none_in (((cyclic target ++ n.faults) ++ declared.faults) ++ wrong) _ f in
          let b = none_in ((cyclic target ++ n.faults) ++ declared.faults) wrong a.0 in
          let d = none_in (cyclic target ++ n.faults) declared.faults b.0 in
          let c = none_in (cyclic target) n.faults d.0 in
          let no_wrong = not_broken n.is_wrong 10 sp.span b.1 in
          let there = typing_right (cyclic target) n c.0 no_wrong in
          let found = reached_by (is_refused (cyclic target) n) target.name.name n.values in
          let listed = all_in is_checked declared.reached found r in
          let named = proc_named m sp.target.name target is in
          let checked : (vs : List DslxValue) → n.values ≡ Some vs → is_checked (record { name = target.name.name; parametric_args = vs }) ≡ true = λ vs e.
          (and_true (is_checked (record { name = target.name.name; parametric_args = vs })) true ((λ t. list_all is_checked (reached_by (has_broken (sym c.0 t) || sym no_wrong t) target.name.name (sym e t))) ∙ listed.1)).0 in
          let k = parametric_args_there m top s known knows complete typed target named gs g.values g.each g.mean c.1 (ap (λ (j : JudgedThere). j.faults) (sym there) ∙ d.1) (ap (λ (j : JudgedThere). list_all is_checked j.reached) (sym there) ∙ listed.0) no_wrong checked in
          let own : list_all test found ≡ true = (λ t. list_all test (reached_by (has_broken (c.0 t) || no_wrong t) target.name.name (k.is t))) ∙ (λ t. all_own_pass known.items.type_named k.parametric_args k.own t && true) in
          both_pass test declared.reached found (ap (λ (j : JudgedThere). list_all test j.reached) there ∙ spawned_pass target named gs k.parametric_args k.is k.own k.among) own

      by_count : (target : Proc) → as_proc (item_named sp.target.name m.items) ≡ Some target → (b : Bool) → AreGiven behind env (map arg_pair sp.arguments) (map arg_denotation sp.arguments)
          → (if b then right_spawn context made sp target (cyclic target) (seen_of target) else only_faults (cyclic target ++ breaks 10 sp.span ∷ [])).faults ≡ []
          → Listed m top s (if b then right_spawn context made sp target (cyclic target) (seen_of target) else only_faults (cyclic target ++ breaks 10 sp.span ∷ [])).reached
          → list_all test (if b then right_spawn context made sp target (cyclic target) (seen_of target) else only_faults (cyclic target ++ breaks 10 sp.span ∷ [])).reached ≡ true
      by_count target is true g f r = right_passes target is g f r
      by_count target is false g f r = refl

      by_proc : (o : Option Proc) → as_proc (item_named sp.target.name known.whole.items) ≡ o → AreGiven behind env (map arg_pair sp.arguments) (map arg_denotation sp.arguments) → (spawn_of context made sp gs o).faults ≡ []
          → Listed m top s (spawn_of context made sp gs o).reached → list_all test (spawn_of context made sp gs o).reached ≡ true
      by_proc None q g f r = refl
      by_proc (Some target) q g f r =
          by_count target (ap as_proc (sym (known_item sp.target.name)) ∙ q) (length sp.ends == length target.config.ends && not (nat_lt (length target.parametrics) (length gs))) g f r

      spawn_passes : (spawn_found context made sp).faults ≡ [] → Listed m top s (spawn_found context made sp).reached → list_all test (spawn_found context made sp).reached ≡ true
      spawn_passes f r =
          let given = given_judgements gs in
          let unknown = unknown_ends made.names sp.ends in
          let spawned = spawn_of context made sp gs (as_proc (item_named sp.target.name known.whole.items)) in
          let a = none_in (faults_of_all given) (unknown ++ spawned.faults) f in
          let b = none_in unknown spawned.faults a.1 in
          let c = all_in is_checked (reached_of_all given) spawned.reached r in
          let arguments = flat_map (λ (x : Arg). mentioned_in_arg x bound) sp.arguments in
          let passing = given_reach (Passing m top s) behind (map arg_pair sp.arguments) (arguments_reach (Passing m top s) behind sp.arguments bound (knows.reaching context.owner arguments (arguments_none sp.arguments bound))) in
          let g = parametric_args_given behind env (well_behind context env made place) (map arg_pair sp.arguments) (map arg_denotation sp.arguments) (each_argument sp.arguments) a.0 (all_sound m top s known knows (reached_of_all given) passing c.0) in
          both_pass test (reached_of_all given) spawned.reached (given_pass here test behind (map arg_pair sp.arguments) (each_given made sp.arguments) a.0 (all_here (reached_of_all given) passing c.0))
          (by_proc (as_proc (item_named sp.target.name known.whole.items)) refl g b.1 c.1)

    -- ---- the whole

    statements_pass : (made : Made) (ms : List ConfigStatement) → (config_statements_found context made ms).faults ≡ [] → Listed m top s (config_statements_found context made ms).reached → list_all test (config_statements_found context made ms).reached ≡ true
    statements_pass made [] f r = refl
    statements_pass made (config_statement.Channel c ∷ ms) f r =
        let next = made_with context made c in
        let first = channel_found context made c in
        let rest = config_statements_found context next ms in
        let a = none_in first.faults rest.faults f in
        let b = all_in is_checked first.reached rest.reached r in
        both_pass test first.reached rest.reached (channel_passes_there made c a.0 b.0) (statements_pass next ms a.1 b.1)
    statements_pass made (config_statement.Spawn sp ∷ ms) f r =
        let first = spawn_found context made sp in
        let rest = config_statements_found context made ms in
        let a = none_in first.faults rest.faults f in
        let b = all_in is_checked first.reached rest.reached r in
        both_pass test first.reached rest.reached (spawn_passes made sp a.0 b.0) (statements_pass made ms a.1 b.1)

    config_passes : PartsWellTyped m top s known p parametric_args → list_all test (config_found context p).reached ≡ true
    config_passes parts =
        let start = made_at_start context p.config.ends in
        let made = config_statements_found context start p.config.config_statements in
        let outer = ends_found context [] p.config.ends in
        let a = none_in outer.faults (made.faults ++ _) parts.config in
        let b = all_in is_checked outer.reached (made.reached ++ []) parts.listed in
        let named = found_ends (Passing m top s) context [] p.config.ends bound (knows.reaching context.owner (ends_mentions p.config.ends bound) (ends_none p.config.ends bound)) in
        both_pass test outer.reached (made.reached ++ []) (ends_pass here test known complete typed callees context env place refl [] p.config.ends a.0 (all_here outer.reached named b.0))
        (both_pass test made.reached [] (statements_pass start p.config.config_statements (none_in made.faults _ a.1).0 (all_in is_checked made.reached [] b.1).0) refl)

    proc_passes : list_all test (proc_seen known p parametric_args).reached ≡ true
    proc_passes =
        let parts = parts_well_typed m top s known knows p parametric_args there.checked in
        let acts = acts_found known p parametric_args in
        let passes = acts_pass here test known complete typed callees p parametric_args there.own parts.acts.faults (all_here acts.reached parts.passing parts.checked) in
        let state = typing_of_type context p.next.ty in
        let inside : TypeEnv = record context { members = map (channel_end_of context) p.members } in
        let init = body_typing false inside state.ty p.init in
        let next = body_typing true (record inside { locals = record { name = p.next.state.name; ty = state.ty } ∷ [] }) state.ty p.next.body in
        let parametrics = parametrics_found known p.name.name [] [] p.parametrics parametric_args in
        let members = ends_found context [] p.members in
        let a = all_in test parametrics.reached (members.reached ++ (init.reached ++ (state.reached ++ (next.reached ++ [])))) passes in
        let b = all_in test members.reached (init.reached ++ (state.reached ++ (next.reached ++ []))) a.1 in
        let c = all_in test init.reached (state.reached ++ (next.reached ++ [])) b.1 in
        let e = all_in test state.reached (next.reached ++ []) c.1 in
        both_pass test parametrics.reached (members.reached ++ ((config_found context p).reached ++ (state.reached ++ (init.reached ++ (next.reached ++ []))))) a.0
        (both_pass test members.reached ((config_found context p).reached ++ (state.reached ++ (init.reached ++ (next.reached ++ [])))) b.0
        (both_pass test (config_found context p).reached (state.reached ++ (init.reached ++ (next.reached ++ []))) (config_passes parts)
        (both_pass test state.reached (init.reached ++ (next.reached ++ [])) e.0 (both_pass test init.reached (next.reached ++ []) c.0 e.1))))

  -- ---- any instance

  instance_passes : (i : Instance) → IsOneOf i (all m top s) → test i ≡ true → list_all test (found_of_instance known i).reached ≡ true
  instance_passes i one own = by_item (item_named i.name m.items) refl
    where
      own_there : AllOwn known.items.type_named i.parametric_args
      own_there = all_own_there known.items.type_named i.parametric_args own

      seen_as : (o : Option Definition) → item_named i.name m.items ≡ o → list_all test (found_of_item known i.parametric_args o).reached ≡ true → list_all test (found_of_instance known i).reached ≡ true
      seen_as o q h = (λ t. list_all test (found_of_item known i.parametric_args ((known_item i.name ∙ q) t)).reached) ∙ h

      by_item : (o : Option Definition) → item_named i.name m.items ≡ o → list_all test (found_of_instance known i).reached ≡ true
      by_item (Some (d.Function f)) q =
          let enough : most m top s ≤ length m.items = omega arith in
          functions_pass (most m top s) enough i f one q own_there (every_item_settles m i.name (d.Function f) q refl)
      by_item (Some (d.Proc p)) q =
          let name : p.name.name ≡ i.name = item_so_named m.items i.name (d.Proc p) q in
          let same : i ≡ record { name = p.name.name; parametric_args = i.parametric_args } = λ t. record { name = sym name t; parametric_args = i.parametric_args } in
          let named : IsProcOf m p = subst (λ n. item_named n m.items ≡ Some (d.Proc p)) (sym name) q in
          seen_as (Some (d.Proc p)) q (proc_passes p i.parametric_args (record { checked = record { named = named; among = subst (λ (j : Instance). IsOneOf j (all m top s)) same one }; own = own_there }))
      by_item (Some (d.Constant c)) q = seen_as (Some (d.Constant c)) q refl
      by_item (Some (d.Alias x)) q = seen_as (Some (d.Alias x)) q refl
      by_item (Some (d.Struct x)) q = seen_as (Some (d.Struct x)) q refl
      by_item (Some (d.Enum x)) q = seen_as (Some (d.Enum x)) q refl
      by_item None q = seen_as None q refl

  -- ---- what is reached outside instances

  abbrev items : Found
  items = items_found known m.items

  abbrev tops : Option Proc → Found
  tops o = top_found known o

  items_none : items.faults ≡ []
  items_none =
      let own = top_faults m top (top_proc m top) in
      (none_in items.faults (tops (top_proc m top)).faults (none_in own (items.faults ++ (tops (top_proc m top)).faults) (all_empty m top s).0).1).0

  items_test : list_all test items.reached ≡ true
  items_test =
      let listed = (all_in is_checked items.reached (tops (top_proc m top)).reached (all_listed m top s (outside_instances m top).reached s.outside)).0 in
      items_pass here test known complete typed callees m.items items_none (all_here items.reached items_named listed)
    where
      P : List ℕ → Bool
      P = Passing m top s

      -- each item is found by its name, as none before has it
      one_named : (before : List (List ℕ)) (is : List Item) → item_names before is ≡ [] → ((name : List ℕ) (x : Definition) → is_in name before ≡ false → item_named name is ≡ Some x → item_named name m.items ≡ Some x)
          → AllNamed P (items_found known is).reached
      one_named before [] f look = tt
      one_named before (i ∷ is) f look =
          let own = ident_of i.definition in
          let both = none_in (listed_name before own) (item_names (own.name ∷ before) is) f in
          let fresh = (or_false (is_own_name own.name) (is_in own.name before) (not_broken (is_own_name own.name || is_in own.name before) 2 own.span both.0)).1 in
          let first : item_named own.name (i ∷ is) ≡ Some i.definition = ap (λ b. if b then Some i.definition else item_named own.name is) ((bytes_eq-Decides own.name (name_of_definition i.definition)).1 (names_agree i.definition)) in
          join P (item_found known i.definition).reached (items_found known is).reached (by_definition own.name i.definition (look own.name i.definition fresh first))
          (one_named (own.name ∷ before) is both.1 (λ name x q e. by_name name x (bytes_eq name own.name) refl q e))
        where
          by_definition : (name : List ℕ) (x : Definition) → item_named name m.items ≡ Some x → AllNamed P (item_found known x).reached
          by_definition name x e = by_kind (is_proc_item (Some x)) refl
            where
              no_proc : (x : Definition) → is_proc_item (Some x) ≡ true → AllNamed P (item_found known x).reached
              no_proc (d.Proc p) q = tt
              no_proc (d.Function f) q = tt
              no_proc (d.Constant c) q = absurd (true≢false (sym q))
              no_proc (d.Alias a) q = absurd (true≢false (sym q))
              no_proc (d.Struct a) q = absurd (true≢false (sym q))
              no_proc (d.Enum a) q = absurd (true≢false (sym q))

              by_kind : (b : Bool) → is_proc_item (Some x) ≡ b → AllNamed P (item_found known x).reached
              by_kind false q = items_reach P m (settles_closed m (most m top s)) (2 * length m.items) x ((λ t. list_all P (mentions_of m (sym e t))) ∙ settles_closed m (most m top s) name (every_item_settles m name x e q))
              by_kind true q = no_proc x q

          by_name : (name : List ℕ) (x : Definition) (b : Bool) → bytes_eq name (ident_of i.definition).name ≡ b → (if b then true else is_in name before) ≡ false → item_named name is ≡ Some x → item_named name m.items ≡ Some x
          by_name name x true q g e = absurd (true≢false g)
          by_name name x false q g e =
              look name x g (ap (λ b. if b then Some i.definition else item_named name is) ((λ t. bytes_eq name (sym (names_agree i.definition) t)) ∙ q) ∙ e)

      items_named : AllNamed P items.reached
      items_named = one_named [] m.items (names_apart m top s.faults) (λ name x q e. e)

  top_test : (o : Option Proc) → top_proc m top ≡ o → list_all test (tops o).reached ≡ true
  top_test None e = refl
  top_test (Some p) e =
      let n = proc_parametric_args known p [] in
      let declared = typing_there [] n in
      let by = named_by m top s known knows complete typed top p e in
      let named = proc_named m by.0 p by.1 in
      let lacking = defaults_there m top s known knows complete typed p ((λ t. top_faults m top (sym e t)) ∙ top_right m top s known knows complete typed) in
      let right = none_wrong known p.name.name (known_before []) p.parametrics lacking in
      let there = typing_right [] n refl right in
      let empty = none_in n.faults declared.faults ((λ t. (tops (sym e t)).faults) ∙ top_empty m top s known knows complete typed) in
      let listed = all_in is_checked declared.reached (top_instance p n.values) ((λ t. list_all is_checked (tops (sym e t)).reached) ∙ top_listed m top s known knows complete typed) in
      let checked : (vs : List DslxValue) → n.values ≡ Some vs → is_checked (record { name = p.name.name; parametric_args = vs }) ≡ true = λ vs q.
      (and_true (is_checked (record { name = p.name.name; parametric_args = vs })) true ((λ t. list_all is_checked (top_instance p (sym q t))) ∙ listed.1)).0 in
      let k = parametric_args_there m top s known knows complete typed p named [] [] tt tt empty.0 (ap (λ (j : JudgedThere). j.faults) (sym there) ∙ empty.1) (ap (λ (j : JudgedThere). list_all is_checked j.reached) (sym there) ∙ listed.0) right checked in
      let own : list_all test (top_instance p n.values) ≡ true = (λ t. list_all test (top_instance p (k.is t))) ∙ (λ t. all_own_pass known.items.type_named k.parametric_args k.own t && true) in
      both_pass test declared.reached (top_instance p n.values) (ap (λ (j : JudgedThere). list_all test j.reached) there ∙ spawned_pass p named [] k.parametric_args k.is k.own k.among) own

  -- ---- all that is checked

  pub checked_are_own : IsLeastClosed (globals_of m) (own_instances m.items ++ (outside_instances m top).reached) (instances_of m top) → (i : Instance) → IsOneOf i (instances_of m top) → AllOwn known.items.type_named i.parametric_args
  checked_are_own least i one = all_own_there known.items.type_named i.parametric_args (and_true (is_checked i) (test i) (least.least (λ j. is_checked j && test j) starts closed i one)).1
    where
      own_start : (x : Definition) (j : Instance) → IsOneOf j (own_instance x) → test j ≡ true
      own_start (d.Function f) j h = by_empty (is_empty f.parametrics) h
        where
          by_empty : (b : Bool) → IsOneOf j (if b then record { name = f.name.name; parametric_args = [] } ∷ [] else []) → test j ≡ true
          by_empty true (inl e) = ap test e
          by_empty true (inr k) = absurd k
          by_empty false k = absurd k
      own_start (d.Proc p) j h = by_empty (is_empty p.parametrics) h
        where
          by_empty : (b : Bool) → IsOneOf j (if b then record { name = p.name.name; parametric_args = [] } ∷ [] else []) → test j ≡ true
          by_empty true (inl e) = ap test e
          by_empty true (inr k) = absurd k
          by_empty false k = absurd k
      own_start (d.Constant c) j h = absurd h
      own_start (d.Alias x) j h = absurd h
      own_start (d.Struct x) j h = absurd h
      own_start (d.Enum x) j h = absurd h

      own_starts : (is : List Item) (j : Instance) → IsOneOf j (own_instances is) → test j ≡ true
      own_starts [] j h = absurd h
      own_starts (x ∷ xs) j h = one_of_both j (own_instance x.definition) (own_instances xs) (own_start x.definition j) (own_starts xs j) h

      starts : (j : Instance) → IsOneOf j (own_instances m.items ++ (outside_instances m top).reached) → (is_checked j && test j) ≡ true
      starts j h =
          let outside = both_pass test items.reached (tops (top_proc m top)).reached items_test (top_test (top_proc m top) refl) in
          let own = one_of_both j (own_instances m.items) (outside_instances m top).reached (own_starts m.items j) (one_passes test (outside_instances m top).reached j outside) h in
          λ t. least.starts j h t && own t

      closed : (j k : Instance) → (is_checked j && test j) ≡ true → IsOneOf k (found_of_instance (globals_of m) j).reached → (is_checked k && test k) ≡ true
      closed j k h one =
          let q = and_true (is_checked j) (test j) h in
          let among = one_of_these j (all m top s) q.0 in
          λ t. s.among j k among one t && one_passes test (found_of_instance known j).reached k (instance_passes j among q.1) one t
