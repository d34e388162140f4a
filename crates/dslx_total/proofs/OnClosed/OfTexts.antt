-- What is checked of a text without faults: each item of it mentions such items alone.
use Rattle.std.proofs.Common.{◌*◌, ◌≡◌, ◌&&◌, ◌||◌, ◌++◌, ◌==◌, ℕ, zero, suc, length, Bool, true, false, not, if◌then◌else◌, List, [], ◌∷◌, map, Option, Some, None, inl, inr, refl, sym, ap, subst, ◌∙◌}
use mathlib.Core.Bool.{true≢false}
use Rattle.std.specs.Prelude.{flat_map, nat_lt}
use Rattle.std.specs.List.{list_all, list_any}
use Rattle.std.specs.Str.{bytes_eq}
use Rattle.xb_span.specs.declared.fault.Fault.{Fault}
use Rattle.dslx_tree.specs.declared.expr.Arg.{Arg, out-Arg}
use Rattle.dslx_tree.specs.declared.item.Definition.{Definition}
use Rattle.dslx_tree.specs.declared.item.Definition.TheVariants as d
use Rattle.dslx_tree.specs.declared.item.Enum.{Enum}
use Rattle.dslx_tree.specs.declared.item.Function.{Function}
use Rattle.dslx_tree.specs.declared.item.Item.{Item}
use Rattle.dslx_tree.specs.declared.item.Member.{Member}
use Rattle.dslx_tree.specs.declared.item.Module.{Module}
use Rattle.dslx_tree.specs.declared.process.Channel.{Channel}
use Rattle.dslx_tree.specs.declared.process.ConfigStatement.{ConfigStatement}
use Rattle.dslx_tree.specs.declared.process.ConfigStatement.TheVariants as config_statement
use Rattle.dslx_tree.specs.declared.process.Proc.{Proc}
use Rattle.dslx_tree.specs.declared.process.Spawn.{Spawn}
use Rattle.dslx_meaning.specs.Environment.{Env}
use Rattle.dslx_meaning.specs.Items.{as_function, item_named, name_of_definition, parametric_args_bound}
use Rattle.dslx_meaning.specs.Lists.{where_true}
use Rattle.dslx_meaning.specs.Meaning.{arg_denotation, denotation}
use Rattle.dslx_meaning.specs.Network.{as_proc}
use Rattle.dslx_meaning.specs.Operators.{number_value}
use Rattle.dslx_meaning.specs.declared.ty.DslxType.{DslxType}
use Rattle.dslx_meaning.specs.declared.value.DslxValue.{DslxValue}
use Rattle.dslx_meaning.specs.declared.value.UntypedLiteral.{UntypedLiteral}
use Rattle.dslx_meaning.specs.Rules.AggregateRules.{wanted_faults}
use Rattle.dslx_meaning.specs.Rules.CallRules.{JudgedThere, ParametricArgsSeen, ParametricArgument, given_judgements, given_parametric_args, is_refused, reached_by, typing_there}
use Rattle.dslx_meaning.specs.Rules.ConstantRules.{constant_of, count_of, is_empty}
use Rattle.dslx_meaning.specs.Rules.ItemRules.{ConstantFound, Found, base_if_bits, enum_seen, function_seen, has_equal_values, item_type_env, member_constant, member_values, members_found, only_faults, typing_of_type}
use Rattle.dslx_meaning.specs.Rules.Mentions.{AsEnum, AsFunction, AsPattern, AsProc, AsStruct, AsType, AsValue, Mention, Use, arg_if, definition_mentions, ends_mentions, is_of_use, mentioned_in_arg, item_reaches, mentioned_in_type, mentions_of, names_mentioned, parametric_names, reaches_within}
use Rattle.dslx_meaning.specs.Rules.ModuleRules.{found_of_instance, found_of_item, instances_of, is_reached, item_found, items_found, outside_instances, top_found}
use Rattle.dslx_meaning.specs.Network.{top_proc}
use Rattle.dslx_meaning.specs.Rules.NameRules.{listed_name}
use Rattle.dslx_meaning.specs.Rules.NodeRules.{arg_pair, expr_pair}
use Rattle.dslx_meaning.specs.Rules.OperatorRules.{is_bits, unless_type}
use Rattle.dslx_meaning.specs.Rules.PatternRules.{is_there}
use Rattle.dslx_meaning.specs.Rules.ProcRules.{Made, behind_ends, channel_found, channel_type, config_statements_found, depth_found, depth_limit, ends_found, made_at_start, made_with, proc_parametric_args, proc_seen, proc_type_env, right_spawn, spawn_found, spawn_of, unknown_ends}
use Rattle.dslx_meaning.specs.Rules.TypeEnvs.{GlobalEnv, Instance, TypeEnv, breaks, breaks_if, faults_of_all, has_broken, reached_of_all, span_of, untyped_of}
use Rattle.dslx_core.proofs.Lemmas.Typing.Accepted.{IsAccepted, all_empty, all_so, instance_faults, one_of_these}
use Rattle.dslx_core.proofs.Lemmas.Typing.Complete.{alias_has_type, constant_has_value, enum_has_type, item_env, item_typed, none_own, struct_has_type}
use Rattle.dslx_core.proofs.Lemmas.Typing.Depends.{every_item_settles, no_proc_in_type, reached_below, settles_longer}
use Rattle.dslx_core.proofs.Lemmas.Typing.Laws.{and_true}
use Rattle.dslx_core.proofs.Lemmas.Typing.Laws.Chains.{itself, or_first, or_second, same_name}
use Rattle.dslx_core.proofs.Lemmas.Typing.Sound.{AreGiven, all_in, argument_gives, constant_has, count_has, expression_gives, none_in, not_broken, parametric_args_given, passed, some_fault, type_has_den, typing_right}
use Rattle.dslx_core.proofs.Lemmas.Typing.Typed.{none_some, same_some, untyped_there}
use Rattle.dslx_core.proofs.Lemmas.Typing.TypingRelations.{arguments_reach, found_ends, given_reach, item_so_named, join, written_type_reaches}
use Rattle.dslx_core.specs.Typing.Complete.Acts.{acts_found}
use Rattle.dslx_core.specs.Typing.Complete.HasValue.{AreTyped, IsWellTypedFound}
use Rattle.dslx_core.specs.Typing.GlobalEnv.WellTypedParts.{EachItemWellTyped}
use Rattle.dslx_core.specs.Typing.Typed.Complete.{IsComplete}
use Rattle.dslx_core.specs.Typing.Typed.Given.{HasNarrowLeaves}
use Rattle.dslx_core.specs.Typing.Typed.Numbers.{AllOwn}
use Rattle.dslx_core.specs.Typing.Typed.WellTyped.{IsWellTypedEnv}
use Rattle.dslx_core.specs.Typing.TypingRelations.Called.{called}
use Rattle.dslx_core.specs.Typing.TypingRelations.Closed.{IsOneOf}
use Rattle.dslx_core.specs.Typing.TypingRelations.Cycles.{AllUsed}
use Rattle.dslx_core.specs.Typing.TypingRelations.Reached.{AllNamed, IsClosed}
use Rattle.dslx_core.specs.Typing.TypingRelations.Whole.{IsChannelThere, IsFunctionThere, IsItemThere, IsProcThere, MembersThere, StatementsThere}
use Rattle.dslx_total.specs.Instances.Checked.{has_instance, is_checked_as, is_checked_item}
use Rattle.dslx_total.proofs.OnClosed.OfItems.{acts_there, ends_there, function_there, word_type}
use Rattle.dslx_total.proofs.OnConfigs.Configs.{depth_none, depth_reaches}
use Rattle.dslx_total.proofs.OnExpressions.Parts.{all_sound as sound_of}
use Rattle.dslx_total.proofs.OnFamilies.Acts.{parts_well_typed}
use Rattle.dslx_total.proofs.OnFamilies.Knows.{Knows, all_sound, knows_itself}
use Rattle.dslx_total.proofs.OnFamilies.Parametrics.{LoopsHaveNoValue}
use Rattle.dslx_total.proofs.OnFamilies.Reached.{IsProcOf, K, Listed, Passing, all, all_listed, arguments_none, ends_none, most}
use Rattle.dslx_total.proofs.OnFamilies.Spawns.{each_argument, parametric_args_there, proc_named, well_behind}
use Rattle.dslx_total.proofs.OnFamilies.There.{IsThere, well}
use Rattle.dslx_total.proofs.OnOwn.OfItems.{member_by, member_is}
use Rattle.dslx_total.proofs.OnOwn.OfTexts.{all_here, callees, here, known_item, seen_there, test}

-- ---- what the three laws of reaching say, as they are called

abbrev pub FunctionsReach : Type 0
FunctionsReach = (P : List ℕ → Bool) (known : GlobalEnv) (f : Function) (parametric_args : List DslxValue) → IsFunctionThere known f parametric_args → AllNamed P (function_seen known f parametric_args).found.reached → AllUsed (called P) (definition_mentions (d.Function f))

abbrev pub ProcsReach : Type 0
ProcsReach = (P : List ℕ → Bool) (known : GlobalEnv) (p : Proc) (parametric_args : List DslxValue) → IsProcThere known p parametric_args → AllNamed P (proc_seen known p parametric_args).reached → AllUsed (called P) (definition_mentions (d.Proc p))

abbrev pub ItemsReach : Type 0
ItemsReach = (P : List ℕ → Bool) (known : GlobalEnv) (x : Definition) → IsItemThere known x → AllNamed P (item_found known x).reached → AllUsed (called P) (definition_mentions x)

-- ---- items that are neither functions nor procs

member_there : (context : TypeEnv) (env : Env) → IsWellTypedEnv context env → (t : DslxType) → HasNarrowLeaves t → (x : Member) → (member_constant context (Some t) x).found.faults ≡ [] → list_all context.known.is_sound (member_constant context (Some t) x).found.reached ≡ true
    → is_there (member_constant context (Some t) x).value ≡ true
member_there context env h t narrow x f r =
    let same = member_is context (Some t) x in
    ap (λ (c : ConstantFound). is_there c.value) same
    ∙ by_untyped (untyped_of (expr_pair x.value)) (ap (λ (c : ConstantFound). c.found.faults) (sym same) ∙ f) (ap (λ (c : ConstantFound). list_all context.known.is_sound c.found.reached) (sym same) ∙ r)
  where
    by_untyped : (o : Option UntypedLiteral) → (member_by context (Some t) (expr_pair x.value) o).found.faults ≡ [] → list_all context.known.is_sound (member_by context (Some t) (expr_pair x.value) o).found.reached ≡ true
        → is_there (member_by context (Some t) (expr_pair x.value) o).value ≡ true
    by_untyped None f r =
        let pair = expr_pair x.value in
        let c = constant_of context pair in
        let q = none_in c.judgement.faults (wanted_faults (span_of pair) (Some t) c.judgement.ty) f in
        let k = constant_has context env pair (denotation x.value) (expression_gives x.value) h (record { faults = q.0; reached = r }) in
        (λ i. is_there (if is_empty (q.1 i) then c.value else None)) ∙ ap is_there k.known
    by_untyped (Some number) f r = ap is_there (untyped_there t narrow number) ∙ passed (is_there (number_value t number)) 6 (span_of (expr_pair x.value)) f

members_there : (context : TypeEnv) (env : Env) → IsWellTypedEnv context env → (t : DslxType) → HasNarrowLeaves t → (before : List (List ℕ)) (xs : List Member) → (members_found context (Some t) before xs).faults ≡ [] → list_all context.known.is_sound (members_found context (Some t) before xs).reached ≡ true
    → MembersThere context (Some t) xs
members_there context env h t narrow before [] f r = tt
members_there context env h t narrow before (x ∷ xs) f r =
    let own = (member_constant context (Some t) x).found in
    let rest = members_found context (Some t) (x.name.name ∷ before) xs in
    let a = none_in own.faults rest.faults (none_in (listed_name before x.name) (own.faults ++ rest.faults) f).1 in
    let b = all_in context.known.is_sound own.reached rest.reached r in
    (member_there context env h t narrow x a.0 b.0, members_there context env h t narrow (x.name.name ∷ before) xs a.1 b.1)

module _ (known : GlobalEnv) (complete : IsComplete known) (typed : AreTyped known) where
  enum_there : (e : Enum) → IsWellTypedFound known (enum_seen known e).found → IsItemThere known (d.Enum e)
  enum_there e well_typed =
      let context = item_type_env known e.name.name [] in
      let env = item_env known [] in
      let place = item_typed known complete typed e.name.name [] (none_own known) in
      let base = typing_of_type context e.base in
      let members = members_found context (base_if_bits base.ty) [] e.members in
      let bits = unless_type is_bits 23 e.span base.ty in
      let equal = breaks_if (is_empty e.members || has_equal_values (member_values context (base_if_bits base.ty) e.members)) 23 e.span in
      let f = none_in (base.faults ++ members.faults) bits (none_in ((base.faults ++ members.faults) ++ bits) equal well_typed.faults).0 in
      let g = none_in base.faults members.faults f.0 in
      let r = all_in known.is_sound base.reached members.reached well_typed.reached in
      let k = (type_has_den e.base).known context env place (record { faults = g.0; reached = r.0 }) in
      let b = passed (is_bits k.0) 23 e.span (ap (unless_type is_bits 23 e.span) (sym k.1) ∙ f.1) in
      let same : base_if_bits base.ty ≡ Some k.0 = ap base_if_bits k.1 ∙ ap (λ t. where_true t (Some k.0)) b in
      let each = members_there context env place k.0 ((type_has_den e.base).narrow context g.0 k.0 k.1) [] e.members (ap (λ o. (members_found context o [] e.members).faults) (sym same) ∙ g.1) (ap (λ o. list_all known.is_sound (members_found context o [] e.members).reached) (sym same) ∙ r.1) in
      (ap is_there (enum_has_type known complete typed e well_typed).is, subst (λ o. MembersThere context o e.members) (sym same) each)

  other_there : (x : Definition) → is_of_use AsFunction (Some x) ≡ false → is_of_use AsProc (Some x) ≡ false → IsWellTypedFound known (item_found known x) → IsItemThere known x
  other_there (d.Function f) a b w = absurd (true≢false a)
  other_there (d.Proc p) a b w = absurd (true≢false b)
  other_there (d.Constant c) a b w = ap is_there (constant_has_value known complete typed c (record { faults = w.faults; reached = w.reached })).is
  other_there (d.Alias x) a b w = ap is_there (alias_has_type known complete typed x (record { faults = w.faults; reached = w.reached })).is
  other_there (d.Struct x) a b w = ap is_there (struct_has_type known complete typed x (record { faults = w.faults; reached = w.reached })).is
  other_there (d.Enum x) a b w = enum_there x (record { faults = w.faults; reached = w.reached })

-- what all items reach passes, so what one reaches does
item_passes : (P : Instance → Bool) (known : GlobalEnv) (is : List Item) (name : List ℕ) (x : Definition) → item_named name is ≡ Some x → list_all P (items_found known is).reached ≡ true → list_all P (item_found known x).reached ≡ true
item_passes P known [] name x e h = none_some x e
item_passes P known (i ∷ is) name x e h =
    let q = all_in P (item_found known i.definition).reached (items_found known is).reached h in
    by_name (bytes_eq name (name_of_definition i.definition)) e q.0 (λ more. item_passes P known is name x more q.1)
  where
    by_name : (b : Bool) → (if b then Some i.definition else item_named name is) ≡ Some x → list_all P (item_found known i.definition).reached ≡ true → (item_named name is ≡ Some x → list_all P (item_found known x).reached ≡ true)
        → list_all P (item_found known x).reached ≡ true
    by_name true e first rest = ap (λ y. list_all P (item_found known y).reached) (sym (same_some i.definition x e)) ∙ first
    by_name false e first rest = rest e

-- the name of an instance that is checked is a checked item's
named_so : (m : Module) (top : Option (List ℕ)) (o : Option Definition) (name : List ℕ) → has_instance m top name ≡ true → is_checked_as m top name o ≡ true
named_so m top (Some (d.Function f)) name h = h
named_so m top (Some (d.Proc p)) name h = h
named_so m top (Some (d.Constant c)) name h = refl
named_so m top (Some (d.Alias x)) name h = refl
named_so m top (Some (d.Struct x)) name h = refl
named_so m top (Some (d.Enum x)) name h = refl
named_so m top None name h = refl

instance_named : (is : List Instance) (i : Instance) → IsOneOf i is → list_any (λ (j : Instance). bytes_eq i.name j.name) is ≡ true
instance_named [] i one = absurd one
instance_named (x ∷ xs) i (inl e) = or_first (bytes_eq i.name x.name) (list_any (λ (j : Instance). bytes_eq i.name j.name) xs) (ap (λ (j : Instance). bytes_eq i.name j.name) (sym e) ∙ itself i.name)
instance_named (x ∷ xs) i (inr one) = or_second (bytes_eq i.name x.name) (list_any (λ (j : Instance). bytes_eq i.name j.name) xs) (instance_named xs i one)

pub checked_named : (m : Module) (top : Option (List ℕ)) (i : Instance) → IsOneOf i (instances_of m top) → is_checked_item m top i.name ≡ true
checked_named m top i one = named_so m top (item_named i.name m.items) i.name (instance_named (instances_of m top) i one)

-- an instance of this name
instance_so_named : (is : List Instance) (name : List ℕ) → list_any (λ (j : Instance). bytes_eq name j.name) is ≡ true → (i : Instance) × IsOneOf i is × (name ≡ i.name)
instance_so_named [] name h = absurd (true≢false (sym h))
instance_so_named (x ∷ xs) name h = by_first (bytes_eq name x.name) refl h (instance_so_named xs name)
  where
    by_first : (b : Bool) → bytes_eq name x.name ≡ b → (b || list_any (λ (j : Instance). bytes_eq name j.name) xs) ≡ true
        → (list_any (λ (j : Instance). bytes_eq name j.name) xs ≡ true → (i : Instance) × IsOneOf i xs × (name ≡ i.name)) → (i : Instance) × IsOneOf i (x ∷ xs) × (name ≡ i.name)
    by_first true q g more = (x, inl refl, same_name name x.name q)
    by_first false q g more = let k = more g in (k.0, inr k.1, k.2)

module _ (m : Module) (top : Option (List ℕ)) (s : IsAccepted m top) (loops : LoopsHaveNoValue m) (complete : IsComplete (K m top s)) (typed : AreTyped (K m top s)) where
  abbrev known : GlobalEnv
  known = K m top s

  abbrev knows : Knows m top s known
  knows = knows_itself m top s loops complete typed

  abbrev is_checked : Instance → Bool
  is_checked i = is_reached i (all m top s)

  abbrev inside : Instance → Bool
  inside = here m top s loops complete typed

  abbrev own : Instance → Bool
  own = test m top s loops complete typed

  sound : (is : List Instance) → list_all inside is ≡ true → list_all known.is_sound is ≡ true
  sound is h = sound_of inside known.is_sound (callees m top s loops complete typed).sound is h

  -- ---- procs

  module _ (p : Proc) (parametric_args : List DslxValue) (there : IsThere m top s known p parametric_args) where
    abbrev context : TypeEnv
    context = proc_type_env known p parametric_args

    abbrev env : Env
    env = item_env known (parametric_args_bound [] p.parametrics parametric_args)

    abbrev bound : List (List ℕ)
    bound = parametric_names p.parametrics

    place : IsWellTypedEnv context env
    place = well m top s known complete typed p parametric_args there

    depth_there : (made : Made) (o : Option Arg) → (depth_found (behind_ends context made) o).faults ≡ [] → list_all known.is_sound (depth_found (behind_ends context made) o).reached ≡ true → (a : Arg) → o ≡ Some a
        → is_there (count_of (behind_ends context made) (arg_pair a).1).count ≡ true
    depth_there made None f r a e = none_some a e
    depth_there made (Some x) f r a e =
        let behind = behind_ends context made in
        let n = count_of behind (arg_pair x).1 in
        let q = none_in n.judgement.faults (depth_limit (out-Arg x).span.to n.count) f in
        let c = count_has behind env (arg_pair x).1 (arg_denotation x) (argument_gives x) (well_behind context env made place) (record { faults = q.0; reached = r }) in
        ap (λ z. is_there (count_of behind (arg_pair z).1).count) (sym (same_some x a e)) ∙ ap is_there c.1

    channel_is_there : (made : Made) (c : Channel) → (channel_found context made c).faults ≡ [] → Listed m top s (channel_found context made c).reached → IsChannelThere (behind_ends context made) c
    channel_is_there made c f r =
        let behind = behind_ends context made in
        let word = channel_type behind c.word in
        let depth = depth_found behind c.depth in
        let P = Passing m top s in
        let passing = join P word.reached depth.reached (written_type_reaches P c.word bound behind (knows.reaching behind.owner (mentioned_in_type c.word bound) (no_proc_in_type c.word bound)))
        (depth_reaches P behind c.depth bound (knows.reaching behind.owner (arg_if c.depth bound) (depth_none c.depth bound))) in
        let k = all_in known.is_sound word.reached depth.reached (all_sound m top s known knows (word.reached ++ depth.reached) passing r) in
        let q = none_in word.faults depth.faults (none_in _ (word.faults ++ depth.faults) f).1 in
        record {
          word = word_type inside own known complete typed (callees m top s loops complete typed) behind env (well_behind context env made place) refl c.word q.0 k.0;
          depth = depth_there made c.depth q.1 k.1;
        }

    -- ---- spawns

    module _ (made : Made) (sp : Spawn) where
      abbrev behind : TypeEnv
      behind = behind_ends context made

      abbrev gs : List ParametricArgument
      gs = given_parametric_args behind (map arg_pair sp.arguments)

      abbrev seen_of : Proc → ParametricArgsSeen
      seen_of target = proc_parametric_args known target gs

      abbrev cyclic : Proc → List Fault
      cyclic target = breaks_if (known.is_cyclic p.name.name target.name.name) 3 sp.span

      right_values : (target : Proc) → as_proc (item_named sp.target.name m.items) ≡ Some target → AreGiven behind env (map arg_pair sp.arguments) (map arg_denotation sp.arguments) → (right_spawn context made sp target (cyclic target) (seen_of target)).faults ≡ []
          → Listed m top s (right_spawn context made sp target (cyclic target) (seen_of target)).reached → is_there (seen_of target).values ≡ true
      right_values target is g f r =
          let n = seen_of target in
          let wrong = breaks_if n.is_wrong 10 sp.span in
          let declared = typing_there (cyclic target) n in
          let a = none_in (((cyclic target ++ n.faults) ++ declared.faults) ++ wrong) _ f in
          let b = none_in ((cyclic target ++ n.faults) ++ declared.faults) wrong a.0 in
          let e = none_in (cyclic target ++ n.faults) declared.faults b.0 in
          let c = none_in (cyclic target) n.faults e.0 in
          let no_wrong = not_broken n.is_wrong 10 sp.span b.1 in
          let right = typing_right (cyclic target) n c.0 no_wrong in
          let listed = all_in is_checked declared.reached (reached_by (is_refused (cyclic target) n) target.name.name n.values) r in
          let named = proc_named m sp.target.name target is in
          let checked : (vs : List DslxValue) → n.values ≡ Some vs → is_checked (record { name = target.name.name; parametric_args = vs }) ≡ true = λ vs q.
          (and_true (is_checked (record { name = target.name.name; parametric_args = vs })) true ((λ t. list_all is_checked (reached_by (has_broken (sym c.0 t) || sym no_wrong t) target.name.name (sym q t))) ∙ listed.1)).0 in
          let k = parametric_args_there m top s known knows complete typed target named gs g.values g.each g.mean c.1 (ap (λ (j : JudgedThere). j.faults) (sym right) ∙ e.1) (ap (λ (j : JudgedThere). list_all is_checked j.reached) (sym right) ∙ listed.0) no_wrong checked in
          ap is_there k.is

      by_count : (target : Proc) → as_proc (item_named sp.target.name m.items) ≡ Some target → (b : Bool) → AreGiven behind env (map arg_pair sp.arguments) (map arg_denotation sp.arguments)
          → (if b then right_spawn context made sp target (cyclic target) (seen_of target) else only_faults (cyclic target ++ breaks 10 sp.span ∷ [])).faults ≡ []
          → Listed m top s (if b then right_spawn context made sp target (cyclic target) (seen_of target) else only_faults (cyclic target ++ breaks 10 sp.span ∷ [])).reached → is_there (seen_of target).values ≡ true
      by_count target is true g f r = right_values target is g f r
      by_count target is false g f r = some_fault (breaks 10 sp.span) [] (none_in (cyclic target) (breaks 10 sp.span ∷ []) f).1

      spawn_values : (spawn_found context made sp).faults ≡ [] → Listed m top s (spawn_found context made sp).reached → (target : Proc) → as_proc (item_named sp.target.name known.whole.items) ≡ Some target → is_there (seen_of target).values ≡ true
      spawn_values f r target is =
          let given = given_judgements gs in
          let unknown = unknown_ends made.names sp.ends in
          let spawned = spawn_of context made sp gs (as_proc (item_named sp.target.name known.whole.items)) in
          let a = none_in (faults_of_all given) (unknown ++ spawned.faults) f in
          let b = none_in unknown spawned.faults a.1 in
          let c = all_in is_checked (reached_of_all given) spawned.reached r in
          let arguments = flat_map (λ (x : Arg). mentioned_in_arg x bound) sp.arguments in
          let passing = given_reach (Passing m top s) behind (map arg_pair sp.arguments) (arguments_reach (Passing m top s) behind sp.arguments bound (knows.reaching context.owner arguments (arguments_none sp.arguments bound))) in
          let g = parametric_args_given behind env (well_behind context env made place) (map arg_pair sp.arguments) (map arg_denotation sp.arguments) (each_argument sp.arguments) a.0 (all_sound m top s known knows (reached_of_all given) passing c.0) in
          by_count target (ap as_proc (sym (known_item m top s loops complete typed sp.target.name)) ∙ is) (length sp.ends == length target.config.ends && not (nat_lt (length target.parametrics) (length gs))) g
          (ap (λ o. (spawn_of context made sp gs o).faults) (sym is) ∙ b.1) (ap (λ o. list_all is_checked (spawn_of context made sp gs o).reached) (sym is) ∙ c.1)

    statements_there : (made : Made) (ms : List ConfigStatement) → (config_statements_found context made ms).faults ≡ [] → Listed m top s (config_statements_found context made ms).reached → StatementsThere context made ms
    statements_there made [] f r = tt
    statements_there made (config_statement.Channel c ∷ ms) f r =
        let next = made_with context made c in
        let first = channel_found context made c in
        let rest = config_statements_found context next ms in
        let a = none_in first.faults rest.faults f in
        let b = all_in is_checked first.reached rest.reached r in
        (channel_is_there made c a.0 b.0, statements_there next ms a.1 b.1)
    statements_there made (config_statement.Spawn sp ∷ ms) f r =
        let first = spawn_found context made sp in
        let rest = config_statements_found context made ms in
        let a = none_in first.faults rest.faults f in
        let b = all_in is_checked first.reached rest.reached r in
        (record { unbroken = ap has_broken a.0; values = λ q e. spawn_values made sp a.0 b.0 q e }, statements_there made ms a.1 b.1)

    proc_there : IsProcThere known p parametric_args
    proc_there =
        let parts = parts_well_typed m top s known knows p parametric_args there.checked in
        let acts = acts_found known p parametric_args in
        let k = acts_there inside own known complete typed (callees m top s loops complete typed) p parametric_args there.own parts.acts.faults (all_here m top s loops complete typed acts.reached parts.passing parts.checked) in
        let start = made_at_start context p.config.ends in
        let made = config_statements_found context start p.config.config_statements in
        let outer = ends_found context [] p.config.ends in
        let a = none_in outer.faults (made.faults ++ _) parts.config in
        let b = all_in is_checked outer.reached (made.reached ++ []) parts.listed in
        let named = found_ends (Passing m top s) context [] p.config.ends bound (knows.reaching context.owner (ends_mentions p.config.ends bound) (ends_none p.config.ends bound)) in
        record {
          parametrics = k.parametrics;
          members = k.members;
          ends = ends_there inside own known complete typed (callees m top s loops complete typed) context env place refl [] p.config.ends a.0 (all_sound m top s known knows outer.reached named b.0);
          statements = statements_there start p.config.config_statements (none_in made.faults _ a.1).0 (all_in is_checked made.reached [] b.1).0;
          state = k.state;
          init = k.init;
          next = k.next;
        }

  -- ---- what is checked

  abbrev P : List ℕ → Bool
  P = is_checked_item m top

  passes : (i : Instance) → IsOneOf i (all m top s) → P i.name ≡ true
  passes i one = checked_named m top i one

  all_pass : (is : List Instance) → ((j : Instance) → IsOneOf j is → IsOneOf j (all m top s)) → AllNamed P is
  all_pass [] h = tt
  all_pass (i ∷ is) h = (passes i (h i (inl refl)), all_pass is (λ j one. h j (inr one)))

  listed_pass : (is : List Instance) → Listed m top s is → AllNamed P is
  listed_pass [] h = tt
  listed_pass (i ∷ is) h =
      let q = and_true (is_checked i) (list_all is_checked is) h in
      (passes i (one_of_these i (all m top s) q.0), listed_pass is q.1)

  reached_pass : (i : Instance) → IsOneOf i (all m top s) → AllNamed P (found_of_instance known i).reached
  reached_pass i one = all_pass (found_of_instance known i).reached (λ j r. one_of_these j (all m top s) (s.among i j one r))

  -- ---- what is mentioned

  used_as : (u : Use) (name : List ℕ) (o : Option Definition) → item_named name m.items ≡ o → is_of_use u o ≡ true → called P u name ≡ true → is_checked_as m top name o ≡ true
  used_as AsFunction name (Some (d.Function f)) e q h = (λ t. is_checked_as m top name (sym e t)) ∙ h
  used_as AsProc name (Some (d.Proc p)) e q h = (λ t. is_checked_as m top name (sym e t)) ∙ h
  used_as AsValue name (Some (d.Function f)) e q h = absurd (true≢false (sym q))
  used_as AsPattern name (Some (d.Function f)) e q h = absurd (true≢false (sym q))
  used_as AsType name (Some (d.Function f)) e q h = absurd (true≢false (sym q))
  used_as AsProc name (Some (d.Function f)) e q h = absurd (true≢false (sym q))
  used_as AsEnum name (Some (d.Function f)) e q h = absurd (true≢false (sym q))
  used_as AsStruct name (Some (d.Function f)) e q h = absurd (true≢false (sym q))
  used_as AsValue name (Some (d.Proc p)) e q h = absurd (true≢false (sym q))
  used_as AsPattern name (Some (d.Proc p)) e q h = absurd (true≢false (sym q))
  used_as AsType name (Some (d.Proc p)) e q h = absurd (true≢false (sym q))
  used_as AsFunction name (Some (d.Proc p)) e q h = absurd (true≢false (sym q))
  used_as AsEnum name (Some (d.Proc p)) e q h = absurd (true≢false (sym q))
  used_as AsStruct name (Some (d.Proc p)) e q h = absurd (true≢false (sym q))
  used_as u name (Some (d.Constant c)) e q h = refl
  used_as u name (Some (d.Alias x)) e q h = refl
  used_as u name (Some (d.Struct x)) e q h = refl
  used_as u name (Some (d.Enum x)) e q h = refl
  used_as u name None e q h = refl

  mentions_pass : (ms : List Mention) → AllUsed (called P) ms → list_all P (names_mentioned m ms) ≡ true
  mentions_pass [] h = refl
  mentions_pass (n ∷ ns) h = by_test (is_of_use n.use_as (item_named n.name m.items)) refl (mentions_pass ns h.1)
    where
      by_test : (b : Bool) → is_of_use n.use_as (item_named n.name m.items) ≡ b → list_all P (names_mentioned m ns) ≡ true → list_all P (if b then n.name ∷ names_mentioned m ns else names_mentioned m ns) ≡ true
      by_test true q rest = λ t. used_as n.use_as n.name (item_named n.name m.items) refl q h.0 t && rest t
      by_test false q rest = rest

  module _ (owns : (i : Instance) → IsOneOf i (all m top s) → AllOwn known.items.type_named i.parametric_args) (each : EachItemWellTyped m) (functions : FunctionsReach) (procs : ProcsReach) (items : ItemsReach) where
    -- of a function
    function_mentions : (i : Instance) → IsOneOf i (all m top s) → (f : Function) → item_named i.name m.items ≡ Some (d.Function f) → AllUsed (called P) (definition_mentions (d.Function f))
    function_mentions i one f named =
        let seen = seen_there m top s loops complete typed i f named in
        let longer = settles_longer m (most m top s) i.name (every_item_settles m i.name (d.Function f) named refl) in
        let below = all_so inside (Passing m top s) (found_of_instance known i).reached (reached_below m (most m top s) (2 * length m.items) i longer) (λ j r q t. s.among i j one r t && q t) in
        let whole = function_there inside own known complete typed (callees m top s loops complete typed) f i.parametric_args (owns i one) (ap (λ (x : Found). x.faults) (sym seen) ∙ instance_faults known i (all m top s) one (all_empty m top s).1)
        (sound (function_seen known f i.parametric_args).found.reached (ap (λ (x : Found). list_all inside x.reached) (sym seen) ∙ below)) in
        functions P known f i.parametric_args whole (subst (λ (x : Found). AllNamed P x.reached) seen (reached_pass i one))

    -- of a proc
    proc_mentions_so : (i : Instance) → IsOneOf i (all m top s) → (p : Proc) → item_named i.name m.items ≡ Some (d.Proc p) → AllUsed (called P) (definition_mentions (d.Proc p))
    proc_mentions_so i one p q =
        let name : p.name.name ≡ i.name = item_so_named m.items i.name (d.Proc p) q in
        let j : Instance = record { name = p.name.name; parametric_args = i.parametric_args } in
        let same : i ≡ j = λ t. record { name = sym name t; parametric_args = i.parametric_args } in
        let named : IsProcOf m p = subst (λ n. item_named n m.items ≡ Some (d.Proc p)) (sym name) q in
        let among = subst (λ (x : Instance). IsOneOf x (all m top s)) same one in
        let seen : found_of_instance known j ≡ proc_seen known p i.parametric_args = ap (found_of_item known i.parametric_args) (known_item m top s loops complete typed p.name.name ∙ named) in
        procs P known p i.parametric_args (proc_there p i.parametric_args (record { checked = record { named = named; among = among }; own = owns j among })) (subst (λ (x : Found). AllNamed P x.reached) seen (reached_pass j among))

    -- of any other item
    other_mentions : (name : List ℕ) (x : Definition) → item_named name m.items ≡ Some x → is_of_use AsFunction (Some x) ≡ false → is_of_use AsProc (Some x) ≡ false → AllUsed (called P) (definition_mentions x)
    other_mentions name x e a b =
        let reached = (items_found known m.items).reached in
        let listed = (all_in is_checked reached (top_found known (top_proc m top)).reached (all_listed m top s (outside_instances m top).reached s.outside)).0 in
        items P known x (other_there known complete typed x a b (each name x e)) (listed_pass (item_found known x).reached (item_passes is_checked known m.items name x e listed))

    by_item : (name : List ℕ) (o : Option Definition) → item_named name m.items ≡ o → is_checked_as m top name o ≡ true → list_all P (mentions_of m o) ≡ true
    by_item name (Some (d.Function f)) e h =
        let k = instance_so_named (all m top s) name h in
        mentions_pass (definition_mentions (d.Function f)) (function_mentions k.0 k.1 f (ap (λ n. item_named n m.items) (sym k.2) ∙ e))
    by_item name (Some (d.Proc p)) e h =
        let k = instance_so_named (all m top s) name h in
        mentions_pass (definition_mentions (d.Proc p)) (proc_mentions_so k.0 k.1 p (ap (λ n. item_named n m.items) (sym k.2) ∙ e))
    by_item name (Some (d.Constant x)) e h = mentions_pass (definition_mentions (d.Constant x)) (other_mentions name (d.Constant x) e refl refl)
    by_item name (Some (d.Alias x)) e h = mentions_pass (definition_mentions (d.Alias x)) (other_mentions name (d.Alias x) e refl refl)
    by_item name (Some (d.Struct x)) e h = mentions_pass (definition_mentions (d.Struct x)) (other_mentions name (d.Struct x) e refl refl)
    by_item name (Some (d.Enum x)) e h = mentions_pass (definition_mentions (d.Enum x)) (other_mentions name (d.Enum x) e refl refl)
    by_item name None e h = refl

    pub checked_are_closed : IsClosed P m
    checked_are_closed name h = by_item name (item_named name m.items) refl h

-- ---- none reaches itself

pub never_loops : (m : Module) (top : Option (List ℕ)) → ((name : List ℕ) (x : Definition) → item_named name m.items ≡ Some x → as_function (Some x) ≡ None → as_proc (Some x) ≡ None → item_reaches m name name ≡ false)
    → ((i : Instance) → IsOneOf i (instances_of m top) → item_reaches m i.name i.name ≡ false) → (name : List ℕ) → is_checked_item m top name ≡ true → item_reaches m name name ≡ false
never_loops m top items instances name p = by_item (item_named name m.items) refl p
  where
    of_instance : has_instance m top name ≡ true → item_reaches m name name ≡ false
    of_instance h = let k = instance_so_named (instances_of m top) name h in (λ t. item_reaches m (k.2 t) (k.2 t)) ∙ instances k.0 k.1

    -- what is no item reaches nothing
    reaches_nothing : (n : ℕ) → item_named name m.items ≡ None → reaches_within m n name name ≡ false
    reaches_nothing zero e = refl
    reaches_nothing (suc n) e = λ t. list_any (λ next. bytes_eq next name || reaches_within m n next name) (mentions_of m (e t))

    by_item : (o : Option Definition) → item_named name m.items ≡ o → is_checked_as m top name o ≡ true → item_reaches m name name ≡ false
    by_item (Some (d.Function f)) e h = of_instance h
    by_item (Some (d.Proc q)) e h = of_instance h
    by_item (Some (d.Constant c)) e h = items name (d.Constant c) e refl refl
    by_item (Some (d.Alias x)) e h = items name (d.Alias x) e refl refl
    by_item (Some (d.Struct x)) e h = items name (d.Struct x) e refl refl
    by_item (Some (d.Enum x)) e h = items name (d.Enum x) e refl refl
    by_item None e h = reaches_nothing (length m.items) e
