-- Spawns with which nothing is wrong: their parametric arguments are known and of the types of their parameters, and the instance that
-- they spawn is checked.
use Rattle.std.proofs.Common.{◌≡◌, ◌&&◌, ◌||◌, ◌++◌, ◌==◌, ℕ, length, Bool, true, false, not, if◌then◌else◌, List, [], ◌∷◌, map, Option, Some, None, refl, sym, ap, subst, ◌∙◌}
use mathlib.Core.Bool.{true≢false}
use Rattle.std.specs.Prelude.{flat_map, nat_lt}
use Rattle.std.specs.List.{list_all}
use Rattle.xb_span.specs.declared.fault.Fault.{Fault}
use Rattle.dslx_tree.specs.declared.expr.Arg.{Arg}
use Rattle.dslx_tree.specs.declared.item.Definition.{Definition}
use Rattle.dslx_tree.specs.declared.item.Definition.TheVariants as d
use Rattle.dslx_tree.specs.declared.item.Module.{Module}
use Rattle.dslx_tree.specs.declared.process.End.{End}
use Rattle.dslx_tree.specs.declared.process.Proc.{Proc}
use Rattle.dslx_tree.specs.declared.process.Spawn.{Spawn}
use Rattle.dslx_meaning.specs.Environment.{Env}
use Rattle.dslx_meaning.specs.Items.{all_parametric_args, item_named, parametric_args_bound}
use Rattle.dslx_meaning.specs.Lists.{all_some, and_then}
use Rattle.dslx_meaning.specs.Meaning.{arg_denotation}
use Rattle.dslx_meaning.specs.Network.{as_proc, spawn_parametric_args}
use Rattle.dslx_meaning.specs.declared.value.DslxValue.{DslxValue}
use Rattle.dslx_meaning.specs.Rules.CallRules.{Before, ParametricArgument, JudgedThere, ParametricArgsSeen, given_judgements, given_parametric_args, is_refused, typing_there, known_before, reached_by, signature_seen}
use Rattle.dslx_meaning.specs.Rules.ItemRules.{only_faults}
use Rattle.dslx_meaning.specs.Rules.TypeEnvs.{Instance, GlobalEnv, TypeEnv, breaks, breaks_if, faults_of_all, has_broken, reached_of_all}
use Rattle.dslx_meaning.specs.Rules.Typings.{ArgPair}
use Rattle.dslx_meaning.specs.Rules.Mentions.{mentioned_in_arg}
use Rattle.dslx_meaning.specs.Rules.ModuleRules.{declared_type, is_reached}
use Rattle.dslx_meaning.specs.Rules.NodeRules.{arg_pair}
use Rattle.dslx_meaning.specs.Rules.ProcRules.{Made, behind_ends, handed_faults, proc_parametric_args, proc_type_env, right_spawn, spawn_found, spawn_of, unknown_ends}
use Rattle.dslx_core.proofs.Lemmas.Typing.Laws.{and_true}
use Rattle.dslx_core.proofs.Lemmas.Typing.TypingRelations.{arguments_reach, given_reach, item_so_named, parametric_args_reach}
use Rattle.dslx_core.specs.Typing.Sound.Sound.{EachExprGives}
use Rattle.dslx_core.proofs.Lemmas.Typing.Sound.{AreGiven, EachGiven, all_in, argument_gives, typing_right, none_in, not_broken, parametric_args_given, parametric_args_known, some_fault}
use Rattle.dslx_core.proofs.Lemmas.Typing.Depends.{fit_many, stands_first}
use Rattle.dslx_core.specs.Typing.Typed.Complete.{IsComplete, signature_at}
use Rattle.dslx_core.specs.Typing.Typed.Numbers.{AllOwn, GivenMean, values_behind}
use Rattle.dslx_core.specs.Typing.Typed.WellTyped.{IsWellTypedEnv}
use Rattle.dslx_core.proofs.Lemmas.Typing.Typed.{all_are, parametric_args_found}
use Rattle.dslx_core.specs.Typing.Complete.HasValue.{AreTyped}
use Rattle.dslx_core.proofs.Lemmas.Typing.Complete.{item_env, none_own, own_parametric_args}
use Rattle.dslx_core.proofs.Lemmas.Typing.Accepted.{IsAccepted}
use Rattle.dslx_total.proofs.OnFamilies.Knows.{Knows, all_sound}
use Rattle.dslx_total.proofs.OnFamilies.Parametrics.{ends_typed, parametrics_mean}
use Rattle.dslx_total.proofs.OnFamilies.Reached.{IsProcOf, Listed, Passing, all, arguments_none}

abbrev is_there : {A : Type 0} → Option A → Bool
is_there None = false
is_there (Some a) = true

pub proc_is : (o : Option Definition) (p : Proc) → as_proc o ≡ Some p → o ≡ Some (d.Proc p)
proc_is (Some (d.Proc q)) p e = ap (λ (o : Option Proc). as_definition o) e
  where
    as_definition : Option Proc → Option Definition
    as_definition None = None
    as_definition (Some q) = Some (d.Proc q)
proc_is (Some (d.Function g)) p e = absurd (true≢false (sym (ap is_there e)))
proc_is (Some (d.Constant c)) p e = absurd (true≢false (sym (ap is_there e)))
proc_is (Some (d.Alias a)) p e = absurd (true≢false (sym (ap is_there e)))
proc_is (Some (d.Struct s)) p e = absurd (true≢false (sym (ap is_there e)))
proc_is (Some (d.Enum n)) p e = absurd (true≢false (sym (ap is_there e)))
proc_is None p e = absurd (true≢false (sym (ap is_there e)))

-- a proc is found by its own name
pub proc_named : (m : Module) (name : List ℕ) (p : Proc) → as_proc (item_named name m.items) ≡ Some p → IsProcOf m p
proc_named m name p e =
    let named = proc_is (item_named name m.items) p e in
    subst (λ n. item_named n m.items ≡ Some (d.Proc p)) (sym (item_so_named m.items name (d.Proc p) named)) named

-- behind these ends, which hide nothing that has a value
pub well_behind : (context : TypeEnv) (env : Env) (made : Made) → IsWellTypedEnv context env → IsWellTypedEnv (behind_ends context made) env
well_behind context env made h = record {
  locals = h.locals;
  parametric_args = h.parametric_args;
  constants = h.constants;
  members = h.members;
  kinds = h.kinds;
  typed = h.typed;
  valued = h.valued;
  place = record { others = h.place.others; hides = h.place.hides };
  items = h.items;
  known = h.known;
}

pub each_argument : (as' : List Arg) → EachExprGives (map (λ (a : ArgPair). a.1) (map arg_pair as')) (map arg_denotation as')
each_argument [] = tt
each_argument (a ∷ as') = (argument_gives a, each_argument as')

module _ (m : Module) (top : Option (List ℕ)) (s : IsAccepted m top) (known : GlobalEnv) (knows : Knows m top s known) (complete : IsComplete known) (typed : AreTyped known) where
  abbrev test : Instance → Bool
  test i = is_reached i (all m top s)

  -- numbers that are known, of the types of their parameters
  pub record ParametricArgsThere (target : Proc) (gs : List ParametricArgument) (given : List DslxValue) : Type 0 where
    pub parametric_args : List DslxValue
    pub is : (proc_parametric_args known target gs).values ≡ Some parametric_args
    pub own : AllOwn known.items.type_named parametric_args
    pub among : test (record { name = target.name.name; parametric_args = parametric_args }) ≡ true
    pub found : all_parametric_args known.items [] [] target.parametrics given ≡ Some parametric_args
    pub shown : (proc_parametric_args known target gs).bound ≡ known_before (values_behind [] parametric_args)
    pub ends : (signature_at known target.name.name parametric_args).arguments ≡ map (λ (e : End). declared_type (proc_type_env known target parametric_args) e.word) target.config.ends

  -- where its instance is checked
  pub parametric_args_there : (target : Proc) → IsProcOf m target → (gs : List ParametricArgument) (vs : List DslxValue) → EachGiven known.items.type_named gs → GivenMean gs vs
      → (proc_parametric_args known target gs).faults ≡ [] → (proc_parametric_args known target gs).declared.faults ≡ [] → Listed m top s (proc_parametric_args known target gs).declared.reached → (proc_parametric_args known target gs).is_wrong ≡ false
      → ((own : List DslxValue) → (proc_parametric_args known target gs).values ≡ Some own → test (record { name = target.name.name; parametric_args = own }) ≡ true) → ParametricArgsThere target gs vs
  parametric_args_there target named gs vs each mean f j r w checked =
      let owner = target.name.name in
      let here : item_named owner known.whole.items ≡ Some (d.Proc target) = (λ t. item_named owner (knows.text t).items) ∙ named in
      let all = stands_first owner (d.Proc target) in
      let seen = proc_parametric_args known target gs in
      let passing = parametric_args_reach (Passing m top s) known owner [] [] (known_before []) target.parametrics gs (knows.passing target named) in
      let k = parametric_args_known known owner [] [] target.parametrics gs (knows.parametrics target named) each (record { given = f; declared = j; reached = all_sound m top s known knows seen.declared.reached passing r; right = w }) in
      let among = checked k.parametric_args k.all in
      let alike = knows.declared target k.parametric_args named among in
      record {
        parametric_args = k.parametric_args;
        is = k.all;
        own = own_parametric_args known owner [] target.parametrics k.parametric_args k.fit;
        among = among;
        found = parametric_args_found known known.items owner [] [] [] [] target.parametrics gs vs k.parametric_args (parametrics_mean known complete typed owner (d.Proc target) here alike [] [] (none_own known) target.parametrics all) k.fit mean k.all;
        shown = k.shown;
        ends = ends_typed known target here alike k.parametric_args (fit_many known owner [] target.parametrics k.parametric_args k.fit);
      }

  -- what a spawn comes to, behind what was made before: each end fits what it is handed over as
  pub record SpawnThere (made : Made) (env : Env) (sp : Spawn) : Type 0 where
    pub target : Proc
    pub is : as_proc (item_named sp.target.name m.items) ≡ Some target
    pub parametric_args : List DslxValue
    pub given : spawn_parametric_args known.items env target sp.arguments ≡ Some parametric_args
    pub own : AllOwn known.items.type_named parametric_args
    pub among : test (record { name = target.name.name; parametric_args = parametric_args }) ≡ true
    pub many : (length sp.ends == length target.config.ends) ≡ true
    pub ends : unknown_ends made.names sp.ends ≡ []
    pub handed : handed_faults made (map (λ (e : End). declared_type (proc_type_env known target parametric_args) e.word) target.config.ends) target.config.ends sp.ends ≡ []

  module _ (p : Proc) (own : List DslxValue) (well : IsWellTypedEnv (proc_type_env known p own) (item_env known (parametric_args_bound [] p.parametrics own))) where
    abbrev context : TypeEnv
    context = proc_type_env known p own

    abbrev env : Env
    env = item_env known (parametric_args_bound [] p.parametrics own)

    abbrev gs : Made → Spawn → List ParametricArgument
    gs made sp = given_parametric_args (behind_ends context made) (map arg_pair sp.arguments)

    abbrev seen : Made → Spawn → Proc → ParametricArgsSeen
    seen made sp target = proc_parametric_args known target (gs made sp)

    abbrev cyclic : Spawn → Proc → List Fault
    cyclic sp target = breaks_if (known.is_cyclic p.name.name target.name.name) 3 sp.span

    abbrev handed : Made → Spawn → Proc → List Fault
    handed made sp target = if (seen made sp target).is_wrong then [] else handed_faults made (signature_seen known target.name.name (seen made sp target)).arguments target.config.ends sp.ends

    right : (made : Made) (sp : Spawn) (bound : List (List ℕ)) (target : Proc) → as_proc (item_named sp.target.name m.items) ≡ Some target → (length sp.ends == length target.config.ends) ≡ true → unknown_ends made.names sp.ends ≡ [] → AreGiven (behind_ends context made) env (map arg_pair sp.arguments) (map arg_denotation sp.arguments)
        → (right_spawn context made sp target (cyclic sp target) (seen made sp target)).faults ≡ [] → Listed m top s (right_spawn context made sp target (cyclic sp target) (seen made sp target)).reached → SpawnThere made env sp
    right made sp bound target is many ends g f r =
        let n = seen made sp target in
        let wrong = breaks_if n.is_wrong 10 sp.span in
        let declared = typing_there (cyclic sp target) n in
        let a = none_in (((cyclic sp target ++ n.faults) ++ declared.faults) ++ wrong) (handed made sp target) f in
        let b = none_in ((cyclic sp target ++ n.faults) ++ declared.faults) wrong a.0 in
        let d = none_in (cyclic sp target ++ n.faults) declared.faults b.0 in
        let c = none_in (cyclic sp target) n.faults d.0 in
        let no_wrong = not_broken n.is_wrong 10 sp.span b.1 in
        let there = typing_right (cyclic sp target) n c.0 no_wrong in
        let listed = all_in test declared.reached (reached_by (is_refused (cyclic sp target) n) target.name.name n.values) r in
        let checked : (own : List DslxValue) → n.values ≡ Some own → test (record { name = target.name.name; parametric_args = own }) ≡ true = λ own e.
        (and_true (test (record { name = target.name.name; parametric_args = own })) true ((λ t. list_all test (reached_by (has_broken (sym c.0 t) || sym no_wrong t) target.name.name (sym e t))) ∙ listed.1)).0 in
        let k = parametric_args_there target (proc_named m sp.target.name target is) (gs made sp) g.values g.each g.mean c.1 (ap (λ (j : JudgedThere). j.faults) (sym there) ∙ d.1) (ap (λ (j : JudgedThere). list_all test j.reached) (sym there) ∙ listed.0) no_wrong checked in
        let ways = ap (λ (b : Before). (known.signature_in target.name.name b.values).arguments) k.shown ∙ k.ends in
        record {
          target = target;
          is = is;
          parametric_args = k.parametric_args;
          given = ap (λ os. and_then (all_some os) (all_parametric_args known.items [] [] target.parametrics)) g.are ∙ ap (λ o. and_then o (all_parametric_args known.items [] [] target.parametrics)) (all_are g.values) ∙ k.found;
          own = k.own;
          among = k.among;
          many = many;
          ends = ends;
          handed = (λ t. if sym no_wrong t then [] else handed_faults made (sym ways t) target.config.ends sp.ends) ∙ a.1;
        }

    pub spawn_there : (made : Made) (sp : Spawn) (bound : List (List ℕ)) → (spawn_found context made sp).faults ≡ [] → Listed m top s (spawn_found context made sp).reached
        → SpawnThere made env sp
    spawn_there made sp bound f r =
        let given = given_judgements (gs made sp) in
        let unknown = unknown_ends made.names sp.ends in
        let spawned = spawn_of context made sp (gs made sp) (as_proc (item_named sp.target.name known.whole.items)) in
        let a = none_in (faults_of_all given) (unknown ++ spawned.faults) f in
        let b = none_in unknown spawned.faults a.1 in
        let c = all_in test (reached_of_all given) spawned.reached r in
        let arguments = flat_map (λ (x : Arg). mentioned_in_arg x bound) sp.arguments in
        let passing = given_reach (Passing m top s) (behind_ends context made) (map arg_pair sp.arguments) (arguments_reach (Passing m top s) (behind_ends context made) sp.arguments bound (knows.reaching context.owner arguments (arguments_none sp.arguments bound))) in
        let g = parametric_args_given (behind_ends context made) env (well_behind context env made well) (map arg_pair sp.arguments) (map arg_denotation sp.arguments) (each_argument sp.arguments) a.0 (all_sound m top s known knows (reached_of_all given) passing c.0) in
        by_proc (as_proc (item_named sp.target.name known.whole.items)) refl b.0 g b.1 c.1
      where
        enough : Proc → Bool
        enough target = length sp.ends == length target.config.ends && not (nat_lt (length target.parametrics) (length (gs made sp)))

        by_count : (target : Proc) → as_proc (item_named sp.target.name m.items) ≡ Some target → (t : Bool) → enough target ≡ t → unknown_ends made.names sp.ends ≡ [] → AreGiven (behind_ends context made) env (map arg_pair sp.arguments) (map arg_denotation sp.arguments)
            → (if t then right_spawn context made sp target (cyclic sp target) (seen made sp target) else only_faults (cyclic sp target ++ breaks 10 sp.span ∷ [])).faults ≡ []
            → Listed m top s (if t then right_spawn context made sp target (cyclic sp target) (seen made sp target) else only_faults (cyclic sp target ++ breaks 10 sp.span ∷ [])).reached → SpawnThere made env sp
        by_count target is false q ends g f r = some_fault (breaks 10 sp.span) [] (none_in (cyclic sp target) (breaks 10 sp.span ∷ []) f).1
        by_count target is true q ends g f r = right made sp bound target is (and_true (length sp.ends == length target.config.ends) (not (nat_lt (length target.parametrics) (length (gs made sp)))) q).0 ends g f r

        by_proc : (o : Option Proc) → as_proc (item_named sp.target.name known.whole.items) ≡ o → unknown_ends made.names sp.ends ≡ [] → AreGiven (behind_ends context made) env (map arg_pair sp.arguments) (map arg_denotation sp.arguments) → (spawn_of context made sp (gs made sp) o).faults ≡ []
            → Listed m top s (spawn_of context made sp (gs made sp) o).reached → SpawnThere made env sp
        by_proc None q ends g f r = some_fault (breaks 1 sp.target.span) [] f
        by_proc (Some target) q ends g f r =
            by_count target ((λ t. as_proc (item_named sp.target.name (sym knows.text t).items)) ∙ q) (enough target) refl ends g f r
