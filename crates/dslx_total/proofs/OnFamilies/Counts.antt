-- How many procs and channels a family has: as many as are counted of its first proc's instance.
use Rattle.std.proofs.Common.{◌≡◌, inl, inr, ◌+◌, ◌++◌, ℕ, zero, suc, length, Bool, true, false, if◌then◌else◌, List, [], ◌∷◌, map, Option, Some, refl, sym, ap, ◌∙◌, arith}
use mathlib.Core.Bool.{true≢false}
use Rattle.std.proofs.lemmas.List.{length-append}
use Rattle.dslx_tree.specs.declared.item.Module.{Module}
use Rattle.dslx_tree.specs.declared.process.ConfigStatement.{ConfigStatement}
use Rattle.dslx_tree.specs.declared.process.ConfigStatement.TheVariants as config_statement
use Rattle.dslx_tree.specs.declared.process.Proc.{Proc}
use Rattle.dslx_tree.specs.declared.process.Spawn.{Spawn}
use Rattle.dslx_meaning.specs.Environment.{Env}
use Rattle.dslx_meaning.specs.Items.{item_named, parametric_args_bound}
use Rattle.dslx_meaning.specs.Lists.{and_then}
use Rattle.dslx_meaning.specs.Network.{Family, Held, Elaboration, as_proc, channels_of_ends, child_path, children, handed_over, made_chans, made_ends, elaborate_within, spawn_parametric_args, spawned, spawned_at}
use Rattle.dslx_meaning.specs.declared.value.DslxValue.{DslxValue}
use Rattle.dslx_meaning.specs.Rules.TypeEnvs.{Instance, GlobalEnv, TypeEnv, same_instance}
use Rattle.dslx_meaning.specs.Rules.Mentions.{parametric_names}
use Rattle.dslx_meaning.specs.Rules.ModuleRules.{is_reached}
use Rattle.dslx_meaning.specs.Rules.NetworkLimits.{Count, Counted, and_count, count_in, count_of_parametric_args, count_of_proc, counted_within, instance_count, config_statements_count, proc_count, spawn_count}
use Rattle.dslx_meaning.specs.Rules.ProcRules.{Made, channel_found, ends_found, made_at_start, made_with, config_statements_found, proc_type_env, spawn_found}
use Rattle.dslx_core.specs.Typing.TypingRelations.Closed.{IsOneOf}
use Rattle.dslx_core.proofs.Lemmas.Typing.TypingRelations.{itself}
use Rattle.dslx_core.proofs.Lemmas.Typing.Sound.{all_in, none_in}
use Rattle.dslx_core.specs.Typing.Typed.Complete.{IsComplete}
use Rattle.dslx_core.specs.Typing.Complete.HasValue.{AreTyped}
use Rattle.dslx_core.proofs.Lemmas.Typing.Complete.{item_env}
use Rattle.dslx_core.proofs.Lemmas.Typing.Accepted.{IsAccepted, one_instance, one_of_these}
use Rattle.dslx_total.proofs.OnFamilies.Acts.{parts_well_typed}
use Rattle.dslx_total.proofs.OnFamilies.Knows.{Knows}
use Rattle.dslx_total.proofs.OnFamilies.Reached.{Listed, all}
use Rattle.dslx_total.proofs.OnFamilies.Spawns.{proc_named, spawn_there}
use Rattle.dslx_total.proofs.OnFamilies.There.{IsThere, well}

-- ---- counts

abbrev pub size_of_family : Family → Count
size_of_family f = record { procs = length f.procs; channels = length f.chans }

one_count : (a b : Count) → a.procs ≡ b.procs → a.channels ≡ b.channels → a ≡ b
one_count a b p c = λ i. record { procs = p i; channels = c i }

-- beside so many channels
abbrev beside_channels : ℕ → Count → Count
beside_channels n c = and_count (record { procs = 0; channels = n }) c

-- the count of one of these instances
counted_there : (f : Instance → Count) (i : Instance) (is : List Instance) → IsOneOf i is → count_in (map (λ (j : Instance). record { instance = j; count = f j }) is) i ≡ f i
counted_there f i [] h = absurd h
counted_there f i (x ∷ xs) h = by_same (same_instance x i) refl h (counted_there f i xs)
  where
    Rest : Bool → Type 0
    Rest b = (if b then f x else count_in (map (λ (j : Instance). record { instance = j; count = f j }) xs) i) ≡ f i

    by_same : (b : Bool) → same_instance x i ≡ b → IsOneOf i (x ∷ xs) → (IsOneOf i xs → Rest false) → Rest b
    by_same true q k rest = ap f (one_instance x i q)
    by_same false q (inl e) rest = absurd (true≢false (sym (itself i) ∙ ap (λ j. same_instance j i) e ∙ q))
    by_same false q (inr k) rest = rest k

module _ (m : Module) (top : Option (List ℕ)) (s : IsAccepted m top) (known : GlobalEnv) (knows : Knows m top s known) (complete : IsComplete known) (typed : AreTyped known) where
  -- whatever such an instance places is as much as is counted of it
  abbrev ScopesCounted : Elaboration → List Counted → Type 0
  ScopesCounted place counted = (path : List ℕ) (p : Proc) (parametric_args : List DslxValue) (ends : List Held) (number : ℕ) → IsThere m top s known p parametric_args
      → size_of_family (place path p parametric_args ends number) ≡ count_in counted (record { name = p.name.name; parametric_args = parametric_args })

  module _ (place : Elaboration) (counted : List Counted) (so : ScopesCounted place counted) (p : Proc) (parametric_args : List DslxValue) (here : IsThere m top s known p parametric_args) (path : List ℕ) (held : List Held) where
    abbrev context : TypeEnv
    context = proc_type_env known p parametric_args

    abbrev env : Env
    env = item_env known (parametric_args_bound [] p.parametrics parametric_args)

    abbrev bound : List (List ℕ)
    bound = parametric_names p.parametrics

    one_counted : (own : List ℕ) (made : Made) (sp : Spawn) (number : ℕ) → (spawn_found context made sp).faults ≡ [] → Listed m top s (spawn_found context made sp).reached
        → size_of_family (spawned m known.items place own env held sp number) ≡ spawn_count known.items counted env sp (as_proc (item_named sp.target.name m.items))
    one_counted own made sp number f r =
        let t = spawn_there m top s known knows complete typed p parametric_args (well m top s known complete typed p parametric_args here) made sp bound f r in
        let named = proc_named m sp.target.name t.target t.is in
        let ends = handed_over t.target.config.ends (channels_of_ends held sp.ends) in
        let elaborated : spawned m known.items place own env held sp number ≡ place own t.target t.parametric_args ends number =
        (λ i. spawned_at place own held sp number (t.is i) (and_then (t.is i) (λ q. spawn_parametric_args known.items env q sp.arguments))) ∙ ap (spawned_at place own held sp number (Some t.target)) t.given in
        ap size_of_family elaborated
        ∙ so own t.target t.parametric_args ends number (record { checked = record { named = named; among = one_of_these (record { name = t.target.name.name; parametric_args = t.parametric_args }) (all m top s) t.among }; own = t.own })
        ∙ sym (ap (count_of_parametric_args counted t.target) t.given) ∙ sym (ap (spawn_count known.items counted env sp) t.is)

    -- children with the channels that are made beside them
    children_counted : (made : Made) (ms : List ConfigStatement) (k number : ℕ) → (config_statements_found context made ms).faults ≡ [] → Listed m top s (config_statements_found context made ms).reached
        → beside_channels (length (made_chans path env ms)) (size_of_family (children m known.items place path env held ms k number)) ≡ config_statements_count m known.items counted env ms
    children_counted made [] k number f r = refl
    children_counted made (config_statement.Channel c ∷ ms) k number f r =
        let next = made_with context made c in
        let a = none_in (channel_found context made c).faults (config_statements_found context next ms).faults f in
        let b = all_in (λ i. is_reached i (all m top s)) (channel_found context made c).reached (config_statements_found context next ms).reached r in
        let rest = children_counted next ms k number a.1 b.1 in
        let few : 0 + length (children m known.items place path env held ms k number).procs ≡ (config_statements_count m known.items counted env ms).procs = ap (λ (n : Count). n.procs) rest in
        let many : length (made_chans path env ms) + length (children m known.items place path env held ms k number).chans ≡ (config_statements_count m known.items counted env ms).channels = ap (λ (n : Count). n.channels) rest in
        one_count (beside_channels (suc (length (made_chans path env ms))) (size_of_family (children m known.items place path env held ms k number)))
        (and_count (record { procs = 0; channels = 1 }) (config_statements_count m known.items counted env ms)) (omega arith) (omega arith)
    children_counted made (config_statement.Spawn sp ∷ ms) k number f r =
        let a = none_in (spawn_found context made sp).faults (config_statements_found context made ms).faults f in
        let b = all_in (λ i. is_reached i (all m top s)) (spawn_found context made sp).reached (config_statements_found context made ms).reached r in
        let first = spawned m known.items place (child_path path k) env held sp number in
        let others = children m known.items place path env held ms (suc k) (number + length first.chans) in
        both_counted first others (length (made_chans path env ms)) (spawn_count known.items counted env sp (as_proc (item_named sp.target.name m.items))) (config_statements_count m known.items counted env ms)
        (one_counted (child_path path k) made sp number a.0 b.0) (children_counted made ms (suc k) (number + length first.chans) a.1 b.1)
      where
        both_counted : (first others : Family) (own : ℕ) (c e : Count) → size_of_family first ≡ c → beside_channels own (size_of_family others) ≡ e
            → beside_channels own (record { procs = length (first.procs ++ others.procs); channels = length (first.chans ++ others.chans) }) ≡ and_count c e
        both_counted first others own c e p q =
            let one = length-append first.procs others.procs in
            let two = length-append first.chans others.chans in
            let three = ap (λ (n : Count). n.procs) p in
            let four = ap (λ (n : Count). n.channels) p in
            let five = ap (λ (n : Count). n.procs) q in
            let six = ap (λ (n : Count). n.channels) q in
            one_count (beside_channels own (record { procs = length (first.procs ++ others.procs); channels = length (first.chans ++ others.chans) })) (and_count c e) (omega arith) (omega arith)

    -- and the proc itself
    pub proc_counted : (number : ℕ) → size_of_family (record {
      procs = record { path = path; proc = p; parametric_args = parametric_args; channels = channels_of_ends held p.config.result } ∷ (children m known.items place path env held p.config.config_statements 0 number).procs;
      chans = made_chans path env p.config.config_statements ++ (children m known.items place path env held p.config.config_statements 0 number).chans;
    }) ≡ proc_count m known.items counted p parametric_args
    proc_counted number =
        let parts = parts_well_typed m top s known knows p parametric_args here.checked in
        let start = made_at_start context p.config.ends in
        let made = config_statements_found context start p.config.config_statements in
        let outer = ends_found context [] p.config.ends in
        let a = none_in outer.faults (made.faults ++ _) parts.config in
        let b = all_in (λ i. is_reached i (all m top s)) outer.reached (made.reached ++ []) parts.listed in
        let own = made_chans path env p.config.config_statements in
        let others = children m known.items place path env held p.config.config_statements 0 number in
        let rest = children_counted start p.config.config_statements 0 number (none_in made.faults _ a.1).0 (all_in (λ i. is_reached i (all m top s)) made.reached [] b.1).0 in
        let few : 0 + length others.procs ≡ (config_statements_count m known.items counted env p.config.config_statements).procs = ap (λ (n : Count). n.procs) rest in
        let many : length own + length others.chans ≡ (config_statements_count m known.items counted env p.config.config_statements).channels = ap (λ (n : Count). n.channels) rest in
        let both = length-append own others.chans in
        one_count (record { procs = suc (length others.procs); channels = length (own ++ others.chans) }) (and_count (record { procs = 1; channels = 0 }) (config_statements_count m known.items counted env p.config.config_statements)) (omega arith) (omega arith)

  -- by spawns of any number
  pub all_counted : (n : ℕ) → ScopesCounted (elaborate_within m known.items n) (counted_within m known.items (all m top s) n)
  all_counted zero path p parametric_args ends number here = refl
  all_counted (suc n) path p parametric_args ends number here =
      let before = counted_within m known.items (all m top s) n in
      let env = item_env known (parametric_args_bound [] p.parametrics parametric_args) in
      proc_counted (elaborate_within m known.items n) before (all_counted n) p parametric_args here path (ends ++ made_ends number p.config.config_statements) (number + length (made_chans path env p.config.config_statements))
      ∙ sym (ap (count_of_proc m known.items before parametric_args) (ap as_proc here.checked.named))
      ∙ sym (counted_there (instance_count m known.items before) (record { name = p.name.name; parametric_args = parametric_args }) (all m top s) here.checked.among)
