-- A proc with which nothing is wrong, and all that it spawns, as they are placed in a network.
use Rattle.std.proofs.Common.{◌≡◌, ◌+◌, ◌++◌, ℕ, zero, suc, length, List, [], ◌∷◌, Option, Some, sym, ap, subst, ◌∙◌}
use Rattle.dslx_tree.specs.declared.item.Module.{Module}
use Rattle.dslx_tree.specs.declared.process.End.{End}
use Rattle.dslx_tree.specs.declared.process.ConfigStatement.{ConfigStatement}
use Rattle.dslx_tree.specs.declared.process.ConfigStatement.TheVariants as config_statement
use Rattle.dslx_tree.specs.declared.process.Proc.{Proc}
use Rattle.dslx_tree.specs.declared.process.Spawn.{Spawn}
use Rattle.dslx_meaning.specs.Environment.{Env}
use Rattle.dslx_meaning.specs.Items.{parametric_args_bound}
use Rattle.dslx_meaning.specs.Lists.{and_then}
use Rattle.dslx_meaning.specs.Network.{Family, Held, Elaborated, Elaboration, channels_of_ends, child_path, children, handed_over, made_chans, made_ends, elaborate_within, spawn_parametric_args, spawned, spawned_at}
use Rattle.dslx_meaning.specs.declared.value.DslxValue.{DslxValue}
use Rattle.dslx_meaning.specs.Rules.TypeEnvs.{GlobalEnv, TypeEnv}
use Rattle.dslx_meaning.specs.Rules.Mentions.{parametric_names}
use Rattle.dslx_meaning.specs.Rules.ModuleRules.{is_reached}
use Rattle.dslx_meaning.specs.Rules.ProcRules.{Made, channel_found, ends_found, made_at_start, made_with, config_statements_found, proc_type_env, spawn_found}
use Rattle.dslx_core.proofs.Lemmas.Typing.Sound.{all_in, none_in}
use Rattle.dslx_core.specs.Typing.Typed.Complete.{IsComplete}
use Rattle.dslx_core.specs.Typing.Typed.WellTyped.{IsWellTypedEnv}
use Rattle.dslx_core.specs.Typing.Complete.HasValue.{AreTyped}
use Rattle.dslx_core.proofs.Lemmas.Typing.Complete.{item_env}
use Rattle.dslx_total.specs.Expressions.Beside.{NamesHaveWidths}
use Rattle.dslx_core.specs.Typing.Procs.WordsOfEnds.{WordsAreValues}
use Rattle.dslx_total.specs.Texts.WellTypedTexts.{EachProcIsWellTyped, IsWellTypedProc}
use Rattle.dslx_core.proofs.Lemmas.Typing.Accepted.{IsAccepted, one_of_these}
use Rattle.dslx_total.specs.Families.EachElaborated.{EachElaborated}
use Rattle.dslx_total.proofs.OnFamilies.Acts.{parts_well_typed}
use Rattle.dslx_total.proofs.OnFamilies.Knows.{Knows}
use Rattle.dslx_total.proofs.OnFamilies.Reached.{Listed, all}
use Rattle.dslx_total.proofs.OnFamilies.Spawns.{proc_named, spawn_there}
use Rattle.dslx_total.proofs.OnFamilies.There.{IsThere, well}

-- each word of a channel is a value, where nothing is wrong with ends
abbrev pub WordsThere : Type 0
WordsThere = (context : TypeEnv) (env : Env) → IsWellTypedEnv context env → NamesHaveWidths context.known → (before : List (List ℕ)) (ends : List End) → (ends_found context before ends).faults ≡ []
    → WordsAreValues context ends

each_behind : (Q : Proc → List DslxValue → Type 0) (xs ys : List Elaborated) → EachElaborated Q xs → EachElaborated Q ys → EachElaborated Q (xs ++ ys)
each_behind Q [] ys h k = k
each_behind Q (x ∷ xs) ys h k = (h.0, each_behind Q xs ys h.1 k)

pub each_well_typed : (known : GlobalEnv) (as' : List Elaborated) → EachElaborated (IsWellTypedProc known) as' → EachProcIsWellTyped known as'
each_well_typed known [] h = tt
each_well_typed known (a ∷ as') h = (h.0, each_well_typed known as' h.1)

module _ (m : Module) (top : Option (List ℕ)) (s : IsAccepted m top) (known : GlobalEnv) (knows : Knows m top s known) (complete : IsComplete known) (typed : AreTyped known) (names : NamesHaveWidths known)
    (words : WordsThere) where
  pub well_typed_proc : (p : Proc) (parametric_args : List DslxValue) → IsThere m top s known p parametric_args → IsWellTypedProc known p parametric_args
  well_typed_proc p parametric_args h =
      let parts = parts_well_typed m top s known knows p parametric_args h.checked in
      record {
        own = h.own;
        found = parts.acts;
        words = words (proc_type_env known p parametric_args) (item_env known (parametric_args_bound [] p.parametrics parametric_args)) (well m top s known complete typed p parametric_args h) names [] p.members parts.members;
      }

  -- whatever such an instance places
  abbrev ScopesSuch : (Proc → List DslxValue → Type 0) → Elaboration → Type 0
  ScopesSuch Q place = (path : List ℕ) (p : Proc) (parametric_args : List DslxValue) (ends : List Held) (number : ℕ) → IsThere m top s known p parametric_args → EachElaborated Q (place path p parametric_args ends number).procs

  module _ (Q : Proc → List DslxValue → Type 0) (place : Elaboration) (such : ScopesSuch Q place) (p : Proc) (parametric_args : List DslxValue) (here : IsThere m top s known p parametric_args) (path : List ℕ) (held : List Held) where
    abbrev context : TypeEnv
    context = proc_type_env known p parametric_args

    abbrev env : Env
    env = item_env known (parametric_args_bound [] p.parametrics parametric_args)

    abbrev bound : List (List ℕ)
    bound = parametric_names p.parametrics

    one_spawned : (own : List ℕ) (made : Made) (sp : Spawn) (number : ℕ) → (spawn_found context made sp).faults ≡ [] → Listed m top s (spawn_found context made sp).reached
        → EachElaborated Q (spawned m known.items place own env held sp number).procs
    one_spawned own made sp number f r =
        let t = spawn_there m top s known knows complete typed p parametric_args (well m top s known complete typed p parametric_args here) made sp bound f r in
        let named = proc_named m sp.target.name t.target t.is in
        let elaborated : spawned m known.items place own env held sp number ≡ place own t.target t.parametric_args (handed_over t.target.config.ends (channels_of_ends held sp.ends)) number =
        (λ i. spawned_at place own held sp number (t.is i) (and_then (t.is i) (λ q. spawn_parametric_args known.items env q sp.arguments))) ∙ ap (spawned_at place own held sp number (Some t.target)) t.given in
        subst (λ (x : Family). EachElaborated Q x.procs) (sym elaborated)
        (such own t.target t.parametric_args (handed_over t.target.config.ends (channels_of_ends held sp.ends)) number
        (record { checked = record { named = named; among = one_of_these (record { name = t.target.name.name; parametric_args = t.parametric_args }) (all m top s) t.among }; own = t.own }))

    pub children_such : (made : Made) (ms : List ConfigStatement) (k number : ℕ) → (config_statements_found context made ms).faults ≡ [] → Listed m top s (config_statements_found context made ms).reached
        → EachElaborated Q (children m known.items place path env held ms k number).procs
    children_such made [] k number f r = tt
    children_such made (config_statement.Channel c ∷ ms) k number f r =
        let next = made_with context made c in
        let a = none_in (channel_found context made c).faults (config_statements_found context next ms).faults f in
        let b = all_in (λ i. is_reached i (all m top s)) (channel_found context made c).reached (config_statements_found context next ms).reached r in
        children_such next ms k number a.1 b.1
    children_such made (config_statement.Spawn sp ∷ ms) k number f r =
        let a = none_in (spawn_found context made sp).faults (config_statements_found context made ms).faults f in
        let b = all_in (λ i. is_reached i (all m top s)) (spawn_found context made sp).reached (config_statements_found context made ms).reached r in
        let first = spawned m known.items place (child_path path k) env held sp number in
        each_behind Q first.procs (children m known.items place path env held ms (suc k) (number + length first.chans)).procs
        (one_spawned (child_path path k) made sp number a.0 b.0) (children_such made ms (suc k) (number + length first.chans) a.1 b.1)

  -- by spawns of any number
  pub all_elaborated : (Q : Proc → List DslxValue → Type 0) → ((p : Proc) (parametric_args : List DslxValue) → IsThere m top s known p parametric_args → Q p parametric_args) → (n : ℕ) → ScopesSuch Q (elaborate_within m known.items n)
  all_elaborated Q each zero path p parametric_args ends number here = tt
  all_elaborated Q each (suc n) path p parametric_args ends number here =
      let context = proc_type_env known p parametric_args in
      let env = item_env known (parametric_args_bound [] p.parametrics parametric_args) in
      let parts = parts_well_typed m top s known knows p parametric_args here.checked in
      let start = made_at_start context p.config.ends in
      let made = config_statements_found context start p.config.config_statements in
      let outer = ends_found context [] p.config.ends in
      let a = none_in outer.faults (made.faults ++ _) parts.config in
      let b = all_in (λ i. is_reached i (all m top s)) outer.reached (made.reached ++ []) parts.listed in
      let own = made_chans path env p.config.config_statements in (
        each p parametric_args here,
        children_such Q (elaborate_within m known.items n) (all_elaborated Q each n) p parametric_args here path (ends ++ made_ends number p.config.config_statements) start p.config.config_statements 0 (number + length own)
            (none_in made.faults _ a.1).0 (all_in (λ i. is_reached i (all m top s)) made.reached [] b.1).0,
      )
