-- The ends of the top proc's `config` become outer channels.
use Rattle.std.proofs.Common.{◌≡◌, ◌++◌, ℕ, Bool, true, List, [], ◌∷◌, map, Option, Some, refl, ap, ◌∙◌}
use Rattle.std.specs.List.{list_all}
use Rattle.dslx_tree.specs.declared.item.Module.{Module}
use Rattle.dslx_tree.specs.declared.process.End.{End}
use Rattle.dslx_tree.specs.declared.process.Proc.{Proc}
use Rattle.dslx_meaning.specs.Items.{parametric_args_bound}
use Rattle.dslx_meaning.specs.Lists.{all_some, and_then}
use Rattle.dslx_meaning.specs.Network.{kind_of_end, top_parametric_args, top_proc}
use Rattle.dslx_meaning.specs.Types.{plain_type}
use Rattle.dslx_meaning.specs.declared.value.DslxValue.{DslxValue}
use Rattle.dslx_meaning.specs.Rules.TypeEnvs.{Instance, GlobalEnv}
use Rattle.dslx_meaning.specs.Rules.Mentions.{ends_mentions, parametric_names}
use Rattle.dslx_meaning.specs.Rules.ModuleRules.{is_reached}
use Rattle.dslx_meaning.specs.Rules.NameRules.{local_name}
use Rattle.dslx_meaning.specs.Rules.ProcRules.{channel_type, ends_found, made_at_end, made_at_start, config_statements_found, proc_type_env, unknown_ends, use_faults}
use Rattle.dslx_core.proofs.Lemmas.Typing.TypingRelations.{found_ends}
use Rattle.dslx_core.specs.declared.design.Outer.{Outer}
use Rattle.dslx_core.proofs.Lemmas.Typing.Sound.{all_in, none_in}
use Rattle.dslx_core.specs.Typing.Typed.Complete.{IsComplete}
use Rattle.dslx_core.specs.Typing.Typed.WellTyped.{IsWellTypedEnv}
use Rattle.dslx_core.proofs.Lemmas.Typing.Typed.{all_are}
use Rattle.dslx_core.specs.Typing.Complete.HasValue.{AreTyped}
use Rattle.dslx_core.proofs.Lemmas.Typing.Complete.{item_env}
use Rattle.dslx_core.proofs.Lemmas.Typing.Accepted.{IsAccepted, one_of_these}
use Rattle.dslx_core.specs.Networks.Configs.{config_scope}
use Rattle.dslx_core.specs.Networks.Assembly.{lower_outer}
use Rattle.dslx_total.proofs.OnFamilies.Acts.{parts_well_typed}
use Rattle.dslx_total.proofs.OnFamilies.Knows.{Knows, all_sound}
use Rattle.dslx_total.proofs.OnFamilies.Reached.{Passing, all, ends_none}
use Rattle.dslx_total.proofs.OnFamilies.There.{IsThere, well}
use Rattle.dslx_total.proofs.OnFamilies.Tops.{top_there}
use Rattle.dslx_total.specs.Configs.LowersTotally.{TopLowers}
use Rattle.dslx_total.proofs.OnConfigs.Texts.{TypesAreWritten, none_made, word_there}

-- ends with which nothing is wrong, and which reach sound instances
each_outer : TypesAreWritten → (known : GlobalEnv) (p : Proc) (parametric_args : List DslxValue) → IsWellTypedEnv (proc_type_env known p parametric_args) (item_env known (parametric_args_bound [] p.parametrics parametric_args)) → (before : List (List ℕ)) (es : List End)
    → (ends_found (proc_type_env known p parametric_args) before es).faults ≡ [] → list_all known.is_sound (ends_found (proc_type_env known p parametric_args) before es).reached ≡ true
    → (os : List Outer) × (map (lower_outer (config_scope known.items p parametric_args)) es ≡ map Some os)
each_outer written known p parametric_args h before [] f r = ([], refl)
each_outer written known p parametric_args h before (e ∷ es) f r =
    let context = proc_type_env known p parametric_args in
    let word = channel_type context e.word in
    let rest = ends_found context (e.name.name ∷ before) es in
    let a = none_in word.faults rest.faults (none_in (local_name context before e.name) (word.faults ++ rest.faults) f).1 in
    let b = all_in known.is_sound word.reached rest.reached r in
    let t = word_there known p parametric_args none_made h written e.word a.0 b.0 in
    let others = each_outer written known p parametric_args h (e.name.name ∷ before) es a.1 b.1 in
    let first : Outer = record { name = e.name.name; ty = plain_type t.ty; kind = kind_of_end e.direction } in
    (first ∷ others.0, (λ i. and_then (t.is i) (λ u. Some (record { name = e.name.name; ty = plain_type u; kind = kind_of_end e.direction })) ∷ others.1 i))

module _ (m : Module) (top : Option (List ℕ)) (s : IsAccepted m top) (known : GlobalEnv) (knows : Knows m top s known) (complete : IsComplete known) (typed : AreTyped known) (written : TypesAreWritten) where
  abbrev test : Instance → Bool
  test i = is_reached i (all m top s)

  pub top_lowers_to : (p : Proc) → top_proc m top ≡ Some p → TopLowers m known.items top p
  top_lowers_to p e =
      let t = top_there m top s known knows complete typed p e in
      let parametric_args = top_parametric_args known.items p in
      let there : IsThere m top s known p parametric_args = record { checked = record { named = t.named; among = one_of_these (record { name = p.name.name; parametric_args = parametric_args }) (all m top s) t.among }; own = t.own } in
      let context = proc_type_env known p parametric_args in
      let parts = parts_well_typed m top s known knows p parametric_args there.checked in
      let start = made_at_start context p.config.ends in
      let end = made_at_end context start p.config.config_statements in
      let made = config_statements_found context start p.config.config_statements in
      let outer = ends_found context [] p.config.ends in
      let f = (none_in outer.faults (made.faults ++ (unknown_ends end.names p.config.result ++ use_faults context p end)) parts.config).0 in
      let r = (all_in test outer.reached (made.reached ++ []) parts.listed).0 in
      let bound = parametric_names p.parametrics in
      let named = found_ends (Passing m top s) context [] p.config.ends bound (knows.reaching context.owner (ends_mentions p.config.ends bound) (ends_none p.config.ends bound)) in
      let os = each_outer written known p parametric_args (well m top s known complete typed p parametric_args there) [] p.config.ends f (all_sound m top s known knows outer.reached named r) in
      record {
        checked = record { named = t.named; checked = t.among };
        outer = os.0;
        outers = ap all_some os.1 ∙ all_are os.0;
      }
