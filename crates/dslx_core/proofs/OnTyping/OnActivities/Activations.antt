-- An activation from a state.
use Rattle.std.proofs.Common.{◌≡◌, true, List, [], ◌∷◌, length, Some, refl, sym, subst}
use Rattle.xb_bits.specs.Word.{Word}
use Rattle.xb_value.specs.declared.value.Value.{Value}
use Rattle.dslx_tree.specs.declared.process.Proc.{Proc}
use Rattle.dslx_meaning.specs.Activation.{SiteEnv, activation_of, activity_from, site_names}
use Rattle.dslx_meaning.specs.Environment.{Env, bind}
use Rattle.dslx_meaning.specs.Values.{at_type}
use Rattle.dslx_meaning.specs.declared.ty.DslxType.{DslxType}
use Rattle.dslx_meaning.specs.declared.value.DslxValue.{DslxValue}
use Rattle.dslx_meaning.specs.Rules.TypeEnvs.{GlobalEnv, TypeEnv, with_typed}
use Rattle.dslx_core.specs.Typing.Typed.Kinds.{is_of}
use Rattle.dslx_core.specs.Typing.Typed.WellTyped.{IsWellTypedEnv}
use Rattle.dslx_core.proofs.Lemmas.Typing.Typed.{bound_keeps}
use Rattle.dslx_core.specs.Typing.Activities.ActivityGoesOn.{ActivityGoesOn}
use Rattle.dslx_core.specs.Typing.Activities.Members.{IsWellTypedNext, ProcMembersHaveValues, inner_env, inner_type_env}
use Rattle.dslx_core.proofs.OnTyping.OnActivities.Statements.{body_goes}

pub activation_goes : (known : GlobalEnv) (p : Proc) (parametric_args : List DslxValue) (t : DslxType) → IsWellTypedNext known p parametric_args t → (state : Value) → is_of t (at_type t state) ≡ true
    → (words : List Word) → ActivityGoesOn t (length (site_names p)) words (activation_of known.items p parametric_args state words)
activation_goes known p parametric_args t h state of words =
    subst (λ o. ActivityGoesOn t (length (site_names p)) words (activity_from known.items p parametric_args state words o)) (sym h.state)
    (body_goes t site p.next.body inside (bind p.next.state.name (at_type t state) env) typed members h.declared h.body words)
  where
    env : Env
    env = inner_env known p parametric_args

    site : SiteEnv
    site = record { members = p.members; env = env }

    inside : TypeEnv
    inside = with_typed (inner_type_env known p parametric_args) (record { name = p.next.state.name; ty = Some t } ∷ [])

    typed : IsWellTypedEnv inside (bind p.next.state.name (at_type t state) env)
    typed = bound_keeps (inner_type_env known p parametric_args) [] env p.next.state.name t (at_type t state) h.typed (record { value = at_type t state; is = refl; of = of; declared = h.declared }) h.name

    members : ProcMembersHaveValues inside site
    members name o e = let m = h.members name o e in record { word = m.word; typed = m.typed; means = m.means; declared = m.declared; holds = m.holds }
