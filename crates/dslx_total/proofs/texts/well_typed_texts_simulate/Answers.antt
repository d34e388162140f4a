use Rattle.std.proofs.Common.{◌≡◌, List, [], ◌∷◌, Some, ap}
use Rattle.dslx_tree.specs.declared.item.Module.{Module}
use Rattle.dslx_meaning.specs.Activation.{activation_of, state_type_of}
use Rattle.dslx_meaning.specs.Environment.{Meanings}
use Rattle.dslx_meaning.specs.Items.{meanings_of}
use Rattle.dslx_meaning.specs.Network.{Elaborated}
use Rattle.dslx_meaning.specs.declared.ty.DslxType.{DslxType}
use Rattle.dslx_meaning.specs.Rules.TypeEnvs.{GlobalEnv}
use Rattle.dslx_core.specs.Behaviors.WellTypedNexts.{EachNextIsWellTyped}
use Rattle.dslx_core.specs.Typing.Activities.Members.{IsWellTypedNext}
use Rattle.dslx_total.specs.Texts.WellTypedTexts.{EachProcIsWellTyped, IsWellTypedProc}
use Rattle.dslx_total.proofs.texts.well_typed_texts_simulate.Goals as goal

nexts_well_typed : (m : Module) (known : GlobalEnv) → known.items ≡ meanings_of m
    → ((a : Elaborated) → IsWellTypedProc known a.proc a.parametric_args → (t : DslxType) → state_type_of known.items a.proc a.parametric_args ≡ Some t → IsWellTypedNext known a.proc a.parametric_args t)
    → (as' : List Elaborated) → EachProcIsWellTyped known as' → EachNextIsWellTyped m known as'
nexts_well_typed m known same next [] h = tt
nexts_well_typed m known same next (a ∷ as') h = (
  record {
    well_typed = next a h.0;
    state = ap (λ (x : Meanings). state_type_of x a.proc a.parametric_args) same;
    means = λ state words. ap (λ (x : Meanings). activation_of x a.proc a.parametric_args state words) same;
  },
  nexts_well_typed m known same next as' h.1,
)

pub returns : goal.returns
returns c m top design well_typed made ends =
    c.lower_preserves_designs.ensures m top design well_typed.own made ends (record {
      known = well_typed.known;
      nexts = λ p e. nexts_well_typed m well_typed.known well_typed.denoted
          (λ a k t is. c.well_typed_procs_have_well_typed_nexts.ensures well_typed.known well_typed.complete well_typed.typed a.proc a.parametric_args k.own k.found k.words t is) _ (well_typed.procs p e);
    })
