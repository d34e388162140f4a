use Rattle.std.proofs.Common.{◌≡◌, ℕ, List, map, Option, Some, None, refl, sym, ap, subst, ◌∙◌}
use Rattle.std.specs.Prelude.{slice_get}
use Rattle.std.proofs.lemmas.List.{length-map}
use Rattle.net_core.specs.Behavior.{Behavior}
use Rattle.net_core.specs.WellFormed.{AreBehaviorsOf, IsBehaviorFor}
use Rattle.net_core.specs.declared.net.Chan.{Chan}
use Rattle.net_core.specs.declared.net.Net.{Net}
use Rattle.net_core.specs.declared.net.ProcHead.{ProcHead}
use Rattle.dslx_tree.specs.declared.item.Module.{Module}
use Rattle.dslx_tree.specs.declared.process.Proc.{Proc}
use Rattle.dslx_meaning.specs.Items.{meanings_of}
use Rattle.dslx_meaning.specs.Network.{behavior_at, behaviors_if, chans_of_top, family_of, head_at, net_if, top_proc, width_of_chan}
use Rattle.dslx_core.proofs.Lemmas.Typing.Typed.{same_some}
use Rattle.dslx_core.specs.Designs.{core_behavior, core_chans, core_family, core_head}
use Rattle.dslx_total.proofs.OnNets.Facts.{map_there, width_there}
use Rattle.dslx_total.proofs.nets.behaviors_are_of_their_networks.Goals as goal

-- heads and behaviors of the same procs
of_procs : {A : Type 0} (name : List ℕ) (chans : List Chan) (head : A → ProcHead) (does : A → Behavior)
    → ((a : A) → ((does a).state ≡ (head a).state) × ((does a).sites ≡ (head a).sites) × ((does a).width ≡ width_of_chan chans)) → (as' : List A)
    → AreBehaviorsOf (record { name = name; procs = map head as'; chans = chans }) (map does as')
of_procs {A} name chans head does same as' = record {
  count = length-map as' does ∙ sym (length-map as' head);
  each = each;
}
  where
    net : Net
    net = record { name = name; procs = map head as'; chans = chans }

    one : (a : A) → IsBehaviorFor net (head a) (does a)
    one a = record {
      state = (same a).0;
      sites = (same a).1;
      widths = λ i site chan e f. ap (λ (w : ℕ → ℕ). w site.chan) (same a).2 ∙ width_there chans site.chan chan f;
    }

    each : (q : ℕ) (h : ProcHead) (b : Behavior) → slice_get (map head as') q ≡ Some h → slice_get (map does as') q ≡ Some b → IsBehaviorFor net h b
    each q h b e f =
        let x = map_there head as' q h e in
        let y = map_there does as' q b f in
        let here : x.0 ≡ y.0 = same_some x.0 y.0 (sym x.1 ∙ y.1) in
        subst (λ u. IsBehaviorFor net u b) x.2 (subst (λ u. IsBehaviorFor net (head x.0) u) (ap does here ∙ y.2) (one x.0))

of_top : (m : Module) (o : Option Proc) → AreBehaviorsOf (net_if m o) (behaviors_if m o)
of_top m None = record { count = refl; each = λ q h b e f. absurd (cc) }
of_top m (Some p) = of_procs p.name.name (chans_of_top m p) (head_at (meanings_of m)) (behavior_at (meanings_of m) (chans_of_top m p)) (λ a. (refl, refl, refl)) (family_of m p).procs

pub returns-clause-texts : goal.returns-clause-texts
returns-clause-texts c = λ m top. of_top m (top_proc m top)

pub returns-clause-designs : goal.returns-clause-designs
returns-clause-designs c = λ design. of_procs design.name (core_chans design) core_head (core_behavior design) (λ a. (refl, refl, refl)) (core_family design).procs
