-- The package as a whole.
use Rattle.std.proofs.Common.{◌≡◌, ℕ, List, map, length, Some, sym, ap, subst, ◌∙◌}
use Rattle.std.specs.Prelude.{slice_get}
use Rattle.std.proofs.lemmas.List.{length-map}
use Rattle.net_core.specs.Behavior.{Behavior}
use Rattle.net_core.specs.declared.net.Net.{Net}
use Rattle.net_core.specs.declared.net.ProcHead.{ProcHead}
use Rattle.ir_tree.specs.declared.package.Package.{Package}
use Rattle.ir_tree.specs.declared.package.Proc.{Proc}
use Rattle.ir_tree.specs.Activations.{activation, sites_of}
use Rattle.ir_tree.specs.Networks.{behaviors_of, chan_of, head_of, network_of}
use Rattle.ir_tree.specs.SameBehavior.{SameActivations}
use Rattle.ir_tree.specs.Rules.Verified.{IsVerified}
use Rattle.ir_tree.proofs.Lemmas.Rules.Typed.{verified_proc}
use Rattle.dslx_meaning.specs.Network.{width_of_chan}
use Rattle.dslx_core.specs.Designs.{CoreElaborated, core_behavior, core_behaviors, core_chans, core_family, core_head, core_network, sites_of_steps}
use Rattle.dslx_core.specs.declared.design.Design.{Design}
use Rattle.dslx_interp.specs.Network.Bodies.{own_instance}
use Rattle.ir_lower_nodes.specs.Acts.Activities.{word_width}
use Rattle.ir_lower.specs.Inner.Made.{IsLoweredAt, IsLoweredProc, IsPackageOf}
use Rattle.ir_lower.specs.Lowered.{IsLoweringOf}
use Rattle.ir_lower.proofs.OnLists.{comes_of, mapped_there, some_same}
use Rattle.ir_lower.proofs.OnProcs.{does_same}
use Rattle.ir_lower.proofs.OnWords.{carry, widths_same}

module _ (design : Design) (instances : List ℕ) (ir : Package) (network : core_network design ≡ network_of ir) (verified : IsVerified ir)
    (made : IsPackageOf design (core_chans design) instances ir) (own : map (slice_get design.procs) instances ≡ map own_instance (core_family design).procs) where
  chans_are : core_chans design ≡ map chan_of ir.channels
  chans_are = ap (λ (n : Net). n.chans) network

  heads_are : map core_head (core_family design).procs ≡ map head_of ir.procs
  heads_are = ap (λ (n : Net). n.procs) network

  widths_are : (c : ℕ) → width_of_chan (core_chans design) c ≡ word_width ir.channels c
  widths_are c = ap (λ chans. width_of_chan chans c) chans_are ∙ widths_same ir.channels c

  -- the instance of a proc of the network is that of which its IR proc is made
  instance_is : (k : ℕ) (pe : CoreElaborated) (p : Proc) → slice_get (core_family design).procs k ≡ Some pe → (at : IsLoweredAt made.signatures design (core_chans design) instances k p) → at.instance ≡ pe.instance
  instance_is k pe p there at =
      some_same at.instance pe.instance
      (sym at.there
      ∙ some_same (slice_get design.procs at.number) (Some pe.instance)
      (sym (mapped_there (slice_get design.procs) instances k at.number at.is) ∙ (ap (λ is. slice_get is k) own ∙ mapped_there own_instance (core_family design).procs k pe there)))

  sites_are : (k : ℕ) (pe : CoreElaborated) (p : Proc) → slice_get (core_family design).procs k ≡ Some pe → slice_get ir.procs k ≡ Some p → sites_of_steps pe.channels pe.instance.steps ≡ sites_of p.nodes
  sites_are k pe p there own_there =
      ap (λ (h : ProcHead). h.sites)
      (some_same (core_head pe) (head_of p) (sym (mapped_there core_head (core_family design).procs k pe there) ∙ (ap (λ hs. slice_get hs k) heads_are ∙ mapped_there head_of ir.procs k p own_there)))

  same_at : (k : ℕ) (pe : CoreElaborated) (p : Proc) → slice_get (core_family design).procs k ≡ Some pe → slice_get ir.procs k ≡ Some p → SameActivations (core_behavior design pe) (activation ir.channels p)
  same_at k pe p there own_there =
      let at = made.procs k p own_there in
      let lowered = subst (λ i. IsLoweredProc made.signatures design.functions (core_chans design) i p) (instance_is k pe p there at) at.lowered in
      does_same made.signatures design made.signed ir.channels (core_chans design) pe p lowered
      (carry ir.channels (core_chans design) made.channels chans_are (verified_proc ir verified k p own_there).word_types lowered.members lowered.words lowered.types)
      widths_are (sites_are k pe p there own_there)

  each_same : (k : ℕ) (a b : Behavior) → slice_get (core_behaviors design) k ≡ Some a → slice_get (behaviors_of ir) k ≡ Some b → SameActivations a b
  each_same k a b here there =
      let first = comes_of (core_behavior design) (core_family design).procs k a here in
      let second = comes_of (activation ir.channels) ir.procs k b there in
      subst (λ x. SameActivations x b) first.is (subst (λ y. SameActivations (core_behavior design first.from) y) second.is (same_at k first.from second.from first.there second.there))

  count_is : length (core_behaviors design) ≡ length (behaviors_of ir)
  count_is =
      length-map (core_family design).procs (core_behavior design)
      ∙ (sym (length-map (core_family design).procs core_head) ∙ (ap length heads_are ∙ (length-map ir.procs head_of ∙ sym (length-map ir.procs (activation ir.channels)))))

  pub whole : IsLoweringOf design ir
  whole = record { verified = verified; same = record { network = network; activations = record { count = count_is; each = each_same } } }

-- the same, where the network is said by another one
pub whole_by : (design : Design) (net : Net) (instances : List ℕ) (ir : Package) → net ≡ core_network design → net ≡ network_of ir → IsVerified ir → IsPackageOf design net.chans instances ir
    → map (slice_get design.procs) instances ≡ map own_instance (core_family design).procs → IsLoweringOf design ir
whole_by design net instances ir is own verified made numbers =
    whole design instances ir (sym is ∙ own) verified (subst (λ (n : Net). IsPackageOf design n.chans instances ir) is made) numbers
