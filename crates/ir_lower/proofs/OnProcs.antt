-- Procs that do the same.
use Rattle.std.proofs.Common.{◌≡◌, ℕ, ◌+◌, ◌≤◌, List, ◌∷◌, length, sym, ap, subst, ◌∙◌, arith, []}
use Rattle.std.specs.Prelude.{slice_get, unwrap_or}
use Rattle.std.proofs.lemmas.List.{take_all}
use Rattle.net_core.specs.Behavior.{Behavior}
use Rattle.ir_tree.specs.declared.package.Channel.{Channel}
use Rattle.ir_tree.specs.declared.package.Proc.{Proc}
use Rattle.ir_tree.specs.Activations.{activation, sites_of}
use Rattle.ir_tree.specs.SameBehavior.{SameActivations}
use Rattle.dslx_meaning.specs.Activation.{turn_at}
use Rattle.dslx_meaning.specs.Network.{width_of_chan}
use Rattle.dslx_core.specs.CoreValues.{Functions}
use Rattle.dslx_core.specs.Designs.{CoreElaborated, core_activation, core_behavior, core_chans, functions_from, functions_of, no_function, sites_of_steps, token}
use Rattle.dslx_core.specs.declared.design.Design.{Design}
use Rattle.dslx_core.specs.Types.Designs.{no_types, types_from}
use Rattle.ir_lower_nodes.specs.Exprs.Calls.{AreNodeFunctions, calls_below, types_below}
use Rattle.ir_lower_nodes.specs.Acts.Activities.{word_width}
use Rattle.ir_lower_nodes.specs.Acts.InstanceActivities.{instance_behavior}
use Rattle.ir_lower_nodes.specs.Procs.Instances.{next_node_type}
use Rattle.ir_lower.specs.declared.types.signature.Signature.{Signature}
use Rattle.ir_lower.specs.Types.Signatures.{call_types, signatures_of}
use Rattle.ir_lower.specs.Types.Words.{word_at}
use Rattle.ir_lower_nodes.specs.Steps.Steps.{MembersCarryWords}
use Rattle.ir_lower.specs.Inner.Made.{IsLoweredProc}
use Rattle.net_core.specs.declared.net.Chan.{Chan}

-- an instance over other channels that have the same sites does what the proc of the network does
as_core : (design : Design) (pe : CoreElaborated) (calls : Functions) (members : List ℕ) → calls ≡ functions_of design → sites_of_steps members pe.instance.steps ≡ sites_of_steps pe.channels pe.instance.steps
    → instance_behavior calls (width_of_chan (core_chans design)) members pe.instance ≡ core_behavior design pe
as_core design pe calls members c s = λ j. record {
  state = pe.instance.state;
  sites = s j;
  width = width_of_chan (core_chans design);
  turn = λ state words k. turn_at (slice_get (core_activation (c j) pe.instance state words).turns k);
  next_state = λ state words. unwrap_or (core_activation (c j) pe.instance state words).last token;
}

sites_there : (channels : List Channel) (p : Proc) (a : Behavior) → SameActivations a (activation channels p) → a.sites ≡ sites_of p.nodes
unfolding activation
sites_there channels p a h = h.sites

module _ (signatures : List Signature) (design : Design) where
  abbrev count : ℕ
  count = length (signatures_of signatures) + length design.functions

  calls_all : calls_below count design.functions ≡ functions_of design
  calls_all =
      let all : length design.functions ≤ count = omega arith in
      ap (λ fs. functions_from 0 fs no_function) (take_all count design.functions all)

  types_all : types_below count (signatures_of signatures) ≡ call_types signatures
  types_all =
      let all : length (signatures_of signatures) ≤ count = omega arith in
      ap (λ ss. types_from 0 ss no_types) (take_all count (signatures_of signatures) all)

  -- what an IR proc that is lowered does is what the network's proc does, where both have the same sites
  pub does_same : AreNodeFunctions (signatures_of signatures) design.functions → (channels : List Channel) (chans : List Chan) (pe : CoreElaborated) (p : Proc) (lowered : IsLoweredProc signatures design.functions chans pe.instance p)
      → MembersCarryWords channels lowered.members (word_at lowered.words) → ((c : ℕ) → width_of_chan (core_chans design) c ≡ word_width channels c) → sites_of_steps pe.channels pe.instance.steps ≡ sites_of p.nodes
      → SameActivations (core_behavior design pe) (activation channels p)
  does_same signed channels chans pe p lowered carry widths sites =
      let same = lowered.lowers (signatures_of signatures) count signed channels (word_at lowered.words) carry lowered.typed.state
      (ap (λ calls. next_node_type calls (word_at lowered.words) pe.instance.steps pe.instance.next (pe.instance.state ∷ [])) types_all ∙ lowered.typed.next)
      (width_of_chan (core_chans design)) widths in
      subst (λ a. SameActivations a (activation channels p))
      (as_core design pe (calls_below count design.functions) lowered.members calls_all (sites_there channels p (instance_behavior (calls_below count design.functions) (width_of_chan (core_chans design)) lowered.members pe.instance) same ∙ sym sites))
      same
