-- Networks with what their procs do, as they are run for a text.
use Rattle.std.specs.Prelude.{◌≡◌, ◌<◌, ◌^◌, ℕ, List, Option, None}
use Rattle.xb_bits.specs.Word.{Word}
use Rattle.net_core.specs.Behavior.{Behavior}
use Rattle.net_core.specs.Cuts.{final_cut}
use Rattle.net_core.specs.Outcomes.{outcome_of}
use Rattle.net_core.specs.WellFormed.{AreBehaviorsOf, EachKeepsTypes, IsInputs, IsNet, run_of}
use Rattle.net_core.specs.declared.net.Net.{Net}
use Rattle.dslx_tree.specs.declared.item.Module.{Module}
use Rattle.dslx_meaning.specs.Network.{behaviors_of, network_of}
use Rattle.dslx_meaning.specs.Rules.NetworkLimits.{refusal_of}
use Rattle.dslx_core.specs.CoreOf.{EachBehavesAlike}
use Rattle.dslx_core.specs.Networks.Assembly.{IsDesignFrom}
use Rattle.dslx_core.specs.declared.design.Design.{Design}
use Rattle.dslx_total.specs.Instances.Checked.{AreOfChecked}
use Rattle.dslx_total.specs.Nets.Slashes.{EndsHaveNoSlash}

-- a text that isn't refused
pub record IsAcceptedText (m : Module) (top : Option (List ℕ)) : Type 0 where
  pub slashes : EndsHaveNoSlash m top
  pub none : refusal_of m top ≡ None

-- a network and what its procs do, by which a text is run: the network is the text's, and from each state of its type each proc does what the
-- text's does. So for all inputs, numbers of activations and depths a run of it has the outcome of the text's run
pub record RunsText (m : Module) (top : Option (List ℕ)) (net : Net) (behaviors : List Behavior) : Type 0 where
  pub network : net ≡ network_of m top
  pub alike : EachBehavesAlike behaviors (behaviors_of m top)
  pub fits : IsNet net
  pub of_net : AreBehaviorsOf net behaviors
  pub keep : EachKeepsTypes behaviors
  pub outcomes : (inputs : List (List Word)) (n : ℕ) (depths : List ℕ) → IsInputs net inputs → n < 2 ^ 32
      → outcome_of (run_of (network_of m top) (behaviors_of m top) inputs n depths) (final_cut (run_of (network_of m top) (behaviors_of m top) inputs n depths))
      ≡ outcome_of (run_of net behaviors inputs n depths) (final_cut (run_of net behaviors inputs n depths))

-- a checked text that is made of this text's instances, those of functions that are checked
pub record IsMadeOfChecked (m : Module) (top : Option (List ℕ)) (design : Design) : Type 0 where
  pub made : IsDesignFrom m top design
  pub checked : AreOfChecked m top made.named_functions

-- a checked text that is made of the instances of an accepted text, those of functions that are checked
pub record IsOfAccepted (design : Design) : Type 0 where
  pub text : Module
  pub top : Option (List ℕ)
  pub accepted : IsAcceptedText text top
  pub made : IsDesignFrom text top design
  pub checked : AreOfChecked text top made.named_functions
