-- Contracts of private parts.
use Rattle.std.specs.Prelude.{◌≡◌, ◌<◌, ◌^◌, ℕ, List, Option, Ok}
use Rattle.net_core.specs.Behavior.{Behavior}
use Rattle.net_core.specs.WellFormed.{AreBehaviorsOf, IsInputs, IsNet}
use Rattle.net_core.specs.declared.net.Inputs.{Inputs}
use Rattle.net_core.specs.declared.net.Net.{Net}
use Rattle.cmd_line.specs.declared.request.How.{How}
use Rattle.dslx_tree.specs.declared.item.Module.{Module}
use Rattle.dslx_core.specs.Designs.{core_behaviors, core_network}
use Rattle.dslx_core.specs.declared.design.Design.{Design}
use Rattle.dslx.specs.declared.count.size.NetworkSize.{NetworkSize}
use Rattle.dslx_elab.specs.Runs.{IsAcceptedText, IsMadeOfChecked, RunsText}
use Rattle.dslx.specs.Texts.{IsNetworkSize}
use Rattle.xls_cmd.specs.Design.Commands.{ReadsModule}
use Rattle.xls_cmd.specs.Design.Written.{depths_by, run_text}

-- the size of the network of the tree that a file reads as
pub record IsSizeRead (name : List ℕ) (top : Option (List ℕ)) (bytes : List ℕ) (size : NetworkSize) : Type 0 where
  pub tree : Module
  pub reads : ReadsModule name top bytes (Ok tree)
  pub is : IsNetworkSize tree top size

-- the checked text of the tree that a file reads as
pub record IsDesignRead (name : List ℕ) (top : Option (List ℕ)) (bytes : List ℕ) (design : Design) : Type 0 where
  pub tree : Module
  pub reads : ReadsModule name top bytes (Ok tree)
  pub accepted : IsAcceptedText tree top
  pub is : IsMadeOfChecked tree top design

-- a network and what its procs do, by which a design is run: the network is the design's, each run shows what the design's shows, and each accepted
-- text of which the design is made is run by them
pub record RunsDesign (design : Design) (net : Net) (behaviors : List Behavior) : Type 0 where
  pub network : net ≡ core_network design
  pub fits : IsNet net
  pub of_net : AreBehaviorsOf net behaviors
  pub shows : (inputs : Inputs) (how : How) → IsInputs net inputs.words → how.activations < 2 ^ 32
      → run_text net behaviors inputs how.activations (depths_by how.depth net) ≡ run_text (core_network design) (core_behaviors design) inputs how.activations (depths_by how.depth (core_network design))
  pub texts : (m : Module) (top : Option (List ℕ)) → IsAcceptedText m top → IsMadeOfChecked m top design → RunsText m top net behaviors
