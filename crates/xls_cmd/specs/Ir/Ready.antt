-- What a run of a package is made of, and what it shows.
use Rattle.std.specs.Prelude.{◌≡◌, ℕ, List}
use Rattle.net_core.specs.WellFormed.{IsInputs}
use Rattle.cmd_line.specs.declared.request.How.{How}
use Rattle.ir_tree.specs.Networks.{behaviors_of, network_of}
use Rattle.ir_tree.specs.Rules.Verified.{IsVerified}
use Rattle.xls_cmd.specs.Design.Written.{depths_by, run_text}
use Rattle.xls_cmd.specs.declared.ir.run.RunnablePackage.{RunnablePackage}

-- It can run.
pub record IsReady (ready : RunnablePackage) : Type 0 where
  pub verified : IsVerified ready.ir
  pub network : ready.net ≡ network_of ready.ir
  pub inputs : IsInputs ready.net ready.inputs.words

-- what the run shows
abbrev pub shown : How → RunnablePackage → List ℕ
shown how ready = run_text ready.net (behaviors_of ready.ir) ready.inputs how.activations (depths_by how.depth ready.net)
