-- What a run of a design is made of, and what it shows.
use Rattle.std.specs.Prelude.{ℕ, List}
use Rattle.net_core.specs.WellFormed.{IsInputs}
use Rattle.cmd_line.specs.declared.request.How.{How}
use Rattle.dslx_core.specs.Designs.{core_behaviors, core_network}
use Rattle.dslx_elab.specs.Runs.{IsOfAccepted}
use Rattle.xls_cmd.specs.Design.Written.{depths_by, run_text}
use Rattle.xls_cmd.specs.declared.design.run.RunnableDesign.{RunnableDesign}

-- It can run.
pub record IsReady (ready : RunnableDesign) : Type 0 where
  pub design : IsOfAccepted ready.design
  pub inputs : IsInputs (core_network ready.design) ready.inputs.words

-- what the run shows
abbrev pub shown : How → RunnableDesign → List ℕ
shown how ready = run_text (core_network ready.design) (core_behaviors ready.design) ready.inputs how.activations (depths_by how.depth (core_network ready.design))
