-- What is written of a network, and of what its runs show.
use Rattle.std.specs.Prelude.{ℕ, List, Option, None, Some, ◌++◌, codes, decimal, length, map, max}
use Rattle.net_core.specs.Behavior.{Behavior}
use Rattle.net_core.specs.Cuts.{final_cut}
use Rattle.net_core.specs.Outcomes.{outcome_of}
use Rattle.net_core.specs.WellFormed.{run_of}
use Rattle.net_core.specs.declared.net.Net.{Net}
use Rattle.net_core.specs.declared.net.Chan.{Chan}
use Rattle.net_core.specs.declared.net.Kind.{Kind}
use Rattle.net_core.specs.declared.net.Kind.TheVariants.{Input, Output, Inner}
use Rattle.net_core.specs.declared.net.Inputs.{Inputs}
use Rattle.chan_file.specs.OutcomeText.{outcome_text}

-- the size of a network that was accepted
abbrev pub accepted_size : ℕ → ℕ → List ℕ
accepted_size procs channels = codes "ok procs " ++ decimal procs ++ codes " channels " ++ decimal channels ++ codes "\n"

abbrev pub accepted : Net → List ℕ
accepted net = accepted_size (length net.procs) (length net.chans)

-- the depth of a channel, 1 at least: where the arguments have one, that is the depth of inner channels
abbrev pub depth_by : Option ℕ → Kind → ℕ → ℕ
depth_by None kind depth = max depth 1
depth_by (Some d) Input depth = max depth 1
depth_by (Some d) Output depth = max depth 1
depth_by (Some d) Inner depth = max d 1

-- the depth that each channel has
abbrev pub depths_by : Option ℕ → Net → List ℕ
depths_by arguments net = map (λ (chan : Chan). depth_by arguments chan.kind chan.depth) net.chans

-- the outcome of the final cut of a network whose procs do this, with these words on its inputs
abbrev pub run_text : Net → List Behavior → Inputs → ℕ → List ℕ → List ℕ
run_text net behaviors inputs activations depths =
    outcome_text net (outcome_of (run_of net behaviors inputs.words activations depths) (final_cut (run_of net behaviors inputs.words activations depths)))
