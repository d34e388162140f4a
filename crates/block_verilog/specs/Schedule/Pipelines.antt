-- The pipelines of procs that are scheduled, and the block of a package.
use Rattle.std.specs.Prelude.{ℕ, List, [], ◌∷◌, map, get_or}
use Rattle.block_stage.specs.Machine.Pipeline.{Pipeline}
use Rattle.ir_tree.specs.declared.node.Node.{Node}
use Rattle.ir_tree.specs.declared.node.Role.{Role}
use Rattle.ir_tree.specs.declared.node.Role.TheVariants as role
use Rattle.ir_tree.specs.declared.package.Channel.{Channel}
use Rattle.ir_tree.specs.declared.package.Package.{Package}
use Rattle.ir_tree.specs.declared.package.Proc.{Proc}
use Rattle.ir_tree.specs.Activations.{activation}
use Rattle.ir_tree.specs.Constants.{constant_value}
use Rattle.ir_tree.specs.Networks.{chan_of}
use Rattle.ir_tree.specs.NodeValues.{role_of}
use Rattle.ir_tree.specs.Types.{ty_of}
use Rattle.pipe_schedule.specs.Legal.{IsLegalAt, depth_of, turn_stage}
use Rattle.pipe_schedule.specs.Timed.{timed_nodes, timed_proc}
use Rattle.block_build.specs.Block.{Block}

-- a site stands in its node's stage
abbrev pub with_site : Role → ℕ → List ℕ → List ℕ
with_site role.Pure stage stages = stages
with_site (role.Receive predicate c) stage stages = stage ∷ stages
with_site (role.Send predicate c) stage stages = stage ∷ stages

-- the stages of the sites among nodes that stand in these
abbrev pub site_stages : List Node → List ℕ → List ℕ
site_stages [] stages = []
site_stages (n ∷ nodes) [] = []
site_stages (n ∷ nodes) (stage ∷ stages) = with_site (role_of n) stage (site_stages nodes stages)

-- a proc whose nodes stand in these stages
abbrev pub pipeline_of : List Channel → Proc → List ℕ → Pipeline
pipeline_of channels proc stages = record {
  proc = record { opening = constant_value (ty_of proc.state) proc.init; behavior = activation channels proc };
  stage = λ i. get_or (site_stages proc.nodes stages) i 0;
  stages = depth_of stages;
  last = turn_stage (timed_proc proc) stages;
}

-- all procs, with their schedules
abbrev pub pipelines_of : List Channel → List Proc → List (List ℕ) → List Pipeline
pipelines_of channels [] schedules = []
pipelines_of channels (proc ∷ procs) [] = []
pipelines_of channels (proc ∷ procs) (stages ∷ schedules) = pipeline_of channels proc stages ∷ pipelines_of channels procs schedules

-- a package, with the depths of its inner channels' FIFOs
abbrev pub block_of : Package → List (List ℕ) → List ℕ → Block
block_of ir schedules depths = record { pipelines = pipelines_of ir.channels ir.procs schedules; chans = map chan_of ir.channels; depths = depths }

-- each proc has a schedule that is legal at this clock
abbrev pub AreLegal : ℕ → List Proc → List (List ℕ) → Type 0
AreLegal clock [] [] = Unit {0}
AreLegal clock [] (stages ∷ schedules) = ⊥
AreLegal clock (proc ∷ procs) [] = ⊥
AreLegal clock (proc ∷ procs) (stages ∷ schedules) = IsLegalAt (timed_nodes proc) clock stages × AreLegal clock procs schedules
