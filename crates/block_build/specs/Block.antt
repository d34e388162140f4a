-- A network of procs in hardware: a pipeline for each proc, a FIFO for each inner channel.
use Rattle.std.specs.Prelude.{◌≡◌, ℕ, false, List, [], map, slice_get, Some}
use Rattle.xb_bits.specs.Word.{Word}
use Rattle.net_core.specs.declared.net.Site.{Site}
use Rattle.net_core.specs.declared.net.Chan.{Chan}
use Rattle.net_core.specs.declared.net.Kind.TheVariants.{Output}
use Rattle.net_core.specs.Cuts.{Run, receiver}
use Rattle.block_stage.specs.Machine.Pipeline.{Pipeline, IsPipeline}

-- procs and channels by their numbers, and the depth of each inner channel's FIFO
pub record Block : Type 0 where
  pub pipelines : List Pipeline
  pub chans : List Chan
  pub depths : List ℕ

-- what its procs run, over these words of its inputs and with so many activations
abbrev pub run_of : Block → List (List Word) → ℕ → Run
run_of block inputs n = record {
  procs = map (λ (q : Pipeline). q.proc) block.pipelines;
  chans = block.chans;
  inputs = inputs;
  activations = n;
  depths = block.depths;
}

-- the proc that receives from a channel
abbrev pub receiver_of : Block → ℕ → ℕ
receiver_of block c = receiver (run_of block [] 0) c

-- its pipelines are legal, and its channels have a word for each receive: one proc receives from a channel, which is no
-- output
pub record IsBlock (block : Block) : Type 0 where
  pub legal : (p : ℕ) (q : Pipeline) → slice_get block.pipelines p ≡ Some q → IsPipeline q
  pub receivers : (p i : ℕ) (q : Pipeline) (site : Site) → slice_get block.pipelines p ≡ Some q → slice_get q.proc.behavior.sites i ≡ Some site
      → site.sends ≡ false → p ≡ receiver_of block site.chan
  pub sources : (p i : ℕ) (q : Pipeline) (site : Site) → slice_get block.pipelines p ≡ Some q → slice_get q.proc.behavior.sites i ≡ Some site
      → site.sends ≡ false → (chan : Chan) × (slice_get block.chans site.chan ≡ Some chan) × (chan.kind ≡ Output → ⊥)
