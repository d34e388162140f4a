-- A block of which each input always has a valid word, and each output is always ready.
use Rattle.std.specs.Prelude.{◌≡◌, ℕ, true, List, [], ◌∷◌, slice_get, if◌then◌else◌, Some}
use Rattle.xb_bits.specs.Word.{Word}
use Rattle.net_core.specs.declared.net.Site.{Site}
use Rattle.net_core.specs.declared.net.Chan.{Chan}
use Rattle.net_core.specs.declared.net.Kind.TheVariants.{Input, Output}
use Rattle.block_stage.specs.Machine.Pipeline.{Pipeline}
use Rattle.block_stage.specs.Machine.Cycle.{Ports}
use Rattle.block_build.specs.Block.{Block}

-- a pipeline has no inner channel: it receives from inputs and sends on outputs
abbrev pub IsOuter : Block → Pipeline → Type 0
IsOuter block q = (i : ℕ) (site : Site) → slice_get q.proc.behavior.sites i ≡ Some site
    → (chan : Chan) × (slice_get block.chans site.chan ≡ Some chan) × (chan.kind ≡ (if site.sends then Output else Input))

-- in a row
pub record IsRowFed (block : Block) (row : Ports) : Type 0 where
  pub offers : (c : ℕ) (chan : Chan) → slice_get block.chans c ≡ Some chan → chan.kind ≡ Input → (w : Word) × (row.valid_word c ≡ Some w)
  pub ready : (c : ℕ) (chan : Chan) → slice_get block.chans c ≡ Some chan → chan.kind ≡ Output → row.room c ≡ true

abbrev pub AreRowsFed : Block → List Ports → Type 0
AreRowsFed block [] = Unit {0}
AreRowsFed block (row ∷ rows) = IsRowFed block row × AreRowsFed block rows
