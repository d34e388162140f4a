-- What a pipeline's ports have for its sites: a pipeline that is always fed, and whose words are always taken.
use Rattle.std.specs.Prelude.{◌≡◌, ℕ, true, false, List, [], ◌∷◌, slice_get, Some}
use Rattle.xb_bits.specs.Word.{Word}
use Rattle.xb_value.specs.declared.value.Value.{Value}
use Rattle.net_core.specs.declared.net.Site.{Site}
use Rattle.net_core.specs.Behavior.{Give}
use Rattle.block_stage.specs.Machine.Pipeline.{Pipeline}
use Rattle.block_stage.specs.Machine.Cycle.{Ports}

-- a site's partner is there: at one that receives a word, at one that sends room for one
pub record IsMet (site : Site) (ports : Ports) : Type 0 where
  pub word : site.sends ≡ false → (w : Word) × (ports.valid_word site.chan ≡ Some w)
  pub room : site.sends ≡ true → ports.room site.chan ≡ true

-- those of all sites of a stage are there
abbrev pub IsStageMet : Pipeline → ℕ → Ports → Type 0
IsStageMet q j ports = (i : ℕ) (site : Site) → slice_get q.proc.behavior.sites i ≡ Some site → q.stage i ≡ j → IsMet site ports

-- at each of the proc's own ends
abbrev pub IsFed : Pipeline → Ports → Type 0
IsFed q ports = (i : ℕ) (site : Site) → slice_get q.proc.behavior.sites i ≡ Some site → IsMet site ports

abbrev pub AreFed : Pipeline → List Ports → Type 0
AreFed q [] = Unit {0}
AreFed q (ports ∷ more) = IsFed q ports × AreFed q more

-- each activation sends one word on a channel, at this site
pub record SendsOnce (q : Pipeline) (chan place : ℕ) : Type 0 where
  pub site : Site
  pub here : slice_get q.proc.behavior.sites place ≡ Some site
  pub chan_is : site.chan ≡ chan
  pub on : (s : Value) (got : List Word) → (w : Word) × (q.proc.behavior.turn s got place ≡ Give w)
  pub alone : (k : ℕ) (other : Site) → slice_get q.proc.behavior.sites k ≡ Some other → other.sends ≡ true → other.chan ≡ chan → k ≡ place
