-- A proc cut into stages, as a schedule says.
use Rattle.std.specs.Prelude.{◌≡◌, ℕ, zero, suc, ◌<◌, ◌≤◌, false, List, length, slice_get, Some, nat_lt, if◌then◌else◌}
use Rattle.xb_bits.specs.Word.{Word}
use Rattle.xb_value.specs.declared.value.Value.{Value}
use Rattle.net_core.specs.declared.net.Site.{Site}
use Rattle.net_core.specs.Behavior.{IsInDirection}
use Rattle.net_core.specs.Cuts.{Proc}

-- a proc, the stage of each of its sites, how many stages there are, and the stage at whose end an activation gives
-- the turn to the next one, together with the next state
pub record Pipeline : Type 0 where
  pub proc : Proc
  pub stage : ℕ → ℕ
  pub stages : ℕ
  pub last : ℕ

-- of so many sites, how many stand before stage j
abbrev pub count_before : (ℕ → ℕ) → ℕ → ℕ → ℕ
count_before stage j zero = 0
count_before stage j (suc n) = if nat_lt (stage n) j then suc (count_before stage j n) else count_before stage j n

-- the index of the first site in stage j or behind it: stage j has the indices from first j to before first (j + 1)
unfoldable pub first : Pipeline → ℕ → ℕ
first q j = count_before q.stage j (length q.proc.behavior.sites)

-- two sites at one end of one channel
pub record IsSameEnd (site other : Site) : Type 0 where
  pub chan : site.chan ≡ other.chan
  pub sends : site.sends ≡ other.sends

-- the stages of a legal schedule
pub record IsPipeline (q : Pipeline) : Type 0 where
  -- the turn ends within the stages
  pub last : q.last < q.stages
  -- sites stand in the order of their stages
  pub ordered : (i : ℕ) → suc i < length q.proc.behavior.sites → q.stage i ≤ q.stage (suc i)
  pub within : (i : ℕ) → i < length q.proc.behavior.sites → q.stage i < q.stages
  -- an activation has received all its words when it gives the turn on
  pub receives : (i : ℕ) (site : Site) → slice_get q.proc.behavior.sites i ≡ Some site → site.sends ≡ false → q.stage i ≤ q.last
  -- of two sites at one end of a channel the later stands in a later stage, and each where an activation has the turn
  pub apart : (i k : ℕ) (site other : Site) → i < k → slice_get q.proc.behavior.sites i ≡ Some site → slice_get q.proc.behavior.sites k ≡ Some other
      → IsSameEnd site other → (q.stage i < q.stage k) × (q.stage k ≤ q.last)
  -- a site that receives never sends, and one that sends never receives
  pub directions : (s : Value) (got : List Word) (i : ℕ) (site : Site) → slice_get q.proc.behavior.sites i ≡ Some site → IsInDirection site (q.proc.behavior.turn s got i)

-- no site receives from a channel
abbrev pub ReceivesNowhere : Pipeline → ℕ → Type 0
ReceivesNowhere q chan = (i : ℕ) (site : Site) → slice_get q.proc.behavior.sites i ≡ Some site → site.sends ≡ false → site.chan ≡ chan → ⊥
