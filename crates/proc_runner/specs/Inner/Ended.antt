-- The ends of channels of one proc, and the indices of its sites' ends.
use Rattle.std.specs.Prelude.{◌≡◌, ◌<◌, ◌≤◌, ℕ, true, false, List, [], length, Option, Some, slice_get}
use Rattle.chan_queue.specs.declared.pass.SendPass.{SendPass}
use Rattle.chan_queue.specs.declared.pass.RecvPass.{RecvPass}
use Rattle.net_core.specs.declared.net.Site.{Site}
use Rattle.proc_task.specs.declared.port.Outlet.{Outlet}
use Rattle.proc_task.specs.declared.port.Inlet.{Inlet}
use Rattle.proc_task.specs.Moving.{HasOutlet, HasInlet}

module _ {E : Type 0} (chan : E → ℕ) where
  -- the end of channel c stands at this index
  abbrev pub IsEndAt : List E → ℕ → ℕ → Type 0
  IsEndAt ends c place = (end : E) × (slice_get ends place ≡ Some end) × (chan end ≡ c)

  abbrev pub HasEndOn : List E → ℕ → Type 0
  HasEndOn ends c = (place : ℕ) × IsEndAt ends c place

  -- a new end for each of the first channels that is ours, and no other
  pub record AreEndsOf (ours : ℕ → Type 0) (new : E → Type 0) (count : ℕ) (ends : List E) : Type 0 where
    pub few : length ends ≤ count
    pub within : (k : ℕ) (end : E) → slice_get ends k ≡ Some end → chan end < count
    pub owned : (k : ℕ) (end : E) → slice_get ends k ≡ Some end → ours (chan end)
    pub each : (k : ℕ) (end : E) → slice_get ends k ≡ Some end → new end
    pub one : (j k : ℕ) (a b : E) → slice_get ends j ≡ Some a → slice_get ends k ≡ Some b → chan a ≡ chan b → j ≡ k
    pub all : (c : ℕ) → c < count → ours c → HasEndOn ends c

module _ {S : Type 0} where
  abbrev pub out_chan : Outlet S → ℕ
  out_chan outlet = outlet.chan

  abbrev pub in_chan : Inlet S → ℕ
  in_chan inlet = inlet.chan

  -- no word was sent there, and it has the right that stands at the index of its channel
  abbrev pub IsNewOutlet : List (Option (SendPass S)) → Outlet S → Type 0
  IsNewOutlet sends outlet = (slice_get sends outlet.chan ≡ Some outlet.pass) × (outlet.words.items ≡ [])

  abbrev pub IsNewInlet : List (Option (RecvPass S)) → Inlet S → Type 0
  IsNewInlet recvs inlet = (slice_get recvs inlet.chan ≡ Some inlet.pass) × (inlet.received ≡ 0)

  -- an outlet for each of the first channels whose sender is proc p, and an inlet for each whose receiver it is
  abbrev pub AreOutletsOf : ℕ → List ℕ → List (Option (SendPass S)) → ℕ → List (Outlet S) → Type 0
  AreOutletsOf p senders sends count outlets = AreEndsOf out_chan (λ c. slice_get senders c ≡ Some p) (IsNewOutlet sends) count outlets

  abbrev pub AreInletsOf : ℕ → List ℕ → List (Option (RecvPass S)) → ℕ → List (Inlet S) → Type 0
  AreInletsOf p receivers recvs count inlets = AreEndsOf in_chan (λ c. slice_get receivers c ≡ Some p) (IsNewInlet recvs) count inlets

  -- each site has an end
  pub record HasIndices (sites : List Site) (outlets : List (Outlet S)) (inlets : List (Inlet S)) : Type 0 where
    pub sends : (i : ℕ) (site : Site) → slice_get sites i ≡ Some site → site.sends ≡ true → HasEndOn out_chan outlets site.chan
    pub receives : (i : ℕ) (site : Site) → slice_get sites i ≡ Some site → site.sends ≡ false → HasEndOn in_chan inlets site.chan

  -- and these are the indices of the sites' ends
  pub record AreSiteIndices (sites : List Site) (indices : List ℕ) (outlets : List (Outlet S)) (inlets : List (Inlet S)) : Type 0 where
    pub senders : (i : ℕ) (site : Site) → slice_get sites i ≡ Some site → site.sends ≡ true → HasOutlet sites indices outlets i site
    pub receivers : (i : ℕ) (site : Site) → slice_get sites i ≡ Some site → site.sends ≡ false → HasInlet sites indices inlets i site
