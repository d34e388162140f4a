-- What the registers and the walks of the code show of those of a pipeline.
use Rattle.std.specs.Prelude.{ℕ, ◌<◌, ◌≡◌, Bool, false, not, List, [], ◌∷◌, length, get_or, slice_get, if◌then◌else◌, ◌==◌, is_some, Option, Some, None}
use Rattle.std.specs.List.{list_any}
use Rattle.xb_bits.specs.Word.{Word, word}
use Rattle.net_core.specs.declared.net.Site.{Site}
use Rattle.net_core.specs.declared.event.Event.{Event}
use Rattle.net_core.specs.Cuts.{words_sent, count_received}
use Rattle.block_stage.specs.declared.machine.logic.Step.{Step}
use Rattle.block_stage.specs.declared.machine.logic.Step.TheVariants.{Pass, Recall, Take, Put, AwaitWord, AwaitRoom}
use Rattle.block_stage.specs.Machine.Cycle as cycle
use Rattle.block_stage.specs.Machine.Cycle.{Circuit, Registers, Transfer, Takes, Gives, brought, is_at, asserted_by}
use Rattle.net_samples.specs.declared.blocks.machine.Asserted.{Asserted}
use Rattle.net_samples.specs.declared.blocks.machine.Walk.{Walk}
use Rattle.net_samples.specs.declared.blocks.machine.Machine.{Machine}
use Rattle.net_samples.specs.declared.blocks.sample.StageEntry.{StageEntry}
use Rattle.net_samples.specs.declared.blocks.sample.Sample.{Sample}
use Rattle.block_stage.specs.Machine.Logic.{turn_of}
use Rattle.net_samples.specs.declared.blocks.machine.Ports.{Ports}
use Rattle.net_samples.specs.Blocks.Samples.{bits_of, last_word, turn_at, chan_of, ports_of}

-- where there is nothing
abbrev pub no_word : Word
no_word = word 1 0

abbrev pub no_stage_entry : StageEntry
no_stage_entry = record { state = no_word; got = None }

abbrev pub first_some : Option Word → Option Word → Option Word
first_some None other = other
first_some (Some w) other = Some w

-- an activation
pub record ShowsStageEntry (stage_entry : StageEntry) (of : cycle.StageEntry) : Type 0 where
  pub state : stage_entry.state ≡ bits_of of.state
  pub got : stage_entry.got ≡ last_word of.got

-- the last word received behind a site where this happens
abbrev pub got_behind : Step → Option Word → Option Word
got_behind (Recall w) got = Some w
got_behind (Take w) got = Some w
got_behind Pass got = got
got_behind (Put w) got = got
got_behind AwaitWord got = got
got_behind (AwaitRoom w) got = got

-- the first word that is valid, if one is
abbrev pub first_of : List Word → Option Word
first_of [] = None
first_of (w ∷ ws) = Some w

-- what is asserted at each channel
pub record ShowsAsserted (sites : List Site) (asserted : Asserted) (events : List Event) : Type 0 where
  pub ready : (c : ℕ) → c < 4 → get_or asserted.ready c false ≡ not (count_received sites c events == 0)
  pub words : (c : ℕ) → c < 4 → get_or asserted.words c None ≡ first_of (words_sent sites c events)
  pub ready_size : length asserted.ready ≡ 4
  pub words_size : length asserted.words ≡ 4

-- the word that the receive with an index receives
abbrev pub taken_at : ℕ → List Transfer → Option Word
taken_at i [] = None
taken_at i (Takes k w ∷ transfers) = if k == i then Some w else taken_at i transfers
taken_at i (Gives k w ∷ transfers) = taken_at i transfers

-- a walk
pub record ShowsWalk (sites : List Site) (walk : Walk) (of : cycle.Walk) : Type 0 where
  pub got : walk.stage_entry.got ≡ last_word of.got
  pub stall : walk.stall ≡ is_some of.stall
  pub went : (i : ℕ) → i < 4 → get_or walk.went i false ≡ list_any (is_at i) of.transfers
  pub took : (i : ℕ) → i < 4 → get_or walk.took i None ≡ taken_at i of.transfers
  pub went_size : length walk.went ≡ 4
  pub took_size : length walk.took ≡ 4
  pub asserted : ShowsAsserted sites walk.asserted (asserted_by of)

-- the registers, as far as they are in use
pub record ShowsMachine (sample : Sample) (machine : Machine) (c : Registers) : Type 0 where
  pub full : (j : ℕ) → j < sample.stages → get_or machine.full j false ≡ c.full j
  pub state : machine.state ≡ bits_of c.state
  pub stage_regs : (j : ℕ) → 0 < j → j < sample.stages → ShowsStageEntry (get_or machine.stage_regs j no_stage_entry) (c.stage_regs j)
  pub done : (i : ℕ) → i < length sample.sites.now → get_or machine.done i false ≡ c.done i
  pub kept : (i : ℕ) → i < length sample.sites.now → get_or machine.kept i no_word ≡ c.kept i

-- what is done and kept at each site
pub record Keeps (sample : Sample) (machine : Machine) (done : ℕ → Bool) (kept : ℕ → Word) : Type 0 where
  pub is_done : (i : ℕ) → i < length sample.sites.now → get_or machine.done i false ≡ done i
  pub is_kept : (i : ℕ) → i < length sample.sites.now → get_or machine.kept i no_word ≡ kept i

-- what happens at the site with an index
abbrev pub site_step : Circuit → Sample → Ports → StageEntry → Bool → Word → ℕ → Step
site_step x sample ports stage_entry done kept place =
    let site = slice_get sample.sites.now place in
    x.step (turn_of (turn_at site stage_entry.state stage_entry.got)) done kept ((ports_of ports).valid_word (chan_of site)) ((ports_of ports).room (chan_of site))
