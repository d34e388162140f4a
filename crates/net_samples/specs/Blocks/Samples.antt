-- What a sample means: a pipeline whose activations go by their state and the last word that they received.
use Rattle.std.specs.Prelude.{ℕ, ◌+◌, ◌%◌, ◌<◌, ◌≤◌, Bool, true, false, List, [], ◌∷◌, length, map, slice_get, get_or, if◌then◌else◌, ◌==◌, unwrap_or, Option, Some, None}
use Rattle.xb_bits.specs.Word.{Word, word}
use Rattle.xb_value.specs.declared.ty.Ty as ty
use Rattle.xb_value.specs.declared.value.Value as value
use Rattle.xb_value.specs.declared.value.Value.{Value, out-Value}
use Rattle.xb_value.specs.declared.value.Value.TheOpen.{Value-F}
use Rattle.net_core.specs.declared.net.Site.{Site}
use Rattle.net_core.specs.Behavior.{Behavior}
use Rattle.block_stage.specs.declared.machine.logic.SiteTurn.{SiteTurn}
use Rattle.block_stage.specs.declared.machine.logic.SiteTurn.TheVariants as site_turn
use Rattle.block_stage.specs.Machine.Logic.{turn_of}
use Rattle.block_stage.specs.Machine.Pipeline.{Pipeline}
use Rattle.block_stage.specs.Machine.Cycle as cycle
use Rattle.net_samples.specs.declared.blocks.machine.Ports.{Ports}
use Rattle.net_samples.specs.declared.blocks.sample.Action.{Action}
use Rattle.net_samples.specs.declared.blocks.sample.Action.TheVariants.{Receive, SendState, SendWord, ReceiveIfOdd}
use Rattle.net_samples.specs.declared.blocks.sample.Next.{Next}
use Rattle.net_samples.specs.declared.blocks.sample.Next.TheVariants.{Add, Word as LastWord}
use Rattle.net_samples.specs.declared.blocks.sample.Sample.{Sample}
use Rattle.net_samples.specs.declared.blocks.sample.SampleSite.{SampleSite}

-- words of 8 bits
abbrev pub byte : ℕ → Word
byte n = word 8 (n % 256)

abbrev pub more_than : Word → ℕ → Word
more_than w more = byte (w.value % 256 + more % 256)

-- the last word of a list, or the one before it
abbrev pub last_of : Option Word → List Word → Option Word
last_of before [] = before
last_of before (w ∷ ws) = last_of (Some w) ws

abbrev pub last_word : List Word → Option Word
last_word words = last_of None words

-- what a site does, by the state and the last word received
abbrev pub turn_by : Action → Word → Option Word → SiteTurn
turn_by Receive s got = site_turn.Receive
turn_by (SendState more) s got = site_turn.Give (more_than s more)
turn_by (SendWord more) s got = site_turn.Give (more_than (unwrap_or got (byte 0)) more)
turn_by ReceiveIfOdd s got = if s.value % 2 == 1 then site_turn.Receive else site_turn.Skip

abbrev pub turn_at : Option SampleSite → Word → Option Word → SiteTurn
turn_at None s got = site_turn.Skip
turn_at (Some site) s got = turn_by site.action s got

-- the state after an activation
abbrev pub next_by : Next → Word → Option Word → Word
next_by (Add more) s got = more_than s more
next_by LastWord s got = unwrap_or got (byte 0)

abbrev pub stage_at : Option SampleSite → ℕ
stage_at None = 0
stage_at (Some site) = site.stage

abbrev pub chan_of : Option SampleSite → ℕ
chan_of None = 0
chan_of (Some site) = site.chan

abbrev pub is_send : Action → Bool
is_send Receive = false
is_send (SendState more) = true
is_send (SendWord more) = true
is_send ReceiveIfOdd = false

abbrev pub site_of : SampleSite → Site
site_of site = record { chan = site.chan; sends = is_send site.action }

abbrev pub bits_in : Value-F Value → Word
bits_in (Value-F.Bits w) = w
bits_in (Value-F.Tuple parts) = byte 0
bits_in (Value-F.Array parts) = byte 0

abbrev pub bits_of : Value → Word
bits_of v = bits_in (out-Value v)

abbrev pub behavior_of : Sample → Behavior
behavior_of sample = record {
  state = ty.Bits 8;
  sites = map site_of sample.sites.now;
  width = λ c. 8;
  turn = λ s got i. turn_of (turn_at (slice_get sample.sites.now i) (bits_of s) (last_word got));
  next_state = λ s got. value.Bits (next_by sample.next (bits_of s) (last_word got));
}

-- the pipeline of a sample that begins in a state
abbrev pub pipeline_of : Sample → Word → Pipeline
pipeline_of sample opening = record {
  proc = record { opening = value.Bits opening; behavior = behavior_of sample };
  stage = λ i. stage_at (slice_get sample.sites.now i);
  stages = sample.stages;
  last = sample.last;
}

-- what stands at its ports
abbrev pub ports_of : Ports → cycle.Ports
ports_of ports = record { valid_word = λ c. get_or ports.valid_word c None; room = λ c. get_or ports.room c false }

-- at most four sites and stages, each site and the end of the turn in one of the stages
pub record FitsMachine (sample : Sample) : Type 0 where
  pub sites : length sample.sites.now ≤ 4
  pub stages : sample.stages ≤ 4
  pub last : sample.last < sample.stages
  pub within : (i : ℕ) → i < length sample.sites.now → stage_at (slice_get sample.sites.now i) < sample.stages
