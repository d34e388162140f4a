-- What has gone through a pipeline's ports since reset.
use Rattle.std.specs.Prelude.{ℕ, List, [], ◌∷◌, ◌++◌, map, if◌then◌else◌, ◌==◌}
use Rattle.xb_bits.specs.Word.{Word}
use Rattle.net_core.specs.declared.net.Site.{Site}
use Rattle.net_core.specs.Behavior.{chan_at}
use Rattle.net_core.specs.Cuts.{words_sent}
use Rattle.block_stage.specs.Machine.Pipeline.{Pipeline}
use Rattle.block_stage.specs.Machine.Cycle.{Ports, Registers, opened, Transfer, Takes, Gives, event_of, after_cycle, transfers_in}

-- the words received from channel c, and those sent on it
abbrev pub took : List Site → ℕ → List Transfer → List Word
took sites c [] = []
took sites c (Takes i w ∷ transfers) = if chan_at sites i == c then w ∷ took sites c transfers else took sites c transfers
took sites c (Gives i w ∷ transfers) = took sites c transfers

abbrev pub gave : List Site → ℕ → List Transfer → List Word
gave sites c transfers = words_sent sites c (map event_of transfers)

-- the registers, and for each channel the words that have been received and sent through its ports since reset
pub record Since : Type 0 where
  pub contents : Registers
  pub received : ℕ → List Word
  pub sent : ℕ → List Word

abbrev pub at_reset : Pipeline → Since
at_reset q = record { contents = opened q; received = λ c. []; sent = λ c. [] }

-- after one cycle more
abbrev pub one_more : Pipeline → Since → Ports → Since
one_more q since ports = record {
  contents = after_cycle q since.contents ports;
  received = λ c. since.received c ++ took q.proc.behavior.sites c (transfers_in q since.contents ports);
  sent = λ c. since.sent c ++ gave q.proc.behavior.sites c (transfers_in q since.contents ports);
}

-- after these cycles more, with what stands at the ports in each
abbrev pub after_cycles : Pipeline → Since → List Ports → Since
after_cycles q since [] = since
after_cycles q since (ports ∷ more) = after_cycles q (one_more q since ports) more
