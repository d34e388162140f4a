-- A pipeline whose registers have this circuit between them: what it does in the cycles since reset, and the laws that it
-- keeps where the circuit is right.
use Rattle.std.specs.Prelude.{◌≡◌, ◌≤◌, ◌<◌, ℕ, suc, ◌+◌, ◌*◌, ◌-◌, nat_lt, true, false, Bool, List, [], ◌∷◌, ◌++◌, length, if◌then◌else◌, ◌==◌, option_to_list, Some}
use Rattle.xb_bits.specs.Word.{Word}
use Rattle.base.specs.Lists.Prefix.{IsPrefix}
use Rattle.net_core.specs.declared.event.Event.{Event}
use Rattle.net_core.specs.Trace.{trace}
use Rattle.net_core.specs.Cuts.{words_sent, count_received}
use Rattle.block_stage.specs.Machine.Pipeline.{Pipeline, IsPipeline, first}
use Rattle.block_stage.specs.Machine.Cycle.{Ports, Registers, Circuit, Walk, Transfer, brought, walk_by, if_full, moves_through, contents_after, transfers_through, asserted_by, asserted_through}
use Rattle.block_stage.specs.Machine.Since.{Since, took, gave, at_reset}
use Rattle.block_stage.specs.Machine.Steady.{IsStageMet, AreFed, SendsOnce}
use Rattle.block_stage.specs.Machine.Next.{closed_ports, IsNextEvent, IsSpent}

abbrev pub stage_by : Circuit → Pipeline → Registers → Ports → ℕ → Walk
stage_by x q c ports j =
    if_full (c.full j) (first q j)
    (walk_by x q.proc.behavior c.done c.kept ports (brought c j).state (brought c j).got (first q j) (first q (suc j) - first q j))

abbrev pub moves_by : Circuit → Pipeline → Registers → Ports → ℕ → Bool
moves_by x q c ports j = moves_through x c.full (stage_by x q c ports) (q.stages - suc j) j

abbrev pub cycle_by : Circuit → Pipeline → Registers → Ports → Registers
cycle_by x q c ports = contents_after x q c ports (stage_by x q c ports) (moves_by x q c ports)

abbrev pub transfers_by : Circuit → Pipeline → Registers → Ports → List Transfer
transfers_by x q c ports = transfers_through (stage_by x q c ports) 0 q.stages

abbrev pub asserts_by : Circuit → Pipeline → Registers → Ports → List Event
asserts_by x q c ports = asserted_through (stage_by x q c ports) 0 q.stages

abbrev pub one_by : Circuit → Pipeline → Since → Ports → Since
one_by x q since ports = record {
  contents = cycle_by x q since.contents ports;
  received = λ c. since.received c ++ took q.proc.behavior.sites c (transfers_by x q since.contents ports);
  sent = λ c. since.sent c ++ gave q.proc.behavior.sites c (transfers_by x q since.contents ports);
}

abbrev pub cycles_by : Circuit → Pipeline → Since → List Ports → Since
cycles_by x q since [] = since
cycles_by x q since (ports ∷ more) = cycles_by x q (one_by x q since ports) more

-- whatever proc and legal stages, and whatever stands at the ports in each cycle since reset
pub record IsLawful (x : Circuit) : Type 0 where
  -- what was sent on a channel is a prefix of what the proc's trace sends there over the words received
  pub sent_words_are_a_prefix : (q : Pipeline) → IsPipeline q → (cycles : List Ports) (n chan : ℕ) → length cycles ≤ n →
      let since = cycles_by x q (at_reset q) cycles in
      IsPrefix (since.sent chan) (words_sent q.proc.behavior.sites chan (trace q.proc.behavior n q.proc.opening since.received))
  -- that trace receives exactly the words received
  pub received_words_are_the_traces : (q : Pipeline) → IsPipeline q → (cycles : List Ports) (n chan : ℕ) → length cycles ≤ n →
      let since = cycles_by x q (at_reset q) cycles in
      count_received q.proc.behavior.sites chan (trace q.proc.behavior n q.proc.opening since.received) ≡ length (since.received chan)
  -- what stalls in a stage is the first that the stage asserts in the next cycle
  pub what_stalls_stays_asserted : (q : Pipeline) → IsPipeline q → (cycles : List Ports) (ports next : Ports) (j : ℕ) (event : Event) → j < q.stages →
      let now = (cycles_by x q (at_reset q) cycles).contents in
      (stage_by x q now ports j).stall ≡ Some event →
      (others : List Event) × (asserted_by (stage_by x q (cycle_by x q now ports) next j) ≡ event ∷ others)
  -- a word that is valid and not taken stays valid in the next cycle
  pub untaken_words_stay_valid : (q : Pipeline) → IsPipeline q → (cycles : List Ports) (ports next : Ports) (chan : ℕ) (w : Word) →
      let now = (cycles_by x q (at_reset q) cycles).contents in
      words_sent q.proc.behavior.sites chan (asserts_by x q now ports) ≡ w ∷ [] →
      ports.room chan ≡ false →
      words_sent q.proc.behavior.sites chan (asserts_by x q (cycle_by x q now ports) next) ≡ w ∷ []
  -- on each end of a channel at most one site is asserted in a cycle
  pub one_site_asserts_valid : (q : Pipeline) → IsPipeline q → (cycles : List Ports) (ports : Ports) (chan : ℕ) →
      length (words_sent q.proc.behavior.sites chan (asserts_by x q (cycles_by x q (at_reset q) cycles).contents ports)) ≤ 1
  pub one_site_asserts_ready : (q : Pipeline) → IsPipeline q → (cycles : List Ports) (ports : Ports) (chan : ℕ) →
      count_received q.proc.behavior.sites chan (asserts_by x q (cycles_by x q (at_reset q) cycles).contents ports) ≤ 1
  -- a word goes through a port in a cycle where both sides are ready
  pub sent_words_go_where_there_is_room : (q : Pipeline) → IsPipeline q → (cycles : List Ports) (ports : Ports) (chan : ℕ) →
      let now = (cycles_by x q (at_reset q) cycles).contents in
      gave q.proc.behavior.sites chan (transfers_by x q now ports)
      ≡ (if ports.room chan then words_sent q.proc.behavior.sites chan (asserts_by x q now ports) else [])
  pub received_words_go_where_ready : (q : Pipeline) → IsPipeline q → (cycles : List Ports) (ports : Ports) (chan : ℕ) →
      let now = (cycles_by x q (at_reset q) cycles).contents in
      took q.proc.behavior.sites chan (transfers_by x q now ports)
      ≡ (if count_received q.proc.behavior.sites chan (asserts_by x q now ports) == 0 then [] else option_to_list (ports.valid_word chan))
  -- an activation moves where the partners of all its stage's sites are there and the next stage is free or moves
  pub a_stage_moves_where_it_can : (q : Pipeline) → IsPipeline q → (cycles : List Ports) (ports : Ports) (j : ℕ) → j < q.stages →
      let now = (cycles_by x q (at_reset q) cycles).contents in
      now.full j ≡ true → IsStageMet q j ports →
      (suc j < q.stages → now.full (suc j) ≡ true → moves_by x q now ports (suc j) ≡ true) →
      moves_by x q now ports j ≡ true
  -- where it moves it stands in the next stage
  pub a_moved_activation_stands_in_the_next_stage : (q : Pipeline) → IsPipeline q → (cycles : List Ports) (ports : Ports) (j : ℕ) →
      let now = (cycles_by x q (at_reset q) cycles).contents in
      moves_by x q now ports j ≡ true → (cycle_by x q now ports).full (suc j) ≡ true
  -- where it leaves the stage in which it gives the turn back, the next may begin in the next cycle
  pub the_turn_comes_back : (q : Pipeline) → IsPipeline q → (cycles : List Ports) (ports : Ports) →
      let now = (cycles_by x q (at_reset q) cycles).contents in
      moves_by x q now ports q.last ≡ true → (cycle_by x q now ports).full 0 ≡ true
  -- one that is always fed and whose words are always taken sends word i in cycle i * interval + s, s the stage of its sending site
  pub always_fed_words_move_in_their_cycle : (q : Pipeline) → IsPipeline q → (chan place : ℕ) → SendsOnce q chan place →
      (cycles : List Ports) → AreFed q cycles → (i : ℕ) →
      nat_lt i (length ((cycles_by x q (at_reset q) cycles).sent chan)) ≡ nat_lt (i * suc q.last + q.stage place) (length cycles)
  -- and once it is fed, whatever went before, i + 1 words more have moved by the end of cycle (i + 1) * interval + s from then on
  pub words_move_once_fed : (q : Pipeline) → IsPipeline q → (chan place : ℕ) → SendsOnce q chan place →
      (past cycles : List Ports) → AreFed q cycles → (i : ℕ) →
      let since = cycles_by x q (at_reset q) past in
      suc i * suc q.last + q.stage place < length cycles →
      length (since.sent chan) + i < length ((cycles_by x q since cycles).sent chan)
  -- an activation comes to its next event in time, where those in later stages have none left
  pub the_next_event_is_asserted_in_time : (q : Pipeline) → IsPipeline q → (past cycles : List Ports) (ports : Ports) (j i : ℕ) (event : Event) → j < q.stages →
      let since = cycles_by x q (at_reset q) past in
      let now = since.contents in
      now.full j ≡ true →
      IsNextEvent q.proc.behavior (brought now j).state (stage_by x q now closed_ports j) i event →
      ((k : ℕ) → j < k → k < q.stages → now.full k ≡ true → IsSpent q.proc.behavior (brought now k).state (stage_by x q now closed_ports k)) →
      j + length cycles ≡ q.stage i →
      (others : List Event) × (asserted_by (stage_by x q (cycles_by x q since cycles).contents ports (q.stage i)) ≡ event ∷ others)
