-- The right circuit keeps the laws.
use Rattle.std.proofs.Common.{◌≡◌, ℕ, ◌≤◌, ◌+◌, ◌*◌, List, [], ◌∷◌, length, refl, ap, ◌∙◌, subst, cond, true, false, suc, ◌<◌, Some}
use Rattle.std.specs.Prelude.{◌==◌, nat_lt, option_to_list}
use Rattle.xb_bits.specs.Word.{Word}
use Rattle.base.specs.Lists.Prefix.{IsPrefix}
use Rattle.net_core.specs.declared.event.Event.{Event}
use Rattle.net_core.specs.Trace.{trace}
use Rattle.net_core.specs.Cuts.{words_sent, count_received}
use Rattle.block_stage.specs.Machine.Pipeline.{Pipeline}
use Rattle.block_stage.specs.Machine.Cycle.{Ports, Registers, circuit, brought, in_stage, walk, moves, after_cycle, transfers_in, asserted_in, asserted_by}
use Rattle.block_stage.specs.Machine.Since.{Since, took, gave, at_reset, one_more, after_cycles}
use Rattle.block_stage.specs.Machine.Circuits.{stage_by, moves_by, cycle_by, transfers_by, asserts_by, one_by, cycles_by, IsLawful}
use Rattle.block_stage.specs.Machine.Steady.{IsStageMet}
use Rattle.block_stage.specs.Machine.Next.{closed_ports, IsNextEvent, IsSpent}
use Rattle.block_stage.proofs.OnMachine.Prefixes.{sent_words_are_a_prefix, received_words_are_the_traces}
use Rattle.block_stage.proofs.OnMachine.Offers.{what_stalls_stays_asserted}
use Rattle.block_stage.proofs.OnMachine.Offered.{untaken_words_stay_valid}
use Rattle.block_stage.proofs.OnMachine.Asserts.{one_site_asserts_valid, one_site_asserts_ready}
use Rattle.block_stage.proofs.OnMachine.Meeting.{a_stage_moves_where_it_can, a_moved_activation_stands_in_the_next_stage, the_turn_comes_back}
use Rattle.block_stage.proofs.OnMachine.Exact.{always_fed_words_move_in_their_cycle, words_move_once_fed}
use Rattle.block_stage.proofs.OnMachine.InTime.{the_next_event_is_asserted_in_time}
use Rattle.block_stage.proofs.OnMachine.Handshakes.{sent_words_go_where_there_is_room, received_words_go_where_ready}

pub same_stage : (q : Pipeline) (c : Registers) (ports : Ports) (j : ℕ) → in_stage q c ports j ≡ stage_by circuit q c ports j
unfolding in_stage walk
same_stage q c ports j = refl

pub same_cycle : (q : Pipeline) (c : Registers) (ports : Ports) → after_cycle q c ports ≡ cycle_by circuit q c ports
unfolding after_cycle moves in_stage walk
same_cycle q c ports = refl

pub same_transfers : (q : Pipeline) (c : Registers) (ports : Ports) → transfers_in q c ports ≡ transfers_by circuit q c ports
unfolding transfers_in in_stage walk
same_transfers q c ports = refl

pub same_asserts : (q : Pipeline) (c : Registers) (ports : Ports) → asserted_in q c ports ≡ asserts_by circuit q c ports
unfolding asserted_in in_stage walk
same_asserts q c ports = refl

same_one : (q : Pipeline) (since : Since) (ports : Ports) → one_more q since ports ≡ one_by circuit q since ports
unfolding after_cycle moves transfers_in in_stage walk
same_one q since ports = refl

pub same_cycles : (q : Pipeline) (cycles : List Ports) (since : Since) → after_cycles q since cycles ≡ cycles_by circuit q since cycles
same_cycles q [] since = refl
same_cycles q (ports ∷ more) since =
    ap (λ s. after_cycles q s more) (same_one q since ports) ∙ same_cycles q more (one_by circuit q since ports)

-- what each law says of the registers of a cycle, by both machines
abbrev StallsStay : Pipeline → Ports → Ports → ℕ → Event → Registers → Type 0
StallsStay q ports next j event c =
    (stage_by circuit q c ports j).stall ≡ Some event → (others : List Event) × (asserted_by (stage_by circuit q (cycle_by circuit q c ports) next j) ≡ event ∷ others)

stall_by : (q : Pipeline) (ports next : Ports) (j : ℕ) (event : Event) (c : Registers)
    → ((in_stage q c ports j).stall ≡ Some event → (others : List Event) × (asserted_by (in_stage q (after_cycle q c ports) next j) ≡ event ∷ others))
    → StallsStay q ports next j event c
unfolding after_cycle moves in_stage walk
stall_by q ports next j event c h = h

abbrev OffersStay : Pipeline → Ports → Ports → ℕ → Word → Registers → Type 0
OffersStay q ports next chan w c =
    words_sent q.proc.behavior.sites chan (asserts_by circuit q c ports) ≡ w ∷ [] → ports.room chan ≡ false
    → words_sent q.proc.behavior.sites chan (asserts_by circuit q (cycle_by circuit q c ports) next) ≡ w ∷ []

offers_by : (q : Pipeline) (ports next : Ports) (chan : ℕ) (w : Word) (c : Registers)
    → (words_sent q.proc.behavior.sites chan (asserted_in q c ports) ≡ w ∷ [] → ports.room chan ≡ false
    → words_sent q.proc.behavior.sites chan (asserted_in q (after_cycle q c ports) next) ≡ w ∷ [])
    → OffersStay q ports next chan w c
unfolding asserted_in after_cycle moves in_stage walk
offers_by q ports next chan w c h = h

abbrev SentGo : Pipeline → Ports → ℕ → Registers → Type 0
SentGo q ports chan c =
    gave q.proc.behavior.sites chan (transfers_by circuit q c ports) ≡ cond (ports.room chan) (words_sent q.proc.behavior.sites chan (asserts_by circuit q c ports)) []

sent_by : (q : Pipeline) (ports : Ports) (chan : ℕ) (c : Registers)
    → gave q.proc.behavior.sites chan (transfers_in q c ports) ≡ cond (ports.room chan) (words_sent q.proc.behavior.sites chan (asserted_in q c ports)) []
    → SentGo q ports chan c
unfolding asserted_in transfers_in in_stage walk
sent_by q ports chan c h = h

abbrev ReceivedGo : Pipeline → Ports → ℕ → Registers → Type 0
ReceivedGo q ports chan c =
    took q.proc.behavior.sites chan (transfers_by circuit q c ports)
    ≡ cond (count_received q.proc.behavior.sites chan (asserts_by circuit q c ports) == 0) [] (option_to_list (ports.valid_word chan))

received_by : (q : Pipeline) (ports : Ports) (chan : ℕ) (c : Registers)
    → took q.proc.behavior.sites chan (transfers_in q c ports)
    ≡ cond (count_received q.proc.behavior.sites chan (asserted_in q c ports) == 0) [] (option_to_list (ports.valid_word chan))
    → ReceivedGo q ports chan c
unfolding asserted_in transfers_in in_stage walk
received_by q ports chan c h = h

abbrev FewSent : Pipeline → Ports → ℕ → Registers → Type 0
FewSent q ports chan c = length (words_sent q.proc.behavior.sites chan (asserts_by circuit q c ports)) ≤ 1

few_sent_by : (q : Pipeline) (ports : Ports) (chan : ℕ) (c : Registers)
    → length (words_sent q.proc.behavior.sites chan (asserted_in q c ports)) ≤ 1 → FewSent q ports chan c
unfolding asserted_in in_stage walk
few_sent_by q ports chan c h = h

abbrev FewReceived : Pipeline → Ports → ℕ → Registers → Type 0
FewReceived q ports chan c = count_received q.proc.behavior.sites chan (asserts_by circuit q c ports) ≤ 1

few_received_by : (q : Pipeline) (ports : Ports) (chan : ℕ) (c : Registers)
    → count_received q.proc.behavior.sites chan (asserted_in q c ports) ≤ 1 → FewReceived q ports chan c
unfolding asserted_in in_stage walk
few_received_by q ports chan c h = h

abbrev MovesWhereItCan : Pipeline → Ports → ℕ → Registers → Type 0
MovesWhereItCan q ports j c =
    c.full j ≡ true → IsStageMet q j ports → (suc j < q.stages → c.full (suc j) ≡ true → moves_by circuit q c ports (suc j) ≡ true)
    → moves_by circuit q c ports j ≡ true

moves_where_by : (q : Pipeline) (ports : Ports) (j : ℕ) (c : Registers)
    → (c.full j ≡ true → IsStageMet q j ports → (suc j < q.stages → c.full (suc j) ≡ true → moves q c ports (suc j) ≡ true) → moves q c ports j ≡ true)
    → MovesWhereItCan q ports j c
unfolding moves in_stage walk
moves_where_by q ports j c h = h

abbrev StandsNext : Pipeline → Ports → ℕ → Registers → Type 0
StandsNext q ports j c = moves_by circuit q c ports j ≡ true → (cycle_by circuit q c ports).full (suc j) ≡ true

stands_next_by : (q : Pipeline) (ports : Ports) (j : ℕ) (c : Registers) → (moves q c ports j ≡ true → (after_cycle q c ports).full (suc j) ≡ true) → StandsNext q ports j c
unfolding after_cycle moves in_stage walk
stands_next_by q ports j c h = h

abbrev TurnComesBack : Pipeline → Ports → Registers → Type 0
TurnComesBack q ports c = moves_by circuit q c ports q.last ≡ true → (cycle_by circuit q c ports).full 0 ≡ true

turn_by : (q : Pipeline) (ports : Ports) (c : Registers) → (moves q c ports q.last ≡ true → (after_cycle q c ports).full 0 ≡ true) → TurnComesBack q ports c
unfolding after_cycle moves in_stage walk
turn_by q ports c h = h

abbrev InTime : Pipeline → List Ports → Ports → ℕ → ℕ → Event → Registers → Registers → Type 0
InTime q cycles ports j i event c later =
    c.full j ≡ true → IsNextEvent q.proc.behavior (brought c j).state (stage_by circuit q c closed_ports j) i event
    → ((k : ℕ) → j < k → k < q.stages → c.full k ≡ true → IsSpent q.proc.behavior (brought c k).state (stage_by circuit q c closed_ports k))
    → j + length cycles ≡ q.stage i
    → (others : List Event) × (asserted_by (stage_by circuit q later ports (q.stage i)) ≡ event ∷ others)

in_time_by : (q : Pipeline) (cycles : List Ports) (ports : Ports) (j i : ℕ) (event : Event) (c later : Registers)
    → (c.full j ≡ true → IsNextEvent q.proc.behavior (brought c j).state (in_stage q c closed_ports j) i event
    → ((k : ℕ) → j < k → k < q.stages → c.full k ≡ true → IsSpent q.proc.behavior (brought c k).state (in_stage q c closed_ports k))
    → j + length cycles ≡ q.stage i
    → (others : List Event) × (asserted_by (in_stage q later ports (q.stage i)) ≡ event ∷ others))
    → InTime q cycles ports j i event c later
unfolding in_stage walk
in_time_by q cycles ports j i event c later h = h

-- a law of the registers after any cycles
after_any : (q : Pipeline) (law : Registers → Type 0) (cycles : List Ports) → law (after_cycles q (at_reset q) cycles).contents → law (cycles_by circuit q (at_reset q) cycles).contents
after_any q law cycles h = subst (λ s. law s.contents) (same_cycles q cycles (at_reset q)) h

pub lawful : IsLawful circuit
lawful = record {
  sent_words_are_a_prefix = λ q is cycles n chan l.
      subst (λ (s : Since). IsPrefix (s.sent chan) (words_sent q.proc.behavior.sites chan (trace q.proc.behavior n q.proc.opening s.received)))
      (same_cycles q cycles (at_reset q)) (sent_words_are_a_prefix q is cycles n chan l);
  received_words_are_the_traces = λ q is cycles n chan l.
      subst (λ (s : Since). count_received q.proc.behavior.sites chan (trace q.proc.behavior n q.proc.opening s.received) ≡ length (s.received chan))
      (same_cycles q cycles (at_reset q)) (received_words_are_the_traces q is cycles n chan l);
  what_stalls_stays_asserted = λ q is cycles ports next j event l.
      after_any q (StallsStay q ports next j event) cycles
      (stall_by q ports next j event (after_cycles q (at_reset q) cycles).contents (what_stalls_stays_asserted q is cycles ports next j event l));
  untaken_words_stay_valid = λ q is cycles ports next chan w.
      after_any q (OffersStay q ports next chan w) cycles
      (offers_by q ports next chan w (after_cycles q (at_reset q) cycles).contents (untaken_words_stay_valid q is cycles ports next chan w));
  one_site_asserts_valid = λ q is cycles ports chan.
      after_any q (FewSent q ports chan) cycles (few_sent_by q ports chan (after_cycles q (at_reset q) cycles).contents (one_site_asserts_valid q is cycles ports chan));
  one_site_asserts_ready = λ q is cycles ports chan.
      after_any q (FewReceived q ports chan) cycles (few_received_by q ports chan (after_cycles q (at_reset q) cycles).contents (one_site_asserts_ready q is cycles ports chan));
  sent_words_go_where_there_is_room = λ q is cycles ports chan.
      after_any q (SentGo q ports chan) cycles (sent_by q ports chan (after_cycles q (at_reset q) cycles).contents (sent_words_go_where_there_is_room q is cycles ports chan));
  received_words_go_where_ready = λ q is cycles ports chan.
      after_any q (ReceivedGo q ports chan) cycles (received_by q ports chan (after_cycles q (at_reset q) cycles).contents (received_words_go_where_ready q is cycles ports chan));
  a_stage_moves_where_it_can = λ q is cycles ports j l.
      after_any q (MovesWhereItCan q ports j) cycles
      (moves_where_by q ports j (after_cycles q (at_reset q) cycles).contents (a_stage_moves_where_it_can q is (after_cycles q (at_reset q) cycles).contents ports j l));
  a_moved_activation_stands_in_the_next_stage = λ q is cycles ports j.
      after_any q (StandsNext q ports j) cycles
      (stands_next_by q ports j (after_cycles q (at_reset q) cycles).contents (a_moved_activation_stands_in_the_next_stage q (after_cycles q (at_reset q) cycles).contents ports j));
  the_turn_comes_back = λ q is cycles ports.
      after_any q (TurnComesBack q ports) cycles (turn_by q ports (after_cycles q (at_reset q) cycles).contents (the_turn_comes_back q (after_cycles q (at_reset q) cycles).contents ports));
  always_fed_words_move_in_their_cycle = λ q is chan place once cycles fed i.
      subst (λ (s : Since). nat_lt i (length (s.sent chan)) ≡ nat_lt (i * suc q.last + q.stage place) (length cycles)) (same_cycles q cycles (at_reset q))
      (always_fed_words_move_in_their_cycle q is chan place once cycles fed i);
  words_move_once_fed = λ q is chan place once past cycles fed i l.
      subst (λ (s : Since). length (s.sent chan) + i < length ((cycles_by circuit q s cycles).sent chan)) (same_cycles q past (at_reset q))
      (subst (λ (s : Since). length ((after_cycles q (at_reset q) past).sent chan) + i < length (s.sent chan)) (same_cycles q cycles (after_cycles q (at_reset q) past))
      (words_move_once_fed q is chan place once past cycles fed i l));
  the_next_event_is_asserted_in_time = λ q is past cycles ports j i event l.
      let since = after_cycles q (at_reset q) past in
      subst (λ (s : Since). InTime q cycles ports j i event s.contents (cycles_by circuit q s cycles).contents) (same_cycles q past (at_reset q))
      (subst (λ (s : Since). InTime q cycles ports j i event since.contents s.contents) (same_cycles q cycles since)
      (in_time_by q cycles ports j i event since.contents (after_cycles q since cycles).contents (the_next_event_is_asserted_in_time q is past cycles ports j i event l)));
}
