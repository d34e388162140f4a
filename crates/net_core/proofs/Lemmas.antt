-- The laws of networks, as lemmas by the names of the functions of `laws` that state them. This module is for other
-- crates' proofs; nothing else of this folder is.
use Rattle.std.proofs.Common.{◌≡◌, ℕ, ◌<◌, ◌≤◌, ◌^◌, List, [], ◌∷◌, ◌++◌, length, sym, ◌∙◌, subst, false, true, Some, None}
use Rattle.std.specs.Prelude.{slice_get, nat_lt, if◌then◌else◌}
use mathlib.Core.Path.{fun_ext}
use Rattle.xb_bits.specs.Word.{Word}
use Rattle.xb_value.specs.declared.value.Value.{Value}
use Rattle.net_core.specs.declared.event.Event.{Event}
use Rattle.net_core.specs.declared.config.Config.{Config}
use Rattle.net_core.specs.declared.outcome.Stall.{Stall}
use Rattle.net_core.specs.Behavior.{Behavior, IsOpen, KeepsTypes, next_event}
use Rattle.net_core.specs.Trace.{Histories, trace}
use Rattle.net_core.specs.Cuts.{Proc, Run, Cut, IsWithin, empty_cut, sites_at, words_sent, count_received, words_at, room_at, trace_of, round, unbounded_round, final_cut, unbounded_cut}
use Rattle.base.specs.Lists.Prefix.{IsPrefix}
use Rattle.net_core.specs.Machine.{opened, position_after, position_in, next_of, finds_word, goes_by, goes, after_steps}
use Rattle.net_core.specs.Outcomes.{count_ends, stall_for, stall_in, end_of, outcome_of}
use Rattle.net_core.specs.declared.net.Net.{Net}
use Rattle.net_core.specs.WellFormed.{IsNet, IsInputs, IsOutcome, AreBehaviorsOf, EachKeepsTypes, run_of}
use Rattle.net_core.specs.Shows.{Shows}
use Rattle.net_core.specs.Counted.{IsCounted}
use Rattle.net_core.specs.Nexts.{EventFits, WaitsForAWord}
use Rattle.base.proofs.Lemmas.Lists.Prefixes.{IsPrefix-refl}
use Rattle.net_core.proofs.Traces.{trace_grows, longer_trace}
use Rattle.net_core.proofs.Resume.{trace_opened, position_grows}
use Rattle.net_core.proofs.Receives.{received_within, stops_at, goes_further}
use Rattle.net_core.proofs.Nexts.{next_after, event_fits}
use Rattle.net_core.proofs.Rounds.{final_stays, unbounded_stays}
use Rattle.net_core.proofs.Confluence.{steps_within_final, steps_end_final, stuck_is_final}
use Rattle.net_core.proofs.Counted.{counted_below, counted_final, counted_consistent, longer, final_in_trace, some_trace}
use Rattle.net_core.proofs.TypedRuns.{outcome_fits}
use Rattle.net_core.proofs.Ends.{reached_in_trace, stall_is, state_is, ends_are_counted}
use Rattle.net_core.proofs.Final.{final_stuck, final_received, final_room, stuck_stalls}
-- what a proc does at a site, and then at those behind it
unfoldable pub use Rattle.net_core.proofs.Resume.{event_turn}
pub use Rattle.net_core.proofs.Resume.{event_site}
-- the bodies of the procs of a run, in their order
pub use Rattle.net_core.proofs.Bodies.{behavior_there, count_behaviors, each_keeps, behaviors_zipped}
-- the state and the ends of a position are those of the events before it
pub use Rattle.net_core.proofs.Ends.{state_is, ends_are_counted}
-- where an activation can stand, and its next event there
pub use Rattle.net_core.proofs.Openings.{EventAt}
pub use Rattle.net_core.proofs.Openings.{receives_at, sends_at, ends_with, next_at, open_first, open_skip, open_send, open_receive}
-- the run of a network fits, its procs open in states of their types, and its final words have their widths
pub use Rattle.net_core.proofs.Starts.{IsZipped, zipped, run_fits, opening_typed}
pub use Rattle.net_core.proofs.TypedRuns.{final_typed}
-- a configuration in which nothing changed shows the same
pub use Rattle.net_core.proofs.Shown.{shows_unchanged}

-- traces
pub traces_grow : (b : Behavior) (n : ℕ) (state : Value) (words more : Histories) → ((c : ℕ) → IsPrefix (words c) (more c))
    → IsPrefix (trace b n state words) (trace b n state more)
traces_grow = trace_grows

pub more_activations_go_on : (b : Behavior) (m n : ℕ) (state : Value) (words : Histories) → m ≤ n → IsPrefix (trace b m state words) (trace b n state words)
more_activations_go_on b m n state words l = longer_trace b m n l state words words (λ c. IsPrefix-refl (words c))

pub only_words_are_received : (proc : Proc) (n : ℕ) (words : Histories) (made : List Event) → IsPrefix made (trace proc.behavior n proc.opening words)
    → (c : ℕ) → count_received proc.behavior.sites c made ≤ length (words c)
only_words_are_received proc n words made f =
    received_within proc.behavior n made (opened proc) words (subst (λ t. IsPrefix made t) (trace_opened proc n words) f)

pub next_is_the_traces : (proc : Proc) (n : ℕ) (words : Histories) (made rest : List Event) (event : Event)
    → trace proc.behavior n proc.opening words ≡ made ++ event ∷ rest
    → event ≡ next_of proc.behavior (position_after proc.behavior.sites (opened proc) made words)
next_is_the_traces proc n words made rest event e = next_after proc n words made rest event (sym (trace_opened proc n words) ∙ e)

pub traces_go_on_by_the_next : (proc : Proc) (n : ℕ) (words : Histories) (made : List Event) → IsPrefix made (trace proc.behavior n proc.opening words)
    → (position_after proc.behavior.sites (opened proc) made words).ends < n
    → finds_word proc.behavior.sites words made (next_of proc.behavior (position_after proc.behavior.sites (opened proc) made words)) ≡ true
    → IsPrefix (made ++ next_of proc.behavior (position_after proc.behavior.sites (opened proc) made words) ∷ []) (trace proc.behavior n proc.opening words)
traces_go_on_by_the_next = goes_further

pub traces_stop_at_a_missing_word : (proc : Proc) (n : ℕ) (words : Histories)
    → (position_after proc.behavior.sites (opened proc) (trace proc.behavior n proc.opening words) words).ends < n
    → WaitsForAWord proc words (trace proc.behavior n proc.opening words)
traces_stop_at_a_missing_word = stops_at

pub next_keeps_types : (b : Behavior) → KeepsTypes b → (state : Value) (got : List Word) (done : ℕ) → IsOpen b state got done
    → EventFits b (next_event b state got done)
next_keeps_types = event_fits

-- the order of steps
pub steps_stay_within : (run : Run) (steps : List ℕ) → IsWithin (after_steps run empty_cut steps) (final_cut run)
steps_stay_within = steps_within_final

pub steps_end_at_the_final_cut : (run : Run) (steps : List ℕ) → ((p : ℕ) → p < length run.procs → goes run (after_steps run empty_cut steps) p ≡ false)
    → after_steps run empty_cut steps ≡ final_cut run
steps_end_at_the_final_cut run steps stuck = fun_ext (steps_end_final run steps stuck)

pub stuck_shows_the_final_cut : (run : Run) (cut : Cut) (config : Config) → Shows run cut config
    → ((p : ℕ) → p < length run.procs → goes run cut p ≡ false) → Shows run (final_cut run) config
stuck_shows_the_final_cut run cut config sh stuck =
    subst (λ (x : Cut). Shows run x config) (fun_ext (stuck_is_final run cut sh.consistent sh.below stuck)) sh

pub counted_cuts_stay_within : (run : Run) (cut : Cut) → IsCounted run cut → IsWithin cut (final_cut run)
counted_cuts_stay_within = counted_below

pub counted_cuts_end_at_the_final_cut : (run : Run) (cut : Cut) → IsCounted run cut → ((p : ℕ) → p < length run.procs → goes run cut p ≡ false)
    → cut ≡ final_cut run
counted_cuts_end_at_the_final_cut = counted_final

-- where its procs stand by the words of the cut, they stand by those of the final cut too
pub counted_cuts_stand : (run : Run) (cut : Cut) → IsCounted run cut → (p : ℕ) (proc : Proc) → slice_get run.procs p ≡ Some proc
    → position_in run cut p proc ≡ position_after proc.behavior.sites (opened proc) (cut p) (words_at run (final_cut run))
counted_cuts_stand run cut known p proc e =
    position_grows proc.behavior run.activations (cut p) (opened proc) (words_at run cut) (words_at run (final_cut run)) (longer run cut known)
    (reached_in_trace run cut p proc e (counted_consistent run cut known p))

-- the final cut
pub rounds_settle : (run : Run) → round run (final_cut run) ≡ final_cut run
rounds_settle = final_stays

pub unbounded_rounds_settle : (run : Run) → unbounded_round run (unbounded_cut run) ≡ unbounded_cut run
unbounded_rounds_settle = unbounded_stays

pub no_proc_can_go_at_the_end : (run : Run) (p : ℕ) → goes run (final_cut run) p ≡ false
no_proc_can_go_at_the_end = final_stuck

pub only_sent_words_are_received : (run : Run) (p c : ℕ) → count_received (sites_at run p) c (final_cut run p) ≤ length (words_at run (final_cut run) c)
only_sent_words_are_received = final_received

pub each_sent_word_had_room : (run : Run) (p c j : ℕ) → j < length (words_sent (sites_at run p) c (final_cut run p)) → room_at run (final_cut run) c j ≡ true
each_sent_word_had_room = final_room

pub who_is_not_done_waits : (run : Run) (p : ℕ) (proc : Proc) → slice_get run.procs p ≡ Some proc → count_ends (final_cut run p) < run.activations
    → (stall : Stall) × (stall_in run (final_cut run) p proc ≡ Some stall)
who_is_not_done_waits run p proc e l =
    let made = subst (λ o. IsPrefix (final_cut run p) (trace_of run.activations (words_at run (final_cut run)) o)) e (final_in_trace run p) in
    stuck_stalls run (final_cut run) p proc (some_trace run.activations (words_at run (final_cut run)) proc (final_cut run p) made)
    (subst (λ o. goes_by run (final_cut run) p o ≡ false) e (final_stuck run p)) l

-- what the outcome says of a proc, by where it stands in the final cut
pub ends_by_position : (run : Run) (p : ℕ) (proc : Proc) → slice_get run.procs p ≡ Some proc
    → let at = position_in run (final_cut run) p proc in
    end_of run (final_cut run) p proc
    ≡ record { state = at.state; ends = at.ends; stall = if nat_lt at.ends run.activations then stall_for proc.behavior.sites at.ends (next_of proc.behavior at) else None }
ends_by_position run p proc e =
    let made = subst (λ o. IsPrefix (final_cut run p) (trace_of run.activations (words_at run (final_cut run)) o)) e (final_in_trace run p) in
    let front = some_trace run.activations (words_at run (final_cut run)) proc (final_cut run p) made in
    let stall = stall_is run (final_cut run) p proc front in
    let state = state_is proc (final_cut run p) (words_at run (final_cut run)) in
    let ends = ends_are_counted proc (final_cut run p) (words_at run (final_cut run)) in
    λ i. record { state = sym state i; ends = sym ends i; stall = stall i }

pub outcomes_fit : (net : Net) (behaviors : List Behavior) (inputs : List (List Word)) (n : ℕ) (depths : List ℕ)
    → IsNet net → AreBehaviorsOf net behaviors → EachKeepsTypes behaviors → IsInputs net inputs → n < 2 ^ 32
    → IsOutcome net (outcome_of (run_of net behaviors inputs n depths) (final_cut (run_of net behaviors inputs n depths)))
outcomes_fit net behaviors inputs n depths well fit keep given small = outcome_fits net well behaviors fit keep inputs given n small depths
