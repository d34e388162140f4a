-- What follows from the invariant.
use Rattle.std.proofs.Common.{◌≡◌, ℕ, zero, suc, ◌+◌, ◌-◌, ◌<◌, ◌≤◌, List, [], ◌∷◌, ◌++◌, length, refl, sym, ap, ◌∙◌, subst, arith, true, false, append_assoc}
use Rattle.std.proofs.Math.Path.{fun_ext}
use Rattle.std.proofs.lemmas.List.{append-nil}
use Rattle.xb_bits.specs.Word.{Word}
use Rattle.net_core.specs.declared.event.Event.{Event}
use Rattle.net_core.specs.Trace.{trace}
use Rattle.base.specs.Lists.Prefix.{IsPrefix}
use Rattle.base.proofs.Lemmas.Lists.Prefixes.{IsPrefix-append, IsPrefix-refl}
use Rattle.net_core.specs.Cuts.{words_sent, count_received}
use Rattle.net_core.proofs.Lemmas.{only_words_are_received}
use Rattle.block_stage.specs.Machine.Pipeline.{Pipeline, IsPipeline}
use Rattle.block_stage.specs.Machine.Cycle.{Ports, opened}
use Rattle.block_stage.specs.Machine.Since.{Since, at_reset, one_more, after_cycles}
use Rattle.block_stage.proofs.OnMachine.Choices.{eq_apart}
use Rattle.block_stage.proofs.OnMachine.Lefts.{words_sent-append, count_received-append}
use Rattle.block_stage.proofs.OnMachine.Holding.{Act, IsHeld, IsClean, begins}
use Rattle.block_stage.proofs.OnMachine.Gathering.{gather, gather_none}
use Rattle.block_stage.proofs.OnMachine.Standing.{Past, Stands, left_of, stage_entry_of, stages_past, trace_on}
use Rattle.block_stage.proofs.OnMachine.Steps.{trace_begins, stands_next}

first_act : Pipeline → Act
first_act q = record { state = q.proc.opening; got = []; place = 0 }

-- nothing has happened
pub past_at_reset : Pipeline → Past
past_at_reset q = record { acts = λ j. record { state = q.proc.opening; got = []; place = 0 }; open_stage = 0; events = []; ends = 0; ended = []; gone = [] }

full_at_reset : (q : Pipeline) (j : ℕ) → (opened q).full (suc j) ≡ false
unfolding opened
full_at_reset q j = eq_apart (suc j) 0 (λ e. omega arith)

reset_clean : (q : Pipeline) (j : ℕ) → IsClean q (opened q) j
unfolding opened
reset_clean q j k l r = refl

reset_here : (q : Pipeline) → (opened q).full 0 ≡ true
unfolding opened
reset_here q = refl

reset_state : (q : Pipeline) → (opened q).state ≡ q.proc.opening
unfolding opened
reset_state q = refl

pub stands_at_reset : (q : Pipeline) → IsPipeline q → Stands q (at_reset q) 0 (past_at_reset q)
unfolding past_at_reset
stands_at_reset q is = record {
  stage_regs = stage_regs;
  turn = record { within = omega arith; here = reset_here q; alone = alone };
  traces = λ n k l e more. (let h : n ≡ k = omega arith in rw h (trace_begins q.proc.behavior k q.proc.opening more));
  owes = λ ch. ap (words_sent q.proc.behavior.sites ch) (sym (none_inside (λ j. left_of q (record { state = q.proc.opening; got = []; place = 0 })) (stages_past q) q.last));
  receives = λ ch. unfold count_received in refl;
  few = omega arith;
  older = sym (none_inside (λ j. stage_entry_of (record { state = q.proc.opening; got = []; place = 0 })) (stages_past q) q.last);
  counted = refl;
}
  where
    stage_regs : (j : ℕ) → j < q.stages → IsHeld q (opened q) j (record { state = q.proc.opening; got = []; place = 0 })
    stage_regs zero l = record { full = λ t. begins q is (opened q) q.proc.opening (reset_state q) (reset_clean q 0); free = λ t. reset_clean q 0 }
    stage_regs (suc j) l = record { full = λ t. absurd (let f = full_at_reset q j in cc); free = λ t. reset_clean q (suc j) }

    alone : (j : ℕ) → j ≤ q.last → (j ≡ 0 → ⊥) → (opened q).full j ≡ false
    alone zero l ne = absurd (ne refl)
    alone (suc j) l ne = full_at_reset q j

    none_inside : {A : Type 0} (f : ℕ → List A) (n k : ℕ) → gather f (opened q).full (suc k) n ≡ []
    none_inside f n k = gather_none f (opened q).full n (suc k) (λ j a z t. absurd (is_off j a t))
      where
        is_off : (j : ℕ) → suc k ≤ j → (opened q).full j ≡ true → ⊥
        is_off zero a t = omega arith
        is_off (suc j) a t = let f = full_at_reset q j in cc

-- after any cycles
stands_after : (q : Pipeline) → IsPipeline q → (ports : List Ports) (since : Since) (cycles : ℕ) (past : Past) → Stands q since cycles past
    → (later : Past) × Stands q (after_cycles q since ports) (length ports + cycles) later
stands_after q is [] since cycles past st = let h : cycles ≡ 0 + cycles = omega arith in (past, subst (λ n. Stands q since n past) h st)
stands_after q is (p ∷ ports) since cycles past st =
    let h : length ports + suc cycles ≡ suc (length ports) + cycles = omega arith in
    let r = stands_after q is ports (one_more q since p) (suc cycles) _ (stands_next q is since cycles past st p) in
    (r.0, subst (λ n. Stands q (after_cycles q (one_more q since p) ports) n r.0) h r.1)

pub stands : (q : Pipeline) → IsPipeline q → (ports : List Ports) → (past : Past) × Stands q (after_cycles q (at_reset q) ports) (length ports) past
stands q is ports =
    let r = stands_after q is ports (at_reset q) 0 (past_at_reset q) (stands_at_reset q is) in
    let h : length ports + 0 ≡ length ports = omega arith in
    (r.0, subst (λ n. Stands q (after_cycles q (at_reset q) ports) n r.0) h r.1)

prefix_of : {A : Type 0} (xs ys zs : List A) → zs ≡ xs ++ ys → IsPrefix xs zs
prefix_of xs ys zs e = subst (IsPrefix xs) (sym e) (IsPrefix-append xs ys)

-- the trace over what was received
whole : (q : Pipeline) (since : Since) (cycles : ℕ) (past : Past) → Stands q since cycles past → (n : ℕ) → cycles ≤ n
    → (es : List Event) × (trace q.proc.behavior n q.proc.opening since.received ≡ past.events ++ es)
whole q since cycles past st n l =
    let f = st.few in
    let e : n ≡ past.ends + (n - past.ends) = omega arith in
    let same = fun_ext {A = ℕ} {B = λ _. List Word} {f = λ ch. since.received ch ++ []} {g = since.received} (λ ch. append-nil (since.received ch)) in (
      trace_on q.proc.behavior (n - past.ends) (past.acts past.open_stage) (λ ch. []),
      ap (trace q.proc.behavior n q.proc.opening) (sym same) ∙ st.traces n (n - past.ends) l e (λ ch. []),
    )

-- what was sent on a channel is a prefix of what the trace sends
pub sent_is_prefix : (q : Pipeline) → IsPipeline q → (ports : List Ports) (n ch : ℕ) → length ports ≤ n
    → IsPrefix ((after_cycles q (at_reset q) ports).sent ch) (words_sent q.proc.behavior.sites ch (trace q.proc.behavior n q.proc.opening (after_cycles q (at_reset q) ports).received))
sent_is_prefix q is ports n ch l =
    let s = stands q is ports in
    let w = whole q (after_cycles q (at_reset q) ports) (length ports) s.0 s.1 n l in
    prefix_of _ _ _ (ap (words_sent q.proc.behavior.sites ch) w.1 ∙ words_sent-append q.proc.behavior.sites ch s.0.events w.0 ∙ ap (λ x. x ++ words_sent q.proc.behavior.sites ch w.0) (s.1.owes ch)
    ∙ append_assoc ((after_cycles q (at_reset q) ports).sent ch) _ _)

-- what was received on a channel, the trace receives
pub received_is_least : (q : Pipeline) → IsPipeline q → (ports : List Ports) (n ch : ℕ) → length ports ≤ n
    → length ((after_cycles q (at_reset q) ports).received ch) ≤ count_received q.proc.behavior.sites ch (trace q.proc.behavior n q.proc.opening (after_cycles q (at_reset q) ports).received)
received_is_least q is ports n ch l =
    let s = stands q is ports in
    let w = whole q (after_cycles q (at_reset q) ports) (length ports) s.0 s.1 n l in
    let a = ap (count_received q.proc.behavior.sites ch) w.1 in
    let b = count_received-append q.proc.behavior.sites ch s.0.events w.0 in
    let r = s.1.receives ch in
    omega (arith, a, b, r)

pub sent_words_are_a_prefix : (q : Pipeline) → IsPipeline q → (cycles : List Ports) (n chan : ℕ) → length cycles ≤ n
    → IsPrefix ((after_cycles q (at_reset q) cycles).sent chan) (words_sent q.proc.behavior.sites chan (trace q.proc.behavior n q.proc.opening (after_cycles q (at_reset q) cycles).received))
sent_words_are_a_prefix q is cycles n chan l = sent_is_prefix q is cycles n chan l

-- and no more, since there are no more
pub received_words_are_the_traces : (q : Pipeline) → IsPipeline q → (cycles : List Ports) (n chan : ℕ) → length cycles ≤ n
    → count_received q.proc.behavior.sites chan (trace q.proc.behavior n q.proc.opening (after_cycles q (at_reset q) cycles).received) ≡ length ((after_cycles q (at_reset q) cycles).received chan)
received_words_are_the_traces q is cycles n chan l =
    let words = (after_cycles q (at_reset q) cycles).received in
    let all = trace q.proc.behavior n q.proc.opening words in
    let least = received_is_least q is cycles n chan l in
    let most = only_words_are_received q.proc n words all (IsPrefix-refl all) chan in
    omega (arith, least, most)
