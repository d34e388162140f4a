-- What the parts of a machine do.
use Rattle.std.proofs.Common.{◌≡◌, ℕ, zero, suc, ◌+◌, ◌-◌, ◌<◌, List, [], ◌∷◌, ◌++◌, length, refl, sym, ap, ◌∙◌, subst, arith, cond, true, false, Bool, eqb, Option, Some, None}
use Rattle.std.specs.Prelude.{map, slice_get, is_some, unwrap_or, ◌||◌}
use Rattle.std.specs.List.{list_any}
use Rattle.std.proofs.lemmas.List.{length-map}
use Rattle.xb_bits.specs.Word.{Word}
use Rattle.net_core.specs.declared.net.Site.{Site}
use Rattle.block_stage.specs.Machine.Pipeline.{Pipeline, first, count_before}
use Rattle.block_stage.specs.Machine.Cycle as cycle
use Rattle.block_stage.specs.Machine.Cycle.{Circuit, Registers, Transfer, Takes, Gives, stopped, brought, walk_by, if_full, moves_through, stage_regs_after, full_after, kept_after, asserted_by, asserted_through}
use Rattle.block_stage.specs.Machine.Circuits.{stage_by}
use Rattle.block_stage.specs.Machine.Logic.{at2, takes_at}
use Rattle.block_stage.specs.declared.machine.table.Table2.{Table2}
use Rattle.net_samples.specs.declared.blocks.machine.Asserted.{Asserted}
use Rattle.net_samples.specs.declared.blocks.machine.Walk.{Walk}
use Rattle.net_samples.specs.declared.blocks.machine.Ports.{Ports}
use Rattle.net_samples.specs.declared.blocks.sample.Sample.{Sample}
use Rattle.net_samples.specs.Blocks.Samples.{site_of, stage_at, behavior_of, pipeline_of, ports_of}
use Rattle.net_samples.specs.Blocks.Shows.{ShowsAsserted, ShowsWalk, first_some, taken_at}

first_is : (sample : Sample) (opening : Word) (j : ℕ) → count_before (λ i. stage_at (slice_get sample.sites.now i)) j (length sample.sites.now) ≡ first (pipeline_of sample opening) j
unfolding first
first_is sample opening j = ap (λ n. count_before (λ i. stage_at (slice_get sample.sites.now i)) j n) (sym (length-map sample.sites.now site_of))

-- a stage that holds an activation walks along its sites
pub stage_walks : (x : Circuit) (sample : Sample) (opening : Word) (ports : Ports) (c : Registers) (j from left : ℕ) (walk : Walk)
    → c.full j ≡ true
    → from ≡ count_before (λ i. stage_at (slice_get sample.sites.now i)) j (length sample.sites.now)
    → left ≡ count_before (λ i. stage_at (slice_get sample.sites.now i)) (j + 1) (length sample.sites.now) - from
    → ShowsWalk (map site_of sample.sites.now) walk (walk_by x (behavior_of sample) c.done c.kept (ports_of ports) (brought c j).state (brought c j).got from left)
    → ShowsWalk (map site_of sample.sites.now) walk (stage_by x (pipeline_of sample opening) c (ports_of ports) j)
stage_walks x sample opening ports c j from left walk f e d shows =
    let q = pipeline_of sample opening in
    let one : j + 1 ≡ suc j = omega arith in
    let begins : from ≡ first q j = e ∙ first_is sample opening j in
    let ends : left ≡ first q (suc j) - first q j =
    d ∙ ap (λ n. n - from) (first_is sample opening (j + 1) ∙ ap (first q) one) ∙ ap (λ n. first q (suc j) - n) begins in
    let b = brought c j in
    subst (λ t. ShowsWalk (map site_of sample.sites.now) walk (if_full t (first q j) (walk_by x (behavior_of sample) c.done c.kept (ports_of ports) b.state b.got (first q j) (first q (suc j) - first q j)))) (sym f)
    (subst (λ n. ShowsWalk (map site_of sample.sites.now) walk (walk_by x (behavior_of sample) c.done c.kept (ports_of ports) b.state b.got (first q j) n)) ends
    (subst (λ n. ShowsWalk (map site_of sample.sites.now) walk (walk_by x (behavior_of sample) c.done c.kept (ports_of ports) b.state b.got n left)) begins shows))

-- one that holds none does nothing
pub stage_idle : (x : Circuit) (sample : Sample) (opening : Word) (ports : Ports) (c : Registers) (j : ℕ) (walk : Walk) → c.full j ≡ false
    → ((i : ℕ) → ShowsWalk (map site_of sample.sites.now) walk (stopped i [] None))
    → ShowsWalk (map site_of sample.sites.now) walk (stage_by x (pipeline_of sample opening) c (ports_of ports) j)
stage_idle x sample opening ports c j walk f shows =
    let q = pipeline_of sample opening in
    let b = brought c j in
    subst (λ t. ShowsWalk (map site_of sample.sites.now) walk (if_full t (first q j) (walk_by x (behavior_of sample) c.done c.kept (ports_of ports) b.state b.got (first q j) (first q (suc j) - first q j)))) (sym f)
    (shows (first q j))

pub more_asserted : (sites : List Site) (stage_of : ℕ → cycle.Walk) (stage left : ℕ) (asserted : Asserted) → (left ≡ 0 → ⊥)
    → ShowsAsserted sites asserted (asserted_by (stage_of stage) ++ asserted_through stage_of (stage + 1) (left - 1)) → ShowsAsserted sites asserted (asserted_through stage_of stage left)
more_asserted sites stage_of stage zero asserted ne shows = absurd (ne refl)
more_asserted sites stage_of stage (suc n) asserted ne shows =
    let one : stage + 1 ≡ suc stage = omega arith in
    let less : suc n - 1 ≡ n = omega arith in
    subst (λ k. ShowsAsserted sites asserted (asserted_by (stage_of stage) ++ asserted_through stage_of (suc stage) k)) less
    (subst (λ k. ShowsAsserted sites asserted (asserted_by (stage_of stage) ++ asserted_through stage_of k (suc n - 1))) one shows)

pub none_asserted : (sites : List Site) (stage_of : ℕ → cycle.Walk) (stage left : ℕ) (asserted : Asserted) → left ≡ 0
    → ShowsAsserted sites asserted [] → ShowsAsserted sites asserted (asserted_through stage_of stage left)
none_asserted sites stage_of stage zero asserted e shows = shows
none_asserted sites stage_of stage (suc n) asserted e shows = absurd (omega (arith, e))

pub moves_more : (x : Circuit) (full : ℕ → Bool) (stage_of : ℕ → cycle.Walk) (behind stage : ℕ) → (behind ≡ 0 → ⊥)
    → moves_through x full stage_of behind stage
    ≡ x.moves_on (full stage) (is_some (stage_of stage).stall) (full (stage + 1)) (moves_through x full stage_of (behind - 1) (stage + 1))
moves_more x full stage_of zero stage ne = absurd (ne refl)
moves_more x full stage_of (suc n) stage ne =
    let one : suc stage ≡ stage + 1 = omega arith in
    let less : n ≡ suc n - 1 = omega arith in
    ap (λ k. x.moves_on (full stage) (is_some (stage_of stage).stall) (full k) (moves_through x full stage_of n k)) one
    ∙ ap (λ k. x.moves_on (full stage) (is_some (stage_of stage).stall) (full (stage + 1)) (moves_through x full stage_of k (stage + 1))) less

pub moves_last : (x : Circuit) (full : ℕ → Bool) (stage_of : ℕ → cycle.Walk) (behind stage : ℕ) → behind ≡ 0
    → moves_through x full stage_of behind stage ≡ x.leaves (full stage) (is_some (stage_of stage).stall)
moves_last x full stage_of zero stage e = refl
moves_last x full stage_of (suc n) stage e = absurd (omega (arith, e))

pub held_stays : (c : Registers) (stage_of : ℕ → cycle.Walk) (moves : ℕ → Bool) (stage : ℕ) → 0 < stage → moves (stage - 1) ≡ false
    → stage_regs_after c stage_of moves stage ≡ c.stage_regs stage
held_stays c stage_of moves zero l e = absurd (omega (arith, l))
held_stays c stage_of moves (suc j) l e =
    let less : suc j - 1 ≡ j = omega arith in
    let f = ap moves (sym less) ∙ e in rw f refl

pub held_comes : (c : Registers) (stage_of : ℕ → cycle.Walk) (moves : ℕ → Bool) (stage : ℕ) → 0 < stage → moves (stage - 1) ≡ true
    → stage_regs_after c stage_of moves stage ≡ record { state = (brought c (stage - 1)).state; got = (stage_of (stage - 1)).got }
held_comes c stage_of moves zero l e = absurd (omega (arith, l))
held_comes c stage_of moves (suc j) l e =
    let less : j ≡ suc j - 1 = omega arith in
    let f = ap moves less ∙ e in
    (rw f refl) ∙ same j (suc j - 1) less
  where
    same : (i k : ℕ) → i ≡ k → ◌≡◌ {A = cycle.StageEntry} (record { state = (brought c i).state; got = (stage_of i).got }) (record { state = (brought c k).state; got = (stage_of k).got })
    same i k e = ap (λ (n : ℕ). record { state = (brought c n).state; got = (stage_of n).got }) e

pub full_past : (x : Circuit) (q : Pipeline) (c : Registers) (moves : ℕ → Bool) (stage : ℕ) → 0 < stage
    → full_after x q c moves stage ≡ x.full_next (moves (stage - 1)) (c.full stage) (moves stage)
full_past x q c moves zero l = absurd (omega (arith, l))
full_past x q c moves (suc j) l =
    let less : j ≡ suc j - 1 = omega arith in
    ap (λ k. x.full_next (moves k) (c.full (suc j)) (moves (suc j))) less

-- the word that a receive keeps
some_taken : (i : ℕ) (transfers : List Transfer) → is_some (taken_at i transfers) ≡ list_any (takes_at i) transfers
some_taken i [] = refl
some_taken i (Takes k w ∷ transfers) = go (eqb k i) (some_taken i transfers)
  where
    go : (t : Bool) → is_some (taken_at i transfers) ≡ list_any (takes_at i) transfers → is_some (cond t (Some w) (taken_at i transfers)) ≡ (t || list_any (takes_at i) transfers)
    go true e = refl
    go false e = e
some_taken i (Gives k w ∷ transfers) = some_taken i transfers

kept_is : (kept : Word) (i : ℕ) (transfers : List Transfer) → kept_after kept i transfers ≡ unwrap_or (taken_at i transfers) kept
kept_is kept i [] = refl
kept_is kept i (Takes k w ∷ transfers) = go (eqb k i) (kept_is kept i transfers)
  where
    go : (t : Bool) → kept_after kept i transfers ≡ unwrap_or (taken_at i transfers) kept → cond t w (kept_after kept i transfers) ≡ unwrap_or (cond t (Some w) (taken_at i transfers)) kept
    go true e = refl
    go false e = e
kept_is kept i (Gives k w ∷ transfers) = kept_is kept i transfers

either_is : (took valid_word : Option Word) (kept : Word) → unwrap_or took (unwrap_or valid_word kept) ≡ unwrap_or (first_some took valid_word) kept
either_is None valid_word kept = refl
either_is (Some w) valid_word kept = refl

pub keep_is : (keeps : Table2) (kept : Word) (valid_word : Option Word) (i : ℕ) (transfers : List Transfer)
    → cond (at2 keeps (is_some (taken_at i transfers)) (is_some valid_word)) (unwrap_or (first_some (taken_at i transfers) valid_word) kept) kept
    ≡ cond (at2 keeps (list_any (takes_at i) transfers) (is_some valid_word)) (kept_after (unwrap_or valid_word kept) i transfers) kept
keep_is keeps kept valid_word i transfers =
    ap (λ t. cond (at2 keeps t (is_some valid_word)) (unwrap_or (first_some (taken_at i transfers) valid_word) kept) kept) (some_taken i transfers)
    ∙ ap (λ w. cond (at2 keeps (list_any (takes_at i) transfers) (is_some valid_word)) w kept) (sym (kept_is (unwrap_or valid_word kept) i transfers ∙ either_is (taken_at i transfers) valid_word kept))
