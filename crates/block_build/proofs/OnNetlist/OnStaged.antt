-- Which stages the sites of a pipeline stand in, and what an activation has received when it gives the turn back.
use Rattle.std.proofs.Common.{◌≡◌, ℕ, zero, suc, ◌+◌, ◌-◌, ◌<◌, ◌≤◌, List, [], ◌∷◌, length, refl, sym, ap, ◌∙◌, subst, arith, true, false, Some, inl, inr}
use Rattle.std.specs.Prelude.{nat_lt, slice_get, ◌⊎◌}
use Rattle.std.proofs.lemmas.Bool.{cases_lt}
use Rattle.std.proofs.lemmas.Bool.Decides.{nat_tests}
use Rattle.xb_bits.specs.Word.{Word}
use Rattle.xb_value.specs.declared.value.Value.{Value}
use Rattle.net_core.specs.declared.net.Site.{Site}
use Rattle.net_core.specs.Behavior.{Turn, Skip, Receive, Give, IsInDirection}
use Rattle.ir_tree.specs.declared.package.Channel.{Channel}
use Rattle.ir_tree.specs.declared.package.Proc.{Proc}
use Rattle.ir_tree.specs.Activations.{activation}
use Rattle.block_stage.specs.Machine.Pipeline.{Pipeline, IsPipeline, count_before, first}
use Rattle.block_stage.proofs.Lemmas.Machine.{stage_at, first_grows}
use Rattle.block_build.specs.Netlist.Turns.{grown}
use Rattle.block_build.specs.Netlist.Procs.{turns_by_words, gathered}
use Rattle.block_build.specs.Netlist.Nodes.{value_by_words}
use Rattle.block_build.proofs.OnNetlist.OnProcs.{procs_do_what_words_say, next_state_is_by_words, site_count_is}

-- ---- stages

count_none : (stage : ℕ → ℕ) (n : ℕ) → count_before stage 0 n ≡ 0
count_none stage zero = refl
count_none stage (suc n) = let e : nat_lt (stage n) 0 ≡ false = grind (arith, nat_tests) in rw e (count_none stage n)

pub first_none : (q : Pipeline) → first q 0 ≡ 0
unfolding first
first_none q = count_none q.stage (length q.proc.behavior.sites)

count_all : (stage : ℕ → ℕ) (j n : ℕ) → ((i : ℕ) → i < n → stage i < j) → count_before stage j n ≡ n
count_all stage j zero h = refl
count_all stage j (suc n) h =
    let l = h n (omega arith) in
    let here : nat_lt (stage n) j ≡ true = grind (arith, nat_tests, l) in
    let ih = count_all stage j n (λ i x. h i (omega (arith, x))) in
    rw here (omega (arith, ih))

pub first_whole : (q : Pipeline) → IsPipeline q → first q q.stages ≡ length q.proc.behavior.sites
unfolding first
first_whole q is = count_all q.stage q.stages (length q.proc.behavior.sites) is.within

-- a site before the first one of a stage stands in an earlier stage
pub earlier_stage : (q : Pipeline) → IsPipeline q → (i j : ℕ) → i < first q j → q.stage i < j
earlier_stage q is i zero l = absurd (let z = first_none q in omega (arith, l, z))
earlier_stage q is i (suc j) l = split (cases_lt i (first q j)) (λ x. earlier_stage q is i j x)
  where
    split : (i < first q j) ⊎ (first q j ≤ i) → (i < first q j → q.stage i < j) → q.stage i < suc j
    split (inl x) ih = omega (arith, ih x)
    split (inr x) ih = omega (arith, stage_at q is i j x l)

-- any other in it or in a later one
later_stage : (q : Pipeline) → IsPipeline q → (i j d : ℕ) → first q j ≤ i → i < first q (j + d) → j ≤ q.stage i
later_stage q is i j zero h l = absurd (let e : j + 0 ≡ j = omega arith in let same = ap (first q) e in omega (arith, same, h, l))
later_stage q is i j (suc d) h l = split (cases_lt i (first q (j + d))) (λ x. later_stage q is i j d h x)
  where
    split : (i < first q (j + d)) ⊎ (first q (j + d) ≤ i) → (i < first q (j + d) → j ≤ q.stage i) → j ≤ q.stage i
    split (inl x) ih = ih x
    split (inr x) ih =
        let e : j + suc d ≡ suc (j + d) = omega arith in
        let at = stage_at q is i (j + d) x (subst (λ n. i < first q n) e l) in
        omega (arith, at)

-- ---- behind the stage in which an activation gives the turn back nothing is received

site_at : (sites : List Site) (i : ℕ) → i < length sites → (site : Site) × (slice_get sites i ≡ Some site)
site_at [] i l = absurd (omega (arith, l))
site_at (x ∷ sites) zero l = (x, refl)
site_at (x ∷ sites) (suc i) l = site_at sites i (omega (arith, l))

never_grown : (turn : Turn) (site : Site) (w : Word) (got : List Word) → IsInDirection site turn → (site.sends ≡ false → ⊥) → grown turn w got ≡ got
never_grown Skip site w got is never = refl
never_grown Receive site w got is never = absurd (never is)
never_grown (Give u) site w got is never = refl

gathered_past : (channels : List Channel) (proc : Proc) (q : Pipeline) → activation channels proc ≡ q.proc.behavior → IsPipeline q → (s : Value) (words : ℕ → Word) (n : ℕ) → first q (suc q.last) + n ≤ length q.proc.behavior.sites
    → gathered (turns_by_words channels proc.nodes s words) words (first q (suc q.last) + n) ≡ gathered (turns_by_words channels proc.nodes s words) words (first q (suc q.last))
gathered_past channels proc q e is s words zero l = let same : first q (suc q.last) + 0 ≡ first q (suc q.last) = omega arith in ap (gathered (turns_by_words channels proc.nodes s words) words) same
gathered_past channels proc q e is s words (suc n) l =
    let turns = turns_by_words channels proc.nodes s words in
    let x = first q (suc q.last) + n in
    let next : first q (suc q.last) + suc n ≡ suc x = omega arith in
    let site = site_at q.proc.behavior.sites x (omega (arith, l)) in
    let said : q.proc.behavior.turn s (gathered turns words x) x ≡ turns x = sym (ap (λ b. b.turn s (gathered turns words x) x) e) ∙ procs_do_what_words_say channels proc s words x in
    let last = is.last in
    let whole = first_whole q is in
    let all : suc q.last + (q.stages - suc q.last) ≡ q.stages = omega (arith, last) in
    let late : suc q.last ≤ q.stage x = later_stage q is x (suc q.last) (q.stages - suc q.last) (omega arith) (subst (λ j. x < first q j) (sym all) (omega (arith, l, whole))) in
    ap (gathered turns words) next
    ∙ never_grown (turns x) site.0 (words x) (gathered turns words x) (subst (IsInDirection site.0) said (is.directions s (gathered turns words x) x site.0 site.1))
    (λ sends. let early = is.receives x site.0 site.1 sends in omega (arith, early, late))
    ∙ gathered_past channels proc q e is s words n (omega (arith, l))

-- so the next state is the value of its operand by the words received by then
pub next_state_is : (channels : List Channel) (proc : Proc) (q : Pipeline) → activation channels proc ≡ q.proc.behavior → IsPipeline q → (s : Value) (words : ℕ → Word)
    → q.proc.behavior.next_state s (gathered (turns_by_words channels proc.nodes s words) words (first q (suc q.last))) ≡ value_by_words channels proc.nodes s words proc.next
next_state_is channels proc q e is s words =
    let turns = turns_by_words channels proc.nodes s words in
    let count : length (activation channels proc).sites ≡ length q.proc.behavior.sites = ap (λ b. length b.sites) e in
    let last = is.last in
    let within = first_grows q is (suc q.last) q.stages (omega (arith, last)) in
    let whole = first_whole q is in
    let rest : first q (suc q.last) + (length q.proc.behavior.sites - first q (suc q.last)) ≡ length q.proc.behavior.sites = omega (arith, within, whole) in
    let more : first q (suc q.last) + (length q.proc.behavior.sites - first q (suc q.last)) ≤ length q.proc.behavior.sites = omega (arith, rest) in
    let sites = site_count_is channels proc in
    ap (q.proc.behavior.next_state s) (sym (gathered_past channels proc q e is s words (length q.proc.behavior.sites - first q (suc q.last)) more))
    ∙ sym (ap (λ b. b.next_state s (gathered turns words (first q (suc q.last) + (length q.proc.behavior.sites - first q (suc q.last))))) e)
    ∙ next_state_is_by_words channels proc s words (first q (suc q.last) + (length q.proc.behavior.sites - first q (suc q.last))) (omega (arith, rest, count, sites))
