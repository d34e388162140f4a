-- The places of a stage.
use Rattle.std.proofs.Common.{◌≡◌, ℕ, zero, suc, ◌+◌, ◌-◌, ◌<◌, ◌≤◌, List, length, refl, ap, subst, arith, cond, true, false, Bool}
use Rattle.std.specs.Prelude.{nat_lt, ◌⊎◌}
use Rattle.std.proofs.Common.{inl, inr}
use Rattle.std.proofs.lemmas.Bool.{cases_lt}
use Rattle.std.proofs.lemmas.Bool.Decides.{nat_tests}
use Rattle.xb_bits.specs.Word.{Word}
use Rattle.xb_value.specs.declared.value.Value.{Value}
use Rattle.net_core.specs.Behavior.{Behavior, IsInDirection, Receive}
use Rattle.block_stage.specs.Machine.Pipeline.{Pipeline, IsPipeline, count_before, first}
use Rattle.block_stage.proofs.OnMachine.Rests.{site_at}

abbrev IsOrdered : (ℕ → ℕ) → ℕ → Type 0
IsOrdered stage n = (i k : ℕ) → i ≤ k → k < n → stage i ≤ stage k

lt_true : (a b : ℕ) → a < b → nat_lt a b ≡ true
lt_true a b h = grind (arith, nat_tests)

lt_false : (a b : ℕ) → b ≤ a → nat_lt a b ≡ false
lt_false a b h = grind (arith, nat_tests)

count_le : (stage : ℕ → ℕ) (j n : ℕ) → count_before stage j n ≤ n
count_le stage j zero = omega arith
count_le stage j (suc n) = go (nat_lt (stage n) j) (count_le stage j n)
  where
    go : (t : Bool) → count_before stage j n ≤ n → cond t (suc (count_before stage j n)) (count_before stage j n) ≤ suc n
    go true h = omega (arith, h)
    go false h = omega (arith, h)

count_all : (stage : ℕ → ℕ) (j n : ℕ) → ((i : ℕ) → i < n → stage i < j) → count_before stage j n ≡ n
count_all stage j zero h = refl
count_all stage j (suc n) h =
    let here = lt_true (stage n) j (h n (omega arith)) in
    let ih = count_all stage j n (λ i l. h i (omega arith)) in
    rw here (omega (arith, ih))

count_before-lt : (stage : ℕ → ℕ) (j n : ℕ) → IsOrdered stage n → (i : ℕ) → i < n → stage i < j → i < count_before stage j n
count_before-lt stage j zero o i l h = absurd (omega (arith, l))
count_before-lt stage j (suc n) o i l h =
    go (cases_lt (stage n) j) (λ x. count_before-lt stage j n (λ a b c d. o a b c (omega arith)) i x h)
  where
    go : (stage n < j) ⊎ (j ≤ stage n) → (i < n → i < count_before stage j n) → i < cond (nat_lt (stage n) j) (suc (count_before stage j n)) (count_before stage j n)
    go (inl t) ih =
        let e = lt_true (stage n) j t in
        let all = count_all stage j n (λ k x. let y = o k n (omega arith) (omega arith) in omega arith) in
        rw e (omega (arith, all))
    go (inr t) ih =
        let e = lt_false (stage n) j t in
        rw e (ih (apart (cases_lt i n)))
      where
        apart : (i < n) ⊎ (n ≤ i) → i < n
        apart (inl x) = x
        apart (inr x) = let q : i ≡ n = omega arith in absurd (let y = ap stage q in omega arith)

count_before-le : (stage : ℕ → ℕ) (j n : ℕ) → IsOrdered stage n → (i : ℕ) → i < n → j ≤ stage i → count_before stage j n ≤ i
count_before-le stage j zero o i l h = absurd (omega (arith, l))
count_before-le stage j (suc n) o i l h =
    go (cases_lt (stage n) j) (λ x. count_before-le stage j n (λ a b c d. o a b c (omega arith)) i x h)
  where
    go : (stage n < j) ⊎ (j ≤ stage n) → (i < n → count_before stage j n ≤ i) → cond (nat_lt (stage n) j) (suc (count_before stage j n)) (count_before stage j n) ≤ i
    go (inl t) ih = absurd (let y = o i n (omega arith) (omega arith) in omega arith)
    go (inr t) ih =
        let e = lt_false (stage n) j t in
        rw e (apart (cases_lt i n))
      where
        apart : (i < n) ⊎ (n ≤ i) → count_before stage j n ≤ i
        apart (inl x) = ih x
        apart (inr x) = let y = count_le stage j n in omega arith

ordered_on : (stage : ℕ → ℕ) (n : ℕ) → ((i : ℕ) → suc i < n → stage i ≤ stage (suc i)) → (d i k : ℕ) → i + d ≡ k → k < n → stage i ≤ stage k
ordered_on stage n h zero i k e l = let q : i ≡ k = omega arith in rw q (omega arith)
ordered_on stage n h (suc d) i k e l =
    let ih = ordered_on stage n h d (suc i) k (omega arith) l in
    let step = h i (omega arith) in
    omega arith

is_ordered : (q : Pipeline) → IsPipeline q → IsOrdered q.stage (length q.proc.behavior.sites)
is_ordered q is i k l h = ordered_on q.stage (length q.proc.behavior.sites) is.ordered (k - i) i k (omega arith) h

-- a site of an earlier stage stands before the first place of a stage
pub stands_before : (q : Pipeline) → IsPipeline q → (i j : ℕ) → i < length q.proc.behavior.sites → q.stage i < j → i < first q j
unfolding first
stands_before q is i j l h = count_before-lt q.stage j (length q.proc.behavior.sites) (is_ordered q is) i l h

-- one of the stage or a later one doesn't
pub stands_behind : (q : Pipeline) → IsPipeline q → (i j : ℕ) → i < length q.proc.behavior.sites → j ≤ q.stage i → first q j ≤ i
unfolding first
stands_behind q is i j l h = count_before-le q.stage j (length q.proc.behavior.sites) (is_ordered q is) i l h

pub first_within : (q : Pipeline) (j : ℕ) → first q j ≤ length q.proc.behavior.sites
unfolding first
first_within q j = count_le q.stage j (length q.proc.behavior.sites)

pub stage_from : (q : Pipeline) → IsPipeline q → (i j : ℕ) → i < length q.proc.behavior.sites → first q j ≤ i → j ≤ q.stage i
stage_from q is i j l h = go (cases_lt (q.stage i) j)
  where
    go : (q.stage i < j) ⊎ (j ≤ q.stage i) → j ≤ q.stage i
    go (inl x) = absurd (let y = stands_before q is i j l x in omega arith)
    go (inr x) = x

pub stage_until : (q : Pipeline) → IsPipeline q → (i j : ℕ) → i < length q.proc.behavior.sites → i < first q j → q.stage i < j
stage_until q is i j l h = go (cases_lt (q.stage i) j)
  where
    go : (q.stage i < j) ⊎ (j ≤ q.stage i) → q.stage i < j
    go (inl x) = x
    go (inr x) = absurd (let y = stands_behind q is i j l x in omega arith)

pub first_zero : (q : Pipeline) → IsPipeline q → first q 0 ≡ 0
first_zero q is = go (cases_lt 0 (length q.proc.behavior.sites))
  where
    go : (0 < length q.proc.behavior.sites) ⊎ (length q.proc.behavior.sites ≤ 0) → first q 0 ≡ 0
    go (inl l) = let h = stands_behind q is 0 0 l (omega arith) in omega arith
    go (inr l) = let h = first_within q 0 in omega arith

pub first_all : (q : Pipeline) → IsPipeline q → first q q.stages ≡ length q.proc.behavior.sites
first_all q is = go (length q.proc.behavior.sites) refl
  where
    go : (n : ℕ) → length q.proc.behavior.sites ≡ n → first q q.stages ≡ length q.proc.behavior.sites
    go zero e = let h = first_within q q.stages in omega arith
    go (suc n) e =
        let l : n < length q.proc.behavior.sites = omega arith in
        let h = stands_before q is n q.stages l (is.within n l) in
        let r = first_within q q.stages in omega arith

pub first_grows : (q : Pipeline) → IsPipeline q → (j k : ℕ) → j ≤ k → first q j ≤ first q k
first_grows q is j k l = go (first q j) refl
  where
    go : (n : ℕ) → first q j ≡ n → first q j ≤ first q k
    go zero e = omega arith
    go (suc n) e =
        let w = first_within q j in
        let len : n < length q.proc.behavior.sites = omega arith in
        let before = stage_until q is n j len (omega arith) in
        let h = stands_before q is n k len (omega arith) in
        omega arith

-- the stage of a place between
pub stage_at : (q : Pipeline) → IsPipeline q → (i j : ℕ) → first q j ≤ i → i < first q (suc j) → q.stage i ≡ j
stage_at q is i j l h =
    let w = first_within q (suc j) in
    let len : i < length q.proc.behavior.sites = omega arith in
    let a = stage_from q is i j len l in
    let b = stage_until q is i (suc j) len h in
    omega arith

-- from this place on nothing receives
abbrev pub NoReceive : Behavior → ℕ → Type 0
NoReceive b a = (s : Value) (got : List Word) (i : ℕ) → a ≤ i → i < length b.sites → b.turn s got i ≡ Receive → ⊥

pub no_receive : (q : Pipeline) → IsPipeline q → NoReceive q.proc.behavior (first q (suc q.last))
no_receive q is s got i l h t =
    let r = site_at q.proc.behavior.sites i h in
    let fits = subst (IsInDirection r.0) t (is.directions s got i r.0 r.1.here) in
    let late = is.receives i r.0 r.1.here fits in
    let far = stage_from q is i (suc q.last) h l in
    omega arith
