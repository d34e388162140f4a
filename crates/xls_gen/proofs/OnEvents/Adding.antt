-- Sums over the numbers below a bound.
use Rattle.std.proofs.Common.{◌≡◌, ◌≢◌, ◌<◌, ◌≤◌, ◌+◌, ℕ, zero, suc, Bool, true, false, cond, eqb, refl, sym, ap, ◌∙◌, arith, inl, inr}
use Rattle.std.specs.Prelude.{◌⊎◌}
use Rattle.std.proofs.lemmas.Bool.{cases_eq}
use Rattle.std.proofs.lemmas.Bool.Decides.{nat_tests}
use Rattle.xls_gen.specs.Events.{added_below}

pub eqb_same : (m n : ℕ) → m ≡ n → eqb m n ≡ true
eqb_same m n h = grind (arith, nat_tests)

pub eqb_differs : (m n : ℕ) → m ≢ n → eqb m n ≡ false
eqb_differs m n h = grind (arith, nat_tests)

pub same_by_test : (m n : ℕ) → eqb m n ≡ true → m ≡ n
same_by_test m n h = grind (arith, nat_tests)

pub added_same : (f g : ℕ → ℕ) (n : ℕ) → ((k : ℕ) → k < n → f k ≡ g k) → added_below f n ≡ added_below g n
added_same f g zero h = refl
added_same f g (suc n) h = omega (arith, added_same f g n (λ k l. h k (omega (arith, l))), h n (omega arith))

pub added_none : (f : ℕ → ℕ) (n : ℕ) → ((k : ℕ) → k < n → f k ≡ 0) → added_below f n ≡ 0
added_none f zero h = refl
added_none f (suc n) h = omega (arith, added_none f n (λ k l. h k (omega (arith, l))), h n (omega arith))

-- of a function that is 0 elsewhere the sum is the one number
pub added_one : (f : ℕ → ℕ) (q n : ℕ) → ((k : ℕ) → k ≢ q → f k ≡ 0) → (n ≤ q → f q ≡ 0) → added_below f n ≡ f q
added_one f q zero h past = sym (past (omega arith))
added_one f q (suc n) h past = go (λ p. added_one f q n h p) (cases_eq n q)
  where
    go : ((n ≤ q → f q ≡ 0) → added_below f n ≡ f q) → (n ≡ q) ⊎ (n ≡ q → ⊥) → added_below f n + f n ≡ f q
    go ih (inl e) =
        let none = added_none f n (λ k l. h k (omega (arith, l, e))) in
        let here = ap f e in
        omega (arith, none, here)
    go ih (inr other) =
        let rest = ih (λ l. past (omega (arith, l, other))) in
        let none = h n other in
        omega (arith, rest, none)

pub added_both : (f g : ℕ → ℕ) (n : ℕ) → added_below (λ k. f k + g k) n ≡ added_below f n + added_below g n
added_both f g zero = omega arith
added_both f g (suc n) = omega (arith, added_both f g n)

-- over two bounds, in either order
pub added_swap : (g : ℕ → ℕ → ℕ) (m n : ℕ) → added_below (λ c. added_below (λ p. g p c) m) n ≡ added_below (λ p. added_below (λ c. g p c) n) m
added_swap g m zero = sym (added_none (λ p. 0) m (λ k l. refl))
added_swap g m (suc n) =
    let rest = added_swap g m n in
    let both = added_both (λ p. added_below (λ c. g p c) n) (λ p. g p n) m in
    omega (arith, rest, both)

cond_other : (b : Bool) (k : ℕ) → b ≡ false → cond b (suc k) k ≡ k
cond_other true k h = cc
cond_other false k h = refl

cond_here : (b : Bool) (k : ℕ) → b ≡ true → cond b (suc k) k ≡ suc k
cond_here true k h = refl
cond_here false k h = cc

-- one more at one number
pub added_more : (f g : ℕ → ℕ) (d n : ℕ) → d < n → ((k : ℕ) → g k ≡ cond (eqb d k) (suc (f k)) (f k)) → added_below g n ≡ suc (added_below f n)
added_more f g d zero l h = absurd (omega (arith, l))
added_more f g d (suc n) l h = go (λ m. added_more f g d n m h) (cases_eq d n)
  where
    go : (d < n → added_below g n ≡ suc (added_below f n)) → (d ≡ n) ⊎ (d ≡ n → ⊥) → added_below g n + g n ≡ suc (added_below f n + f n)
    go ih (inl e) =
        let below = added_same g f n (λ k m. h k ∙ cond_other (eqb d k) (f k) (eqb_differs d k (λ same. absurd (omega (arith, same, e, m))))) in
        let here = h n ∙ cond_here (eqb d n) (f n) (eqb_same d n e) in
        omega (arith, below, here)
    go ih (inr other) =
        let below = ih (omega (arith, l, other)) in
        let here = h n ∙ cond_other (eqb d n) (f n) (eqb_differs d n other) in
        omega (arith, below, here)
