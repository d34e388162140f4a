-- What stages hold, gathered from the final one backwards.
use Rattle.std.proofs.Common.{◌≡◌, ℕ, zero, suc, ◌+◌, ◌<◌, ◌≤◌, List, [], ◌++◌, refl, sym, ap, ◌∙◌, arith, cond, true, false, Bool, append_assoc}
use Rattle.std.specs.Prelude.{◌||◌, ◌&&◌, not, ◌⊎◌}
use Rattle.std.proofs.Common.{inl, inr}
use Rattle.std.proofs.lemmas.Bool.{cases_lt}
use Rattle.std.proofs.lemmas.List.{append-nil}

-- of so many stages from k on, those behind first
abbrev pub gather : {A : Type 0} → (ℕ → List A) → (ℕ → Bool) → ℕ → ℕ → List A
gather f full k zero = []
gather f full k (suc n) = gather f full (suc k) n ++ cond (full k) (f k) []

one_stage : {A : Type 0} (out xs ys a b : List A) (mk fn mn : Bool) → (mk ≡ true → fn ≡ true → mn ≡ true) → (mn ≡ true → fn ≡ true)
    → out ++ xs ≡ ys ++ cond mn b []
    → out ++ (xs ++ cond (mk || (fn && not mn)) (cond mk a b) []) ≡ (ys ++ cond fn b []) ++ cond mk a []
one_stage out xs ys a b true true true h g ih = sym (append_assoc out xs a) ∙ ap (λ z. z ++ a) ih
one_stage out xs ys a b true true false h g ih = absurd (let x = h refl refl in cc)
one_stage out xs ys a b true false true h g ih = absurd (let x = g refl in cc)
one_stage out xs ys a b true false false h g ih = sym (append_assoc out xs a) ∙ ap (λ z. z ++ a) ih
one_stage out xs ys a b false true true h g ih = ap (λ z. out ++ z) (append-nil xs) ∙ ih ∙ sym (append-nil (ys ++ b))
one_stage out xs ys a b false true false h g ih =
    sym (append_assoc out xs b) ∙ ap (λ z. z ++ b) ih ∙ ap (λ z. z ++ b) (append-nil ys) ∙ sym (append-nil (ys ++ b))
one_stage out xs ys a b false false true h g ih = absurd (let x = g refl in cc)
one_stage out xs ys a b false false false h g ih = ap (λ z. out ++ z) (append-nil xs) ∙ ih ∙ sym (append-nil (ys ++ []))

-- moving keeps the order: what comes into the first of these stages is gathered last, what leaves the final one first
pub order_kept : {A : Type 0} (f f' : ℕ → List A) (full full' moves : ℕ → Bool) (top : ℕ)
    → ((j : ℕ) → j < top → moves j ≡ true → full (suc j) ≡ true → moves (suc j) ≡ true)
    → ((j : ℕ) → moves j ≡ true → full j ≡ true)
    → ((j : ℕ) → full' (suc j) ≡ (moves j || (full (suc j) && not (moves (suc j)))))
    → ((j : ℕ) → f' (suc j) ≡ cond (moves j) (f j) (f (suc j)))
    → (n k : ℕ) → k + n ≡ top
    → cond (moves top) (f top) [] ++ gather f' full' (suc k) n ≡ gather f full (suc k) n ++ cond (moves k) (f k) []
order_kept f f' full full' moves top free stage_regs fulls fs zero k e =
    let h : k ≡ top = omega arith in
    rw h (append-nil (cond (moves top) (f top) []))
order_kept f f' full full' moves top free stage_regs fulls fs (suc n) k e =
    let ih = order_kept f f' full full' moves top free stage_regs fulls fs n (suc k) (omega arith) in
    ap (λ x. cond (moves top) (f top) [] ++ (gather f' full' (suc (suc k)) n ++ x)) (ap (λ t. cond t (f' (suc k)) []) (fulls k) ∙ ap (λ x. cond (moves k || (full (suc k) && not (moves (suc k)))) x []) (fs k))
    ∙ one_stage (cond (moves top) (f top) []) (gather f' full' (suc (suc k)) n) (gather f full (suc (suc k)) n) (f k) (f (suc k)) (moves k) (full (suc k)) (moves (suc k))
    (free k (omega arith)) (stage_regs (suc k)) ih

-- what a function gives at so many stages from k on
abbrev pub all_of : {A : Type 0} → (ℕ → List A) → ℕ → ℕ → List A
all_of g k zero = []
all_of g k (suc n) = g k ++ all_of g (suc k) n

pub all_none : {A : Type 0} (g : ℕ → List A) (n k : ℕ) → ((j : ℕ) → k ≤ j → j < k + n → g j ≡ []) → all_of g k n ≡ []
all_none g zero k h = refl
all_none g (suc n) k h =
    let here = h k (omega arith) (omega arith) in
    rw here (all_none g n (suc k) (λ j l r. h j (omega arith) (omega arith)))

pub gather_none : {A : Type 0} (f : ℕ → List A) (full : ℕ → Bool) (n k : ℕ) → ((j : ℕ) → k ≤ j → j < k + n → full j ≡ true → f j ≡ []) → gather f full k n ≡ []
gather_none f full zero k h = refl
gather_none f full (suc n) k h =
    let ih = gather_none f full n (suc k) (λ j l r. h j (omega arith) (omega arith)) in
    rw ih (go (full k) (h k (omega arith) (omega arith)))
  where
    go : (t : Bool) → (t ≡ true → f k ≡ []) → cond t (f k) [] ≡ []
    go true e = e refl
    go false e = refl

pub gather_same : {A : Type 0} (f g : ℕ → List A) (full : ℕ → Bool) (n k : ℕ) → ((j : ℕ) → k ≤ j → j < k + n → full j ≡ true → f j ≡ g j) → gather f full k n ≡ gather g full k n
gather_same f g full zero k h = refl
gather_same f g full (suc n) k h =
    let ih = gather_same f g full n (suc k) (λ j l r. h j (omega arith) (omega arith)) in
    ap (λ x. x ++ cond (full k) (f k) []) ih ∙ ap (λ x. gather g full (suc k) n ++ x) (go (full k) (h k (omega arith) (omega arith)))
  where
    go : (t : Bool) → (t ≡ true → f k ≡ g k) → cond t (f k) [] ≡ cond t (g k) []
    go true e = e refl
    go false e = refl

-- only one of these stages gives something
pub all_only : {A : Type 0} (g : ℕ → List A) (o n k : ℕ) → k ≤ o → o < k + n → ((j : ℕ) → k ≤ j → j < k + n → (j ≡ o → ⊥) → g j ≡ []) → all_of g k n ≡ g o
all_only g o zero k l r h = absurd (omega arith)
all_only g o (suc n) k l r h = go (cases_lt k o) (λ a. all_only g o n (suc k) (omega arith) (omega arith) (λ j x y ne. h j (omega arith) (omega arith) ne))
  where
    go : (k < o) ⊎ (o ≤ k) → (k < o → all_of g (suc k) n ≡ g o) → g k ++ all_of g (suc k) n ≡ g o
    go (inr a) ih =
        let e : k ≡ o = omega arith in
        let rest = all_none g n (suc k) (λ j x y. h j (omega arith) (omega arith) (λ z. omega arith)) in
        rw rest (append-nil (g k) ∙ ap g e)
    go (inl a) ih =
        let here = h k (omega arith) (omega arith) (λ x. omega arith) in
        rw here (ih a)

one_passes : {A : Type 0} (s r w g x : List A) (t : Bool) → (t ≡ true → w ≡ g ++ x) → (t ≡ false → g ≡ []) → (g ≡ []) ⊎ ((s ≡ []) × (r ≡ []))
    → (s ++ r) ++ cond t w [] ≡ (g ++ s) ++ (r ++ cond t x [])
one_passes s r w g x false h n c = let e = n refl in rw e (append_assoc s r [])
one_passes s r w g x true h n (inl e) = let q = h refl in rw (q, e) (append_assoc s r x)
one_passes s r w g x true h n (inr c) = let q = h refl in let a = c.0 in let b = c.1 in rw (q, a, b) (ap (λ z. z ++ x) (sym (append-nil g)))

-- what stages give comes first of what they had, where each gives only what none behind it still has
pub all_pass : {A : Type 0} (w g r : ℕ → List A) (full : ℕ → Bool) (a top : ℕ)
    → ((j : ℕ) → a ≤ j → j < top → full j ≡ true → w j ≡ g j ++ r j)
    → ((j : ℕ) → full j ≡ false → g j ≡ [])
    → ((j : ℕ) → a ≤ j → j < top → (g j ≡ []) ⊎ ((i : ℕ) → j < i → i < top → (g i ≡ []) × (full i ≡ true → r i ≡ [])))
    → (n k : ℕ) → a ≤ k → k + n ≡ top
    → gather w full k n ≡ all_of g k n ++ gather r full k n
all_pass w g r full a top split none_of apart zero k l e = refl
all_pass w g r full a top split none_of apart (suc n) k l e =
    let ih = all_pass w g r full a top split none_of apart n (suc k) (omega arith) (omega arith) in
    rw ih (one_passes (all_of g (suc k) n) (gather r full (suc k) n) (w k) (g k) (r k) (full k) (split k l (omega arith)) (none_of k) (go (apart k l (omega arith))))
  where
    go : (g k ≡ []) ⊎ ((i : ℕ) → k < i → i < top → (g i ≡ []) × (full i ≡ true → r i ≡ [])) → (g k ≡ []) ⊎ ((all_of g (suc k) n ≡ []) × (gather r full (suc k) n ≡ []))
    go (inl x) = inl x
    go (inr h) = inr (all_none g n (suc k) (λ j x y. (h j (omega arith) (omega arith)).0), gather_none r full n (suc k) (λ j x y f. (h j (omega arith) (omega arith)).1 f))

pub all_split : {A : Type 0} (g : ℕ → List A) (m n k j : ℕ) → j ≡ k + m → all_of g k (m + n) ≡ all_of g k m ++ all_of g j n
all_split g zero n k j e = let h : k ≡ j = omega arith in let z : 0 + n ≡ n = omega arith in rw (h, z)
all_split g (suc m) n k j e =
    let z : suc m + n ≡ suc (m + n) = omega arith in
    rw z (ap (λ x. g k ++ x) (all_split g m n (suc k) j (omega arith)) ∙ sym (append_assoc (g k) (all_of g (suc k) m) (all_of g j n)))

pub cond_ap : {A B : Type 0} (f : A → B) (t : Bool) (x y : A) → f (cond t x y) ≡ cond t (f x) (f y)
cond_ap f true x y = refl
cond_ap f false x y = refl
