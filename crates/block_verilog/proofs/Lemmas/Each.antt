-- What holds of each element of a list with its index.
use Rattle.std.proofs.Common.{◌≡◌, ℕ, zero, suc, ◌+◌, ◌<◌, List, [], ◌∷◌, ◌++◌, length, drop, get_or, refl, sym, ap, ◌∙◌, subst, arith}
use Rattle.std.specs.Prelude.{slice_get, Some, None}
use Rattle.std.proofs.Math.Seq.{drop-cons}
use Rattle.std.proofs.lemmas.List.{length-append}
use Rattle.block_build.specs.declared.netlist.wires.WireList.{WireList}
use Rattle.block_build.specs.Netlist.Added.{AddsWires}
use Rattle.vlog_tree.specs.Value.{Values}
use Rattle.block_verilog.specs.Each.{EachFrom}

-- the element of an index, and those behind it
pub behind_there : {A : Type 0} (xs : List A) (i : ℕ) (x : A) → i < length xs → x ≡ get_or xs i x → drop i xs ≡ x ∷ drop (i + 1) xs
behind_there xs i x l is =
    let one : suc i ≡ i + 1 = omega arith in
    drop-cons xs i x l ∙ ap (λ y. y ∷ drop (suc i) xs) (sym is) ∙ ap (λ k. x ∷ drop k xs) one

-- it is the same whatever stands for one that isn't there
pub same_or : {A : Type 0} (xs : List A) (i : ℕ) (d e : A) → i < length xs → get_or xs i d ≡ get_or xs i e
same_or [] i d e l = absurd (omega (arith, l))
same_or (x ∷ xs) zero d e l = refl
same_or (x ∷ xs) (suc i) d e l = same_or xs i d e (omega (arith, l))

pub none_or : (xs : List ℕ) (i : ℕ) → None ≡ slice_get xs i → 0 ≡ get_or xs i 0
none_or [] i e = refl
none_or (x ∷ xs) zero e = absurd (cc)
none_or (x ∷ xs) (suc i) e = none_or xs i e

-- one more behind them
pub each_behind : {A : Type 0} (P : ℕ → A → Type 0) (i : ℕ) (xs : List A) (x : A) → EachFrom P i xs → P (i + length xs) x → EachFrom P i (xs ++ x ∷ [])
each_behind P i [] x h p = let e : i + 0 ≡ i = omega arith in (subst (λ k. P k x) e p, tt)
each_behind P i (y ∷ xs) x h p = let e : i + suc (length xs) ≡ suc i + length xs = omega arith in (h.0, each_behind P (suc i) xs x h.1 (subst (λ k. P k x) e p))

-- the one of an index
pub each_at : {A : Type 0} (P : ℕ → A → Type 0) (i : ℕ) (xs : List A) (k : ℕ) (x : A) → EachFrom P i xs → slice_get xs k ≡ Some x → P (i + k) x
each_at P i [] k x h there = absurd (cc)
each_at P i (y ∷ xs) zero x h there =
    let same : y ≡ x = cc in
    let e : i ≡ i + 0 = omega arith in
    subst (P (i + 0)) same (subst (λ n. P n y) e h.0)
each_at P i (y ∷ xs) (suc k) x h there = let e : suc i + k ≡ i + suc k = omega arith in subst (λ n. P n x) e (each_at P (suc i) xs k x h.1 there)

-- ---- as loops go on

pub record EachSoFar {A : Type 0} (P : ℕ → A → Type 0) (i : ℕ) (xs : List A) : Type 0 where
  pub count : length xs ≡ i
  pub each : EachFrom P 0 xs

pub each_begun : {A : Type 0} (P : ℕ → A → Type 0) (xs : List A) → xs ≡ [] → EachSoFar P 0 xs
each_begun P xs e = record { count = ap length e; each = subst (EachFrom P 0) (sym e) tt }

pub longer : {A : Type 0} (xs more : List A) (x : A) (i : ℕ) → length xs ≡ i → more ≡ xs ++ x ∷ [] → length more ≡ i + 1
longer xs more x i count is = let l = length-append xs (x ∷ []) in let e = ap length is in omega (arith, count, l, e)

next_holds : {A : Type 0} (P : ℕ → A → Type 0) (i : ℕ) (xs more : List A) (x : A) → length xs ≡ i → more ≡ xs ++ x ∷ [] → EachFrom P 0 xs → P i x → EachFrom P 0 more
next_holds P i xs more x count is h p =
    let e : i ≡ 0 + length xs = omega (arith, count) in
    subst (EachFrom P 0) (sym is) (each_behind P 0 xs x h (subst (λ n. P n x) e p))

pub each_more : {A : Type 0} (P : ℕ → A → Type 0) (i : ℕ) (xs more : List A) (x : A) → EachSoFar P i xs → more ≡ xs ++ x ∷ [] → P i x → EachSoFar P (i + 1) more
each_more P i xs more x h is p = record { count = longer xs more x i h.count is; each = next_holds P i xs more x h.count is h.each p }

-- the same by all values by which wires carry what drives them
pub wires_begun : {A : Type 0} (a : WireList) (P : Values → ℕ → A → Type 0) (xs : List A) → xs ≡ [] → AddsWires a a (λ v. EachFrom (P v) 0 xs)
wires_begun a P xs e = λ v h. (h, subst (EachFrom (P v) 0) (sym e) tt)

pub wires_more : {A : Type 0} (a b c : WireList) (P : Values → ℕ → A → Type 0) (i : ℕ) (xs more : List A) (x : A) → length xs ≡ i → more ≡ xs ++ x ∷ [] → AddsWires a b (λ v. EachFrom (P v) 0 xs) → AddsWires b c (λ v. P v i x)
    → AddsWires a c (λ v. EachFrom (P v) 0 more)
wires_more a b c P i xs more x count is p q = λ v h.
    let later = q v h in
    let sooner = p v later.0 in
    (sooner.0, next_holds (P v) i xs more x count is sooner.1 later.1)

-- an element that code read is the one of its index
pub one_there : {A : Type 0} (xs : List A) (i : ℕ) (x : A) → i < length xs → slice_get xs i ≡ Some x → (y : A) → slice_get xs i ≡ Some y → x ≡ y
one_there xs i x l here y there = let both : Some x ≡ Some y = sym here ∙ there in cc
