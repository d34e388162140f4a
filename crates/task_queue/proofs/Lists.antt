-- What stands at the indices of lists.
use Rattle.std.proofs.Common.{◌≡◌, ◌≢◌, ℕ, zero, suc, ◌+◌, ◌<◌, ◌≤◌, Bool, true, false, List, [], ◌∷◌, ◌++◌, length, map, set, drop, Option, Some, None, refl, sym, ap, ◌∙◌, subst, arith, inl, inr}
use Rattle.std.specs.Prelude.{slice_get, option_map, sum_by, ◌⊎◌, ◌==◌, ◌&&◌, ◌||◌}
use Rattle.std.proofs.lemmas.Bool.{false≢true, eq-eqb, ne_eqb, eqb-true, eqb-false, cases_lt, or_cases, or_parts, or_from, or_left, or_right, false_from_ne_true}
use Rattle.std.proofs.lemmas.List.{length-append, drop_more}
use Rattle.task_queue.specs.Seats.{Each, is_among, AllDiffer, AreApart, numbers_below}
use Rattle.std.proofs.lemmas.List.Sums.{sum_by-cons, sum_by-set}
use Rattle.std.proofs.lemmas.Option.{slice_get-map, slice_get_within, get_or_from_slice_get}

-- one thing stands there
pub same_some : {A : Type 0} (o : Option A) (x y : A) → o ≡ Some x → o ≡ Some y → x ≡ y
same_some {A} o x y e f = let both : ◌≡◌ {A = Option A} (Some x) (Some y) = sym e ∙ f in cc

-- after a change at one index
pub set_cases : {A : Type 0} (xs : List A) (i j : ℕ) (y z : A) → slice_get (set xs i y) j ≡ Some z → ((j ≡ i) × (y ≡ z)) ⊎ ((j ≢ i) × (slice_get xs j ≡ Some z))
set_cases [] i j y z e = cc
set_cases (x ∷ xs) zero zero y z e = let h : y ≡ z = cc in inl (refl, h)
set_cases (x ∷ xs) zero (suc j) y z e = inr ((λ h. let k = h in omega (arith, k)), e)
set_cases (x ∷ xs) (suc i) zero y z e = inr ((λ h. let k = h in omega (arith, k)), e)
set_cases (x ∷ xs) (suc i) (suc j) y z e = step (set_cases xs i j y z e)
  where
    step : ((j ≡ i) × (y ≡ z)) ⊎ ((j ≢ i) × (slice_get xs j ≡ Some z)) → ((suc j ≡ suc i) × (y ≡ z)) ⊎ ((suc j ≢ suc i) × (slice_get xs j ≡ Some z))
    step (inl p) = inl (ap suc p.0, p.1)
    step (inr p) = inr ((λ h. p.0 (let k = h in omega (arith, k))), p.1)

pub set_other : {A : Type 0} (xs : List A) (i j : ℕ) (y : A) → j ≢ i → slice_get (set xs i y) j ≡ slice_get xs j
set_other [] i j y h = refl
set_other (z ∷ zs) zero zero y h = absurd (h refl)
set_other (z ∷ zs) zero (suc j) y h = refl
set_other (z ∷ zs) (suc i) zero y h = refl
set_other (z ∷ zs) (suc i) (suc j) y h = set_other zs i j y (λ e. h (ap suc e))

pub set_same : {A : Type 0} (xs : List A) (k : ℕ) (x y : A) → slice_get xs k ≡ Some x → slice_get (set xs k y) k ≡ Some y
set_same [] k x y e = cc
set_same (z ∷ zs) zero x y e = refl
set_same (z ∷ zs) (suc k) x y e = set_same zs k x y e

pub set_back : {A : Type 0} (xs : List A) (k : ℕ) (x y : A) → slice_get xs k ≡ Some x → set (set xs k y) k x ≡ xs
set_back [] k x y e = cc
set_back (z ∷ zs) zero x y e = let h : x ≡ z = cc in ap (λ w. w ∷ zs) h
set_back (z ∷ zs) (suc k) x y e = ap (λ ws. z ∷ ws) (set_back zs k x y e)

-- with one element more
pub snoc_cases : {A : Type 0} (xs : List A) (x : A) (k : ℕ) (y : A) → slice_get (xs ++ x ∷ []) k ≡ Some y → ((k < length xs) × (slice_get xs k ≡ Some y)) ⊎ ((k ≡ length xs) × (x ≡ y))
snoc_cases [] x zero y e = let h : x ≡ y = cc in inr (refl, h)
snoc_cases [] x (suc k) y e = cc
snoc_cases (z ∷ zs) x zero y e = inl (omega arith, e)
snoc_cases (z ∷ zs) x (suc k) y e = step (snoc_cases zs x k y e)
  where
    step : ((k < length zs) × (slice_get zs k ≡ Some y)) ⊎ ((k ≡ length zs) × (x ≡ y)) → ((suc k < length (z ∷ zs)) × (slice_get zs k ≡ Some y)) ⊎ ((suc k ≡ length (z ∷ zs)) × (x ≡ y))
    step (inl p) = inl (omega (arith, p.0), p.1)
    step (inr p) = inr (ap suc p.0, p.1)

pub in_prefix : {A : Type 0} (xs ys : List A) (k : ℕ) (y : A) → slice_get xs k ≡ Some y → slice_get (xs ++ ys) k ≡ Some y
in_prefix [] ys k y e = cc
in_prefix (x ∷ xs) ys zero y e = e
in_prefix (x ∷ xs) ys (suc k) y e = in_prefix xs ys k y e

pub last_there : {A : Type 0} (xs : List A) (x : A) → slice_get (xs ++ x ∷ []) (length xs) ≡ Some x
last_there [] x = refl
last_there (y ∷ ys) x = last_there ys x

pub in_both : {A : Type 0} (xs ys : List A) (k : ℕ) (y : A) → slice_get (xs ++ ys) k ≡ Some y → (slice_get xs k ≡ Some y) ⊎ ((j : ℕ) × (slice_get ys j ≡ Some y))
in_both [] ys k y e = inr (k, e)
in_both (x ∷ xs) ys zero y e = inl e
in_both (x ∷ xs) ys (suc k) y e = in_both xs ys k y e

pub some_there : {A : Type 0} (xs : List A) (k : ℕ) → k < length xs → (x : A) × (slice_get xs k ≡ Some x)
some_there [] k l = absurd (omega (arith, l))
some_there (x ∷ xs) zero l = (x, refl)
some_there (x ∷ xs) (suc k) l = some_there xs k (omega (arith, l))

-- of a list whose elements are mapped
pub at_map : {A B : Type 0} (f : A → B) (xs : List A) (k : ℕ) (x : A) → slice_get xs k ≡ Some x → slice_get (map f xs) k ≡ Some (f x)
at_map f xs k x e = slice_get-map f xs k ∙ ap (option_map f) e

pub map_at : {A B : Type 0} (f : A → B) (xs : List A) (k : ℕ) (v : B) → slice_get (map f xs) k ≡ Some v → (x : A) × (slice_get xs k ≡ Some x) × (f x ≡ v)
map_at f [] k v e = cc
map_at f (x ∷ xs) zero v e = let h : f x ≡ v = cc in (x, refl, h)
map_at f (x ∷ xs) (suc k) v e = map_at f xs k v e

-- the sum after a change of one
pub sum_changed : {A : Type 0} (f : A → ℕ) (xs : List A) (k : ℕ) (x y : A) (n : ℕ) → slice_get xs k ≡ Some x → f y ≡ f x + n → sum_by f (set xs k y) ≡ sum_by f xs + n
sum_changed f xs k x y n e more =
    omega (arith, sum_by-set f xs k y x (slice_get_within xs k x e), ap f (get_or_from_slice_get xs k x x e), more)

-- and where each gives nothing
pub sum_nothing : {A : Type 0} (f : A → ℕ) (xs : List A) → ((k : ℕ) (x : A) → slice_get xs k ≡ Some x → f x ≡ 0) → sum_by f xs ≡ 0
sum_nothing f [] none = refl
sum_nothing f (x ∷ xs) none = omega (arith, sum_by-cons f x xs, none 0 x refl, sum_nothing f xs (λ k y e. none (suc k) y e))

-- nothing stands in an empty list
pub none_there : {A : Type 0} (k : ℕ) (x : A) → slice_get [] k ≡ Some x → ⊥
none_there k x e = cc

pub some_same : {A : Type 0} (x y : A) → ◌≡◌ {A = Option A} (Some x) (Some y) → x ≡ y
some_same x y e = cc

-- two lists joined, at the place where they meet
pub tail_of : {A : Type 0} (xs rest : List A) (x : A) → slice_get (xs ++ rest) (length xs) ≡ Some x → (more : List A) × (rest ≡ x ∷ more)
tail_of [] [] x e = absurd (none_there 0 x e)
tail_of [] (y ∷ ys) x e = (ys, ap (λ z. z ∷ ys) (some_same y x e))
tail_of (y ∷ ys) rest x e = tail_of ys rest x e

pub set_there : {A : Type 0} (xs rest : List A) (x y : A) → set (xs ++ x ∷ rest) (length xs) y ≡ xs ++ y ∷ rest
set_there [] rest x y = refl
set_there (z ∷ zs) rest x y = ap (λ ws. z ∷ ws) (set_there zs rest x y)

pub push_then : {A : Type 0} (xs rest : List A) (x : A) → xs ++ x ∷ rest ≡ (xs ++ x ∷ []) ++ rest
push_then [] rest x = refl
push_then (z ∷ zs) rest x = ap (λ ws. z ∷ ws) (push_then zs rest x)

abbrev pub first_of : List ℕ → ℕ
first_of [] = 0
first_of (n ∷ ns) = n

-- what holds of each element
module _ {X : Type 0} where
  pub each_at : (P : X → Type 0) (xs : List X) (k : ℕ) (x : X) → Each P xs → slice_get xs k ≡ Some x → P x
  each_at P [] k x all e = absurd (none_there k x e)
  each_at P (y ∷ ys) zero x all e = subst P (some_same y x e) all.0
  each_at P (y ∷ ys) (suc k) x all e = each_at P ys k x all.1 e

  pub each_from : (P : X → Type 0) (xs : List X) → ((k : ℕ) (x : X) → slice_get xs k ≡ Some x → P x) → Each P xs
  each_from P [] h = tt
  each_from P (y ∷ ys) h = (h 0 y refl, each_from P ys (λ k x e. h (suc k) x e))

  pub each_weaker : (P Q : X → Type 0) (xs : List X) → ((x : X) → P x → Q x) → Each P xs → Each Q xs
  each_weaker P Q [] h all = tt
  each_weaker P Q (y ∷ ys) h all = (h y all.0, each_weaker P Q ys h all.1)

  pub each_append : (P : X → Type 0) (xs ys : List X) → Each P xs → Each P ys → Each P (xs ++ ys)
  each_append P [] ys a b = b
  each_append P (x ∷ xs) ys a b = (a.0, each_append P xs ys a.1 b)

  pub each_parts : (P : X → Type 0) (xs ys : List X) → Each P (xs ++ ys) → Each P xs × Each P ys
  each_parts P [] ys all = (tt, all)
  each_parts P (x ∷ xs) ys all = let rest = each_parts P xs ys all.1 in ((all.0, rest.0), rest.1)

  pub each_set : (P : X → Type 0) (xs : List X) (k : ℕ) (y : X) → Each P xs → P y → Each P (set xs k y)
  each_set P [] k y all p = tt
  each_set P (x ∷ xs) zero y all p = (p, all.1)
  each_set P (x ∷ xs) (suc k) y all p = (all.0, each_set P xs k y all.1 p)

-- tests
pub or_none : (a b : Bool) → b ≡ false → a || b ≡ a
or_none true b e = refl
or_none false b e = e

pub and_one : (a b : Bool) → b ≡ true → a && b ≡ a
and_one true b e = e
and_one false b e = refl

pub or_assoc : (a b c : Bool) → a || (b || c) ≡ (a || b) || c
or_assoc true b c = refl
or_assoc false b c = refl

-- whether a number is one of these
pub among_append : (ns ms : List ℕ) (k : ℕ) → is_among (ns ++ ms) k ≡ is_among ns k || is_among ms k
among_append [] ms k = refl
among_append (n ∷ ns) ms k = ap (λ b. (n == k) || b) (among_append ns ms k) ∙ or_assoc (n == k) (is_among ns k) (is_among ms k)

pub among_first : (n : ℕ) (ns : List ℕ) → is_among (n ∷ ns) n ≡ true
among_first n ns = or_left (n == n) (is_among ns n) (eq-eqb n n refl)

-- a number in the middle is another than those before it
pub differ_mid : (ns ms : List ℕ) (n : ℕ) → AllDiffer (ns ++ n ∷ ms) → is_among ns n ≡ false
differ_mid [] ms n d = refl
differ_mid (m ∷ ns) ms n d = or_from (m == n) (is_among ns n) (ne_eqb m n (λ e. other (sym e))) (differ_mid ns ms n d.1)
  where
    other : n ≡ m → ⊥
    other e = eqb-false n m (or_parts (n == m) (is_among ms m) (or_parts (is_among ns m) (is_among (n ∷ ms) m) (sym (among_append ns (n ∷ ms) m) ∙ d.0)).1).0 e

pub differ_first : (ns ms : List ℕ) → AllDiffer (ns ++ ms) → AllDiffer ns
differ_first [] ms d = tt
differ_first (n ∷ ns) ms d = ((or_parts (is_among ns n) (is_among ms n) (sym (among_append ns ms n) ∙ d.0)).0, differ_first ns ms d.1)

pub differ_append : (ns ms : List ℕ) → AllDiffer ns → AllDiffer ms → AreApart ns ms → AllDiffer (ns ++ ms)
differ_append [] ms d e apart = e
differ_append (n ∷ ns) ms d e apart = (
  among_append ns ms n ∙ or_from (is_among ns n) (is_among ms n) d.0 (apart n (among_first n ns)),
  differ_append ns ms d.1 e (λ k h. apart k (or_right (n == k) (is_among ns k) h)),
)

pub past_end : {A : Type 0} (xs : List A) (k : ℕ) → length xs ≤ k → slice_get xs k ≡ None
past_end [] k l = refl
past_end (x ∷ xs) zero l = absurd (omega (arith, l))
past_end (x ∷ xs) (suc k) l = past_end xs k (omega (arith, l))

abbrev head_or : {A : Type 0} → A → List A → A
head_or d [] = d
head_or d (x ∷ xs) = x

abbrev tail : {A : Type 0} → List A → List A
tail [] = []
tail (x ∷ xs) = xs

cons_first : {A : Type 0} (x y : A) (xs ys : List A) → x ∷ xs ≡ y ∷ ys → x ≡ y
cons_first x y xs ys e = ap (head_or x) e

cons_rest : {A : Type 0} (x y : A) (xs ys : List A) → x ∷ xs ≡ y ∷ ys → xs ≡ ys
cons_rest x y xs ys e = ap tail e

pub snoc_same : {A : Type 0} (xs ys : List A) (x y : A) → xs ++ x ∷ [] ≡ ys ++ y ∷ [] → (xs ≡ ys) × (x ≡ y)
snoc_same [] [] x y e = (refl, cons_first x y [] [] e)
snoc_same [] (z ∷ zs) x y e = absurd (omega (arith, ap length e, length-append zs (y ∷ [])))
snoc_same (z ∷ zs) [] x y e = absurd (omega (arith, ap length e, length-append zs (x ∷ [])))
snoc_same (z ∷ zs) (w ∷ ws) x y e =
    let rest = snoc_same zs ws x y (cons_rest z w (zs ++ x ∷ []) (ws ++ y ∷ []) e) in
    ((λ i. cons_first z w (zs ++ x ∷ []) (ws ++ y ∷ []) e i ∷ rest.0 i), rest.1)

-- the numbers below n
pub below_among : (n k : ℕ) → is_among (numbers_below n) k ≡ true → k < n
below_among zero k e = absurd (false≢true e)
below_among (suc n) k e = go (below_among n k) (or_cases (is_among (numbers_below n) k) (is_among (n ∷ []) k) (sym (among_append (numbers_below n) (n ∷ []) k) ∙ e))
  where
    go : (is_among (numbers_below n) k ≡ true → k < n) → (is_among (numbers_below n) k ≡ true) ⊎ (is_among (n ∷ []) k ≡ true) → k < suc n
    go less (inl h) = let l = less h in omega (arith, l)
    go less (inr h) = let same = eqb-true n k (sym (or_none (n == k) false refl) ∙ h) in omega (arith, same)

pub among_below : (n k : ℕ) → k < n → is_among (numbers_below n) k ≡ true
among_below zero k l = absurd (omega (arith, l))
among_below (suc n) k l = among_append (numbers_below n) (n ∷ []) k ∙ go (among_below n k) (cases_lt k n)
  where
    go : (k < n → is_among (numbers_below n) k ≡ true) → (k < n) ⊎ (n ≤ k) → is_among (numbers_below n) k || is_among (n ∷ []) k ≡ true
    go there (inl m) = or_left (is_among (numbers_below n) k) (is_among (n ∷ []) k) (there m)
    go there (inr m) = let same : n ≡ k = omega (arith, l, m) in or_right (is_among (numbers_below n) k) (is_among (n ∷ []) k) (or_left (n == k) false (eq-eqb n k same))

pub not_below : (n k : ℕ) → n ≤ k → is_among (numbers_below n) k ≡ false
not_below n k l = false_from_ne_true (is_among (numbers_below n) k) (λ e. let less = below_among n k e in omega (arith, l, less))

pub below_apart : (n : ℕ) → AreApart (numbers_below n) (n ∷ [])
below_apart n k e = or_from (n == k) false (ne_eqb n k (λ same. let less = below_among n k e in omega (arith, same, less))) refl

pub below_differ : (n : ℕ) → AllDiffer (numbers_below n)
below_differ zero = tt
below_differ (suc n) = differ_append (numbers_below n) (n ∷ []) (below_differ n) (refl, tt) (below_apart n)

pub below_length : (n : ℕ) → length (numbers_below n) ≡ n
below_length zero = refl
below_length (suc n) = omega (arith, length-append (numbers_below n) (n ∷ []), below_length n)

-- a list from one of its elements on
pub drop_there : {A : Type 0} (xs : List A) (k : ℕ) (x : A) → slice_get xs k ≡ Some x → drop k xs ≡ x ∷ drop (k + 1) xs
drop_there xs k x e = drop_more xs k x (slice_get_within xs k x e) ∙ ap (λ z. z ∷ drop (k + 1) xs) (get_or_from_slice_get xs k x x e)
