-- Where each bad number leads to a bad one along a relation without a loop, among finitely many, there is none.
use Rattle.std.proofs.Common.{◌≡◌, ◌≢◌, ℕ, zero, suc, ◌+◌, ◌<◌, Bool, true, false, refl, sym, ap, ◌∙◌, subst, ◌⊎◌, inl, inr, arith}
use Rattle.std.specs.Prelude.{◌==◌, if◌then◌else◌}
use Rattle.std.proofs.lemmas.Bool.{cases_eq, eq-eqb, ne_eqb}

-- how many of the first numbers are among these
abbrev count : (ℕ → Bool) → ℕ → ℕ
count f zero = 0
count f (suc n) = (if f n then 1 else 0) + count f n

abbrev without : ℕ → (ℕ → Bool) → ℕ → Bool
without s f r = if s == r then false else f r

without_same : (s : ℕ) (f : ℕ → Bool) → without s f s ≡ false
without_same s f = ap (λ b. if b then false else f s) (eq-eqb s s refl)

without_other : (s : ℕ) (f : ℕ → Bool) (r : ℕ) → s ≢ r → without s f r ≡ f r
without_other s f r ne = ap (λ b. if b then false else f r) (ne_eqb s r ne)

count_alike : (f g : ℕ → Bool) (n : ℕ) → ((r : ℕ) → r < n → f r ≡ g r) → count f n ≡ count g n
count_alike f g zero h = refl
count_alike f g (suc n) h =
    let rest = count_alike f g n (λ r l. h r (omega (arith, l))) in
    let here = ap {B = ℕ} (λ b. if b then 1 else 0) (h n (omega arith)) in
    omega (arith, rest, here)

one_less : (p q : Bool) (a b : ℕ) → p ≡ true → q ≡ false → a ≡ b → (if p then 1 else 0) + a ≡ suc ((if q then 1 else 0) + b)
one_less true false a b hp hq h = omega (arith, h)
one_less true true a b hp hq h = absurd (cc)
one_less false q a b hp hq h = absurd (cc)

as_many : (p q : Bool) (a b : ℕ) → p ≡ q → a ≡ suc b → (if p then 1 else 0) + a ≡ suc ((if q then 1 else 0) + b)
as_many p q a b hp h = let here = ap {B = ℕ} (λ b. if b then 1 else 0) hp in omega (arith, here, h)

count_without : (f : ℕ → Bool) (s n : ℕ) → f s ≡ true → s < n → count f n ≡ suc (count (without s f) n)
count_without f s zero t l = absurd (omega (arith, l))
count_without f s (suc n) t l = at (λ m. count_without f s n t m) (cases_eq s n)
  where
    at : (s < n → count f n ≡ suc (count (without s f) n)) → (s ≡ n) ⊎ (s ≢ n) → count f (suc n) ≡ suc (count (without s f) (suc n))
    at before (inl e) =
        one_less (f n) (without s f n) (count f n) (count (without s f) n) (ap f (sym e) ∙ t) (ap (without s f) (sym e) ∙ without_same s f)
        (count_alike f (without s f) n (λ r m. sym (without_other s f r (λ same. absurd (omega (arith, m, e, same))))))
    at before (inr ne) = as_many (f n) (without s f n) (count f n) (count (without s f) n) (sym (without_other s f n ne)) (before (omega (arith, l, ne)))

split : (b : Bool) → (b ≡ true → ⊥) → (b ≡ false → ⊥) → ⊥
split true p q = p refl
split false p q = q refl

-- the one of which it was spoken, or one that was there before
behind : (R : ℕ → ℕ → Type 0) → ((a b c : ℕ) → R a b → R b c → R a c) → (f : ℕ → Bool) (n s r : ℕ) → ((q : ℕ) → q < n → f q ≡ false → R q s) → R s r
    → (q : ℕ) → q < n → without s f q ≡ false → R q r
behind R through f n s r earlier reads q l h = at (cases_eq s q)
  where
    at : (s ≡ q) ⊎ (s ≢ q) → R q r
    at (inl e) = subst (λ k. R k r) e reads
    at (inr ne) = through q s r (earlier q l (sym (without_other s f q ne) ∙ h)) reads

go : (R : ℕ → ℕ → Type 0) → ((a b c : ℕ) → R a b → R b c → R a c) → ((s : ℕ) → R s s → ⊥) → (IsBad : ℕ → Type 0) (n : ℕ)
    → ((s : ℕ) → s < n → IsBad s → (r : ℕ) × (r < n) × IsBad r × R s r)
    → (c : ℕ) (f : ℕ → Bool) → count f n ≡ c → (s : ℕ) → s < n → f s ≡ true → IsBad s → ((q : ℕ) → q < n → f q ≡ false → R q s) → ⊥
go R through apart IsBad n next zero f e s l t bad earlier = absurd (omega (arith, e, count_without f s n t l))
go R through apart IsBad n next (suc c) f e s l t bad earlier =
    let found = next s l bad in
    let later = behind R through f n s found.0 earlier found.3 in
    split (without s f found.0)
    (λ still. go R through apart IsBad n next c (without s f) (omega (arith, e, count_without f s n t l)) found.0 found.1 still found.2 later)
    (λ seen. apart found.0 (later found.0 found.1 seen))

pub none_bad : (R : ℕ → ℕ → Type 0) → ((a b c : ℕ) → R a b → R b c → R a c) → ((s : ℕ) → R s s → ⊥) → (IsBad : ℕ → Type 0) (n : ℕ)
    → ((s : ℕ) → s < n → IsBad s → (r : ℕ) × (r < n) × IsBad r × R s r)
    → (s : ℕ) → s < n → IsBad s → ⊥
none_bad R through apart IsBad n next s l bad = go R through apart IsBad n next (count (λ q. true) n) (λ q. true) refl s l refl bad (λ q m h. absurd (cc))
