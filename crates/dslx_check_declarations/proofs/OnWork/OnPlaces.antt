-- Places in tables.
use Rattle.std.proofs.Common.{◌≡◌, ◌≢◌, ◌∙◌, ◌<◌, ◌==◌, ◌++◌, ℕ, zero, suc, Bool, true, false, List, [], ◌∷◌, length, Option, Some, None, slice_get, slice_set, refl, sym, ap, subst, arith, if◌then◌else◌}
use mathlib.Core.Bool.{true≢false}
use Rattle.std.proofs.lemmas.Bool.Decides.{Decides-eqb}
use Rattle.dslx_meaning.specs.Lists.{and_then}
use Rattle.dslx_check_facts.specs.Known.{at_place}
use Rattle.dslx_check_declarations.specs.Work.Learnt.{PutsAtPlace, PutsThere}

-- a claim on each place, by the place that changes and by the others
pub by_place : (P : ℕ → Type 0) (at n : ℕ) → P at → (n ≢ at → P n) → P n
by_place P at n here other = by (n == at) refl
  where
    by : (b : Bool) → (n == at) ≡ b → P n
    by true e = subst P (sym ((Decides-eqb n at).0 e)) here
    by false e = other (λ same. absurd (true≢false (sym ((Decides-eqb n at).1 same) ∙ e)))

pub got_here : {A : Type 0} (xs : List A) (at : ℕ) (v : A) → at < length xs → slice_get (slice_set xs at v) at ≡ Some v
got_here [] at v h = absurd (omega (arith, h))
got_here (x ∷ xs) zero v h = refl
got_here (x ∷ xs) (suc at) v h = got_here xs at v (omega (arith, h))

pub got_else : {A : Type 0} (xs : List A) (at n : ℕ) (v : A) → n ≢ at → slice_get (slice_set xs at v) n ≡ slice_get xs n
got_else [] at n v h = refl
got_else (x ∷ xs) zero zero v h = absurd (h refl)
got_else (x ∷ xs) zero (suc n) v h = refl
got_else (x ∷ xs) (suc at) zero v h = refl
got_else (x ∷ xs) (suc at) (suc n) v h = got_else xs at n v (λ e. h (ap suc e))

pub put_here : {A : Type 0} {old new : List A} {at : ℕ} {v : A} → PutsAtPlace old new at v → slice_get new at ≡ Some v
put_here {A} {old} {new} {at} {v} p = ap (λ xs. slice_get xs at) p.is ∙ got_here old at v p.there

pub put_else : {A : Type 0} {old new : List A} {at : ℕ} {v : A} → PutsAtPlace old new at v → (n : ℕ) → n ≢ at → slice_get new n ≡ slice_get old n
put_else {A} {old} {new} {at} {v} p n h = ap (λ xs. slice_get xs n) p.is ∙ got_else old at n v h

-- the same of what may be there
pub there_here : {A : Type 0} {old new : List (Option A)} {at : ℕ} {v : A} → PutsThere old new at v → at_place new at ≡ Some v
there_here {A} {old} {new} {at} {v} p = p.is at ∙ ap (λ b. if b then Some v else at_place old at) ((Decides-eqb at at).1 refl)

pub there_else : {A : Type 0} {old new : List (Option A)} {at : ℕ} {v : A} → PutsThere old new at v → (n : ℕ) → n ≢ at → at_place new n ≡ at_place old n
there_else {A} {old} {new} {at} {v} p n h = p.is n ∙ by (n == at) refl
  where
    by : (b : Bool) → (n == at) ≡ b → (if b then Some v else at_place old n) ≡ at_place old n
    by true e = absurd (h ((Decides-eqb n at).0 e))
    by false e = refl

-- something is put where something may stand
pub puts_there : {A : Type 0} {old mid new : List (Option A)} {at : ℕ} {v : A} → ((n : ℕ) → at_place mid n ≡ at_place old n) → PutsAtPlace mid new at (Some v) → PutsThere old new at v
puts_there {A} {old} {mid} {new} {at} {v} same p = record { is = λ n. by n (n == at) refl }
  where
    place : Option (Option A) → Option A
    place o = and_then o (λ (a : Option A). a)

    by : (n : ℕ) (b : Bool) → (n == at) ≡ b → at_place new n ≡ (if b then Some v else at_place old n)
    by n true e = ap (at_place new) ((Decides-eqb n at).0 e) ∙ ap place (put_here p)
    by n false e = ap place (put_else p n (λ is. absurd (true≢false (sym ((Decides-eqb n at).1 is) ∙ e)))) ∙ same n

-- a place more, in which nothing stands
pub nothing_more : {A : Type 0} (places : List (Option A)) (n : ℕ) → at_place (places ++ None ∷ []) n ≡ at_place places n
nothing_more [] zero = refl
nothing_more [] (suc n) = refl
nothing_more (p ∷ ps) zero = refl
nothing_more (p ∷ ps) (suc n) = nothing_more ps n
