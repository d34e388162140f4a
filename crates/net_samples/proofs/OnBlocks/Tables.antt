-- Tables of four, and what stands in one after a write.
use Rattle.std.proofs.Common.{◌≡◌, ℕ, zero, suc, ◌<◌, ◌≤◌, List, [], ◌∷◌, ◌++◌, length, refl, sym, ◌∙◌, arith, cond, true, false, Bool, eqb, Option, Some, None, get_or, set}
use Rattle.std.specs.Prelude.{◌⊎◌, map, slice_get, nat_lt}
use Rattle.std.proofs.Common.{inl, inr}
use Rattle.std.proofs.lemmas.Bool.{cases_lt}
use Rattle.std.proofs.lemmas.Bool.Decides.{nat_tests}
use Rattle.std.proofs.lemmas.Grind.{get_or-set_at}
use Rattle.std.proofs.lemmas.List.{get_or-set_other}
use Rattle.xb_bits.specs.Word.{Word}
use Rattle.net_core.specs.Behavior.{chan_at}
use Rattle.block_stage.specs.Machine.Pipeline.{count_before}
use Rattle.net_samples.specs.declared.blocks.sample.SampleSite.{SampleSite}
use Rattle.net_samples.specs.Blocks.Samples.{site_of, chan_of, last_of, last_word}

pub eqb-eq : (a c : ℕ) → eqb a c ≡ true → a ≡ c
eqb-eq a c h = grind (arith, nat_tests)

pub eq-eqb : (a c : ℕ) → a ≡ c → eqb a c ≡ true
eq-eqb a c h = grind (arith, nat_tests)

pub eq_apart : (i k : ℕ) → (i ≡ k → ⊥) → eqb i k ≡ false
eq_apart i k ne = grind (arith, nat_tests)

same_number : (j o : ℕ) → (j ≡ o) ⊎ (j ≡ o → ⊥)
same_number j o = split (cases_lt j o) (cases_lt o j)
  where
    split : ((j < o) ⊎ (o ≤ j)) → ((o < j) ⊎ (j ≤ o)) → (j ≡ o) ⊎ (j ≡ o → ⊥)
    split (inl a) b = inr (λ e. omega arith)
    split (inr a) (inl b) = inr (λ e. omega arith)
    split (inr a) (inr b) = inl (omega arith)

pub get_set : {A : Type 0} (xs : List A) (k i : ℕ) (v d : A) → i < length xs → get_or (set xs k v) i d ≡ cond (eqb k i) v (get_or xs i d)
get_set xs k i v d l = go (same_number k i)
  where
    go : (k ≡ i) ⊎ (k ≡ i → ⊥) → get_or (set xs k v) i d ≡ cond (eqb k i) v (get_or xs i d)
    go (inl e) = let t = eq-eqb k i e in get_or-set_at xs k i v d (sym e) (omega arith) ∙ (rw t refl)
    go (inr ne) = let t = eq_apart k i ne in get_or-set_other xs k i v d (λ e. ne (sym e)) ∙ (rw t refl)

pub four : {A : Type 0} (P : ℕ → A → Type 0) (a b c e d : A) → P 0 a → P 1 b → P 2 c → P 3 e → (j : ℕ) → j < 4 → P j (get_or (a ∷ b ∷ c ∷ e ∷ []) j d)
four P a b c e d p0 p1 p2 p3 zero l = p0
four P a b c e d p0 p1 p2 p3 (suc zero) l = p1
four P a b c e d p0 p1 p2 p3 (suc (suc zero)) l = p2
four P a b c e d p0 p1 p2 p3 (suc (suc (suc zero))) l = p3
four P a b c e d p0 p1 p2 p3 (suc (suc (suc (suc n)))) l = absurd (omega (arith, l))

-- the last word of a list with one word more
last-push : (before : Option Word) (ws : List Word) (w : Word) → last_of before (ws ++ w ∷ []) ≡ Some w
last-push before [] w = refl
last-push before (v ∷ vs) w = last-push (Some v) vs w

pub last_word-push : (ws : List Word) (w : Word) → last_word (ws ++ w ∷ []) ≡ Some w
last_word-push ws w = last-push None ws w

-- the channel of a place
pub chan_is : (sites : List SampleSite) (i : ℕ) → chan_of (slice_get sites i) ≡ chan_at (map site_of sites) i
chan_is [] i = refl
chan_is (site ∷ sites) zero = refl
chan_is (site ∷ sites) (suc i) = chan_is sites i

-- no more sites stand before a stage than there are
pub count_within : (stage : ℕ → ℕ) (j n : ℕ) → count_before stage j n ≤ n
count_within stage j zero = omega arith
count_within stage j (suc n) = go (nat_lt (stage n) j) (count_within stage j n)
  where
    go : (t : Bool) → count_before stage j n ≤ n → cond t (suc (count_before stage j n)) (count_before stage j n) ≤ suc n
    go true h = omega arith
    go false h = omega arith
