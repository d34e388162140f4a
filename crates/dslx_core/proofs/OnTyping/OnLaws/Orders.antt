-- Total orders, and the least fault of a list.
use Rattle.std.proofs.Common.{subst, ◌≡◌, ◌⊎◌, ◌↔◌, inl, inr, ⊎_elim, List, [], ◌∷◌, ℕ, Bool, true, false, if◌then◌else◌, refl, sym, ap, ◌∙◌, Ordering, is_lt, is_eq, nat_cmp}
use Rattle.std.specs.Prelude.{Option, Some, None}
use Rattle.std.specs.Ordering.{ordering_reverse}
use Rattle.std.specs.declared.cmp.Ordering.TheVariants.{Less, Equal, Greater}
use Rattle.std.specs.Cmp.{IsTotalOrder}
use Rattle.std.specs.Cmp.Lexicographic.{slice_cmp, nat_list_cmp_total, texts_ties, same_text}
use mathlib.Core.Bool.{true≢false}
use Rattle.xb_span.specs.Fault.{precedes, key_of, first_from, first_of}
use Rattle.xb_span.specs.declared.fault.Fault.{Fault}
use Rattle.dslx_core.specs.Typing.Laws.Least.{IsAmong, IsLeastOf, HaveSameFaults}

-- whether a list of numbers stands before another
before : List ℕ → List ℕ → Bool
before x y = is_lt (slice_cmp nat_cmp x y)

-- what isn't before the second, which isn't before the third, isn't before the third
not_before : (x y z : List ℕ) → before x y ≡ false → before y z ≡ false → before x z ≡ false
unfolding before
not_before x y z p q = by_outcome (slice_cmp nat_cmp x z) refl
  where
    o : IsTotalOrder (slice_cmp nat_cmp)
    o = nat_list_cmp_total

    never : slice_cmp nat_cmp x z ≡ Less → (s : Ordering) → slice_cmp nat_cmp x y ≡ s → ⊥
    never e Less f = true≢false (sym (ap is_lt f) ∙ p)
    never e Equal f = true≢false (sym (ap is_lt (sym (o.congr x y z f) ∙ e)) ∙ q)
    never e Greater f = true≢false (sym (ap is_lt (o.trans y x z (o.antisymm y x ∙ ap ordering_reverse f) e)) ∙ q)

    by_outcome : (r : Ordering) → slice_cmp nat_cmp x z ≡ r → is_lt (slice_cmp nat_cmp x z) ≡ false
    by_outcome Less e = absurd (never e (slice_cmp nat_cmp x y) refl)
    by_outcome Equal e = ap is_lt e
    by_outcome Greater e = ap is_lt e

not_itself : (x : List ℕ) → before x x ≡ false
unfolding before
not_itself x = by_outcome (slice_cmp nat_cmp x x) refl
  where
    other : slice_cmp nat_cmp x x ≡ Less → Greater ≡ Less
    other e = sym (nat_list_cmp_total.antisymm x x ∙ ap ordering_reverse e) ∙ e

    by_outcome : (r : Ordering) → slice_cmp nat_cmp x x ≡ r → is_lt (slice_cmp nat_cmp x x) ≡ false
    by_outcome Less e = absurd (true≢false (sym (ap is_lt (other e))))
    by_outcome Equal e = ap is_lt e
    by_outcome Greater e = ap is_lt e

-- what stands before another isn't behind it
not_both : (x y : List ℕ) → before x y ≡ true → before y x ≡ false
unfolding before
not_both x y p = by_outcome (slice_cmp nat_cmp y x) refl
  where
    never : slice_cmp nat_cmp y x ≡ Less → (s : Ordering) → slice_cmp nat_cmp x y ≡ s → ⊥
    never e Less f = true≢false (sym (ap is_lt (sym (nat_list_cmp_total.antisymm x y ∙ ap ordering_reverse e) ∙ f)))
    never e Equal f = true≢false (sym p ∙ ap is_lt f)
    never e Greater f = true≢false (sym p ∙ ap is_lt f)

    by_outcome : (r : Ordering) → slice_cmp nat_cmp y x ≡ r → is_lt (slice_cmp nat_cmp y x) ≡ false
    by_outcome Less e = absurd (never e (slice_cmp nat_cmp x y) refl)
    by_outcome Equal e = ap is_lt e
    by_outcome Greater e = ap is_lt e

-- ---- faults

precedes_is : (f g : Fault) → precedes f g ≡ before (key_of f) (key_of g)
unfolding precedes before
precedes_is f g = refl

-- what is held at the end of a walk over faults
record Held (held : Fault) (fs : List Fault) (r : Option Fault) : Type 0 where
  fault : Fault
  is : r ≡ Some fault
  among : (fault ≡ held) ⊎ IsAmong fault fs
  not_held : before (key_of held) (key_of fault) ≡ false
  not_one : (g : Fault) → IsAmong g fs → before (key_of g) (key_of fault) ≡ false

walked : (held : Fault) (fs : List Fault) → Held held fs (first_from (Some held) fs)
walked held [] = record { fault = held; is = refl; among = inl refl; not_held = not_itself (key_of held); not_one = λ g i. absurd i }
walked held (g ∷ gs) = step (precedes g held) (precedes_is g held) (λ h. walked h gs)
  where
    taken : Held g gs (first_from (Some g) gs) → before (key_of g) (key_of held) ≡ true → Held held (g ∷ gs) (first_from (Some g) gs)
    taken h e = record {
      fault = h.fault;
      is = h.is;
      among = ⊎_elim (λ p. inr (inl p)) (λ i. inr (inr i)) h.among;
      not_held = not_before (key_of held) (key_of g) (key_of h.fault) (not_both (key_of g) (key_of held) e) h.not_held;
      not_one = λ f i. ⊎_elim (λ p. ap (λ x. before (key_of x) (key_of h.fault)) p ∙ h.not_held) (h.not_one f) i;
    }

    kept : Held held gs (first_from (Some held) gs) → before (key_of g) (key_of held) ≡ false → Held held (g ∷ gs) (first_from (Some held) gs)
    kept h e = record {
      fault = h.fault;
      is = h.is;
      among = ⊎_elim (λ p. inl p) (λ i. inr (inr i)) h.among;
      not_held = h.not_held;
      not_one = λ f i. ⊎_elim (λ p. ap (λ x. before (key_of x) (key_of h.fault)) p ∙ not_before (key_of g) (key_of held) (key_of h.fault) e h.not_held) (h.not_one f) i;
    }

    step : (b : Bool) → b ≡ before (key_of g) (key_of held) → ((h : Fault) → Held h gs (first_from (Some h) gs)) → Held held (g ∷ gs) (first_from (if b then Some g else Some held) gs)
    step true e all = taken (all g) (sym e)
    step false e all = kept (all held) (sym e)

some_is : {A : Type 0} {a b : A} → Some a ≡ Some b → a ≡ b
some_is {A} {a} e = ap (or_else a) e
  where
    or_else : A → Option A → A
    or_else d None = d
    or_else d (Some x) = x

none_is : {A : Type 0} {a : A} → None ≡ Some a → ⊥
none_is {A} e = true≢false (ap tells e)
  where
    tells : Option A → Bool
    tells None = true
    tells (Some x) = false

pub least_fault : (fs : List Fault) (f : Fault) → first_of fs ≡ Some f → IsLeastOf fs f
least_fault [] f e = absurd (none_is e)
least_fault (held ∷ fs) f e = told (walked held fs)
  where
    told : Held held fs (first_from (Some held) fs) → IsLeastOf (held ∷ fs) f
    told h = record {
      among = subst (λ x. IsAmong x (held ∷ fs)) same h.among;
      least = λ g i. precedes_is g f ∙ ap (λ x. before (key_of g) (key_of x)) (sym same) ∙ ⊎_elim (λ p. ap (λ x. before (key_of x) (key_of h.fault)) p ∙ h.not_held) (h.not_one g) i;
    }
      where
        same : h.fault ≡ f
        same = some_is (sym h.is ∙ e)

pub none_without_faults : (fs : List Fault) → (first_of fs ≡ None) ↔ (fs ≡ [])
none_without_faults [] = (λ e. refl, λ e. refl)
none_without_faults (held ∷ fs) = (λ e. absurd (none_is (sym e ∙ (walked held fs).is)), λ e. absurd (true≢false (ap is_empty e)))
  where
    is_empty : List Fault → Bool
    is_empty [] = false
    is_empty (x ∷ xs) = true

-- lists that aren't before each other are one
one_key : (x y : List ℕ) → before x y ≡ false → before y x ≡ false → x ≡ y
unfolding before
one_key x y p q = by_outcome (slice_cmp nat_cmp x y) refl
  where
    by_outcome : (r : Ordering) → slice_cmp nat_cmp x y ≡ r → x ≡ y
    by_outcome Less e = absurd (true≢false (sym (ap is_lt e) ∙ p))
    by_outcome Equal e = same_text x y (sym (texts_ties x y ∙ ap is_eq e))
    by_outcome Greater e = absurd (true≢false (sym (ap is_lt (nat_list_cmp_total.antisymm y x ∙ ap ordering_reverse e)) ∙ q))

pub one_fault : (fs gs : List Fault) (f g : Fault) → HaveSameFaults fs gs → first_of fs ≡ Some f → first_of gs ≡ Some g → key_of f ≡ key_of g
one_fault fs gs f g same p q = one_key (key_of f) (key_of g)
    (sym (precedes_is f g) ∙ (least_fault gs g q).least f (same.there f (least_fault fs f p).among))
    (sym (precedes_is g f) ∙ (least_fault fs f p).least g (same.back g (least_fault gs g q).among))
