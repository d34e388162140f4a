-- The order of faults is a weak one: what precedes is transitive, and so is what doesn't.
use Rattle.std.proofs.Common.{◌≡◌, List, ℕ, Bool, true, false, refl, sym, ap, ◌∙◌, Ordering, is_eq, is_lt, nat_cmp}
use Rattle.std.specs.Ordering.{ordering_reverse}
use Rattle.std.specs.declared.cmp.Ordering.TheVariants.{Less, Equal, Greater}
use Rattle.std.specs.Cmp.{IsTotalOrder, tied_itself}
use Rattle.std.specs.Cmp.Lexicographic.{slice_cmp, nat_list_cmp_total, same_text, texts_ties}
use mathlib.Core.Bool.{true≢false}
use Rattle.xb_span.specs.Fault.{precedes, key_of}
use Rattle.xb_span.specs.declared.fault.Fault.{Fault}

-- whether a list of numbers stands before another
before : List ℕ → List ℕ → Bool
before x y = is_lt (slice_cmp nat_cmp x y)

less : (r : Ordering) → is_lt r ≡ true → r ≡ Less
less Less e = refl
less Equal e = absurd (true≢false (sym e))
less Greater e = absurd (true≢false (sym e))

before_trans : (x y z : List ℕ) → before x y ≡ true → before y z ≡ true → before x z ≡ true
unfolding before
before_trans x y z p q = ap is_lt (nat_list_cmp_total.trans x y z (less (slice_cmp nat_cmp x y) p) (less (slice_cmp nat_cmp y z) q))

not_before : (x y z : List ℕ) → before x y ≡ false → before y z ≡ false → before x z ≡ false
unfolding before
not_before x y z p q = by_outcome (slice_cmp nat_cmp x z) refl
  where
    o : IsTotalOrder (slice_cmp nat_cmp)
    o = nat_list_cmp_total

    never : slice_cmp nat_cmp x z ≡ Less → (s : Ordering) → slice_cmp nat_cmp x y ≡ s → ⊥
    never e Less f = true≢false (sym (ap is_lt f) ∙ p)
    never e Equal f = true≢false (sym (ap is_lt (sym (o.congr x y z f) ∙ e)) ∙ q)
    never e Greater f = true≢false (sym (ap is_lt (o.trans y x z (o.antisymm y x ∙ ap ordering_reverse f) e)) ∙ q)

    by_outcome : (r : Ordering) → slice_cmp nat_cmp x z ≡ r → is_lt (slice_cmp nat_cmp x z) ≡ false
    by_outcome Less e = absurd (never e (slice_cmp nat_cmp x y) refl)
    by_outcome Equal e = ap is_lt e
    by_outcome Greater e = ap is_lt e

precedes_is : (f g : Fault) → precedes f g ≡ before (key_of f) (key_of g)
unfolding precedes before
precedes_is f g = refl

pub precedes_trans : (f g h : Fault) → precedes f g ≡ true → precedes g h ≡ true → precedes f h ≡ true
precedes_trans f g h p q = precedes_is f h ∙ before_trans (key_of f) (key_of g) (key_of h) (sym (precedes_is f g) ∙ p) (sym (precedes_is g h) ∙ q)

pub not_precedes_trans : (f g h : Fault) → precedes f g ≡ false → precedes g h ≡ false → precedes f h ≡ false
not_precedes_trans f g h p q = precedes_is f h ∙ not_before (key_of f) (key_of g) (key_of h) (sym (precedes_is f g) ∙ p) (sym (precedes_is g h) ∙ q)

before_irrefl : (x : List ℕ) → before x x ≡ false
unfolding before
before_irrefl x = ap is_lt (tied_itself nat_list_cmp_total x)

before_asym : (x y : List ℕ) → before x y ≡ true → before y x ≡ false
before_asym x y p = by (before y x) refl
  where
    by : (b : Bool) → before y x ≡ b → before y x ≡ false
    by true e = absurd (true≢false (sym (before_trans x y x p e) ∙ before_irrefl x))
    by false e = e

-- lists of which none stands before the other are one
one_list : (x y : List ℕ) → before x y ≡ false → before y x ≡ false → x ≡ y
unfolding before
one_list x y p q = by_outcome (slice_cmp nat_cmp x y) refl
  where
    by_outcome : (r : Ordering) → slice_cmp nat_cmp x y ≡ r → x ≡ y
    by_outcome Less e = absurd (true≢false (sym (ap is_lt e) ∙ p))
    by_outcome Equal e = same_text x y (sym (texts_ties x y ∙ ap is_eq e))
    by_outcome Greater e = absurd (true≢false (sym (ap is_lt (nat_list_cmp_total.antisymm y x ∙ ap ordering_reverse e)) ∙ q))

pub precedes_irrefl : (f : Fault) → precedes f f ≡ false
precedes_irrefl f = precedes_is f f ∙ before_irrefl (key_of f)

pub precedes_asym : (f g : Fault) → precedes f g ≡ true → precedes g f ≡ false
precedes_asym f g p = precedes_is g f ∙ before_asym (key_of f) (key_of g) (sym (precedes_is f g) ∙ p)

pub one_key : (f g : Fault) → precedes f g ≡ false → precedes g f ≡ false → key_of f ≡ key_of g
one_key f g p q = one_list (key_of f) (key_of g) (sym (precedes_is f g) ∙ p) (sym (precedes_is g f) ∙ q)
