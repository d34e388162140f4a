-- A value is in the low bits of a number, as many as its type is wide.
use Rattle.std.proofs.Common.{◌≡◌, ℕ, zero, suc, ◌+◌, ◌*◌, ◌/◌, ◌%◌, ◌^◌, ◌≤◌, ◌&&◌, nat_le, List, [], ◌∷◌, map, sum, Bool, true, false, IsTrue, refl, sym, ap, ap₂, subst, ◌∙◌, arith}
use Rattle.std.proofs.lemmas.List.Sums.{sum_by-cons}
use Rattle.std.proofs.lemmas.Nat.{field_of, shr-shr}
use Rattle.std.proofs.lemmas.Bool.{leb-true}
use Rattle.std.proofs.Math.Pow.{mod-mod-pow}
use Rattle.std.proofs.Math.Nat.{div-one}
use Rattle.xb_bits.specs.Word.{word}
use Rattle.xb_value.specs.declared.ty.Ty.{Ty, fold-Ty}
use Rattle.xb_value.specs.declared.ty.Ty as ty
use Rattle.xb_value.specs.declared.value.Value.{Value, Bits, Tuple, Array}
use Rattle.xb_value.specs.Unflat.{Taker, taken_by, taken_times, take_step, taken_low, unflat_of}
use Rattle.xb_value.specs.Width.{width_of, widths_step}
use Rattle.dslx_core.specs.Lowering.Steps.{fits_word}
use Rattle.xb_value.proofs.Lemmas.Types as types
use Rattle.xb_value.proofs.Lemmas.Types.{EachHas, ty_induction}

-- what is taken depends on so many low bits alone, and those above them are left
record TakesBits (w : ℕ) (p : Taker) : Type 0 where
  pub low : (n m : ℕ) → n % 2 ^ w ≡ m % 2 ^ w → (p n).0 ≡ (p m).0
  pub high : (n : ℕ) → (p n).1 ≡ n / 2 ^ w

record TakeBits (w : ℕ) (p : ℕ → List Value × ℕ) : Type 0 where
  pub low : (n m : ℕ) → n % 2 ^ w ≡ m % 2 ^ w → (p n).0 ≡ (p m).0
  pub high : (n : ℕ) → (p n).1 ≡ n / 2 ^ w

take_none : TakeBits 0 (λ n. ([], n))
take_none = record { low = λ n m same. refl; high = λ n. sym (div-one n) }

abbrev above : Taker → (ℕ → List Value × ℕ) → ℕ → List Value × ℕ
above p later n = ((p (later n).1).0 ∷ (later n).0, (p (later n).1).1)

-- one more value above those that were taken
take_more : (w k : ℕ) (p : Taker) (later : ℕ → List Value × ℕ) → TakesBits w p → TakeBits k later → TakeBits (w + k) (above p later)
take_more w k p later one all = record {
  low = λ n m same.
      ap₂ (λ (v : Value) (vs : List Value). v ∷ vs)
      (one.low (later n).1 (later m).1 (ap (λ r. r % 2 ^ w) (all.high n) ∙ sym (field_of n w k) ∙ ap (λ r. r / 2 ^ k) same ∙ field_of m w k ∙ ap (λ r. r % 2 ^ w) (sym (all.high m))))
      (all.low n m (sym (mod-mod-pow n w k) ∙ ap (λ r. r % 2 ^ k) same ∙ mod-mod-pow m w k));
  high = λ n. one.high (later n).1 ∙ ap (λ r. r / 2 ^ w) (all.high n) ∙ shr-shr n k w ∙ ap (λ e. n / 2 ^ e) (omega arith);
}

abbrev TakesAt : Ty → Type 0
TakesAt t = TakesBits (width_of t) (taken_low t)

take_each : (ts : List Ty) → EachHas TakesAt ts → TakeBits (sum (map width_of ts)) (taken_by (map taken_low ts))
take_each [] each = take_none
take_each (t ∷ ts) each =
    subst (λ w. TakeBits w (taken_by (map taken_low (t ∷ ts)))) (sym (sum_by-cons (λ x. x) (width_of t) (map width_of ts)))
    (take_more (width_of t) (sum (map width_of ts)) (taken_low t) (taken_by (map taken_low ts)) each.0 (take_each ts each.1))

take_times : (k w : ℕ) (p : Taker) → TakesBits w p → TakeBits (k * w) (taken_times k p)
take_times zero w p one = subst (λ z. TakeBits z (taken_times zero p)) (omega arith) take_none
take_times (suc k) w p one = subst (λ z. TakeBits z (taken_times (suc k) p)) (omega arith) (take_more w (k * w) p (taken_times k p) one (take_times k w p one))

bits_take : (w : ℕ) → TakesBits w (take_step (ty.TheOpen.Ty-F.Bits w))
bits_take w = record { low = λ n m same. ap (λ r. Bits (word w r)) same; high = λ n. refl }

takes_at : (t : Ty) → TakesAt t
takes_at = ty_induction TakesAt
    (λ w. subst (TakesBits (width_of (ty.Bits w))) (sym (types.fold-Bits Taker take_step w)) (subst (λ k. TakesBits k (take_step (ty.TheOpen.Ty-F.Bits w))) (sym (types.width_of-Bits w)) (bits_take w)))
    (λ ts each.
    let all = take_each ts each in
    subst (TakesBits (width_of (ty.Tuple ts))) (sym (types.fold-Tuple Taker take_step ts))
    (subst (λ k. TakesBits k (λ n. (Tuple (taken_by (map taken_low ts) n).0, (taken_by (map taken_low ts) n).1))) (sym (types.width_of-Tuple ts))
    (record { low = λ n m same. ap Tuple (all.low n m same); high = all.high })))
    (λ t k one.
    let all = take_times k (width_of t) (taken_low t) one in
    subst (TakesBits (width_of (ty.Array t k))) (sym (types.fold-Array Taker take_step t k))
    (subst (λ j. TakesBits j (λ n. (Array (taken_times k (taken_low t) n).0, (taken_times k (taken_low t) n).1))) (sym (types.width_of-Array t k))
    (record { low = λ n m same. ap Array (all.low n m same); high = all.high })))

-- the value of a number is that of its low bits
pub low_bits_say : (t : Ty) (n m : ℕ) → n % 2 ^ width_of t ≡ m % 2 ^ width_of t → unflat_of t n ≡ unflat_of t m
low_bits_say t = (takes_at t).low

none_above : (n w : ℕ) → (n % 2 ^ w) % 2 ^ w ≡ n % 2 ^ w
none_above n w = let all : 0 + w ≡ w = omega arith in sym (ap (λ k. n % 2 ^ k % 2 ^ w) all) ∙ mod-mod-pow n 0 w

-- a part of a number from its first bit on
pub cut_says : (t : Ty) (n : ℕ) → unflat_of t (n / 2 ^ 0 % 2 ^ width_of t) ≡ unflat_of t n
cut_says t n = low_bits_say t (n / 2 ^ 0 % 2 ^ width_of t) n (none_above (n / 2 ^ 0) (width_of t) ∙ ap (λ k. k % 2 ^ width_of t) (div-one n))

-- ---- types that a word holds

both_hold : (a b : Bool) → IsTrue (a && b) → IsTrue a × IsTrue b
both_hold true b h = (refl, h)
both_hold false b h = absurd (cc)

pub fits_width : (t : Ty) → IsTrue (fits_word t) → width_of t ≤ 128
fits_width t h =
    let widths = both_hold (fold-Ty Bool widths_step t) (nat_le 1 (width_of t) && nat_le (width_of t) 128) h in
    leb-true (width_of t) 128 (both_hold (nat_le 1 (width_of t)) (nat_le (width_of t) 128) widths.1).1
