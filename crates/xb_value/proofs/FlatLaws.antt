-- What is taken from the low bits has these as its flat word, and a value comes back from its flat word.
use Rattle.std.proofs.Common.{◌≡◌, ℕ, zero, suc, ◌+◌, ◌*◌, ◌/◌, ◌%◌, ◌^◌, List, [], ◌∷◌, map, sum, sym, ap, ap₂, subst, ◌∙◌, arith}
use Rattle.std.proofs.lemmas.List.Sums.{sum_by-cons}
use Rattle.std.proofs.lemmas.Nat.{mod-pow-add, shr-shr}
use Rattle.xb_bits.specs.Word.{Word, word}
use Rattle.xb_value.specs.declared.ty.Ty.{Ty}
use Rattle.xb_value.specs.declared.ty.Ty as ty
use Rattle.xb_value.specs.declared.value.Value.{Value, Bits, Tuple, Array}
use Rattle.xb_value.specs.Flat.{flat_of, joined}
use Rattle.xb_value.specs.Unflat.{Taker, taken_by, taken_times, take_step, taken_low}
use Rattle.xb_value.specs.Width.{width_of}
use Rattle.xb_value.proofs.Lemmas.Types as types
use Rattle.xb_value.proofs.Lemmas.Types.{EachHas, ty_induction}
use Rattle.xb_value.proofs.Lemmas.Values.{flat_of-Bits, flat_of-Tuple, flat_of-Array}

-- what a taker leaves, and the flat word of what it takes
pub record TakesLow (w : ℕ) (p : Taker) (n : ℕ) : Type 0 where
  pub low : flat_of (p n).0 ≡ word w (n % 2 ^ w)
  pub high : (p n).1 ≡ n / 2 ^ w

-- the same of several values
pub record TakesLows (w : ℕ) (vs : List Value) (rest n : ℕ) : Type 0 where
  pub low : joined (map flat_of vs) ≡ word w (n % 2 ^ w)
  pub high : rest ≡ n / 2 ^ w

takes_none : (n : ℕ) → TakesLows 0 [] n n
takes_none n = record { low = ap (word 0) (omega arith); high = omega arith }

-- one more value above those that were taken
takes_more : (w : ℕ) (p : Taker) (W : ℕ) (vs : List Value) (rest n : ℕ) → TakesLow w p rest → TakesLows W vs rest n
    → TakesLows (w + W) ((p rest).0 ∷ vs) (p rest).1 n
takes_more w p W vs rest n one all = record {
  low =
      ap₂ (λ (x y : Word). word (x.width + y.width) (x.value * 2 ^ y.width + y.value)) one.low all.low
      ∙ ap (λ r. word (w + W) ((r % 2 ^ w) * 2 ^ W + n % 2 ^ W)) all.high
      ∙ ap (word (w + W)) (sym (mod-pow-add n w W));
  high = one.high ∙ ap (λ r. r / 2 ^ w) all.high ∙ shr-shr n W w ∙ ap (λ k. n / 2 ^ k) (omega arith);
}

abbrev pub TakesAt : Ty → Type 0
TakesAt t = (n : ℕ) → TakesLow (width_of t) (taken_low t) n

takes_each : (ts : List Ty) → EachHas TakesAt ts → (n : ℕ)
    → TakesLows (sum (map width_of ts)) (taken_by (map taken_low ts) n).0 (taken_by (map taken_low ts) n).1 n
takes_each [] each n = takes_none n
takes_each (t ∷ ts) each n =
    let later = taken_by (map taken_low ts) n in
    let both = takes_more (width_of t) (taken_low t) (sum (map width_of ts)) later.0 later.1 n (each.0 later.1) (takes_each ts each.1 n) in
    subst (λ w. TakesLows w ((taken_low t later.1).0 ∷ later.0) (taken_low t later.1).1 n)
    (sym (sum_by-cons (λ x. x) (width_of t) (map width_of ts))) both

takes_times : (k w : ℕ) (p : Taker) → ((n : ℕ) → TakesLow w p n) → (n : ℕ) → TakesLows (k * w) (taken_times k p n).0 (taken_times k p n).1 n
takes_times zero w p each n = subst (λ z. TakesLows z [] n n) (omega arith) (takes_none n)
takes_times (suc k) w p each n =
    let later = taken_times k p n in
    let both = takes_more w p (k * w) later.0 later.1 n (each later.1) (takes_times k w p each n) in
    subst (λ z. TakesLows z ((p later.1).0 ∷ later.0) (p later.1).1 n) (omega arith) both

pub takes_at : (t : Ty) → TakesAt t
takes_at = ty_induction TakesAt bits tuple array
  where
    bits : (w : ℕ) → TakesAt (ty.Bits w)
    bits w n =
        let taken : taken_low (ty.Bits w) n ≡ (Bits (word w (n % 2 ^ w)), n / 2 ^ w) = ap (λ (p : Taker). p n) (types.fold-Bits Taker take_step w) in
        let width = types.width_of-Bits w in
        record {
          low = ap (λ (r : Value × ℕ). flat_of r.0) taken ∙ flat_of-Bits (word w (n % 2 ^ w)) ∙ ap (λ k. word k (n % 2 ^ k)) (sym width);
          high = ap (λ (r : Value × ℕ). r.1) taken ∙ ap (λ k. n / 2 ^ k) (sym width);
        }

    tuple : (ts : List Ty) → EachHas TakesAt ts → TakesAt (ty.Tuple ts)
    tuple ts each n =
        let all = taken_by (map taken_low ts) n in
        let taken : taken_low (ty.Tuple ts) n ≡ (Tuple all.0, all.1) = ap (λ (p : Taker). p n) (types.fold-Tuple Taker take_step ts) in
        let width = types.width_of-Tuple ts in
        let parts = takes_each ts each n in
        record {
          low = ap (λ (r : Value × ℕ). flat_of r.0) taken ∙ flat_of-Tuple all.0 ∙ parts.low ∙ ap (λ k. word k (n % 2 ^ k)) (sym width);
          high = ap (λ (r : Value × ℕ). r.1) taken ∙ parts.high ∙ ap (λ k. n / 2 ^ k) (sym width);
        }

    array : (t : Ty) (k : ℕ) → TakesAt t → TakesAt (ty.Array t k)
    array t k each n =
        let all = taken_times k (taken_low t) n in
        let taken : taken_low (ty.Array t k) n ≡ (Array all.0, all.1) = ap (λ (p : Taker). p n) (types.fold-Array Taker take_step t k) in
        let width = types.width_of-Array t k in
        let parts = takes_times k (width_of t) (taken_low t) each n in
        record {
          low = ap (λ (r : Value × ℕ). flat_of r.0) taken ∙ flat_of-Array all.0 ∙ parts.low ∙ ap (λ k. word k (n % 2 ^ k)) (sym width);
          high = ap (λ (r : Value × ℕ). r.1) taken ∙ parts.high ∙ ap (λ k. n / 2 ^ k) (sym width);
        }
