-- Zeros that are counted by a select for each bit, and numbers of other widths.
use Rattle.std.proofs.Common.{◌≡◌, ℕ, zero, suc, ◌+◌, ◌-◌, ◌/◌, ◌%◌, ◌^◌, ◌<◌, ◌≤◌, Bool, true, false, ◌==◌, if◌then◌else◌, refl, sym, ap, ap₂, subst, ◌∙◌, arith, add-one, div-one, mod-eq_of_lt, pow-suc, []}
use Rattle.std.specs.Prelude.{nat_le}
use Rattle.std.specs.Int.{bit_at}
use Rattle.std.proofs.lemmas.Bool.Decides.{nat_tests}
use Rattle.std.proofs.lemmas.Nat.{shr-shr}
use Rattle.std.proofs.lemmas.Nat.Bits.{bit_at_lowest}
use Rattle.xb_bits.specs.Word.{Word, word}
use Rattle.xb_bits.specs.Operations as bits
use Rattle.xb_bits.specs.BitPositions.{leading_zero_count, trailing_zero_count}
use Rattle.xb_value.specs.declared.value.Value as value
use Rattle.net_core.specs.Behavior.{IsWordOf}
use Rattle.delay_model.specs.declared.op.Extend.{Extend}
use Rattle.ir_tree.specs.declared.ir_type.IrType.{IrType, Bits}
use Rattle.ir_tree.specs.declared.node.Operand.{Operand}
use Rattle.ir_tree.specs.NodeValues.{operand_value}
use Rattle.ir_tree.specs.NodeTypes.Types.{bits_width}
use Rattle.ir_tree.specs.Operations.{extend_word}
use Rattle.ir_tree.proofs.Lemmas.Rules.Typed.Scopes.{on_word-Bits}
use Rattle.ir_rebuild.specs.declared.putting.nodes.Nodes.{Nodes}
use Rattle.ir_rebuild.specs.Putting.Words.{value_at, word_by, either_by, resized, number_or}
use Rattle.ir_rebuild.specs.Putting.Given.{IsBuilt, type_at, HasType, GivesValue}
use Rattle.ir_rebuild.proofs.OnPutting.TypesOf.{number_bounds, width_is}
use Rattle.ir_rebuild.proofs.Lemmas.Putting.{grows_twice, values_earlier, has_later, gives_itself, gives_as, operand_word}
use Rattle.ir_rebuild.proofs.OnPutting.Putting.{word_same}

-- ---- one bit

pub number_or_put : (s0 s1 s2 s3 : Nodes) (place width n : ℕ) (a other b m o : Operand)
    → ((w : ℕ) → IsBuilt s0 → HasType s0 a (Bits w []) → 1 ≤ 1 → place + 1 ≤ w → GivesValue s0 s1 b (Bits 1 []) (word_by (λ x. bits.slice x place 1) a))
    → (IsBuilt s1 → 1 ≤ width → width ≤ 128 → n < 2 ^ width → GivesValue s1 s2 m (Bits width []) (λ s values. value.Bits (word width n)))
    → ((t : IrType) → IsBuilt s2 → HasType s2 b (Bits 1 []) → HasType s2 m t → HasType s2 other t → GivesValue s2 s3 o t (either_by b m other))
    → (w : ℕ) → IsBuilt s0 → HasType s0 a (Bits w []) → HasType s0 other (Bits width []) → place < w → n < 2 ^ width → GivesValue s0 s3 o (Bits width []) (number_or place width n a other)
number_or_put s0 s1 s2 s3 place width n a other b m o slice number choose w built h k less range = record {
  grows = grows_twice s0 s2 s3 (grows_twice s0 s1 s2 first.grows second.grows) third.grows;
  has = third.has;
  value = λ s values v.
      let v2 = values_earlier s2 s3 third.grows s values v in
      let v1 = values_earlier s1 s2 second.grows s values v2 in
      let v0 = values_earlier s0 s1 first.grows s values v1 in
      let x = operand_word s0 a w h s values v0 in
      let one = first.value s values v1 ∙ on_word-Bits (λ x. value.Bits (bits.slice x place 1)) (operand_value s values a) x.word x.is in
      third.value s values v
      ∙ (on_word-Bits (λ x. if x.value == 1 then operand_value s values m else operand_value s values other) (operand_value s values b) (bits.slice x.word place 1) one
      ∙ (ap (λ u. if bit_at x.word.value place == 1 then u else operand_value s values other) (second.value s values v2)
      ∙ sym (on_word-Bits (λ x. if bit_at x.value place == 1 then value.Bits (word width n) else operand_value s values other) (operand_value s values a) x.word x.is)));
}
  where
    bounds : (1 ≤ width) × (width ≤ 128)
    bounds = number_bounds width k.within

    first : GivesValue s0 s1 b (Bits 1 []) (word_by (λ x. bits.slice x place 1) a)
    first = slice w built h (omega arith) (omega (arith, less))

    second : GivesValue s1 s2 m (Bits width []) (λ s values. value.Bits (word width n))
    second = number first.grows.built bounds.0 bounds.1 range

    third : GivesValue s2 s3 o (Bits width []) (either_by b m other)
    third =
        choose (Bits width []) second.grows.built (has_later s1 s2 b (Bits 1 []) second.grows first.has) second.has
        (has_later s0 s2 other (Bits width []) (grows_twice s0 s1 s2 first.grows second.grows) k)

-- ---- zeros above the highest 1

self_below : (w : ℕ) → w < 2 ^ w
self_below zero = omega arith
self_below (suc w) = let rest = self_below w in omega (arith, rest, pow-suc 2 w)

pub fits_itself : (n w : ℕ) → n ≤ w → n < 2 ^ w
fits_itself n w h = let own = self_below w in omega (arith, own, h)

-- those of the low bits up to one of them, and all above
abbrev pub leading : ℕ → ℕ → Word → Word
leading i w x = word w (w - i + leading_zero_count i x.value)

leading_none : (a : ℕ) → leading_zero_count 0 a ≡ 0
unfolding leading_zero_count
leading_none a = refl

leading_more : (i a : ℕ) → leading_zero_count (suc i) a ≡ (if bit_at a i == 1 then 0 else suc (leading_zero_count i a))
unfolding leading_zero_count
leading_more i a = refl

leading_bit : (i w l : ℕ) (b : Bool) → i < w → (if b then value.Bits (word w (w - 1 - i)) else value.Bits (word w (w - i + l))) ≡ value.Bits (word w (w - (i + 1) + (if b then 0 else suc l)))
leading_bit i w l true h = let e : w - 1 - i ≡ w - (i + 1) + 0 = omega arith in ap (λ n. value.Bits (word w n)) e
leading_bit i w l false h = let e : w - i + l ≡ w - (i + 1) + suc l = omega (arith, h) in ap (λ n. value.Bits (word w n)) e

-- a step of a walk that finds a count by a select for the bit at a place
step : (s0 s1 s2 : Nodes) (a count o : Operand) (w place n : ℕ) (f g : Word → Word)
    → ((v : ℕ) → IsBuilt s1 → HasType s1 a (Bits v []) → HasType s1 count (Bits w []) → place < v → n < 2 ^ w → GivesValue s1 s2 o (Bits w []) (number_or place w n a count))
    → place < w → n < 2 ^ w → ((x : Word) → (if bit_at x.value place == 1 then value.Bits (word w n) else value.Bits (f x)) ≡ value.Bits (g x))
    → HasType s0 a (Bits w []) → GivesValue s0 s1 count (Bits w []) (word_by f a) → GivesValue s0 s2 o (Bits w []) (word_by g a)
step s0 s1 s2 a count o w place n f g call less range e h before = record {
  grows = grows_twice s0 s1 s2 before.grows here.grows;
  has = here.has;
  value = λ s values v.
      let v1 = values_earlier s1 s2 here.grows s values v in
      let v0 = values_earlier s0 s1 before.grows s values v1 in
      let x = operand_word s0 a w h s values v0 in
      here.value s values v
      ∙ (on_word-Bits (λ x. if bit_at x.value place == 1 then value.Bits (word w n) else operand_value s values count) (operand_value s values a) x.word x.is
      ∙ (ap (λ u. if bit_at x.word.value place == 1 then value.Bits (word w n) else u) (before.value s values v1 ∙ on_word-Bits (λ x. value.Bits (f x)) (operand_value s values a) x.word x.is)
      ∙ (e x.word ∙ sym (on_word-Bits (λ x. value.Bits (g x)) (operand_value s values a) x.word x.is))));
}
  where
    here : GivesValue s1 s2 o (Bits w []) (number_or place w n a count)
    here = call w before.grows.built (has_later s0 s1 a (Bits w []) before.grows h) before.has less range

-- what a walk leaves, and what it ends with
abbrev pub CountsSo : (ℕ → ℕ → Word → Word) → Nodes → Nodes → ℕ → ℕ → Operand → Operand → Type 0
CountsSo f old new i w a count = IsBuilt old → HasType old a (Bits w []) → GivesValue old new count (Bits w []) (word_by (f i w) a)

-- all of them: the number that is put first
counts_first : (f : ℕ → ℕ → Word → Word) → ((w : ℕ) (x : Word) → f 0 w x ≡ word w w) → (old new : Nodes) (w : ℕ) (a o : Operand) → (IsBuilt old → 1 ≤ w → w ≤ 128 → w < 2 ^ w → GivesValue old new o (Bits w []) (λ s values. value.Bits (word w w))) → CountsSo f old new 0 w a o
counts_first f e old new w a o call built h =
    let bounds = number_bounds w h.within in
    gives_as old new o (Bits w []) (λ s values. value.Bits (word w w)) (word_by (f 0 w) a)
    (λ s values v. let x = operand_word old a w h s values v in ap value.Bits (sym (e w x.word)) ∙ sym (on_word-Bits (λ x. value.Bits (f 0 w x)) (operand_value s values a) x.word x.is))
    (call built bounds.0 bounds.1 (fits_itself w w (omega arith)))

counts_last : (f : ℕ → ℕ → Word → Word) (g : Word → Word) → ((w : ℕ) (x : Word) → x.width ≡ w → f w w x ≡ g x) → (old new : Nodes) (width i : ℕ) (a o : Operand) → width ≡ bits_width (type_at old a) → i ≡ width → CountsSo f old new i width a o
    → (w : ℕ) → IsBuilt old → HasType old a (Bits w []) → GivesValue old new o (Bits w []) (word_by g a)
counts_last f g e old new width i a o is last h w built k =
    gives_as old new o (Bits w []) (word_by (f w w) a) (word_by g a)
    (λ s values v. word_same (λ x. value.Bits (f w w x)) (λ x. value.Bits (g x)) w (operand_value s values a) (operand_word old a w k s values v) (λ x of. ap value.Bits (e w x of.fits)))
    (there built k)
  where
    same : width ≡ w
    same = is ∙ (ap bits_width k.ty ∙ width_is w)

    there : CountsSo f old new w w a o
    there = subst (λ j. CountsSo f old new j w a o) (last ∙ same) (subst (λ j. CountsSo f old new i j a o) same h)

pub leading_first : (old new : Nodes) (w : ℕ) (a o : Operand) → (IsBuilt old → 1 ≤ w → w ≤ 128 → w < 2 ^ w → GivesValue old new o (Bits w []) (λ s values. value.Bits (word w w))) → CountsSo leading old new 0 w a o
leading_first = counts_first leading (λ w x. ap (word w) (ap (λ n. w - 0 + n) (leading_none x.value) ∙ here w))
  where
    here : (w : ℕ) → w - 0 + 0 ≡ w
    here w = omega arith

pub leading_step : (s0 s1 s2 : Nodes) (a count o : Operand) (i w : ℕ) → i < w
    → ((v : ℕ) → IsBuilt s1 → HasType s1 a (Bits v []) → HasType s1 count (Bits w []) → i < v → w - 1 - i < 2 ^ w → GivesValue s1 s2 o (Bits w []) (number_or i w (w - 1 - i) a count))
    → CountsSo leading s0 s1 i w a count → CountsSo leading s0 s2 (i + 1) w a o
leading_step s0 s1 s2 a count o i w less call h built k =
    step s0 s1 s2 a count o w i (w - 1 - i) (leading i w) (leading (i + 1) w) call less (fits_itself (w - 1 - i) w (omega arith))
    (λ x. leading_bit i w (leading_zero_count i x.value) (bit_at x.value i == 1) less
    ∙ ap (λ n. value.Bits (word w (w - (i + 1) + n))) (sym (leading_more i x.value) ∙ ap (λ j. leading_zero_count j x.value) (sym (add-one i))))
    k (h built k)

pub leading_last : (old new : Nodes) (width i : ℕ) (a o : Operand) → width ≡ bits_width (type_at old a) → i ≡ width → CountsSo leading old new i width a o
    → (w : ℕ) → IsBuilt old → HasType old a (Bits w []) → GivesValue old new o (Bits w []) (word_by bits.clz a)
leading_last = counts_last leading bits.clz (λ w x e. ap (word w) (here w (leading_zero_count w x.value)) ∙ (λ i. word (sym e i) (leading_zero_count (sym e i) x.value)))
  where
    here : (w n : ℕ) → w - w + n ≡ n
    here w n = omega arith

-- ---- zeros below the lowest 1

-- those of the high bits from one of them on, and all below
abbrev pub trailing : ℕ → ℕ → Word → Word
trailing i w x = word w (w - i + trailing_zero_count i (x.value / 2 ^ (w - i)))

trailing_none : (a : ℕ) → trailing_zero_count 0 a ≡ 0
unfolding trailing_zero_count
trailing_none a = refl

trailing_more : (i a : ℕ) → trailing_zero_count (suc i) a ≡ (if bit_at a 0 == 1 then 0 else suc (trailing_zero_count i (a / 2)))
unfolding trailing_zero_count
trailing_more i a = refl

-- the bits from one place on, and those from the next
from_place : (i w a : ℕ) → i < w → trailing_zero_count (suc i) (a / 2 ^ (w - (i + 1))) ≡ (if bit_at a (w - 1 - i) == 1 then 0 else suc (trailing_zero_count i (a / 2 ^ (w - i))))
from_place i w a h =
    trailing_more i (a / 2 ^ (w - (i + 1)))
    ∙ ap₂ (λ b n. if b == 1 then 0 else suc (trailing_zero_count i n)) (bit_at_lowest (a / 2 ^ (w - (i + 1))) ∙ ap (bit_at a) place) (shr-shr a (w - (i + 1)) 1 ∙ ap (λ k. a / 2 ^ k) next)
  where
    place : w - (i + 1) ≡ w - 1 - i
    place = omega arith

    next : w - (i + 1) + 1 ≡ w - i
    next = omega (arith, h)

pub trailing_first : (old new : Nodes) (w : ℕ) (a o : Operand) → (IsBuilt old → 1 ≤ w → w ≤ 128 → w < 2 ^ w → GivesValue old new o (Bits w []) (λ s values. value.Bits (word w w))) → CountsSo trailing old new 0 w a o
trailing_first = counts_first trailing (λ w x. ap (word w) (ap (λ n. w - 0 + n) (trailing_none (x.value / 2 ^ (w - 0))) ∙ here w))
  where
    here : (w : ℕ) → w - 0 + 0 ≡ w
    here w = omega arith

pub trailing_step : (s0 s1 s2 : Nodes) (a count o : Operand) (i w : ℕ) → i < w
    → ((v : ℕ) → IsBuilt s1 → HasType s1 a (Bits v []) → HasType s1 count (Bits w []) → w - 1 - i < v → w - 1 - i < 2 ^ w → GivesValue s1 s2 o (Bits w []) (number_or (w - 1 - i) w (w - 1 - i) a count))
    → CountsSo trailing s0 s1 i w a count → CountsSo trailing s0 s2 (i + 1) w a o
trailing_step s0 s1 s2 a count o i w less call h built k =
    step s0 s1 s2 a count o w (w - 1 - i) (w - 1 - i) (trailing i w) (trailing (i + 1) w) call (omega (arith, less)) (fits_itself (w - 1 - i) w (omega arith))
    (λ x. leading_bit i w (trailing_zero_count i (x.value / 2 ^ (w - i))) (bit_at x.value (w - 1 - i) == 1) less
    ∙ ap (λ n. value.Bits (word w (w - (i + 1) + n))) (sym (from_place i w x.value less) ∙ ap (λ j. trailing_zero_count j (x.value / 2 ^ (w - (i + 1)))) (sym (add-one i))))
    k (h built k)

pub trailing_last : (old new : Nodes) (width i : ℕ) (a o : Operand) → width ≡ bits_width (type_at old a) → i ≡ width → CountsSo trailing old new i width a o
    → (w : ℕ) → IsBuilt old → HasType old a (Bits w []) → GivesValue old new o (Bits w []) (word_by bits.ctz a)
trailing_last = counts_last trailing bits.ctz (λ w x e. ap (word w) (here w (trailing_zero_count w (x.value / 2 ^ (w - w))) ∙ ap (trailing_zero_count w) (whole w x.value)) ∙ (λ i. word (sym e i) (trailing_zero_count (sym e i) x.value)))
  where
    here : (w n : ℕ) → w - w + n ≡ n
    here w n = omega arith

    whole : (w n : ℕ) → n / 2 ^ (w - w) ≡ n
    whole w n = let none : w - w ≡ 0 = omega arith in ap (λ k. n / 2 ^ k) none ∙ div-one n

-- ---- other widths

resized_less : (kind : Extend) (width : ℕ) (x : Word) → width ≤ x.width → resized kind width x ≡ bits.slice x 0 width
resized_less kind width x h =
    let test : nat_le width x.width ≡ true = grind (arith, nat_tests, h) in
    ap (λ b. if b then bits.slice x 0 width else extend_word kind x width) test

resized_more : (kind : Extend) (width : ℕ) (x : Word) → x.width < width → resized kind width x ≡ extend_word kind x width
resized_more kind width x h =
    let test : nat_le width x.width ≡ false = grind (arith, nat_tests, h) in
    ap (λ b. if b then bits.slice x 0 width else extend_word kind x width) test

whole_slice : (w : ℕ) (x : Word) → IsWordOf w x → bits.slice x 0 w ≡ x
whole_slice w x h = λ i. record { width = sym h.fits i; value = number i }
  where
    number : x.value / 2 ^ 0 % 2 ^ w ≡ x.value
    number = ap (λ n. n % 2 ^ w) (div-one x.value) ∙ mod-eq_of_lt (subst (λ k. x.value < 2 ^ k) h.fits h.word.in_range)

module _ (old : Nodes) (kind : Extend) (a : Operand) (own width : ℕ) (is : own ≡ bits_width (type_at old a)) where
  own_is : (w : ℕ) → HasType old a (Bits w []) → own ≡ w
  own_is w h = is ∙ (ap bits_width h.ty ∙ width_is w)

  pub resized_same : width ≡ own → (w : ℕ) → IsBuilt old → HasType old a (Bits w []) → GivesValue old old a (Bits width []) (word_by (resized kind width) a)
  resized_same e w built h =
      subst (λ k. GivesValue old old a (Bits k []) (word_by (resized kind k) a)) (sym (e ∙ own_is w h))
      (gives_as old old a (Bits w []) (value_at a) (word_by (resized kind w) a)
      (λ s values v. let x = operand_word old a w h s values v in
      x.is
      ∙ (ap value.Bits (sym (resized_less kind w x.word (subst (λ k. w ≤ k) (sym x.of.fits) (omega arith)) ∙ whole_slice w x.word x.of))
      ∙ sym (on_word-Bits (λ x. value.Bits (resized kind w x)) (operand_value s values a) x.word x.is)))
      (gives_itself old a (Bits w []) built h))

  pub resized_shorter : (new : Nodes) (o : Operand) → width < own → ((w : ℕ) → IsBuilt old → HasType old a (Bits w []) → 1 ≤ width → 0 + width ≤ w → GivesValue old new o (Bits width []) (word_by (λ x. bits.slice x 0 width) a))
      → (w : ℕ) → IsBuilt old → HasType old a (Bits w []) → 1 ≤ width → GivesValue old new o (Bits width []) (word_by (resized kind width) a)
  resized_shorter new o less call w built h some =
      let e = own_is w h in
      gives_as old new o (Bits width []) (word_by (λ x. bits.slice x 0 width) a) (word_by (resized kind width) a)
      (λ s values v. word_same (λ x. value.Bits (bits.slice x 0 width)) (λ x. value.Bits (resized kind width x)) w (operand_value s values a) (operand_word old a w h s values v)
      (λ x of. let f = of.fits in ap value.Bits (sym (resized_less kind width x (omega (arith, less, e, f))))))
      (call w built h some (omega (arith, less, e)))

  pub resized_longer : (new : Nodes) (o : Operand) → own < width → ((w : ℕ) → IsBuilt old → HasType old a (Bits w []) → w ≤ width → width ≤ 128 → GivesValue old new o (Bits width []) (word_by (λ x. extend_word kind x width) a))
      → (w : ℕ) → IsBuilt old → HasType old a (Bits w []) → width ≤ 128 → GivesValue old new o (Bits width []) (word_by (resized kind width) a)
  resized_longer new o more call w built h most =
      let e = own_is w h in
      gives_as old new o (Bits width []) (word_by (λ x. extend_word kind x width) a) (word_by (resized kind width) a)
      (λ s values v. word_same (λ x. value.Bits (extend_word kind x width)) (λ x. value.Bits (resized kind width x)) w (operand_value s values a) (operand_word old a w h s values v)
      (λ x of. let f = of.fits in ap value.Bits (sym (resized_more kind width x (omega (arith, more, e, f))))))
      (call w built h (omega (arith, more, e)) most)
