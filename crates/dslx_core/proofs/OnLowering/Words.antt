-- What operators give for bits, in the text and in what stands for it.
use Rattle.std.proofs.Common.{◌≡◌, ◌&&◌, ◌||◌, ◌==◌, ◌+◌, ◌-◌, ◌^◌, ◌<◌, ℕ, zero, suc, Bool, true, false, not, if◌then◌else◌, Some, refl, sym, ap, subst, ◌∙◌, arith}
use mathlib.Core.Bool.{true≢false}
use Rattle.std.specs.Prelude.{nat_lt, nat_le, ℤ, ◌<ℤ◌, pos, negsuc}
use Rattle.std.specs.declared.cmp.Ordering.{Ordering}
use Rattle.std.specs.declared.cmp.Ordering.TheVariants.{Less, Equal, Greater}
use Rattle.std.specs.Ordering.{MatchOrdering, nat_cmp, int_cmp, ordering_reverse}
use Rattle.std.proofs.lemmas.Cmp.{nat_cmp_total, int_cmp_total, tied_itself, ranked, int_ranked}
use Rattle.std.proofs.lemmas.Bool.Decides.{Decides-eqb}
use Rattle.xb_bits.specs.Word.{Word, word}
use Rattle.xb_bits.specs.Operations as op
use Rattle.xb_bits.specs.Sign.{signed_value}
use Rattle.xb_value.specs.declared.value.Value as plain
use Rattle.dslx_tree.specs.declared.operator.Binary.{Binary}
use Rattle.dslx_tree.specs.declared.operator.Binary.TheVariants as b
use Rattle.dslx_meaning.specs.Lists.{where_true, with_both}
use Rattle.dslx_meaning.specs.Types.{same_bool, bool_type}
use Rattle.dslx_meaning.specs.Values.{bool_value}
use Rattle.dslx_meaning.specs.Operators.{bits_binary, is_equal, is_less, of_one_type, order_of, truth_of}
use Rattle.dslx_meaning.specs.declared.ty.DslxType.{DslxType}
use Rattle.dslx_meaning.specs.declared.ty.DslxType as ty
use Rattle.dslx_meaning.specs.declared.ty.DslxType.TheViews as type_views
use Rattle.dslx_meaning.specs.declared.value.DslxValue.{DslxValue}
use Rattle.dslx_meaning.specs.declared.value.DslxValue as value
use Rattle.dslx_meaning.specs.declared.value.SignedWord.{SignedWord}
use Rattle.dslx_meaning.specs.Rules.OperatorRules.{width_of_type}
use Rattle.dslx_core.proofs.Lemmas.Typing.Laws.{and_true}
use Rattle.dslx_core.proofs.Lemmas.Typing.Typed.{InRange, none_some, same_some}
use Rattle.dslx_core.specs.CoreValues.{binary_words, where_alike, one_bit, order_read, shift_read}
use Rattle.dslx_core.specs.declared.expr.Sign.{Sign}
use Rattle.dslx_core.specs.declared.expr.Sign.TheVariants.{Unsigned, Signed}
use Rattle.dslx_core.specs.Lowering.Lowering.{binary_core, result_of_binary, sign_of, fits_operands}

-- ---- orders

abbrev pub sign_if : Bool → Sign
sign_if s = if s then Signed else Unsigned

pub sign_of_bits : (s : Bool) (w : ℕ) → sign_of (ty.Bits s w) ≡ sign_if s
sign_of_bits s w = rw (type_views.outs-Bits s w) refl

pub width_of_bits : (s : Bool) (w : ℕ) → width_of_type (ty.Bits s w) ≡ w
width_of_bits s w = rw (type_views.outs-Bits s w) refl

order_is : (x y : SignedWord) → order_of x y ≡ order_read (sign_if x.signed) x.word y.word
order_is x y = by_sign x.signed
  where
    by_sign : (s : Bool) → (if s then op.cmp_s x.word y.word else op.cmp_u x.word y.word) ≡ order_read (sign_if s) x.word y.word
    by_sign true = refl
    by_sign false = refl

-- where the two are of one width the orders are each other's reverse
reversed : (s : Sign) (x y : Word) → x.width ≡ y.width → order_read s x y ≡ ordering_reverse (order_read s y x)
reversed Unsigned x y e = nat_cmp_total.antisymm x.value y.value
reversed Signed x y e =
    int_cmp_total.antisymm (signed_value x.width x.value) (signed_value x.width y.value)
    ∙ (λ i. ordering_reverse (int_cmp (signed_value (e i) y.value) (signed_value (e i) x.value)))

not_greater : (o : Ordering) → (is_less o || is_equal o) ≡ not (is_less (ordering_reverse o))
not_greater Less = refl
not_greater Equal = refl
not_greater Greater = refl

is_greater : (o : Ordering) → not (is_less o || is_equal o) ≡ is_less (ordering_reverse o)
is_greater Less = refl
is_greater Equal = refl
is_greater Greater = refl

-- numbers of one width whose signed values are equal are equal
one_signed : (w a c : ℕ) → a < 2 ^ w → c < 2 ^ w → signed_value w a ≡ signed_value w c → a ≡ c
one_signed w a c h k = by (nat_lt a (2 ^ (w - 1))) (nat_lt c (2 ^ (w - 1)))
  where
    as_nat : ℤ → ℕ
    as_nat (pos n) = n
    as_nat (negsuc n) = n

    is_pos : ℤ → Bool
    is_pos (pos n) = true
    is_pos (negsuc n) = false

    below : 2 ^ w - suc a ≡ 2 ^ w - suc c → a ≡ c
    below e = omega (arith, e, h, k)

    by : (p q : Bool) → (if p then pos a else negsuc (2 ^ w - suc a)) ≡ (if q then pos c else negsuc (2 ^ w - suc c)) → a ≡ c
    by true true e = ap as_nat e
    by true false e = absurd (true≢false (ap is_pos e))
    by false true e = absurd (true≢false (sym (ap is_pos e)))
    by false false e = below (ap as_nat e)

-- words of one width are equal where the order says so
equal_is : (s : Sign) (x y : Word) → x.width ≡ y.width → InRange x → InRange y → is_equal (order_read s x y) ≡ (x.value == y.value)
equal_is s x y e h k = by (x.value == y.value) refl
  where
    tied : (s : Sign) → x.value ≡ y.value → order_read s x y ≡ Equal
    tied Unsigned q = ap (λ n. nat_cmp x.value n) (sym q) ∙ tied_itself nat_cmp_total x.value
    tied Signed q = ap (λ n. int_cmp (signed_value x.width x.value) (signed_value x.width n)) (sym q) ∙ tied_itself int_cmp_total (signed_value x.width x.value)

    in_width : y.value < 2 ^ x.width
    in_width = subst (λ w. y.value < 2 ^ w) (sym e) k

    one : (s : Sign) → order_read s x y ≡ Equal → x.value ≡ y.value
    one Unsigned q = subst (λ o. MatchOrdering o (x.value < y.value) (x.value ≡ y.value) (y.value < x.value)) q (ranked x.value y.value (nat_cmp x.value y.value) refl)
    one Signed q =
        let a = signed_value x.width x.value in
        let c = signed_value x.width y.value in
        one_signed x.width x.value y.value h in_width (subst (λ o. MatchOrdering o (a <ℤ c) (a ≡ c) (c <ℤ a)) q (int_ranked a c (int_cmp a c) refl))

    differ : (o : Ordering) → order_read s x y ≡ o → (x.value == y.value) ≡ false → is_equal o ≡ false
    differ Less q f = refl
    differ Greater q f = refl
    differ Equal q f = absurd (true≢false (sym ((Decides-eqb x.value y.value).1 (one s q)) ∙ f))

    by : (b : Bool) → (x.value == y.value) ≡ b → is_equal (order_read s x y) ≡ b
    by true q = ap is_equal (tied s ((Decides-eqb x.value y.value).0 q))
    by false q = differ (order_read s x y) refl q

-- ---- bools

pub bool_is : (p : Bool) → bool_value p ≡ value.Bits false (one_bit p)
bool_is true = refl
bool_is false = refl

pub bit_width : (p : Bool) → (one_bit p).width ≡ 1
bit_width true = refl
bit_width false = refl

-- a word of one bit is that of its truth
pub bit_word : (x : Word) → x.width ≡ 1 → InRange x → x ≡ one_bit (x.value == 1)
bit_word x e h = by x.value (subst (λ w. x.value < 2 ^ w) e h) refl
  where
    made : (n : ℕ) → x.value ≡ n → x ≡ word 1 n
    made n q = λ i. record { width = e i; value = q i }

    by : (n : ℕ) → n < 2 ^ 1 → x.value ≡ n → x ≡ one_bit (n == 1)
    by zero k q = made 0 q
    by (suc zero) k q = made 1 q
    by (suc (suc n)) k q = absurd (omega (arith, k))

-- ---- what two words give

pub record GivesWord (o : Binary) (x y : SignedWord) (r : DslxValue) : Type 0 where
  pub signed : Bool
  pub made : Word
  pub is : r ≡ value.Bits signed made
  pub typed : result_of_binary o (ty.Bits x.signed x.word.width) (ty.Bits y.signed y.word.width) ≡ ty.Bits signed made.width
  pub core : binary_words (binary_core o (sign_if x.signed)) x.word y.word ≡ Some (plain.Bits made)

abbrev where_is : {A : Type 0} → Bool → A → A → Type 0
where_is b a r = (b ≡ true) × (a ≡ r)

where_holds : {A : Type 0} (t : Bool) (a r : A) → where_true t (Some a) ≡ Some r → where_is t a r
where_holds true a r e = (refl, same_some a r e)
where_holds false a r e = none_some r e

same_width : (x y : SignedWord) → of_one_type x y ≡ true → (x.word.width == y.word.width) ≡ true
same_width x y e = (and_true (same_bool x.signed y.signed) (x.word.width == y.word.width) e).1

pub alike : (x y z : Word) → (x.width == y.width) ≡ true → where_alike x y z ≡ Some (plain.Bits z)
alike x y z e = ap (λ t. where_true t (Some (plain.Bits z))) e

-- ---- families of operators

compared : (o : Binary) (x y : SignedWord) (r : DslxValue) (p : Bool) → (of_one_type x y ≡ true) × (bool_value p ≡ r)
    → result_of_binary o (ty.Bits x.signed x.word.width) (ty.Bits y.signed y.word.width) ≡ bool_type → binary_words (binary_core o (sign_if x.signed)) x.word y.word ≡ Some (plain.Bits (one_bit p))
    → GivesWord o x y r
compared o x y r p h t c = record { signed = false; made = one_bit p; is = sym h.1 ∙ bool_is p; typed = t ∙ ap (ty.Bits false) (sym (bit_width p)); core = c }

joined_bools : (o : Binary) (x y : SignedWord) (r : DslxValue) (f : Bool → Bool → Bool) (g : Word → Word → Word) → InRange x.word → InRange y.word
    → ((p q : Bool) → g (one_bit p) (one_bit q) ≡ one_bit (f p q)) → result_of_binary o (ty.Bits x.signed x.word.width) (ty.Bits y.signed y.word.width) ≡ bool_type
    → binary_words (binary_core o (sign_if x.signed)) x.word y.word ≡ where_alike x.word y.word (g x.word y.word)
    → with_both (truth_of x) (truth_of y) (λ p q. Some (bool_value (f p q))) ≡ Some r → GivesWord o x y r
joined_bools o x y r f g h k table t c = by_tests (not x.signed && x.word.width == 1) (not y.signed && y.word.width == 1) refl refl
  where
    by_tests : (p q : Bool) → (not x.signed && x.word.width == 1) ≡ p → (not y.signed && y.word.width == 1) ≡ q
        → with_both (where_true p (Some (x.word.value == 1))) (where_true q (Some (y.word.value == 1))) (λ p q. Some (bool_value (f p q))) ≡ Some r → GivesWord o x y r
    by_tests true true p q e =
        let one = (Decides-eqb x.word.width 1).0 (and_true (not x.signed) (x.word.width == 1) p).1 in
        let two = (Decides-eqb y.word.width 1).0 (and_true (not y.signed) (y.word.width == 1) q).1 in
        let words = (λ i. g (bit_word x.word one h i) (bit_word y.word two k i)) ∙ table (x.word.value == 1) (y.word.value == 1) in
        record {
          signed = false;
          made = one_bit (f (x.word.value == 1) (y.word.value == 1));
          is = sym (same_some (bool_value (f (x.word.value == 1) (y.word.value == 1))) r e) ∙ bool_is (f (x.word.value == 1) (y.word.value == 1));
          typed = t ∙ ap (ty.Bits false) (sym (bit_width (f (x.word.value == 1) (y.word.value == 1))));
          core = c ∙ alike x.word y.word (g x.word y.word) ((Decides-eqb x.word.width y.word.width).1 (one ∙ sym two)) ∙ ap (λ z. Some (plain.Bits z)) words;
        }
    by_tests false q hp hq e = none_some r e
    by_tests true false hp hq e = none_some r e

and_table : (p q : Bool) → op.and (one_bit p) (one_bit q) ≡ one_bit (p && q)
and_table true true = refl
and_table true false = refl
and_table false true = refl
and_table false false = refl

or_table : (p q : Bool) → op.or (one_bit p) (one_bit q) ≡ one_bit (p || q)
or_table true true = refl
or_table true false = refl
or_table false true = refl
or_table false false = refl

is_false : (p q : Bool) → (p && not q) ≡ true → q ≡ false
is_false true false e = refl
is_false true true e = absurd (true≢false (sym e))
is_false false q e = absurd (true≢false (sym e))

pub gives_word : (o : Binary) (x y : SignedWord) (r : DslxValue) → InRange x.word → InRange y.word
    → fits_operands o (ty.Bits x.signed x.word.width) (ty.Bits y.signed y.word.width) ≡ true → bits_binary o x y ≡ Some r → GivesWord o x y r
gives_word b.Mul x y r h k f e =
    let q = where_holds (of_one_type x y) (value.Bits x.signed (op.mul x.word y.word)) r e in
    record { signed = x.signed; made = op.mul x.word y.word; is = sym q.1; typed = refl; core = alike x.word y.word (op.mul x.word y.word) (same_width x y q.0) }
gives_word b.Add x y r h k f e =
    let q = where_holds (of_one_type x y) (value.Bits x.signed (op.add x.word y.word)) r e in
    record { signed = x.signed; made = op.add x.word y.word; is = sym q.1; typed = refl; core = alike x.word y.word (op.add x.word y.word) (same_width x y q.0) }
gives_word b.Sub x y r h k f e =
    let q = where_holds (of_one_type x y) (value.Bits x.signed (op.sub x.word y.word)) r e in
    record { signed = x.signed; made = op.sub x.word y.word; is = sym q.1; typed = refl; core = alike x.word y.word (op.sub x.word y.word) (same_width x y q.0) }
gives_word b.And x y r h k f e =
    let q = where_holds (of_one_type x y) (value.Bits x.signed (op.and x.word y.word)) r e in
    record { signed = x.signed; made = op.and x.word y.word; is = sym q.1; typed = refl; core = alike x.word y.word (op.and x.word y.word) (same_width x y q.0) }
gives_word b.Xor x y r h k f e =
    let q = where_holds (of_one_type x y) (value.Bits x.signed (op.xor x.word y.word)) r e in
    record { signed = x.signed; made = op.xor x.word y.word; is = sym q.1; typed = refl; core = alike x.word y.word (op.xor x.word y.word) (same_width x y q.0) }
gives_word b.Or x y r h k f e =
    let q = where_holds (of_one_type x y) (value.Bits x.signed (op.or x.word y.word)) r e in
    record { signed = x.signed; made = op.or x.word y.word; is = sym q.1; typed = refl; core = alike x.word y.word (op.or x.word y.word) (same_width x y q.0) }
gives_word b.Div x y r h k f e =
    let q = where_holds (of_one_type x y && not x.signed) (value.Bits false (op.udiv x.word y.word)) r e in
    let t = and_true (of_one_type x y) (not x.signed) q.0 in
    record {
      signed = false;
      made = op.udiv x.word y.word;
      is = sym q.1;
      typed = ap (λ s. ty.Bits s x.word.width) (is_false (of_one_type x y) x.signed q.0);
      core = alike x.word y.word (op.udiv x.word y.word) (same_width x y t.0);
    }
gives_word b.Rem x y r h k f e =
    let q = where_holds (of_one_type x y && not x.signed) (value.Bits false (op.umod x.word y.word)) r e in
    let t = and_true (of_one_type x y) (not x.signed) q.0 in
    record {
      signed = false;
      made = op.umod x.word y.word;
      is = sym q.1;
      typed = ap (λ s. ty.Bits s x.word.width) (is_false (of_one_type x y) x.signed q.0);
      core = alike x.word y.word (op.umod x.word y.word) (same_width x y t.0);
    }
gives_word b.Concat x y r h k f e =
    let q = where_holds (not x.signed && not y.signed) (value.Bits false (op.concat x.word y.word)) r e in
    let widths : (width_of_type (ty.Bits x.signed x.word.width) + width_of_type (ty.Bits y.signed y.word.width)) ≡ (x.word.width + y.word.width) = λ i. width_of_bits x.signed x.word.width i + width_of_bits y.signed y.word.width i in
    record {
      signed = false;
      made = op.concat x.word y.word;
      is = sym q.1;
      typed = ap (ty.Bits false) widths;
      core = ap (λ t. where_true t (Some (plain.Bits (op.concat x.word y.word)))) (ap (λ n. nat_le n 128) (sym widths) ∙ f);
    }
gives_word b.Shl x y r h k f e =
    let q = where_holds (not y.signed) (value.Bits x.signed (op.shll x.word y.word)) r e in
    record { signed = x.signed; made = op.shll x.word y.word; is = sym q.1; typed = refl; core = refl }
gives_word b.Shr x y r h k f e =
    let q = where_holds (not y.signed) (value.Bits x.signed (if x.signed then op.shra x.word y.word else op.shrl x.word y.word)) r e in
    record { signed = x.signed; made = shift_read (sign_if x.signed) x.word y.word; is = sym q.1 ∙ ap (value.Bits x.signed) (shifted x.signed); typed = ap (ty.Bits x.signed) (width_kept x.signed); core = refl }
  where
    shifted : (s : Bool) → (if s then op.shra x.word y.word else op.shrl x.word y.word) ≡ shift_read (sign_if s) x.word y.word
    shifted true = refl
    shifted false = refl

    width_kept : (s : Bool) → x.word.width ≡ (shift_read (sign_if s) x.word y.word).width
    width_kept true = refl
    width_kept false = refl
gives_word b.Eq x y r h k f e =
    let q = where_holds (of_one_type x y) (bool_value (is_equal (order_of x y))) r e in
    let w = (Decides-eqb x.word.width y.word.width).0 (same_width x y q.0) in
    compared b.Eq x y r (is_equal (order_of x y)) q refl
    (alike x.word y.word (one_bit (x.word.value == y.word.value)) (same_width x y q.0)
    ∙ ap (λ t. Some (plain.Bits (one_bit t))) (sym (equal_is (sign_if x.signed) x.word y.word w h k) ∙ ap is_equal (sym (order_is x y))))
gives_word b.Ne x y r h k f e =
    let q = where_holds (of_one_type x y) (bool_value (not (is_equal (order_of x y)))) r e in
    let w = (Decides-eqb x.word.width y.word.width).0 (same_width x y q.0) in
    compared b.Ne x y r (not (is_equal (order_of x y))) q refl
    (alike x.word y.word (one_bit (not (x.word.value == y.word.value))) (same_width x y q.0)
    ∙ ap (λ t. Some (plain.Bits (one_bit (not t)))) (sym (equal_is (sign_if x.signed) x.word y.word w h k) ∙ ap is_equal (sym (order_is x y))))
gives_word b.Lt x y r h k f e =
    let q = where_holds (of_one_type x y) (bool_value (is_less (order_of x y))) r e in
    compared b.Lt x y r (is_less (order_of x y)) q refl
    (alike x.word y.word (one_bit (is_less (order_read (sign_if x.signed) x.word y.word))) (same_width x y q.0)
    ∙ ap (λ o. Some (plain.Bits (one_bit (is_less o)))) (sym (order_is x y)))
gives_word b.Ge x y r h k f e =
    let q = where_holds (of_one_type x y) (bool_value (not (is_less (order_of x y)))) r e in
    compared b.Ge x y r (not (is_less (order_of x y))) q refl
    (alike x.word y.word (one_bit (not (is_less (order_read (sign_if x.signed) x.word y.word)))) (same_width x y q.0)
    ∙ ap (λ o. Some (plain.Bits (one_bit (not (is_less o))))) (sym (order_is x y)))
gives_word b.Le x y r h k f e =
    let q = where_holds (of_one_type x y) (bool_value (is_less (order_of x y) || is_equal (order_of x y))) r e in
    let w = (Decides-eqb x.word.width y.word.width).0 (same_width x y q.0) in
    compared b.Le x y r (is_less (order_of x y) || is_equal (order_of x y)) q refl
    (alike x.word y.word (one_bit (not (is_less (order_read (sign_if x.signed) y.word x.word)))) (same_width x y q.0)
    ∙ ap (λ t. Some (plain.Bits (one_bit t)))
    (ap (λ o. not (is_less o)) (reversed (sign_if x.signed) y.word x.word (sym w)) ∙ sym (not_greater (order_read (sign_if x.signed) x.word y.word)) ∙ ap (λ o. is_less o || is_equal o) (sym (order_is x y))))
gives_word b.Gt x y r h k f e =
    let q = where_holds (of_one_type x y) (bool_value (not (is_less (order_of x y) || is_equal (order_of x y)))) r e in
    let w = (Decides-eqb x.word.width y.word.width).0 (same_width x y q.0) in
    compared b.Gt x y r (not (is_less (order_of x y) || is_equal (order_of x y))) q refl
    (alike x.word y.word (one_bit (is_less (order_read (sign_if x.signed) y.word x.word))) (same_width x y q.0)
    ∙ ap (λ t. Some (plain.Bits (one_bit t)))
    (ap is_less (reversed (sign_if x.signed) y.word x.word (sym w)) ∙ sym (is_greater (order_read (sign_if x.signed) x.word y.word)) ∙ ap (λ o. not (is_less o || is_equal o)) (sym (order_is x y))))
gives_word b.Both x y r h k f e = joined_bools b.Both x y r (λ p q. p && q) op.and h k and_table refl refl e
gives_word b.Either x y r h k f e = joined_bools b.Either x y r (λ p q. p || q) op.or h k or_table refl refl e
