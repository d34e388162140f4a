-- Nodes that fit the table of operations give values of their types.
use Rattle.std.proofs.Common.{◌≡◌, ℕ, zero, suc, ◌+◌, ◌-◌, ◌/◌, ◌^◌, ◌<◌, ◌≤◌, min, List, [], ◌∷◌, map, sum, length, get_or, Bool, true, false, ◌&&◌, IsTrue, Option, Some, None, refl, sym, ap, ap₂, subst, ◌∙◌, arith}
use Rattle.std.specs.Prelude.{slice_get, slice_set, nat_eq, nat_le, nat_lt, ◌==◌}
use Rattle.std.specs.List.{list_all}
use Rattle.std.proofs.lemmas.Bool.Decides.{nat_tests}
use Rattle.std.proofs.lemmas.List.{length-map}
use Rattle.std.proofs.lemmas.List.Sums.{sum_by-cons}
use Rattle.xb_bits.specs.Word.{Word, word}
use Rattle.xb_bits.specs.Operations as bits
use Rattle.xb_value.specs.declared.ty.Ty.{Ty}
use Rattle.xb_value.specs.declared.ty.Ty as ty
use Rattle.xb_value.specs.declared.value.Value.{Value}
use Rattle.xb_value.specs.declared.value.Value as value
use Rattle.xb_value.specs.declared.value.Value.TheViews.{outs-Bits, outs-Tuple, outs-Array}
use Rattle.xb_value.specs.Flat.{flat_of, joined}
use Rattle.xb_value.specs.Typing.{IsOfType, fits, bits_fit, tuple_fits, array_fits, each_passes}
use Rattle.xb_value.specs.Width.{HasWidths, HasAllWidths, widths_step}
use Rattle.xb_value.proofs.Lemmas.Types as tys
use Rattle.xb_value.proofs.Lemmas.Types.{EachHas, ty_induction}
use Rattle.xb_value.proofs.Lemmas.Typing.{tuple_of_type, array_of_type, fits-Bits, fits-Tuple, fits-Array}
use Rattle.xb_value.proofs.Lemmas.Values.{flat_of-Bits, flat_of-Tuple}
use Rattle.xb_value.proofs.Lemmas.Flat.{IsInRange, in_range}
use Rattle.net_core.specs.Behavior.{IsWordOf}
use Rattle.delay_model.specs.declared.op.Binary.{Binary}
use Rattle.delay_model.specs.declared.op.Unary.{Unary}
use Rattle.delay_model.specs.declared.op.Compare.{Compare}
use Rattle.delay_model.specs.declared.op.Shift.{Shift}
use Rattle.delay_model.specs.declared.op.Reduce.{Reduce}
use Rattle.delay_model.specs.declared.op.Extend.{Extend}
use Rattle.delay_model.specs.declared.op.Op.TheVariants as op
use Rattle.delay_model.specs.declared.signature.Count.TheVariants.{Exactly, AtLeast}
use Rattle.delay_model.specs.Signatures.{is_met}
use Rattle.ir_tree.specs.declared.ir_type.IrType.{IrType, Bits, Tuple}
use Rattle.ir_tree.specs.declared.constant.Constant.{Constant, out-Constant}
use Rattle.ir_tree.specs.declared.constant.Constant.TheOpen.{Constant-F}
use Rattle.ir_tree.specs.declared.node.Operand.{Operand}
use Rattle.ir_tree.specs.Types.{ty_of, bounded}
use Rattle.ir_tree.specs.Constants.{no_value, bits_where, constant_value, read_step, number_read, tuple_read, array_read, each_read}
use Rattle.ir_tree.specs.NodeValues.{operand_value, optional_value}
use Rattle.ir_tree.specs.Operations.{on_word, on_words, on_tuple, on_array, binary_value, binary_word, unary_word, compare_value, holds, bit, shift_word, reduce_word, number_where, slice_value, dyn_slice_value, extend_value, extend_word, chosen, element_at, at_index, updated}
use Rattle.ir_tree.specs.NodeTypes.Types.{is_bits, is_bits_of, is_bits_where, is_tuple_where, bits_width, width_there, same_type, each_same, is_array_of, is_array_sized, begins_with, sizes_of}
use Rattle.ir_tree.specs.NodeTypes.Constants.{constant_fits, number_fits}
use Rattle.ir_tree.specs.NodeTypes.Constants as constants
use Rattle.ir_tree.specs.Rules.Fitting.{Types, type_in, all_bits_of, all_bits, compare_fits, shift_fits, concat_fits, elements_fit, parts_fit, slice_fits, dynamic_fits, extend_fits, defaults, cases_count, is_like, sel_fits, part_is, tuple_index_fits, update_fits, index_fits}
use Rattle.ir_tree.proofs.Lemmas.NodeTypes.IrTypes.{ty_of-Tuple}
use Rattle.ir_tree.proofs.Lemmas.NodeTypes.ConstantCases as cases
use Rattle.ir_tree.specs.declared.ir_type.IrType.TheViews as ir_views
use Rattle.ir_tree.proofs.Lemmas.Rules.Typed.Checked.{both_true, and_true}
use Rattle.ir_tree.proofs.OnRules.OnTyped.Words.{binary_word_of, unary_word_of, bit_word, shift_word_of, reduce_word_of, extend_word_of, slice_word_of}
use Rattle.ir_tree.proofs.Lemmas.Rules.Typed.Tests.{IsLimited, bits_is, nat_same, same_is, types_same, tuple_is, array_is, array_same, array_some, array_size, limited_bits}
use Rattle.ir_tree.proofs.Lemmas.Rules.Typed.Scopes.{AreOperands, word_there, operand_bits, operand_word, result_word, result_of, result_width, made_word, bits_there, on_word-Bits, on_words-Bits, on_tuple-Tuple, on_array-Array}

-- ---- how many operands

pub record AreTwo (os : List Operand) : Type 0 where
  pub first : Operand
  pub second : Operand
  pub are : os ≡ first ∷ second ∷ []

pub none_of : (os : List Operand) → IsTrue (is_met (Exactly 0) (length os)) → os ≡ []
none_of [] h = refl
none_of (a ∷ os) h = absurd (let none : length (a ∷ os) ≡ 0 = grind (arith, nat_tests, h) in omega arith)

pub one_of : (os : List Operand) → IsTrue (is_met (Exactly 1) (length os)) → (a : Operand) × (os ≡ a ∷ [])
one_of [] h = absurd (cc)
one_of (a ∷ []) h = (a, refl)
one_of (a ∷ b ∷ os) h = absurd (let one : length (a ∷ b ∷ os) ≡ 1 = grind (arith, nat_tests, h) in omega arith)

pub two_of : (os : List Operand) → IsTrue (is_met (Exactly 2) (length os)) → AreTwo os
two_of [] h = absurd (cc)
two_of (a ∷ []) h = absurd (let two : length (a ∷ []) ≡ 2 = grind (arith, nat_tests, h) in omega arith)
two_of (a ∷ b ∷ []) h = record { first = a; second = b; are = refl }
two_of (a ∷ b ∷ c ∷ os) h = absurd (let two : length (a ∷ b ∷ c ∷ os) ≡ 2 = grind (arith, nat_tests, h) in omega arith)

-- ---- operations on words

same_words : (w : ℕ) (x y : Word) → IsWordOf w x → IsWordOf w y → IsTrue (x.width == y.width)
same_words w x y h k = let e : x.width ≡ y.width = h.fits ∙ sym k.fits in grind (arith, nat_tests)

pub binary_typed : (scope : Types) (s : Value) (values : List Value) (k : AreOperands scope s values) (o : Binary) (a b : Operand) (t : IrType) → IsTrue (is_bits_where (λ w. all_bits_of w scope (a ∷ b ∷ [])) t) → IsOfType (ty_of t) (on_words (binary_value o) (operand_value s values a) (operand_value s values b))
binary_typed scope s values k o a b t h =
    let r = bits_is (λ w. all_bits_of w scope (a ∷ b ∷ [])) t h in
    let p = both_true (is_bits_of r.width (type_in scope a)) (all_bits_of r.width scope (b ∷ [])) r.test in
    let q = both_true (is_bits_of r.width (type_in scope b)) true p.1 in
    let x = operand_word r.width (type_in scope a) (operand_value s values a) (k a) p.0 in
    let y = operand_word r.width (type_in scope b) (operand_value s values b) (k b) q.0 in
    result_word (λ w. all_bits_of w scope (a ∷ b ∷ [])) t _ r
    (made_word r.width _ (binary_word o x.word y.word)
    (on_words-Bits (binary_value o) _ _ x.word y.word x.is y.is ∙ bits_there (x.word.width == y.word.width) (binary_word o x.word y.word) (same_words r.width x.word y.word x.of y.of))
    (binary_word_of o r.width x.word y.word x.of y.of))

pub unary_typed : (scope : Types) (s : Value) (values : List Value) (k : AreOperands scope s values) (o : Unary) (a : Operand) (t : IrType) → IsTrue (is_bits_where (λ w. all_bits_of w scope (a ∷ [])) t) → IsOfType (ty_of t) (on_word (λ x. bits_where true (unary_word o x)) (operand_value s values a))
unary_typed scope s values k o a t h =
    let r = bits_is (λ w. all_bits_of w scope (a ∷ [])) t h in
    let p = both_true (is_bits_of r.width (type_in scope a)) true r.test in
    let x = operand_word r.width (type_in scope a) (operand_value s values a) (k a) p.0 in
    result_word (λ w. all_bits_of w scope (a ∷ [])) t _ r
    (made_word r.width _ (unary_word o x.word) (on_word-Bits (λ x. bits_where true (unary_word o x)) _ x.word x.is) (unary_word_of o r.width x.word x.of))

pub compare_typed : (scope : Types) (s : Value) (values : List Value) (k : AreOperands scope s values) (o : Compare) (a b : Operand) (t : IrType) → IsTrue (compare_fits scope (a ∷ b ∷ []) && is_bits_of 1 t) → IsOfType (ty_of t) (on_words (compare_value o) (operand_value s values a) (operand_value s values b))
compare_typed scope s values k o a b t h =
    let both = both_true (compare_fits scope (a ∷ b ∷ [])) (is_bits_of 1 t) h in
    let x = operand_bits (λ w. all_bits_of w scope (b ∷ [])) (type_in scope a) (operand_value s values a) (k a) both.0 in
    let q = both_true (is_bits_of x.width (type_in scope b)) true x.test in
    let y = operand_word x.width (type_in scope b) (operand_value s values b) (k b) q.0 in
    result_of 1 t _ both.1
    (made_word 1 _ (bit (holds o x.has.word y.word))
    (on_words-Bits (compare_value o) _ _ x.has.word y.word x.has.is y.is ∙ bits_there (x.has.word.width == y.word.width) (bit (holds o x.has.word y.word)) (same_words x.width x.has.word y.word x.has.of y.of))
    (bit_word (holds o x.has.word y.word)))

pub shift_typed : (scope : Types) (s : Value) (values : List Value) (k : AreOperands scope s values) (o : Shift) (a b : Operand) (t : IrType) → IsTrue (shift_fits scope (a ∷ b ∷ []) t) → IsOfType (ty_of t) (on_words (λ x k. bits_where true (shift_word o x k)) (operand_value s values a) (operand_value s values b))
shift_typed scope s values k o a b t h =
    let both = both_true (is_bits_where (λ w. is_bits_of w (type_in scope a)) t) (all_bits scope (b ∷ [])) h in
    let r = bits_is (λ w. is_bits_of w (type_in scope a)) t both.0 in
    let x = operand_word r.width (type_in scope a) (operand_value s values a) (k a) r.test in
    let q = both_true (is_bits (type_in scope b)) true both.1 in
    let y = operand_bits (λ w. true) (type_in scope b) (operand_value s values b) (k b) q.0 in
    result_word (λ w. is_bits_of w (type_in scope a)) t _ r
    (made_word r.width _ (shift_word o x.word y.has.word) (on_words-Bits (λ x k. bits_where true (shift_word o x k)) _ _ x.word y.has.word x.is y.has.is) (shift_word_of o r.width x.word y.has.word x.of))

pub reduce_typed : (scope : Types) (s : Value) (values : List Value) (k : AreOperands scope s values) (o : Reduce) (a : Operand) (t : IrType) → IsTrue (all_bits scope (a ∷ []) && is_bits_of 1 t) → IsOfType (ty_of t) (on_word (λ x. bits_where true (reduce_word o x)) (operand_value s values a))
reduce_typed scope s values k o a t h =
    let both = both_true (all_bits scope (a ∷ [])) (is_bits_of 1 t) h in
    let q = both_true (is_bits (type_in scope a)) true both.0 in
    let x = operand_bits (λ w. true) (type_in scope a) (operand_value s values a) (k a) q.0 in
    result_of 1 t _ both.1
    (made_word 1 _ (reduce_word o x.has.word) (on_word-Bits (λ x. bits_where true (reduce_word o x)) _ x.has.word x.has.is) (reduce_word_of o x.has.word))

pub slice_typed : (scope : Types) (s : Value) (values : List Value) (k : AreOperands scope s values) (start width : ℕ) (a : Operand) (t : IrType) → IsLimited t → IsTrue (slice_fits start width scope (a ∷ []) t) → IsOfType (ty_of t) (on_word (slice_value start width) (operand_value s values a))
slice_typed scope s values k start width a t limits h =
    let both = both_true (is_bits_of width t) (list_all (λ o. is_bits_where (nat_le (start + width)) (type_in scope o)) (a ∷ [])) h in
    let q = both_true (is_bits_where (nat_le (start + width)) (type_in scope a)) true both.1 in
    let x = operand_bits (nat_le (start + width)) (type_in scope a) (operand_value s values a) (k a) q.0 in
    let range = result_width width t both.0 limits in
    let some = range.0 in
    let fit = x.has.of.fits in
    let within : start + width ≤ x.has.word.width = grind (arith, nat_tests, x.test, fit) in
    let first : IsTrue (nat_le 1 width) = grind (arith, nat_tests, some) in
    let second : IsTrue (nat_le (start + width) x.has.word.width) = grind (arith, nat_tests, within) in
    result_of width t _ both.0
    (made_word width _ (bits.slice x.has.word start width)
    (on_word-Bits (slice_value start width) _ x.has.word x.has.is ∙ bits_there (nat_le 1 width && nat_le (start + width) x.has.word.width) (bits.slice x.has.word start width) (and_true _ _ first second))
    (slice_word_of width (x.has.word.value / 2 ^ start) range.0 range.1))

in_word : (w : ℕ) → 1 ≤ w → w ≤ 128 → IsTrue (nat_le 1 w && nat_le w 128)
in_word w h k =
    let first : IsTrue (nat_le 1 w) = grind (arith, nat_tests, h) in
    let second : IsTrue (nat_le w 128) = grind (arith, nat_tests, k) in
    and_true _ _ first second

pub dynamic_typed : (scope : Types) (s : Value) (values : List Value) (k : AreOperands scope s values) (width : ℕ) (a b : Operand) (t : IrType) → IsLimited t → IsTrue (dynamic_fits width scope (a ∷ b ∷ []) t) → IsOfType (ty_of t) (on_words (dyn_slice_value width) (operand_value s values a) (operand_value s values b))
dynamic_typed scope s values k width a b t limits h =
    let both = both_true (is_bits_of width t) (all_bits scope (a ∷ b ∷ [])) h in
    let p = both_true (is_bits (type_in scope a)) (all_bits scope (b ∷ [])) both.1 in
    let q = both_true (is_bits (type_in scope b)) true p.1 in
    let x = operand_bits (λ w. true) (type_in scope a) (operand_value s values a) (k a) p.0 in
    let y = operand_bits (λ w. true) (type_in scope b) (operand_value s values b) (k b) q.0 in
    let range = result_width width t both.0 limits in
    result_of width t _ both.0
    (made_word width _ (bits.dyn_slice x.has.word y.has.word width)
    (on_words-Bits (dyn_slice_value width) _ _ x.has.word y.has.word x.has.is y.has.is ∙ bits_there (nat_le 1 width && nat_le width 128) (bits.dyn_slice x.has.word y.has.word width) (in_word width range.0 range.1))
    (slice_word_of width (x.has.word.value / 2 ^ min y.has.word.value x.has.word.width) range.0 range.1))

pub extend_typed : (scope : Types) (s : Value) (values : List Value) (k : AreOperands scope s values) (o : Extend) (width : ℕ) (a : Operand) (t : IrType) → IsLimited t → IsTrue (extend_fits width scope (a ∷ []) t) → IsOfType (ty_of t) (on_word (extend_value o width) (operand_value s values a))
extend_typed scope s values k o width a t limits h =
    let both = both_true (is_bits_of width t) (list_all (λ o. is_bits_where (λ v. nat_le v width) (type_in scope o)) (a ∷ [])) h in
    let q = both_true (is_bits_where (λ v. nat_le v width) (type_in scope a)) true both.1 in
    let x = operand_bits (λ v. nat_le v width) (type_in scope a) (operand_value s values a) (k a) q.0 in
    let range = result_width width t both.0 limits in
    let most = range.1 in
    let fit = x.has.of.fits in
    let within : x.has.word.width ≤ width = grind (arith, nat_tests, x.test, fit) in
    let first : IsTrue (nat_le x.has.word.width width) = grind (arith, nat_tests, within) in
    let second : IsTrue (nat_le width 128) = grind (arith, nat_tests, most) in
    result_of width t _ both.0
    (made_word width _ (extend_word o x.has.word width)
    (on_word-Bits (extend_value o width) _ x.has.word x.has.is ∙ bits_there (nat_le x.has.word.width width && nat_le width 128) (extend_word o x.has.word width) (and_true _ _ first second))
    (extend_word_of o width x.has.word range.0 range.1 within x.has.of.word.in_range))

-- ---- bits side by side

bits_width-is : (w : ℕ) → bits_width (Bits w []) ≡ w
bits_width-is w = ap width_there (ir_views.outs-Bits w [])

concat_width : (scope : Types) (s : Value) (values : List Value) (k : AreOperands scope s values) (os : List Operand) → IsTrue (all_bits scope os) → (joined (map flat_of (map (operand_value s values) os))).width ≡ sum (map (λ o. bits_width (type_in scope o)) os)
concat_width scope s values k [] h = refl
concat_width scope s values k (o ∷ os) h =
    let both = both_true (is_bits (type_in scope o)) (all_bits scope os) h in
    let t = bits_is (λ w. true) (type_in scope o) both.0 in
    let x = word_there t.width (operand_value s values o) (subst (λ u. IsOfType (ty_of u) (operand_value s values o)) t.is (k o).value) in
    let own : (flat_of (operand_value s values o)).width ≡ bits_width (type_in scope o) = ap (λ v. (flat_of v).width) x.is ∙ ap (λ (y : Word). y.width) (flat_of-Bits x.word) ∙ x.of.fits ∙ sym (ap bits_width t.is ∙ bits_width-is t.width) in
    ap₂ (λ a b. a + b) own (concat_width scope s values k os both.1)
    ∙ sym (sum_by-cons (λ x. x) (bits_width (type_in scope o)) (map (λ o. bits_width (type_in scope o)) os))

each_typed : (scope : Types) (s : Value) (values : List Value) (k : AreOperands scope s values) (os : List Operand) → IsTrue (each_passes (map fits (map ty_of (map (type_in scope) os))) (map (operand_value s values) os))
each_typed scope s values k [] = refl
each_typed scope s values k (o ∷ os) = and_true _ _ (k o).value (each_typed scope s values k os)

operands_value : (scope : Types) (s : Value) (values : List Value) (k : AreOperands scope s values) (os : List Operand) → IsOfType (ty.Tuple (map ty_of (map (type_in scope) os))) (value.Tuple (map (operand_value s values) os))
operands_value scope s values k os =
    fits-Tuple (map ty_of (map (type_in scope) os)) (value.Tuple (map (operand_value s values) os))
    ∙ ap (tuple_fits (map fits (map ty_of (map (type_in scope) os)))) (outs-Tuple (map (operand_value s values) os))
    ∙ each_typed scope s values k os

pub concat_typed : (scope : Types) (s : Value) (values : List Value) (k : AreOperands scope s values) (os : List Operand) (t : IrType) → IsLimited t → IsTrue (concat_fits scope os t) → IsOfType (ty_of t) (number_where (flat_of (value.Tuple (map (operand_value s values) os))))
concat_typed scope s values k os t limits h =
    let both = both_true (all_bits scope os) (is_bits_where (λ w. nat_eq (sum (map (λ o. bits_width (type_in scope o)) os)) w) t) h in
    let r = bits_is (λ w. nat_eq (sum (map (λ o. bits_width (type_in scope o)) os)) w) t both.1 in
    let range = limited_bits r.width (subst IsLimited r.is limits) in
    let some = range.0 in
    let most = range.1 in
    let all = joined (map flat_of (map (operand_value s values) os)) in
    let width : all.width ≡ r.width = concat_width scope s values k os both.0 ∙ nat_same _ r.width r.test in
    let least : 1 ≤ all.width = omega arith in
    let greatest : all.width ≤ 128 = omega arith in
    let flat = flat_of-Tuple (map (operand_value s values) os) in
    result_word (λ w. nat_eq (sum (map (λ o. bits_width (type_in scope o)) os)) w) t _ r
    (made_word r.width _ all
    (ap number_where flat ∙ bits_there (nat_le 1 all.width && nat_le all.width 128) all (in_word all.width least greatest))
    (record { word = record { some_width = least; most_width = greatest; in_range = subst IsInRange flat (in_range (ty.Tuple (map ty_of (map (type_in scope) os))) (value.Tuple (map (operand_value s values) os)) (operands_value scope s values k os)) }; fits = width }))

-- ---- tuples and arrays

pub tuple_typed : (scope : Types) (s : Value) (values : List Value) (k : AreOperands scope s values) (os : List Operand) (t : IrType) → IsTrue (parts_fit scope os t) → IsOfType (ty_of t) (value.Tuple (map (operand_value s values) os))
tuple_typed scope s values k os t h =
    let r = tuple_is (λ ts. each_same (map same_type ts) (map (type_in scope) os)) t h in
    let same : r.parts ≡ map (type_in scope) os = types_same r.parts (map (type_in scope) os) r.test in
    let vs = map (operand_value s values) os in
    subst (λ u. IsOfType u (value.Tuple vs)) (sym (ap ty_of (r.is ∙ ap (λ ts. Tuple ts []) same) ∙ ty_of-Tuple (map (type_in scope) os) [])) (operands_value scope s values k os)

all_elements : (scope : Types) (s : Value) (values : List Value) (k : AreOperands scope s values) (t : IrType) (e : Ty) (n : ℕ) → ty_of t ≡ ty.Array e n → (os : List Operand) → IsTrue (list_all (λ o. is_array_of t (type_in scope o)) os) → IsTrue (list_all (fits e) (map (operand_value s values) os))
all_elements scope s values k t e n is [] h = refl
all_elements scope s values k t e n is (o ∷ os) h =
    let both = both_true (is_array_of t (type_in scope o)) (list_all (λ o. is_array_of t (type_in scope o)) os) h in
    let a = array_is t (type_in scope o) both.0 in
    let same : ty_of (type_in scope o) ≡ e = array_element (ty_of (type_in scope o)) e (bounded a.count) n (sym a.is ∙ is) in
    and_true _ _ (subst (λ u. IsOfType u (operand_value s values o)) same (k o).value) (all_elements scope s values k t e n is os both.1)
  where
    array_element : (t u : Ty) (m n : ℕ) → ty.Array t m ≡ ty.Array u n → t ≡ u
    array_element = array_same

array_value : (t : Ty) (n : ℕ) (vs : List Value) → length vs ≡ n → IsTrue (list_all (fits t) vs) → IsOfType (ty.Array t n) (value.Array vs)
array_value t n vs h k =
    let count : IsTrue (length vs == n) = grind (arith, nat_tests) in
    fits-Array t n (value.Array vs) ∙ ap (array_fits (fits t) n) (outs-Array vs) ∙ and_true _ _ count k

begins_is : (n m : ℕ) (ns ms : List ℕ) → ms ≡ m ∷ ns → IsTrue (begins_with n ms) → n ≡ m
begins_is n m ns ms e h = nat_same n m (ap (begins_with n) (sym e) ∙ h)

pub array_typed : (scope : Types) (s : Value) (values : List Value) (k : AreOperands scope s values) (os : List Operand) (t : IrType) → IsLimited t → IsTrue (is_met (AtLeast 1) (length os)) → IsTrue (elements_fit scope os t) → IsOfType (ty_of t) (value.Array (map (operand_value s values) os))
array_typed scope s values k [] t limits met h = absurd (cc)
array_typed scope s values k (o ∷ os) t limits met h =
    let both = both_true (is_array_sized (length (o ∷ os)) t) (list_all (λ o. is_array_of t (type_in scope o)) (o ∷ os)) h in
    let first = both_true (is_array_of t (type_in scope o)) (list_all (λ o. is_array_of t (type_in scope o)) os) both.1 in
    let a = array_is t (type_in scope o) first.0 in
    let size : length (o ∷ os) ≡ a.count = begins_is (length (o ∷ os)) a.count a.inner (sizes_of t) a.sizes both.0 in
    let count : length (map (operand_value s values) (o ∷ os)) ≡ bounded a.count = length-map (o ∷ os) (operand_value s values) ∙ size ∙ sym (array_size t (type_in scope o) limits a) in
    subst (λ u. IsOfType u (value.Array (map (operand_value s values) (o ∷ os)))) (sym a.is)
    (array_value (ty_of (type_in scope o)) (bounded a.count) (map (operand_value s values) (o ∷ os)) count
    (all_elements scope s values k t (ty_of (type_in scope o)) (bounded a.count) a.is (o ∷ os) both.1))

part_typed : (ts : List IrType) (vs : List Value) (i : ℕ) (t : IrType) → IsTrue (each_passes (map fits (map ty_of ts)) vs) → slice_get ts i ≡ Some t → IsOfType (ty_of t) (get_or vs i no_value)
part_typed [] vs i t h e = absurd (cc)
part_typed (u ∷ ts) [] i t h e = absurd (cc)
part_typed (u ∷ ts) (v ∷ vs) zero t h e =
    let both = both_true (fits (ty_of u) v) (each_passes (map fits (map ty_of ts)) vs) h in
    let same : u ≡ t = cc in
    subst (λ x. IsOfType (ty_of x) v) same both.0
part_typed (u ∷ ts) (v ∷ vs) (suc i) t h e = part_typed ts vs i t (both_true (fits (ty_of u) v) (each_passes (map fits (map ty_of ts)) vs) h).1 e

part_there : (i : ℕ) (t : IrType) (ts : List IrType) → IsTrue (part_is i t ts) → (u : IrType) × (slice_get ts i ≡ Some u) × IsTrue (same_type u t)
part_there i t ts h = by (slice_get ts i) refl
  where
    by : (o : Option IrType) → slice_get ts i ≡ o → (u : IrType) × (slice_get ts i ≡ Some u) × IsTrue (same_type u t)
    by None e = let never = rw e at h in absurd (cc)
    by (Some u) e = (u, e, rw e at h)

pub tuple_index_typed : (scope : Types) (s : Value) (values : List Value) (k : AreOperands scope s values) (i : ℕ) (a : Operand) (t : IrType) → IsTrue (tuple_index_fits i scope (a ∷ []) t) → IsOfType (ty_of t) (on_tuple (element_at i) (operand_value s values a))
tuple_index_typed scope s values k i a t h =
    let q = both_true (is_tuple_where (part_is i t) (type_in scope a)) true h in
    let r = tuple_is (part_is i t) (type_in scope a) q.0 in
    let v = operand_value s values a in
    let typed : IsOfType (ty.Tuple (map ty_of r.parts)) v = subst (λ u. IsOfType u v) (ap ty_of r.is ∙ ty_of-Tuple r.parts []) (k a).value in
    let parts = tuple_of_type (map ty_of r.parts) v typed in
    let part = part_there i t r.parts r.test in
    subst (IsOfType (ty_of t)) (sym (on_tuple-Tuple (element_at i) v parts.parts parts.is))
    (subst (λ u. IsOfType (ty_of u) (element_at i parts.parts)) (same_is part.0 t part.2)
    (part_typed r.parts parts.parts i part.0 parts.each part.1))

all_at : (t : Ty) (vs : List Value) (i : ℕ) → IsTrue (list_all (fits t) vs) → i < length vs → IsOfType t (get_or vs i no_value)
all_at t [] i h less = absurd (omega arith)
all_at t (v ∷ vs) zero h less = (both_true (fits t v) (list_all (fits t) vs) h).0
all_at t (v ∷ vs) (suc i) h less = all_at t vs i (both_true (fits t v) (list_all (fits t) vs) h).1 (omega (arith, less))

pub array_index_typed : (scope : Types) (s : Value) (values : List Value) (k : AreOperands scope s values) (i a : Operand) (t : IrType) → IsTrue (index_fits op.ArrayIndex i scope (a ∷ []) t) → IsOfType (ty_of t) (on_array (λ xs. on_word (at_index xs) (operand_value s values i)) (operand_value s values a))
array_index_typed scope s values k i a t h =
    let both = both_true (is_bits (type_in scope i)) (list_all (λ o. is_array_of (type_in scope o) t) (a ∷ [])) h in
    let q = both_true (is_array_of (type_in scope a) t) true both.1 in
    let r = array_is (type_in scope a) t q.0 in
    let v = operand_value s values a in
    let x = operand_bits (λ w. true) (type_in scope i) (operand_value s values i) (k i) both.0 in
    let parts = array_of_type (ty_of t) (bounded r.count) v (subst (λ u. IsOfType u v) r.is (k a).value) in
    let some = array_some (type_in scope a) t (k a).sound r in
    let count = parts.count in
    let within : min x.has.word.value (length parts.parts - 1) < length parts.parts = omega arith in
    subst (IsOfType (ty_of t)) (sym (on_array-Array (λ xs. on_word (at_index xs) (operand_value s values i)) v parts.parts parts.is ∙ on_word-Bits (at_index parts.parts) (operand_value s values i) x.has.word x.has.is))
    (all_at (ty_of t) parts.parts (min x.has.word.value (length parts.parts - 1)) parts.all within)

all_set : (t : Ty) (vs : List Value) (i : ℕ) (v : Value) → IsTrue (list_all (fits t) vs) → IsOfType t v → IsTrue (list_all (fits t) (slice_set vs i v))
all_set t [] i v h k = refl
all_set t (u ∷ vs) zero v h k = and_true _ _ k (both_true (fits t u) (list_all (fits t) vs) h).1
all_set t (u ∷ vs) (suc i) v h k =
    let both = both_true (fits t u) (list_all (fits t) vs) h in
    and_true _ _ both.0 (all_set t vs i v both.1 k)

set_length : (vs : List Value) (i : ℕ) (v : Value) → length (slice_set vs i v) ≡ length vs
set_length [] i v = refl
set_length (u ∷ vs) zero v = refl
set_length (u ∷ vs) (suc i) v = ap suc (set_length vs i v)

pub array_update_typed : (scope : Types) (s : Value) (values : List Value) (k : AreOperands scope s values) (i a b : Operand) (t : IrType) → IsTrue (index_fits op.ArrayUpdate i scope (a ∷ b ∷ []) t) → IsOfType (ty_of t) (on_array (λ xs. on_word (updated (operand_value s values b) xs) (operand_value s values i)) (operand_value s values a))
array_update_typed scope s values k i a b t h =
    let both = both_true (is_bits (type_in scope i)) (update_fits scope (a ∷ b ∷ []) t) h in
    let p = both_true (same_type t (type_in scope a)) (list_all (λ e. is_array_of t (type_in scope e)) (b ∷ [])) both.1 in
    let q = both_true (is_array_of t (type_in scope b)) true p.1 in
    let r = array_is t (type_in scope b) q.0 in
    let v = operand_value s values a in
    let e = operand_value s values b in
    let x = operand_bits (λ w. true) (type_in scope i) (operand_value s values i) (k i) both.0 in
    let typed : IsOfType (ty.Array (ty_of (type_in scope b)) (bounded r.count)) v = subst (λ u. IsOfType u v) (ap ty_of (sym (same_is t (type_in scope a) p.0)) ∙ r.is) (k a).value in
    let parts = array_of_type (ty_of (type_in scope b)) (bounded r.count) v typed in
    subst (IsOfType (ty_of t)) (sym (on_array-Array (λ xs. on_word (updated e xs) (operand_value s values i)) v parts.parts parts.is ∙ on_word-Bits (updated e parts.parts) (operand_value s values i) x.has.word x.has.is))
    (subst (λ u. IsOfType u (updated e parts.parts x.has.word)) (sym r.is)
    (array_value (ty_of (type_in scope b)) (bounded r.count) (slice_set parts.parts x.has.word.value e) (set_length parts.parts x.has.word.value e ∙ parts.count)
    (all_set (ty_of (type_in scope b)) parts.parts x.has.word.value e parts.all (k b).value)))

-- ---- a choice

pub record IsChosen (t : IrType) (scope : Types) (o : Option Operand) : Type 0 where
  pub operand : Operand
  pub is : o ≡ Some operand
  pub like : IsTrue (same_type t (type_in scope operand))

chosen_is : (t : IrType) (scope : Types) (cases : List Operand) (default : Option Operand) (n : ℕ) → IsTrue (list_all (λ c. same_type t (type_in scope c)) cases) → (length cases ≤ n → IsChosen t scope default) → IsChosen t scope (chosen cases default n)
chosen_is t scope [] default n h k = k (omega arith)
chosen_is t scope (c ∷ cs) default zero h k = record { operand = c; is = refl; like = (both_true (same_type t (type_in scope c)) (list_all (λ c. same_type t (type_in scope c)) cs) h).0 }
chosen_is t scope (c ∷ cs) default (suc n) h k = chosen_is t scope cs default n (both_true (same_type t (type_in scope c)) (list_all (λ c. same_type t (type_in scope c)) cs) h).1 (λ less. k (omega (arith, less)))

default_is : (t : IrType) (scope : Types) (default : Option Operand) (fewer : Bool) → fewer ≡ true → IsTrue (defaults fewer default) → IsTrue (is_like scope t default) → IsChosen t scope default
default_is t scope None true e h k = absurd (cc)
default_is t scope None false e h k = absurd (cc)
default_is t scope (Some d) fewer e h k = record { operand = d; is = refl; like = k }

pub sel_typed : (scope : Types) (s : Value) (values : List Value) (k : AreOperands scope s values) (cases : List Operand) (default : Option Operand) (a : Operand) (t : IrType) → IsTrue (sel_fits cases default scope (a ∷ []) t) → IsOfType (ty_of t) (on_word (λ x. optional_value s values (chosen cases default x.value)) (operand_value s values a))
sel_typed scope s values k cases default a t h =
    let both = both_true (list_all (λ o. is_bits_where (cases_count (length cases) default) (type_in scope o)) (a ∷ [])) (list_all (λ c. same_type t (type_in scope c)) cases && is_like scope t default) h in
    let alike = both_true (list_all (λ c. same_type t (type_in scope c)) cases) (is_like scope t default) both.1 in
    let q = both_true (is_bits_where (cases_count (length cases) default) (type_in scope a)) true both.0 in
    let x = operand_bits (cases_count (length cases) default) (type_in scope a) (operand_value s values a) (k a) q.0 in
    let counted = both_true (nat_lt 0 (length cases)) (nat_le (length cases) (2 ^ min x.width 128) && defaults (nat_lt (length cases) (2 ^ min x.width 128)) default) x.test in
    let by_default = (both_true (nat_le (length cases) (2 ^ min x.width 128)) (defaults (nat_lt (length cases) (2 ^ min x.width 128)) default) counted.1).1 in
    let most : x.width ≤ 128 = subst (λ n. n ≤ 128) x.has.of.fits x.has.of.word.most_width in
    let whole : min x.width 128 ≡ x.width = omega arith in
    let range : x.has.word.value < 2 ^ min x.width 128 = subst (λ n. x.has.word.value < 2 ^ n) (x.has.of.fits ∙ sym whole) x.has.of.word.in_range in
    let c = chosen_is t scope cases default x.has.word.value alike.0 (λ less. default_is t scope default (nat_lt (length cases) (2 ^ min x.width 128)) (let fewer : length cases < 2 ^ min x.width 128 = omega (arith, less, range) in grind (arith, nat_tests, fewer)) by_default alike.1) in
    subst (IsOfType (ty_of t)) (sym (on_word-Bits (λ x. optional_value s values (chosen cases default x.value)) (operand_value s values a) x.has.word x.has.is ∙ ap (optional_value s values) c.is))
    (subst (λ u. IsOfType (ty_of u) (operand_value s values c.operand)) (sym (same_is t (type_in scope c.operand) c.like)) (k c.operand).value)

-- ---- literals

abbrev Reads : Ty → Type 0
Reads t = HasWidths t → (c : Constant) → IsTrue (constant_fits t c) → IsOfType t (constant_value t c)

number_typed : (w : ℕ) → HasWidths (ty.Bits w) → (y : Constant-F Constant) → IsTrue (number_fits w y) → IsOfType (ty.Bits w) (number_read w y)
number_typed w widths (Constant-F.Number n) h =
    let both = both_true (nat_le 1 w) (nat_le w 128) (sym (tys.fold-Bits Bool widths_step w) ∙ widths) in
    let most : w ≤ 128 = grind (arith, nat_tests, both.1) in
    let whole : min w 128 ≡ w = omega arith in
    let small : IsTrue (nat_lt n (2 ^ w)) = ap (λ k. nat_lt n (2 ^ k)) (sym whole) ∙ h in
    let same : IsTrue (w == w) = grind (arith, nat_tests) in
    subst (IsOfType (ty.Bits w)) (sym (bits_there (nat_le 1 w && (nat_le w 128 && nat_lt n (2 ^ w))) (word w n) (and_true _ _ both.0 (and_true _ _ both.1 small))))
    (fits-Bits w (value.Bits (word w n)) ∙ ap (bits_fit w) (outs-Bits (word w n)) ∙ and_true _ _ (and_true _ _ (and_true _ _ same both.0) both.1) small)
number_typed w widths (Constant-F.Tuple cs) h = absurd (cc)
number_typed w widths (Constant-F.Array cs) h = absurd (cc)

each_reads : (ts : List Ty) (cs : List Constant) → EachHas Reads ts → HasAllWidths ts → IsTrue (constants.each_fits (map constant_fits ts) cs) → IsTrue (each_passes (map fits ts) (each_read (map constant_value ts) cs))
each_reads [] [] each widths h = refl
each_reads [] (c ∷ cs) each widths h = absurd (cc)
each_reads (t ∷ ts) [] each widths h = absurd (cc)
each_reads (t ∷ ts) (c ∷ cs) each widths h =
    let both = both_true (constant_fits t c) (constants.each_fits (map constant_fits ts) cs) h in
    let all = both_true _ _ widths in
    and_true _ _ (each.0 all.0 c both.0) (each_reads ts cs each.1 all.1 both.1)

parts_typed : (ts : List Ty) → EachHas Reads ts → HasAllWidths ts → (y : Constant-F Constant) → IsTrue (constants.tuple_fits (map constant_fits ts) y) → IsOfType (ty.Tuple ts) (tuple_read (map constant_value ts) y)
parts_typed ts each widths (Constant-F.Number n) h = absurd (cc)
parts_typed ts each widths (Constant-F.Tuple cs) h =
    let vs = each_read (map constant_value ts) cs in
    fits-Tuple ts (value.Tuple vs) ∙ ap (tuple_fits (map fits ts)) (outs-Tuple vs) ∙ each_reads ts cs each widths h
parts_typed ts each widths (Constant-F.Array cs) h = absurd (cc)

all_read : (t : Ty) (cs : List Constant) → ((c : Constant) → IsTrue (constant_fits t c) → IsOfType t (constant_value t c)) → IsTrue (list_all (constant_fits t) cs) → IsTrue (list_all (fits t) (map (constant_value t) cs))
all_read t [] one h = refl
all_read t (c ∷ cs) one h =
    let both = both_true (constant_fits t c) (list_all (constant_fits t) cs) h in
    and_true _ _ (one c both.0) (all_read t cs one both.1)

elements_typed : (t : Ty) (n : ℕ) → ((c : Constant) → IsTrue (constant_fits t c) → IsOfType t (constant_value t c)) → (y : Constant-F Constant) → IsTrue (constants.array_fits (constant_fits t) n y) → IsOfType (ty.Array t n) (array_read (constant_value t) y)
elements_typed t n one (Constant-F.Number m) h = absurd (cc)
elements_typed t n one (Constant-F.Tuple cs) h = absurd (cc)
elements_typed t n one (Constant-F.Array cs) h =
    let both = both_true (nat_eq (length cs) n) (list_all (constant_fits t) cs) h in
    array_value t n (map (constant_value t) cs) (length-map cs (constant_value t) ∙ nat_same (length cs) n both.0) (all_read t cs one both.1)

-- a constant that fits a type writes a value of it
pub constant_typed : (t : Ty) → Reads t
constant_typed = ty_induction Reads
    (λ w widths c h.
    subst (IsOfType (ty.Bits w)) (sym (ap (λ (f : Constant → Value). f c) (tys.fold-Bits (Constant → Value) read_step w)))
    (number_typed w widths (out-Constant c) (sym (cases.fits-Bits w c) ∙ h)))
    (λ ts each widths c h.
    subst (IsOfType (ty.Tuple ts)) (sym (ap (λ (f : Constant → Value). f c) (tys.fold-Tuple (Constant → Value) read_step ts)))
    (parts_typed ts each (sym (tys.fold-Tuple Bool widths_step ts) ∙ widths) (out-Constant c) (sym (cases.fits-Tuple ts c) ∙ h)))
    (λ t n one widths c h.
    subst (IsOfType (ty.Array t n)) (sym (ap (λ (f : Constant → Value). f c) (tys.fold-Array (Constant → Value) read_step t n)))
    (elements_typed t n (one (sym (tys.fold-Array Bool widths_step t n) ∙ widths)) (out-Constant c) (sym (cases.fits-Array t n c) ∙ h)))
