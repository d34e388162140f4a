-- Nodes on replacements can stand where they are put, and what numbers they are.
use Rattle.std.proofs.Common.{◌≡◌, ℕ, ◌+◌, ◌-◌, ◌^◌, ◌<◌, ◌≤◌, min, List, [], ◌∷◌, ◌++◌, map, length, Bool, true, false, ◌&&◌, IsTrue, refl, ap, ◌∙◌, arith}
use Rattle.std.specs.Prelude.{nat_eq, nat_le, nat_lt, not, ◌==◌}
use Rattle.std.specs.List.{list_all}
use Rattle.std.proofs.lemmas.Bool.Decides.{nat_tests}
use Rattle.std.proofs.lemmas.Nat.{pow_pos}
use Rattle.xb_bits.specs.Word.{Word, word}
use Rattle.xb_bits.specs.Parts.{slice_bits}
use Rattle.xb_span.specs.declared.limit.What.TheVariants as what
use Rattle.xb_value.specs.declared.ty.Ty as ty
use Rattle.xb_value.specs.declared.value.Value.{Value}
use Rattle.xb_value.specs.declared.value.Value as value
use Rattle.xb_value.specs.Width.{leaf_count, leaves_step}
use Rattle.xb_value.proofs.Lemmas.Types as tys
use Rattle.delay_model.specs.declared.op.Op.{Op}
use Rattle.delay_model.specs.declared.op.Op.TheVariants as op
use Rattle.delay_model.specs.declared.op.Binary.{Binary}
use Rattle.delay_model.specs.declared.op.Binary.TheVariants as binary
use Rattle.delay_model.specs.declared.op.Compare.{Compare}
use Rattle.delay_model.specs.declared.op.Extend.{Extend}
use Rattle.delay_model.specs.declared.op.Extend.TheVariants as extend
use Rattle.ir_tree.specs.declared.ir_type.IrType.{IrType, Bits}
use Rattle.ir_tree.specs.declared.ir_type.IrType.TheViews as ir_views
use Rattle.ir_tree.specs.declared.constant.Constant.{Constant, Number}
use Rattle.ir_tree.specs.declared.constant.Constant.TheViews.{outs-Number}
use Rattle.ir_tree.specs.declared.node.Operand.{Operand}
use Rattle.ir_tree.specs.declared.node.Node.{Node}
use Rattle.ir_tree.specs.declared.node.Attributes.{Attributes}
use Rattle.ir_tree.specs.Types.{ty_of, bounded}
use Rattle.ir_tree.specs.Constants.{constant_value, read_step, number_read}
use Rattle.ir_tree.specs.Operations.{binary_word, binary_value, compare_value, holds, bit, extend_word, extend_value, slice_value, on_word, on_words}
use Rattle.ir_tree.specs.NodeValues.{operand_value}
use Rattle.ir_tree.specs.declared.node_types.types.Marks.{Marks}
use Rattle.ir_tree.specs.Rules.Checks as checks
use Rattle.ir_tree.specs.Rules.Checks.{limit_at}
use Rattle.ir_tree.specs.NodeTypes.Constants.{constant_fits, number_fits}
use Rattle.ir_tree.specs.NodeTypes.Types.{marks_of, widths_in, widths_step, levels_of, levels_step, passes, bits_there, is_bits_of, is_bits_where}
use Rattle.ir_tree.specs.Rules.Fitting.{type_in, types_behind, all_bits_of, node_fits}
use Rattle.ir_tree.specs.Rules.Lines.{is_there, are_there, attributes_there, is_literal_of, is_value_of, type_limits}
use Rattle.ir_tree.proofs.Lemmas.NodeTypes.IrTypes.{fold-Bits, ty_of-Bits}
use Rattle.ir_tree.proofs.Lemmas.NodeTypes.ConstantCases as cases
use Rattle.ir_tree.specs.Rules.Typed.Typed.{none_broken}
use Rattle.ir_tree.proofs.Lemmas.Rules.Typed.Checked.{and_true}
use Rattle.ir_tree.proofs.Lemmas.Rules.Typed.Tests.{IsSound, marks-Bits}
use Rattle.ir_tree.proofs.Lemmas.Rules.Typed.Scopes as scopes
use Rattle.ir_tree.proofs.Lemmas.Rules.Typed.Scopes.{on_word-Bits, on_words-Bits}
use Rattle.ir_rebuild.specs.Built.{FitsAt, AreBuilt}
use Rattle.pass_narrow.specs.Numbers.{number, IsNumber}
use Rattle.pass_narrow.specs.Nodes.{bits_node, extension_node, slice_node, operation_node, comparison_node, zero_node}
use Rattle.pass_narrow.specs.Inner.Meant.{extend_number, binary_number, compare_number}
use Rattle.pass_narrow.proofs.Numbers.{IsMade, operand_bits, some_bits}

-- ---- types of bits

pub sound_bits : (w : ℕ) → 1 ≤ w → IsSound (Bits w [])
sound_bits w h =
    let some : IsTrue (nat_lt 0 w) = grind (arith, nat_tests, h) in
    ap (λ (m : Marks). m.sound) (marks-Bits w []) ∙ and_true (nat_lt 0 w) true some refl

abbrev limits_by : List ℕ → ℕ → ℕ → Bool
limits_by ws leaves levels = none_broken (map (λ w. limit_at 0 what.Width w 128) ws ++ limit_at 0 what.Leaves leaves 256 ∷ limit_at 0 what.Levels (checks.bounded levels - 0) 64 ∷ [])

limits_bits : (w : ℕ) → w ≤ 128 → IsTrue (none_broken (type_limits 0 (Bits w []) 0))
limits_bits w h = (λ i. limits_by (widths i) (leaves i) (levels i)) ∙ small
  where
    widths : widths_in (Bits w []) ≡ w ∷ []
    widths = fold-Bits (List ℕ) widths_step w []

    leaves : leaf_count (ty_of (Bits w [])) ≡ 1
    leaves = ap leaf_count (ty_of-Bits w []) ∙ tys.fold-Bits ℕ leaves_step (bounded w)

    levels : levels_of (Bits w []) ≡ 0
    levels = fold-Bits ℕ levels_step w []

    small : limits_by (w ∷ []) 1 0 ≡ true
    small =
        let within : nat_lt 128 (min w (2 ^ 64 - 1)) ≡ false = grind (arith, nat_tests, h) in
        ap (λ b. not b && true) within

placed_bits : (state : IrType) (nodes : List Node) (w : ℕ) (o : Op) (os : List Operand) (a : Attributes) → 1 ≤ w → w ≤ 128 → IsTrue (are_there (length nodes) os) → IsTrue (attributes_there (length nodes) a) → IsTrue (node_fits [] (types_behind state nodes) (bits_node w o os a)) → IsTrue (is_literal_of (Bits w []) a) → FitsAt state nodes (length nodes) (bits_node w o os a)
placed_bits state nodes w o os a some most there attributes fits literal = record {
  operands = there;
  attributes = attributes;
  fits = fits;
  typed = and_true (marks_of (Bits w [])).sound (is_literal_of (Bits w []) a) (sound_bits w some) literal;
  limits = limits_bits w most;
}

-- ---- tests of widths

pub bits_test : (p : ℕ → Bool) (w : ℕ) → is_bits_where p (Bits w []) ≡ p w
bits_test p w = ap (λ y. passes p (bits_there y)) (ir_views.outs-Bits w [])

equal_number : (w : ℕ) → IsTrue (nat_eq w w)
equal_number w = grind (arith, nat_tests)

same_width : (w : ℕ) → IsTrue (w == w)
same_width w = grind (arith, nat_tests)

pub number_test : (state : IrType) (nodes : List Node) (o : Operand) (w : ℕ) (p : ℕ → Bool) → IsNumber state nodes o w → IsTrue (p w) → IsTrue (is_bits_where p (type_in (types_behind state nodes) o))
number_test state nodes o w p h k = ap (is_bits_where p) h.ty ∙ bits_test p w ∙ k

own_width : (w : ℕ) → IsTrue (is_bits_of w (Bits w []))
own_width w = bits_test (nat_eq w) w ∙ equal_number w

both_there : (k : ℕ) (x y : Operand) → IsTrue (is_there k x) → IsTrue (is_there k y) → IsTrue (are_there k (x ∷ y ∷ []))
both_there k x y h l = and_true (is_there k x) (is_there k y && true) h (and_true (is_there k y) true l refl)

-- ---- extensions

extend_width : (kind : Extend) (x : Word) (w : ℕ) → extend_word kind x w ≡ word w (extend_word kind x w).value
extend_width extend.Zero x w = refl
extend_width extend.Sign x w = refl

pub extend_values : (kind : Extend) (p w : ℕ) (u : Value) (x : ℕ) → p ≤ w → w ≤ 128 → u ≡ value.Bits (word p x) → on_word (extend_value kind w) u ≡ value.Bits (word w (extend_number kind p w x))
extend_values kind p w u x within most h =
    let first : IsTrue (nat_le p w) = grind (arith, nat_tests, within) in
    let second : IsTrue (nat_le w 128) = grind (arith, nat_tests, most) in
    on_word-Bits (extend_value kind w) u (word p x) h
    ∙ scopes.bits_there (nat_le p w && nat_le w 128) (extend_word kind (word p x) w) (and_true _ _ first second)
    ∙ ap value.Bits (extend_width kind (word p x) w)

pub made_extension : (state : IrType) (nodes : List Node) (kind : Extend) (a : Operand) (p w : ℕ) → AreBuilt state nodes → IsNumber state nodes a p → p ≤ w → w ≤ 128 → IsMade state nodes (extension_node kind a w) w (λ s values. extend_number kind p w (number s values a))
made_extension state nodes kind a p w built h within most = record {
  fits_at = placed_bits state nodes w (op.Extend kind) (a ∷ []) _ some most (and_true (is_there (length nodes) a) true h.there refl) refl fits refl;
  plain = refl;
  result = record { ty = refl; value = λ s values v. extend_values kind p w (operand_value s values a) (number s values a) within most (operand_bits state nodes a p h s values v).is };
}
  where
    some : 1 ≤ w
    some = let own : 1 ≤ p = some_bits state nodes a p built h in omega arith

    first : IsTrue (nat_le p w)
    first = grind (arith, nat_tests, within)

    fits : IsTrue (node_fits [] (types_behind state nodes) (extension_node kind a w))
    fits =
        and_true (is_bits_of w (Bits w [])) (list_all (λ o. is_bits_where (λ v. nat_le v w) (type_in (types_behind state nodes) o)) (a ∷ []))
        (own_width w)
        (and_true (is_bits_where (λ v. nat_le v w) (type_in (types_behind state nodes) a)) true (number_test state nodes a p (λ v. nat_le v w) h first) refl)

-- ---- slices

pub slice_values : (k start w : ℕ) (u : Value) (x : ℕ) → 1 ≤ w → start + w ≤ k → u ≡ value.Bits (word k x) → on_word (slice_value start w) u ≡ value.Bits (word w (slice_bits x start w))
slice_values k start w u x some within h =
    let first : IsTrue (nat_le 1 w) = grind (arith, nat_tests, some) in
    let second : IsTrue (nat_le (start + w) k) = grind (arith, nat_tests, within) in
    on_word-Bits (slice_value start w) u (word k x) h
    ∙ scopes.bits_there (nat_le 1 w && nat_le (start + w) k) (word w (slice_bits x start w)) (and_true _ _ first second)

pub made_slice : (state : IrType) (nodes : List Node) (x : Operand) (k start w : ℕ) → IsNumber state nodes x k → start + w ≤ k → 1 ≤ w → w ≤ 128 → IsMade state nodes (slice_node x start w) w (λ s values. slice_bits (number s values x) start w)
made_slice state nodes x k start w h within some most = record {
  fits_at = placed_bits state nodes w op.BitSlice (x ∷ []) _ some most (and_true (is_there (length nodes) x) true h.there refl) refl fits refl;
  plain = refl;
  result = record { ty = refl; value = λ s values v. slice_values k start w (operand_value s values x) (number s values x) some within (operand_bits state nodes x k h s values v).is };
}
  where
    second : IsTrue (nat_le (start + w) k)
    second = grind (arith, nat_tests, within)

    fits : IsTrue (node_fits [] (types_behind state nodes) (slice_node x start w))
    fits =
        and_true (is_bits_of w (Bits w [])) (list_all (λ o. is_bits_where (nat_le (start + w)) (type_in (types_behind state nodes) o)) (x ∷ []))
        (own_width w)
        (and_true (is_bits_where (nat_le (start + w)) (type_in (types_behind state nodes) x)) true (number_test state nodes x k (nat_le (start + w)) h second) refl)

-- ---- operations

pub binary_width : (o : Binary) (x y : Word) → binary_word o x y ≡ word x.width (binary_word o x y).value
binary_width binary.Add x y = refl
binary_width binary.Sub x y = refl
binary_width binary.Umul x y = refl
binary_width binary.Udiv x y = refl
binary_width binary.Umod x y = refl
binary_width binary.And x y = refl
binary_width binary.Or x y = refl
binary_width binary.Xor x y = refl

pub binary_values : (o : Binary) (w : ℕ) (u v : Value) (x y : ℕ) → u ≡ value.Bits (word w x) → v ≡ value.Bits (word w y) → on_words (binary_value o) u v ≡ value.Bits (word w (binary_number o w x y))
binary_values o w u v x y h k =
    on_words-Bits (binary_value o) u v (word w x) (word w y) h k
    ∙ scopes.bits_there (w == w) (binary_word o (word w x) (word w y)) (same_width w)
    ∙ ap value.Bits (binary_width o (word w x) (word w y))

pub made_operation : (state : IrType) (nodes : List Node) (o : Binary) (x y : Operand) (w : ℕ) → AreBuilt state nodes → IsNumber state nodes x w → IsNumber state nodes y w → w ≤ 128 → IsMade state nodes (operation_node o x y w) w (λ s values. binary_number o w (number s values x) (number s values y))
made_operation state nodes o x y w built h k most = record {
  fits_at = placed_bits state nodes w (op.Binary o) (x ∷ y ∷ []) _ (some_bits state nodes x w built h) most (both_there (length nodes) x y h.there k.there) refl fits refl;
  plain = refl;
  result = record {
    ty = refl;
    value = λ s values v. binary_values o w (operand_value s values x) (operand_value s values y) (number s values x) (number s values y) (operand_bits state nodes x w h s values v).is (operand_bits state nodes y w k s values v).is;
  };
}
  where
    fits : IsTrue (node_fits [] (types_behind state nodes) (operation_node o x y w))
    fits =
        bits_test (λ w. all_bits_of w (types_behind state nodes) (x ∷ y ∷ [])) w
        ∙ and_true (is_bits_of w (type_in (types_behind state nodes) x)) (is_bits_of w (type_in (types_behind state nodes) y) && true)
        (number_test state nodes x w (nat_eq w) h (equal_number w))
        (and_true (is_bits_of w (type_in (types_behind state nodes) y)) true (number_test state nodes y w (nat_eq w) k (equal_number w)) refl)

-- ---- comparisons

pub compare_values : (o : Compare) (w : ℕ) (u v : Value) (x y : ℕ) → u ≡ value.Bits (word w x) → v ≡ value.Bits (word w y) → on_words (compare_value o) u v ≡ value.Bits (word 1 (compare_number o w x y))
compare_values o w u v x y h k =
    on_words-Bits (compare_value o) u v (word w x) (word w y) h k
    ∙ scopes.bits_there (w == w) (bit (holds o (word w x) (word w y))) (same_width w)

pub made_comparison : (state : IrType) (nodes : List Node) (o : Compare) (x y : Operand) (w : ℕ) → IsNumber state nodes x w → IsNumber state nodes y w → IsMade state nodes (comparison_node o x y) 1 (λ s values. compare_number o w (number s values x) (number s values y))
made_comparison state nodes o x y w h k = record {
  fits_at = placed_bits state nodes 1 (op.Compare o) (x ∷ y ∷ []) _ (omega arith) (omega arith) (both_there (length nodes) x y h.there k.there) refl fits refl;
  plain = refl;
  result = record {
    ty = refl;
    value = λ s values v. compare_values o w (operand_value s values x) (operand_value s values y) (number s values x) (number s values y) (operand_bits state nodes x w h s values v).is (operand_bits state nodes y w k s values v).is;
  };
}
  where
    fits : IsTrue (node_fits [] (types_behind state nodes) (comparison_node o x y))
    fits =
        and_true (is_bits_where (λ w. all_bits_of w (types_behind state nodes) (y ∷ [])) (type_in (types_behind state nodes) x)) (is_bits_of 1 (Bits 1 []))
        (number_test state nodes x w (λ w. all_bits_of w (types_behind state nodes) (y ∷ [])) h
        (and_true (is_bits_of w (type_in (types_behind state nodes) y)) true (number_test state nodes y w (nat_eq w) k (equal_number w)) refl))
        (own_width 1)

-- ---- the number 0

bounded_is : (w : ℕ) → w ≤ 128 → bounded w ≡ w
bounded_is w h = omega arith

zero_fits : (w : ℕ) → IsTrue (is_value_of (Bits w []) (Number 0))
zero_fits w =
    let some : 0 < 2 ^ min (bounded w) 128 = pow_pos (min (bounded w) 128) in
    let test : IsTrue (nat_lt 0 (2 ^ min (bounded w) 128)) = grind (arith, nat_tests, some) in
    and_true (not (marks_of (Bits w [])).token) (constant_fits (ty_of (Bits w [])) (Number 0))
    (ap (λ (m : Marks). not m.token) (marks-Bits w []))
    (ap (λ t. constant_fits t (Number 0)) (ty_of-Bits w [])
    ∙ cases.fits-Bits (bounded w) (Number 0)
    ∙ ap (number_fits (bounded w)) (outs-Number 0)
    ∙ test)

zero_value : (w : ℕ) → 1 ≤ w → w ≤ 128 → constant_value (ty_of (Bits w [])) (Number 0) ≡ value.Bits (word w 0)
zero_value w some most =
    let positive : 0 < 2 ^ w = pow_pos w in
    let first : IsTrue (nat_le 1 w) = grind (arith, nat_tests, some) in
    let second : IsTrue (nat_le w 128) = grind (arith, nat_tests, most) in
    let third : IsTrue (nat_lt 0 (2 ^ w)) = grind (arith, nat_tests, positive) in
    ap (λ t. constant_value t (Number 0)) (ty_of-Bits w [] ∙ ap ty.Bits (bounded_is w most))
    ∙ ap (λ (f : Constant → Value). f (Number 0)) (tys.fold-Bits (Constant → Value) read_step w)
    ∙ ap (number_read w) (outs-Number 0)
    ∙ scopes.bits_there (nat_le 1 w && (nat_le w 128 && nat_lt 0 (2 ^ w))) (word w 0) (and_true _ _ first (and_true _ _ second third))

pub made_zero : (state : IrType) (nodes : List Node) (w : ℕ) → 1 ≤ w → w ≤ 128 → IsMade state nodes (zero_node w) w (λ s values. 0)
made_zero state nodes w some most = record {
  fits_at = placed_bits state nodes w op.Literal [] _ some most refl refl refl (zero_fits w);
  plain = refl;
  result = record { ty = refl; value = λ s values v. zero_value w some most };
}
