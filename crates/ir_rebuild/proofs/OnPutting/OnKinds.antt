-- What a node of each kind gives.
use Rattle.std.proofs.Common.{◌≡◌, ℕ, zero, suc, ◌+◌, ◌*◌, ◌-◌, ◌^◌, ◌<◌, ◌≤◌, min, List, ◌∷◌, map, sum, length, true, ◌&&◌, ◌==◌, if◌then◌else◌, IsTrue, Some, None, refl, sym, ap, ap₂, subst, ◌∙◌, arith, []}
use Rattle.std.specs.Prelude.{slice_get, nat_eq, nat_lt, nat_le, not}
use Rattle.std.specs.List.{list_all}
use Rattle.std.proofs.lemmas.Bool.Decides.{nat_tests}
use Rattle.std.proofs.lemmas.List.Sums.{sum_by-cons}
use Rattle.xb_bits.specs.Word.{Word, word}
use Rattle.xb_bits.specs.Operations as bits
use Rattle.xb_value.specs.declared.ty.Ty as ty
use Rattle.xb_value.specs.declared.value.Value.{Value}
use Rattle.xb_value.specs.declared.value.Value as value
use Rattle.xb_value.specs.Flat.{flat_of, joined}
use Rattle.xb_value.proofs.Lemmas.Types as tys
use Rattle.xb_value.proofs.Lemmas.Values.{flat_of-Bits, flat_of-Tuple}
use Rattle.net_core.specs.Behavior.{IsWordOf}
use Rattle.delay_model.specs.declared.op.Op.TheVariants as op
use Rattle.delay_model.specs.declared.op.Binary.{Binary}
use Rattle.delay_model.specs.declared.op.Unary.{Unary}
use Rattle.delay_model.specs.declared.op.Compare.{Compare}
use Rattle.delay_model.specs.declared.op.Shift.{Shift}
use Rattle.delay_model.specs.declared.op.Reduce.{Reduce}
use Rattle.delay_model.specs.declared.op.Extend.{Extend}
use Rattle.ir_tree.specs.declared.ir_type.IrType.{IrType, Bits, Tuple}
use Rattle.ir_tree.specs.declared.constant.Constant.{Constant, Number}
use Rattle.ir_tree.specs.declared.constant.Constant.TheViews.{outs-Number}
use Rattle.ir_tree.specs.declared.node.Operand.{Operand}
use Rattle.ir_tree.specs.declared.node.Attributes.TheVariants as attributes
use Rattle.ir_tree.specs.declared.node_types.types.Marks.{Marks}
use Rattle.ir_tree.specs.Types.{ty_of, bounded}
use Rattle.ir_tree.specs.Constants.{constant_value, read_step, number_read}
use Rattle.ir_tree.specs.Operations.{binary_word, binary_value, unary_word, compare_value, holds, bit, shift_word, reduce_word, number_where, slice_value, dyn_slice_value, extend_word, extend_value, chosen, on_word, on_tuple, on_array, element_at, at_index, updated}
use Rattle.ir_tree.specs.NodeValues.{operand_value, optional_value}
use Rattle.ir_tree.specs.NodeTypes.Types.{marks_of, is_bits, is_bits_of, is_bits_where, bits_width, same_type, each_same, is_array_of, is_array_sized, is_tuple_where}
use Rattle.ir_tree.specs.NodeTypes.Constants.{constant_fits, number_fits}
use Rattle.ir_tree.proofs.Lemmas.NodeTypes.IrTypes.{ty_of-Bits}
use Rattle.ir_tree.proofs.Lemmas.NodeTypes.ConstantCases as cases
use Rattle.ir_tree.specs.Rules.Fitting.{type_in, types_behind, node_fits, all_bits_of, cases_count, part_is}
use Rattle.ir_tree.specs.Rules.Lines.{is_there, are_there, is_value_of}
use Rattle.ir_tree.proofs.Lemmas.Rules.Typed.Checked.{and_true}
use Rattle.ir_tree.proofs.Lemmas.Rules.Typed.Tests.{marks-Bits}
use Rattle.ir_tree.proofs.Lemmas.Rules.Typed.Scopes.{bits_there}
use Rattle.ir_tree.proofs.Lemmas.Rules.Typed.Scopes as scopes
use Rattle.ir_rebuild.specs.declared.putting.nodes.Nodes.{Nodes}
use Rattle.ir_rebuild.specs.Putting.Types.{array_of, element_of, part_of}
use Rattle.ir_rebuild.specs.Putting.Words.{word_by, words_by, either_by}
use Rattle.ir_rebuild.specs.Putting.Given.{IsNodeType, IsBuilt, type_at, HasType, OperandsHaveTypes, OperandsHaveType, first_operand, node_with, PutsNode, GivesValue}
use Rattle.ir_rebuild.proofs.OnPutting.TypesOf.{equal_number, bits_test, tuple_test, width_is, same_type_here, types_same_here, is_array, array_sized, element_array, part_tuple, number_bounds, bits_type, unit_type, part_type, element_type}
use Rattle.ir_rebuild.proofs.Lemmas.Putting.{operand_word}
use Rattle.ir_rebuild.proofs.OnPutting.Putting.{put_gives, number_test, one_there, both_there, word_same, words_same, same_width}

own_width : (w : ℕ) → IsTrue (is_bits_of w (Bits w []))
own_width w = bits_test (nat_eq w) w ∙ equal_number w

-- ---- literals

bounded_is : (w : ℕ) → w ≤ 128 → bounded w ≡ w
bounded_is w h = omega (arith, h)

literal_fits : (w n : ℕ) → w ≤ 128 → n < 2 ^ w → IsTrue (is_value_of (Bits w []) (Number n))
literal_fits w n most range =
    let whole : min (bounded w) 128 ≡ w = omega (arith, most) in
    let within : n < 2 ^ min (bounded w) 128 = subst (λ k. n < 2 ^ k) (sym whole) range in
    let test : IsTrue (nat_lt n (2 ^ min (bounded w) 128)) = grind (arith, nat_tests, within) in
    and_true (not (marks_of (Bits w [])).token) (constant_fits (ty_of (Bits w [])) (Number n))
    (ap (λ (m : Marks). not m.token) (marks-Bits w []))
    (ap (λ t. constant_fits t (Number n)) (ty_of-Bits w []) ∙ (cases.fits-Bits (bounded w) (Number n) ∙ (ap (number_fits (bounded w)) (outs-Number n) ∙ test)))

literal_value : (w n : ℕ) → 1 ≤ w → w ≤ 128 → n < 2 ^ w → constant_value (ty_of (Bits w [])) (Number n) ≡ value.Bits (word w n)
literal_value w n some most range =
    let first : IsTrue (nat_le 1 w) = grind (arith, nat_tests, some) in
    let second : IsTrue (nat_le w 128) = grind (arith, nat_tests, most) in
    let third : IsTrue (nat_lt n (2 ^ w)) = grind (arith, nat_tests, range) in
    ap (λ t. constant_value t (Number n)) (ty_of-Bits w [] ∙ ap ty.Bits (bounded_is w most))
    ∙ (ap (λ (f : Constant → Value). f (Number n)) (tys.fold-Bits (Constant → Value) read_step w)
    ∙ (ap (number_read w) (outs-Number n)
    ∙ bits_there (nat_le 1 w && (nat_le w 128 && nat_lt n (2 ^ w))) (word w n) (and_true _ _ first (and_true _ _ second third))))

pub literal_put : (old new : Nodes) (o : Operand) (t : IrType) (c : Constant) → PutsNode old new (node_with t op.Literal [] (attributes.Value c)) o → IsBuilt old → IsNodeType t → IsTrue (is_value_of t c) → GivesValue old new o t (λ s values. constant_value (ty_of t) c)
literal_put old new o t c p built within h =
    put_gives old new t op.Literal [] (attributes.Value c) o (λ s values. constant_value (ty_of t) c) built within refl refl h refl refl (λ s values v. refl) p

pub number_put : (old new : Nodes) (w n : ℕ) (o : Operand) (t : IrType) → t ≡ Bits w [] → PutsNode old new (node_with t op.Literal [] (attributes.Value (Number n))) o → IsBuilt old → 1 ≤ w → w ≤ 128 → n < 2 ^ w → GivesValue old new o (Bits w []) (λ s values. value.Bits (word w n))
number_put old new w n o t e p built some most range =
    put_gives old new (Bits w []) op.Literal [] (attributes.Value (Number n)) o (λ s values. value.Bits (word w n)) built (bits_type w some most) refl refl (literal_fits w n most range) refl refl
    (λ s values v. literal_value w n some most range)
    (subst (λ u. PutsNode old new (node_with u op.Literal [] (attributes.Value (Number n))) o) e p)

pub unit_put : (old new : Nodes) (o : Operand) (t : IrType) → t ≡ Tuple [] [] → PutsNode old new (node_with t op.Tuple [] attributes.None) o → IsBuilt old → GivesValue old new o (Tuple [] []) (λ s values. value.Tuple [])
unit_put old new o t e p built =
    put_gives old new (Tuple [] []) op.Tuple [] attributes.None o (λ s values. value.Tuple []) built unit_type refl refl refl
    (tuple_test (λ ts. each_same (map same_type ts) (map (type_in (types_behind old.state old.list.items)) [])) [])
    refl (λ s values v. refl)
    (subst (λ u. PutsNode old new (node_with u op.Tuple [] attributes.None) o) e p)

-- ---- operations on numbers

pub binary_put : (old new : Nodes) (k : Binary) (a b o : Operand) (t : IrType) → t ≡ type_at old a → PutsNode old new (node_with t (op.Binary k) (a ∷ b ∷ []) attributes.None) o
    → (w : ℕ) → IsBuilt old → HasType old a (Bits w []) → HasType old b (Bits w []) → GivesValue old new o (Bits w []) (words_by (binary_word k) a b)
binary_put old new k a b o t e p w built h l =
    put_gives old new (Bits w []) (op.Binary k) (a ∷ b ∷ []) attributes.None o (words_by (binary_word k) a b) built h.within (both_there (length old.list.items) a b h.there l.there) refl refl fits refl
    (λ s values v. words_same (binary_value k) (λ x y. value.Bits (binary_word k x y)) w w (operand_value s values a) (operand_value s values b) (operand_word old a w h s values v) (operand_word old b w l s values v)
    (λ x y i j. bits_there (x.width == y.width) (binary_word k x y) (same_width w x y i j)))
    (subst (λ u. PutsNode old new (node_with u (op.Binary k) (a ∷ b ∷ []) attributes.None) o) (e ∙ h.ty) p)
  where
    fits : IsTrue (node_fits [] (types_behind old.state old.list.items) (node_with (Bits w []) (op.Binary k) (a ∷ b ∷ []) attributes.None))
    fits =
        bits_test (λ w. all_bits_of w (types_behind old.state old.list.items) (a ∷ b ∷ [])) w
        ∙ and_true (is_bits_of w (type_at old a)) (is_bits_of w (type_at old b) && true) (number_test old a w (nat_eq w) h (equal_number w))
        (and_true (is_bits_of w (type_at old b)) true (number_test old b w (nat_eq w) l (equal_number w)) refl)

pub unary_put : (old new : Nodes) (k : Unary) (a o : Operand) (t : IrType) → t ≡ type_at old a → PutsNode old new (node_with t (op.Unary k) (a ∷ []) attributes.None) o
    → (w : ℕ) → IsBuilt old → HasType old a (Bits w []) → GivesValue old new o (Bits w []) (word_by (unary_word k) a)
unary_put old new k a o t e p w built h =
    put_gives old new (Bits w []) (op.Unary k) (a ∷ []) attributes.None o (word_by (unary_word k) a) built h.within (one_there (length old.list.items) a h.there) refl refl fits refl
    (λ s values v. refl)
    (subst (λ u. PutsNode old new (node_with u (op.Unary k) (a ∷ []) attributes.None) o) (e ∙ h.ty) p)
  where
    fits : IsTrue (node_fits [] (types_behind old.state old.list.items) (node_with (Bits w []) (op.Unary k) (a ∷ []) attributes.None))
    fits =
        bits_test (λ w. all_bits_of w (types_behind old.state old.list.items) (a ∷ [])) w
        ∙ and_true (is_bits_of w (type_at old a)) true (number_test old a w (nat_eq w) h (equal_number w)) refl

pub compare_put : (old new : Nodes) (k : Compare) (a b o : Operand) (t : IrType) → t ≡ Bits 1 [] → PutsNode old new (node_with t (op.Compare k) (a ∷ b ∷ []) attributes.None) o
    → (w : ℕ) → IsBuilt old → HasType old a (Bits w []) → HasType old b (Bits w []) → GivesValue old new o (Bits 1 []) (words_by (λ x y. bit (holds k x y)) a b)
compare_put old new k a b o t e p w built h l =
    put_gives old new (Bits 1 []) (op.Compare k) (a ∷ b ∷ []) attributes.None o (words_by (λ x y. bit (holds k x y)) a b) built (bits_type 1 (omega arith) (omega arith)) (both_there (length old.list.items) a b h.there l.there) refl refl fits refl
    (λ s values v. words_same (compare_value k) (λ x y. value.Bits (bit (holds k x y))) w w (operand_value s values a) (operand_value s values b) (operand_word old a w h s values v) (operand_word old b w l s values v)
    (λ x y i j. bits_there (x.width == y.width) (bit (holds k x y)) (same_width w x y i j)))
    (subst (λ u. PutsNode old new (node_with u (op.Compare k) (a ∷ b ∷ []) attributes.None) o) e p)
  where
    fits : IsTrue (node_fits [] (types_behind old.state old.list.items) (node_with (Bits 1 []) (op.Compare k) (a ∷ b ∷ []) attributes.None))
    fits =
        and_true (is_bits_where (λ w. all_bits_of w (types_behind old.state old.list.items) (b ∷ [])) (type_at old a)) (is_bits_of 1 (Bits 1 []))
        (number_test old a w (λ w. all_bits_of w (types_behind old.state old.list.items) (b ∷ [])) h
        (and_true (is_bits_of w (type_at old b)) true (number_test old b w (nat_eq w) l (equal_number w)) refl))
        (own_width 1)

pub shift_put : (old new : Nodes) (k : Shift) (a b o : Operand) (t : IrType) → t ≡ type_at old a → PutsNode old new (node_with t (op.Shift k) (a ∷ b ∷ []) attributes.None) o
    → (w u : ℕ) → IsBuilt old → HasType old a (Bits w []) → HasType old b (Bits u []) → GivesValue old new o (Bits w []) (words_by (shift_word k) a b)
shift_put old new k a b o t e p w u built h l =
    put_gives old new (Bits w []) (op.Shift k) (a ∷ b ∷ []) attributes.None o (words_by (shift_word k) a b) built h.within (both_there (length old.list.items) a b h.there l.there) refl refl fits refl
    (λ s values v. refl)
    (subst (λ u. PutsNode old new (node_with u (op.Shift k) (a ∷ b ∷ []) attributes.None) o) (e ∙ h.ty) p)
  where
    fits : IsTrue (node_fits [] (types_behind old.state old.list.items) (node_with (Bits w []) (op.Shift k) (a ∷ b ∷ []) attributes.None))
    fits =
        and_true (is_bits_where (λ w. is_bits_of w (type_at old a)) (Bits w [])) (is_bits (type_at old b) && true)
        (bits_test (λ w. is_bits_of w (type_at old a)) w ∙ number_test old a w (nat_eq w) h (equal_number w))
        (and_true (is_bits (type_at old b)) true (number_test old b u (λ w. true) l refl) refl)

pub reduce_put : (old new : Nodes) (k : Reduce) (a o : Operand) (t : IrType) → t ≡ Bits 1 [] → PutsNode old new (node_with t (op.Reduce k) (a ∷ []) attributes.None) o
    → (w : ℕ) → IsBuilt old → HasType old a (Bits w []) → GivesValue old new o (Bits 1 []) (word_by (reduce_word k) a)
reduce_put old new k a o t e p w built h =
    put_gives old new (Bits 1 []) (op.Reduce k) (a ∷ []) attributes.None o (word_by (reduce_word k) a) built (bits_type 1 (omega arith) (omega arith)) (one_there (length old.list.items) a h.there) refl refl
    (and_true (is_bits (type_at old a) && true) (is_bits_of 1 (Bits 1 [])) (and_true (is_bits (type_at old a)) true (number_test old a w (λ w. true) h refl) refl) (own_width 1))
    refl (λ s values v. refl)
    (subst (λ u. PutsNode old new (node_with u (op.Reduce k) (a ∷ []) attributes.None) o) e p)

-- ---- numbers side by side

joined_two : (x y : Word) → joined (x ∷ y ∷ []) ≡ bits.concat x y
joined_two x y = ap (λ (low : Word). word (x.width + low.width) (x.value * 2 ^ low.width + low.value)) one
  where
    width : y.width + 0 ≡ y.width
    width = omega arith

    number : y.value * 2 ^ 0 + 0 ≡ y.value
    number = omega arith

    one : joined (y ∷ []) ≡ y
    one = λ i. record { width = width i; value = number i }

side_by_side : (w u : ℕ) (v z : Value) (x y : Word) → w + u ≤ 128 → v ≡ value.Bits x → z ≡ value.Bits y → IsWordOf w x → IsWordOf u y → number_where (flat_of (value.Tuple (v ∷ z ∷ []))) ≡ value.Bits (bits.concat x y)
side_by_side w u v z x y most e f h l =
    ap number_where (flat_of-Tuple (v ∷ z ∷ []) ∙ (ap₂ (λ p q. joined (p ∷ q ∷ [])) (ap flat_of e ∙ flat_of-Bits x) (ap flat_of f ∙ flat_of-Bits y) ∙ joined_two x y))
    ∙ bits_there (nat_le 1 (x.width + y.width) && nat_le (x.width + y.width) 128) (bits.concat x y) (and_true _ _ first second)
  where
    first : IsTrue (nat_le 1 (x.width + y.width))
    first = let some = h.word.some_width in let least : 1 ≤ x.width + y.width = omega (arith, some) in grind (arith, nat_tests, least)

    second : IsTrue (nat_le (x.width + y.width) 128)
    second = let p = h.fits in let q = l.fits in let greatest : x.width + y.width ≤ 128 = omega (arith, most, p, q) in grind (arith, nat_tests, greatest)

pub concat_put : (old new : Nodes) (a b o : Operand) (m : ℕ) (t : IrType) → m ≡ min (bits_width (type_at old a) + bits_width (type_at old b)) (2 ^ 128 - 1) → t ≡ Bits m [] → PutsNode old new (node_with t op.Concat (a ∷ b ∷ []) attributes.None) o
    → (w u : ℕ) → IsBuilt old → HasType old a (Bits w []) → HasType old b (Bits u []) → w + u ≤ 128 → GivesValue old new o (Bits (w + u) []) (words_by bits.concat a b)
concat_put old new a b o m t total e p w u built h l most =
    put_gives old new (Bits (w + u) []) op.Concat (a ∷ b ∷ []) attributes.None o (words_by bits.concat a b) built (bits_type (w + u) some most) (both_there (length old.list.items) a b h.there l.there) refl refl fits refl
    (λ s values v. let x = operand_word old a w h s values v in let y = operand_word old b u l s values v in
    side_by_side w u (operand_value s values a) (operand_value s values b) x.word y.word most x.is y.is x.of y.of
    ∙ sym (scopes.on_words-Bits (λ x y. value.Bits (bits.concat x y)) (operand_value s values a) (operand_value s values b) x.word y.word x.is y.is))
    (subst (λ u. PutsNode old new (node_with u op.Concat (a ∷ b ∷ []) attributes.None) o) (e ∙ ap (λ k. Bits k []) whole) p)
  where
    first : bits_width (type_at old a) ≡ w
    first = ap bits_width h.ty ∙ width_is w

    second : bits_width (type_at old b) ≡ u
    second = ap bits_width l.ty ∙ width_is u

    whole : m ≡ w + u
    whole = total ∙ (ap₂ (λ i j. min (i + j) (2 ^ 128 - 1)) first second ∙ small (w + u) most)
      where
        small : (k : ℕ) → k ≤ 128 → min k (2 ^ 128 - 1) ≡ k
        small k q = omega (arith, q)

    some : 1 ≤ w + u
    some = let one = (number_bounds w h.within).0 in omega (arith, one)

    sum_is : sum (map (λ o. bits_width (type_at old o)) (a ∷ b ∷ [])) ≡ w + u
    sum_is =
        sum_by-cons (λ x. x) (bits_width (type_at old a)) (bits_width (type_at old b) ∷ [])
        ∙ (ap₂ (λ i j. i + j) first (sum_by-cons (λ x. x) (bits_width (type_at old b)) [] ∙ ap (λ j. j + 0) second) ∙ here w u)
      where
        here : (i j : ℕ) → i + (j + 0) ≡ i + j
        here i j = omega arith

    fits : IsTrue (node_fits [] (types_behind old.state old.list.items) (node_with (Bits (w + u) []) op.Concat (a ∷ b ∷ []) attributes.None))
    fits =
        and_true (is_bits (type_at old a) && (is_bits (type_at old b) && true)) (is_bits_where (λ k. nat_eq (sum (map (λ o. bits_width (type_at old o)) (a ∷ b ∷ []))) k) (Bits (w + u) []))
        (and_true (is_bits (type_at old a)) _ (number_test old a w (λ w. true) h refl) (and_true (is_bits (type_at old b)) true (number_test old b u (λ w. true) l refl) refl))
        (bits_test (λ k. nat_eq (sum (map (λ o. bits_width (type_at old o)) (a ∷ b ∷ []))) k) (w + u) ∙ (ap (λ k. nat_eq k (w + u)) sum_is ∙ equal_number (w + u)))

-- ---- parts of numbers, and longer ones

pub slice_put : (old new : Nodes) (a o : Operand) (start width : ℕ) (t : IrType) → t ≡ Bits width [] → PutsNode old new (node_with t op.BitSlice (a ∷ []) (attributes.StartAndWidth start width)) o
    → (w : ℕ) → IsBuilt old → HasType old a (Bits w []) → 1 ≤ width → start + width ≤ w → GivesValue old new o (Bits width []) (word_by (λ x. bits.slice x start width) a)
slice_put old new a o start width t e p w built h some within =
    put_gives old new (Bits width []) op.BitSlice (a ∷ []) (attributes.StartAndWidth start width) o (word_by (λ x. bits.slice x start width) a) built (bits_type width some few) (one_there (length old.list.items) a h.there) refl refl
    (and_true (is_bits_of width (Bits width [])) (is_bits_where (nat_le (start + width)) (type_at old a) && true) (own_width width) (and_true (is_bits_where (nat_le (start + width)) (type_at old a)) true (number_test old a w (nat_le (start + width)) h (inside w within)) refl))
    refl
    (λ s values v. word_same (slice_value start width) (λ x. value.Bits (bits.slice x start width)) w (operand_value s values a) (operand_word old a w h s values v)
    (λ x i. bits_there (nat_le 1 width && nat_le (start + width) x.width) (bits.slice x start width) (and_true (nat_le 1 width) _ least (inside x.width (subst (λ k. start + width ≤ k) (sym i.fits) within)))))
    (subst (λ u. PutsNode old new (node_with u op.BitSlice (a ∷ []) (attributes.StartAndWidth start width)) o) e p)
  where
    few : width ≤ 128
    few = let most = (number_bounds w h.within).1 in omega (arith, most, within)

    least : IsTrue (nat_le 1 width)
    least = grind (arith, nat_tests, some)

    inside : (k : ℕ) → start + width ≤ k → IsTrue (nat_le (start + width) k)
    inside k q = grind (arith, nat_tests, q)

pub part_put : (old new : Nodes) (a b o : Operand) (width : ℕ) (t : IrType) → t ≡ Bits width [] → PutsNode old new (node_with t op.DynamicBitSlice (a ∷ b ∷ []) (attributes.Width width)) o
    → (w u : ℕ) → IsBuilt old → HasType old a (Bits w []) → HasType old b (Bits u []) → 1 ≤ width → width ≤ 128 → GivesValue old new o (Bits width []) (words_by (λ x y. bits.dyn_slice x y width) a b)
part_put old new a b o width t e p w u built h l some most =
    put_gives old new (Bits width []) op.DynamicBitSlice (a ∷ b ∷ []) (attributes.Width width) o (words_by (λ x y. bits.dyn_slice x y width) a b) built (bits_type width some most) (both_there (length old.list.items) a b h.there l.there) refl refl
    (and_true (is_bits_of width (Bits width [])) (is_bits (type_at old a) && (is_bits (type_at old b) && true)) (own_width width)
    (and_true (is_bits (type_at old a)) _ (number_test old a w (λ w. true) h refl) (and_true (is_bits (type_at old b)) true (number_test old b u (λ w. true) l refl) refl)))
    refl
    (λ s values v. words_same (dyn_slice_value width) (λ x y. value.Bits (bits.dyn_slice x y width)) w u (operand_value s values a) (operand_value s values b) (operand_word old a w h s values v) (operand_word old b u l s values v)
    (λ x y i j. bits_there (nat_le 1 width && nat_le width 128) (bits.dyn_slice x y width) (and_true (nat_le 1 width) (nat_le width 128) least greatest)))
    (subst (λ u. PutsNode old new (node_with u op.DynamicBitSlice (a ∷ b ∷ []) (attributes.Width width)) o) e p)
  where
    least : IsTrue (nat_le 1 width)
    least = grind (arith, nat_tests, some)

    greatest : IsTrue (nat_le width 128)
    greatest = grind (arith, nat_tests, most)

pub extend_put : (old new : Nodes) (k : Extend) (a o : Operand) (width : ℕ) (t : IrType) → t ≡ Bits width [] → PutsNode old new (node_with t (op.Extend k) (a ∷ []) (attributes.NewBitCount width)) o
    → (w : ℕ) → IsBuilt old → HasType old a (Bits w []) → w ≤ width → width ≤ 128 → GivesValue old new o (Bits width []) (word_by (λ x. extend_word k x width) a)
extend_put old new k a o width t e p w built h less most =
    put_gives old new (Bits width []) (op.Extend k) (a ∷ []) (attributes.NewBitCount width) o (word_by (λ x. extend_word k x width) a) built (bits_type width some most) (one_there (length old.list.items) a h.there) refl refl
    (and_true (is_bits_of width (Bits width [])) (is_bits_where (λ v. nat_le v width) (type_at old a) && true) (own_width width) (and_true (is_bits_where (λ v. nat_le v width) (type_at old a)) true (number_test old a w (λ v. nat_le v width) h (inside w less)) refl))
    refl
    (λ s values v. word_same (extend_value k width) (λ x. value.Bits (extend_word k x width)) w (operand_value s values a) (operand_word old a w h s values v)
    (λ x i. bits_there (nat_le x.width width && nat_le width 128) (extend_word k x width) (and_true (nat_le x.width width) (nat_le width 128) (inside x.width (subst (λ j. j ≤ width) (sym i.fits) less)) greatest)))
    (subst (λ u. PutsNode old new (node_with u (op.Extend k) (a ∷ []) (attributes.NewBitCount width)) o) e p)
  where
    some : 1 ≤ width
    some = let own = (number_bounds w h.within).0 in omega (arith, own, less)

    greatest : IsTrue (nat_le width 128)
    greatest = grind (arith, nat_tests, most)

    inside : (j : ℕ) → j ≤ width → IsTrue (nat_le j width)
    inside j q = grind (arith, nat_tests, q)

-- ---- tuples and arrays

types_are : (old : Nodes) (os : List Operand) (ts : List IrType) → OperandsHaveTypes old os ts → map (type_at old) os ≡ ts
types_are old [] [] h = refl
types_are old [] (t ∷ ts) h = absurd h
types_are old (o ∷ os) [] h = absurd h
types_are old (o ∷ os) (t ∷ ts) h = ap₂ (λ x xs. x ∷ xs) h.0.ty (types_are old os ts h.1)

are_all_there : (old : Nodes) (os : List Operand) (ts : List IrType) → OperandsHaveTypes old os ts → IsTrue (are_there (length old.list.items) os)
are_all_there old [] ts h = refl
are_all_there old (o ∷ os) [] h = absurd h
are_all_there old (o ∷ os) (t ∷ ts) h = and_true (is_there (length old.list.items) o) (are_there (length old.list.items) os) h.0.there (are_all_there old os ts h.1)

pub tuple_put : (old new : Nodes) (os : List Operand) (o : Operand) (us : List IrType) (t : IrType) → us ≡ map (type_at old) os → t ≡ Tuple us [] → PutsNode old new (node_with t op.Tuple os attributes.None) o
    → (ts : List IrType) → IsBuilt old → OperandsHaveTypes old os ts → IsNodeType (Tuple ts []) → GivesValue old new o (Tuple ts []) (λ s values. value.Tuple (map (operand_value s values) os))
tuple_put old new os o us t are e p ts built h within =
    put_gives old new (Tuple ts []) op.Tuple os attributes.None o (λ s values. value.Tuple (map (operand_value s values) os)) built within (are_all_there old os ts h) refl refl
    fits refl (λ s values v. refl)
    (subst (λ u. PutsNode old new (node_with u op.Tuple os attributes.None) o) (e ∙ ap (λ xs. Tuple xs []) (are ∙ types_are old os ts h)) p)
  where
    fits : IsTrue (node_fits [] (types_behind old.state old.list.items) (node_with (Tuple ts []) op.Tuple os attributes.None))
    fits =
        and_true (nat_le 0 (length os)) (is_tuple_where (λ xs. each_same (map same_type xs) (map (type_at old) os)) (Tuple ts [])) (grind (arith, nat_tests))
        (tuple_test (λ xs. each_same (map same_type xs) (map (type_at old) os)) ts ∙ (ap (each_same (map same_type ts)) (types_are old os ts h) ∙ types_same_here ts))

all_there : (old : Nodes) (os : List Operand) (t : IrType) → OperandsHaveType old os t → IsTrue (are_there (length old.list.items) os)
all_there old [] t h = refl
all_there old (o ∷ os) t h = and_true (is_there (length old.list.items) o) (are_there (length old.list.items) os) h.0.there (all_there old os t h.1)

all_elements : (old : Nodes) (n : ℕ) (os : List Operand) (t : IrType) → OperandsHaveType old os t → IsTrue (list_all (λ o. is_array_of (array_of n t) (type_at old o)) os)
all_elements old n [] t h = refl
all_elements old n (o ∷ os) t h =
    and_true (is_array_of (array_of n t) (type_at old o)) (list_all (λ o. is_array_of (array_of n t) (type_at old o)) os)
    (ap (is_array_of (array_of n t)) h.0.ty ∙ is_array n t) (all_elements old n os t h.1)

first_type : (old : Nodes) (os : List Operand) (t : IrType) → 1 ≤ length os → OperandsHaveType old os t → type_at old (first_operand os) ≡ t
first_type old [] t some h = absurd (omega (arith, some))
first_type old (o ∷ os) t some h = h.0.ty

pub array_put : (old new : Nodes) (os : List Operand) (o : Operand) (u t : IrType) → u ≡ type_at old (first_operand os) → t ≡ array_of (length os) u → PutsNode old new (node_with t op.Array os attributes.None) o
    → (e : IrType) → IsBuilt old → 1 ≤ length os → OperandsHaveType old os e → IsNodeType (array_of (length os) e) → GivesValue old new o (array_of (length os) e) (λ s values. value.Array (map (operand_value s values) os))
array_put old new os o u t is f p e built some h within =
    put_gives old new (array_of (length os) e) op.Array os attributes.None o (λ s values. value.Array (map (operand_value s values) os)) built within (all_there old os e h) refl refl
    fits refl (λ s values v. refl)
    (subst (λ x. PutsNode old new (node_with x op.Array os attributes.None) o) (f ∙ ap (array_of (length os)) (is ∙ first_type old os e some h)) p)
  where
    fits : IsTrue (node_fits [] (types_behind old.state old.list.items) (node_with (array_of (length os) e) op.Array os attributes.None))
    fits =
        and_true (nat_le 1 (length os)) (is_array_sized (length os) (array_of (length os) e) && list_all (λ o. is_array_of (array_of (length os) e) (type_at old o)) os) (grind (arith, nat_tests, some))
        (and_true (is_array_sized (length os) (array_of (length os) e)) _ (array_sized (length os) e) (all_elements old (length os) os e h))

part_there : (ts : List IrType) (i : ℕ) (t : IrType) → slice_get ts i ≡ Some t → IsTrue (part_is i t ts)
part_there [] i t h = absurd (cc)
part_there (u ∷ us) zero t h = let same : u ≡ t = cc in ap (λ x. same_type x t) same ∙ same_type_here t
part_there (u ∷ us) (suc i) t h = part_there us i t h

pub element_put : (old new : Nodes) (a o : Operand) (i : ℕ) (u : IrType) → u ≡ part_of (type_at old a) i → PutsNode old new (node_with u op.TupleIndex (a ∷ []) (attributes.Index i)) o
    → (ts : List IrType) (t : IrType) → IsBuilt old → HasType old a (Tuple ts []) → slice_get ts i ≡ Some t → GivesValue old new o t (λ s values. on_tuple (element_at i) (operand_value s values a))
element_put old new a o i u is p ts t built h there =
    put_gives old new t op.TupleIndex (a ∷ []) (attributes.Index i) o (λ s values. on_tuple (element_at i) (operand_value s values a)) built (part_type ts i t there h.within) (one_there (length old.list.items) a h.there) refl refl
    (and_true (is_tuple_where (part_is i t) (type_at old a)) true (ap (is_tuple_where (part_is i t)) h.ty ∙ (tuple_test (part_is i t) ts ∙ part_there ts i t there)) refl)
    refl (λ s values v. refl)
    (subst (λ x. PutsNode old new (node_with x op.TupleIndex (a ∷ []) (attributes.Index i)) o) (is ∙ (ap (λ x. part_of x i) h.ty ∙ part_tuple ts i t there)) p)

pub index_put : (old new : Nodes) (a i o : Operand) (u : IrType) → u ≡ element_of (type_at old a) → PutsNode old new (node_with u op.ArrayIndex (a ∷ []) (attributes.Indices i)) o
    → (n k : ℕ) (t : IrType) → IsBuilt old → HasType old a (array_of n t) → HasType old i (Bits k []) → GivesValue old new o t (λ s values. on_array (λ vs. on_word (at_index vs) (operand_value s values i)) (operand_value s values a))
index_put old new a i o u is p n k t built h l =
    put_gives old new t op.ArrayIndex (a ∷ []) (attributes.Indices i) o (λ s values. on_array (λ vs. on_word (at_index vs) (operand_value s values i)) (operand_value s values a)) built (element_type n t h.within) (one_there (length old.list.items) a h.there) l.there refl
    (and_true (is_bits (type_at old i)) (is_array_of (type_at old a) t && true) (number_test old i k (λ w. true) l refl) (and_true (is_array_of (type_at old a) t) true (ap (λ x. is_array_of x t) h.ty ∙ is_array n t) refl))
    refl (λ s values v. refl)
    (subst (λ x. PutsNode old new (node_with x op.ArrayIndex (a ∷ []) (attributes.Indices i)) o) (is ∙ (ap element_of h.ty ∙ element_array n t)) p)

pub update_put : (old new : Nodes) (a i e o : Operand) (u : IrType) → u ≡ type_at old a → PutsNode old new (node_with u op.ArrayUpdate (a ∷ e ∷ []) (attributes.Indices i)) o
    → (n k : ℕ) (t : IrType) → IsBuilt old → HasType old a (array_of n t) → HasType old i (Bits k []) → HasType old e t → GivesValue old new o (array_of n t) (λ s values. on_array (λ vs. on_word (updated (operand_value s values e) vs) (operand_value s values i)) (operand_value s values a))
update_put old new a i e o u is p n k t built h l m =
    put_gives old new (array_of n t) op.ArrayUpdate (a ∷ e ∷ []) (attributes.Indices i) o (λ s values. on_array (λ vs. on_word (updated (operand_value s values e) vs) (operand_value s values i)) (operand_value s values a)) built h.within (both_there (length old.list.items) a e h.there m.there) l.there refl
    (and_true (is_bits (type_at old i)) (same_type (array_of n t) (type_at old a) && (is_array_of (array_of n t) (type_at old e) && true)) (number_test old i k (λ w. true) l refl)
    (and_true (same_type (array_of n t) (type_at old a)) _ (ap (same_type (array_of n t)) h.ty ∙ same_type_here (array_of n t))
    (and_true (is_array_of (array_of n t) (type_at old e)) true (ap (is_array_of (array_of n t)) m.ty ∙ is_array n t) refl)))
    refl (λ s values v. refl)
    (subst (λ x. PutsNode old new (node_with x op.ArrayUpdate (a ∷ e ∷ []) (attributes.Indices i)) o) (is ∙ h.ty) p)

-- ---- choices

chosen_by : (s : Value) (values : List Value) (one none : Operand) (n : ℕ) → n < 2 → optional_value s values (chosen (none ∷ one ∷ []) None n) ≡ (if n == 1 then operand_value s values one else operand_value s values none)
chosen_by s values one none zero h = refl
chosen_by s values one none (suc zero) h = refl
chosen_by s values one none (suc (suc n)) h = absurd (omega (arith, h))

pub choose_put : (old new : Nodes) (b one none o : Operand) (u : IrType) (cs : List Operand) → u ≡ type_at old one → cs ≡ none ∷ one ∷ [] → PutsNode old new (node_with u op.Sel (b ∷ []) (attributes.Cases cs None)) o
    → (t : IrType) → IsBuilt old → HasType old b (Bits 1 []) → HasType old one t → HasType old none t → GivesValue old new o t (either_by b one none)
choose_put old new b one none o u cs is are p t built h l m =
    put_gives old new t op.Sel (b ∷ []) (attributes.Cases (none ∷ one ∷ []) None) o (either_by b one none) built l.within (one_there (length old.list.items) b h.there) (and_true _ true (both_there (length old.list.items) none one m.there l.there) refl) refl
    (and_true (is_bits_where (cases_count 2 None) (type_at old b) && true) ((same_type t (type_at old none) && (same_type t (type_at old one) && true)) && true)
    (and_true (is_bits_where (cases_count 2 None) (type_at old b)) true (number_test old b 1 (cases_count 2 None) h refl) refl)
    (and_true _ true (and_true (same_type t (type_at old none)) _ (ap (same_type t) m.ty ∙ same_type_here t) (and_true (same_type t (type_at old one)) true (ap (same_type t) l.ty ∙ same_type_here t) refl)) refl))
    refl
    (λ s values v. word_same (λ x. optional_value s values (chosen (none ∷ one ∷ []) None x.value)) (λ x. if x.value == 1 then operand_value s values one else operand_value s values none) 1 (operand_value s values b) (operand_word old b 1 h s values v)
    (λ x i. chosen_by s values one none x.value (subst (λ k. x.value < 2 ^ k) i.fits i.word.in_range)))
    (subst (λ x. PutsNode old new (node_with x op.Sel (b ∷ []) (attributes.Cases (none ∷ one ∷ []) None)) o) (is ∙ l.ty)
    (subst (λ xs. PutsNode old new (node_with u op.Sel (b ∷ []) (attributes.Cases xs None)) o) are p))
