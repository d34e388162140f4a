-- Nodes whose values have their types, and the values of operands.
use Rattle.std.proofs.Common.{◌≡◌, ℕ, zero, suc, ◌+◌, ◌-◌, ◌^◌, ◌<◌, ◌≤◌, List, [], ◌∷◌, ◌++◌, map, length, get_or, Bool, true, false, IsTrue, Option, Some, None, refl, sym, ap, subst, ◌∙◌, arith, ⊎_elim, length-append}
use Rattle.std.specs.Prelude.{slice_get, nat_eq}
use Rattle.std.proofs.lemmas.Bool.{cases_lt}
use Rattle.std.proofs.lemmas.Bool.Decides.{nat_tests}
use Rattle.std.proofs.lemmas.List.{get_or_append_left, get_or-append_right}
use Rattle.base.proofs.Lemmas.Lists.Indices.{slice_get-append_left, slice_get-append_right}
use Rattle.xb_bits.specs.Word.{Word}
use Rattle.xb_value.specs.declared.ty.Ty as ty
use Rattle.xb_value.specs.declared.value.Value.{Value}
use Rattle.xb_value.specs.declared.value.Value as value
use Rattle.xb_value.specs.declared.value.Value.TheViews.{outs-Bits, outs-Tuple, outs-Array}
use Rattle.xb_value.specs.Typing.{IsOfType, fits, bits_fit, tuple_fits, is_word_of}
use Rattle.xb_value.proofs.Lemmas.Typing.{bits_of_type, fits-Bits, fits-Tuple}
use Rattle.net_core.specs.Behavior.{IsWordOf}
use Rattle.ir_tree.specs.declared.ir_type.IrType.{IrType, Bits, Token}
use Rattle.ir_tree.specs.declared.node.Node.{Node}
use Rattle.ir_tree.specs.declared.node.Operand.{Operand}
use Rattle.ir_tree.specs.declared.node.Operand.TheVariants as operand
use Rattle.ir_tree.specs.Types.{ty_of, bounded}
use Rattle.ir_tree.specs.Constants.{no_value, bits_where}
use Rattle.ir_tree.specs.NodeValues.{operand_value}
use Rattle.ir_tree.specs.Operations.{on_word, on_open_word, on_words, on_tuple, on_open_tuple, on_array, on_open_array}
use Rattle.ir_tree.specs.Rules.Fitting.{Types, type_in, type_or, types_behind}
use Rattle.ir_tree.specs.NodeTypes.Types.{is_bits_where, is_bits_of}
use Rattle.ir_tree.proofs.Lemmas.NodeTypes.IrTypes.{ty_of-Bits, ty_of-Token}
use Rattle.ir_tree.specs.Rules.Typed.Typed.{HaveTypes}
use Rattle.ir_tree.proofs.Lemmas.Rules.Typed.Tests.{IsSound, IsLimited, IsBitsType, bits_is, nat_same, marks-Token, limited_bits}
use Rattle.ir_tree.specs.declared.node_types.types.Marks.{Marks}

-- ---- values behind nodes

-- the value is of the node's type, and that is sound
pub record IsTyped (n : Node) (v : Value) : Type 0 where
  pub value : IsOfType (ty_of n.ty) v
  pub sound : IsSound n.ty

pub record AreTyped (nodes : List Node) (values : List Value) : Type 0 where
  pub count : length values ≡ length nodes
  pub each : (i : ℕ) (n : Node) → slice_get nodes i ≡ Some n → IsTyped n (get_or values i no_value)

pub have_types : (nodes : List Node) (values : List Value) → AreTyped nodes values → HaveTypes nodes values
have_types nodes values h = record { count = h.count; each = λ i n e. (h.each i n e).value }

pub none_typed : AreTyped [] []
none_typed = record { count = refl; each = λ i n e. absurd (cc) }

one_there : (n m : Node) (j : ℕ) → slice_get (n ∷ []) j ≡ Some m → n ≡ m
one_there n m zero e = cc
one_there n m (suc j) e = absurd (cc)

at_end : (n : Node) (v : Value) (j : ℕ) (m : Node) → slice_get (n ∷ []) j ≡ Some m → get_or (v ∷ []) j no_value ≡ v
at_end n v zero m e = refl
at_end n v (suc j) m e = absurd (cc)

pub more_typed : (nodes : List Node) (values : List Value) (n : Node) (v : Value) → AreTyped nodes values → IsTyped n v → AreTyped (nodes ++ n ∷ []) (values ++ v ∷ [])
more_typed nodes values n v h k = record {
  count = let same = h.count in omega (arith, same, length-append values (v ∷ []), length-append nodes (n ∷ []));
  each = each;
}
  where
    each : (i : ℕ) (m : Node) → slice_get (nodes ++ n ∷ []) i ≡ Some m → IsTyped m (get_or (values ++ v ∷ []) i no_value)
    each i m e = ⊎_elim before here (cases_lt i (length nodes))
      where
        before : i < length nodes → IsTyped m (get_or (values ++ v ∷ []) i no_value)
        before less =
            let same = h.count in
            let within : i < length values = omega arith in
            subst (IsTyped m) (sym (get_or_append_left values (v ∷ []) no_value i within))
            (h.each i m (sym (slice_get-append_left nodes (n ∷ []) i less) ∙ e))

        here : length nodes ≤ i → IsTyped m (get_or (values ++ v ∷ []) i no_value)
        here past =
            let same = h.count in
            let over : length values ≤ i = omega arith in
            let place : i ≡ length nodes + (i - length nodes) = omega arith in
            let last : slice_get (n ∷ []) (i - length nodes) ≡ Some m = sym (slice_get-append_right nodes (n ∷ []) i (i - length nodes) place) ∙ e in
            let value : get_or (values ++ v ∷ []) i no_value ≡ v = get_or-append_right values (v ∷ []) (length nodes) i no_value same past ∙ at_end n v (i - length nodes) m last in
            subst (λ x. IsTyped x (get_or (values ++ v ∷ []) i no_value)) (one_there n m (i - length nodes) last)
            (subst (IsTyped n) (sym value) k)

-- ---- operands

-- the operand's value is of its type, and that is sound
pub record IsOperand (t : IrType) (v : Value) : Type 0 where
  pub value : IsOfType (ty_of t) v
  pub sound : IsSound t

-- each operand's is
abbrev pub AreOperands : Types → Value → List Value → Type 0
AreOperands scope s values = (o : Operand) → IsOperand (type_in scope o) (operand_value s values o)

pub token_value : IsOperand (Token []) no_value
token_value = record {
  value = subst (λ t. IsOfType t no_value) (sym (ty_of-Token [])) (fits-Tuple [] no_value ∙ ap (tuple_fits (map fits [])) (outs-Tuple []));
  sound = ap (λ (m : Marks). m.sound) (marks-Token []);
}

past : (ns : List Node) (vs : List Value) (i : ℕ) → length vs ≡ length ns → slice_get ns i ≡ None → get_or vs i no_value ≡ no_value
past [] [] i same e = refl
past [] (v ∷ vs) i same e = absurd (omega arith)
past (n ∷ ns) [] i same e = refl
past (n ∷ ns) (v ∷ vs) zero same e = absurd (cc)
past (n ∷ ns) (v ∷ vs) (suc i) same e = past ns vs i (omega arith) e

pub operands_typed : (state : IrType) (s : Value) (nodes : List Node) (values : List Value) → IsOperand state s → AreTyped nodes values → AreOperands (types_behind state nodes) s values
operands_typed state s nodes values h k operand.State = h
operands_typed state s nodes values h k (operand.Node i) = by (slice_get nodes i) refl
  where
    by : (o : Option Node) → slice_get nodes i ≡ o → IsOperand (type_or (Token []) (slice_get nodes i)) (get_or values i no_value)
    by None e =
        subst (λ x. IsOperand (type_or (Token []) x) (get_or values i no_value)) (sym e)
        (subst (IsOperand (Token [])) (sym (past nodes values i k.count e)) token_value)
    by (Some n) e =
        let there = k.each i n e in
        subst (λ x. IsOperand (type_or (Token []) x) (get_or values i no_value)) (sym e)
        (record { value = there.value; sound = there.sound })

-- ---- words

pub record HasWord (w : ℕ) (v : Value) : Type 0 where
  pub word : Word
  pub is : v ≡ value.Bits word
  pub of : IsWordOf w word

pub word_there : (w : ℕ) (v : Value) → IsOfType (ty_of (Bits w [])) v → HasWord w v
word_there w v h =
    let b = bits_of_type (bounded w) v (subst (λ t. IsOfType t v) (ty_of-Bits w []) h) in
    let most = b.most_width in
    let some = b.some_width in
    let same : bounded w ≡ w = omega arith in
    record {
      word = b.word;
      is = b.is;
      of = record {
        word = record {
          some_width = subst (λ k. 1 ≤ k) (sym b.width) some;
          most_width = subst (λ k. k ≤ 128) (sym b.width) most;
          in_range = subst (λ k. b.word.value < 2 ^ k) (sym b.width) b.in_range;
        };
        fits = b.width ∙ same;
      };
    }

word_test : (w : ℕ) (x : Word) → IsWordOf w x → is_word_of w x ≡ true
word_test w x h =
    let e = h.fits in
    let a = h.word.some_width in
    let b = h.word.most_width in
    let c : x.value < 2 ^ w = subst (λ n. x.value < 2 ^ n) e h.word.in_range in
    grind (arith, nat_tests, e, a, b, c)

pub word_typed : (w : ℕ) (v : Value) → HasWord w v → IsOfType (ty_of (Bits w [])) v
word_typed w v h =
    let some = h.of.word.some_width in
    let most = h.of.word.most_width in
    let fit = h.of.fits in
    let same : bounded w ≡ w = omega arith in
    subst (λ t. IsOfType t v) (sym (ty_of-Bits w []))
    (subst (λ k. IsOfType (ty.Bits k) v) (sym same)
    (subst (λ u. IsOfType (ty.Bits w) u) (sym h.is)
    (fits-Bits w (value.Bits h.word) ∙ ap (bits_fit w) (outs-Bits h.word) ∙ word_test w h.word h.of)))

-- the value of an operand of bits
pub record HasBits (p : ℕ → Bool) (v : Value) : Type 0 where
  pub width : ℕ
  pub has : HasWord width v
  pub test : IsTrue (p width)

pub operand_bits : (p : ℕ → Bool) (t : IrType) (v : Value) → IsOperand t v → IsTrue (is_bits_where p t) → HasBits p v
operand_bits p t v h k =
    let b = bits_is p t k in
    record { width = b.width; has = word_there b.width v (subst (λ u. IsOfType (ty_of u) v) b.is h.value); test = b.test }

pub operand_word : (w : ℕ) (t : IrType) (v : Value) → IsOperand t v → IsTrue (is_bits_of w t) → HasWord w v
operand_word w t v h k =
    let b = operand_bits (nat_eq w) t v h k in
    subst (λ u. HasWord u v) (sym (nat_same w b.width b.test)) b.has

-- a value of the bits of a result
pub result_word : (p : ℕ → Bool) (t : IrType) (v : Value) (b : IsBitsType p t) → HasWord b.width v → IsOfType (ty_of t) v
result_word p t v b h = subst (λ u. IsOfType (ty_of u) v) (sym b.is) (word_typed b.width v h)

pub result_of : (w : ℕ) (t : IrType) (v : Value) → IsTrue (is_bits_of w t) → HasWord w v → IsOfType (ty_of t) v
result_of w t v k h =
    let b = bits_is (nat_eq w) t k in
    result_word (nat_eq w) t v b (subst (λ u. HasWord u v) (nat_same w b.width b.test) h)

pub result_width : (w : ℕ) (t : IrType) → IsTrue (is_bits_of w t) → IsLimited t → (1 ≤ w) × (w ≤ 128)
result_width w t k h =
    let b = bits_is (nat_eq w) t k in
    let same = nat_same w b.width b.test in
    let limits = limited_bits b.width (subst IsLimited b.is h) in
    (omega (arith, same, limits.0), omega (arith, same, limits.1))

pub made_word : (w : ℕ) (v : Value) (x : Word) → v ≡ value.Bits x → IsWordOf w x → HasWord w v
made_word w v x e h = record { word = x; is = e; of = h }

pub bits_there : (b : Bool) (x : Word) → IsTrue b → bits_where b x ≡ value.Bits x
bits_there true x h = refl
bits_there false x h = absurd (cc)

-- ---- operations on values of their form

pub on_word-Bits : (f : Word → Value) (v : Value) (x : Word) → v ≡ value.Bits x → on_word f v ≡ f x
on_word-Bits f v x e = ap (on_word f) e ∙ ap (on_open_word f) (outs-Bits x)

pub on_words-Bits : (f : Word → Word → Value) (u v : Value) (x y : Word) → u ≡ value.Bits x → v ≡ value.Bits y → on_words f u v ≡ f x y
on_words-Bits f u v x y e h = on_word-Bits (λ x. on_word (f x) v) u x e ∙ on_word-Bits (f x) v y h

pub on_tuple-Tuple : (f : List Value → Value) (v : Value) (vs : List Value) → v ≡ value.Tuple vs → on_tuple f v ≡ f vs
on_tuple-Tuple f v vs e = ap (on_tuple f) e ∙ ap (on_open_tuple f) (outs-Tuple vs)

pub on_array-Array : (f : List Value → Value) (v : Value) (vs : List Value) → v ≡ value.Array vs → on_array f v ≡ f vs
on_array-Array f v vs e = ap (on_array f) e ∙ ap (on_open_array f) (outs-Array vs)
