-- Operands that are numbers, and nodes whose values are numbers.
use Rattle.std.proofs.Common.{◌≡◌, ℕ, ◌^◌, ◌<◌, ◌≤◌, List, [], ◌∷◌, ◌++◌, length, true, ◌&&◌, IsTrue, refl, sym, ap, subst, ◌∙◌, arith, length-append}
use Rattle.std.specs.Prelude.{nat_le, nat_lt}
use Rattle.std.proofs.lemmas.Bool.Decides.{nat_tests}
use Rattle.std.proofs.lemmas.List.{append_assoc, append-nil}
use Rattle.std.proofs.lemmas.List.Folds.{list_all-append}
use Rattle.xb_bits.specs.Word.{Word, word}
use Rattle.xb_value.specs.declared.value.Value.{Value}
use Rattle.xb_value.specs.declared.value.Value as value
use Rattle.xb_value.specs.declared.value.Value.TheViews.{outs-Bits}
use Rattle.xb_value.specs.Typing.{IsOfType}
use Rattle.ir_tree.specs.declared.ir_type.IrType.{IrType, Bits, Token}
use Rattle.ir_tree.specs.declared.ir_type.IrType.TheViews as ir_views
use Rattle.ir_tree.specs.declared.node.Operand.{Operand}
use Rattle.ir_tree.specs.declared.node.Operand.TheVariants as operand
use Rattle.ir_tree.specs.declared.node.Node.{Node}
use Rattle.ir_tree.specs.Types.{ty_of}
use Rattle.delay_model.specs.declared.op.Extend.TheVariants as extend
use Rattle.ir_tree.specs.Operations.{extend_value}
use Rattle.ir_tree.specs.NodeValues.{operand_value, pure_value}
use Rattle.ir_tree.specs.declared.node_types.types.Marks.{Marks}
use Rattle.ir_tree.specs.NodeTypes.Types.{bits_width, width_there}
use Rattle.ir_tree.specs.Rules.Fitting.{type_in, type_or, types_behind}
use Rattle.ir_tree.specs.Rules.Lines.{is_there}
use Rattle.ir_tree.proofs.Lemmas.Rules.Typed.Checked.{both_true, and_true}
use Rattle.ir_tree.proofs.Lemmas.Rules.Typed.Tests.{IsSound, marks-Bits}
use Rattle.ir_tree.proofs.Lemmas.Rules.Typed.Scopes.{word_there, bits_there, on_word-Bits}
use Rattle.ir_rebuild.specs.Built.{FitsAt, AreBuilt, AreValues, OperandSimulates, Extends, is_plain_op, numbered}
use Rattle.ir_rebuild.proofs.Lemmas.{node_there, has_type, appended, values_before, there_more, type_more}
use Rattle.pass_narrow.specs.Numbers.{number_there, number_of, number, IsNumber}
use Rattle.pass_narrow.specs.Narrowing.{IsLike, IsLikeLonger}
use Rattle.pass_narrow.specs.Views.{width_at, width_in}
use Rattle.pass_narrow.specs.Inner.Meant.{IsResult, GivesNumber}

-- ---- values that are numbers

pub record IsBits (w n : ℕ) (v : Value) : Type 0 where
  pub is : v ≡ value.Bits (word w n)
  pub some : 1 ≤ w
  pub most : w ≤ 128
  pub range : n < 2 ^ w

pub number_is : (v : Value) (x : Word) → v ≡ value.Bits x → number_of v ≡ x.value
number_is v x e = ap number_of e ∙ ap number_there (outs-Bits x)

-- an operand's value
pub operand_bits : (state : IrType) (nodes : List Node) (o : Operand) (w : ℕ) → IsNumber state nodes o w → (s : Value) (values : List Value) → AreValues state nodes s values → IsBits w (number s values o) (operand_value s values o)
operand_bits state nodes o w h s values v =
    let x = word_there w (operand_value s values o) (subst (λ u. IsOfType (ty_of u) (operand_value s values o)) h.ty (has_type state nodes s values v o h.there)) in
    let same = number_is (operand_value s values o) x.word x.is in
    record {
      is = x.is ∙ (λ i. value.Bits (record { width = x.of.fits i; value = sym same i }));
      some = subst (λ k. 1 ≤ k) x.of.fits x.of.word.some_width;
      most = subst (λ k. k ≤ 128) x.of.fits x.of.word.most_width;
      range = subst (λ n. n < 2 ^ w) (sym same) (subst (λ k. x.word.value < 2 ^ k) x.of.fits x.of.word.in_range);
    }

-- ---- widths

pub width_is : (w : ℕ) → bits_width (Bits w []) ≡ w
width_is w = ap width_there (ir_views.outs-Bits w [])

pub number_width : (state : IrType) (nodes : List Node) (o : Operand) (w : ℕ) → IsNumber state nodes o w → width_in state nodes o ≡ w
number_width state nodes operand.State w h = ap bits_width h.ty ∙ width_is w
number_width state nodes (operand.Node i) w h =
    let there = node_there nodes i h.there in
    ap width_at there.1 ∙ ap bits_width (sym (ap (type_or (Token [])) there.1) ∙ h.ty) ∙ width_is w

sound_width : (w : ℕ) → IsSound (Bits w []) → 1 ≤ w
sound_width w h =
    let both = both_true (nat_lt 0 w) true (sym (ap (λ (m : Marks). m.sound) (marks-Bits w [])) ∙ h) in
    grind (arith, nat_tests, both.0)

sound_operand : (state : IrType) (nodes : List Node) → AreBuilt state nodes → (o : Operand) → IsTrue (is_there (length nodes) o) → IsSound (type_in (types_behind state nodes) o)
sound_operand state nodes h operand.State there = h.sound
sound_operand state nodes h (operand.Node i) there =
    let found = node_there nodes i there in
    subst (λ x. IsSound (type_or (Token []) x)) (sym found.1) (h.types i found.0 found.1)

pub some_bits : (state : IrType) (nodes : List Node) (o : Operand) (w : ℕ) → AreBuilt state nodes → IsNumber state nodes o w → 1 ≤ w
some_bits state nodes o w h n = sound_width w (subst IsSound n.ty (sound_operand state nodes h o n.there))

-- ---- lists that grow

number_stays : (state : IrType) (xs ys : List Node) (o : Operand) (w : ℕ) → IsNumber state xs o w → IsNumber state (xs ++ ys) o w
number_stays state xs ys o w h = record {
  there = there_more (length xs) (length (xs ++ ys)) (omega (arith, length-append xs ys)) o h.there;
  ty = type_more state xs ys o h.there ∙ h.ty;
}

pub number_later : (state : IrType) (old new : List Node) (o : Operand) (w : ℕ) → Extends old new → IsNumber state old o w → IsNumber state new o w
number_later state old new o w e h = subst (λ ns. IsNumber state ns o w) (sym e.are) (number_stays state old e.more o w h)

pub values_earlier : (state : IrType) (old new : List Node) (s : Value) (values : List Value) → Extends old new → AreValues state new s values → AreValues state old s values
values_earlier state old new s values e v = values_before state old e.more s values (subst (λ ns. AreValues state ns s values) e.are v)

pub extends_none : (nodes : List Node) → Extends nodes nodes
extends_none nodes = record { more = []; are = sym (append-nil nodes); plain = refl }

pub extends_twice : (a b c : List Node) → Extends a b → Extends b c → Extends a c
extends_twice a b c h k = record {
  more = h.more ++ k.more;
  are = k.are ∙ ap (λ ns. ns ++ k.more) h.are ∙ append_assoc a h.more k.more;
  plain = list_all-append (λ (n : Node). is_plain_op n.op) h.more k.more ∙ and_true _ _ h.plain k.plain;
}

-- ---- nodes whose values are numbers

-- the node is a number of so many bits, this one, and can stand there
pub record IsMade (state : IrType) (nodes : List Node) (n : Node) (w : ℕ) (f : Value → List Value → ℕ) : Type 0 where
  pub fits_at : FitsAt state nodes (length nodes) n
  pub plain : is_plain_op n.op ≡ true
  pub result : IsResult state nodes n w f

pub gives : (state : IrType) (nodes : List Node) (n : Node) (w : ℕ) (f : Value → List Value → ℕ) → AreBuilt state nodes → IsMade state nodes n w f → GivesNumber state nodes (nodes ++ numbered (length nodes) n ∷ []) (operand.Node (length nodes)) w f
gives state nodes n w f built m =
    let r = appended state nodes n built m.fits_at m.plain in
    record {
      built = r.built;
      extends = r.extends;
      is = record { there = r.stands.there; ty = r.stands.ty ∙ m.result.ty };
      value = λ s values v.
          number_is (operand_value s values (operand.Node (length nodes))) (word w (f s values))
          (r.stands.value s values v ∙ m.result.value s values (values_earlier state nodes (nodes ++ numbered (length nodes) n ∷ []) s values r.extends v));
    }

-- an operand that is there is its own number
pub gives_itself : (state : IrType) (nodes : List Node) (o : Operand) (w : ℕ) → AreBuilt state nodes → IsNumber state nodes o w → GivesNumber state nodes nodes o w (λ s values. number s values o)
gives_itself state nodes o w built h = record { built = built; extends = extends_none nodes; is = h; value = λ s values v. refl }

-- ---- what stands for a node

pub like_of : (state : IrType) (old new : List Node) (n m : Node) (w : ℕ) (f : Value → List Value → ℕ) → Extends old new → IsResult state old n w f → IsMade state new m w f → IsLike state new n m
like_of state old new n m w f e r k = record {
  fits_at = k.fits_at;
  plain = k.plain;
  ty = k.result.ty ∙ sym r.ty;
  value = λ s values v. k.result.value s values v ∙ sym (r.value s values (values_earlier state old new s values e v));
}

longer_word : (v w n : ℕ) → v ≤ w → w ≤ 128 → extend_value extend.Zero w (word v n) ≡ value.Bits (word w n)
longer_word v w n h k =
    let first : IsTrue (nat_le v w) = grind (arith, nat_tests, h) in
    let second : IsTrue (nat_le w 128) = grind (arith, nat_tests, k) in
    bits_there (nat_le v w && nat_le w 128) (word w n) (and_true _ _ first second)

pub like_longer : (state : IrType) (old new : List Node) (n m : Node) (own w : ℕ) (f : Value → List Value → ℕ) → Extends old new → own < w → w ≤ 128 → IsResult state old n w f → IsMade state new m own f → IsLikeLonger state new n m w
like_longer state old new n m own w f e fewer most r k = record {
  fits_at = k.fits_at;
  plain = k.plain;
  own = own;
  own_ty = k.result.ty;
  fewer = fewer;
  most = most;
  ty = r.ty;
  value = λ s values v.
      on_word-Bits (extend_value extend.Zero w) (pure_value m s values) (word own (f s values)) (k.result.value s values v)
      ∙ longer_word own w (f s values) (omega (arith, fewer)) most
      ∙ sym (r.value s values (values_earlier state old new s values e v));
}

pub stands_of : (state : IrType) (nodes : List Node) (n : Node) (o : Operand) (w : ℕ) → IsNumber state nodes o w → IsResult state nodes n w (λ s values. number s values o) → OperandSimulates state nodes n o
stands_of state nodes n o w h r = record {
  there = h.there;
  ty = h.ty ∙ sym r.ty;
  value = λ s values v. (operand_bits state nodes o w h s values v).is ∙ sym (r.value s values v);
}

-- the same number said otherwise
pub result_as : (state : IrType) (nodes : List Node) (n : Node) (w : ℕ) (f g : Value → List Value → ℕ) → ((s : Value) (values : List Value) → AreValues state nodes s values → f s values ≡ g s values) → IsResult state nodes n w f → IsResult state nodes n w g
result_as state nodes n w f g h r = record {
  ty = r.ty;
  value = λ s values v. r.value s values v ∙ ap (λ k. value.Bits (word w k)) (h s values v);
}
