-- Operators, casts, slices and parts of bits mean the same as what stands for them.
use Rattle.std.proofs.Common.{◌≡◌, true, Option, Some, refl, sym, ap, ◌∙◌}
use Rattle.xb_bits.specs.Word.{Word}
use Rattle.xb_value.specs.declared.value.Value.{Value}
use Rattle.xb_value.specs.declared.value.Value as plain
use Rattle.dslx_tree.specs.declared.operator.Binary.{Binary}
use Rattle.dslx_tree.specs.declared.operator.Prefix.{Prefix}
use Rattle.dslx_tree.specs.declared.operator.Prefix.TheVariants.{Minus, Not}
use Rattle.dslx_meaning.specs.Lists.{and_then}
use Rattle.dslx_meaning.specs.Values.{bits_of}
use Rattle.dslx_meaning.specs.Operators.{binary_value, bits_binary, prefix_value, prefix_word}
use Rattle.dslx_meaning.specs.declared.ty.DslxType.{DslxType}
use Rattle.dslx_meaning.specs.declared.ty.DslxType as ty
use Rattle.dslx_meaning.specs.declared.value.DslxValue.{DslxValue}
use Rattle.dslx_meaning.specs.declared.value.DslxValue as value
use Rattle.dslx_meaning.specs.declared.value.SignedWord.{SignedWord}
use Rattle.dslx_core.proofs.Lemmas.Typing.Typed.{in_range, bits_lie, prefix_made, binary_made, same_some}
use Rattle.dslx_core.specs.CoreValues.{Bindings, Functions, core_value, word_in, unary_word, binary_words}
use Rattle.dslx_core.specs.declared.expr.CoreExpr as core
use Rattle.dslx_core.specs.Lowering.Lowering.{LoweredExpr, lowered, prefix_core, lower_prefix, binary_core, result_of_binary, fits_operands, sign_of}
use Rattle.dslx_core.specs.Lowering.Correspondence.{HasPlainValue, KeepsValue}
use Rattle.dslx_core.proofs.OnLowering.Openings.{core_unary, core_binary}
use Rattle.dslx_core.proofs.OnLowering.Words.{gives_word, sign_of_bits}
use Rattle.dslx_core.proofs.OnLowering.Kept.{bits_kept, both_there, from_then, kept_as, made_lies, operand, operand_word}

-- ---- unary operators

prefix_kept : (p : Prefix) (x : Word) → (prefix_word p x).width ≡ x.width
prefix_kept Minus x = refl
prefix_kept Not x = refl

prefix_same : (p : Prefix) (x : Word) → unary_word (prefix_core p) x ≡ prefix_word p x
prefix_same Minus x = refl
prefix_same Not x = refl

pub prefix_keeps : (calls : Functions) (bound : Bindings) (p : Prefix) (l : Option LoweredExpr) (o : Option DslxValue) → KeepsValue calls bound l o
    → KeepsValue calls bound (lower_prefix p l) (and_then o (prefix_value p))
prefix_keeps calls bound p l o keeps e h v k =
    let a = from_then l (λ e. lowered (core.Unary (prefix_core p) e.core) e.ty) e h in
    let c = from_then o (prefix_value p) v k in
    let x = from_then (bits_of c.0) (λ x. Some (value.Bits x.signed (prefix_word p x.word))) v c.2 in
    let has = keeps a.0 a.1 c.0 c.1 in
    let is = operand a.0.ty c.0 x.0 has.of x.1 in
    let made : v ≡ value.Bits x.0.signed (prefix_word p x.0.word) = sym (same_some (value.Bits x.0.signed (prefix_word p x.0.word)) v x.2) in
    kept_as calls bound v (record { core = core.Unary (prefix_core p) a.0.core; ty = a.0.ty }) e a.2
    (bits_kept (record { core = core.Unary (prefix_core p) a.0.core; ty = a.0.ty }) calls bound x.0.signed (prefix_word p x.0.word) v made
    (is.typed ∙ ap (ty.Bits x.0.signed) (sym (prefix_kept p x.0.word)))
    (made_lies x.0.signed (prefix_word p x.0.word) v made (prefix_made p c.0 v (λ y q. in_range y.word (bits_lie a.0.ty c.0 y has.of q)) c.2))
    (ap (λ f. f calls bound) (core_unary (prefix_core p) a.0.core)
    ∙ ap (λ o. and_then o (λ w. Some (plain.Bits (unary_word (prefix_core p) w)))) (operand_word a.0 calls bound c.0 x.0 has is) ∙ ap (λ w. Some (plain.Bits w)) (prefix_same p x.0.word)))

-- ---- binary operators

-- of two operands that are bits
pub binary_of_bits : (calls : Functions) (bound : Bindings) (o : Binary) (l r : LoweredExpr) (v w u : DslxValue) (x y : SignedWord) → HasPlainValue l calls bound v → HasPlainValue r calls bound w
    → bits_of v ≡ Some x → bits_of w ≡ Some y → binary_value o v w ≡ Some u → fits_operands o l.ty r.ty ≡ true → bits_binary o x y ≡ Some u
    → HasPlainValue (record { core = core.Binary (binary_core o (sign_of l.ty)) l.core r.core; ty = result_of_binary o l.ty r.ty }) calls bound u
binary_of_bits calls bound o l r v w u x y lh rh bx by whole fits e =
    let a = operand l.ty v x lh.of bx in
    let c = operand r.ty w y rh.of by in
    let g = gives_word o x y u (in_range x.word a.lies) (in_range y.word c.lies) (sym (λ i. fits_operands o (a.typed i) (c.typed i)) ∙ fits) e in
    let sign = ap sign_of a.typed ∙ sign_of_bits x.signed x.word.width in
    bits_kept (record { core = core.Binary (binary_core o (sign_of l.ty)) l.core r.core; ty = result_of_binary o l.ty r.ty }) calls bound g.signed g.made u g.is
    ((λ i. result_of_binary o (a.typed i) (c.typed i)) ∙ g.typed)
    (made_lies g.signed g.made u g.is (binary_made o v w u (λ z q. in_range z.word (bits_lie l.ty v z lh.of q)) (λ z q. in_range z.word (bits_lie r.ty w z rh.of q)) whole))
    (ap (λ f. f calls bound) (core_binary (binary_core o (sign_of l.ty)) l.core r.core)
    ∙ both_there (word_in (core_value l.core) calls bound) (word_in (core_value r.core) calls bound) (binary_words (binary_core o (sign_of l.ty))) x.word y.word
    (operand_word l calls bound v x lh a) (operand_word r calls bound w y rh c)
    ∙ ap (λ s. binary_words (binary_core o s) x.word y.word) sign ∙ g.core)
