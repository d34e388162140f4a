-- Binary operators mean the same as what stands for them.
use Rattle.std.proofs.Common.{◌≡◌, ◌&&◌, ◌==◌, Bool, true, false, not, Option, Some, None, refl, sym, ap, ◌∙◌}
use Rattle.std.proofs.lemmas.Bool.Decides.{Decides-eqb}
use Rattle.xb_value.specs.declared.value.Value.{Value}
use Rattle.xb_value.specs.declared.value.Value as plain
use Rattle.xb_value.specs.declared.value.Value.TheViews as plain_views
use Rattle.dslx_tree.specs.declared.operator.Binary.{Binary}
use Rattle.dslx_tree.specs.declared.operator.Binary.TheVariants as b
use Rattle.dslx_meaning.specs.Lists.{where_true, with_both}
use Rattle.dslx_meaning.specs.Types.{bool_type}
use Rattle.dslx_meaning.specs.Values.{based_bits, bits_of, bool_value, same_value, same_word}
use Rattle.dslx_meaning.specs.Operators.{binary_value, bits_or_enums, enum_binary}
use Rattle.dslx_meaning.specs.declared.ty.BitKind.{BitKind}
use Rattle.dslx_meaning.specs.declared.ty.DslxType.{DslxType}
use Rattle.dslx_meaning.specs.declared.ty.DslxType as ty
use Rattle.dslx_meaning.specs.declared.value.DslxValue.{DslxValue}
use Rattle.dslx_meaning.specs.declared.value.SignedWord.{SignedWord}
use Rattle.dslx_core.specs.Typing.Typed.Kinds.{is_of, lies_in}
use Rattle.dslx_core.proofs.Lemmas.Typing.Typed.{none_some, same_some}
use Rattle.dslx_core.specs.CoreValues.{Bindings, Functions, binary_words, bits_like, core_value, is_like, one_bit, word_in}
use Rattle.dslx_core.specs.declared.expr.CoreExpr as core
use Rattle.dslx_core.specs.Lowering.Lowering.{LoweredExpr, binary_core, lower_binary, fits_operands, lowered, result_of_binary, sign_of}
use Rattle.dslx_core.specs.Lowering.Correspondence.{HasPlainValue, KeepsValue}
use Rattle.dslx_core.proofs.OnLowering.Kept.{bits_kept, both_there, from_both, from_where, kept_as, word_there}
use Rattle.dslx_core.proofs.OnLowering.Likes.{alike_by_type, like_bits, words_either_way}
use Rattle.dslx_core.proofs.OnLowering.OfCasts.{based}
use Rattle.dslx_core.proofs.OnLowering.OneType.{one_by_test}
use Rattle.dslx_core.proofs.OnLowering.Openings.{core_binary}
use Rattle.dslx_core.proofs.OnLowering.Operations.{binary_of_bits}
use Rattle.dslx_core.proofs.OnLowering.Words.{alike, bit_width, bool_is}

-- ---- values of one enum

one_bit_lies : (p : Bool) → lies_in (one_bit p) ≡ true
one_bit_lies true = refl
one_bit_lies false = refl

-- two values of one type that are bits or of an enum are compared by their words
record ComparedWords (t : DslxType) (v w : DslxValue) (x y : SignedWord) : Type 0 where
  pub wide : (x.word.width == y.word.width) ≡ true
  pub same : same_value v w ≡ (x.word.value == y.word.value)

compared_words : (t : DslxType) (v w : DslxValue) (x y : SignedWord) → is_of t v ≡ true → is_of t w ≡ true → based_bits v ≡ Some x → based_bits w ≡ Some y → ComparedWords t v w x y
compared_words t v w x y ov ow bx by =
    let a = based t v x ov bx in
    let c = based t w y ow by in
    let widths : x.word.width ≡ y.word.width = ap (λ (k : BitKind). k.width) (same_some (record { signed = x.signed; width = x.word.width }) (record { signed = y.signed; width = y.word.width }) (sym a.kind ∙ c.kind)) in
    let values : same_value v w ≡ same_word x.word y.word =
    sym (alike_by_type t v w ov ow) ∙ (λ i. is_like (c.flat i) (a.flat i)) ∙ like_bits y.word (plain.Bits x.word) ∙ ap (bits_like y.word) (plain_views.outs-Bits x.word) ∙ words_either_way x.word y.word in
    record {
      wide = (Decides-eqb x.word.width y.word.width).1 widths;
      same = values ∙ ap (λ b. b && x.word.value == y.word.value) ((Decides-eqb x.word.width y.word.width).1 widths);
    }

-- a comparison of two words
enum_compared : (calls : Functions) (bound : Bindings) (o : Binary) (l r : LoweredExpr) (v w u : DslxValue) (x y : SignedWord) (p : Bool) → HasPlainValue l calls bound v → HasPlainValue r calls bound w
    → based_bits v ≡ Some x → based_bits w ≡ Some y → Some (bool_value p) ≡ Some u → result_of_binary o l.ty r.ty ≡ bool_type
    → binary_words (binary_core o (sign_of l.ty)) x.word y.word ≡ Some (plain.Bits (one_bit p))
    → HasPlainValue (record { core = core.Binary (binary_core o (sign_of l.ty)) l.core r.core; ty = result_of_binary o l.ty r.ty }) calls bound u
enum_compared calls bound o l r v w u x y p lh rh bx by e typed words =
    bits_kept (record { core = core.Binary (binary_core o (sign_of l.ty)) l.core r.core; ty = result_of_binary o l.ty r.ty }) calls bound false (one_bit p) u
    (sym (same_some (bool_value p) u e) ∙ bool_is p) (typed ∙ ap (ty.Bits false) (sym (bit_width p))) (one_bit_lies p)
    (ap (λ f. f calls bound) (core_binary (binary_core o (sign_of l.ty)) l.core r.core)
    ∙ both_there (word_in (core_value l.core) calls bound) (word_in (core_value r.core) calls bound) (binary_words (binary_core o (sign_of l.ty))) x.word y.word
    (word_there l calls bound v x.word lh (based l.ty v x lh.of bx).flat) (word_there r calls bound w y.word rh (based r.ty w y rh.of by).flat)
    ∙ words)

enum_keeps : (calls : Functions) (bound : Bindings) (o : Binary) (l r : LoweredExpr) (v w u : DslxValue) (x y : SignedWord) → HasPlainValue l calls bound v → HasPlainValue r calls bound w
    → based_bits v ≡ Some x → based_bits w ≡ Some y → fits_operands o l.ty r.ty ≡ true → enum_binary o v w ≡ Some u
    → HasPlainValue (record { core = core.Binary (binary_core o (sign_of l.ty)) l.core r.core; ty = result_of_binary o l.ty r.ty }) calls bound u
enum_keeps calls bound b.Eq l r v w u x y lh rh bx by fits e =
    let c = compared_words l.ty v w x y lh.of (ap (λ t. is_of t w) (one_by_test l.ty r.ty fits) ∙ rh.of) bx by in
    enum_compared calls bound b.Eq l r v w u x y (same_value v w) lh rh bx by e refl
    (alike x.word y.word (one_bit (x.word.value == y.word.value)) c.wide ∙ ap (λ t. Some (plain.Bits (one_bit t))) (sym c.same))
enum_keeps calls bound b.Ne l r v w u x y lh rh bx by fits e =
    let c = compared_words l.ty v w x y lh.of (ap (λ t. is_of t w) (one_by_test l.ty r.ty fits) ∙ rh.of) bx by in
    enum_compared calls bound b.Ne l r v w u x y (not (same_value v w)) lh rh bx by e refl
    (alike x.word y.word (one_bit (not (x.word.value == y.word.value))) c.wide ∙ ap (λ t. Some (plain.Bits (one_bit (not t)))) (sym c.same))
enum_keeps calls bound _ l r v w u x y lh rh bx by fits e = none_some u e

-- ---- the operators

pub binary_keeps : (calls : Functions) (bound : Bindings) (op : Binary) (l r : Option LoweredExpr) (x y : Option DslxValue) → KeepsValue calls bound l x → KeepsValue calls bound r y
    → KeepsValue calls bound (lower_binary op l r) (with_both x y (binary_value op))
binary_keeps calls bound op l r x y kl kr e h u g =
    let a = from_both l r (λ l r. where_true (fits_operands op l.ty r.ty) (lowered (core.Binary (binary_core op (sign_of l.ty)) l.core r.core) (result_of_binary op l.ty r.ty))) e h in
    let w = from_where (fits_operands op a.0.ty a.1.ty) (lowered (core.Binary (binary_core op (sign_of a.0.ty)) a.0.core a.1.core) (result_of_binary op a.0.ty a.1.ty)) e a.4 in
    let v = from_both x y (binary_value op) u g in
    kept_as calls bound u (record { core = core.Binary (binary_core op (sign_of a.0.ty)) a.0.core a.1.core; ty = result_of_binary op a.0.ty a.1.ty }) e w.1
    (by_bits a.0 a.1 v.0 v.1 (kl a.0 a.2 v.0 v.2) (kr a.1 a.3 v.1 v.3) w.0 v.4 (bits_of v.0) (bits_of v.1) refl refl v.4)
  where
    Whole : LoweredExpr → LoweredExpr → Type 0
    Whole l r = HasPlainValue (record { core = core.Binary (binary_core op (sign_of l.ty)) l.core r.core; ty = result_of_binary op l.ty r.ty }) calls bound u

    of_enums : (l r : LoweredExpr) (v w : DslxValue) → HasPlainValue l calls bound v → HasPlainValue r calls bound w → fits_operands op l.ty r.ty ≡ true → (p q : Option SignedWord) → based_bits v ≡ p → based_bits w ≡ q
        → with_both p q (λ x y. enum_binary op v w) ≡ Some u → Whole l r
    of_enums l r v w lh rh fits None q ep eq e = none_some u e
    of_enums l r v w lh rh fits (Some x) None ep eq e = none_some u e
    of_enums l r v w lh rh fits (Some x) (Some y) ep eq e = enum_keeps calls bound op l r v w u x y lh rh ep eq fits e

    by_bits : (l r : LoweredExpr) (v w : DslxValue) → HasPlainValue l calls bound v → HasPlainValue r calls bound w → fits_operands op l.ty r.ty ≡ true → binary_value op v w ≡ Some u
        → (p q : Option SignedWord) → bits_of v ≡ p → bits_of w ≡ q → bits_or_enums op v w p q ≡ Some u → Whole l r
    by_bits l r v w lh rh fits whole (Some x) (Some y) ep eq e = binary_of_bits calls bound op l r v w u x y lh rh ep eq whole fits e
    by_bits l r v w lh rh fits whole None None ep eq e = of_enums l r v w lh rh fits (based_bits v) (based_bits w) refl refl e
    by_bits l r v w lh rh fits whole (Some x) None ep eq e = none_some u e
    by_bits l r v w lh rh fits whole None (Some y) ep eq e = none_some u e
