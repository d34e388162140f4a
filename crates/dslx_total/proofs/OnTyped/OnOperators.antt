-- What the rules of operators say of the widths of their operands, and what a binary operator is lowered to.
use Rattle.std.proofs.Common.{◌≡◌, ◌&&◌, ◌==◌, ◌+◌, ◌<◌, ◌++◌, ℕ, Bool, true, false, List, [], Option, Some, None, refl, sym, ap, subst, ◌∙◌, arith}
use mathlib.Core.Bool.{true≢false}
use Rattle.std.specs.Prelude.{nat_lt, nat_le}
use Rattle.std.proofs.lemmas.Bool.Decides.{nat_tests}
use Rattle.xb_span.specs.declared.span.Span.{Span}
use Rattle.xb_value.specs.declared.ty.Ty.{Ty}
use Rattle.xb_value.specs.declared.ty.Ty as plain
use Rattle.dslx_tree.specs.declared.operator.Binary.{Binary}
use Rattle.dslx_tree.specs.declared.operator.Binary.TheVariants as b
use Rattle.dslx_tree.specs.declared.operator.Prefix.{Prefix}
use Rattle.dslx_tree.specs.declared.operator.Prefix.TheVariants.{Minus, Not}
use Rattle.dslx_meaning.specs.Lists.{where_true}
use Rattle.dslx_meaning.specs.Types.{bits_in, bits_or_enum, bool_type, plain_type, same_type}
use Rattle.dslx_meaning.specs.declared.ty.BitKind.{BitKind}
use Rattle.dslx_meaning.specs.declared.ty.DslxType.{DslxType}
use Rattle.dslx_meaning.specs.Rules.ConstantRules.{is_unsigned, is_unsigned_kind}
use Rattle.dslx_meaning.specs.Rules.OperatorRules.{binary_faults, is_bits, is_bits_or_enum, is_bool, one_bit_type, one_comparable_type, one_unsigned_type, unless_type, unless_types, width_of_type}
use Rattle.dslx_meaning.specs.Rules.PatternRules.{is_there}
use Rattle.dslx_core.proofs.Lemmas.Typing.Laws.{and_true}
use Rattle.dslx_core.proofs.Lemmas.Typing.Sound.{none_in, passed}
use Rattle.dslx_core.proofs.Lemmas.Typing.Typed.{bits_declared, one_of_text}
use Rattle.dslx_core.specs.CoreValues.{is_width}
use Rattle.dslx_core.specs.declared.expr.CoreExpr as core
use Rattle.dslx_core.specs.declared.expr.Sign.{Sign}
use Rattle.dslx_core.specs.Lowering.Lowering.{LoweredExpr, binary_core, fits_operands, lower_binary, lower_prefix, lowered, prefix_core, result_of_binary, sign_of}
use Rattle.dslx_core.specs.Typing.Typed.Declared.{Declarations, IsDeclared}
use Rattle.dslx_core.specs.Types.Typing.{FunctionTypes, binary_type}
use Rattle.dslx_core.proofs.Lemmas.Types.{where_so}
use Rattle.dslx_total.specs.Typed.Scopes.{IsTypedExpr, TypedIfThere, is_sound_type}
use Rattle.dslx_total.proofs.OnTyped.OnTypes.{HasWidth, bits_width_is, kind_width, plain_bits, sound_bits}
use Rattle.dslx_total.proofs.OnTyped.OnConstructs.{binary_typed, bool_sound, bool_wide, unary_typed}
use Rattle.dslx_total.proofs.OnTyped.OnOptions.{where_typed}

-- ---- types that pass the tests of rules

pub there : {A : Type 0} (o : Option A) → is_there o ≡ true → (a : A) × (o ≡ Some a)
there None e = absurd (true≢false (sym e))
there (Some a) e = (a, refl)

pub bits_are_wide : (t : DslxType) → is_sound_type t ≡ true → is_bits t ≡ true → (k : BitKind) × (bits_in t ≡ Some k) × HasWidth t k.width
bits_are_wide t sound e = let k = there (bits_in t) e in (k.0, k.1, bits_width_is t k.0 sound k.1)

pub based_are_wide : (t : DslxType) → is_sound_type t ≡ true → is_bits_or_enum t ≡ true → (w : ℕ) × HasWidth t w
based_are_wide t sound e = let k = there (bits_or_enum t) e in (k.0.width, kind_width t k.0 sound k.1)

pub unsigned_are_bits : (t : DslxType) → is_unsigned t ≡ true → is_bits t ≡ true
unsigned_are_bits t e = by_kind (bits_in t) e
  where
    by_kind : (o : Option BitKind) → is_unsigned_kind o ≡ true → is_there o ≡ true
    by_kind None h = absurd (true≢false (sym h))
    by_kind (Some k) h = refl

pub bool_is_wide : (types : Declarations) (t : DslxType) → IsDeclared types t → is_bool t ≡ true → HasWidth t 1
bool_is_wide types t d e = subst (λ u. HasWidth u 1) (one_of_text types bool_type t e (bits_declared types false 1) d) bool_wide

-- a part that has a type passes the test
pub unless_passed : (test : DslxType → Bool) (rule : ℕ) (span : Span) (o : Option DslxType) (t : DslxType) → o ≡ Some t → unless_type test rule span o ≡ [] → test t ≡ true
unless_passed test rule span o t e f = passed (test t) rule span (ap (unless_type test rule span) (sym e) ∙ f)

-- the width of bits
pub width_is : (t : DslxType) (k : BitKind) → bits_in t ≡ Some k → width_of_type t ≡ k.width
width_is t k e = ap width_in e
  where
    width_in : Option BitKind → ℕ
    width_in None = 0
    width_in (Some kind) = kind.width

-- ---- what an operator gives for operands of these types

pub record Operands (o : Binary) (t u : DslxType) : Type 0 where
  pub left : ℕ
  pub right : ℕ
  pub left_is : HasWidth t left
  pub right_is : HasWidth u right
  pub gives : (s : Sign) → fits_operands o t u ≡ true → binary_type (binary_core o s) left right ≡ Some (plain_type (result_of_binary o t u))
  pub sound : fits_operands o t u ≡ true → is_sound_type (result_of_binary o t u) ≡ true

alike : (w : ℕ) (t : Ty) → where_true (w == w) (Some t) ≡ Some t
alike w t = where_so (w == w) (Some t) (grind (arith, nat_tests))

record OneWidth (t u : DslxType) : Type 0 where
  width : ℕ
  left : HasWidth t width
  right : HasWidth u width

one_bits : (types : Declarations) (rule : ℕ) (span : Span) (t u : DslxType) → IsDeclared types t → IsDeclared types u → is_sound_type t ≡ true → unless_types one_bit_type rule span (Some t) (Some u) ≡ [] → OneWidth t u
one_bits types rule span t u dt du sound e =
    let q = and_true (is_bits t) (same_type t u) (passed (one_bit_type t u) rule span e) in
    let k = bits_are_wide t sound q.0 in
    record { width = k.0.width; left = k.2; right = subst (λ x. HasWidth x k.0.width) (one_of_text types t u q.1 dt du) k.2 }

one_unsigned : (types : Declarations) (rule : ℕ) (span : Span) (t u : DslxType) → IsDeclared types t → IsDeclared types u → is_sound_type t ≡ true → unless_types one_unsigned_type rule span (Some t) (Some u) ≡ [] → OneWidth t u
one_unsigned types rule span t u dt du sound e =
    let q = and_true (is_unsigned t) (same_type t u) (passed (one_unsigned_type t u) rule span e) in
    let k = bits_are_wide t sound (unsigned_are_bits t q.0) in
    record { width = k.0.width; left = k.2; right = subst (λ x. HasWidth x k.0.width) (one_of_text types t u q.1 dt du) k.2 }

one_comparable : (types : Declarations) (rule : ℕ) (span : Span) (t u : DslxType) → IsDeclared types t → IsDeclared types u → is_sound_type t ≡ true → unless_types one_comparable_type rule span (Some t) (Some u) ≡ [] → OneWidth t u
one_comparable types rule span t u dt du sound e =
    let q = and_true (is_bits_or_enum t) (same_type t u) (passed (one_comparable_type t u) rule span e) in
    let k = based_are_wide t sound q.0 in
    record { width = k.0; left = k.1; right = subst (λ x. HasWidth x k.0) (one_of_text types t u q.1 dt du) k.1 }

-- what gives bits as wide as both
same_bits : (o : Binary) (t u : DslxType) → OneWidth t u → result_of_binary o t u ≡ t → is_sound_type t ≡ true → ((s : Sign) (w : ℕ) → binary_type (binary_core o s) w w ≡ where_true (w == w) (Some (plain.Bits w))) → Operands o t u
same_bits o t u w is sound h = record {
  left = w.width;
  right = w.width;
  left_is = w.left;
  right_is = w.right;
  gives = λ s fit. h s w.width ∙ alike w.width (plain.Bits w.width) ∙ ap Some (sym w.left.plain ∙ ap plain_type (sym is));
  sound = λ fit. ap is_sound_type is ∙ sound;
}

-- what gives a bit
one_bit : (o : Binary) (t u : DslxType) → OneWidth t u → result_of_binary o t u ≡ bool_type → ((s : Sign) (w : ℕ) → binary_type (binary_core o s) w w ≡ where_true (w == w) (Some (plain.Bits 1))) → Operands o t u
one_bit o t u w is h = record {
  left = w.width;
  right = w.width;
  left_is = w.left;
  right_is = w.right;
  gives = λ s fit. h s w.width ∙ alike w.width (plain.Bits 1) ∙ ap Some (sym bool_wide.plain ∙ ap plain_type (sym is));
  sound = λ fit. ap is_sound_type is ∙ bool_sound;
}

both_bools : (types : Declarations) (left right : Span) (t u : DslxType) → IsDeclared types t → IsDeclared types u → (unless_type is_bool 15 left (Some t) ++ unless_type is_bool 15 right (Some u)) ≡ [] → HasWidth t 1 × HasWidth u 1
both_bools types left right t u dt du e =
    let q = none_in (unless_type is_bool 15 left (Some t)) (unless_type is_bool 15 right (Some u)) e in
    (bool_is_wide types t dt (passed (is_bool t) 15 left q.0), bool_is_wide types u du (passed (is_bool u) 15 right q.1))

bools : (o : Binary) (t u : DslxType) → HasWidth t 1 × HasWidth u 1 → result_of_binary o t u ≡ bool_type → ((s : Sign) → binary_type (binary_core o s) 1 1 ≡ where_true (1 == 1) (Some (plain.Bits 1))) → Operands o t u
bools o t u w is h = record {
  left = 1;
  right = 1;
  left_is = w.0;
  right_is = w.1;
  gives = λ s fit. h s ∙ alike 1 (plain.Bits 1) ∙ ap Some (sym bool_wide.plain ∙ ap plain_type (sym is));
  sound = λ fit. ap is_sound_type is ∙ bool_sound;
}

shifted : (o : Binary) (left right : Span) (t u : DslxType) → is_sound_type t ≡ true → is_sound_type u ≡ true → (unless_type is_bits 16 left (Some t) ++ unless_type is_unsigned 16 right (Some u)) ≡ [] → result_of_binary o t u ≡ t
    → ((s : Sign) (v w : ℕ) → binary_type (binary_core o s) v w ≡ Some (plain.Bits v)) → Operands o t u
shifted o left right t u st su e is h =
    let q = none_in (unless_type is_bits 16 left (Some t)) (unless_type is_unsigned 16 right (Some u)) e in
    let v = bits_are_wide t st (passed (is_bits t) 16 left q.0) in
    let w = bits_are_wide u su (unsigned_are_bits u (passed (is_unsigned u) 16 right q.1)) in
    record {
      left = v.0.width;
      right = w.0.width;
      left_is = v.2;
      right_is = w.2;
      gives = λ s fit. h s v.0.width w.0.width ∙ ap Some (sym v.2.plain ∙ ap plain_type (sym is));
      sound = λ fit. ap is_sound_type is ∙ st;
    }

wide_enough : (v w : ℕ) → is_width v ≡ true → nat_le (v + w) 128 ≡ true → is_width (v + w) ≡ true
wide_enough v w h few =
    let some : 0 < v = grind (arith, nat_tests, (and_true (nat_lt 0 v) (nat_le v 128) h).0) in
    let more : 0 < v + w = omega (arith, some) in
    let test : nat_lt 0 (v + w) ≡ true = grind (arith, nat_tests, more) in
    λ i. test i && few i

concatenated : (left right : Span) (t u : DslxType) → is_sound_type t ≡ true → is_sound_type u ≡ true → (unless_type is_unsigned 17 left (Some t) ++ unless_type is_unsigned 17 right (Some u)) ≡ [] → Operands b.Concat t u
concatenated left right t u st su e =
    let q = none_in (unless_type is_unsigned 17 left (Some t)) (unless_type is_unsigned 17 right (Some u)) e in
    let v = bits_are_wide t st (unsigned_are_bits t (passed (is_unsigned t) 17 left q.0)) in
    let w = bits_are_wide u su (unsigned_are_bits u (passed (is_unsigned u) 17 right q.1)) in
    let sum : width_of_type t + width_of_type u ≡ v.0.width + w.0.width = λ i. width_is t v.0 v.1 i + width_is u w.0 w.1 i in
    record {
      left = v.0.width;
      right = w.0.width;
      left_is = v.2;
      right_is = w.2;
      gives = λ s fit. where_so (nat_le (v.0.width + w.0.width) 128) (Some (plain.Bits (v.0.width + w.0.width))) (ap (λ n. nat_le n 128) (sym sum) ∙ fit) ∙ ap Some (ap plain.Bits (sym sum) ∙ sym (plain_bits false (width_of_type t + width_of_type u)));
      sound = λ fit. sound_bits false (width_of_type t + width_of_type u) ∙ ap is_width sum ∙ wide_enough v.0.width w.0.width v.2.width (ap (λ n. nat_le n 128) (sym sum) ∙ fit);
    }

pub operands : (types : Declarations) (o : Binary) (span left right : Span) (t u : DslxType) → IsDeclared types t → IsDeclared types u → is_sound_type t ≡ true → is_sound_type u ≡ true → binary_faults o span left (Some t) right (Some u) ≡ [] → Operands o t u
operands types b.Mul span left right t u dt du st su e = same_bits b.Mul t u (one_bits types 12 span t u dt du st e) refl st (λ s w. refl)
operands types b.Add span left right t u dt du st su e = same_bits b.Add t u (one_bits types 12 span t u dt du st e) refl st (λ s w. refl)
operands types b.Sub span left right t u dt du st su e = same_bits b.Sub t u (one_bits types 12 span t u dt du st e) refl st (λ s w. refl)
operands types b.And span left right t u dt du st su e = same_bits b.And t u (one_bits types 12 span t u dt du st e) refl st (λ s w. refl)
operands types b.Xor span left right t u dt du st su e = same_bits b.Xor t u (one_bits types 12 span t u dt du st e) refl st (λ s w. refl)
operands types b.Or span left right t u dt du st su e = same_bits b.Or t u (one_bits types 12 span t u dt du st e) refl st (λ s w. refl)
operands types b.Div span left right t u dt du st su e = same_bits b.Div t u (one_unsigned types 13 span t u dt du st e) refl st (λ s w. refl)
operands types b.Rem span left right t u dt du st su e = same_bits b.Rem t u (one_unsigned types 13 span t u dt du st e) refl st (λ s w. refl)
operands types b.Lt span left right t u dt du st su e = one_bit b.Lt t u (one_bits types 14 span t u dt du st e) refl (λ s w. refl)
operands types b.Le span left right t u dt du st su e = one_bit b.Le t u (one_bits types 14 span t u dt du st e) refl (λ s w. refl)
operands types b.Gt span left right t u dt du st su e = one_bit b.Gt t u (one_bits types 14 span t u dt du st e) refl (λ s w. refl)
operands types b.Ge span left right t u dt du st su e = one_bit b.Ge t u (one_bits types 14 span t u dt du st e) refl (λ s w. refl)
operands types b.Eq span left right t u dt du st su e = one_bit b.Eq t u (one_comparable types 14 span t u dt du st e) refl (λ s w. refl)
operands types b.Ne span left right t u dt du st su e = one_bit b.Ne t u (one_comparable types 14 span t u dt du st e) refl (λ s w. refl)
operands types b.Both span left right t u dt du st su e = bools b.Both t u (both_bools types left right t u dt du e) refl (λ s. refl)
operands types b.Either span left right t u dt du st su e = bools b.Either t u (both_bools types left right t u dt du e) refl (λ s. refl)
operands types b.Shl span left right t u dt du st su e = shifted b.Shl left right t u st su e refl (λ s v w. refl)
operands types b.Shr span left right t u dt du st su e = shifted b.Shr left right t u st su e refl (λ s v w. refl)
operands types b.Concat span left right t u dt du st su e = concatenated left right t u st su e

-- ---- operators

pub operator_typed : (fs : FunctionTypes) (ts : List Ty) (o : Binary) (l r : LoweredExpr) → IsTypedExpr fs ts l → IsTypedExpr fs ts r → Operands o l.ty r.ty → TypedIfThere fs ts (lower_binary o (Some l) (Some r))
operator_typed fs ts o l r hl hr k =
    where_typed fs ts (fits_operands o l.ty r.ty) (lowered (core.Binary (binary_core o (sign_of l.ty)) l.core r.core) (result_of_binary o l.ty r.ty))
    (λ fit. binary_typed fs ts (binary_core o (sign_of l.ty)) l r k.left k.right (result_of_binary o l.ty r.ty) hl hr k.left_is k.right_is (k.gives (sign_of l.ty) fit) (k.sound fit))

pub prefix_typed : (fs : FunctionTypes) (ts : List Ty) (p : Prefix) (e : LoweredExpr) (w : ℕ) → IsTypedExpr fs ts e → HasWidth e.ty w → TypedIfThere fs ts (lower_prefix p (Some e))
prefix_typed fs ts Minus e w h k = unary_typed fs ts (prefix_core Minus) e w e.ty h k (sym k.plain) h.sound
prefix_typed fs ts Not e w h k = unary_typed fs ts (prefix_core Not) e w e.ty h k (sym k.plain) h.sound
