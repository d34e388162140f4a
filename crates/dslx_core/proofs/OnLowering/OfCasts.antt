-- Casts, slices and parts of bits mean the same as what stands for them.
use Rattle.std.proofs.Common.{◌≡◌, ◌&&◌, ◌+◌, ◌-◌, ◌<◌, ◌≤◌, ℕ, Bool, true, false, not, if◌then◌else◌, List, Option, Some, refl, sym, ap, subst, ◌∙◌, arith}
use Rattle.std.specs.Prelude.{nat_lt, nat_le}
use Rattle.std.proofs.lemmas.Bool.{leb-true, le-leb}
use Rattle.std.proofs.lemmas.Bool.Decides.{Decides-ltb}
use Rattle.xb_bits.specs.Word.{Word}
use Rattle.xb_bits.specs.Operations as op
use Rattle.xb_value.specs.declared.value.Value.{Value}
use Rattle.xb_value.specs.declared.value.Value as plain
use Rattle.dslx_meaning.specs.Lists.{and_then, where_true, with_both}
use Rattle.dslx_meaning.specs.Types.{bits_in, bits_or_enum, bits_or_enum_step, unsigned}
use Rattle.dslx_meaning.specs.Values.{based_bits, based_step, bits_of, plain_value, unsigned_of}
use Rattle.dslx_meaning.specs.Operators.{cast_to, cast_value, cast_word, part_value, slice_value, slice_word}
use Rattle.dslx_meaning.specs.declared.ty.BitKind.{BitKind}
use Rattle.dslx_meaning.specs.declared.ty.DslxType.{DslxType}
use Rattle.dslx_meaning.specs.declared.ty.DslxType as ty
use Rattle.dslx_meaning.specs.declared.ty.DslxType.TheViews as type_views
use Rattle.dslx_meaning.specs.declared.value.DslxValue.{DslxValue, out-DslxValue}
use Rattle.dslx_meaning.specs.declared.value.DslxValue as value
use Rattle.dslx_meaning.specs.declared.value.DslxValue.TheOpen.{DslxValue-F}
use Rattle.dslx_meaning.specs.declared.value.SignedWord.{SignedWord}
use Rattle.dslx_meaning.specs.Rules.PatternRules.{is_there}
use Rattle.dslx_core.proofs.Lemmas.Typing.Laws.{and_true, is_bits_type}
use Rattle.dslx_core.specs.Typing.Typed.Kinds.{is_of}
use Rattle.dslx_core.proofs.Lemmas.Typing.Typed.{base_lies, cast_made, dyn_slice_lies, in_range, none_some, one_type, same_some, slice_lies, typed_level}
use Rattle.dslx_core.specs.CoreValues.{Bindings, Functions, core_value, is_signed_read, is_width, word_in}
use Rattle.dslx_core.specs.declared.expr.CoreExpr as core
use Rattle.dslx_core.specs.Lowering.Lowering.{LoweredExpr, lower_cast, lowered, lower_part, sign_in, sign_of, lower_slice}
use Rattle.dslx_core.specs.Lowering.Correspondence.{KeepsValue}
use Rattle.dslx_core.proofs.OnLowering.Kept.{bits_kept, both_there, from_both, from_then, from_where, kept_as, made_lies, operand, operand_word, word_there}
use Rattle.dslx_core.proofs.OnLowering.OfParts.{amount_there}
use Rattle.dslx_core.proofs.OnLowering.Openings.{core_cast, core_part, core_slice, plain_level}
use Rattle.dslx_core.proofs.OnLowering.Words.{sign_if}

-- ---- casts

-- bits, or a value of an enum
pub record BasedIs (t : DslxType) (v : DslxValue) (x : SignedWord) : Type 0 where
  pub flat : plain_value v ≡ plain.Bits x.word
  pub kind : bits_or_enum t ≡ Some (record { signed = x.signed; width = x.word.width })
  pub sign : sign_of t ≡ sign_if x.signed

kind_of_bits : (s : Bool) (w : ℕ) → bits_or_enum (ty.Bits s w) ≡ Some (record { signed = s; width = w })
kind_of_bits s w = ap bits_or_enum_step (type_views.outs-Bits s w)

kind_of_enum : (name : List ℕ) (s : Bool) (w : ℕ) → bits_or_enum (ty.Enum name s w) ≡ Some (record { signed = s; width = w })
kind_of_enum name s w = ap bits_or_enum_step (type_views.outs-Enum name s w)

based_as : (t : DslxType) (v : DslxValue) (s : Bool) (w : Word) (x : SignedWord) → Some (record { signed = s; word = w }) ≡ Some x → plain_value v ≡ plain.Bits w
    → bits_or_enum t ≡ Some (record { signed = s; width = w.width }) → BasedIs t v x
based_as t v s w x e flat kind =
    subst (BasedIs t v) (same_some (record { signed = s; word = w }) x e) (record { flat = flat; kind = kind; sign = ap sign_in kind })

pub based : (t : DslxType) (v : DslxValue) (x : SignedWord) → is_of t v ≡ true → based_bits v ≡ Some x → BasedIs t v x
based t v x of e = by_level (out-DslxValue v) refl e
  where
    by_level : (l : DslxValue-F DslxValue) → out-DslxValue v ≡ l → based_step l ≡ Some x → BasedIs t v x
    by_level (DslxValue-F.Bits s w) q k =
        based_as t v s w x k (plain_level v (DslxValue-F.Bits s w) q) (ap bits_or_enum (sym (one_type t v of) ∙ typed_level v (DslxValue-F.Bits s w) q) ∙ kind_of_bits s w.width)
    by_level (DslxValue-F.Enum name s w) q k =
        based_as t v s w x k (plain_level v (DslxValue-F.Enum name s w) q) (ap bits_or_enum (sym (one_type t v of) ∙ typed_level v (DslxValue-F.Enum name s w) q) ∙ kind_of_enum name s w.width)
    by_level (DslxValue-F.Tuple vs) q k = none_some x k
    by_level (DslxValue-F.Array vs) q k = none_some x k
    by_level (DslxValue-F.Struct name fields vs) q k = none_some x k
    by_level DslxValue-F.Token q k = none_some x k

read_as : (s : Bool) → is_signed_read (sign_if s) ≡ s
read_as true = refl
read_as false = refl

cast_width : (s : Bool) (w : ℕ) (x : Word) → (cast_word s w x).width ≡ w
cast_width s w x = by_width (nat_le w x.width)
  where
    by_sign : (s : Bool) → (if s then op.sext x w else op.zext x w).width ≡ w
    by_sign true = refl
    by_sign false = refl

    by_width : (b : Bool) → (if b then op.slice x 0 w else if s then op.sext x w else op.zext x w).width ≡ w
    by_width true = refl
    by_width false = by_sign s

bits_type : (t : DslxType) (k : BitKind) → bits_in t ≡ Some k → t ≡ ty.Bits k.signed k.width
bits_type t k e = let q = is_bits_type t (ap is_there e) in q.1 ∙ ap (λ (k : BitKind). ty.Bits k.signed k.width) (same_some q.0 k (sym q.2 ∙ e))

pub cast_keeps : (calls : Functions) (bound : Bindings) (l : Option LoweredExpr) (o : Option DslxValue) (lt ot : Option DslxType) → ((t : DslxType) → lt ≡ Some t → ot ≡ Some t) → KeepsValue calls bound l o
    → KeepsValue calls bound (lower_cast l lt) (with_both ot o cast_value)
cast_keeps calls bound l o lt ot means keeps e h r g =
    let a = from_both l lt (λ e t. and_then (bits_in t) (λ kind. where_true (is_width kind.width) (lowered (core.Cast (sign_of e.ty) kind.width e.core) t))) e h in
    let k = from_then (bits_in a.1) (λ kind. where_true (is_width kind.width) (lowered (core.Cast (sign_of a.0.ty) kind.width a.0.core) a.1)) e a.4 in
    let w = from_where (is_width k.0.width) (lowered (core.Cast (sign_of a.0.ty) k.0.width a.0.core) a.1) e k.2 in
    let v = from_both ot o cast_value r g in
    let t = same_some v.0 a.1 (sym v.2 ∙ means a.1 a.3) in
    let cast : cast_value a.1 v.1 ≡ Some r = ap (λ t. cast_value t v.1) (sym t) ∙ v.4 in
    let x = from_then (based_bits v.1) (cast_to (bits_in a.1)) r cast in
    let has = keeps a.0 a.2 v.1 v.3 in
    let is = based a.0.ty v.1 x.0 has.of x.1 in
    let made : r ≡ value.Bits k.0.signed (cast_word x.0.signed k.0.width x.0.word) = sym (same_some (value.Bits k.0.signed (cast_word x.0.signed k.0.width x.0.word)) r (sym (ap (λ o. cast_to o x.0) k.1) ∙ x.2)) in
    let word = cast_word x.0.signed k.0.width x.0.word in
    kept_as calls bound r (record { core = core.Cast (sign_of a.0.ty) k.0.width a.0.core; ty = a.1 }) e w.1
    (bits_kept (record { core = core.Cast (sign_of a.0.ty) k.0.width a.0.core; ty = a.1 }) calls bound k.0.signed word r made
    (bits_type a.1 k.0 k.1 ∙ ap (ty.Bits k.0.signed) (sym (cast_width x.0.signed k.0.width x.0.word)))
    (made_lies k.0.signed word r made (cast_made a.1 v.1 r (λ y q. in_range y.word (base_lies a.0.ty v.1 y has.of q)) cast))
    (ap (λ f. f calls bound) (core_cast (sign_of a.0.ty) k.0.width a.0.core)
    ∙ ap (λ o. and_then o (λ x. where_true (is_width k.0.width) (Some (plain.Bits (cast_word (is_signed_read (sign_of a.0.ty)) k.0.width x))))) (word_there a.0 calls bound v.1 x.0.word has is.flat)
    ∙ ap (λ b. where_true b (Some (plain.Bits (cast_word (is_signed_read (sign_of a.0.ty)) k.0.width x.0.word)))) w.0
    ∙ ap (λ s. Some (plain.Bits (cast_word s k.0.width x.0.word))) (ap is_signed_read is.sign ∙ read_as x.0.signed)))

-- ---- slices

some_bits : (m n w : ℕ) → (nat_lt m n && nat_le n w) ≡ true → (nat_lt 0 (n - m) && nat_le (m + (n - m)) w) ≡ true
some_bits m n w e =
    let q = and_true (nat_lt m n) (nat_le n w) e in
    let low : m < n = (Decides-ltb m n).0 q.0 in
    let high : n ≤ w = leb-true n w q.1 in
    let first : 0 < n - m = omega arith in
    let second : m + (n - m) ≤ w = omega arith in
    (λ i. (Decides-ltb 0 (n - m)).1 first i && le-leb (m + (n - m)) w second i)

pub slice_keeps : (calls : Functions) (bound : Bindings) (l : Option LoweredExpr) (o : Option DslxValue) (lm ln m n : Option ℕ) → ((k : ℕ) → lm ≡ Some k → m ≡ Some k)
    → ((k : ℕ) → ln ≡ Some k → n ≡ Some k) → KeepsValue calls bound l o → KeepsValue calls bound (lower_slice l lm ln) (and_then o (λ v. with_both m n (slice_value v)))
slice_keeps calls bound l o lm ln m n first last keeps e h r g =
    let a = from_then l (λ e. with_both lm ln (λ m n. where_true (nat_lt m n && nat_le n 128) (lowered (core.Slice e.core m (n - m)) (unsigned (n - m))))) e h in
    let b = from_both lm ln (λ m n. where_true (nat_lt m n && nat_le n 128) (lowered (core.Slice a.0.core m (n - m)) (unsigned (n - m)))) e a.2 in
    let w = from_where (nat_lt b.0 b.1 && nat_le b.1 128) (lowered (core.Slice a.0.core b.0 (b.1 - b.0)) (unsigned (b.1 - b.0))) e b.4 in
    let v = from_then o (λ v. with_both m n (slice_value v)) r g in
    let sliced : slice_value v.0 b.0 b.1 ≡ Some r = sym (both_there m n (slice_value v.0) b.0 b.1 (first b.0 b.2) (last b.1 b.3)) ∙ v.2 in
    let x = from_then (bits_of v.0) (slice_word b.0 b.1) r sliced in
    let q = from_where (nat_lt b.0 b.1 && nat_le b.1 x.0.word.width) (Some (value.Bits false (op.slice x.0.word b.0 (b.1 - b.0)))) r x.2 in
    let has = keeps a.0 a.1 v.0 v.1 in
    let is = operand a.0.ty v.0 x.0 has.of x.1 in
    kept_as calls bound r (record { core = core.Slice a.0.core b.0 (b.1 - b.0); ty = unsigned (b.1 - b.0) }) e w.1
    (bits_kept (record { core = core.Slice a.0.core b.0 (b.1 - b.0); ty = unsigned (b.1 - b.0) }) calls bound false (op.slice x.0.word b.0 (b.1 - b.0)) r
    (sym (same_some (value.Bits false (op.slice x.0.word b.0 (b.1 - b.0))) r q.1)) refl (slice_lies x.0.word b.0 (b.1 - b.0))
    (ap (λ f. f calls bound) (core_slice a.0.core b.0 (b.1 - b.0))
    ∙ ap (λ o. and_then o (λ x. where_true (nat_lt 0 (b.1 - b.0) && nat_le (b.0 + (b.1 - b.0)) x.width) (Some (plain.Bits (op.slice x b.0 (b.1 - b.0)))))) (operand_word a.0 calls bound v.0 x.0 has is)
    ∙ ap (λ t. where_true t (Some (plain.Bits (op.slice x.0.word b.0 (b.1 - b.0))))) (some_bits b.0 b.1 x.0.word.width q.0)))

-- ---- parts of bits

pub bits_part_keeps : (calls : Functions) (bound : Bindings) (l li : Option LoweredExpr) (o oi : Option DslxValue) (lt ot : Option DslxType) → ((t : DslxType) → lt ≡ Some t → ot ≡ Some t)
    → KeepsValue calls bound l o → KeepsValue calls bound li oi
    → KeepsValue calls bound (lower_part l li lt) (with_both o oi (λ v k. and_then (and_then ot bits_in) (λ kind. where_true (not kind.signed) (part_value v k kind.width))))
bits_part_keeps calls bound l li o oi lt ot means keeps keep_start e h r g =
    let a = from_both l li (λ e i. and_then (and_then lt bits_in) (λ kind. where_true (is_width kind.width) (lowered (core.Part e.core i.core kind.width) (unsigned kind.width)))) e h in
    let k = from_then (and_then lt bits_in) (λ kind. where_true (is_width kind.width) (lowered (core.Part a.0.core a.1.core kind.width) (unsigned kind.width))) e a.4 in
    let w = from_where (is_width k.0.width) (lowered (core.Part a.0.core a.1.core k.0.width) (unsigned k.0.width)) e k.2 in
    let t = from_then lt bits_in k.0 k.1 in
    let v = from_both o oi (λ v k. and_then (and_then ot bits_in) (λ kind. where_true (not kind.signed) (part_value v k kind.width))) r g in
    let same : and_then ot bits_in ≡ Some k.0 = ap (λ o. and_then o bits_in) (means t.0 t.1) ∙ t.2 in
    let part = from_where (not k.0.signed) (part_value v.0 v.1 k.0.width) r (sym (ap (λ o. and_then o (λ kind. where_true (not kind.signed) (part_value v.0 v.1 kind.width))) same) ∙ v.4) in
    let x = from_both (bits_of v.0) (unsigned_of v.1) (λ x n. Some (value.Bits false (op.dyn_slice x.word n k.0.width))) r part.1 in
    let has = keeps a.0 a.2 v.0 v.2 in
    let start = keep_start a.1 a.3 v.1 v.3 in
    let is = operand a.0.ty v.0 x.0 has.of x.2 in
    kept_as calls bound r (record { core = core.Part a.0.core a.1.core k.0.width; ty = unsigned k.0.width }) e w.1
    (bits_kept (record { core = core.Part a.0.core a.1.core k.0.width; ty = unsigned k.0.width }) calls bound false (op.dyn_slice x.0.word x.1 k.0.width) r
    (sym (same_some (value.Bits false (op.dyn_slice x.0.word x.1 k.0.width)) r x.4)) refl (dyn_slice_lies x.0.word x.1 k.0.width)
    (ap (λ f. f calls bound) (core_part a.0.core a.1.core k.0.width)
    ∙ both_there (word_in (core_value a.0.core) calls bound) (word_in (core_value a.1.core) calls bound) (λ x n. where_true (is_width k.0.width) (Some (plain.Bits (op.dyn_slice x n k.0.width)))) x.0.word x.1
    (operand_word a.0 calls bound v.0 x.0 has is) (amount_there a.1 calls bound v.1 x.1 start x.3)
    ∙ ap (λ t. where_true t (Some (plain.Bits (op.dyn_slice x.0.word x.1 k.0.width)))) w.0))
