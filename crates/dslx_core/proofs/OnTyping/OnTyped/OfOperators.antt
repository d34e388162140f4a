-- What operators, casts and slices give where their operands give values of their types.
use Rattle.std.proofs.Common.{◌≡◌, ◌++◌, ℕ, Bool, true, false, not, [], Option, Some, None, refl, sym, ap, subst, ◌∙◌}
use mathlib.Core.Bool.{true≢false}
use Rattle.std.specs.Option.{option_map}
use Rattle.xb_span.specs.declared.span.Span.{Span}
use Rattle.dslx_tree.specs.declared.operator.Binary.{Binary}
use Rattle.dslx_tree.specs.declared.operator.Binary.TheVariants as b
use Rattle.dslx_tree.specs.declared.operator.Prefix.{Prefix}
use Rattle.dslx_meaning.specs.Lists.{and_then, with_both}
use Rattle.dslx_meaning.specs.Types.{same_type, bits_in, bits_step, bool_type}
use Rattle.dslx_meaning.specs.Values.{bits_of, signed_step, type_of_value}
use Rattle.dslx_meaning.specs.Operators.{binary_value, prefix_value, cast_value}
use Rattle.dslx_meaning.specs.declared.ty.BitKind.{BitKind}
use Rattle.dslx_meaning.specs.declared.ty.DslxType.{DslxType}
use Rattle.dslx_meaning.specs.declared.ty.DslxType as ty
use Rattle.dslx_meaning.specs.declared.ty.DslxType.TheVariants as type_rolls
use Rattle.dslx_meaning.specs.declared.ty.DslxType.TheViews as type_views
use Rattle.dslx_meaning.specs.declared.ty.DslxType.TheOpen.{DslxType-F}
use Rattle.dslx_meaning.specs.declared.ty.DslxType.TheFolds.{fold-roll-DslxType}
use Rattle.dslx_meaning.specs.declared.value.DslxValue.{DslxValue}
use Rattle.dslx_meaning.specs.declared.value.DslxValue.TheViews as views
use Rattle.dslx_meaning.specs.declared.value.SignedWord.{SignedWord}
use Rattle.dslx_meaning.specs.Rules.TypeEnvs.{TypeEnv, Judgement, ExprPair, has_broken, span_of, alone}
use Rattle.dslx_meaning.specs.Rules.ConstantRules.{is_unsigned, is_unsigned_kind}
use Rattle.dslx_meaning.specs.Rules.PatternRules.{is_there}
use Rattle.dslx_meaning.specs.Rules.OperatorRules.{is_bits, is_bits_or_enum, is_bool, one_bit_type, one_unsigned_type, one_comparable_type, binary_faults, binary_type, binary_typing, prefix_typing, cast_typing, unless_type}
use Rattle.dslx_core.proofs.Lemmas.Typing.Laws.{and_true, unbroken, both_unbroken, is_bits_value, is_bits_type, binary_typed, prefix_typed, cast_typed}
use Rattle.dslx_core.specs.Typing.Typed.Kinds.{is_of, lies_in}
use Rattle.dslx_core.specs.Typing.Typed.Declared.{Declarations, IsDeclared, as_declared, declared_step}
use Rattle.dslx_core.specs.Typing.Typed.Given.{GivesOf, GivesItsType}
use Rattle.dslx_core.proofs.OnTyping.OnTyped.TypingRelations.{none_some, same_some, mapped_from, unbroken_parts, three_unbroken, no_fault, no_two_faults, test_holds, settled_type}
use Rattle.dslx_core.proofs.OnTyping.OnTyped.OfTypes.{base_lies, bits_lie, one_type, own_bits}
use Rattle.dslx_core.proofs.OnTyping.OnTyped.OfWords.{BitsLie, MadeBits, binary_made, cast_made, in_range, lies, prefix_made}

-- ---- bits

pub bits_are_bits : (s : Bool) (w : ℕ) → is_bits (ty.Bits s w) ≡ true
bits_are_bits s w = ap (λ l. is_there (bits_step l)) (type_views.outs-Bits s w)

pub unsigned_bits : (t : DslxType) → is_unsigned t ≡ true → is_bits t ≡ true
unsigned_bits t e = by_kind (bits_in t) e
  where
    by_kind : (k : Option BitKind) → is_unsigned_kind k ≡ true → is_there k ≡ true
    by_kind None h = absurd (true≢false (sym h))
    by_kind (Some k) h = refl

pub bits_declared : (types : Declarations) (s : Bool) (w : ℕ) → IsDeclared types (ty.Bits s w)
bits_declared types s w = ap (as_declared types) (sym (type_rolls.rolls-Bits s w)) ∙ fold-roll-DslxType DslxType (declared_step types) (DslxType-F.Bits s w)

-- bits that are made lie in their width
made_lie : (v : DslxValue) → MadeBits v → (x : SignedWord) → bits_of v ≡ Some x → lies_in x.word ≡ true
made_lie v made x e =
    ap (λ (y : SignedWord). lies_in y.word) (same_some x made.0 (sym e ∙ ap bits_of made.1 ∙ ap signed_step (views.outs-Bits made.0.signed made.0.word))) ∙ lies made.0.word made.2

-- those of a value of a type do
own_lie : (t : DslxType) (v : DslxValue) → is_of t v ≡ true → BitsLie v
own_lie t v of x e = in_range x.word (bits_lie t v x of e)

-- what has a type that is bits
pub gives_bits : (types : Declarations) (t : DslxType) (o : Option DslxValue) (v : DslxValue) → o ≡ Some v → type_of_value v ≡ t → is_bits t ≡ true → MadeBits v → GivesOf types t o
gives_bits types t o v is e h made =
    let k = is_bits_type t h in
    record { value = v; is = is; of = of_its_bits k.0 (e ∙ k.1); declared = subst (IsDeclared types) (sym k.1) (bits_declared types k.0.signed k.0.width) }
  where
    of_its_bits : (k : BitKind) → type_of_value v ≡ ty.Bits k.signed k.width → is_of t v ≡ true
    of_its_bits k q =
        let x = is_bits_value v (ap is_bits q ∙ bits_are_bits k.signed k.width) in
        subst (λ u. is_of u v ≡ true) e (own_bits v x.0 x.1 (made_lie v made x.0 x.1.0))

gives_typed : (types : Declarations) (t : DslxType) (o : Option DslxValue) → option_map type_of_value o ≡ Some t → is_bits t ≡ true → ((v : DslxValue) → o ≡ Some v → MadeBits v) → GivesOf types t o
gives_typed types t o e h made = let q = mapped_from type_of_value o t e in gives_bits types t o q.0 q.1 q.2 h (made q.0 q.1)

-- ---- binary operators

no_left : (o : Binary) (q : Option DslxType) → binary_type o None q ≡ None
no_left b.Mul q = refl
no_left b.Div q = refl
no_left b.Rem q = refl
no_left b.Add q = refl
no_left b.Sub q = refl
no_left b.Concat q = refl
no_left b.Shl q = refl
no_left b.Shr q = refl
no_left b.And q = refl
no_left b.Xor q = refl
no_left b.Or q = refl
no_left b.Eq q = refl
no_left b.Ne q = refl
no_left b.Lt q = refl
no_left b.Le q = refl
no_left b.Gt q = refl
no_left b.Ge q = refl
no_left b.Both q = refl
no_left b.Either q = refl

no_right : (o : Binary) (t : DslxType) → binary_type o (Some t) None ≡ None
no_right b.Mul t = refl
no_right b.Div t = refl
no_right b.Rem t = refl
no_right b.Add t = refl
no_right b.Sub t = refl
no_right b.Concat t = refl
no_right b.Shl t = refl
no_right b.Shr t = refl
no_right b.And t = refl
no_right b.Xor t = refl
no_right b.Or t = refl
no_right b.Eq t = refl
no_right b.Ne t = refl
no_right b.Lt t = refl
no_right b.Le t = refl
no_right b.Gt t = refl
no_right b.Ge t = refl
no_right b.Both t = refl
no_right b.Either t = refl

-- both operands have a type
abbrev HaveTypes : Option DslxType → Option DslxType → Type 0
HaveTypes p q = (u : DslxType) × (w : DslxType) × (p ≡ Some u) × (q ≡ Some w)

both_typed : (o : Binary) (p q : Option DslxType) (t : DslxType) → binary_type o p q ≡ Some t → HaveTypes p q
both_typed o None q t e = none_some t (sym (no_left o q) ∙ e)
both_typed o (Some u) None t e = none_some t (sym (no_right o u) ∙ e)
both_typed o (Some u) (Some w) t e = (u, w, refl, refl)

no_binary_faults : (o : Binary) (span l r : Span) (u w : DslxType) → has_broken (binary_faults o span l (Some u) r (Some w)) ≡ false → binary_faults o span l (Some u) r (Some w) ≡ []
no_binary_faults b.Mul span l r u w e = no_fault (not (one_bit_type u w)) 12 span e
no_binary_faults b.Div span l r u w e = no_fault (not (one_unsigned_type u w)) 13 span e
no_binary_faults b.Rem span l r u w e = no_fault (not (one_unsigned_type u w)) 13 span e
no_binary_faults b.Add span l r u w e = no_fault (not (one_bit_type u w)) 12 span e
no_binary_faults b.Sub span l r u w e = no_fault (not (one_bit_type u w)) 12 span e
no_binary_faults b.Concat span l r u w e = no_two_faults (not (is_unsigned u)) (not (is_unsigned w)) 17 17 l r e
no_binary_faults b.Shl span l r u w e = no_two_faults (not (is_bits u)) (not (is_unsigned w)) 16 16 l r e
no_binary_faults b.Shr span l r u w e = no_two_faults (not (is_bits u)) (not (is_unsigned w)) 16 16 l r e
no_binary_faults b.And span l r u w e = no_fault (not (one_bit_type u w)) 12 span e
no_binary_faults b.Xor span l r u w e = no_fault (not (one_bit_type u w)) 12 span e
no_binary_faults b.Or span l r u w e = no_fault (not (one_bit_type u w)) 12 span e
no_binary_faults b.Eq span l r u w e = no_fault (not (one_comparable_type u w)) 14 span e
no_binary_faults b.Ne span l r u w e = no_fault (not (one_comparable_type u w)) 14 span e
no_binary_faults b.Lt span l r u w e = no_fault (not (one_bit_type u w)) 14 span e
no_binary_faults b.Le span l r u w e = no_fault (not (one_bit_type u w)) 14 span e
no_binary_faults b.Gt span l r u w e = no_fault (not (one_bit_type u w)) 14 span e
no_binary_faults b.Ge span l r u w e = no_fault (not (one_bit_type u w)) 14 span e
no_binary_faults b.Both span l r u w e = no_two_faults (not (is_bool u)) (not (is_bool w)) 15 15 l r e
no_binary_faults b.Either span l r u w e = no_two_faults (not (is_bool u)) (not (is_bool w)) 15 15 l r e

binary_bits : (o : Binary) (span l r : Span) (u w t : DslxType) → binary_faults o span l (Some u) r (Some w) ≡ [] → binary_type o (Some u) (Some w) ≡ Some t → is_bits t ≡ true
binary_bits b.Mul span l r u w t e q = ap is_bits (sym (same_some u t q)) ∙ (and_true (is_bits u) (same_type u w) (unbroken (one_bit_type u w) 12 span e)).0
binary_bits b.Div span l r u w t e q = ap is_bits (sym (same_some u t q)) ∙ unsigned_bits u (and_true (is_unsigned u) (same_type u w) (unbroken (one_unsigned_type u w) 13 span e)).0
binary_bits b.Rem span l r u w t e q = ap is_bits (sym (same_some u t q)) ∙ unsigned_bits u (and_true (is_unsigned u) (same_type u w) (unbroken (one_unsigned_type u w) 13 span e)).0
binary_bits b.Add span l r u w t e q = ap is_bits (sym (same_some u t q)) ∙ (and_true (is_bits u) (same_type u w) (unbroken (one_bit_type u w) 12 span e)).0
binary_bits b.Sub span l r u w t e q = ap is_bits (sym (same_some u t q)) ∙ (and_true (is_bits u) (same_type u w) (unbroken (one_bit_type u w) 12 span e)).0
binary_bits b.Concat span l r u w t e q = ap is_bits (sym (same_some _ t q)) ∙ bits_are_bits false _
binary_bits b.Shl span l r u w t e q = ap is_bits (sym (same_some u t q)) ∙ (both_unbroken (is_bits u) (is_unsigned w) 16 l r e).0
binary_bits b.Shr span l r u w t e q = ap is_bits (sym (same_some u t q)) ∙ (both_unbroken (is_bits u) (is_unsigned w) 16 l r e).0
binary_bits b.And span l r u w t e q = ap is_bits (sym (same_some u t q)) ∙ (and_true (is_bits u) (same_type u w) (unbroken (one_bit_type u w) 12 span e)).0
binary_bits b.Xor span l r u w t e q = ap is_bits (sym (same_some u t q)) ∙ (and_true (is_bits u) (same_type u w) (unbroken (one_bit_type u w) 12 span e)).0
binary_bits b.Or span l r u w t e q = ap is_bits (sym (same_some u t q)) ∙ (and_true (is_bits u) (same_type u w) (unbroken (one_bit_type u w) 12 span e)).0
binary_bits b.Eq span l r u w t e q = ap is_bits (sym (same_some bool_type t q)) ∙ bits_are_bits false 1
binary_bits b.Ne span l r u w t e q = ap is_bits (sym (same_some bool_type t q)) ∙ bits_are_bits false 1
binary_bits b.Lt span l r u w t e q = ap is_bits (sym (same_some bool_type t q)) ∙ bits_are_bits false 1
binary_bits b.Le span l r u w t e q = ap is_bits (sym (same_some bool_type t q)) ∙ bits_are_bits false 1
binary_bits b.Gt span l r u w t e q = ap is_bits (sym (same_some bool_type t q)) ∙ bits_are_bits false 1
binary_bits b.Ge span l r u w t e q = ap is_bits (sym (same_some bool_type t q)) ∙ bits_are_bits false 1
binary_bits b.Both span l r u w t e q = ap is_bits (sym (same_some bool_type t q)) ∙ bits_are_bits false 1
binary_bits b.Either span l r u w t e q = ap is_bits (sym (same_some bool_type t q)) ∙ bits_are_bits false 1

pub binary_gives : (types : Declarations) (span : Span) (context : TypeEnv) (o : Binary) (l r : ExprPair) (x y : Option DslxValue)
    → GivesItsType types (alone context l) x → GivesItsType types (alone context r) y → GivesItsType types (binary_typing span context o l r) (with_both x y (binary_value o))
binary_gives types span context o l r x y p q t e =
    let a = alone context l in
    let c = alone context r in
    let s = settled_type (binary_type o a.ty c.ty) ((a.faults ++ c.faults) ++ binary_faults o span (span_of l) a.ty (span_of r) c.ty) t e in
    let h = three_unbroken a.faults c.faults (binary_faults o span (span_of l) a.ty (span_of r) c.ty) s.0 in
    let k = both_typed o a.ty c.ty t s.1 in
    let u = p k.0 k.2 in
    let w = q k.1 k.3 in
    operated a.ty c.ty k.0 k.1 k.2 k.3 u.value w.value (one_type k.0 u.value u.of) (one_type k.1 w.value w.of) (own_lie k.0 u.value u.of) (own_lie k.1 w.value w.of) h.2 s.1 u.is w.is
  where
    operated : (m n : Option DslxType) (tu tw : DslxType) → m ≡ Some tu → n ≡ Some tw → (v z : DslxValue) → type_of_value v ≡ tu → type_of_value z ≡ tw → BitsLie v → BitsLie z
        → has_broken (binary_faults o span (span_of l) m (span_of r) n) ≡ false → binary_type o m n ≡ Some t → x ≡ Some v → y ≡ Some z → GivesOf types t (with_both x y (binary_value o))
    operated m n tu tw em en v z ev ez lv lz faults typed ex ey =
        let mv = em ∙ ap Some (sym ev) in
        let nz = en ∙ ap Some (sym ez) in
        let none = no_binary_faults o span (span_of l) (span_of r) (type_of_value v) (type_of_value z)
        ((λ i. has_broken (binary_faults o span (span_of l) (sym mv i) (span_of r) (sym nz i))) ∙ faults) in
        let its = (λ i. binary_type o (sym mv i) (sym nz i)) ∙ typed in
        gives_typed types t (with_both x y (binary_value o))
        ((λ i. option_map type_of_value (with_both (ex i) (ey i) (binary_value o))) ∙ binary_typed o span (span_of l) (span_of r) v z none ∙ its)
        (binary_bits o span (span_of l) (span_of r) (type_of_value v) (type_of_value z) t none its)
        (λ r e. binary_made o v z r lv lz ((λ i. with_both (sym ex i) (sym ey i) (binary_value o)) ∙ e))

-- ---- unary operators and casts

pub prefix_gives : (types : Declarations) (span : Span) (context : TypeEnv) (o : Prefix) (e : ExprPair) (x : Option DslxValue)
    → GivesItsType types (alone context e) x → GivesItsType types (prefix_typing span context e) (and_then x (prefix_value o))
prefix_gives types span context o e x p t h =
    let a = alone context e in
    let s = settled_type a.ty (a.faults ++ unless_type is_bits 11 span a.ty) t h in
    let f = unbroken_parts a.faults (unless_type is_bits 11 span a.ty) s.0 in
    let v = p t s.1 in
    let bits = test_holds (is_bits t) 11 span (ap (λ m. has_broken (unless_type is_bits 11 span m)) (sym s.1) ∙ f.1) in
    let own = one_type t v.value v.of in
    gives_typed types t (and_then x (prefix_value o))
    (ap (λ m. option_map type_of_value (and_then m (prefix_value o))) v.is ∙ prefix_typed o v.value (ap is_bits own ∙ bits) ∙ ap Some own) bits
    (λ r e. prefix_made o v.value r (own_lie t v.value v.of) (ap (λ m. and_then m (prefix_value o)) (sym v.is) ∙ e))

pub cast_gives : (types : Declarations) (span : Span) (context : TypeEnv) (e : ExprPair) (target : Judgement) (x : Option DslxValue) (u : Option DslxType)
    → GivesItsType types (alone context e) x → ((t : DslxType) → target.ty ≡ Some t → u ≡ Some t) → GivesItsType types (cast_typing span context e target) (with_both u x cast_value)
cast_gives types span context e target x u p q t h =
    let a = alone context e in
    let s = settled_type (and_then a.ty (λ t. target.ty)) (((a.faults ++ target.faults) ++ unless_type is_bits_or_enum 20 span a.ty) ++ unless_type is_bits 20 span target.ty) t h in
    let f = unbroken_parts ((a.faults ++ target.faults) ++ unless_type is_bits_or_enum 20 span a.ty) (unless_type is_bits 20 span target.ty) s.0 in
    let g = unbroken_parts (a.faults ++ target.faults) (unless_type is_bits_or_enum 20 span a.ty) f.0 in
    by_type a.ty refl s.1 g.1 f.1
  where
    by_type : (m : Option DslxType) → (alone context e).ty ≡ m → and_then m (λ t. target.ty) ≡ Some t → has_broken (unless_type is_bits_or_enum 20 span m) ≡ false
        → has_broken (unless_type is_bits 20 span target.ty) ≡ false → GivesOf types t (with_both u x cast_value)
    by_type None em typed based bits = none_some t typed
    by_type (Some k) em typed based bits =
        let v = p k em in
        let own = one_type k v.value v.of in
        let is = test_holds (is_bits t) 20 span (ap (λ m. has_broken (unless_type is_bits 20 span m)) (sym typed) ∙ bits) in
        gives_typed types t (with_both u x cast_value)
        ((λ i. option_map type_of_value (with_both (q t typed i) (v.is i) cast_value))
        ∙ cast_typed t v.value is (ap is_bits_or_enum own ∙ test_holds (is_bits_or_enum k) 20 span based)) is
        (λ r e. cast_made t v.value r (λ x b. in_range x.word (base_lies k v.value x v.of b)) ((λ i. with_both (sym (q t typed) i) (sym v.is i) cast_value) ∙ e))
