-- What builtins give.
use Rattle.std.proofs.Common.{◌≡◌, ◌&&◌, ◌++◌, ℕ, zero, suc, length, set, Bool, true, false, not, if◌then◌else◌, List, [], ◌∷◌, Option, Some, None, refl, sym, ap, subst, ◌∙◌}
use mathlib.Core.Bool.{true≢false}
use Rattle.std.specs.Prelude.{nat_lt}
use Rattle.std.specs.List.{list_all}
use Rattle.xb_bits.specs.Word.{Word}
use Rattle.xb_span.specs.declared.span.Span.{Span}
use Rattle.dslx_meaning.specs.Lists.{and_then, with_both}
use Rattle.dslx_meaning.specs.Types.{same_type, bool_type}
use Rattle.dslx_meaning.specs.Values.{signed_step, array_step, amount_in, bits_of}
use Rattle.dslx_meaning.specs.Operators.{counted, reduced, updated}
use Rattle.dslx_meaning.specs.declared.ty.BitKind.{BitKind}
use Rattle.dslx_meaning.specs.declared.ty.DslxType.{DslxType}
use Rattle.dslx_meaning.specs.declared.ty.DslxType as ty
use Rattle.dslx_meaning.specs.declared.value.DslxValue.{DslxValue}
use Rattle.dslx_meaning.specs.declared.value.DslxValue as value
use Rattle.dslx_meaning.specs.declared.value.SignedWord.{SignedWord}
use Rattle.dslx_meaning.specs.Rules.TypeEnvs.{TypeEnv, ExprPair, has_broken, span_of, alone}
use Rattle.dslx_meaning.specs.Rules.ConstantRules.{is_unsigned, is_zero}
use Rattle.dslx_meaning.specs.Rules.PatternRules.{is_there}
use Rattle.dslx_meaning.specs.Rules.OperatorRules.{is_bits, unless_type}
use Rattle.dslx_meaning.specs.Rules.AggregateRules.{is_array, array_in, element_type}
use Rattle.dslx_meaning.specs.Rules.CallRules.{counting}
use Rattle.dslx_core.proofs.Lemmas.Typing.Laws.{and_true, is_bits_type, is_unsigned_value}
use Rattle.dslx_core.specs.Typing.Typed.Kinds.{is_of, lies_in}
use Rattle.dslx_core.specs.Typing.Typed.Declared.{Declarations, IsDeclared}
use Rattle.dslx_core.specs.Typing.Typed.Given.{GivesOf, GivesItsType}
use Rattle.dslx_core.proofs.OnTyping.OnTyped.TypingRelations.{same_some, unbroken_parts, test_holds, settled_type}
use Rattle.dslx_core.proofs.OnTyping.OnTyped.OfTypes.{one_type, is_bits_of, is_array_of, bits_of_width}
use Rattle.dslx_core.proofs.OnTyping.OnTyped.OfOperators.{bits_declared}
use Rattle.dslx_core.proofs.OnTyping.OnTyped.OneName.{one_of_text, element_declared}
use Rattle.dslx_core.proofs.OnTyping.OnTyped.OfAggregates.{and_then_type, array_with}
use Rattle.dslx_core.proofs.OnTyping.OnTyped.OfArrays.{elements_are}

-- ---- counts and reductions

-- an operand that is bits
abbrev pub BitsGiven : DslxType → Option DslxValue → Type 0
BitsGiven k x = (b : BitKind) × (w : Word) × (k ≡ ty.Bits b.signed b.width) × (and_then x bits_of ≡ Some (record { signed = b.signed; word = w })) × (w.width ≡ b.width) × (lies_in w ≡ true)

pub bits_given : (types : Declarations) (k : DslxType) (x : Option DslxValue) → GivesOf types k x → is_bits k ≡ true → BitsGiven k x
bits_given types k x g e =
    let b = is_bits_type k e in
    let u = is_bits_of b.0.signed b.0.width g.value (ap (λ a. is_of a g.value) (sym b.1) ∙ g.of) in
    (b.0, u.0, b.1, ap (λ o. and_then o bits_of) g.is ∙ ap signed_step u.1, u.2, u.3)

-- the bits of a value, put to a use
pub of_its_bits : {A : Type 0} (x : Option DslxValue) (f : SignedWord → Option A) → and_then x (λ v. and_then (bits_of v) f) ≡ and_then (and_then x bits_of) f
of_its_bits None f = refl
of_its_bits (Some v) f = refl

pub counting_gives : (types : Declarations) (span : Span) (context : TypeEnv) (e : ExprPair) (x : Option DslxValue) (f : Word → Word) → ((w : Word) → (f w).width ≡ w.width) → ((w : Word) → lies_in w ≡ true → lies_in (f w) ≡ true)
    → GivesItsType types (alone context e) x → GivesItsType types (counting span (e ∷ []) (alone context e ∷ []) (alone context e).ty) (and_then x (λ v. counted f (v ∷ [])))
counting_gives types span context e x f width within gives t h =
    let a = alone context e in
    let s = settled_type (and_then a.ty (λ t. a.ty)) (a.faults ++ unless_type is_bits 27 (span_of e) a.ty) t h in
    let q = and_then_type a.ty (λ t. a.ty) t s.1 in
    let k = unbroken_parts a.faults (unless_type is_bits 27 (span_of e) a.ty) s.0 in
    let g = gives t q.2 in
    let b = bits_given types t x g (test_holds (is_bits t) 27 (span_of e) (ap (λ o. has_broken (unless_type is_bits 27 (span_of e) o)) (sym q.2) ∙ k.1)) in
    record {
      value = value.Bits b.0.signed (f b.1);
      is = of_its_bits x (λ y. Some (value.Bits y.signed (f y.word))) ∙ ap (λ o. and_then o (λ y. Some (value.Bits y.signed (f y.word)))) b.3;
      of = ap (λ u. is_of u (value.Bits b.0.signed (f b.1))) b.2 ∙ bits_of_width b.0.signed (f b.1) b.0.width (width b.1 ∙ b.4) (within b.1 b.5);
      declared = g.declared;
    }

pub reducing_gives : (types : Declarations) (span : Span) (context : TypeEnv) (e : ExprPair) (x : Option DslxValue) (f : Word → Word) → ((w : Word) → (f w).width ≡ 1) → ((w : Word) → lies_in w ≡ true → lies_in (f w) ≡ true)
    → GivesItsType types (alone context e) x → GivesItsType types (counting span (e ∷ []) (alone context e ∷ []) (Some bool_type)) (and_then x (λ v. reduced f (v ∷ [])))
reducing_gives types span context e x f width within gives t h =
    let a = alone context e in
    let s = settled_type (and_then a.ty (λ t. Some bool_type)) (a.faults ++ unless_type is_bits 27 (span_of e) a.ty) t h in
    let q = and_then_type a.ty (λ t. Some bool_type) t s.1 in
    let k = unbroken_parts a.faults (unless_type is_bits 27 (span_of e) a.ty) s.0 in
    let b = bits_given types q.0 x (gives q.0 q.1) (test_holds (is_bits q.0) 27 (span_of e) (ap (λ o. has_broken (unless_type is_bits 27 (span_of e) o)) (sym q.1) ∙ k.1)) in
    let own = same_some bool_type t q.2 in
    record {
      value = value.Bits false (f b.1);
      is = of_its_bits x (λ y. Some (value.Bits false (f y.word))) ∙ ap (λ o. and_then o (λ y. Some (value.Bits false (f y.word)))) b.3;
      of = ap (λ u. is_of u (value.Bits false (f b.1))) (sym own) ∙ bits_of_width false (f b.1) 1 (width b.1) (within b.1 b.5);
      declared = subst (IsDeclared types) own (bits_declared types false 1);
    }

-- ---- update

all_set : (test : DslxValue → Bool) (vs : List DslxValue) (k : ℕ) (new : DslxValue) → list_all test vs ≡ true → test new ≡ true → (list_all test (set vs k new) ≡ true) × (length vs ≡ length (set vs k new))
all_set test [] k new h e = (refl, refl)
all_set test (v ∷ vs) zero new h e = let q = and_true (test v) (list_all test vs) h in ((λ i. e i && q.1 i), refl)
all_set test (v ∷ vs) (suc k) new h e =
    let q = and_true (test v) (list_all test vs) h in
    let r = all_set test vs k new q.1 e in
    ((λ i. q.0 i && r.0 i), ap suc r.1)

-- an array with another element
pub update_given : (types : Declarations) (a k w : DslxType) (x y z : Option DslxValue) → GivesOf types a x → GivesOf types k y → GivesOf types w z → is_array a ≡ true → is_unsigned k ≡ true
    → ((u : DslxType) → element_type (array_in a) ≡ Some u → same_type u w ≡ true) → GivesOf types a (and_then x (λ v. and_then y (λ i. and_then z (λ new. updated (v ∷ i ∷ new ∷ [])))))
update_given types a k w x y z gx gy gz array unsigned same = by_parts (array_in a) refl array
  where
    new_array : (u : DslxType) (n : ℕ) (vs : List DslxValue) (j : ℕ) → not (is_zero n) ≡ true → n ≡ length vs → list_all (is_of u) vs ≡ true → is_of u gz.value ≡ true
        → (b : Bool) → is_of (ty.Array u n) (value.Array (if b then set vs j gz.value else vs)) ≡ true
    new_array u n vs j some count all own true = let r = all_set (is_of u) vs j gz.value all own in elements_are u n (set vs j gz.value) some (count ∙ r.1) r.0
    new_array u n vs j some count all own false = elements_are u n vs some count all

    by_parts : (o : Option (DslxType × ℕ)) → array_in a ≡ o → is_there o ≡ true → GivesOf types a (and_then x (λ v. and_then y (λ i. and_then z (λ new. updated (v ∷ i ∷ new ∷ [])))))
    by_parts None q h = absurd (true≢false (sym h))
    by_parts (Some p) q h =
        let whole = array_with a p q in
        let r = is_array_of p.0 p.1 gx.value (ap (λ u. is_of u gx.value) (sym whole) ∙ gx.of) in
        let n = is_unsigned_value gy.value (ap is_unsigned (one_type k gy.value gy.of) ∙ unsigned) in
        let elements = element_declared types p.0 p.1 (subst (IsDeclared types) whole gx.declared) in
        let one = one_of_text types p.0 w (same p.0 (ap element_type q)) elements.0 gz.declared in
        let made = value.Array (if nat_lt n.0.word.value (length r.elements) then set r.elements n.0.word.value gz.value else r.elements) in
        record {
          value = made;
          is = (λ i. and_then (gx.is i) (λ v. and_then (gy.is i) (λ i'. and_then (gz.is i) (λ new. updated (v ∷ i' ∷ new ∷ [])))))
              ∙ (λ i. with_both (array_step (r.out i)) (amount_in (n.1.0 i)) (λ vs j. Some (value.Array (if nat_lt j.value (length vs) then set vs j.value gz.value else vs))))
              ∙ ap (λ b. with_both (Some r.elements) (if b then None else (Some n.0.word)) (λ vs j. Some (value.Array (if nat_lt j.value (length vs) then set vs j.value gz.value else vs)))) n.2;
          of = ap (λ u. is_of u made) whole ∙ new_array p.0 p.1 r.elements n.0.word.value r.some r.count r.all (ap (λ u. is_of u gz.value) one ∙ gz.of) (nat_lt n.0.word.value (length r.elements));
          declared = gx.declared;
        }
