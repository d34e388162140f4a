-- What slices, parts of bits and fields give.
use Rattle.std.proofs.Common.{◌≡◌, ◌&&◌, ◌||◌, ◌++◌, ◌-◌, ℕ, ◌<◌, ◌≤◌, Bool, true, false, not, if◌then◌else◌, List, map, Option, Some, None, slice_get, refl, sym, ap, subst, ◌∙◌}
use mathlib.Core.Bool.{true≢false}
use Rattle.std.specs.Prelude.{nat_lt, nat_le}
use Rattle.std.proofs.lemmas.Bool.{leb-false, le-leb, ltb-false}
use Rattle.std.proofs.lemmas.Bool.Decides.{Decides-ltb}
use Rattle.xb_bits.specs.Word.{Word}
use Rattle.xb_bits.specs.Operations as op
use Rattle.xb_span.specs.declared.span.Span.{Span}
use Rattle.dslx_tree.specs.declared.ident.Ident.{Ident}
use Rattle.dslx_meaning.specs.Lists.{and_then, with_both, where_true, beside, index_in}
use Rattle.dslx_meaning.specs.Types.{bits_in, unsigned}
use Rattle.dslx_meaning.specs.Values.{fields_step, amount_in, bits_of}
use Rattle.dslx_meaning.specs.Operators.{slice_value, slice_word, part_value}
use Rattle.dslx_meaning.specs.Meaning.{field_of}
use Rattle.dslx_meaning.specs.declared.ty.BitKind.{BitKind}
use Rattle.dslx_meaning.specs.declared.ty.DslxType.{DslxType, out-DslxType}
use Rattle.dslx_meaning.specs.declared.ty.DslxType as ty
use Rattle.dslx_meaning.specs.declared.ty.DslxType.TheOpen.{DslxType-F}
use Rattle.dslx_meaning.specs.declared.ty.DslxType.TheViews as type_views
use Rattle.dslx_meaning.specs.declared.value.DslxValue.{DslxValue}
use Rattle.dslx_meaning.specs.declared.value.DslxValue as value
use Rattle.dslx_meaning.specs.declared.value.SignedWord.{SignedWord}
use Rattle.dslx_meaning.specs.Rules.TypeEnvs.{TypeEnv, Judgement, ExprPair, breaks_if, has_broken, alone}
use Rattle.dslx_meaning.specs.Rules.ConstantRules.{constant_or_untyped, is_unsigned, is_unsigned_kind}
use Rattle.dslx_meaning.specs.Rules.PatternRules.{is_there}
use Rattle.dslx_meaning.specs.Rules.OperatorRules.{is_bits, width_of_type, unless_type, bound_number, is_negative_bound, is_past, bounds_fall, is_wrong_bound, slice_faults, slice_typing, part_typing}
use Rattle.dslx_meaning.specs.Rules.AggregateRules.{struct_field_type, field_type, field_part_typing}
use Rattle.dslx_core.proofs.Lemmas.Typing.Laws.{is_bits_type, is_unsigned_value}
use Rattle.dslx_core.specs.Typing.Typed.Kinds.{is_of, each_of}
use Rattle.dslx_core.specs.Typing.Typed.Declared.{Declarations, IsDeclared, AllDeclared, DeclaresParts}
use Rattle.dslx_core.specs.Typing.Typed.Given.{GivesOf, GivesItsType}
use Rattle.dslx_core.proofs.OnTyping.OnTyped.TypingRelations.{none_some, same_some, or_false, unbroken_parts, three_unbroken, rule_holds, test_holds, settled_type}
use Rattle.dslx_core.proofs.OnTyping.OnTyped.OfTypes.{one_type, is_struct_of, bits_of_width}
use Rattle.dslx_core.proofs.OnTyping.OnTyped.OfWords.{dyn_slice_lies, slice_lies}
use Rattle.dslx_core.proofs.OnTyping.OnTyped.OfOperators.{bits_declared, unsigned_bits}
use Rattle.dslx_core.proofs.OnTyping.OnTyped.OneName.{fields_declared}
use Rattle.dslx_core.proofs.OnTyping.OnTyped.OfAggregates.{and_then_type, part_of}
use Rattle.dslx_core.proofs.OnTyping.OnTyped.OfCalls.{bits_given, of_its_bits}

-- what two options give
pub with_both_type : {A B C : Type 0} (o : Option A) (p : Option B) (f : A → B → Option C) (c : C) → with_both o p f ≡ Some c → (a : A) × (b : B) × (o ≡ Some a) × (p ≡ Some b) × (f a b ≡ Some c)
with_both_type None p f c e = none_some c e
with_both_type (Some a) None f c e = none_some c e
with_both_type (Some a) (Some b) f c e = (a, b, refl, refl, e)

-- ---- slices

width_of_bits : (t : DslxType) (s : Bool) (w : ℕ) → t ≡ ty.Bits s w → width_of_type t ≡ w
width_of_bits t s w e = subst (λ u. width_of_type u ≡ w) (sym e) (rw (type_views.outs-Bits s w) refl)

-- bounds that are right: the first one is less, and the second one is within the width
pub bounds_within : (t : DslxType) (i j : ℕ) → is_past (Some t) (Some j) ≡ false → bounds_fall (Some i) (Some j) ≡ false → (nat_lt i j && nat_le j (width_of_type t)) ≡ true
bounds_within t i j past fall =
    let less : i < j = leb-false j i fall in
    let most : j ≤ width_of_type t = ltb-false (width_of_type t) j past in
    λ d. (Decides-ltb i j).1 less d && le-leb j (width_of_type t) most d

pub slice_gives : (types : Declarations) (span : Span) (context : TypeEnv) (e a c : ExprPair) (x : Option DslxValue) (m n : Option ℕ)
    → GivesItsType types (alone context e) x → ((k : ℕ) → bound_number (constant_or_untyped context a) ≡ Some k → m ≡ Some k) → ((k : ℕ) → bound_number (constant_or_untyped context c) ≡ Some k → n ≡ Some k)
    → GivesItsType types (slice_typing span context e a c) (and_then x (λ v. with_both m n (slice_value v)))
slice_gives types span context e a c x m n gives first last t h =
    let whole = alone context e in
    let from = constant_or_untyped context a in
    let to = constant_or_untyped context c in
    let parts = (whole.faults ++ from.judgement.faults) ++ to.judgement.faults in
    let s = settled_type (and_then whole.ty (λ t. with_both (bound_number from) (bound_number to) (λ i j. Some (unsigned (j - i))))) (parts ++ slice_faults span whole.ty from to) t h in
    let f = unbroken_parts parts (slice_faults span whole.ty from to) s.0 in
    let q = and_then_type whole.ty (λ t. with_both (bound_number from) (bound_number to) (λ i j. Some (unsigned (j - i)))) t s.1 in
    let b = with_both_type (bound_number from) (bound_number to) (λ i j. Some (unsigned (j - i))) t q.2 in
    let kinds = (unless_type is_bits 18 span whole.ty ++ unless_type is_bits 18 span from.judgement.ty) ++ unless_type is_bits 18 span to.judgement.ty in
    let wrong = (is_wrong_bound whole.ty from || is_wrong_bound whole.ty to) || bounds_fall (bound_number from) (bound_number to) in
    let g = unbroken_parts kinds (breaks_if wrong 18 span) f.1 in
    let k = three_unbroken (unless_type is_bits 18 span whole.ty) (unless_type is_bits 18 span from.judgement.ty) (unless_type is_bits 18 span to.judgement.ty) g.0 in
    let bounds = or_false (is_wrong_bound whole.ty from || is_wrong_bound whole.ty to) (bounds_fall (bound_number from) (bound_number to)) (rule_holds wrong 18 span g.1) in
    let high = or_false (is_negative_bound to) (is_past whole.ty (bound_number to)) (or_false (is_wrong_bound whole.ty from) (is_wrong_bound whole.ty to) bounds.0).1 in
    sliced q.0 b.0 b.1 (gives q.0 q.1) (test_holds (is_bits q.0) 18 span (ap (λ o. has_broken (unless_type is_bits 18 span o)) (sym q.1) ∙ k.0))
    (bounds_within q.0 b.0 b.1 ((λ i. is_past (sym q.1 i) (sym b.3 i)) ∙ high.1) ((λ i. bounds_fall (sym b.2 i) (sym b.3 i)) ∙ bounds.1))
    (first b.0 b.2) (last b.1 b.3) (same_some (unsigned (b.1 - b.0)) t b.4)
  where
    sliced : (w : DslxType) (i j : ℕ) → GivesOf types w x → is_bits w ≡ true → (nat_lt i j && nat_le j (width_of_type w)) ≡ true → m ≡ Some i → n ≡ Some j → unsigned (j - i) ≡ t
        → GivesOf types t (and_then x (λ v. with_both m n (slice_value v)))
    sliced w i j gw bits inside em en own =
        let b = bits_given types w x gw bits in
        let range = ap (λ k. nat_lt i j && nat_le j k) (b.4 ∙ sym (width_of_bits w b.0.signed b.0.width b.2)) ∙ inside in
        let made = value.Bits false (op.slice b.1 i (j - i)) in
        record {
          value = made;
          is = (λ d. and_then x (λ v. with_both (em d) (en d) (slice_value v))) ∙ of_its_bits x (slice_word i j) ∙ ap (λ o. and_then o (slice_word i j)) b.3
              ∙ ap (λ p. where_true p (Some made)) range;
          of = ap (λ u. is_of u made) (sym own) ∙ bits_of_width false (op.slice b.1 i (j - i)) (j - i) refl (slice_lies b.1 i (j - i));
          declared = subst (IsDeclared types) own (bits_declared types false (j - i));
        }

pub part_gives : (types : Declarations) (span : Span) (context : TypeEnv) (e i : ExprPair) (target : Judgement) (x y : Option DslxValue) (u : Option DslxType)
    → GivesItsType types (alone context e) x → GivesItsType types (alone context i) y → ((t : DslxType) → target.ty ≡ Some t → u ≡ Some t)
    → GivesItsType types (part_typing span context e i target) (with_both x y (λ v k. and_then (and_then u bits_in) (λ kind. where_true (not kind.signed) (part_value v k kind.width))))
part_gives types span context e i target x y u gives starts written t h =
    let whole = alone context e in
    let start = alone context i in
    let parts = (whole.faults ++ start.faults) ++ target.faults in
    let kinds = parts ++ unless_type is_bits 18 span whole.ty in
    let s = settled_type (and_then whole.ty (λ t. and_then start.ty (λ u. target.ty)))
    ((kinds ++ unless_type is_unsigned 18 span start.ty) ++ unless_type is_unsigned 18 span target.ty) t h in
    let f = three_unbroken kinds (unless_type is_unsigned 18 span start.ty) (unless_type is_unsigned 18 span target.ty) s.0 in
    let g = unbroken_parts parts (unless_type is_bits 18 span whole.ty) f.0 in
    let q = and_then_type whole.ty (λ t. and_then start.ty (λ u. target.ty)) t s.1 in
    let r = and_then_type start.ty (λ u. target.ty) t q.2 in
    taken q.0 r.0 (gives q.0 q.1) (starts r.0 r.1)
    (test_holds (is_bits q.0) 18 span (ap (λ o. has_broken (unless_type is_bits 18 span o)) (sym q.1) ∙ g.1))
    (test_holds (is_unsigned r.0) 18 span (ap (λ o. has_broken (unless_type is_unsigned 18 span o)) (sym r.1) ∙ f.1))
    (test_holds (is_unsigned t) 18 span (ap (λ o. has_broken (unless_type is_unsigned 18 span o)) (sym r.2) ∙ f.2))
    (written t r.2)
  where
    unsigned_kind : (k : BitKind) → is_unsigned_kind (Some k) ≡ true → k.signed ≡ false
    unsigned_kind k e = by_sign k.signed e
      where
        by_sign : (s : Bool) → not s ≡ true → s ≡ false
        by_sign true h = absurd (true≢false (sym h))
        by_sign false h = refl

    taken : (w k : DslxType) → GivesOf types w x → GivesOf types k y → is_bits w ≡ true → is_unsigned k ≡ true → is_unsigned t ≡ true → u ≡ Some t
        → GivesOf types t (with_both x y (λ v k. and_then (and_then u bits_in) (λ kind. where_true (not kind.signed) (part_value v k kind.width))))
    taken w k gw gk bits start own is =
        let b = bits_given types w x gw bits in
        let n = is_unsigned_value gk.value (ap is_unsigned (one_type k gk.value gk.of) ∙ start) in
        let d = is_bits_type t (unsigned_bits t own) in
        let sign = unsigned_kind d.0 (ap is_unsigned_kind (sym d.2) ∙ own) in
        let made = value.Bits false (op.dyn_slice b.1 n.0.word d.0.width) in
        let bits_there = sym (ap (λ o. and_then o bits_of) gw.is) ∙ b.3 in
        record {
          value = made;
          is = (λ j. with_both (gw.is j) (gk.is j) (λ v k. and_then (and_then (is j) bits_in) (λ kind. where_true (not kind.signed) (part_value v k kind.width))))
              ∙ ap (λ o. and_then o (λ kind. where_true (not kind.signed) (part_value gw.value gk.value kind.width))) d.2
              ∙ ap (λ s. where_true (not s) (part_value gw.value gk.value d.0.width)) sign
              ∙ (λ j. with_both (bits_there j) (amount_in (n.1.0 j)) (λ x k. Some (value.Bits false (op.dyn_slice x.word k d.0.width))))
              ∙ ap (λ s. with_both (Some (record { signed = b.0.signed; word = b.1 })) (if s then None else (Some n.0.word)) (λ (x : SignedWord) (k : Word). Some (value.Bits false (op.dyn_slice x.word k d.0.width)))) n.2;
          of = ap (λ v. is_of v made) (d.1 ∙ ap (λ s. ty.Bits s d.0.width) sign) ∙ bits_of_width false (op.dyn_slice b.1 n.0.word d.0.width) d.0.width refl (dyn_slice_lies b.1 n.0.word d.0.width);
          declared = subst (IsDeclared types) (sym d.1) (bits_declared types d.0.signed d.0.width);
        }

-- ---- fields

-- a type that has this field is a struct
struct_with_field : (whole t : DslxType) (name : List ℕ) → field_type (Some whole) name ≡ Some t
    → (own : List ℕ) × (fields : List (List ℕ)) × (ts : List DslxType) × (whole ≡ ty.Struct own fields ts) × (beside name fields ts ≡ Some t)
struct_with_field whole t name e = by_level (out-DslxType whole) refl e
  where
    by_level : (l : DslxType-F DslxType) → out-DslxType whole ≡ l → struct_field_type l name ≡ Some t
        → (own : List ℕ) × (fields : List (List ℕ)) × (ts : List DslxType) × (whole ≡ ty.Struct own fields ts) × (beside name fields ts ≡ Some t)
    by_level (DslxType-F.Struct own fields ts) q h = (own, fields, ts, sym (type_views.roll-out-DslxType whole) ∙ ap type_views.roll-DslxType q ∙ type_views.rolls-Struct own fields ts, h)
    by_level (DslxType-F.Bits s w) q h = none_some t h
    by_level (DslxType-F.Tuple us) q h = none_some t h
    by_level (DslxType-F.Array u n) q h = none_some t h
    by_level (DslxType-F.Enum own s w) q h = none_some t h
    by_level DslxType-F.Token q h = none_some t h

-- what stands beside a name in the values, where its type stands beside it
pub beside_given : (types : Declarations) (fields : List (List ℕ)) (ts : List DslxType) (vs : List DslxValue) (name : List ℕ) (t : DslxType) → each_of (map is_of ts) vs ≡ true → AllDeclared types ts
    → beside name fields ts ≡ Some t → GivesOf types t (beside name fields vs)
beside_given types fields ts vs name t of d e =
    let q = and_then_type (index_in name fields) (λ k. slice_get ts k) t e in
    let g = part_of types ts vs q.0 t of d q.2 in
    record { value = g.value; is = ap (λ o. and_then o (λ k. slice_get vs k)) q.1 ∙ g.is; of = g.of; declared = g.declared }

pub field_gives : (types : Declarations) → DeclaresParts types → (span : Span) (context : TypeEnv) (e : ExprPair) (name : Ident) (x : Option DslxValue)
    → GivesItsType types (alone context e) x → GivesItsType types (field_part_typing span context e name) (and_then x (λ v. field_of v name.name))
field_gives types parts span context e name x gives t h =
    let whole = alone context e in
    let s = settled_type (field_type whole.ty name.name) (whole.faults ++ unless_type (λ t. is_there (field_type (Some t) name.name)) 19 span whole.ty) t h in
    by_type whole.ty refl s.1
  where
    of_struct_value : (w : DslxType) → GivesOf types w x → field_type (Some w) name.name ≡ Some t → GivesOf types t (and_then x (λ v. field_of v name.name))
    of_struct_value w g k =
        let q = struct_with_field w t name.name k in
        let r = is_struct_of q.0 q.1 q.2 g.value (ap (λ u. is_of u g.value) (sym q.3) ∙ g.of) in
        let b = beside_given types q.1 q.2 r.0 name.name t r.2 (fields_declared types parts q.0 q.1 q.2 (subst (IsDeclared types) q.3 g.declared)) q.4 in
        record {
          value = b.value;
          is = ap (λ o. and_then o (λ v. field_of v name.name)) g.is ∙ ap (λ l. and_then (fields_step l) (λ s. beside name.name s.names s.values)) r.1 ∙ b.is;
          of = b.of;
          declared = b.declared;
        }

    by_type : (o : Option DslxType) → (alone context e).ty ≡ o → field_type o name.name ≡ Some t → GivesOf types t (and_then x (λ v. field_of v name.name))
    by_type None q k = none_some t k
    by_type (Some w) q k = of_struct_value w (gives w q) k
