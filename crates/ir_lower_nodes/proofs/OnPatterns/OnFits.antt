-- Bits that say whether values fit.
use Rattle.std.proofs.Common.{◌≡◌, ℕ, suc, ◌+◌, ◌^◌, ◌<◌, ◌≤◌, Bool, true, false, ◌&&◌, List, ◌∷◌, map, length, get_or, drop, Some, IsTrue, refl, sym, ap, ap₂, subst, ◌∙◌, arith, []}
use Rattle.std.specs.Prelude.{slice_get, ◌||◌}
use Rattle.xb_bits.specs.Word.{word}
use Rattle.xb_value.specs.declared.ty.Ty.{Ty}
use Rattle.xb_value.specs.declared.ty.Ty as ty
use Rattle.xb_value.specs.declared.value.Value.{Value}
use Rattle.xb_value.specs.declared.value.Value as value
use Rattle.xb_value.specs.Typing.{IsOfType}
use Rattle.delay_model.specs.declared.op.Binary.{Binary}
use Rattle.delay_model.specs.declared.op.Binary.TheVariants as binary
use Rattle.ir_tree.specs.declared.ir_type.IrType.{IrType, Bits, Tuple}
use Rattle.ir_tree.specs.declared.node.Operand.{Operand}
use Rattle.ir_tree.specs.NodeValues.{operand_value}
use Rattle.ir_tree.specs.Operations.{binary_word, bit, on_tuple, element_at}
use Rattle.ir_tree.proofs.Lemmas.Rules.Typed.Scopes.{on_words-Bits}
use Rattle.ir_rebuild.specs.Built.{AreValues}
use Rattle.ir_rebuild.specs.declared.putting.nodes.Nodes.{Nodes}
use Rattle.ir_rebuild.specs.Putting.Types.{ir_type_of}
use Rattle.ir_rebuild.specs.Putting.Words.{words_by}
use Rattle.ir_rebuild.specs.Putting.Given.{IsBuilt, HasType, GivesValue}
use Rattle.ir_rebuild.specs.Putting.Tests.{GivesTest}
use Rattle.ir_rebuild.proofs.Lemmas.Putting.{grows_twice, values_earlier, has_later, gives_as}
use Rattle.dslx_meaning.specs.Lists.{and_then}
use Rattle.dslx_core.specs.declared.expr.Shape.{Shape}
use Rattle.dslx_core.specs.declared.expr.Shape as shape
use Rattle.dslx_core.specs.CoreValues.{is_like}
use Rattle.dslx_core.specs.Types.Typing.{BindsTypes, binds_types, binds_each, if_alike, value_type, parts_of_tuple}
use Rattle.dslx_core.proofs.Lemmas.Types.{IsThen, then_is, if_alike_is, value_typed, like_is, like_itself, tuple_type, binds_equal, binds_tuple}
use Rattle.ir_lower_nodes.specs.Patterns.Shapes.{each_fit, tuple_fit, fits_shape, any_fit, parts_in}
use Rattle.ir_lower_nodes.specs.Patterns.Given.{AreCompared, bit_by}
use Rattle.ir_lower_nodes.proofs.OnPatterns.OnShapes.{fits_wild, fits_bound, fits_equal, fits_tuple}
use Rattle.ir_lower_nodes.proofs.OnPatterns.OnParts.{typed_value, drop_none, drop_at, drop_end, head_is, none_left, part_at, tuple_here, element_put}

-- what is put says whether the value fits
abbrev pub FitsTo : Shape → Operand → Nodes → Nodes → Operand → Type 0
FitsTo shape a old new o = (t : Ty) (ts us : List Ty) → IsBuilt old → HasType old a (ir_type_of t) → binds_types false shape t ts ≡ Some us → GivesValue old new o (Bits 1 []) (bit_by (λ s values. fits_shape shape (operand_value s values a)))

abbrev pub EachFitsTo : List Shape → Operand → Nodes → Nodes → Operand → Type 0
EachFitsTo shapes tuple old new o = (ss ts us : List Ty) → IsBuilt old → HasType old tuple (ir_type_of (ty.Tuple ss)) → binds_each (map (binds_types false) shapes) ss ts ≡ Some us → GivesValue old new o (Bits 1 []) (bit_by (λ s values. each_fit (map fits_shape shapes) (parts_in (operand_value s values tuple))))

-- ---- two bits

and_bits : (p q : Bool) → binary_word binary.And (bit p) (bit q) ≡ bit (p && q)
and_bits true true = refl
and_bits true false = refl
and_bits false true = refl
and_bits false false = refl

or_bits : (p q : Bool) → binary_word binary.Or (bit p) (bit q) ≡ bit (p || q)
or_bits true true = refl
or_bits true false = refl
or_bits false true = refl
or_bits false false = refl

joined : (k : Binary) (m : Bool → Bool → Bool) → ((p q : Bool) → binary_word k (bit p) (bit q) ≡ bit (m p q)) → (s0 s1 s2 s3 : Nodes) (a b o : Operand) (f g h : Value → List Value → Bool)
    → GivesValue s0 s1 a (Bits 1 []) (bit_by f) → GivesValue s1 s2 b (Bits 1 []) (bit_by g)
    → ((w : ℕ) → IsBuilt s2 → HasType s2 a (Bits w []) → HasType s2 b (Bits w []) → GivesValue s2 s3 o (Bits w []) (words_by (binary_word k) a b))
    → ((s : Value) (values : List Value) → AreValues s0.state s0.list.items s values → m (f s values) (g s values) ≡ h s values)
    → GivesValue s0 s3 o (Bits 1 []) (bit_by h)
joined k m bits s0 s1 s2 s3 a b o f g h first second call e = record {
  grows = grows_twice s0 s2 s3 (grows_twice s0 s1 s2 first.grows second.grows) third.grows;
  has = third.has;
  value = λ s values v.
      let v2 = values_earlier s2 s3 third.grows s values v in
      let v1 = values_earlier s1 s2 second.grows s values v2 in
      let v0 = values_earlier s0 s1 first.grows s values v1 in
      third.value s values v
      ∙ (on_words-Bits (λ x y. value.Bits (binary_word k x y)) (operand_value s values a) (operand_value s values b) (bit (f s values)) (bit (g s values)) (first.value s values v1) (second.value s values v2)
      ∙ ap value.Bits (bits (f s values) (g s values) ∙ ap bit (e s values v0)));
}
  where
    third : GivesValue s2 s3 o (Bits 1 []) (words_by (binary_word k) a b)
    third = call 1 second.grows.built (has_later s1 s2 a (Bits 1 []) second.grows first.has) second.has

-- a bit that is written out
written_bit : (old new : Nodes) (o : Operand) (n : ℕ) (b : Bool) (f : Value → List Value → Bool) → word 1 n ≡ bit b → n < 2 ^ 1
    → (IsBuilt old → 1 ≤ 1 → 1 ≤ 128 → n < 2 ^ 1 → GivesValue old new o (Bits 1 []) (λ s values. value.Bits (word 1 n)))
    → IsBuilt old → ((s : Value) (values : List Value) → AreValues old.state old.list.items s values → f s values ≡ b) → GivesValue old new o (Bits 1 []) (bit_by f)
written_bit old new o n b f is less call built e =
    gives_as old new o (Bits 1 []) (λ s values. value.Bits (word 1 n)) (bit_by f) (λ s values v. ap value.Bits (is ∙ ap bit (sym (e s values v)))) (call built (omega arith) (omega arith) less)

-- ---- each kind of pattern

abbrev pub OneCall : Nodes → Nodes → Operand → ℕ → Type 0
OneCall old new o n = IsBuilt old → 1 ≤ 1 → 1 ≤ 128 → n < 2 ^ 1 → GivesValue old new o (Bits 1 []) (λ s values. value.Bits (word 1 n))

pub wild_fits : (old new : Nodes) (a o : Operand) (p : Shape) → p ≡ shape.Wild → OneCall old new o 1 → FitsTo p a old new o
wild_fits old new a o p is call t ts us built h e = written_bit old new o 1 true (λ s values. fits_shape p (operand_value s values a)) refl (omega arith) call built (λ s values v. ap (λ q. fits_shape q (operand_value s values a)) is ∙ ap (λ (f : Value → Bool). f (operand_value s values a)) fits_wild)

pub bound_fits : (old new : Nodes) (a o : Operand) (p : Shape) → p ≡ shape.Bound → OneCall old new o 1 → FitsTo p a old new o
bound_fits old new a o p is call t ts us built h e = written_bit old new o 1 true (λ s values. fits_shape p (operand_value s values a)) refl (omega arith) call built (λ s values v. ap (λ q. fits_shape q (operand_value s values a)) is ∙ ap (λ (f : Value → Bool). f (operand_value s values a)) fits_bound)

same_tests : (a b : Bool) → (IsTrue a → IsTrue b) → (IsTrue b → IsTrue a) → a ≡ b
same_tests true true to from = refl
same_tests true false to from = sym (to refl)
same_tests false true to from = from refl
same_tests false false to from = refl

pub equal_fits : (old new : Nodes) (a o : Operand) (p : Shape) (w : Value) → p ≡ shape.Equal w
    → ((t : Ty) → IsBuilt old → HasType old a (ir_type_of t) → IsOfType t w → GivesTest old new o (λ s values. operand_value s values a ≡ w)) → FitsTo p a old new o
equal_fits old new a o p w is call t ts us built h e = record {
  grows = test.grows;
  has = test.has;
  value = λ s values v.
      let own = test.says s values v in
      let x = operand_value s values a in
      own.is ∙ ap (λ b. value.Bits (bit b))
      (same_tests own.test (is_like w x) (λ k. ap (is_like w) (own.holds.0 k) ∙ like_itself w) (λ k. own.holds.1 (sym (like_is w x k)))
      ∙ sym (ap (λ q. fits_shape q x) is ∙ ap (λ (f : Value → Bool). f x) (fits_equal w)));
}
  where
    found : and_then (if_alike t (value_type w)) (λ s. Some ts) ≡ Some us
    found = sym (ap (λ q. binds_types false q t ts) is ∙ ap (λ (f : BindsTypes). f t ts) (binds_equal false w)) ∙ e

    alike : (s : Ty) × (t ≡ s) × (value_type w ≡ Some s)
    alike = let one = then_is (if_alike t (value_type w)) (λ s. Some ts) us found in let same = if_alike_is t one.first (value_type w) one.is in (one.first, same.0, same.1)

    test : GivesTest old new o (λ s values. operand_value s values a ≡ w)
    test = call t built h (value_typed w t (alike.2 ∙ ap Some (sym alike.1)))

pub tuple_fits : (old new : Nodes) (a o : Operand) (p : Shape) (shapes : List Shape) → p ≡ shape.Tuple shapes → EachFitsTo shapes a old new o → FitsTo p a old new o
tuple_fits old new a o p shapes is call t ts us built h e =
    gives_as old new o (Bits 1 []) (bit_by (λ s values. each_fit (map fits_shape shapes) (parts_in (operand_value s values a)))) (bit_by (λ s values. fits_shape p (operand_value s values a)))
    (λ s values v.
    let x = operand_value s values a in
    let f = tuple_here found.first x (typed_value old a (ty.Tuple found.first) own s values v) in
    ap (λ b. value.Bits (bit b))
    (ap (λ vs. each_fit (map fits_shape shapes) vs) f.in_it
    ∙ (sym (ap (tuple_fit (map fits_shape shapes)) f.there)
    ∙ sym (ap (λ q. fits_shape q x) is ∙ ap (λ (g : Value → Bool). g x) (fits_tuple shapes)))))
    (call found.first ts us built own found.gives)
  where
    found : IsThen (parts_of_tuple t) (λ ss. binds_each (map (binds_types false) shapes) ss ts) us
    found = then_is (parts_of_tuple t) (λ ss. binds_each (map (binds_types false) shapes) ss ts) us (sym (ap (λ q. binds_types false q t ts) is ∙ ap (λ (f : BindsTypes). f t ts) (binds_tuple false shapes)) ∙ e)

    own : HasType old a (ir_type_of (ty.Tuple found.first))
    own = subst (λ u. HasType old a (ir_type_of u)) (tuple_type t found.first found.is) h

-- ---- parts, one after the other

none_there : (xs ts us : List Ty) → binds_each [] xs ts ≡ Some us → xs ≡ []
none_there [] ts us e = refl
none_there (x ∷ xs) ts us e = absurd (cc)

-- some parts fit: those that are left decide whether all do
pub record FitsRest (shapes : List Shape) (tuple : Operand) (i : ℕ) (old new : Nodes) (o : Operand) (ss us : List Ty) : Type 0 where
  pub bound : List Ty
  pub rest : binds_each (map (binds_types false) (drop i shapes)) (drop i ss) bound ≡ Some us
  pub test : Value → List Value → Bool
  pub gives : GivesValue old new o (Bits 1 []) (bit_by test)
  pub all : (s : Value) (values : List Value) → AreValues old.state old.list.items s values → (test s values && each_fit (map fits_shape (drop i shapes)) (drop i (parts_in (operand_value s values tuple)))) ≡ each_fit (map fits_shape shapes) (parts_in (operand_value s values tuple))

abbrev pub FitsSo : List Shape → Operand → ℕ → Nodes → Nodes → Operand → Type 0
FitsSo shapes tuple i old new o = (ss ts us : List Ty) → IsBuilt old → HasType old tuple (ir_type_of (ty.Tuple ss)) → binds_each (map (binds_types false) shapes) ss ts ≡ Some us → FitsRest shapes tuple i old new o ss us

pub fits_first : (old new : Nodes) (tuple o : Operand) (shapes : List Shape) → OneCall old new o 1 → FitsSo shapes tuple 0 old new o
fits_first old new tuple o shapes call ss ts us built h e = record {
  bound = ts;
  rest = ap₂ (λ ps xs. binds_each (map (binds_types false) ps) xs ts) (drop_none shapes) (drop_none ss) ∙ e;
  test = λ s values. true;
  gives = written_bit old new o 1 true (λ s values. true) refl (omega arith) call built (λ s values v. refl);
  all = λ s values v. ap₂ (λ ps vs. each_fit (map fits_shape ps) vs) (drop_none shapes) (drop_none (parts_in (operand_value s values tuple)));
}

and_twice : (a b c : Bool) → ((a && b) && c) ≡ (a && (b && c))
and_twice true b c = refl
and_twice false b c = refl

pub fits_step : (s0 s1 s2 s3 s4 : Nodes) (tuple fit part one o : Operand) (i : ℕ) (p : Shape) (shapes : List Shape) → i < length shapes → p ≡ get_or shapes i p → FitsSo shapes tuple i s0 s1 fit
    → ((us : List IrType) (u : IrType) → IsBuilt s1 → HasType s1 tuple (Tuple us []) → slice_get us i ≡ Some u → GivesValue s1 s2 part u (λ s values. on_tuple (element_at i) (operand_value s values tuple)))
    → FitsTo p part s2 s3 one
    → ((w : ℕ) → IsBuilt s3 → HasType s3 fit (Bits w []) → HasType s3 one (Bits w []) → GivesValue s3 s4 o (Bits w []) (words_by (binary_word binary.And) fit one))
    → FitsSo shapes tuple (i + 1) s0 s4 o
fits_step s0 s1 s2 s3 s4 tuple fit part one o i p shapes less is before element next last ss ts us built h e = by (drop i ss) refl (subst (λ ps. binds_each (map (binds_types false) ps) (drop i ss) sofar.bound ≡ Some us) here sofar.rest)
  where
    sofar : FitsRest shapes tuple i s0 s1 fit ss us
    sofar = before ss ts us built h e

    here : drop i shapes ≡ p ∷ drop (suc i) shapes
    here = drop_at shapes i p less is

    step : i + 1 ≡ suc i
    step = omega arith

    by : (xs : List Ty) → drop i ss ≡ xs → binds_each (map (binds_types false) (p ∷ drop (suc i) shapes)) xs sofar.bound ≡ Some us → FitsRest shapes tuple (i + 1) s0 s4 o ss us
    by [] q k = absurd (cc)
    by (t ∷ xs) q k =
        let head = head_is ss i t xs q in
        let found = then_is (binds_types false p t sofar.bound) (binds_each (map (binds_types false) (drop (suc i) shapes)) xs) us k in
        let there = has_later s0 s1 tuple (ir_type_of (ty.Tuple ss)) sofar.gives.grows h in
        let a = element_put s1 s2 tuple part i element ss t sofar.gives.grows.built there head.here in
        let b = next t sofar.bound found.first a.grows.built a.has found.is in
        let start : GivesValue s1 s3 one (Bits 1 []) (bit_by (λ s values. fits_shape p (on_tuple (element_at i) (operand_value s values tuple)))) = record {
          grows = grows_twice s1 s2 s3 a.grows b.grows;
          has = b.has;
          value = λ s values v. b.value s values v ∙ ap (λ x. value.Bits (bit (fits_shape p x))) (a.value s values (values_earlier s2 s3 b.grows s values v));
        } in
        record {
          bound = found.first;
          rest = ap₂ (λ ps ys. binds_each (map (binds_types false) ps) ys found.first) (ap (λ n. drop n shapes) step) (ap (λ n. drop n ss) step ∙ head.later) ∙ found.gives;
          test = λ s values. sofar.test s values && fits_shape p (on_tuple (element_at i) (operand_value s values tuple));
          gives = joined binary.And (λ x y. x && y) and_bits s0 s1 s3 s4 fit one o sofar.test (λ s values. fits_shape p (on_tuple (element_at i) (operand_value s values tuple))) (λ s values. sofar.test s values && fits_shape p (on_tuple (element_at i) (operand_value s values tuple))) sofar.gives start last (λ s values v. refl);
          all = λ s values v.
              let x = operand_value s values tuple in
              let at = part_at ss i t xs x (typed_value s0 tuple (ty.Tuple ss) h s values v) q in
              and_twice (sofar.test s values) (fits_shape p (on_tuple (element_at i) x)) (each_fit (map fits_shape (drop (i + 1) shapes)) (drop (i + 1) (parts_in x)))
              ∙ (ap (λ b. sofar.test s values && b)
              (ap₂ (λ y ys. fits_shape p y && each_fit (map fits_shape (drop (i + 1) shapes)) ys) at.is (ap (λ n. drop n (parts_in x)) step ∙ at.later)
              ∙ (ap (λ ps. fits_shape p at.part && each_fit (map fits_shape ps) at.rest) (ap (λ n. drop n shapes) step)
              ∙ sym (ap₂ (λ ps ys. each_fit (map fits_shape ps) ys) here at.here)))
              ∙ sofar.all s values v);
        }

pub fits_last : (old new : Nodes) (tuple o : Operand) (i : ℕ) (shapes : List Shape) → length shapes ≤ i → FitsSo shapes tuple i old new o → EachFitsTo shapes tuple old new o
fits_last old new tuple o i shapes done so ss ts us built h e =
    gives_as old new o (Bits 1 []) (bit_by all.test) (bit_by (λ s values. each_fit (map fits_shape shapes) (parts_in (operand_value s values tuple))))
    (λ s values v. ap (λ b. value.Bits (bit b)) (and_so (all.test s values) (each_fit (map fits_shape (drop i shapes)) (drop i (parts_in (operand_value s values tuple)))) (last s values v) ∙ all.all s values v))
    all.gives
  where
    all : FitsRest shapes tuple i old new o ss us
    all = so ss ts us built h e

    ended : drop i shapes ≡ []
    ended = drop_end shapes i done

    and_so : (a b : Bool) → b ≡ true → a ≡ (a && b)
    and_so true b k = sym k
    and_so false b k = refl

    last : (s : Value) (values : List Value) → AreValues old.state old.list.items s values → each_fit (map fits_shape (drop i shapes)) (drop i (parts_in (operand_value s values tuple))) ≡ true
    last s values v =
        ap₂ (λ ps vs. each_fit (map fits_shape ps) vs) ended
        (none_left ss i (operand_value s values tuple) (typed_value old tuple (ty.Tuple ss) h s values v) (none_there (drop i ss) all.bound us (sym (ap (λ ps. binds_each (map (binds_types false) ps) (drop i ss) all.bound) ended) ∙ all.rest)))

-- ---- alternatives

abbrev pub AnyFitsTo : List Shape → Operand → Nodes → Nodes → Operand → Type 0
AnyFitsTo shapes a old new o = (t : Ty) → IsBuilt old → HasType old a (ir_type_of t) → AreCompared shapes t → GivesValue old new o (Bits 1 []) (bit_by (λ s values. any_fit shapes (operand_value s values a)))

or_false : (b : Bool) → b ≡ (b || false)
or_false true = refl
or_false false = refl

pub any_fits_one : (old new : Nodes) (a o : Operand) (p : Shape) (shapes : List Shape) → shapes ≡ p ∷ [] → FitsTo p a old new o → AnyFitsTo shapes a old new o
any_fits_one old new a o p shapes is call =
    subst (λ xs. AnyFitsTo xs a old new o) (sym is)
    (λ t built h k.
    gives_as old new o (Bits 1 []) (bit_by (λ s values. fits_shape p (operand_value s values a))) (bit_by (λ s values. any_fit (p ∷ []) (operand_value s values a)))
    (λ s values v. ap (λ b. value.Bits (bit b)) (or_false (fits_shape p (operand_value s values a))))
    (call t k.0.0 k.0.1 built h k.0.2))

-- one of the first patterns fits, or else one of those that are left decides
pub record AnyRest (shapes : List Shape) (a : Operand) (i : ℕ) (old new : Nodes) (o : Operand) (t : Ty) : Type 0 where
  pub compared : AreCompared (drop i shapes) t
  pub test : Value → List Value → Bool
  pub gives : GivesValue old new o (Bits 1 []) (bit_by test)
  pub all : (s : Value) (values : List Value) → (test s values || any_fit (drop i shapes) (operand_value s values a)) ≡ any_fit shapes (operand_value s values a)

abbrev pub AnySo : List Shape → Operand → ℕ → Nodes → Nodes → Operand → Type 0
AnySo shapes a i old new o = (t : Ty) → IsBuilt old → HasType old a (ir_type_of t) → AreCompared shapes t → AnyRest shapes a i old new o t

pub any_start : (old new : Nodes) (a o : Operand) (shapes : List Shape) → OneCall old new o 0 → AnySo shapes a 0 old new o
any_start old new a o shapes call t built h k = record {
  compared = subst (λ ps. AreCompared ps t) (sym (drop_none shapes)) k;
  test = λ s values. false;
  gives = written_bit old new o 0 false (λ s values. false) refl (omega arith) call built (λ s values v. refl);
  all = λ s values. ap (λ ps. any_fit ps (operand_value s values a)) (drop_none shapes);
}

or_twice : (a b c : Bool) → ((a || b) || c) ≡ (a || (b || c))
or_twice true b c = refl
or_twice false b c = refl

pub any_step : (s0 s1 s2 s3 : Nodes) (a fit one o : Operand) (i : ℕ) (p : Shape) (shapes : List Shape) → i < length shapes → p ≡ get_or shapes i p → AnySo shapes a i s0 s1 fit → FitsTo p a s1 s2 one
    → ((w : ℕ) → IsBuilt s2 → HasType s2 fit (Bits w []) → HasType s2 one (Bits w []) → GivesValue s2 s3 o (Bits w []) (words_by (binary_word binary.Or) fit one))
    → AnySo shapes a (i + 1) s0 s3 o
any_step s0 s1 s2 s3 a fit one o i p shapes less is before next last t built h k =
    let sofar = before t built h k in
    let step : i + 1 ≡ suc i = omega arith in
    let here = drop_at shapes i p less is in
    let own = subst (λ ps. AreCompared ps t) here sofar.compared in
    let b = next t own.0.0 own.0.1 sofar.gives.grows.built (has_later s0 s1 a (ir_type_of t) sofar.gives.grows h) own.0.2 in
    record {
      compared = subst (λ n. AreCompared (drop n shapes) t) (sym step) own.1;
      test = λ s values. sofar.test s values || fits_shape p (operand_value s values a);
      gives = joined binary.Or (λ x y. x || y) or_bits s0 s1 s2 s3 fit one o sofar.test (λ s values. fits_shape p (operand_value s values a)) (λ s values. sofar.test s values || fits_shape p (operand_value s values a)) sofar.gives b last (λ s values v. refl);
      all = λ s values.
          let x = operand_value s values a in
          or_twice (sofar.test s values) (fits_shape p x) (any_fit (drop (i + 1) shapes) x)
          ∙ (ap (λ c. sofar.test s values || c) (ap (λ n. fits_shape p x || any_fit (drop n shapes) x) step ∙ sym (ap (λ ps. any_fit ps x) here)) ∙ sofar.all s values);
    }

pub any_last : (old new : Nodes) (a o : Operand) (i : ℕ) (shapes : List Shape) → length shapes ≤ i → AnySo shapes a i old new o → AnyFitsTo shapes a old new o
any_last old new a o i shapes done so t built h k =
    let all = so t built h k in
    gives_as old new o (Bits 1 []) (bit_by all.test) (bit_by (λ s values. any_fit shapes (operand_value s values a)))
    (λ s values v. ap (λ b. value.Bits (bit b)) (or_false (all.test s values) ∙ (ap (λ ps. all.test s values || any_fit ps (operand_value s values a)) (sym (drop_end shapes i done)) ∙ all.all s values)))
    all.gives
