-- Expressions of words, slots and literals.
use Rattle.std.proofs.Common.{◌≡◌, ℕ, zero, suc, ◌+◌, ◌≤◌, ◌<◌, true, ◌&&◌, List, ◌∷◌, map, get_or, Option, Some, refl, sym, ap, ap₂, subst, ◌∙◌, arith, []}
use Rattle.std.specs.Prelude.{slice_get, nat_lt, nat_le}
use Rattle.std.proofs.lemmas.Bool.Decides.{nat_tests}
use Rattle.xb_bits.specs.Word.{Word}
use Rattle.xb_bits.specs.Operations as op
use Rattle.xb_value.specs.declared.ty.Ty.{Ty}
use Rattle.xb_value.specs.declared.ty.Ty as ty
use Rattle.xb_value.specs.declared.value.Value.{Value}
use Rattle.xb_value.specs.declared.value.Value as value
use Rattle.ir_tree.specs.declared.ir_type.IrType.{Bits}
use Rattle.ir_tree.specs.declared.node.Operand.{Operand}
use Rattle.ir_tree.specs.declared.node.Operand.TheVariants as operand
use Rattle.ir_tree.specs.NodeValues.{operand_value}
use Rattle.ir_rebuild.specs.Built.{AreValues}
use Rattle.ir_rebuild.specs.declared.putting.nodes.Nodes.{Nodes}
use Rattle.ir_rebuild.specs.Putting.Types.{ir_type_of}
use Rattle.ir_rebuild.specs.Putting.Words.{word_by, words_by}
use Rattle.ir_rebuild.specs.Putting.Given.{IsNodeType, IsBuilt, HasType, OperandsHaveTypes, GrowsTo, GivesValue}
use Rattle.ir_rebuild.proofs.Lemmas.Putting.{grows_none, grows_twice, values_earlier, has_later, have_later}
use Rattle.ir_rebuild.proofs.Lemmas.Putting.Types.{type-Bits}
use Rattle.dslx_meaning.specs.Lists.{and_then, with_both, where_true}
use Rattle.dslx_meaning.specs.Operators.{cast_word}
use Rattle.dslx_core.specs.declared.expr.Sign.{Sign}
use Rattle.dslx_core.specs.declared.expr.CoreUnary.{CoreUnary}
use Rattle.dslx_core.specs.declared.expr.CoreBinary.{CoreBinary}
use Rattle.dslx_core.specs.declared.expr.CoreExpr.TheOpen.{CoreExpr-F}
use Rattle.dslx_core.specs.CoreValues.{Functions, CoreDen, word_of_value, word_in, unary_word, binary_words, is_signed_read, is_width, core_step}
use Rattle.dslx_core.specs.Types.Typing.{FunctionTypes, Typing, bits_width, width_in, unary_type, binary_type, value_type}
use Rattle.dslx_core.proofs.Lemmas.Types.{then_is, where_so, bits_type}
use Rattle.ir_lower_nodes.specs.Words.Given.{MayRead, LoweredTo, word_read, words_read}
use Rattle.ir_lower_nodes.proofs.Lemmas.Words.{from_word, from_words, number_type}
use Rattle.ir_lower_nodes.specs.Exprs.NodeTypes.{node_step}
use Rattle.ir_lower_nodes.specs.Exprs.Lowered.{slot_or_state, bound_by, LowersBy}
use Rattle.ir_lower_nodes.proofs.OnExprs.OnOptions.{some_same, both, and_both, where_is, both_are}
use Rattle.ir_lower_nodes.proofs.OnExprs.OnLayers.{limited}

-- a number of so many bits
pub record NumberLowered (calls : Functions) (slots : List Operand) (d : CoreDen) (old new : Nodes) (a : Operand) (w : ℕ) : Type 0 where
  pub grows : GrowsTo old new
  pub has : HasType new a (Bits w [])
  pub some : 1 ≤ w
  pub most : w ≤ 128
  pub value : (s : Value) (values : List Value) → AreValues new.state new.list.items s values → d calls (bound_by slots s values) ≡ Some (operand_value s values a)

pub typed_as : (old new : Nodes) (o : Operand) (s t : Ty) (f : MayRead) → s ≡ t → LoweredTo old new o s f → LoweredTo old new o t f
typed_as old new o s t f e h = subst (λ u. LoweredTo old new o u f) e h

module _ (functions : FunctionTypes) (calls : Functions) (slots : List Operand) where
  pub number_by : (q : Typing) (d : CoreDen) (old new : Nodes) (a : Operand) (types : List Ty) (w : ℕ) → LowersBy functions calls q d slots old new a → IsBuilt old → OperandsHaveTypes old slots (map ir_type_of types) → width_in q functions types ≡ Some w → NumberLowered calls slots d old new a w
  number_by q d old new a types w lowers built have h =
      let found = then_is (q functions types) bits_width w h in
      let bits = bits_type found.first w found.gives in
      let one = lowers types found.first built have found.is in
      record { grows = one.grows; has = number_type new a found.first w bits.is one.has; some = bits.some; most = bits.most; value = one.value }

  pub word_chain : (d : CoreDen) (s0 s1 s2 : Nodes) (a o : Operand) (w : ℕ) (t : Ty) (f : Word → Option Value) → NumberLowered calls slots d s0 s1 a w → LoweredTo s1 s2 o t (word_read f a) → LoweredTo s0 s2 o t (λ s values. and_then (word_in d calls (bound_by slots s values)) f)
  word_chain d s0 s1 s2 a o w t f first last = record {
    grows = grows_twice s0 s1 s2 first.grows last.grows;
    has = last.has;
    value = λ s values v. ap (λ p. and_then (and_then p word_of_value) f) (first.value s values (values_earlier s1 s2 last.grows s values v)) ∙ last.value s values v;
  }

  pub words_chain : (d e : CoreDen) (s0 s1 s2 s3 : Nodes) (a b o : Operand) (v w : ℕ) (t : Ty) (f : Word → Word → Option Value) → NumberLowered calls slots d s0 s1 a v → NumberLowered calls slots e s1 s2 b w → LoweredTo s2 s3 o t (words_read f a b)
      → LoweredTo s0 s3 o t (λ s values. with_both (word_in d calls (bound_by slots s values)) (word_in e calls (bound_by slots s values)) f)
  words_chain d e s0 s1 s2 s3 a b o v w t f first second last = record {
    grows = grows_twice s0 s2 s3 (grows_twice s0 s1 s2 first.grows second.grows) last.grows;
    has = last.has;
    value = λ s values u.
        let u2 = values_earlier s2 s3 last.grows s values u in
        let u1 = values_earlier s1 s2 second.grows s values u2 in
        ap₂ (λ p r. with_both (and_then p word_of_value) (and_then r word_of_value) f) (first.value s values u1) (second.value s values u2) ∙ last.value s values u;
  }

  -- ---- literals and slots

  pub literal_by : (old new : Nodes) (o : Operand) (v : Value) → ((t : Ty) → IsBuilt old → value_type v ≡ Some t → IsNodeType (ir_type_of t) → LoweredTo old new o t (λ s values. Some v))
      → LowersBy functions calls (node_step (CoreExpr-F.Literal v)) (core_step (CoreExpr-F.Literal v)) slots old new o
  literal_by old new o v call types t built have h = let here = limited (value_type v) t h in call t built here.is here.within

  pub slot_by : (nodes : Nodes) (k : ℕ) → LowersBy functions calls (node_step (CoreExpr-F.Slot k)) (core_step (CoreExpr-F.Slot k)) slots nodes nodes (slot_or_state slots k)
  slot_by nodes k types t built have h = record {
    grows = grows_none nodes built;
    has = has_it slots types k have there;
    value = λ s values v. value_it slots types k have there s values;
  }
    where
      there : slice_get types k ≡ Some t
      there = (limited (slice_get types k) t h).is

      has_it : (os : List Operand) (us : List Ty) (j : ℕ) → OperandsHaveTypes nodes os (map ir_type_of us) → slice_get us j ≡ Some t → HasType nodes (get_or os j operand.State) (ir_type_of t)
      has_it [] [] j own e = absurd (cc)
      has_it [] (u ∷ us) j own e = absurd own
      has_it (p ∷ os) [] j own e = absurd own
      has_it (p ∷ os) (u ∷ us) zero own e = let same : u ≡ t = cc in subst (λ x. HasType nodes p (ir_type_of x)) same own.0
      has_it (p ∷ os) (u ∷ us) (suc j) own e = has_it os us j own.1 e

      value_it : (os : List Operand) (us : List Ty) (j : ℕ) → OperandsHaveTypes nodes os (map ir_type_of us) → slice_get us j ≡ Some t → (s : Value) (values : List Value) → slice_get (bound_by os s values) j ≡ Some (operand_value s values (get_or os j operand.State))
      value_it [] [] j own e s values = absurd (cc)
      value_it [] (u ∷ us) j own e s values = absurd own
      value_it (p ∷ os) [] j own e s values = absurd own
      value_it (p ∷ os) (u ∷ us) zero own e s values = refl
      value_it (p ∷ os) (u ∷ us) (suc j) own e s values = value_it os us j own.1 e s values

  -- ---- words

  pub unary_by : (k : CoreUnary) (q : Typing) (d : CoreDen) (s0 s1 s2 : Nodes) (a o : Operand) → LowersBy functions calls q d slots s0 s1 a
      → ((w : ℕ) → IsBuilt s1 → HasType s1 a (Bits w []) → LoweredTo s1 s2 o (unary_type k w) (word_read (λ x. Some (value.Bits (unary_word k x))) a))
      → LowersBy functions calls (node_step (CoreExpr-F.Unary k q)) (core_step (CoreExpr-F.Unary k d)) slots s0 s2 o
  unary_by k q d s0 s1 s2 a o lowers call types t built have h =
      let here = limited (and_then (width_in q functions types) (λ w. Some (unary_type k w))) t h in
      let found = then_is (width_in q functions types) (λ w. Some (unary_type k w)) t here.is in
      let one = number_by q d s0 s1 a types found.first lowers built have found.is in
      typed_as s0 s2 o (unary_type k found.first) t (λ s values. core_step (CoreExpr-F.Unary k d) calls (bound_by slots s values)) (some_same (unary_type k found.first) t found.gives)
      (word_chain d s0 s1 s2 a o found.first (unary_type k found.first) (λ x. Some (value.Bits (unary_word k x))) one (call found.first one.grows.built one.has))

  pub binary_by : (k : CoreBinary) (q r : Typing) (d e : CoreDen) (s0 s1 s2 s3 : Nodes) (a b o : Operand) → LowersBy functions calls q d slots s0 s1 a → LowersBy functions calls r e slots s1 s2 b
      → ((v w : ℕ) (t : Ty) → IsBuilt s2 → HasType s2 a (Bits v []) → HasType s2 b (Bits w []) → binary_type k v w ≡ Some t → LoweredTo s2 s3 o t (words_read (binary_words k) a b))
      → LowersBy functions calls (node_step (CoreExpr-F.Binary k q r)) (core_step (CoreExpr-F.Binary k d e)) slots s0 s3 o
  binary_by k q r d e s0 s1 s2 s3 a b o left right call types t built have h =
      let here = limited (with_both (width_in q functions types) (width_in r functions types) (binary_type k)) t h in
      let found = both_are (width_in q functions types) (width_in r functions types) (binary_type k) t here.is in
      let one = number_by q d s0 s1 a types found.first left built have found.is_first in
      let two = number_by r e s1 s2 b types found.second right one.grows.built (have_later s0 s1 slots (map ir_type_of types) one.grows have) found.is_second in
      words_chain d e s0 s1 s2 s3 a b o found.first found.second t (binary_words k) one two
      (call found.first found.second t two.grows.built (has_later s1 s2 a (Bits found.first []) two.grows one.has) two.has found.gives)

  pub cast_by : (sign : Sign) (w : ℕ) (q : Typing) (d : CoreDen) (s0 s1 s2 : Nodes) (a o : Operand) → LowersBy functions calls q d slots s0 s1 a
      → ((v : ℕ) → IsBuilt s1 → HasType s1 a (Bits v []) → is_width w ≡ true → LoweredTo s1 s2 o (ty.Bits w) (word_read (λ x. Some (value.Bits (cast_word (is_signed_read sign) w x))) a))
      → LowersBy functions calls (node_step (CoreExpr-F.Cast sign w q)) (core_step (CoreExpr-F.Cast sign w d)) slots s0 s2 o
  cast_by sign w q d s0 s1 s2 a o lowers call types t built have h =
      let here = limited (and_then (width_in q functions types) (λ v. where_true (is_width w) (Some (ty.Bits w)))) t h in
      let found = then_is (width_in q functions types) (λ v. where_true (is_width w) (Some (ty.Bits w))) t here.is in
      let test = where_is (is_width w) (Some (ty.Bits w)) t found.gives in
      let one = number_by q d s0 s1 a types found.first lowers built have found.is in
      let last = call found.first one.grows.built one.has test.0 in
      let whole = word_chain d s0 s1 s2 a o found.first (ty.Bits w) (λ x. Some (value.Bits (cast_word (is_signed_read sign) w x))) one last in
      typed_as s0 s2 o (ty.Bits w) t (λ s values. core_step (CoreExpr-F.Cast sign w d) calls (bound_by slots s values)) (some_same (ty.Bits w) t test.1)
      (subst (λ (f : Word → Option Value). LoweredTo s0 s2 o (ty.Bits w) (λ s values. and_then (word_in d calls (bound_by slots s values)) f)) (λ i x. sym (where_so (is_width w) (Some (value.Bits (cast_word (is_signed_read sign) w x))) test.0) i) whole)

  pub slice_by : (from w first width : ℕ) (q : Typing) (d : CoreDen) (s0 s1 s2 : Nodes) (a o : Operand) → first ≡ from → width ≡ w → LowersBy functions calls q d slots s0 s1 a
      → ((v : ℕ) → IsBuilt s1 → HasType s1 a (Bits v []) → 1 ≤ width → first + width ≤ v → GivesValue s1 s2 o (Bits width []) (word_by (λ x. op.slice x first width) a))
      → LowersBy functions calls (node_step (CoreExpr-F.Slice q from w)) (core_step (CoreExpr-F.Slice d from w)) slots s0 s2 o
  slice_by from w first width q d s0 s1 s2 a o same_first same_width lowers call types t built have h =
      let here = limited (and_then (width_in q functions types) (λ v. where_true (nat_lt 0 w && nat_le (from + w) v) (Some (ty.Bits w)))) t h in
      let found = then_is (width_in q functions types) (λ v. where_true (nat_lt 0 w && nat_le (from + w) v) (Some (ty.Bits w))) t here.is in
      let test = where_is (nat_lt 0 w && nat_le (from + w) found.first) (Some (ty.Bits w)) t found.gives in
      let parts = both (nat_lt 0 w) (nat_le (from + w) found.first) test.0 in
      let one = number_by q d s0 s1 a types found.first lowers built have found.is in
      let positive : 0 < w = grind (arith, nat_tests, parts.0) in
      let inside : from + w ≤ found.first = grind (arith, nat_tests, parts.1) in
      let given = call found.first one.grows.built one.has (omega (arith, positive, same_width)) (omega (arith, inside, same_width, same_first)) in
      let plain = ap₂ (λ i j. λ (x : Word). op.slice x i j) same_first same_width in
      let last = from_word s1 s2 a o found.first (ty.Bits w) (Bits width []) (λ x. op.slice x first width) (λ x. where_true (nat_lt 0 w && nat_le (from + w) x.width) (Some (value.Bits (op.slice x from w)))) (type-Bits w ∙ ap (λ n. Bits n []) (sym same_width)) one.has
      (λ x i. where_so (nat_lt 0 w && nat_le (from + w) x.width) (Some (value.Bits (op.slice x from w))) (and_both (nat_lt 0 w) (nat_le (from + w) x.width) parts.0 (ap (nat_le (from + w)) i.fits ∙ parts.1)) ∙ ap (λ (f : Word → Word). Some (value.Bits (f x))) (sym plain))
      given in
      typed_as s0 s2 o (ty.Bits w) t (λ s values. core_step (CoreExpr-F.Slice d from w) calls (bound_by slots s values)) (some_same (ty.Bits w) t test.1)
      (word_chain d s0 s1 s2 a o found.first (ty.Bits w) (λ x. where_true (nat_lt 0 w && nat_le (from + w) x.width) (Some (value.Bits (op.slice x from w)))) one last)

  pub part_by : (w width : ℕ) (q r : Typing) (d e : CoreDen) (s0 s1 s2 s3 : Nodes) (a b o : Operand) → width ≡ w → LowersBy functions calls q d slots s0 s1 a → LowersBy functions calls r e slots s1 s2 b
      → ((v k : ℕ) → IsBuilt s2 → HasType s2 a (Bits v []) → HasType s2 b (Bits k []) → 1 ≤ width → width ≤ 128 → GivesValue s2 s3 o (Bits width []) (words_by (λ x y. op.dyn_slice x y width) a b))
      → LowersBy functions calls (node_step (CoreExpr-F.Part q r w)) (core_step (CoreExpr-F.Part d e w)) slots s0 s3 o
  part_by w width q r d e s0 s1 s2 s3 a b o same left right call types t built have h =
      let here = limited (with_both (width_in q functions types) (width_in r functions types) (λ v k. where_true (is_width w) (Some (ty.Bits w)))) t h in
      let found = both_are (width_in q functions types) (width_in r functions types) (λ v k. where_true (is_width w) (Some (ty.Bits w))) t here.is in
      let test = where_is (is_width w) (Some (ty.Bits w)) t found.gives in
      let parts = both (nat_lt 0 w) (nat_le w 128) test.0 in
      let positive : 0 < w = grind (arith, nat_tests, parts.0) in
      let few : w ≤ 128 = grind (arith, nat_tests, parts.1) in
      let one = number_by q d s0 s1 a types found.first left built have found.is_first in
      let two = number_by r e s1 s2 b types found.second right one.grows.built (have_later s0 s1 slots (map ir_type_of types) one.grows have) found.is_second in
      let here_a = has_later s1 s2 a (Bits found.first []) two.grows one.has in
      let given = call found.first found.second two.grows.built here_a two.has (omega (arith, positive, same)) (omega (arith, few, same)) in
      let last = from_words s2 s3 a b o found.first found.second (ty.Bits w) (Bits width []) (λ x y. op.dyn_slice x y width) (λ x k. where_true (is_width w) (Some (value.Bits (op.dyn_slice x k w)))) (type-Bits w ∙ ap (λ n. Bits n []) (sym same)) here_a two.has
      (λ x y i j. where_so (is_width w) (Some (value.Bits (op.dyn_slice x y w))) test.0 ∙ ap (λ n. Some (value.Bits (op.dyn_slice x y n))) (sym same))
      given in
      typed_as s0 s3 o (ty.Bits w) t (λ s values. core_step (CoreExpr-F.Part d e w) calls (bound_by slots s values)) (some_same (ty.Bits w) t test.1)
      (words_chain d e s0 s1 s2 s3 a b o found.first found.second (ty.Bits w) (λ x k. where_true (is_width w) (Some (value.Bits (op.dyn_slice x k w)))) one two last)
