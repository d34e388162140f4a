-- Lists of expressions, tuples and arrays.
use Rattle.std.proofs.Common.{◌≡◌, ℕ, zero, suc, ◌+◌, ◌-◌, ◌≤◌, ◌<◌, min, Bool, true, false, List, ◌∷◌, ◌++◌, map, length, Option, Some, refl, sym, ap, ap₂, subst, ◌∙◌, arith, if◌then◌else◌, []}
use Rattle.std.specs.Prelude.{slice_get, nat_lt, pred, set}
use Rattle.std.specs.List.{list_all}
use Rattle.std.proofs.lemmas.Bool.Decides.{nat_tests}
use Rattle.std.proofs.lemmas.List.{length-map}
use Rattle.xb_bits.specs.Word.{Word, word}
use Rattle.xb_value.specs.declared.ty.Ty.{Ty}
use Rattle.xb_value.specs.declared.ty.Ty as ty
use Rattle.xb_value.specs.declared.value.Value.{Value, out-Value}
use Rattle.xb_value.specs.declared.value.Value as value
use Rattle.xb_value.specs.declared.value.Value.TheViews.{outs-Array}
use Rattle.xb_value.specs.Typing.{IsOfType, fits}
use Rattle.xb_value.proofs.Lemmas.Typing.{array_of_type}
use Rattle.ir_tree.specs.declared.ir_type.IrType.{IrType, Bits, Tuple}
use Rattle.ir_tree.specs.declared.node.Operand.{Operand}
use Rattle.ir_tree.specs.NodeValues.{operand_value}
use Rattle.ir_tree.specs.Operations.{on_tuple, on_array, on_word, element_at, at_index, updated}
use Rattle.ir_tree.proofs.Lemmas.Rules.Typed.Scopes.{on_tuple-Tuple, on_array-Array, on_word-Bits}
use Rattle.ir_rebuild.specs.Built.{AreValues}
use Rattle.ir_rebuild.specs.declared.putting.nodes.Nodes.{Nodes}
use Rattle.ir_rebuild.specs.Putting.Types.{array_of, ir_type_of}
use Rattle.ir_rebuild.specs.Putting.Given.{IsNodeType, IsBuilt, HasType, OperandsHaveTypes, OperandsHaveType, GrowsTo, GivesValue}
use Rattle.ir_rebuild.proofs.Lemmas.Putting.{grows_none, grows_twice, values_earlier, has_later, have_later, operand_word}
use Rattle.ir_rebuild.proofs.Lemmas.Putting.Types.{type-Tuple, type-Array}
use Rattle.dslx_meaning.specs.Lists.{all_some, and_then, with_both}
use Rattle.dslx_core.specs.declared.design.Function.{Function}
use Rattle.dslx_core.specs.declared.expr.CoreExpr.{CoreExpr}
use Rattle.dslx_core.specs.declared.expr.CoreExpr.TheOpen.{CoreExpr-F}
use Rattle.dslx_core.specs.CoreValues.{Functions, CoreDen, core_value, word_of_value, array_values_step, tuple_values_step, word_in, array_in, core_step}
use Rattle.dslx_core.proofs.Lemmas.Typing.Typed.OfLists.{all_there, all_are}
use Rattle.dslx_core.specs.Types.Typing.{FunctionTypes, Typing, Elements, elements_of, parts_of_tuple, if_alike, all_alike, elements_alike, types_in, width_in}
use Rattle.dslx_core.specs.Types.Typing as typing
use Rattle.dslx_core.proofs.Lemmas.Types.{then_is, if_alike_is, tuple_type, array_type, part_typed, element_typed}
use Rattle.ir_lower_nodes.proofs.Lemmas.Words.{read_word}
use Rattle.ir_lower_nodes.proofs.Lemmas.Patterns.{typed_value, have_more, have_length, map_more, get_there, tuple_here, element_put}
use Rattle.ir_lower_nodes.specs.Exprs.NodeTypes.{node_step, node_type}
use Rattle.ir_lower_nodes.specs.Exprs.Calls.{calls_below, types_below}
use Rattle.ir_lower_nodes.specs.Exprs.Lowered.{bound_by, LowersBy, EachLowersBy, EachLowers, Lowers}
use Rattle.ir_lower_nodes.proofs.OnExprs.OnOptions.{some_same, both_are}
use Rattle.ir_lower_nodes.proofs.OnExprs.OnLayers.{limited}
use Rattle.ir_lower_nodes.proofs.OnExprs.OnParts.{number_by}

-- ---- one more at the end

record IsSplit {A : Type 0} (os : List (Option A)) (o : Option A) (us : List A) : Type 0 where
  firsts : List A
  last : A
  is : us ≡ firsts ++ last ∷ []
  first : os ≡ map Some firsts
  one : o ≡ Some last

heads : {A : Type 0} (x y : A) (xs ys : List A) → (x ∷ xs) ≡ (y ∷ ys) → (x ≡ y) × (xs ≡ ys)
heads x y xs ys h = let first : x ≡ y = cc in let rest : xs ≡ ys = cc in (first, rest)

split : (os : List (Option Ty)) (o : Option Ty) (us : List Ty) → os ++ o ∷ [] ≡ map Some us → IsSplit os o us
split [] o [] h = absurd (cc)
split [] o (u ∷ []) h = let parts = heads o (Some u) [] [] h in record { firsts = []; last = u; is = refl; first = refl; one = parts.0 }
split [] o (u ∷ w ∷ us) h = let parts = heads o (Some u) [] (Some w ∷ map Some us) h in let never = parts.1 in absurd (cc)
split (p ∷ os) o [] h = absurd (cc)
split (p ∷ os) o (u ∷ us) h =
    let parts = heads p (Some u) (os ++ o ∷ []) (map Some us) h in
    let rest = split os o us parts.1 in
    record { firsts = u ∷ rest.firsts; last = rest.last; is = ap (λ xs. u ∷ xs) rest.is; first = ap₂ (λ x xs. x ∷ xs) parts.0 rest.first; one = rest.one }

mapped_more : {A B : Type 0} (f : A → B) (xs : List A) (x : A) → map f (xs ++ x ∷ []) ≡ map f xs ++ f x ∷ []
mapped_more f [] x = refl
mapped_more f (y ∷ xs) x = ap (λ zs. f y ∷ zs) (mapped_more f xs x)

pub each_none : (functions : FunctionTypes) (calls : Functions) (slots : List Operand) (nodes : Nodes) → EachLowersBy functions calls [] [] slots nodes nodes []
each_none functions calls slots nodes types [] built have h = record { grows = grows_none nodes built; have = tt; values = λ s values v. refl }
each_none functions calls slots nodes types (u ∷ us) built have h = absurd (cc)

pub each_more : (functions : FunctionTypes) (calls : Functions) (slots : List Operand) (qs : List Typing) (ds : List CoreDen) (q : Typing) (d : CoreDen) (s0 s1 s2 : Nodes) (os : List Operand) (o : Operand) → EachLowersBy functions calls qs ds slots s0 s1 os → LowersBy functions calls q d slots s1 s2 o → EachLowersBy functions calls (qs ++ q ∷ []) (ds ++ d ∷ []) slots s0 s2 (os ++ o ∷ [])
each_more functions calls slots qs ds q d s0 s1 s2 os o before lowers types us built have h =
    let type_by : Typing → Option Ty = λ q. q functions types in
    let parts = split (map type_by qs) (type_by q) us (sym (mapped_more type_by qs q) ∙ h) in
    let first = before types parts.firsts built have parts.first in
    let last = lowers types parts.last first.grows.built (have_later s0 s1 slots (map ir_type_of types) first.grows have) parts.one in
    record {
      grows = grows_twice s0 s1 s2 first.grows last.grows;
      have = subst (λ xs. OperandsHaveTypes s2 (os ++ o ∷ []) xs) (sym (map_more parts.firsts parts.last) ∙ ap (map ir_type_of) (sym parts.is)) (have_more s2 os (map ir_type_of parts.firsts) o (ir_type_of parts.last) (have_later s1 s2 os (map ir_type_of parts.firsts) last.grows first.have) last.has);
      values = λ s values v.
          let value_by : CoreDen → Option Value = λ d. d calls (bound_by slots s values) in
          mapped_more value_by ds d
          ∙ (ap₂ (λ xs x. xs ++ x ∷ []) (first.values s values (values_earlier s1 s2 last.grows s values v)) (last.value s values v)
          ∙ (sym (mapped_more Some (bound_by os s values) (operand_value s values o)) ∙ ap (map Some) (sym (mapped_more (operand_value s values) os o))));
    }

-- a step of the walk over expressions
pub each_step : (fs : List Function) (slots : List Operand) (some all : List CoreExpr) (e : CoreExpr) (s0 s1 s2 : Nodes) (os : List Operand) (o : Operand) → all ≡ some ++ e ∷ [] → EachLowers fs some slots s0 s1 os → Lowers fs e slots s1 s2 o → EachLowers fs all slots s0 s2 (os ++ o ∷ [])
each_step fs slots some all e s0 s1 s2 os o is before lowers =
    subst (λ es. EachLowers fs es slots s0 s2 (os ++ o ∷ [])) (sym is)
    (λ signatures n given.
    let functions = types_below n signatures in
    let calls = calls_below n fs in
    subst (λ qs. EachLowersBy functions calls qs (map core_value (some ++ e ∷ [])) slots s0 s2 (os ++ o ∷ [])) (sym (mapped_more node_type some e))
    (subst (λ ds. EachLowersBy functions calls (map node_type some ++ node_type e ∷ []) ds slots s0 s2 (os ++ o ∷ [])) (sym (mapped_more core_value some e))
    (each_more functions calls slots (map node_type some) (map core_value some) (node_type e) (core_value e) s0 s1 s2 os o (before signatures n given) (lowers signatures n given))))

-- ---- arrays of one type

abbrev AllAre : Ty → List (Option Ty) → Type 0
AllAre t [] = Unit {0}
AllAre t (o ∷ os) = (o ≡ Some t) × AllAre t os

record AreAlike (t s : Ty) (os : List (Option Ty)) : Type 0 where
  same : t ≡ s
  each : AllAre s os

alike_are : (os : List (Option Ty)) (t s : Ty) → all_alike t os ≡ Some s → AreAlike t s os
alike_are [] t s h = record { same = some_same t s h; each = tt }
alike_are (o ∷ os) t s h =
    let found = then_is (if_alike t o) (λ u. all_alike u os) s h in
    let one = if_alike_is t found.first o found.is in
    let rest = alike_are os found.first s found.gives in
    record { same = one.0 ∙ rest.same; each = (one.1 ∙ ap Some rest.same, rest.each) }

record AreElements (os : List (Option Ty)) (t : Ty) : Type 0 where
  element : Ty
  is : t ≡ ty.Array element (length os)
  each : AllAre element os
  some : 1 ≤ length os

elements_are : (os : List (Option Ty)) (t : Ty) → elements_alike os ≡ Some t → AreElements os t
elements_are [] t h = absurd (cc)
elements_are (o ∷ os) t h =
    let first = then_is o (λ u. and_then (all_alike u os) (λ s. Some (ty.Array s (suc (length os))))) t h in
    let rest = then_is (all_alike first.first os) (λ s. Some (ty.Array s (suc (length os)))) t first.gives in
    let all = alike_are os first.first rest.first rest.is in
    record { element = rest.first; is = sym (some_same (ty.Array rest.first (suc (length os))) t rest.gives); each = (first.is ∙ ap Some all.same, all.each); some = omega arith }

abbrev repeated : Ty → List (Option Ty) → List Ty
repeated t os = map (λ o. t) os

all_repeated : (t : Ty) (os : List (Option Ty)) → AllAre t os → os ≡ map Some (repeated t os)
all_repeated t [] h = refl
all_repeated t (o ∷ os) h = ap₂ (λ x xs. x ∷ xs) h.0 (all_repeated t os h.1)

have_one : (nodes : Nodes) (os : List Operand) (t : Ty) (xs : List (Option Ty)) → OperandsHaveTypes nodes os (map ir_type_of (repeated t xs)) → OperandsHaveType nodes os (ir_type_of t)
have_one nodes [] t [] h = tt
have_one nodes [] t (x ∷ xs) h = absurd h
have_one nodes (o ∷ os) t [] h = absurd h
have_one nodes (o ∷ os) t (x ∷ xs) h = (h.0, have_one nodes os t xs h.1)

set_past : (vs : List Value) (k : ℕ) (w : Value) → length vs ≤ k → set vs k w ≡ vs
set_past [] k w h = refl
set_past (v ∷ vs) zero w h = absurd (omega (arith, h))
set_past (v ∷ vs) (suc k) w h = ap (λ xs. v ∷ xs) (set_past vs k w (omega (arith, h)))

either_set : (vs : List Value) (k : ℕ) (w : Value) → (if nat_lt k (length vs) then set vs k w else vs) ≡ set vs k w
either_set vs k w = by (nat_lt k (length vs)) refl
  where
    by : (b : Bool) → nat_lt k (length vs) ≡ b → (if b then set vs k w else vs) ≡ set vs k w
    by true e = refl
    by false e = let past : length vs ≤ k = grind (arith, nat_tests, e) in sym (set_past vs k w past)

pred_is : (n : ℕ) → pred n ≡ n - 1
pred_is zero = omega arith
pred_is (suc n) = omega arith

record IsArrayHere (v : Value) (t : Ty) (n : ℕ) : Type 0 where
  parts : List Value
  is : v ≡ value.Array parts
  there : array_values_step (out-Value v) ≡ Some parts
  count : length parts ≡ n
  all : list_all (fits t) parts ≡ true

array_here : (t : Ty) (n : ℕ) (v : Value) → IsOfType (ty.Array t n) v → IsArrayHere v t n
array_here t n v h =
    let f = array_of_type t n v h in
    record { parts = f.parts; is = f.is; there = ap (λ w. array_values_step (out-Value w)) f.is ∙ ap array_values_step (outs-Array f.parts); count = f.count; all = f.all }

record ArrayLowered (calls : Functions) (slots : List Operand) (d : CoreDen) (old new : Nodes) (a : Operand) (e : Elements) : Type 0 where
  grows : GrowsTo old new
  has : HasType new a (array_of e.count (ir_type_of e.element))
  some : 1 ≤ e.count
  value : (s : Value) (values : List Value) → AreValues new.state new.list.items s values → d calls (bound_by slots s values) ≡ Some (operand_value s values a)
  here : (s : Value) (values : List Value) → AreValues new.state new.list.items s values → IsArrayHere (operand_value s values a) e.element e.count

module _ (functions : FunctionTypes) (calls : Functions) (slots : List Operand) where
  types_there : (qs : List Typing) (types us : List Ty) → types_in qs functions types ≡ Some us → map (λ (q : Typing). q functions types) qs ≡ map Some us
  types_there qs types us h = all_there (map (λ (q : Typing). q functions types) qs) us h

  pub tuple_by : (qs : List Typing) (ds : List CoreDen) (s0 s1 s2 : Nodes) (os : List Operand) (o : Operand) → EachLowersBy functions calls qs ds slots s0 s1 os
      → ((ts : List IrType) → IsBuilt s1 → OperandsHaveTypes s1 os ts → IsNodeType (Tuple ts []) → GivesValue s1 s2 o (Tuple ts []) (λ s values. value.Tuple (map (operand_value s values) os)))
      → LowersBy functions calls (node_step (CoreExpr-F.Tuple qs)) (core_step (CoreExpr-F.Tuple ds)) slots s0 s2 o
  tuple_by qs ds s0 s1 s2 os o lowers call types t built have h =
      let here = limited (and_then (types_in qs functions types) (λ ts. Some (ty.Tuple ts))) t h in
      let found = then_is (types_in qs functions types) (λ ts. Some (ty.Tuple ts)) t here.is in
      let us = found.first in
      let same : ir_type_of t ≡ Tuple (map ir_type_of us) [] = ap ir_type_of (sym (some_same (ty.Tuple us) t found.gives)) ∙ type-Tuple us in
      let each = lowers types us built have (types_there qs types us found.is) in
      let last = call (map ir_type_of us) each.grows.built each.have (subst IsNodeType same here.within) in
      record {
        grows = grows_twice s0 s1 s2 each.grows last.grows;
        has = subst (HasType s2 o) (sym same) last.has;
        value = λ s values v.
            ap (λ xs. and_then (all_some xs) (λ vs. Some (value.Tuple vs))) (each.values s values (values_earlier s1 s2 last.grows s values v))
            ∙ (ap (λ p. and_then p (λ vs. Some (value.Tuple vs))) (all_are (bound_by os s values)) ∙ ap Some (sym (last.value s values v)));
      }

  pub array_by : (qs : List Typing) (ds : List CoreDen) (s0 s1 s2 : Nodes) (os : List Operand) (o : Operand) → EachLowersBy functions calls qs ds slots s0 s1 os
      → ((u : IrType) → IsBuilt s1 → 1 ≤ length os → OperandsHaveType s1 os u → IsNodeType (array_of (length os) u) → GivesValue s1 s2 o (array_of (length os) u) (λ s values. value.Array (map (operand_value s values) os)))
      → LowersBy functions calls (node_step (CoreExpr-F.Array qs)) (core_step (CoreExpr-F.Array ds)) slots s0 s2 o
  array_by qs ds s0 s1 s2 os o lowers call types t built have h =
      let xs : List (Option Ty) = map (λ (q : Typing). q functions types) qs in
      let here = limited (elements_alike xs) t h in
      let found = elements_are xs t here.is in
      let us = repeated found.element xs in
      let each = lowers types us built have (all_repeated found.element xs found.each) in
      let count : length os ≡ length xs = have_length s1 os (map ir_type_of us) each.have ∙ (length-map us ir_type_of ∙ length-map xs (λ o. found.element)) in
      let some = found.some in
      let same : ir_type_of t ≡ array_of (length os) (ir_type_of found.element) = ap ir_type_of found.is ∙ (type-Array found.element (length xs) ∙ ap (λ n. array_of n (ir_type_of found.element)) (sym count)) in
      let last = call (ir_type_of found.element) each.grows.built (omega (arith, some, count)) (have_one s1 os found.element xs each.have) (subst IsNodeType same here.within) in
      record {
        grows = grows_twice s0 s1 s2 each.grows last.grows;
        has = subst (HasType s2 o) (sym same) last.has;
        value = λ s values v.
            ap (λ xs. and_then (all_some xs) (λ vs. Some (value.Array vs))) (each.values s values (values_earlier s1 s2 last.grows s values v))
            ∙ (ap (λ p. and_then p (λ vs. Some (value.Array vs))) (all_are (bound_by os s values)) ∙ ap Some (sym (last.value s values v)));
      }

  pub element_by : (k : ℕ) (q : Typing) (d : CoreDen) (s0 s1 s2 : Nodes) (a o : Operand) → LowersBy functions calls q d slots s0 s1 a
      → ((us : List IrType) (u : IrType) → IsBuilt s1 → HasType s1 a (Tuple us []) → slice_get us k ≡ Some u → GivesValue s1 s2 o u (λ s values. on_tuple (element_at k) (operand_value s values a)))
      → LowersBy functions calls (node_step (CoreExpr-F.Element q k)) (core_step (CoreExpr-F.Element d k)) slots s0 s2 o
  element_by k q d s0 s1 s2 a o lowers call types t built have h =
      let here = limited (and_then (and_then (q functions types) parts_of_tuple) (λ us. slice_get us k)) t h in
      let found = then_is (and_then (q functions types) parts_of_tuple) (λ us. slice_get us k) t here.is in
      let ss = found.first in
      let inner = then_is (q functions types) parts_of_tuple ss found.is in
      let one = lowers types inner.first built have inner.is in
      let has = subst (λ u. HasType s1 a (ir_type_of u)) (tuple_type inner.first ss inner.gives) one.has in
      let last = element_put s1 s2 a o k call ss t one.grows.built has found.gives in
      record {
        grows = grows_twice s0 s1 s2 one.grows last.grows;
        has = last.has;
        value = λ s values v.
            let v1 = values_earlier s1 s2 last.grows s values v in
            let x = operand_value s values a in
            let f = tuple_here ss x (typed_value s1 a (ty.Tuple ss) has s values v1) in
            let p = part_typed ss f.parts k t f.typed found.gives in
            ap (λ r. and_then (and_then r (λ v. tuple_values_step (out-Value v))) (λ vs. slice_get vs k)) (one.value s values v1)
            ∙ (ap (λ r. and_then r (λ vs. slice_get vs k)) f.there
            ∙ (p.is ∙ ap Some (sym (last.value s values v ∙ (on_tuple-Tuple (element_at k) x f.parts f.is ∙ get_there f.parts k p.value p.is)))));
      }

  array_lowered : (q : Typing) (d : CoreDen) (old new : Nodes) (a : Operand) (types : List Ty) (e : Elements) → LowersBy functions calls q d slots old new a → IsBuilt old → OperandsHaveTypes old slots (map ir_type_of types) → typing.array_in q functions types ≡ Some e → ArrayLowered calls slots d old new a e
  array_lowered q d old new a types e lowers built have h =
      let found = then_is (q functions types) elements_of e h in
      let t = array_type found.first e found.gives in
      let one = lowers types found.first built have found.is in
      let has = subst (λ u. HasType new a (ir_type_of u)) t.is one.has in
      record {
        grows = one.grows;
        has = subst (HasType new a) (type-Array e.element e.count) has;
        some = t.some;
        value = one.value;
        here = λ s values v. array_here e.element e.count (operand_value s values a) (typed_value new a (ty.Array e.element e.count) has s values v);
      }

  pub index_by : (q r : Typing) (d e : CoreDen) (s0 s1 s2 s3 : Nodes) (a b o : Operand) → LowersBy functions calls q d slots s0 s1 a → LowersBy functions calls r e slots s1 s2 b
      → ((n k : ℕ) (u : IrType) → IsBuilt s2 → HasType s2 a (array_of n u) → HasType s2 b (Bits k []) → GivesValue s2 s3 o u (λ s values. on_array (λ vs. on_word (at_index vs) (operand_value s values b)) (operand_value s values a)))
      → LowersBy functions calls (node_step (CoreExpr-F.Index q r)) (core_step (CoreExpr-F.Index d e)) slots s0 s3 o
  index_by q r d e s0 s1 s2 s3 a b o left right call types t built have h =
      let here = limited (with_both (typing.array_in q functions types) (width_in r functions types) (λ (x : Elements) w. Some x.element)) t h in
      let found = both_are (typing.array_in q functions types) (width_in r functions types) (λ (x : Elements) w. Some x.element) t here.is in
      let array = array_lowered q d s0 s1 a types found.first left built have found.is_first in
      let place = number_by functions calls slots r e s1 s2 b types found.second right array.grows.built (have_later s0 s1 slots (map ir_type_of types) array.grows have) found.is_second in
      let last = call found.first.count found.second (ir_type_of found.first.element) place.grows.built (has_later s1 s2 a (array_of found.first.count (ir_type_of found.first.element)) place.grows array.has) place.has in
      let same : found.first.element ≡ t = some_same found.first.element t found.gives in
      record {
        grows = grows_twice s0 s2 s3 (grows_twice s0 s1 s2 array.grows place.grows) last.grows;
        has = subst (λ u. HasType s3 o (ir_type_of u)) same last.has;
        value = λ s values v.
            let v2 = values_earlier s2 s3 last.grows s values v in
            let v1 = values_earlier s1 s2 place.grows s values v2 in
            let x = operand_value s values a in
            let f = array.here s values v1 in
            let y = operand_word s2 b found.second place.has s values v2 in
            let some = array.some in
            let count = f.count in
            let less : min y.word.value (length f.parts - 1) < length f.parts = omega (arith, some, count) in
            let w = element_typed found.first.element f.parts (min y.word.value (length f.parts - 1)) f.all less in
            ap₂ (λ p r. with_both (and_then p (λ v. array_values_step (out-Value v))) (and_then r word_of_value) (λ vs (k : Word). slice_get vs (min k.value (pred (length vs))))) (array.value s values v1) (place.value s values v2)
            ∙ (ap₂ (λ p r. with_both p r (λ vs (k : Word). slice_get vs (min k.value (pred (length vs))))) f.there (read_word (operand_value s values b) y.word y.is)
            ∙ (ap (λ n. slice_get f.parts (min y.word.value n)) (pred_is (length f.parts))
            ∙ (w.is ∙ ap Some (sym (last.value s values v
            ∙ (on_array-Array (λ vs. on_word (at_index vs) (operand_value s values b)) x f.parts f.is
            ∙ (on_word-Bits (at_index f.parts) (operand_value s values b) y.word y.is
            ∙ get_there f.parts (min y.word.value (length f.parts - 1)) w.value w.is)))))));
      }

  pub update_by : (q r p : Typing) (d e g : CoreDen) (s0 s1 s2 s3 s4 : Nodes) (a b c o : Operand) → LowersBy functions calls q d slots s0 s1 a → LowersBy functions calls r e slots s1 s2 b → LowersBy functions calls p g slots s2 s3 c
      → ((n k : ℕ) (u : IrType) → IsBuilt s3 → HasType s3 a (array_of n u) → HasType s3 b (Bits k []) → HasType s3 c u → GivesValue s3 s4 o (array_of n u) (λ s values. on_array (λ vs. on_word (updated (operand_value s values c) vs) (operand_value s values b)) (operand_value s values a)))
      → LowersBy functions calls (node_step (CoreExpr-F.Update q r p)) (core_step (CoreExpr-F.Update d e g)) slots s0 s4 o
  update_by q r p d e g s0 s1 s2 s3 s4 a b c o first second third call types t built have h =
      let whole : Elements → ℕ → Option Ty = λ x w. and_then (if_alike x.element (p functions types)) (λ u. Some (ty.Array x.element x.count)) in
      let here = limited (with_both (typing.array_in q functions types) (width_in r functions types) whole) t h in
      let found = both_are (typing.array_in q functions types) (width_in r functions types) whole t here.is in
      let inner = then_is (if_alike found.first.element (p functions types)) (λ u. Some (ty.Array found.first.element found.first.count)) t found.gives in
      let alike = if_alike_is found.first.element inner.first (p functions types) inner.is in
      let array = array_lowered q d s0 s1 a types found.first first built have found.is_first in
      let place = number_by functions calls slots r e s1 s2 b types found.second second array.grows.built (have_later s0 s1 slots (map ir_type_of types) array.grows have) found.is_second in
      let both = grows_twice s0 s1 s2 array.grows place.grows in
      let new = third types found.first.element place.grows.built (have_later s0 s2 slots (map ir_type_of types) both have) (alike.1 ∙ ap Some (sym alike.0)) in
      let last = call found.first.count found.second (ir_type_of found.first.element) new.grows.built
      (has_later s1 s3 a (array_of found.first.count (ir_type_of found.first.element)) (grows_twice s1 s2 s3 place.grows new.grows) array.has) (has_later s2 s3 b (Bits found.second []) new.grows place.has) new.has in
      record {
        grows = grows_twice s0 s3 s4 (grows_twice s0 s2 s3 both new.grows) last.grows;
        has = subst (HasType s4 o) (sym (type-Array found.first.element found.first.count) ∙ ap ir_type_of (some_same (ty.Array found.first.element found.first.count) t inner.gives)) last.has;
        value = λ s values v.
            let v3 = values_earlier s3 s4 last.grows s values v in
            let v2 = values_earlier s2 s3 new.grows s values v3 in
            let v1 = values_earlier s1 s2 place.grows s values v2 in
            let x = operand_value s values a in
            let z = operand_value s values c in
            let f = array.here s values v1 in
            let y = operand_word s2 b found.second place.has s values v2 in
            ap (λ n. and_then n (λ new. with_both (array_in d calls (bound_by slots s values)) (word_in e calls (bound_by slots s values)) (λ vs (k : Word). Some (value.Array (if nat_lt k.value (length vs) then set vs k.value new else vs))))) (new.value s values v3)
            ∙ (ap₂ (λ p r. with_both (and_then p (λ v. array_values_step (out-Value v))) (and_then r word_of_value) (λ vs (k : Word). Some (value.Array (if nat_lt k.value (length vs) then set vs k.value z else vs)))) (array.value s values v1) (place.value s values v2)
            ∙ (ap₂ (λ p r. with_both p r (λ vs (k : Word). Some (value.Array (if nat_lt k.value (length vs) then set vs k.value z else vs)))) f.there (read_word (operand_value s values b) y.word y.is)
            ∙ (ap (λ vs. Some (value.Array vs)) (either_set f.parts y.word.value z)
            ∙ ap Some (sym (last.value s values v
            ∙ (on_array-Array (λ vs. on_word (updated z vs) (operand_value s values b)) x f.parts f.is
            ∙ on_word-Bits (updated z f.parts) (operand_value s values b) y.word y.is))))));
      }
