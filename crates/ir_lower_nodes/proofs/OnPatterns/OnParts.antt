-- The parts of tuples from a number on, and operands that stand for them.
use Rattle.std.proofs.Common.{◌≡◌, ℕ, zero, suc, ◌+◌, ◌<◌, ◌≤◌, List, ◌∷◌, ◌++◌, map, length, get_or, drop, Some, refl, sym, ap, ap₂, subst, ◌∙◌, arith, []}
use Rattle.std.specs.Prelude.{slice_get}
use Rattle.xb_value.specs.declared.ty.Ty.{Ty}
use Rattle.xb_value.specs.declared.ty.Ty as ty
use Rattle.xb_value.specs.declared.value.Value.{Value, out-Value}
use Rattle.xb_value.specs.declared.value.Value as value
use Rattle.xb_value.specs.declared.value.Value.TheViews.{outs-Tuple}
use Rattle.xb_value.specs.Typing.{IsOfType, fits, each_passes}
use Rattle.xb_value.proofs.Lemmas.Typing.{tuple_of_type}
use Rattle.ir_tree.specs.declared.ir_type.IrType.{IrType, Tuple}
use Rattle.ir_tree.specs.declared.node.Operand.{Operand}
use Rattle.ir_tree.specs.Constants.{no_value}
use Rattle.ir_tree.specs.NodeValues.{operand_value}
use Rattle.ir_tree.specs.Operations.{on_tuple, element_at}
use Rattle.ir_tree.proofs.Lemmas.Rules.Typed.Checked.{and_true, both_true}
use Rattle.ir_tree.proofs.Lemmas.Rules.Typed.Scopes.{on_tuple-Tuple}
use Rattle.ir_rebuild.specs.Built.{AreValues}
use Rattle.ir_rebuild.specs.declared.putting.nodes.Nodes.{Nodes}
use Rattle.ir_rebuild.specs.Putting.Types.{ir_type_of}
use Rattle.ir_rebuild.specs.Putting.Given.{HasType, OperandsHaveTypes, IsBuilt, GivesValue}
use Rattle.ir_rebuild.proofs.Lemmas.Putting.{value_typed}
use Rattle.ir_rebuild.proofs.Lemmas.Putting.Types.{type-Tuple, type_back}
use Rattle.dslx_core.specs.CoreValues.{tuple_values_step}
use Rattle.dslx_core.specs.Types.Sound.{AreOfTypes}
use Rattle.ir_lower_nodes.specs.Patterns.Shapes.{parts_or_none, parts_in}

-- the value of an operand is of its type
pub typed_value : (nodes : Nodes) (o : Operand) (t : Ty) → HasType nodes o (ir_type_of t) → (s : Value) (values : List Value) → AreValues nodes.state nodes.list.items s values → IsOfType t (operand_value s values o)
typed_value nodes o t h s values v = subst (λ u. IsOfType u (operand_value s values o)) (type_back t h.within) (value_typed nodes o (ir_type_of t) h s values v)

-- one more at the end
pub have_more : (nodes : Nodes) (os : List Operand) (us : List IrType) (o : Operand) (u : IrType) → OperandsHaveTypes nodes os us → HasType nodes o u → OperandsHaveTypes nodes (os ++ o ∷ []) (us ++ u ∷ [])
have_more nodes [] [] o u h k = (k, tt)
have_more nodes [] (t ∷ us) o u h k = absurd h
have_more nodes (p ∷ os) [] o u h k = absurd h
have_more nodes (p ∷ os) (t ∷ us) o u h k = (h.0, have_more nodes os us o u h.1 k)

-- the values of operands are of their types
pub bound_typed : (nodes : Nodes) (os : List Operand) (ts : List Ty) → OperandsHaveTypes nodes os (map ir_type_of ts) → (s : Value) (values : List Value) → AreValues nodes.state nodes.list.items s values → AreOfTypes ts (map (operand_value s values) os)
bound_typed nodes [] [] h s values v = refl
bound_typed nodes [] (t ∷ ts) h s values v = absurd h
bound_typed nodes (o ∷ os) [] h s values v = absurd h
bound_typed nodes (o ∷ os) (t ∷ ts) h s values v = and_true (fits t (operand_value s values o)) (each_passes (map fits ts) (map (operand_value s values) os)) (typed_value nodes o t h.0 s values v) (bound_typed nodes os ts h.1 s values v)

-- as many as types
pub have_length : (nodes : Nodes) (os : List Operand) (us : List IrType) → OperandsHaveTypes nodes os us → length os ≡ length us
have_length nodes [] [] h = refl
have_length nodes [] (u ∷ us) h = absurd h
have_length nodes (o ∷ os) [] h = absurd h
have_length nodes (o ∷ os) (u ∷ us) h = ap suc (have_length nodes os us h.1)

-- ---- lists from a number on

pub drop_none : {A : Type 0} (xs : List A) → drop 0 xs ≡ xs
drop_none [] = refl
drop_none (x ∷ xs) = refl

pub record IsHead {A : Type 0} (xs : List A) (n : ℕ) (x : A) (rest : List A) : Type 0 where
  pub here : slice_get xs n ≡ Some x
  pub later : drop (suc n) xs ≡ rest

pub head_is : {A : Type 0} (xs : List A) (n : ℕ) (x : A) (rest : List A) → drop n xs ≡ x ∷ rest → IsHead xs n x rest
head_is [] zero x rest h = absurd (cc)
head_is [] (suc n) x rest h = absurd (cc)
head_is (y ∷ ys) zero x rest h = let first : y ≡ x = cc in let others : ys ≡ rest = cc in record { here = ap Some first; later = drop_none ys ∙ others }
head_is (y ∷ ys) (suc n) x rest h = let found = head_is ys n x rest h in record { here = found.here; later = found.later }

-- the rest of a list at an index, and behind its end
pub drop_at : {A : Type 0} (xs : List A) (n : ℕ) (x : A) → n < length xs → x ≡ get_or xs n x → drop n xs ≡ x ∷ drop (suc n) xs
drop_at [] n x h e = absurd (omega (arith, h))
drop_at (y ∷ xs) zero x h e = let same : x ≡ y = e in ap₂ (λ z zs. z ∷ zs) (sym same) (sym (drop_none xs))
drop_at (y ∷ xs) (suc n) x h e = drop_at xs n x (omega (arith, h)) e

pub drop_end : {A : Type 0} (xs : List A) (n : ℕ) → length xs ≤ n → drop n xs ≡ []
drop_end [] zero h = refl
drop_end [] (suc n) h = refl
drop_end (x ∷ xs) zero h = absurd (omega (arith, h))
drop_end (x ∷ xs) (suc n) h = drop_end xs n (omega (arith, h))

pub one_item : {A : Type 0} (xs : List A) (x : A) → 1 ≤ length xs → length xs < 2 → x ≡ get_or xs 0 x → xs ≡ x ∷ []
one_item [] x some few e = absurd (omega (arith, some))
one_item (y ∷ []) x some few e = ap (λ z. z ∷ []) (sym e)
one_item (y ∷ z ∷ xs) x some few e = absurd (omega (arith, few))

pub drop_typed : (ts : List Ty) (vs : List Value) (n : ℕ) → AreOfTypes ts vs → AreOfTypes (drop n ts) (drop n vs)
drop_typed [] [] zero h = refl
drop_typed [] [] (suc n) h = refl
drop_typed [] (v ∷ vs) n h = absurd (cc)
drop_typed (t ∷ ts) [] n h = absurd (cc)
drop_typed (t ∷ ts) (v ∷ vs) zero h = h
drop_typed (t ∷ ts) (v ∷ vs) (suc n) h = drop_typed ts vs n (both_true (fits t v) (each_passes (map fits ts) vs) h).1

pub get_mapped : (ts : List Ty) (n : ℕ) (t : Ty) → slice_get ts n ≡ Some t → slice_get (map ir_type_of ts) n ≡ Some (ir_type_of t)
get_mapped [] n t h = absurd (cc)
get_mapped (s ∷ ts) zero t h = let same : s ≡ t = cc in ap (λ u. Some (ir_type_of u)) same
get_mapped (s ∷ ts) (suc n) t h = get_mapped ts n t h

pub get_there : (vs : List Value) (n : ℕ) (w : Value) → slice_get vs n ≡ Some w → get_or vs n no_value ≡ w
get_there [] n w h = absurd (cc)
get_there (v ∷ vs) zero w h = cc
get_there (v ∷ vs) (suc n) w h = get_there vs n w h

-- ---- parts of a tuple

pub record IsTupleHere (v : Value) (ss : List Ty) : Type 0 where
  pub parts : List Value
  pub is : v ≡ value.Tuple parts
  pub there : tuple_values_step (out-Value v) ≡ Some parts
  pub in_it : parts_in v ≡ parts
  pub typed : AreOfTypes ss parts

pub tuple_here : (ss : List Ty) (v : Value) → IsOfType (ty.Tuple ss) v → IsTupleHere v ss
tuple_here ss v h =
    let f = tuple_of_type ss v h in
    let there = ap (λ w. tuple_values_step (out-Value w)) f.is ∙ ap tuple_values_step (outs-Tuple f.parts) in
    record { parts = f.parts; is = f.is; there = there; in_it = ap parts_or_none there; typed = f.each }

-- behind the last part
pub none_left : (ss : List Ty) (n : ℕ) (v : Value) → IsOfType (ty.Tuple ss) v → drop n ss ≡ [] → drop n (parts_in v) ≡ []
none_left ss n v h e =
    let f = tuple_here ss v h in
    ap (drop n) f.in_it ∙ empty (drop n f.parts) (subst (λ ts. AreOfTypes ts (drop n f.parts)) e (drop_typed ss f.parts n f.typed))
  where
    empty : (ws : List Value) → AreOfTypes [] ws → ws ≡ []
    empty [] k = refl
    empty (w ∷ ws) k = absurd (cc)

pub record IsPartAt (v : Value) (n : ℕ) : Type 0 where
  pub part : Value
  pub rest : List Value
  pub here : drop n (parts_in v) ≡ part ∷ rest
  pub later : drop (suc n) (parts_in v) ≡ rest
  pub is : on_tuple (element_at n) v ≡ part

pub part_at : (ss : List Ty) (n : ℕ) (s : Ty) (rest : List Ty) (v : Value) → IsOfType (ty.Tuple ss) v → drop n ss ≡ s ∷ rest → IsPartAt v n
part_at ss n s rest v h e = by (drop n f.parts) refl (subst (λ ts. AreOfTypes ts (drop n f.parts)) e (drop_typed ss f.parts n f.typed))
  where
    f : IsTupleHere v ss
    f = tuple_here ss v h

    by : (ws : List Value) → drop n f.parts ≡ ws → AreOfTypes (s ∷ rest) ws → IsPartAt v n
    by [] q k = absurd (cc)
    by (w ∷ ws) q k =
        let head = head_is f.parts n w ws q in
        record {
          part = w;
          rest = ws;
          here = ap (drop n) f.in_it ∙ q;
          later = ap (drop (suc n)) f.in_it ∙ head.later;
          is = on_tuple-Tuple (element_at n) v f.parts f.is ∙ get_there f.parts n w head.here;
        }

-- ---- an operand that is a tuple

pub tuple_operand : (nodes : Nodes) (o : Operand) (ss : List Ty) → HasType nodes o (ir_type_of (ty.Tuple ss)) → HasType nodes o (Tuple (map ir_type_of ss) [])
tuple_operand nodes o ss h = subst (HasType nodes o) (type-Tuple ss) h

-- the node of its part
pub element_put : (old new : Nodes) (tuple part : Operand) (n : ℕ) → ((us : List IrType) (u : IrType) → IsBuilt old → HasType old tuple (Tuple us []) → slice_get us n ≡ Some u → GivesValue old new part u (λ s values. on_tuple (element_at n) (operand_value s values tuple)))
    → (ss : List Ty) (t : Ty) → IsBuilt old → HasType old tuple (ir_type_of (ty.Tuple ss)) → slice_get ss n ≡ Some t → GivesValue old new part (ir_type_of t) (λ s values. on_tuple (element_at n) (operand_value s values tuple))
element_put old new tuple part n call ss t built h e = call (map ir_type_of ss) (ir_type_of t) built (tuple_operand old tuple ss h) (get_mapped ss n t e)
