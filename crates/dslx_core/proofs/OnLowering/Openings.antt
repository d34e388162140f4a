-- Core expressions, shapes and plain values at each of their kinds.
use Rattle.std.proofs.Common.{◌≡◌, ℕ, Bool, List, [], map, sym, ap, ◌∙◌}
use Rattle.xb_bits.specs.Word.{Word}
use Rattle.xb_value.specs.declared.value.Value.{Value, out-Value}
use Rattle.xb_value.specs.declared.value.Value as plain
use Rattle.dslx_meaning.specs.Values.{forget_step, plain_value}
use Rattle.dslx_meaning.specs.declared.value.DslxValue.{DslxValue, out-DslxValue}
use Rattle.dslx_meaning.specs.declared.value.DslxValue as value
use Rattle.dslx_meaning.specs.declared.value.DslxValue.TheOpen.{DslxValue-F}
use Rattle.dslx_meaning.specs.declared.value.DslxValue.TheViews as views
use Rattle.dslx_meaning.specs.declared.value.DslxValue.TheFolds.{fold-roll-DslxValue, map-DslxValue}
use Rattle.dslx_core.specs.CoreValues.{CoreDen, CoreArmDen, core_value, core_step, arm_step, TakesApart, shape_step, taken_apart}
use Rattle.dslx_core.specs.declared.expr.CoreUnary.{CoreUnary}
use Rattle.dslx_core.specs.declared.expr.CoreBinary.{CoreBinary}
use Rattle.dslx_core.specs.declared.expr.Sign.{Sign}
use Rattle.dslx_core.specs.declared.expr.CoreExpr.{CoreExpr, out-CoreExpr}
use Rattle.dslx_core.specs.declared.expr.CoreExpr as core
use Rattle.dslx_core.specs.declared.expr.CoreExpr.TheOpen.{CoreExpr-F}
use Rattle.dslx_core.specs.declared.expr.CoreExpr.TheViews as core_views
use Rattle.dslx_core.specs.declared.expr.CoreExpr.TheFolds.{map-CoreExpr, fold_out-CoreExpr, fold_out-Arm}
use Rattle.dslx_core.specs.declared.expr.Arm.{Arm, Arm-F, roll-Arm, fold-Arm}
use Rattle.dslx_core.specs.declared.expr.Shape.{Shape, out-Shape}
use Rattle.dslx_core.specs.declared.expr.Shape as shape
use Rattle.dslx_core.specs.declared.expr.Shape.TheOpen.{Shape-F}
use Rattle.dslx_core.specs.declared.expr.Shape.TheViews as shape_views
use Rattle.dslx_core.specs.declared.expr.Shape.TheFolds.{map-Shape, fold_out-Shape}

-- ---- plain values

pub plain_level : (v : DslxValue) (l : DslxValue-F DslxValue) → out-DslxValue v ≡ l → plain_value v ≡ forget_step (map-DslxValue DslxValue Value plain_value l)
plain_level v l e = ap plain_value (sym (views.roll-out-DslxValue v) ∙ ap views.roll-DslxValue e) ∙ fold-roll-DslxValue Value forget_step l

pub plain_bits : (s : Bool) (w : Word) → plain_value (value.Bits s w) ≡ plain.Bits w
plain_bits s w = plain_level (value.Bits s w) (DslxValue-F.Bits s w) (views.outs-Bits s w)

pub plain_tuple : (vs : List DslxValue) → plain_value (value.Tuple vs) ≡ plain.Tuple (map plain_value vs)
plain_tuple vs = plain_level (value.Tuple vs) (DslxValue-F.Tuple vs) (views.outs-Tuple vs)

pub plain_array : (vs : List DslxValue) → plain_value (value.Array vs) ≡ plain.Array (map plain_value vs)
plain_array vs = plain_level (value.Array vs) (DslxValue-F.Array vs) (views.outs-Array vs)

pub plain_struct : (name : List ℕ) (fields : List (List ℕ)) (vs : List DslxValue) → plain_value (value.Struct name fields vs) ≡ plain.Tuple (map plain_value vs)
plain_struct name fields vs = plain_level (value.Struct name fields vs) (DslxValue-F.Struct name fields vs) (views.outs-Struct name fields vs)

pub plain_token : plain_value value.Token ≡ plain.Tuple []
plain_token = plain_level value.Token DslxValue-F.Token views.outs-Token

-- a value is what stands at its level
pub of_level : (v : DslxValue) (l : DslxValue-F DslxValue) → out-DslxValue v ≡ l → v ≡ views.roll-DslxValue l
of_level v l e = sym (views.roll-out-DslxValue v) ∙ ap views.roll-DslxValue e

-- ---- core expressions

abbrev pub core_arm_den : Arm → CoreArmDen
core_arm_den = fold-Arm CoreDen CoreArmDen core_step arm_step

abbrev layer_value : CoreExpr-F CoreExpr Arm → CoreDen
layer_value x = core_step (map-CoreExpr CoreExpr Arm CoreDen CoreArmDen core_value core_arm_den x)

opened : (e : CoreExpr) (x : CoreExpr-F CoreExpr Arm) → out-CoreExpr e ≡ x → core_value e ≡ layer_value x
opened e x h = fold_out-CoreExpr CoreDen CoreArmDen core_step arm_step e ∙ ap layer_value h

pub core_literal : (v : Value) → core_value (core.Literal v) ≡ core_step (CoreExpr-F.Literal v)
core_literal v = opened (core.Literal v) (CoreExpr-F.Literal v) (core_views.outs-Literal v)

pub core_slot : (k : ℕ) → core_value (core.Slot k) ≡ core_step (CoreExpr-F.Slot k)
core_slot k = opened (core.Slot k) (CoreExpr-F.Slot k) (core_views.outs-Slot k)

pub core_tuple : (es : List CoreExpr) → core_value (core.Tuple es) ≡ core_step (CoreExpr-F.Tuple (map core_value es))
core_tuple es = opened (core.Tuple es) (CoreExpr-F.Tuple es) (core_views.outs-Tuple es)

pub core_array : (es : List CoreExpr) → core_value (core.Array es) ≡ core_step (CoreExpr-F.Array (map core_value es))
core_array es = opened (core.Array es) (CoreExpr-F.Array es) (core_views.outs-Array es)

pub core_unary : (o : CoreUnary) (e : CoreExpr) → core_value (core.Unary o e) ≡ core_step (CoreExpr-F.Unary o (core_value e))
core_unary o e = opened (core.Unary o e) (CoreExpr-F.Unary o e) (core_views.outs-Unary o e)

pub core_binary : (o : CoreBinary) (l r : CoreExpr) → core_value (core.Binary o l r) ≡ core_step (CoreExpr-F.Binary o (core_value l) (core_value r))
core_binary o l r = opened (core.Binary o l r) (CoreExpr-F.Binary o l r) (core_views.outs-Binary o l r)

pub core_cast : (s : Sign) (w : ℕ) (e : CoreExpr) → core_value (core.Cast s w e) ≡ core_step (CoreExpr-F.Cast s w (core_value e))
core_cast s w e = opened (core.Cast s w e) (CoreExpr-F.Cast s w e) (core_views.outs-Cast s w e)

pub core_slice : (e : CoreExpr) (from w : ℕ) → core_value (core.Slice e from w) ≡ core_step (CoreExpr-F.Slice (core_value e) from w)
core_slice e from w = opened (core.Slice e from w) (CoreExpr-F.Slice e from w) (core_views.outs-Slice e from w)

pub core_part : (e i : CoreExpr) (w : ℕ) → core_value (core.Part e i w) ≡ core_step (CoreExpr-F.Part (core_value e) (core_value i) w)
core_part e i w = opened (core.Part e i w) (CoreExpr-F.Part e i w) (core_views.outs-Part e i w)

pub core_element : (e : CoreExpr) (k : ℕ) → core_value (core.Element e k) ≡ core_step (CoreExpr-F.Element (core_value e) k)
core_element e k = opened (core.Element e k) (CoreExpr-F.Element e k) (core_views.outs-Element e k)

pub core_index : (e i : CoreExpr) → core_value (core.Index e i) ≡ core_step (CoreExpr-F.Index (core_value e) (core_value i))
core_index e i = opened (core.Index e i) (CoreExpr-F.Index e i) (core_views.outs-Index e i)

pub core_update : (e i v : CoreExpr) → core_value (core.Update e i v) ≡ core_step (CoreExpr-F.Update (core_value e) (core_value i) (core_value v))
core_update e i v = opened (core.Update e i v) (CoreExpr-F.Update e i v) (core_views.outs-Update e i v)

pub core_bind : (e : CoreExpr) (s : Shape) (body : CoreExpr) → core_value (core.Bind e s body) ≡ core_step (CoreExpr-F.Bind (core_value e) s (core_value body))
core_bind e s body = opened (core.Bind e s body) (CoreExpr-F.Bind e s body) (core_views.outs-Bind e s body)

pub core_choose : (c a b : CoreExpr) → core_value (core.Choose c a b) ≡ core_step (CoreExpr-F.Choose (core_value c) (core_value a) (core_value b))
core_choose c a b = opened (core.Choose c a b) (CoreExpr-F.Choose c a b) (core_views.outs-Choose c a b)

pub core_select : (e : CoreExpr) (arms : List Arm) → core_value (core.Select e arms) ≡ core_step (CoreExpr-F.Select (core_value e) (map core_arm_den arms))
core_select e arms = opened (core.Select e arms) (CoreExpr-F.Select e arms) (core_views.outs-Select e arms)

pub core_loop : (n : ℕ) (from : Word) (i acc : Shape) (body start : CoreExpr) → core_value (core.Loop n from i acc body start) ≡ core_step (CoreExpr-F.Loop n from i acc (core_value body) (core_value start))
core_loop n from i acc body start = opened (core.Loop n from i acc body start) (CoreExpr-F.Loop n from i acc body start) (core_views.outs-Loop n from i acc body start)

pub core_call : (f : ℕ) (es : List CoreExpr) → core_value (core.Call f es) ≡ core_step (CoreExpr-F.Call f (map core_value es))
core_call f es = opened (core.Call f es) (CoreExpr-F.Call f es) (core_views.outs-Call f es)

pub core_arm : (shapes : List Shape) (e : CoreExpr) → fold-Arm CoreDen CoreArmDen core_step arm_step (roll-Arm (record { shapes = shapes; value = e })) ≡ record { shapes = shapes; value = core_value e }
core_arm shapes e =
    fold_out-Arm CoreDen CoreArmDen core_step arm_step (roll-Arm (record { shapes = shapes; value = e }))
    ∙ ap (λ (a : Arm-F CoreExpr Arm). record { shapes = a.shapes; value = core_value a.value }) (core_views.out-roll-Arm (record { shapes = shapes; value = e }))

-- ---- shapes

shape_opened : (s : Shape) (x : Shape-F Shape) → out-Shape s ≡ x → taken_apart s ≡ shape_step (map-Shape Shape TakesApart taken_apart x)
shape_opened s x h = fold_out-Shape TakesApart shape_step s ∙ ap (λ y. shape_step (map-Shape Shape TakesApart taken_apart y)) h

pub shape_wild : taken_apart shape.Wild ≡ shape_step Shape-F.Wild
shape_wild = shape_opened shape.Wild Shape-F.Wild shape_views.outs-Wild

pub shape_bound : taken_apart shape.Bound ≡ shape_step Shape-F.Bound
shape_bound = shape_opened shape.Bound Shape-F.Bound shape_views.outs-Bound

pub shape_equal : (v : Value) → taken_apart (shape.Equal v) ≡ shape_step (Shape-F.Equal v)
shape_equal v = shape_opened (shape.Equal v) (Shape-F.Equal v) (shape_views.outs-Equal v)

pub shape_tuple : (ss : List Shape) → taken_apart (shape.Tuple ss) ≡ shape_step (Shape-F.Tuple (map taken_apart ss))
shape_tuple ss = shape_opened (shape.Tuple ss) (Shape-F.Tuple ss) (shape_views.outs-Tuple ss)
