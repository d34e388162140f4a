-- The types of expressions and of shapes at each of their kinds.
use Rattle.std.proofs.Common.{◌≡◌, ℕ, Bool, List, map, ap, ◌∙◌}
use Rattle.xb_bits.specs.Word.{Word}
use Rattle.xb_value.specs.declared.value.Value.{Value}
use Rattle.dslx_core.specs.declared.expr.CoreUnary.{CoreUnary}
use Rattle.dslx_core.specs.declared.expr.CoreBinary.{CoreBinary}
use Rattle.dslx_core.specs.declared.expr.Sign.{Sign}
use Rattle.dslx_core.specs.declared.expr.CoreExpr.{CoreExpr, out-CoreExpr}
use Rattle.dslx_core.specs.declared.expr.CoreExpr as core
use Rattle.dslx_core.specs.declared.expr.CoreExpr.TheOpen.{CoreExpr-F}
use Rattle.dslx_core.specs.declared.expr.CoreExpr.TheViews as core_views
use Rattle.dslx_core.specs.declared.expr.CoreExpr.TheFolds.{map-CoreExpr, fold_out-CoreExpr, fold_out-Arm}
use Rattle.dslx_core.specs.declared.expr.Arm.{Arm, Arm-F, roll-Arm, fold-Arm}
use Rattle.dslx_core.specs.declared.expr.Shape.{Shape, out-Shape}
use Rattle.dslx_core.specs.declared.expr.Shape as shape
use Rattle.dslx_core.specs.declared.expr.Shape.TheOpen.{Shape-F}
use Rattle.dslx_core.specs.declared.expr.Shape.TheViews as shape_views
use Rattle.dslx_core.specs.declared.expr.Shape.TheFolds.{map-Shape, fold_out-Shape}
use Rattle.dslx_core.specs.Types.Typing.{BindsTypes, CoreArmTyping, Typing, arm_typing, binds_step, binds_types, core_type, typing_step}

abbrev pub arm_of_core : Arm → CoreArmTyping
arm_of_core = fold-Arm Typing CoreArmTyping typing_step arm_typing

abbrev layer_type : CoreExpr-F CoreExpr Arm → Typing
layer_type x = typing_step (map-CoreExpr CoreExpr Arm Typing CoreArmTyping core_type arm_of_core x)

opened : (e : CoreExpr) (x : CoreExpr-F CoreExpr Arm) → out-CoreExpr e ≡ x → core_type e ≡ layer_type x
opened e x h = fold_out-CoreExpr Typing CoreArmTyping typing_step arm_typing e ∙ ap layer_type h

pub type_literal : (v : Value) → core_type (core.Literal v) ≡ typing_step (CoreExpr-F.Literal v)
type_literal v = opened (core.Literal v) (CoreExpr-F.Literal v) (core_views.outs-Literal v)

pub type_slot : (k : ℕ) → core_type (core.Slot k) ≡ typing_step (CoreExpr-F.Slot k)
type_slot k = opened (core.Slot k) (CoreExpr-F.Slot k) (core_views.outs-Slot k)

pub type_tuple : (es : List CoreExpr) → core_type (core.Tuple es) ≡ typing_step (CoreExpr-F.Tuple (map core_type es))
type_tuple es = opened (core.Tuple es) (CoreExpr-F.Tuple es) (core_views.outs-Tuple es)

pub type_array : (es : List CoreExpr) → core_type (core.Array es) ≡ typing_step (CoreExpr-F.Array (map core_type es))
type_array es = opened (core.Array es) (CoreExpr-F.Array es) (core_views.outs-Array es)

pub type_unary : (o : CoreUnary) (e : CoreExpr) → core_type (core.Unary o e) ≡ typing_step (CoreExpr-F.Unary o (core_type e))
type_unary o e = opened (core.Unary o e) (CoreExpr-F.Unary o e) (core_views.outs-Unary o e)

pub type_binary : (o : CoreBinary) (l r : CoreExpr) → core_type (core.Binary o l r) ≡ typing_step (CoreExpr-F.Binary o (core_type l) (core_type r))
type_binary o l r = opened (core.Binary o l r) (CoreExpr-F.Binary o l r) (core_views.outs-Binary o l r)

pub type_cast : (s : Sign) (w : ℕ) (e : CoreExpr) → core_type (core.Cast s w e) ≡ typing_step (CoreExpr-F.Cast s w (core_type e))
type_cast s w e = opened (core.Cast s w e) (CoreExpr-F.Cast s w e) (core_views.outs-Cast s w e)

pub type_slice : (e : CoreExpr) (from w : ℕ) → core_type (core.Slice e from w) ≡ typing_step (CoreExpr-F.Slice (core_type e) from w)
type_slice e from w = opened (core.Slice e from w) (CoreExpr-F.Slice e from w) (core_views.outs-Slice e from w)

pub type_part : (e i : CoreExpr) (w : ℕ) → core_type (core.Part e i w) ≡ typing_step (CoreExpr-F.Part (core_type e) (core_type i) w)
type_part e i w = opened (core.Part e i w) (CoreExpr-F.Part e i w) (core_views.outs-Part e i w)

pub type_element : (e : CoreExpr) (k : ℕ) → core_type (core.Element e k) ≡ typing_step (CoreExpr-F.Element (core_type e) k)
type_element e k = opened (core.Element e k) (CoreExpr-F.Element e k) (core_views.outs-Element e k)

pub type_index : (e i : CoreExpr) → core_type (core.Index e i) ≡ typing_step (CoreExpr-F.Index (core_type e) (core_type i))
type_index e i = opened (core.Index e i) (CoreExpr-F.Index e i) (core_views.outs-Index e i)

pub type_update : (e i v : CoreExpr) → core_type (core.Update e i v) ≡ typing_step (CoreExpr-F.Update (core_type e) (core_type i) (core_type v))
type_update e i v = opened (core.Update e i v) (CoreExpr-F.Update e i v) (core_views.outs-Update e i v)

pub type_bind : (e : CoreExpr) (s : Shape) (body : CoreExpr) → core_type (core.Bind e s body) ≡ typing_step (CoreExpr-F.Bind (core_type e) s (core_type body))
type_bind e s body = opened (core.Bind e s body) (CoreExpr-F.Bind e s body) (core_views.outs-Bind e s body)

pub type_choose : (c a b : CoreExpr) → core_type (core.Choose c a b) ≡ typing_step (CoreExpr-F.Choose (core_type c) (core_type a) (core_type b))
type_choose c a b = opened (core.Choose c a b) (CoreExpr-F.Choose c a b) (core_views.outs-Choose c a b)

pub type_select : (e : CoreExpr) (arms : List Arm) → core_type (core.Select e arms) ≡ typing_step (CoreExpr-F.Select (core_type e) (map arm_of_core arms))
type_select e arms = opened (core.Select e arms) (CoreExpr-F.Select e arms) (core_views.outs-Select e arms)

pub type_loop : (n : ℕ) (from : Word) (i acc : Shape) (body start : CoreExpr) → core_type (core.Loop n from i acc body start) ≡ typing_step (CoreExpr-F.Loop n from i acc (core_type body) (core_type start))
type_loop n from i acc body start = opened (core.Loop n from i acc body start) (CoreExpr-F.Loop n from i acc body start) (core_views.outs-Loop n from i acc body start)

pub type_call : (f : ℕ) (es : List CoreExpr) → core_type (core.Call f es) ≡ typing_step (CoreExpr-F.Call f (map core_type es))
type_call f es = opened (core.Call f es) (CoreExpr-F.Call f es) (core_views.outs-Call f es)

pub type_arm : (shapes : List Shape) (e : CoreExpr) → arm_of_core (roll-Arm (record { shapes = shapes; value = e })) ≡ record { shapes = shapes; value = core_type e }
type_arm shapes e =
    fold_out-Arm Typing CoreArmTyping typing_step arm_typing (roll-Arm (record { shapes = shapes; value = e }))
    ∙ ap (λ (a : Arm-F CoreExpr Arm). record { shapes = a.shapes; value = core_type a.value }) (core_views.out-roll-Arm (record { shapes = shapes; value = e }))

-- ---- shapes

shape_opened : (certain : Bool) (s : Shape) (x : Shape-F Shape) → out-Shape s ≡ x → binds_types certain s ≡ binds_step certain (map-Shape Shape BindsTypes (binds_types certain) x)
shape_opened certain s x h = fold_out-Shape BindsTypes (binds_step certain) s ∙ ap (λ y. binds_step certain (map-Shape Shape BindsTypes (binds_types certain) y)) h

pub binds_wild : (certain : Bool) → binds_types certain shape.Wild ≡ binds_step certain Shape-F.Wild
binds_wild certain = shape_opened certain shape.Wild Shape-F.Wild shape_views.outs-Wild

pub binds_bound : (certain : Bool) → binds_types certain shape.Bound ≡ binds_step certain Shape-F.Bound
binds_bound certain = shape_opened certain shape.Bound Shape-F.Bound shape_views.outs-Bound

pub binds_equal : (certain : Bool) (v : Value) → binds_types certain (shape.Equal v) ≡ binds_step certain (Shape-F.Equal v)
binds_equal certain v = shape_opened certain (shape.Equal v) (Shape-F.Equal v) (shape_views.outs-Equal v)

pub binds_tuple : (certain : Bool) (ss : List Shape) → binds_types certain (shape.Tuple ss) ≡ binds_step certain (Shape-F.Tuple (map (binds_types certain) ss))
binds_tuple certain ss = shape_opened certain (shape.Tuple ss) (Shape-F.Tuple ss) (shape_views.outs-Tuple ss)
