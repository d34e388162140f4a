-- Which shape a pattern is lowered to, and what is bound behind it.
use Rattle.std.specs.Prelude.{ℕ, List, [], ◌∷◌, ◌++◌, ◌&&◌, ◌^◌, nat_lt, map, Option, Some, None, if◌then◌else◌}
use Rattle.std.specs.List.{list_all}
use Rattle.dslx_meaning.specs.Lists.{all_some, and_then, with_both, where_true}
use Rattle.dslx_meaning.specs.Values.{plain_value, type_of_value}
use Rattle.dslx_meaning.specs.Meaning.{turn_count}
use Rattle.dslx_meaning.specs.declared.ty.DslxType.{DslxType}
use Rattle.dslx_meaning.specs.declared.ty.DslxType.TheOpen.{DslxType-F}
use Rattle.dslx_meaning.specs.declared.value.DslxValue.{DslxValue}
use Rattle.dslx_meaning.specs.declared.value.SignedWord.{SignedWord}
use Rattle.dslx_core.specs.declared.expr.Shape.{Shape}
use Rattle.dslx_core.specs.declared.expr.Shape as shape
use Rattle.dslx_core.specs.declared.expr.Arm.{roll-Arm}
use Rattle.dslx_core.specs.declared.expr.CoreExpr as core
use Rattle.dslx_core.specs.Lowering.EqualTypes.{equal_type}
use Rattle.dslx_core.specs.Lowering.CoreScopes.{CoreScope, with_local}
use Rattle.dslx_core.specs.Lowering.Lowering.{LoweredExpr, lowered}
use Rattle.dslx_core.specs.declared.lowering.expr.LoweredArm as arm_data

-- what an expression is lowered to in each scope
abbrev pub ExprLowering : Type 0
ExprLowering = CoreScope → Option LoweredExpr

-- a shape, and the scope behind it
pub record LoweredShape : Type 0 where
  pub shape : Shape
  pub scope : CoreScope

-- a pattern: the names in it, and what it is lowered to against values of a type, by the scope of the whole pattern, where its numbers
-- are evaluated, and the scope behind what is bound so far
pub record PatternLowering : Type 0 where
  pub names : List (List ℕ)
  pub lower : CoreScope → CoreScope → DslxType → Option LoweredShape

-- in its own scope
abbrev pub lower_in_scope : PatternLowering → CoreScope → DslxType → Option LoweredShape
lower_in_scope p scope t = p.lower scope scope t

abbrev pub shaped : Shape → CoreScope → Option LoweredShape
shaped s scope = Some (record { shape = s; scope = scope })

-- a pattern that is one value of the type
abbrev pub value_shape : Option DslxValue → CoreScope → DslxType → Option LoweredShape
value_shape v scope t = and_then v (λ v. where_true (equal_type t (type_of_value v)) (shaped (shape.Equal (plain_value v)) scope))

-- a name that is bound, or a constant's
abbrev pub name_shape : List ℕ → CoreScope → DslxType → Option LoweredShape
name_shape name scope t =
    if scope.known.items.is_constant name then value_shape (scope.known.items.constant name) scope t else shaped shape.Bound (with_local name t scope)

pub record LoweredShapes : Type 0 where
  pub shapes : List Shape
  pub scope : CoreScope

-- the parts in order, each behind those before it
abbrev pub parts_shaped : List PatternLowering → List DslxType → CoreScope → CoreScope → Option LoweredShapes
parts_shaped [] [] outer scope = Some (record { shapes = []; scope = scope })
parts_shaped (p ∷ ps) (t ∷ ts) outer scope =
    and_then (p.lower outer scope t) (λ s. and_then (parts_shaped ps ts outer s.scope) (λ r. Some (record { shapes = s.shape ∷ r.shapes; scope = r.scope })))
parts_shaped [] (t ∷ ts) outer scope = None
parts_shaped (p ∷ ps) [] outer scope = None

abbrev pub tuple_shape : List PatternLowering → CoreScope → CoreScope → DslxType-F DslxType → Option LoweredShape
tuple_shape ps outer scope (DslxType-F.Tuple ts) = and_then (parts_shaped ps ts outer scope) (λ r. shaped (shape.Tuple r.shapes) r.scope)
tuple_shape ps outer scope _ = None

abbrev pub names_of_all : List PatternLowering → List (List ℕ)
names_of_all [] = []
names_of_all (p ∷ ps) = p.names ++ names_of_all ps

-- ---- match

pub record ArmLowering : Type 0 where
  pub patterns : List PatternLowering
  pub value : ExprLowering

-- an arm, and the type of its value
abbrev pub LoweredArm : Type 0
LoweredArm = arm_data.LoweredArm

abbrev pub arm_of : List Shape → LoweredExpr → Option LoweredArm
arm_of shapes e = Some (record { arm = roll-Arm (record { shapes = shapes; value = e.core }); ty = e.ty })

-- each alternative in this scope
abbrev pub alternatives_shaped : List PatternLowering → CoreScope → DslxType → Option (List Shape)
alternatives_shaped [] scope t = Some []
alternatives_shaped (p ∷ ps) scope t = with_both (lower_in_scope p scope t) (alternatives_shaped ps scope t) (λ s ss. Some (s.shape ∷ ss))

-- the one pattern of an arm may bind names
abbrev pub binding_arm : List PatternLowering → ExprLowering → CoreScope → DslxType → Option LoweredArm
binding_arm (p ∷ []) value scope t = and_then (lower_in_scope p scope t) (λ s. and_then (value s.scope) (arm_of (s.shape ∷ [])))
binding_arm _ value scope t = None

abbrev pub lower_arm : ArmLowering → CoreScope → DslxType → Option LoweredArm
lower_arm a scope t =
    if list_all scope.known.items.is_constant (names_of_all a.patterns)
    then with_both (alternatives_shaped a.patterns scope t) (a.value scope) arm_of
    else binding_arm a.patterns a.value scope t

abbrev pub arms_of : LoweredExpr → List LoweredArm → Option LoweredExpr
arms_of e [] = None
arms_of e (a ∷ as') =
    where_true (list_all (λ (c : LoweredArm). equal_type a.ty c.ty) as') (lowered (core.Select e.core (map (λ (c : LoweredArm). c.arm) (a ∷ as'))) a.ty)

abbrev pub lower_match : Option LoweredExpr → List ArmLowering → CoreScope → Option LoweredExpr
lower_match e arms scope = and_then e (λ e. and_then (all_some (map (λ (a : ArmLowering). lower_arm a scope e.ty) arms)) (arms_of e))

-- ---- loops

-- the first index and the one behind the last are constants; a turn gives what is accumulated its type again
abbrev pub lower_loop : Option LoweredExpr → Option LoweredExpr → Option SignedWord → Option SignedWord → PatternLowering → PatternLowering → ExprLowering → CoreScope → Option LoweredExpr
lower_loop start index first end i acc body scope =
    with_both start index (λ start index.
    with_both first end (λ a b.
    and_then (lower_in_scope i scope index.ty) (λ i.
    and_then (lower_in_scope acc i.scope start.ty) (λ acc.
    and_then (body acc.scope) (λ body.
    where_true (equal_type start.ty body.ty && nat_lt (turn_count a b) (2 ^ 64))
    (lowered (core.Loop (turn_count a b) a.word i.shape acc.shape body.core start.core) start.ty))))))

-- ---- blocks

-- the rest of a block behind a `let`
abbrev pub lower_let : ExprLowering → PatternLowering → ExprLowering → ExprLowering
lower_let value pattern rest scope =
    and_then (value scope) (λ e. and_then (lower_in_scope pattern scope e.ty) (λ s. and_then (rest s.scope) (λ r. lowered (core.Bind e.core s.shape r.core) r.ty)))
