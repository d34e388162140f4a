-- What is promised of an expression that is lowered: where it has a type, its operand has its value.
use Rattle.std.specs.Prelude.{◌≡◌, ℕ, Bool, true, List, [], ◌++◌, map, length, get_or, Option, Some}
use Rattle.xb_bits.specs.Word.{Word}
use Rattle.xb_value.specs.declared.ty.Ty.{Ty}
use Rattle.xb_value.specs.declared.ty.Ty as types_of
use Rattle.xb_value.specs.declared.value.Value.{Value}
use Rattle.xb_value.specs.declared.value.Value as values_of
use Rattle.ir_tree.specs.declared.node.Operand.{Operand}
use Rattle.ir_tree.specs.declared.node.Operand.TheVariants as operand
use Rattle.ir_tree.specs.NodeValues.{operand_value}
use Rattle.ir_rebuild.specs.Built.{AreValues}
use Rattle.ir_rebuild.specs.declared.putting.nodes.Nodes.{Nodes}
use Rattle.ir_rebuild.specs.Putting.Types.{ir_type_of}
use Rattle.ir_rebuild.specs.Putting.Given.{GrowsTo, HasType, IsBuilt, OperandsHaveTypes}
use Rattle.dslx_core.specs.CoreValues.{Functions, CoreDen, CoreArmDen, core_value, core_step, arm_step, select, one_turn}
use Rattle.dslx_core.specs.declared.design.Function.{Function}
use Rattle.dslx_core.specs.declared.expr.CoreExpr.{CoreExpr}
use Rattle.dslx_core.specs.declared.expr.Arm.{Arm, fold-Arm}
use Rattle.dslx_core.specs.declared.expr.Shape.{Shape}
use Rattle.dslx_core.specs.Types.Typing.{FunctionTypes, Typing, CoreArmTyping, is_sound_word, binds_types, arm_binds, arms_type, shapes_of, some_fits}
use Rattle.dslx_core.specs.Types.Designs.{FunctionSignature}
use Rattle.ir_lower_nodes.specs.Words.Given.{LoweredTo}
use Rattle.ir_lower_nodes.specs.Patterns.Shapes.{arm_parts}
use Rattle.ir_lower_nodes.specs.Exprs.NodeTypes.{node_type, arm_node_type}
use Rattle.ir_lower_nodes.specs.Exprs.Calls.{AreNodeFunctions, calls_below, types_below}

-- the operand of this number; the state where there is none
abbrev pub slot_or_state : List Operand → ℕ → Operand
slot_or_state slots k = get_or slots k operand.State

-- the values of what is bound
abbrev pub bound_by : List Operand → Value → List Value → List Value
bound_by slots s values = map (operand_value s values) slots

-- ---- by what is said of types and values

abbrev pub LowersBy : FunctionTypes → Functions → Typing → CoreDen → List Operand → Nodes → Nodes → Operand → Type 0
LowersBy functions calls q d slots old new o =
    (types : List Ty) (t : Ty) → IsBuilt old → OperandsHaveTypes old slots (map ir_type_of types) → q functions types ≡ Some t →
    LoweredTo old new o t (λ s values. d calls (bound_by slots s values))

-- each has its type and its value
pub record EachLowered (old new : Nodes) (os : List Operand) (us : List Ty) (f : Value → List Value → List (Option Value)) : Type 0 where
  pub grows : GrowsTo old new
  pub have : OperandsHaveTypes new os (map ir_type_of us)
  pub values : (s : Value) (values : List Value) → AreValues new.state new.list.items s values → f s values ≡ map Some (bound_by os s values)

abbrev pub EachLowersBy : FunctionTypes → Functions → List Typing → List CoreDen → List Operand → Nodes → Nodes → List Operand → Type 0
EachLowersBy functions calls qs ds slots old new os =
    (types us : List Ty) → IsBuilt old → OperandsHaveTypes old slots (map ir_type_of types) → map (λ (q : Typing). q functions types) qs ≡ map Some us →
    EachLowered old new os us (λ s values. map (λ (d : CoreDen). d calls (bound_by slots s values)) ds)

-- what is lowered over what an arm binds: nothing, where its types say so
pub record ArmLowered (old new : Nodes) (o : Operand) (t : Ty) (IsNone : Type 0) (parts : Value → List Value → List Value) (f : Value → List Value → List Value → Option Value) : Type 0 where
  pub lowered : LoweredTo old new o t (λ s values. f s values (parts s values))
  pub none : (s : Value) (values : List Value) → AreValues new.state new.list.items s values → IsNone → parts s values ≡ []

-- an arm, over what it binds of the value of an operand
abbrev pub ArmLowersBy : FunctionTypes → Functions → CoreArmTyping → CoreArmDen → Operand → List Operand → Nodes → Nodes → Operand → Type 0
ArmLowersBy functions calls q d a slots old new o =
    (types more : List Ty) (t u : Ty) → IsBuilt old → OperandsHaveTypes old slots (map ir_type_of types) → HasType old a (ir_type_of t) →
    arm_binds q.shapes t types ≡ Some more → q.value functions more ≡ Some u →
    ArmLowered old new o u (length more ≡ length types) (λ s values. arm_parts q.shapes (operand_value s values a)) (λ s values inner. d.value calls (bound_by slots s values ++ inner))

-- what is lowered where this holds of the values
pub record LowersWhere (old new : Nodes) (o : Operand) (t : Ty) (P : Value → List Value → Type 0) (f : Value → List Value → Option Value) : Type 0 where
  pub grows : GrowsTo old new
  pub has : HasType new o (ir_type_of t)
  pub value : (s : Value) (values : List Value) → AreValues new.state new.list.items s values → P s values → f s values ≡ Some (operand_value s values o)

-- arms, where each value fits some arm if types need it
abbrev pub ArmsLowerBy : FunctionTypes → Functions → List CoreArmTyping → List CoreArmDen → Operand → List Operand → Nodes → Nodes → Operand → Type 0
ArmsLowerBy functions calls qs ds a slots old new o =
    (types : List Ty) (t u : Ty) (whole : Bool) → IsBuilt old → OperandsHaveTypes old slots (map ir_type_of types) → HasType old a (ir_type_of t) →
    arms_type whole functions types t qs ≡ Some u →
    LowersWhere old new o u
    (λ s values. whole ≡ true → some_fits (shapes_of qs) (operand_value s values a) ≡ true)
    (λ s values. select ds (operand_value s values a) calls (bound_by slots s values))

-- ---- expressions, whose functions have signatures

abbrev pub Lowers : List Function → CoreExpr → List Operand → Nodes → Nodes → Operand → Type 0
Lowers fs e slots old new o =
    (signatures : List FunctionSignature) (n : ℕ) → AreNodeFunctions signatures fs → LowersBy (types_below n signatures) (calls_below n fs) (node_type e) (core_value e) slots old new o

abbrev pub EachLowers : List Function → List CoreExpr → List Operand → Nodes → Nodes → List Operand → Type 0
EachLowers fs es slots old new os =
    (signatures : List FunctionSignature) (n : ℕ) → AreNodeFunctions signatures fs → EachLowersBy (types_below n signatures) (calls_below n fs) (map node_type es) (map core_value es) slots old new os

abbrev pub arm_value : Arm → CoreArmDen
arm_value = fold-Arm CoreDen CoreArmDen core_step arm_step

abbrev pub ArmLowers : List Function → Arm → Operand → List Operand → Nodes → Nodes → Operand → Type 0
ArmLowers fs arm a slots old new o =
    (signatures : List FunctionSignature) (n : ℕ) → AreNodeFunctions signatures fs → ArmLowersBy (types_below n signatures) (calls_below n fs) (arm_node_type arm) (arm_value arm) a slots old new o

abbrev pub ArmsLower : List Function → List Arm → Operand → List Operand → Nodes → Nodes → Operand → Type 0
ArmsLower fs arms a slots old new o =
    (signatures : List FunctionSignature) (n : ℕ) → AreNodeFunctions signatures fs → ArmsLowerBy (types_below n signatures) (calls_below n fs) (map arm_node_type arms) (map arm_value arms) a slots old new o

-- a turn of a loop at an index
abbrev pub TurnLowers : List Function → Shape → Shape → CoreExpr → Word → Operand → List Operand → Nodes → Nodes → Operand → Type 0
TurnLowers fs index shape body place a slots old new o =
    (signatures : List FunctionSignature) (n : ℕ) → AreNodeFunctions signatures fs →
    (types inner both : List Ty) (t : Ty) → IsBuilt old → OperandsHaveTypes old slots (map ir_type_of types) → HasType old a (ir_type_of t) → is_sound_word place ≡ true →
    binds_types true index (types_of.Bits place.width) types ≡ Some inner → binds_types true shape t inner ≡ Some both → node_type body (types_below n signatures) both ≡ Some t →
    LoweredTo old new o t (λ s values. one_turn index shape (core_value body) (calls_below n fs) (bound_by slots s values) (values_of.Bits place) (operand_value s values a))
