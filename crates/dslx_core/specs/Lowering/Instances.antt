-- What it means that instances of functions stand for those of a text.
use Rattle.std.specs.Prelude.{◌≡◌, ℕ, List, [], ◌∷◌, map, true, Some, slice_get}
use Rattle.dslx_tree.specs.declared.item.Module.{Module}
use Rattle.dslx_tree.specs.declared.item.Function.{Function}
use Rattle.dslx_meaning.specs.Values.{plain_value}
use Rattle.dslx_meaning.specs.Environment.{Meanings}
use Rattle.dslx_meaning.specs.Items.{as_function, function_value, item_named, meanings_over}
use Rattle.dslx_meaning.specs.declared.value.DslxValue.{DslxValue}
use Rattle.dslx_core.specs.Typing.Typed.Kinds.{each_of, is_of}
use Rattle.dslx_core.specs.CoreValues.{Functions}
use Rattle.dslx_core.specs.Designs.{functions_from, no_function}
use Rattle.dslx_core.specs.Lowering.Correspondence.{IsOwn}
use Rattle.dslx_core.specs.Lowering.Functions.{CoreInstance, Instantiated, core_function}

-- constants and members that have a value are of its type
pub record ItemsAreOwn (items : Meanings) : Type 0 where
  pub constants : (name : List ℕ) (v : DslxValue) → items.constant name ≡ Some v → IsOwn v
  pub members : (name member : List ℕ) (v : DslxValue) → items.member name member ≡ Some v → IsOwn v

-- what these meanings have of a function is what its text gives over them
abbrev pub CallSettles : Module → Meanings → List ℕ → Type 0
CallSettles m items name = (given operands : List DslxValue) → (meanings_over m items).call name given operands ≡ items.call name given operands

-- so it is with the function of each of these instances
abbrev pub CallsSettle : Module → Meanings → List Instantiated → Type 0
CallsSettle m items [] = Unit {0}
CallsSettle m items (i ∷ is) = CallSettles m items i.name × CallsSettle m items is

-- for operands of the types of its arguments for which the text's function has a value, that value is of the type of the
-- result, and the function of this number has it
abbrev pub InstanceSimulates : Module → Meanings → Functions → ℕ → CoreInstance → Type 0
InstanceSimulates m items functions k i = (f : Function) (operands : List DslxValue) (v : DslxValue) → as_function (item_named i.name m.items) ≡ Some f
    → each_of (map is_of i.function.arguments) operands ≡ true → function_value items f i.parametric_args operands ≡ Some v
    → (is_of i.function.result v ≡ true) × (functions k (map plain_value operands) ≡ Some (plain_value v))

abbrev pub functions_of_instances : List CoreInstance → Functions
functions_of_instances instances = functions_from 0 (map core_function instances) no_function

-- each of them does
abbrev pub InstancesSimulate : Module → Meanings → List CoreInstance → Type 0
InstancesSimulate m items instances = (k : ℕ) (i : CoreInstance) → slice_get instances k ≡ Some i → InstanceSimulates m items (functions_of_instances instances) k i
