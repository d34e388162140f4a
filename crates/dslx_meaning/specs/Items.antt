-- What the items of a module mean: the values of constants, enum members and calls, and the types that are named.
use Rattle.std.specs.Prelude.{ℕ, zero, suc, List, [], ◌∷◌, ◌++◌, ◌==◌, map, Bool, true, false, Option, Some, None, length, if◌then◌else◌}
use Rattle.std.specs.Str.{bytes_eq}
use Rattle.dslx_tree.specs.declared.item.Module.{Module}
use Rattle.dslx_tree.specs.declared.item.Item.{Item}
use Rattle.dslx_tree.specs.declared.item.Definition.{Definition}
use Rattle.dslx_tree.specs.declared.item.Definition.TheVariants as d
use Rattle.dslx_tree.specs.declared.item.Function.{Function}
use Rattle.dslx_tree.specs.declared.item.Parametric.{Parametric}
use Rattle.dslx_tree.specs.declared.item.Constant.{Constant}
use Rattle.dslx_tree.specs.declared.item.Field.{Field}
use Rattle.dslx_tree.specs.declared.item.Struct.{Struct}
use Rattle.dslx_tree.specs.declared.item.Enum.{Enum}
use Rattle.dslx_tree.specs.declared.item.Member.{Member}
use Rattle.dslx_meaning.specs.Lists.{all_some, and_then, where_true}
use Rattle.dslx_meaning.specs.Types.{bits_in, same_type}
use Rattle.dslx_meaning.specs.Values.{type_of_value, bits_of}
use Rattle.dslx_meaning.specs.Operators.{number_value}
use Rattle.dslx_meaning.specs.Environment.{Meanings, Given, Env, outside}
use Rattle.dslx_meaning.specs.Meaning.{ExprDen, denotation, value_of, value_of_block, written_type}
use Rattle.dslx_meaning.specs.Inference.{Inferred, inferred_in, inferred_for}
use Rattle.dslx_meaning.specs.declared.ty.DslxType.{DslxType}
use Rattle.dslx_meaning.specs.declared.ty.DslxType as ty
use Rattle.dslx_meaning.specs.declared.value.DslxValue.{DslxValue}
use Rattle.dslx_meaning.specs.declared.value.DslxValue as value
use Rattle.dslx_meaning.specs.declared.ty.BitKind.{BitKind}
use Rattle.dslx_meaning.specs.declared.value.UntypedLiteral.{UntypedLiteral}

-- ---- items by their names

abbrev pub name_of_definition : Definition → List ℕ
name_of_definition (d.Function f) = f.name.name
name_of_definition (d.Proc p) = p.name.name
name_of_definition (d.Constant c) = c.name.name
name_of_definition (d.Alias a) = a.name.name
name_of_definition (d.Struct s) = s.name.name
name_of_definition (d.Enum e) = e.name.name

-- the first item of a name, which every use of the name means
abbrev pub item_named : List ℕ → List Item → Option Definition
item_named name [] = None
item_named name (i ∷ is) = if bytes_eq name (name_of_definition i.definition) then Some i.definition else item_named name is

abbrev pub as_function : Option Definition → Option Function
as_function (Some (d.Function f)) = Some f
as_function _ = None

abbrev pub as_constant : Option Definition → Option Constant
as_constant (Some (d.Constant c)) = Some c
as_constant _ = None

abbrev pub as_struct : Option Definition → Option Struct
as_struct (Some (d.Struct s)) = Some s
as_struct _ = None

abbrev pub as_enum : Option Definition → Option Enum
as_enum (Some (d.Enum e)) = Some e
as_enum _ = None

-- ---- parametrics

-- what is bound, and a parametric with its value
abbrev pub with_number : List Given → Parametric → DslxValue → List Given
with_number so_far p v = record { name = p.name.name; value = v } ∷ so_far

-- what a parametric is where it isn't given: what the arguments infer, or else its default, which sees the parametrics before it
abbrev pub inferred_value : Env → Parametric → Option ℕ → Option DslxValue
inferred_value env p None = and_then p.default (λ e. value_of e env)
inferred_value env p (Some n) = and_then (written_type p.ty env) (λ t. number_value t (record { is_negative = false; value = n }))

abbrev pub put_first : {A : Type 0} → A → Option (List A) → Option (List A)
put_first a None = None
put_first a (Some as') = Some (a ∷ as')

-- the values of all parametrics, from those that are given, where arguments infer these numbers
abbrev pub all_parametric_args : Meanings → List Inferred → List Given → List Parametric → List DslxValue → Option (List DslxValue)
all_parametric_args items inferred so_far [] [] = Some []
all_parametric_args items inferred so_far [] (v ∷ vs) = None
all_parametric_args items inferred so_far (p ∷ ps) (v ∷ vs) = put_first v (all_parametric_args items inferred (with_number so_far p v) ps vs)
all_parametric_args items inferred so_far (p ∷ ps) [] =
    and_then (inferred_value (record { items = items; bound = so_far }) p (inferred_for p.name.name inferred))
    (λ v. put_first v (all_parametric_args items inferred (with_number so_far p v) ps []))

-- the parametrics with their values, the last one first
abbrev pub parametric_args_bound : List Given → List Parametric → List DslxValue → List Given
parametric_args_bound so_far [] vs = so_far
parametric_args_bound so_far (p ∷ ps) [] = so_far
parametric_args_bound so_far (p ∷ ps) (v ∷ vs) = parametric_args_bound (with_number so_far p v) ps vs

abbrev pub operands_bound : List Given → List Field → List DslxValue → List Given
operands_bound so_far [] vs = so_far
operands_bound so_far (f ∷ fs) [] = so_far
operands_bound so_far (f ∷ fs) (v ∷ vs) = operands_bound (record { name = f.name.name; value = v } ∷ so_far) fs vs

-- the environment in an instance
abbrev pub instance_env : Meanings → List Parametric → List DslxValue → Env
instance_env items parametrics parametric_args = record { items = items; bound = parametric_args_bound [] parametrics parametric_args }

-- ---- functions

-- an instance of a function at its operands
abbrev pub function_value : Meanings → Function → List DslxValue → List DslxValue → Option DslxValue
function_value items f parametric_args operands =
    where_true (length operands == length f.arguments)
    (value_of_block f.body (record { items = items; bound = operands_bound (parametric_args_bound [] f.parametrics parametric_args) f.arguments operands }))

-- what operands of these types infer
abbrev pub inferred_from : List Field → List DslxType → List Inferred
inferred_from [] ts = []
inferred_from (f ∷ fs) [] = []
inferred_from (f ∷ fs) (t ∷ ts) = inferred_in f.ty t ++ inferred_from fs ts

-- a call, by the parametric arguments that are written
abbrev pub call_of : Meanings → Function → List DslxValue → List DslxValue → Option DslxValue
call_of items f given operands =
    and_then (all_parametric_args items (inferred_from f.arguments (map type_of_value operands)) [] f.parametrics given)
    (λ parametric_args. function_value items f parametric_args operands)

-- ---- constants and types

abbrev pub constant_value : Meanings → Constant → Option DslxValue
constant_value items c = value_of c.value (outside items)

-- an enum's base
abbrev pub base_of : Meanings → Enum → Option BitKind
base_of items e = and_then (written_type e.base (outside items)) bits_in

-- the value of a member: a number without a type, or bits of the base
abbrev pub member_bits : Meanings → BitKind → ExprDen → Option DslxValue
member_bits items kind m = in_base m.bare
  where
    in_base : Option UntypedLiteral → Option DslxValue
    in_base None = and_then (m.value (outside items)) (λ v. where_true (same_type (type_of_value v) (ty.Bits kind.signed kind.width)) (Some v))
    in_base (Some number) = number_value (ty.Bits kind.signed kind.width) number

abbrev pub enum_member : List ℕ → DslxValue → Option DslxValue
enum_member name v = and_then (bits_of v) (λ x. Some (value.Enum name x.signed x.word))

abbrev pub member_value : Meanings → Enum → Member → Option DslxValue
member_value items e m = and_then (base_of items e) (λ kind. and_then (member_bits items kind (denotation m.value)) (enum_member e.name.name))

abbrev pub member_named : List ℕ → List Member → Option Member
member_named name [] = None
member_named name (m ∷ ms) = if bytes_eq name m.name.name then Some m else member_named name ms

abbrev pub name_of_field : Field → List ℕ
name_of_field f = f.name.name

abbrev pub struct_type : Meanings → Struct → Option DslxType
struct_type items s =
    and_then (all_some (map (λ (f : Field). written_type f.ty (outside items)) s.fields)) (λ ts. Some (ty.Struct s.name.name (map name_of_field s.fields) ts))

abbrev pub enum_type : Meanings → Enum → Option DslxType
enum_type items e = and_then (base_of items e) (λ kind. Some (ty.Enum e.name.name kind.signed kind.width))

abbrev pub type_of_item : Meanings → Option Definition → Option DslxType
type_of_item items (Some (d.Alias a)) = written_type a.ty (outside items)
type_of_item items (Some (d.Struct s)) = struct_type items s
type_of_item items (Some (d.Enum e)) = enum_type items e
type_of_item items _ = None

abbrev pub is_constant_item : Option Definition → Bool
is_constant_item (Some (d.Constant c)) = true
is_constant_item _ = false

-- ---- the module

-- nothing has a meaning
abbrev pub nothing_known : Meanings
nothing_known = record {
  type_named = λ name. None;
  struct_named = λ name. None;
  is_constant = λ name. false;
  constant = λ name. None;
  member = λ name a. None;
  call = λ name parametric_args operands. None;
}

-- what the items mean, where what they mention means this
abbrev pub meanings_over : Module → Meanings → Meanings
meanings_over m items = record {
  type_named = λ name. type_of_item items (item_named name m.items);
  struct_named = λ name. and_then (as_struct (item_named name m.items)) (struct_type items);
  is_constant = λ name. is_constant_item (item_named name m.items);
  constant = λ name. and_then (as_constant (item_named name m.items)) (constant_value items);
  member = λ name a. and_then (as_enum (item_named name m.items)) (λ e. and_then (member_named a e.members) (member_value items e));
  call = λ name parametric_args operands. and_then (as_function (item_named name m.items)) (λ f. call_of items f parametric_args operands);
}

-- what the items mean to a use that stands at the head of a chain of at most so many items, each of which mentions the
-- next. No chain is longer than the list of items, unless an item reaches itself, which rule 3 refuses
abbrev pub meanings_within : Module → ℕ → Meanings
meanings_within m zero = nothing_known
meanings_within m (suc n) = meanings_over m (meanings_within m n)

-- what the items of a module mean
abbrev pub meanings_of : Module → Meanings
meanings_of m = meanings_within m (length m.items)
