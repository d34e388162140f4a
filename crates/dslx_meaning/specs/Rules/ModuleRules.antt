-- All rules that the parts of a module break and all limits that they pass, and the one fault that is named.
use Rattle.std.specs.Prelude.{ℕ, zero, suc, List, [], ◌∷◌, ◌++◌, ◌*◌, ◌&&◌, nat_lt, map, flat_map, Bool, false, not, Option, Some, None, length, if◌then◌else◌}
use Rattle.std.specs.List.{list_any, list_all}
use Rattle.xb_span.specs.declared.span.Span.{Span}
use Rattle.xb_span.specs.declared.fault.Fault.{Fault}
use Rattle.xb_span.specs.declared.fault.Fault.TheVariants.{Whole}
use Rattle.xb_span.specs.declared.limit.What.TheVariants as what
use Rattle.xb_span.specs.Fault.{first_of}
use Rattle.xb_span.specs.Spans.{nowhere}
use Rattle.dslx_tree.specs.declared.ident.Ident.{Ident}
use Rattle.dslx_tree.specs.declared.expr.Expr.{Expr}
use Rattle.dslx_tree.specs.declared.item.Module.{Module}
use Rattle.dslx_tree.specs.declared.item.Item.{Item}
use Rattle.dslx_tree.specs.declared.item.Definition.{Definition}
use Rattle.dslx_tree.specs.declared.item.Definition.TheVariants as d
use Rattle.dslx_tree.specs.declared.item.Function.{Function}
use Rattle.dslx_tree.specs.declared.item.Field.{Field}
use Rattle.dslx_tree.specs.declared.item.Parametric.{Parametric}
use Rattle.dslx_tree.specs.declared.type_expr.TypeExpr.{TypeExpr}
use Rattle.dslx_tree.specs.declared.process.End.{End}
use Rattle.dslx_tree.specs.declared.process.Proc.{Proc}
use Rattle.dslx_meaning.specs.Lists.{and_then}
use Rattle.dslx_meaning.specs.Items.{item_named, as_function, as_constant, as_struct, as_enum, is_constant_item, nothing_known, call_of, member_named, with_number}
use Rattle.dslx_meaning.specs.Network.{top_proc}
use Rattle.dslx_meaning.specs.declared.ty.DslxType.{DslxType}
use Rattle.dslx_meaning.specs.declared.value.DslxValue.{DslxValue}
use Rattle.dslx_meaning.specs.Rules.TypeEnvs.{GlobalEnv, TypeEnv, Signature, Judgement, Instance, same_instance, DefaultSeen, breaks, has_broken}
use Rattle.dslx_meaning.specs.Rules.ConstantRules.{constant_of, is_empty, untyped_typing}
use Rattle.dslx_meaning.specs.Rules.Mentions.{is_cyclic, item_reaches}
use Rattle.dslx_meaning.specs.Rules.NameRules.{listed_name}
use Rattle.dslx_meaning.specs.Rules.PatternRules.{is_there}
use Rattle.dslx_meaning.specs.Rules.TypeRules.{unless_unit}
use Rattle.dslx_meaning.specs.Rules.CallRules.{ParametricArgsSeen, typing_there}
use Rattle.dslx_meaning.specs.Rules.NodeRules.{expr_pair}
use Rattle.dslx_meaning.specs.Rules.ItemRules.{Found, nothing_found, and_found, only_faults, all_found, item_type_env, typing_of_type, typing_of_inner, result_typing, function_seen, constant_seen, alias_seen, struct_seen, enum_seen, enum_member_value}
use Rattle.dslx_meaning.specs.Rules.ProcRules.{proc_parametric_args, proc_seen}
use Rattle.dslx_meaning.specs.Rules.Namesakes.{told_apart}
use Rattle.dslx_meaning.specs.Rules.RuleNumbers as rule

-- ---- the global environment: what is known of items, from what is known of those that they mention

abbrev pub found_of_item : GlobalEnv → List DslxValue → Option Definition → Found
found_of_item known parametric_args (Some (d.Function f)) = (function_seen known f parametric_args).found
found_of_item known parametric_args (Some (d.Proc p)) = proc_seen known p parametric_args
found_of_item known parametric_args _ = nothing_found

-- what an instance's text breaks and reaches
abbrev pub found_of_instance : GlobalEnv → Instance → Found
found_of_instance known i = found_of_item known i.parametric_args (item_named i.name known.whole.items)

abbrev pub type_known : GlobalEnv → Option Definition → Option DslxType
type_known known (Some (d.Alias a)) = (alias_seen known a).ty
type_known known (Some (d.Struct s)) = (struct_seen known s).ty
type_known known (Some (d.Enum e)) = (enum_seen known e).ty
type_known known _ = None

abbrev pub sound_instance : GlobalEnv → Instance → Bool
sound_instance known i = let found = found_of_instance known i in is_empty found.faults && list_all known.is_sound found.reached

abbrev pub unbroken_instance : GlobalEnv → Instance → Bool
unbroken_instance known i = let found = found_of_instance known i in not (has_broken found.faults) && list_all known.is_unbroken found.reached

abbrev pub size_known : GlobalEnv → List DslxValue → Option Function → Option ℕ
size_known known parametric_args None = None
size_known known parametric_args (Some f) = (function_seen known f parametric_args).body.size

-- the parametrics of a function or a proc
abbrev pub parametrics_of : Option Definition → List Parametric
parametrics_of (Some (d.Function f)) = f.parametrics
parametrics_of (Some (d.Proc p)) = p.parametrics
parametrics_of _ = []

-- the type environment behind some of these, and those that are left
pub record BehindParametrics : Type 0 where
  pub context : TypeEnv
  pub left : List Parametric

-- behind one more, which has this value if one is known
abbrev pub with_parametric : TypeEnv → Parametric → Option DslxValue → TypeEnv
with_parametric context p None = record context { unknown = p.name.name ∷ context.unknown }
with_parametric context p (Some v) = record context { parametric_args = with_number context.parametric_args p v }

abbrev pub behind_next : TypeEnv → List Parametric → Option DslxValue → BehindParametrics
behind_next context [] v = record { context = context; left = [] }
behind_next context (p ∷ ps) v = record { context = with_parametric context p v; left = ps }

-- in the text of an item, behind parametrics of these values, the last one first
abbrev pub behind_values : GlobalEnv → List ℕ → List (Option DslxValue) → BehindParametrics
behind_values known owner [] = record { context = item_type_env known owner []; left = parametrics_of (item_named owner known.whole.items) }
behind_values known owner (v ∷ vs) = let b = behind_values known owner vs in behind_next b.context b.left v

-- the typings of the type and of the default of the first one that is left
abbrev pub parameter_seen : TypeEnv → List Parametric → Judgement
parameter_seen context [] = untyped_typing
parameter_seen context (p ∷ ps) = typing_of_inner context p.ty

abbrev pub default_known : TypeEnv → Expr → DefaultSeen
default_known context e = let c = constant_of context (expr_pair e) in record { judgement = c.judgement; value = c.value }

abbrev pub default_if : TypeEnv → Option Expr → DefaultSeen
default_if context None = record { judgement = untyped_typing; value = None }
default_if context (Some e) = default_known context e

abbrev pub default_seen : TypeEnv → List Parametric → DefaultSeen
default_seen context [] = default_if context None
default_seen context (p ∷ ps) = default_if context p.default

abbrev pub no_signature : Signature
no_signature = record { arguments = []; result = None }

-- the type of an argument or of an end's words
abbrev pub declared_type : TypeEnv → TypeExpr → Option DslxType
declared_type context t = unless_unit (typing_of_type context t).ty

abbrev pub signature_of : TypeEnv → Option Definition → Signature
signature_of context (Some (d.Function f)) = record { arguments = map (λ (a : Field). declared_type context a.ty) f.arguments; result = (result_typing context f.result).ty }
signature_of context (Some (d.Proc p)) = record { arguments = map (λ (e : End). declared_type context e.word) p.config.ends; result = None }
signature_of context _ = no_signature

-- the global environment in which nothing is known
abbrev pub no_globals : Module → GlobalEnv
no_globals m = record {
  whole = m;
  items = record nothing_known { is_constant = λ name. is_constant_item (item_named name m.items) };
  is_cyclic = is_cyclic m;
  is_sound = λ i. false;
  is_unbroken = λ i. false;
  body_size = λ i. None;
  parameter_in = λ owner before. untyped_typing;
  default_in = λ owner before. record { judgement = untyped_typing; value = None };
  signature_in = λ owner before. no_signature;
}

abbrev pub globals_over : GlobalEnv → GlobalEnv
globals_over known = record {
  whole = known.whole;
  items = record {
    type_named = λ name. type_known known (item_named name known.whole.items);
    struct_named = λ name. and_then (as_struct (item_named name known.whole.items)) (λ s. (struct_seen known s).ty);
    is_constant = λ name. is_constant_item (item_named name known.whole.items);
    constant = λ name. and_then (as_constant (item_named name known.whole.items)) (λ c. (constant_seen known c).value);
    member = λ name a. and_then (as_enum (item_named name known.whole.items)) (λ e. enum_member_value known e a (member_named a e.members));
    call = λ name parametric_args operands.
        if item_reaches known.whole name name then None
        else and_then (as_function (item_named name known.whole.items)) (λ f. call_of known.items f parametric_args operands);
  };
  is_cyclic = is_cyclic known.whole;
  is_sound = sound_instance known;
  is_unbroken = unbroken_instance known;
  body_size = λ i. size_known known i.parametric_args (as_function (item_named i.name known.whole.items));
  parameter_in = λ owner before. let b = behind_values known owner before in parameter_seen b.context b.left;
  default_in = λ owner before. let b = behind_values known owner before in default_seen b.context b.left;
  signature_in = λ owner before. signature_of (behind_values known owner before).context (item_named owner known.whole.items);
}

-- the global environment of a use at the head of a chain of at most so many links. Each item on a chain stands for two: its text,
-- and what it declares, which is looked at also where rule 3 refuses to go on. No chain without a cycle has more items than the text
abbrev pub globals_within : Module → ℕ → GlobalEnv
globals_within m zero = no_globals m
globals_within m (suc n) = globals_over (globals_within m n)

abbrev pub globals_of : Module → GlobalEnv
globals_of m = globals_within m (2 * length m.items)

-- ---- instances

abbrev pub is_reached : Instance → List Instance → Bool
is_reached i is = list_any (same_instance i) is

-- the list with those that it lacks behind it, in their order
abbrev pub add_new : List Instance → List Instance → List Instance
add_new found [] = found
add_new found (i ∷ is) = add_new (if is_reached i found then found else found ++ i ∷ []) is

abbrev pub reached_next : GlobalEnv → List Instance → List Instance
reached_next known found = add_new found (flat_map (λ i. (found_of_instance known i).reached) found)

-- all that these reach by at most so many calls and spawns
abbrev pub reached_within : GlobalEnv → ℕ → List Instance → List Instance
reached_within known zero found = found
reached_within known (suc n) found = reached_within known n (reached_next known found)

-- ---- the items of a module

-- what is checked of an item whether something reaches it or not. A function or a proc with parametrics is checked
-- in its instances alone
abbrev pub item_found : GlobalEnv → Definition → Found
item_found known (d.Function f) = nothing_found
item_found known (d.Proc p) = nothing_found
item_found known (d.Constant c) = (constant_seen known c).found
item_found known (d.Alias a) = (alias_seen known a).found
item_found known (d.Struct s) = (struct_seen known s).found
item_found known (d.Enum e) = (enum_seen known e).found

abbrev pub own_instance : Definition → List Instance
own_instance (d.Function f) = if is_empty f.parametrics then record { name = f.name.name; parametric_args = [] } ∷ [] else []
own_instance (d.Proc p) = if is_empty p.parametrics then record { name = p.name.name; parametric_args = [] } ∷ [] else []
own_instance _ = []

abbrev pub items_found : GlobalEnv → List Item → Found
items_found known is = all_found (map (λ (i : Item). item_found known i.definition) is)

abbrev pub own_instances : List Item → List Instance
own_instances is = flat_map (λ (i : Item). own_instance i.definition) is

abbrev pub ident_of : Definition → Ident
ident_of (d.Function f) = f.name
ident_of (d.Proc p) = p.name
ident_of (d.Constant c) = c.name
ident_of (d.Alias a) = a.name
ident_of (d.Struct s) = s.name
ident_of (d.Enum e) = e.name

-- rule 2 in the list of items
abbrev pub item_names : List (List ℕ) → List Item → List Fault
item_names before [] = []
item_names before (i ∷ is) = listed_name before (ident_of i.definition) ++ item_names ((ident_of i.definition).name ∷ before) is

-- ---- the top

abbrev pub not_a_proc : Option Definition → List Fault
not_a_proc None = breaks rule.TOP_IS_A_PROC nowhere ∷ []
not_a_proc (Some definition) = breaks rule.TOP_IS_A_PROC (ident_of definition).span ∷ []

abbrev pub lacks_default : Parametric → Bool
lacks_default p = not (is_there p.default)

-- rule 32: no proc of the text, or one with a parametric that has no default
abbrev pub top_faults : Module → Option (List ℕ) → Option Proc → List Fault
top_faults m None None = breaks rule.TOP_IS_A_PROC nowhere ∷ []
top_faults m (Some name) None = not_a_proc (item_named name m.items)
top_faults m top (Some p) = if list_any lacks_default p.parametrics then breaks rule.TOP_IS_A_PROC p.name.span ∷ [] else []

-- its defaults give its instance
abbrev pub top_found : GlobalEnv → Option Proc → Found
top_found known None = nothing_found
top_found known (Some p) = with_parametric_args (proc_parametric_args known p [])
  where
    instance_if : Option (List DslxValue) → List Instance
    instance_if None = []
    instance_if (Some vs) = record { name = p.name.name; parametric_args = vs } ∷ []

    with_parametric_args : ParametricArgsSeen → Found
    with_parametric_args n = let declared = typing_there [] n in record { faults = n.faults ++ declared.faults; reached = declared.reached ++ instance_if n.values }

-- ---- all faults

-- what is found outside all instances
abbrev pub outside_instances : Module → Option (List ℕ) → Found
outside_instances m top =
    let known = globals_of m in
    and_found (only_faults (top_faults m top (top_proc m top)))
    (and_found (items_found known m.items) (top_found known (top_proc m top)))

-- the instances that are checked: functions and procs without parametrics, the top's, and all that is reached
abbrev pub instances_of : Module → Option (List ℕ) → List Instance
instances_of m top =
    reached_within (globals_of m) (length m.items) (add_new (add_new [] (own_instances m.items)) (outside_instances m top).reached)

-- a module has at most 4,096 instances
abbrev pub instance_limit : List Instance → List Fault
instance_limit is = if nat_lt 4096 (length is) then Whole (record { what = what.Instances; found = 4097; most = 4096 }) ∷ [] else []

abbrev pub instances_faults : GlobalEnv → List Instance → List Fault
instances_faults known is = flat_map (λ i. (found_of_instance known i).faults) is

-- all that the items break and pass
abbrev pub items_faults : Module → Option (List ℕ) → List Fault
items_faults m top = (outside_instances m top).faults ++ instances_faults (globals_of m) (instances_of m top)

-- the first ones alone, if there are any
abbrev pub or_else_all : List Fault → List Fault → List Fault
or_else_all [] faults = faults
or_else_all (f ∷ fs) faults = f ∷ fs

-- all rules that the parts of a module break, and all limits that they pass. Items of one name are told apart. Where there are too many
-- instances that alone is named
abbrev pub faults_of : Module → Option (List ℕ) → List Fault
faults_of m top = or_else_all (instance_limit (instances_of (told_apart m) top)) (item_names [] m.items ++ items_faults (told_apart m) top)

-- the fault that is named, if there is one
abbrev pub first_fault : Module → Option (List ℕ) → Option Fault
first_fault m top = first_of (faults_of m top)
