-- A function that binds the name of a constant breaks rule 2 in each of its instances, whatever is known.
use Rattle.std.proofs.Common.{◌≡◌, ◌&&◌, ◌||◌, ◌++◌, ℕ, Bool, true, false, not, List, [], ◌∷◌, Option, Some, None, refl, sym, ap, ◌∙◌}
use mathlib.Core.Bool.{true≢false}
use Rattle.std.specs.List.{list_any, list_all}
use Rattle.xb_span.specs.declared.fault.Fault.{Fault}
use Rattle.dslx_tree.specs.declared.ident.Ident.{Ident}
use Rattle.dslx_tree.specs.declared.item.Definition.{Definition}
use Rattle.dslx_tree.specs.declared.item.Definition.TheVariants as d
use Rattle.dslx_tree.specs.declared.item.Field.{Field}
use Rattle.dslx_tree.specs.declared.item.Function.{Function}
use Rattle.dslx_tree.specs.declared.item.Module.{Module}
use Rattle.dslx_tree.specs.declared.item.Parametric.{Parametric}
use Rattle.dslx_meaning.specs.Callees.{is_own_name}
use Rattle.dslx_meaning.specs.Environment.{Given}
use Rattle.dslx_meaning.specs.Items.{is_constant_item, item_named}
use Rattle.dslx_meaning.specs.Lists.{is_in}
use Rattle.dslx_meaning.specs.declared.value.DslxValue.{DslxValue}
use Rattle.dslx_meaning.specs.Rules.ConstantRules.{is_empty}
use Rattle.dslx_meaning.specs.Rules.ItemRules.{Found, arguments_found, arguments_typed, body_typing, bound_with, default_found, function_seen, function_type_env, item_type_env, number_at, parametric_args_behind, parametrics_found, result_typing, typing_of_inner}
use Rattle.dslx_meaning.specs.Rules.Mentions.{field_names, parametric_names}
use Rattle.dslx_meaning.specs.Rules.ModuleRules.{found_of_instance, found_of_item, sound_instance, unbroken_instance}
use Rattle.dslx_meaning.specs.Rules.NameRules.{local_name}
use Rattle.dslx_meaning.specs.Rules.TypeEnvs.{GlobalEnv, Instance, TypeEnv, breaks_if, has_broken, is_item, is_rule}
use Rattle.dslx_core.proofs.OnTyping.OnTyped.TypingRelations.{broken_first, or_false}

-- none of these names is a constant's
abbrev pub AreNoConstants : Module → List (List ℕ) → Type 0
AreNoConstants m [] = Unit {0}
AreNoConstants m (n ∷ ns) = (is_constant_item (item_named n m.items) ≡ false) × AreNoConstants m ns

-- some of these names is a constant's
abbrev pub names_constant : Module → List (List ℕ) → Bool
names_constant m ns = list_any (λ n. is_constant_item (item_named n m.items)) ns

abbrev pub binds_constant : Module → Function → Bool
binds_constant m f = names_constant m (parametric_names f.parametrics) || names_constant m (field_names f.arguments)

pub no_constants : (m : Module) (ns : List (List ℕ)) → names_constant m ns ≡ false → AreNoConstants m ns
no_constants m [] h = tt
no_constants m (n ∷ ns) h = let r = or_false (is_constant_item (item_named n m.items)) (names_constant m ns) h in (r.0, no_constants m ns r.1)

-- ---- rule 2

broken_second : (fs gs : List Fault) → has_broken gs ≡ true → has_broken (fs ++ gs) ≡ true
broken_second [] gs h = h
broken_second (f ∷ fs) gs h = by_first (is_rule f) (broken_second fs gs h)
  where
    by_first : (b : Bool) → has_broken (fs ++ gs) ≡ true → (b || has_broken (fs ++ gs)) ≡ true
    by_first true e = refl
    by_first false e = e

abbrev there_is : {A : Type 0} → Option A → Bool
there_is None = false
there_is (Some a) = true

constant_there : (o : Option Definition) → is_constant_item o ≡ true → there_is o ≡ true
constant_there (Some x) h = refl
constant_there None h = h

local_broken : (m : Module) (context : TypeEnv) (before : List (List ℕ)) (name : Ident) → context.known.whole ≡ m → is_constant_item (item_named name.name m.items) ≡ true → has_broken (local_name context before name) ≡ true
local_broken m context before name text h =
    let here : is_item context name.name ≡ true = constant_there (item_named name.name context.known.whole.items) ((λ i. is_constant_item (item_named name.name (text i).items)) ∙ h) in
    (λ i. has_broken (breaks_if ((is_own_name name.name || here i) || is_in name.name before) 2 name.span)) ∙ by_own (is_own_name name.name)
  where
    by_own : (b : Bool) → has_broken (breaks_if ((b || true) || is_in name.name before) 2 name.span) ≡ true
    by_own true = refl
    by_own false = refl

parametrics_broken : (m : Module) (known : GlobalEnv) → known.whole ≡ m → (owner : List ℕ) (before : List (List ℕ)) (so_far : List Given) (ps : List Parametric) (values : List DslxValue) → names_constant m (parametric_names ps) ≡ true
    → has_broken (parametrics_found known owner before so_far ps values).faults ≡ true
parametrics_broken m known text owner before so_far [] values h = absurd (true≢false (sym h))
parametrics_broken m known text owner before so_far (p ∷ ps) values h =
    by_first (is_constant_item (item_named p.name.name m.items)) refl h (parametrics_broken m known text owner (p.name.name ∷ before) (bound_with so_far p (number_at values)) ps (parametric_args_behind values))
  where
    context : TypeEnv
    context = item_type_env known owner so_far

    own : List Fault
    own = local_name context before p.name

    ty : List Fault
    ty = (typing_of_inner context p.ty).faults

    default : List Fault
    default = (default_found context (typing_of_inner context p.ty).ty p.default).faults

    rest : Found
    rest = parametrics_found known owner (p.name.name ∷ before) (bound_with so_far p (number_at values)) ps (parametric_args_behind values)

    by_first : (b : Bool) → is_constant_item (item_named p.name.name m.items) ≡ b → (b || names_constant m (parametric_names ps)) ≡ true → (names_constant m (parametric_names ps) ≡ true → has_broken rest.faults ≡ true) → has_broken (own ++ (ty ++ (default ++ rest.faults))) ≡ true
    by_first true q g more = broken_first own (ty ++ (default ++ rest.faults)) (local_broken m context before p.name text q)
    by_first false q g more = broken_second own (ty ++ (default ++ rest.faults)) (broken_second ty (default ++ rest.faults) (broken_second default rest.faults (more g)))

arguments_broken : (m : Module) (context : TypeEnv) → context.known.whole ≡ m → (before : List (List ℕ)) (fs : List Field) → names_constant m (field_names fs) ≡ true → has_broken (arguments_found context before fs).faults ≡ true
arguments_broken m context text before [] h = absurd (true≢false (sym h))
arguments_broken m context text before (f ∷ fs) h = by_first (is_constant_item (item_named f.name.name m.items)) refl h (arguments_broken m context text (f.name.name ∷ before) fs)
  where
    own : List Fault
    own = local_name context before f.name

    ty : List Fault
    ty = (typing_of_inner context f.ty).faults

    rest : Found
    rest = arguments_found context (f.name.name ∷ before) fs

    by_first : (b : Bool) → is_constant_item (item_named f.name.name m.items) ≡ b → (b || names_constant m (field_names fs)) ≡ true → (names_constant m (field_names fs) ≡ true → has_broken rest.faults ≡ true) → has_broken (own ++ (ty ++ rest.faults)) ≡ true
    by_first true q g more = broken_first own (ty ++ rest.faults) (local_broken m context before f.name text q)
    by_first false q g more = broken_second own (ty ++ rest.faults) (broken_second ty rest.faults (more g))

function_broken : (m : Module) (known : GlobalEnv) → known.whole ≡ m → (f : Function) (parametric_args : List DslxValue) → binds_constant m f ≡ true → has_broken (function_seen known f parametric_args).found.faults ≡ true
function_broken m known text f parametric_args h = by_first (names_constant m (parametric_names f.parametrics)) refl h
  where
    context : TypeEnv
    context = function_type_env known f parametric_args

    one : Found
    one = parametrics_found known f.name.name [] [] f.parametrics parametric_args

    two : Found
    two = arguments_found context [] f.arguments

    rest : List Fault
    rest = (result_typing context f.result).faults ++ (body_typing false (record context { locals = arguments_typed context [] f.arguments }) (result_typing context f.result).ty f.body).faults

    by_first : (b : Bool) → names_constant m (parametric_names f.parametrics) ≡ b → (b || names_constant m (field_names f.arguments)) ≡ true → has_broken (one.faults ++ (two.faults ++ rest)) ≡ true
    by_first true q g = broken_first one.faults (two.faults ++ rest) (parametrics_broken m known text f.name.name [] [] f.parametrics parametric_args q)
    by_first false q g = broken_second one.faults (two.faults ++ rest) (broken_first two.faults rest (arguments_broken m context text [] f.arguments g))

-- ---- instances

broken_found : (known : GlobalEnv) (found : Found) → has_broken found.faults ≡ true → ((is_empty found.faults && list_all known.is_sound found.reached) ≡ false) × ((not (has_broken found.faults) && list_all known.is_unbroken found.reached) ≡ false)
broken_found known found h = (by_faults found.faults h, λ i. not (h i) && list_all known.is_unbroken found.reached)
  where
    by_faults : (fs : List Fault) → has_broken fs ≡ true → (is_empty fs && list_all known.is_sound found.reached) ≡ false
    by_faults [] e = absurd (true≢false (sym e))
    by_faults (f ∷ fs) e = refl

-- neither sound nor unbroken
pub binding_broken : (m : Module) (known : GlobalEnv) → known.whole ≡ m → (i : Instance) (f : Function) → item_named i.name m.items ≡ Some (d.Function f) → binds_constant m f ≡ true → (sound_instance known i ≡ false) × (unbroken_instance known i ≡ false)
binding_broken m known text i f named h =
    let here : item_named i.name known.whole.items ≡ Some (d.Function f) = (λ j. item_named i.name (text j).items) ∙ named in
    broken_found known (found_of_instance known i) (ap (λ o. has_broken (found_of_item known i.parametric_args o).faults) here ∙ function_broken m known text f i.parametric_args h)
