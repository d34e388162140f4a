-- Instances of functions, by the values of their bodies.
use Rattle.std.proofs.Common.{◌++◌, false, List, [], ◌∷◌, Some, sym, ap, subst}
use Rattle.dslx_tree.specs.declared.block.Block.{out-Block}
use Rattle.dslx_tree.specs.declared.item.Field.{Field}
use Rattle.dslx_tree.specs.declared.item.Function.{Function}
use Rattle.dslx_meaning.specs.Environment.{Env, Given, Meanings}
use Rattle.dslx_meaning.specs.Items.{function_value, parametric_args_bound, operands_bound}
use Rattle.dslx_meaning.specs.Meaning.{value_of_block}
use Rattle.dslx_meaning.specs.declared.ty.DslxType.{DslxType}
use Rattle.dslx_meaning.specs.declared.value.DslxValue.{DslxValue}
use Rattle.dslx_meaning.specs.Rules.AggregateRules.{wanted_faults}
use Rattle.dslx_meaning.specs.Rules.ConstantRules.{size_faults}
use Rattle.dslx_meaning.specs.Rules.ItemRules.{arguments_typed, body_typing, function_type_env, typing_of_inner}
use Rattle.dslx_meaning.specs.Rules.TypeEnvs.{GlobalEnv, TypeEnv, Typed, has_broken, with_typed}
use Rattle.dslx_meaning.specs.Rules.NodeRules.{block_pair}
use Rattle.dslx_core.specs.Typing.Typed.Complete.{IsWellTypedPart}
use Rattle.dslx_core.specs.Typing.Typed.Declared.{IsDeclared}
use Rattle.dslx_core.specs.Typing.Typed.Given.{GivesOf, IsSized}
use Rattle.dslx_core.specs.Typing.Typed.WellTyped.{AreOperandsOf, IsWellTypedEnv, NameNoConstant}
use Rattle.dslx_core.proofs.Lemmas.Typing.Typed.{bound_keeps, function_gives}
use Rattle.dslx_core.proofs.OnTyping.OnSound.WellTypedParts.{given, none_in}
use Rattle.dslx_core.proofs.OnTyping.OnSound.Joined.{block_of_text_has}

-- operands of the types of the arguments, bound one after the other
operands_keep : (context : TypeEnv) (items : Meanings) (fs : List Field) (vs : List DslxValue) (locals : List Typed) (bound : List Given) → AreOperandsOf context fs vs → NameNoConstant context fs
    → IsWellTypedEnv (with_typed context locals) (record { items = items; bound = bound })
    → IsWellTypedEnv (with_typed context (arguments_typed context locals fs)) (record { items = items; bound = operands_bound bound fs vs })
operands_keep context items [] [] locals bound k c h = h
operands_keep context items [] (v ∷ vs) locals bound k c h = absurd k
operands_keep context items (f ∷ fs) [] locals bound k c h = absurd k
operands_keep context items (f ∷ fs) (v ∷ vs) locals bound k c h =
    operands_keep context items fs vs (record { name = f.name.name; ty = (typing_of_inner context f.ty).ty } ∷ locals) (record { name = f.name.name; value = v } ∷ bound) k.1 c.1
    (subst (λ o. IsWellTypedEnv (with_typed context (record { name = f.name.name; ty = o } ∷ locals)) (record { items = items; bound = record { name = f.name.name; value = v } ∷ bound })) (sym k.0.1)
    (bound_keeps context locals (record { items = items; bound = bound }) f.name.name k.0.0 v h k.0.2 c.0))

pub function_has_value : (known : GlobalEnv) (f : Function) (parametric_args operands : List DslxValue) (result : DslxType)
    → IsWellTypedEnv (function_type_env known f parametric_args) (record { items = known.items; bound = parametric_args_bound [] f.parametrics parametric_args })
    → AreOperandsOf (function_type_env known f parametric_args) f.arguments operands → NameNoConstant (function_type_env known f parametric_args) f.arguments → IsDeclared known.items.type_named result
    → IsWellTypedPart known (body_typing false (with_typed (function_type_env known f parametric_args) (arguments_typed (function_type_env known f parametric_args) [] f.arguments)) (Some result) f.body)
    → GivesOf known.items.type_named result (function_value known.items f parametric_args operands)
function_has_value known f parametric_args operands result h k plain declared well_typed =
    let context = function_type_env known f parametric_args in
    let inner = with_typed context (arguments_typed context [] f.arguments) in
    let env : Env = record { items = known.items; bound = operands_bound (parametric_args_bound [] f.parametrics parametric_args) f.arguments operands } in
    let typed = operands_keep context known.items f.arguments operands [] (parametric_args_bound [] f.parametrics parametric_args) k plain h in
    let j = (block_pair f.body).1 false inner in
    let wrong = wanted_faults (out-Block f.body).span (Some result) j.ty in
    let size = size_faults known (out-Block f.body).span.to (record j { faults = j.faults ++ wrong }) in
    let own : IsWellTypedPart known j = record { faults = (none_in j.faults wrong (none_in (j.faults ++ wrong) size well_typed.faults).0).0; reached = well_typed.reached } in
    let g = block_of_text_has f.body inner env typed own in
    function_gives known known.items f parametric_args operands result g.0 h k plain declared g.1 (ap has_broken well_typed.faults)
    (λ at w. given known.items.type_named j (value_of_block f.body at) (block_of_text_has f.body inner at w own))

-- its body has a size
pub function_has_size : (known : GlobalEnv) (f : Function) (parametric_args operands : List DslxValue) (result : DslxType)
    → IsWellTypedEnv (function_type_env known f parametric_args) (record { items = known.items; bound = parametric_args_bound [] f.parametrics parametric_args })
    → AreOperandsOf (function_type_env known f parametric_args) f.arguments operands → NameNoConstant (function_type_env known f parametric_args) f.arguments
    → IsWellTypedPart known (body_typing false (with_typed (function_type_env known f parametric_args) (arguments_typed (function_type_env known f parametric_args) [] f.arguments)) (Some result) f.body)
    → IsSized (body_typing false (with_typed (function_type_env known f parametric_args) (arguments_typed (function_type_env known f parametric_args) [] f.arguments)) (Some result) f.body).size
function_has_size known f parametric_args operands result h k plain well_typed =
    let context = function_type_env known f parametric_args in
    let inner = with_typed context (arguments_typed context [] f.arguments) in
    let env : Env = record { items = known.items; bound = operands_bound (parametric_args_bound [] f.parametrics parametric_args) f.arguments operands } in
    let typed = operands_keep context known.items f.arguments operands [] (parametric_args_bound [] f.parametrics parametric_args) k plain h in
    let j = (block_pair f.body).1 false inner in
    let wrong = wanted_faults (out-Block f.body).span (Some result) j.ty in
    let size = size_faults known (out-Block f.body).span.to (record j { faults = j.faults ++ wrong }) in
    let own : IsWellTypedPart known j = record { faults = (none_in j.faults wrong (none_in (j.faults ++ wrong) size well_typed.faults).0).0; reached = well_typed.reached } in
    (block_of_text_has f.body inner env typed own).3
