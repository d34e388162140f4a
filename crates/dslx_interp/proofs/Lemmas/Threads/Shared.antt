-- Threads may read a checked text at the same time, each part by its parts: a search that goes down through all of them runs out of steps.
use denote.Param.Send.{IsSync, sendable}
use denote.Struct.Field.{u64-field, u8-field}
use Rattle.std.specs.contracts.option.Option as Option
use Rattle.std.proofs.option.Option.TheSendSync.{the_field_sync as option}
use Rattle.sqlite_items.proofs.boxed.Boxed.TheSendSync.{the_sync as boxed}
use Rattle.sqlite_items.proofs.items.Items.TheSendSync.{the_sync as items}
use Rattle.base.proofs.texts.name.Name.TheSendSync.{the_sync as name}
use Rattle.xb_bits.proofs.bits.Bits.TheSendSync.{the_sync as bits}
use Rattle.xb_value.specs.contracts.ty.Ty as Ty
use Rattle.xb_value.specs.contracts.value.Value as Value
use Rattle.xb_value.proofs.ty.Ty.TheLaws.TheKnot.{sync-Ty}
use Rattle.xb_value.proofs.value.Value.TheLaws.TheKnot.{sync-Value}
use Rattle.net_core.proofs.net.Kind.TheSendSync.{the_field_sync as kind}
use Rattle.dslx_core.specs.contracts.design.Child as Child
use Rattle.dslx_core.specs.contracts.design.Design as Design
use Rattle.dslx_core.specs.contracts.design.Function as Function
use Rattle.dslx_core.specs.contracts.design.Instance as Instance
use Rattle.dslx_core.specs.contracts.design.MadeChannel as MadeChannel
use Rattle.dslx_core.specs.contracts.design.Outer as Outer
use Rattle.dslx_core.specs.contracts.expr.CoreExpr as CoreExpr
use Rattle.dslx_core.specs.contracts.expr.Shape as Shape
use Rattle.dslx_core.specs.contracts.step.Receive as Receive
use Rattle.dslx_core.specs.contracts.step.Send as Send
use Rattle.dslx_core.specs.contracts.step.Step as Step
use Rattle.dslx_core.proofs.design.Child.TheSendSync.{the_sync as child}
use Rattle.dslx_core.proofs.expr.CoreBinary.TheSendSync.{the_field_sync as binary}
use Rattle.dslx_core.proofs.expr.CoreExpr.TheLaws.TheKnot.{sync-CoreExpr}
use Rattle.dslx_core.proofs.expr.CoreUnary.TheSendSync.{the_field_sync as unary}
use Rattle.dslx_core.proofs.expr.Shape.TheLaws.TheKnot.{sync-Shape}
use Rattle.dslx_core.proofs.expr.Sign.TheSendSync.{the_field_sync as sign}

number : IsSync u64-field.row
number = search sendable depth 20

width : IsSync u8-field.row
width = search sendable depth 20

ty : IsSync Ty.the_field.row
ty = sync-Ty number items boxed

value : IsSync Value.the_field.row
value = sync-Value bits items

shape : IsSync Shape.the_field.row
shape = sync-Shape value items

shape_row : IsSync Shape.the_row
shape_row = let a = shape in search sendable depth 20

expr : IsSync CoreExpr.the_field.row
expr = sync-CoreExpr value number items unary boxed binary sign width shape bits (items Shape.the_row shape_row)

expr_row : IsSync CoreExpr.the_row
expr_row = let a = expr in search sendable depth 20

condition : IsSync (Option.the_field CoreExpr.the_row).row
condition = option CoreExpr.the_row expr_row

receive : IsSync Receive.the_field.row
receive = let a = ty in let b = expr in let c = shape in search (sendable, option) depth 20

send : IsSync Send.the_field.row
send = let a = condition in let b = expr in let c = shape in search sendable depth 20

step_field : IsSync Step.the_field.row
step_field = let a = expr in let b = shape in let c = receive in let d = send in search sendable depth 20

step : IsSync Step.the_row
step = let a = step_field in search sendable depth 20

function_field : IsSync Function.the_field.row
function_field = let a = expr in search sendable depth 20

function : IsSync Function.the_row
function = let a = function_field in search sendable depth 20

made_field : IsSync MadeChannel.the_field.row
made_field = let a = name in let b = ty in search sendable depth 20

made : IsSync MadeChannel.the_row
made = let a = made_field in search sendable depth 20

outer_field : IsSync Outer.the_field.row
outer_field = let a = name in let b = ty in let c = kind in search sendable depth 20

outer : IsSync Outer.the_row
outer = let a = outer_field in search sendable depth 20

pub instance_field : IsSync Instance.the_field.row
instance_field =
    let a = items MadeChannel.the_row made in
    let b = items Child.the_row child in
    let c = ty in
    let d = value in
    let e = items Step.the_row step in
    let f = expr in
    search (sendable, items) depth 20

instance : IsSync Instance.the_row
instance = let a = instance_field in search sendable depth 20

pub design_field : IsSync Design.the_field.row
design_field = let a = name in let b = items Outer.the_row outer in let c = items Function.the_row function in let d = items Instance.the_row instance in search sendable depth 20
