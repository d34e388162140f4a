-- Threads may read a package at the same time, each part by its parts: a search that goes down through all of them runs out of steps.
use denote.Builtin.{u128}
use denote.Param.Send.{IsSync, sendable}
use denote.Struct.Field.{u128-field}
use Rattle.std.specs.contracts.option.Option as Option
use Rattle.std.proofs.option.Option.TheSendSync.{the_field_sync as option}
use Rattle.sqlite_items.proofs.items.Items.TheSendSync.{the_sync as items}
use Rattle.base.proofs.texts.name.Name.TheSendSync.{the_sync as name}
use Rattle.delay_model.proofs.op.Op.TheSendSync.{the_field_sync as op}
use Rattle.ir_tree.specs.contracts.constant.Constant as Constant
use Rattle.ir_tree.specs.contracts.ir_type.IrType as IrType
use Rattle.ir_tree.specs.contracts.node.Attributes as Attributes
use Rattle.ir_tree.specs.contracts.node.Node as Node
use Rattle.ir_tree.specs.contracts.node.Operand as Operand
use Rattle.ir_tree.specs.contracts.package.Channel as Channel
use Rattle.ir_tree.specs.contracts.package.Package as Package
use Rattle.ir_tree.specs.contracts.package.Proc as Proc
use Rattle.ir_tree.proofs.constant.Constant.TheLaws.TheKnot.{sync-Constant}
use Rattle.ir_tree.proofs.ir_type.IrType.TheLaws.TheKnot.{sync-IrType}
use Rattle.ir_tree.proofs.node.Operand.TheSendSync as operand
use Rattle.ir_tree.proofs.operands.Operands.TheSendSync.{the_sync as operands}
use Rattle.ir_tree.proofs.package.Ends.TheSendSync.{the_field_sync as ends}

number : IsSync u128-field.row
number = search sendable depth 20

ty : IsSync IrType.the_field.row
ty = sync-IrType number (items u128 (search sendable depth 20)) items

constant : IsSync Constant.the_field.row
constant = sync-Constant number items

predicate : IsSync (Option.the_field Operand.the_row).row
predicate = option Operand.the_row operand.the_sync

attributes : IsSync Attributes.the_field.row
attributes = let a = operands in let b = constant in let c = predicate in let d = operand.the_field_sync in search sendable depth 20

node_field : IsSync Node.the_field.row
node_field = let a = operands in let b = attributes in let c = ty in let d = op in search sendable depth 20

node : IsSync Node.the_row
node = let a = node_field in search sendable depth 20

pub proc_field : IsSync Proc.the_field.row
proc_field = let a = name in let b = ty in let c = constant in let d = items Node.the_row node in let e = operand.the_field_sync in search sendable depth 20

proc : IsSync Proc.the_row
proc = let a = proc_field in search sendable depth 20

channel_field : IsSync Channel.the_field.row
channel_field = let a = name in let b = ty in let c = ends in search sendable depth 20

channel : IsSync Channel.the_row
channel = let a = channel_field in search sendable depth 20

pub package_field : IsSync Package.the_field.row
package_field = let a = name in let b = items Channel.the_row channel in let c = items Proc.the_row proc in search sendable depth 20
