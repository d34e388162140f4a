-- What is to be done where instances are lowered, and the state of the machine, without references.
use Rattle.std.specs.Prelude.{List, Option, None, Some, map, reverse}
use Rattle.dslx_tree.specs.declared.item.Module.{Module}
use Rattle.dslx_meaning.specs.Items.{meanings_of}
use Rattle.dslx_core.specs.declared.expr.CoreExpr as core
use Rattle.dslx_meaning.specs.Names.Bound.{given}
use Rattle.dslx_core.specs.Lowering.Functions.{CoreInstance}
use Rattle.dslx_core.specs.Lowering.Lowering.{LoweredExpr, lowered}
use Rattle.dslx_instance.specs.declared.tasks.maker.LastMaker.{LastMaker}
use Rattle.dslx_instance.specs.declared.tasks.maker.LastMaker.TheVariants as last
use Rattle.dslx_instance.specs.declared.tasks.maker.PartsMaker.{PartsMaker}
use Rattle.dslx_instance.specs.declared.tasks.maker.PartsMaker.TheVariants as parts
use Rattle.dslx_instance.specs.declared.tasks.task.OtherFields.{OtherFields}
use Rattle.dslx_instance.specs.declared.tasks.task.StructWork.{StructWork}
use Rattle.dslx_instance.specs.declared.tasks.task.MatchWork.{MatchWork}
use Rattle.dslx_instance.specs.declared.tasks.task.LowerTask.{LowerTask}
use Rattle.dslx_instance.specs.declared.tasks.task.LowerTask.TheVariants as task
use Rattle.dslx_instance.specs.declared.tasks.task.BlockTask.{BlockTask}
use Rattle.dslx_instance.specs.declared.tasks.task.BlockTask.TheVariants as block
use Rattle.dslx_instance.specs.declared.tasks.task.PartsTask.{PartsTask}
use Rattle.dslx_instance.specs.declared.tasks.task.PartsTask.TheVariants as several
use Rattle.dslx_instance.specs.declared.tasks.task.ArmsTask.{ArmsTask}
use Rattle.dslx_instance.specs.declared.tasks.task.ArmsTask.TheVariants as choice
use Rattle.dslx_instance.specs.declared.tasks.task.LoopTask.{LoopTask}
use Rattle.dslx_instance.specs.declared.tasks.task.LoopTask.TheVariants as turns
use Rattle.dslx_instance.specs.declared.tasks.task.CallTask.{CallTask}
use Rattle.dslx_instance.specs.declared.tasks.task.CallTask.TheVariants as call
use Rattle.dslx_instance.specs.declared.tasks.body.OpenBody.{OpenBody}
use Rattle.dslx_instance.specs.declared.tasks.machine.OpenInstance.{OpenInstance}
use Rattle.dslx_instance.specs.declared.tasks.machine.InstanceMachine.{InstanceMachine}
use Rattle.dslx_core.specs.Machines.Machine.Tasks as m

-- ---- what is to be done

abbrev pub last_shown : LastMaker → m.LastMaker
last_shown (last.Prefix o) = m.MakesPrefix o
last_shown (last.Binary o) = m.MakesBinary o
last_shown (last.Cast t) = m.MakesCast t.now
last_shown (last.Slice from to) = m.MakesSlice from.now to.now
last_shown (last.Part t) = m.MakesPart t.now
last_shown (last.Field name) = m.MakesField name.now
last_shown (last.Element k) = m.MakesElement k
last_shown last.Index = m.MakesIndexed
last_shown last.Choice = m.MakesChoice

abbrev pub parts_shown : PartsMaker → m.PartsMaker
parts_shown parts.Tuple = m.MakesTuple
parts_shown parts.Array = m.MakesArray
parts_shown (parts.Fill t n dots) = m.Fills t n dots
parts_shown (parts.Call name parametric_args) = m.CallsWith name.now parametric_args.now

-- the bound value that has the other fields
abbrev pub others_shown : Option OtherFields → Option LoweredExpr
others_shown None = None
others_shown (Some o) = lowered (core.Slot o.slot) o.ty

abbrev pub struct_shown : StructWork → m.StructWork
struct_shown w = record { ty = w.ty; written = w.written.now; others = others_shown w.others }

abbrev pub match_shown : MatchWork → m.MatchWork
match_shown w = record { value = w.value; before = w.before.items; arm = w.arm.now; behind = w.behind.now }

abbrev pub block_task_shown : BlockTask → m.LowerTask
block_task_shown (block.Block b) = m.LowersBlock b.now
block_task_shown (block.Statements ss last) = m.LowersStatements ss.now last.now
block_task_shown (block.Make maker) = m.Makes (last_shown maker)
block_task_shown (block.BindValue p ss last) = m.BindsValue p.now ss.now last.now

abbrev pub parts_task_shown : PartsTask → m.LowerTask
parts_task_shown (several.Gather before es maker) = m.Gathers before.items es.now (parts_shown maker)
parts_task_shown (several.TakeOthers t fields ts written) = m.TakesOthers t fields ts written.now
parts_task_shown (several.GatherFields work before t fields ts) = m.GathersFields (struct_shown work) before.items t fields ts

abbrev pub arms_task_shown : ArmsTask → m.LowerTask
arms_task_shown (choice.Arms arms) = m.LowersArms arms.now
arms_task_shown (choice.TakeArm work shapes) = m.TakesArm (match_shown work) shapes

abbrev pub loop_task_shown : LoopTask → m.LowerTask
loop_task_shown (turns.Begin f) = m.LoopBegins f.now
loop_task_shown (turns.Make start a b i acc) = m.MakesLoop start a b i acc

abbrev pub call_task_shown : CallTask → m.LowerTask
call_task_shown (call.Need i) = m.NeedsInstance i
call_task_shown (call.Call i es) = m.CallsInstance i es.items

abbrev pub task_shown : LowerTask → m.LowerTask
task_shown (task.Expr e) = m.LowersExpr e.now
task_shown (task.Block t) = block_task_shown t
task_shown (task.Bind e s) = m.MakesBind e s
task_shown (task.Parts t) = parts_task_shown t
task_shown (task.Arms t) = arms_task_shown t
task_shown (task.Loop t) = loop_task_shown t
task_shown (task.Restore n count) = m.Restores n count
task_shown (task.Call t) = call_task_shown t

-- ---- the state of the machine

abbrev pub body_shown : OpenBody → m.OpenBody
body_shown b = record { given = reverse (map given b.given.items); todo = map task_shown b.todo; made = b.made; locals = b.locals; count = b.count }

abbrev pub instance_shown : OpenInstance → m.OpenInstance
instance_shown o = record { instance = o.instance; arguments = o.arguments; body = body_shown o.body }

-- a text, what its items mean, and these instances
abbrev pub instance_env_of : Module → List CoreInstance → m.InstanceEnv
instance_env_of text table = record { text = text; items = meanings_of text; table = table }

abbrev pub machine_shown : InstanceMachine → m.InstanceMachine
machine_shown x = record { context = instance_env_of x.text.now x.table; limit = x.limit; root = body_shown x.root; opened = map instance_shown x.opened }
