-- What is to be done and where the machine stands, without references.
use Rattle.std.specs.Prelude.{List, map}
use Rattle.std.specs.Option.{option_map}
use Rattle.dslx_tree.specs.declared.pattern.Pattern.{Pattern}
use Rattle.dslx_values.specs.Inference.Inferences.{inferred}
use Rattle.dslx_const_tasks.specs.Values.{values_kept}
use Rattle.dslx_const_tasks.specs.declared.machine.Machine.{Machine}
use Rattle.dslx_const_tasks.specs.declared.task.Found.{Found}
use Rattle.dslx_const_tasks.specs.declared.task.Found.TheVariants as found
use Rattle.dslx_const_tasks.specs.declared.task.OneMaker.{OneMaker}
use Rattle.dslx_const_tasks.specs.declared.task.OneMaker.TheVariants as one
use Rattle.dslx_const_tasks.specs.declared.task.PairMaker.{PairMaker}
use Rattle.dslx_const_tasks.specs.declared.task.PairMaker.TheVariants as pair
use Rattle.dslx_const_tasks.specs.declared.task.ListMaker.{ListMaker}
use Rattle.dslx_const_tasks.specs.declared.task.ListMaker.TheVariants as several
use Rattle.dslx_const_tasks.specs.declared.task.Waiting.{Waiting}
use Rattle.dslx_const_tasks.specs.declared.task.Sequel.{Sequel}
use Rattle.dslx_const_tasks.specs.declared.task.Sequel.TheVariants as sequel
use Rattle.dslx_const_tasks.specs.declared.task.Fields.{Fields}
use Rattle.dslx_const_tasks.specs.declared.task.Call.{Call}
use Rattle.dslx_const_tasks.specs.declared.task.Task.{Task}
use Rattle.dslx_const_tasks.specs.declared.task.Task.TheVariants as task
use Rattle.dslx_const_tasks.specs.declared.task.ValueTask.{ValueTask}
use Rattle.dslx_const_tasks.specs.declared.task.ValueTask.TheVariants as value
use Rattle.dslx_const_tasks.specs.declared.task.ListTask.{ListTask}
use Rattle.dslx_const_tasks.specs.declared.task.ListTask.TheVariants as items
use Rattle.dslx_const_tasks.specs.declared.task.ChoiceTask.{ChoiceTask}
use Rattle.dslx_const_tasks.specs.declared.task.ChoiceTask.TheVariants as choice
use Rattle.dslx_const_tasks.specs.declared.task.TypeTask.{TypeTask}
use Rattle.dslx_const_tasks.specs.declared.task.TypeTask.TheVariants as ty
use Rattle.dslx_const_tasks.specs.declared.task.CallTask.{CallTask}
use Rattle.dslx_const_tasks.specs.declared.task.CallTask.TheVariants as call
use Rattle.dslx_meaning.specs.Names.ConstMachine.Tasks as m

abbrev pub plain_found : Found → m.Finding
plain_found (found.Value v) = m.ValueFound v
plain_found (found.Type t) = m.TypeFound t
plain_found (found.Count n) = m.CountFound n

abbrev pub plain_one : OneMaker → m.OneMaker
plain_one (one.Prefix o) = m.MakesPrefix o
plain_one (one.Field name) = m.MakesField name.now
plain_one (one.Element k) = m.MakesElement k
plain_one (one.Cast t) = m.MakesCast t
plain_one (one.Slice from to) = m.MakesSlice from to

abbrev pub plain_pair : PairMaker → m.PairMaker
plain_pair (pair.Binary o) = m.MakesBinary o
plain_pair pair.Index = m.MakesIndexed
plain_pair (pair.Part n) = m.MakesPart n

abbrev pub plain_list : ListMaker → m.ListMaker
plain_list several.Tuple = m.MakesTuple
plain_list several.Array = m.MakesArray
plain_list (several.Fill t n dots) = m.Fills t n dots
plain_list (several.Call name parametric_args) = m.CallsWith name.now parametric_args.items

abbrev pub plain_waiting : Waiting → m.Waiting
plain_waiting w = record { patterns = w.patterns.now; values = w.values }

abbrev pub plain_sequel : Sequel → m.Sequel
plain_sequel (sequel.Statements ss last) = m.ThenStatements ss.now last.now
plain_sequel (sequel.Accumulator p v b) = m.ThenAccumulator p.now v b.now
plain_sequel (sequel.Body k b) = m.ThenBody k b.now
plain_sequel (sequel.Arm ps a rest v) = m.ThenArm ps.now a.now rest.now v

abbrev pub plain_call : Call → m.ConstCall
plain_call c = record { function = c.function.now; given = c.given; inferred = map inferred c.inferred.items; operands = c.operands; bound = c.bound; left = c.left }

abbrev pub plain_value_task : ValueTask → m.ConstTask
plain_value_task (value.Block b) = m.DoesBlock b.now
plain_value_task (value.Statements ss last) = m.DoesStatements ss.now last.now
plain_value_task (value.Bind p ss last) = m.Binds p.now ss.now last.now
plain_value_task (value.Pass ss last) = m.Passes ss.now last.now
plain_value_task (value.Number b) = m.Numbers b
plain_value_task (value.MakeOne maker) = m.MakesOne (plain_one maker)
plain_value_task (value.FindRight maker e) = m.FindsRight (plain_pair maker) e.now
plain_value_task (value.MakePair maker v) = m.MakesPair (plain_pair maker) v
plain_value_task (value.TakePart e i) = m.TakesPart e.now i.now
plain_value_task (value.Cast e) = m.Casts e.now
plain_value_task (value.FindEnd e b) = m.FindsEnd e.now b.now
plain_value_task (value.Slice e from) = m.Slices e.now from
plain_value_task (value.Choose a b) = m.Chooses a.now b.now

abbrev pub plain_fields : Fields → m.ConstTask
plain_fields f = m.GathersFields f.name f.names f.values.items f.written.now f.rest

abbrev pub plain_list_task : ListTask → m.ConstTask
plain_list_task (items.Elements es dots) = m.FindsElements es.now dots
plain_list_task (items.Gather vs es maker) = m.Gathers vs.items es.now (plain_list maker)
plain_list_task (items.GatherParametricArgs vs parametric_args name es) = m.GathersParametricArgs vs.items parametric_args.now name.now es.now
plain_list_task (items.FindFields fields rest) = m.FindsFields fields.now rest.now
plain_list_task (items.TakeRest name names fields) = m.TakesRest name names fields.now
plain_list_task (items.GatherFields f) = plain_fields f

abbrev pub plain_choice_task : ChoiceTask → m.ConstTask
plain_choice_task (choice.Select arms) = m.Selects arms.now
plain_choice_task (choice.Try ps a rest v) = m.Tries ps.now a.now rest.now v
plain_choice_task (choice.BindNothing pss e) = m.BindsNothing (map {B = List Pattern} (λ ps. ps.now) pss) e.now
plain_choice_task (choice.Fit f) = m.Fits (map plain_waiting f.work) f.names (plain_sequel f.next)
plain_choice_task (choice.Compare v f) = m.Compares v (map plain_waiting f.work) f.names (plain_sequel f.next)
plain_choice_task (choice.Forget k) = m.Forgets k
plain_choice_task (choice.StartLoop f) = m.StartsLoop f.now
plain_choice_task (choice.FindFirst f start) = m.FindsFirst f.now start
plain_choice_task (choice.FindLast f start a) = m.FindsLast f.now start a
plain_choice_task (choice.Turn f signed n i) = m.Turns f.now signed n i

abbrev pub plain_type_task : TypeTask → m.ConstTask
plain_type_task (ty.Find t) = m.FindsType t.now
plain_type_task (ty.MakeBits s) = m.MakesBits s
plain_type_task (ty.FindSize e) = m.FindsSize e.now
plain_type_task (ty.MakeArray t) = m.MakesArrayType t
plain_type_task (ty.Gather ts rest) = m.GathersTypes ts.items rest.now
plain_type_task (ty.GatherFields ts fs s) = m.GathersFieldTypes ts.items fs.now s.now
plain_type_task (ty.MakeEnum name) = m.MakesEnumType name.now
plain_type_task (ty.FindMember e name) = m.FindsMember e.now name.now
plain_type_task (ty.MakeMember kind name) = m.MakesMember kind name.now
plain_type_task (ty.CountSize e) = m.CountsSize e.now
plain_type_task ty.TakeSize = m.IsSize
plain_type_task (ty.CountBound e) = m.CountsBound e.now
plain_type_task ty.TakeBound = m.IsBound

abbrev pub plain_call_task : CallTask → m.ConstTask
plain_call_task (call.FindParametrics c ps) = m.FindsParametrics (plain_call c) ps.now
plain_call_task (call.GiveParametric c p ps) = m.GivesParametric (plain_call c) p.now ps.now
plain_call_task (call.GiveOperands c fs) = m.GivesOperands (plain_call c) fs.now
plain_call_task (call.Return bound n) = m.Returns bound n

abbrev pub plain_task : Task → m.ConstTask
plain_task (task.Eval e) = m.ValueDen e.now
plain_task (task.Value t) = plain_value_task t
plain_task (task.List t) = plain_list_task t
plain_task (task.Choice t) = plain_choice_task t
plain_task (task.Type t) = plain_type_task t
plain_task (task.Call t) = plain_call_task t

abbrev pub shown : Machine → m.ConstState
shown x = record { text = x.text.now; kept = option_map (λ k. values_kept k.now) x.kept; todo = map plain_task x.tasks; found = plain_found x.found; bound = x.bound; left = x.left }
