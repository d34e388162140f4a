use Rattle.std.proofs.Common.{◌≤◌, List, Ok, arith, sym, subst}
use Rattle.dslx_tree.specs.declared.item.Module.{Module}
use Rattle.ir_tree.specs.declared.package.Package.{Package}
use Rattle.pipe_schedule.specs.Packages.{AreSchedules}
use Rattle.pipe_schedule.specs.declared.schedule.Demands.{Demands}
use Rattle.pipe_schedule.specs.declared.schedule.Schedule.{Schedule}
use Rattle.block_verilog.specs.Modules.{AreScheduled}
use Rattle.xls_cmd.specs.Gen.Commands.{BuildsModule, TellsLevels, fed_rows, gen_demands}
use Rattle.xls_cmd.specs.Gen.Inner.{StepsOfOptimised, TellsFed}
use Rattle.xls_cmd.specs.Schedule.Commands.{HasSchedules, fits}
use Rattle.xls_cmd.specs.Shared.Done.{StopsBy}
use Rattle.xls_cmd.specs.Shared.Step.{Then}
use Rattle.xls_cmd.proofs.Lemmas.Shared.{err_handed, stops_in_first, stops_in_next}
use Rattle.xls_cmd.proofs.OnGen.Steps.{are_scheduled}
use Rattle.xls_cmd.proofs.generate.hardware.hardware_line.Goals as goal

pub schedules_of-requires-clause-some : goal.schedules_of-requires-clause-some
schedules_of-requires-clause-some c = subst (λ (demands : Demands). 1 ≤ demands.stages) (sym c.gen_demands.ensures) (omega arith)

pub returns-in_err-schedules-clause-refused : goal.returns-in_err-schedules-clause-refused
returns-in_err-schedules-clause-refused c =
    let ir = c.args.ir.now in
    let words = c.args.inputs.now.words in
    err_handed c.from_residual.result c.in_err-schedules.field-0.0 (λ r. (m : Module) (before : Package) → StopsBy (StepsOfOptimised words m before ir) r) c.from_residual.ensures.1
    (λ m before. stops_in_first (HasSchedules ir gen_demands) (λ schedules. Then (BuildsModule ir schedules) (λ design. TellsLevels m before ir schedules design words)) c.in_err-schedules.field-0.0
    (subst (λ (demands : Demands). StopsBy (HasSchedules ir demands) c.in_err-schedules.field-0.0) c.gen_demands.ensures c.in_err-schedules.ensures.refused))

pub returns-in_err-design-clause-refused : goal.returns-in_err-design-clause-refused
returns-in_err-design-clause-refused c =
    let ir = c.args.ir.now in
    let words = c.args.inputs.now.words in
    let schedules = c.in_ok-schedules.schedules in
    let scheduled : AreSchedules ir.procs gen_demands schedules = subst (λ (demands : Demands). AreSchedules ir.procs demands schedules) c.gen_demands.ensures c.in_ok-schedules.ensures.schedules in
    err_handed c.from_residual-in_err-design.result c.in_err-design.field-0.0 (λ r. (m : Module) (before : Package) → StopsBy (StepsOfOptimised words m before ir) r) c.from_residual-in_err-design.ensures.1
    (λ m before. stops_in_next (HasSchedules ir gen_demands) (λ s. Then (BuildsModule ir s) (λ design. TellsLevels m before ir s design words)) schedules c.in_err-design.field-0.0 (fits schedules scheduled)
    (stops_in_first (BuildsModule ir schedules) (λ design. TellsLevels m before ir schedules design words) c.in_err-design.field-0.0
    (subst (λ (s : List Schedule). StopsBy (BuildsModule ir s) c.in_err-design.field-0.0) c.as_slice-2.ensures c.in_err-design.ensures.refused)))

pub fed_line-requires-clause-runs : goal.fed_line-requires-clause-runs
fed_line-requires-clause-runs c =
    let ir = c.args.ir.now in
    let schedules = c.in_ok-schedules.schedules in
    let scheduled : AreSchedules ir.procs gen_demands schedules = subst (λ (demands : Demands). AreSchedules ir.procs demands schedules) c.gen_demands.ensures c.in_ok-schedules.ensures.schedules in
    c.in_ok-design.ensures.runs 1000 (subst (AreScheduled 1000 ir.procs) (sym c.as_slice-2.ensures) (are_scheduled ir.procs gen_demands schedules scheduled))

pub returns-clause-tells : goal.returns-clause-tells
returns-clause-tells c =
    let ir = c.args.ir.now in
    let words = c.args.inputs.now.words in
    let schedules = c.in_ok-schedules.schedules in
    let design = c.in_ok-design.design in
    let scheduled : AreSchedules ir.procs gen_demands schedules = subst (λ (demands : Demands). AreSchedules ir.procs demands schedules) c.gen_demands.ensures c.in_ok-schedules.ensures.schedules in
    let built = c.in_ok-design.ensures.gives 1000 (subst (AreScheduled 1000 ir.procs) (sym c.as_slice-2.ensures) (are_scheduled ir.procs gen_demands schedules scheduled)) in
    record {
      schedules = schedules;
      scheduled = scheduled;
      design = design;
      built = subst (λ (s : List Schedule). BuildsModule ir s (Ok design)) c.as_slice-2.ensures built;
      fed = subst (λ (s : List Schedule). TellsFed design words (fed_rows s c.args.events) c.in_ok-line.line.items) c.as_slice.ensures
          (subst (λ rows. TellsFed design words rows c.in_ok-line.line.items) c.in_ok-rows.ensures.rows c.in_ok-line.ensures);
    }
