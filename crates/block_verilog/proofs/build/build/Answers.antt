use Rattle.std.specs.Prelude.{map}
use Rattle.pipe_schedule.specs.declared.schedule.Schedule.{Schedule}
use Rattle.block_verilog.proofs.OnBuild.{are_deep, own_names}
use Rattle.block_verilog.proofs.build.build.Goals as goal

pub returns-in_ok-checked-in-None-clause-module : goal.returns-in_ok-checked-in-None-clause-module
returns-in_ok-checked-in-None-clause-module c = λ clock scheduled.
    let made = c.in_ok-checked-in-None.ensures.made clock c.requires.verified scheduled (are_deep c.args.ir.now.channels c.args.depths.now c.requires.deep c.in-None.ensures) in
    record {
      runs = c.in_ok-checked-in-None.ensures.runs;
      name = c.in_ok-checked-in-None.ensures.name;
      ports = made.assembled.ports_are;
      names = own_names c.in_ok-checked-in-None.field-0.declarations made.registers made.wires made.assembled.declarations;
      drives = c.modules_drive_their_blocks.ensures c.in_ok-checked-in-None.field-0 c.args.ir.now clock (map (λ (schedule : Schedule). schedule.stage) c.args.schedules.now) c.args.depths.now c.in_ok-checked-in-None.ensures.runs made;
    }
