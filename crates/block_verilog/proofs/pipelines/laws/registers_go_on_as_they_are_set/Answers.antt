use Rattle.std.proofs.Common.{◌+◌, ◌*◌, sym, subst}
use Rattle.block_stage.specs.Machine.Pipeline.{IsPipeline}
use Rattle.block_build.specs.Netlist.Nexts.{move_of}
use Rattle.block_verilog.specs.Signals.Registers.{stage_of}
use Rattle.block_verilog.specs.Schedule.Pipelines.{pipeline_of}
use Rattle.block_verilog.proofs.OnPipelines.OnGoing.{Begins, counts, as_many, registers_go}
use Rattle.block_verilog.proofs.OnPipelines.OnPipelines.{Known, goes_on, nodes_show}
use Rattle.block_verilog.proofs.OnPipelines.OnReset.{opening_typed, registers_reset, state_reset}
use Rattle.block_verilog.proofs.pipelines.laws.registers_go_on_as_they_are_set.Goals as goal

pub returns-clause-next : goal.returns-clause-next
returns-clause-next c ir p clock k parts a v next run views d dn h =
    let proc = parts.scheduled.proc in
    let is = subst (λ cs. IsPipeline (pipeline_of cs proc parts.scheduled.stages)) (sym a.channels) (c.scheduled_procs_are_pipelines.ensures ir p proc clock parts.scheduled.stages a.verified a.there a.legal) in
    let goes = goes_on v parts a.stages d.next
    (c.stages_go_on.ensures v parts.layout.registers.full parts.at.first parts.scheduled.depth parts.nums.sites parts.made.nodes.sites (move_of parts.made.stages.moves.items parts.scheduled.last) parts.at.moving (λ j. parts.nums.full + 3 * j)) in
    let early = c.verified_procs_can_be_pipelined.ensures.earlier ir p proc a.verified a.there in
    let there = c.verified_procs_can_be_pipelined.ensures.next ir p proc a.verified a.there in
    let begins : Begins ir parts = record {
      opening = opening_typed ir p proc (c.procs_fit_their_network.ensures.net ir a.verified) a.there;
      next_there = there;
      next_typed = c.verified_procs_can_be_pipelined.ensures.next_type ir p proc a.verified a.there;
      types = c.verified_procs_can_be_pipelined.ensures.types ir p proc a.verified a.there;
    } in
    registers_go c.registers_carry_on.ensures ir p clock k v next run views parts (record { put = a; driven = d; is = is; goes = goes }) begins (c.the_layout_serves_procs.ensures proc parts.scheduled.last (stage_of parts.scheduled.stages) early there)
    (nodes_show ir v views parts a.channels d.now.nodes (c.made_nodes_show_values.ensures ir p proc a.verified a.there v parts.scheduled.stages parts.layout.registers views parts.made.nodes))
    (nodes_show ir next views parts a.channels dn.now.nodes (c.made_nodes_show_values.ensures ir p proc a.verified a.there next parts.scheduled.stages parts.layout.registers views parts.made.nodes)) h

pub returns-clause-count : goal.returns-clause-count
returns-clause-count c ir p clock k parts a v run views d =
    let proc = parts.scheduled.proc in
    let is = subst (λ cs. IsPipeline (pipeline_of cs proc parts.scheduled.stages)) (sym a.channels) (c.scheduled_procs_are_pipelines.ensures ir p proc clock parts.scheduled.stages a.verified a.there a.legal) in
    let goes = goes_on v parts a.stages d.next
    (c.stages_go_on.ensures v parts.layout.registers.full parts.at.first parts.scheduled.depth parts.nums.sites parts.made.nodes.sites (move_of parts.made.stages.moves.items parts.scheduled.last) parts.at.moving (λ j. parts.nums.full + 3 * j)) in
    let begins : Begins ir parts = record {
      opening = opening_typed ir p proc (c.procs_fit_their_network.ensures.net ir a.verified) a.there;
      next_there = c.verified_procs_can_be_pipelined.ensures.next ir p proc a.verified a.there;
      next_typed = c.verified_procs_can_be_pipelined.ensures.next_type ir p proc a.verified a.there;
      types = c.verified_procs_can_be_pipelined.ensures.types ir p proc a.verified a.there;
    } in
    as_many parts (counts ir p clock k v run views parts (record { put = a; driven = d; is = is; goes = goes }) begins)

pub returns-clause-reset : goal.returns-clause-reset
returns-clause-reset c ir p clock k parts a v next run views d h =
    let proc = parts.scheduled.proc in
    let is = subst (λ cs. IsPipeline (pipeline_of cs proc parts.scheduled.stages)) (sym a.channels) (c.scheduled_procs_are_pipelines.ensures ir p proc clock parts.scheduled.stages a.verified a.there a.legal) in
    let goes = goes_on next parts a.stages d.next
    (c.stages_go_on.ensures next parts.layout.registers.full parts.at.first parts.scheduled.depth parts.nums.sites parts.made.nodes.sites (move_of parts.made.stages.moves.items parts.scheduled.last) parts.at.moving (λ j. parts.nums.full + 3 * j)) in
    let begins : Begins ir parts = record {
      opening = opening_typed ir p proc (c.procs_fit_their_network.ensures.net ir a.verified) a.there;
      next_there = c.verified_procs_can_be_pipelined.ensures.next ir p proc a.verified a.there;
      next_typed = c.verified_procs_can_be_pipelined.ensures.next_type ir p proc a.verified a.there;
      types = c.verified_procs_can_be_pipelined.ensures.types ir p proc a.verified a.there;
    } in
    let known : Known ir p clock k next run views parts = record { put = a; driven = d; is = is; goes = goes } in
    (registers_reset ir p clock k v next run views parts known begins h, state_reset ir p clock k v next run views parts known begins h, begins.opening)
