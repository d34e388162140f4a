use Rattle.std.proofs.Common.{◌+◌, ◌*◌, sym, subst}
use Rattle.block_stage.specs.Machine.Pipeline.{IsPipeline}
use Rattle.block_build.specs.Netlist.Nexts.{move_of}
use Rattle.block_verilog.specs.Signals.Registers.{stage_of}
use Rattle.block_verilog.specs.Schedule.Pipelines.{pipeline_of}
use Rattle.block_verilog.proofs.OnPipelines.OnPipelines.{goes_on, nodes_show, pipeline_made, partners_are, requests_same}
use Rattle.block_verilog.proofs.pipelines.laws.pipelines_are_made.Goals as goal

pub returns-clause-made : goal.returns-clause-made
returns-clause-made c ir p clock k parts a v run views d keep =
    let proc = parts.scheduled.proc in
    let is = subst (λ cs. IsPipeline (pipeline_of cs proc parts.scheduled.stages)) (sym a.channels) (c.scheduled_procs_are_pipelines.ensures ir p proc clock parts.scheduled.stages a.verified a.there a.legal) in
    let goes = goes_on v parts a.stages d.next
    (c.stages_go_on.ensures v parts.layout.registers.full parts.at.first parts.scheduled.depth parts.nums.sites parts.made.nodes.sites (move_of parts.made.stages.moves.items parts.scheduled.last) parts.at.moving (λ j. parts.nums.full + 3 * j)) in
    let early = c.verified_procs_can_be_pipelined.ensures.earlier ir p proc a.verified a.there in
    let there = c.verified_procs_can_be_pipelined.ensures.next ir p proc a.verified a.there in
    pipeline_made ir p clock k v run views parts (record { put = a; driven = d; is = is; goes = goes }) keep early there (c.verified_procs_can_be_pipelined.ensures.next_type ir p proc a.verified a.there)
    (c.verified_procs_can_be_pipelined.ensures.types ir p proc a.verified a.there) (c.the_layout_serves_procs.ensures proc parts.scheduled.last (stage_of parts.scheduled.stages) early there)
    (nodes_show ir v views parts a.channels d.now.nodes (c.made_nodes_show_values.ensures ir p proc a.verified a.there v parts.scheduled.stages parts.layout.registers views parts.made.nodes))

pub returns-clause-partners : goal.returns-clause-partners
returns-clause-partners c ir p clock k parts a v run views d ends shows =
    let proc = parts.scheduled.proc in
    let is = subst (λ cs. IsPipeline (pipeline_of cs proc parts.scheduled.stages)) (sym a.channels) (c.scheduled_procs_are_pipelines.ensures ir p proc clock parts.scheduled.stages a.verified a.there a.legal) in
    let goes = goes_on v parts a.stages d.next
    (c.stages_go_on.ensures v parts.layout.registers.full parts.at.first parts.scheduled.depth parts.nums.sites parts.made.nodes.sites (move_of parts.made.stages.moves.items parts.scheduled.last) parts.at.moving (λ j. parts.nums.full + 3 * j)) in
    partners_are ir p clock k v run views parts (record { put = a; driven = d; is = is; goes = goes }) ends shows

pub returns-clause-requests : goal.returns-clause-requests
returns-clause-requests c ir p clock k parts a v run views d chan sends =
    let proc = parts.scheduled.proc in
    let is = subst (λ cs. IsPipeline (pipeline_of cs proc parts.scheduled.stages)) (sym a.channels) (c.scheduled_procs_are_pipelines.ensures ir p proc clock parts.scheduled.stages a.verified a.there a.legal) in
    let goes = goes_on v parts a.stages d.next
    (c.stages_go_on.ensures v parts.layout.registers.full parts.at.first parts.scheduled.depth parts.nums.sites parts.made.nodes.sites (move_of parts.made.stages.moves.items parts.scheduled.last) parts.at.moving (λ j. parts.nums.full + 3 * j)) in
    requests_same ir p clock k v run views parts (record { put = a; driven = d; is = is; goes = goes }) chan sends
