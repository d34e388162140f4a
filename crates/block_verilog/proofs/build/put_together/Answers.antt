use Rattle.std.proofs.Common.{◌+◌, ◌<◌, ◌^◌, sym, ap, ◌∙◌, subst, arith}
use Rattle.std.specs.Prelude.{map}
use Rattle.vlog_tree.specs.Signals.{declared_port}
use Rattle.block_build.specs.Netlist.Registers.{next_register}
use Rattle.block_verilog.specs.Put.{AllPut}
use Rattle.block_verilog.proofs.OnBuild.{ok_then, module_made, few_registers, ports_counted}
use Rattle.block_verilog.proofs.build.put_together.Goals as goal

pub returns-clause-made : goal.returns-clause-made
returns-clause-made c = ok_then c.assembled.result _ _ c.assembled.ensures.parts (λ m parts clock verified scheduled deep.
    module_made m c.args.ir.now clock c.args.schedules.now c.args.depths.now c.as_slice-channels.result.now (map declared_port c.in_ok-ports.ports) c.in_ok-numbers.numbers.items c.as_slice-3.result.now c.in_ok-first.first c.in_ok-layout.layout.registers
    c.in_ok-layout.layout.fifos.items c.in_ok-layout.layout.procs.items c.new-wires.result c.put_wires.new.wires c.put_nexts.new.wires c.in_ok-made.made.views.items c.in_ok-made.made.procs.items c.in_ok-made.made.ends.items c.as_slice-4.result.now c.in_ok-nexts.nexts.items
    c.as_slice-2.result.now c.as_slice-channels.ensures c.in_ok-ports.ensures c.in_ok-numbers.ensures c.as_slice-3.ensures.value c.as_slice-4.ensures.value c.as_slice-2.ensures.value (ports_counted c.in_ok-first.first c.len.result c.in_ok-ports.ports c.in_ok-first.ensures c.len.ensures)
    c.in_ok-layout.ensures (few_registers c.in_ok-next.next c.in_ok-layout.layout.registers c.in_ok-next.ensures.number c.in_ok-next.ensures.few)
    (λ l s. subst (λ x. AllPut c.new-wires.result c.put_wires.new.wires c.args.ir.now c.args.schedules.now x c.in_ok-layout.layout.fifos.items c.in_ok-layout.layout.procs.items c.in_ok-made.made.views.items c.in_ok-made.made.procs.items c.in_ok-made.made.ends.items)
    (c.as_slice.ensures.value ∙ sym c.as_slice-3.ensures.value) (c.in_ok-made.ensures l s)) c.in_ok-nexts.ensures parts verified scheduled deep)
