use Rattle.std.proofs.Common.{subst}
use Rattle.std.specs.Prelude.{IfOk}
use Rattle.block_build.specs.Netlist.Added.{AddsWires}
use Rattle.block_verilog.specs.Sides.{SomeAt}
use Rattle.block_verilog.proofs.OnEnds.{some_put}
use Rattle.block_verilog.proofs.sides.some_at.Goals as goal

pub returns-in-Some : goal.returns-in-Some
returns-in-Some c =
    subst (λ o. IfOk c.some_asserted.result (λ signal. AddsWires c.args.wires.now c.some_asserted.new.wires (λ v. SomeAt v o c.args.channel c.args.sends signal))) c.in-Some.ensures
    (some_put c.some_asserted.result c.args.wires.now c.some_asserted.new.wires c.in-Some.made.now c.args.channel c.args.sends c.sites_of.result.sites.now c.sites_of.result.shaken.now c.sites_of.ensures.sites c.sites_of.ensures.shaken c.some_asserted.ensures.signal c.some_asserted.ensures.puts)
