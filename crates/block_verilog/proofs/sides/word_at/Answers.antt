use Rattle.std.proofs.Common.{subst}
use Rattle.std.specs.Prelude.{IfOk}
use Rattle.block_build.specs.Netlist.Added.{AddsWires}
use Rattle.block_verilog.specs.Sides.{WordAt}
use Rattle.block_verilog.proofs.OnEnds.{word_put}
use Rattle.block_verilog.proofs.sides.word_at.Goals as goal

pub returns-in-Some : goal.returns-in-Some
returns-in-Some c =
    subst (λ o. IfOk c.asserted_word.result (λ signal. AddsWires c.args.wires.now c.asserted_word.new.wires (λ v. WordAt v o c.args.channel c.args.width signal))) c.in-Some.ensures
    (word_put c.asserted_word.result c.args.wires.now c.asserted_word.new.wires c.in-Some.made.now c.args.channel c.args.width c.sites_of.result.sites.now c.sites_of.result.shaken.now c.sites_of.ensures.sites c.sites_of.ensures.shaken c.asserted_word.ensures.signal c.asserted_word.ensures.puts)
