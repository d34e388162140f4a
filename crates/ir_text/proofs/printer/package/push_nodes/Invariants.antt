use Rattle.std.proofs.Common.{◌≡◌, ◌++◌, drop, map, string_bytes}
use Rattle.ir_text.specs.Printer.Lines.{node_text, lines_text}
use Rattle.ir_text.proofs.printer.package.push_nodes.Given as goal

abbrev pub invariant-nodes : goal.invariant-nodes
invariant-nodes l = string_bytes l.text ++ lines_text (map (node_text l.channels l.nodes) (drop l.node-index l.nodes)) ≡ string_bytes l.fn.text ++ lines_text (map (node_text l.channels l.nodes) l.nodes)
