-- The text of a module.
use Rattle.std.specs.Prelude.{ℕ, ◌-◌, ◌==◌, ◌&&◌, List, [], ◌++◌, map, flat_map, length, codes, decimal, if◌then◌else◌}
use Rattle.xb_value.specs.Text.{listed}
use Rattle.vlog_tree.specs.declared.module.VModule.{VModule}
use Rattle.vlog_tree.specs.declared.module.Port.{Port}
use Rattle.vlog_tree.specs.declared.module.Direction.{Direction}
use Rattle.vlog_tree.specs.declared.module.Direction.TheVariants.{Input, Output}
use Rattle.vlog_tree.specs.declared.module.Declaration.{Declaration}
use Rattle.vlog_tree.specs.declared.module.Storage.{Storage}
use Rattle.vlog_tree.specs.declared.module.Storage.TheVariants.{Wire, Register}
use Rattle.vlog_tree.specs.declared.module.Assignment.{Assignment}
use Rattle.vlog_tree.specs.declared.module.Set.{Set}
use Rattle.vlog_text.specs.Printer.Parts.{signal_text, atom_text, expr_text}

-- `[7:0] `, and nothing for a width of 1
unfoldable pub range_text : ℕ → List ℕ
range_text width = if width == 1 then [] else (codes "[" ++ (decimal (width - 1) ++ codes ":0] "))

abbrev pub direction_text : Direction → List ℕ
direction_text Input = codes "input wire "
direction_text Output = codes "output wire "

abbrev pub port_text : Port → List ℕ
port_text p = direction_text p.direction ++ (range_text p.width ++ p.name)

abbrev pub storage_text : Storage → List ℕ
storage_text Wire = codes "wire "
storage_text Register = codes "reg "

abbrev pub declaration_text : Declaration → List ℕ
declaration_text d = storage_text d.storage ++ (range_text d.width ++ (d.name ++ codes ";\n"))

unfoldable pub assignment_start : VModule → ℕ → List ℕ
assignment_start m s = codes "assign " ++ (signal_text m s ++ codes " = ")

abbrev pub assignment_text : VModule → Assignment → List ℕ
assignment_text m a = assignment_start m a.target.0 ++ (expr_text m a.value ++ codes ";\n")

abbrev pub set_text : VModule → Set → List ℕ
set_text m set = signal_text m set.target.0 ++ (codes " <= " ++ (atom_text m set.value ++ codes ";\n"))

unfoldable pub clocked_start : List ℕ
clocked_start = codes "always @(posedge clk) begin if (rst) begin\n"

unfoldable pub clocked_middle : List ℕ
clocked_middle = codes "end else begin\n"

-- what registers take; nothing where there is none
abbrev pub clocked_text : VModule → List ℕ
clocked_text m =
    if (length m.at_reset == 0) && (length m.at_clock == 0) then []
    else (clocked_start ++ (flat_map (set_text m) m.at_reset ++ (clocked_middle ++ (flat_map (set_text m) m.at_clock ++ codes "end end\n"))))

unfoldable pub module_start : VModule → List ℕ
module_start m = codes "module " ++ (m.name ++ (codes "(" ++ (listed [] (map port_text m.ports) ++ codes ");\n")))

abbrev pub module_text : VModule → List ℕ
module_text m = module_start m ++ (flat_map declaration_text m.declarations ++ (flat_map (assignment_text m) m.assignments ++ (clocked_text m ++ codes "endmodule\n")))
