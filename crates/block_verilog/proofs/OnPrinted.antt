-- What is printed of a package's module.
use Rattle.std.proofs.Common.{◌≡◌, ◌<◌, ◌^◌, ℕ, List, length, None, Ok, refl, subst, sym}
use Rattle.ir_tree.specs.declared.package.Package.{Package}
use Rattle.ir_tree.specs.Rules.Verified.{IsVerified}
use Rattle.pipe_schedule.specs.declared.schedule.Schedule.{Schedule}
use Rattle.vlog_tree.specs.declared.module.VModule.{VModule}
use Rattle.vlog_tree.specs.Verifier.Verified.{IsVerdict}
use Rattle.vlog_tree.specs.Verifier.WithSpans.{no_spans}
use Rattle.vlog_text.specs.Printer.ModuleText.{module_text}
use Rattle.vlog_text.specs.Reader.Given.{GivesModule}
use Rattle.vlog_text.specs.RoundTrip.Names.{HasTextNames}
use Rattle.block_verilog.specs.Modules.{IsModuleOf}
use Rattle.block_verilog.specs.Texts.{IsVerilogOf, stages_of}
use Rattle.block_verilog.proofs.OnNames.{text_names}

-- what is printed reads back
abbrev pub ReadBack : Type 0
ReadBack = (m : VModule) → IsVerdict m no_spans None → HasTextNames m → length (module_text m) < 2 ^ 32 → GivesModule (module_text m) (Ok m)

pub is_verilog : ReadBack → (ir : Package) (schedules : List Schedule) (depths : List ℕ) (m : VModule) (text : List ℕ) → IsVerified ir → IsVerdict m no_spans None → IsModuleOf m ir (stages_of schedules) depths → text ≡ module_text m
    → IsVerilogOf ir schedules depths text
is_verilog back ir schedules depths m text verified verdict is printed =
    subst (IsVerilogOf ir schedules depths) (sym printed)
    (record { design = m; is = is; printed = refl; reads = back m verdict (text_names ir m (stages_of schedules) depths verified is) })
