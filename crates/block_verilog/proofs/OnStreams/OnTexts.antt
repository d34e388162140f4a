-- The Verilog text of a package reads as its module.
use Rattle.std.proofs.Common.{◌≡◌, ◌<◌, ◌^◌, ℕ, suc, List, [], ◌∷◌, length, Result, Ok, refl, subst, arith}
use Rattle.xb_span.specs.declared.read_error.ReadError.{ReadError}
use Rattle.ir_tree.specs.declared.package.Package.{Package}
use Rattle.ir_tree.specs.declared.package.Proc.{Proc}
use Rattle.ir_tree.specs.Rules.Verified.{IsVerified}
use Rattle.pipe_schedule.specs.declared.schedule.Demands.{Demands}
use Rattle.pipe_schedule.specs.declared.schedule.Schedule.{Schedule}
use Rattle.pipe_schedule.specs.Packages.{AreSchedules}
use Rattle.vlog_tree.specs.declared.module.VModule.{VModule}
use Rattle.vlog_text.specs.Reader.Given.{GivesModule}
use Rattle.block_verilog.specs.Schedule.Pipelines.{AreLegal}
use Rattle.block_verilog.specs.Texts.{IsVerilogOf, stages_of}
use Rattle.block_verilog.specs.Streams.Streams.{IsHardwareOf}

abbrev pub OneModule : Type 0
OneModule = (text : List ℕ) (a b : Result VModule ReadError) → GivesModule text a → GivesModule text b → a ≡ b

are_legal : (procs : List Proc) (demands : Demands) (schedules : List Schedule) → AreSchedules procs demands schedules → AreLegal demands.clock procs (stages_of schedules)
are_legal [] demands [] h = tt
are_legal [] demands (s ∷ ss) h = let e = h.count in absurd (omega (arith, e))
are_legal (p ∷ ps) demands [] h = let e = h.count in absurd (omega (arith, e))
are_legal (p ∷ ps) demands (s ∷ ss) h =
    let e = h.count in
    let one = h.each 0 p s refl refl in
    let rest : AreSchedules ps demands ss = record { count = omega (arith, e); each = λ i q t a b. h.each (suc i) q t a b } in
    (one.least.legal.at, are_legal ps demands ss rest)

pub text_is_of_hardware : OneModule → (ir : Package) (demands : Demands) (schedules : List Schedule) (depths text : List ℕ) (m : VModule) → IsVerified ir → AreSchedules ir.procs demands schedules
    → IsVerilogOf ir schedules depths text → length text < 2 ^ 32 → GivesModule text (Ok m) → IsHardwareOf m ir (stages_of schedules) depths
text_is_of_hardware law ir demands schedules depths text m verified scheduled is few gives =
    let both : ◌≡◌ {A = Result VModule ReadError} (Ok is.design) (Ok m) = law text (Ok is.design) (Ok m) (is.reads few) gives in
    let same : is.design ≡ m = cc in
    subst (λ x. IsHardwareOf x ir (stages_of schedules) depths) same (record { clock = demands.clock; verified = verified; legal = are_legal ir.procs demands schedules scheduled; made = is.is })
