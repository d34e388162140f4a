-- The schedules of a package are those that its module is made by.
use Rattle.std.proofs.Common.{suc, List, [], ◌∷◌, refl, arith}
use Rattle.ir_tree.specs.declared.package.Proc.{Proc}
use Rattle.pipe_schedule.specs.declared.schedule.Demands.{Demands}
use Rattle.pipe_schedule.specs.declared.schedule.Schedule.{Schedule}
use Rattle.pipe_schedule.specs.Packages.{AreSchedules}
use Rattle.block_verilog.specs.Modules.{AreScheduled}

pub are_scheduled : (procs : List Proc) (demands : Demands) (schedules : List Schedule) → AreSchedules procs demands schedules → AreScheduled demands.clock procs schedules
are_scheduled [] demands [] h = tt
are_scheduled [] demands (s ∷ ss) h = let e = h.count in absurd (omega (arith, e))
are_scheduled (p ∷ ps) demands [] h = let e = h.count in absurd (omega (arith, e))
are_scheduled (p ∷ ps) demands (s ∷ ss) h =
    let e = h.count in
    let one = h.each 0 p s refl refl in
    let rest : AreSchedules ps demands ss = record { count = omega (arith, e); each = λ i q t a b. h.each (suc i) q t a b } in
    (one.least.legal.at, one.stages, one.interval, are_scheduled ps demands ss rest)
