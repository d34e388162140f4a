use Rattle.std.proofs.Common.{[], ◌∷◌, List, ℕ, Err, sym, subst}
use Rattle.xls_cmd.specs.Shared.Done.{IsDone, IsRefused}
use Rattle.xls_cmd.specs.Shared.Events.{file_events}
use Rattle.xls_cmd.specs.Shared.Loads.{Loads}
use Rattle.xls_cmd.specs.Shared.Step.{ExpectedBy, Then}
use Rattle.cmd_line.specs.Named.{named_sim}
use Rattle.xls_cmd.proofs.Lemmas.Shared.{all_handed, done_at_load, done_after_load, done_behind_loads}
use Rattle.xls_cmd.specs.Sim.Simulation.{sim, sim_files, sim_texts}
use Rattle.xls_cmd.proofs.sim.sim.sim_design.Goals as goal

pub returns-in_err-design : goal.returns-in_err-design
returns-in_err-design g c =
    all_handed c.from_residual.result c.in_err-design.field-0.0
    (λ given. IsDone (λ text. text.items) (ExpectedBy (g.F.Files.told c.args.files.now) (λ holds. sim holds (named_sim c.args.arguments))) (sim_files (named_sim c.args.arguments))
    (file_events g.F.Files.asked g.F.Files.faults g.F.Files.taken c.args.files.now c.load.new.files) given)
    c.from_residual.ensures.1
    (done_at_load g.F.Files.asked g.F.Files.faults g.F.Files.taken (λ text. text.items) (g.F.Files.told c.args.files.now) c.args.arguments.design.now
    (λ holds design. Then (Loads holds c.args.arguments.rows.now) (λ rows. sim_texts (named_sim c.args.arguments) design rows)) (c.args.arguments.rows.now ∷ [])
    c.args.files.now c.load.new.files c.in_err-design.field-0.0 c.load.ensures.asks c.in_err-design.ensures.refused)

pub returns-in_err-rows : goal.returns-in_err-rows
returns-in_err-rows g c =
    all_handed c.from_residual-in_err-rows.result c.in_err-rows.field-0.0
    (λ given. IsDone (λ text. text.items) (ExpectedBy (g.F.Files.told c.args.files.now) (λ holds. sim holds (named_sim c.args.arguments))) (sim_files (named_sim c.args.arguments))
    (file_events g.F.Files.asked g.F.Files.faults g.F.Files.taken c.args.files.now c.load-2.new.files) given)
    c.from_residual-in_err-rows.ensures.1
    (done_after_load g.F.Files.asked g.F.Files.faults g.F.Files.taken (λ text. text.items) (g.F.Files.told c.args.files.now) c.args.arguments.design.now c.in_ok-design.design.items
    (λ holds design. Then (Loads holds c.args.arguments.rows.now) (λ rows. sim_texts (named_sim c.args.arguments) design rows)) (c.args.arguments.rows.now ∷ [])
    c.args.files.now c.load.new.files c.load-2.new.files (Err c.in_err-rows.field-0.0) c.load.ensures.asks c.in_ok-design.ensures.sound c.load.ensures.taken_never_falls c.in_ok-design.ensures.loaded
    (done_at_load g.F.Files.asked g.F.Files.faults g.F.Files.taken (λ text. text.items) (g.F.Files.told c.args.files.now) c.args.arguments.rows.now
    (λ holds rows. sim_texts (named_sim c.args.arguments) c.in_ok-design.design.items rows) []
    c.load.new.files c.load-2.new.files c.in_err-rows.field-0.0 c.load-2.ensures.asks
    (subst (λ known_contents. IsRefused (ExpectedBy known_contents (λ holds. Loads holds c.args.arguments.rows.now)) (file_events g.F.Files.asked g.F.Files.faults g.F.Files.taken c.load.new.files c.load-2.new.files) (c.args.arguments.rows.now ∷ []) c.in_err-rows.field-0.0)
    c.load.ensures.told_stays c.in_err-rows.ensures.refused)))

pub returns : goal.returns
returns g c =
    done_after_load g.F.Files.asked g.F.Files.faults g.F.Files.taken (λ text. text.items) (g.F.Files.told c.args.files.now) c.args.arguments.design.now c.in_ok-design.design.items
    (λ holds design. Then (Loads holds c.args.arguments.rows.now) (λ rows. sim_texts (named_sim c.args.arguments) design rows)) (c.args.arguments.rows.now ∷ [])
    c.args.files.now c.load.new.files c.load-2.new.files c.sim_loaded.result c.load.ensures.asks c.in_ok-design.ensures.sound c.load.ensures.taken_never_falls c.in_ok-design.ensures.loaded
    (done_after_load g.F.Files.asked g.F.Files.faults g.F.Files.taken (λ text. text.items) (g.F.Files.told c.args.files.now) c.args.arguments.rows.now c.in_ok-rows.rows.items
    (λ holds rows. sim_texts (named_sim c.args.arguments) c.in_ok-design.design.items rows) []
    c.load.new.files c.load-2.new.files c.load-2.new.files c.sim_loaded.result c.load-2.ensures.asks c.in_ok-rows.ensures.sound c.load-2.ensures.taken_never_falls
    (subst (λ known_contents. ExpectedBy known_contents (λ holds. Loads holds c.args.arguments.rows.now) (Rattle.std.proofs.Common.Ok c.in_ok-rows.rows.items)) c.load.ensures.told_stays c.in_ok-rows.ensures.loaded)
    (done_behind_loads g.F.Files.asked g.F.Files.faults g.F.Files.taken (λ text. text.items) (g.F.Files.told c.args.files.now) (sim_texts (named_sim c.args.arguments) c.in_ok-design.design.items c.in_ok-rows.rows.items) []
    c.load-2.new.files c.sim_loaded.result (rw (c.deref.ensures.value, c.deref-2.ensures.value) at c.sim_loaded.ensures.gives) (rw (c.deref.ensures.value, c.deref-2.ensures.value) at c.sim_loaded.ensures.refused)))
