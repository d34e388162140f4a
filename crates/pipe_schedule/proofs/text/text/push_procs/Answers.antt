use Rattle.std.proofs.Common.{◌≡◌, ◌++◌, ℕ, List, [], drop, string_bytes, ap, sym, ◌∙◌, arith}
use Rattle.std.proofs.lemmas.List.{append-nil}
use Rattle.pipe_schedule.specs.Text.Text.{proc_lines}
use Rattle.pipe_schedule.proofs.OnText.Ends.{procs_ended}
use Rattle.pipe_schedule.proofs.text.text.push_procs.Goals as goal

pub returns : goal.returns
returns c =
    let none : proc_lines (drop c.procs.i c.args.procs.now) (drop c.procs.i c.args.schedules.now) ≡ [] = procs_ended c.args.procs.now c.args.schedules.now c.procs.i (omega (arith, c.min-count.ensures)) in
    sym (append-nil (string_bytes c.procs.text)) ∙ ap (λ (t : List ℕ). string_bytes c.procs.text ++ t) (sym none) ∙ c.procs.invariant
