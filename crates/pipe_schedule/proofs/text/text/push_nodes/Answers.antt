use Rattle.std.proofs.Common.{◌≡◌, ◌++◌, ℕ, List, [], drop, string_bytes, ap, sym, ◌∙◌, arith}
use Rattle.std.proofs.lemmas.List.{append-nil}
use Rattle.pipe_schedule.specs.Text.Text.{node_lines}
use Rattle.pipe_schedule.proofs.OnText.Ends.{nodes_ended}
use Rattle.pipe_schedule.proofs.text.text.push_nodes.Goals as goal

pub returns : goal.returns
returns c =
    let none : node_lines (drop c.nodes.i c.args.nodes.now) (drop c.nodes.i c.args.stages.now) ≡ [] = nodes_ended c.args.nodes.now c.args.stages.now c.nodes.i (omega (arith, c.min-count.ensures)) in
    sym (append-nil (string_bytes c.nodes.text)) ∙ ap (λ (t : List ℕ). string_bytes c.nodes.text ++ t) (sym none) ∙ c.nodes.invariant
