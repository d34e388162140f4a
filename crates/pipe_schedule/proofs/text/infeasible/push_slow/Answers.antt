use Rattle.std.proofs.Common.{◌++◌, ℕ, List, string_bytes, ap, ◌∙◌}
use Rattle.std.specs.Prelude.{codes, decimal, slice_get}
use Rattle.std.proofs.lemmas.Result.{on_ok_weaker}
use Rattle.ir_tree.specs.declared.node.Node.{Node}
use Rattle.ir_text.specs.Printer.Parts.{name_there}
use Rattle.pipe_schedule.specs.Text.Infeasible.{slow_text}
use Rattle.pipe_schedule.proofs.OnText.Pieces.{three_pieces}
use Rattle.pipe_schedule.proofs.text.infeasible.push_slow.Goals as goal

pub returns : goal.returns
unfolding slow_text
returns c =
    on_ok_weaker c.push_count-2.result
    (λ last. three_pieces (string_bytes c.args.text.now) (string_bytes c.push_node.new.text) (string_bytes c.push_count.new.text) (string_bytes c.push_count-2.new.text)
    (name_there (slice_get c.args.proc.now.nodes c.args.node)) (codes " takes " ++ decimal c.args.delay) (codes " ps, clock " ++ decimal c.args.clock)
    (c.in_ok-push_node.ensures ∙ ap (λ (ns : List Node). string_bytes c.args.text.now ++ name_there (slice_get ns c.args.node)) c.as_slice.ensures)
    (c.in_ok-push_count.ensures ∙ ap (λ (n : ℕ). string_bytes c.push_node.new.text ++ (codes " takes " ++ decimal n)) c.from.ensures)
    (last ∙ ap (λ (n : ℕ). string_bytes c.push_count.new.text ++ (codes " ps, clock " ++ decimal n)) c.from-2.ensures))
    c.push_count-2.ensures
