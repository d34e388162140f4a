use Rattle.std.proofs.Common.{◌++◌, ℕ, List, string_bytes, ap, ◌∙◌}
use Rattle.std.specs.Prelude.{codes}
use Rattle.std.proofs.lemmas.Result.{on_ok_weaker}
use Rattle.pipe_schedule.specs.Text.Infeasible.{head_text}
use Rattle.pipe_schedule.proofs.OnText.Pieces.{three_pieces}
use Rattle.pipe_schedule.proofs.text.infeasible.push_head.Goals as goal

pub returns : goal.returns
unfolding head_text
returns c =
    on_ok_weaker c.push_word-3.result
    (λ last. three_pieces (string_bytes c.args.text.now) (string_bytes c.push_word.new.text) (string_bytes c.push_word-2.new.text) (string_bytes c.push_word-3.new.text)
    (codes "infeasible: ") c.args.proc.now.name (codes ": ") c.in_ok-push_word.ensures
    (c.in_ok-push_word-2.ensures ∙ ap (λ (name : List ℕ). string_bytes c.push_word.new.text ++ name) c.as_str.ensures) last)
    c.push_word-3.ensures
