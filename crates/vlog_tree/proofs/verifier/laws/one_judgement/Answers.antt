use Rattle.std.proofs.Common.{◌≡◌, ◌++◌, ap, sym, ◌∙◌, None}
use Rattle.vlog_tree.specs.Verifier.Checks.{noted}
use Rattle.vlog_tree.specs.Verifier.Verified.{module_checks}
use Rattle.vlog_tree.proofs.OnVerifier.Judging.{one_loop}
use Rattle.vlog_tree.proofs.verifier.laws.one_judgement.Goals as goal

pub returns : goal.returns
returns c = λ m part_spans one other x y.
    x.is ∙ ap (λ cs. noted None (module_checks m part_spans ++ cs)) (one_loop m part_spans x.loops y.loops x.looped y.looped) ∙ sym y.is
