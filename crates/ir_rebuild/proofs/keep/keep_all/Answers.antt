use Rattle.std.proofs.Common.{true, replicate, ap, ◌∙◌}
use Rattle.ir_rebuild.proofs.Keeping.{all_kept}
use Rattle.ir_rebuild.proofs.keep.keep_all.Goals as goal

pub returns-clause-kept : goal.returns-clause-kept
returns-clause-kept c = all_kept c.args.proc.now c.in_ok-kept.kept.items c.requires (c.in_ok-kept.ensures ∙ ap (λ n. replicate n true) c.len.ensures)

pub returns-clause-all : goal.returns-clause-all
returns-clause-all c = c.in_ok-kept.ensures ∙ ap (λ n. replicate n true) c.len.ensures
