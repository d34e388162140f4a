use Rattle.std.proofs.Common.{List, ℕ, None, ap, subst, ◌∙◌}
use Rattle.xls_gen.specs.Design.Text.{design_text}
use Rattle.xls_cmd.specs.Design.Commands.{ReadsModule}
use Rattle.xls_cmd.specs.Design.Inner.{IsDesignRead}
use Rattle.xls_cmd.specs.Gen.Commands.{gen_name}
use Rattle.xls_cmd.specs.Shared.Done.{StopsBy}
use Rattle.xls_cmd.proofs.Lemmas.Shared.{err_handed}
use Rattle.xls_cmd.proofs.generate.source.made_design.Goals as goal

pub returns-in_err-checked-clause-refused : goal.returns-in_err-checked-clause-refused
returns-in_err-checked-clause-refused c =
    err_handed c.from_residual-in_err-checked.result c.in_err-checked.field-0.0 (StopsBy (ReadsModule gen_name None (design_text c.args.arguments.seed c.args.arguments.procs))) c.from_residual-in_err-checked.ensures.1
    (subst (λ (t : List ℕ). StopsBy (ReadsModule gen_name None t) c.in_err-checked.field-0.0) (c.as_str.ensures.value ∙ c.in_ok-written.ensures.text ∙ ap (λ seed. design_text seed c.args.arguments.procs) c.from.ensures) c.in_err-checked.ensures.refused)

pub returns-clause-reads : goal.returns-clause-reads
returns-clause-reads c = subst (λ (t : List ℕ). IsDesignRead gen_name None t c.in_ok-checked.checked) (c.as_str.ensures.value ∙ c.in_ok-written.ensures.text ∙ ap (λ seed. design_text seed c.args.arguments.procs) c.from.ensures) c.in_ok-checked.ensures.reads

pub returns-clause-words : goal.returns-clause-words
returns-clause-words c = c.in_ok-written.ensures.words
