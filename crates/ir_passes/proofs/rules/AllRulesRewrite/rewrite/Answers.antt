use Rattle.std.proofs.Common.{sym, ap, ◌∙◌}
use Rattle.pass_select.specs.Choices.{choice_of}
use Rattle.pass_select.proofs.Lemmas.{choice_rewrites}
use Rattle.ir_passes.proofs.Selects.{undecided}
use Rattle.ir_passes.proofs.Exact.{simplifies, by_choice}
use Rattle.ir_passes.proofs.rules.AllRulesRewrite.rewrite.Goals as goal

pub returns-in-Some-clause-rewrites : goal.returns-in-Some-clause-rewrites
returns-in-Some-clause-rewrites c =
    choice_rewrites c.args.state.now c.args.nodes.now.items c.args.node c.in-Some.operand c.requires.built c.requires.fits_at
    (ap (λ ns. choice_of ns c.args.node) (sym c.as_slice.ensures.value) ∙ sym c.in-Some.ensures)

pub returns-in-Some-clause-gives : goal.returns-in-Some-clause-gives
returns-in-Some-clause-gives c =
    let old = c.args.nodes.now.items in
    simplifies c.args.state.now old old c.args.node c.in-Some.operand
    (by_choice c.args.state.now old c.args.node c.in-Some.operand (ap (λ ns. choice_of ns c.args.node) (sym c.as_slice.ensures.value) ∙ sym c.in-Some.ensures))
    (λ h. h)

pub returns-in-None-clause-gives : goal.returns-in-None-clause-gives
returns-in-None-clause-gives c = c.simplified.ensures.simplifies (ap (λ ns. choice_of ns c.args.node) (sym c.as_slice.ensures.value) ∙ sym c.in-None.ensures)

pub simplified-requires-clause-undecided : goal.simplified-requires-clause-undecided
simplified-requires-clause-undecided c =
    undecided c.args.state.now c.args.nodes.now.items c.args.node c.requires.built c.requires.fits_at
    (ap (λ ns. choice_of ns c.args.node) (sym c.as_slice.ensures.value) ∙ sym c.in-None.ensures)
