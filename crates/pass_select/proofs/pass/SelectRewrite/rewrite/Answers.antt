use Rattle.std.proofs.Common.{sym, ap, ◌∙◌, refl, inl}
use Rattle.pass_select.specs.Choices.{choice_of}
use Rattle.pass_select.proofs.Chosen.{choice_rewrites}
use Rattle.pass_select.proofs.Appends.{appended_if, selected_if}
use Rattle.pass_select.proofs.pass.SelectRewrite.rewrite.Goals as goal

pub returns-in-Some-clause-rewrites : goal.returns-in-Some-clause-rewrites
returns-in-Some-clause-rewrites c =
    choice_rewrites c.args._state.now c.args.nodes.now.items c.args.node c.in-Some.operand c.requires.built c.requires.fits_at
    (ap (λ ns. choice_of ns c.args.node) (sym c.as_slice.ensures.value) ∙ sym c.in-Some.ensures)

pub returns-in-None-clause-rewrites : goal.returns-in-None-clause-rewrites
returns-in-None-clause-rewrites c = appended_if c.append.result c.args._state.now c.args.nodes.now.items c.append.new.nodes.items c.args.node c.requires.built c.requires.fits_at c.requires.plain c.append.ensures.nodes c.append.ensures.operand

pub returns-in-Some-clause-gives : goal.returns-in-Some-clause-gives
returns-in-Some-clause-gives c = inl (ap (λ ns. choice_of ns c.args.node) (sym c.as_slice.ensures.value) ∙ sym c.in-Some.ensures, refl)

pub returns-in-None-clause-gives : goal.returns-in-None-clause-gives
returns-in-None-clause-gives c =
    selected_if c.append.result c.args._state.now c.args.nodes.now.items c.append.new.nodes.items c.args.node
    (ap (λ ns. choice_of ns c.args.node) (sym c.as_slice.ensures.value) ∙ sym c.in-None.ensures) c.append.ensures.nodes c.append.ensures.operand
