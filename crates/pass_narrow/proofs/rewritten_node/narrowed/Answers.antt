use Rattle.std.proofs.Common.{sym, ap, ◌∙◌}
use Rattle.pass_narrow.specs.Replacements.{replacement_of}
use Rattle.pass_narrow.proofs.Standing.{right_narrows}
use Rattle.pass_narrow.proofs.NormalSides.{stays_normal, right_keeps}
use Rattle.pass_narrow.proofs.rewritten_node.narrowed.Goals as goal

pub returns-in-None-clause-normal : goal.returns-in-None-clause-normal
returns-in-None-clause-normal c =
    stays_normal c.args.state.now c.args.nodes.now.items c.args.node c.requires.built c.requires.fits_at (ap (λ ns. replacement_of c.args.state.now ns c.args.node) (sym c.as_slice.ensures.value) ∙ sym c.in-None.ensures)

pub returns-in-Some-clause-narrows : goal.returns-in-Some-clause-narrows
returns-in-Some-clause-narrows c =
    right_narrows c.made.result c.args.state.now c.args.nodes.now.items c.made.new.nodes.items c.as_slice.result.now c.args.node c.in-Some.right c.bits_width.result c.as_slice.ensures.value c.bits_width.ensures c.requires.built c.requires.fits_at c.in-Some.ensures c.made.ensures.narrows

pub returns-in-Some-clause-normal : goal.returns-in-Some-clause-normal
returns-in-Some-clause-normal c =
    right_keeps c.made.result c.args.state.now c.args.nodes.now.items c.made.new.nodes.items c.as_slice.result.now c.args.node c.in-Some.right c.bits_width.result c.as_slice.ensures.value c.bits_width.ensures c.requires.built c.requires.fits_at c.in-Some.ensures c.made.ensures.normal
