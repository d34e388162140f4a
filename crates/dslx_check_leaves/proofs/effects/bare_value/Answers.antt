use Rattle.std.proofs.Common.{◌∙◌, sym}
use Rattle.dslx_check_leaves.proofs.Lemmas.Binding.{bare_judged, bare_kept}
use Rattle.dslx_check_leaves.proofs.effects.bare_value.Goals as goal

pub returns-then-is_effect_on_top : goal.returns-then-is_effect_on_top
returns-then-is_effect_on_top c = bare_kept c.args.on_top c.args.e.now c.args.types.now c.args.value (sym c.is_effect_on_top.ensures ∙ c.if-is_effect_on_top.true)

pub returns-else-is_effect_on_top : goal.returns-else-is_effect_on_top
returns-else-is_effect_on_top c = bare_judged c.args.on_top c.args.e.now c.args.types.now c.args.value c.no_token.result (sym c.is_effect_on_top.ensures ∙ c.if-is_effect_on_top.false) c.no_token.ensures
