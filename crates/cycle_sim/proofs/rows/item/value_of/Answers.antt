use Rattle.std.proofs.Common.{◌≤◌, ◌∙◌, sym, subst}
use Rattle.std.proofs.lemmas.Str.{IsUtf8-from_ascii}
use Rattle.xb_value.specs.declared.ty.Ty.TheVariants.{Bits}
use Rattle.xb_value.proofs.Lemmas.Flat.{as_wide}
use Rattle.xb_value.proofs.Lemmas.Reads.{Spells-ascii}
use Rattle.xb_value.proofs.Lemmas.Types.{width_of-Bits}
use Rattle.cycle_sim.proofs.rows.item.value_of.Goals as goal

pub returns-in_default : goal.returns-in_default
returns-in_default c = λ ts spells. absurd (c.in_default.ensures.cases.0 (IsUtf8-from_ascii c.args.text.now (Spells-ascii c.args.text.now ts spells)))

pub flat-requires-clause-some_width : goal.flat-requires-clause-some_width
flat-requires-clause-some_width c =
    subst (λ k. 1 ≤ k) (sym (as_wide (Bits c.args.width) c.in-Ok-read_value.value c.in-Ok-read_value.ensures.of_type ∙ width_of-Bits c.args.width)) c.requires.some_width

pub flat-requires-clause-most_width : goal.flat-requires-clause-most_width
flat-requires-clause-most_width c =
    subst (λ k. k ≤ 128) (sym (as_wide (Bits c.args.width) c.in-Ok-read_value.value c.in-Ok-read_value.ensures.of_type ∙ width_of-Bits c.args.width)) c.requires.most_width
