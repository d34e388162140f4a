use Rattle.std.proofs.Common.{◌≤◌, sym, subst}
use Rattle.std.proofs.lemmas.Str.{IsUtf8-from_ascii}
use Rattle.xb_value.proofs.Lemmas.Flat.{as_wide}
use Rattle.xb_value.proofs.Lemmas.Reads.{Spells-ascii}
use Rattle.chan_file.proofs.line.read_word.Goals as goal

pub returns-in_default : goal.returns-in_default
returns-in_default c = λ ts spells. absurd (c.in_default.ensures.cases.0 (IsUtf8-from_ascii c.args.line.now (Spells-ascii c.args.line.now ts spells)))

pub flat-requires-clause-some_width : goal.flat-requires-clause-some_width
flat-requires-clause-some_width c =
    subst (λ k. 1 ≤ k) (sym (as_wide c.args.ty.now c.in-Ok-read_value.value c.in-Ok-read_value.ensures.of_type)) c.requires.some_width

pub flat-requires-clause-most_width : goal.flat-requires-clause-most_width
flat-requires-clause-most_width c =
    subst (λ k. k ≤ 128) (sym (as_wide c.args.ty.now c.in-Ok-read_value.value c.in-Ok-read_value.ensures.of_type)) c.requires.most_width
