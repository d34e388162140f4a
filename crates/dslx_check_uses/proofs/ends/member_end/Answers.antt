use Rattle.std.proofs.Common.{◌∙◌, sym, ap}
use Rattle.std.specs.Option.{option_copied}
use Rattle.dslx_check_uses.proofs.OnChannels.{end_row, found_end, hidden_end}
use Rattle.dslx_check_uses.proofs.ends.member_end.Goals as goal

pub returns-in-Some-clause-is : goal.returns-in-Some-clause-is
returns-in-Some-clause-is c = λ names rows known.
    hidden_end names rows known c.args.s.now c.args.name.now c.in-Some.field-0.now (sym c.get.ensures ∙ ap option_copied c.in-Some.is)

pub returns-in-None-clause-is : goal.returns-in-None-clause-is
returns-in-None-clause-is c = λ names rows known.
    found_end names rows known c.args.s.now c.args.name.now c.copied.result (sym c.get.ensures ∙ ap option_copied c.in-None.is) (c.copied.ensures ∙ c.get-in-None.ensures)

pub returns-in-None-clause-row : goal.returns-in-None-clause-row
returns-in-None-clause-row c = λ items rows bound. end_row items rows c.args.s.now c.args.name.now c.copied.result bound (sym (c.copied.ensures ∙ c.get-in-None.ensures))
