use Rattle.std.proofs.Common.{◌≡◌, ◌∙◌, sym, ap}
use Rattle.std.specs.Option.{option_copied}
use Rattle.dslx_check_facts.proofs.OnEnds.{found_end, hidden_end}
use Rattle.dslx_check_facts.proofs.type_env.TypeEnv.channel_end.Goals as goal

pub returns-in-Some : goal.returns-in-Some
returns-in-Some c = λ names rows known.
    hidden_end names rows known c.args.self.now c.args.name.now c.in-Some.field-0.now (sym c.get.ensures ∙ ap option_copied c.in-Some.is)

pub returns-in-None : goal.returns-in-None
returns-in-None c = λ names rows known.
    found_end names rows known c.args.self.now c.args.name.now c.copied.result (sym c.get.ensures ∙ ap option_copied c.in-None.is) (c.copied.ensures ∙ c.get-in-None.ensures)
