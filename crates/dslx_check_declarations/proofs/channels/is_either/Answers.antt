use Rattle.std.proofs.Common.{◌∙◌, ◌||◌, ap}
use Rattle.std.specs.Str.{bytes_eq}
use Rattle.dslx_check_declarations.proofs.OnChannels.{either_is}
use Rattle.dslx_check_declarations.proofs.channels.is_either.Goals as goal

pub returns : goal.returns
returns c = either_is (bytes_eq c.args.name.now c.args.other.now) c.args.is_before c.either.result (c.either.ensures ∙ ap (λ b. b || c.args.is_before) c.eq.ensures)
