use Rattle.std.proofs.Common.{not, sym, ap, ◌∙◌}
use Rattle.dslx_check_rules.proofs.Lemmas.Seen.{none_seen, not-not}
use Rattle.dslx_check_rules.proofs.faults.Faults.is_empty.Goals as goal

pub returns : goal.returns
returns c = λ faults e. not-not c.is_none.result ∙ ap not (sym c.is_none.ensures) ∙ none_seen faults c.args.self.now e
