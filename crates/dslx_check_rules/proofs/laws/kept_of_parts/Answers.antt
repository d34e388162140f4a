use Rattle.dslx_check_rules.proofs.Lemmas.Seen.{seen-append}
use Rattle.dslx_check_rules.proofs.laws.kept_of_parts.Goals as goal

pub returns : goal.returns
returns c = seen-append
