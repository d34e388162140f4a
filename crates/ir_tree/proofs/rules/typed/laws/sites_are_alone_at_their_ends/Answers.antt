use Rattle.ir_tree.proofs.OnRules.OnTyped.Packages.{only_site}
use Rattle.ir_tree.proofs.rules.typed.laws.sites_are_alone_at_their_ends.Goals as goal

pub returns : goal.returns
returns c = only_site
