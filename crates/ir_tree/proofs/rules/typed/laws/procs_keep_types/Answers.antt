use Rattle.ir_tree.proofs.OnRules.OnTyped.Packages.{keep_types}
use Rattle.ir_tree.proofs.rules.typed.laws.procs_keep_types.Goals as goal

pub returns : goal.returns
returns c = keep_types
