use Rattle.std.proofs.Common.{sym, ap, ◌∙◌}
use Rattle.ir_tree.specs.Types.{ty_of}
use Rattle.block_build.specs.Netlist.Leaves.{leaf_widths}
use Rattle.block_build.proofs.OnNetlist.OnLiterals.{token_widths}
use Rattle.block_build.proofs.netlist.scopes.Scope.widths_of.Goals as goal

pub returns-in-None : goal.returns-in-None
returns-in-None c = c.new.ensures.items ∙ sym token_widths ∙ ap (λ t. leaf_widths (ty_of t)) c.in-None.ensures
