use Rattle.std.proofs.Common.{◌∙◌, ap}
use Rattle.std.proofs.lemmas.Result.{IfOk-weaker}
use Rattle.net_core.specs.declared.net.Net.{Net}
use Rattle.xls_cmd.specs.Design.Written.{depths_by}
use Rattle.xls_cmd.proofs.OnVerilog.Steps.{have_slots}
use Rattle.xls_cmd.proofs.verilog.printing.package_depths.Goals as goal

pub returns-clause-depths : goal.returns-clause-depths
returns-clause-depths c = IfOk-weaker c.depths.result _ _ (λ depths is. is ∙ ap (λ (net : Net). depths_by c.args.arguments net) c.in_ok-net.ensures) c.depths.ensures.depths

pub returns-clause-deep : goal.returns-clause-deep
returns-clause-deep c = IfOk-weaker c.depths.result _ _ (λ depths fit. have_slots c.args.ir.now c.in_ok-net.net depths.items c.in_ok-net.ensures fit) c.depths.ensures.fit
