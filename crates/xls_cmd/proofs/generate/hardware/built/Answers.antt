use Rattle.std.proofs.Common.{◌≡◌, ◌∙◌, None, ap, refl, sym, subst}
use Rattle.net_core.specs.declared.net.Net.{Net}
use Rattle.ir_tree.specs.Networks.{network_of}
use Rattle.block_verilog.specs.Modules.{HaveSlots, IsModuleOf, NoneTooDeep}
use Rattle.block_verilog.specs.Texts.{stages_of}
use Rattle.xls_cmd.specs.Design.Written.{depths_by}
use Rattle.xls_cmd.specs.Gen.Commands.{builds}
use Rattle.xls_cmd.proofs.OnGen.Steps.{refuses_depth}
use Rattle.xls_cmd.proofs.OnVerilog.Steps.{have_slots}
use Rattle.xls_cmd.proofs.generate.hardware.built.Goals as goal

pub build-requires-clause-deep : goal.build-requires-clause-deep
build-requires-clause-deep c =
    subst (HaveSlots c.args.ir.now.channels) (sym c.as_slice.ensures.value) (have_slots c.args.ir.now c.in_ok-net.net c.in_ok-depths.depths.items (c.in_ok-net.ensures {u = tt}) c.in_ok-depths.ensures.fit)

pub returns-in-Ok-clause-gives : goal.returns-in-Ok-clause-gives
returns-in-Ok-clause-gives c = λ clock scheduled.
    let ir = c.args.ir.now in
    let deep : c.as_slice.result.now ≡ depths_by None (network_of ir) = c.as_slice.ensures.value ∙ c.in_ok-depths.ensures.depths ∙ ap (λ (n : Net). depths_by None n) (c.in_ok-net.ensures {u = tt}) in
    builds c.in-Ok.design (subst (NoneTooDeep ir.channels) deep c.in-Ok.ensures.shallow) (subst (IsModuleOf c.in-Ok.design ir (stages_of c.args.schedules.now)) deep (c.in-Ok.ensures.module clock scheduled))

pub returns-in-Ok-clause-runs : goal.returns-in-Ok-clause-runs
returns-in-Ok-clause-runs c = λ clock scheduled. (c.in-Ok.ensures.module clock scheduled).runs

pub returns-in-Err-Over-clause-refused : goal.returns-in-Err-Over-clause-refused
returns-in-Err-Over-clause-refused c =
    let ir = c.args.ir.now in
    let deep : c.as_slice.result.now ≡ depths_by None (network_of ir) = c.as_slice.ensures.value ∙ c.in_ok-depths.ensures.depths ∙ ap (λ (n : Net). depths_by None n) (c.in_ok-net.ensures {u = tt}) in
    refuses_depth _ ir c.as_slice.result.now c.args.schedules.now c.in-Err-Over.limit c.of_text.result c.of_text.ensures refl deep (rw c.in-Err-Over.field-0-is at c.in-Err-Over.ensures.refused)
