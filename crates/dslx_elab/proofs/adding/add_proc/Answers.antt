use Rattle.std.proofs.Common.{◌∙◌, sym}
use Rattle.std.proofs.lemmas.Result.{IfOk-weaker}
use Rattle.dslx_core.specs.Networks.Configs.{proc_instance_in}
use Rattle.dslx_elab.specs.Adding.{AddsMissing, AddsProc, IsAdded, IsAmong, KeepsTable}
use Rattle.dslx_elab.proofs.Added.{keeps_table}
use Rattle.dslx_elab.proofs.adding.add_proc.Goals as goal

pub returns-in-Some-clause-adds : goal.returns-in-Some-clause-adds
returns-in-Some-clause-adds c =
    IsAmong c.in-Some.field-0 (sym (c.instance_number.ensures ∙ (λ i. proc_instance_in c.args.wanted.name (c.as_slice-2.ensures i) 0 (c.as_slice.ensures.value i))) ∙ c.in-Some.is)

pub returns-in-None-clause-adds : goal.returns-in-None-clause-adds
returns-in-None-clause-adds c =
    IfOk-weaker c.add_missing.result (AddsMissing c.args.text.now c.args.limit c.args.made c.args.wanted) (AddsProc c.args.text.now c.args.limit c.args.made c.args.wanted)
    (λ o added. IsAdded o (sym (c.instance_number.ensures ∙ (λ i. proc_instance_in c.args.wanted.name (c.as_slice-2.ensures i) 0 (c.as_slice.ensures.value i))) ∙ c.in-None.is) added) c.add_missing.ensures

pub returns-in-None-clause-table : goal.returns-in-None-clause-table
returns-in-None-clause-table c =
    IfOk-weaker c.add_missing.result (AddsMissing c.args.text.now c.args.limit c.args.made c.args.wanted) (KeepsTable c.args.text.now)
    (λ o added. keeps_table c.args.text.now c.args.limit c.args.made c.args.wanted o added) c.add_missing.ensures
