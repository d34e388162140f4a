use Rattle.std.proofs.Common.{◌∙◌, ap, subst}
use Rattle.ir_lower.specs.Inner.Made.{AreLowered, types_of_chans}
use Rattle.ir_lower.proofs.whole.package_of.Goals as goal

pub returns : goal.returns
returns c = record {
  signatures = c.in_ok-signatures.signatures.items;
  signed = c.in_ok-signatures.ensures;
  channels = c.in_ok-channels.ensures ∙ ap types_of_chans c.as_slice.ensures;
  procs = subst (λ ss. AreLowered ss c.args.design.now c.args.made.now.net.chans c.args.made.now.instances.items c.in_ok-procs.procs) c.as_slice-2.ensures.value c.in_ok-procs.ensures;
}
