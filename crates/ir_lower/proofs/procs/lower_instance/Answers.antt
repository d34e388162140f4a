use Rattle.std.proofs.Common.{◌∙◌, ap, map, subst, sym}
use Rattle.ir_lower.specs.Deep.{word_type}
use Rattle.ir_lower.specs.Inner.Made.{ProcLowers}
use Rattle.ir_lower.specs.Types.Typed.{InstanceTyped}
use Rattle.ir_lower.proofs.procs.lower_instance.Goals as goal

pub returns : goal.returns
returns c = record {
  members = c.in_ok-members.members.items;
  words = c.in_ok-words.words.items;
  types = ap (map (word_type c.args.chans.now)) (sym c.as_slice-2.ensures.value) ∙ c.in_ok-words.ensures;
  typed = subst (λ ws. InstanceTyped c.args.signatures.now ws c.args.instance.now) c.as_slice-3.ensures.value c.in_ok-check_steps.ensures;
  lowers = subst (λ ms. ProcLowers c.args.functions.now ms c.args.instance.now c.in_ok-proc.proc) c.as_slice-4.ensures.value c.in_ok-proc.ensures;
}
