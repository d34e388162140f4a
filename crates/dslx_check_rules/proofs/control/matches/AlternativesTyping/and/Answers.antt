use Rattle.std.proofs.Common.{◌∙◌, ◌&&◌, ◌||◌, Some}
use Rattle.dslx_check_rules.proofs.control.matches.AlternativesTyping.and.Goals as goal

pub returns : goal.returns
returns c = λ x p is other binds. record {
  faults = c.and.ensures x.faults p.faults is.faults other.faults;
  size = c.plus_size.ensures (Some x.size) (Some p.size) is.size other.size;
  known = c.both.ensures ∙ (λ i. is.known i && other.known i);
  sure = c.either.ensures ∙ (λ i. is.sure i || other.sure i);
  binds = c.either-2.ensures ∙ (λ i. is.binds i || binds i);
}
