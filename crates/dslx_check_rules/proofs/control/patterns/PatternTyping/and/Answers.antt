use Rattle.std.proofs.Common.{◌∙◌, ◌&&◌, Some}
use Rattle.dslx_check_rules.proofs.control.patterns.PatternTyping.and.Goals as goal

pub returns : goal.returns
returns c = λ x y is other. record {
  faults = c.and.ensures x.faults y.faults is.faults other.faults;
  size = c.plus_size.ensures (Some x.size) (Some y.size) is.size other.size;
  known = c.both.ensures ∙ (λ i. is.known i && other.known i);
  sure = c.both-2.ensures ∙ (λ i. is.sure i && other.sure i);
}
