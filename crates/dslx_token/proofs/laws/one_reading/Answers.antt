use Rattle.dslx_token.proofs.OneReading.{one_list, one_odd_offset, not_both}
use Rattle.dslx_token.proofs.laws.one_reading.Goals as goal

pub returns : goal.returns
returns c = record {
  one = one_list;
  place = λ text i j a b. one_odd_offset text text i j a b;
  either = not_both;
}
