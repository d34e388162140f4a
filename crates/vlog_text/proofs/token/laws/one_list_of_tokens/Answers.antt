use Rattle.vlog_text.proofs.OnToken.OneCut.{one_list, one_offset, not_both}
use Rattle.vlog_text.proofs.token.laws.one_list_of_tokens.Goals as goal

pub returns : goal.returns
returns c = record {
  one = one_list;
  place = λ text i j a b. one_offset text text i j a b;
  either = not_both;
}
