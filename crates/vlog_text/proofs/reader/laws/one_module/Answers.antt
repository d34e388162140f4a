use Rattle.vlog_text.proofs.OnReader.OneModule.{one_given}
use Rattle.vlog_text.proofs.reader.laws.one_module.Goals as goal

pub returns : goal.returns
returns c = one_given (record {
  one_list = c.one_list_of_tokens.ensures.one;
  one_place = c.one_list_of_tokens.ensures.place;
  not_both = c.one_list_of_tokens.ensures.either;
  one_parsing = c.one_parsing.ensures;
  one_judgement = c.one_judgement.ensures;
})
