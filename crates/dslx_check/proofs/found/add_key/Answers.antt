use Rattle.dslx_check.proofs.found.add_key.Goals as goal

pub returns : goal.returns
returns c = record {
  key = c.in_ok-key.key;
  met = c.in_ok-key.ensures;
  is = c.in_ok-insert.ensures.keys;
  distinct = c.insert.ensures.unique;
}
