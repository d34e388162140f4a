use Rattle.dslx_check.proofs.text.known.texts_are_known.Goals as goal

pub returns : goal.returns
returns c = λ text reaching plain reached.
    let names = c.texts_are_known_by_names.ensures text reaching plain reached in
    record {
      whole = names.whole;
      distinct = names.distinct;
      needs = names.needs;
      is_constant = names.is_constant;
      cyclic = names.cyclic;
      not_type = names.not_type;
      not_struct = names.not_struct;
      not_constant = names.not_constant;
      not_enum = names.not_enum;
      no_type = names.no_type;
      no_struct = names.no_struct;
      no_constant = names.no_constant;
      no_member = names.no_member;
      plain = plain;
      reaches = names.reaches;
      free = names.free;
      values = λ kept P bound e s p u. c.kept_values_are_known.ensures text plain kept P s bound e p u;
    }
