use Rattle.std.proofs.Common.{◌≡◌, length, drop, map}
use Rattle.std.specs.Str.{bytes_eq}
use Rattle.dslx_meaning.specs.Items.{name_of_field}
use Rattle.dslx_meaning.specs.Lists.{pairwise}
use Rattle.dslx_check_facts.proofs.typed_values.are_fields.Given as goal

abbrev pub invariant-fields : goal.invariant-fields
invariant-fields l = record {
  same_length : length l.names ≡ length l.fields;
  same_rest : pairwise bytes_eq (drop l.i l.names) (map name_of_field (drop l.i l.fields)) ≡ pairwise bytes_eq l.names (map name_of_field l.fields);
}
