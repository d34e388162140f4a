use Rattle.std.proofs.Common.{◌≡◌, ℕ, List, is_some, false, take}
use Rattle.base.specs.NameTable.Found.{found}
use Rattle.dslx_meaning.specs.Lists.{is_in}
use Rattle.dslx_meaning.specs.Rules.AggregateRules.{has_twice}
use Rattle.dslx_check_rules.specs.Nodes.Nodes.Structs.{written_names}
use Rattle.dslx_check_rules.proofs.nodes.structs.put_all.Given as goal

abbrev pub invariant-fields : goal.invariant-fields
invariant-fields l = record {
  twice : ((name : List ℕ) → is_some (found l.fn.written name) ≡ false) → l.is_twice ≡ has_twice (written_names (take l.field-index l.fields));
  put : ((name : List ℕ) → is_some (found l.fn.written name) ≡ false) → (name : List ℕ) → is_some (found l.written name) ≡ is_in name (written_names (take l.field-index l.fields));
}
