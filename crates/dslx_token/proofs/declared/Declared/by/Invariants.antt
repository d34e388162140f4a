use Rattle.std.proofs.Common.{◌≡◌, ◌||◌, ℕ, List, drop}
use Rattle.dslx_token.specs.declared.rules.generated.kind.TheConstants.{END}
use Rattle.dslx_token.specs.Inner.Names.{has_name}
use Rattle.dslx_token.specs.Kinds.{declares, heads_callable, heads_struct, heads_type}
use Rattle.dslx_token.proofs.declared.Declared.by.Given as goal

abbrev pub invariant-loop-token : goal.invariant-loop-token
invariant-loop-token l = record {
  types : (q : List ℕ) → (has_name l.declared.types q || declares heads_type l.before (drop l.token-index l.tokens) q) ≡ declares heads_type END l.tokens q;
  callables : (q : List ℕ) → (has_name l.declared.callables q || declares heads_callable l.before (drop l.token-index l.tokens) q) ≡ declares heads_callable END l.tokens q;
  structs : (q : List ℕ) → (has_name l.declared.structs q || declares heads_struct l.before (drop l.token-index l.tokens) q) ≡ declares heads_struct END l.tokens q;
}
