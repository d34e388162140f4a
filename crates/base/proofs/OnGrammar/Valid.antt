-- What the test says of a grammar.
use Rattle.std.proofs.Common.{◌≡◌, ℕ, ◌+◌, ◌*◌, ◌^◌, ◌<◌, ◌≤◌, true, List, slice_index}
use Rattle.base.specs.declared.grammar.table.Symbol.{Symbol}
use Rattle.base.specs.Grammar.Syntax.{Rule}
use Rattle.base.specs.Grammar.Derivation.{IsRule}
use Rattle.base.specs.Grammar.Ll1.{Facts, is_nullable, all_nullable, begins, prefix_cost, total_cost, yield_of, total_yield, is_within, keeps_follow, is_inner, ranks_below}
use Rattle.base.proofs.OnGrammar.Sets.{Has}

-- of a rule and the kinds before which it is taken
pub record Ll1Rules (f : Facts) (end count n : ℕ) (b : List Symbol) (kinds : ℕ) : Type 0 where
  pub chosen : is_within (begins f.nullable f.first (slice_index f.follow n) b) kinds ≡ true
  pub first : is_within (begins f.nullable f.first 0 b) (slice_index f.first n) ≡ true
  pub nullable : all_nullable f.nullable b ≡ true → is_nullable f.nullable n ≡ true
  pub follow : keeps_follow f (slice_index f.follow n) b ≡ true
  pub inner : is_inner end count b ≡ true
  pub prefix_cost : prefix_cost f.nullable f.cost b < slice_index f.cost n
  pub total_cost : total_cost f.cost b + 32 * yield_of f.nullable n < slice_index f.cost n + 32 * total_yield f.nullable b
  pub fits : kinds < 2 ^ 128

pub record Valid (rules : List Rule) (chosen : List ℕ) (f : Facts) (end count : ℕ) : Type 0 where
  pub fine : (p n : ℕ) (b : List Symbol) → IsRule rules p n b → Ll1Rules f end count n b (slice_index chosen p)
  pub apart : (p q n k : ℕ) (b c : List Symbol) → IsRule rules p n b → IsRule rules q n c → Has (slice_index chosen p) k → Has (slice_index chosen q) k → p ≡ q
  pub productive : (n : ℕ) → n < count → (p : ℕ) × (b : List Symbol) × IsRule rules p n b × (ranks_below f.rank (slice_index f.rank n) b ≡ true)
  pub some : 0 < count
  pub start_follow : is_within (2 ^ end) (slice_index f.follow 0) ≡ true
  pub start_cost : slice_index f.cost 0 ≤ 32
