-- The test that one token of lookahead decides a grammar. It computes what may begin and follow each nonterminal,
-- and then tests the tables against that.
use Rattle.std.specs.Prelude.{ℕ, zero, suc, ◌+◌, ◌-◌, ◌*◌, ◌^◌, max, Bool, true, false, not, ◌&&◌, ◌||◌, ◌==◌, nat_le, nat_lt, if◌then◌else◌, IsTrue, List, [], ◌∷◌, length, map, slice_index, slice_index_or, slice_set, bit_and, bit_or}
use Rattle.std.specs.List.{list_all, list_any}
use Rattle.base.specs.declared.grammar.table.Symbol.{Symbol}
use Rattle.base.specs.declared.grammar.table.Symbol.TheVariants.{Terminal, Nonterminal}
use Rattle.base.specs.declared.grammar.table.Production.{Production}
use Rattle.base.specs.declared.grammar.table.Span.{Span}
use Rattle.base.specs.declared.grammar.table.Grammar.{Grammar}
use Rattle.base.specs.Grammar.Syntax.{Rule, rules_of}

-- What is known of the nonterminals, each at its number. A set of kinds is a number with a bit for each.
pub record Facts : Type 0 where
  -- whether it derives nothing
  pub nullable : List Bool
  -- what may begin it
  pub first : List ℕ
  -- what may follow it
  pub follow : List ℕ
  -- more than the cost of whatever it may be rewritten to, up to the first symbol that derives something
  pub cost : List ℕ
  -- more than the rank of each nonterminal in one of its bodies
  pub rank : List ℕ

abbrev pub is_nullable : List Bool → ℕ → Bool
is_nullable nullable n = slice_index_or nullable n false

-- all of the symbols derive nothing
abbrev pub all_nullable : List Bool → List Symbol → Bool
all_nullable nullable [] = true
all_nullable nullable (Terminal t ∷ s) = false
all_nullable nullable (Nonterminal n ∷ s) = is_nullable nullable n && all_nullable nullable s

-- what may begin the symbols, where what is behind them may begin with the given kinds
abbrev pub begins : List Bool → List ℕ → ℕ → List Symbol → ℕ
begins nullable first behind [] = behind
begins nullable first behind (Terminal t ∷ s) = 2 ^ t
begins nullable first behind (Nonterminal n ∷ s) = bit_or (slice_index first n) (if is_nullable nullable n then begins nullable first behind s else 0)

-- the cost of the symbols up to the first that derives something
abbrev pub prefix_cost : List Bool → List ℕ → List Symbol → ℕ
prefix_cost nullable cost [] = 0
prefix_cost nullable cost (Terminal t ∷ s) = 0
prefix_cost nullable cost (Nonterminal n ∷ s) = slice_index cost n + (if is_nullable nullable n then prefix_cost nullable cost s else 0)

-- the cost of all the symbols
abbrev pub total_cost : List ℕ → List Symbol → ℕ
total_cost cost [] = 0
total_cost cost (Terminal t ∷ s) = total_cost cost s
total_cost cost (Nonterminal n ∷ s) = slice_index cost n + total_cost cost s

-- at least how many terminals a nonterminal derives: none or one
abbrev pub yield_of : List Bool → ℕ → ℕ
yield_of nullable n = if is_nullable nullable n then 0 else 1

-- at least how many terminals the symbols derive
abbrev pub total_yield : List Bool → List Symbol → ℕ
total_yield nullable [] = 0
total_yield nullable (Terminal t ∷ s) = suc (total_yield nullable s)
total_yield nullable (Nonterminal n ∷ s) = yield_of nullable n + total_yield nullable s

-- ---- the test, given the facts

abbrev pub is_within : ℕ → ℕ → Bool
is_within a b = bit_and a b == a

abbrev pub is_apart : ℕ → ℕ → Bool
is_apart a b = bit_and a b == 0

-- behind each nonterminal among the symbols only what may follow it can begin
abbrev pub keeps_follow : Facts → ℕ → List Symbol → Bool
keeps_follow f behind [] = true
keeps_follow f behind (Terminal t ∷ s) = keeps_follow f behind s
keeps_follow f behind (Nonterminal n ∷ s) = is_within (begins f.nullable f.first behind s) (slice_index f.follow n) && keeps_follow f behind s

-- no symbol is the end mark, and each nonterminal is one of so many
abbrev pub is_inner : ℕ → ℕ → List Symbol → Bool
is_inner end count [] = true
is_inner end count (Terminal t ∷ s) = not (t == end) && is_inner end count s
is_inner end count (Nonterminal n ∷ s) = nat_lt n count && is_inner end count s

-- each nonterminal has a rank below the given one
abbrev pub ranks_below : List ℕ → ℕ → List Symbol → Bool
ranks_below rank top [] = true
ranks_below rank top (Terminal t ∷ s) = ranks_below rank top s
ranks_below rank top (Nonterminal n ∷ s) = nat_lt (slice_index rank n) top && ranks_below rank top s

-- what a rule and the kinds before which it is taken have to be
abbrev pub is_ll1_rule : Facts → ℕ → ℕ → Rule → ℕ → Bool
is_ll1_rule f end count r chosen =
    let behind = slice_index f.follow r.head in
    is_within (begins f.nullable f.first behind r.body) chosen
    && is_within (begins f.nullable f.first 0 r.body) (slice_index f.first r.head)
    && (not (all_nullable f.nullable r.body) || is_nullable f.nullable r.head)
    && keeps_follow f behind r.body
    && is_inner end count r.body
    && nat_lt (prefix_cost f.nullable f.cost r.body) (slice_index f.cost r.head)
    && nat_lt (total_cost f.cost r.body + 32 * yield_of f.nullable r.head) (slice_index f.cost r.head + 32 * total_yield f.nullable r.body)
    && nat_lt chosen (2 ^ 128)

abbrev pub are_ll1_rules : Facts → ℕ → ℕ → List Rule → List ℕ → Bool
are_ll1_rules f end count [] chosen = true
are_ll1_rules f end count (r ∷ rs) [] = false
are_ll1_rules f end count (r ∷ rs) (c ∷ cs) = is_ll1_rule f end count r c && are_ll1_rules f end count rs cs

-- No rule of this nonterminal is taken before one of these kinds.
abbrev pub is_apart_from : ℕ → ℕ → List Rule → List ℕ → Bool
is_apart_from head chosen [] cs = true
is_apart_from head chosen (r ∷ rs) [] = false
is_apart_from head chosen (r ∷ rs) (c ∷ cs) = (not (r.head == head) || is_apart chosen c) && is_apart_from head chosen rs cs

-- No two rules of one nonterminal are taken before the same kind.
abbrev pub all_apart : List Rule → List ℕ → Bool
all_apart [] cs = true
all_apart (r ∷ rs) [] = false
all_apart (r ∷ rs) (c ∷ cs) = is_apart_from r.head c rs cs && all_apart rs cs

-- the index is in the span
abbrev pub is_in_span : Span → ℕ → Bool
is_in_span span place = nat_le span.first place && nat_lt place span.end

-- Each rule, from the one with this number on, is in the span of its nonterminal.
abbrev pub all_covered : List Span → ℕ → List Rule → Bool
all_covered spans place [] = true
all_covered spans place (r ∷ rs) = is_in_span (slice_index_or spans r.head (record { first = 0; end = 0 })) place && all_covered spans (suc place) rs

-- some rule of the nonterminal has only nonterminals of a lower rank in its body
abbrev pub is_productive : List ℕ → List Rule → ℕ → Bool
is_productive rank rules n = list_any (λ r. (r.head == n) && ranks_below rank (slice_index rank n) r.body) rules

abbrev pub all_productive : List ℕ → List Rule → ℕ → Bool
all_productive rank rules zero = true
all_productive rank rules (suc n) = is_productive rank rules n && all_productive rank rules n

-- the parts that the tables point to are there
abbrev pub is_in_tables : List Production → ℕ → ℕ → List Span → Bool
is_in_tables productions symbol_count production_count spans =
    list_all (λ p. nat_le p.first p.end && nat_le p.end symbol_count) productions
    && list_all (λ s. nat_le s.end production_count) spans

-- the facts are right of these rules and tables
abbrev pub are_facts : Facts → Grammar → List Rule → List ℕ → Bool
are_facts f g rules chosen =
    let count = length g.spans.now in
    is_in_tables g.productions.now (length g.symbols.now) (length g.productions.now) g.spans.now
    && are_ll1_rules f g.end count rules chosen
    && all_apart rules chosen
    && all_covered g.spans.now 0 rules
    && all_productive f.rank rules count
    && nat_lt 0 count
    && is_within (2 ^ g.end) (slice_index f.follow 0)
    && nat_le (slice_index f.cost 0) 32

-- ---- the facts, each computed by going over the rules a few times

-- the value that step gives, so many times in turn
abbrev pub repeated : {X : Type 0} → ℕ → (X → X) → X → X
repeated zero step x = x
repeated (suc n) step x = repeated n step (step x)

abbrev pub more_nullable : List Rule → List Bool → List Bool
more_nullable [] xs = xs
more_nullable (r ∷ rs) xs =
    let ys = more_nullable rs xs in
    slice_set ys r.head (all_nullable ys r.body || is_nullable ys r.head)

abbrev pub more_first : List Bool → List Rule → List ℕ → List ℕ
more_first nullable [] xs = xs
more_first nullable (r ∷ rs) xs =
    let ys = more_first nullable rs xs in
    slice_set ys r.head (bit_or (slice_index ys r.head) (begins nullable ys 0 r.body))

-- what may follow the nonterminals of a body, where these kinds may follow the body
abbrev pub more_behind : List Bool → List ℕ → ℕ → List Symbol → List ℕ → List ℕ
more_behind nullable first behind [] xs = xs
more_behind nullable first behind (Terminal t ∷ s) xs = more_behind nullable first behind s xs
more_behind nullable first behind (Nonterminal n ∷ s) xs =
    more_behind nullable first behind s (slice_set xs n (bit_or (slice_index xs n) (begins nullable first behind s)))

abbrev pub more_follow : List Bool → List ℕ → List Rule → List ℕ → List ℕ
more_follow nullable first [] xs = xs
more_follow nullable first (r ∷ rs) xs =
    more_follow nullable first rs (more_behind nullable first (slice_index xs r.head) r.body xs)

abbrev pub more_cost : List Bool → List Rule → List ℕ → List ℕ
more_cost nullable [] xs = xs
more_cost nullable (r ∷ rs) xs =
    let ys = more_cost nullable rs xs in
    let total = suc (total_cost ys r.body + 32 * yield_of nullable r.head) - 32 * total_yield nullable r.body in
    slice_set ys r.head (max (slice_index ys r.head) (max (suc (prefix_cost nullable ys r.body)) total))

-- the greatest rank among the symbols, where each has one
abbrev pub top_rank : List ℕ → List Symbol → ℕ
top_rank rank [] = 0
top_rank rank (Terminal t ∷ s) = top_rank rank s
top_rank rank (Nonterminal n ∷ s) = max (slice_index rank n) (top_rank rank s)

abbrev pub are_ranked : List ℕ → List Symbol → Bool
are_ranked rank [] = true
are_ranked rank (Terminal t ∷ s) = are_ranked rank s
are_ranked rank (Nonterminal n ∷ s) = nat_lt 0 (slice_index rank n) && are_ranked rank s

-- A nonterminal has a rank, above 0, once all of one of its bodies has.
abbrev pub more_rank : List Rule → List ℕ → List ℕ
more_rank [] xs = xs
more_rank (r ∷ rs) xs =
    let ys = more_rank rs xs in
    if nat_lt 0 (slice_index ys r.head) || not (are_ranked ys r.body) then ys else slice_set ys r.head (suc (top_rank ys r.body))

-- eight times over the rules, which is more than the grammars of this repository need
abbrev pub facts_of : ℕ → List Span → List Rule → Facts
facts_of end spans rules =
    let none = map (λ _. 0) spans in
    let nullable = repeated 8 (more_nullable rules) (map (λ _. false) spans) in
    let first = repeated 8 (more_first nullable rules) none in
    record {
      nullable = nullable;
      first = first;
      follow = repeated 8 (more_follow nullable first rules) (slice_set none 0 (2 ^ end));
      cost = repeated 8 (more_cost nullable rules) none;
      rank = repeated 8 (more_rank rules) none;
    }

abbrev pub chosen_of : Grammar → List ℕ
chosen_of g = map (λ p. p.chosen) g.productions.now

-- One token of lookahead decides the grammar, by its tables, and each nonterminal derives something.
unfoldable pub is_ll1 : Grammar → Bool
is_ll1 g =
    let rules = rules_of g in
    are_facts (facts_of g.end g.spans.now rules) g rules (chosen_of g)

abbrev pub IsLl1 : Grammar → Type 0
IsLl1 g = IsTrue (is_ll1 g)
