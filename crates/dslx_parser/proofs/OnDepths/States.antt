-- What is open before a token: the marks of each level of brackets, and the heads.
use Rattle.std.proofs.Common.{◌≡◌, ◌≤◌, ◌+◌, ℕ, zero, suc, Bool, true, false, List, [], ◌∷◌, ◌++◌, length, refl, ap, sym, subst, arith}
use Rattle.std.specs.Prelude.{◌-◌, None, Some, Option, cond, sum}
use Rattle.std.specs.List.{position_from}
use Rattle.std.proofs.lemmas.Bool.Decides.{nat_tests}
use Rattle.std.proofs.lemmas.List.Sums.{sum_by-cons}
use Rattle.xb_span.specs.declared.nesting.bracket_class.BracketClass.{BracketClass}
use Rattle.xb_span.specs.declared.nesting.bracket_class.BracketClass.TheVariants.{Open, OpenMark, OpenBody, Close, Mark, Stop, Item, Head, Plain}
use Rattle.xb_span.specs.Nesting.Nesting.{Around, behind, depth_of, is_past, nesting_in, nestings_from}

-- the marks of the innermost level, those of the levels round it, and the heads
pub record State : Type 0 where
  pub token_spans : ℕ
  pub outer : List ℕ
  pub heads : ℕ

abbrev pub one_less : ℕ → ℕ
one_less zero = zero
one_less (suc n) = n

abbrev pub closed_to : ℕ → List ℕ → ℕ → State
closed_to token_spans [] heads = record { token_spans = token_spans; outer = []; heads = heads }
closed_to token_spans (o ∷ os) heads = record { token_spans = o; outer = os; heads = heads }

abbrev pub stopped_at : List ℕ → ℕ → ℕ
stopped_at [] token_spans = token_spans
stopped_at (o ∷ os) token_spans = 0

abbrev pub begun_at : List ℕ → ℕ → ℕ
begun_at [] token_spans = 0
begun_at (o ∷ os) token_spans = token_spans

abbrev pub last_cleared : List ℕ → List ℕ
last_cleared [] = []
last_cleared (o ∷ []) = 0 ∷ []
last_cleared (o ∷ p ∷ os) = o ∷ last_cleared (p ∷ os)

abbrev pub step : State → BracketClass → State
step s Open = record { token_spans = 0; outer = s.token_spans ∷ s.outer; heads = s.heads }
step s OpenMark = record { token_spans = 0; outer = suc s.token_spans ∷ s.outer; heads = s.heads }
step s OpenBody = record { token_spans = 0; outer = s.token_spans ∷ s.outer; heads = one_less s.heads }
step s Close = closed_to s.token_spans s.outer s.heads
step s Mark = record { token_spans = suc s.token_spans; outer = s.outer; heads = s.heads }
step s Stop = record { token_spans = stopped_at s.outer s.token_spans; outer = s.outer; heads = s.heads }
step s Item = record { token_spans = begun_at s.outer s.token_spans; outer = last_cleared s.outer; heads = s.heads }
step s Head = record { token_spans = s.token_spans; outer = s.outer; heads = suc s.heads }
step s Plain = s

abbrev pub run : State → List BracketClass → State
run s [] = s
run s (role ∷ bracket_classes) = run (step s role) bracket_classes

-- how much is open but for the marks of the innermost level
abbrev pub base : List ℕ → ℕ
base [] = 0
base (o ∷ os) = suc (o + base os)

abbrev pub deep : State → ℕ
deep s = base s.outer + s.heads

abbrev pub Low : State → Type 0
Low s = deep s + s.token_spans ≤ 129

-- so at each token, and behind the last one
abbrev pub AllLow : State → List BracketClass → Type 0
AllLow s [] = Low s
AllLow s (role ∷ bracket_classes) = Low s × AllLow (step s role) bracket_classes

pub low_first : (s : State) (bracket_classes : List BracketClass) → AllLow s bracket_classes → Low s
low_first s [] low = low
low_first s (role ∷ bracket_classes) low = low.0

pub low_split : (s : State) (a b : List BracketClass) → AllLow s (a ++ b) → AllLow s a × AllLow (run s a) b
low_split s [] b low = (low_first s b low, low)
low_split s (role ∷ a) b low = let rest = low_split (step s role) a b low.1 in ((low.0, rest.0), rest.1)

pub low_last : (s : State) (bracket_classes : List BracketClass) → AllLow s bracket_classes → Low (run s bracket_classes)
low_last s [] low = low
low_last s (role ∷ bracket_classes) low = low_last (step s role) bracket_classes low.1

pub run_both : (s : State) (a b : List BracketClass) → run s (a ++ b) ≡ run (run s a) b
run_both s [] b = refl
run_both s (role ∷ a) b = run_both (step s role) a b

-- ---- the same, as nesting is defined

abbrev brackets_of : ℕ → List ℕ → List ℕ
brackets_of token_spans [] = []
brackets_of token_spans (o ∷ os) = token_spans ∷ brackets_of o os

abbrev outside_of : ℕ → List ℕ → ℕ
outside_of token_spans [] = token_spans
outside_of token_spans (o ∷ os) = outside_of o os

abbrev around_at : ℕ → List ℕ → ℕ → Around
around_at token_spans outer heads = record { brackets = brackets_of token_spans outer; outside = outside_of token_spans outer; heads = heads }

abbrev pub around : State → Around
around s = around_at s.token_spans s.outer s.heads

less_is : (n : ℕ) → n - 1 ≡ one_less n
less_is zero = refl
less_is (suc n) = omega arith

more_is : (n : ℕ) → n + 1 ≡ suc n
more_is n = omega arith

brackets_stay : (token_spans : ℕ) (outer : List ℕ) → brackets_of (begun_at outer token_spans) (last_cleared outer) ≡ brackets_of token_spans outer
brackets_stay token_spans [] = refl
brackets_stay token_spans (o ∷ []) = refl
brackets_stay token_spans (o ∷ p ∷ os) = ap (λ (bs : List ℕ). token_spans ∷ bs) (brackets_stay o (p ∷ os))

none_outside : (token_spans : ℕ) (outer : List ℕ) → outside_of (begun_at outer token_spans) (last_cleared outer) ≡ 0
none_outside token_spans [] = refl
none_outside token_spans (o ∷ []) = refl
none_outside token_spans (o ∷ p ∷ os) = none_outside o (p ∷ os)

marked_same : (token_spans : ℕ) (outer : List ℕ) (heads : ℕ) → behind (around_at token_spans outer heads) Mark ≡ around_at (suc token_spans) outer heads
marked_same token_spans [] heads = ap (λ (n : ℕ). around_at n [] heads) (more_is token_spans)
marked_same token_spans (o ∷ os) heads = ap (λ (n : ℕ). around_at n (o ∷ os) heads) (more_is token_spans)

open_marked_same : (token_spans : ℕ) (outer : List ℕ) (heads : ℕ) → behind (around_at token_spans outer heads) OpenMark ≡ around_at 0 (suc token_spans ∷ outer) heads
open_marked_same token_spans [] heads = ap (λ (n : ℕ). around_at 0 (n ∷ []) heads) (more_is token_spans)
open_marked_same token_spans (o ∷ os) heads = ap (λ (n : ℕ). around_at 0 (n ∷ o ∷ os) heads) (more_is token_spans)

stop_same : (token_spans : ℕ) (outer : List ℕ) (heads : ℕ) → behind (around_at token_spans outer heads) Stop ≡ around_at (stopped_at outer token_spans) outer heads
stop_same token_spans [] heads = refl
stop_same token_spans (o ∷ os) heads = refl

close_same : (token_spans : ℕ) (outer : List ℕ) (heads : ℕ) → behind (around_at token_spans outer heads) Close ≡ around (closed_to token_spans outer heads)
close_same token_spans [] heads = refl
close_same token_spans (o ∷ os) heads = refl

same_behind : (s : State) (role : BracketClass) → behind (around s) role ≡ around (step s role)
same_behind s Open = refl
same_behind s OpenMark = open_marked_same s.token_spans s.outer s.heads
same_behind s OpenBody = ap (λ (h : ℕ). around_at 0 (s.token_spans ∷ s.outer) h) (less_is s.heads)
same_behind s Close = close_same s.token_spans s.outer s.heads
same_behind s Mark = marked_same s.token_spans s.outer s.heads
same_behind s Stop = stop_same s.token_spans s.outer s.heads
same_behind s Item = λ i. record { brackets = sym (brackets_stay s.token_spans s.outer) i; outside = sym (none_outside s.token_spans s.outer) i; heads = s.heads }
same_behind s Head = ap (λ (h : ℕ). around_at s.token_spans s.outer h) (more_is s.heads)
same_behind s Plain = refl

depth_at : (token_spans : ℕ) (outer : List ℕ) → (length (brackets_of token_spans outer) + sum (brackets_of token_spans outer)) + outside_of token_spans outer ≡ base outer + token_spans
depth_at token_spans [] = omega arith
depth_at token_spans (o ∷ os) =
    let inner = depth_at o os in
    let total : sum (token_spans ∷ brackets_of o os) ≡ token_spans + sum (brackets_of o os) = sum_by-cons (λ x. x) token_spans (brackets_of o os) in
    omega (arith, inner, total)

same_depth : (s : State) → depth_of (around s) ≡ deep s + s.token_spans
same_depth s = let inside = depth_at s.token_spans s.outer in omega (arith, inside)

-- ---- tokens within the limit

not_past : (n : ℕ) (i : ℕ) (others : Option ℕ) → cond (is_past n) (Some i) others ≡ None → n ≤ 128
not_past n i others none = past_or (is_past n) refl
  where
    past_or : (b : Bool) → is_past n ≡ b → n ≤ 128
    past_or true is = absurd (cc)
    past_or false is = grind (arith, nat_tests)

low_by : (s : State) (role : BracketClass) → nesting_in (around s) role ≤ 128 → Low s
low_by s OpenBody le = let depth = same_depth s in omega (arith, le, depth)
low_by s Open le = let depth = same_depth s in omega (arith, le, depth)
low_by s OpenMark le = let depth = same_depth s in omega (arith, le, depth)
low_by s Close le = let depth = same_depth s in omega (arith, le, depth)
low_by s Mark le = let depth = same_depth s in omega (arith, le, depth)
low_by s Stop le = let depth = same_depth s in omega (arith, le, depth)
low_by s Item le = let depth = same_depth s in omega (arith, le, depth)
low_by s Head le = let depth = same_depth s in omega (arith, le, depth)
low_by s Plain le = let depth = same_depth s in omega (arith, le, depth)

past_later : (n : ℕ) (i : ℕ) (others : Option ℕ) → cond (is_past n) (Some i) others ≡ None → others ≡ None
past_later n i others none = later (is_past n) none
  where
    later : (b : Bool) → cond b (Some i) others ≡ None → others ≡ None
    later true none = absurd (cc)
    later false none = none

-- the state before the last token is low, too
pub all_low : (s : State) (bracket_classes : List BracketClass) (last : BracketClass) (i : ℕ) → position_from is_past i (nestings_from (around s) (bracket_classes ++ last ∷ [])) ≡ None → AllLow s bracket_classes
all_low s [] last i none = low_by s last (not_past (nesting_in (around s) last) i _ none)
all_low s (role ∷ bracket_classes) last i none = (
  low_by s role (not_past (nesting_in (around s) role) i _ none),
  all_low (step s role) bracket_classes last (i + 1) (subst (λ (a : Around). position_from is_past (i + 1) (nestings_from a (bracket_classes ++ last ∷ [])) ≡ None) (same_behind s role) (past_later (nesting_in (around s) role) i _ none)),
)
