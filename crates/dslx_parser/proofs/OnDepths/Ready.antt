-- That no symbol stands where it may not: in the bodies of rules a bracket is open where one is closed, and so on.
use Rattle.std.proofs.Common.{◌≡◌, ◌≤◌, ℕ, zero, suc, Bool, true, false, List, [], ◌∷◌, length, refl, ap, sym, subst, arith}
use Rattle.std.specs.Prelude.{◌&&◌}
use Rattle.base.specs.declared.grammar.table.Symbol.{Symbol}
use Rattle.base.specs.declared.grammar.table.Symbol.TheVariants.{Terminal, Nonterminal}
use Rattle.xb_span.specs.declared.nesting.bracket_class.BracketClass.{BracketClass}
use Rattle.xb_span.specs.declared.nesting.bracket_class.BracketClass.TheVariants.{Open, OpenMark, OpenBody, Close, Mark, Stop, Item, Head, Plain}
use Rattle.dslx_token.specs.BracketClasses.BracketClasses.{bracket_class_of}
use Rattle.dslx_parser.proofs.OnDepths.Effects.{Effect, after, begin_at, effect_of, outer_of, outside_with}
use Rattle.dslx_parser.proofs.OnDepths.Effects.{item, stays, within, opens, closes, ends_head}
use Rattle.dslx_parser.proofs.OnDepths.States.{State, last_cleared, one_less, step}

-- what is known of a place: that it is outside all brackets and heads; or how many of each are open at least
pub data Ready : Type 0 where
  outside : Ready
  among : (brackets heads : ℕ) → Ready

-- the same of what is open there
abbrev pub fitting : Ready → State → Type 0
fitting outside s = s ≡ outside_with s.token_spans
fitting (among brackets heads) s = (brackets ≤ length s.outer) × (heads ≤ s.heads)

-- where the tokens of a nonterminal begin
abbrev pub begins : Effect → Ready
begins item = outside
begins stays = among 0 0
begins within = among 0 0
begins opens = among 0 0
begins closes = among 1 0
begins ends_head = among 0 1

abbrev pub ready_behind : Ready → BracketClass → Ready
ready_behind outside Item = outside
ready_behind outside Open = among 1 0
ready_behind outside OpenMark = among 1 0
ready_behind outside OpenBody = among 1 0
ready_behind outside Close = among 0 0
ready_behind outside Mark = outside
ready_behind outside Stop = outside
ready_behind outside Head = among 0 1
ready_behind outside Plain = outside
ready_behind (among brackets heads) Open = among (suc brackets) heads
ready_behind (among brackets heads) OpenMark = among (suc brackets) heads
ready_behind (among brackets heads) OpenBody = among (suc brackets) (one_less heads)
ready_behind (among brackets heads) Close = among (one_less brackets) heads
ready_behind (among brackets heads) Mark = among brackets heads
ready_behind (among brackets heads) Stop = among brackets heads
ready_behind (among brackets heads) Item = among 0 heads
ready_behind (among brackets heads) Head = among brackets (suc heads)
ready_behind (among brackets heads) Plain = among brackets heads

abbrev pub ready_after : Ready → Effect → Ready
ready_after outside item = outside
ready_after outside stays = outside
ready_after outside within = outside
ready_after outside opens = among 1 0
ready_after outside closes = among 0 0
ready_after outside ends_head = among 0 0
ready_after (among brackets heads) item = among brackets heads
ready_after (among brackets heads) stays = among brackets heads
ready_after (among brackets heads) within = among brackets heads
ready_after (among brackets heads) opens = among (suc brackets) heads
ready_after (among brackets heads) closes = among (one_less brackets) heads
ready_after (among brackets heads) ends_head = among brackets (one_less heads)

-- whether they may begin there
abbrev pub may_begin : Ready → Effect → Bool
may_begin outside item = true
may_begin outside stays = true
may_begin outside within = true
may_begin outside opens = true
may_begin outside closes = false
may_begin outside ends_head = false
may_begin (among brackets heads) item = false
may_begin (among brackets heads) stays = true
may_begin (among brackets heads) within = true
may_begin (among brackets heads) opens = true
may_begin (among zero heads) closes = false
may_begin (among (suc brackets) heads) closes = true
may_begin (among brackets zero) ends_head = false
may_begin (among brackets (suc heads)) ends_head = true

abbrev pub is_ready : Ready → ℕ → List Symbol → Bool
is_ready at p [] = true
is_ready at p (Terminal kind ∷ symbols) = is_ready (ready_behind at (bracket_class_of p kind)) p symbols
is_ready at p (Nonterminal n ∷ symbols) = may_begin at (effect_of n) && is_ready (ready_after at (effect_of n)) p symbols

-- ---- that what is known is so

and_left : (a b : Bool) → (a && b) ≡ true → a ≡ true
and_left true b e = refl
and_left false b e = absurd (cc)

and_right : (a b : Bool) → (a && b) ≡ true → b ≡ true
and_right true b e = e
and_right false b e = absurd (cc)

pub ready_part : (at : Ready) (p n : ℕ) (symbols : List Symbol) → is_ready at p (Nonterminal n ∷ symbols) ≡ true → (may_begin at (effect_of n) ≡ true) × (is_ready (ready_after at (effect_of n)) p symbols ≡ true)
ready_part at p n symbols ready = (
  and_left (may_begin at (effect_of n)) (is_ready (ready_after at (effect_of n)) p symbols) ready,
  and_right (may_begin at (effect_of n)) (is_ready (ready_after at (effect_of n)) p symbols) ready,
)

none : (n : ℕ) → 0 ≤ n
none n = omega arith

one_less_by : (a b : ℕ) → a ≤ b → one_less a ≤ one_less b
one_less_by zero b le = omega arith
one_less_by (suc a) zero le = omega (arith, le)
one_less_by (suc a) (suc b) le = omega (arith, le)

one_more_by : (a b : ℕ) → a ≤ b → suc a ≤ suc b
one_more_by a b le = omega (arith, le)

shorter : (n : ℕ) (outer : List ℕ) → n ≤ length outer → one_less n ≤ length (outer_of outer)
shorter zero outer le = omega arith
shorter (suc n) [] le = omega (arith, le)
shorter (suc n) (o ∷ os) le = omega (arith, le)

close_fits : (n heads token_spans : ℕ) (outer : List ℕ) (all : ℕ) → n ≤ length outer → heads ≤ all → fitting (among (one_less n) heads) (step (record { token_spans = token_spans; outer = outer; heads = all }) Close)
close_fits n heads token_spans [] all le less = (shorter n [] le, less)
close_fits n heads token_spans (o ∷ os) all le less = (shorter n (o ∷ os) le, less)

outside_fits : (m : ℕ) (role : BracketClass) → fitting (ready_behind outside role) (step (outside_with m) role)
outside_fits m Item = refl
outside_fits m Open = (one_more_by 0 0 (none 0), none 0)
outside_fits m OpenMark = (one_more_by 0 0 (none 0), none 0)
outside_fits m OpenBody = (one_more_by 0 0 (none 0), none 0)
outside_fits m Close = (none 0, none 0)
outside_fits m Mark = refl
outside_fits m Stop = refl
outside_fits m Head = (none 0, one_more_by 0 0 (none 0))
outside_fits m Plain = refl

pub fits_token : (at : Ready) (s : State) (role : BracketClass) → fitting at s → fitting (ready_behind at role) (step s role)
fits_token outside s role fits = subst (λ (u : State). fitting (ready_behind outside role) (step u role)) (sym fits) (outside_fits s.token_spans role)
fits_token (among n heads) s Open fits = (one_more_by n (length s.outer) fits.0, fits.1)
fits_token (among n heads) s OpenMark fits = (one_more_by n (length s.outer) fits.0, fits.1)
fits_token (among n heads) s OpenBody fits = (one_more_by n (length s.outer) fits.0, one_less_by heads s.heads fits.1)
fits_token (among n heads) s Close fits = close_fits n heads s.token_spans s.outer s.heads fits.0 fits.1
fits_token (among n heads) s Mark fits = fits
fits_token (among n heads) s Stop fits = fits
fits_token (among n heads) s Item fits = (none (length (last_cleared s.outer)), fits.1)
fits_token (among n heads) s Head fits = (fits.0, one_more_by heads s.heads fits.1)
fits_token (among n heads) s Plain fits = fits

some_there : (n m : ℕ) → suc n ≤ m → 1 ≤ m
some_there n m le = omega (arith, le)

pub fits_begin : (at : Ready) (e : Effect) (s : State) → may_begin at e ≡ true → fitting at s → fitting (begins e) s
fits_begin outside item s may fits = fits
fits_begin (among n heads) item s may fits = absurd (cc)
fits_begin at stays s may fits = (none (length s.outer), none s.heads)
fits_begin at within s may fits = (none (length s.outer), none s.heads)
fits_begin at opens s may fits = (none (length s.outer), none s.heads)
fits_begin outside closes s may fits = absurd (cc)
fits_begin (among zero heads) closes s may fits = absurd (cc)
fits_begin (among (suc n) heads) closes s may fits = (some_there n (length s.outer) fits.0, none s.heads)
fits_begin outside ends_head s may fits = absurd (cc)
fits_begin (among n zero) ends_head s may fits = absurd (cc)
fits_begin (among n (suc heads)) ends_head s may fits = (none (length s.outer), some_there heads s.heads fits.1)

pub fits_after : (at : Ready) (e : Effect) (s : State) (m : ℕ) → fitting at s → fitting (ready_after at e) (after e s m)
fits_after outside item s m fits = ap (λ (u : State). record { token_spans = m; outer = u.outer; heads = u.heads }) fits
fits_after outside stays s m fits = fits
fits_after outside within s m fits = ap (λ (u : State). record { token_spans = m; outer = u.outer; heads = u.heads }) fits
fits_after outside opens s m fits = (one_more_by 0 (length s.outer) (none (length s.outer)), none s.heads)
fits_after outside closes s m fits = (none (length (outer_of s.outer)), none s.heads)
fits_after outside ends_head s m fits = (none (length s.outer), none (one_less s.heads))
fits_after (among n heads) item s m fits = fits
fits_after (among n heads) stays s m fits = fits
fits_after (among n heads) within s m fits = fits
fits_after (among n heads) opens s m fits = (one_more_by n (length s.outer) fits.0, fits.1)
fits_after (among n heads) closes s m fits = (shorter n s.outer fits.0, fits.1)
fits_after (among n heads) ends_head s m fits = (fits.0, one_less_by heads s.heads fits.1)

-- ---- what is so at each place is so where the tokens begin

none_open : {n : ℕ} → suc n ≤ 0 → ⊥
none_open le = omega (arith, le)

abbrev pub AtEach : Effect → (State → Type 0) → Type 0
AtEach e P = (s : State) (o : ℕ) → P (begin_at e s o)

in_bracket : (P : State → Type 0) (m : ℕ) (outer : List ℕ) (heads : ℕ) → 1 ≤ length outer → AtEach closes P → P (record { token_spans = m; outer = outer; heads = heads })
in_bracket P m [] heads le each = absurd (none_open le)
in_bracket P m (o ∷ os) heads le each = each (record { token_spans = m; outer = os; heads = heads }) o

in_head : (P : State → Type 0) (m : ℕ) (outer : List ℕ) (heads : ℕ) → 1 ≤ heads → AtEach ends_head P → P (record { token_spans = m; outer = outer; heads = heads })
in_head P m outer zero le each = absurd (none_open le)
in_head P m outer (suc heads) le each = each (record { token_spans = m; outer = outer; heads = heads }) 0

pub at_ready : (e : Effect) (P : State → Type 0) (s : State) → fitting (begins e) s → AtEach e P → P s
at_ready item P s fits each = subst P (sym fits) (each s 0)
at_ready stays P s fits each = each s 0
at_ready within P s fits each = each s 0
at_ready opens P s fits each = each s 0
at_ready closes P s fits each = in_bracket P s.token_spans s.outer s.heads fits.0 each
at_ready ends_head P s fits each = in_head P s.token_spans s.outer s.heads fits.1 each
