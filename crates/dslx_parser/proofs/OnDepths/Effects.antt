-- What the tokens of each nonterminal do to what is open.
use Rattle.std.proofs.Common.{ℕ, suc, List, [], ◌∷◌}
use Rattle.std.specs.Prelude.{if◌then◌else◌}
use Rattle.dslx_token.specs.declared.rules.generated.nonterminal.TheConstants as nonterminal
use Rattle.xb_span.specs.declared.nesting.bracket_class.BracketClass.TheVariants.{Open, Close}
use Rattle.dslx_token.specs.BracketClasses.BracketClasses.{is_one}
use Rattle.dslx_parser.proofs.OnDepths.States.{State, one_less, step}

-- They stand outside all brackets and heads; they leave all as it is, or brackets and heads alone; they open a bracket, or
-- close the one in which they begin; they end the head in which they begin.
pub data Effect : Type 0 where
  item stays within opens closes ends_head : Effect

abbrev pub outside_all : List ℕ
outside_all = nonterminal.MODULE ∷ nonterminal.ITEMS ∷ nonterminal.ITEM ∷ nonterminal.DEFINITION ∷ nonterminal.FUNCTION ∷ nonterminal.PROC ∷ nonterminal.CONSTANT ∷ nonterminal.ALIAS ∷ nonterminal.STRUCTURE ∷ nonterminal.ENUMERATION ∷ []

abbrev pub closing : List ℕ
closing = nonterminal.CHANNEL_END ∷ nonterminal.INDEX_END ∷ nonterminal.PARENTHESIS ∷ nonterminal.PARENTHESIS_END ∷ []

abbrev pub effect_of : ℕ → Effect
effect_of n =
    if is_one outside_all n then item
    else if is_one (nonterminal.OPEN_ANGLE ∷ []) n then stays
    else if is_one (nonterminal.OPEN_BRACE ∷ []) n then opens
    else if is_one closing n then closes
    else if is_one (nonterminal.FOR_RANGE ∷ nonterminal.HEADED_BLOCK ∷ []) n then ends_head
    else within

abbrev pub outer_of : List ℕ → List ℕ
outer_of [] = []
outer_of (o ∷ os) = os

-- what is open behind them, where so many marks are then read in the innermost level
abbrev pub after : Effect → State → ℕ → State
after item s m = record { token_spans = m; outer = s.outer; heads = s.heads }
after within s m = record { token_spans = m; outer = s.outer; heads = s.heads }
after stays s m = s
after opens s m = step s Open
after closes s m = record { token_spans = m; outer = outer_of s.outer; heads = s.heads }
after ends_head s m = record { token_spans = m; outer = s.outer; heads = one_less s.heads }

-- the marks of the level in which they end, when they began
abbrev pub began_with : Effect → State → ℕ
began_with item s = s.token_spans
began_with within s = s.token_spans
began_with stays s = s.token_spans
began_with opens s = 0
began_with closes s = (step s Close).token_spans
began_with ends_head s = s.token_spans

abbrev pub outside_with : ℕ → State
outside_with m = record { token_spans = m; outer = []; heads = 0 }

-- A place where they may begin, by what is open and one more bracket.
abbrev pub begin_at : Effect → State → ℕ → State
begin_at item s o = outside_with s.token_spans
begin_at stays s o = s
begin_at within s o = s
begin_at opens s o = s
begin_at closes s o = record { token_spans = s.token_spans; outer = o ∷ s.outer; heads = s.heads }
begin_at ends_head s o = record { token_spans = s.token_spans; outer = s.outer; heads = suc s.heads }
