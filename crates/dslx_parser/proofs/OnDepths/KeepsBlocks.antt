-- How high the parts are that the rules of `if`, `match` and `for` make.
use Rattle.std.proofs.Common.{refl, suc}
use Rattle.dslx_token.specs.declared.rules.generated.production.TheConstants.{IF}
use Rattle.dslx_parser.specs.Syntax.Blocks.{rules}
use Rattle.dslx_parser.proofs.OnDepths.NoHigher.{nothing}
use Rattle.dslx_parser.specs.Spans.Places as things
use Rattle.dslx_parser.proofs.OnDepths.Fits.{AllKeep, none, ◌&◌, inner, plain}
use Rattle.dslx_parser.proofs.OnDepths.Nodes.{all_of, around_mark, block_plain, block_rises, block_value_up, both, expr_in, head_inner, head_plain, in_range, inside, inside_head, joined_up, made_of, none_there, one_up, over_inner_expr, over_range, raised, same, statements_in, still, to_range, type_plain}
use Rattle.dslx_parser.proofs.OnDepths.States.{deep}

pub keep : AllKeep IF rules
unfolding rules
keep =
    -- if = IF expr headed_block ELSE else
    (λ s _ parts (_, condition, (mid, block, (_, other, _))). (refl, around_mark (joined_up (raised (plain (deep s)) (head_plain s) condition.fits) (block_plain (deep s) block.fits)) (same (suc mid)) other.fits (things.of_if _ _ _ _))) &
    -- else = block
    (λ s _ parts (_, block, _). (refl, block_value_up (deep s) parts.0 block.fits)) &
    -- else = if
    (λ s _ parts (_, operand, _). (refl, operand.fits)) &
    -- match = MATCH expr LBRACE arms RBRACE
    (λ s _ parts (m, value, (_, arms, _)). (refl, over_inner_expr (deep s) (things.of_match _ _ _) (joined_up (raised (inner (deep s)) (head_inner s m value.low) value.fits) (still m m (same m) (inside (record { token_spans = m; outer = s.outer; heads = s.heads }) _ arms.low arms.fits))))) &
    -- arms = arm arms_more
    (λ s _ parts (_, arm, (_, others, _)). (refl, both arm.fits others.fits)) &
    -- arms = (nothing)
    (λ s _ parts k. (refl, nothing)) &
    -- arms_more = COMMA arms
    (λ s _ parts (_, arms, _). (refl, arms.fits)) &
    -- arms_more = (nothing)
    (λ s _ parts k. (refl, nothing)) &
    -- arm = pattern alternatives DARROW expr
    (λ s _ parts (_, pattern, (_, others, (_, value, _))). (refl, made_of (things.of_arm _ _) (both pattern.fits (both others.fits (all_of (deep s) value.low value.fits))))) &
    -- alternatives = PIPE pattern alternatives
    (λ s _ parts (_, pattern, (_, others, _)). (refl, both pattern.fits others.fits)) &
    -- alternatives = (nothing)
    (λ s _ parts k. (refl, nothing)) &
    -- for = FOR LPAREN pattern COMMA pattern RPAREN for_type for_range
    (λ s _ parts (_, index, (_, accumulator, (m, ty, (_, range, _)))). (refl, over_range (deep s) (things.of_for _ _ _ _ _ _ _ _) (joined_up (in_range (deep s) s.token_spans (both (inside_head s _ index.low index.fits) (inside_head s _ accumulator.low accumulator.fits))) (joined_up (to_range (deep s) (head_inner s m ty.low) ty.fits) range.fits)))) &
    -- for_type = COLON type
    (λ s _ parts (_, ty, _). (refl, type_plain (deep s) ty.fits)) &
    -- for_type = (nothing)
    (λ s _ parts k. (refl, none_there (plain (deep s)) s.token_spans s.token_spans (same s.token_spans))) &
    -- for_range = IN expr REST expr headed_block LPAREN expr RPAREN
    (λ s _ parts (mid, first, (to, end, (last, body, (_, start, _)))). (refl, joined_up (to_range (deep s) (head_inner (record { token_spans = s.token_spans; outer = s.outer; heads = s.heads }) mid first.low) first.fits) (joined_up (to_range (deep s) (head_inner (record { token_spans = s.token_spans; outer = s.outer; heads = s.heads }) to end.low) end.fits) (joined_up (block_rises (deep s) body.fits) (in_range (deep s) last (expr_in (record { token_spans = last; outer = s.outer; heads = s.heads }) _ start.low start.fits)))))) &
    -- headed_block = LBRACE statements RBRACE
    (λ s _ parts (_, statements, _). (refl, (same s.token_spans, one_up (things.of_block _ _ _) (statements_in (record { token_spans = s.token_spans; outer = s.outer; heads = s.heads }) _ statements.low statements.fits)))) &
    none
