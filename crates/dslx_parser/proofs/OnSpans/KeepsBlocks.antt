-- The parts that the rules of `if`, `match` and `for` make stand where the parts of their symbols do.
use Rattle.dslx_parser.specs.Syntax.Blocks.{rules}
use Rattle.dslx_parser.specs.Spans.Places.{nothing}
use Rattle.dslx_parser.specs.Spans.Places as things
use Rattle.dslx_parser.proofs.OnSpans.Around.{before, block_value_stands, ending, starting}
use Rattle.dslx_parser.proofs.OnSpans.Fits.{AllKeep, none, ◌&◌}
use Rattle.dslx_parser.proofs.OnSpans.Standing.{alone, behind, block_stands, ends_by, made_of, operand_at_end, operand_in, operand_stands, stands_in}

pub keep : AllKeep rules
unfolding rules
keep =
    -- if = IF expr headed_block ELSE else
    (λ _ from to (_, keyword, (_, condition, (_, block, (_, keyword_2, other)))). operand_stands _ _ from to (things.of_if _ _ _ _) (starting keyword (behind (operand_in condition) (behind (stands_in block) (before keyword_2 (operand_at_end other))))) keyword.within.first other.within.last) &
    -- else = block
    (λ parts from to block. block_value_stands parts.0 block) &
    -- else = if
    (λ _ from to operand. operand) &
    -- match = MATCH expr LBRACE arms RBRACE
    (λ _ from to (_, keyword, (_, value, (_, opening, (_, arms, closing)))). operand_stands _ _ from to (things.of_match _ _ _) (starting keyword (behind (operand_in value) (before opening (ending arms closing)))) keyword.within.first closing.within.last) &
    -- arms = arm arms_more
    (λ _ from to (_, arm, more). behind arm more) &
    -- arms = (nothing)
    (λ _ from to k. nothing k) &
    -- arms_more = COMMA arms
    (λ _ from to (_, comma, arms). before comma arms) &
    -- arms_more = (nothing)
    (λ _ from to k. nothing k) &
    -- arm = pattern alternatives DARROW expr
    (λ _ from to (_, pattern, (_, more, (_, arrow, value))). made_of (things.of_arm _ _) (behind pattern (behind more (before arrow (operand_in value))))) &
    -- alternatives = PIPE pattern alternatives
    (λ _ from to (_, bar, (_, pattern, more)). behind (before bar pattern) more) &
    -- alternatives = (nothing)
    (λ _ from to k. nothing k) &
    -- for = FOR LPAREN pattern COMMA pattern RPAREN for_type for_range
    (λ parts from to (_, keyword, (_, opening, (_, index, (_, comma, (_, accumulator, (_, closing, (_, ty, range))))))). operand_stands _ _ from to (things.of_for _ _ _ _ _ _ _ _) (starting keyword (before opening (behind index (before comma (behind accumulator (before closing (behind ty (ends_by parts.1.1.1.1.1.1.1.0.closing.to range.0 range.1)))))))) keyword.within.first range.2) &
    -- for_type = COLON type
    (λ _ from to (_, colon, ty). before colon (stands_in ty)) &
    -- for_type = (nothing)
    (λ _ from to k. nothing k) &
    -- for_range = IN expr REST expr headed_block LPAREN expr RPAREN
    (λ parts from to (_, keyword, (_, first, (_, dots, (_, end, (_, body, (_, opening, (_, start, closing))))))). (before keyword (behind (operand_in first) (before dots (behind (operand_in end) (behind (stands_in body) (before opening (ends_by parts.1.1.1.1.1.1.1.0.span.from (operand_in start) closing.within.first)))))), closing.within.goes, closing.within.last)) &
    -- headed_block = LBRACE statements RBRACE
    (λ _ from to (_, opening, (_, statements, closing)). block_stands (alone from to (things.of_block _ _ _) (starting opening (ending statements closing)) opening.within.first closing.within.last)) &
    none
