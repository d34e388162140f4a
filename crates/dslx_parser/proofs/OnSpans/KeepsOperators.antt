-- The parts that the rules of operators, and of what stands behind an atom make stand where the parts of their symbols do.
use Rattle.dslx_parser.specs.Syntax.Operators.{rules}
use Rattle.dslx_parser.specs.Spans.Places.{nothing}
use Rattle.dslx_parser.specs.Spans.Places as things
use Rattle.dslx_parser.proofs.OnSpans.Around.{before, ending, goes_by, operand_by, operand_from, starting, up_to_end}
use Rattle.dslx_parser.proofs.OnSpans.Chains.{chain_stands}
use Rattle.dslx_parser.proofs.OnSpans.Fits.{AllKeep, none, ◌&◌}
use Rattle.dslx_parser.proofs.OnSpans.Standing.{alone, behind, operand_at_end, operand_at_start, operand_in, operand_stands, same, stands_in}

pub keep : AllKeep rules
unfolding rules
keep =
    -- expr = operand operands
    (λ parts from to (_, first, links). chain_stands parts.0 parts.1.0 first links) &
    -- operands = binary operand operands
    (λ _ from to (_, operator, (mid, operand, more)). (mid, operand_from operator operand, more)) &
    -- operands = (nothing)
    (λ _ from to k. k) &
    -- binary = STAR
    (λ _ from to keyword. goes_by keyword) &
    -- binary = SLASH
    (λ _ from to keyword. goes_by keyword) &
    -- binary = PERCENT
    (λ _ from to keyword. goes_by keyword) &
    -- binary = PLUS
    (λ _ from to keyword. goes_by keyword) &
    -- binary = MINUS
    (λ _ from to sign. goes_by sign) &
    -- binary = CONCAT
    (λ _ from to keyword. goes_by keyword) &
    -- binary = SHL
    (λ _ from to keyword. goes_by keyword) &
    -- binary = SHR
    (λ _ from to keyword. goes_by keyword) &
    -- binary = AMP
    (λ _ from to keyword. goes_by keyword) &
    -- binary = CARET
    (λ _ from to keyword. goes_by keyword) &
    -- binary = PIPE
    (λ _ from to bar. goes_by bar) &
    -- binary = EQ
    (λ _ from to keyword. goes_by keyword) &
    -- binary = NE
    (λ _ from to keyword. goes_by keyword) &
    -- binary = LT
    (λ _ from to keyword. goes_by keyword) &
    -- binary = LE
    (λ _ from to keyword. goes_by keyword) &
    -- binary = GT
    (λ _ from to end. goes_by end) &
    -- binary = GE
    (λ _ from to keyword. goes_by keyword) &
    -- binary = ANDAND
    (λ _ from to keyword. goes_by keyword) &
    -- binary = OROR
    (λ _ from to keyword. goes_by keyword) &
    -- operand = prefixed casts
    (λ parts from to (_, operand, casts). casts parts.0 from operand) &
    -- prefixed = MINUS prefixed
    (λ _ from to (_, sign, operand). operand_stands _ _ from to (things.of_prefix _ _ _) (starting sign (operand_at_end operand)) sign.within.first operand.within.last) &
    -- prefixed = BANG prefixed
    (λ _ from to (_, sign, operand). operand_stands _ _ from to (things.of_prefix _ _ _) (starting sign (operand_at_end operand)) sign.within.first operand.within.last) &
    -- prefixed = atom posts
    (λ parts from to (_, atom, posts). posts parts.0 from atom) &
    -- casts = cast casts
    (λ parts from to (_, cast, more) o start s. more (parts.0 o) start (cast o start s)) &
    -- casts = (nothing)
    (λ _ from to k o start s. operand_by s k) &
    -- cast = AS type
    (λ _ from to (_, keyword, ty) o start s. operand_stands _ _ start to (things.of_cast _ _ _) (behind (operand_at_start s) (before keyword (up_to_end ty))) s.within.first ty.within.last) &
    -- posts = LBRACKET expr index_end posts
    (λ parts from to (mid, opening, (_, index, (_, post, more))) o start s. more (parts.1.1.0 parts.1.0 o) start (post o parts.1.0 start mid (operand_by s (goes_by opening)) index)) &
    -- posts = DOT part posts
    (λ parts from to (_, dot, (_, post, more)) o start s. more (parts.1.0 o) start (post o start (operand_by s (goes_by dot)))) &
    -- posts = (nothing)
    (λ _ from to k o start s. operand_by s k) &
    -- index_end = RBRACKET
    (λ _ from to closing o index start mid s i. operand_stands _ _ start to (things.of_index _ _ _) (behind (operand_at_start s) (ending (operand_in i) closing)) s.within.first closing.within.last) &
    -- index_end = COLON expr RBRACKET
    (λ _ from to (_, colon, (_, end, closing)) o first start mid s i. operand_stands _ _ start to (things.of_slice _ _ _ _) (behind (operand_at_start s) (behind (operand_in i) (before colon (ending (operand_in end) closing)))) s.within.first closing.within.last) &
    -- index_end = PLUSCOLON type RBRACKET
    (λ _ from to (_, plus, (_, ty, closing)) o first start mid s i. operand_stands _ _ start to (things.of_part _ _ _ _) (behind (operand_at_start s) (behind (operand_in i) (before plus (ending (stands_in ty) closing)))) s.within.first closing.within.last) &
    -- part = any_name
    (λ _ from to name o start s. operand_stands _ _ start to (things.of_field _ _ _) (behind (operand_at_start s) (up_to_end name)) s.within.first name.within.last) &
    -- part = NUMBER
    (λ parts from to number o start s. operand_stands _ _ start to (things.of_element _ _ _ _) (behind (operand_at_start s) (alone from parts.0.span.to (things.of_spot _) (nothing number.within.goes) number.within.first (same parts.0.span.to))) s.within.first number.within.last) &
    none
