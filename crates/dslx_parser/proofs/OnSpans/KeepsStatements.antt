-- The parts that the rules of blocks, statements and patterns make stand where the parts of their symbols do.
use Rattle.dslx_parser.specs.Syntax.Nodes.{in_turn, named_type}
use Rattle.dslx_parser.specs.Syntax.Statements.{rules}
use Rattle.dslx_parser.specs.Spans.Places.{nothing}
use Rattle.dslx_parser.specs.Spans.Places as things
use Rattle.dslx_parser.proofs.OnSpans.Around.{after, at_by, before, ending, goes_by, member_pattern_stands, name_pattern_stands, named_type_stands, number_pattern_stands, starting}
use Rattle.dslx_parser.proofs.OnSpans.Fits.{AllKeep, none, ◌&◌}
use Rattle.dslx_parser.proofs.OnSpans.Standing.{alone, behind, block_stands, ends_by, made_of, operand_in, same, stands_in}

pub keep : AllKeep rules
unfolding rules
keep =
    -- block = LBRACE statements RBRACE
    (λ _ from to (_, opening, (_, statements, closing)). block_stands (alone from to (things.of_block _ _ _) (starting opening (ending statements closing)) opening.within.first closing.within.last)) &
    -- statements = let statements
    (λ _ from to (_, statement, more). behind statement more) &
    -- statements = expr statement_end
    (λ parts from to (_, value, statements). statements parts.0 from value) &
    -- statements = (nothing)
    (λ _ from to k. nothing k) &
    -- statement_end = bare statements
    (λ _ from to (_, statement, more) value start o. behind (statement value start o) more) &
    -- statement_end = (nothing)
    (λ _ from to k value start o. ends_by to (operand_in o) k) &
    -- bare = SEMI
    (λ _ from to semi value start o. made_of (things.of_bare _) (after (operand_in o) semi)) &
    -- let = LET let_pattern ASSIGN expr SEMI
    (λ _ from to (_, keyword, (_, bound, (_, sign, (_, value, semi)))). alone from to (things.of_let _ _ _ _) (starting keyword (behind bound (before sign (ending (operand_in value) semi)))) keyword.within.first semi.within.last) &
    -- let_pattern = plain_pattern let_type
    (λ _ from to (_, pattern, ty). behind pattern ty) &
    -- let_pattern = any_name let_name
    (λ parts from to (_, name, bound). bound parts.0 from name) &
    -- let_name = PATH any_name let_type
    (λ parts from to (_, path, (_, member, ty)) owner start n. behind (member_pattern_stands owner parts.1.0 n path member) ty) &
    -- let_name = name_size type_tail COLON signed let_type
    (λ parts from to (_, size, (_, sizes, (_, colon, (_, number, ty)))) name start n. behind (number_pattern_stands (in_turn parts.1.0 (parts.0 name)) parts.1.1.1.0 (sizes (parts.0 name) start (size name start n)) (goes_by colon) number) ty) &
    -- let_name = COLON let_colon
    (λ _ from to (_, colon, bound) name start n. bound name start (at_by n (goes_by colon))) &
    -- let_name = (nothing)
    (λ _ from to k name start n. ends_by to (name_pattern_stands name n) k) &
    -- let_colon = signed let_type
    (λ parts from to (_, number, ty) name start n. behind (number_pattern_stands (named_type name) parts.0 (named_type_stands name n) (same from) number) ty) &
    -- let_colon = type
    (λ _ from to ty name start n. behind (name_pattern_stands name n) (stands_in ty)) &
    -- let_type = COLON type
    (λ _ from to (_, colon, ty). before colon (stands_in ty)) &
    -- let_type = (nothing)
    (λ _ from to k. nothing k) &
    -- pattern = plain_pattern
    (λ _ from to pattern. pattern) &
    -- pattern = any_name pattern_name
    (λ parts from to (_, name, pattern). pattern parts.0 from name) &
    -- plain_pattern = WILD
    (λ _ from to word. alone from to (things.of_wild _) (nothing word.within.goes) word.within.first word.within.last) &
    -- plain_pattern = TRUE
    (λ _ from to word. alone from to (things.of_bool_pattern _ _) (nothing word.within.goes) word.within.first word.within.last) &
    -- plain_pattern = FALSE
    (λ _ from to word. alone from to (things.of_bool_pattern _ _) (nothing word.within.goes) word.within.first word.within.last) &
    -- plain_pattern = base_keyword type_tail COLON signed
    (λ parts from to (_, base, (_, sizes, (_, colon, number))). number_pattern_stands (in_turn parts.1.0 parts.0) parts.1.1.1.0 (sizes parts.0 from base) (goes_by colon) number) &
    -- plain_pattern = LPAREN patterns RPAREN
    (λ _ from to (_, opening, (_, patterns, closing)). alone from to (things.of_tuple_pattern _ _) (starting opening (ending patterns closing)) opening.within.first closing.within.last) &
    -- pattern_name = PATH any_name
    (λ parts from to (_, path, member) owner start n. member_pattern_stands owner parts.1.0 n path member) &
    -- pattern_name = COLON signed
    (λ parts from to (_, colon, number) name start n. number_pattern_stands (named_type name) parts.1.0 (named_type_stands name n) (goes_by colon) number) &
    -- pattern_name = name_size type_tail COLON signed
    (λ parts from to (_, size, (_, sizes, (_, colon, number))) name start n. number_pattern_stands (in_turn parts.1.0 (parts.0 name)) parts.1.1.1.0 (sizes (parts.0 name) start (size name start n)) (goes_by colon) number) &
    -- pattern_name = (nothing)
    (λ _ from to k name start n. ends_by to (name_pattern_stands name n) k) &
    -- patterns = pattern patterns_more
    (λ _ from to (_, pattern, more). behind pattern more) &
    -- patterns = (nothing)
    (λ _ from to k. nothing k) &
    -- patterns_more = COMMA patterns
    (λ _ from to (_, comma, patterns). before comma patterns) &
    -- patterns_more = (nothing)
    (λ _ from to k. nothing k) &
    none
