-- How high the parts are that the rules of blocks, statements and patterns make.
use Rattle.std.proofs.Common.{refl}
use Rattle.dslx_token.specs.declared.rules.generated.production.TheConstants.{BLOCK}
use Rattle.dslx_parser.specs.Syntax.Nodes.{in_turn, named_type}
use Rattle.dslx_parser.specs.Syntax.Statements.{rules}
use Rattle.dslx_parser.proofs.OnDepths.NoHigher.{nothing}
use Rattle.dslx_parser.specs.Spans.Places as things
use Rattle.dslx_parser.proofs.OnDepths.Fits.{AllKeep, none, ◌&◌, plain}
use Rattle.dslx_parser.proofs.OnDepths.Nodes.{all_of, all_type, bare_whole, both, inside, later, made_of, member_pattern_up, name_pattern_up, named_type_up, none_there, number_pattern_up, one_higher, one_up, over_inner, same, statements_in, type_plain}
use Rattle.dslx_parser.proofs.OnDepths.States.{deep}

pub keep : AllKeep BLOCK rules
unfolding rules
keep =
    -- block = LBRACE statements RBRACE
    (λ s _ parts (_, statements, _). (refl, (same s.token_spans, one_up (things.of_block _ _ _) (statements_in s _ statements.low statements.fits)))) &
    -- statements = let statements
    (λ s _ parts (_, statement, (_, others, _)). (refl, both statement.fits others.fits)) &
    -- statements = expr statement_end
    (λ s _ parts (_, value, (_, statements, _)). (refl, statements.fits parts.0 (all_of (deep s) value.low value.fits))) &
    -- statements = (nothing)
    (λ s _ parts k. (refl, nothing)) &
    -- statement_end = bare statements
    (λ s _ parts (_, statement, (_, others, _)). (refl, λ o up. both (statement.fits o up) others.fits)) &
    -- statement_end = (nothing)
    (λ s _ parts k. (refl, λ o up. one_higher up)) &
    -- bare = SEMI
    (λ s _ parts k. (refl, λ o up. made_of (things.of_bare _) (one_higher up))) &
    -- let = LET let_pattern ASSIGN expr SEMI
    (λ s _ parts (_, bound, (_, value, _)). (refl, one_up (things.of_let _ _ _ _) (both bound.fits (all_of (deep s) value.low value.fits)))) &
    -- let_pattern = plain_pattern let_type
    (λ s _ parts (_, pattern, (_, ty, _)). (refl, both pattern.fits (all_of (deep s) ty.low ty.fits))) &
    -- let_pattern = any_name let_name
    (λ s _ parts (_, name, (_, bound, _)). (refl, bound.fits parts.0 s.token_spans name.fits)) &
    -- let_name = PATH any_name let_type
    (λ s _ parts (_, member, (_, ty, _)). (refl, λ owner start n. both (member_pattern_up (deep s) owner parts.1.0) (all_of (deep s) ty.low ty.fits))) &
    -- let_name = name_size type_tail COLON signed let_type
    (λ s _ parts (_, size, (_, sizes, (_, number, (_, ty, _)))). (refl, λ name start n. both (number_pattern_up (deep s) (in_turn parts.1.0 (parts.0 name)) parts.1.1.1.0 sizes.low (sizes.fits (parts.0 name) start (size.fits name start n))) (all_of (deep s) ty.low ty.fits))) &
    -- let_name = COLON let_colon
    (λ s _ parts (_, bound, _). (refl, λ name start n. bound.fits name start n)) &
    -- let_name = (nothing)
    (λ s _ parts k. (refl, λ name start n. name_pattern_up (deep s) name)) &
    -- let_colon = signed let_type
    (λ s _ parts (m, number, (_, ty, _)). (refl, λ name start n. both (number_pattern_up (deep s) (named_type name) parts.0 number.low (later m number.fits (named_type_up (deep s) name n))) (all_of (deep s) ty.low ty.fits))) &
    -- let_colon = type
    (λ s _ parts (_, ty, _). (refl, λ name start n. both (name_pattern_up (deep s) name) (all_type (deep s) ty.low ty.fits))) &
    -- let_type = COLON type
    (λ s _ parts (_, ty, _). (refl, type_plain (deep s) ty.fits)) &
    -- let_type = (nothing)
    (λ s _ parts k. (refl, none_there (plain (deep s)) s.token_spans s.token_spans (same s.token_spans))) &
    -- pattern = plain_pattern
    (λ s _ parts (_, pattern, _). (refl, pattern.fits)) &
    -- pattern = any_name pattern_name
    (λ s _ parts (_, name, (_, pattern, _)). (refl, pattern.fits parts.0 s.token_spans name.fits)) &
    -- plain_pattern = WILD
    (λ s _ parts k. (refl, bare_whole (deep s) (things.of_wild _))) &
    -- plain_pattern = TRUE
    (λ s _ parts k. (refl, bare_whole (deep s) (things.of_bool_pattern _ _))) &
    -- plain_pattern = FALSE
    (λ s _ parts k. (refl, bare_whole (deep s) (things.of_bool_pattern _ _))) &
    -- plain_pattern = base_keyword type_tail COLON signed
    (λ s _ parts (_, base, (_, sizes, (_, number, _))). (refl, number_pattern_up (deep s) (in_turn parts.1.0 parts.0) parts.1.1.1.0 sizes.low (sizes.fits parts.0 s.token_spans base.fits))) &
    -- plain_pattern = LPAREN patterns RPAREN
    (λ s _ parts (_, patterns, _). (refl, over_inner (deep s) (things.of_tuple_pattern _ _) (inside s _ patterns.low patterns.fits))) &
    -- pattern_name = PATH any_name
    (λ s _ parts (_, member, _). (refl, λ owner start n. member_pattern_up (deep s) owner parts.1.0)) &
    -- pattern_name = COLON signed
    (λ s _ parts (m, number, _). (refl, λ name start n. number_pattern_up (deep s) (named_type name) parts.1.0 number.low (later m number.fits (named_type_up (deep s) name n)))) &
    -- pattern_name = name_size type_tail COLON signed
    (λ s _ parts (_, size, (_, sizes, (_, number, _))). (refl, λ name start n. number_pattern_up (deep s) (in_turn parts.1.0 (parts.0 name)) parts.1.1.1.0 sizes.low (sizes.fits (parts.0 name) start (size.fits name start n)))) &
    -- pattern_name = (nothing)
    (λ s _ parts k. (refl, λ name start n. name_pattern_up (deep s) name)) &
    -- patterns = pattern patterns_more
    (λ s _ parts (_, pattern, (_, others, _)). (refl, both pattern.fits others.fits)) &
    -- patterns = (nothing)
    (λ s _ parts k. (refl, nothing)) &
    -- patterns_more = COMMA patterns
    (λ s _ parts (_, patterns, _). (refl, patterns.fits)) &
    -- patterns_more = (nothing)
    (λ s _ parts k. (refl, nothing)) &
    none
