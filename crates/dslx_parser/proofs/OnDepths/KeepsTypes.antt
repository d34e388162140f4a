-- How high the parts are that the rules of arguments, numbers and types make.
use Rattle.std.proofs.Common.{refl, suc}
use Rattle.dslx_token.specs.declared.rules.generated.production.TheConstants.{ARGS_MORE__COMMA}
use Rattle.dslx_parser.specs.Syntax.Nodes.{in_turn, named_type, number_of}
use Rattle.dslx_parser.specs.Syntax.Types.{rules}
use Rattle.dslx_parser.proofs.OnDepths.NoHigher.{nothing}
use Rattle.dslx_parser.specs.Spans.Places as things
use Rattle.dslx_parser.proofs.OnDepths.Fits.{AllKeep, none, ◌&◌, argument}
use Rattle.dslx_parser.proofs.OnDepths.Nodes.{all_type, array_type_up, bare_arg_up, bare_type_up, both, brace_arg_up, expr_in, expr_in_mark, inside, joined_up, more, name_arg_up, named_type_up, none_there, number_arg_up, one_up, same, still}
use Rattle.dslx_parser.proofs.OnDepths.States.{deep}

pub keep : AllKeep ARGS_MORE__COMMA rules
unfolding rules
keep =
    -- args_more = COMMA arg args_more
    (λ s _ parts (_, arg, (_, others, _)). (refl, joined_up arg.fits others.fits)) &
    -- args_more = (nothing)
    (λ s _ parts k. (refl, none_there (argument (deep s)) s.token_spans s.token_spans (same s.token_spans))) &
    -- arg = NUMBER
    (λ s _ parts k. (refl, bare_arg_up (deep s) (number_of parts.0) s.token_spans s.token_spans (same s.token_spans))) &
    -- arg = base_keyword type_tail COLON signed
    (λ s _ parts (_, base, (_, sizes, (_, number, _))). (refl, number_arg_up (deep s) (in_turn parts.1.0 parts.0) parts.1.1.1.0 (sizes.fits parts.0 s.token_spans base.fits) number.fits)) &
    -- arg = any_name arg_name
    (λ s _ parts (_, name, (_, arg, _)). (refl, arg.fits parts.0 s.token_spans name.fits)) &
    -- arg = LBRACE expr RBRACE
    (λ s _ parts (_, value, _). (refl, brace_arg_up (deep s) s.token_spans (things.of_arg _ _) (expr_in s _ value.low value.fits))) &
    -- arg_name = COLON signed
    (λ s _ parts (_, number, _). (refl, λ name start n. number_arg_up (deep s) (named_type name) parts.1.0 (named_type_up (deep s) name n) number.fits)) &
    -- arg_name = name_size type_tail COLON signed
    (λ s _ parts (_, size, (_, sizes, (_, number, _))). (refl, λ name start n. number_arg_up (deep s) (in_turn parts.1.0 (parts.0 name)) parts.1.1.1.0 (sizes.fits (parts.0 name) start (size.fits name start n)) number.fits)) &
    -- arg_name = (nothing)
    (λ s _ parts k. (refl, λ name start n. name_arg_up (deep s) name n)) &
    -- signed = MINUS NUMBER
    (λ s _ parts k. (refl, same s.token_spans)) &
    -- signed = NUMBER
    (λ s _ parts k. (refl, same s.token_spans)) &
    -- type = base type_tail
    (λ s _ parts (_, base, (_, sizes, _)). (refl, sizes.fits parts.0 s.token_spans base.fits)) &
    -- base = base_keyword
    (λ s _ parts (_, base, _). (refl, base.fits)) &
    -- base = any_name
    (λ s _ parts (_, name, _). (refl, named_type_up (deep s) parts.0 name.fits)) &
    -- base = LPAREN types RPAREN
    (λ s _ parts (_, types, _). (refl, still s.token_spans s.token_spans (same s.token_spans) (one_up (things.of_tuple_type _ _) (inside s _ types.low types.fits)))) &
    -- base_keyword = UNSIGNED
    (λ s _ parts k. (refl, bare_type_up (deep s) s.token_spans (things.of_bits _ _ _))) &
    -- base_keyword = SIGNED
    (λ s _ parts k. (refl, bare_type_up (deep s) s.token_spans (things.of_bits _ _ _))) &
    -- base_keyword = WIDE LBRACKET expr RBRACKET
    (λ s _ parts (_, width, _). (refl, still s.token_spans (suc s.token_spans) (more s.token_spans) (one_up (things.of_wide _ _ _) (expr_in_mark s _ width.low width.fits)))) &
    -- base_keyword = BOOL
    (λ s _ parts k. (refl, bare_type_up (deep s) s.token_spans (things.of_bool_type _))) &
    -- type_tail = size type_tail
    (λ s _ parts (_, size, (_, others, _)). (refl, λ ty start t. others.fits (parts.0 ty) start (size.fits ty start t))) &
    -- type_tail = (nothing)
    (λ s _ parts k. (refl, λ ty start t. t)) &
    -- size = LBRACKET expr RBRACKET
    (λ s _ parts (_, size, _). (refl, λ ty start t. array_type_up (deep s) ty parts.1.0 parts.1.1.0 (suc s.token_spans) t (same (suc s.token_spans)) (expr_in_mark s _ size.low size.fits))) &
    -- name_size = LBRACKET expr RBRACKET
    (λ s _ parts (_, size, _). (refl, λ name start n. array_type_up (deep s) (named_type name) parts.1.0 parts.1.1.0 (suc s.token_spans) (named_type_up (deep s) name n) (same (suc s.token_spans)) (expr_in_mark s _ size.low size.fits))) &
    -- types = type types_more
    (λ s _ parts (_, ty, (_, others, _)). (refl, both (all_type (deep s) ty.low ty.fits) others.fits)) &
    -- types = (nothing)
    (λ s _ parts k. (refl, nothing)) &
    -- types_more = COMMA types
    (λ s _ parts (_, types, _). (refl, types.fits)) &
    -- types_more = (nothing)
    (λ s _ parts k. (refl, nothing)) &
    none
