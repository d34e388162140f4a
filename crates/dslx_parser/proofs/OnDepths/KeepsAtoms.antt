-- How high the parts are that the rules of atoms make.
use Rattle.std.proofs.Common.{refl, suc}
use Rattle.std.specs.Prelude.{None, Some}
use Rattle.dslx_token.specs.declared.rules.generated.production.TheConstants.{ATOM__NUMBER}
use Rattle.dslx_parser.specs.Syntax.Nodes.{exprs_of, ident_of, in_turn, number_of}
use Rattle.dslx_parser.specs.Syntax.Atoms.{rules}
use Rattle.dslx_parser.proofs.OnDepths.NoHigher.{nothing}
use Rattle.dslx_parser.specs.Spans.Places as things
use Rattle.dslx_parser.proofs.OnDepths.Fits.{AllKeep, none, ◌&◌}
use Rattle.dslx_parser.proofs.OnDepths.Nodes.{a_name_whole, all_of, bare_expr_up, block_value_up, both, call_up, expr_in, expr_in_mark, inner_expr, inside, inside_mark, joined_up, made_of, member_up, more, name_inner, name_up, named_type_up, number_up, one_higher, over_args, over_inner_expr, over_typed, same, still, type_elements, typed_up}
use Rattle.dslx_parser.proofs.OnDepths.States.{deep}

pub keep : AllKeep ATOM__NUMBER rules
unfolding rules
keep =
    -- atom = NUMBER
    (λ s _ parts k. (refl, number_up (deep s) (number_of parts.0) s.token_spans s.token_spans (same s.token_spans))) &
    -- atom = base_keyword type_tail COLON typed
    (λ s _ parts (_, base, (_, sizes, (_, operand, _))). (refl, operand.fits (in_turn parts.1.0 parts.0) s.token_spans (sizes.fits parts.0 s.token_spans base.fits))) &
    -- atom = alias_name type_tail COLON typed
    (λ s _ parts (_, base, (_, sizes, (_, operand, _))). (refl, operand.fits (in_turn parts.1.0 parts.0) s.token_spans (sizes.fits parts.0 s.token_spans base.fits))) &
    -- atom = elements
    (λ s _ parts (_, elements, _). (refl, over_inner_expr (deep s) (things.of_array _ None (exprs_of parts.0.2) parts.0.3) elements.fits)) &
    -- atom = TRUE
    (λ s _ parts k. (refl, bare_expr_up (deep s) s.token_spans (things.of_bool _ _))) &
    -- atom = FALSE
    (λ s _ parts k. (refl, bare_expr_up (deep s) s.token_spans (things.of_bool _ _))) &
    -- atom = NAME name_tail
    (λ s _ parts (_, operand, _). (refl, operand.fits (ident_of parts.0) s.token_spans (same s.token_spans))) &
    -- atom = FUNNAME function_tail
    (λ s _ parts (_, operand, _). (refl, operand.fits (ident_of parts.0) s.token_spans (same s.token_spans))) &
    -- atom = STRUCTNAME struct_tail
    (λ s _ parts (_, operand, _). (refl, operand.fits (ident_of parts.0) s.token_spans (same s.token_spans))) &
    -- atom = BOTHNAME both_tail
    (λ s _ parts (_, operand, _). (refl, operand.fits (ident_of parts.0) s.token_spans (same s.token_spans))) &
    -- atom = LPAREN parenthesis
    (λ s _ parts (_, operand, _). (refl, operand.fits parts.0.span)) &
    -- atom = block
    (λ s _ parts (_, block, _). (refl, block_value_up (deep s) parts.0 block.fits)) &
    -- atom = if
    (λ s _ parts (_, operand, _). (refl, operand.fits)) &
    -- atom = match
    (λ s _ parts (_, operand, _). (refl, operand.fits)) &
    -- atom = for
    (λ s _ parts (_, operand, _). (refl, operand.fits)) &
    -- alias_name = TYPENAME
    (λ s _ parts k. (refl, named_type_up (deep s) (ident_of parts.0) (same s.token_spans))) &
    -- typed = signed
    (λ s _ parts (_, number, _). (refl, λ ty start t. typed_up (deep s) ty parts.0 t number.fits)) &
    -- typed = elements
    (λ s _ parts (_, elements, _). (refl, λ ty start t. over_typed (deep s) (things.of_array _ (Some ty) (exprs_of parts.0.2) parts.0.3) (type_elements (deep s) t elements.fits))) &
    -- name_tail = PATH any_name
    (λ s _ parts (_, member, _). (refl, λ owner start n. member_up (deep s) owner parts.1.0 n member.fits)) &
    -- name_tail = call
    (λ s _ parts (_, call, _). (refl, call.fits)) &
    -- name_tail = (nothing)
    (λ s _ parts k. (refl, λ name start n. name_up (deep s) name n)) &
    -- function_tail = PATH any_name
    (λ s _ parts (_, member, _). (refl, λ owner start n. member_up (deep s) owner parts.1.0 n member.fits)) &
    -- function_tail = call
    (λ s _ parts (_, call, _). (refl, call.fits)) &
    -- function_tail = call_with_args
    (λ s _ parts (_, call, _). (refl, call.fits)) &
    -- function_tail = (nothing)
    (λ s _ parts k. (refl, λ name start n. name_up (deep s) name n)) &
    -- struct_tail = PATH any_name
    (λ s _ parts (_, member, _). (refl, λ owner start n. member_up (deep s) owner parts.1.0 n member.fits)) &
    -- struct_tail = call
    (λ s _ parts (_, call, _). (refl, call.fits)) &
    -- struct_tail = fields
    (λ s _ parts (_, fields, _). (refl, fields.fits)) &
    -- struct_tail = (nothing)
    (λ s _ parts k. (refl, λ name start n. name_up (deep s) name n)) &
    -- both_tail = PATH any_name
    (λ s _ parts (_, member, _). (refl, λ owner start n. member_up (deep s) owner parts.1.0 n member.fits)) &
    -- both_tail = call
    (λ s _ parts (_, call, _). (refl, call.fits)) &
    -- both_tail = call_with_args
    (λ s _ parts (_, call, _). (refl, call.fits)) &
    -- both_tail = fields
    (λ s _ parts (_, fields, _). (refl, fields.fits)) &
    -- both_tail = (nothing)
    (λ s _ parts k. (refl, λ name start n. name_up (deep s) name n)) &
    -- call = LPAREN exprs RPAREN
    (λ s _ parts (_, values, _). (refl, λ name start n. call_up (deep s) n (things.of_call _ _ _ _) (name_inner (deep s) name (inside s _ values.low values.fits)))) &
    -- call_with_args = ARGS arg args_more GT LPAREN exprs RPAREN
    (λ s _ parts (_, arg, (m, others, (_, values, _))). (refl, λ name start n. over_args (deep s) name n (joined_up arg.fits others.fits) (inside (record { token_spans = m; outer = s.outer; heads = s.heads }) _ values.low values.fits) (things.of_call _ _ _ _))) &
    -- exprs = expr exprs_more
    (λ s _ parts (_, value, (_, others, _)). (refl, both (all_of (deep s) value.low value.fits) others.fits)) &
    -- exprs = (nothing)
    (λ s _ parts k. (refl, nothing)) &
    -- exprs_more = COMMA exprs
    (λ s _ parts (_, values, _). (refl, values.fits)) &
    -- exprs_more = (nothing)
    (λ s _ parts k. (refl, nothing)) &
    -- fields = FIELDS field_list RBRACE
    (λ s _ parts (_, fields, _). (refl, λ name start n. call_up (deep s) n (things.of_struct _ _ _ _) (name_inner (deep s) name (inside s _ fields.low fields.fits)))) &
    -- field_list = any_name field_value field_more
    (λ s _ parts (_, name, (_, field, (_, others, _))). (refl, both (field.fits parts.0) others.fits)) &
    -- field_list = REST expr
    (λ s _ parts (_, others, _). (refl, all_of (deep s) others.low others.fits)) &
    -- field_list = (nothing)
    (λ s _ parts k. (refl, nothing)) &
    -- field_value = COLON expr
    (λ s _ parts (_, value, _). (refl, λ name. made_of (things.of_field_value _ _) (both (a_name_whole (deep s) name) (all_of (deep s) value.low value.fits)))) &
    -- field_value = (nothing)
    (λ s _ parts k. (refl, λ name. made_of (things.of_field_value _ _) (a_name_whole (deep s) name))) &
    -- field_more = COMMA field_list
    (λ s _ parts (_, fields, _). (refl, fields.fits)) &
    -- field_more = (nothing)
    (λ s _ parts k. (refl, nothing)) &
    -- parenthesis = RPAREN
    (λ s token_spans parts k. (refl, λ opening. bare_expr_up (deep s) token_spans (things.of_tuple _ _))) &
    -- parenthesis = expr parenthesis_end
    (λ s token_spans parts (_, first, (_, operand, _)). (refl, λ opening. operand.fits opening parts.0 (expr_in (record { token_spans = token_spans; outer = s.outer; heads = s.heads }) _ first.low first.fits))) &
    -- parenthesis_end = RPAREN
    (λ s token_spans parts k. (refl, λ opening o up. inner_expr (deep s) token_spans up)) &
    -- parenthesis_end = COMMA exprs RPAREN
    (λ s token_spans parts (_, others, _). (refl, λ opening o up. call_up (deep s) (same token_spans) (things.of_tuple _ _) (one_higher (both up (inside (record { token_spans = token_spans; outer = s.outer; heads = s.heads }) _ others.low others.fits))))) &
    -- elements = LBRACKET expr elements_more RBRACKET
    (λ s _ parts (_, first, (_, others, _)). (refl, still s.token_spans (suc s.token_spans) (more s.token_spans) (both (expr_in_mark s _ first.low first.fits) (inside_mark s _ others.low others.fits)))) &
    -- elements_more = COMMA elements_next
    (λ s _ parts (_, others, _). (refl, others.fits)) &
    -- elements_more = (nothing)
    (λ s _ parts k. (refl, nothing)) &
    -- elements_next = expr elements_more
    (λ s _ parts (_, element, (_, others, _)). (refl, both (all_of (deep s) element.low element.fits) others.fits)) &
    -- elements_next = DOTS elements_end
    (λ s _ parts k. (refl, nothing)) &
    -- elements_next = (nothing)
    (λ s _ parts k. (refl, nothing)) &
    -- elements_end = COMMA
    (λ s _ parts k. (refl, tt)) &
    -- elements_end = (nothing)
    (λ s _ parts k. (refl, tt)) &
    none
