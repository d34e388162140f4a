-- How high the parts are that the rules of modules, functions, constants and types that are named make.
use Rattle.std.proofs.Common.{refl, []}
use Rattle.dslx_token.specs.declared.rules.generated.production.TheConstants.{MODULE}
use Rattle.dslx_parser.specs.Syntax.Items.{rules}
use Rattle.dslx_parser.proofs.OnDepths.NoHigher.{nothing}
use Rattle.dslx_parser.specs.Spans.Places as things
use Rattle.dslx_parser.proofs.OnDepths.Fits.{AllKeep, none, ◌&◌, plain}
use Rattle.dslx_parser.proofs.OnDepths.Nodes.{a_name_whole, all_of, all_type, block_whole, both, expr_in, inner_whole, made_of, none_there, one_up, same, type_plain, whole_in}
use Rattle.dslx_parser.proofs.OnDepths.States.{deep}

pub keep : AllKeep MODULE rules
unfolding rules
keep =
    -- module = items
    (λ s _ parts (_, items, _). (refl, items.fits)) &
    -- items = item items
    (λ s _ parts (_, item, (_, others, _)). (refl, both item.fits others.fits)) &
    -- items = (nothing)
    (λ s _ parts k. (refl, nothing)) &
    -- item = PUB definition
    (λ s _ parts (_, definition, _). (refl, made_of (things.of_item _) definition.fits)) &
    -- item = definition
    (λ s _ parts (_, definition, _). (refl, made_of (things.of_item _) definition.fits)) &
    -- definition = function
    (λ s _ parts (_, definition, _). (refl, definition.fits)) &
    -- definition = proc
    (λ s _ parts (_, definition, _). (refl, definition.fits)) &
    -- definition = constant
    (λ s _ parts (_, definition, _). (refl, definition.fits)) &
    -- definition = alias
    (λ s _ parts (_, definition, _). (refl, definition.fits)) &
    -- definition = structure
    (λ s _ parts (_, definition, _). (refl, definition.fits)) &
    -- definition = enumeration
    (λ s _ parts (_, definition, _). (refl, definition.fits)) &
    -- any_name = NAME
    (λ s _ parts k. (refl, same s.token_spans)) &
    -- any_name = TYPENAME
    (λ s _ parts k. (refl, same s.token_spans)) &
    -- any_name = FUNNAME
    (λ s _ parts k. (refl, same s.token_spans)) &
    -- any_name = STRUCTNAME
    (λ s _ parts k. (refl, same s.token_spans)) &
    -- any_name = BOTHNAME
    (λ s _ parts k. (refl, same s.token_spans)) &
    -- open_brace = LBRACE
    (λ s _ parts k. (refl, tt)) &
    -- open_brace = FIELDS
    (λ s _ parts k. (refl, tt)) &
    -- open_angle = LT
    (λ s _ parts k. (refl, tt)) &
    -- open_angle = ARGS
    (λ s _ parts k. (refl, tt)) &
    -- function = FN any_name parameters LPAREN arguments_declared RPAREN result_type block
    (λ s _ parts (_, name, (mid, parametrics, (_, arguments, (_, result, (_, body, _))))). (refl, one_up (things.of_function _) (both (a_name_whole 0 parts.1.0) (both parametrics.fits (both (whole_in (record { token_spans = mid; outer = []; heads = 0 }) _ arguments.low arguments.fits) (both (all_of 0 result.low result.fits) (block_whole 0 body.fits.1))))))) &
    -- result_type = ARROW type
    (λ s _ parts (_, ty, _). (refl, type_plain (deep s) ty.fits)) &
    -- result_type = (nothing)
    (λ s _ parts k. (refl, none_there (plain (deep s)) s.token_spans s.token_spans (same s.token_spans))) &
    -- parameters = open_angle parameter parameters_more GT
    (λ s _ parts (_, angle, (_, parametric, (_, others, _))). (refl, both parametric.fits others.fits)) &
    -- parameters = (nothing)
    (λ s _ parts k. (refl, nothing)) &
    -- parameters_more = COMMA parameter parameters_more
    (λ s _ parts (_, parametric, (_, others, _)). (refl, both parametric.fits others.fits)) &
    -- parameters_more = (nothing)
    (λ s _ parts k. (refl, nothing)) &
    -- parameter = any_name COLON type parameter_default
    (λ s _ parts (_, name, (_, ty, (_, default, _))). (refl, made_of (things.of_parametric _) (both (a_name_whole (deep s) parts.0) (both (all_type (deep s) ty.low ty.fits) default.fits)))) &
    -- parameter_default = ASSIGN LBRACE expr RBRACE
    (λ s _ parts (_, value, _). (refl, inner_whole (deep s) (expr_in s _ value.low value.fits))) &
    -- parameter_default = (nothing)
    (λ s _ parts k. (refl, nothing)) &
    -- arguments_declared = argument_declared arguments_declared_more
    (λ s _ parts (_, argument, (_, others, _)). (refl, both argument.fits others.fits)) &
    -- arguments_declared = (nothing)
    (λ s _ parts k. (refl, nothing)) &
    -- arguments_declared_more = COMMA arguments_declared
    (λ s _ parts (_, arguments, _). (refl, arguments.fits)) &
    -- arguments_declared_more = (nothing)
    (λ s _ parts k. (refl, nothing)) &
    -- argument_declared = any_name COLON type
    (λ s _ parts (_, name, (_, ty, _)). (refl, made_of (things.of_declared _) (both (a_name_whole (deep s) parts.0) (all_type (deep s) ty.low ty.fits)))) &
    -- constant = CONST any_name constant_type ASSIGN expr SEMI
    (λ s _ parts (_, name, (_, ty, (_, value, _))). (refl, one_up (things.of_constant _) (both (a_name_whole 0 parts.1.0) (both (all_of 0 ty.low ty.fits) (all_of 0 value.low value.fits))))) &
    -- constant_type = COLON type
    (λ s _ parts (_, ty, _). (refl, type_plain (deep s) ty.fits)) &
    -- constant_type = (nothing)
    (λ s _ parts k. (refl, none_there (plain (deep s)) s.token_spans s.token_spans (same s.token_spans))) &
    -- alias = TYPE any_name ASSIGN type SEMI
    (λ s _ parts (_, name, (_, ty, _)). (refl, one_up (things.of_alias _) (both (a_name_whole 0 parts.1.0) (all_type 0 ty.low ty.fits)))) &
    -- structure = STRUCT any_name open_brace arguments_declared RBRACE
    (λ s _ parts (mid, name, (_, brace, (_, fields, _))). (refl, one_up (things.of_structure _) (both (a_name_whole 0 parts.1.0) (whole_in (record { token_spans = mid; outer = []; heads = 0 }) _ fields.low fields.fits)))) &
    -- enumeration = ENUM any_name COLON type open_brace members RBRACE
    (λ s _ parts (_, name, (mid, base, (_, brace, (_, members, _)))). (refl, one_up (things.of_enumeration _) (both (a_name_whole 0 parts.1.0) (both (all_type 0 base.low base.fits) (whole_in (record { token_spans = mid; outer = []; heads = 0 }) _ members.low members.fits))))) &
    -- members = member members_more
    (λ s _ parts (_, member, (_, others, _)). (refl, both member.fits others.fits)) &
    -- members = (nothing)
    (λ s _ parts k. (refl, nothing)) &
    -- members_more = COMMA members
    (λ s _ parts (_, members, _). (refl, members.fits)) &
    -- members_more = (nothing)
    (λ s _ parts k. (refl, nothing)) &
    -- member = any_name ASSIGN expr
    (λ s _ parts (_, name, (_, value, _)). (refl, made_of (things.of_constant_member _) (both (a_name_whole (deep s) parts.0) (all_of (deep s) value.low value.fits)))) &
    none
