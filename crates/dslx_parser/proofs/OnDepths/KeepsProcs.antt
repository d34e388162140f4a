-- How high the parts are that the rules of procs make.
use Rattle.std.proofs.Common.{refl, []}
use Rattle.dslx_token.specs.declared.rules.generated.production.TheConstants.{PROC}
use Rattle.dslx_parser.specs.Syntax.Procs.{rules}
use Rattle.dslx_parser.proofs.OnDepths.NoHigher.{nothing}
use Rattle.dslx_parser.specs.Spans.Places as things
use Rattle.dslx_parser.proofs.OnDepths.Fits.{AllKeep, none, ◌&◌, argument}
use Rattle.dslx_parser.proofs.OnDepths.Nodes.{a_name_next, a_name_whole, a_spot_whole, all_args, all_type, block_whole, both, inside, joined_up, made_of, none_there, one_higher, one_up, over_config, over_next, same, statements_in, to_next, type_in, whole_in}
use Rattle.dslx_parser.proofs.OnDepths.States.{deep}

pub keep : AllKeep PROC rules
unfolding rules
keep =
    -- proc = PROC any_name parameters open_brace proc_members parts RBRACE
    (λ s _ parts (_, name, (mid, parametrics, (_, brace, (_, members, (_, all, _))))). (refl, one_up (things.of_proc _ _ things.abc) (both (a_name_whole 0 parts.1.0) (both parametrics.fits (both (whole_in (record { token_spans = mid; outer = []; heads = 0 }) _ members.low members.fits) (whole_in (record { token_spans = mid; outer = []; heads = 0 }) _ all.low all.fits)))))) &
    -- proc_members = proc_member proc_members
    (λ s _ parts (_, member, (_, others, _)). (refl, both member.fits others.fits)) &
    -- proc_members = (nothing)
    (λ s _ parts k. (refl, nothing)) &
    -- proc_member = any_name COLON end SEMI
    (λ s _ parts (_, name, (_, word, _)). (refl, made_of (things.of_end _) (both (a_name_whole (deep s) parts.0) word.fits))) &
    -- end = CHAN LT type GT direction
    (λ s _ parts (_, ty, (_, direction, _)). (refl, all_type (deep s) ty.low ty.fits)) &
    -- direction = IN
    (λ s _ parts k. (refl, tt)) &
    -- direction = OUT
    (λ s _ parts k. (refl, tt)) &
    -- parts = config parts_init_next
    (λ s _ parts (_, config, (_, others, _)). (refl, both config.fits others.fits)) &
    -- parts = init parts_config_next
    (λ s _ parts (_, init, (_, others, _)). (refl, both others.fits.0 (both (block_whole (deep s) init.fits.1) others.fits.1))) &
    -- parts = next parts_config_init
    (λ s _ parts (_, next, (_, others, _)). (refl, both others.fits next.fits)) &
    -- parts_init_next = init next
    (λ s _ parts (_, init, (_, next, _)). (refl, both (block_whole (deep s) init.fits.1) next.fits)) &
    -- parts_init_next = next init
    (λ s _ parts (_, next, (_, init, _)). (refl, both (block_whole (deep s) init.fits.1) next.fits)) &
    -- parts_config_next = config next
    (λ s _ parts (_, config, (_, next, _)). (refl, (config.fits, next.fits))) &
    -- parts_config_next = next config
    (λ s _ parts (_, next, (_, config, _)). (refl, (config.fits, next.fits))) &
    -- parts_config_init = config init
    (λ s _ parts (_, config, (_, init, _)). (refl, both config.fits (block_whole (deep s) init.fits.1))) &
    -- parts_config_init = init config
    (λ s _ parts (_, init, (_, config, _)). (refl, both config.fits (block_whole (deep s) init.fits.1))) &
    -- config = CONFIG LPAREN ends RPAREN LBRACE makings config_result RBRACE
    (λ s _ parts (_, ends, (_, config_statements, (_, result, _))). (refl, over_config (deep s) (things.of_config _) (both (one_higher (inside s _ ends.low ends.fits)) (both (statements_in s _ config_statements.low config_statements.fits) (one_higher (inside s _ result.low result.fits)))))) &
    -- ends = end_declared ends_more
    (λ s _ parts (_, end, (_, others, _)). (refl, both end.fits others.fits)) &
    -- ends = (nothing)
    (λ s _ parts k. (refl, nothing)) &
    -- ends_more = COMMA ends
    (λ s _ parts (_, ends, _). (refl, ends.fits)) &
    -- ends_more = (nothing)
    (λ s _ parts k. (refl, nothing)) &
    -- end_declared = any_name COLON end
    (λ s _ parts (_, name, (_, word, _)). (refl, made_of (things.of_end _) (both (a_name_whole (deep s) parts.0) word.fits))) &
    -- makings = channel makings
    (λ s _ parts (_, config_statement, (_, others, _)). (refl, both config_statement.fits others.fits)) &
    -- makings = spawn makings
    (λ s _ parts (_, config_statement, (_, others, _)). (refl, both config_statement.fits others.fits)) &
    -- makings = (nothing)
    (λ s _ parts k. (refl, nothing)) &
    -- channel = LET LPAREN any_name COMMA any_name RPAREN ASSIGN channel_made
    (λ s _ parts (_, sender, (_, receiver, (_, made, _))). (refl, one_up (things.of_channel _) (both (a_name_whole (deep s) parts.1.1.0) (both (a_name_whole (deep s) parts.1.1.1.1.0) made.fits)))) &
    -- channel_made = CHAN LT type channel_depth GT LPAREN STRING channel_end
    (λ s _ parts (_, ty, (_, depth, (_, end, _))). (refl, both (all_type (deep s) ty.low ty.fits) (both depth.fits (a_spot_whole (deep s) _)))) &
    -- channel_end = RPAREN SEMI
    (λ s token_spans parts k. (refl, tt)) &
    -- channel_depth = COMMA arg
    (λ s _ parts (_, arg, _). (refl, all_args (deep s) arg.low arg.fits)) &
    -- channel_depth = (nothing)
    (λ s _ parts k. (refl, nothing)) &
    -- spawn = SPAWN any_name spawn_args LPAREN names RPAREN SEMI
    (λ s _ parts (_, name, (mid, arguments, (_, names, _))). (refl, one_up (things.of_spawn _) (both (a_name_whole (deep s) parts.1.0) (both (all_args (deep s) arguments.low arguments.fits) (whole_in (record { token_spans = mid; outer = s.outer; heads = s.heads }) _ names.low names.fits))))) &
    -- spawn_args = open_angle arg args_more GT
    (λ s _ parts (_, angle, (_, arg, (_, others, _))). (refl, joined_up arg.fits others.fits)) &
    -- spawn_args = (nothing)
    (λ s _ parts k. (refl, none_there (argument (deep s)) s.token_spans s.token_spans (same s.token_spans))) &
    -- config_result = LPAREN names RPAREN
    (λ s _ parts (_, names, _). (refl, whole_in s _ names.low names.fits)) &
    -- config_result = (nothing)
    (λ s _ parts k. (refl, nothing)) &
    -- names = any_name names_more
    (λ s _ parts (_, name, (_, others, _)). (refl, both (a_name_whole (deep s) parts.0) others.fits)) &
    -- names = (nothing)
    (λ s _ parts k. (refl, nothing)) &
    -- names_more = COMMA names
    (λ s _ parts (_, names, _). (refl, names.fits)) &
    -- names_more = (nothing)
    (λ s _ parts k. (refl, nothing)) &
    -- init = INIT block
    (λ s _ parts (_, block, _). (refl, block.fits)) &
    -- next = NEXT LPAREN any_name COLON type RPAREN block
    (λ s _ parts (_, state, (_, ty, (_, body, _))). (refl, over_next (deep s) (things.of_next _) (both (a_name_next (deep s) parts.1.1.0) (both (to_next (deep s) (type_in s _ ty.low ty.fits)) body.fits.1)))) &
    none
