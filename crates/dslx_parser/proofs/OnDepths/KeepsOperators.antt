-- How high the parts are that the rules of operators, and of what stands behind an atom make.
use Rattle.std.proofs.Common.{refl, suc}
use Rattle.dslx_token.specs.declared.rules.generated.production.TheConstants.{EXPR}
use Rattle.dslx_parser.specs.Syntax.Operators.{rules}
use Rattle.dslx_parser.specs.Spans.Places as things
use Rattle.dslx_parser.proofs.OnDepths.ChainUp.{chain_high}
use Rattle.dslx_parser.proofs.OnDepths.Fits.{AllKeep, none, ◌&◌}
use Rattle.dslx_parser.proofs.OnDepths.Nodes.{around_mark, behind_mark, both, earlier, expr_in, expr_in_mark, inner_plain, name_plain, reaches, same, spot_plain, type_in, type_plain, with_post}
use Rattle.dslx_parser.proofs.OnDepths.States.{deep}

pub keep : AllKeep EXPR rules
unfolding rules
keep =
    -- expr = operand operands
    (λ s _ parts (_, first, (_, links, _)). (refl, chain_high (deep s) parts.0 parts.1.0 first.fits links.fits)) &
    -- operands = binary operand operands
    (λ s _ parts (_, operator, (mid, operand, (_, more, _))). (refl, (mid, earlier (suc s.token_spans) operator.fits operand.fits, more.fits))) &
    -- operands = (nothing)
    (λ s _ parts k. (refl, same s.token_spans)) &
    -- binary = STAR
    (λ s _ parts k. (refl, same (suc s.token_spans))) &
    -- binary = SLASH
    (λ s _ parts k. (refl, same (suc s.token_spans))) &
    -- binary = PERCENT
    (λ s _ parts k. (refl, same (suc s.token_spans))) &
    -- binary = PLUS
    (λ s _ parts k. (refl, same (suc s.token_spans))) &
    -- binary = MINUS
    (λ s _ parts k. (refl, same (suc s.token_spans))) &
    -- binary = CONCAT
    (λ s _ parts k. (refl, same (suc s.token_spans))) &
    -- binary = SHL
    (λ s _ parts k. (refl, same (suc s.token_spans))) &
    -- binary = SHR
    (λ s _ parts k. (refl, same (suc s.token_spans))) &
    -- binary = AMP
    (λ s _ parts k. (refl, same (suc s.token_spans))) &
    -- binary = CARET
    (λ s _ parts k. (refl, same (suc s.token_spans))) &
    -- binary = PIPE
    (λ s _ parts k. (refl, same (suc s.token_spans))) &
    -- binary = EQ
    (λ s _ parts k. (refl, same (suc s.token_spans))) &
    -- binary = NE
    (λ s _ parts k. (refl, same (suc s.token_spans))) &
    -- binary = LT
    (λ s _ parts k. (refl, same (suc s.token_spans))) &
    -- binary = LE
    (λ s _ parts k. (refl, same (suc s.token_spans))) &
    -- binary = GT
    (λ s _ parts k. (refl, same (suc s.token_spans))) &
    -- binary = GE
    (λ s _ parts k. (refl, same (suc s.token_spans))) &
    -- binary = ANDAND
    (λ s _ parts k. (refl, same (suc s.token_spans))) &
    -- binary = OROR
    (λ s _ parts k. (refl, same (suc s.token_spans))) &
    -- operand = prefixed casts
    (λ s _ parts (_, operand, (_, casts, _)). (refl, casts.fits parts.0 s.token_spans operand.fits)) &
    -- prefixed = MINUS prefixed
    (λ s _ parts (_, operand, _). (refl, behind_mark s.token_spans (same (suc s.token_spans)) operand.fits (things.of_prefix _ _ _))) &
    -- prefixed = BANG prefixed
    (λ s _ parts (_, operand, _). (refl, behind_mark s.token_spans (same (suc s.token_spans)) operand.fits (things.of_prefix _ _ _))) &
    -- prefixed = atom posts
    (λ s _ parts (_, atom, (_, posts, _)). (refl, posts.fits parts.0 s.token_spans atom.fits)) &
    -- casts = cast casts
    (λ s _ parts (_, cast, (_, more, _)). (refl, λ o start r. more.fits (parts.0 o) start (cast.fits o start r))) &
    -- casts = (nothing)
    (λ s _ parts k. (refl, λ o start r. r)) &
    -- cast = AS type
    (λ s _ parts (_, ty, _). (refl, λ o start r. around_mark r (same (suc s.token_spans)) (type_plain (deep s) ty.fits) (things.of_cast _ _ _))) &
    -- posts = LBRACKET expr index_end posts
    (λ s _ parts (_, index, (_, post, (_, more, _))). (refl, λ o start r. more.fits (parts.1.1.0 parts.1.0 o) start (post.fits o parts.1.0 start s.token_spans (same (suc s.token_spans)) r (expr_in_mark s _ index.low index.fits)))) &
    -- posts = DOT part posts
    (λ s _ parts (_, post, (_, more, _)). (refl, λ o start r. more.fits (parts.1.0 o) start (post.fits o start s.token_spans (same (suc s.token_spans)) r))) &
    -- posts = (nothing)
    (λ s _ parts k. (refl, λ o start r. r)) &
    -- index_end = RBRACKET
    (λ s token_spans parts k. (refl, λ o index start mid mark r up. with_post token_spans r mark (inner_plain (deep s) up) (things.of_index _ _ _))) &
    -- index_end = COLON expr RBRACKET
    (λ s token_spans parts (_, end, _). (refl, λ o first start mid mark r up. with_post token_spans r mark (inner_plain (deep s) (both up (expr_in (record { token_spans = token_spans; outer = s.outer; heads = s.heads }) _ end.low end.fits))) (things.of_slice _ _ _ _))) &
    -- index_end = PLUSCOLON type RBRACKET
    (λ s token_spans parts (_, ty, _). (refl, λ o first start mid mark r up. with_post token_spans r mark (inner_plain (deep s) (both up (type_in (record { token_spans = token_spans; outer = s.outer; heads = s.heads }) _ ty.low ty.fits))) (things.of_part _ _ _ _))) &
    -- part = any_name
    (λ s _ parts (to, name, _). (refl, λ o start mid mark r. with_post to r (reaches (suc mid) s.token_spans to mark name.fits) (name_plain (deep s) parts.0) (things.of_field _ _ _))) &
    -- part = NUMBER
    (λ s _ parts k. (refl, λ o start mid mark r. with_post s.token_spans r mark (spot_plain (deep s) _) (things.of_element _ _ _ _))) &
    none
