use Rattle.std.proofs.Common.{◌≡◌, ◌∙◌, ap, arith, take, length, []}
use Rattle.std.proofs.lemmas.Grind.{common_steps}
use Rattle.dslx_token.specs.Blank.{after_blank}
use Rattle.dslx_token.specs.Tokens.{offset_of}
use Rattle.ir_builder.specs.Token.Tokens.{ir_lexeme_at}
use Rattle.ir_builder.proofs.OnToken.CutsSoFar.{none_so_far, one_more_so_far, all_so_far, odd_so_far, behind_token_lt}
use Rattle.ir_builder.proofs.token.lexer.plain_tokens.Goals as goal

pub text-init : goal.text-init
text-init c = rw c.new-tokens.ensures.items (none_so_far c.args.text.now c.skip_blank-rest.result.now c.skip_blank-rest.ensures)

pub returns-in_default-clause-refused : goal.returns-in_default-clause-refused
returns-in_default-clause-refused c =
    odd_so_far c.args.text.now c.text.tokens.items c.text.rest.now c.text.invariant (λ e. grind (arith, common_steps)) c.in_default.ensures

pub text-smaller : goal.text-smaller
text-smaller c = behind_token_lt c.in-Some.len c.text.rest.now c.skip_blank-rest-in-text.result.now c.in-Some.ensures.some c.in-Some.ensures.within (c.skip_blank-rest-in-text.ensures ∙ ap after_blank c.split_at.ensures.back)

pub text-preserved : goal.text-preserved
text-preserved c =
    let token : c.plain.result ≡ ir_lexeme_at (offset_of c.args.text.now c.text.rest.now) (take c.in-Some.len c.text.rest.now) =
    c.plain.ensures ∙ ap (ir_lexeme_at (offset_of c.args.text.now c.text.rest.now)) c.split_at.ensures.front in
    rw (c.in_ok-push.ensures {u = tt}).items (rw token (one_more_so_far c.args.text.now c.text.tokens.items c.text.rest.now c.skip_blank-rest-in-text.result.now c.in-Some.len
    c.text.invariant (λ e. grind (arith, common_steps)) c.in-Some.ensures.front
    (c.skip_blank-rest-in-text.ensures ∙ ap after_blank c.split_at.ensures.back)))

pub returns-clause-found : goal.returns-clause-found
returns-clause-found c =
    let empty : c.text.rest.now ≡ [] = grind (arith, common_steps) in
    let token : c.plain-2.result ≡ ir_lexeme_at (length c.args.text.now) [] = c.plain-2.ensures ∙ ap (ir_lexeme_at (length c.args.text.now)) empty in
    rw (c.in_ok-push-2.ensures {u = tt}).items (rw token (all_so_far c.args.text.now c.text.tokens.items c.text.rest.now c.text.invariant empty))
