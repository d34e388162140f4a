use Rattle.std.proofs.Common.{◌≡◌, ◌∙◌, ap, arith, take, length, []}
use Rattle.std.proofs.lemmas.Grind.{common_steps}
use Rattle.dslx_token.specs.Blank.{after_blank}
use Rattle.dslx_token.specs.Tokens.{offset_of}
use Rattle.vlog_text.specs.Token.Tokens.{verilog_lexeme_at}
use Rattle.vlog_text.proofs.OnToken.CutsSoFar.{none_so_far, one_more_so_far, all_so_far, odd_so_far, behind_token_lt}
use Rattle.vlog_text.proofs.OnToken.PrefixFacts.{none_of, some_of}
use Rattle.vlog_text.proofs.token.lexer.found_tokens.Goals as goal

pub text-init : goal.text-init
text-init c = rw c.new-tokens.ensures.items (none_so_far c.args.text.now c.skip_blank-rest.result.now c.skip_blank-rest.ensures)

pub returns-in_default-clause-refused : goal.returns-in_default-clause-refused
returns-in_default-clause-refused c =
    odd_so_far c.args.text.now c.text.tokens.items c.text.rest.now c.text.invariant (λ e. grind (arith, common_steps))
    (none_of c.text.rest.now c.in_ok-len.field-0 (c.in_ok-len.ensures {u = tt}) c.in_default.is)

pub text-smaller : goal.text-smaller
text-smaller c =
    let found = some_of c.text.rest.now c.in_ok-len.field-0 c.in-Some.len (c.in_ok-len.ensures {u = tt}) c.in-Some.is in
    behind_token_lt c.in-Some.len c.text.rest.now c.skip_blank-rest-in-text.result.now found.some found.within (c.skip_blank-rest-in-text.ensures ∙ ap after_blank c.split_at.ensures.back)

pub text-preserved : goal.text-preserved
text-preserved c =
    let found = some_of c.text.rest.now c.in_ok-len.field-0 c.in-Some.len (c.in_ok-len.ensures {u = tt}) c.in-Some.is in
    let token : c.new.result ≡ verilog_lexeme_at (offset_of c.args.text.now c.text.rest.now) (take c.in-Some.len c.text.rest.now) =
    c.new.ensures ∙ ap (verilog_lexeme_at (offset_of c.args.text.now c.text.rest.now)) c.split_at.ensures.front in
    rw (c.in_ok-push.ensures {u = tt}).items (rw token (one_more_so_far c.args.text.now c.text.tokens.items c.text.rest.now c.skip_blank-rest-in-text.result.now c.in-Some.len
    c.text.invariant (λ e. grind (arith, common_steps)) found.front
    (c.skip_blank-rest-in-text.ensures ∙ ap after_blank c.split_at.ensures.back)))

pub returns-clause-found : goal.returns-clause-found
returns-clause-found c =
    let empty : c.text.rest.now ≡ [] = grind (arith, common_steps) in
    let token : c.new-2.result ≡ verilog_lexeme_at (length c.args.text.now) [] = c.new-2.ensures ∙ ap (verilog_lexeme_at (length c.args.text.now)) empty in
    rw (c.in_ok-push-2.ensures {u = tt}).items (rw token (all_so_far c.args.text.now c.text.tokens.items c.text.rest.now c.text.invariant empty))
