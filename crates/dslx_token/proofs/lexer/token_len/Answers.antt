use Rattle.std.proofs.Common.{ap, ◌∙◌, sym, ◌≡◌, true}
use Rattle.std.specs.Prelude.{slice_index}
use Rattle.std.specs.Char.{is_ascii_digit}
use Rattle.base.specs.Texts.Words.{begins_word}
use Rattle.dslx_token.proofs.LongestTokens.{word_prefix, prefix_stands, found_stands, mark_stands, word_no_digit, quote_no_digit}
use Rattle.dslx_token.proofs.lexer.token_len.Goals as goal

pub returns-then-begins_word : goal.returns-then-begins_word
returns-then-begins_word c =
    let begins : begins_word (slice_index c.args.text.now 0) ≡ true = ap begins_word (sym c.byte_at-first.ensures) ∙ sym c.begins_word.ensures ∙ c.if-begins_word.true in
    prefix_stands c.args.text.now c.word_len.result (word_no_digit (slice_index c.args.text.now 0) begins) (word_prefix c.args.text.now c.word_len.result begins c.word_len.ensures)

pub returns-then-first-eq34 : goal.returns-then-first-eq34
returns-then-first-eq34 c =
    found_stands c.args.text.now c.string_len.result (quote_no_digit (slice_index c.args.text.now 0) (sym c.byte_at-first.ensures ∙ c.if-first-eq34.true)) c.string_len.ensures

pub returns-else-first-eq34 : goal.returns-else-first-eq34
returns-else-first-eq34 c =
    mark_stands c.args.text.now c.first_mark.result (record {
      no_word = ap begins_word (sym c.byte_at-first.ensures) ∙ sym c.begins_word.ensures ∙ c.if-begins_word.false;
      no_digit = ap is_ascii_digit (sym c.byte_at-first.ensures) ∙ sym c.is_ascii_digit.ensures.value ∙ c.if-is_ascii_digit.false;
      no_quote = λ e. c.if-first-eq34.false (c.byte_at-first.ensures ∙ e);
    }) c.first_mark.ensures
