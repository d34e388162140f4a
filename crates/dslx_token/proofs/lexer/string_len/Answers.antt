use Rattle.std.proofs.Common.{ap, ◌∙◌, sym, take, drop, length, ◌-◌}
use Rattle.std.proofs.lemmas.Bool.{both_ways}
use Rattle.std.proofs.lemmas.List.{take_rest}
use Rattle.base.specs.Texts.Words.{begins_word}
use Rattle.dslx_token.proofs.LongestTokens.{string_prefix, no_string}
use Rattle.dslx_token.proofs.lexer.string_len.Goals as goal
use Rattle.dslx_token.proofs.lexer.string_len.Goals.{else-begins_word-via-then-begins_word+else-byte_at-eq34, else-begins_word-via-else-begins_word}

pub returns-then-byte_at-eq34 : goal.returns-then-byte_at-eq34
returns-then-byte_at-eq34 c =
    string_prefix c.args.text.now (take (length c.args.text.now - 1) (drop 1 c.args.text.now)) c.word_len-len.result c.requires
    (take_rest c.args.text.now 1) c.word_len-len.ensures
    (ap begins_word (sym c.byte_at.ensures) ∙ sym c.begins_word.ensures ∙ c.if-begins_word.true)
    (sym c.byte_at-then-begins_word.ensures ∙ c.if-byte_at-eq34.true)

pub returns-else-begins_word : goal.returns-else-begins_word
returns-else-begins_word c =
    no_string c.args.text.now (take (length c.args.text.now - 1) (drop 1 c.args.text.now)) c.word_len-len.result c.requires
    (take_rest c.args.text.now 1) c.word_len-len.ensures
    (λ begins closes. elim c.else-begins_word.branch [
      | else-begins_word-via-then-begins_word+else-byte_at-eq34 w ↦ w.if-byte_at-eq34.false (w.byte_at-then-begins_word.ensures ∙ closes)
      | else-begins_word-via-else-begins_word w ↦ both_ways c.begins_word.result w.if-begins_word.false (c.begins_word.ensures ∙ ap begins_word c.byte_at.ensures ∙ begins)
    ])
