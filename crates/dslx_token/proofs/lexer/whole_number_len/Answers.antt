use Rattle.std.proofs.Common.{rules, ap, ◌∙◌, sym, subst, ◌<◌, ◌^◌}
use Rattle.std.proofs.lemmas.Bool.{both_ways}
use Rattle.std.specs.Prelude.{slice_index}
use Rattle.std.specs.Char.{is_ascii_alphabetic}
use Rattle.dslx_token.specs.Lexical.{number_value}
use Rattle.dslx_token.proofs.LongestTokens.{bad_number, none_means}
use Rattle.dslx_token.proofs.lexer.whole_number_len.Goals as goal
use Rattle.dslx_token.proofs.lexer.whole_number_len.Goals.{then-is_ascii_alphabetic-via-then-is_ascii_alphabetic, then-is_ascii_alphabetic-via-else-is_ascii_alphabetic+then-is_none}

pub returns-then-is_ascii_alphabetic : goal.returns-then-is_ascii_alphabetic
returns-then-is_ascii_alphabetic c =
    bad_number c.args.text.now c.number_len-len.result c.requires c.number_len-len.ensures
    (λ no_letter in_range. elim c.then-is_ascii_alphabetic.branch [
      | then-is_ascii_alphabetic-via-then-is_ascii_alphabetic w ↦
          both_ways c.is_ascii_alphabetic.result (c.is_ascii_alphabetic.ensures.value ∙ ap is_ascii_alphabetic c.byte_at.ensures ∙ ap (λ t. is_ascii_alphabetic (slice_index t 0)) c.split_at.ensures.back ∙ no_letter) w.if-is_ascii_alphabetic.true
      | then-is_ascii_alphabetic-via-else-is_ascii_alphabetic+then-is_none w ↦
          none_means w.number_value.result (number_value c.split_at.result.0.now < 2 ^ 128) (number_value c.split_at.result.0.now) w.number_value.ensures (search rules)
          (subst (λ t. number_value t < 2 ^ 128) (sym c.split_at.ensures.front) in_range)
    ])
