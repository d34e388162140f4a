use Rattle.std.proofs.Common.{rules, arith, ap, ◌∙◌}
use Rattle.std.proofs.lemmas.List.{take_rest}
use Rattle.std.specs.List.{prefix_len}
use Rattle.dslx_token.specs.Inner.TokenPrefixes.{goes_on_hexadecimal, goes_on_binary}
use Rattle.dslx_token.proofs.LongestTokens.{hexadecimal_prefix, binary_prefix, decimal_prefix, prefixed_fits}
use Rattle.dslx_token.proofs.number.number_len.Goals as goal

pub overflow_add-result : goal.overflow_add-result
overflow_add-result c = let fits = prefixed_fits goes_on_hexadecimal c.args.text.now c.hexadecimal_len.result (search rules) (search rules) (c.hexadecimal_len.ensures ∙ ap (prefix_len goes_on_hexadecimal) (take_rest c.args.text.now 2)) in omega arith

pub returns-then-begins_hexadecimal : goal.returns-then-begins_hexadecimal
returns-then-begins_hexadecimal c = hexadecimal_prefix c.args.text.now c.hexadecimal_len.result (c.begins_hexadecimal.ensures.0 (search rules)) (c.hexadecimal_len.ensures ∙ ap (prefix_len goes_on_hexadecimal) (take_rest c.args.text.now 2))

pub overflow_add-result-then-begins_binary : goal.overflow_add-result-then-begins_binary
overflow_add-result-then-begins_binary c = let fits = prefixed_fits goes_on_binary c.args.text.now c.binary_len.result (search rules) (search rules) (c.binary_len.ensures ∙ ap (prefix_len goes_on_binary) (take_rest c.args.text.now 2)) in omega arith

pub returns-then-begins_binary : goal.returns-then-begins_binary
returns-then-begins_binary c = binary_prefix c.args.text.now c.binary_len.result (c.begins_binary.ensures.0 (search rules)) (c.binary_len.ensures ∙ ap (prefix_len goes_on_binary) (take_rest c.args.text.now 2))

pub returns-else-begins_binary : goal.returns-else-begins_binary
returns-else-begins_binary c = decimal_prefix c.args.text.now c.decimal_len.result c.requires (λ h. let yes = c.begins_hexadecimal.ensures.1 h in search rules) (λ h. let yes = c.begins_binary.ensures.1 h in search rules) c.decimal_len.ensures
