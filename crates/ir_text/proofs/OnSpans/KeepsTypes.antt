-- What the rules of channels, types and values leave is what those of their symbols do.
use Rattle.std.proofs.Common.{◌+◌, min, drop, refl}
use Rattle.ir_builder.specs.Token.Rules.Ir.{ir}
use Rattle.ir_builder.specs.Token.Rules.Rules.{named_rules}
use Rattle.ir_text.proofs.OnSpans.Parts.{AllKeep, ◌&◌}
use Rattle.ir_text.proofs.OnSpans.Pieces.{here, named_line, past_token, past_tree}

pub keep : AllKeep 59 (drop 59 ir.rules) → AllKeep 36 (drop 36 ir.rules)
unfolding ir named_rules
keep rest =
    -- channel = CHAN any_name LPAREN type COMMA channel_id channel_kind RPAREN
    (λ _ _ tree p. record { part = record { name = p.4.4.0.bytes; span = _; is = named_line tree p.2 p.4.2 p.4.4.1 (past_token p.2 (past_tree p.4.2 (past_token p.4.5.2 (past_tree p.4.5.4.2 (past_token p.4.5.4.5.2 (past_tree p.4.5.4.5.4.2 (past_tree p.4.5.4.5.4.5.2 (here p.4.5.4.5.4.5.5.2 p.4.5.4.5.4.5.5.4)))))))) }; is = λ _. refl }) &
    -- channel_id = ID ASSIGN SMALL COMMA
    (λ _ _ _ _. record { part = tt; is = λ _. refl }) &
    -- channel_kind = KIND ASSIGN kind
    (λ _ _ _ _. record { part = tt; is = λ _. refl }) &
    -- kind = INPUT
    (λ _ _ _ _. record { part = tt; is = λ _. refl }) &
    -- kind = OUTPUT
    (λ _ _ _ _. record { part = tt; is = λ _. refl }) &
    -- kind = INNER COMMA DEPTH ASSIGN number
    (λ _ _ _ _. record { part = tt; is = λ _. refl }) &
    -- type = element sizes
    (λ _ _ _ _. record { part = tt; is = λ _. refl }) &
    -- element = BITS LBRACKET number RBRACKET
    (λ _ _ _ _. record { part = tt; is = λ _. refl }) &
    -- element = TOKEN
    (λ _ _ _ _. record { part = tt; is = λ _. refl }) &
    -- element = LPAREN types RPAREN
    (λ _ _ _ _. record { part = tt; is = λ _. refl }) &
    -- sizes = LBRACKET number RBRACKET sizes
    (λ _ _ _ p. record { part = min (p.4.5.4.4 + 1) 18446744073709551615; is = λ _. refl }) &
    -- sizes = (nothing)
    (λ _ _ _ _. record { part = 0; is = λ _. refl }) &
    -- types = type types_more
    (λ _ _ _ p. record { part = min (p.5.4 + 1) 18446744073709551615; is = λ _. refl }) &
    -- types = (nothing)
    (λ _ _ _ _. record { part = 0; is = λ _. refl }) &
    -- types_more = COMMA type types_more
    (λ _ _ _ p. record { part = min (p.4.5.4 + 1) 18446744073709551615; is = λ _. refl }) &
    -- types_more = (nothing)
    (λ _ _ _ _. record { part = 0; is = λ _. refl }) &
    -- value = number
    (λ _ _ _ _. record { part = tt; is = λ _. refl }) &
    -- value = LPAREN values RPAREN
    (λ _ _ _ _. record { part = tt; is = λ _. refl }) &
    -- value = LBRACKET values RBRACKET
    (λ _ _ _ _. record { part = tt; is = λ _. refl }) &
    -- values = value values_more
    (λ _ _ _ p. record { part = min (p.5.4 + 1) 18446744073709551615; is = λ _. refl }) &
    -- values = (nothing)
    (λ _ _ _ _. record { part = 0; is = λ _. refl }) &
    -- values_more = COMMA value values_more
    (λ _ _ _ p. record { part = min (p.4.5.4 + 1) 18446744073709551615; is = λ _. refl }) &
    -- values_more = (nothing)
    (λ _ _ _ _. record { part = 0; is = λ _. refl }) &
    rest
