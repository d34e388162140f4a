-- What the rules of what stands in calls leave is what those of their symbols do.
use Rattle.std.proofs.Common.{◌+◌, min, drop, refl}
use Rattle.ir_builder.specs.Token.Rules.Ir.{ir}
use Rattle.ir_builder.specs.Token.Rules.Rules.{named_rules}
use Rattle.ir_text.proofs.OnSpans.Parts.{AllKeep, no_rule, ◌&◌}
use Rattle.ir_text.proofs.OnSpans.Pieces.{here, past_token}

pub keep : AllKeep 78 (drop 78 ir.rules)
unfolding ir named_rules
keep =
    -- operands = operand COMMA operands
    (λ _ _ _ p. record { part = min (p.5.4.4 + 1) 18446744073709551615; is = λ _. refl }) &
    -- operands = (nothing)
    (λ _ _ _ _. record { part = 0; is = λ _. refl }) &
    -- id = ID ASSIGN OWN RPAREN
    (λ _ _ _ p. record { part = (p.0, p.4.0, p.4.4.0, p.4.4.4.0, past_token p.2 (past_token p.4.2 (past_token p.4.4.2 (here p.4.4.4.2 p.4.4.4.4)))); is = λ _. refl }) &
    -- start = START ASSIGN number COMMA
    (λ _ _ _ _. record { part = tt; is = λ _. refl }) &
    -- width = WIDTH ASSIGN number COMMA
    (λ _ _ _ _. record { part = tt; is = λ _. refl }) &
    -- count = COUNT ASSIGN number COMMA
    (λ _ _ _ _. record { part = tt; is = λ _. refl }) &
    -- index = INDEX ASSIGN number COMMA
    (λ _ _ _ _. record { part = tt; is = λ _. refl }) &
    -- literal_value = VALUE ASSIGN value COMMA
    (λ _ _ _ _. record { part = tt; is = λ _. refl }) &
    -- site_channel = CHANNEL ASSIGN any_name COMMA
    (λ _ _ _ _. record { part = tt; is = λ _. refl }) &
    -- predicate = PREDICATE ASSIGN operand COMMA
    (λ _ _ _ _. record { part = tt; is = λ _. refl }) &
    -- predicate = (nothing)
    (λ _ _ _ _. record { part = tt; is = λ _. refl }) &
    -- default = DEFAULT ASSIGN operand COMMA
    (λ _ _ _ _. record { part = tt; is = λ _. refl }) &
    -- default = (nothing)
    (λ _ _ _ _. record { part = tt; is = λ _. refl }) &
    -- indices = INDICES ASSIGN LBRACKET operand RBRACKET COMMA
    (λ _ _ _ _. record { part = tt; is = λ _. refl }) &
    -- cases = CASES ASSIGN LBRACKET case_list RBRACKET COMMA
    (λ _ _ _ p. record { part = p.4.4.4.4; is = λ _. refl }) &
    -- case_list = operand case_more
    (λ _ _ _ p. record { part = min (p.5.4 + 1) 18446744073709551615; is = λ _. refl }) &
    -- case_list = (nothing)
    (λ _ _ _ _. record { part = 0; is = λ _. refl }) &
    -- case_more = COMMA operand case_more
    (λ _ _ _ p. record { part = min (p.4.5.4 + 1) 18446744073709551615; is = λ _. refl }) &
    -- case_more = (nothing)
    (λ _ _ _ _. record { part = 0; is = λ _. refl }) &
    no_rule
