-- What the rules of packages, their channels and procs in turn, names and numbers leave is what those of their symbols do.
use Rattle.std.proofs.Common.{[], ◌∷◌, ◌++◌, drop, refl, ◌∙◌}
use Rattle.ir_builder.specs.Token.Rules.Ir.{ir}
use Rattle.ir_builder.specs.Token.Rules.Rules.{named_rules}
use Rattle.ir_text.specs.Parser.Spans.Lines as spans
use Rattle.ir_text.proofs.OnSpans.Parts.{AllKeep, ◌&◌}
use Rattle.ir_text.proofs.OnSpans.Pieces.{alone, no_line, one_more_line, only, package_line, package_parts}

pub keep : AllKeep 36 (drop 36 ir.rules) → AllKeep 0 (drop 0 ir.rules)
unfolding ir named_rules
keep rest =
    -- package = PACKAGE any_name channels proc procs
    (λ _ _ _ p. record { part = record { line = p.0 ∷ p.4.0; channels = p.4.5.0; procs = p.4.5.5.0 ++ p.4.5.5.5.0; name = p.4.4.0; span = _; names = p.4.5.4.names; spans = p.4.5.4.spans; keys = p.4.5.5.4.key ∷ p.4.5.5.5.4.keys; ats = p.4.5.5.4.at ∷ p.4.5.5.5.4.ats; own_is = package_parts p.2 p.4.2 p.4.5.2 p.4.5.5.2 p.4.5.5.5.2 p.4.5.5.5.5; line_is = package_line p.3 p.4.3 p.4.4.1; channels_are = p.4.5.4.are; procs_are = spans.more p.4.5.5.4.is p.4.5.5.5.4.are }; is = λ _. refl }) &
    -- procs = proc procs
    (λ _ _ _ p. record { part = record { keys = p.4.key ∷ p.5.4.keys; ats = p.4.at ∷ p.5.4.ats; are = one_more_line p.2 p.5.2 p.5.5 p.4.is p.5.4.are }; is = λ _. refl }) &
    -- procs = (nothing)
    (λ _ _ _ nil. record { part = record { keys = []; ats = []; are = no_line nil }; is = λ _. refl }) &
    -- channels = channel channels
    (λ _ _ _ p. record { part = record { names = p.4.name ∷ p.5.4.names; spans = p.4.span ∷ p.5.4.spans; are = one_more_line p.2 p.5.2 p.5.5 p.4.is p.5.4.are }; is = λ _. refl }) &
    -- channels = (nothing)
    (λ _ _ _ nil. record { part = record { names = []; spans = []; are = no_line nil }; is = λ _. refl }) &
    -- any_name = NAME
    (λ _ _ _ p. record { part = (p.0, alone p.2 p.4); is = λ _. refl }) &
    -- any_name = OPID
    (λ _ _ _ p. record { part = (p.0, alone p.2 p.4); is = λ _. refl }) &
    -- any_name = SITE
    (λ _ _ _ p. record { part = (p.0, alone p.2 p.4); is = λ _. refl }) &
    -- any_name = head_word
    (λ _ _ _ p. record { part = (p.4.0, only p.2 p.5 ∙ p.4.1); is = λ _. refl }) &
    -- any_name = attribute_word
    (λ _ _ _ p. record { part = (p.4.0, only p.2 p.5 ∙ p.4.1); is = λ _. refl }) &
    -- head_word = PACKAGE
    (λ _ _ _ p. record { part = (p.0, alone p.2 p.4); is = λ _. refl }) &
    -- head_word = CHAN
    (λ _ _ _ p. record { part = (p.0, alone p.2 p.4); is = λ _. refl }) &
    -- head_word = PROC
    (λ _ _ _ p. record { part = (p.0, alone p.2 p.4); is = λ _. refl }) &
    -- head_word = ST
    (λ _ _ _ p. record { part = (p.0, alone p.2 p.4); is = λ _. refl }) &
    -- head_word = INIT
    (λ _ _ _ p. record { part = (p.0, alone p.2 p.4); is = λ _. refl }) &
    -- head_word = NEXT
    (λ _ _ _ p. record { part = (p.0, alone p.2 p.4); is = λ _. refl }) &
    -- head_word = ID
    (λ _ _ _ p. record { part = (p.0, alone p.2 p.4); is = λ _. refl }) &
    -- head_word = KIND
    (λ _ _ _ p. record { part = (p.0, alone p.2 p.4); is = λ _. refl }) &
    -- head_word = INPUT
    (λ _ _ _ p. record { part = (p.0, alone p.2 p.4); is = λ _. refl }) &
    -- head_word = OUTPUT
    (λ _ _ _ p. record { part = (p.0, alone p.2 p.4); is = λ _. refl }) &
    -- head_word = INNER
    (λ _ _ _ p. record { part = (p.0, alone p.2 p.4); is = λ _. refl }) &
    -- head_word = DEPTH
    (λ _ _ _ p. record { part = (p.0, alone p.2 p.4); is = λ _. refl }) &
    -- head_word = BITS
    (λ _ _ _ p. record { part = (p.0, alone p.2 p.4); is = λ _. refl }) &
    -- head_word = TOKEN
    (λ _ _ _ p. record { part = (p.0, alone p.2 p.4); is = λ _. refl }) &
    -- attribute_word = PREDICATE
    (λ _ _ _ p. record { part = (p.0, alone p.2 p.4); is = λ _. refl }) &
    -- attribute_word = CHANNEL
    (λ _ _ _ p. record { part = (p.0, alone p.2 p.4); is = λ _. refl }) &
    -- attribute_word = CASES
    (λ _ _ _ p. record { part = (p.0, alone p.2 p.4); is = λ _. refl }) &
    -- attribute_word = DEFAULT
    (λ _ _ _ p. record { part = (p.0, alone p.2 p.4); is = λ _. refl }) &
    -- attribute_word = INDICES
    (λ _ _ _ p. record { part = (p.0, alone p.2 p.4); is = λ _. refl }) &
    -- attribute_word = INDEX
    (λ _ _ _ p. record { part = (p.0, alone p.2 p.4); is = λ _. refl }) &
    -- attribute_word = START
    (λ _ _ _ p. record { part = (p.0, alone p.2 p.4); is = λ _. refl }) &
    -- attribute_word = WIDTH
    (λ _ _ _ p. record { part = (p.0, alone p.2 p.4); is = λ _. refl }) &
    -- attribute_word = COUNT
    (λ _ _ _ p. record { part = (p.0, alone p.2 p.4); is = λ _. refl }) &
    -- attribute_word = VALUE
    (λ _ _ _ p. record { part = (p.0, alone p.2 p.4); is = λ _. refl }) &
    -- number = SMALL
    (λ _ _ _ _. record { part = tt; is = λ _. refl }) &
    -- number = LARGE
    (λ _ _ _ _. record { part = tt; is = λ _. refl }) &
    rest
