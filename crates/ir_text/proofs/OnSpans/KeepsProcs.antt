-- What the rules of procs, nodes and calls leave is what those of their symbols do.
use Rattle.std.proofs.Common.{[], ◌∷◌, drop, refl}
use Rattle.ir_builder.specs.Token.Rules.Ir.{ir}
use Rattle.ir_builder.specs.Token.Rules.Rules.{named_rules}
use Rattle.ir_text.proofs.OnSpans.Parts.{AllKeep, ◌&◌}
use Rattle.ir_text.proofs.OnSpans.Pieces.{call_of, here, in_tree, line_of, named_line, no_line, node_line, one_more_line, past_token, past_tree, proc_before, proc_parts, proc_taken}

pub keep : AllKeep 78 (drop 78 ir.rules) → AllKeep 59 (drop 59 ir.rules)
unfolding ir named_rules
keep rest =
    -- proc = proc_head nodes next RBRACE
    (λ own short _ p. record { part = record { key = record { name = p.4.name.bytes; nodes = p.5.4.keys }; at = record { head = p.4.span; nodes = p.5.4.spans; next = p.5.5.4.span; end = p.5.5.5.0.span.to }; is = record { head = p.0; nodes = p.5.0; next = p.5.5.0; brace = p.5.5.5.0; own_is = proc_parts p.2 p.5.2 p.5.5.2 p.5.5.5.2 p.5.5.5.4; head_line = p.4.is; node_lines = p.5.4.are; next_line = p.5.5.4.is; closes = p.5.5.5.3; ends = refl } }; is = λ v. proc_taken (proc_before p.4.name p.5.5.5.0 p.5.4.keys p.5.4.spans p.4.span p.5.5.4.span v) v.nodes v.node_spans short p.2 p.5.2 p.5.4.are refl refl }) &
    -- proc_head = PROC any_name LPAREN state COMMA init RPAREN LBRACE
    (λ _ _ tree p. record { part = record { name = p.4.4.0; span = _; is = named_line tree p.2 p.4.2 p.4.4.1 (past_token p.2 (past_tree p.4.2 (past_token p.4.5.2 (past_tree p.4.5.4.2 (past_token p.4.5.4.5.2 (past_tree p.4.5.4.5.4.2 (past_token p.4.5.4.5.4.5.2 (here p.4.5.4.5.4.5.4.2 p.4.5.4.5.4.5.4.4)))))))) }; is = λ _. refl }) &
    -- state = ST COLON type
    (λ _ _ _ _. record { part = tt; is = λ _. refl }) &
    -- init = INIT ASSIGN value
    (λ _ _ _ _. record { part = tt; is = λ _. refl }) &
    -- next = NEXT LPAREN operand RPAREN
    (λ _ _ tree p. record { part = record { span = _; is = line_of tree p.2 (past_token p.2 (past_token p.4.2 (past_tree p.4.4.2 (here p.4.4.5.2 p.4.4.5.4)))) }; is = λ _. refl }) &
    -- nodes = node nodes
    (λ _ _ _ p. record { part = record { keys = p.4.key ∷ p.5.4.keys; spans = p.4.span ∷ p.5.4.spans; are = one_more_line p.2 p.5.2 p.5.5 p.4.is p.5.4.are }; is = λ _. refl }) &
    -- nodes = (nothing)
    (λ _ _ _ nil. record { part = record { keys = []; spans = []; are = no_line nil }; is = λ _. refl }) &
    -- node = OPID COLON type ASSIGN call
    (λ _ _ tree p. record { part = record { key = _; span = _; is = node_line tree p.2 p.3 (past_token p.2 (past_token p.4.2 (past_tree p.4.4.2 (past_token p.4.4.5.2 (in_tree p.4.4.5.4.2 p.4.4.5.4.5 p.4.4.5.4.4.6))))) }; is = λ _. refl }) &
    -- operand = ST
    (λ _ _ _ _. record { part = tt; is = λ _. refl }) &
    -- operand = OPID
    (λ _ _ _ _. record { part = tt; is = λ _. refl }) &
    -- call = PLAIN LPAREN operands id
    (λ _ _ _ p. record { part = call_of p.0 p.4.0 p.4.4.5.4 (λ f end. past_token p.2 (past_token p.4.2 (past_tree p.4.4.2 (in_tree p.4.4.5.2 p.4.4.5.5 end)))); is = λ _. refl }) &
    -- call = SLICE LPAREN operands start width id
    (λ _ _ _ p. record { part = call_of p.0 p.4.0 p.4.4.5.5.5.4 (λ f end. past_token p.2 (past_token p.4.2 (past_tree p.4.4.2 (past_tree p.4.4.5.2 (past_tree p.4.4.5.5.2 (in_tree p.4.4.5.5.5.2 p.4.4.5.5.5.5 end)))))); is = λ _. refl }) &
    -- call = DYNAMIC LPAREN operands width id
    (λ _ _ _ p. record { part = call_of p.0 p.4.0 p.4.4.5.5.4 (λ f end. past_token p.2 (past_token p.4.2 (past_tree p.4.4.2 (past_tree p.4.4.5.2 (in_tree p.4.4.5.5.2 p.4.4.5.5.5 end))))); is = λ _. refl }) &
    -- call = EXTEND LPAREN operands count id
    (λ _ _ _ p. record { part = call_of p.0 p.4.0 p.4.4.5.5.4 (λ f end. past_token p.2 (past_token p.4.2 (past_tree p.4.4.2 (past_tree p.4.4.5.2 (in_tree p.4.4.5.5.2 p.4.4.5.5.5 end))))); is = λ _. refl }) &
    -- call = SEL LPAREN operands cases default id
    (λ _ _ _ p. record { part = call_of p.0 p.4.0 p.4.4.5.5.5.4 (λ f end. past_token p.2 (past_token p.4.2 (past_tree p.4.4.2 (past_tree p.4.4.5.2 (past_tree p.4.4.5.5.2 (in_tree p.4.4.5.5.5.2 p.4.4.5.5.5.5 end)))))); is = λ _. refl }) &
    -- call = TUPLEINDEX LPAREN operands index id
    (λ _ _ _ p. record { part = call_of p.0 p.4.0 p.4.4.5.5.4 (λ f end. past_token p.2 (past_token p.4.2 (past_tree p.4.4.2 (past_tree p.4.4.5.2 (in_tree p.4.4.5.5.2 p.4.4.5.5.5 end))))); is = λ _. refl }) &
    -- call = ARRAYAT LPAREN operands indices id
    (λ _ _ _ p. record { part = call_of p.0 p.4.0 p.4.4.5.5.4 (λ f end. past_token p.2 (past_token p.4.2 (past_tree p.4.4.2 (past_tree p.4.4.5.2 (in_tree p.4.4.5.5.2 p.4.4.5.5.5 end))))); is = λ _. refl }) &
    -- call = LITERAL LPAREN operands literal_value id
    (λ _ _ _ p. record { part = call_of p.0 p.4.0 p.4.4.5.5.4 (λ f end. past_token p.2 (past_token p.4.2 (past_tree p.4.4.2 (past_tree p.4.4.5.2 (in_tree p.4.4.5.5.2 p.4.4.5.5.5 end))))); is = λ _. refl }) &
    -- call = SITE LPAREN operands predicate site_channel id
    (λ _ _ _ p. record { part = call_of p.0 p.4.0 p.4.4.5.5.5.4 (λ f end. past_token p.2 (past_token p.4.2 (past_tree p.4.4.2 (past_tree p.4.4.5.2 (past_tree p.4.4.5.5.2 (in_tree p.4.4.5.5.5.2 p.4.4.5.5.5.5 end)))))); is = λ _. refl }) &
    rest
