use Rattle.std.proofs.Common.{◌≡◌, ◌++◌, drop, take}
use Rattle.ir_builder.specs.Token.Kinds.{no_context, settled_in}
use Rattle.ir_builder.proofs.token.lexer.settle.Given as goal

abbrev pub invariant-tokens : goal.invariant-tokens
invariant-tokens l =
    take l.token-index l.tokens ++ settled_in (record { last = l.last; second = l.second; node = l.node }) (drop l.token-index l.tokens)
    ≡ settled_in no_context l.initial.tokens
