-- What a scope of the code says of operands, and what it has seen.
use Rattle.ir_tree.specs.declared.rules.fitting.Scope.{Scope}
use Rattle.ir_tree.specs.declared.rules.lines.Seen.{Seen}
use Rattle.ir_tree.specs.Rules.Fitting.{Types}
use Rattle.ir_tree.specs.Rules.Lines as lines

abbrev pub types_of : Scope → Types
types_of scope = record { state = scope.state.now; before = scope.before.now; missing = scope.missing.now }

abbrev pub seen_by : Seen → lines.Seen
seen_by seen = record { after_all = seen.after_all; site = seen.site; received = seen.received.items; sent = seen.sent.items }
