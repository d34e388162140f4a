use Rattle.dslx_token.specs.Inner.Names.{has_name}
use Rattle.dslx_token.specs.Kinds.{heads_callable, heads_struct, heads_type}
use Rattle.dslx_token.proofs.NameSets.{one_noted, all_noted}
use Rattle.dslx_token.proofs.declared.Declared.by.Goals as goal

pub loop-token-preserved : goal.loop-token-preserved
loop-token-preserved c = record {
  types = λ q. one_noted heads_type c.loop-token.before c.kind-before.result c.loop-token.token-index c.args.tokens.now c.token-item.result c.bytes.result.now q (has_name c.loop-token.declared.types q) (has_name c.note.new.self.types q) c.loop-token-test.true c.token-item.is c.kind-before.ensures.kind c.bytes.ensures ((c.in_ok-note.ensures {u = tt}).types q) (c.loop-token.invariant.types q);
  callables = λ q. one_noted heads_callable c.loop-token.before c.kind-before.result c.loop-token.token-index c.args.tokens.now c.token-item.result c.bytes.result.now q (has_name c.loop-token.declared.callables q) (has_name c.note.new.self.callables q) c.loop-token-test.true c.token-item.is c.kind-before.ensures.kind c.bytes.ensures ((c.in_ok-note.ensures {u = tt}).callables q) (c.loop-token.invariant.callables q);
  structs = λ q. one_noted heads_struct c.loop-token.before c.kind-before.result c.loop-token.token-index c.args.tokens.now c.token-item.result c.bytes.result.now q (has_name c.loop-token.declared.structs q) (has_name c.note.new.self.structs q) c.loop-token-test.true c.token-item.is c.kind-before.ensures.kind c.bytes.ensures ((c.in_ok-note.ensures {u = tt}).structs q) (c.loop-token.invariant.structs q);
}

pub returns-clause-types : goal.returns-clause-types
returns-clause-types c = λ q. all_noted heads_type c.loop-token.before c.loop-token.token-index c.args.tokens.now q (has_name c.loop-token.declared.types q) c.loop-token-test.false (c.loop-token.invariant.types q)

pub returns-clause-callables : goal.returns-clause-callables
returns-clause-callables c = λ q. all_noted heads_callable c.loop-token.before c.loop-token.token-index c.args.tokens.now q (has_name c.loop-token.declared.callables q) c.loop-token-test.false (c.loop-token.invariant.callables q)

pub returns-clause-structs : goal.returns-clause-structs
returns-clause-structs c = λ q. all_noted heads_struct c.loop-token.before c.loop-token.token-index c.args.tokens.now q (has_name c.loop-token.declared.structs q) c.loop-token-test.false (c.loop-token.invariant.structs q)
