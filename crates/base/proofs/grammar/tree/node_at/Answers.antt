use Rattle.std.proofs.Common.{◌∷◌, ◌+◌, ◌<◌, drop, length, sym, subst, arith}
use Rattle.std.proofs.lemmas.List.{drop_all}
use Rattle.base.specs.declared.grammar.table.Symbol.TheVariants.{Terminal, Nonterminal}
use Rattle.base.specs.Grammar.Syntax.{rules_of}
use Rattle.base.proofs.OnGrammar.Tested.{rule-number}
use Rattle.base.proofs.OnGrammar.Trees.{Walk, walk-start, walk-token, walk-node, walk-end, child-within, child-known, tokens-fit, token-fits, index-drop, walk-here}
use Rattle.base.proofs.grammar.tree.node_at.Goals as goal
use Rattle.base.proofs.grammar.tree.node_at.Goals.{in-Terminal, in-Nonterminal}

pub body-symbol-items-requires-clause-within : goal.body-symbol-items-requires-clause-within
body-symbol-items-requires-clause-within c =
    let lt = rule-number c.args.grammar.now c.requires.tree.number c.requires.tree.head c.requires.tree.body c.requires.tree.rule in
    let here = index-drop c.args.productions.now c.args.place c.requires.tree.number _ c.requires.tree.here in
    omega (arith, lt, here)

pub loop-symbol-init : goal.loop-symbol-init
loop-symbol-init c = walk-start (rules_of c.args.grammar.now) c.args.productions.now c.args.place _ _ c.requires.tree c.body-symbol-items.ensures.1

-- what the invariant says before a nonterminal
before : (c : goal.In-Nonterminal) → Walk (rules_of c.args.grammar.now) c.args.productions.now c.args.place (Nonterminal c.in-Nonterminal.field-0 ∷ drop (c.loop-symbol.symbol-index + 1) c.body-symbol-items.result.now) c.loop-symbol.node
before c =
    walk-here (rules_of c.args.grammar.now) c.args.productions.now c.args.place c.body-symbol-items.result.now c.loop-symbol.symbol-index _ (Nonterminal c.in-Nonterminal.field-0) c.loop-symbol.node c.loop-symbol.invariant c.loop-symbol-test.true c.in-Nonterminal.is

within : (c : goal.In-Nonterminal) → c.loop-symbol.node.end < length c.args.nodes.now
within c =
    let lt = child-within _ _ _ _ _ c.loop-symbol.node (before c) in
    let all = c.requires.nodes.all in
    omega (arith, lt, all)

pub bounds-nodes-node : goal.bounds-nodes-node
bounds-nodes-node c = within c

pub offset_bounds-nodes-node : goal.offset_bounds-nodes-node
offset_bounds-nodes-node c = let lt = within c in omega (arith, lt)

pub overflow_add-node-in-Nonterminal : goal.overflow_add-node-in-Nonterminal
overflow_add-node-in-Nonterminal c =
    let w = walk-here (rules_of c.args.grammar.now) c.args.productions.now c.args.place c.body-symbol-items.result.now c.loop-symbol.symbol-index _ (Nonterminal c.in-Nonterminal.field-0) c.loop-symbol.node c.loop-symbol.invariant c.loop-symbol-test.true c.in-Nonterminal.is in
    let fits = tokens-fit _ _ c.args.nodes.now _ _ _ c.loop-symbol.node.end c.loop-symbol.node.tokens (record { end = 0; tokens = 0 }) w c.requires.nodes in
    omega (arith, fits)

pub overflow_add-node-in-Terminal : goal.overflow_add-node-in-Terminal
overflow_add-node-in-Terminal c =
    let w = walk-here (rules_of c.args.grammar.now) c.args.productions.now c.args.place c.body-symbol-items.result.now c.loop-symbol.symbol-index _ (Terminal c.in-Terminal.field-0) c.loop-symbol.node c.loop-symbol.invariant c.loop-symbol-test.true c.in-Terminal.is in
    let fits = token-fits _ _ _ _ _ c.loop-symbol.node.end c.loop-symbol.node.tokens w in
    omega (arith, fits)

pub loop-symbol-preserved : goal.loop-symbol-preserved
loop-symbol-preserved c =
    elim c.match-symbol.branch [
      | in-Terminal w ↦
          let here = walk-here (rules_of c.args.grammar.now) c.args.productions.now c.args.place c.body-symbol-items.result.now c.loop-symbol.symbol-index _ (Terminal w.in-Terminal.field-0) c.loop-symbol.node c.loop-symbol.invariant c.loop-symbol-test.true w.in-Terminal.is in
          subst (Walk (rules_of c.args.grammar.now) c.args.productions.now c.args.place (drop (c.loop-symbol.symbol-index + 1) c.body-symbol-items.result.now)) (sym w.node-is)
          (walk-token (rules_of c.args.grammar.now) c.args.productions.now c.args.place w.in-Terminal.field-0 _ c.loop-symbol.node.end c.loop-symbol.node.tokens here)
      | in-Nonterminal w ↦
          let here = walk-here (rules_of c.args.grammar.now) c.args.productions.now c.args.place c.body-symbol-items.result.now c.loop-symbol.symbol-index _ (Nonterminal w.in-Nonterminal.field-0) c.loop-symbol.node c.loop-symbol.invariant c.loop-symbol-test.true w.in-Nonterminal.is in
          subst (Walk (rules_of c.args.grammar.now) c.args.productions.now c.args.place (drop (c.loop-symbol.symbol-index + 1) c.body-symbol-items.result.now)) (sym w.node-is)
          (walk-node (rules_of c.args.grammar.now) c.args.productions.now c.args.place w.in-Nonterminal.field-0 _ c.loop-symbol.node.end c.loop-symbol.node.tokens _ here
          (child-known (rules_of c.args.grammar.now) c.args.productions.now c.args.nodes.now c.args.place w.in-Nonterminal.field-0 _ c.loop-symbol.node _ here c.requires.nodes))
    ]

pub returns : goal.returns
returns c = walk-end _ _ _ _ (subst (λ s. Walk (rules_of c.args.grammar.now) c.args.productions.now c.args.place s c.loop-symbol.node) (drop_all c.loop-symbol.symbol-index c.body-symbol-items.result.now c.loop-symbol-test.false) c.loop-symbol.invariant)
