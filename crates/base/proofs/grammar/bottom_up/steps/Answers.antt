use Rattle.std.proofs.Common.{◌∙◌, ◌++◌, ◌∷◌, [], rules, ap, arith}
use Rattle.base.specs.declared.grammar.table.Symbol.TheVariants.{Terminal}
use Rattle.base.specs.declared.grammar.bottom_up.Task.TheVariants.{Visit}
use Rattle.std.proofs.lemmas.List.{length-map}
use Rattle.base.specs.Grammar.Syntax.{rule_of, syntax_of}
use Rattle.base.proofs.OnGrammar.Building.{goes-start, goes-shift, goes-reduce, goes-next, goes-expand, less-expand}
use Rattle.base.proofs.grammar.bottom_up.steps.Goals as goal

pub loop-task-init : goal.loop-task-init
loop-task-init c =
    goes-start (syntax_of c.args.grammar.now) c.args.productions.now c.requires.derivation c.push.new.self.items c.push-2.new.self.items c.new-steps.result.items
    (c.in_ok-push.ensures.items ∙ ap (λ x. x ++ Visit (Terminal c.args.grammar.now.end) ∷ []) c.new-tasks.ensures.items) c.in_ok-push-2.ensures.items c.new-steps.ensures.items

pub loop-task-preserved-in-Continue-branch-3 : goal.loop-task-preserved-in-Continue-branch-3
loop-task-preserved-in-Continue-branch-3 c =
    goes-shift (syntax_of c.args.grammar.now) c.args.productions.now _ _ _ _ _ _ _ _ c.loop-task.invariant c.in-Some.ensures.items c.in-Visit.is c.in-Terminal.is c.in_ok-push-in-Terminal.ensures.items

pub loop-task-preserved : goal.loop-task-preserved
loop-task-preserved c =
    goes-reduce (syntax_of c.args.grammar.now) c.args.productions.now _ _ _ _ _ _ _ c.loop-task.invariant c.in-Some.ensures.items c.in-Reduce.is c.in_ok-push-in-Reduce.ensures.items

pub bounds-productions-next : goal.bounds-productions-next
bounds-productions-next c = (goes-next (syntax_of c.args.grammar.now) c.args.productions.now _ c.pop.new.self.items _ _ c.in-Nonterminal.field-0 c.loop-task.next c.loop-task.steps.items c.loop-task.invariant c.in-Some.ensures.items c.in-Visit.is c.in-Nonterminal.is).within

pub offset_bounds-productions-next : goal.offset_bounds-productions-next
offset_bounds-productions-next c = let w = (goes-next (syntax_of c.args.grammar.now) c.args.productions.now _ c.pop.new.self.items _ _ c.in-Nonterminal.field-0 c.loop-task.next c.loop-task.steps.items c.loop-task.invariant c.in-Some.ensures.items c.in-Visit.is c.in-Nonterminal.is).within in search (rules, w)

pub overflow_add-next : goal.overflow_add-next
overflow_add-next c = let w = (goes-next (syntax_of c.args.grammar.now) c.args.productions.now _ c.pop.new.self.items _ _ c.in-Nonterminal.field-0 c.loop-task.next c.loop-task.steps.items c.loop-task.invariant c.in-Some.ensures.items c.in-Visit.is c.in-Nonterminal.is).within in search (rules, w)

pub body-requires-clause-within : goal.body-requires-clause-within
body-requires-clause-within c =
    let l = (goes-next (syntax_of c.args.grammar.now) c.args.productions.now _ c.pop.new.self.items _ _ c.in-Nonterminal.field-0 c.loop-task.next c.loop-task.steps.items c.loop-task.invariant c.in-Some.ensures.items c.in-Visit.is c.in-Nonterminal.is).listed in
    let e = length-map c.args.grammar.now.productions.now (rule_of c.args.grammar.now.symbols.now) in
    omega (arith, l, e)

pub loop-task-smaller-in-Continue-branch-5 : goal.loop-task-smaller-in-Continue-branch-5
loop-task-smaller-in-Continue-branch-5 c =
    less-expand (syntax_of c.args.grammar.now) c.args.productions.now _ _ _ _ _ _ _ _ (c.body.ensures.0, c.body.result.now, c.body.ensures.1) (goes-next (syntax_of c.args.grammar.now) c.args.productions.now _ c.pop.new.self.items _ _ c.in-Nonterminal.field-0 c.loop-task.next c.loop-task.steps.items c.loop-task.invariant c.in-Some.ensures.items c.in-Visit.is c.in-Nonterminal.is) c.in-Some.ensures.items c.in_ok-push-in-Nonterminal.ensures.items c.in_ok-push_visits-in-Nonterminal.ensures

pub loop-task-preserved-in-Continue-branch-5 : goal.loop-task-preserved-in-Continue-branch-5
loop-task-preserved-in-Continue-branch-5 c =
    goes-expand (syntax_of c.args.grammar.now) c.args.productions.now _ _ _ _ _ _ (c.body.ensures.0, c.body.result.now, c.body.ensures.1) (goes-next (syntax_of c.args.grammar.now) c.args.productions.now _ c.pop.new.self.items _ _ c.in-Nonterminal.field-0 c.loop-task.next c.loop-task.steps.items c.loop-task.invariant c.in-Some.ensures.items c.in-Visit.is c.in-Nonterminal.is) c.in_ok-push-in-Nonterminal.ensures.items c.in_ok-push_visits-in-Nonterminal.ensures
