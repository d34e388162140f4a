use Rattle.std.proofs.Common.{◌∙◌, ◌∷◌, ◌++◌, [], ap, reverse}
use Rattle.std.proofs.lemmas.Bool.{OnTrue_at, OnFalse_at}
use Rattle.std.proofs.lemmas.List.{take_more}
use Rattle.base.specs.declared.grammar.table.Symbol.TheVariants.{Terminal}
use Rattle.base.proofs.OnGrammar.Stepping.{Stops, start-read, stops-at, first-fault, no-sentence, forced-at, read-more, reads-end, derivation-found, derivation-only}
use Rattle.base.proofs.grammar.parser.parse.Goals as goal

pub loop-place-init : goal.loop-place-init
loop-place-init c =
    start-read c.args.grammar.now c.args.kinds.now c.new-productions.result.items c.push.new.self.items c.push-2.new.self.items c.new-productions.ensures.items
    (c.in_ok-push.ensures.items ∙ ap (λ x. x ++ Terminal c.args.grammar.now.end ∷ []) c.new-stack.ensures.items) c.in_ok-push-2.ensures.items

stops : (c : goal.After-drop-stack-then-not-branch) → Stops c.args.grammar.now c.args.kinds.now c.loop-place.place c.truncate.new.self.items
stops c =
    stops-at c.args.grammar.now c.requires.valid c.args.kinds.now c.loop-place.place _ c.len-known.result (reverse c.loop-place.stack.items) c.loop-place.productions.items c.read.new.productions.items c.truncate.new.self.items c.loop-place.invariant
    (OnFalse_at c.if-not-branch.true c.in_ok-read.ensures.no) c.truncate.ensures.items (c.len-known.ensures ∙ c.loop-place.productions.ok.0) (take_more c.args.kinds.now c.loop-place.place 0 c.loop-place-test.true)

pub returns-then-not-branch-clause-only : goal.returns-then-not-branch-clause-only
returns-then-not-branch-clause-only c = λ ps d. absurd (no-sentence c.args.grammar.now c.args.kinds.now c.loop-place.place c.truncate.new.self.items (stops c) ps d)

pub returns-then-not-branch-clause-place : goal.returns-then-not-branch-clause-place
returns-then-not-branch-clause-place c = first-fault c.args.grammar.now c.requires.valid c.args.kinds.now c.loop-place.place c.truncate.new.self.items c.loop-place-test.true (stops c)

pub returns-then-not-branch-clause-so_far : goal.returns-then-not-branch-clause-so_far
returns-then-not-branch-clause-so_far c = let s = stops c in (s.stack, s.reads)

pub returns-then-not-branch-clause-forced : goal.returns-then-not-branch-clause-forced
returns-then-not-branch-clause-forced c = forced-at c.args.grammar.now c.requires.valid c.args.kinds.now c.loop-place.place c.truncate.new.self.items (stops c)

pub loop-place-preserved : goal.loop-place-preserved
loop-place-preserved c =
    read-more c.args.grammar.now c.args.kinds.now c.loop-place.place _ (reverse c.loop-place.stack.items) (reverse c.read.new.stack.items) c.loop-place.productions.items c.read.new.productions.items c.loop-place.invariant
    (OnTrue_at c.if-not-branch.false c.in_ok-read.ensures.yes) (take_more c.args.kinds.now c.loop-place.place 0 c.loop-place-test.true)

pub returns-clause-found : goal.returns-clause-found
returns-clause-found c =
    derivation-found c.args.grammar.now c.args.kinds.now c.loop-place.productions.items
    (reads-end c.args.grammar.now c.requires.valid c.args.kinds.now c.loop-place.productions.items c.loop-place.place (reverse c.loop-place.stack.items) c.requires.ended c.loop-place-test.false c.loop-place.invariant)

pub returns-clause-only : goal.returns-clause-only
returns-clause-only c =
    derivation-only c.args.grammar.now c.requires.valid c.args.kinds.now c.loop-place.productions.items
    (reads-end c.args.grammar.now c.requires.valid c.args.kinds.now c.loop-place.productions.items c.loop-place.place (reverse c.loop-place.stack.items) c.requires.ended c.loop-place-test.false c.loop-place.invariant)
