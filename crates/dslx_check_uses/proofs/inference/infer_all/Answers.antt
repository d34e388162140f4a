use Rattle.std.proofs.Common.{◌∙◌, ◌<◌, ◌≤◌, ◌+◌, ◌++◌, append_assoc, arith, drop, get_or, length, map, min, sym, ap}
use Rattle.std.proofs.lemmas.List.{append-nil}
use Rattle.dslx_meaning.specs.Rules.CallRules.{inferred_by, maybe_inferred}
use Rattle.dslx_check_rules.specs.Interned.{type_if}
use Rattle.dslx_check_uses.specs.Inferring.{name_lent, number_of}
use Rattle.dslx_check_uses.specs.Inner.Inferring.{inferred_if, maybe_if}
use Rattle.dslx_check_uses.proofs.OnInference.{maybe_ended, maybe_next, operand_next, operands_ended}
use Rattle.dslx_check_uses.proofs.inference.infer_all.Goals as goal

pub operands-preserved : goal.operands-preserved
operands-preserved c =
    let within : c.operands.i < length c.args.arguments.now = omega arith in
    let inside : c.operands.i < length c.args.operands.now = omega arith in
    let field = get_or c.args.arguments.now c.operands.i c.index-arguments-i.result in
    let at = ap (λ d. get_or c.args.arguments.now c.operands.i d) c.index-arguments-i.is in
    record {
      numbers = λ names later p.
          let rest = inferred_by (drop (c.operands.i + 1) c.args.arguments.now) (map (type_if names later) (drop (c.operands.i + 1) c.args.operands.now)) in
          ap (λ l. l ++ rest) (c.in_ok-infer_one.ensures.numbers names later p) ∙ append_assoc (map number_of c.operands.found.numbers.items) (inferred_if field.ty (type_if names later (get_or c.args.operands.now c.operands.i _))) rest
          ∙ ap (λ l. map number_of c.operands.found.numbers.items ++ l) (sym (operand_next c.args.arguments.now c.args.operands.now (type_if names later) c.operands.i field _ within inside at))
          ∙ c.operands.invariant.numbers names later p;
      maybe = λ names later.
          let rest = maybe_inferred (drop (c.operands.i + 1) c.args.arguments.now) (map (type_if names later) (drop (c.operands.i + 1) c.args.operands.now)) in
          ap (λ l. l ++ rest) (c.in_ok-infer_one.ensures.maybe names later) ∙ append_assoc (map name_lent c.operands.found.maybe.items) (maybe_if field.ty (type_if names later (get_or c.args.operands.now c.operands.i _))) rest
          ∙ ap (λ l. map name_lent c.operands.found.maybe.items ++ l) (sym (maybe_next c.args.arguments.now c.args.operands.now (type_if names later) c.operands.i field _ within inside at))
          ∙ c.operands.invariant.maybe names later;
    }

pub returns-clause-numbers : goal.returns-clause-numbers
returns-clause-numbers c = λ names later p.
    let past : min (length c.args.arguments.now) (length c.args.operands.now) ≤ c.operands.i = omega arith in
    sym (ap (λ xs. map number_of c.operands.found.numbers.items ++ xs) (operands_ended c.args.arguments.now c.args.operands.now (type_if names later) c.operands.i past) ∙ append-nil (map number_of c.operands.found.numbers.items))
    ∙ c.operands.invariant.numbers names later p

pub returns-clause-maybe : goal.returns-clause-maybe
returns-clause-maybe c = λ names later.
    let past : min (length c.args.arguments.now) (length c.args.operands.now) ≤ c.operands.i = omega arith in
    sym (ap (λ xs. map name_lent c.operands.found.maybe.items ++ xs) (maybe_ended c.args.arguments.now c.args.operands.now (type_if names later) c.operands.i past) ∙ append-nil (map name_lent c.operands.found.maybe.items))
    ∙ c.operands.invariant.maybe names later
