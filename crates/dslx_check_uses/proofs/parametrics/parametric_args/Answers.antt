use Rattle.std.proofs.Common.{◌∙◌, ◌<◌, ◌≤◌, arith, length, map}
use Rattle.dslx_check_uses.specs.Inferring.{name_lent, number_of}
use Rattle.dslx_check_facts.proofs.Lemmas.Walks.{grows_trans}
use Rattle.dslx_check_uses.proofs.OnArguments.{cut_off, upto_all, upto_next, upto_none}
use Rattle.dslx_check_uses.proofs.parametrics.parametric_args.Goals as goal

pub parametrics-init : goal.parametrics-init
parametrics-init c = upto_none c.args.given.now c.new-seen.ensures

pub parametrics-preserved : goal.parametrics-preserved
parametrics-preserved c =
    let within : c.parametrics.i < length c.args.parametrics.now = omega arith in
    upto_next c.args.given.now c.parametrics.i c.index-parametrics-i.result within c.index-parametrics-i.is c.parametrics.invariant _ c.given_at-argument.ensures c.in_ok-value.ensures c.in_ok-put.ensures

pub returns : goal.returns
returns c =
    let past : length c.args.parametrics.now ≤ c.parametrics.i = omega arith in
    upto_all c.args.given.now c.parametrics.i past c.parametrics.invariant

pub returns-then-now-missing : goal.returns-then-now-missing
returns-then-now-missing c =
    let next = c.in_ok-value.ensures in
    let upto = c.parametrics.invariant in
    cut_off c.args.parametrics.now c.args.given.now (map number_of c.args.found.now.numbers.items) (map name_lent c.args.found.now.maybe.items) c.missing_count-missing.result c.missing_count-now.result (grows_trans _ _ _ upto.grows next.grows) (next.reached ∙ upto.reached) c.missing_count-missing.ensures c.missing_count-now.ensures (λ e. let none : ⊥ = omega (arith, e, c.if-now-missing.true) in none)
