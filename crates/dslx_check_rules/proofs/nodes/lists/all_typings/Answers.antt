use Rattle.std.proofs.Common.{take, arith, ◌<◌, ◌≤◌, length}
use Rattle.dslx_check_rules.specs.Nodes.Parts.{IsPlaced, Placed, judgements}
use Rattle.dslx_check_rules.specs.Nodes.Nodes.Lists.{IsList}
use Rattle.dslx_check_rules.proofs.Lemmas.Nodes.Lists.{all_pairs, next_pair}
use Rattle.dslx_check_rules.proofs.nodes.lists.all_typings.Goals as goal

pub parts-preserved : goal.parts-preserved
parts-preserved c = λ names rows later xs p.
    let within : c.parts.part-index < length c.args.parts.now = omega arith in
    next_pair (λ (x : Placed). x.judgement) (IsList c.and-all.result) (IsPlaced names rows later) c.args.parts.now xs c.parts.part-index _ p within
    (λ x is. c.and-all.ensures names rows later (take c.parts.part-index (judgements xs)) x.judgement (c.parts.invariant names rows later xs p) is.part)

pub returns : goal.returns
returns c = λ names rows later xs p.
    let past : length c.args.parts.now ≤ c.parts.part-index = omega arith in
    all_pairs (λ (x : Placed). x.judgement) (IsList c.parts.all) (IsPlaced names rows later) c.args.parts.now xs c.parts.part-index p past (c.parts.invariant names rows later xs p)
