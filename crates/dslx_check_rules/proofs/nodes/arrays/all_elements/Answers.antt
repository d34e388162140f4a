use Rattle.std.proofs.Common.{map, take, arith, ◌<◌, ◌≤◌, length}
use Rattle.dslx_meaning.specs.Rules.TypeEnvs.{Judgement}
use Rattle.dslx_check_rules.specs.Interned.{type_if}
use Rattle.dslx_check_rules.specs.Nodes.Nodes.Lists.{IsList}
use Rattle.dslx_check_rules.specs.Nodes.Nodes.Arrays.{ElementSeen, IsElement, element_seen}
use Rattle.dslx_check_rules.proofs.Lemmas.Nodes.Lists.{all_pairs, next_pair}
use Rattle.dslx_check_rules.proofs.nodes.arrays.all_elements.Goals as goal

pub elements-preserved : goal.elements-preserved
elements-preserved c = λ names later xs distinct p row parts.
    let within : c.elements.element-index < length c.args.elements.now = omega arith in
    let f : ElementSeen → Judgement = element_seen (type_if names later c.args.part) in
    next_pair f (IsList c.and-all.result) (IsElement names c.args.types.now later) c.args.elements.now xs c.elements.element-index _ parts within
    (λ x is. c.and-all.ensures names c.args.types.now later (take c.elements.element-index (map f xs)) (f x) (c.elements.invariant names later xs distinct p row parts)
    (c.element_typing-next.ensures names later x distinct p row is))

pub returns : goal.returns
returns c = λ names later xs distinct p row parts.
    let past : length c.args.elements.now ≤ c.elements.element-index = omega arith in
    all_pairs (element_seen (type_if names later c.args.part)) (IsList c.elements.all) (IsElement names c.args.types.now later) c.args.elements.now xs c.elements.element-index parts past
    (c.elements.invariant names later xs distinct p row parts)
