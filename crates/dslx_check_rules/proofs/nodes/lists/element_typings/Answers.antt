use Rattle.std.proofs.Common.{map, take, arith, ◌<◌, ◌≤◌, length, subst}
use Rattle.xb_span.specs.declared.span.Span.{Span}
use Rattle.dslx_check_rules.specs.Nodes.Parts.{IsPart, IsPlaced}
use Rattle.dslx_check_rules.specs.Nodes.Nodes.Lists.{IsList, element_of}
use Rattle.dslx_check_rules.specs.Nodes.Nodes.Written.{inside}
use Rattle.dslx_check_rules.proofs.Lemmas.Nodes.Lists.{all_pairs, next_pair}
use Rattle.dslx_check_rules.proofs.nodes.lists.element_typings.Goals as goal

pub parts-preserved : goal.parts-preserved
parts-preserved c = λ names later xs distinct q p.
    let within : c.parts.part-index < length c.args.parts.now = omega arith in
    next_pair element_of (IsList c.and-all.result) (IsPlaced names c.args.types.now later) c.args.parts.now xs c.parts.part-index _ p within
    (λ x is. c.and-all.ensures names c.args.types.now later (take c.parts.part-index (map element_of xs)) (element_of x) (c.parts.invariant names later xs distinct q p)
    (subst (λ (at : Span). IsPart names c.args.types.now later c.inner_type-element.result (inside at x.judgement)) is.span (c.inner_type-element.ensures.typed names later distinct q x.judgement is.part)))

pub returns : goal.returns
returns c = λ names later xs distinct q p.
    let past : length c.args.parts.now ≤ c.parts.part-index = omega arith in
    all_pairs element_of (IsList c.parts.all) (IsPlaced names c.args.types.now later) c.args.parts.now xs c.parts.part-index p past (c.parts.invariant names later xs distinct q p)
