use Rattle.std.proofs.Common.{◌≡◌, ◌∙◌, List, map, take, arith, ◌<◌, ◌≤◌, length, sym, ap}
use Rattle.xb_span.specs.declared.fault.Fault.{Fault}
use Rattle.dslx_meaning.specs.Rules.AggregateRules.{wanted_faults}
use Rattle.dslx_check_rules.specs.Seen.{seen}
use Rattle.dslx_check_rules.specs.Interned.{type_if}
use Rattle.dslx_check_rules.specs.Nodes.Parts.{IsPlaced, Placed}
use Rattle.dslx_check_rules.specs.Nodes.Nodes.Lists.{all_faults}
use Rattle.dslx_check_rules.proofs.Lemmas.Nodes.Lists.{all_faults_next, all_pairs, next_pair}
use Rattle.dslx_check_rules.proofs.nodes.arrays.unlike_faults.Goals as goal

pub parts-preserved : goal.parts-preserved
parts-preserved c = λ names later xs distinct p row parts.
    let within : c.parts.part-index < length c.args.parts.now = omega arith in
    let f : Placed → List Fault = λ (x : Placed). wanted_faults x.span (type_if names later c.args.ty) x.judgement.ty in
    next_pair f (λ (fss : List (List Fault)). c.and-faults.result ≡ seen (all_faults fss)) (IsPlaced names c.args.types.now later) c.args.parts.now xs c.parts.part-index _ parts within
    (λ x is. c.and-faults.ensures (all_faults (take c.parts.part-index (map f xs))) (f x) (c.parts.invariant names later xs distinct p row parts)
    (c.wanted_faults-own.ensures names later distinct p row is.part.row ∙ (λ i. seen (wanted_faults (is.span i) (type_if names later c.args.ty) (is.part.ty i))))
    ∙ ap seen (sym (all_faults_next (take c.parts.part-index (map f xs)) (f x))))

pub returns : goal.returns
returns c = λ names later xs distinct p row parts.
    let past : length c.args.parts.now ≤ c.parts.part-index = omega arith in
    all_pairs (λ (x : Placed). wanted_faults x.span (type_if names later c.args.ty) x.judgement.ty) (λ (fss : List (List Fault)). c.parts.faults ≡ seen (all_faults fss))
    (IsPlaced names c.args.types.now later) c.args.parts.now xs c.parts.part-index parts past (c.parts.invariant names later xs distinct p row parts)
