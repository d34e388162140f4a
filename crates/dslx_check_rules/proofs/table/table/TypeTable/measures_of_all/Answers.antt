use Rattle.std.proofs.Common.{◌<◌, ◌≤◌, length, map, drop, ap, ◌∙◌, arith, ◌+◌}
use Rattle.std.specs.List.{fold}
use Rattle.dslx_check_rules.specs.Measures.{measures_of}
use Rattle.dslx_check_rules.specs.Inner.Measured.{joined}
use Rattle.dslx_check_rules.specs.Interned.{type_at}
use Rattle.dslx_check_rules.specs.declared.table.measures.TypeMeasures.{TypeMeasures}
use Rattle.dslx_check_rules.specs.declared.table.row.TypeId.{TypeId}
use Rattle.dslx_check_rules.proofs.OnTable.Sums.{at_end, one_more}
use Rattle.dslx_check_rules.proofs.table.table.TypeTable.measures_of_all.Goals as goal

pub parts-preserved : goal.parts-preserved
parts-preserved c = λ names.
    let f : TypeId → TypeMeasures = λ p. measures_of (type_at names c.args.self.now p) in
    let within : c.parts.part-index < length c.args.parts.now = omega arith in
    ap (λ m. fold joined m (map f (drop (c.parts.part-index + 1) c.args.parts.now))) c.joined-all.ensures
    ∙ one_more f c.args.parts.now c.parts.part-index _ c.parts.all c.measures-own.result within (c.measures-own.ensures names) (c.parts.invariant names)

pub returns : goal.returns
returns c = λ names.
    let past : length c.args.parts.now ≤ c.parts.part-index = omega arith in
    at_end (λ p. measures_of (type_at names c.args.self.now p)) c.args.parts.now c.parts.part-index c.parts.all past (c.parts.invariant names)
