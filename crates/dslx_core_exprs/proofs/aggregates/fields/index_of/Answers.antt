use Rattle.std.proofs.Common.{◌≡◌, ◌<◌, length, true, false, sym, ap, ◌∙◌, arith}
use Rattle.std.specs.Str.{bytes_eq}
use Rattle.dslx_core_exprs.proofs.OnAggregates.ListLemmas.{found_at, passed_at}
use Rattle.dslx_core_exprs.proofs.aggregates.fields.index_of.Goals as goal

pub returns-then-eq : goal.returns-then-eq
returns-then-eq c =
    let within : c.names.i < length c.args.names.now = omega arith in
    let same : bytes_eq c.args.name.now c.index-names-i.result ≡ true = ap (bytes_eq c.args.name.now) (sym c.as_str.ensures) ∙ sym c.eq.ensures ∙ c.if-eq.true in
    sym (found_at c.args.name.now c.args.names.now c.names.i c.index-names-i.result within c.index-names-i.is same) ∙ c.names.invariant

pub names-preserved : goal.names-preserved
names-preserved c =
    let within : c.names.i < length c.args.names.now = omega arith in
    let other : bytes_eq c.args.name.now c.index-names-i.result ≡ false = ap (bytes_eq c.args.name.now) (sym c.as_str.ensures) ∙ sym c.eq.ensures ∙ c.if-eq.false in
    sym (passed_at c.args.name.now c.args.names.now c.names.i c.index-names-i.result within c.index-names-i.is other) ∙ c.names.invariant
