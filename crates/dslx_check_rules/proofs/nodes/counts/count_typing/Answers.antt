use Rattle.std.proofs.Common.{◌≡◌, ◌∙◌, ◌++◌, List, sym, ap, subst}
use Rattle.xb_span.specs.declared.fault.Fault.{Fault}
use Rattle.dslx_meaning.specs.Rules.ConstantRules.{count_faults, count_number, count_type_faults}
use Rattle.dslx_check_rules.specs.Interned.{HasRowIf, type_if}
use Rattle.dslx_check_rules.specs.Seen.{seen}
use Rattle.dslx_check_rules.specs.Nodes.Nodes.Counts.{above_zero, number_of}
use Rattle.dslx_check_rules.proofs.Lemmas.Nodes.Settled.{count_number_is}
use Rattle.dslx_check_rules.proofs.nodes.counts.count_typing.Goals as goal

pub returns : goal.returns
returns c = record {
  typed = λ names later distinct p x con.
      let n : c.number_of-number.result ≡ count_number x = c.number_of-number.ensures ∙ (λ i. number_of (con.untyped i) (con.value i)) ∙ count_number_is x in
      let first : List Fault = count_type_faults c.args.span x.judgement.ty in
      let second : List Fault = count_faults c.args.span (count_number x) in
      let same = c.with-typing.ensures.ty ∙ c.with-typed.ensures.ty in
      record {
        part = record {
          row = subst (HasRowIf c.args.types.now) (sym same) con.part.row;
          ty = ap (type_if names later) same ∙ con.part.ty;
          faults = c.with-typing.ensures.faults (x.judgement.faults ++ first) second
              (c.with-typed.ensures.faults x.judgement.faults first con.part.faults (c.odd_type-odd.ensures names later p con.part.row ∙ ap (λ t. seen (count_type_faults c.args.span t)) con.part.ty))
              (c.zero_faults-zero.ensures ∙ ap (λ k. seen (count_faults c.args.span k)) n);
          size = c.with-typing.ensures.size ∙ c.with-typed.ensures.size ∙ con.part.size;
        };
        count = c.above_zero-count.ensures ∙ ap above_zero n;
      };
}
