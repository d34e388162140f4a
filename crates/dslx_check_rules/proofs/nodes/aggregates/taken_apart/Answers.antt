use Rattle.std.proofs.Common.{◌≡◌, ◌∙◌, ◌<◌, arith, false, sym, ap, subst}
use Rattle.dslx_meaning.specs.Rules.TypeEnvs.{Judgement}
use Rattle.dslx_check_rules.specs.Nodes.Nodes.Aggregates.{is_tuple_if}
use Rattle.dslx_check_rules.specs.Nodes.Parts.{IsPart}
use Rattle.dslx_check_rules.proofs.Lemmas.Nodes.Settled.{apart_by}
use Rattle.dslx_check_rules.proofs.nodes.aggregates.taken_apart.Goals.{else-place-lt2-via-then-place-lt2+else-is_some_tuple, else-place-lt2-via-else-place-lt2}
use Rattle.dslx_check_rules.proofs.nodes.aggregates.taken_apart.Goals as goal

pub returns-else-place-lt2 : goal.returns-else-place-lt2
returns-else-place-lt2 c = record {
  typed = λ names later distinct p x part.
      let other : c.args.place < 2 → is_tuple_if x.ty ≡ false = elim c.else-place-lt2.branch [
        | else-place-lt2-via-then-place-lt2+else-is_some_tuple w ↦ λ l. sym (ap is_tuple_if part.ty) ∙ sym (w.is_some_tuple.ensures names later p part.row) ∙ w.if-is_some_tuple.false
        | else-place-lt2-via-else-place-lt2 w ↦ λ l. absurd (omega arith)
      ] in
      subst (λ (y : Judgement). IsPart names c.args.types.now later c.no_token.result y) (sym (apart_by c.args.place c.args.at x other))
      (c.no_token.ensures.typed names later distinct p x part);
}
