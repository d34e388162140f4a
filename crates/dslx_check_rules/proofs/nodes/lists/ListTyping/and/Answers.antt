use Rattle.std.proofs.Common.{◌∙◌, ◌&&◌, sym, ap}
use Rattle.dslx_meaning.specs.Rules.TypeEnvs.{faults_of_all, size_of_all}
use Rattle.dslx_check_rules.specs.Seen.{capped, seen}
use Rattle.dslx_check_rules.specs.Interned.{type_at}
use Rattle.dslx_check_rules.proofs.Lemmas.Nodes.Lists.{faults_next, size_next, some_alike, typed_next}
use Rattle.dslx_check_rules.proofs.nodes.lists.ListTyping.and.Goals as goal

pub returns : goal.returns
returns c = λ names rows later js j all part. record {
  faults = c.and.ensures (faults_of_all js) j.faults all.faults part.faults ∙ ap seen (sym (faults_next js j));
  size = c.plus_size.ensures (size_of_all js) j.size all.size part.size ∙ ap capped (sym (size_next js j));
  typed = c.both.ensures ∙ (λ i. all.typed i && (c.is_some.ensures ∙ some_alike (type_at names later) c.args.next.ty j.ty part.ty) i) ∙ sym (typed_next js j);
}
