use Rattle.std.proofs.Common.{◌≡◌, ◌-◌, ◌++◌, reverse}
use Rattle.dslx_node_actions.proofs.OnExprs.OnOperators.Chains.{links_on, without_links}
use Rattle.dslx_node_actions.proofs.exprs.operators.chain.take_links.Given as goal

abbrev pub invariant-takes : goal.invariant-takes
invariant-takes l = record {
  links : links_on l.count l.initial.parts ≡ links_on (l.count - l.counter) l.parts ++ reverse l.links.items;
  rest : l.parts ≡ without_links l.counter l.initial.parts;
}
