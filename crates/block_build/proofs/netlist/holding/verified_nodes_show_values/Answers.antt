use Rattle.block_build.proofs.Lemmas.Netlist.Fitting.{verified_node_shows, verified_receive_shows, verified_send_shows, verified_site_is_on, verified_send_carries}
use Rattle.block_build.proofs.netlist.holding.verified_nodes_show_values.Goals as goal

pub returns-clause-pure : goal.returns-clause-pure
returns-clause-pure c = verified_node_shows

pub returns-clause-received : goal.returns-clause-received
returns-clause-received c = verified_receive_shows

pub returns-clause-token : goal.returns-clause-token
returns-clause-token c = verified_send_shows

pub returns-clause-on : goal.returns-clause-on
returns-clause-on c = verified_site_is_on

pub returns-clause-carried : goal.returns-clause-carried
returns-clause-carried c = verified_send_carries
