use Rattle.std.proofs.Common.{refl, sym, subst, rules}
use Rattle.block_stage.specs.Machine.Circuits.{IsLawful}
use Rattle.block_stage.proofs.OnMachine.Circuits.{lawful}
use Rattle.block_stage.proofs.OnMachine.Tables.{right_circuit}
use Rattle.block_stage.proofs.machine.logic.pipeline_logic.Goals as goal

pub returns : goal.returns
returns c = subst IsLawful (sym (right_circuit _ (record {
  off = refl;
  receive = refl;
  received = refl;
  send = refl;
  sent = refl;
  leaves = λ full stall. (search (rules, c.of.ensures full stall));
  frees = λ next_full next_moves. (search (rules, c.of-2.ensures next_full next_moves));
  full_next = λ comes full moves. (search (rules, c.of-3.ensures comes full moves));
  turn_next = λ ends turn moves. (search (rules, c.of-4.ensures ends turn moves));
  done_next = λ done goes moves. (search (rules, c.of-5.ensures done goes moves));
  keeps = λ goes there. (search (rules, c.of-6.ensures goes there));
}))) lawful
