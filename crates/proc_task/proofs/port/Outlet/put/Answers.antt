use Rattle.std.proofs.Common.{refl, ap, length, arith, ◌∷◌, []}
use Rattle.std.proofs.lemmas.List.{length-append}
use Rattle.proc_task.proofs.Rights.{outlet_of, outlet_sent}
use Rattle.proc_task.proofs.port.Outlet.put.Goals as goal

pub returns-in_err-reserve-clause-outlet : goal.returns-in_err-reserve-clause-outlet
returns-in_err-reserve-clause-outlet g c = outlet_of _ _ c.args.self.now _ refl (ap length c.reserve.ensures.items) refl c.requires.outlet

pub send-landed-requires-clause-outlet : goal.send-landed-requires-clause-outlet
send-landed-requires-clause-outlet g c = outlet_of _ _ c.args.self.now _ refl (ap length c.reserve.ensures.items) refl c.requires.outlet

pub returns-then-landed-clause-outlet : goal.returns-then-landed-clause-outlet
returns-then-landed-clause-outlet g c =
    outlet_sent _ _ c.send-landed.new.self _ refl (omega (arith, ap length c.push_reserved.ensures.items, length-append c.send-landed.new.self.words.items (c.args.word ∷ []))) refl c.if-landed.ensures.sent.1
