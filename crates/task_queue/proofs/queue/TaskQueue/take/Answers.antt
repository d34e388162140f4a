use Rattle.std.proofs.Common.{List, sym, subst, arith}
use Rattle.task_queue.specs.declared.lane.deque.Window.{Window}
use Rattle.task_queue.specs.Seats.{AreRights, AreWindows}
use Rattle.task_queue.proofs.OnPasses.{pass_keeps, same_keeps, stolen_keeps, stolen_taken, lanes_of, none_settled}
use Rattle.task_queue.proofs.queue.TaskQueue.take.Goals as goal

pub take_own-requires : goal.take_own-requires
take_own-requires g c = lanes_of c.args.self.now c.args.pass.now c.requires

pub returns-in-Some-clause-pass : goal.returns-in-Some-clause-pass
returns-in-Some-clause-pass g c =
    let keep = c.in-Some.ensures.keep c.args.self.now.windows.items in (
      pass_keeps c.args.self.now c.args.pass.now c.take_own.new.pass c.requires keep,
      same_keeps c.args.self.now c.args.pass.now c.take_own.new.pass keep c.in-Some.ensures.same.2,
    )

pub returns-in-Some-clause-put : goal.returns-in-Some-clause-put
returns-in-Some-clause-put g c h = (c.in-Some.ensures.keep c.args.self.now.windows.items).put h

pub returns-in-Some-clause-taken : goal.returns-in-Some-clause-taken
returns-in-Some-clause-taken g c = c.in-Some.ensures.taken

pub steal-requires-clause-windows : goal.steal-requires-clause-windows
steal-requires-clause-windows g c = subst (λ (ws : List (Window _ _)). AreWindows ws) (sym c.as_slice.ensures.value) c.requires.windows

pub steal-requires-clause-rights : goal.steal-requires-clause-rights
steal-requires-clause-rights g c =
    let same = c.in-None.ensures.same.1 in
    subst (λ (ws : List (Window _ _)). AreRights ws c.take_own.new.pass.first.rights.items) (sym c.as_slice.ensures.value) (subst (λ (v : _). AreRights c.args.self.now.windows.items v.items) (sym same) c.requires.seats_are.0.rights)

pub steal-requires-clause-number : goal.steal-requires-clause-number
steal-requires-clause-number g c = omega (arith, c.in-None.ensures.same.0, c.requires.seats_are.0.within, c.as_slice.ensures.len, c.args.self.now.windows.ok.0)

pub returns-in-None-clause-pass : goal.returns-in-None-clause-pass
returns-in-None-clause-pass g c =
    let own = c.in-None.ensures in
    let rights = subst (λ (ws : List (Window _ _)). AreRights ws c.steal.new.rights.items) c.as_slice.ensures.value c.steal.ensures.rights in
    let keep = stolen_keeps g.T.Numbered.number_of g.T.Numbered.run_of g.T.Numbered.fact c.args.self.now c.args.pass.now c.take_own.new.pass c.steal.new.rights (own.keep c.args.self.now.windows.items) own.same.1 own.same.0 own.taken rights c.steal.result c.steal.ensures.stolen in (
      pass_keeps c.args.self.now c.args.pass.now _ c.requires keep,
      same_keeps c.args.self.now c.args.pass.now _ keep own.same.2,
    )

pub returns-in-None-clause-put : goal.returns-in-None-clause-put
returns-in-None-clause-put g c h =
    let own = c.in-None.ensures in
    let rights = subst (λ (ws : List (Window _ _)). AreRights ws c.steal.new.rights.items) c.as_slice.ensures.value c.steal.ensures.rights in
    (stolen_keeps g.T.Numbered.number_of g.T.Numbered.run_of g.T.Numbered.fact c.args.self.now c.args.pass.now c.take_own.new.pass c.steal.new.rights (own.keep c.args.self.now.windows.items) own.same.1 own.same.0 own.taken rights c.steal.result c.steal.ensures.stolen).put h

pub returns-in-None-clause-taken : goal.returns-in-None-clause-taken
returns-in-None-clause-taken g c =
    let own = c.in-None.ensures in
    let rights = subst (λ (ws : List (Window _ _)). AreRights ws c.steal.new.rights.items) c.as_slice.ensures.value c.steal.ensures.rights in
    stolen_taken g.T.Numbered.number_of g.T.Numbered.run_of g.T.Numbered.fact c.args.self.now c.args.pass.now c.take_own.new.pass c.steal.new.rights (own.keep c.args.self.now.windows.items) own.same.1 own.same.0 own.taken rights c.steal.result c.steal.ensures.stolen

pub returns-in-None-clause-all : goal.returns-in-None-clause-all
returns-in-None-clause-all g c =
    let own = c.in-None.ensures in
    let rights = subst (λ (ws : List (Window _ _)). AreRights ws c.steal.new.rights.items) c.as_slice.ensures.value c.steal.ensures.rights in
    none_settled g.T.Numbered.number_of g.T.Numbered.run_of g.T.Numbered.fact c.args.self.now c.args.pass.now c.take_own.new.pass c.steal.new.rights (own.keep c.args.self.now.windows.items) own.same.1 own.same.0 own.taken rights c.requires c.steal.result c.steal.ensures.stolen
