use Rattle.std.proofs.Common.{refl, sym, ap, ◌∙◌, arith}
use Rattle.task_queue.specs.Lane.Handles.{window_deque}
use Rattle.task_queue.proofs.OnMaking.{more_windows, window_last}
use Rattle.task_queue.proofs.making.open_seat.Goals as goal

pub returns-clause-seat : goal.returns-clause-seat
returns-clause-seat g c =
    let made = c.in_ok-lane.ensures in
    let grown = more_windows c.args.windows.now.items c.push.new.self.items c.in_ok-lane.window c.args.number c.requires.1 made.1 c.requires.0 c.in_ok-push.ensures.items in (
      record {
        lane = made.0;
        within = omega (arith, grown.length_is);
        at = λ w e. sym made.2 ∙ ap window_deque (window_last c.args.windows.now.items c.push.new.self.items c.in_ok-lane.window w c.args.number c.requires.0 c.in_ok-push.ensures.items e);
        knows = made.3;
        room_is = made.4;
        none = c.in_ok-rights.ensures;
      },
      refl,
    )

pub returns-clause-windows : goal.returns-clause-windows
returns-clause-windows g c =
    more_windows c.args.windows.now.items c.push.new.self.items c.in_ok-lane.window c.args.number c.requires.1 c.in_ok-lane.ensures.1 c.requires.0 c.in_ok-push.ensures.items
