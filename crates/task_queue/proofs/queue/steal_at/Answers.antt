use Rattle.std.proofs.Common.{Some, refl, ap, ◌∙◌, arith}
use Rattle.std.proofs.lemmas.Option.{slice_get_read}
use Rattle.task_queue.proofs.OnPasses.{rights_changed, told_at}
use Rattle.task_queue.proofs.queue.steal_at.Goals as goal

pub steal_by-requires-clause-window : goal.steal_by-requires-clause-window
steal_by-requires-clause-window g c =
    let window = slice_get_read c.args.windows.now _ c.args.k c.index-windows-k.result refl c.requires.within c.index-windows-k.is in
    c.requires.windows c.args.k c.index-windows-k.result window

pub steal_by-requires-clause-right : goal.steal_by-requires-clause-right
steal_by-requires-clause-right g c thief e =
    let window = slice_get_read c.args.windows.now _ c.args.k c.index-windows-k.result refl c.requires.within c.index-windows-k.is in
    let right = slice_get_read c.args.rights.now.items _ c.args.k c.index_mut.result.now refl (omega (arith, c.requires.rights.count, c.requires.within)) c.index_mut.ensures.value in
    c.requires.rights.each c.args.k thief c.index-windows-k.result (right ∙ ap Some e) window

pub returns-clause-rights : goal.returns-clause-rights
returns-clause-rights g c =
    let window = slice_get_read c.args.windows.now _ c.args.k c.index-windows-k.result refl c.requires.within c.index-windows-k.is in
    rights_changed c.args.windows.now c.args.rights.now.items c.args.k c.index-windows-k.result _ c.requires.rights window c.steal_by.ensures.right

pub returns-clause-stolen : goal.returns-clause-stolen
returns-clause-stolen g c =
    let right = slice_get_read c.args.rights.now.items _ c.args.k c.index_mut.result.now refl (omega (arith, c.requires.rights.count, c.requires.within)) c.index_mut.ensures.value in
    told_at g.T.Numbered.number_of g.T.Numbered.run_of g.T.Numbered.fact c.args.rights.now.items c.args.k c.index_mut.result.now _ right c.steal_by.result c.steal_by.ensures.stolen
