use Rattle.std.proofs.Common.{◌∙◌, [], take, arith, sym, ap, subst}
use Rattle.dslx_check_facts.specs.Walks.{shown}
use Rattle.dslx_check_declarations.specs.Names.{AreBefore}
use Rattle.dslx_check_declarations.proofs.Lemmas.Listed.{names_behind, names_next, take_all, take_next}
use Rattle.dslx_check_judge.specs.Instances.Inner.Bodies.{JudgesEnds}
use Rattle.dslx_check_judge.proofs.OnInstances.OnChannels.{end_name, no_ends, one_end}
use Rattle.dslx_check_judge.proofs.instances.channels.ends_seen.Goals as goal

pub ends-init : goal.ends-init
ends-init c = record {
  walked = no_ends c.none-faults.ensures c.new-all.ensures.items;
  names = c.new-before.ensures;
}

pub ends-preserved : goal.ends-preserved
ends-preserved c =
    let es = c.args.ends.now in
    let i = c.ends.end-index in
    let x = c.end-item.result in
    let before = names_behind end_name [] (take i es) in
    let next = take_next es i x (omega arith) c.end-item.is in
    record {
      walked = subst (JudgesEnds c.args.f.now c.args.s.now c.channel_type.new.s (shown c.args.w.now) (shown c.channel_type.new.w) (record { faults = c.and-faults.result; ends = c.push.new.self })) (sym next)
          (one_end c.named_end-own.result (take i es) x c.ends.invariant.walked (λ known later context agrees same. c.local_name-name.ensures known later context before agrees same (c.has-is_before.ensures before c.ends.invariant.names))
          c.in_ok-word.ensures c.and.ensures c.and-faults.ensures c.named_end-own.ensures c.in_ok-push.ensures.items);
      names = subst (AreBefore c.put.new.self) (sym (names_next end_name [] (take i es) x) ∙ ap (names_behind end_name []) (sym next)) (c.in_ok-put.ensures before c.ends.invariant.names);
    }

pub returns : goal.returns
returns c = subst (JudgesEnds c.args.f.now c.args.s.now c.ends.s (shown c.args.w.now) (shown c.ends.w) (record { faults = c.ends.faults; ends = c.ends.all })) (take_all c.args.ends.now c.ends.end-index (omega arith)) c.ends.invariant.walked
