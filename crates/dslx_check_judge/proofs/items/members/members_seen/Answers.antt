use Rattle.std.proofs.Common.{◌≡◌, ◌∙◌, [], ◌∷◌, arith, sym, ap, subst, take}
use Rattle.dslx_check_declarations.specs.Names.{AreBefore}
use Rattle.dslx_check_declarations.proofs.Lemmas.Listed.{names_behind, names_next, take_next}
use Rattle.dslx_check_judge.specs.Items.Lists.{IsValueAs}
use Rattle.dslx_check_judge.proofs.Lemmas.Items.OnLists.{typed_all, typed_next, typed_none, value_stays}
use Rattle.dslx_check_judge.proofs.OnItems.OnMembers as list
use Rattle.dslx_check_judge.proofs.items.members.members_seen.Goals as goal

pub members-init : goal.members-init
members-init c = record { walked = typed_none list.members IsValueAs c.args.base c.args.members.now c.none-faults.ensures c.new-values.ensures.items; names = c.new-before.ensures }

pub members-preserved : goal.members-preserved
members-preserved c =
    let x = c.index-members-i.result in
    let i = c.members.i in
    let members = c.args.members.now in
    let before = names_behind list.member_name [] (take i members) in
    record {
      walked = typed_next list.members IsValueAs value_stays c.args.base members i x (omega arith) c.index-members-i.is c.in_ok-push.ensures.items (λ t env. c.listed_name-named.ensures before (c.has-is_before.ensures before c.members.invariant.names))
          c.and-one.ensures c.and-faults.ensures c.members.invariant.walked c.in_ok-own.ensures;
      names = subst (AreBefore c.put.new.self) (sym (names_next list.member_name [] (take i members) x) ∙ ap (names_behind list.member_name []) (sym (take_next members i x (omega arith) c.index-members-i.is))) (c.in_ok-put.ensures before c.members.invariant.names);
    }

pub returns : goal.returns
returns c = typed_all list.members IsValueAs c.args.base c.args.members.now c.members.i (omega arith) (λ t env. list.members_are t env [] c.args.members.now) c.members.invariant.walked
