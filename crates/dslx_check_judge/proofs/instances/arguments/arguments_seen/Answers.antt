use Rattle.std.proofs.Common.{◌≡◌, ◌∙◌, [], ◌∷◌, arith, refl, sym, ap, subst, take}
use Rattle.dslx_meaning.specs.Items.{name_of_field}
use Rattle.dslx_check_facts.specs.Judged.{environment}
use Rattle.dslx_check_declarations.specs.Names.{AreBefore}
use Rattle.dslx_check_declarations.proofs.Lemmas.Listed.{names_behind, names_next, take_next}
use Rattle.dslx_check_judge.specs.Items.Lists.{IsTypeAs}
use Rattle.dslx_check_judge.proofs.OnInstances.OnArguments as list
use Rattle.dslx_check_judge.proofs.Lemmas.Items.OnLists.{listed_all, listed_next, listed_none, type_stays, typed_element}
use Rattle.dslx_check_judge.proofs.Lemmas.Items.OnTrees.{inner_walked}
use Rattle.dslx_check_judge.proofs.instances.arguments.arguments_seen.Goals as goal

pub arguments-init : goal.arguments-init
arguments-init c = record { walked = listed_none list.arguments IsTypeAs c.args.arguments.now c.none-faults.ensures c.new-types.ensures.items; names = c.new-before.ensures }

pub arguments-preserved : goal.arguments-preserved
arguments-preserved c =
    let x = c.index-arguments-i.result in
    let i = c.arguments.i in
    let fields = c.args.arguments.now in
    let before = names_behind name_of_field [] (take i fields) in
    record {
      walked = listed_next list.arguments IsTypeAs type_stays fields i x (omega arith) c.index-arguments-i.is c.in_ok-push.ensures.items (λ known later agrees. c.local_name-named.ensures known later (environment c.args.f.now c.args.s.now known later) before agrees refl (c.has-is_before.ensures before c.arguments.invariant.names))
          c.and-one.ensures c.and-faults.ensures c.arguments.invariant.walked (typed_element (inner_walked x.ty c.in_ok-own.ensures));
      names = subst (AreBefore c.put.new.self) (sym (names_next name_of_field [] (take i fields) x) ∙ ap (names_behind name_of_field []) (sym (take_next fields i x (omega arith) c.index-arguments-i.is))) (c.in_ok-put.ensures before c.arguments.invariant.names);
    }

pub returns : goal.returns
returns c = listed_all list.arguments IsTypeAs c.args.arguments.now c.arguments.i (omega arith) (λ env. list.arguments_are env [] c.args.arguments.now) c.arguments.invariant.walked
