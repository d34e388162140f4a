use Rattle.std.proofs.Common.{◌≡◌, ◌∙◌, [], ◌∷◌, arith, sym, ap, subst, take}
use Rattle.dslx_meaning.specs.Items.{name_of_field}
use Rattle.dslx_check_declarations.specs.Names.{AreBefore}
use Rattle.dslx_check_declarations.proofs.Lemmas.Listed.{names_behind, names_next, take_next}
use Rattle.dslx_check_judge.specs.Items.Lists.{IsTypeAs}
use Rattle.dslx_check_judge.proofs.OnItems.OnFields as list
use Rattle.dslx_check_judge.proofs.Lemmas.Items.OnLists.{listed_all, listed_next, listed_none, type_stays, typed_element}
use Rattle.dslx_check_judge.proofs.Lemmas.Items.OnTrees.{inner_walked}
use Rattle.dslx_check_judge.proofs.items.fields.fields_seen.Goals as goal

pub fields-init : goal.fields-init
fields-init c = record { walked = listed_none list.fields IsTypeAs c.args.fields.now c.none-faults.ensures c.new-types.ensures.items; names = c.new-before.ensures }

pub fields-preserved : goal.fields-preserved
fields-preserved c =
    let x = c.index-fields-i.result in
    let i = c.fields.i in
    let fields = c.args.fields.now in
    let before = names_behind name_of_field [] (take i fields) in
    record {
      walked = listed_next list.fields IsTypeAs type_stays fields i x (omega arith) c.index-fields-i.is c.in_ok-push.ensures.items (λ known later agrees. c.listed_name-named.ensures before (c.has-is_before.ensures before c.fields.invariant.names))
          c.and-one.ensures c.and-faults.ensures c.fields.invariant.walked (typed_element (inner_walked x.ty c.in_ok-own.ensures));
      names = subst (AreBefore c.put.new.self) (sym (names_next name_of_field [] (take i fields) x) ∙ ap (names_behind name_of_field []) (sym (take_next fields i x (omega arith) c.index-fields-i.is))) (c.in_ok-put.ensures before c.fields.invariant.names);
    }

pub returns : goal.returns
returns c = listed_all list.fields IsTypeAs c.args.fields.now c.fields.i (omega arith) (λ env. list.fields_are env [] c.args.fields.now) c.fields.invariant.walked
