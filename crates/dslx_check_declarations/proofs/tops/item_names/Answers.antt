use Rattle.std.proofs.Common.{◌∙◌, ◌∷◌, [], List, ℕ, take, arith, sym, ap, subst}
use Rattle.dslx_tree.specs.declared.ident.Ident.{Ident}
use Rattle.dslx_meaning.specs.Rules.ModuleRules.{ident_of, item_names}
use Rattle.dslx_meaning.specs.Rules.NameRules.{listed_name}
use Rattle.dslx_check_rules.specs.Seen.{seen}
use Rattle.dslx_check_declarations.specs.Names.{AreBefore}
use Rattle.dslx_check_declarations.proofs.Lemmas.Listed.{names_behind, names_next, take_all, take_next}
use Rattle.dslx_check_declarations.proofs.OnTops.{item_name, item_names_next}
use Rattle.dslx_check_declarations.proofs.tops.item_names.Goals as goal

pub items-preserved : goal.items-preserved
items-preserved c =
    let items = c.args.items.now in
    let i = c.items.item-index in
    let x = c.item-item.result in
    let before = names_behind item_name [] (take i items) in
    let next = take_next items i x (omega arith) c.item-item.is in
    record {
      found = c.and-faults.ensures (item_names [] (take i items)) (listed_name before (ident_of x.definition)) c.items.invariant.found
          (c.listed_name-own.ensures before (c.has-is_before.ensures before c.items.invariant.names) ∙ ap (λ (n : Ident). seen (listed_name before n)) c.ident_of-ident.ensures.ident)
          ∙ ap seen (item_names_next [] (take i items) x ∙ ap (item_names []) (sym next));
      names = subst (AreBefore c.put.new.self) (ap (λ (n : Ident). n.name ∷ before) c.ident_of-ident.ensures.ident ∙ sym (names_next item_name [] (take i items) x) ∙ ap (names_behind item_name []) (sym next))
          (c.in_ok-put.ensures before c.items.invariant.names);
    }

pub returns : goal.returns
returns c = c.items.invariant.found ∙ ap (λ l. seen (item_names [] l)) (take_all c.args.items.now c.items.item-index (omega arith))
