use Rattle.std.proofs.Common.{◌∙◌, List, Some, None, ap, subst}
use Rattle.dslx_tree.specs.declared.item.Item.{Item}
use Rattle.dslx_meaning.specs.Items.{item_named, meanings_of}
use Rattle.dslx_meaning.specs.Network.{as_proc}
use Rattle.dslx_meaning.specs.declared.value.DslxValue.{DslxValue}
use Rattle.dslx_core.specs.Networks.Procs.{lower_proc}
use Rattle.dslx_param.specs.Needed.{TableMakes}
use Rattle.dslx_elab.proofs.Added.{found_comes, found_nothing, not_found}
use Rattle.dslx_elab.proofs.adding.next_instance.Goals as goal

pub returns-in_default : goal.returns-in_default
returns-in_default c = not_found c.args.text.now c.args.limit c.args.functions c.args.procs.now c.args.wanted
    (c.in_default.ensures ∙ ap (λ (l : List Item). as_proc (item_named c.args.wanted.name l)) c.as_slice.ensures)

pub returns-in-Some-2 : goal.returns-in-Some-2
returns-in-Some-2 c =
    found_comes c.args.text.now c.args.limit c.args.functions c.args.procs.now c.args.wanted c.in-Some.process.now
    (c.in-Some.ensures ∙ ap (λ (l : List Item). as_proc (item_named c.args.wanted.name l)) c.as_slice.ensures) c.in-Some-2.instance c.in-Some-2.functions
    (subst (λ (l : List DslxValue). TableMakes c.args.text.now c.args.limit c.args.functions (λ t. lower_proc c.args.text.now (meanings_of c.args.text.now) t c.args.procs.now c.in-Some.process.now l) (Some (c.in-Some-2.instance, c.in-Some-2.functions))) c.as_slice-2.ensures
    (subst (TableMakes c.args.text.now c.args.limit c.args.functions (λ t. lower_proc c.args.text.now (meanings_of c.args.text.now) t c.args.procs.now c.in-Some.process.now c.as_slice-2.result.now)) c.in-Some-2.is c.in_ok-instance.ensures))

pub returns-in-None : goal.returns-in-None
returns-in-None c =
    found_nothing c.args.text.now c.args.limit c.args.functions c.args.procs.now c.args.wanted c.in-Some.process.now
    (c.in-Some.ensures ∙ ap (λ (l : List Item). as_proc (item_named c.args.wanted.name l)) c.as_slice.ensures)
    (subst (λ (l : List DslxValue). TableMakes c.args.text.now c.args.limit c.args.functions (λ t. lower_proc c.args.text.now (meanings_of c.args.text.now) t c.args.procs.now c.in-Some.process.now l) None) c.as_slice-2.ensures
    (subst (TableMakes c.args.text.now c.args.limit c.args.functions (λ t. lower_proc c.args.text.now (meanings_of c.args.text.now) t c.args.procs.now c.in-Some.process.now c.as_slice-2.result.now)) c.in-None.is c.in_ok-instance.ensures))
