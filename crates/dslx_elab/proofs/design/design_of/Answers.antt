use Rattle.std.proofs.Common.{◌≡◌, ◌∙◌, true, false, Some, sym, subst, map}
use Rattle.dslx_meaning.specs.Items.{meanings_of}
use Rattle.dslx_meaning.specs.Network.{top_parametric_args}
use Rattle.dslx_core.specs.Lowering.Functions.{core_function}
use Rattle.dslx_core.specs.Machines.Machine.Reached.{IsTable}
use Rattle.dslx_core.specs.Networks.Assembly.{instances_alone, lower_outers}
use Rattle.dslx_core.specs.declared.design.Design.{Design}
use Rattle.dslx_elab.specs.Adding.{KeepsTable}
use Rattle.dslx_elab.specs.Assembling.{AddsAll, IsAssembled, LacksInstance, LacksOuters, LacksTop, is_last_of}
use Rattle.dslx_elab.proofs.OnDesign.{assembled}
use Rattle.dslx_elab.proofs.design.design_of.Goals as goal

pub returns-in_default : goal.returns-in_default
returns-in_default c = LacksOuters (sym c.in_ok-outer.ensures ∙ c.in_default.is)

pub returns-in_default-2 : goal.returns-in_default-2
returns-in_default-2 c = LacksInstance (subst (AddsAll c.args.text.now c.args.limit c.args.wanted.now) c.in_default-2.is c.in_ok-made.ensures.adds)

pub returns-then-not-is_last_of : goal.returns-then-not-is_last_of
returns-then-not-is_last_of c =
    let top = c.args.top.now in
    let args : top_parametric_args (meanings_of c.args.text.now) top ≡ c.as_slice-2.result.now = sym (c.as_slice-2.ensures ∙ c.in_ok-parametric_args.ensures) in
    let last : is_last_of top.name.name (top_parametric_args (meanings_of c.args.text.now) top) c.in-Some-2.made.procs.items ≡ false =
    (λ i. is_last_of top.name.name (args i) (sym c.as_slice.ensures.value i)) ∙ sym c.is_last_of.ensures ∙ c.if-not-is_last_of.true in
    LacksTop c.in-Some-2.made (subst (AddsAll c.args.text.now c.args.limit c.args.wanted.now) c.in-Some-2.is c.in_ok-made.ensures.adds) last

pub returns : goal.returns
returns c =
    let text = c.args.text.now in
    let top = c.args.top.now in
    let made = c.in-Some-2.made in
    let adds = subst (AddsAll text c.args.limit c.args.wanted.now) c.in-Some-2.is c.in_ok-made.ensures.adds in
    let table : IsTable text (meanings_of text) made.functions = subst (KeepsTable text) c.in-Some-2.is c.in_ok-made.ensures.table in
    let outers : lower_outers (meanings_of text) top ≡ Some c.in-Some.outer = sym c.in_ok-outer.ensures ∙ c.in-Some.is in
    let args : top_parametric_args (meanings_of text) top ≡ c.as_slice-2.result.now = sym (c.as_slice-2.ensures ∙ c.in_ok-parametric_args.ensures) in
    let last : is_last_of top.name.name (top_parametric_args (meanings_of text) top) made.procs.items ≡ true =
    (λ i. is_last_of top.name.name (args i) (sym c.as_slice.ensures.value i)) ∙ sym c.is_last_of.ensures ∙ c.if-not-is_last_of.false in
    let design : Design = record { name = c.in_ok-name.name; outer = c.in-Some.outer; functions = c.in_ok-functions.functions; procs = c.in_ok-procs.procs } in
    let is : design ≡ record { name = top.name.name; outer = c.in-Some.outer; functions = map core_function made.functions; procs = instances_alone made.procs.items } =
    λ i. record { name = c.in_ok-name.ensures i; outer = c.in-Some.outer; functions = c.in_ok-functions.ensures i; procs = c.in_ok-procs.ensures i } in
    IsAssembled design made adds c.in_ok-procs.ensures
    (λ name is_top. assembled text c.args.limit top c.args.wanted.now made c.in-Some.outer design c.requires.item outers adds table last is name is_top)
