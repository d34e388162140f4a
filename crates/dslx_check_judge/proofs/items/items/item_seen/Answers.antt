use Rattle.std.proofs.Common.{◌∙◌, refl, sym, subst}
use Rattle.std.proofs.lemmas.Result.{IfOk-weaker}
use Rattle.dslx_tree.specs.declared.item.Definition.{Definition}
use Rattle.dslx_tree.specs.declared.item.Definition.TheVariants as d
use Rattle.dslx_check_facts.specs.Walks.{shown}
use Rattle.dslx_check_judge.specs.Items.Judged.{JudgesItem}
use Rattle.dslx_check_judge.proofs.OnItems.OnItems.{comes_to_nothing, finds_nothing, item_judged, nothing_judged}
use Rattle.dslx_check_judge.proofs.items.items.item_seen.Goals as goal

pub returns-in-Constant : goal.returns-in-Constant
returns-in-Constant c = IfOk-weaker c.constant_seen.result _ _
    (λ j h. subst (λ (x : Definition). JudgesItem c.args.f.now (shown c.args.w.now) (shown c.constant_seen.new.w) c.args.item c.args.is_first x j) (sym c.in-Constant.is) (item_judged c.args.is_first refl h)) c.constant_seen.ensures

pub returns-in-Alias : goal.returns-in-Alias
returns-in-Alias c = IfOk-weaker c.alias_seen.result _ _
    (λ j h. subst (λ (x : Definition). JudgesItem c.args.f.now (shown c.args.w.now) (shown c.alias_seen.new.w) c.args.item c.args.is_first x j) (sym c.in-Alias.is) (item_judged c.args.is_first refl h)) c.alias_seen.ensures

pub returns-in-Struct : goal.returns-in-Struct
returns-in-Struct c = IfOk-weaker c.struct_seen.result _ _
    (λ j h. subst (λ (x : Definition). JudgesItem c.args.f.now (shown c.args.w.now) (shown c.struct_seen.new.w) c.args.item c.args.is_first x j) (sym c.in-Struct.is) (item_judged c.args.is_first refl h)) c.struct_seen.ensures

pub returns-in-Enum : goal.returns-in-Enum
returns-in-Enum c = IfOk-weaker c.enum_seen.result _ _
    (λ j h. subst (λ (x : Definition). JudgesItem c.args.f.now (shown c.args.w.now) (shown c.enum_seen.new.w) c.args.item c.args.is_first x j) (sym c.in-Enum.is) h) c.enum_seen.ensures

pub returns-in-Function : goal.returns-in-Function
returns-in-Function c = subst (λ (x : Definition). JudgesItem c.args.f.now (shown c.args.w.now) (shown c.args.w.now) c.args.item c.args.is_first x c.of_type.result) (sym c.in-Function.is)
    (nothing_judged c.args.is_first (d.Function c.in-Function.field-0) refl (λ known name. finds_nothing (c.of_type.ensures.faults ∙ c.none.ensures))
    (λ known name. comes_to_nothing c.of_type.ensures.named c.of_type.ensures.no_value c.of_type.ensures.no_type))

pub returns-in-Proc : goal.returns-in-Proc
returns-in-Proc c = subst (λ (x : Definition). JudgesItem c.args.f.now (shown c.args.w.now) (shown c.args.w.now) c.args.item c.args.is_first x c.of_type-in-Proc.result) (sym c.in-Proc.is)
    (nothing_judged c.args.is_first (d.Proc c.in-Proc.field-0) refl (λ known name. finds_nothing (c.of_type-in-Proc.ensures.faults ∙ c.none-in-Proc.ensures))
    (λ known name. comes_to_nothing c.of_type-in-Proc.ensures.named c.of_type-in-Proc.ensures.no_value c.of_type-in-Proc.ensures.no_type))
