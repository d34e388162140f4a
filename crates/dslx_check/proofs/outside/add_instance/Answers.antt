use Rattle.std.proofs.Common.{◌≡◌, ◌∙◌, List, [], ap, Some}
use Rattle.dslx_meaning.specs.declared.value.DslxValue.{DslxValue}
use Rattle.dslx_check_facts.specs.Walks.{shown}
use Rattle.dslx_check.proofs.OnOutside.{met_grows}
use Rattle.dslx_check.proofs.outside.add_instance.Goals as goal

pub returns : goal.returns
returns c =
    let none : c.from_vec-parametric_args.result ≡ [] = c.from_vec-parametric_args.ensures ∙ c.new-none.ensures.items in record {
      number = c.in_ok-instance.instance;
      grows = met_grows (shown c.args.w.now) c.number_of.new.self c.in_ok-instance.ensures.grows;
      met = c.in_ok-instance.ensures.number ∙ ap (λ (l : List DslxValue). Some (record { item = c.args.item; parametric_args = l })) none;
      is = c.in_ok-push.ensures.items;
    }
