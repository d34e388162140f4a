use Rattle.std.proofs.Common.{◌≡◌, ◌∙◌, ◌++◌, ◌||◌, ◌&&◌, Bool, Option, List, not, ap}
use Rattle.xb_span.specs.declared.fault.Fault.{Fault}
use Rattle.dslx_meaning.specs.Lists.{all_some, and_then, where_true}
use Rattle.dslx_meaning.specs.declared.ty.DslxType.{DslxType}
use Rattle.dslx_meaning.specs.Rules.TypeEnvs.{breaks_if, one_and, plus_size, types_of}
use Rattle.dslx_meaning.specs.Rules.ConstantRules.{is_empty}
use Rattle.dslx_meaning.specs.Rules.ControlRules.{all_known, arm_values, arms_faults, arms_reached, arms_size, differ, first_of_types, some_binds}
use Rattle.dslx_meaning.specs.Rules.RuleNumbers as rule
use Rattle.dslx_check_rules.specs.Seen.{seen}
use Rattle.dslx_check_rules.specs.Interned.{type_at}
use Rattle.dslx_check_rules.specs.Control.Matches.{AreTogether, IsArm, lacks_some}
use Rattle.dslx_check_rules.proofs.Lemmas.Nodes.Settled.{row_behind, type_behind}
use Rattle.dslx_check_rules.proofs.Lemmas.Nodes.Parts.{empty_alike}
use Rattle.dslx_check_rules.proofs.Lemmas.Nodes.Lists.{there_alike}
use Rattle.dslx_check_rules.proofs.control.matches.match_typing.Goals as goal

pub returns : goal.returns
returns c = record {
  typed = λ names later distinct p x xs v arms.
      let all : AreTogether c.all_arms-all.result xs = c.all_arms-all.ensures names c.args.types.now later xs arms in
      let common : Option DslxType = where_true (all_known xs) (first_of_types (all_some (types_of (arm_values xs)))) in
      let test : Bool = is_empty xs || some_binds xs || differ (all_some (types_of (arm_values xs))) || lacks_some c.args.is_exhaustive x.ty xs in
      let own : List Fault = breaks_if test rule.MATCH_IS_EXHAUSTIVE c.args.span in
      let lacks : c.lacks_some-lacks.result ≡ lacks_some c.args.is_exhaustive x.ty xs =
      c.lacks_some-lacks.ensures ∙ (λ i. there_alike (type_at names later) c.args.value.ty x.ty v.ty i && all.fine i && not c.args.is_exhaustive) in
      let odd : c.either-odd.result ≡ (is_empty xs || some_binds xs) =
      c.either-odd.ensures ∙ (λ i. (c.is_empty.ensures ∙ empty_alike (IsArm names c.args.types.now later) c.args.arms.now xs arms) i || all.binds i) in
      let is : c.either-is_odd.result ≡ test =
      c.either-is_odd.ensures ∙ (λ i. (c.either.ensures ∙ (λ j. odd j || c.differ-differs.ensures names later xs distinct p arms all.typed j)) i || lacks i) in
      let row = c.common_type-common.ensures.there names c.args.types.now later xs arms in
      c.settle.ensures.typed names later p (row_behind c.args.types.now c.args.value.ty c.common_type-common.result c.if_there-ty.result c.if_there-ty.ensures row)
      (and_then x.ty (λ t. common)) (x.faults ++ arms_faults xs ++ own) (x.reached ++ arms_reached xs) (one_and (plus_size x.size (arms_size xs)))
      (type_behind names later c.args.value.ty c.common_type-common.result c.if_there-ty.result x.ty common c.if_there-ty.ensures v.ty
      (c.common_type-common.ensures.is names c.args.types.now later xs all arms))
      (c.and-faults.ensures (x.faults ++ arms_faults xs) own (c.and-parts.ensures x.faults (arms_faults xs) v.faults all.faults)
      (c.breaks_if-own.ensures ∙ ap (λ b. seen (breaks_if b rule.MATCH_IS_EXHAUSTIVE c.args.span)) is))
      (c.one_and-size.ensures (plus_size x.size (arms_size xs)) (c.plus_size.ensures x.size (arms_size xs) v.size all.size));
}
