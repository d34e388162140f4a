use Rattle.std.proofs.Common.{◌∙◌, ◌||◌, map, refl, subst, sym, ap}
use Rattle.dslx_meaning.specs.Items.{name_of_field}
use Rattle.dslx_meaning.specs.Rules.AggregateRules.{has_twice, lacks_one}
use Rattle.dslx_meaning.specs.Rules.RuleNumbers as rule
use Rattle.dslx_meaning.specs.Rules.TypeEnvs.{breaks_if}
use Rattle.dslx_check_rules.specs.Interned.{type_if}
use Rattle.dslx_check_rules.specs.Seen.{seen}
use Rattle.dslx_check_facts.specs.Known.{item_names}
use Rattle.dslx_check_rules.specs.Nodes.Nodes.Structs.{IsField, written_names}
use Rattle.dslx_check_rules.specs.Nodes.Parts.{Pairs}
use Rattle.dslx_check_uses.specs.Uses.{uneven_at, unknown_at, wanted_of}
use Rattle.dslx_check_uses.proofs.OnFields.{others_there}
use Rattle.dslx_check_uses.proofs.structs.declared_struct.Goals as goal

pub returns : goal.returns
returns c = record {
  typed = λ later distinct p row xs o placed rest.
      let names = item_names c.args.f.now in
      let t = type_if names later c.args.ty in
      let fields = c.args.fields.now in
      let declared = c.args.declared.now in
      let there = others_there names c.args.types.now later c.args.others o rest in
      c.struct_typing.ensures.typed names later distinct p row t (unknown_at declared fields) (uneven_at c.args.span declared fields o) (wanted_of t fields xs) o refl c.in_ok-unknown.ensures
      (c.in_ok-uneven.ensures ∙ ap (λ b. seen (breaks_if (has_twice (written_names fields) || lacks_one (map name_of_field declared.fields) (written_names fields) b) rule.STRUCT_FIELDS c.args.span)) (c.is_some.ensures ∙ there))
      (subst (λ l. Pairs (IsField names c.args.types.now later) l (wanted_of t fields xs)) (sym c.as_slice.ensures.value) (c.in_ok-all.ensures later xs p row placed)) rest;
}
