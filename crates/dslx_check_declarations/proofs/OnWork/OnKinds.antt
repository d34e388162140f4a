-- The global environments of a text have of each name only what its item is.
use Rattle.std.proofs.Common.{◌≡◌, ℕ, zero, suc, false, Option, Some, None, refl, ap}
use mathlib.Core.Bool.{true≢false}
use Rattle.dslx_tree.specs.declared.item.Definition.{Definition}
use Rattle.dslx_tree.specs.declared.item.Definition.TheVariants as d
use Rattle.dslx_tree.specs.declared.item.Module.{Module}
use Rattle.dslx_meaning.specs.Items.{member_named}
use Rattle.dslx_meaning.specs.Lists.{and_then}
use Rattle.dslx_meaning.specs.Rules.ItemRules.{constant_seen, enum_member_value, struct_seen}
use Rattle.dslx_meaning.specs.Rules.ModuleRules.{globals_within, type_known}
use Rattle.dslx_meaning.specs.Rules.TypeEnvs.{GlobalEnv}
use Rattle.dslx_check_facts.specs.Known.{names_type}
use Rattle.dslx_check_declarations.specs.Work.Text.{HasItemsByKind}

whole_is : (m : Module) (n : ℕ) → (globals_within m n).whole ≡ m
whole_is m zero = refl
whole_is m (suc n) = whole_is m n

no_type_known : (known : GlobalEnv) (o : Option Definition) → names_type o ≡ false → type_known known o ≡ None
no_type_known known None e = refl
no_type_known known (Some (d.Function f)) e = refl
no_type_known known (Some (d.Proc p)) e = refl
no_type_known known (Some (d.Constant c)) e = refl
no_type_known known (Some (d.Alias a)) e = absurd (true≢false e)
no_type_known known (Some (d.Struct s)) e = absurd (true≢false e)
no_type_known known (Some (d.Enum c)) e = absurd (true≢false e)

pub by_kind : (m : Module) (n : ℕ) → HasItemsByKind m (globals_within m n)
by_kind m zero = record {
  whole = refl;
  is_constant = λ name. refl;
  not_type = λ name e. refl;
  not_struct = λ name e. refl;
  not_constant = λ name e. refl;
  not_enum = λ name member e. refl;
}
by_kind m (suc n) =
    let known : GlobalEnv = globals_within m n in
    record {
      whole = whole_is m (suc n);
      is_constant = λ name. refl;
      not_type = λ name. no_type_known known _;
      not_struct = λ name e. ap (λ o. and_then o (λ s. (struct_seen known s).ty)) e;
      not_constant = λ name e. ap (λ o. and_then o (λ c. (constant_seen known c).value)) e;
      not_enum = λ name member e. ap (λ o. and_then o (λ c. enum_member_value known c member (member_named member c.members))) e;
    }
