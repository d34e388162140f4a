-- Members of enums.
use Rattle.std.proofs.Common.{◌≡◌, ◌∙◌, ◌==◌, ◌||◌, ◌++◌, Bool, true, false, not, List, [], ◌∷◌, Option, Some, None, is_some, length, ℕ, suc, arith, refl, sym, ap, subst}
use Rattle.std.specs.Prelude.{if◌then◌else◌}
use Rattle.std.proofs.lemmas.Bool.Decides.{Decides-eqb}
use Rattle.xb_span.specs.declared.fault.Fault.{Fault}
use Rattle.xb_span.specs.declared.span.Span.{Span}
use Rattle.dslx_meaning.specs.Items.{enum_member}
use Rattle.dslx_meaning.specs.Lists.{and_then}
use Rattle.dslx_meaning.specs.Operators.{number_value}
use Rattle.dslx_meaning.specs.declared.ty.DslxType.{DslxType}
use Rattle.dslx_meaning.specs.declared.value.DslxValue.{DslxValue}
use Rattle.dslx_meaning.specs.declared.value.UntypedLiteral.{UntypedLiteral}
use Rattle.dslx_meaning.specs.Rules.AggregateRules.{range_faults}
use Rattle.dslx_meaning.specs.Rules.ConstantRules.{is_empty}
use Rattle.dslx_meaning.specs.Rules.ItemRules.{has_equal_values}
use Rattle.dslx_meaning.specs.Rules.OperatorRules.{is_bits, unless_type}
use Rattle.dslx_meaning.specs.Rules.PatternRules.{is_there}
use Rattle.dslx_meaning.specs.Rules.RuleNumbers as rule
use Rattle.dslx_meaning.specs.Rules.TypeEnvs.{breaks_if}
use Rattle.dslx_check_rules.specs.declared.faults.Faults.{Faults}
use Rattle.dslx_check_rules.specs.declared.table.row.TypeId.{TypeId}
use Rattle.dslx_check_rules.specs.declared.table.row.TypeRow.{TypeRow}
use Rattle.dslx_check_rules.specs.Interned.{HasRow, HasRowIf, ItemNames, type_at, type_if}
use Rattle.dslx_check_rules.specs.Seen.{seen}
use Rattle.dslx_check_declarations.specs.Items.{enum_faults, member_if, number_in_base}

some_is_there : {A : Type 0} (o : Option A) → is_some o ≡ is_there o
some_is_there None = refl
some_is_there (Some a) = refl

-- a number of a base
pub number_is : {value : Option DslxValue} {b : Bool} {faults : Faults} (span : Span) (t : DslxType) (number : UntypedLiteral) → value ≡ number_value t number → b ≡ is_some value
    → faults ≡ seen (breaks_if (not b) rule.NUMBER_FITS_TYPE span) → (faults ≡ seen (range_faults span (Some t) number)) × (value ≡ number_in_base (Some t) number)
number_is {value} {b} {faults} span t number is some found =
    (found ∙ ap (λ c. seen (breaks_if (not c) rule.NUMBER_FITS_TYPE span)) (some ∙ some_is_there value ∙ ap is_there is), is)

no_values : (values : List (Option DslxValue)) → (length values == 0) ≡ is_empty values
no_values [] = refl
no_values (v ∷ values) = by (length values)
  where
    by : (n : ℕ) → (suc n == 0) ≡ false
    by n = other (suc n == 0) refl
      where
        other : (b : Bool) → (suc n == 0) ≡ b → b ≡ false
        other true e = absurd (omega (arith, (Decides-eqb (suc n) 0).0 e))
        other false e = refl

-- rule 23
pub members_break : (base : Option DslxType) {own wrong all : Faults} {equal is_wrong : Bool} (span : Span) (values : List (Option DslxValue)) → equal ≡ has_equal_values values
    → is_wrong ≡ ((length values == 0) || equal) → own ≡ seen (unless_type is_bits rule.ENUM_MEMBERS span base) → wrong ≡ seen (breaks_if is_wrong rule.ENUM_MEMBERS span)
    → ((fs gs : List Fault) → own ≡ seen fs → wrong ≡ seen gs → all ≡ seen (fs ++ gs)) → all ≡ seen (enum_faults span base values)
members_break base {own} {wrong} {all} {equal} {is_wrong} span values same is own_is wrong_is adds =
    adds (unless_type is_bits rule.ENUM_MEMBERS span base) (breaks_if (is_empty values || has_equal_values values) rule.ENUM_MEMBERS span) own_is
    (wrong_is ∙ ap (λ b. seen (breaks_if b rule.ENUM_MEMBERS span)) (is ∙ (λ i. no_values values i || same i)))

pub no_member : (b : Bool) (name : List ℕ) (v : Option DslxValue) → v ≡ None → None ≡ member_if b name v
no_member true name v e = sym (ap (member_if true name) e)
no_member false name v e = refl

-- without a type
pub no_type : (b : Bool) (name : List ℕ) (v : Option DslxValue) → b ≡ false → None ≡ member_if b name v
no_type b name v e = sym (ap (λ c. member_if c name v) e)

pub some_member : (b : Bool) (own name : List ℕ) (o : Option DslxValue) (v : DslxValue) → b ≡ true → o ≡ Some v → own ≡ name → enum_member own v ≡ member_if b name o
some_member b own name o v typed is same = ap (λ n. enum_member n v) same ∙ sym (λ i. member_if (typed i) name (is i))

pub number_of_base : (rows : List TypeRow) {value : Option DslxValue} {b : Bool} {faults : Faults} (names : ItemNames) (later : List TypeRow) (span : Span) (number : UntypedLiteral) (base : Option TypeId) (t : TypeId) → base ≡ Some t
    → (HasRow rows t → value ≡ number_value (type_at names later t) number) → HasRowIf rows base → b ≡ is_some value → faults ≡ seen (breaks_if (not b) rule.NUMBER_FITS_TYPE span)
    → (faults ≡ seen (range_faults span (type_if names later base) number)) × (value ≡ number_in_base (type_if names later base) number)
number_of_base rows {value} {b} {faults} names later span number None t e is row some found = absurd (never e)
  where
    never : None ≡ Some t → ⊥
    never k = cc
number_of_base rows {value} {b} {faults} names later span number (Some u) t e is row some found =
    number_is span (type_at names later u) number (is (subst (HasRow rows) (one e) row) ∙ ap (λ (x : TypeId). number_value (type_at names later x) number) (sym (one e))) some found
  where
    one : Some u ≡ Some t → u ≡ t
    one k = cc
