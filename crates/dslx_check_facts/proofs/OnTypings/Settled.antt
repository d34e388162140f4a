-- Typings with the limits on their types.
use Rattle.std.proofs.Common.{◌≡◌, ◌∙◌, ◌++◌, ℕ, List, Option, Some, None, refl, sym, ap, subst}
use Rattle.std.proofs.lemmas.Option.{none-some}
use Rattle.std.specs.Option.{option_map}
use Rattle.base.specs.Lists.Prefix.{IsPrefix}
use Rattle.xb_span.specs.declared.fault.Fault as one
use Rattle.xb_span.specs.declared.span.Span.{Span}
use Rattle.dslx_meaning.specs.Lists.{and_then}
use Rattle.dslx_meaning.specs.declared.ty.DslxType.{DslxType}
use Rattle.dslx_meaning.specs.Rules.TypeEnvs as the
use Rattle.dslx_check_rules.specs.declared.faults.Faults.{Faults}
use Rattle.dslx_check_rules.specs.declared.table.row.TypeId.{TypeId}
use Rattle.dslx_check_rules.specs.declared.table.row.TypeRow.{TypeRow}
use Rattle.dslx_check_rules.specs.declared.typing.Typing.{Typing}
use Rattle.dslx_check_rules.specs.Interned.{HasRowIf, ItemNames, type_if}
use Rattle.dslx_check_rules.specs.Seen.{capped, seen}
use Rattle.dslx_check_facts.specs.Typings.{IsTyping}
use Rattle.dslx_check_facts.specs.Walks.{HasTables, WalkShown, instances_at}

-- a size only where there is a type
size_by_type : (names : ItemNames) (rows : List TypeRow) (ty : Option TypeId) (own : Option DslxType) (size : Option ℕ) (n : Option ℕ)
    → type_if names rows ty ≡ own → size ≡ capped n → and_then ty (λ t. size) ≡ capped (the.size_if_typed own n)
size_by_type names rows None None size n e s = refl
size_by_type names rows None (Some t) size n e s = absurd (none-some t e)
size_by_type names rows (Some t) None size n e s = absurd (none-some _ (sym e))
size_by_type names rows (Some t) (Some u) size n e s = s

-- what is said of settled typings says so of walks
pub settled_is : (names : ItemNames) (old new later : WalkShown) (span : Span) (ty : Option TypeId) (faults : Faults) (size : Option ℕ) (result : Typing)
    (t : Option DslxType) (fs : List one.Fault) (reached : List the.Instance) (n : Option ℕ)
    → ((names : ItemNames) (rows : List TypeRow) (fs : List one.Fault) (reached : List the.Instance) (n : Option ℕ) → faults ≡ seen fs
    → type_if names rows result.ty ≡ (the.settled span (type_if names rows ty) fs reached n).ty)
    → ((names : ItemNames) (later : List TypeRow) (fs : List one.Fault) (reached : List the.Instance) (n : Option ℕ) → IsPrefix new.rows later
    → HasRowIf new.rows ty → faults ≡ seen fs → result.faults ≡ seen (the.settled span (type_if names later ty) fs reached n).faults)
    → result.size ≡ and_then result.ty (λ t. size)
    → ((rows : List TypeRow) → HasRowIf rows ty → HasRowIf rows result.ty)
    → HasTables new later → HasRowIf new.rows ty → type_if names later.rows ty ≡ t → faults ≡ seen fs → size ≡ capped n
    → instances_at names later.met new.reached ≡ instances_at names later.met old.reached ++ reached
    → IsTyping names old new later result (the.settled span t fs reached n)
settled_is names old new later span ty faults size result t fs reached n of_type of_faults of_size there tables row is found count more =
    let own : type_if names later.rows result.ty ≡ (the.settled span t fs reached n).ty = of_type names later.rows fs reached n found ∙ ap (λ u. (the.settled span u fs reached n).ty) is in
    record {
      row = there new.rows row;
      ty = own;
      faults = of_faults names later.rows fs reached n tables.rows row found ∙ ap (λ u. seen (the.settled span u fs reached n).faults) is;
      reached = more;
      size = of_size ∙ size_by_type names later.rows result.ty (the.settled span t fs reached n).ty size n own count;
    }

pub unlimited_is : (names : ItemNames) (old new later : WalkShown) (ty : Option TypeId) (faults : Faults) (size : Option ℕ) (result : Typing)
    (t : Option DslxType) (fs : List one.Fault) (reached : List the.Instance) (n : Option ℕ)
    → ((names : ItemNames) (rows : List TypeRow) (fs : List one.Fault) (reached : List the.Instance) (n : Option ℕ) → faults ≡ seen fs
    → type_if names rows result.ty ≡ (the.unlimited (type_if names rows ty) fs reached n).ty)
    → result.faults ≡ faults
    → result.size ≡ and_then result.ty (λ t. size)
    → ((rows : List TypeRow) → HasRowIf rows ty → HasRowIf rows result.ty)
    → HasRowIf new.rows ty → type_if names later.rows ty ≡ t → faults ≡ seen fs → size ≡ capped n
    → instances_at names later.met new.reached ≡ instances_at names later.met old.reached ++ reached
    → IsTyping names old new later result (the.unlimited t fs reached n)
unlimited_is names old new later ty faults size result t fs reached n of_type of_faults of_size there row is found count more =
    let own : type_if names later.rows result.ty ≡ (the.unlimited t fs reached n).ty = of_type names later.rows fs reached n found ∙ ap (λ u. (the.unlimited u fs reached n).ty) is in
    record {
      row = there new.rows row;
      ty = own;
      faults = of_faults ∙ found;
      reached = more;
      size = of_size ∙ size_by_type names later.rows result.ty (the.unlimited t fs reached n).ty size n own count;
    }

pub limited_is : (names : ItemNames) (old new later : WalkShown) (span : Span) (typing result : Typing) (judgement : the.Judgement)
    → result.ty ≡ typing.ty
    → ((names : ItemNames) (later : List TypeRow) (fs : List one.Fault) → IsPrefix new.rows later → HasRowIf new.rows typing.ty → typing.faults ≡ seen fs
    → result.faults ≡ seen (fs ++ the.type_limits span.to (type_if names later typing.ty)))
    → result.size ≡ typing.size
    → HasTables new later → IsTyping names old new later typing judgement → IsTyping names old new later result (the.limited span judgement)
limited_is names old new later span typing result judgement same of_faults of_size tables is = record {
  row = subst (HasRowIf new.rows) (sym same) is.row;
  ty = ap (type_if names later.rows) same ∙ is.ty;
  faults = of_faults names later.rows judgement.faults tables.rows is.row is.faults ∙ ap (λ u. seen (judgement.faults ++ the.type_limits span.to u)) is.ty;
  reached = is.reached;
  size = of_size ∙ is.size;
}
