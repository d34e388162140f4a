-- Parts that may be missing, and what stays of parts in later tables.
use Rattle.std.proofs.Common.{◌≡◌, ◌==◌, ◌∷◌, [], List, Bool, true, false, Option, Some, None, length, refl, subst, arith, ne_eqb}
use Rattle.std.specs.Prelude.{if◌then◌else◌}
use Rattle.base.specs.Lists.Prefix.{IsPrefix}
use Rattle.dslx_meaning.specs.Lists.{all_some, and_then, where_true, with_both}
use Rattle.dslx_meaning.specs.declared.ty.DslxType.{DslxType}
use Rattle.dslx_meaning.specs.Rules.TypeEnvs.{Judgement}
use Rattle.dslx_meaning.specs.Rules.ConstantRules.{ConstantSeen, is_empty}
use Rattle.dslx_meaning.specs.Rules.AggregateRules.{when_all}
use Rattle.dslx_check_rules.specs.Interned.{HasRowIf, ItemNames}
use Rattle.dslx_check_rules.specs.declared.table.row.TypeId.{TypeId}
use Rattle.dslx_check_rules.specs.declared.table.row.TypeRow.{TypeRow}
use Rattle.dslx_check_rules.specs.declared.typing.Typing.{Typing}
use Rattle.dslx_check_rules.proofs.Lemmas.Rows.{rows_stay}
use Rattle.dslx_check_rules.specs.declared.nodes.parts.ConstantTyping.{ConstantTyping}
use Rattle.dslx_check_rules.specs.declared.nodes.parts.Spanned.{Spanned}
use Rattle.dslx_check_rules.specs.Nodes.Parts.{IsConstant, IsPart, IsPartIf, IsPlaced, IsPlacedIf, Pairs, Placed}

-- ---- rows stay

pub row_if_stays : (old new : List TypeRow) (ty : Option TypeId) → IsPrefix old new → HasRowIf old ty → HasRowIf new ty
row_if_stays old new None p h = tt
row_if_stays old new (Some t) p h = rows_stay old new t p h

module _ (names : ItemNames) (old new later : List TypeRow) (p : IsPrefix old new) where
  pub part_stays : (typing : Typing) (x : Judgement) → IsPart names old later typing x → IsPart names new later typing x
  part_stays typing x is = record { row = row_if_stays old new typing.ty p is.row; ty = is.ty; faults = is.faults; size = is.size }

  pub part_if_stays : (typing : Option Typing) (x : Option Judgement) → IsPartIf names old later typing x → IsPartIf names new later typing x
  part_if_stays None None is = tt
  part_if_stays None (Some x) is = is
  part_if_stays (Some typing) None is = is
  part_if_stays (Some typing) (Some x) is = part_stays typing x is

  pub constant_stays : (constant : ConstantTyping) (x : ConstantSeen) → IsConstant names old later constant x → IsConstant names new later constant x
  constant_stays constant x is = record { part = part_stays constant.typing x.judgement is.part; untyped = is.untyped; value = is.value }

-- ---- what may be missing

module _ (names : ItemNames) (rows later : List TypeRow) where
  -- where there is no typing there is no judgement
  pub nothing_there : (P : Option Judgement → Type 0) (typing : Option Typing) (x : Option Judgement) → typing ≡ None → IsPartIf names rows later typing x → P None → P x
  nothing_there P typing None e is h = h
  nothing_there P typing (Some x) e is h = absurd (subst (λ o. IsPartIf names rows later o (Some x)) e is)

  -- and where there is one there is one
  pub part_there : (P : Option Judgement → Type 0) (typing : Option Typing) (x : Option Judgement) (found : Typing) → typing ≡ Some found → IsPartIf names rows later typing x
      → ((y : Judgement) → IsPart names rows later found y → P (Some y)) → P x
  part_there P typing None found e is h = absurd (subst (λ o. IsPartIf names rows later o None) e is)
  part_there P typing (Some x) found e is h = h x (subst (λ o. IsPartIf names rows later o (Some x)) e is)

  pub nothing_placed : (P : Option Placed → Type 0) (spanned : Option Spanned) (x : Option Placed) → spanned ≡ None → IsPlacedIf names rows later spanned x → P None → P x
  nothing_placed P spanned None e is h = h
  nothing_placed P spanned (Some x) e is h = absurd (subst (λ o. IsPlacedIf names rows later o (Some x)) e is)

  pub placed_there : (P : Option Placed → Type 0) (spanned : Option Spanned) (x : Option Placed) (found : Spanned) → spanned ≡ Some found → IsPlacedIf names rows later spanned x
      → ((y : Placed) → IsPlaced names rows later found y → P (Some y)) → P x
  placed_there P spanned None found e is h = absurd (subst (λ o. IsPlacedIf names rows later o None) e is)
  placed_there P spanned (Some x) found e is h = h x (subst (λ o. IsPlacedIf names rows later o (Some x)) e is)

-- ---- options

pub both_first : {A B : Type 0} (a : Option A) (b : Option B) → and_then b (λ v. a) ≡ with_both a b (λ u v. Some u)
both_first None None = refl
both_first None (Some v) = refl
both_first (Some u) None = refl
both_first (Some u) (Some v) = refl

pub both_some : {A B C : Type 0} (a : Option A) (b : B) (f : A → B → Option C) → and_then a (λ u. f u b) ≡ with_both a (Some b) f
both_some None b f = refl
both_some (Some u) b f = refl

pub both_none : {A B C : Type 0} (a : Option A) (f : A → B → Option C) → None ≡ with_both a None f
both_none None f = refl
both_none (Some u) f = refl

pub when_then : {A : Type 0} (os : List (Option DslxType)) (o : Option DslxType) (f : DslxType → Option A) → and_then (when_all os o) f ≡ and_then (all_some os) (λ ts. and_then o f)
when_then os o f = by (all_some os)
  where
    by : (q : Option (List DslxType)) → and_then (and_then q (λ ts. o)) f ≡ and_then q (λ ts. and_then o f)
    by None = refl
    by (Some ts) = refl

pub where_if : {A : Type 0} (b : Bool) (a : A) → where_true b (Some a) ≡ (if b then Some a else None)
where_if true a = refl
where_if false a = refl

pub empty_alike : {A B : Type 0} (R : A → B → Type 0) (as' : List A) (bs : List B) → Pairs R as' bs → (length as' == 0) ≡ is_empty bs
empty_alike R [] [] p = refl
empty_alike R [] (b ∷ bs) p = absurd p
empty_alike R (a ∷ as') [] p = absurd p
empty_alike R (a ∷ as') (b ∷ bs) p = ne_eqb (length (a ∷ as')) 0 (λ e. absurd (omega (arith, e)))
