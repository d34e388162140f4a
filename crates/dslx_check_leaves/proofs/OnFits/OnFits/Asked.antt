-- What is asked of walks, one after another.
use Rattle.std.proofs.Common.{◌≡◌, [], List, Option, sym, subst}
use Rattle.std.specs.Prelude.{Result, Ok, Err, IfOk, OnOk}
use Rattle.dslx_meaning.specs.declared.ty.DslxType.{DslxType}
use Rattle.dslx_meaning.specs.Rules.TypeEnvs.{GlobalEnv, TypeEnv}
use Rattle.dslx_check_rules.specs.declared.table.row.TypeId.{TypeId}
use Rattle.dslx_check_rules.specs.declared.table.row.TypeRow.{TypeRow}
use Rattle.dslx_check_facts.specs.declared.facts.Facts.{Facts}
use Rattle.dslx_check_facts.specs.Walks.{OnlyMisses, WalkShown}
use Rattle.dslx_check_facts.proofs.Lemmas.Walks.{misses_grows, misses_trans, nothing_missing}
use Rattle.dslx_check_leaves.specs.Fits.Fits.{IsAsked}

pub asked_at : {f : Facts} {later : WalkShown} {known : GlobalEnv} {old new : List TypeRow} {ty : Option TypeId} {context : TypeEnv} {t : DslxType} → new ≡ old → IsAsked f later known old ty context t
    → IsAsked f later known new ty context t
asked_at {f} {later} {known} {old} {new} {ty} {context} {t} e asked = subst (λ (rows : List TypeRow). IsAsked f later known rows ty context t) (sym e) asked

pub none_before : {w0 w1 : WalkShown} → OnlyMisses w0 w1 → w1.missing ≡ [] → w0.missing ≡ []
none_before {w0} {w1} m none = nothing_missing w0 w1 (misses_grows w0 w1 m) none

pub on_ok : {T E : Type 0} (P : Type 0) (r : Result T E) → OnOk r P → IfOk r (λ t. P)
on_ok P (Ok t) p = p
on_ok P (Err e) p = tt

pub always : {T E : Type 0} (P : Type 0) (r : Result T E) → P → OnOk r P
always P (Ok t) p = p
always P (Err e) p = tt

pub misses_then : {T E : Type 0} (w0 w1 w2 : WalkShown) (r : Result T E) → OnlyMisses w0 w1 → OnOk r (OnlyMisses w1 w2) → OnOk r (OnlyMisses w0 w2)
misses_then w0 w1 w2 (Ok t) m n = misses_trans w0 w1 w2 m n
misses_then w0 w1 w2 (Err e) m n = tt
