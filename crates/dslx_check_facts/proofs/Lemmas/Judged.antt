-- What a walk came to stays so while it goes on.
use Rattle.std.proofs.Common.{◌≡◌, ◌∙◌, ◌<◌, ◌≤◌, ℕ, List, [], ◌∷◌, ◌++◌, length, Option, Some, None, refl, sym, ap, subst, arith}
use Rattle.std.specs.Prelude.{IfSome}
use Rattle.std.specs.List.{AllByRecursion}
use Rattle.base.specs.Lists.Prefix.{IsPrefix}
use Rattle.base.proofs.Lemmas.Lists.Prefixes.{IsPrefix-length}
use Rattle.xb_span.specs.declared.fault.Fault.{Fault}
use Rattle.xb_span.specs.declared.span.Span.{Span}
use Rattle.dslx_meaning.specs.declared.ty.DslxType.{DslxType}
use Rattle.dslx_meaning.specs.Rules.TypeEnvs.{GlobalEnv, Judgement, TypeEnv, settled, unlimited}
use Rattle.dslx_check_rules.specs.declared.faults.Faults.{Faults}
use Rattle.dslx_check_rules.specs.declared.typing.Typing.{Typing}
use Rattle.dslx_check_rules.specs.Seen.{seen}
use Rattle.dslx_check_rules.specs.declared.table.row.TypeId.{TypeId}
use Rattle.dslx_check_rules.specs.declared.table.row.TypeRow.{TypeRow}
use Rattle.dslx_check_rules.specs.Interned.{ItemNames, HasRow, HasRowIf, type_at, type_if}
use Rattle.dslx_check_rules.proofs.Lemmas.Types.{types_stay}
use Rattle.dslx_check_facts.specs.declared.facts.Facts.{Facts}
use Rattle.dslx_check_facts.specs.declared.facts.ForeignSeen.{ForeignSeen}
use Rattle.dslx_check_facts.specs.declared.facts.ForeignSeen.TheVariants as foreign
use Rattle.dslx_check_facts.specs.declared.type_env.ParametricArg.{ParametricArg}
use Rattle.dslx_check_facts.specs.declared.type_env.MemberEnd.{MemberEnd}
use Rattle.dslx_check_facts.specs.declared.type_env.TypeEnv.{TypeEnv as CodeEnv}
use Rattle.dslx_check_facts.specs.Judged.{Comes, HasRows, ComesToTyping, environment}
use Rattle.dslx_check_facts.specs.Known.{FactsHold, HasKnownRows, foreign_at, item_names, named_type_at, value_type_at}
use Rattle.dslx_check_facts.specs.TypeEnvs.{HasBoundRows, IsArg}
use Rattle.dslx_check_facts.specs.Typings.{HasForeignRows, IsSettled, IsTyping, IsUnlimited}
use Rattle.dslx_check_facts.specs.Walks.{WalkShown, HasTables, WalkGrows, OnlyMisses}
use Rattle.dslx_check_facts.proofs.Lemmas.Walks.{misses_grows, nothing_missing, reached_none, tables_trans}

-- ---- rows

pub row_stays : (rows later : List TypeRow) (t : TypeId) → IsPrefix rows later → HasRow rows t → HasRow later t
row_stays rows later t p h = omega (arith, h, IsPrefix-length rows later p)

pub row_stays_if : (rows later : List TypeRow) (t : Option TypeId) → IsPrefix rows later → HasRowIf rows t → HasRowIf later t
row_stays_if rows later None p h = tt
row_stays_if rows later (Some t) p h = row_stays rows later t p h

pub all_weaker : {A : Type 0} (P Q : A → Type 0) (xs : List A) → ((x : A) → P x → Q x) → AllByRecursion P xs → AllByRecursion Q xs
all_weaker P Q [] weaker h = tt
all_weaker P Q (x ∷ xs) weaker h = (weaker x h.0, all_weaker P Q xs weaker h.1)

foreign_rows_stay : (rows later : List TypeRow) (there : ForeignSeen) → IsPrefix rows later → HasForeignRows rows there → HasForeignRows later there
foreign_rows_stay rows later (foreign.Parameter t) p h = row_stays_if rows later t.ty p h
foreign_rows_stay rows later (foreign.Default d) p h = row_stays_if rows later d.typing.ty p h
foreign_rows_stay rows later (foreign.Signature s) p h =
    (all_weaker (HasRowIf rows) (HasRowIf later) s.arguments.items (λ t. row_stays_if rows later t p) h.0, row_stays_if rows later s.result p h.1)

pub known_rows_stay : (rows later : List TypeRow) (f : Facts) → IsPrefix rows later → HasKnownRows rows f → HasKnownRows later f
known_rows_stay rows later f p h = record {
  named = λ i. row_stays_if rows later (named_type_at f i) p (h.named i);
  values = λ i. row_stays_if rows later (value_type_at f i) p (h.values i);
  foreign = λ n there is. foreign_rows_stay rows later there p (h.foreign n there is);
}

arg_stays : (names : ItemNames) (rows later : List TypeRow) (a : ParametricArg) → IsPrefix rows later → IsArg names rows a → IsArg names later a
arg_stays names rows later a p h = record { row = row_stays rows later a.ty p h.row; ty = types_stay names rows later a.ty p h.row ∙ h.ty }

pub bound_rows_stay : (names : ItemNames) (rows later : List TypeRow) (s : CodeEnv) → IsPrefix rows later → HasBoundRows names rows s → HasBoundRows names later s
bound_rows_stay names rows later s p h = record {
  parametric_args = all_weaker (λ (b : List ℕ × ParametricArg). IsArg names rows b.1) (λ b. IsArg names later b.1) s.parametric_args (λ b. arg_stays names rows later b.1 p) h.parametric_args;
  locals = all_weaker (λ (b : List ℕ × Option TypeId). HasRowIf rows b.1) (λ b. HasRowIf later b.1) s.locals (λ b. row_stays_if rows later b.1 p) h.locals;
  members = all_weaker (λ (b : List ℕ × MemberEnd). HasRowIf rows b.1.word) (λ b. HasRowIf later b.1.word) s.members (λ b. row_stays_if rows later b.1.word p) h.members;
}

-- what is known and bound has rows in each later table
pub rows_stay : (f : Facts) (s : CodeEnv) (old new : WalkShown) → HasTables old new → HasRows f s old → HasRows f s new
rows_stay f s old new t h = record { known = known_rows_stay old.rows new.rows f t.rows h.known; bound = bound_rows_stay (item_names f) old.rows new.rows s t.rows h.bound }

-- with one name bound more
pub rows_of_bound : (f : Facts) (s : CodeEnv) (walk : WalkShown) (name : List ℕ) (ty : Option TypeId) → HasRowIf walk.rows ty → HasRows f s walk → HasRows f (record s { locals = (name, ty) ∷ s.locals }) walk
rows_of_bound f s walk name ty there h = record { known = h.known; bound = record { parametric_args = h.bound.parametric_args; locals = (there, h.bound.locals); members = h.bound.members } }

-- ---- claims on walks, one after the other

-- what came of the first of two walks is so at the end of the second
pub comes_later : (f : Facts) (s : CodeEnv) (old mid new : WalkShown) (claim : GlobalEnv → WalkShown → Type 0) → WalkGrows mid new → Comes f s old mid claim → Comes f s old new claim
comes_later f s old mid new claim g first = λ known later tables agrees rows missing.
    first known later (tables_trans mid new later g.tables tables) agrees rows (nothing_missing mid new g missing)

-- what comes of the second one is so from the start of the first
pub comes_from : (f : Facts) (s : CodeEnv) (old mid new : WalkShown) (claim : GlobalEnv → WalkShown → Type 0) → WalkGrows old mid → Comes f s mid new claim → Comes f s old new claim
comes_from f s old mid new claim g second = λ known later tables agrees rows missing. second known later tables agrees (rows_stay f s old mid g.tables rows) missing

-- from one claim to another
pub comes_weaker : (f : Facts) (s : CodeEnv) (old new : WalkShown) (claim weaker : GlobalEnv → WalkShown → Type 0)
    → ((known : GlobalEnv) (later : WalkShown) → HasTables new later → FactsHold f later known → claim known later → weaker known later) → Comes f s old new claim → Comes f s old new weaker
comes_weaker f s old new claim weaker follows comes = λ known later tables agrees rows missing. follows known later tables agrees (comes known later tables agrees rows missing)

-- both
pub comes_both : (f : Facts) (s : CodeEnv) (old new : WalkShown) (one other : GlobalEnv → WalkShown → Type 0) → Comes f s old new one → Comes f s old new other
    → Comes f s old new (λ known later. one known later × other known later)
comes_both f s old new one other a b = λ known later tables agrees rows missing. (a known later tables agrees rows missing, b known later tables agrees rows missing)

-- ---- typings

-- by another definition that says the same there
pub judges_as : (f : Facts) (s : CodeEnv) (old new : WalkShown) (typing : Typing) (one other : TypeEnv → Judgement)
    → ((known : GlobalEnv) (later : WalkShown) → FactsHold f later known → one (environment f s known later) ≡ other (environment f s known later))
    → ComesToTyping f s old new typing one → ComesToTyping f s old new typing other
judges_as f s old new typing one other same judges = λ known later tables agrees rows missing.
    subst (IsTyping (item_names f) old new later typing) (same known later agrees) (judges known later tables agrees rows missing)

-- what a part without parts is, by a definition: a type with a row, faults, and one node
pub record IsLeaf (f : Facts) (later : WalkShown) (rows : List TypeRow) (ty : Option TypeId) (faults : Faults) (found : Option DslxType → List Fault → Judgement) (judgement : Judgement) : Type 0 where
  pub type : Option DslxType
  pub all : List Fault
  pub has_row : HasRowIf rows ty
  pub of_type : type_if (item_names f) later.rows ty ≡ type
  pub of_faults : faults ≡ seen all
  pub is : found type all ≡ judgement

pub settled_leaf : (f : Facts) (s : CodeEnv) (old new : WalkShown) (span : Span) (ty : Option TypeId) (faults : Faults) (typing : Typing) (judgement : TypeEnv → Judgement)
    → IsSettled new span ty faults (Some 1) typing → OnlyMisses old new
    → Comes f s new new (λ known later. IsLeaf f later new.rows ty faults (λ t fs. settled span t fs [] (Some 1)) (judgement (environment f s known later)))
    → ComesToTyping f s old new typing judgement
settled_leaf f s old new span ty faults typing judgement of misses comes = λ known later tables agrees rows missing.
    let leaf = comes known later tables agrees (rows_stay f s old new (misses_grows old new misses).tables rows) missing in
    subst (IsTyping (item_names f) old new later typing) leaf.is
    (of (item_names f) old later leaf.type leaf.all [] (Some 1) tables leaf.has_row leaf.of_type leaf.of_faults refl (reached_none (item_names f) later.met old.reached new.reached misses.reached))

pub unlimited_leaf : (f : Facts) (s : CodeEnv) (old new : WalkShown) (ty : Option TypeId) (faults : Faults) (typing : Typing) (judgement : TypeEnv → Judgement)
    → IsUnlimited new ty faults (Some 1) typing → OnlyMisses old new
    → Comes f s new new (λ known later. IsLeaf f later new.rows ty faults (λ t fs. unlimited t fs [] (Some 1)) (judgement (environment f s known later)))
    → ComesToTyping f s old new typing judgement
unlimited_leaf f s old new ty faults typing judgement of misses comes = λ known later tables agrees rows missing.
    let leaf = comes known later tables agrees (rows_stay f s old new (misses_grows old new misses).tables rows) missing in
    subst (IsTyping (item_names f) old new later typing) leaf.is
    (of (item_names f) old later leaf.type leaf.all [] (Some 1) leaf.has_row leaf.of_type leaf.of_faults refl (reached_none (item_names f) later.met old.reached new.reached misses.reached))
