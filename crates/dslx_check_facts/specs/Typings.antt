-- What a walk comes to, and whose typing that is.
use Rattle.std.specs.Prelude.{ℕ, List, ◌≡◌, ◌++◌, map, Bool, false, Option, Some, None}
use Rattle.std.specs.List.{AllByRecursion}
use Rattle.dslx_meaning.specs.declared.value.DslxValue.{DslxValue}
use Rattle.xb_span.specs.declared.fault.Fault.{Fault}
use Rattle.xb_span.specs.declared.span.Span.{Span}
use Rattle.dslx_meaning.specs.declared.ty.DslxType.{DslxType}
use Rattle.dslx_meaning.specs.Rules.TypeEnvs.{GlobalEnv, Instance, Judgement, DefaultSeen, Signature, settled, unlimited}
use Rattle.dslx_check_rules.specs.declared.faults.Faults.{Faults}
use Rattle.dslx_check_rules.specs.declared.table.row.TypeId.{TypeId}
use Rattle.dslx_check_rules.specs.declared.table.row.TypeRow.{TypeRow}
use Rattle.dslx_check_rules.specs.declared.typing.Typing.{Typing}
use Rattle.dslx_check_rules.specs.Seen.{seen, capped}
use Rattle.dslx_check_rules.specs.Interned.{ItemNames, HasRowIf, type_if}
use Rattle.dslx_check_facts.specs.declared.asked.ForeignKey.{ForeignKey}
use Rattle.dslx_check_facts.specs.declared.facts.TypingThere.{TypingThere}
use Rattle.dslx_check_facts.specs.declared.facts.DefaultThere.{DefaultThere}
use Rattle.dslx_check_facts.specs.declared.facts.SignatureThere.{SignatureThere}
use Rattle.dslx_check_facts.specs.declared.facts.ForeignSeen.{ForeignSeen}
use Rattle.dslx_check_facts.specs.declared.facts.ForeignSeen.TheVariants as foreign
use Rattle.dslx_check_facts.specs.Keys.{list_or_none}
use Rattle.dslx_check_facts.specs.Walks.{HasTables, WalkShown, instances_at}

-- ---- of the declaration that is walked

-- the typing that a walk came to between these two states is this judgement, whatever the walk's tables hold later
pub record IsTyping (names : ItemNames) (old new later : WalkShown) (typing : Typing) (judgement : Judgement) : Type 0 where
  pub row : HasRowIf new.rows typing.ty
  pub ty : type_if names later.rows typing.ty ≡ judgement.ty
  pub faults : typing.faults ≡ seen judgement.faults
  pub reached : instances_at names later.met new.reached ≡ instances_at names later.met old.reached ++ judgement.reached
  pub size : typing.size ≡ capped judgement.size

-- a part of this type, with the faults of it and its parts and with so many nodes, has this typing where no limit applies to it
abbrev pub IsUnlimited : WalkShown → Option TypeId → Faults → Option ℕ → Typing → Type 0
IsUnlimited new ty faults size typing =
    (names : ItemNames) (old later : WalkShown) (t : Option DslxType) (fs : List Fault) (reached : List Instance) (n : Option ℕ)
    → HasRowIf new.rows ty → type_if names later.rows ty ≡ t → faults ≡ seen fs → size ≡ capped n
    → instances_at names later.met new.reached ≡ instances_at names later.met old.reached ++ reached
    → IsTyping names old new later typing (unlimited t fs reached n)

-- and this one with the limits on its type
abbrev pub IsSettled : WalkShown → Span → Option TypeId → Faults → Option ℕ → Typing → Type 0
IsSettled new span ty faults size typing =
    (names : ItemNames) (old later : WalkShown) (t : Option DslxType) (fs : List Fault) (reached : List Instance) (n : Option ℕ)
    → HasTables new later → HasRowIf new.rows ty → type_if names later.rows ty ≡ t → faults ≡ seen fs → size ≡ capped n
    → instances_at names later.met new.reached ≡ instances_at names later.met old.reached ++ reached
    → IsTyping names old new later typing (settled span t fs reached n)

-- ---- of other declarations

-- what is there for a call that rule 3 refuses has the type alone
pub record IsTypingThere (names : ItemNames) (later : WalkShown) (is_refused : Bool) (there : TypingThere) (judgement : Judgement) : Type 0 where
  pub ty : type_if names later.rows there.ty ≡ judgement.ty
  pub faults : is_refused ≡ false → there.faults ≡ seen judgement.faults
  pub reached : is_refused ≡ false → instances_at names later.met there.reached.items ≡ judgement.reached

pub record IsDefault (names : ItemNames) (later : WalkShown) (is_refused : Bool) (there : DefaultThere) (default : DefaultSeen) : Type 0 where
  pub typing : IsTypingThere names later is_refused there.typing default.judgement
  pub value : there.value ≡ default.value

pub record IsSignature (names : ItemNames) (later : WalkShown) (there : SignatureThere) (signature : Signature) : Type 0 where
  pub arguments : map (type_if names later.rows) there.arguments.items ≡ signature.arguments
  pub result : type_if names later.rows there.result ≡ signature.result

-- what is there of a part of another declaration is what the global environment has for it
abbrev pub IsForeign : ItemNames → GlobalEnv → WalkShown → ForeignKey → ForeignSeen → Type 0
IsForeign names known later k (foreign.Parameter t) = IsTypingThere names later k.is_refused t (known.parameter_in (names.item k.item) (list_or_none later.prefixes k.prefix))
IsForeign names known later k (foreign.Default d) = IsDefault names later k.is_refused d (known.default_in (names.item k.item) (list_or_none later.prefixes k.prefix))
IsForeign names known later k (foreign.Signature s) = IsSignature names later s (known.signature_in (names.item k.item) (list_or_none later.prefixes k.prefix))

-- each of its types has a row
abbrev pub HasForeignRows : List TypeRow → ForeignSeen → Type 0
HasForeignRows rows (foreign.Parameter t) = HasRowIf rows t.ty
HasForeignRows rows (foreign.Default d) = HasRowIf rows d.typing.ty
HasForeignRows rows (foreign.Signature s) = AllByRecursion (HasRowIf rows) s.arguments.items × HasRowIf rows s.result

-- what is there, as a part of each kind
abbrev pub parameter_of : Option ForeignSeen → Option TypingThere
parameter_of (Some (foreign.Parameter t)) = Some t
parameter_of _ = None

abbrev pub default_of : Option ForeignSeen → Option DefaultThere
default_of (Some (foreign.Default d)) = Some d
default_of _ = None

abbrev pub signature_of : Option ForeignSeen → Option SignatureThere
signature_of (Some (foreign.Signature s)) = Some s
signature_of _ = None
