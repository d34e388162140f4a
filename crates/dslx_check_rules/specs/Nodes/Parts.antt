-- What a typing in code is the judgement of, and what a function of nodes promises: from judgements of the parts to that of the node,
-- in each table of types that begins with the one it leaves.
use Rattle.std.specs.Prelude.{ℕ, List, [], ◌∷◌, ◌≡◌, map, Option, Some, None}
use Rattle.base.specs.Lists.Prefix.{IsPrefix}
use Rattle.xb_span.specs.declared.span.Span.{Span}
use Rattle.xb_span.specs.declared.fault.Fault.{Fault}
use Rattle.dslx_meaning.specs.declared.ty.DslxType.{DslxType}
use Rattle.dslx_meaning.specs.Rules.TypeEnvs.{Judgement, Instance, settled, unlimited}
use Rattle.dslx_meaning.specs.Rules.ConstantRules.{ConstantSeen, CountSeen}
use Rattle.dslx_check_rules.specs.declared.faults.Faults.{Faults}
use Rattle.dslx_check_rules.specs.declared.table.row.TypeId.{TypeId}
use Rattle.dslx_check_rules.specs.declared.table.row.TypeRow.{TypeRow}
use Rattle.dslx_check_rules.specs.declared.typing.Typing.{Typing}
use Rattle.dslx_check_rules.specs.Seen.{seen, capped}
use Rattle.dslx_check_rules.specs.Interned.{AreDistinct, HasRowIf, ItemNames, type_if}
use Rattle.dslx_check_rules.specs.declared.nodes.parts.ConstantTyping.{ConstantTyping}
use Rattle.dslx_check_rules.specs.declared.nodes.parts.CountTyping.{CountTyping}
use Rattle.dslx_check_rules.specs.declared.nodes.parts.Spanned.{Spanned}

-- ---- one part

-- the typing, whose type has a row, is this judgement's but for what that reaches; types are read in a later table
pub record IsPart (names : ItemNames) (rows later : List TypeRow) (typing : Typing) (judgement : Judgement) : Type 0 where
  pub row : HasRowIf rows typing.ty
  pub ty : type_if names later typing.ty ≡ judgement.ty
  pub faults : typing.faults ≡ seen judgement.faults
  pub size : typing.size ≡ capped judgement.size

pub record IsConstant (names : ItemNames) (rows later : List TypeRow) (constant : ConstantTyping) (found : ConstantSeen) : Type 0 where
  pub part : IsPart names rows later constant.typing found.judgement
  pub untyped : constant.untyped ≡ found.bare
  pub value : constant.value ≡ found.value

-- a bound: what is asked of its type and its value
pub record IsSliceBound (names : ItemNames) (later : List TypeRow) (bound : ConstantTyping) (found : ConstantSeen) : Type 0 where
  pub ty : type_if names later bound.typing.ty ≡ found.judgement.ty
  pub untyped : bound.untyped ≡ found.bare
  pub value : bound.value ≡ found.value

pub record IsCount (names : ItemNames) (rows later : List TypeRow) (n : CountTyping) (found : CountSeen) : Type 0 where
  pub part : IsPart names rows later n.typing found.judgement
  pub count : n.count ≡ found.count

-- a part that may be missing
abbrev pub IsPartIf : ItemNames → List TypeRow → List TypeRow → Option Typing → Option Judgement → Type 0
IsPartIf names rows later None None = Unit {0}
IsPartIf names rows later None (Some x) = ⊥
IsPartIf names rows later (Some typing) None = ⊥
IsPartIf names rows later (Some typing) (Some x) = IsPart names rows later typing x

-- ---- several parts

-- the two lists are equally long, and this is so of each two
abbrev pub Pairs : {A B : Type 0} → (A → B → Type 0) → List A → List B → Type 0
Pairs is [] [] = Unit {0}
Pairs is [] (b ∷ bs) = ⊥
Pairs is (a ∷ as') [] = ⊥
Pairs is (a ∷ as') (b ∷ bs) = is a b × Pairs is as' bs

-- a judgement at its place
pub record Placed : Type 0 where
  pub span : Span
  pub judgement : Judgement

abbrev pub judgements : List Placed → List Judgement
judgements xs = map (λ (x : Placed). x.judgement) xs

pub record IsPlaced (names : ItemNames) (rows later : List TypeRow) (spanned : Spanned) (x : Placed) : Type 0 where
  pub span : spanned.span ≡ x.span
  pub part : IsPart names rows later spanned.typing x.judgement

abbrev pub ArePlaced : ItemNames → List TypeRow → List TypeRow → List Spanned → List Placed → Type 0
ArePlaced names rows later parts xs = Pairs (IsPlaced names rows later) parts xs

abbrev pub IsPlacedIf : ItemNames → List TypeRow → List TypeRow → Option Spanned → Option Placed → Type 0
IsPlacedIf names rows later None None = Unit {0}
IsPlacedIf names rows later None (Some x) = ⊥
IsPlacedIf names rows later (Some part) None = ⊥
IsPlacedIf names rows later (Some part) (Some x) = IsPlaced names rows later part x

-- ---- what functions of nodes promise

pub record FromNone (half : Judgement) (new : List TypeRow) (result : Typing) : Type 0 where
  pub typed : (names : ItemNames) (later : List TypeRow) → AreDistinct names → IsPrefix new later → IsPart names new later result half

pub record FromOne (half : Judgement → Judgement) (old new : List TypeRow) (a result : Typing) : Type 0 where
  pub typed : (names : ItemNames) (later : List TypeRow) → AreDistinct names → IsPrefix new later → (x : Judgement) → IsPart names old later a x → IsPart names new later result (half x)

pub record FromTwo (half : Judgement → Judgement → Judgement) (old new : List TypeRow) (a b result : Typing) : Type 0 where
  pub typed : (names : ItemNames) (later : List TypeRow) → AreDistinct names → IsPrefix new later → (x y : Judgement) → IsPart names old later a x → IsPart names old later b y
      → IsPart names new later result (half x y)

pub record FromThree (half : Judgement → Judgement → Judgement → Judgement) (old new : List TypeRow) (a b c result : Typing) : Type 0 where
  pub typed : (names : ItemNames) (later : List TypeRow) → AreDistinct names → IsPrefix new later → (x y z : Judgement) → IsPart names old later a x → IsPart names old later b y
      → IsPart names old later c z → IsPart names new later result (half x y z)

-- from a width and from a constant
pub record FromCount (half : CountSeen → Judgement) (old new : List TypeRow) (n : CountTyping) (result : Typing) : Type 0 where
  pub typed : (names : ItemNames) (later : List TypeRow) → AreDistinct names → IsPrefix new later → (x : CountSeen) → IsCount names old later n x → IsPart names new later result (half x)

pub record CountFrom (half : ConstantSeen → CountSeen) (rows : List TypeRow) (constant : ConstantTyping) (result : CountTyping) : Type 0 where
  pub typed : (names : ItemNames) (later : List TypeRow) → AreDistinct names → IsPrefix rows later → (x : ConstantSeen) → IsConstant names rows later constant x → IsCount names rows later result (half x)

pub record FromSlice (half : Judgement → ConstantSeen → ConstantSeen → Judgement) (old new : List TypeRow) (a : Typing) (from to : ConstantTyping) (result : Typing) : Type 0 where
  pub typed : (names : ItemNames) (later : List TypeRow) → AreDistinct names → IsPrefix new later → (x : Judgement) (y z : ConstantSeen) → IsPart names old later a x
      → IsConstant names old later from y → IsConstant names old later to z → IsPart names new later result (half x y z)

-- from several parts
pub record FromAll (half : List Placed → Judgement) (old new : List TypeRow) (parts : List Spanned) (result : Typing) : Type 0 where
  pub typed : (names : ItemNames) (later : List TypeRow) → AreDistinct names → IsPrefix new later → (xs : List Placed) → ArePlaced names old later parts xs → IsPart names new later result (half xs)

-- from a part and a width
pub record FromPartAndCount (half : Judgement → CountSeen → Judgement) (old new : List TypeRow) (a : Typing) (n : CountTyping) (result : Typing) : Type 0 where
  pub typed : (names : ItemNames) (later : List TypeRow) → AreDistinct names → IsPrefix new later → (x : Judgement) (y : CountSeen) → IsPart names old later a x
      → IsCount names old later n y → IsPart names new later result (half x y)

-- what a node of these comes to is settled
pub record Settles (span : Span) (rows : List TypeRow) (ty : Option TypeId) (faults : Faults) (size : Option ℕ) (result : Typing) : Type 0 where
  pub typed : (names : ItemNames) (later : List TypeRow) → IsPrefix rows later → HasRowIf rows ty → (t : Option DslxType) (fs : List Fault) (reached : List Instance) (n : Option ℕ)
      → type_if names later ty ≡ t → faults ≡ seen fs → size ≡ capped n → IsPart names rows later result (settled span t fs reached n)

-- the same without limits
pub record Unlimits (ty : Option TypeId) (faults : Faults) (size : Option ℕ) (result : Typing) : Type 0 where
  pub typed : (names : ItemNames) (rows later : List TypeRow) → HasRowIf rows ty → (t : Option DslxType) (fs : List Fault) (reached : List Instance) (n : Option ℕ)
      → type_if names later ty ≡ t → faults ≡ seen fs → size ≡ capped n → IsPart names rows later result (unlimited t fs reached n)
