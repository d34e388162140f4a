-- What a function of a walk promises: it only adds to the walk, leaves what is in scope as it was, and what it comes to is, by the definitions,
-- what the part is, at every global environment that says what is known, wherever the walk goes on to, if it asked for nothing that isn't known.
use Rattle.std.specs.Prelude.{ℕ, List, [], ◌∷◌, ◌++◌, ◌≡◌, Option, Some, None, length, drop, map}
use Rattle.dslx_meaning.specs.Rules.TypeEnvs.{Instance, Judgement, TypeEnv, Typed, faults_of_all, reached_of_all}
use Rattle.dslx_meaning.specs.Rules.CallRules.{ChannelSeen, ParametricArgument as GivenSeen}
use Rattle.dslx_meaning.specs.Rules.ConstantRules.{ConstantSeen, CountSeen}
use Rattle.dslx_check_rules.specs.declared.table.row.TypeRow.{TypeRow}
use Rattle.dslx_check_rules.specs.declared.typing.Typing.{Typing}
use Rattle.dslx_check_rules.specs.Interned.{HasRowIf, ItemNames, type_if}
use Rattle.dslx_check_facts.specs.declared.facts.Facts.{Facts}
use Rattle.dslx_check_facts.specs.declared.type_env.TypeEnv.{TypeEnv as CodeEnv}
use Rattle.dslx_check_facts.specs.Judged.{Comes, environment}
use Rattle.dslx_check_facts.specs.Known.{item_names}
use Rattle.dslx_check_facts.specs.Walks.{WalkShown, WalkGrows, instances_at}
use Rattle.dslx_check_rules.specs.declared.nodes.parts.ConstantTyping.{ConstantTyping}
use Rattle.dslx_check_rules.specs.declared.nodes.parts.CountTyping.{CountTyping}
use Rattle.dslx_check_rules.specs.declared.nodes.parts.Spanned.{Spanned}
use Rattle.std.specs.List.{AllByRecursion}
use Rattle.dslx_meaning.specs.Rules.Typings.{ArmSeen as ArmTree, PatternPair, PatternSeen, StatementSeen}
use Rattle.dslx_meaning.specs.Rules.ControlRules.{ArmTyping as ArmSeen, alternatives_seen, annotation_reached, arm_typing}
use Rattle.dslx_check_rules.specs.declared.faults.Faults.{Faults}
use Rattle.dslx_check_rules.specs.Seen.{seen}
use Rattle.dslx_check_rules.specs.declared.control.effects.ChannelTyping.{ChannelTyping}
use Rattle.dslx_check_rules.specs.Control.Effects.{IsEffectChannel}
use Rattle.dslx_check_rules.specs.declared.control.matches.ArmTyping.{ArmTyping}
use Rattle.dslx_check_rules.specs.declared.control.matches.AlternativesTyping.{AlternativesTyping}
use Rattle.dslx_check_rules.specs.Control.Matches.{AreArms, IsAlternatives, IsArm}
use Rattle.dslx_check_rules.specs.declared.control.calls.ParametricArgument.{ParametricArgument}
use Rattle.dslx_check_rules.specs.Control.Calls.{IsGiven}
use Rattle.dslx_check_rules.specs.declared.table.row.TypeId.{TypeId}
use Rattle.dslx_check_facts.specs.Bound.{bound_names}
use Rattle.dslx_check_facts.specs.TypeEnvs.{HasBoundRows, typed_of}
use Rattle.dslx_check_rules.specs.declared.control.control.StatementTyping.{StatementTyping}
use Rattle.dslx_check_rules.specs.declared.control.patterns.PatternTyping.{PatternTyping}
use Rattle.dslx_check_rules.specs.Control.Control.{IsStatement}
use Rattle.dslx_check_rules.specs.Control.Patterns.{IsPattern}
use Rattle.dslx_check_rules.specs.declared.nodes.arrays.Element.{Element}
use Rattle.dslx_check_rules.specs.Nodes.Nodes.Arrays.{ElementSeen, IsElement, Untyped, Value}
use Rattle.dslx_check_rules.specs.Nodes.Parts.{Pairs, IsPart, IsPartIf, IsConstant, IsCount, IsPlaced, IsPlacedIf, Placed}
use Rattle.dslx_check_leaves.specs.Fits.Typed.{PatternFrom}

-- what is said of what a walk comes to: by the rows at its end and a later walk, by the instances that it reached, at a type environment
abbrev pub Claim : Type 1
Claim = ItemNames → List TypeRow → WalkShown → List ℕ → TypeEnv → Type 0

-- a walk from one place to another, which leaves what is in scope as it was
pub record WalksTo (f : Facts) (before after : CodeEnv) (old new : WalkShown) (claim : Claim) : Type 0 where
  pub grows : WalkGrows old new
  pub sight : after ≡ before
  pub holds : Comes f before old new (λ known later. claim (item_names f) new.rows later (drop (length old.reached) new.reached) (environment f before known later))

-- what several parts reach
abbrev pub all_reached : {D : Type 0} → (D → List Instance) → List D → List Instance
all_reached reached [] = []
all_reached reached (d ∷ ds) = reached d ++ all_reached reached ds

-- ---- parts

pub record TypesPart (j : Typing) (judged : TypeEnv → Judgement) (names : ItemNames) (rows : List TypeRow) (later : WalkShown) (more : List ℕ) (env : TypeEnv) : Type 0 where
  pub part : IsPart names rows later.rows j (judged env)
  pub reaches : instances_at names later.met more ≡ (judged env).reached

-- a constant
pub record TypesConstant (c : ConstantTyping) (found : TypeEnv → ConstantSeen) (names : ItemNames) (rows : List TypeRow) (later : WalkShown) (more : List ℕ) (env : TypeEnv) : Type 0 where
  pub constant : IsConstant names rows later.rows c (found env)
  pub reaches : instances_at names later.met more ≡ (found env).judgement.reached

-- a width, a size or a depth
pub record TypesCount (n : CountTyping) (found : TypeEnv → CountSeen) (names : ItemNames) (rows : List TypeRow) (later : WalkShown) (more : List ℕ) (env : TypeEnv) : Type 0 where
  pub count : IsCount names rows later.rows n (found env)
  pub reaches : instances_at names later.met more ≡ (found env).judgement.reached

-- a part of another kind
pub record TypesOne {C D : Type 0} (is : ItemNames → List TypeRow → List TypeRow → C → D → Type 0) (reached : D → List Instance) (c : C) (d : TypeEnv → D)
    (names : ItemNames) (rows : List TypeRow) (later : WalkShown) (more : List ℕ) (env : TypeEnv) : Type 0 where
  pub part : is names rows later.rows c (d env)
  pub reaches : instances_at names later.met more ≡ reached (d env)

-- several parts one after another, each of which is what stands in its place there
pub record TypesEach {C D : Type 0} (is : ItemNames → List TypeRow → List TypeRow → C → D → Type 0) (reached : D → List Instance) (cs : List C) (ds : TypeEnv → List D)
    (names : ItemNames) (rows : List TypeRow) (later : WalkShown) (more : List ℕ) (env : TypeEnv) : Type 0 where
  pub parts : Pairs (is names rows later.rows) cs (ds env)
  pub reaches : instances_at names later.met more ≡ all_reached reached (ds env)

-- an effect's channel
pub record TypesChannel (c : ChannelTyping) (channel : TypeEnv → ChannelSeen) (items : ItemNames) (rows : List TypeRow) (later : WalkShown) (more : List ℕ) (env : TypeEnv) : Type 0 where
  pub is : IsEffectChannel items rows later.rows env c (channel env)
  pub reaches : instances_at items later.met more ≡ (channel env).judgement.reached

abbrev pub JudgedChannel : Facts → CodeEnv → CodeEnv → WalkShown → WalkShown → ChannelTyping → (TypeEnv → ChannelSeen) → Type 0
JudgedChannel f before after old new c channel = WalksTo f before after old new (TypesChannel c channel)

-- the faults alone
pub record TypesFaults (faults : Faults) (judged : TypeEnv → List Judgement) (items : ItemNames) (rows : List TypeRow) (later : WalkShown) (more : List ℕ) (env : TypeEnv) : Type 0 where
  pub is : faults ≡ seen (faults_of_all (judged env))
  pub reaches : instances_at items later.met more ≡ reached_of_all (judged env)

abbrev pub JudgedFaults : Facts → CodeEnv → CodeEnv → WalkShown → WalkShown → Faults → (TypeEnv → List Judgement) → Type 0
JudgedFaults f before after old new faults judged = WalksTo f before after old new (TypesFaults faults judged)

-- parametric arguments that are written
abbrev pub given_reached : GivenSeen → List Instance
given_reached g = g.seen.judgement.reached

abbrev pub JudgedGiven : Facts → CodeEnv → CodeEnv → WalkShown → WalkShown → List ParametricArgument → (TypeEnv → List GivenSeen) → Type 0
JudgedGiven f before after old new given found = WalksTo f before after old new (TypesEach IsGiven given_reached given found)

-- ---- patterns

-- names that patterns have bound, the last one first
abbrev pub PatternNames : Type 0
PatternNames = List (List ℕ × Option TypeId)

abbrev pub HasBound : List TypeRow → PatternNames → Type 0
HasBound rows bound = AllByRecursion (λ b. HasRowIf rows b.1) bound

-- what a pattern comes to by the definitions, where these names are in scope around all that was bound
pub record BindsAs (items : ItemNames) (later : WalkShown) (more : List ℕ) (p : PatternTyping) (after : PatternNames) (around : List Typed) (x : PatternSeen) : Type 0 where
  pub typing : IsPattern p x
  pub names : x.names ≡ bound_names after
  pub locals : x.locals ≡ map (typed_of items later.rows) after ++ around
  pub reaches : instances_at items later.met more ≡ x.reached

-- a pattern against a value of this type, from what was bound before it. It is so whatever is in scope around it
pub record TypesPattern (p : PatternTyping) (old : List TypeRow) (ty : Option TypeId) (before after : PatternNames) (pattern : PatternFrom)
    (items : ItemNames) (rows : List TypeRow) (later : WalkShown) (more : List ℕ) (env : TypeEnv) : Type 0 where
  pub bound : HasRowIf old ty → HasBound old before → HasBound rows after
  pub binds : HasRowIf old ty → HasBound old before → (around : List Typed)
      → BindsAs items later more p after around (pattern env (type_if items later.rows ty) (bound_names before) (map (typed_of items later.rows) before ++ around))

abbrev pub JudgedPattern : Facts → CodeEnv → CodeEnv → WalkShown → WalkShown → PatternTyping → Option TypeId → PatternNames → PatternNames → PatternFrom → Type 0
JudgedPattern f before after old new p ty bound now pattern = WalksTo f before after old new (TypesPattern p old.rows ty bound now pattern)

-- ---- arms

-- an arm and all arms of a match of a value of this type
abbrev pub arm_reached : ArmSeen → List Instance
arm_reached a = a.seen.reached ++ a.value.reached

pub record TypesArm (arm : ArmTyping) (old : List TypeRow) (ty : Option TypeId) (tree : ArmTree) (items : ItemNames) (rows : List TypeRow) (later : WalkShown) (more : List ℕ) (env : TypeEnv) : Type 0 where
  pub is : HasRowIf old ty → IsArm items rows later.rows arm (arm_typing env (type_if items later.rows ty) tree)
  pub reaches : HasRowIf old ty → instances_at items later.met more ≡ arm_reached (arm_typing env (type_if items later.rows ty) tree)

pub record TypesArms (arms : List ArmTyping) (old : List TypeRow) (ty : Option TypeId) (trees : List ArmTree) (items : ItemNames) (rows : List TypeRow) (later : WalkShown) (more : List ℕ) (env : TypeEnv) : Type 0 where
  pub are : HasRowIf old ty → AreArms items rows later.rows arms (map (arm_typing env (type_if items later.rows ty)) trees)
  pub reaches : HasRowIf old ty → instances_at items later.met more ≡ all_reached arm_reached (map (arm_typing env (type_if items later.rows ty)) trees)

-- the alternatives of an arm, each from what is in scope around the arm; what they bind is in scope in the arm's value, the first one's last
abbrev pub all_bound : List PatternNames → PatternNames
all_bound [] = []
all_bound (b ∷ bs) = b ++ all_bound bs

pub record TypesAlternatives (j : AlternativesTyping) (old : List TypeRow) (ty : Option TypeId) (bound : List PatternNames) (patterns : List PatternPair)
    (items : ItemNames) (rows : List TypeRow) (later : WalkShown) (more : List ℕ) (env : TypeEnv) : Type 0 where
  pub there : HasRowIf old ty → HasBound rows (all_bound bound)
  pub typing : HasRowIf old ty → IsAlternatives j (alternatives_seen env (type_if items later.rows ty) patterns)
  pub locals : HasRowIf old ty → (alternatives_seen env (type_if items later.rows ty) patterns).locals ≡ map (typed_of items later.rows) (all_bound bound) ++ env.locals
  pub reaches : HasRowIf old ty → instances_at items later.met more ≡ (alternatives_seen env (type_if items later.rows ty) patterns).reached

abbrev pub JudgedArm : Facts → CodeEnv → CodeEnv → WalkShown → WalkShown → ArmTyping → Option TypeId → ArmTree → Type 0
JudgedArm f before after old new arm ty tree = WalksTo f before after old new (TypesArm arm old.rows ty tree)

abbrev pub JudgedArms : Facts → CodeEnv → CodeEnv → WalkShown → WalkShown → List ArmTyping → Option TypeId → List ArmTree → Type 0
JudgedArms f before after old new arms ty trees = WalksTo f before after old new (TypesArms arms old.rows ty trees)

-- these names come behind those that are there
pub record JudgedAlternatives (f : Facts) (before after : CodeEnv) (old new : WalkShown) (j : AlternativesTyping) (ty : Option TypeId) (bound now : List PatternNames) (patterns : List PatternPair) : Type 0 where
  pub more : List PatternNames
  pub is : now ≡ bound ++ more
  pub walked : WalksTo f before after old new (TypesAlternatives j old.rows ty more patterns)

-- ---- statements

-- what is in scope behind statements: what was before, with more names and more ends with a site in front
pub record IsBehind (before after : CodeEnv) : Type 0 where
  pub locals : PatternNames
  pub used : List (List ℕ × Unit {0})
  pub is : after ≡ record before { locals = locals ++ before.locals; used = used ++ before.used }

-- an effect's channel has a site from here on
abbrev pub used_now : Option (List ℕ) → List (List ℕ × Unit {0}) → List (List ℕ × Unit {0})
used_now None used = used
used_now (Some name) used = (name, tt) ∷ used

-- the same as a claim, which is of what is in scope at the end, too
abbrev pub MoveClaim : Type 1
MoveClaim = ItemNames → List TypeRow → WalkShown → List ℕ → TypeEnv → TypeEnv → Type 0

-- a walk from one place to another, which may bind names
pub record Moved (f : Facts) (before after : CodeEnv) (old new : WalkShown) (claim : MoveClaim) : Type 0 where
  pub grows : WalkGrows old new
  pub behind : IsBehind before after
  pub bound : Comes f before old new (λ known later. HasBoundRows (item_names f) new.rows after)
  pub holds : Comes f before old new (λ known later. claim (item_names f) new.rows later (drop (length old.reached) new.reached) (environment f before known later) (environment f after known later))

pub record TypesStatements (j : StatementTyping) (statements : TypeEnv → StatementSeen) (items : ItemNames) (rows : List TypeRow) (later : WalkShown) (more : List ℕ) (env after : TypeEnv) : Type 0 where
  pub context : after ≡ (statements env).context
  pub typing : IsStatement j (statements env)
  pub reaches : instances_at items later.met more ≡ (statements env).reached

abbrev pub JudgedStatements : Facts → CodeEnv → CodeEnv → WalkShown → WalkShown → StatementTyping → (TypeEnv → StatementSeen) → Type 0
JudgedStatements f before after old new j statements = Moved f before after old new (TypesStatements j statements)

-- ---- walks that come to such

abbrev pub JudgesPart : Facts → CodeEnv → CodeEnv → WalkShown → WalkShown → Typing → (TypeEnv → Judgement) → Type 0
JudgesPart f before after old new j judged = WalksTo f before after old new (TypesPart j judged)

abbrev pub JudgedConstant : Facts → CodeEnv → CodeEnv → WalkShown → WalkShown → ConstantTyping → (TypeEnv → ConstantSeen) → Type 0
JudgedConstant f before after old new c found = WalksTo f before after old new (TypesConstant c found)

abbrev pub JudgedCount : Facts → CodeEnv → CodeEnv → WalkShown → WalkShown → CountTyping → (TypeEnv → CountSeen) → Type 0
JudgedCount f before after old new n found = WalksTo f before after old new (TypesCount n found)

abbrev pub reached_there : Placed → List Instance
reached_there x = x.judgement.reached

abbrev pub JudgedIf : Facts → CodeEnv → CodeEnv → WalkShown → WalkShown → Option Typing → (TypeEnv → Option Judgement) → Type 0
JudgedIf f before after old new j judged = WalksTo f before after old new (TypesOne IsPartIf annotation_reached j judged)

abbrev pub reached_if : Option Placed → List Instance
reached_if None = []
reached_if (Some x) = x.judgement.reached

abbrev pub PlacedIf : Facts → CodeEnv → CodeEnv → WalkShown → WalkShown → Option Spanned → (TypeEnv → Option Placed) → Type 0
PlacedIf f before after old new p placed = WalksTo f before after old new (TypesOne IsPlacedIf reached_if p placed)

abbrev pub PlacedOne : Facts → CodeEnv → CodeEnv → WalkShown → WalkShown → Spanned → (TypeEnv → Placed) → Type 0
PlacedOne f before after old new p placed = WalksTo f before after old new (TypesOne IsPlaced reached_there p placed)

abbrev pub element_reached : ElementSeen → List Instance
element_reached (Untyped span number) = []
element_reached (Value x) = x.judgement.reached

abbrev pub ElementOne : Facts → CodeEnv → CodeEnv → WalkShown → WalkShown → Element → (TypeEnv → ElementSeen) → Type 0
ElementOne f before after old new e element = WalksTo f before after old new (TypesOne IsElement element_reached e element)

abbrev pub ElementAll : Facts → CodeEnv → CodeEnv → WalkShown → WalkShown → List Element → (TypeEnv → List ElementSeen) → Type 0
ElementAll f before after old new es elements = WalksTo f before after old new (TypesEach IsElement element_reached es elements)

abbrev pub JudgedAll : Facts → CodeEnv → CodeEnv → WalkShown → WalkShown → List Spanned → (TypeEnv → List Placed) → Type 0
JudgedAll f before after old new all judged = WalksTo f before after old new (TypesEach IsPlaced reached_there all judged)
