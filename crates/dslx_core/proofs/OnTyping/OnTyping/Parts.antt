-- Instances that a judgement reaches, by those of its parts.
use Rattle.std.proofs.Common.{◌≡◌, ◌++◌, ℕ, zero, suc, Bool, true, false, if◌then◌else◌, List, [], ◌∷◌, Option, Some, None}
use Rattle.xb_span.specs.declared.span.Span.{Span}
use Rattle.xb_span.specs.declared.fault.Fault.{Fault}
use Rattle.dslx_tree.specs.declared.ident.Ident.{Ident}
use Rattle.dslx_tree.specs.declared.item.Enum.{Enum}
use Rattle.dslx_meaning.specs.Environment.{given_in}
use Rattle.dslx_meaning.specs.Items.{as_enum, item_named}
use Rattle.dslx_meaning.specs.Lists.{is_in}
use Rattle.dslx_meaning.specs.Types.{holds_token}
use Rattle.dslx_meaning.specs.declared.ty.DslxType.{DslxType, out-DslxType}
use Rattle.dslx_meaning.specs.declared.value.UntypedLiteral.{UntypedLiteral}
use Rattle.dslx_meaning.specs.declared.value.DslxValue.{DslxValue}
use Rattle.dslx_meaning.specs.Rules.AggregateRules.{element_in, field_typing, is_some_tuple, pair_alone, pair_or_alone, range_faults, wanted_faults}
use Rattle.dslx_meaning.specs.Rules.ConstantRules.{ConstantSeen, untyped_typing, constant_of, constant_or_untyped}
use Rattle.dslx_meaning.specs.Rules.TypeEnvs.{ExprPair, Instance, Judgement, ExprTyping, GlobalEnv, TypeEnv, Typed, alone, untyped_of, breaks, no_token, settled, span_of, typed_in}
use Rattle.dslx_meaning.specs.Rules.Typings.{ArmSeen, FieldSeen, PatternTyping, TypeExprTyping, StatementTyping}
use Rattle.dslx_meaning.specs.Rules.ControlRules.{arm_typing}
use Rattle.dslx_meaning.specs.Rules.Mentions.{Mention, Mentions, NamesBound}
use Rattle.dslx_meaning.specs.Rules.NameRules.{end_or_other, local_or_other, member_typing, member_of, name_typing, parametric_or_item, item_value}
use Rattle.dslx_core.specs.Typing.TypingRelations.Reached.{AllNamed, MentionsReach}

-- ---- lists

pub join : (P : List ℕ → Bool) (xs ys : List Instance) → AllNamed P xs → AllNamed P ys → AllNamed P (xs ++ ys)
join P [] ys h k = k
join P (x ∷ xs) ys h k = (h.0, join P xs ys h.1 k)

pub join_three : (P : List ℕ → Bool) (xs ys zs : List Instance) → AllNamed P xs → AllNamed P ys → AllNamed P zs → AllNamed P ((xs ++ ys) ++ zs)
join_three P xs ys zs h k l = join P (xs ++ ys) zs (join P xs ys h k) l

pub parts : (P : List ℕ → Bool) (known : GlobalEnv) (owner : List ℕ) (xs ys : List Mention) → MentionsReach P known owner (xs ++ ys) → MentionsReach P known owner xs × MentionsReach P known owner ys
parts P known owner [] ys h = (tt, h)
parts P known owner (x ∷ xs) ys h = let r = parts P known owner xs ys h.1 in ((h.0, r.0), r.1)

pub three_parts : (P : List ℕ → Bool) (known : GlobalEnv) (owner : List ℕ) (xs ys zs : List Mention) → MentionsReach P known owner ((xs ++ ys) ++ zs)
    → MentionsReach P known owner xs × MentionsReach P known owner ys × MentionsReach P known owner zs
three_parts P known owner xs ys zs h =
    let r = parts P known owner (xs ++ ys) zs h in
    let q = parts P known owner xs ys r.0 in
    (q.0, q.1, r.1)

-- ---- expressions as what is around them sees them

pub unmarked : (P : List ℕ → Bool) (span : Span) (j : Judgement) → AllNamed P j.reached → AllNamed P (no_token span j).reached
unmarked P span j h = by_type j.ty j.faults j.reached j.size h
  where
    by_test : (u : DslxType) (faults : List Fault) (reached : List Instance) (size : Option ℕ) (b : Bool) → AllNamed P reached
        → AllNamed P (if◌then◌else◌ {A = Judgement} b (record { ty = None; faults = faults ++ breaks 28 span ∷ []; reached = reached; size = size }) (record { ty = Some u; faults = faults; reached = reached; size = size })).reached
    by_test u faults reached size true k = k
    by_test u faults reached size false k = k

    by_type : (ty : Option DslxType) (faults : List Fault) (reached : List Instance) (size : Option ℕ) → AllNamed P reached → AllNamed P (no_token span (record { ty = ty; faults = faults; reached = reached; size = size })).reached
    by_type None faults reached size k = k
    by_type (Some u) faults reached size k = by_test u faults reached size (holds_token u) k

pair_reaches : (P : List ℕ → Bool) (context : TypeEnv) (e : ExprPair) → AllNamed P (e.1 false context).reached → AllNamed P (pair_alone context e).reached
pair_reaches P context e h = by_type (e.1 false context).ty (e.1 false context) h
  where
    if_pair : Judgement → Option DslxType → Judgement
    if_pair j None = j
    if_pair j (Some t) = if is_some_tuple (out-DslxType t) then j else no_token (span_of e) j

    by_test : (b : Bool) (j : Judgement) → AllNamed P j.reached → AllNamed P (if b then j else no_token (span_of e) j).reached
    by_test true j k = k
    by_test false j k = unmarked P (span_of e) j k

    by_type : (o : Option DslxType) (j : Judgement) → AllNamed P j.reached → AllNamed P (if_pair j o).reached
    by_type None j k = k
    by_type (Some t) j k = by_test (is_some_tuple (out-DslxType t)) j k

pub taken_reaches : (P : List ℕ → Bool) (k : ℕ) (context : TypeEnv) (e : ExprPair) → AllNamed P (e.1 false context).reached → AllNamed P (pair_or_alone k context e).reached
taken_reaches P zero context e h = pair_reaches P context e h
taken_reaches P (suc zero) context e h = pair_reaches P context e h
taken_reaches P (suc (suc k)) context e h = unmarked P (span_of e) (e.1 false context) h

-- an element of a literal, which may be a number without a type
abbrev element_by : TypeEnv → Option DslxType → ExprPair → Option UntypedLiteral → Judgement
element_by context wanted e None = let j = alone context e in record j { faults = j.faults ++ wanted_faults (span_of e) wanted j.ty }
element_by context wanted e (Some number) = record untyped_typing { ty = wanted; faults = range_faults (span_of e) wanted number }

pub element_reaches : (P : List ℕ → Bool) (context : TypeEnv) (wanted : Option DslxType) (e : ExprPair) → AllNamed P (alone context e).reached → AllNamed P (element_in context wanted e).reached
element_reaches P context wanted e h = by_untyped (untyped_of e)
  where
    by_untyped : (o : Option UntypedLiteral) → AllNamed P (element_by context wanted e o).reached
    by_untyped None = h
    by_untyped (Some number) = tt

-- a constant, which may be a number without a type
abbrev constant_by : TypeEnv → ExprPair → Option UntypedLiteral → ConstantSeen
constant_by context e None = constant_of context e
constant_by context e (Some number) = record { judgement = untyped_typing; bare = Some number; value = None }

pub constant_reaches : (P : List ℕ → Bool) (context : TypeEnv) (e : ExprPair) → AllNamed P (alone context e).reached → AllNamed P (constant_or_untyped context e).judgement.reached
constant_reaches P context e h = by_untyped (untyped_of e)
  where
    by_untyped : (o : Option UntypedLiteral) → AllNamed P (constant_by context e o).judgement.reached
    by_untyped None = h
    by_untyped (Some number) = tt

-- ---- names

pub name_reaches : (P : List ℕ → Bool) (span : Span) (context : TypeEnv) (name : List ℕ) → AllNamed P (name_typing span context name).reached
name_reaches P span context name = by_local (typed_in name context.locals)
  where
    by_item : (b : Bool) → AllNamed P (item_value span context name b).reached
    by_item true = tt
    by_item false = tt

    by_unknown : (b : Bool) → AllNamed P (if b then settled span None [] [] (Some 1) else item_value span context name (context.known.items.is_constant name)).reached
    by_unknown true = tt
    by_unknown false = by_item (context.known.items.is_constant name)

    by_number : (o : Option DslxValue) → AllNamed P (parametric_or_item span context name o).reached
    by_number None = by_unknown (is_in name context.unknown)
    by_number (Some v) = tt

    by_end : (b : Bool) → AllNamed P (end_or_other span context name b).reached
    by_end true = tt
    by_end false = by_number (given_in name context.parametric_args)

    by_local : (o : Option (Option DslxType)) → AllNamed P (local_or_other span context name o).reached
    by_local None = by_end (is_in name context.ends)
    by_local (Some ty) = tt

pub member_reaches : (P : List ℕ → Bool) (context : TypeEnv) (e a : Ident) → AllNamed P (member_typing context e a).reached
member_reaches P context e a = by_enum (as_enum (item_named e.name context.known.whole.items))
  where
    by_enum : (o : Option Enum) → AllNamed P (member_of context e a o).reached
    by_enum None = tt
    by_enum (Some declared) = tt

-- ---- what is to hold of each sort

-- an expression, a block, and what is judged like a type
abbrev pub Reaches : (List ℕ → Bool) → ExprTyping → Mentions → Type 0
Reaches P j ms = (bound : List (List ℕ)) (on_top : Bool) (context : TypeEnv) → MentionsReach P context.known context.owner (ms bound) → AllNamed P (j on_top context).reached

abbrev pub TypeReaches : (List ℕ → Bool) → TypeExprTyping → Mentions → Type 0
TypeReaches P j ms = (bound : List (List ℕ)) (context : TypeEnv) → MentionsReach P context.known context.owner (ms bound) → AllNamed P (j context).reached

abbrev pub PatternReaches : (List ℕ → Bool) → PatternTyping → NamesBound → Type 0
PatternReaches P p n = (bound : List (List ℕ)) (may_fail : Bool) (context : TypeEnv) (t : Option DslxType) (names : List (List ℕ)) (locals : List Typed) → MentionsReach P context.known context.owner (n.mentions bound)
    → AllNamed P (p may_fail context t names locals).reached

pub record StatementReaches (P : List ℕ → Bool) (s : StatementTyping) (n : NamesBound) : Type 0 where
  pub known : (on_top : Bool) (context : TypeEnv) → (s on_top context).context.known ≡ context.known
  pub owner : (on_top : Bool) (context : TypeEnv) → (s on_top context).context.owner ≡ context.owner
  pub reached : (bound : List (List ℕ)) (on_top : Bool) (context : TypeEnv) → MentionsReach P context.known context.owner (n.mentions bound) → AllNamed P (s on_top context).reached

abbrev pub FieldReaches : (List ℕ → Bool) → FieldSeen → Mentions → Type 0
FieldReaches P f ms = (bound : List (List ℕ)) (context : TypeEnv) (struct : Option DslxType) → MentionsReach P context.known context.owner (ms bound) → AllNamed P (field_typing context struct f).reached

abbrev pub ArmReaches : (List ℕ → Bool) → ArmSeen → Mentions → Type 0
ArmReaches P a ms = (bound : List (List ℕ)) (context : TypeEnv) (t : Option DslxType) → MentionsReach P context.known context.owner (ms bound)
    → AllNamed P ((arm_typing context t a).seen.reached ++ (arm_typing context t a).value.reached)
