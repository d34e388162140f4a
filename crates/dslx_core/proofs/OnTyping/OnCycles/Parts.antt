-- What breaks no rule mentions nothing that rule 3 refuses: names, constants, and what stands alone.
use Rattle.std.proofs.Common.{◌≡◌, ◌&&◌, ◌||◌, ◌++◌, ℕ, zero, suc, Bool, true, false, if◌then◌else◌, List, [], ◌∷◌, Option, Some, None, refl, sym, ap, ◌∙◌}
use mathlib.Core.Bool.{true≢false}
use Rattle.std.specs.Str.{bytes_eq}
use Rattle.xb_span.specs.declared.span.Span.{Span}
use Rattle.xb_span.specs.declared.fault.Fault.{Fault}
use Rattle.dslx_tree.specs.declared.ident.Ident.{Ident}
use Rattle.dslx_tree.specs.declared.item.Enum.{Enum}
use Rattle.dslx_meaning.specs.Items.{as_enum, item_named}
use Rattle.dslx_meaning.specs.Lists.{is_in}
use Rattle.dslx_meaning.specs.Types.{holds_token}
use Rattle.dslx_meaning.specs.declared.ty.DslxType.{DslxType, out-DslxType}
use Rattle.dslx_meaning.specs.Rules.AggregateRules.{field_typing, is_some_tuple, pair_or_alone}
use Rattle.dslx_meaning.specs.Rules.ConstantRules.{constant_of, names_a_local}
use Rattle.dslx_meaning.specs.Rules.ControlRules.{arm_typing, has_several}
use Rattle.dslx_meaning.specs.Rules.Mentions.{Use, AsEnum, AsType, AsValue, Mention, Mentions, NamesBound, mention, value_mention}
use Rattle.dslx_meaning.specs.Rules.NameRules.{end_or_other, item_value, local_or_other, member_of, member_typing, name_typing, parametric_or_item}
use Rattle.dslx_meaning.specs.Rules.TypeEnvs.{ExprPair, ExprTyping, Instance, Judgement, TypeEnv, Typed, alone, breaks, breaks_if, has_broken, is_rule, no_token, settled, span_of, typed_in, within}
use Rattle.dslx_meaning.specs.Rules.TypeRules.{named_type}
use Rattle.dslx_meaning.specs.Rules.Typings.{ArmSeen, FieldSeen, PatternTyping, StatementTyping, TypeExprTyping}
use Rattle.dslx_core.specs.Typing.TypingRelations.Cycles.{AllUsed, BindersPass, IsBehindNames}
use Rattle.dslx_core.proofs.OnTyping.OnTyped.TypingRelations.{broken_there, or_false, rule_holds, unbroken_parts}

-- ---- lists

pub join : (Q : Use → List ℕ → Bool) (xs ys : List Mention) → AllUsed Q xs → AllUsed Q ys → AllUsed Q (xs ++ ys)
join Q [] ys h k = k
join Q (x ∷ xs) ys h k = (h.0, join Q xs ys h.1 k)

pub join_three : (Q : Use → List ℕ → Bool) (xs ys zs : List Mention) → AllUsed Q xs → AllUsed Q ys → AllUsed Q zs → AllUsed Q ((xs ++ ys) ++ zs)
join_three Q xs ys zs h k l = join Q (xs ++ ys) zs (join Q xs ys h k) l

-- ---- faults

-- the first of two lists
pub front : (fs gs : List Fault) → has_broken (fs ++ gs) ≡ false → has_broken fs ≡ false
front fs gs h = (unbroken_parts fs gs h).0

-- neither list has a broken rule
pub both_whole : (fs gs : List Fault) → has_broken fs ≡ false → has_broken gs ≡ false → has_broken (fs ++ gs) ≡ false
both_whole [] gs h k = k
both_whole (f ∷ fs) gs h k =
    let r = or_false (is_rule f) (has_broken fs) h in
    λ i. r.0 i || both_whole fs gs r.1 k i

-- a rule is broken behind these
pub not_here : {X : Type 0} (fs gs : List Fault) (rule : ℕ) (span : Span) → has_broken (fs ++ breaks rule span ∷ gs) ≡ false → X
not_here fs gs rule span h = absurd (true≢false (sym (broken_there fs gs rule span) ∙ h))

-- ---- expressions as what is around them sees them

pub unmarked : (span : Span) (j : Judgement) → has_broken (no_token span j).faults ≡ false → has_broken j.faults ≡ false
unmarked span j h = by_type j.ty j.faults j.reached j.size h
  where
    by_test : (u : DslxType) (faults : List Fault) (reached : List Instance) (size : Option ℕ) (b : Bool)
        → has_broken (if◌then◌else◌ {A = Judgement} b (record { ty = None; faults = faults ++ breaks 28 span ∷ []; reached = reached; size = size }) (record { ty = Some u; faults = faults; reached = reached; size = size })).faults ≡ false
        → has_broken faults ≡ false
    by_test u faults reached size true k = front faults (breaks 28 span ∷ []) k
    by_test u faults reached size false k = k

    by_type : (ty : Option DslxType) (faults : List Fault) (reached : List Instance) (size : Option ℕ) → has_broken (no_token span (record { ty = ty; faults = faults; reached = reached; size = size })).faults ≡ false → has_broken faults ≡ false
    by_type None faults reached size k = k
    by_type (Some u) faults reached size k = by_test u faults reached size (holds_token u) k

pub taken_apart : (k : ℕ) (context : TypeEnv) (e : ExprPair) → has_broken (pair_or_alone k context e).faults ≡ false → has_broken (within context e).faults ≡ false
taken_apart k context e h = by_place k h
  where
    if_pair : Judgement → Option DslxType → Judgement
    if_pair j None = j
    if_pair j (Some t) = if is_some_tuple (out-DslxType t) then j else no_token (span_of e) j

    by_test : (b : Bool) (j : Judgement) → has_broken (if b then j else no_token (span_of e) j).faults ≡ false → has_broken j.faults ≡ false
    by_test true j g = g
    by_test false j g = unmarked (span_of e) j g

    by_type : (o : Option DslxType) (j : Judgement) → has_broken (if_pair j o).faults ≡ false → has_broken j.faults ≡ false
    by_type None j g = g
    by_type (Some t) j g = by_test (is_some_tuple (out-DslxType t)) j g

    by_place : (k : ℕ) → has_broken (pair_or_alone k context e).faults ≡ false → has_broken (within context e).faults ≡ false
    by_place zero g = by_type (within context e).ty (within context e) g
    by_place (suc zero) g = by_type (within context e).ty (within context e) g
    by_place (suc (suc k)) g = unmarked (span_of e) (within context e) g

-- a constant breaks what it breaks inside
pub constant_inside : (context : TypeEnv) (e : ExprPair) → has_broken (constant_of context e).judgement.faults ≡ false → has_broken (alone context e).faults ≡ false
constant_inside context e h = front (alone context e).faults (breaks_if (names_a_local context e) 5 (span_of e)) (front ((alone context e).faults ++ breaks_if (names_a_local context e) 5 (span_of e)) _ h)

-- ---- names

pub in_neither : (name : List ℕ) (xs ys : List (List ℕ)) → is_in name (xs ++ ys) ≡ false → (is_in name xs ≡ false) × (is_in name ys ≡ false)
in_neither name [] ys h = (refl, h)
in_neither name (x ∷ xs) ys h = by_first (bytes_eq name x) h (in_neither name xs ys)
  where
    by_first : (b : Bool) → (if b then true else is_in name (xs ++ ys)) ≡ false → (is_in name (xs ++ ys) ≡ false → (is_in name xs ≡ false) × (is_in name ys ≡ false))
        → ((if b then true else is_in name xs) ≡ false) × (is_in name ys ≡ false)
    by_first true g rest = absurd (true≢false g)
    by_first false g rest = rest g

module _ (Q : Use → List ℕ → Bool) where
  abbrev pub Behind : List (List ℕ) → TypeEnv → Type 0
  Behind = IsBehindNames Q

  -- where rule 3 isn't broken
  pub passes : (bound : List (List ℕ)) (context : TypeEnv) → Behind bound context → (u : Use) (name : List ℕ) (span : Span) → has_broken (breaks_if (context.known.is_cyclic context.owner name) 3 span) ≡ false → Q u name ≡ true
  passes bound context s u name span h = s.free u name (rule_holds (context.known.is_cyclic context.owner name) 3 span h)

  pub value_passes : (bound : List (List ℕ)) (span : Span) (context : TypeEnv) (name : List ℕ) → Behind bound context → has_broken (name_typing span context name).faults ≡ false → AllUsed Q (value_mention name bound)
  value_passes bound span context name s h = by_bound (is_in name bound) refl
    where
      by_item : (b : Bool) → has_broken (item_value span context name b).faults ≡ false → Q AsValue name ≡ true
      by_item false g = absurd (true≢false g)
      by_item true g = passes bound context s AsValue name span (front (breaks_if (context.known.is_cyclic context.owner name) 3 span) _ g)

      by_bound : (b : Bool) → is_in name bound ≡ b → AllUsed Q (if b then [] else mention AsValue name)
      by_bound true q = tt
      by_bound false q =
          let u = s.unbound name q in
          let one = ap (λ o. has_broken (local_or_other span context name o).faults) (sym u.in_locals) ∙ h in
          let two = ap (λ b. has_broken (end_or_other span context name b).faults) (sym u.in_ends) ∙ one in
          let three = ap (λ o. has_broken (parametric_or_item span context name o).faults) (sym u.in_given) ∙ two in
          let four = ap (λ b. has_broken (if◌then◌else◌ {A = Judgement} b (settled span None [] [] (Some 1)) (item_value span context name (context.known.items.is_constant name))).faults) (sym u.in_unknown) ∙ three in
          (by_item (context.known.items.is_constant name) four, tt)

  pub member_passes : (bound : List (List ℕ)) (context : TypeEnv) (e a : Ident) → Behind bound context → has_broken (member_typing context e a).faults ≡ false → AllUsed Q (mention AsEnum e.name)
  member_passes bound context e a s h = by_enum (as_enum (item_named e.name context.known.whole.items)) h
    where
      by_enum : (o : Option Enum) → has_broken (member_of context e a o).faults ≡ false → AllUsed Q (mention AsEnum e.name)
      by_enum None g = absurd (true≢false g)
      by_enum (Some declared) g = (passes bound context s AsEnum e.name e.span (front (breaks_if (context.known.is_cyclic context.owner e.name) 3 e.span) _ g), tt)

  pub type_passes : (bound : List (List ℕ)) (span : Span) (context : TypeEnv) (name : List ℕ) (b : Bool) → Behind bound context → has_broken (named_type span context name b).faults ≡ false → AllUsed Q (mention AsType name)
  type_passes bound span context name false s h = absurd (true≢false h)
  type_passes bound span context name true s h = (passes bound context s AsType name span (front (breaks_if (context.known.is_cyclic context.owner name) 3 span) _ h), tt)

  -- ---- what is to hold of each sort

  abbrev pub Judged : ExprTyping → Mentions → Type 0
  Judged j ms = (bound : List (List ℕ)) (context : TypeEnv) → Behind bound context → has_broken (j false context).faults ≡ false → AllUsed Q (ms bound)

  abbrev pub TypeJudged : TypeExprTyping → Mentions → Type 0
  TypeJudged j ms = (bound : List (List ℕ)) (context : TypeEnv) → Behind bound context → has_broken (j context).faults ≡ false → AllUsed Q (ms bound)

  -- a pattern, which binds none but its names. Where it may not fail, it has no number, so that what is bound before needn't be known
  pub record PatternJudged (p : PatternTyping) (n : NamesBound) : Type 0 where
    pub may : (bound : List (List ℕ)) (context : TypeEnv) (t : Option DslxType) (names : List (List ℕ)) (locals : List Typed) → Behind bound context → has_broken (p true context t names locals).faults ≡ false → AllUsed Q (n.mentions bound)
    pub sure : (bound : List (List ℕ)) (context : TypeEnv) (t : Option DslxType) (names : List (List ℕ)) (locals : List Typed) → BindersPass Q context → has_broken (p false context t names locals).faults ≡ false → AllUsed Q (n.mentions bound)
    pub names : (may_fail : Bool) (context : TypeEnv) (t : Option DslxType) (names : List (List ℕ)) (locals : List Typed) (name : List ℕ) → is_in name n.names ≡ false → typed_in name locals ≡ None → typed_in name (p may_fail context t names locals).locals ≡ None
    pub none : (may_fail : Bool) (context : TypeEnv) (t : Option DslxType) (names : List (List ℕ)) (locals : List Typed) → (p may_fail context t names locals).names ≡ [] → (names ≡ []) × ((p may_fail context t names locals).locals ≡ locals)

  pub record StatementJudged (s : StatementTyping) (n : NamesBound) : Type 0 where
    pub judged : (bound : List (List ℕ)) (context : TypeEnv) → Behind bound context → has_broken (s false context).faults ≡ false → AllUsed Q (n.mentions bound)
    pub behind : (bound : List (List ℕ)) (context : TypeEnv) → Behind bound context → Behind (n.names ++ bound) (s false context).context

  abbrev pub FieldJudged : FieldSeen → Mentions → Type 0
  FieldJudged f ms = (bound : List (List ℕ)) (context : TypeEnv) (struct : Option DslxType) → Behind bound context → has_broken (field_typing context struct f).faults ≡ false → AllUsed Q (ms bound)

  abbrev pub ArmJudged : ArmSeen → Mentions → Type 0
  ArmJudged a ms = (bound : List (List ℕ)) (context : TypeEnv) (t : Option DslxType) → Behind bound context → has_broken ((arm_typing context t a).seen.faults ++ (arm_typing context t a).value.faults) ≡ false
      → (has_several a.patterns && (arm_typing context t a).seen.binds) ≡ false → AllUsed Q (ms bound)

  -- ---- where names are bound

  -- behind more names, with locals that have no others
  pub behind_more : (names bound : List (List ℕ)) (context : TypeEnv) (locals : List Typed) (used : List (List ℕ)) → Behind bound context
      → ((name : List ℕ) → is_in name names ≡ false → typed_in name context.locals ≡ None → typed_in name locals ≡ None) → Behind (names ++ bound) (record context { locals = locals; used = used })
  behind_more names bound context locals used s keeps = record {
    free = s.free;
    binders = s.binders;
    unbound = λ name q.
        let r = in_neither name names bound q in
        let u = s.unbound name r.1 in
        record { in_locals = keeps name r.0 u.in_locals; in_ends = u.in_ends; in_given = u.in_given; in_unknown = u.in_unknown };
  }
