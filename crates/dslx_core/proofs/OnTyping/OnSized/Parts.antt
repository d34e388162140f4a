-- What has a size reaches an instance of each function that it mentions, and names no parametric of unknown value: sizes, types, names, and
-- what stands alone.
use Rattle.std.proofs.Common.{◌≡◌, ◌&&◌, ◌||◌, ◌++◌, ℕ, zero, suc, Bool, true, false, not, if◌then◌else◌, List, [], ◌∷◌, map, Option, Some, None, refl, sym, ap, ◌∙◌}
use mathlib.Core.Bool.{true≢false}
use Rattle.xb_span.specs.declared.span.Span.{Span}
use Rattle.xb_span.specs.declared.fault.Fault.{Fault}
use Rattle.dslx_meaning.specs.Environment.{given_in}
use Rattle.dslx_meaning.specs.Lists.{all_some, and_then, is_in, where_true, with_both}
use Rattle.dslx_meaning.specs.Types.{holds_token}
use Rattle.dslx_meaning.specs.declared.ty.DslxType.{DslxType, out-DslxType}
use Rattle.dslx_meaning.specs.Rules.AggregateRules.{field_typing, is_some_tuple, pair_or_alone}
use Rattle.dslx_meaning.specs.Rules.ControlRules.{arm_typing, has_several, times_size}
use Rattle.dslx_meaning.specs.Rules.CallRules.{channel_end_at, channel_end_if, channel_end_in}
use Rattle.dslx_meaning.specs.Rules.Mentions.{Use, AsValue, Mention, Mentions, NamesBound, mention, value_mention}
use Rattle.dslx_meaning.specs.Rules.ConstantRules.{is_member}
use Rattle.dslx_meaning.specs.Rules.NameRules.{end_or_other, item_value, local_or_other, name_typing, parametric_or_item}
use Rattle.dslx_meaning.specs.Rules.PatternRules.{is_there}
use Rattle.dslx_meaning.specs.Rules.TypeEnvs.{ExprPair, ExprTyping, Instance, Judgement, TypeEnv, Typed, breaks, has_broken, no_token, one_and, plus_size, settled, size_if_typed, span_of, typed_in, unless_broken, within}
use Rattle.dslx_meaning.specs.Rules.Typings.{ArmSeen, FieldSeen, PatternTyping, StatementTyping, TypeExprTyping}
use Rattle.dslx_core.specs.Typing.TypingRelations.Called.{named}
use Rattle.dslx_core.specs.Typing.TypingRelations.Cycles.{AllUsed}
use Rattle.dslx_core.specs.Typing.TypingRelations.Reached.{AllNamed}
use Rattle.dslx_core.proofs.Lemmas.Typing.Typed.OfLists.{behind_first}
use Rattle.dslx_core.proofs.OnTyping.OnCycles.Parts.{in_neither}

-- ---- instances

pub named_parts : (P : List ℕ → Bool) (xs ys : List Instance) → AllNamed P (xs ++ ys) → AllNamed P xs × AllNamed P ys
named_parts P [] ys h = (tt, h)
named_parts P (x ∷ xs) ys h = let r = named_parts P xs ys h.1 in ((h.0, r.0), r.1)

pub three_named : (P : List ℕ → Bool) (xs ys zs : List Instance) → AllNamed P ((xs ++ ys) ++ zs) → AllNamed P xs × AllNamed P ys × AllNamed P zs
three_named P xs ys zs h =
    let r = named_parts P (xs ++ ys) zs h in
    let q = named_parts P xs ys r.0 in
    (q.0, q.1, r.1)

-- ---- what is there

pub nothing_there : {X : Type 0} → false ≡ true → X
nothing_there h = absurd (true≢false (sym h))

pub both_tests : (p q : Bool) → (p && q) ≡ true → (p ≡ true) × (q ≡ true)
both_tests true q h = (refl, h)
both_tests false q h = nothing_there h

pub first_there : {A B : Type 0} (o : Option A) (f : A → Option B) → is_there (and_then o f) ≡ true → is_there o ≡ true
first_there None f h = nothing_there h
first_there (Some a) f h = refl

pub second_there : {A B : Type 0} (o : Option A) (q : Option B) → is_there (and_then o (λ a. q)) ≡ true → is_there q ≡ true
second_there None q h = nothing_there h
second_there (Some a) q h = h

pub two_there : {A B C : Type 0} (o : Option A) (q : Option B) (f : A → B → Option C) → is_there (with_both o q f) ≡ true → (is_there o ≡ true) × (is_there q ≡ true)
two_there None q f h = nothing_there h
two_there (Some a) None f h = nothing_there h
two_there (Some a) (Some b) f h = (refl, refl)

pub test_there : {A : Type 0} (b : Bool) (o : Option A) → is_there (where_true b o) ≡ true → b ≡ true
test_there true o h = refl
test_there false o h = nothing_there h

pub each_there : {A : Type 0} (o : Option A) (os : List (Option A)) → is_there (all_some (o ∷ os)) ≡ true → (is_there o ≡ true) × (is_there (all_some os) ≡ true)
each_there None os h = nothing_there h
each_there {A = A} (Some a) os h = (refl, by_rest (all_some os) h)
  where
    by_rest : (o : Option (List A)) → is_there (behind_first a o) ≡ true → is_there o ≡ true
    by_rest None h = nothing_there h
    by_rest (Some as') h = refl

-- ---- sizes

pub two_sizes : (a b : Option ℕ) → is_there (plus_size a b) ≡ true → (is_there a ≡ true) × (is_there b ≡ true)
two_sizes None b h = nothing_there h
two_sizes (Some n) None h = nothing_there h
two_sizes (Some n) (Some k) h = (refl, refl)

pub three_sizes : (a b c : Option ℕ) → is_there (plus_size a (plus_size b c)) ≡ true → (is_there a ≡ true) × (is_there b ≡ true) × (is_there c ≡ true)
three_sizes a b c h =
    let r = two_sizes a (plus_size b c) h in
    let q = two_sizes b c r.1 in
    (r.0, q.0, q.1)

pub two_factors : (a b : Option ℕ) → is_there (times_size a b) ≡ true → (is_there a ≡ true) × (is_there b ≡ true)
two_factors None b h = nothing_there h
two_factors (Some n) None h = nothing_there h
two_factors (Some n) (Some k) h = (refl, refl)

pub one_less : (a : Option ℕ) → is_there (one_and a) ≡ true → is_there a ≡ true
one_less None h = nothing_there h
one_less (Some n) h = refl

pub typed_size : (ty : Option DslxType) (size : Option ℕ) → is_there (size_if_typed ty size) ≡ true → (is_there ty ≡ true) × (is_there size ≡ true)
typed_size None size h = nothing_there h
typed_size (Some t) size h = (refl, h)

-- what has a type breaks no rule
pub typed_inside : (faults : List Fault) (ty : Option DslxType) → is_there (unless_broken faults ty) ≡ true → (has_broken faults ≡ false) × (is_there ty ≡ true)
typed_inside faults ty h = by_test (has_broken faults) h
  where
    by_test : (b : Bool) → is_there (if◌then◌else◌ {A = Option DslxType} b None ty) ≡ true → (b ≡ false) × (is_there ty ≡ true)
    by_test true h = nothing_there h
    by_test false h = (refl, h)

-- so does what has a size
pub sized_inside : (faults : List Fault) (ty : Option DslxType) (size : Option ℕ) → is_there (size_if_typed (unless_broken faults ty) size) ≡ true → (has_broken faults ≡ false) × (is_there ty ≡ true) × (is_there size ≡ true)
sized_inside faults ty size h =
    let r = typed_size (unless_broken faults ty) size h in
    let q = typed_inside faults ty r.0 in
    (q.0, q.1, r.1)

-- what has one more than this
pub rest_sized : (ty : Option DslxType) (size : Option ℕ) → is_there (size_if_typed ty (one_and size)) ≡ true → is_there size ≡ true
rest_sized ty size h = one_less size (typed_size ty (one_and size) h).1

-- ---- claims

-- where it has a size and all that it reaches passes the test, so does each function in this
abbrev pub HasCalls : (List ℕ → Bool) → (List ℕ → Bool) → Judgement → List Mention → Type 0
HasCalls P U j ms = is_there j.size ≡ true → AllNamed P j.reached → AllUsed (named P U) ms

pub unmarked_sized : (P U : List ℕ → Bool) (ms : List Mention) (span : Span) (j : Judgement) → HasCalls P U j ms → HasCalls P U (no_token span j) ms
unmarked_sized P U ms span j c h k = by_type j.ty j.faults j.reached j.size c h k
  where
    by_test : (u : DslxType) (faults : List Fault) (reached : List Instance) (size : Option ℕ) (b : Bool) → (is_there size ≡ true → AllNamed P reached → AllUsed (named P U) ms)
        → HasCalls P U (if◌then◌else◌ {A = Judgement} b (record { ty = None; faults = faults ++ breaks 28 span ∷ []; reached = reached; size = size }) (record { ty = Some u; faults = faults; reached = reached; size = size })) ms
    by_test u faults reached size true c h k = c h k
    by_test u faults reached size false c h k = c h k

    by_type : (ty : Option DslxType) (faults : List Fault) (reached : List Instance) (size : Option ℕ) → (is_there size ≡ true → AllNamed P reached → AllUsed (named P U) ms)
        → HasCalls P U (no_token span (record { ty = ty; faults = faults; reached = reached; size = size })) ms
    by_type None faults reached size c h k = c h k
    by_type (Some u) faults reached size c h k = by_test u faults reached size (holds_token u) c h k

pub unmarked_size : (span : Span) (j : Judgement) → is_there (no_token span j).size ≡ true → is_there j.size ≡ true
unmarked_size span j h = by_type j.ty j.faults j.reached j.size h
  where
    by_test : (u : DslxType) (faults : List Fault) (reached : List Instance) (size : Option ℕ) (b : Bool)
        → is_there (if◌then◌else◌ {A = Judgement} b (record { ty = None; faults = faults ++ breaks 28 span ∷ []; reached = reached; size = size }) (record { ty = Some u; faults = faults; reached = reached; size = size })).size ≡ true → is_there size ≡ true
    by_test u faults reached size true g = g
    by_test u faults reached size false g = g

    by_type : (ty : Option DslxType) (faults : List Fault) (reached : List Instance) (size : Option ℕ) → is_there (no_token span (record { ty = ty; faults = faults; reached = reached; size = size })).size ≡ true → is_there size ≡ true
    by_type None faults reached size g = g
    by_type (Some u) faults reached size g = by_test u faults reached size (holds_token u) g

pub taken_sized : (P U : List ℕ → Bool) (ms : List Mention) (n : ℕ) (context : TypeEnv) (e : ExprPair) → HasCalls P U (within context e) ms → HasCalls P U (pair_or_alone n context e) ms
taken_sized P U ms n context e c h k = by_place n h k
  where
    if_pair : Judgement → Option DslxType → Judgement
    if_pair j None = j
    if_pair j (Some t) = if is_some_tuple (out-DslxType t) then j else no_token (span_of e) j

    by_test : (b : Bool) (j : Judgement) → HasCalls P U j ms → HasCalls P U (if b then j else no_token (span_of e) j) ms
    by_test true j g h k = g h k
    by_test false j g h k = unmarked_sized P U ms (span_of e) j g h k

    by_type : (o : Option DslxType) (j : Judgement) → HasCalls P U j ms → HasCalls P U (if_pair j o) ms
    by_type None j g h k = g h k
    by_type (Some t) j g h k = by_test (is_some_tuple (out-DslxType t)) j g h k

    by_place : (n : ℕ) → HasCalls P U (pair_or_alone n context e) ms
    by_place zero h k = by_type (within context e).ty (within context e) c h k
    by_place (suc zero) h k = by_type (within context e).ty (within context e) c h k
    by_place (suc (suc n)) h k = unmarked_sized P U ms (span_of e) (within context e) c h k

-- ---- names

-- names that pass the test are those of parametrics whose values aren't known
pub record AreUnknown (U : List ℕ → Bool) (context : TypeEnv) : Type 0 where
  pub given : (name : List ℕ) → U name ≡ true → given_in name context.parametric_args ≡ None
  pub unknown : (name : List ℕ) → U name ≡ true → is_in name context.unknown ≡ true
  pub members : (name : List ℕ) → U name ≡ true → channel_end_in name context.members ≡ None

-- and where they aren't bound around a part, no local has them
pub record LeavesUnknown (U : List ℕ → Bool) (bound : List (List ℕ)) (context : TypeEnv) : Type 0 where
  pub are : AreUnknown U context
  pub locals : (name : List ℕ) → U name ≡ true → is_in name bound ≡ false → typed_in name context.locals ≡ None

-- where no name passes
abbrev pub none : List ℕ → Bool
none = λ name. false

pub nothing_unknown : (bound : List (List ℕ)) (context : TypeEnv) → LeavesUnknown none bound context
nothing_unknown bound context = record {
  are = record { given = λ name u. nothing_there u; unknown = λ name u. nothing_there u; members = λ name u. nothing_there u };
  locals = λ name u q. nothing_there u;
}

-- behind more names, with locals that have no others
pub unknown_behind : (U : List ℕ → Bool) (names bound : List (List ℕ)) (context : TypeEnv) (locals : List Typed) (used : List (List ℕ)) → LeavesUnknown U bound context
    → ((name : List ℕ) → is_in name names ≡ false → typed_in name context.locals ≡ None → typed_in name locals ≡ None) → LeavesUnknown U (names ++ bound) (record context { locals = locals; used = used })
unknown_behind U names bound context locals used s keeps = record {
  are = record { given = s.are.given; unknown = s.are.unknown; members = s.are.members };
  locals = λ name u q. let r = in_neither name names bound q in keeps name r.0 (s.locals name u r.1);
}

-- such a name has no type, so that it leaves what it stands in without a size
unknown_typed : (U : List ℕ → Bool) (bound : List (List ℕ)) (span : Span) (context : TypeEnv) (name : List ℕ) → LeavesUnknown U bound context → is_in name bound ≡ false → U name ≡ true → (name_typing span context name).size ≡ None
unknown_typed U bound span context name s q u = ap (λ o. (local_or_other span context name o).size) (s.locals name u q) ∙ by_end (is_in name context.ends)
  where
    by_end : (b : Bool) → (end_or_other span context name b).size ≡ None
    by_end true = refl
    by_end false =
        ap (λ o. (parametric_or_item span context name o).size) (s.are.given name u)
        ∙ ap (λ b. (if◌then◌else◌ {A = Judgement} b (settled span None [] [] (Some 1)) (item_value span context name (context.known.items.is_constant name))).size) (s.are.unknown name u)

pub value_named : (P U : List ℕ → Bool) (bound : List (List ℕ)) (span : Span) (context : TypeEnv) (name : List ℕ) → LeavesUnknown U bound context → is_there (name_typing span context name).size ≡ true → AllUsed (named P U) (value_mention name bound)
value_named P U bound span context name s h = by_bound (is_in name bound) refl
  where
    by_test : is_in name bound ≡ false → (u : Bool) → U name ≡ u → not u ≡ true
    by_test q false e = refl
    by_test q true e = nothing_there (ap is_there (sym (unknown_typed U bound span context name s q e)) ∙ h)

    by_bound : (b : Bool) → is_in name bound ≡ b → AllUsed (named P U) (if b then [] else mention AsValue name)
    by_bound true q = tt
    by_bound false q = (by_test q (U name) refl, tt)

-- a channel that is a name is a member
pub member_named : (P U : List ℕ → Bool) (bound : List (List ℕ)) (context : TypeEnv) (name : List ℕ) → LeavesUnknown U bound context → is_there (channel_end_at context name) ≡ true → AllUsed (named P U) (value_mention name bound)
member_named P U bound context name s h = by_bound (is_in name bound) refl
  where
    by_test : is_in name bound ≡ false → (u : Bool) → U name ≡ u → not u ≡ true
    by_test q false e = refl
    by_test q true e =
        let none : channel_end_at context name ≡ None = ap (λ o. channel_end_if o (channel_end_in name context.members)) (s.locals name e q) ∙ s.are.members name e in
        nothing_there (ap is_there (sym none) ∙ h)

    by_bound : (b : Bool) → is_in name bound ≡ b → AllUsed (named P U) (if b then [] else mention AsValue name)
    by_bound true q = tt
    by_bound false q = (by_test q (U name) refl, tt)

-- as a value, none of these names is a local or a member
abbrev pub unlocal : TypeEnv → Use → List ℕ → Bool
unlocal context AsValue name = not (is_in name (map (λ (l : Typed). l.name) context.locals) || is_member context name)
unlocal context _ name = true

module _ (P U : List ℕ → Bool) where
  abbrev pub Sized : ExprTyping → Mentions → Type 0
  Sized j ms = (bound : List (List ℕ)) (on_top : Bool) (context : TypeEnv) → LeavesUnknown U bound context → HasCalls P U (j on_top context) (ms bound)

  -- a type, which has a size only where it has a type, and where it has one names no local
  pub record TypeSized (j : TypeExprTyping) (ms : Mentions) : Type 0 where
    pub sized : (context : TypeEnv) → is_there (j context).size ≡ true → is_there (j context).ty ≡ true
    pub typed : (bound : List (List ℕ)) (context : TypeEnv) → LeavesUnknown U bound context → is_there (j context).ty ≡ true → AllNamed P (j context).reached → AllUsed (named P U) (ms bound)
    pub no_local : (bound : List (List ℕ)) (context : TypeEnv) → is_there (j context).ty ≡ true → AllUsed (unlocal context) (ms bound)

  abbrev pub LoopSized : TypeExprTyping → Mentions → Type 0
  LoopSized j ms = (bound : List (List ℕ)) (context : TypeEnv) → LeavesUnknown U bound context → HasCalls P U (j context) (ms bound)

  -- a pattern, of which all is known. Where it may not fail, it has no number
  pub record PatternSized (p : PatternTyping) (n : NamesBound) : Type 0 where
    pub known : (bound : List (List ℕ)) (may_fail : Bool) (context : TypeEnv) (t : Option DslxType) (names : List (List ℕ)) (locals : List Typed) → LeavesUnknown U bound context → (p may_fail context t names locals).is_known ≡ true
        → AllNamed P (p may_fail context t names locals).reached → AllUsed (named P U) (n.mentions bound)
    pub sure : (bound : List (List ℕ)) (context : TypeEnv) (t : Option DslxType) (names : List (List ℕ)) (locals : List Typed) → has_broken (p false context t names locals).faults ≡ false → AllUsed (named P U) (n.mentions bound)
    pub no_local : (bound : List (List ℕ)) (may_fail : Bool) (context : TypeEnv) (t : Option DslxType) (names : List (List ℕ)) (locals : List Typed) → (p may_fail context t names locals).is_known ≡ true → AllUsed (unlocal context) (n.mentions bound)

  pub record StatementSized (s : StatementTyping) (n : NamesBound) : Type 0 where
    pub sized : (bound : List (List ℕ)) (on_top : Bool) (context : TypeEnv) → LeavesUnknown U bound context → is_there (s on_top context).size ≡ true → has_broken (s on_top context).faults ≡ false → AllNamed P (s on_top context).reached
        → AllUsed (named P U) (n.mentions bound)
    pub behind : (bound : List (List ℕ)) (on_top : Bool) (context : TypeEnv) → LeavesUnknown U bound context → LeavesUnknown U (n.names ++ bound) (s on_top context).context

  abbrev pub FieldSized : FieldSeen → Mentions → Type 0
  FieldSized f ms = (bound : List (List ℕ)) (context : TypeEnv) (struct : Option DslxType) → LeavesUnknown U bound context → HasCalls P U (field_typing context struct f) (ms bound)

  abbrev pub ArmSized : ArmSeen → Mentions → Type 0
  ArmSized a ms = (bound : List (List ℕ)) (context : TypeEnv) (t : Option DslxType) → LeavesUnknown U bound context → (has_several a.patterns && (arm_typing context t a).seen.binds) ≡ false
      → (arm_typing context t a).seen.is_known ≡ true → is_there (arm_typing context t a).value.size ≡ true
      → AllNamed P ((arm_typing context t a).seen.reached ++ (arm_typing context t a).value.reached) → AllUsed (named P U) (ms bound)
