-- The rules of blocks and their statements, `if`, `match` and `for`.
use Rattle.std.specs.Prelude.{ℕ, zero, suc, List, [], ◌∷◌, ◌++◌, ◌+◌, ◌*◌, ◌^◌, ◌&&◌, ◌||◌, nat_le, map, Bool, true, false, not, Option, Some, None, if◌then◌else◌}
use Rattle.std.specs.List.{list_any, list_all}
use Rattle.xb_span.specs.declared.span.Span.{Span}
use Rattle.xb_span.specs.declared.fault.Fault.{Fault}
use Rattle.xb_span.specs.declared.limit.What.TheVariants as what
use Rattle.xb_bits.specs.Word.{word}
use Rattle.dslx_tree.specs.declared.block.Stmt.TheOpen.{Stmt-F}
use Rattle.dslx_tree.specs.declared.block.Block.{out-Block}
use Rattle.dslx_tree.specs.declared.expr.Expr.{Expr}
use Rattle.dslx_tree.specs.declared.item.Enum.{Enum}
use Rattle.dslx_tree.specs.declared.item.Member.{Member}
use Rattle.dslx_meaning.specs.Lists.{all_some, and_then, with_both, where_true, last_of}
use Rattle.dslx_meaning.specs.Types.{same_type, unit_type, flat_bits}
use Rattle.dslx_meaning.specs.Values.{bits_of, from_word}
use Rattle.dslx_meaning.specs.Operators.{of_one_type}
use Rattle.dslx_meaning.specs.Meaning.{fitted, turn_count}
use Rattle.dslx_meaning.specs.Items.{item_named, as_enum}
use Rattle.dslx_meaning.specs.declared.ty.DslxType.{DslxType, out-DslxType}
use Rattle.dslx_meaning.specs.declared.ty.DslxType as ty
use Rattle.dslx_meaning.specs.declared.ty.DslxType.TheOpen.{DslxType-F}
use Rattle.dslx_meaning.specs.declared.value.DslxValue.{DslxValue}
use Rattle.dslx_meaning.specs.Rules.TypeEnvs.{TypeEnv, Typed, Instance, Judgement, ExprPair, ExprTyping, breaks_if, settled, passes, span_of, alone, no_token, types_of, plus_size, one_and, with_typed, constant_env}
use Rattle.dslx_meaning.specs.Rules.Typings.{ArmSeen, BlockPair, PatternPair, PatternSeen, StatementSeen, StatementTyping, StmtSeenLayer, BlockLayer, LetLayer, ForLayer, TypePair}
use Rattle.dslx_meaning.specs.Rules.ConstantRules.{ConstantSeen, constant_of, is_empty}
use Rattle.dslx_meaning.specs.Rules.Mentions.{item_reaches}
use Rattle.dslx_meaning.specs.Rules.PatternRules.{pattern_alone, is_there}
use Rattle.dslx_meaning.specs.Rules.OperatorRules.{unless_type, unless_types, is_bool, one_bit_type}
use Rattle.dslx_meaning.specs.Rules.AggregateRules.{wanted_faults}
use Rattle.dslx_meaning.specs.Rules.EffectNames.{is_effect, effect_channel}
use Rattle.dslx_meaning.specs.Rules.RuleNumbers as rule

-- ---- statements

-- the channel of an effect has a site from here on
abbrev pub used_after : Option (List ℕ) → List (List ℕ) → List (List ℕ)
used_after None used = used
used_after (Some name) used = name ∷ used

abbrev pub behind : TypeEnv → List Typed → Expr → TypeEnv
behind context locals e = record context { locals = locals; used = used_after (effect_channel e) context.used }

-- the type that a `let` gives its pattern: a written one only where it is the value's, which has none where it breaks rule 9
abbrev pub bound_type : Option Judgement → Option DslxType → Option DslxType
bound_type None t = t
bound_type (Some written) t = with_both written.ty t (λ w u. if same_type w u then Some u else None)

abbrev pub annotation_faults : Span → Option Judgement → Option DslxType → List Fault
annotation_faults span None t = []
annotation_faults span (Some written) t = written.faults ++ wanted_faults span written.ty t

abbrev pub annotation_reached : Option Judgement → List Instance
annotation_reached None = []
annotation_reached (Some written) = written.reached

-- it counts nothing, but what has no type leaves what it stands in without a size
abbrev pub annotation_size : Option Judgement → Option ℕ
annotation_size None = Some 0
annotation_size (Some written) = written.size

abbrev pub written_typing : TypeEnv → Option TypePair → Option Judgement
written_typing context None = None
written_typing context (Some t) = Some (t.1 context)

abbrev pub let_with : TypeEnv → Expr → Span → Judgement → Option Judgement → PatternSeen → StatementSeen
let_with context e span value written bound = record {
  context = behind context bound.locals e;
  faults = value.faults ++ annotation_faults span written value.ty ++ bound.faults;
  reached = value.reached ++ annotation_reached written ++ bound.reached;
  size = plus_size (annotation_size written) (plus_size value.size (Some bound.size));
}

abbrev pub let_typing : LetLayer → StatementTyping
let_typing l on_top context =
    let value = l.value.1 on_top context in
    let written = written_typing context l.ty in
    let_with context l.value.0 (span_of l.value) value written (pattern_alone false context (bound_type written value.ty) l.pattern)

-- an effect as a statement drops what it gives; no other token is dropped
abbrev pub expr_statement_typing : Bool → ExprPair → Judgement → Judgement
expr_statement_typing on_top e j = if on_top && is_effect e.0 then j else no_token (span_of e) j

abbrev pub stmt_typing : StmtSeenLayer → StatementTyping
stmt_typing (Stmt-F.Let l) on_top context = l.1 on_top context
stmt_typing (Stmt-F.Bare e) on_top context =
    let j = expr_statement_typing on_top e (e.1 on_top context) in
    record { context = behind context context.locals e.0; faults = j.faults; reached = j.reached; size = j.size }

abbrev pub statements_typing : List StatementTyping → StatementTyping
statements_typing [] on_top context = record { context = context; faults = []; reached = []; size = Some 0 }
statements_typing (s ∷ ss) on_top context =
    let first = s on_top context in
    let rest = statements_typing ss on_top first.context in
    record { context = rest.context; faults = first.faults ++ rest.faults; reached = first.reached ++ rest.reached; size = plus_size first.size rest.size }

abbrev pub last_typing : TypeEnv → Option ExprPair → Judgement
last_typing context None = record { ty = Some unit_type; faults = []; reached = []; size = Some 0 }
last_typing context (Some e) = alone context e

-- a block has the type of its last expression, if its statements break no rule
abbrev pub block_typing : BlockLayer → ExprTyping
block_typing b on_top context =
    let walked = statements_typing (map (λ s. s.1) b.statements) on_top context in
    let last = last_typing walked.context b.value in
    settled b.span last.ty (walked.faults ++ last.faults) (walked.reached ++ last.reached) (one_and (plus_size walked.size last.size))

abbrev pub block_alone : TypeEnv → BlockPair → Judgement
block_alone context b = b.1 false context

abbrev pub span_of_block : BlockPair → Span
span_of_block b = (out-Block b.0).span

-- ---- if

-- rules 15 and 25
abbrev pub if_typing : Span → TypeEnv → ExprPair → BlockPair → ExprPair → Judgement
if_typing span context c a b =
    let condition = alone context c in
    let first = block_alone context a in
    let second = alone context b in
    settled span (and_then condition.ty (λ t. with_both first.ty second.ty (λ u v. Some u)))
    (condition.faults ++ first.faults ++ second.faults ++ unless_type is_bool rule.CONDITION_IS_BOOL (span_of c) condition.ty
    ++ unless_types same_type rule.BRANCHES_OF_ONE_TYPE span first.ty second.ty)
    (condition.reached ++ first.reached ++ second.reached)
    (one_and (plus_size condition.size (plus_size first.size second.size)))

-- ---- match

-- the alternatives of an arm: all that they bind and break, and whether one of them binds where there are several
pub record AlternativesSeen : Type 0 where
  pub locals : List Typed
  pub faults : List Fault
  pub reached : List Instance
  pub size : ℕ
  pub is_known : Bool
  pub is_sure : Bool
  pub binds : Bool

abbrev pub no_alternative : TypeEnv → AlternativesSeen
no_alternative context = record { locals = context.locals; faults = []; reached = []; size = 0; is_known = true; is_sure = false; binds = false }

-- an alternative before others, from what those bind
abbrev pub one_alternative : TypeEnv → Option DslxType → PatternPair → AlternativesSeen → PatternSeen
one_alternative context t p rest = p.1 true context t [] rest.locals

abbrev pub with_alternative : PatternSeen → AlternativesSeen → AlternativesSeen
with_alternative first rest = record {
  locals = first.locals;
  faults = first.faults ++ rest.faults;
  reached = first.reached ++ rest.reached;
  size = first.size + rest.size;
  is_known = first.is_known && rest.is_known;
  is_sure = first.is_sure || rest.is_sure;
  binds = not (is_empty first.names) || rest.binds;
}

-- what any of them binds is in scope behind them; where several bind one name, it is the first one's
abbrev pub alternatives_seen : TypeEnv → Option DslxType → List PatternPair → AlternativesSeen
alternatives_seen context t [] = no_alternative context
alternatives_seen context t (p ∷ ps) =
    let rest = alternatives_seen context t ps in
    with_alternative (one_alternative context t p rest) rest

-- an arm: its alternatives and its value
pub record ArmTyping : Type 0 where
  pub patterns : List PatternPair
  pub seen : AlternativesSeen
  pub value : Judgement

abbrev pub arm_typing : TypeEnv → Option DslxType → ArmSeen → ArmTyping
arm_typing context t a =
    let seen = alternatives_seen context t a.patterns in
    record { patterns = a.patterns; seen = seen; value = alone (with_typed context seen.locals) a.value }

abbrev pub has_several : {A : Type 0} → List A → Bool
has_several [] = false
has_several (a ∷ []) = false
has_several (a ∷ b ∷ as') = true

-- rule 24: an alternative binds a name
abbrev pub some_binds : List ArmTyping → Bool
some_binds arms = list_any (λ (a : ArmTyping). has_several a.patterns && a.seen.binds) arms

-- the value is matched by some pattern of some arm
abbrev pub is_matched : TypeEnv → List ArmTyping → DslxValue → Bool
is_matched context arms v = list_any (λ (a : ArmTyping). list_any (λ (p : PatternPair). is_there (fitted p.0 v (constant_env context))) a.patterns) arms

abbrev pub all_words_match : TypeEnv → List ArmTyping → DslxType → ℕ → ℕ → Bool
all_words_match context arms t w zero = true
all_words_match context arms t w (suc n) = is_matched context arms (from_word t (word w n)) && all_words_match context arms t w n

abbrev pub member_matches : TypeEnv → List ArmTyping → Option DslxValue → Bool
member_matches context arms None = true
member_matches context arms (Some v) = is_matched context arms v

abbrev pub members_match : TypeEnv → List ArmTyping → List ℕ → Option Enum → Bool
members_match context arms name None = true
members_match context arms name (Some e) = list_all (λ (m : Member). member_matches context arms (context.known.items.member name m.name.name)) e.members

abbrev pub last_is_sure : Option ArmTyping → Bool
last_is_sure None = false
last_is_sure (Some a) = a.seen.is_sure

-- each value of a type of at most 8 bits is matched; of a wider one the last arm fits all
abbrev pub values_match : TypeEnv → List ArmTyping → DslxType → Bool
values_match context arms t =
    if nat_le (flat_bits t) 8 then all_words_match context arms t (flat_bits t) (2 ^ flat_bits t) else last_is_sure (last_of arms)

-- each member of an enum is, which the item reaches as it does each enum that a type in its text names
abbrev pub is_exhaustive_in : TypeEnv → List ArmTyping → DslxType → DslxType-F DslxType → Bool
is_exhaustive_in context arms t (DslxType-F.Enum name s w) =
    item_reaches context.known.whole context.owner name && members_match context arms name (as_enum (item_named name context.known.whole.items))
is_exhaustive_in context arms t _ = values_match context arms t

abbrev pub is_exhaustive : TypeEnv → List ArmTyping → DslxType → Bool
is_exhaustive context arms t = is_exhaustive_in context arms t (out-DslxType t)

abbrev pub all_like : DslxType → List DslxType → Bool
all_like t us = list_all (same_type t) us

abbrev pub differ : Option (List DslxType) → Bool
differ None = false
differ (Some []) = false
differ (Some (t ∷ ts)) = not (all_like t ts)

abbrev pub not_exhaustive : TypeEnv → List ArmTyping → Option DslxType → Bool
not_exhaustive context arms None = false
not_exhaustive context arms (Some t) = list_all (λ (a : ArmTyping). a.seen.is_known && is_empty a.seen.faults) arms && not (is_exhaustive context arms t)

abbrev pub arm_values : List ArmTyping → List Judgement
arm_values arms = map (λ (a : ArmTyping). a.value) arms

-- rule 24
abbrev pub match_faults : Span → TypeEnv → Option DslxType → List ArmTyping → List Fault
match_faults span context t arms =
    breaks_if (is_empty arms || some_binds arms || differ (all_some (types_of (arm_values arms))) || not_exhaustive context arms t) rule.MATCH_IS_EXHAUSTIVE span

abbrev pub arms_faults : List ArmTyping → List Fault
arms_faults [] = []
arms_faults (a ∷ as') = a.seen.faults ++ a.value.faults ++ arms_faults as'

abbrev pub arms_reached : List ArmTyping → List Instance
arms_reached [] = []
arms_reached (a ∷ as') = a.seen.reached ++ a.value.reached ++ arms_reached as'

abbrev pub arms_size : List ArmTyping → Option ℕ
arms_size [] = Some 0
arms_size (a ∷ as') = plus_size (Some a.seen.size) (plus_size a.value.size (arms_size as'))

abbrev pub first_of_types : Option (List DslxType) → Option DslxType
first_of_types None = None
first_of_types (Some []) = None
first_of_types (Some (t ∷ ts)) = Some t

-- what each pattern is compared with is known
abbrev pub all_known : List ArmTyping → Bool
all_known arms = list_all (λ (a : ArmTyping). a.seen.is_known) arms

-- a pattern that names a constant without a value leaves the whole without a type
abbrev pub match_typing : Span → TypeEnv → ExprPair → List ArmSeen → Judgement
match_typing span context e arms =
    let value = alone context e in
    let js = map (arm_typing context value.ty) arms in
    settled span (and_then value.ty (λ t. where_true (all_known js) (first_of_types (all_some (types_of (arm_values js))))))
    (value.faults ++ arms_faults js ++ match_faults span context value.ty js)
    (value.reached ++ arms_reached js) (one_and (plus_size value.size (arms_size js)))

-- ---- for

-- how many turns: where both ends are known
abbrev pub turns_of : Option DslxValue → Option DslxValue → Option ℕ
turns_of a b = with_both (and_then a bits_of) (and_then b bits_of) (λ x y. if of_one_type x y then Some (turn_count x y) else None)

abbrev pub turn_limit : ℕ → Option ℕ → List Fault
turn_limit end None = []
turn_limit end (Some n) = passes what.Turns 1024 end n

abbrev pub times_size : Option ℕ → Option ℕ → Option ℕ
times_size (Some n) (Some k) = Some (n * k)
times_size _ _ = None

abbrev pub same_ends : Option DslxType → Option DslxType → Option DslxType
same_ends (Some t) (Some u) = if one_bit_type t u then Some t else None
same_ends _ _ = None

-- a loop by its parts: the ends of its range, its annotation, what it starts with, its two patterns and its body
pub record LoopSeen : Type 0 where
  pub from : ConstantSeen
  pub to : ConstantSeen
  pub written : Option Judgement
  pub start : Judgement
  pub index : PatternSeen
  pub acc : PatternSeen
  pub body : Judgement

-- the type of what it counts
abbrev pub index_type : LoopSeen → Option DslxType
index_type l = same_ends l.from.judgement.ty l.to.judgement.ty

-- the annotation is a tuple of the index's type and that of what it accumulates
abbrev pub loop_annotation : Span → Option Judgement → Option DslxType → Option DslxType → List Fault
loop_annotation span None index acc = []
loop_annotation span (Some written) index acc =
    written.faults ++ wanted_faults span written.ty (with_both index acc (λ i a. Some (ty.Tuple (i ∷ a ∷ []))))

abbrev pub annotated_type : Option Judgement → Option DslxType → Option DslxType
annotated_type None t = t
annotated_type (Some written) t = written.ty

-- no part may lack a type, the annotation neither
abbrev pub loop_type : LoopSeen → Option DslxType
loop_type l = and_then (index_type l) (λ i. and_then l.body.ty (λ t. and_then (annotated_type l.written l.start.ty) (λ u. l.start.ty)))

abbrev pub loop_parts_faults : LoopSeen → List Fault
loop_parts_faults l = l.from.judgement.faults ++ l.to.judgement.faults ++ l.start.faults ++ l.index.faults ++ l.acc.faults ++ l.body.faults

-- rules 26 and 9, and the limit on its turns
abbrev pub loop_faults : Span → Span → LoopSeen → List Fault
loop_faults span body_span l =
    unless_types one_bit_type rule.RANGE_OF_ONE_TYPE span l.from.judgement.ty l.to.judgement.ty
    ++ loop_annotation span l.written (index_type l) l.start.ty
    ++ wanted_faults body_span l.start.ty l.body.ty
    ++ turn_limit span.to (turns_of l.from.value l.to.value)

abbrev pub loop_reached : LoopSeen → List Instance
loop_reached l =
    l.from.judgement.reached ++ l.to.judgement.reached ++ l.start.reached ++ annotation_reached l.written
    ++ l.index.reached ++ l.acc.reached ++ l.body.reached

-- each turn counts 1, its patterns and its body
abbrev pub turns_size : LoopSeen → Option ℕ
turns_size l = times_size (turns_of l.from.value l.to.value) (plus_size (Some (1 + l.index.size + l.acc.size)) l.body.size)

abbrev pub loop_size : LoopSeen → Option ℕ
loop_size l = one_and (plus_size (plus_size l.from.judgement.size l.to.judgement.size) (plus_size l.start.size (turns_size l)))

abbrev pub loop_seen : ForLayer → TypeEnv → LoopSeen
loop_seen f context =
    let from = constant_of context f.from in
    let to = constant_of context f.to in
    let start = alone context f.start in
    let index = pattern_alone false context (same_ends from.judgement.ty to.judgement.ty) f.index in
    let acc = pattern_alone false (with_typed context index.locals) start.ty f.accumulator in
    record {
      from = from;
      to = to;
      written = written_typing context f.ty;
      start = start;
      index = index;
      acc = acc;
      body = block_alone (with_typed context acc.locals) f.body;
    }

abbrev pub loop_with : Span → Span → LoopSeen → Judgement
loop_with span body_span l = settled span (loop_type l) (loop_parts_faults l ++ loop_faults span body_span l) (loop_reached l) (loop_size l)

abbrev pub loop_typing : ForLayer → Span → TypeEnv → Judgement
loop_typing f span context = loop_with span (span_of_block f.body) (loop_seen f context)
