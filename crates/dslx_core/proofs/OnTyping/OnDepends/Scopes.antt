-- What parts need to be judged alike, taken apart, and constants and patterns where they have it.
use Rattle.std.proofs.Common.{◌≡◌, ◌&&◌, ◌||◌, ◌++◌, ℕ, Bool, true, false, not, if◌then◌else◌, List, [], ◌∷◌, map, Option, Some, None, refl, sym, ap, subst, ◌∙◌}
use mathlib.Core.Bool.{true≢false}
use Rattle.std.specs.Str.{bytes_eq}
use Rattle.std.proofs.lemmas.Slice.Eq.{bytes_eq-Decides}
use Rattle.dslx_tree.specs.declared.pattern.Pattern.{Pattern}
use Rattle.dslx_tree.proofs.Lemmas.Folds.Folds.{fold_pattern}
use Rattle.dslx_meaning.specs.Environment.{Env, Given, given_in}
use Rattle.dslx_meaning.specs.Lists.{is_in, or_else}
use Rattle.dslx_meaning.specs.Meaning.{fitted}
use Rattle.dslx_meaning.specs.declared.ty.DslxType.{DslxType}
use Rattle.dslx_meaning.specs.declared.value.DslxValue.{DslxValue}
use Rattle.dslx_meaning.specs.Rules.TypeEnvs.{ChannelEnd, DefaultSeen, ExprPair, ExprTyping, GlobalEnv, Instance, Judgement, Typed, TypeEnv, alone, constant_env, span_of, typed_in, unhidden, with_typed, within}
use Rattle.dslx_meaning.specs.Rules.Mentions.{Use, AsValue, AsPattern, AsType, AsFunction, AsProc, AsEnum, AsStruct, Mention, Mentions, NamesBound, item_reaches, mention, mentioned, value_mention}
use Rattle.dslx_meaning.specs.Rules.NodeRules.{expr_pair}
use Rattle.dslx_meaning.specs.Rules.CallRules.{channel_end_in}
use Rattle.dslx_meaning.specs.Rules.ConstantRules.{is_member}
use Rattle.dslx_meaning.specs.Rules.PatternRules.{is_there}
use Rattle.dslx_meaning.specs.Rules.Typings.{PatternTyping}
use Rattle.dslx_core.specs.Typing.Laws.Agreement.{AgreeOn, MeansOne}
use Rattle.dslx_core.proofs.Lemmas.Typing.Laws.{AllGiven, FitAlike, given_agree, given_here, given_more, pattern_depends, unchanged, value_depends}
use Rattle.dslx_core.specs.Typing.TypingRelations.Reached.{AllNamed, MentionsReach}
use Rattle.dslx_core.proofs.Lemmas.Typing.TypingRelations.{expression_reaches, parts, unmarked}
use Rattle.dslx_core.specs.Typing.Depends.Alike.{DeclaredAlike, GlobalsAgree, HiddenAlike, MentionsAlike, NamesAlike, SeenAlike, SeesAlike, SeesFrom, TypesAlike, UseAlike, in_globals, is_bound_there}
use Rattle.dslx_core.specs.Typing.TypingRelations.Called.{named}
use Rattle.dslx_core.specs.Typing.TypingRelations.Cycles.{AllUsed}
use Rattle.dslx_core.proofs.OnTyping.OnDepends.Links.{typing, expr_typing, mentions, mention_steps}
use Rattle.dslx_core.proofs.OnTyping.OnDepends.Rebound.{AllMeet, Rebinds, expression_rebinds, in_second, pattern_rebinds}
use Rattle.dslx_core.proofs.OnTyping.OnSized.Joined.{expression_sized, pattern_sized}
use Rattle.dslx_core.proofs.OnTyping.OnSized.Locals.{free_unlocal}
use Rattle.dslx_core.proofs.OnTyping.OnSized.Parts.{HasCalls, LeavesUnknown, PatternSized, both_tests, unlocal, unmarked_sized}
use Rattle.dslx_core.proofs.OnTyping.OnTyped.TypingRelations.{or_false}
use Rattle.dslx_core.proofs.OnTyping.OnDepends.Same.{ConstantSame}

-- ---- lists of mentions and names

pub alike_parts : (a b : GlobalEnv) (owner : List ℕ) (xs ys : List Mention) → MentionsAlike a b owner (xs ++ ys) → MentionsAlike a b owner xs × MentionsAlike a b owner ys
alike_parts a b owner [] ys h = (tt, h)
alike_parts a b owner (x ∷ xs) ys h = let r = alike_parts a b owner xs ys h.1 in ((h.0, r.0), r.1)

pub names_join : (a b : GlobalEnv) (xs ys : List (List ℕ)) → NamesAlike a b xs → NamesAlike a b ys → NamesAlike a b (xs ++ ys)
names_join a b [] ys h k = k
names_join a b (x ∷ xs) ys h k = (h.0, names_join a b xs ys h.1 k)

-- a constant that is hidden
hidden_constant : (a b : GlobalEnv) (bound : List (List ℕ)) (name : List ℕ) → NamesAlike a b bound → is_in name bound ≡ true → a.items.constant name ≡ b.items.constant name
hidden_constant a b [] name h e = absurd (true≢false (sym e))
hidden_constant a b (n ∷ ns) name h e = by_name (bytes_eq name n) refl e (hidden_constant a b ns name h.1)
  where
    by_name : (t : Bool) → bytes_eq name n ≡ t → (if t then true else is_in name ns) ≡ true → (is_in name ns ≡ true → a.items.constant name ≡ b.items.constant name) → a.items.constant name ≡ b.items.constant name
    by_name true q e rest = subst (λ x. a.items.constant x ≡ b.items.constant x) (sym ((bytes_eq-Decides name n).0 q)) h.0
    by_name false q e rest = rest e

-- the constant of a name that no local and no parametric hides
pub value_alike : (context : TypeEnv) (other : GlobalEnv) (bound : List (List ℕ)) (name : List ℕ) → HiddenAlike bound context other → MentionsAlike context.known other context.owner (value_mention name bound) → is_bound_there context name ≡ false
    → context.known.items.constant name ≡ other.items.constant name
value_alike context other bound name n h free = by_in (is_in name bound) refl h
  where
    by_in : (t : Bool) → is_in name bound ≡ t → MentionsAlike context.known other context.owner (if t then [] else mention AsValue name) → context.known.items.constant name ≡ other.items.constant name
    by_in true q k = n name q free
    by_in false q k = k.0

-- the same place, for a part that mentions this
abbrev pub for_part : (P : List ℕ → Bool) (bound : List (List ℕ)) (context : TypeEnv) (other : GlobalEnv) (xs ys : List Mention) → SeesFrom P bound context other xs → MentionsReach P context.known context.owner ys → MentionsAlike context.known other context.owner ys
    → SeesFrom P bound context other ys
for_part P bound context other xs ys h r k = record { known = h.known; enums = h.enums; hidden = h.hidden; reach = r; alike = k }

pub first_part : (P : List ℕ → Bool) (bound : List (List ℕ)) (context : TypeEnv) (other : GlobalEnv) (xs ys : List Mention) → SeesFrom P bound context other (xs ++ ys) → SeesFrom P bound context other xs
first_part P bound context other xs ys h =
    for_part P bound context other (xs ++ ys) xs h (parts P context.known context.owner xs ys h.reach).0 (alike_parts context.known other context.owner xs ys h.alike).0

pub second_part : (P : List ℕ → Bool) (bound : List (List ℕ)) (context : TypeEnv) (other : GlobalEnv) (xs ys : List Mention) → SeesFrom P bound context other (xs ++ ys) → SeesFrom P bound context other ys
second_part P bound context other xs ys h =
    for_part P bound context other (xs ++ ys) ys h (parts P context.known context.owner xs ys h.reach).1 (alike_parts context.known other context.owner xs ys h.alike).1

-- what has the name of one of these locals has that of one of those
abbrev pub LocalsKeep : List Typed → List Typed → Type 0
LocalsKeep locals more = (name : List ℕ) → is_in name (map (λ (l : Typed). l.name) locals) ≡ true → is_in name (map (λ (l : Typed). l.name) more) ≡ true

-- what is bound in one type environment is bound in the other, too
abbrev pub Keeps : TypeEnv → TypeEnv → Type 0
Keeps context inner = (name : List ℕ) → is_bound_there context name ≡ true → is_bound_there inner name ≡ true

pub locals_kept : (context : TypeEnv) (locals : List Typed) (used : List (List ℕ)) → LocalsKeep context.locals locals → Keeps context (record context { locals = locals; used = used })
locals_kept context locals used k name h = by_local (is_in name (map (λ (l : Typed). l.name) context.locals)) refl h
  where
    rest : Bool
    rest = is_there (given_in name context.parametric_args) || is_in name context.unknown

    either : (b : Bool) → rest ≡ true → (b || rest) ≡ true
    either true e = refl
    either false e = e

    by_local : (b : Bool) → is_in name (map (λ (l : Typed). l.name) context.locals) ≡ b → (b || rest) ≡ true → (is_in name (map (λ (l : Typed). l.name) locals) || rest) ≡ true
    by_local true q e = λ i. k name q i || rest
    by_local false q e = either (is_in name (map (λ (l : Typed). l.name) locals)) e

not_kept : (context inner : TypeEnv) → Keeps context inner → (name : List ℕ) → is_bound_there inner name ≡ false → is_bound_there context name ≡ false
not_kept context inner k name h = by_test (is_bound_there context name) refl
  where
    by_test : (b : Bool) → is_bound_there context name ≡ b → is_bound_there context name ≡ false
    by_test true q = absurd (true≢false (sym (k name q) ∙ h))
    by_test false q = q

-- behind more names
pub behind_names : (P : List ℕ → Bool) (names bound : List (List ℕ)) (context inner : TypeEnv) (other : GlobalEnv) (ms : List Mention) → inner.known ≡ context.known → inner.owner ≡ context.owner → Keeps context inner → NamesAlike context.known other names
    → SeesFrom P bound context other ms → SeesFrom P (names ++ bound) inner other ms
behind_names P names bound context inner other ms same own keeps n h = record {
  known = subst (λ (k : GlobalEnv). GlobalsAgree P k other) (sym same) h.known;
  enums = λ name member e. (λ i. (same i).items.member name member) ∙ h.enums name member (sym (λ i. item_reaches (same i).whole (own i) name) ∙ e);
  hidden = λ name q free. (λ i. (same i).items.constant name) ∙ by_name name q free (is_in name names) refl;
  reach = subst (λ (o : List ℕ). MentionsReach P inner.known o ms) (sym own) (subst (λ (k : GlobalEnv). MentionsReach P k context.owner ms) (sym same) h.reach);
  alike = subst (λ (o : List ℕ). MentionsAlike inner.known other o ms) (sym own) (subst (λ (k : GlobalEnv). MentionsAlike k other context.owner ms) (sym same) h.alike);
}
  where
    by_name : (name : List ℕ) → is_in name (names ++ bound) ≡ true → is_bound_there inner name ≡ false → (b : Bool) → is_in name names ≡ b → context.known.items.constant name ≡ other.items.constant name
    by_name name q free true e = hidden_constant context.known other names name n e
    by_name name q free false e = h.hidden name (in_second name names bound e q) (not_kept context inner keeps name free)

-- behind locals
pub with_locals : (P : List ℕ → Bool) (names bound : List (List ℕ)) (context : TypeEnv) (locals : List Typed) (other : GlobalEnv) (ms : List Mention) → LocalsKeep context.locals locals → NamesAlike context.known other names → SeesFrom P bound context other ms
    → SeesFrom P (names ++ bound) (with_typed context locals) other ms
with_locals P names bound context locals other ms k n h = behind_names P names bound context (with_typed context locals) other ms refl refl (locals_kept context locals context.used k) n h

-- what is hidden of constants that are known alike is so, too
pub hidden_alike : (bound : List (List ℕ)) (context : TypeEnv) (other : GlobalEnv) → NamesAlike context.known other bound → HiddenAlike bound context other
hidden_alike bound context other n name q free = hidden_constant context.known other bound name n q

pub sees_from : (P : List ℕ → Bool) (bound : List (List ℕ)) (context : TypeEnv) (other : GlobalEnv) (ms : List Mention) → SeesAlike P bound context.owner context.known other ms → SeesFrom P bound context other ms
sees_from P bound context other ms h = record { known = h.known; enums = h.enums; hidden = hidden_alike bound context other h.hidden; reach = h.reach; alike = h.alike }

-- what is known alike of an item is seen alike
pub types_from : (a b : GlobalEnv) (owner : List ℕ) → DeclaredAlike a b owner → TypesAlike a b owner
types_from a b owner h = record {
  parameter = λ before. ap (λ (j : Judgement). j.ty) (h.parameter before);
  default = λ before. ap (λ (x : DefaultSeen). x.value) (h.default before);
  default_type = λ before. ap (λ (x : DefaultSeen). x.judgement.ty) (h.default before);
  signature = h.signature;
}

pub seen_from : (a b : GlobalEnv) (owner : List ℕ) (u : Use) (name : List ℕ) → UseAlike a b u name → SeenAlike a b owner u name
seen_from a b owner AsValue name h = h
seen_from a b owner AsPattern name h = h
seen_from a b owner AsType name h = h
seen_from a b owner AsFunction name h = record { call = h.call; types = λ f e. types_from a b f.name.name (h.function f e).declared; function = λ free f e. h.function f e }
seen_from a b owner AsProc name h = h
seen_from a b owner AsEnum name h = h
seen_from a b owner AsStruct name h = h

-- ---- environments of constants

abbrev env_of : GlobalEnv → List Given → Env
env_of known bound = record { items = known.items; bound = bound }

use_agrees : (P : List ℕ → Bool) (a b : GlobalEnv) (owner : List ℕ) (given : List Given) → GlobalsAgree P a b → (u : Use) (name : List ℕ) → SeenAlike a b owner u name → MeansOne (env_of a given) (env_of b given) u name
use_agrees P a b owner given k AsValue name h = ap (or_else (given_in name given)) h
use_agrees P a b owner given k AsPattern name h = record { kind = k.kinds name; constant = λ c. h; value = λ c. ap (or_else (given_in name given)) h }
use_agrees P a b owner given k AsType name h = h
use_agrees P a b owner given k AsFunction name h = h.call
use_agrees P a b owner given k AsProc name h = tt
use_agrees P a b owner given k AsEnum name h = h.members
use_agrees P a b owner given k AsStruct name h = h

pub mentions_agree : (P : List ℕ → Bool) (a b : GlobalEnv) (owner : List ℕ) (given : List Given) → GlobalsAgree P a b → (ms : List Mention) → MentionsAlike a b owner ms → AgreeOn ms (env_of a given) (env_of b given)
mentions_agree P a b owner given k [] h = tt
mentions_agree P a b owner given k (m ∷ ms) h = (use_agrees P a b owner given k m.use_as m.name h.0, mentions_agree P a b owner given k ms h.1)

-- ---- names in constants

-- what constants are evaluated behind: parametrics whose values are known
abbrev given_names : List Given → List (List ℕ)
given_names gs = map (λ (g : Given). g.name) gs

all_given : (gs : List Given) → AllGiven (given_names gs) gs
all_given [] = tt
all_given (g ∷ gs) = ((g.value, given_here g.name g.value gs), given_more (given_names gs) g.name g.value gs (all_given gs))

-- none of these is the name of a parametric whose value isn't known
abbrev is_unknown : TypeEnv → List ℕ → Bool
is_unknown context name = not (is_in name (map (λ (l : Typed). l.name) context.locals)) && (not (is_there (given_in name context.parametric_args)) && (is_in name context.unknown && not (is_there (channel_end_in name context.members))))

no_one : {A : Type 0} (o : Option A) → not (is_there o) ≡ true → o ≡ None
no_one None e = refl
no_one (Some a) e = absurd (true≢false (sym e))

pub leaves_unknown : (bound : List (List ℕ)) (context : TypeEnv) → LeavesUnknown (is_unknown context) bound context
leaves_unknown bound context = record {
  are = record {
    given = λ name u. no_one (given_in name context.parametric_args) (apart name u).1;
    unknown = λ name u. (apart name u).2;
    members = λ name u. no_one (channel_end_in name context.members) (apart name u).3;
  };
  locals = λ name u q. no_local name context.locals (apart name u).0;
}
  where
    apart : (name : List ℕ) → is_unknown context name ≡ true
        → (not (is_in name (map (λ (l : Typed). l.name) context.locals)) ≡ true) × (not (is_there (given_in name context.parametric_args)) ≡ true) × (is_in name context.unknown ≡ true) × (not (is_there (channel_end_in name context.members)) ≡ true)
    apart name u =
        let one = both_tests (not (is_in name (map (λ (l : Typed). l.name) context.locals))) _ u in
        let two = both_tests (not (is_there (given_in name context.parametric_args))) _ one.1 in
        let three = both_tests (is_in name context.unknown) _ two.1 in
        (one.0, two.0, three.0, three.1)

    no_local : (name : List ℕ) (ls : List Typed) → not (is_in name (map (λ (l : Typed). l.name) ls)) ≡ true → typed_in name ls ≡ None
    no_local name [] e = refl
    no_local name (l ∷ ls) e = by_first (bytes_eq name l.name) e (no_local name ls)
      where
        by_first : (b : Bool) → not (if b then true else is_in name (map (λ (l : Typed). l.name) ls)) ≡ true → (not (is_in name (map (λ (l : Typed). l.name) ls)) ≡ true → typed_in name ls ≡ None) → (if b then Some l.ty else typed_in name ls) ≡ None
        by_first true e rest = absurd (true≢false (sym e))
        by_first false e rest = rest e

-- what isn't a given parametric, a local, a member or a parametric of unknown value is bound nowhere
member_there : (name : List ℕ) (ms : List ChannelEnd) → is_there (channel_end_in name ms) ≡ true → is_in name (map (λ (c : ChannelEnd). c.name) ms) ≡ true
member_there name [] h = absurd (true≢false (sym h))
member_there name (c ∷ ms) h = by_first (bytes_eq name c.name) h (member_there name ms)
  where
    by_first : (b : Bool) → is_there (if b then Some c else channel_end_in name ms) ≡ true → (is_there (channel_end_in name ms) ≡ true → is_in name (map (λ (c : ChannelEnd). c.name) ms) ≡ true)
        → (if b then true else is_in name (map (λ (c : ChannelEnd). c.name) ms)) ≡ true
    by_first true g rest = refl
    by_first false g rest = rest g

not_given : (name : List ℕ) (ls : List Typed) (gs : List Given) → is_in name (map (λ (l : Typed). l.name) ls) ≡ false → is_in name (given_names (unhidden ls gs)) ≡ false → is_there (given_in name gs) ≡ false
not_given name ls [] l h = refl
not_given name ls (g ∷ gs) l h = by_first (bytes_eq name g.name) refl (is_in g.name (map (λ (x : Typed). x.name) ls)) refl h (not_given name ls gs l)
  where
    by_first : (b : Bool) → bytes_eq name g.name ≡ b → (c : Bool) → is_in g.name (map (λ (x : Typed). x.name) ls) ≡ c → is_in name (given_names (if c then unhidden ls gs else g ∷ unhidden ls gs)) ≡ false → (is_in name (given_names (unhidden ls gs)) ≡ false → is_there (given_in name gs) ≡ false) → is_there (if b then Some g.value else given_in name gs) ≡ false
    by_first true q true c k rest = absurd (true≢false (sym c ∙ ap (λ n. is_in n (map (λ (x : Typed). x.name) ls)) (sym ((bytes_eq-Decides name g.name).0 q)) ∙ l))
    by_first true q false c k rest = absurd (true≢false (sym (λ i. if q i then true else is_in name (given_names (unhidden ls gs))) ∙ k))
    by_first false q true c k rest = rest k
    by_first false q false c k rest = rest ((λ i. if sym q i then true else is_in name (given_names (unhidden ls gs))) ∙ k)

abbrev all : List ℕ → Bool
all name = true

all_named : (is : List Instance) → AllNamed all is
all_named [] = tt
all_named (i ∷ is) = (refl, all_named is)

bound_nowhere : (context : TypeEnv) (name : List ℕ) → is_in name (given_names (unhidden context.locals context.parametric_args)) ≡ false → not (is_unknown context name) ≡ true → not (is_in name (map (λ (l : Typed). l.name) context.locals) || is_member context name) ≡ true
    → is_bound_there context name ≡ false
bound_nowhere context name out two free = λ i. locals i || (given i || unknown (is_in name context.unknown) refl (is_there (channel_end_in name context.members)) refl i)
  where
    both : (is_in name (map (λ (l : Typed). l.name) context.locals) ≡ false) × (is_member context name ≡ false)
    both = or_false (is_in name (map (λ (l : Typed). l.name) context.locals)) (is_member context name) (not_both (is_in name (map (λ (l : Typed). l.name) context.locals) || is_member context name) free)
      where
        not_both : (b : Bool) → not b ≡ true → b ≡ false
        not_both true e = absurd (true≢false (sym e))
        not_both false e = refl

    locals : is_in name (map (λ (l : Typed). l.name) context.locals) ≡ false
    locals = both.0

    given : is_there (given_in name context.parametric_args) ≡ false
    given = not_given name context.locals context.parametric_args locals out

    unknown : (b : Bool) → is_in name context.unknown ≡ b → (c : Bool) → is_there (channel_end_in name context.members) ≡ c → is_in name context.unknown ≡ false
    unknown false q c r = q
    unknown true q true r = absurd (true≢false (sym (λ i. member_there name context.members r i && not (given i)) ∙ both.1))
    unknown true q false r = absurd (true≢false (sym two ∙ (λ i. not (not (locals i) && (not (given i) && (q i && not (r i)))))))

-- ---- what means one thing in two environments of constants

abbrev Meant : TypeEnv → GlobalEnv → Use → List ℕ → Type 0
Meant context other u name = named all (is_unknown context) u name ≡ true → unlocal context u name ≡ true → MeansOne (constant_env context) (constant_env (in_globals context other)) u name

meant : (context : TypeEnv) (other : GlobalEnv) (ms : List Mention) → AgreeOn ms (constant_env context) (constant_env (in_globals context other)) → AllMeet (Meant context other) ms
meant context other [] h = tt
meant context other (m ∷ ms) h = ((λ u f. h.0), meant context other ms h.1)

agreed : (context : TypeEnv) (other : GlobalEnv) (ms : List Mention) → AllMeet (Meant context other) ms → AllUsed (named all (is_unknown context)) ms → AllUsed (unlocal context) ms → AgreeOn ms (constant_env context) (constant_env (in_globals context other))
agreed context other [] h u f = tt
agreed context other (m ∷ ms) h u f = (h.0 u.0 f.0, agreed context other ms h.1 u.1 f.1)

-- the parametrics that constants see
abbrev seen_names : TypeEnv → List (List ℕ)
seen_names context = given_names (unhidden context.locals context.parametric_args)

agree_there : (P : List ℕ → Bool) (bound : List (List ℕ)) (context : TypeEnv) (other : GlobalEnv) (ms : Mentions) → Rebinds (Meant context other) ms → SeesFrom P bound context other (ms bound) → AllUsed (named all (is_unknown context)) (ms (seen_names context))
    → AllUsed (unlocal context) (ms (seen_names context)) → AgreeOn (ms (seen_names context)) (constant_env context) (constant_env (in_globals context other))
agree_there P bound context other ms rebinds h used free =
    let names = seen_names context in
    let given = unhidden context.locals context.parametric_args in
    agreed context other (ms names)
    (rebinds bound names (λ n q k two f. ap (or_else (given_in n given)) (h.hidden n q (bound_nowhere context n k two f)))
    (meant context other (ms bound) (mentions_agree P context.known other context.owner given h.known (ms bound) h.alike))) used free

-- ---- constants

-- what is judged alike wherever it sees items of which the same is known
abbrev pub TypingsAgree : (List ℕ → Bool) → ExprTyping → Mentions → Type 0
TypingsAgree P j ms = (bound : List (List ℕ)) (on_top : Bool) (context : TypeEnv) (other : GlobalEnv) → SeesFrom P bound context other (ms bound) → j on_top context ≡ j on_top (in_globals context other)

-- an expression, beside its tree
pub record ExprAlike (P : List ℕ → Bool) (e : ExprPair) (ms : Mentions) : Type 0 where
  pub pair : expr_pair e.0 ≡ e
  pub mentions : mentioned e.0 ≡ ms
  pub typing : TypingsAgree P e.1 ms

pub constant_alike : (P : List ℕ → Bool) (e : ExprPair) (ms : Mentions) → ExprAlike P e ms → (bound : List (List ℕ)) (context : TypeEnv) (other : GlobalEnv) → SeesFrom P bound context other (ms bound) → ConstantSame P context other e
constant_alike P e ms x bound context other h = record {
  part = x.typing bound false context other h;
  reached = unmarked P (span_of e) (within context e)
      (subst (λ (p : ExprPair). AllNamed P (p.1 false context).reached) x.pair
      (expression_reaches P e.0 bound false context (subst (λ (m : Mentions). MentionsReach P context.known context.owner (m bound)) (sym x.mentions) h.reach)));
  value = λ w.
      let names = seen_names context in
      let given = unhidden context.locals context.parametric_args in
      let U = is_unknown context in
      let sized : HasCalls all U (within context e) (mentioned e.0 names) = subst (λ (p : ExprPair). HasCalls all U (p.1 false context) (mentioned e.0 names)) x.pair (expression_sized all U e.0 names false context (leaves_unknown names context)) in
      value_depends e.0 names (constant_env context) (constant_env (in_globals context other)) (given_agree context.known.items other.items names given (all_given given))
      (agree_there P bound context other (mentioned e.0) (expression_rebinds (Meant context other) e.0) (subst (λ (m : Mentions). SeesFrom P bound context other (m bound)) (sym x.mentions) h)
      (unmarked_sized all U (mentioned e.0 names) (span_of e) (within context e) sized w.sized (all_named (alone context e).reached)) (free_unlocal context e names w.free));
}

-- ---- patterns that are tried on a value

there_alike : (ns : List (List ℕ)) (a b : Env) (o p : Option Env) → FitAlike ns a b o p → is_there o ≡ is_there p
there_alike ns a b None None h = refl
there_alike ns a b (Some x) (Some y) h = refl
there_alike ns a b None (Some y) h = absurd h
there_alike ns a b (Some x) None h = absurd h

-- a pattern of which all is known fits alike
pub fits_alike : (P : List ℕ → Bool) (p : Pattern) (q : Pattern × PatternTyping) (n : NamesBound) → fold_pattern typing expr_typing p ≡ q → fold_pattern mentions mention_steps p ≡ n → (bound : List (List ℕ)) (context : TypeEnv) (other : GlobalEnv)
    → SeesFrom P bound context other (n.mentions bound) → (may_fail : Bool) (t : Option DslxType) (names : List (List ℕ)) (locals : List Typed) → (q.1 may_fail context t names locals).is_known ≡ true
    → (v : DslxValue) → is_there (fitted p v (constant_env context)) ≡ is_there (fitted p v (constant_env (in_globals context other)))
fits_alike P p q n typed same bound context other h may_fail t names locals known v =
    let a = constant_env context in
    let b = constant_env (in_globals context other) in
    let own = fold_pattern mentions mention_steps p in
    let U = is_unknown context in
    let seen = seen_names context in
    let given = unhidden context.locals context.parametric_args in
    let sized : PatternSized all U q.1 own = subst (λ (z : Pattern × PatternTyping). PatternSized all U z.1 own) typed (pattern_sized all U p) in
    there_alike own.names a b (fitted p v a) (fitted p v b)
    ((pattern_depends p).fits seen a b a b v (given_agree context.known.items other.items seen given (all_given given))
    (agree_there P bound context other own.mentions (pattern_rebinds (Meant context other) p) (subst (λ (m : NamesBound). SeesFrom P bound context other (m.mentions bound)) (sym same) h)
    (sized.known seen may_fail context t names locals (leaves_unknown seen context) known (all_named (q.1 may_fail context t names locals).reached)) (sized.no_local seen may_fail context t names locals known)) (unchanged [] a b tt))
