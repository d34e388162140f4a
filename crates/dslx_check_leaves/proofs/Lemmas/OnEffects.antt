-- Effects: from a token, a channel and others, and where they are none.
use Rattle.std.proofs.Common.{◌≡◌, ◌∙◌, ◌<◌, ◌≤◌, ◌+◌, ◌-◌, ◌++◌, ◌∷◌, ◌==◌, [], ℕ, Bool, true, false, List, Option, Some, None, arith, drop, get_or, length, map, take, ne_eqb, refl, sym, ap, subst, if◌then◌else◌}
use Rattle.std.proofs.lemmas.List.{append-nil, take_all}
use Rattle.base.specs.Lists.Prefix.{IsPrefix}
use Rattle.xb_span.specs.declared.fault.Fault.{Fault}
use Rattle.xb_span.specs.declared.span.Span.{Span}
use Rattle.dslx_tree.specs.declared.expr.Arg.{Arg}
use Rattle.dslx_tree.specs.declared.expr.Expr.{Expr, out-Expr}
use Rattle.dslx_tree.specs.declared.process.Direction.{Direction}
use Rattle.dslx_tree.specs.declared.process.Direction.TheVariants.{In, Out}
use Rattle.dslx_meaning.specs.Rules.CallRules.{ChannelSeen, ParametricArgument as GivenSeen, call_parts_faults, call_parts_reached, channel_end_at, channel_named, channel_seen, given_judgements, held_typing, named_channel, only_on_top, receiving, receiving_if, sending, sending_if, token_typing, wrong_call, wrong_effect}
use Rattle.dslx_meaning.specs.Rules.TypeEnvs.{ChannelEnd, GlobalEnv, Instance, Judgement, TypeEnv, alone, faults_of_all, reached_of_all}
use Rattle.dslx_check_rules.specs.declared.faults.Faults.{Faults}
use Rattle.dslx_check_rules.specs.declared.table.row.TypeRow.{TypeRow}
use Rattle.dslx_check_rules.specs.declared.typing.Typing.{Typing}
use Rattle.dslx_check_rules.specs.Seen.{seen}
use Rattle.dslx_check_rules.specs.Interned.{ItemNames}
use Rattle.dslx_check_facts.specs.declared.facts.Facts.{Facts}
use Rattle.dslx_check_facts.specs.declared.type_env.TypeEnv.{TypeEnv as CodeEnv}
use Rattle.dslx_check_facts.specs.Judged.{environment}
use Rattle.dslx_check_facts.specs.Known.{item_names}
use Rattle.dslx_check_facts.specs.TypeEnvs.{HasBoundRows, env_of}
use Rattle.dslx_check_facts.specs.Walks.{WalkShown, instances_at}
use Rattle.dslx_check_facts.proofs.Lemmas.Judged.{row_stays_if}
use Rattle.dslx_check_facts.proofs.Lemmas.Walks.{grows_refl}
use Rattle.dslx_check_rules.specs.declared.nodes.parts.Spanned.{Spanned}
use Rattle.dslx_check_rules.specs.Nodes.Parts.{ArePlaced, IsPart, IsPlaced, Placed, judgements}
use Rattle.dslx_check_rules.specs.declared.control.calls.ParametricArgument.{ParametricArgument}
use Rattle.dslx_check_rules.specs.declared.control.effects.ChannelTyping.{ChannelTyping}
use Rattle.dslx_check_rules.specs.Control.Calls.{AreGiven, IsGiven, wrong_call_of}
use Rattle.dslx_check_rules.specs.Control.Effects.{FromEffect, IsEffectChannel, effect_of}
use Rattle.dslx_check_uses.specs.Ends.{channel_by_name}
use Rattle.dslx_check_uses.specs.Inferring.{the_name}
use Rattle.dslx_check_leaves.specs.Named.Constants.{expr_typed}
use Rattle.dslx_check_leaves.specs.Typed.{effect_at, fits_effect, given_at, placed, right_effect_at, wrong_operands_at}
use Rattle.dslx_check_leaves.specs.Walked.{WalksTo, TypesPart, TypesChannel, TypesEach, TypesFaults, all_reached, given_reached, reached_there}
use Rattle.dslx_check_leaves.proofs.Lemmas.Walking.{AddsTypes, Both, all_dropped, both, halved, part_stays, reached_both, same_types, with_rows}
use Rattle.dslx_check_leaves.proofs.Lemmas.OnCalls.{alone_are, places_reach}
use Rattle.dslx_check_leaves.proofs.Lemmas.Whole.{given_reach}

-- ---- channels

named_reached : (span : Span) (name : List ℕ) (end : Option ChannelEnd) → (named_channel span name end).reached ≡ []
named_reached span name None = refl
named_reached span name (Some end) = refl

-- a name as a channel
pub channel_walked : {f : Facts} {s : CodeEnv} {w : WalkShown} {c : ChannelTyping} (e : Expr) (name : List ℕ) → the_name e ≡ Some name
    → ((items : ItemNames) (rows later : List TypeRow) (known : GlobalEnv) → HasBoundRows items rows s
    → IsEffectChannel items rows later (env_of items later known s) c (channel_by_name (out-Expr e).span (env_of items later known s) name))
    → WalksTo f s s w w (TypesChannel c (λ env. channel_seen env (expr_typed e)))
channel_walked {f} {s} {w} {c} e name is typed = record {
  grows = grows_refl w;
  sight = refl;
  holds = λ known later has agrees there none.
      let env = environment f s known later in
      let same : channel_named env (expr_typed e) (Some name) ≡ channel_seen env (expr_typed e) = ap (channel_named env (expr_typed e)) (sym is) in
      record {
        is = subst (IsEffectChannel (item_names f) w.rows later.rows env c) same (typed (item_names f) w.rows later.rows known there.bound);
        reaches = ap (instances_at (item_names f) later.met) (all_dropped w.reached) ∙ sym (named_reached (out-Expr e).span name (channel_end_at env name)) ∙ ap (λ (x : ChannelSeen). x.judgement.reached) same;
      };
}

-- anything else is none
pub no_channel : {f : Facts} {s0 s1 : CodeEnv} {w0 w1 : WalkShown} {j : Typing} (e : Expr) → the_name e ≡ None → WalksTo f s0 s1 w0 w1 (TypesPart j (λ env. alone env (expr_typed e)))
    → WalksTo f s0 s1 w0 w1 (TypesChannel (record { typing = j; direction = None; word = None; has_site = false }) (λ env. channel_seen env (expr_typed e)))
no_channel {f} {s0} {s1} {w0} {w1} {j} e is g =
    let c : ChannelTyping = record { typing = j; direction = None; word = None; has_site = false } in
    halved (TypesPart j (λ env. alone env (expr_typed e))) (TypesChannel c (λ env. channel_seen env (expr_typed e))) g (same_types w1.rows)
    (λ names later more env distinct p t.
    let same : channel_named env (expr_typed e) None ≡ channel_seen env (expr_typed e) = ap (channel_named env (expr_typed e)) (sym is) in
    let none : IsEffectChannel names w1.rows later.rows env c (channel_named env (expr_typed e) None) = record { part = t.part; direction = refl; row = tt; word = refl; site = refl } in
    record {
      is = subst (IsEffectChannel names w1.rows later.rows env c) same none;
      reaches = t.reaches ∙ ap (λ (x : ChannelSeen). x.judgement.reached) same;
    })

channel_stays : (names : ItemNames) (rows longer later : List TypeRow) (env : TypeEnv) (c : ChannelTyping) (x : ChannelSeen) → IsPrefix rows longer → IsEffectChannel names rows later env c x → IsEffectChannel names longer later env c x
channel_stays names rows longer later env c x p is = record { part = part_stays p is.part; direction = is.direction; row = row_stays_if rows longer c.word p is.row; word = is.word; site = is.site }

-- ---- effects

pub effect_walked : {f : Facts} {s0 s1 s2 s3 : CodeEnv} {w0 w1 w2 w3 : WalkShown} {rows : List TypeRow} {a j : Typing} {c : ChannelTyping} {all : List Spanned} {A : TypeEnv → Judgement} {C : TypeEnv → ChannelSeen}
    {X : TypeEnv → List Placed} (span : Span) (direction : Direction)
    → WalksTo f s0 s1 w0 w1 (TypesPart a A) → WalksTo f s1 s2 w1 w2 (TypesChannel c C) → WalksTo f s2 s3 w2 w3 (TypesEach IsPlaced reached_there all X) → AddsTypes w3.rows rows → FromEffect span direction w3.rows rows a c all j
    → WalksTo f s0 s3 w0 (with_rows w3 rows) (TypesPart j (λ env. effect_of span env direction (A env) (C env) (X env)))
effect_walked {f} {s0} {s1} {s2} {s3} {w0} {w1} {w2} {w3} {rows} {a} {j} {c} {all} {A} {C} {X} span direction g k l p h =
    let P = TypesPart a A in
    let Q = TypesChannel c C in
    let R = TypesEach IsPlaced reached_there all X in
    halved (Both (Both P Q w1.rows) R w2.rows) (TypesPart j (λ env. effect_of span env direction (A env) (C env) (X env))) (both (Both P Q w1.rows) R (both P Q g k) l) p
    (λ names later more env distinct q t. record {
      part = h.typed names later.rows distinct q env (A env) (C env) (X env) (part_stays t.grows (part_stays t.first.grows t.first.first.part))
          (channel_stays names w2.rows w3.rows later.rows env c (C env) t.grows t.first.second.is) t.second.parts;
      reaches = reached_both names later.met more t.front t.rest ((A env).reached ++ (C env).judgement.reached) (all_reached reached_there (X env)) t.joined
          (reached_both names later.met t.front t.first.front t.first.rest (A env).reached (C env).judgement.reached t.first.joined t.first.first.reaches t.first.second.reaches) t.second.reaches
          ∙ ap (λ ys. (A env).reached ++ (C env).judgement.reached ++ ys) (sym (places_reach (X env)));
    })

-- the operands are a token, a channel and these
pub some_operands : (es : List Expr) (t c : Expr) → 2 ≤ length es → t ≡ get_or es 0 t → c ≡ get_or es 1 c → es ≡ t ∷ c ∷ take (length es - 2) (drop 2 es)
some_operands [] t c h e is = absurd (omega (arith, h))
some_operands (x ∷ []) t c h e is = absurd (omega (arith, h))
some_operands (x ∷ y ∷ es) t c h e is = λ i. sym e i ∷ sym is i ∷ sym (take_all (length (x ∷ y ∷ es) - 2) es (omega arith)) i

pub effect_there : (direction : Direction) (span : Span) (args : List Arg) (operands : List Expr) (t c : Expr) (es : List Expr) → operands ≡ t ∷ c ∷ es
    → ◌≡◌ {A = TypeEnv → Judgement} (λ env. effect_of span env direction (token_typing env (expr_typed t)) (channel_seen env (expr_typed c)) (map (placed env) es)) (λ env. right_effect_at direction span args operands env)
effect_there direction span args operands t c es e = λ i env. right_effect_at direction span args (sym e i) env

pub too_few : (direction : Direction) (span : Span) (args : List Arg) (operands : List Expr) → length operands < 2
    → ◌≡◌ {A = TypeEnv → Judgement} (λ env. wrong_effect span env (map (given_at env) args) (map expr_typed operands)) (λ env. right_effect_at direction span args operands env)
too_few direction span args [] h = refl
too_few direction span args (t ∷ []) h = refl
too_few direction span args (t ∷ c ∷ es) h = absurd (omega (arith, h))

pub effect_fits : (direction : Direction) (count : ℕ) (span : Span) (args : List Arg) (operands : List Expr) → fits_effect count args operands ≡ true
    → ◌≡◌ {A = TypeEnv → Judgement} (λ env. right_effect_at direction span args operands env) (λ env. effect_at direction count span args operands env)
effect_fits direction count span args operands e = λ i env. if sym e i then right_effect_at direction span args operands env else wrong_effect span env (map (given_at env) args) (map expr_typed operands)

pub effect_unfit : (direction : Direction) (count : ℕ) (span : Span) (args : List Arg) (operands : List Expr) → fits_effect count args operands ≡ false
    → ◌≡◌ {A = TypeEnv → Judgement} (λ env. wrong_effect span env (map (given_at env) args) (map expr_typed operands)) (λ env. effect_at direction count span args operands env)
effect_unfit direction count span args operands e = λ i env. if sym e i then right_effect_at direction span args operands env else wrong_effect span env (map (given_at env) args) (map expr_typed operands)

pub on_top_reached : (on_top : Bool) (span : Span) (x : Judgement) → (only_on_top on_top span x).reached ≡ x.reached
on_top_reached true span x = refl
on_top_reached false span x = refl

pub no_args_fit : (count : ℕ) (args : List Arg) (operands : List Expr) → length args < 1 → (length operands == count) ≡ fits_effect count args operands
no_args_fit count [] operands h = refl
no_args_fit count (a ∷ args) operands h = absurd (omega (arith, h))

pub args_unfit : (count : ℕ) (args : List Arg) (operands : List Expr) → 1 ≤ length args → false ≡ fits_effect count args operands
args_unfit count [] operands h = absurd (omega (arith, h))
args_unfit count (a ∷ args) operands h = refl

-- ---- effects of another number of arguments

pub no_places : {f : Facts} {s : CodeEnv} {w : WalkShown} {faults : Faults} (operands : List Expr) → length operands < 1 → faults ≡ seen []
    → WalksTo f s s w w (TypesFaults faults (λ env. wrong_operands_at operands env))
no_places {f} {s} {w} {faults} [] h e = record {
  grows = grows_refl w;
  sight = refl;
  holds = λ known later has agrees there none. record { is = e; reaches = ap (instances_at (item_names f) later.met) (all_dropped w.reached) };
}
no_places (t ∷ operands) h e = absurd (omega (arith, h))

one_operand : (es : List Expr) (t : Expr) → 1 ≤ length es → length es < 2 → t ≡ get_or es 0 t → t ∷ [] ≡ es
one_operand [] t h k e = absurd (omega (arith, h))
one_operand (x ∷ []) t h k e = λ i. e i ∷ []
one_operand (x ∷ y ∷ es) t h k e = absurd (omega (arith, k))

pub one_place : {f : Facts} {s0 s1 : CodeEnv} {w0 w1 : WalkShown} {a : Typing} (operands : List Expr) (t : Expr) → 1 ≤ length operands → length operands < 2 → t ≡ get_or operands 0 t
    → WalksTo f s0 s1 w0 w1 (TypesPart a (λ env. held_typing env (expr_typed t))) → WalksTo f s0 s1 w0 w1 (TypesFaults a.faults (λ env. wrong_operands_at operands env))
one_place {f} {s0} {s1} {w0} {w1} {a} operands t h k e g =
    subst (λ (es : List Expr). WalksTo f s0 s1 w0 w1 (TypesFaults a.faults (λ env. wrong_operands_at es env))) (one_operand operands t h k e)
    (halved (TypesPart a (λ env. held_typing env (expr_typed t))) (TypesFaults a.faults (λ env. wrong_operands_at (t ∷ []) env)) g (same_types w1.rows)
    (λ names later more env distinct p u. record {
      is = u.part.faults ∙ ap seen (sym (append-nil (held_typing env (expr_typed t)).faults));
      reaches = u.reaches ∙ sym (append-nil (held_typing env (expr_typed t)).reached);
    }))

pub some_places : {f : Facts} {s0 s1 s2 s3 : CodeEnv} {w0 w1 w2 w3 : WalkShown} {a : Typing} {c : ChannelTyping} {all : List Spanned} {faults rest others : Faults} (operands : List Expr) (t e : Expr) (es : List Expr) → operands ≡ t ∷ e ∷ es
    → WalksTo f s0 s1 w0 w1 (TypesPart a (λ env. held_typing env (expr_typed t))) → WalksTo f s1 s2 w1 w2 (TypesChannel c (λ env. channel_seen env (expr_typed e)))
    → WalksTo f s2 s3 w2 w3 (TypesEach IsPlaced reached_there all (λ env. map (placed env) es))
    → ((names : ItemNames) (rows later : List TypeRow) (xs : List Placed) → ArePlaced names rows later all xs → others ≡ seen (faults_of_all (judgements xs)))
    → ((x y : List Fault) → c.typing.faults ≡ seen x → others ≡ seen y → rest ≡ seen (x ++ y)) → ((x y : List Fault) → a.faults ≡ seen x → rest ≡ seen y → faults ≡ seen (x ++ y))
    → WalksTo f s0 s3 w0 w3 (TypesFaults faults (λ env. wrong_operands_at operands env))
some_places {f} {s0} {s1} {s2} {s3} {w0} {w1} {w2} {w3} {a} {c} {all} {faults} {rest} {others} operands t e es is g k l of_others of_rest of_all =
    let P = TypesPart a (λ env. held_typing env (expr_typed t)) in
    let Q = TypesChannel c (λ env. channel_seen env (expr_typed e)) in
    let R = TypesEach IsPlaced reached_there all (λ env. map (placed env) es) in
    subst (λ (l : List Expr). WalksTo f s0 s3 w0 w3 (TypesFaults faults (λ env. wrong_operands_at l env))) (sym is)
    (halved (Both P (Both Q R w2.rows) w1.rows) (TypesFaults faults (λ env. wrong_operands_at (t ∷ e ∷ es) env)) (both P (Both Q R w2.rows) g (both Q R k l)) (same_types w3.rows)
    (λ names later more env distinct p u.
    let held : Judgement = held_typing env (expr_typed t) in
    let channel : Judgement = (channel_seen env (expr_typed e)).judgement in
    let js : List Judgement = judgements (map (placed env) es) in
    let behind : List Instance = channel.reached ++ reached_of_all js in
    record {
      is = of_all held.faults (channel.faults ++ faults_of_all js) u.first.part.faults
          (of_rest channel.faults (faults_of_all js) u.second.first.is.part.faults (of_others names w3.rows later.rows (map (placed env) es) u.second.second.parts))
          ∙ ap (λ ks. seen (held.faults ++ (channel.faults ++ faults_of_all ks))) (alone_are env es);
      reaches = reached_both names later.met more u.front u.rest held.reached behind u.joined u.first.reaches
          (reached_both names later.met u.rest u.second.front u.second.rest channel.reached (reached_of_all js) u.second.joined u.second.first.reaches (u.second.second.reaches ∙ sym (places_reach (map (placed env) es))))
          ∙ ap (λ ks. held.reached ++ (channel.reached ++ reached_of_all ks)) (alone_are env es);
    }))

-- with what is given
pub wrong_walked : {f : Facts} {s0 s1 s2 : CodeEnv} {w0 w1 w2 : WalkShown} {given : List ParametricArgument} {own places parts : Faults} {j : Typing} {G : TypeEnv → List GivenSeen} {J : TypeEnv → List Judgement} (span : Span)
    → WalksTo f s0 s1 w0 w1 (TypesEach IsGiven given_reached given G) → WalksTo f s1 s2 w1 w2 (TypesFaults places J)
    → ((names : ItemNames) (rows later : List TypeRow) (gs : List GivenSeen) → AreGiven names rows later given gs → own ≡ seen (faults_of_all (given_judgements gs)))
    → ((x y : List Fault) → own ≡ seen x → places ≡ seen y → parts ≡ seen (x ++ y))
    → ((names : ItemNames) (later : List TypeRow) (fs : List Fault) (reached : List Instance) → IsPrefix w2.rows later → parts ≡ seen fs → IsPart names w2.rows later j (wrong_call_of span fs [] reached))
    → WalksTo f s0 s2 w0 w2 (TypesPart j (λ env. wrong_call span (G env) (J env) []))
wrong_walked {f} {s0} {s1} {s2} {w0} {w1} {w2} {given} {own} {places} {parts} {j} {G} {J} span g k of_given of_parts typed =
    let P = TypesEach IsGiven given_reached given G in
    let Q = TypesFaults places J in
    halved (Both P Q w1.rows) (TypesPart j (λ env. wrong_call span (G env) (J env) [])) (both P Q g k) (same_types w2.rows)
    (λ names later more env distinct p t. record {
      part = typed names later.rows (call_parts_faults (G env) (J env)) (call_parts_reached (G env) (J env)) p
          (of_parts (faults_of_all (given_judgements (G env))) (faults_of_all (J env)) (of_given names w1.rows later.rows (G env) t.first.parts) t.second.is);
      reaches = reached_both names later.met more t.front t.rest (all_reached given_reached (G env)) (reached_of_all (J env)) t.joined t.first.reaches t.second.reaches ∙ ap (λ ys. ys ++ reached_of_all (J env)) (sym (given_reach (G env)));
    })

pub wrong_effect_is : (span : Span) (args : List Arg) (operands : List Expr)
    → ◌≡◌ {A = TypeEnv → Judgement} (λ env. wrong_call span (map (given_at env) args) (wrong_operands_at operands env) []) (λ env. wrong_effect span env (map (given_at env) args) (map expr_typed operands))
wrong_effect_is span args [] = refl
wrong_effect_is span args (t ∷ []) = refl
wrong_effect_is span args (t ∷ c ∷ es) = refl

-- ---- effects by their kinds

other_count : (n k : ℕ) (x y : Judgement) → (n ≡ k → ⊥) → (if n == k then x else y) ≡ y
other_count n k x y apart = ap (λ b. if b then x else y) (ne_eqb n k apart)

pub receives_is : (span : Span) (env : TypeEnv) (es : List Expr) → effect_at In 2 span [] es env ≡ receiving span env (map expr_typed es)
receives_is span env [] = refl
receives_is span env (t ∷ []) = refl
receives_is span env (t ∷ c ∷ []) = refl
receives_is span env (t ∷ c ∷ p ∷ es) = other_count (length (t ∷ c ∷ p ∷ es)) 2 _ _ (λ e. absurd (omega (arith, e)))

pub receives_if_is : (span : Span) (env : TypeEnv) (es : List Expr) → effect_at In 4 span [] es env ≡ receiving_if span env (map expr_typed es)
receives_if_is span env [] = refl
receives_if_is span env (t ∷ []) = refl
receives_if_is span env (t ∷ c ∷ []) = refl
receives_if_is span env (t ∷ c ∷ p ∷ []) = refl
receives_if_is span env (t ∷ c ∷ p ∷ x ∷ []) = refl
receives_if_is span env (t ∷ c ∷ p ∷ x ∷ y ∷ es) = other_count (length (t ∷ c ∷ p ∷ x ∷ y ∷ es)) 4 _ _ (λ e. absurd (omega (arith, e)))

pub sends_is : (span : Span) (env : TypeEnv) (es : List Expr) → effect_at Out 3 span [] es env ≡ sending span env (map expr_typed es)
sends_is span env [] = refl
sends_is span env (t ∷ []) = refl
sends_is span env (t ∷ c ∷ []) = refl
sends_is span env (t ∷ c ∷ x ∷ []) = refl
sends_is span env (t ∷ c ∷ x ∷ y ∷ es) = other_count (length (t ∷ c ∷ x ∷ y ∷ es)) 3 _ _ (λ e. absurd (omega (arith, e)))

pub sends_if_is : (span : Span) (env : TypeEnv) (es : List Expr) → effect_at Out 4 span [] es env ≡ sending_if span env (map expr_typed es)
sends_if_is span env [] = refl
sends_if_is span env (t ∷ []) = refl
sends_if_is span env (t ∷ c ∷ []) = refl
sends_if_is span env (t ∷ c ∷ p ∷ []) = refl
sends_if_is span env (t ∷ c ∷ p ∷ x ∷ []) = refl
sends_if_is span env (t ∷ c ∷ p ∷ x ∷ y ∷ es) = other_count (length (t ∷ c ∷ p ∷ x ∷ y ∷ es)) 4 _ _ (λ e. absurd (omega (arith, e)))
