-- What blocks, `if` and `for` give.
use Rattle.std.proofs.Common.{◌≡◌, ◌&&◌, ◌++◌, ◌==◌, ℕ, zero, suc, Bool, true, false, List, [], ◌∷◌, Option, Some, None, refl, sym, ap, subst, ◌∙◌}
use mathlib.Core.Bool.{true≢false}
use Rattle.std.proofs.lemmas.Bool.Decides.{Decides-eqb}
use Rattle.xb_bits.specs.Word.{Word, word}
use Rattle.xb_bits.specs.Operations as op
use Rattle.xb_span.specs.declared.span.Span.{Span}
use Rattle.dslx_meaning.specs.Lists.{and_then, with_both, where_true}
use Rattle.dslx_meaning.specs.Types.{same_bool, same_type, bool_type, unit_type}
use Rattle.dslx_meaning.specs.Values.{signed_step, bits_of, unit_value}
use Rattle.dslx_meaning.specs.Operators.{truth, truth_of}
use Rattle.dslx_meaning.specs.Environment.{Env}
use Rattle.dslx_meaning.specs.Meaning.{ValueDen, ExprDen, StmtDen, PatternDen, choose, fits_in_scope, statements_den, last_den, turns_from, turn_count, loop_over}
use Rattle.dslx_meaning.specs.declared.ty.BitKind.{BitKind}
use Rattle.dslx_meaning.specs.declared.value.SignedWord.{SignedWord}
use Rattle.dslx_meaning.specs.declared.ty.DslxType.{DslxType}
use Rattle.dslx_meaning.specs.declared.ty.DslxType as ty
use Rattle.dslx_meaning.specs.declared.value.DslxValue.{DslxValue}
use Rattle.dslx_meaning.specs.declared.value.DslxValue as value
use Rattle.dslx_meaning.specs.declared.value.DslxValue.TheViews as views
use Rattle.dslx_meaning.specs.Rules.TypeEnvs.{TypeEnv, Judgement, ExprPair, has_broken, settled, span_of, alone, within}
use Rattle.dslx_meaning.specs.Rules.Typings.{BlockPair, PatternPair, StatementTyping}
use Rattle.dslx_meaning.specs.Rules.OperatorRules.{is_bits, is_bool, one_bit_type, unless_type, unless_types}
use Rattle.dslx_meaning.specs.Rules.PatternRules.{pattern_alone}
use Rattle.dslx_meaning.specs.Rules.ControlRules.{block_alone, if_typing, statements_typing, last_typing, behind, bound_type, annotation_faults, let_with}
use Rattle.dslx_core.proofs.Lemmas.Typing.Laws.{and_true, is_bits_type}
use Rattle.dslx_core.specs.Typing.Typed.Kinds.{is_of, lies_in, tuple_of}
use Rattle.dslx_core.specs.Typing.Typed.Declared.{Declarations, IsDeclared}
use Rattle.dslx_core.specs.Typing.Typed.Given.{GivesOf, GivesItsType, TurnGives}
use Rattle.dslx_core.specs.Typing.Typed.WellTyped.{types_at, IsWellTypedEnv, FitsOrFails, Fits, Fails, PatternKeeps, GoesOnTyped, StatementKeeps, AllKeep, LastGives}
use Rattle.dslx_core.proofs.OnTyping.OnTyped.TypingRelations.{none_some, same_some, unbroken_parts, three_unbroken, test_holds, settled_type}
use Rattle.dslx_core.proofs.OnTyping.OnTyped.OfTypes.{is_bits_of, of_tuple, bits_of_width}
use Rattle.dslx_core.proofs.OnTyping.OnTyped.OfWords.{next_lies}
use Rattle.dslx_core.proofs.OnTyping.OnTyped.OfOperators.{bits_declared}
use Rattle.dslx_core.proofs.OnTyping.OnTyped.OneName.{one_of_text, tuple_declared}
use Rattle.dslx_core.proofs.OnTyping.OnTyped.OfAggregates.{and_then_type}

-- ---- if

-- a value of the type of conditions is true or false
pub truth_given : (types : Declarations) (k : DslxType) (x : Option DslxValue) → GivesOf types k x → is_bool k ≡ true → (p : Bool) × (and_then x truth ≡ Some p)
truth_given types k x g e =
    let same = one_of_text types bool_type k e (bits_declared types false 1) g.declared in
    let b = is_bits_of false 1 g.value (ap (λ t. is_of t g.value) same ∙ g.of) in (
      b.0.value == 1,
      ap (λ o. and_then o truth) g.is ∙ ap (λ l. and_then (signed_step l) truth_of) b.1
          ∙ ap (λ n. where_true (n == 1) (Some (b.0.value == 1))) b.2,
    )

pub if_gives : (types : Declarations) (span : Span) (context : TypeEnv) (c : ExprPair) (a : BlockPair) (b : ExprPair) (x y z : Option DslxValue)
    → GivesItsType types (alone context c) x → GivesItsType types (block_alone context a) y → GivesItsType types (alone context b) z
    → GivesItsType types (if_typing span context c a b) (choose (and_then x truth) y z)
if_gives types span context c a b x y z hx hy hz t e =
    let condition = alone context c in
    let first = block_alone context a in
    let second = alone context b in
    let parts = (condition.faults ++ first.faults) ++ second.faults in
    let s = settled_type (and_then condition.ty (λ t. with_both first.ty second.ty (λ u v. Some u)))
    ((parts ++ unless_type is_bool 15 (span_of c) condition.ty) ++ unless_types same_type 25 span first.ty second.ty) t e in
    let f = three_unbroken parts (unless_type is_bool 15 (span_of c) condition.ty) (unless_types same_type 25 span first.ty second.ty) s.0 in
    let k = and_then_type condition.ty (λ t. with_both first.ty second.ty (λ u v. Some u)) t s.1 in
    let p = truth_given types k.0 x (hx k.0 k.1) (test_holds (is_bool k.0) 15 (span_of c) (ap (λ o. has_broken (unless_type is_bool 15 (span_of c) o)) (sym k.1) ∙ f.1)) in
    branches first.ty second.ty refl refl k.2 f.2 p.0 p.1
  where
    taken : (p : Bool) → and_then x truth ≡ Some p → GivesOf types t y → GivesOf types t z → GivesOf types t (choose (and_then x truth) y z)
    taken true q gy gz = subst (GivesOf types t) (ap (λ o. choose o y z) (sym q)) gy
    taken false q gy gz = subst (GivesOf types t) (ap (λ o. choose o y z) (sym q)) gz

    branches : (m n : Option DslxType) → (block_alone context a).ty ≡ m → (alone context b).ty ≡ n → with_both m n (λ u v. Some u) ≡ Some t → has_broken (unless_types same_type 25 span m n) ≡ false
        → (p : Bool) → and_then x truth ≡ Some p → GivesOf types t (choose (and_then x truth) y z)
    branches None n em en h f p q = none_some t h
    branches (Some u) None em en h f p q = none_some t h
    branches (Some u) (Some v) em en h f p q =
        let gy = hy u em in
        let gz = hz v en in
        let own = same_some u t h in
        let same = one_of_text types u v (test_holds (same_type u v) 25 span f) gy.declared gz.declared in
        taken p q (subst (λ w. GivesOf types w y) own gy) (subst (λ w. GivesOf types w z) (sym same ∙ own) gz)

-- ---- blocks

pub statements_keep : (context : TypeEnv) (ss : List StatementTyping) (gs : List StmtDen) → AllKeep context ss gs → StatementKeeps context (statements_typing ss) (statements_den gs)
statements_keep context [] [] k env h f = record { inner = env; typed = h; goes = λ rest. refl }
statements_keep context [] (g ∷ gs) k env h f = absurd k
statements_keep context (s ∷ ss) [] k env h f = absurd k
statements_keep context (s ∷ ss) (g ∷ gs) k env h f =
    let first = s false context in
    let q = unbroken_parts first.faults (statements_typing ss false first.context).faults f in
    let one = k.0 env h q.0 in
    let more = statements_keep first.context ss gs k.1 one.inner one.typed q.1 in
    record { inner = more.inner; typed = more.typed; goes = λ rest. one.goes (statements_den gs rest) ∙ more.goes rest }

unit_gives : (types : Declarations) (t : DslxType) → Some unit_type ≡ Some t → GivesOf types t (Some unit_value)
unit_gives types t e =
    let own = same_some unit_type t e in
    record {
      value = unit_value;
      is = refl;
      of = ap (λ u. is_of u unit_value) (sym own) ∙ of_tuple [] unit_value ∙ ap (tuple_of []) (views.outs-Tuple []);
      declared = subst (IsDeclared types) own (tuple_declared types [] tt);
    }

last_gives : (context : TypeEnv) (o : Option ExprPair) (p : Option ExprDen) (env : Env) → LastGives context o p → IsWellTypedEnv context env → GivesItsType (types_at context) (last_typing context o) (last_den p env)
last_gives context None None env k h = unit_gives (types_at context)
last_gives context None (Some m) env k h = absurd k
last_gives context (Some e) None env k h = absurd k
last_gives context (Some e) (Some m) env k h = k env h

-- a block, by its statements and its last expression
pub block_gives : (span : Span) (context : TypeEnv) (ss : List StatementTyping) (gs : List StmtDen) (o : Option ExprPair) (p : Option ExprDen) (size : Option ℕ) (env : Env)
    → AllKeep context ss gs → LastGives (statements_typing ss false context).context o p → IsWellTypedEnv context env
    → GivesItsType (types_at (statements_typing ss false context).context)
    (settled span (last_typing (statements_typing ss false context).context o).ty ((statements_typing ss false context).faults ++ (last_typing (statements_typing ss false context).context o).faults)
    ((statements_typing ss false context).reached ++ (last_typing (statements_typing ss false context).context o).reached) size)
    (statements_den gs (last_den p) env)
block_gives span context ss gs o p size env keeps last h t e =
    let walked = statements_typing ss false context in
    let own = last_typing walked.context o in
    let s = settled_type own.ty (walked.faults ++ own.faults) t e in
    let f = unbroken_parts walked.faults own.faults s.0 in
    let on = statements_keep context ss gs keeps env h f.0 in
    let g = last_gives walked.context o p on.inner last on.typed t s.1 in
    record { value = g.value; is = on.goes (last_den p) ∙ g.is; of = g.of; declared = g.declared }

-- a `let` whose value and written type have types
pub let_keeps : (context : TypeEnv) (e : ExprPair) (m : ExprDen) (span : Span) (written : Option Judgement) (pattern : PatternPair) (pm : PatternDen) (t : DslxType)
    → ((env : Env) → IsWellTypedEnv context env → GivesItsType (types_at context) (within context e) (m.value env)) → (within context e).ty ≡ Some t
    → bound_type written (Some t) ≡ Some t → PatternKeeps pattern.1 pm.fits
    → (env : Env) → IsWellTypedEnv context env
    → has_broken (let_with context e.0 span (within context e) written (pattern_alone false context (bound_type written (within context e).ty) pattern)).faults ≡ false
    → GoesOnTyped (let_with context e.0 span (within context e) written (pattern_alone false context (bound_type written (within context e).ty) pattern)) env (λ rest env. and_then (m.value env) (λ v. and_then (fits_in_scope pm v env) rest))
let_keeps context e m span written pattern pm t value own bound keeps env h f =
    let seen = pattern_alone false context (bound_type written (within context e).ty) pattern in
    let q = unbroken_parts ((within context e).faults ++ annotation_faults span written (within context e).ty) seen.faults f in
    by_type (bound_type written (within context e).ty) (ap (bound_type written) own ∙ bound) (value env h t own) q.1
  where
    Behind : Option DslxType → Type 0
    Behind o = GoesOnTyped (let_with context e.0 span (within context e) written (pattern_alone false context o pattern)) env (λ rest env. and_then (m.value env) (λ v. and_then (fits_in_scope pm v env) rest))

    on : (g : GivesOf (types_at context) t (m.value env)) → FitsOrFails false context (pattern_alone false context (Some t) pattern) (fits_in_scope pm g.value env) → Behind (Some t)
    on g (Fits inner is typed) = record {
      inner = inner;
      typed = record { locals = typed.locals; parametric_args = typed.parametric_args; constants = typed.constants; members = typed.members; kinds = typed.kinds; typed = typed.typed; valued = typed.valued; place = record { others = typed.place.others; hides = typed.place.hides }; items = typed.items; known = typed.known };
      goes = λ rest. ap (λ o. and_then o (λ v. and_then (fits_in_scope pm v env) rest)) g.is ∙ ap (λ o. and_then o rest) is;
    }
    on g (Fails is may sure) = absurd (true≢false (sym may))

    by_type : (o : Option DslxType) → o ≡ Some t → GivesOf (types_at context) t (m.value env) → has_broken (pattern_alone false context o pattern).faults ≡ false → Behind o
    by_type o q g k =
        subst Behind (sym q)
        (on g (keeps false context t [] context.locals env env g.value h h (record { value = g.value; is = refl; of = g.of; declared = g.declared }) (ap (λ p. has_broken (pattern_alone false context p pattern).faults) (sym q) ∙ k)))

-- an expression as a statement, where it has a type
pub bare_keeps : (context : TypeEnv) (e : ExprPair) (m : ExprDen) (t : DslxType) → ((env : Env) → IsWellTypedEnv context env → GivesItsType (types_at context) (within context e) (m.value env)) → (within context e).ty ≡ Some t
    → (env : Env) → IsWellTypedEnv context env → (inner : Env) × IsWellTypedEnv (behind context context.locals e.0) inner × ((rest : ValueDen) → and_then (m.value env) (λ v. rest env) ≡ rest inner)
bare_keeps context e m t value own env h =
    let g = value env h t own in
    (env, record { locals = h.locals; parametric_args = h.parametric_args; constants = h.constants; members = h.members; kinds = h.kinds; typed = h.typed; valued = h.valued; place = record { others = h.place.others; hides = h.place.hides }; items = h.items; known = h.known }, λ rest. ap (λ o. and_then o (λ v. rest env)) g.is)

-- ---- for

turns_given : (s : Bool) (w : ℕ) (t : DslxType) (body : DslxValue → DslxValue → Option DslxValue) → TurnGives (ty.Bits s w) t body → (n : ℕ) (i : Word) (acc : DslxValue) → i.width ≡ w → lies_in i ≡ true → is_of t acc ≡ true
    → (r : DslxValue) × (turns_from body s n i acc ≡ Some r) × (is_of t r ≡ true)
turns_given s w t body gives zero i acc width within own = (acc, refl, own)
turns_given s w t body gives (suc n) i acc width within own =
    let one = gives (value.Bits s i) acc (bits_of_width s i w width within) own in
    let more = turns_given s w t body gives n (op.add i (word i.width 1)) one.0 width (next_lies i) one.2 in
    (more.0, ap (λ o. and_then o (turns_from body s n (op.add i (word i.width 1)))) one.1 ∙ more.1, more.2)

-- a loop over a range of one type of bits
pub loop_gives : (types : Declarations) (k l t : DslxType) (x y z : Option DslxValue) (body : DslxValue → DslxValue → Option DslxValue)
    → GivesOf types k x → GivesOf types l y → one_bit_type k l ≡ true → GivesOf types t z → TurnGives k t body
    → GivesOf types t (and_then z (λ start. with_both (and_then x bits_of) (and_then y bits_of) (loop_over body start)))
loop_gives types k l t x y z body gx gy one gz turn =
    let q = and_true (is_bits k) (same_type k l) one in
    let b = is_bits_type k q.0 in
    let same = one_of_text types k l q.1 gx.declared gy.declared in
    let u = is_bits_of b.0.signed b.0.width gx.value (ap (λ a. is_of a gx.value) (sym b.1) ∙ gx.of) in
    let v = is_bits_of b.0.signed b.0.width gy.value (ap (λ a. is_of a gy.value) (sym b.1 ∙ same) ∙ gy.of) in
    ranged b.0 u.0 v.0 b.1 (ap (λ o. and_then o bits_of) gx.is ∙ ap signed_step u.1) (ap (λ o. and_then o bits_of) gy.is ∙ ap signed_step v.1) u.2 v.2 u.3
  where
    alike : (s : Bool) (m n w : ℕ) → m ≡ w → n ≡ w → (same_bool s s && m == n) ≡ true
    alike true m n w p q = (Decides-eqb m n).1 (p ∙ sym q)
    alike false m n w p q = (Decides-eqb m n).1 (p ∙ sym q)

    ranged : (b : BitKind) (a c : Word) → k ≡ ty.Bits b.signed b.width → and_then x bits_of ≡ Some (record { signed = b.signed; word = a }) → and_then y bits_of ≡ Some (record { signed = b.signed; word = c })
        → a.width ≡ b.width → c.width ≡ b.width → lies_in a ≡ true → GivesOf types t (and_then z (λ start. with_both (and_then x bits_of) (and_then y bits_of) (loop_over body start)))
    ranged b a c own ex ey wa wc within =
        let first : SignedWord = record { signed = b.signed; word = a } in
        let last : SignedWord = record { signed = b.signed; word = c } in
        let r = turns_given b.signed b.width t body (subst (λ u. TurnGives u t body) own turn) (turn_count first last) a gz.value wa within gz.of in
        record {
          value = r.0;
          is = (λ i. and_then (gz.is i) (λ start. with_both (ex i) (ey i) (loop_over body start)))
              ∙ ap (λ p. where_true p (turns_from body b.signed (turn_count first last) a gz.value)) (alike b.signed a.width c.width b.width wa wc) ∙ r.1;
          of = r.2;
          declared = gz.declared;
        }
