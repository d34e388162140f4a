-- Blocks, choices, matches and loops mean the same as what stands for them.
use Rattle.std.proofs.Common.{◌≡◌, ◌&&◌, ◌==◌, ◌^◌, ℕ, zero, suc, Bool, true, false, not, List, [], Option, Some, None, refl, sym, ap, subst, ◌∙◌}
use Rattle.std.specs.Prelude.{nat_lt}
use Rattle.xb_bits.specs.Word.{Word, word}
use Rattle.xb_bits.specs.Operations as op
use Rattle.xb_value.specs.declared.value.Value.{Value}
use Rattle.dslx_meaning.specs.Lists.{and_then, where_true, with_both}
use Rattle.dslx_meaning.specs.Types.{unit_type}
use Rattle.dslx_meaning.specs.Values.{plain_value, bits_of, unit_value}
use Rattle.dslx_meaning.specs.Operators.{truth, truth_of, of_one_type}
use Rattle.dslx_meaning.specs.Environment.{Given, Env}
use Rattle.dslx_meaning.specs.Meaning.{ValueDen, PatternDen, choose, fits_in_scope, loop_over, turn_count, turns_from}
use Rattle.dslx_meaning.specs.declared.ty.DslxType.{DslxType}
use Rattle.dslx_meaning.specs.declared.ty.DslxType as ty
use Rattle.dslx_meaning.specs.declared.value.DslxValue.{DslxValue}
use Rattle.dslx_meaning.specs.declared.value.DslxValue as value
use Rattle.dslx_meaning.specs.declared.value.SignedWord.{SignedWord}
use Rattle.dslx_core.proofs.Lemmas.Typing.Laws.{and_true}
use Rattle.dslx_core.specs.Typing.Typed.Kinds.{is_of, lies_in}
use Rattle.dslx_core.proofs.Lemmas.Typing.Typed.{bits_of_width, next_lies, none_some, of_tuple, same_some}
use Rattle.dslx_core.specs.CoreValues.{Bindings, Functions, chosen, core_value, is_one, one_turn, taken_apart, turns, word_in}
use Rattle.dslx_core.specs.declared.expr.CoreExpr as core
use Rattle.dslx_core.specs.Lowering.CoreScopes.{CoreScope}
use Rattle.dslx_core.specs.Lowering.EqualTypes.{equal_type}
use Rattle.dslx_core.specs.Lowering.Lowering.{LoweredExpr, lower_choice, lowered}
use Rattle.dslx_core.specs.Lowering.Patterns.{ExprLowering, LoweredShape, PatternLowering, lower_let, lower_in_scope, lower_loop}
use Rattle.dslx_core.proofs.OnLowering.OfPatterns.{fits_there}
use Rattle.dslx_core.specs.Lowering.Correspondence.{BothFit, FitLowerPreserves, HasPlainValue, KeepsValue, LowerPreserves, NeitherFits, PatternLowerPreserves, SimulatesInScope, env_at}
use Rattle.dslx_core.proofs.OnLowering.Kept.{from_both, from_then, from_where, kept_as, operand, operand_word}
use Rattle.dslx_core.proofs.OnLowering.OneType.{one_by_test}
use Rattle.dslx_core.proofs.OnLowering.Openings.{core_bind, core_choose, core_loop, core_tuple, plain_bits, plain_tuple}

-- ---- blocks

-- where a value fits a pattern, it fits the shape, and the rest goes on behind it
pub record Behind (scope : CoreScope) (calls : Functions) (o : Option Env) (p : Option Bindings) (inner : Env) : Type 0 where
  pub given : List Given
  pub others : Bindings
  pub env : inner ≡ env_at scope given
  pub apart : p ≡ Some others
  pub stands : SimulatesInScope scope calls given others

pub behind : (scope : CoreScope) (calls : Functions) (o : Option Env) (p : Option Bindings) (inner : Env) → o ≡ Some inner → FitLowerPreserves scope calls o p → Behind scope calls o p inner
behind scope calls o p inner e (BothFit given others x y z) = record { given = given; others = others; env = same_some inner (env_at scope given) (sym e ∙ x); apart = y; stands = z }
behind scope calls o p inner e (NeitherFits x y) = none_some inner (sym x ∙ e)

pub let_keeps : (value : ExprLowering) (m : ValueDen) (p : PatternLowering) (f : PatternDen) (rest : ExprLowering) (r : ValueDen) → LowerPreserves value m → PatternLowerPreserves p f → LowerPreserves rest r
    → LowerPreserves (lower_let value p rest) (λ env. and_then (m env) (λ v. and_then (fits_in_scope f v env) r))
let_keeps value m p f rest r first pattern more scope calls given bound h e l v k =
    let a = from_then (value scope) (λ e. and_then (lower_in_scope p scope e.ty) (λ s. and_then (rest s.scope) (λ r. lowered (core.Bind e.core s.shape r.core) r.ty))) e l in
    let s = from_then (lower_in_scope p scope a.0.ty) (λ s. and_then (rest s.scope) (λ r. lowered (core.Bind a.0.core s.shape r.core) r.ty)) e a.2 in
    let c = from_then (rest s.0.scope) (λ r. lowered (core.Bind a.0.core s.0.shape r.core) r.ty) e s.2 in
    let w = from_then (m (env_at scope given)) (λ v. and_then (fits_in_scope f v (env_at scope given)) r) v k in
    let i = from_then (fits_in_scope f w.0 (env_at scope given)) r v w.2 in
    let has = first scope calls given bound h a.0 a.1 w.0 w.1 in
    let b = behind s.0.scope calls (fits_in_scope f w.0 (env_at scope given)) (taken_apart s.0.shape (plain_value w.0) bound) i.0 i.1 (fits_there p f pattern scope a.0.ty s.0 s.1 calls given bound h w.0 has.of) in
    let g = more s.0.scope calls b.given b.others b.stands c.0 c.1 v (ap r (sym b.env) ∙ i.2) in
    kept_as calls bound v (record { core = core.Bind a.0.core s.0.shape c.0.core; ty = c.0.ty }) e c.2
    (record {
      of = g.of;
      core =
          ap (λ f. f calls bound) (core_bind a.0.core s.0.shape c.0.core)
          ∙ ap (λ o. and_then o (λ v. and_then (taken_apart s.0.shape v bound) (core_value c.0.core calls))) has.core
          ∙ ap (λ o. and_then o (core_value c.0.core calls)) b.apart ∙ g.core;
    })

-- the value of a statement isn't used
pub bare_keeps : (m : ValueDen) (rest : ExprLowering) (r : ValueDen) → LowerPreserves rest r → LowerPreserves rest (λ env. and_then (m env) (λ v. r env))
bare_keeps m rest r more scope calls given bound h e l v k = more scope calls given bound h e l v (from_then (m (env_at scope given)) (λ w. r (env_at scope given)) v k).2

-- a block that ends in a statement
pub unit_keeps : (calls : Functions) (bound : Bindings) → KeepsValue calls bound (lowered (core.Tuple []) unit_type) (Some unit_value)
unit_keeps calls bound e l v k =
    subst (λ x. HasPlainValue e calls bound x) (same_some unit_value v k)
    (kept_as calls bound unit_value (record { core = core.Tuple []; ty = unit_type }) e l
    (record { of = unit_of; core = ap (λ f. f calls bound) (core_tuple []) ∙ ap Some (sym (plain_tuple [])) }))
  where
    unit_of : is_of unit_type unit_value ≡ true
    unit_of = of_tuple [] unit_value ∙ rw (value.TheViews.outs-Tuple []) refl

-- ---- choices

-- the truth of a bool is that of its word
pub truth_is : (x : SignedWord) (b : Bool) → truth_of x ≡ Some b → is_one x.word ≡ Some b
truth_is x b e = let q = from_where (not x.signed && x.word.width == 1) (Some (x.word.value == 1)) b e in ap (λ t. where_true t (Some (x.word.value == 1))) (and_true (not x.signed) (x.word.width == 1) q.0).1 ∙ q.1

pub choice_keeps : (calls : Functions) (bound : Bindings) (lc la lb : Option LoweredExpr) (c a b : Option DslxValue) → KeepsValue calls bound lc c → KeepsValue calls bound la a → KeepsValue calls bound lb b
    → KeepsValue calls bound (lower_choice lc la lb) (choose (and_then c truth) a b)
choice_keeps calls bound lc la lb c a b kc ka kb e l v k =
    let p = from_then lc (λ c. with_both la lb (λ a b. where_true (equal_type a.ty b.ty) (lowered (core.Choose c.core a.core b.core) a.ty))) e l in
    let q = from_both la lb (λ a b. where_true (equal_type a.ty b.ty) (lowered (core.Choose p.0.core a.core b.core) a.ty)) e p.2 in
    let r = from_where (equal_type q.0.ty q.1.ty) (lowered (core.Choose p.0.core q.0.core q.1.core) q.0.ty) e q.4 in
    kept_as calls bound v (record { core = core.Choose p.0.core q.0.core q.1.core; ty = q.0.ty }) e r.1
    (by_truth p.0 p.1 q.0 q.1 q.2 q.3 (one_by_test q.0.ty q.1.ty r.0) (and_then c truth) refl k)
  where
    tested : (p : LoweredExpr) → lc ≡ Some p → (t : Bool) → and_then c truth ≡ Some t → and_then (word_in (core_value p.core) calls bound) is_one ≡ Some t
    tested p lp t e =
        let w = from_then c truth t e in
        let x = from_then (bits_of w.0) truth_of t w.2 in
        let has = kc p lp w.0 w.1 in
        ap (λ o. and_then o is_one) (operand_word p calls bound w.0 x.0 has (operand p.ty w.0 x.0 has.of x.1)) ∙ truth_is x.0 t x.2

    by_truth : (p : LoweredExpr) → lc ≡ Some p → (x y : LoweredExpr) → la ≡ Some x → lb ≡ Some y → x.ty ≡ y.ty → (t : Option Bool) → and_then c truth ≡ t → choose t a b ≡ Some v
        → HasPlainValue (record { core = core.Choose p.core x.core y.core; ty = x.ty }) calls bound v
    by_truth p lp x y lx ly one None q r = none_some v r
    by_truth p lp x y lx ly one (Some true) q r =
        let has = ka x lx v r in
        record {
          of = has.of;
          core =
              ap (λ f. f calls bound) (core_choose p.core x.core y.core) ∙ ap (λ o. chosen o (core_value x.core calls bound) (core_value y.core calls bound)) (tested p lp true q) ∙ has.core;
        }
    by_truth p lp x y lx ly one (Some false) q r =
        let has = kb y ly v r in
        record {
          of = ap (λ t. is_of t v) one ∙ has.of;
          core =
              ap (λ f. f calls bound) (core_choose p.core x.core y.core) ∙ ap (λ o. chosen o (core_value x.core calls bound) (core_value y.core calls bound)) (tested p lp false q) ∙ has.core;
        }

-- ---- loops

-- turns of the body
abbrev SourceTurn : Type 0
SourceTurn = DslxValue → DslxValue → Option DslxValue

abbrev TurnKeeps : Functions → Bindings → DslxType → DslxType → SourceTurn → (Value → Value → Option Value) → Type 0
TurnKeeps calls bound index t source body = (i acc v : DslxValue) → is_of index i ≡ true → is_of t acc ≡ true → source i acc ≡ Some v
    → (is_of t v ≡ true) × (body (plain_value i) (plain_value acc) ≡ Some (plain_value v))

turns_keep : (calls : Functions) (bound : Bindings) (s : Bool) (t : DslxType) (source : SourceTurn) (body : Value → Value → Option Value) (width : ℕ) → TurnKeeps calls bound (ty.Bits s width) t source body
    → (n : ℕ) (i : Word) → i.width ≡ width → lies_in i ≡ true → (acc v : DslxValue) → is_of t acc ≡ true → turns_from source s n i acc ≡ Some v
    → (is_of t v ≡ true) × (turns body n i (plain_value acc) ≡ Some (plain_value v))
turns_keep calls bound s t source body width keeps zero i wide low acc v of e = (ap (is_of t) (sym (same_some acc v e)) ∙ of, ap (λ x. Some (plain_value x)) (same_some acc v e))
turns_keep calls bound s t source body width keeps (suc n) i wide low acc v of e =
    let a = from_then (source (value.Bits s i) acc) (turns_from source s n (op.add i (word i.width 1))) v e in
    let turn = keeps (value.Bits s i) acc a.0 (bits_of_width s i width wide low) of a.1 in
    let rest = turns_keep calls bound s t source body width keeps n (op.add i (word i.width 1)) wide (next_lies i) a.0 v turn.0 a.2 in (
      rest.0,
      ap (λ o. and_then o (turns body n (op.add i (word i.width 1)))) (ap (λ u. body u (plain_value acc)) (sym (plain_bits s i)) ∙ turn.1) ∙ rest.1,
    )

pub loop_keeps : (scope : CoreScope) (calls : Functions) (given : List Given) (bound : Bindings) → SimulatesInScope scope calls given bound
    → (ls li : Option LoweredExpr) (start from to : Option DslxValue) (first end : Option SignedWord) → ((x : SignedWord) → first ≡ Some x → and_then from bits_of ≡ Some x)
    → ((x : SignedWord) → end ≡ Some x → and_then to bits_of ≡ Some x) → KeepsValue calls bound ls start → KeepsValue calls bound li from
    → (i acc : PatternLowering) (fi fa : PatternDen) → PatternLowerPreserves i fi → PatternLowerPreserves acc fa → (body : ExprLowering) (m : ValueDen) → LowerPreserves body m
    → KeepsValue calls bound (lower_loop ls li first end i acc body scope)
    (and_then start (λ start. with_both (and_then from bits_of) (and_then to bits_of) (loop_over (λ k a. and_then (fits_in_scope fi k (env_at scope given)) (λ inner. and_then (fits_in_scope fa a inner) m)) start)))
loop_keeps scope calls given bound h ls li start from to first end is_first is_end ks ki i acc fi fa pi pa body m kb e l v k =
    let p = from_both ls li _ e l in
    let q = from_both first end _ e p.4 in
    let s = from_then (lower_in_scope i scope p.1.ty) _ e q.4 in
    let z = from_then (lower_in_scope acc s.0.scope p.0.ty) _ e s.2 in
    let c = from_then (body z.0.scope) _ e z.2 in
    let r = from_where (equal_type p.0.ty c.0.ty && nat_lt (turn_count q.0 q.1) (2 ^ 64)) (lowered (core.Loop (turn_count q.0 q.1) q.0.word s.0.shape z.0.shape c.0.core p.0.core) p.0.ty) e c.2 in
    let one = one_by_test p.0.ty c.0.ty (and_true (equal_type p.0.ty c.0.ty) (nat_lt (turn_count q.0 q.1) (2 ^ 64)) r.0).0 in
    let w = from_then start (λ start. with_both (and_then from bits_of) (and_then to bits_of) (loop_over source start)) v k in
    let begun = ks p.0 p.2 w.0 w.1 in
    let x = from_both (and_then from bits_of) (and_then to bits_of) (loop_over source w.0) v w.2 in
    let same_first : x.0 ≡ q.0 = same_some x.0 q.0 (sym x.2 ∙ is_first q.0 q.2) in
    let same_end : x.1 ≡ q.1 = same_some x.1 q.1 (sym x.3 ∙ is_end q.1 q.3) in
    let looped : loop_over source w.0 q.0 q.1 ≡ Some v = (λ j. loop_over source w.0 (sym same_first j) (sym same_end j)) ∙ x.4 in
    let t = from_where (of_one_type q.0 q.1) (turns_from source q.0.signed (turn_count q.0 q.1) q.0.word w.0) v looped in
    let f = from_then from bits_of q.0 (is_first q.0 q.2) in
    let index = operand p.1.ty f.0 q.0 (ki p.1 p.3 f.0 f.1).of f.2 in
    let g =
    turns_keep calls bound q.0.signed p.0.ty source (one_turn s.0.shape z.0.shape (core_value c.0.core) calls bound) q.0.word.width
    (turned p.1.ty (ty.Bits q.0.signed q.0.word.width) p.0.ty c.0.ty index.typed one s.0 s.1 z.0 z.1 c.0 c.1 refl) (turn_count q.0 q.1) q.0.word refl index.lies w.0 v begun.of t.1 in
    kept_as calls bound v (record { core = core.Loop (turn_count q.0 q.1) q.0.word s.0.shape z.0.shape c.0.core p.0.core; ty = p.0.ty }) e r.1
    (record {
      of = g.0;
      core =
          ap (λ f. f calls bound) (core_loop (turn_count q.0 q.1) q.0.word s.0.shape z.0.shape c.0.core p.0.core)
          ∙ ap (λ o. and_then o (turns (one_turn s.0.shape z.0.shape (core_value c.0.core) calls bound) (turn_count q.0 q.1) q.0.word)) begun.core ∙ g.1;
    })
  where
    source : SourceTurn
    source k a = and_then (fits_in_scope fi k (env_at scope given)) (λ inner. and_then (fits_in_scope fa a inner) m)

    turned : (index bits t u : DslxType) → index ≡ bits → t ≡ u → (s : LoweredShape) → lower_in_scope i scope index ≡ Some s → (z : LoweredShape) → lower_in_scope acc s.scope t ≡ Some z
        → (c : LoweredExpr) → body z.scope ≡ Some c → c.ty ≡ u → TurnKeeps calls bound bits t source (one_turn s.shape z.shape (core_value c.core) calls bound)
    turned index bits t u is one s ls z lz c lc typed j a r of_index of_acc e =
        let inner = from_then (fits_in_scope fi j (env_at scope given)) (λ inner. and_then (fits_in_scope fa a inner) m) r e in
        let b = behind s.scope calls (fits_in_scope fi j (env_at scope given)) (taken_apart s.shape (plain_value j) bound) inner.0 inner.1 (fits_there i fi pi scope index s ls calls given bound h j (ap (λ t. is_of t j) is ∙ of_index)) in
        let more = from_then (fits_in_scope fa a inner.0) m r inner.2 in
        let d =
        behind z.scope calls (fits_in_scope fa a (env_at s.scope b.given)) (taken_apart z.shape (plain_value a) b.others) more.0 (ap (fits_in_scope fa a) (sym b.env) ∙ more.1)
        (fits_there acc fa pa s.scope t z lz calls b.given b.others b.stands a of_acc) in
        let g = kb z.scope calls d.given d.others d.stands c lc r (ap m (sym d.env) ∙ more.2) in (
          ap (λ t. is_of t r) (one ∙ sym typed) ∙ g.of,
          ap (λ o. and_then o (λ inner. and_then (taken_apart z.shape (plain_value a) inner) (core_value c.core calls))) b.apart
              ∙ ap (λ o. and_then o (core_value c.core calls)) d.apart ∙ g.core,
        )
