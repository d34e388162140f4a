-- What the recursion finds, by the definition of values.
use Rattle.std.proofs.Common.{◌≡◌, ◌<◌, ◌==◌, ℕ, zero, suc, Bool, true, false, List, [], ◌∷◌, ◌++◌, Option, Some, None, drop, take, length, map, refl, sym, ap, ◌∙◌, arith, if◌then◌else◌}
use Rattle.std.specs.Prelude.{MatchBool, option_map, slice_get}
use Rattle.std.proofs.lemmas.List.{append_assoc}
use Rattle.xb_bits.specs.Word.{Word, word}
use Rattle.xb_bits.specs.Operations.{add}
use Rattle.xb_value.specs.declared.value.Value.{Value, Bits}
use Rattle.xb_value.specs.declared.value.Value.TheViews.{outs-Bits}
use Rattle.dslx_meaning.specs.Lists.{all_some, and_then}
use Rattle.dslx_core.specs.CoreValues.{Bindings, CoreArmDen, CoreDen, Functions, arm_or, arm_step, core_step, core_value, first_apart, select, turns, values_in, word_of_value, word_step}
use Rattle.dslx_core.specs.Designs.{no_function}
use Rattle.dslx_core.specs.declared.design.Function.{Function}
use Rattle.dslx_core.specs.declared.expr.Arm.{Arm, out-Arm}
use Rattle.dslx_core.specs.declared.expr.CoreExpr.{CoreExpr, out-CoreExpr}
use Rattle.dslx_core.specs.declared.expr.CoreExpr.TheFolds.{fold_out-CoreExpr, fold_out-Arm}
use Rattle.dslx_interp.specs.Eval.Inner.Direct.{arm_den, calls_of, layer}
use Rattle.dslx_interp.proofs.OnEval.Calls.{function_at, function_none}
use Rattle.dslx_interp.proofs.OnEval.Options.{all_some_more}

pub opened : (e : CoreExpr) → core_value e ≡ layer (out-CoreExpr e)
opened e = fold_out-CoreExpr CoreDen CoreArmDen core_step arm_step e

abbrev plain_arm : Arm → CoreArmDen
plain_arm a = record { shapes = (out-Arm a).shapes; value = core_value (out-Arm a).value }

arm_opened : (a : Arm) → arm_den a ≡ plain_arm a
arm_opened a = fold_out-Arm CoreDen CoreArmDen core_step arm_step a

-- the word that a word's value is
pub word_back : (r : Option Word) (o : Option Value) → option_map Bits r ≡ o → r ≡ and_then o word_of_value
word_back r o h = by r ∙ ap (λ q. and_then q word_of_value) h
  where
    by : (r : Option Word) → r ≡ and_then (option_map Bits r) word_of_value
    by None = refl
    by (Some w) = ap word_step (sym (outs-Bits w))

-- ---- several

pub drop_at : {A : Type 0} (xs : List A) (n : ℕ) (x : A) → slice_get xs n ≡ Some x → drop n xs ≡ x ∷ drop (suc n) xs
drop_at [] zero x h = absurd (cc)
drop_at [] (suc n) x h = absurd (cc)
drop_at (y ∷ ys) zero x h =
    let e : y ≡ x = cc in
    ap (λ z. z ∷ ys) e
drop_at (y ∷ ys) (suc n) x h = drop_at ys n x h

-- one more is found
one_more : (o : Option Value) (v : Value) (os : List (Option Value)) (found : List Value) → o ≡ Some v
    → and_then (all_some (o ∷ os)) (λ ws. Some (found ++ ws)) ≡ and_then (all_some os) (λ ws. Some ((found ++ v ∷ []) ++ ws))
one_more o v os found h = ap (λ q. and_then (all_some (q ∷ os)) (λ ws. Some (found ++ ws))) h ∙ (ap (λ q. and_then q (λ ws. Some (found ++ ws))) (all_some_more v os) ∙ by (all_some os))
  where
    by : (q : Option (List Value)) → and_then (and_then q (λ ws. Some (v ∷ ws))) (λ ws. Some (found ++ ws)) ≡ and_then q (λ ws. Some ((found ++ v ∷ []) ++ ws))
    by None = refl
    by (Some ws) = ap Some (sym (append_assoc found (v ∷ []) ws))

-- what is found and what comes of the rest
abbrev pub found_with : List Value → List CoreExpr → Functions → Bindings → Option (List Value)
found_with found es calls bound = and_then (values_in (map core_value es) calls bound) (λ ws. Some (found ++ ws))

pub next_found : (es : List CoreExpr) (n : ℕ) (e : CoreExpr) (v : Value) (found : List Value) (calls : Functions) (bound : Bindings)
    → slice_get es n ≡ Some e → core_value e calls bound ≡ Some v → found_with found (drop n es) calls bound ≡ found_with (found ++ v ∷ []) (drop (suc n) es) calls bound
next_found es n e v found calls bound there h =
    ap (λ xs. found_with found xs calls bound) (drop_at es n e there)
    ∙ one_more (core_value e calls bound) v (map (λ (m : CoreDen). m calls bound) (map core_value (drop (suc n) es))) found h

pub none_found : (es : List CoreExpr) (n : ℕ) (e : CoreExpr) (found : List Value) (calls : Functions) (bound : Bindings)
    → slice_get es n ≡ Some e → core_value e calls bound ≡ None → found_with found (drop n es) calls bound ≡ None
none_found es n e found calls bound there h =
    ap (λ xs. found_with found xs calls bound) (drop_at es n e there)
    ∙ ap (λ q. and_then (all_some (q ∷ map (λ (m : CoreDen). m calls bound) (map core_value (drop (suc n) es)))) (λ ws. Some (found ++ ws))) h

-- ---- turns

pub turn_more : (f : Value → Value → Option Value) (m n : ℕ) (i : Word) (acc next : Value) → m ≡ suc n → f (Bits i) acc ≡ Some next
    → turns f m i acc ≡ turns f n (add i (word i.width 1)) next
turn_more f m n i acc next e h = ap (λ k. turns f k i acc) e ∙ ap (λ o. and_then o (turns f n (add i (word i.width 1)))) h

pub turn_none : (f : Value → Value → Option Value) (m n : ℕ) (i : Word) (acc : Value) → m ≡ suc n → f (Bits i) acc ≡ None → turns f m i acc ≡ None
turn_none f m n i acc e h = ap (λ k. turns f k i acc) e ∙ ap (λ o. and_then o (turns f n (add i (word i.width 1)))) h

pub turns_done : (f : Value → Value → Option Value) (m : ℕ) (i : Word) (acc : Value) → m ≡ 0 → turns f m i acc ≡ Some acc
turns_done f m i acc e = ap (λ k. turns f k i acc) e

-- ---- arms

pub not_fitting : (A B : Type 0) (b : Bool) → MatchBool b A B → b ≡ false → B
not_fitting A B true m e = absurd (cc)
not_fitting A B false m e = m

pub fitting_arm : (a : Arm) (rest : List Arm) (v : Value) (calls : Functions) (bound more : Bindings) → first_apart (out-Arm a).shapes v bound ≡ Some more
    → select (map arm_den (a ∷ rest)) v calls bound ≡ core_value (out-Arm a).value calls more
fitting_arm a [] v calls bound more h =
    ap (λ m. select (m ∷ []) v calls bound) (arm_opened a)
    ∙ ap (λ o. arm_or calls (core_value (out-Arm a).value) o (core_value (out-Arm a).value calls bound)) h
fitting_arm a (c ∷ cs) v calls bound more h =
    ap (λ m. select (m ∷ map arm_den (c ∷ cs)) v calls bound) (arm_opened a)
    ∙ ap (λ o. arm_or calls (core_value (out-Arm a).value) o (select (map arm_den (c ∷ cs)) v calls bound)) h

pub last_arm : (a : Arm) (v : Value) (calls : Functions) (bound : Bindings) → first_apart (out-Arm a).shapes v bound ≡ None
    → select (map arm_den (a ∷ [])) v calls bound ≡ core_value (out-Arm a).value calls bound
last_arm a v calls bound h =
    ap (λ m. select (m ∷ []) v calls bound) (arm_opened a)
    ∙ ap (λ o. arm_or calls (core_value (out-Arm a).value) o (core_value (out-Arm a).value calls bound)) h

pub next_arm : (a : Arm) (rest : List Arm) (v : Value) (calls : Functions) (bound : Bindings) → 0 < length rest → first_apart (out-Arm a).shapes v bound ≡ None
    → select (map arm_den (a ∷ rest)) v calls bound ≡ select (map arm_den rest) v calls bound
next_arm a [] v calls bound more h = absurd (omega (arith, more))
next_arm a (c ∷ cs) v calls bound more h =
    ap (λ m. select (m ∷ map arm_den (c ∷ cs)) v calls bound) (arm_opened a)
    ∙ ap (λ o. arm_or calls (core_value (out-Arm a).value) o (select (map arm_den (c ∷ cs)) v calls bound)) h

left_behind : {A : Type 0} (xs : List A) (n : ℕ) → suc n < length xs → 0 < length (drop (suc n) xs)
left_behind [] n h = absurd (omega (arith, h))
left_behind (x ∷ []) zero h = absurd (omega (arith, h))
left_behind (x ∷ y ∷ ys) zero h = omega arith
left_behind (x ∷ xs) (suc n) h = left_behind xs n (omega (arith, h))

pub next_arm_there : (arms : List Arm) (n next : ℕ) (a : Arm) (v : Value) (calls : Functions) (bound : Bindings) → next ≡ suc n → slice_get arms n ≡ Some a
    → next < length arms → first_apart (out-Arm a).shapes v bound ≡ None → select (map arm_den (drop n arms)) v calls bound ≡ select (map arm_den (drop next arms)) v calls bound
next_arm_there arms n next a v calls bound is there more h =
    ap (λ as'. select (map arm_den as') v calls bound) (drop_at arms n a there)
    ∙ (next_arm a (drop (suc n) arms) v calls bound (left_behind arms n (omega (arith, is, more))) h ∙ ap (λ m. select (map arm_den (drop m arms)) v calls bound) (sym is))

-- ---- calls

pub no_call : (fs : List Function) (f : ℕ) (vs : List Value) → slice_get fs f ≡ None → calls_of fs f vs ≡ None
no_call fs f vs h = function_none fs 0 f f no_function vs (omega arith) h

pub call_gives : (fs : List Function) (f : ℕ) (vs : List Value) (g : Function) → slice_get fs f ≡ Some g
    → calls_of fs f vs ≡ (if length vs == g.arity then core_value g.body (calls_of (take f fs)) vs else None)
call_gives fs f vs g h = function_at fs 0 f f no_function vs g (omega arith) h

pub wrong_count : (fs : List Function) (f : ℕ) (vs : List Value) (g : Function) → slice_get fs f ≡ Some g → (length vs == g.arity) ≡ false → calls_of fs f vs ≡ None
wrong_count fs f vs g h e = call_gives fs f vs g h ∙ ap (λ b. if b then core_value g.body (calls_of (take f fs)) vs else None) e

pub right_count : (fs : List Function) (f : ℕ) (vs : List Value) (g : Function) → slice_get fs f ≡ Some g → (length vs == g.arity) ≡ true
    → calls_of fs f vs ≡ core_value g.body (calls_of (take f fs)) vs
right_count fs f vs g h e = call_gives fs f vs g h ∙ ap (λ b. if b then core_value g.body (calls_of (take f fs)) vs else None) e
