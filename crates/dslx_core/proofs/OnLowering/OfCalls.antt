-- Builtins and calls mean the same as what stands for them.
use Rattle.std.proofs.Common.{◌≡◌, ◌&&◌, ℕ, zero, suc, length, Bool, true, false, not, if◌then◌else◌, List, [], ◌∷◌, map, Option, Some, refl, sym, ap, ◌∙◌}
use Rattle.std.specs.Prelude.{nat_lt, set}
use Rattle.std.specs.List.{list_all}
use Rattle.std.proofs.lemmas.Bool.Decides.{Decides-eqb}
use Rattle.xb_bits.specs.Word.{Word}
use Rattle.xb_bits.specs.Operations as op
use Rattle.xb_value.specs.declared.value.Value.{Value}
use Rattle.xb_value.specs.declared.value.Value as plain
use Rattle.dslx_meaning.specs.Lists.{all_some, and_then, where_true, with_both}
use Rattle.dslx_meaning.specs.Callees.{CallKind, Joins, Receives, ReceivesIf, Sends, SendsIf, CountsLeading, CountsTrailing, Reverses, AllOnes, SomeOne, Parity, Updates, Calls}
use Rattle.dslx_meaning.specs.Types.{bool_type}
use Rattle.dslx_meaning.specs.Values.{bits_of, items_of, plain_value, unsigned_of}
use Rattle.dslx_meaning.specs.Operators.{counted, reduced, update_value, updated}
use Rattle.dslx_meaning.specs.Environment.{Given}
use Rattle.dslx_meaning.specs.Meaning.{call_den}
use Rattle.dslx_meaning.specs.declared.ty.DslxType.{DslxType}
use Rattle.dslx_meaning.specs.declared.ty.DslxType as ty
use Rattle.dslx_meaning.specs.declared.value.DslxValue.{DslxValue, out-DslxValue}
use Rattle.dslx_meaning.specs.declared.value.DslxValue as value
use Rattle.dslx_meaning.specs.declared.value.DslxValue.TheViews as views
use Rattle.dslx_meaning.specs.declared.value.SignedWord.{SignedWord}
use Rattle.dslx_meaning.specs.Rules.AggregateRules.{array_in}
use Rattle.dslx_meaning.specs.Rules.ConstantRules.{is_zero}
use Rattle.dslx_core.proofs.Lemmas.Typing.Laws.{and_true}
use Rattle.dslx_core.specs.Typing.Typed.Kinds.{elements_all_of, is_of, lies_in}
use Rattle.dslx_core.proofs.Lemmas.Typing.Typed.{and_reduce_lies, clz_lies, ctz_lies, none_some, of_array, of_token, or_reduce_lies, rev_lies, same_some, xor_reduce_lies}
use Rattle.dslx_core.specs.CoreValues as meaning
use Rattle.dslx_core.specs.CoreValues.{Bindings, Functions, core_value, unary_word, word_in}
use Rattle.dslx_core.specs.declared.expr.CoreUnary.{CoreUnary}
use Rattle.dslx_core.specs.declared.expr.CoreUnary.TheVariants as u
use Rattle.dslx_core.specs.declared.expr.CoreExpr as core
use Rattle.dslx_core.specs.Lowering.CoreScopes.{CoreScope}
use Rattle.dslx_core.specs.Lowering.EqualTypes.{equal_type}
use Rattle.dslx_core.specs.Lowering.Lowering.{LoweredExpr, lower_call, cores_of, lower_counted, lower_function, lowered, lower_reduced, types_of_lowered, lower_updated}
use Rattle.dslx_core.specs.Lowering.Correspondence.{HasPlainValue, KeepsValue, SimulatesInScope, env_at}
use Rattle.dslx_core.proofs.OnLowering.Kept.{bits_kept, both_there, from_both, from_then, from_where, kept_as, operand, operand_word, value_as}
use Rattle.dslx_core.proofs.OnLowering.Lists.{EachGivesSame, EachKeeps, EachThere, all_have, all_of, all_same, all_values, each_there}
use Rattle.dslx_core.proofs.OnLowering.OfParts.{amount_there, array_is, elements_there, length_kept}
use Rattle.dslx_core.proofs.OnLowering.OneType.{one_by_test}
use Rattle.dslx_core.proofs.OnLowering.Openings.{core_call, core_tuple, core_unary, core_update, plain_array, plain_token}

-- ---- one operand

-- each of one operand, where there is one
one_keeps : (calls : Functions) (bound : Bindings) (o : CoreUnary) (s : Bool → Bool) (typed : DslxType → DslxType) (f : Word → Word) (l : Option LoweredExpr) (c : Option DslxValue) → KeepsValue calls bound l c
    → ((x : Word) → unary_word o x ≡ f x) → ((x : SignedWord) → typed (ty.Bits x.signed x.word.width) ≡ ty.Bits (s x.signed) (f x.word).width) → ((x : Word) → lies_in (f x) ≡ true)
    → KeepsValue calls bound (and_then l (λ e. lowered (core.Unary o e.core) (typed e.ty))) (and_then c (λ v. and_then (bits_of v) (λ x. Some (value.Bits (s x.signed) (f x.word)))))
one_keeps calls bound o s typed f l c keeps same is low e h r g =
    let a = from_then l (λ e. lowered (core.Unary o e.core) (typed e.ty)) e h in
    let v = from_then c (λ v. and_then (bits_of v) (λ x. Some (value.Bits (s x.signed) (f x.word)))) r g in
    let x = from_then (bits_of v.0) (λ x. Some (value.Bits (s x.signed) (f x.word))) r v.2 in
    let has = keeps a.0 a.1 v.0 v.1 in
    let q = operand a.0.ty v.0 x.0 has.of x.1 in
    kept_as calls bound r (record { core = core.Unary o a.0.core; ty = typed a.0.ty }) e a.2
    (bits_kept (record { core = core.Unary o a.0.core; ty = typed a.0.ty }) calls bound (s x.0.signed) (f x.0.word) r (sym (same_some (value.Bits (s x.0.signed) (f x.0.word)) r x.2))
    (ap typed q.typed ∙ is x.0) (low x.0.word)
    (ap (λ f. f calls bound) (core_unary o a.0.core) ∙ ap (λ o'. and_then o' (λ w. Some (plain.Bits (unary_word o w)))) (operand_word a.0 calls bound v.0 x.0 has q)
    ∙ ap (λ w. Some (plain.Bits w)) (same x.0.word)))

-- the values of a list of one, or of another list
counted_keeps : (calls : Functions) (bound : Bindings) (o : CoreUnary) (f : Word → Word) (ls : List (Option LoweredExpr)) (os : List (Option DslxValue)) (vs : List DslxValue) → EachKeeps calls bound ls os
    → ((x : Word) → unary_word o x ≡ f x) → ((x : Word) → x.width ≡ (f x).width) → ((x : Word) → lies_in (f x) ≡ true) → EachThere os vs → KeepsValue calls bound (lower_counted o ls) (counted f vs)
counted_keeps calls bound o f [] os vs h same is low there e k r g = none_some e k
counted_keeps calls bound o f (l ∷ m ∷ ls) os vs h same is low there e k r g = none_some e k
counted_keeps calls bound o f (l ∷ []) [] vs h same is low there e k r g = absurd h
counted_keeps calls bound o f (l ∷ []) (c ∷ []) [] h same is low there e k r g = none_some r g
counted_keeps calls bound o f (l ∷ []) (c ∷ []) (v ∷ w ∷ vs) h same is low there e k r g = none_some r g
counted_keeps calls bound o f (l ∷ []) (c ∷ d ∷ os) vs h same is low there e k r g = absurd h.1
counted_keeps calls bound o f (l ∷ []) (c ∷ []) (v ∷ []) h same is low there e k r g =
    one_keeps calls bound o (λ s. s) (λ t. t) f l c h.0 same (λ x. ap (ty.Bits x.signed) (is x.word)) low e k r (ap (λ o. and_then o (λ v. and_then (bits_of v) (λ x. Some (value.Bits x.signed (f x.word))))) there.0 ∙ g)

reduced_keeps : (calls : Functions) (bound : Bindings) (o : CoreUnary) (f : Word → Word) (ls : List (Option LoweredExpr)) (os : List (Option DslxValue)) (vs : List DslxValue) → EachKeeps calls bound ls os
    → ((x : Word) → unary_word o x ≡ f x) → ((x : Word) → 1 ≡ (f x).width) → ((x : Word) → lies_in (f x) ≡ true) → EachThere os vs → KeepsValue calls bound (lower_reduced o ls) (reduced f vs)
reduced_keeps calls bound o f [] os vs h same is low there e k r g = none_some e k
reduced_keeps calls bound o f (l ∷ m ∷ ls) os vs h same is low there e k r g = none_some e k
reduced_keeps calls bound o f (l ∷ []) [] vs h same is low there e k r g = absurd h
reduced_keeps calls bound o f (l ∷ []) (c ∷ []) [] h same is low there e k r g = none_some r g
reduced_keeps calls bound o f (l ∷ []) (c ∷ []) (v ∷ w ∷ vs) h same is low there e k r g = none_some r g
reduced_keeps calls bound o f (l ∷ []) (c ∷ d ∷ os) vs h same is low there e k r g = absurd h.1
reduced_keeps calls bound o f (l ∷ []) (c ∷ []) (v ∷ []) h same is low there e k r g =
    one_keeps calls bound o (λ s. false) (λ t. bool_type) f l c h.0 same (λ x. ap (ty.Bits false) (is x.word)) low e k r (ap (λ o. and_then o (λ v. and_then (bits_of v) (λ x. Some (value.Bits false (f x.word))))) there.0 ∙ g)

-- ---- updates

set_kept : {A B : Type 0} (f : A → B) (as' : List A) (k : ℕ) (a : A) → map f (set as' k a) ≡ set (map f as') k (f a)
set_kept f [] k a = refl
set_kept f (b ∷ as') zero a = refl
set_kept f (b ∷ as') (suc k) a = ap (λ bs. f b ∷ bs) (set_kept f as' k a)

set_of_all : (t : DslxType) (vs : List DslxValue) (k : ℕ) (v : DslxValue) → list_all (is_of t) vs ≡ true → is_of t v ≡ true → list_all (is_of t) (set vs k v) ≡ true
set_of_all t [] k v all of = refl
set_of_all t (w ∷ vs) zero v all of = ap (λ b. b && list_all (is_of t) vs) of ∙ (and_true (is_of t w) (list_all (is_of t) vs) all).1
set_of_all t (w ∷ vs) (suc k) v all of =
    let q = and_true (is_of t w) (list_all (is_of t) vs) all in
    ap (λ b. b && list_all (is_of t) (set vs k v)) q.0 ∙ set_of_all t vs k v q.1 of

set_as_long : {A : Type 0} (as' : List A) (k : ℕ) (a : A) → length (set as' k a) ≡ length as'
set_as_long [] k a = refl
set_as_long (b ∷ as') zero a = refl
set_as_long (b ∷ as') (suc k) a = ap suc (set_as_long as' k a)

-- an array of so many elements of a type
pub array_of_elements : (t : DslxType) (n : ℕ) (vs : List DslxValue) → not (is_zero n) ≡ true → n ≡ length vs → list_all (is_of t) vs ≡ true → is_of (ty.Array t n) (value.Array vs) ≡ true
array_of_elements t n vs some count all =
    of_array t n (value.Array vs) ∙ ap (elements_all_of (is_of t) n) (views.outs-Array vs) ∙ (λ i. (some i && (Decides-eqb n (length vs)).1 count i) && all i)

abbrev changed : {A : Type 0} → List A → ℕ → A → List A
changed as' k a = if nat_lt k (length as') then set as' k a else as'

changed_kept : {A B : Type 0} (f : A → B) (as' : List A) (k : ℕ) (a : A) → map f (changed as' k a) ≡ changed (map f as') k (f a)
changed_kept f as' k a = by_test (nat_lt k (length as')) ∙ ap (λ n. if nat_lt k n then set (map f as') k (f a) else map f as') (sym (length_kept f as'))
  where
    by_test : (b : Bool) → map f (if b then set as' k a else as') ≡ (if b then set (map f as') k (f a) else map f as')
    by_test true = set_kept f as' k a
    by_test false = refl

changed_all : (t : DslxType) (vs : List DslxValue) (k : ℕ) (v : DslxValue) → list_all (is_of t) vs ≡ true → is_of t v ≡ true → (list_all (is_of t) (changed vs k v) ≡ true) × (length (changed vs k v) ≡ length vs)
changed_all t vs k v all of = by_test (nat_lt k (length vs))
  where
    by_test : (b : Bool) → (list_all (is_of t) (if b then set vs k v else vs) ≡ true) × (length (if b then set vs k v else vs) ≡ length vs)
    by_test true = (set_of_all t vs k v all of, set_as_long vs k v)
    by_test false = (all, refl)

update_keeps : (calls : Functions) (bound : Bindings) (l li ln : Option LoweredExpr) (o oi on : Option DslxValue) → KeepsValue calls bound l o → KeepsValue calls bound li oi → KeepsValue calls bound ln on
    → (v i new : DslxValue) → o ≡ Some v → oi ≡ Some i → on ≡ Some new → KeepsValue calls bound (lower_updated (l ∷ li ∷ ln ∷ [])) (update_value v i new)
update_keeps calls bound l li ln o oi on keeps keep_index keep_new v i new ov oi' onew e h r g =
    let c = from_then ln (λ new. with_both l li (λ e i. and_then (array_in e.ty) (λ parts. where_true (equal_type parts.0 new.ty) (lowered (core.Update e.core i.core new.core) e.ty)))) e h in
    let a = from_both l li (λ e i. and_then (array_in e.ty) (λ parts. where_true (equal_type parts.0 c.0.ty) (lowered (core.Update e.core i.core c.0.core) e.ty))) e c.2 in
    let p = from_then (array_in a.0.ty) (λ parts. where_true (equal_type parts.0 c.0.ty) (lowered (core.Update a.0.core a.1.core c.0.core) a.0.ty)) e a.4 in
    let w = from_where (equal_type p.0.0 c.0.ty) (lowered (core.Update a.0.core a.1.core c.0.core) a.0.ty) e p.2 in
    let q = from_both (items_of v) (unsigned_of i) (λ vs k. Some (value.Array (changed vs k.value new))) r g in
    let has = keeps a.0 a.2 v ov in
    let place = keep_index a.1 a.3 i oi' in
    let put = keep_new c.0 c.1 new onew in
    let array = array_is a.0.ty p.0 v q.0 p.1 has.of q.2 in
    let all = changed_all p.0.0 q.0 q.1.value new array.all (ap (λ t. is_of t new) (one_by_test p.0.0 c.0.ty w.0) ∙ put.of) in
    value_as calls bound e (value.Array (changed q.0 q.1.value new)) r q.4
    (kept_as calls bound (value.Array (changed q.0 q.1.value new)) (record { core = core.Update a.0.core a.1.core c.0.core; ty = a.0.ty }) e w.1
    (record {
      of = ap (λ t. is_of t (value.Array (changed q.0 q.1.value new))) array.typed ∙ array_of_elements p.0.0 p.0.1 (changed q.0 q.1.value new) array.some (array.count ∙ sym all.1) all.0;
      core =
          ap (λ f. f calls bound) (core_update a.0.core a.1.core c.0.core)
          ∙ ap (λ o. and_then o (λ n. with_both (meaning.array_in (core_value a.0.core) calls bound) (word_in (core_value a.1.core) calls bound) (λ vs k. Some (plain.Array (changed vs k.value n))))) put.core
          ∙ both_there (meaning.array_in (core_value a.0.core) calls bound) (word_in (core_value a.1.core) calls bound) (λ vs k. Some (plain.Array (changed vs k.value (plain_value new)))) (map plain_value q.0) q.1
          (elements_there a.0 calls bound v q.0 has array.out) (amount_there a.1 calls bound i q.1 place q.3)
          ∙ ap (λ us. Some (plain.Array us)) (sym (changed_kept plain_value q.0 q.1.value new)) ∙ ap Some (sym (plain_array (changed q.0 q.1.value new)));
    }))

updated_keeps : (calls : Functions) (bound : Bindings) (ls : List (Option LoweredExpr)) (os : List (Option DslxValue)) (vs : List DslxValue) → EachKeeps calls bound ls os → EachThere os vs
    → KeepsValue calls bound (lower_updated ls) (updated vs)
updated_keeps calls bound [] os vs h there e k r g = none_some e k
updated_keeps calls bound (a ∷ []) os vs h there e k r g = none_some e k
updated_keeps calls bound (a ∷ b ∷ []) os vs h there e k r g = none_some e k
updated_keeps calls bound (a ∷ b ∷ c ∷ d ∷ ls) os vs h there e k r g = none_some e k
updated_keeps calls bound (a ∷ b ∷ c ∷ []) [] vs h there e k r g = absurd h
updated_keeps calls bound (a ∷ b ∷ c ∷ []) (x ∷ []) vs h there e k r g = absurd h.1
updated_keeps calls bound (a ∷ b ∷ c ∷ []) (x ∷ y ∷ []) vs h there e k r g = absurd h.1.1
updated_keeps calls bound (a ∷ b ∷ c ∷ []) (x ∷ y ∷ z ∷ w ∷ os) vs h there e k r g = absurd h.1.1.1
updated_keeps calls bound (a ∷ b ∷ c ∷ []) (x ∷ y ∷ z ∷ []) [] h there e k r g = none_some r g
updated_keeps calls bound (a ∷ b ∷ c ∷ []) (x ∷ y ∷ z ∷ []) (p ∷ []) h there e k r g = none_some r g
updated_keeps calls bound (a ∷ b ∷ c ∷ []) (x ∷ y ∷ z ∷ []) (p ∷ q ∷ []) h there e k r g = none_some r g
updated_keeps calls bound (a ∷ b ∷ c ∷ []) (x ∷ y ∷ z ∷ []) (p ∷ q ∷ s ∷ t ∷ vs) h there e k r g = none_some r g
updated_keeps calls bound (a ∷ b ∷ c ∷ []) (x ∷ y ∷ z ∷ []) (p ∷ q ∷ s ∷ []) h there e k r g = update_keeps calls bound a b c x y z h.0 h.1.0 h.1.1.0 p q s there.0 there.1.0 there.1.1.0 e k r g

-- ---- calls

token_keeps : (calls : Functions) (bound : Bindings) → KeepsValue calls bound (lowered (core.Tuple []) ty.Token) (Some value.Token)
token_keeps calls bound e h v k =
    value_as calls bound e value.Token v k
    (kept_as calls bound value.Token (record { core = core.Tuple []; ty = ty.Token }) e h
    (record { of = of_token value.Token ∙ rw views.outs-Token refl; core = ap (λ f. f calls bound) (core_tuple []) ∙ ap Some (sym plain_token) }))

function_keeps : (scope : CoreScope) (calls : Functions) (given : List Given) (bound : Bindings) → SimulatesInScope scope calls given bound → (name : List ℕ) (ns ms : List (Option DslxValue)) (parametric_args : List DslxValue)
    (ls : List (Option LoweredExpr)) (os : List (Option DslxValue)) (vs : List DslxValue) → EachGivesSame ns ms → all_some ms ≡ Some parametric_args → EachKeeps calls bound ls os → all_some os ≡ Some vs
    → KeepsValue calls bound (lower_function scope name ns ls) (scope.known.items.call name parametric_args vs)
function_keeps scope calls given bound at name ns ms parametric_args ls os vs same number h there e k r g =
    let a = from_both (all_some ns) (all_some ls) (λ parametric_args es. and_then (scope.known.callee name parametric_args (types_of_lowered es)) (λ callee. lowered (core.Call callee.number (cores_of es)) callee.result)) e k in
    let c = from_then (scope.known.callee name a.0 (types_of_lowered a.1)) (λ callee. lowered (core.Call callee.number (cores_of a.1)) callee.result) e a.4 in
    let have = all_have calls bound ls os a.1 vs h a.3 there in
    let one = same_some parametric_args a.0 (sym number ∙ all_same ns ms a.0 same a.2) in
    let stands = at.known.callees name a.0 vs (types_of_lowered a.1) c.0 r c.1 (all_of calls bound a.1 vs have) (ap (λ ns. scope.known.items.call name ns vs) (sym one) ∙ g) in
    kept_as calls bound r (record { core = core.Call c.0.number (cores_of a.1); ty = c.0.result }) e c.2
    (record {
      of = stands.0;
      core = ap (λ f. f calls bound) (core_call c.0.number (cores_of a.1)) ∙ ap (λ o. and_then o (calls c.0.number)) (all_values calls bound a.1 vs have) ∙ stands.1;
    })

pub call_keeps : (scope : CoreScope) (calls : Functions) (given : List Given) (bound : Bindings) → SimulatesInScope scope calls given bound → (kind : CallKind) (name : List ℕ) (ns ms : List (Option DslxValue))
    (ls : List (Option LoweredExpr)) (os : List (Option DslxValue)) → EachGivesSame ns ms → EachKeeps calls bound ls os
    → KeepsValue calls bound (lower_call kind name scope ns ls) (with_both (all_some ms) (all_some os) (call_den kind name (env_at scope given)))
call_keeps scope calls given bound at kind name ns ms ls os same h e k r g =
    let q = from_both (all_some ms) (all_some os) (call_den kind name (env_at scope given)) r g in
    by_kind kind q.0 q.1 q.2 q.3 k q.4
  where
    by_kind : (kind : CallKind) (parametric_args vs : List DslxValue) → all_some ms ≡ Some parametric_args → all_some os ≡ Some vs → lower_call kind name scope ns ls ≡ Some e
        → call_den kind name (env_at scope given) parametric_args vs ≡ Some r → HasPlainValue e calls bound r
    by_kind Joins parametric_args vs p q k g = token_keeps calls bound e (from_then (all_some ls) (λ es. lowered (core.Tuple []) ty.Token) e k).2 r g
    by_kind CountsLeading parametric_args vs p q k g = counted_keeps calls bound u.Clz op.clz ls os vs h (λ x. refl) (λ x. refl) clz_lies (each_there os vs q) e k r g
    by_kind CountsTrailing parametric_args vs p q k g = counted_keeps calls bound u.Ctz op.ctz ls os vs h (λ x. refl) (λ x. refl) ctz_lies (each_there os vs q) e k r g
    by_kind Reverses parametric_args vs p q k g = counted_keeps calls bound u.Rev op.rev ls os vs h (λ x. refl) (λ x. refl) rev_lies (each_there os vs q) e k r g
    by_kind AllOnes parametric_args vs p q k g = reduced_keeps calls bound u.AndReduce op.and_reduce ls os vs h (λ x. refl) (λ x. refl) and_reduce_lies (each_there os vs q) e k r g
    by_kind SomeOne parametric_args vs p q k g = reduced_keeps calls bound u.OrReduce op.or_reduce ls os vs h (λ x. refl) (λ x. refl) or_reduce_lies (each_there os vs q) e k r g
    by_kind Parity parametric_args vs p q k g = reduced_keeps calls bound u.XorReduce op.xor_reduce ls os vs h (λ x. refl) (λ x. refl) xor_reduce_lies (each_there os vs q) e k r g
    by_kind Updates parametric_args vs p q k g = updated_keeps calls bound ls os vs h (each_there os vs q) e k r g
    by_kind Calls parametric_args vs p q k g = function_keeps scope calls given bound at name ns ms parametric_args ls os vs same p h q e k r g
    by_kind Receives parametric_args vs p q k g = none_some e k
    by_kind ReceivesIf parametric_args vs p q k g = none_some e k
    by_kind Sends parametric_args vs p q k g = none_some e k
    by_kind SendsIf parametric_args vs p q k g = none_some e k
