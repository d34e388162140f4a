-- What array literals give.
use Rattle.std.proofs.Common.{◌≡◌, ◌||◌, ◌&&◌, ◌++◌, ◌==◌, ◌-◌, ◌≤◌, ℕ, zero, suc, length, Bool, true, false, not, if◌then◌else◌, List, [], ◌∷◌, map, Option, Some, None, ltb-false, length-append, arith, refl, sym, ap, subst, ◌∙◌}
use mathlib.Core.Bool.{true≢false}
use Rattle.std.specs.Prelude.{nat_lt, nat_le, ◌^◌}
use Rattle.std.specs.Option.{option_map}
use Rattle.std.specs.List.{list_all}
use Rattle.std.proofs.lemmas.Bool.{le-leb}
use Rattle.std.proofs.lemmas.Bool.Decides.{Decides-eqb}
use Rattle.xb_bits.specs.Word.{Word, word}
use Rattle.xb_span.specs.declared.fault.Fault.TheVariants.{Passed}
use Rattle.xb_span.specs.declared.limit.What.TheVariants as what
use Rattle.xb_span.specs.declared.span.Span.{Span}
use Rattle.dslx_meaning.specs.Lists.{all_some, and_then, where_true, last_of, repeated}
use Rattle.dslx_meaning.specs.Types.{same_type, bits_in}
use Rattle.dslx_meaning.specs.Operators.{number_value, number_in, word_in_range, negative_word, positive_word}
use Rattle.dslx_meaning.specs.Environment.{Env}
use Rattle.dslx_meaning.specs.Meaning.{ExprDen, element_den, array_at, filled}
use Rattle.dslx_meaning.specs.declared.ty.BitKind.{BitKind}
use Rattle.dslx_meaning.specs.declared.ty.DslxType.{DslxType, out-DslxType}
use Rattle.dslx_meaning.specs.declared.ty.DslxType as ty
use Rattle.dslx_meaning.specs.declared.ty.DslxType.TheFolds.{fold-roll-DslxType}
use Rattle.dslx_meaning.specs.declared.ty.DslxType.TheOpen.{DslxType-F}
use Rattle.dslx_meaning.specs.declared.ty.DslxType.TheVariants as type_rolls
use Rattle.dslx_meaning.specs.declared.ty.DslxType.TheViews as type_views
use Rattle.dslx_meaning.specs.declared.value.DslxValue.{DslxValue}
use Rattle.dslx_meaning.specs.declared.value.DslxValue as value
use Rattle.dslx_meaning.specs.declared.value.DslxValue.TheViews as views
use Rattle.dslx_meaning.specs.declared.value.UntypedLiteral.{UntypedLiteral}
use Rattle.dslx_meaning.specs.Rules.TypeEnvs.{TypeEnv, Judgement, ExprPair, breaks_if, found_number, has_broken, leaf_widths, passes_widths, span_of, untyped_of, alone, types_of, faults_of_all, widths_in}
use Rattle.dslx_meaning.specs.Rules.ConstantRules.{is_empty, untyped_typing, is_zero}
use Rattle.dslx_meaning.specs.Rules.PatternRules.{is_there}
use Rattle.dslx_meaning.specs.Rules.AggregateRules.{array_in, element_type, element_in, element_alone, wanted_faults, range_faults, first_type_of, like_first, array_faults, count_wrong, is_narrow, typed_array, untyped_array, untyped_value, when_all}
use Rattle.dslx_core.proofs.Lemmas.Typing.Laws.{and_true, is_bits_type}
use Rattle.dslx_core.specs.Typing.Typed.Kinds.{each_of, is_of, elements_all_of}
use Rattle.dslx_core.specs.Typing.Typed.Declared.{Declarations, IsDeclared, AllDeclared}
use Rattle.dslx_core.specs.Typing.Typed.Given.{GivesOf, GivesItsType, HasNarrowLeaves, EachGives, MeansThere, EachMeans}
use Rattle.dslx_core.proofs.OnTyping.OnTyped.TypingRelations.{none_some, same_some, unbroken_parts, three_unbroken, rule_holds, test_holds, not_false, settled_type}
use Rattle.dslx_core.proofs.OnTyping.OnTyped.OfTypes.{of_array, bits_of_width}
use Rattle.dslx_core.proofs.OnTyping.OnTyped.OfWords.{number_lies}
use Rattle.dslx_core.proofs.OnTyping.OnTyped.OneName.{list_parts, one_of_text, array_declared, element_declared}
use Rattle.dslx_core.proofs.Lemmas.Typing.Typed.OfLists.{when_all_type, AllGiven, all_alone_given, element_types, all_with_first, behind_first}
use Rattle.dslx_core.proofs.OnTyping.OnTyped.OfAggregates.{array_with}

-- ---- arrays of values

-- some values of one type
pub elements_are : (t : DslxType) (n : ℕ) (vs : List DslxValue) → not (is_zero n) ≡ true → n ≡ length vs → list_all (is_of t) vs ≡ true → is_of (ty.Array t n) (value.Array vs) ≡ true
elements_are t n vs some count all =
    of_array t n (value.Array vs) ∙ ap (elements_all_of (is_of t) n) (views.outs-Array vs) ∙ (λ i. (some i && (Decides-eqb n (length vs)).1 count i) && all i)

-- as many values as types
each_many : (ts : List DslxType) (vs : List DslxValue) → each_of (map is_of ts) vs ≡ true → length ts ≡ length vs
each_many [] [] h = refl
each_many [] (v ∷ vs) h = absurd (true≢false (sym h))
each_many (t ∷ ts) [] h = absurd (true≢false (sym h))
each_many (t ∷ ts) (v ∷ vs) h = ap suc (each_many ts vs (and_true (is_of t v) (each_of (map is_of ts) vs) h).1)

many_mapped : (context : TypeEnv) (es : List ExprPair) (ts : List DslxType) → types_of (map (alone context) es) ≡ map Some ts → length es ≡ length ts
many_mapped context [] [] e = refl
many_mapped context [] (t ∷ ts) e = absurd (true≢false (sym (ap some e)))
  where
    some : List (Option DslxType) → Bool
    some [] = false
    some (x ∷ xs) = true
many_mapped context (x ∷ es) [] e = absurd (true≢false (ap some e))
  where
    some : List (Option DslxType) → Bool
    some [] = false
    some (x ∷ xs) = true
many_mapped context (x ∷ es) (t ∷ ts) e = ap suc (many_mapped context es ts (list_parts (alone context x).ty (Some t) (types_of (map (alone context) es)) (map Some ts) e).1)

-- ---- without a type: all are like the first

all_like_first : (types : Declarations) (u : DslxType) (es : List ExprPair) (ts : List DslxType) (vs : List DslxValue) → IsDeclared types u → AllDeclared types ts → length es ≡ length ts
    → has_broken (like_first (Some u) es (map Some ts)) ≡ false → each_of (map is_of ts) vs ≡ true → list_all (is_of u) vs ≡ true
all_like_first types u [] [] [] own d n f h = refl
all_like_first types u [] [] (v ∷ vs) own d n f h = absurd (true≢false (sym h))
all_like_first types u [] (t ∷ ts) vs own d n f h = absurd (zero_suc n)
  where
    zero_suc : {n : ℕ} → zero ≡ suc n → ⊥
    zero_suc e = omega (arith, e)
all_like_first types u (e ∷ es) [] vs own d n f h = absurd (zero_suc (sym n))
  where
    zero_suc : {n : ℕ} → zero ≡ suc n → ⊥
    zero_suc e = omega (arith, e)
all_like_first types u (e ∷ es) (t ∷ ts) [] own d n f h = absurd (true≢false (sym h))
all_like_first types u (e ∷ es) (t ∷ ts) (v ∷ vs) own d n f h =
    let q = unbroken_parts (wanted_faults (span_of e) (Some u) (Some t)) (like_first (Some u) es (map Some ts)) f in
    let r = and_true (is_of t v) (each_of (map is_of ts) vs) h in
    let same = one_of_text types u t (test_holds (same_type u t) 9 (span_of e) q.0) own d.0 in
    let fewer : length es ≡ length ts = omega (arith, n) in
    λ i. (ap (λ x. is_of x v) same ∙ r.0) i && all_like_first types u es ts vs own d.1 fewer q.1 r.1 i

pub untyped_gives : (types : Declarations) (span : Span) (context : TypeEnv) (es : List ExprPair) (dots : Bool) (xs : List (Option DslxValue))
    → EachGives types context es xs → GivesItsType types (untyped_array span context es dots) (and_then (all_some xs) (λ vs. Some (value.Array vs)))
untyped_gives types span context es dots xs h t e =
    let js = map (element_alone context) es in
    let first = first_type_of (types_of js) in
    let s = settled_type (when_all (types_of js) (and_then first (λ t. Some (ty.Array t (length es)))))
    ((faults_of_all js ++ like_first first es (types_of js)) ++ breaks_if (dots || is_empty es) 21 span) t e in
    let f = three_unbroken (faults_of_all js) (like_first first es (types_of js)) (breaks_if (dots || is_empty es) 21 span) s.0 in
    let q = when_all_type (types_of js) (and_then first (λ t. Some (ty.Array t (length es)))) t s.1 in
    given q.0 q.1 (all_alone_given types context es xs q.0 h (sym (element_types context es) ∙ q.1)) (many_mapped context es q.0 (sym (element_types context es) ∙ q.1))
    (ap (λ us. has_broken (like_first (first_type_of us) es us)) (sym q.1) ∙ f.1)
    (ap (λ us. and_then (first_type_of us) (λ t. Some (ty.Array t (length es)))) (sym q.1) ∙ q.2)
  where
    given : (ts : List DslxType) → types_of (map (element_alone context) es) ≡ map Some ts → AllGiven types ts xs → length es ≡ length ts
        → has_broken (like_first (first_type_of (map Some ts)) es (map Some ts)) ≡ false
        → and_then (first_type_of (map Some ts)) (λ t. Some (ty.Array t (length es))) ≡ Some t → GivesOf types t (and_then (all_some xs) (λ vs. Some (value.Array vs)))
    given [] all g n f own = none_some t own
    given (u ∷ ts) all g n f own =
        let is = same_some (ty.Array u (length es)) t own in
        let some : not (is_zero (length es)) ≡ true = ap (λ k. not (is_zero k)) n in
        record {
          value = value.Array g.values;
          is = ap (λ o. and_then o (λ vs. Some (value.Array vs))) g.are;
          of = ap (λ x. is_of x (value.Array g.values)) (sym is)
              ∙ elements_are u (length es) g.values some (n ∙ each_many (u ∷ ts) g.values g.of) (all_like_first types u es (u ∷ ts) g.values g.declared.0 g.declared n f g.of);
          declared = subst (IsDeclared types) is (array_declared types u (length es) some g.declared.0);
        }

-- ---- numbers in the range of a type

negative_width : (s : Bool) (w n : ℕ) (x : Word) → negative_word s w n ≡ Some x → x.width ≡ w
negative_width s w zero x e = sym (ap (λ (y : Word). y.width) (same_some (word w 0) x e))
negative_width false w (suc n) x e = none_some x e
negative_width true w (suc n) x e = by_test (nat_le (suc n) (2 ^ (w - 1))) e
  where
    by_test : (b : Bool) → (if b then Some (word w (2 ^ w - suc n)) else None) ≡ Some x → x.width ≡ w
    by_test true h = sym (ap (λ (y : Word). y.width) (same_some (word w (2 ^ w - suc n)) x h))
    by_test false h = none_some x h

positive_width : (s : Bool) (w n : ℕ) (x : Word) → positive_word s w n ≡ Some x → x.width ≡ w
positive_width s w n x e = by_sign s e
  where
    by_test : (b : Bool) → (if b then Some (word w n) else None) ≡ Some x → x.width ≡ w
    by_test true h = sym (ap (λ (y : Word). y.width) (same_some (word w n) x h))
    by_test false h = none_some x h

    by_sign : (s : Bool) → positive_word s w n ≡ Some x → x.width ≡ w
    by_sign false h = by_test (nat_lt n (2 ^ w)) h
    by_sign true h = by_test (nat_lt n (2 ^ (w - 1))) h

range_width : (k : BitKind) (number : UntypedLiteral) (x : Word) → word_in_range k number ≡ Some x → x.width ≡ k.width
range_width k number x e = by_test number.is_negative e
  where
    by_test : (b : Bool) → (if b then negative_word k.signed k.width number.value else positive_word k.signed k.width number.value) ≡ Some x → x.width ≡ k.width
    by_test true h = negative_width k.signed k.width number.value x h
    by_test false h = positive_width k.signed k.width number.value x h

-- a number that lies in the range of a type
pub number_given : (types : Declarations) (t : DslxType) (number : UntypedLiteral) → is_there (number_value t number) ≡ true → IsDeclared types t → GivesOf types t (number_value t number)
number_given types t number e d = by_kind (bits_in t) refl e
  where
    in_kind : (k : BitKind) → bits_in t ≡ Some k → t ≡ ty.Bits k.signed k.width → (o : Option Word) → word_in_range k number ≡ o → is_there (and_then o (λ w. Some (value.Bits k.signed w))) ≡ true
        → GivesOf types t (number_value t number)
    in_kind k q own None r h = absurd (true≢false (sym h))
    in_kind k q own (Some x) r h = record {
      value = value.Bits k.signed x;
      is = ap (λ o. number_in o number) q ∙ ap (λ o. and_then o (λ w. Some (value.Bits k.signed w))) r;
      of = ap (λ u. is_of u (value.Bits k.signed x)) own ∙ bits_of_width k.signed x k.width (range_width k number x r) (number_lies k number x r);
      declared = d;
    }

    by_kind : (o : Option BitKind) → bits_in t ≡ o → is_there (number_value t number) ≡ true → GivesOf types t (number_value t number)
    by_kind None q h = absurd (true≢false (sym (sym (ap (λ o. is_there (number_in o number)) q) ∙ h)))
    by_kind (Some k) q h =
        let r = is_bits_type t (ap is_there q) in
        let same = same_some r.0 k (sym r.2 ∙ q) in
        in_kind k q (r.1 ∙ (λ i. ty.Bits (same i).signed (same i).width)) (word_in_range k number) refl (sym (ap (λ o. is_there (number_in o number)) q) ∙ h)

-- bits are within the limit on widths
narrow_bits : (t : DslxType) → HasNarrowLeaves t → (k : BitKind) → bits_in t ≡ Some k → is_narrow (Some k) ≡ true
narrow_bits t h k e = by_test (nat_lt 128 k.width) refl (ap (passes_widths h.0) (sym widths) ∙ h.1)
  where
    own : t ≡ ty.Bits k.signed k.width
    own =
        let r = is_bits_type t (ap is_there e) in
        let same = same_some r.0 k (sym r.2 ∙ e) in
        r.1 ∙ (λ i. ty.Bits (same i).signed (same i).width)

    widths : leaf_widths t ≡ k.width ∷ []
    widths = ap leaf_widths (own ∙ sym (type_rolls.rolls-Bits k.signed k.width)) ∙ fold-roll-DslxType (List ℕ) widths_in (DslxType-F.Bits k.signed k.width)

    by_test : (b : Bool) → nat_lt 128 k.width ≡ b → ((if b then Passed h.0 (record { what = what.Width; found = found_number k.width; most = 128 }) ∷ [] else []) ++ []) ≡ [] → nat_le k.width 128 ≡ true
    by_test true q f = absurd (true≢false (sym (ap is_empty f)))
    by_test false q f = le-leb k.width 128 (ltb-false 128 k.width q)

-- so that a number in their range has its value
pub untyped_there : (t : DslxType) → HasNarrowLeaves t → (number : UntypedLiteral) → untyped_value t number ≡ number_value t number
untyped_there t h number = by_kind (bits_in t) refl
  where
    by_kind : (o : Option BitKind) → bits_in t ≡ o → where_true (is_narrow o) (number_in o number) ≡ number_in o number
    by_kind None q = refl
    by_kind (Some k) q = ap (λ b. where_true b (number_in (Some k) number)) (narrow_bits t h k q)

pub untyped_given : (types : Declarations) (t : DslxType) (number : UntypedLiteral) → is_there (number_value t number) ≡ true → HasNarrowLeaves t → IsDeclared types t → GivesOf types t (untyped_value t number)
untyped_given types t number e h d = subst (GivesOf types t) (sym (untyped_there t h number)) (number_given types t number e d)

-- ---- with a type

-- an element, by the number that it may be
abbrev element_by : TypeEnv → Option DslxType → ExprPair → Option UntypedLiteral → Judgement
element_by context wanted e None = let j = alone context e in record j { faults = j.faults ++ wanted_faults (span_of e) wanted j.ty }
element_by context wanted e (Some number) = record untyped_typing { ty = wanted; faults = range_faults (span_of e) wanted number }

abbrev denoted_by : DslxType → Env → ExprDen → Option UntypedLiteral → Option DslxValue
denoted_by t env m None = m.value env
denoted_by t env m (Some number) = number_value t number

element_in_by : (context : TypeEnv) (wanted : Option DslxType) (e : ExprPair) → element_in context wanted e ≡ element_by context wanted e (untyped_of e)
element_in_by context wanted e = refl

den_in_by : (t : DslxType) (env : Env) (m : ExprDen) → element_den t env m ≡ denoted_by t env m m.bare
den_in_by t env m = refl

element_given : (types : Declarations) (context : TypeEnv) (env : Env) (u : DslxType) (e : ExprPair) (m : ExprDen) (t : DslxType) → IsDeclared types u → MeansThere types context env e m
    → (element_in context (Some u) e).ty ≡ Some t → has_broken (element_in context (Some u) e).faults ≡ false → GivesOf types u (element_den u env m)
element_given types context env u e m t d h typed f =
    by_untyped (untyped_of e) h.bare typed f
  where
    alike : (o : Option UntypedLiteral) → o ≡ m.bare → GivesOf types u (denoted_by u env m o) → GivesOf types u (element_den u env m)
    alike o q g = subst (λ p. GivesOf types u (denoted_by u env m p)) q g

    by_untyped : (o : Option UntypedLiteral) → o ≡ m.bare → (element_by context (Some u) e o).ty ≡ Some t → has_broken (element_by context (Some u) e o).faults ≡ false → GivesOf types u (element_den u env m)
    by_untyped None q own faults =
        let g = h.gives t own in
        let r = unbroken_parts (alone context e).faults (wanted_faults (span_of e) (Some u) (alone context e).ty) faults in
        let same = one_of_text types u t (test_holds (same_type u t) 9 (span_of e) (ap (λ o. has_broken (wanted_faults (span_of e) (Some u) o)) (sym own) ∙ r.1)) d g.declared in
        alike None q (subst (λ x. GivesOf types x (m.value env)) (sym same) g)
    by_untyped (Some number) q own faults = alike (Some number) q (number_given types u number (test_holds (is_there (number_value u number)) 6 (span_of e) faults) d)

-- all elements, each of one type
record AllOfType (u : DslxType) (os : List (Option DslxValue)) (n : ℕ) : Type 0 where
  values : List DslxValue
  are : all_some os ≡ Some values
  all : list_all (is_of u) values ≡ true
  many : n ≡ length values

elements_given : (types : Declarations) (context : TypeEnv) (env : Env) (u : DslxType) (es : List ExprPair) (ms : List ExprDen) (ts : List DslxType) → IsDeclared types u → EachMeans types context env es ms
    → types_of (map (element_in context (Some u)) es) ≡ map Some ts → has_broken (faults_of_all (map (element_in context (Some u)) es)) ≡ false
    → AllOfType u (map (element_den u env) ms) (length es)
elements_given types context env u [] [] ts d h e f = record { values = []; are = refl; all = refl; many = refl }
elements_given types context env u [] (m ∷ ms) ts d h e f = absurd h
elements_given types context env u (x ∷ es) [] ts d h e f = absurd h
elements_given types context env u (x ∷ es) (m ∷ ms) [] d h e f = absurd (true≢false (ap some e))
  where
    some : List (Option DslxType) → Bool
    some [] = false
    some (y ∷ ys) = true
elements_given types context env u (x ∷ es) (m ∷ ms) (t ∷ ts) d h e f =
    let q = list_parts (element_in context (Some u) x).ty (Some t) (types_of (map (element_in context (Some u)) es)) (map Some ts) e in
    let r = unbroken_parts (element_in context (Some u) x).faults (faults_of_all (map (element_in context (Some u)) es)) f in
    let first = element_given types context env u x m t d h.0 q.0 r.0 in
    let rest = elements_given types context env u es ms ts d h.1 q.1 r.1 in
    record {
      values = first.value ∷ rest.values;
      are = ap (λ o. all_some (o ∷ map (element_den u env) ms)) first.is ∙ all_with_first first.value (map (element_den u env) ms) ∙ ap (behind_first first.value) rest.are;
      all = λ i. first.of i && rest.all i;
      many = ap suc rest.many;
    }

-- the last element
last_there : (test : DslxValue → Bool) (v : DslxValue) (vs : List DslxValue) → list_all test (v ∷ vs) ≡ true → (x : DslxValue) × (last_of (v ∷ vs) ≡ Some x) × (test x ≡ true)
last_there test v [] h = (v, refl, (and_true (test v) true h).0)
last_there test v (w ∷ vs) h = last_there test w vs (and_true (test v) (list_all test (w ∷ vs)) h).1

all_repeated : (test : DslxValue → Bool) (n : ℕ) (x : DslxValue) → test x ≡ true → list_all test (repeated n x) ≡ true
all_repeated test zero x h = refl
all_repeated test (suc n) x h = λ i. h i && all_repeated test n x h i

many_repeated : (n : ℕ) (x : DslxValue) → length (repeated n x) ≡ n
many_repeated zero x = refl
many_repeated (suc n) x = ap suc (many_repeated n x)

all_joined : (test : DslxValue → Bool) (vs ws : List DslxValue) → list_all test vs ≡ true → list_all test ws ≡ true → list_all test (vs ++ ws) ≡ true
all_joined test [] ws h k = k
all_joined test (v ∷ vs) ws h k = let q = and_true (test v) (list_all test vs) h in λ i. q.0 i && all_joined test vs ws q.1 k i

filled_given : (dots : Bool) (n : ℕ) (u : DslxType) (vs : List DslxValue) → count_wrong dots n (length vs) ≡ false → not (is_zero n) ≡ true → list_all (is_of u) vs ≡ true
    → (v : DslxValue) × (filled dots n vs ≡ Some v) × (is_of (ty.Array u n) v ≡ true)
filled_given false n u vs c some all =
    let same = (Decides-eqb n (length vs)).0 (not_false (n == length vs) c) in
    (value.Array vs, ap (λ b. where_true b (Some (value.Array vs))) ((Decides-eqb (length vs) n).1 (sym same)), elements_are u n vs some same all)
filled_given true n u [] c some all = absurd (true≢false c)
filled_given true n u (v ∷ vs) c some all =
    let last = last_there (is_of u) v vs all in
    let more = repeated (n - length (v ∷ vs)) last.0 in
    let enough : suc (length vs) ≤ n = ltb-false n (suc (length vs)) c in
    let many : n ≡ length ((v ∷ vs) ++ more) = fills enough last.0 in (
      value.Array ((v ∷ vs) ++ more),
      ap (λ b. where_true (not b) (option_map (λ last. value.Array ((v ∷ vs) ++ repeated (n - length (v ∷ vs)) last)) (last_of (v ∷ vs)))) c
          ∙ ap (option_map (λ last. value.Array ((v ∷ vs) ++ repeated (n - length (v ∷ vs)) last))) last.1,
      elements_are u n ((v ∷ vs) ++ more) some many (all_joined (is_of u) (v ∷ vs) more all (all_repeated (is_of u) (n - length (v ∷ vs)) last.0 last.2)),
    )
  where
    fills : suc (length vs) ≤ n → (x : DslxValue) → n ≡ length ((v ∷ vs) ++ repeated (n - length (v ∷ vs)) x)
    fills enough x =
        let joined = length-append (v ∷ vs) (repeated (n - length (v ∷ vs)) x) in
        let rest = many_repeated (n - length (v ∷ vs)) x in
        omega (arith, joined, rest, enough)

pub typed_gives : (types : Declarations) (span : Span) (context : TypeEnv) (env : Env) (tj : Judgement) (w : Option DslxType) (es : List ExprPair) (ms : List ExprDen) (dots : Bool)
    → ((t : DslxType) → tj.ty ≡ Some t → (w ≡ Some t) × IsDeclared types t) → EachMeans types context env es ms
    → GivesItsType types (typed_array span context tj es dots) (and_then w (λ t. array_at env ms dots (out-DslxType t)))
typed_gives types span context env tj w es ms dots written h t e =
    let parts = and_then tj.ty array_in in
    let js = map (element_in context (element_type parts)) es in
    let s = settled_type (when_all (types_of js) tj.ty) ((tj.faults ++ faults_of_all js) ++ array_faults span tj.ty parts (length es) dots) t e in
    let f = three_unbroken tj.faults (faults_of_all js) (array_faults span tj.ty parts (length es) dots) s.0 in
    let q = when_all_type (types_of js) tj.ty t s.1 in
    let own = written t q.2 in
    by_parts (array_in t) refl q.0 own.0 own.1
    (ap (λ o. types_of (map (element_in context (element_type (and_then o array_in))) es)) (sym q.2) ∙ q.1)
    (ap (λ o. has_broken (faults_of_all (map (element_in context (element_type (and_then o array_in))) es))) (sym q.2) ∙ f.1)
    (ap (λ o. has_broken (array_faults span o (and_then o array_in) (length es) dots)) (sym q.2) ∙ f.2)
  where
    by_parts : (o : Option (DslxType × ℕ)) → array_in t ≡ o → (ts : List DslxType) → w ≡ Some t → IsDeclared types t
        → types_of (map (element_in context (element_type (array_in t))) es) ≡ map Some ts → has_broken (faults_of_all (map (element_in context (element_type (array_in t))) es)) ≡ false
        → has_broken (array_faults span (Some t) (array_in t) (length es) dots) ≡ false → GivesOf types t (and_then w (λ t. array_at env ms dots (out-DslxType t)))
    by_parts None q ts is d typed f wrong = absurd (true≢false (sym (ap (λ o. has_broken (array_faults span (Some t) o (length es) dots)) q) ∙ wrong))
    by_parts (Some p) q ts is d typed f wrong =
        let whole = array_with t p q in
        let own = element_declared types p.0 p.1 (subst (IsDeclared types) whole d) in
        let all = elements_given types context env p.0 es ms ts own.0 h
        (ap (λ o. types_of (map (element_in context (element_type o)) es)) (sym q) ∙ typed)
        (ap (λ o. has_broken (faults_of_all (map (element_in context (element_type o)) es))) (sym q) ∙ f) in
        let count = rule_holds (count_wrong dots p.1 (length es)) 21 span (ap (λ o. has_broken (array_faults span (Some t) o (length es) dots)) (sym q) ∙ wrong) in
        let v = filled_given dots p.1 p.0 all.values (ap (count_wrong dots p.1) (sym all.many) ∙ count) own.1 all.all in
        record {
          value = v.0;
          is = ap (λ o. and_then o (λ t. array_at env ms dots (out-DslxType t))) is
              ∙ ap (λ l. array_at env ms dots l) (ap out-DslxType whole ∙ type_views.outs-Array p.0 p.1)
              ∙ ap (λ o. and_then o (filled dots p.1)) all.are ∙ v.1;
          of = ap (λ u. is_of u v.0) whole ∙ v.2;
          declared = d;
        }
