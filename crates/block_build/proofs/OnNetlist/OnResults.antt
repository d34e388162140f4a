-- Where the signals of an operation's operands show their values, that of its result shows its own.
use Rattle.std.proofs.Common.{◌≡◌, ℕ, zero, suc, ◌+◌, ◌-◌, ◌<◌, ◌≤◌, ◌^◌, List, [], ◌∷◌, map, length, get_or, Bool, true, false, refl, sym, ap, ap₂, ◌∙◌, subst, arith, cond, nat_lt, nat_le, min, Option, Some, None}
use Rattle.std.specs.Prelude.{◌&&◌, ◌==◌, slice_set}
use Rattle.std.proofs.lemmas.Bool.Decides.{nat_tests}
use Rattle.xb_bits.specs.Word.{Word, word}
use Rattle.xb_bits.specs.Operations as bits
use Rattle.xb_value.specs.declared.ty.Ty.{Ty}
use Rattle.xb_value.specs.declared.ty.Ty as ty
use Rattle.xb_value.specs.declared.value.Value.{Value, Bits, Tuple}
use Rattle.xb_value.specs.Typing.{IsOfType}
use Rattle.xb_value.specs.Flat.{flat_of, joined}
use Rattle.xb_value.proofs.Lemmas.Typing.{tuple_of_type, array_of_type}
use Rattle.xb_value.proofs.Lemmas.Values.{flat_of-Bits, flat_of-Tuple}
use Rattle.net_core.specs.Behavior.{IsWordOf}
use Rattle.delay_model.specs.declared.op.Op.TheVariants as op
use Rattle.delay_model.specs.declared.op.Binary.{Binary}
use Rattle.delay_model.specs.declared.op.Unary.{Unary}
use Rattle.delay_model.specs.declared.op.Compare.{Compare}
use Rattle.delay_model.specs.declared.op.Shift.{Shift}
use Rattle.delay_model.specs.declared.op.Reduce.{Reduce}
use Rattle.delay_model.specs.declared.op.Extend.{Extend}
use Rattle.ir_tree.specs.declared.node.Operand.{Operand}
use Rattle.ir_tree.specs.Constants.{no_value, bits_where}
use Rattle.ir_tree.specs.NodeValues.{operand_value, optional_value}
use Rattle.ir_tree.specs.Operations.{binary_word, unary_word, holds, bit, shift_word, reduce_word, extend_word, on_word, on_words, on_tuple, of_one, of_two, plain_value, longer_value, slice_value, dyn_slice_value, chosen, element_at, at_index, updated, index_value}
use Rattle.ir_tree.proofs.Lemmas.Rules.Typed.Scopes.{bits_there, on_word-Bits, on_words-Bits, on_tuple-Tuple, on_array-Array}
use Rattle.vlog_tree.specs.declared.expression.Atom.{Atom}
use Rattle.vlog_tree.specs.Value.{Values, atom_value}
use Rattle.block_build.specs.Netlist.Leaves.{all_leaves, ShowsValue, ShowAll, parts_of, leaf_widths, leaf_counts, repeated, total_width}
use Rattle.block_build.specs.Netlist.Choices.{chosen_below}
use Rattle.block_build.specs.Netlist.Results.{GivesOne, GivesTwo, ShowWords, StandsForRest}
use Rattle.block_build.proofs.OnNetlist.OnLeaves.{shown_bits, has_signal, tuple_parts_shown, array_parts_shown, shown_at, array_shown}

-- ---- operations that give a number

one_shown : (v : Values) (w : ℕ) (a r : Atom) (f : Word → Value) (g : Word → Word) (x : Value) → GivesOne v w g a r → IsOfType (ty.Bits w) x → ShowsValue v (a ∷ []) x
    → ((p : Word) → IsWordOf w p → f p ≡ Bits (g p)) → ShowsValue v (r ∷ []) (on_word f x)
one_shown v w a r f g x gives t h made =
    let s = has_signal v w a x t h in
    subst (ShowsValue v (r ∷ [])) (sym (on_word-Bits f x s.word s.is ∙ made s.word s.of)) (shown_bits v r (g s.word) (gives s.word s.of s.carries))

two_shown : (v : Values) (w u : ℕ) (a b r : Atom) (f : Word → Word → Value) (g : Word → Word → Word) (x y : Value) → GivesTwo v w u g a b r
    → IsOfType (ty.Bits w) x → IsOfType (ty.Bits u) y → ShowsValue v (a ∷ []) x → ShowsValue v (b ∷ []) y
    → ((p q : Word) → IsWordOf w p → IsWordOf u q → f p q ≡ Bits (g p q)) → ShowsValue v (r ∷ []) (on_words f x y)
two_shown v w u a b r f g x y gives t t' h h' made =
    let s = has_signal v w a x t h in
    let s' = has_signal v u b y t' h' in
    subst (ShowsValue v (r ∷ [])) (sym (on_words-Bits f x y s.word s'.word s.is s'.is ∙ made s.word s'.word s.of s'.of))
    (shown_bits v r (g s.word s'.word) (gives s.word s'.word s.of s'.of s.carries s'.carries))

same_widths : (w : ℕ) (x y : Word) → IsWordOf w x → IsWordOf w y → (x.width == y.width) ≡ true
same_widths w x y h k = let e : x.width ≡ y.width = h.fits ∙ sym k.fits in grind (arith, nat_tests)

pub binary_shown : (v : Values) (o : Binary) (w : ℕ) (a b r : Atom) (x y : Value) → GivesTwo v w w (binary_word o) a b r
    → IsOfType (ty.Bits w) x → IsOfType (ty.Bits w) y → ShowsValue v (a ∷ []) x → ShowsValue v (b ∷ []) y → ShowsValue v (r ∷ []) (plain_value (op.Binary o) (x ∷ y ∷ []))
binary_shown v o w a b r x y gives t t' h h' =
    two_shown v w w a b r _ (binary_word o) x y gives t t' h h' (λ p q i j. bits_there (p.width == q.width) (binary_word o p q) (same_widths w p q i j))

pub unary_shown : (v : Values) (o : Unary) (w : ℕ) (a r : Atom) (x : Value) → GivesOne v w (unary_word o) a r
    → IsOfType (ty.Bits w) x → ShowsValue v (a ∷ []) x → ShowsValue v (r ∷ []) (plain_value (op.Unary o) (x ∷ []))
unary_shown v o w a r x gives t h = one_shown v w a r (λ p. bits_where true (unary_word o p)) (unary_word o) x gives t h (λ p i. refl)

pub compare_shown : (v : Values) (o : Compare) (w : ℕ) (a b r : Atom) (x y : Value) → GivesTwo v w w (λ p q. bit (holds o p q)) a b r
    → IsOfType (ty.Bits w) x → IsOfType (ty.Bits w) y → ShowsValue v (a ∷ []) x → ShowsValue v (b ∷ []) y → ShowsValue v (r ∷ []) (plain_value (op.Compare o) (x ∷ y ∷ []))
compare_shown v o w a b r x y gives t t' h h' =
    two_shown v w w a b r _ (λ p q. bit (holds o p q)) x y gives t t' h h' (λ p q i j. bits_there (p.width == q.width) (bit (holds o p q)) (same_widths w p q i j))

pub shift_shown : (v : Values) (o : Shift) (w u : ℕ) (a b r : Atom) (x y : Value) → GivesTwo v w u (shift_word o) a b r
    → IsOfType (ty.Bits w) x → IsOfType (ty.Bits u) y → ShowsValue v (a ∷ []) x → ShowsValue v (b ∷ []) y → ShowsValue v (r ∷ []) (plain_value (op.Shift o) (x ∷ y ∷ []))
shift_shown v o w u a b r x y gives t t' h h' = two_shown v w u a b r (λ p q. bits_where true (shift_word o p q)) (shift_word o) x y gives t t' h h' (λ p q i j. refl)

pub reduce_shown : (v : Values) (o : Reduce) (w : ℕ) (a r : Atom) (x : Value) → GivesOne v w (reduce_word o) a r
    → IsOfType (ty.Bits w) x → ShowsValue v (a ∷ []) x → ShowsValue v (r ∷ []) (plain_value (op.Reduce o) (x ∷ []))
reduce_shown v o w a r x gives t h = one_shown v w a r (λ p. bits_where true (reduce_word o p)) (reduce_word o) x gives t h (λ p i. refl)

both_le : (m n p q : ℕ) → m ≤ n → p ≤ q → (nat_le m n && nat_le p q) ≡ true
both_le m n p q h k = go (nat_le m n) (nat_le p q) (grind (arith, nat_tests)) (grind (arith, nat_tests))
  where
    go : (s t : Bool) → s ≡ true → t ≡ true → (s && t) ≡ true
    go s t e f = rw (e, f)

pub slice_shown : (v : Values) (w start width : ℕ) (a r : Atom) (x : Value) → GivesOne v w (λ p. bits.slice p start width) a r → 1 ≤ width → start + width ≤ w
    → IsOfType (ty.Bits w) x → ShowsValue v (a ∷ []) x → ShowsValue v (r ∷ []) (of_one (on_word (slice_value start width)) (x ∷ []))
slice_shown v w start width a r x gives some fit t h =
    one_shown v w a r (slice_value start width) (λ p. bits.slice p start width) x gives t h
    (λ p i. bits_there (nat_le 1 width && nat_le (start + width) p.width) (bits.slice p start width) (both_le 1 width (start + width) p.width some (let e = i.fits in omega (arith, e, fit))))

pub dyn_slice_shown : (v : Values) (w u width : ℕ) (a b r : Atom) (x y : Value) → GivesTwo v w u (λ p q. bits.dyn_slice p q width) a b r → 1 ≤ width → width ≤ 128
    → IsOfType (ty.Bits w) x → IsOfType (ty.Bits u) y → ShowsValue v (a ∷ []) x → ShowsValue v (b ∷ []) y → ShowsValue v (r ∷ []) (of_two (on_words (dyn_slice_value width)) (x ∷ y ∷ []))
dyn_slice_shown v w u width a b r x y gives some most t t' h h' =
    two_shown v w u a b r (dyn_slice_value width) (λ p q. bits.dyn_slice p q width) x y gives t t' h h'
    (λ p q i j. bits_there (nat_le 1 width && nat_le width 128) (bits.dyn_slice p q width) (both_le 1 width width 128 some most))

pub extend_shown : (v : Values) (o : Extend) (w width : ℕ) (a r : Atom) (x : Value) → GivesOne v w (λ p. extend_word o p width) a r → w ≤ width → width ≤ 128
    → IsOfType (ty.Bits w) x → ShowsValue v (a ∷ []) x → ShowsValue v (r ∷ []) (longer_value (op.Extend o) width (x ∷ []))
extend_shown v o w width a r x gives longer most t h =
    one_shown v w a r _ (λ p. extend_word o p width) x gives t h
    (λ p i. bits_there (nat_le p.width width && nat_le width 128) (extend_word o p width) (both_le p.width width width 128 (let e = i.fits in omega (arith, e, longer)) most))

-- numbers side by side
record AreJoined (v : Values) (ws : List ℕ) (atoms : List Atom) (vs : List Value) : Type 0 where
  same : joined (map flat_of vs) ≡ joined (map (atom_value v) atoms)
  wide : (joined (map flat_of vs)).width ≡ total_width ws

are_joined : (v : Values) (ws : List ℕ) (atoms : List Atom) (vs : List Value) → ShowWords v ws atoms vs → AreJoined v ws atoms vs
are_joined v [] [] [] h = record { same = refl; wide = refl }
are_joined v [] [] (x ∷ vs) h = absurd h
are_joined v [] (a ∷ atoms) vs h = absurd h
are_joined v (w ∷ ws) [] vs h = absurd h
are_joined v (w ∷ ws) (a ∷ atoms) [] h = absurd h
are_joined v (w ∷ ws) (a ∷ atoms) (x ∷ vs) h =
    let rest = are_joined v ws atoms vs h.2 in
    let s = has_signal v w a x h.0 h.1 in
    let first : flat_of x ≡ atom_value v a = ap flat_of s.is ∙ flat_of-Bits s.word ∙ sym s.carries in
    let width : (flat_of x).width ≡ w = ap (λ u. (flat_of u).width) s.is ∙ ap (λ (u : Word). u.width) (flat_of-Bits s.word) ∙ s.of.fits in
    record {
      same = ap₂ (λ (y low : Word). word (y.width + low.width) (bits.concat y low).value) first rest.same;
      wide = ap₂ (λ m n. m + n) width rest.wide;
    }

pub concat_shown : (v : Values) (ws : List ℕ) (atoms : List Atom) (r : Atom) (vs : List Value) → ShowWords v ws atoms vs → 1 ≤ total_width ws → total_width ws ≤ 128
    → atom_value v r ≡ joined (map (atom_value v) atoms) → ShowsValue v (r ∷ []) (plain_value op.Concat vs)
concat_shown v ws atoms r vs h some most e =
    let j = are_joined v ws atoms vs h in
    let flat : flat_of (Tuple vs) ≡ joined (map flat_of vs) = flat_of-Tuple vs in
    let wide : (flat_of (Tuple vs)).width ≡ total_width ws = ap (λ (x : Word). x.width) flat ∙ j.wide in
    subst (ShowsValue v (r ∷ []))
    (sym (bits_there (nat_le 1 (flat_of (Tuple vs)).width && nat_le (flat_of (Tuple vs)).width 128) (flat_of (Tuple vs))
    (both_le 1 (flat_of (Tuple vs)).width (flat_of (Tuple vs)).width 128 (omega (arith, wide, some)) (omega (arith, wide, most)))))
    (shown_bits v r (flat_of (Tuple vs)) (e ∙ sym (flat ∙ j.same)))

-- ---- a part of a tuple

pub tuple_index_shown : (v : Values) (ts : List Ty) (i : ℕ) (atoms : List Atom) (x : Value) → IsOfType (ty.Tuple ts) x → ShowsValue v atoms x
    → ShowsValue v (get_or (parts_of (leaf_counts ts) atoms) i []) (of_one (on_tuple (element_at i)) (x ∷ []))
tuple_index_shown v ts i atoms x t h =
    let p = tuple_of_type ts x t in
    let parts = tuple_parts_shown v ts p.parts atoms p.each (subst (ShowsValue v atoms) p.is h) in
    subst (ShowsValue v (get_or (parts_of (leaf_counts ts) atoms) i [])) (sym (on_tuple-Tuple (element_at i) x p.parts p.is)) (shown_at v (parts_of (leaf_counts ts) atoms) p.parts i parts)

-- ---- choices

chosen_is : (s : Value) (values : List Value) (cases : List Operand) (default : Option Operand) (n : ℕ) → n < length cases → optional_value s values (chosen cases default n) ≡ get_or (map (operand_value s values) cases) n no_value
chosen_is s values [] default n l = absurd (omega (arith, l))
chosen_is s values (c ∷ cases) default zero l = refl
chosen_is s values (c ∷ cases) default (suc n) l = chosen_is s values cases default n (omega (arith, l))

chosen_past : (s : Value) (values : List Value) (cases : List Operand) (default : Option Operand) (n : ℕ) → length cases ≤ n → optional_value s values (chosen cases default n) ≡ optional_value s values default
chosen_past s values [] default n l = refl
chosen_past s values (c ∷ cases) default zero l = absurd (omega (arith, l))
chosen_past s values (c ∷ cases) default (suc n) l = chosen_past s values cases default n (omega (arith, l))

below_is : (n m : ℕ) (other : Value) (xs : List Value) (goal : Value) → (n < m → get_or xs n no_value ≡ goal) → (m ≤ n → other ≡ goal) → chosen_below n m other xs ≡ goal
below_is n m other xs goal h k = go (nat_lt n m) refl
  where
    less : nat_lt n m ≡ true → n < m
    less e = grind (arith, nat_tests)

    more : nat_lt n m ≡ false → m ≤ n
    more e = grind (arith, nat_tests)

    go : (t : Bool) → nat_lt n m ≡ t → cond t (get_or xs n no_value) other ≡ goal
    go true e = h (less e)
    go false e = k (more e)

rest_chosen : (s : Value) (values : List Value) (cases : List Operand) (default : Option Operand) (w m : ℕ) (other : Value) (n : ℕ) → StandsForRest s values cases default w m other → n < 2 ^ w
    → chosen_below n m other (map (operand_value s values) cases) ≡ optional_value s values (chosen cases default n)
rest_chosen s values cases None w m other n h l =
    let few = h.0 in
    let last = h.1 in
    let inside : n < length cases = omega (arith, l, few) in
    below_is n m other (map (operand_value s values) cases) _ (λ less. sym (chosen_is s values cases None n inside))
    (λ more. let e : m ≡ n = omega (arith, inside, last, more) in h.2 ∙ ap (λ i. get_or (map (operand_value s values) cases) i no_value) e ∙ sym (chosen_is s values cases None n inside))
rest_chosen s values cases (Some d) w m other n h l =
    let all = h.0 in
    below_is n m other (map (operand_value s values) cases) _ (λ less. sym (chosen_is s values cases (Some d) n (omega (arith, less, all))))
    (λ more. h.1 ∙ sym (chosen_past s values cases (Some d) n (omega (arith, more, all))))

pub sel_shown : (v : Values) (w m : ℕ) (a : Atom) (x s : Value) (values : List Value) (cases : List Operand) (default : Option Operand) (other : Value) (result : List Atom)
    → IsOfType (ty.Bits w) x → ShowsValue v (a ∷ []) x → StandsForRest s values cases default w m other
    → ((n : ℕ) → n < 2 ^ w → atom_value v a ≡ word w n → ShowsValue v result (chosen_below n m other (map (operand_value s values) cases)))
    → ShowsValue v result (of_one (on_word (λ (y : Word). optional_value s values (chosen cases default y.value))) (x ∷ []))
sel_shown v w m a x s values cases default other result t h rest shows =
    let g = has_signal v w a x t h in
    let range : g.word.value < 2 ^ w = subst (λ n. g.word.value < 2 ^ n) g.of.fits g.of.word.in_range in
    let carries : atom_value v a ≡ word w g.word.value = g.carries ∙ ap (λ n. word n g.word.value) g.of.fits in
    subst (ShowsValue v result)
    (rest_chosen s values cases default w m other g.word.value rest range ∙ sym (on_word-Bits (λ (y : Word). optional_value s values (chosen cases default y.value)) x g.word g.is))
    (shows g.word.value range carries)

-- ---- elements of arrays

pub array_index_shown : (v : Values) (t : Ty) (count w m : ℕ) (a : Atom) (x i : Value) (atoms : List Atom) (result : List Atom)
    → IsOfType (ty.Array t count) x → IsOfType (ty.Bits w) i → ShowsValue v atoms x → ShowsValue v (a ∷ []) i → m ≤ count - 1 → ((count - 1 ≤ m → ⊥) → 2 ^ w ≤ m)
    → ((n : ℕ) (vs : List Value) → n < 2 ^ w → atom_value v a ≡ word w n → length vs ≡ count → ShowAll v (parts_of (repeated count (length (leaf_widths t) ∷ [])) atoms) vs
    → ShowsValue v result (chosen_below n m (get_or vs (count - 1) no_value) vs))
    → ShowsValue v result (index_value op.ArrayIndex i (x ∷ []))
array_index_shown v t count w m a x i atoms result tx ti h hi few enough shows =
    let p = array_of_type t count x tx in
    let g = has_signal v w a i ti hi in
    let range : g.word.value < 2 ^ w = subst (λ n. g.word.value < 2 ^ n) g.of.fits g.of.word.in_range in
    let carries : atom_value v a ≡ word w g.word.value = g.carries ∙ ap (λ n. word n g.word.value) g.of.fits in
    let parts = array_parts_shown v t p.parts atoms p.all (subst (ShowsValue v atoms) p.is h) in
    let parts' = subst (λ k. ShowAll v (parts_of (repeated k (length (leaf_widths t) ∷ [])) atoms) p.parts) p.count parts in
    subst (ShowsValue v result)
    (below_is g.word.value m (get_or p.parts (count - 1) no_value) p.parts (at_index p.parts g.word)
    (λ less. let e : g.word.value ≡ min g.word.value (length p.parts - 1) = let c = p.count in omega (arith, less, few, c) in ap (λ k. get_or p.parts k no_value) e)
    (λ more. let e : count - 1 ≡ min g.word.value (length p.parts - 1) = let c = p.count in past (count - 1) m (length p.parts - 1) g.word.value (2 ^ w) (omega (arith, c)) more few range enough in ap (λ k. get_or p.parts k no_value) e)
    ∙ sym (on_array-Array (λ xs. on_word (at_index xs) i) x p.parts p.is ∙ on_word-Bits (at_index p.parts) i g.word g.is))
    (shows g.word.value p.parts range carries p.count parts')
  where
    past : (last m k n p : ℕ) → k ≡ last → m ≤ n → m ≤ last → n < p → ((last ≤ m → ⊥) → p ≤ m) → last ≡ min n k
    past last m k n p e l few r enough = go (nat_le last m) refl
      where
        all : nat_le last m ≡ true → last ≤ m
        all h = grind (arith, nat_tests)

        not_all : nat_le last m ≡ false → last ≤ m → ⊥
        not_all h q = grind (arith, nat_tests)

        go : (t : Bool) → nat_le last m ≡ t → last ≡ min n k
        go true h = let q = all h in omega (arith, q, e, l, few)
        go false h = absurd (let q = enough (not_all h) in omega (arith, q, l, r))

-- each element is what it was or the new one
zero_apart : (j : ℕ) → (0 == suc j) ≡ false
zero_apart j = grind (arith, nat_tests)

suc_apart : (n : ℕ) → (suc n == 0) ≡ false
suc_apart n = grind (arith, nat_tests)

suc_same : (n j : ℕ) → (suc n == suc j) ≡ (n == j)
suc_same n j = grind (arith, nat_tests)

-- what the signals of an element show behind an update of that of index n
abbrev ShowUpdated : Values → List (List Atom) → List Value → ℕ → Value → ℕ → Type 0
ShowUpdated v atoms vs n e j = j < length vs → ShowsValue v (get_or atoms j []) (cond (n == j) e (get_or vs j no_value))

others_shown : (v : Values) (atoms : List (List Atom)) (vs : List Value) → length atoms ≡ length vs → ((j : ℕ) → j < length vs → ShowsValue v (get_or atoms j []) (get_or vs j no_value)) → ShowAll v atoms vs
others_shown v [] [] l h = tt
others_shown v [] (x ∷ vs) l h = absurd (omega (arith, l))
others_shown v (a ∷ atoms) [] l h = absurd (omega (arith, l))
others_shown v (a ∷ atoms) (x ∷ vs) l h = (h 0 (omega arith), others_shown v atoms vs (omega (arith, l)) (λ j k. h (suc j) (omega (arith, k))))

updated_shown : (v : Values) (atoms : List (List Atom)) (vs : List Value) (n : ℕ) (e : Value) → length atoms ≡ length vs → ((j : ℕ) → ShowUpdated v atoms vs n e j) → ShowAll v atoms (slice_set vs n e)
updated_shown v [] [] n e l h = tt
updated_shown v [] (x ∷ vs) n e l h = absurd (omega (arith, l))
updated_shown v (a ∷ atoms) [] n e l h = absurd (omega (arith, l))
updated_shown v (a ∷ atoms) (x ∷ vs) zero e l h = (
  h 0 (omega arith),
  others_shown v atoms vs (omega (arith, l)) (λ j k. subst (λ t. ShowsValue v (get_or atoms j []) (cond t e (get_or vs j no_value))) (zero_apart j) (h (suc j) (omega (arith, k)))),
)
updated_shown v (a ∷ atoms) (x ∷ vs) (suc n) e l h = (
  subst (λ t. ShowsValue v a (cond t e x)) (suc_apart n) (h 0 (omega arith)),
  updated_shown v atoms vs n e (omega (arith, l)) (λ j k. subst (λ t. ShowsValue v (get_or atoms j []) (cond t e (get_or vs j no_value))) (suc_same n j) (h (suc j) (omega (arith, k)))),
)

pub array_update_shown : (v : Values) (t : Ty) (count w : ℕ) (a : Atom) (x e i : Value) (atoms : List Atom) (results : List (List Atom))
    → IsOfType (ty.Array t count) x → IsOfType (ty.Bits w) i → ShowsValue v atoms x → ShowsValue v (a ∷ []) i → length results ≡ count
    → ((n j : ℕ) (vs : List Value) → n < 2 ^ w → atom_value v a ≡ word w n → j < count → length vs ≡ count → ShowAll v (parts_of (repeated count (length (leaf_widths t) ∷ [])) atoms) vs
    → ShowsValue v (get_or results j []) (cond (n == j) e (get_or vs j no_value)))
    → ShowsValue v (all_leaves results) (index_value op.ArrayUpdate i (x ∷ e ∷ []))
array_update_shown v t count w a x e i atoms results tx ti h hi few shows =
    let p = array_of_type t count x tx in
    let g = has_signal v w a i ti hi in
    let range : g.word.value < 2 ^ w = subst (λ n. g.word.value < 2 ^ n) g.of.fits g.of.word.in_range in
    let carries : atom_value v a ≡ word w g.word.value = g.carries ∙ ap (λ n. word n g.word.value) g.of.fits in
    let parts = array_parts_shown v t p.parts atoms p.all (subst (ShowsValue v atoms) p.is h) in
    let parts' = subst (λ k. ShowAll v (parts_of (repeated k (length (leaf_widths t) ∷ [])) atoms) p.parts) p.count parts in
    subst (ShowsValue v (all_leaves results)) (sym (on_array-Array (λ xs. on_word (updated e xs) i) x p.parts p.is ∙ on_word-Bits (updated e p.parts) i g.word g.is))
    (array_shown v results (slice_set p.parts g.word.value e)
    (updated_shown v results p.parts g.word.value e (few ∙ sym p.count)
    (λ j l. shows g.word.value j p.parts range carries (subst (λ c. j < c) p.count l) p.count parts')))
