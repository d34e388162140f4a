-- The signals of nodes that choose among values, or take parts of them, show their values.
use Rattle.std.proofs.Common.{◌≡◌, ℕ, zero, suc, ◌+◌, ◌-◌, ◌<◌, ◌≤◌, ◌^◌, min, List, [], ◌∷◌, ◌++◌, map, length, take, drop, get_or, Bool, true, false, ◌&&◌, IsTrue, Option, Result, Ok, Err, Some, None, refl, sym, ap, ap₂, ◌∙◌, subst, arith}
use Rattle.std.specs.Prelude.{IfOk, slice_get, nat_le, nat_lt, cond}
use Rattle.std.specs.List.{AllByRecursion, list_all}
use Rattle.std.proofs.lemmas.Bool.Decides.{nat_tests}
use Rattle.std.proofs.lemmas.List.{append-nil, length-map, length-append}
use Rattle.xb_bits.specs.Word.{Word, word}
use Rattle.xb_value.specs.declared.ty.Ty as ty
use Rattle.xb_value.specs.declared.value.Value.{Value}
use Rattle.xb_value.specs.Typing.{IsOfType}
use Rattle.xb_value.proofs.Lemmas.Typing.{bits_of_type}
use Rattle.delay_model.specs.declared.op.Op.TheVariants as op
use Rattle.delay_model.specs.declared.signature.Count.TheVariants.{Exactly}
use Rattle.delay_model.specs.Signatures.{is_met}
use Rattle.ir_tree.specs.Constants.{no_value}
use Rattle.ir_tree.specs.declared.ir_type.IrType.{IrType, Tuple}
use Rattle.ir_tree.specs.declared.ir_type.IrType.TheViews.{outs-Tuple}
use Rattle.ir_tree.specs.declared.node.Operand.{Operand}
use Rattle.ir_tree.specs.NodeTypes.Types.{is_array_of, is_bits, is_bits_where, is_tuple_where, parts_in, parts_there, same_type, sizes_of}
use Rattle.ir_tree.specs.NodeValues.{operand_value, optional_value}
use Rattle.ir_tree.specs.Operations.{chosen, element_at, index_value, of_one, on_tuple, on_word}
use Rattle.ir_tree.specs.Types.{ty_of, bounded}
use Rattle.ir_tree.proofs.Lemmas.NodeTypes.IrTypes.{ty_of-Tuple}
use Rattle.ir_tree.specs.Rules.Fitting.{type_in, cases_count, defaults, index_fits, is_like, part_is, sel_fits, tuple_index_fits, update_fits}
use Rattle.ir_tree.proofs.Lemmas.Rules.Typed.Checked.{both_true}
use Rattle.ir_tree.proofs.Lemmas.Rules.Typed.Tests.{array_is, bits_is, same_is, tuple_is}
use Rattle.vlog_tree.specs.declared.expression.Atom.{Atom}
use Rattle.vlog_tree.specs.Value.{Values, atom_value}
use Rattle.block_build.specs.declared.netlist.scopes.Number.{Number}
use Rattle.block_build.specs.declared.netlist.scopes.Scope.{Scope}
use Rattle.block_build.specs.declared.netlist.wires.WireList.{WireList}
use Rattle.block_build.specs.Netlist.Added.{AddsWires}
use Rattle.block_build.specs.Netlist.Choices.{chosen_below, CarriesNumber, HaveCount, ShowEach, ShowsChosen, ShowsElement, ShowAllUpdated}
use Rattle.block_build.specs.Netlist.Leaves.{all_leaves, first_or, leaf_counts, leaf_widths, parts_of, repeated, ShowAll, ShowsValue}
use Rattle.block_build.specs.Netlist.Nodes.{optional_read}
use Rattle.block_build.specs.Netlist.Pure.{scope_types, shown_in, operand_width, operand_size, operand_part, first_size, number_in, numbers_below, part_given, IsOperandShown, ShowsOperation, ShowsResult}
use Rattle.block_build.proofs.OnNetlist.OnLeaves.{leaf_widths-Array, nothing_shown, shown_at, signal_count_is}
use Rattle.block_build.proofs.OnNetlist.OnNumbers.{is_number, one_of, two_of, width_bound}
use Rattle.block_build.proofs.OnNetlist.OnResults.{array_index_shown, array_update_shown, sel_shown, tuple_index_shown}

-- ---- a node with one operand, or two, and more that it reads

pub one_operand : (v : Values) (scope : Scope) (os extra : List Operand) (p : Operand) (t : IrType) (fits : List Operand → Bool) (f : Value → List Value → List Value → Value) (own : List Atom) → slice_get os 0 ≡ Some p
    → ShowsResult v scope (p ∷ extra) t (fits (p ∷ [])) (λ s values. f s values (operand_value s values p ∷ [])) own
    → ShowsResult v scope (os ++ extra) t (is_met (Exactly 1) (length os) && fits os) (λ s values. f s values (map (operand_value s values) os)) own
one_operand v scope os extra p t fits f own at shows = λ s values shown fit typed.
    let one = one_of os (both_true (is_met (Exactly 1) (length os)) (fits os) fit).0 in
    let same : one.0 ≡ p = (let e : Some one.0 ≡ Some p = sym (ap (λ us. slice_get us 0) one.1) ∙ at in cc) in
    let are : os ≡ p ∷ [] = one.1 ∙ ap (λ q. q ∷ []) same in
    let claim : ShowsResult v scope (p ∷ extra) t (is_met (Exactly 1) 1 && fits (p ∷ [])) (λ s values. f s values (operand_value s values p ∷ [])) own =
    (λ s values shown fit typed. shows s values shown (both_true (is_met (Exactly 1) 1) (fits (p ∷ [])) fit).1 typed) in
    subst (λ us. ShowsResult v scope (us ++ extra) t (is_met (Exactly 1) (length us) && fits us) (λ s values. f s values (map (operand_value s values) us)) own) (sym are) claim s values shown fit typed

pub no_operand : (v : Values) (scope : Scope) (os extra : List Operand) (t : IrType) (fits : Bool) (value : Value → List Value → Value) (own : List Atom) → slice_get os 0 ≡ None
    → ShowsResult v scope (os ++ extra) t (is_met (Exactly 1) (length os) && fits) value own
no_operand v scope os extra t fits value own at = λ s values shown fit typed.
    let one = one_of os (both_true (is_met (Exactly 1) (length os)) fits fit).0 in
    let never : Some one.0 ≡ None = sym (ap (λ us. slice_get us 0) one.1) ∙ at in
    absurd (cc)

pub two_operands : (v : Values) (scope : Scope) (os extra : List Operand) (p q : Operand) (t : IrType) (fits : List Operand → Bool) (f : Value → List Value → List Value → Value) (own : List Atom) → slice_get os 0 ≡ Some p → slice_get os 1 ≡ Some q
    → ShowsResult v scope (p ∷ q ∷ extra) t (fits (p ∷ q ∷ [])) (λ s values. f s values (operand_value s values p ∷ operand_value s values q ∷ [])) own
    → ShowsResult v scope (os ++ extra) t (is_met (Exactly 2) (length os) && fits os) (λ s values. f s values (map (operand_value s values) os)) own
two_operands v scope os extra p q t fits f own at then shows = λ s values shown fit typed.
    let two = two_of os (both_true (is_met (Exactly 2) (length os)) (fits os) fit).0 in
    let first : two.first ≡ p = (let e : Some two.first ≡ Some p = sym (ap (λ us. slice_get us 0) two.are) ∙ at in cc) in
    let second : two.second ≡ q = (let e : Some two.second ≡ Some q = sym (ap (λ us. slice_get us 1) two.are) ∙ then in cc) in
    let are : os ≡ p ∷ q ∷ [] = two.are ∙ ap₂ (λ a b. a ∷ b ∷ []) first second in
    let claim : ShowsResult v scope (p ∷ q ∷ extra) t (is_met (Exactly 2) 2 && fits (p ∷ q ∷ [])) (λ s values. f s values (operand_value s values p ∷ operand_value s values q ∷ [])) own =
    (λ s values shown fit typed. shows s values shown (both_true (is_met (Exactly 2) 2) (fits (p ∷ q ∷ [])) fit).1 typed) in
    subst (λ us. ShowsResult v scope (us ++ extra) t (is_met (Exactly 2) (length us) && fits us) (λ s values. f s values (map (operand_value s values) us)) own) (sym are) claim s values shown fit typed

pub no_second : (v : Values) (scope : Scope) (os extra : List Operand) (t : IrType) (fits : Bool) (value : Value → List Value → Value) (own : List Atom) → slice_get os 1 ≡ None
    → ShowsResult v scope (os ++ extra) t (is_met (Exactly 2) (length os) && fits) value own
no_second v scope os extra t fits value own at = λ s values shown fit typed.
    let two = two_of os (both_true (is_met (Exactly 2) (length os)) fits fit).0 in
    let never : Some two.second ≡ None = sym (ap (λ us. slice_get us 1) two.are) ∙ at in
    absurd (cc)

-- ---- the number of a selector

pub has_number : (v : Values) (w n : ℕ) (a : Atom) (value : Value) → IsOfType (ty.Bits w) value → n < 2 ^ w → atom_value v a ≡ word w n → CarriesNumber v a w n
has_number v w n a value t l e = let b = bits_of_type w value t in record { some = b.some_width; most = b.most_width; range = l; is = e }

pub all_front : (P : Operand → Type 0) (xs ys : List Operand) → AllByRecursion P (xs ++ ys) → AllByRecursion P xs
all_front P [] ys h = tt
all_front P (x ∷ xs) ys h = (h.0, all_front P xs ys h.1)

pub all_rest : (P : Operand → Type 0) (xs ys : List Operand) → AllByRecursion P (xs ++ ys) → AllByRecursion P ys
all_rest P [] ys h = h
all_rest P (x ∷ xs) ys h = all_rest P xs ys h.1

-- ---- cases

-- an operand of this type has so many signals
like_count : (v : Values) (scope : Scope) (s : Value) (values : List Value) (t : IrType) (o : Operand) → IsTrue (same_type t (type_in (scope_types scope) o))
    → IsOperandShown v scope s values o → length (shown_in scope o) ≡ length (leaf_widths (ty_of t))
like_count v scope s values t o same read =
    signal_count_is v (ty_of t) (shown_in scope o) (operand_value s values o) (subst (λ u. IsOfType (ty_of u) (operand_value s values o)) (sym (same_is t (type_in (scope_types scope) o) same)) read.typed) read.shows

cases_count_is : (v : Values) (scope : Scope) (s : Value) (values : List Value) (t : IrType) (cases : List Operand) → IsTrue (list_all (λ c. same_type t (type_in (scope_types scope) c)) cases)
    → AllByRecursion (IsOperandShown v scope s values) cases → HaveCount (length (leaf_widths (ty_of t))) (map (shown_in scope) cases)
cases_count_is v scope s values t [] same shown i l = absurd (omega (arith, l))
cases_count_is v scope s values t (o ∷ cases) same shown zero l =
    like_count v scope s values t o (both_true (same_type t (type_in (scope_types scope) o)) (list_all (λ c. same_type t (type_in (scope_types scope) c)) cases) same).0 shown.0
cases_count_is v scope s values t (o ∷ cases) same shown (suc i) l =
    cases_count_is v scope s values t cases (both_true (same_type t (type_in (scope_types scope) o)) (list_all (λ c. same_type t (type_in (scope_types scope) c)) cases) same).1 shown.1 i (omega (arith, l))

-- the first cases show the first values
cases_shown : (v : Values) (scope : Scope) (s : Value) (values : List Value) (cases more : List Operand) → AllByRecursion (IsOperandShown v scope s values) cases
    → ShowEach v (map (shown_in scope) cases) (map (operand_value s values) (cases ++ more))
cases_shown v scope s values [] more shown i l = absurd (omega (arith, l))
cases_shown v scope s values (o ∷ cases) more shown zero l = shown.0.shows
cases_shown v scope s values (o ∷ cases) more shown (suc i) l = cases_shown v scope s values cases more shown.1 i (omega (arith, l))

front_like : (scope : Scope) (t : IrType) (cases more : List Operand) → IsTrue (list_all (λ c. same_type t (type_in (scope_types scope) c)) (cases ++ more))
    → IsTrue (list_all (λ c. same_type t (type_in (scope_types scope) c)) cases) × IsTrue (list_all (λ c. same_type t (type_in (scope_types scope) c)) more)
front_like scope t [] more h = (refl, h)
front_like scope t (o ∷ cases) more h =
    let both = both_true (same_type t (type_in (scope_types scope) o)) (list_all (λ c. same_type t (type_in (scope_types scope) c)) (cases ++ more)) h in
    let rest = front_like scope t cases more both.1 in
    (ap (λ b. b && list_all (λ c. same_type t (type_in (scope_types scope) c)) cases) both.0 ∙ rest.0, rest.1)

pub chosen_put : {E : Type 0} (o : Result (List Atom) E) (a c : WireList) (selector : Atom) (bits count : ℕ) (values : List (List Atom)) (other : List Atom) (scope : Scope) (cases : List Operand) (last : Operand) → values ≡ map (shown_in scope) cases
    → other ≡ shown_in scope last → IfOk o (λ own. AddsWires a c (λ v. ShowsChosen v selector bits count values other (length values) own))
    → IfOk o (λ own. AddsWires a c (λ v. ShowsChosen v selector bits count (map (shown_in scope) cases) (shown_in scope last) (length cases) own))
chosen_put (Ok own) a c selector bits count values other scope cases last e k p = λ v h.
    let both = p v h in (
      both.0,
      subst (λ n. ShowsChosen v selector bits count (map (shown_in scope) cases) (shown_in scope last) n own) (ap length e ∙ length-map cases (shown_in scope))
          (subst (λ xs. ShowsChosen v selector bits count xs (shown_in scope last) (length values) own) e (subst (λ x. ShowsChosen v selector bits count values x (length values) own) k both.1)),
    )
chosen_put (Err z) a c selector bits count values other scope cases last e k p = tt

-- how many cases there are, where the selector has so many bits
record FitCases (k w : ℕ) (fewer : Bool) (default : Option Operand) : Type 0 where
  few : k ≤ 2 ^ w
  given : IsTrue (defaults fewer default)
  is : fewer ≡ nat_lt k (2 ^ w)

fit_cases : (k n w : ℕ) (default : Option Operand) → n ≡ w → w ≤ 128 → IsTrue (cases_count k default n) → FitCases k w (nat_lt k (2 ^ min n 128)) default
fit_cases k n w default e most h =
    let whole : min n 128 ≡ w = omega (arith, e, most) in
    let counted = both_true (nat_lt 0 k) (nat_le k (2 ^ min n 128) && defaults (nat_lt k (2 ^ min n 128)) default) h in
    let parts = both_true (nat_le k (2 ^ min n 128)) (defaults (nat_lt k (2 ^ min n 128)) default) counted.1 in
    record { few = subst (λ m. k ≤ 2 ^ m) whole (below k (2 ^ min n 128) parts.0); given = parts.1; is = ap (λ m. nat_lt k (2 ^ m)) whole }
  where
    below : (m n : ℕ) → IsTrue (nat_le m n) → m ≤ n
    below m n h = grind (arith, nat_tests, h)

pub selected_some : (v : Values) (scope : Scope) (selector : Operand) (t : IrType) (cases : List Operand) (d : Operand) (own : List Atom)
    → ShowsChosen v (first_or (shown_in scope selector)) (operand_width scope selector) (length (leaf_widths (ty_of t))) (map (shown_in scope) cases) (shown_in scope d) (length cases) own
    → ShowsResult v scope (selector ∷ cases ++ d ∷ []) t (sel_fits cases (Some d) (scope_types scope) (selector ∷ []) t)
    (λ s values. of_one (on_word (λ (x : Word). optional_value s values (chosen cases (Some d) x.value))) (operand_value s values selector ∷ [])) own
selected_some v scope selector t cases d own picks = λ s values shown fit typed.
    let both = both_true (list_all (λ o. is_bits_where (cases_count (length cases) (Some d)) (type_in (scope_types scope) o)) (selector ∷ [])) (list_all (λ c. same_type t (type_in (scope_types scope) c)) cases && is_like (scope_types scope) t (Some d)) fit in
    let alike = both_true (list_all (λ c. same_type t (type_in (scope_types scope) c)) cases) (is_like (scope_types scope) t (Some d)) both.1 in
    let first = both_true (is_bits_where (cases_count (length cases) (Some d)) (type_in (scope_types scope) selector)) true both.0 in
    let b = bits_is (cases_count (length cases) (Some d)) (type_in (scope_types scope) selector) first.0 in
    let x = is_number v scope s values selector b.width b.is shown.0 in
    let wide = width_bound (operand_width scope selector) b.width (operand_value s values selector) x.typed x.width in
    let k = fit_cases (length cases) b.width (operand_width scope selector) (Some d) wide.0 wide.1 b.test in
    let given = all_front (IsOperandShown v scope s values) cases (d ∷ []) shown.1 in
    let stands = (all_rest (IsOperandShown v scope s values) cases (d ∷ []) shown.1).0 in
    let few : length (map (shown_in scope) cases) ≤ 2 ^ operand_width scope selector = subst (λ n. n ≤ 2 ^ operand_width scope selector) (sym (length-map cases (shown_in scope))) k.few in
    let each = subst (λ xs. ShowEach v (map (shown_in scope) cases) (map (operand_value s values) xs)) (append_none cases) (cases_shown v scope s values cases [] given) in
    sel_shown v (operand_width scope selector) (length cases) (first_or (shown_in scope selector)) (operand_value s values selector) s values cases (Some d) (operand_value s values d) own x.typed x.shows (refl, refl)
    (λ n l e. picks n (map (operand_value s values) cases) (operand_value s values d) (has_number v (operand_width scope selector) n (first_or (shown_in scope selector)) (operand_value s values selector) x.typed l e) few
    (cases_count_is v scope s values t cases alike.0 given) (like_count v scope s values t d alike.1 stands) each stands.shows)
  where
    append_none : (xs : List Operand) → xs ++ [] ≡ xs
    append_none [] = refl
    append_none (x ∷ xs) = ap (λ ys. x ∷ ys) (append_none xs)

last_at : (f : Operand → Value) (cases : List Operand) (last : Operand) → f last ≡ get_or (map f (cases ++ last ∷ [])) (length cases) no_value
last_at f [] last = refl
last_at f (o ∷ cases) last = last_at f cases last

pub selected_last : (v : Values) (scope : Scope) (selector : Operand) (t : IrType) (cases : List Operand) (last : Operand) (own : List Atom)
    → ShowsChosen v (first_or (shown_in scope selector)) (operand_width scope selector) (length (leaf_widths (ty_of t))) (map (shown_in scope) cases) (shown_in scope last) (length cases) own
    → ShowsResult v scope (selector ∷ (cases ++ last ∷ []) ++ []) t (sel_fits (cases ++ last ∷ []) None (scope_types scope) (selector ∷ []) t)
    (λ s values. of_one (on_word (λ (x : Word). optional_value s values (chosen (cases ++ last ∷ []) None x.value))) (operand_value s values selector ∷ [])) own
selected_last v scope selector t cases last own picks = λ s values shown fit typed.
    let all = cases ++ last ∷ [] in
    let both = both_true (list_all (λ o. is_bits_where (cases_count (length all) None) (type_in (scope_types scope) o)) (selector ∷ [])) (list_all (λ c. same_type t (type_in (scope_types scope) c)) all && is_like (scope_types scope) t None) fit in
    let alike = both_true (list_all (λ c. same_type t (type_in (scope_types scope) c)) all) (is_like (scope_types scope) t None) both.1 in
    let like = front_like scope t cases (last ∷ []) alike.0 in
    let like_last = (both_true (same_type t (type_in (scope_types scope) last)) true like.1).0 in
    let first = both_true (is_bits_where (cases_count (length all) None) (type_in (scope_types scope) selector)) true both.0 in
    let b = bits_is (cases_count (length all) None) (type_in (scope_types scope) selector) first.0 in
    let x = is_number v scope s values selector b.width b.is shown.0 in
    let wide = width_bound (operand_width scope selector) b.width (operand_value s values selector) x.typed x.width in
    let k = fit_cases (length all) b.width (operand_width scope selector) None wide.0 wide.1 b.test in
    let read = all_front (IsOperandShown v scope s values) all [] shown.1 in
    let given = all_front (IsOperandShown v scope s values) cases (last ∷ []) read in
    let stands = (all_rest (IsOperandShown v scope s values) cases (last ∷ []) read).0 in
    let count : length all ≡ suc (length cases) = (let e = length-append cases (last ∷ []) in omega (arith, e)) in
    let enough : 2 ^ operand_width scope selector ≤ length all = past (length all) (2 ^ operand_width scope selector) (nat_lt (length all) (2 ^ min b.width 128)) k.given k.is in
    let few : length (map (shown_in scope) cases) ≤ 2 ^ operand_width scope selector = (let l = k.few in let m = length-map cases (shown_in scope) in omega (arith, l, m, count)) in
    sel_shown v (operand_width scope selector) (length cases) (first_or (shown_in scope selector)) (operand_value s values selector) s values all None (operand_value s values last) own x.typed x.shows
    (enough, sym count, last_at (operand_value s values) cases last)
    (λ n l e. picks n (map (operand_value s values) all) (operand_value s values last) (has_number v (operand_width scope selector) n (first_or (shown_in scope selector)) (operand_value s values selector) x.typed l e) few
    (cases_count_is v scope s values t cases like.0 given) (like_count v scope s values t last like_last stands) (cases_shown v scope s values cases (last ∷ []) given) stands.shows)
  where
    past : (m n : ℕ) (fewer : Bool) → IsTrue (defaults fewer None) → fewer ≡ nat_lt m n → n ≤ m
    past m n true h e = absurd (cc)
    past m n false h e = grind (arith, nat_tests, e)

-- ---- a part of a tuple

pub part_shown : (v : Values) (scope : Scope) (tuple : Operand) (i : ℕ) (t : IrType) (own : List Atom) → own ≡ operand_part scope tuple i
    → ShowsResult v scope (tuple ∷ []) t (tuple_index_fits i (scope_types scope) (tuple ∷ []) t) (λ s values. of_one (on_tuple (element_at i)) (operand_value s values tuple ∷ [])) own
part_shown v scope tuple i t own is = λ s values shown fit typed.
    let first = both_true (is_tuple_where (part_is i t) (type_in (scope_types scope) tuple)) true fit in
    let r = tuple_is (part_is i t) (type_in (scope_types scope) tuple) first.0 in
    let typed_tuple : IsOfType (ty.Tuple (map ty_of r.parts)) (operand_value s values tuple) = subst (λ u. IsOfType u (operand_value s values tuple)) (ap ty_of r.is ∙ ty_of-Tuple r.parts []) shown.0.typed in
    let same : own ≡ get_or (parts_of (leaf_counts (map ty_of r.parts)) (shown_in scope tuple)) i [] =
    is ∙ ap (λ u. part_given (shown_in scope tuple) i (parts_in u)) r.is ∙ ap (λ y. part_given (shown_in scope tuple) i (parts_there y)) (outs-Tuple r.parts []) in
    subst (λ atoms. ShowsValue v atoms (of_one (on_tuple (element_at i)) (operand_value s values tuple ∷ []))) (sym same)
    (tuple_index_shown v (map ty_of r.parts) i (shown_in scope tuple) (operand_value s values tuple) typed_tuple shown.0.shows)

-- ---- an element of an array

take_front : {A : Type 0} (n i : ℕ) (xs : List A) (d : A) → i < length (take n xs) → get_or (take n xs) i d ≡ get_or xs i d
take_front zero i xs d l = absurd (omega (arith, l))
take_front (suc n) i [] d l = refl
take_front (suc n) zero (x ∷ xs) d l = refl
take_front (suc n) (suc i) (x ∷ xs) d l = take_front n i xs d (omega (arith, l))

take_length : {A : Type 0} (n : ℕ) (xs : List A) → n ≤ length xs → length (take n xs) ≡ n
take_length zero xs l = refl
take_length (suc n) [] l = absurd (omega (arith, l))
take_length (suc n) (x ∷ xs) l = ap suc (take_length n xs (omega (arith, l)))

append_front : {A : Type 0} (xs ys : List A) (i : ℕ) (d : A) → i < length xs → get_or (xs ++ ys) i d ≡ get_or xs i d
append_front [] ys i d l = absurd (omega (arith, l))
append_front (x ∷ xs) ys zero d l = refl
append_front (x ∷ xs) ys (suc i) d l = append_front xs ys i d (omega (arith, l))

append_last : {A : Type 0} (xs : List A) (x : A) (d : A) → get_or (xs ++ x ∷ []) (length xs) d ≡ x
append_last [] x d = refl
append_last (y ∷ xs) x d = append_last xs x d

pub element_put : {E : Type 0} (o : Result (List Atom) E) (a c : WireList) (selector : Atom) (bits count : ℕ) (elements : List (List Atom)) (last : List Atom) (m : ℕ) → m ≡ numbers_below bits (length elements)
    → IfOk o (λ own. AddsWires a c (λ v. ShowsChosen v selector bits count (take m elements) last (length (take m elements)) own))
    → IfOk o (λ own. AddsWires a c (λ v. ShowsElement v selector bits count (elements ++ last ∷ []) own))
element_put (Ok own) a c selector bits count elements last m is p = λ v h.
    let both = p v h in
    let within : m ≤ length elements = omega (arith, is) in
    let most : m ≤ 2 ^ bits = omega (arith, is) in
    let length_is : length (take m elements) ≡ m = take_length m elements within in
    let whole : length (elements ++ last ∷ []) ≡ suc (length elements) = (let e = length-append elements (last ∷ []) in omega (arith, e)) in
    let index : length (elements ++ last ∷ []) - 1 ≡ length elements = omega (arith, whole) in (
      both.0,
      λ n xs has same counts each.
          let at_last = append_last elements last [] in
          let in_all : length elements < length (elements ++ last ∷ []) = omega (arith, whole) in
          let few : length (take m elements) ≤ 2 ^ bits = omega (arith, length_is, most) in
          let there : (i : ℕ) → i < length (take m elements) → get_or (take m elements) i [] ≡ get_or (elements ++ last ∷ []) i [] =
          (λ i l. take_front m i elements [] l ∙ sym (append_front elements (last ∷ []) i [] (inside i (length (take m elements)) m (length elements) l length_is within))) in
          let counted : HaveCount count (take m elements) =
          (λ i l. ap length (there i l) ∙ counts i (within_all i (length (take m elements)) m (length elements) (length (elements ++ last ∷ [])) l length_is within whole)) in
          let each_taken : ShowEach v (take m elements) xs =
          (λ i l. subst (λ atoms. ShowsValue v atoms (get_or xs i no_value)) (sym (there i l)) (each i (within_all i (length (take m elements)) m (length elements) (length (elements ++ last ∷ [])) l length_is within whole))) in
          let step = both.1 n xs (get_or xs (length elements) no_value) has few counted (ap length (sym at_last) ∙ counts (length elements) in_all) each_taken
          (subst (λ atoms. ShowsValue v atoms (get_or xs (length elements) no_value)) at_last (each (length elements) in_all)) in
          subst (λ k. ShowsValue v own (chosen_below n (min k (2 ^ bits)) (get_or xs k no_value) xs)) (sym index)
          (subst (λ k. ShowsValue v own (chosen_below n k (get_or xs (length elements) no_value) xs)) (length_is ∙ is) step),
    )
  where
    inside : (i k m n : ℕ) → i < k → k ≡ m → m ≤ n → i < n
    inside i k m n l e f = omega (arith, l, e, f)

    within_all : (i j m n k : ℕ) → i < j → j ≡ m → m ≤ n → k ≡ suc n → i < k
    within_all i j m n k l e f g = omega (arith, l, e, f, g)
element_put (Err z) a c selector bits count elements last m is p = tt

pub no_element : (v : Values) (selector : Atom) (bits count : ℕ) (own : List Atom) → own ≡ [] → ShowsElement v selector bits count [] own
no_element v selector bits count own is = λ n xs has same counts each.
    let none : xs ≡ [] = empty xs same in
    subst (λ atoms. ShowsValue v atoms (chosen_below n (min (0 - 1) (2 ^ bits)) (get_or xs (0 - 1) no_value) xs)) (sym is)
    (subst (λ ys. ShowsValue v [] (chosen_below n (min (0 - 1) (2 ^ bits)) (get_or ys (0 - 1) no_value) ys)) (sym none) (nothing v (nat_lt n (min (0 - 1) (2 ^ bits)))))
  where
    empty : (xs : List Value) → length xs ≡ 0 → xs ≡ []
    empty [] e = refl
    empty (x ∷ xs) e = absurd (omega (arith, e))

    nothing : (v : Values) (t : Bool) → ShowsValue v [] (cond t no_value no_value)
    nothing v true = nothing_shown v
    nothing v false = nothing_shown v

-- so many elements, each with so many signals
repeated_length : {A : Type 0} (n : ℕ) (x : A) → length (repeated n (x ∷ [])) ≡ n
repeated_length zero x = refl
repeated_length (suc n) x = ap suc (repeated_length n x)

parts_length : {A : Type 0} (ns : List ℕ) (xs : List A) → length (parts_of ns xs) ≡ length ns
parts_length [] xs = refl
parts_length (n ∷ ns) xs = ap suc (parts_length ns (drop n xs))

pub elements_length : (n k : ℕ) (atoms : List Atom) → length (parts_of (repeated n (k ∷ [])) atoms) ≡ n
elements_length n k atoms = parts_length (repeated n (k ∷ [])) atoms ∙ repeated_length n k

drop_length : {A : Type 0} (n : ℕ) (xs : List A) → length (drop n xs) ≡ length xs - n
drop_length zero xs = omega arith
drop_length (suc n) [] = omega arith
drop_length (suc n) (x ∷ xs) = let e = drop_length n xs in omega (arith, e)

elements_count : (n : ℕ) (ws : List ℕ) (atoms : List Atom) → length atoms ≡ length (repeated n ws) → HaveCount (length ws) (parts_of (repeated n (length ws ∷ [])) atoms)
elements_count zero ws atoms e i l = absurd (omega (arith, l))
elements_count (suc n) ws atoms e zero l = let a = length-append ws (repeated n ws) in take_length (length ws) atoms (omega (arith, e, a))
elements_count (suc n) ws atoms e (suc i) l =
    let a = length-append ws (repeated n ws) in
    let d = drop_length (length ws) atoms in
    elements_count n ws (drop (length ws) atoms) (omega (arith, e, a, d)) i (omega (arith, l))

all_each : (v : Values) (atoms : List (List Atom)) (xs : List Value) → ShowAll v atoms xs → ShowEach v atoms xs
all_each v atoms xs h i l = shown_at v atoms xs i h

size_is : (scope : Scope) (o : Operand) (n : ℕ) (inner : List ℕ) → sizes_of (type_in (scope_types scope) o) ≡ n ∷ inner → operand_size scope o ≡ bounded n
size_is scope o n inner e = ap (λ ns. bounded (first_size ns)) e

pub element_shown : (v : Values) (scope : Scope) (array index : Operand) (t : IrType) (own : List Atom)
    → ShowsElement v (first_or (shown_in scope index)) (operand_width scope index) (length (leaf_widths (ty_of t))) (parts_of (repeated (operand_size scope array) (length (leaf_widths (ty_of t)) ∷ [])) (shown_in scope array)) own
    → ShowsResult v scope (array ∷ index ∷ []) t (index_fits op.ArrayIndex index (scope_types scope) (array ∷ []) t)
    (λ s values. index_value op.ArrayIndex (operand_value s values index) (operand_value s values array ∷ [])) own
element_shown v scope array index t own picks = λ s values shown fit typed.
    let both = both_true (is_bits (type_in (scope_types scope) index)) (list_all (λ o. is_array_of (type_in (scope_types scope) o) t) (array ∷ [])) fit in
    let first = both_true (is_array_of (type_in (scope_types scope) array) t) true both.1 in
    let r = array_is (type_in (scope_types scope) array) t first.0 in
    let b = bits_is (λ w. true) (type_in (scope_types scope) index) both.0 in
    let x = is_number v scope s values index b.width b.is shown.1.0 in
    let size : operand_size scope array ≡ bounded r.count = size_is scope array r.count r.inner r.sizes in
    let typed_array : IsOfType (ty.Array (ty_of t) (operand_size scope array)) (operand_value s values array) =
    subst (λ u. IsOfType u (operand_value s values array)) (r.is ∙ ap (ty.Array (ty_of t)) (sym size)) shown.0.typed in
    let atoms = shown_in scope array in
    let count = operand_size scope array in
    let ws = leaf_widths (ty_of t) in
    let parts = parts_of (repeated count (length ws ∷ [])) atoms in
    let many : length parts ≡ count = elements_length count (length ws) atoms in
    let whole : length atoms ≡ length (repeated count ws) = signal_count_is v (ty.Array (ty_of t) count) atoms (operand_value s values array) typed_array shown.0.shows ∙ ap length (leaf_widths-Array (ty_of t) count) in
    array_index_shown v (ty_of t) count (operand_width scope index) (min (count - 1) (2 ^ operand_width scope index)) (first_or (shown_in scope index)) (operand_value s values array) (operand_value s values index) atoms own
    typed_array x.typed shown.0.shows x.shows (omega arith) (enough (count - 1) (2 ^ operand_width scope index))
    (λ n vs l e same all.
    subst (λ k. ShowsValue v own (chosen_below n (min (k - 1) (2 ^ operand_width scope index)) (get_or vs (k - 1) no_value) vs)) many
    (picks n vs (has_number v (operand_width scope index) n (first_or (shown_in scope index)) (operand_value s values index) x.typed l e) (same ∙ sym many) (elements_count count ws atoms whole) (all_each v parts vs all)))
  where
    enough : (m n : ℕ) → (m ≤ min m n → ⊥) → n ≤ min m n
    enough m n h = go (nat_le m n) refl
      where
        go : (t : Bool) → nat_le m n ≡ t → n ≤ min m n
        go true e = absurd (h (let l : m ≤ n = grind (arith, nat_tests, e) in omega (arith, l)))
        go false e = let l : n ≤ m = grind (arith, nat_tests, e) in omega (arith, l)

-- ---- an array with another element

pub updated_shown : (v : Values) (scope : Scope) (array element index : Operand) (t : IrType) (results : List (List Atom)) (own : List Atom)
    → ShowAllUpdated v (first_or (shown_in scope index)) (operand_width scope index) (length (leaf_widths (ty_of (type_in (scope_types scope) element)))) (shown_in scope element)
    (parts_of (repeated (operand_size scope array) (length (leaf_widths (ty_of (type_in (scope_types scope) element))) ∷ [])) (shown_in scope array)) results
    → length results ≡ length (parts_of (repeated (operand_size scope array) (length (leaf_widths (ty_of (type_in (scope_types scope) element))) ∷ [])) (shown_in scope array)) → own ≡ all_leaves results
    → ShowsResult v scope (array ∷ element ∷ index ∷ []) t (index_fits op.ArrayUpdate index (scope_types scope) (array ∷ element ∷ []) t)
    (λ s values. index_value op.ArrayUpdate (operand_value s values index) (operand_value s values array ∷ operand_value s values element ∷ [])) own
updated_shown v scope array element index t results own shows length_is is = λ s values shown fit typed.
    let both = both_true (is_bits (type_in (scope_types scope) index)) (update_fits (scope_types scope) (array ∷ element ∷ []) t) fit in
    let alike = both_true (same_type t (type_in (scope_types scope) array)) (list_all (λ e. is_array_of t (type_in (scope_types scope) e)) (element ∷ [])) both.1 in
    let second = both_true (is_array_of t (type_in (scope_types scope) element)) true alike.1 in
    let u = type_in (scope_types scope) element in
    let r = array_is t u second.0 in
    let same_array : t ≡ type_in (scope_types scope) array = same_is t (type_in (scope_types scope) array) alike.0 in
    let b = bits_is (λ w. true) (type_in (scope_types scope) index) both.0 in
    let x = is_number v scope s values index b.width b.is shown.1.1.0 in
    let size : operand_size scope array ≡ bounded r.count = size_is scope array r.count r.inner (ap sizes_of (sym same_array) ∙ r.sizes) in
    let typed_array : IsOfType (ty.Array (ty_of u) (operand_size scope array)) (operand_value s values array) =
    subst (λ y. IsOfType y (operand_value s values array)) (ap ty_of (sym same_array) ∙ r.is ∙ ap (ty.Array (ty_of u)) (sym size)) shown.0.typed in
    let atoms = shown_in scope array in
    let count = operand_size scope array in
    let ws = leaf_widths (ty_of u) in
    let parts = parts_of (repeated count (length ws ∷ [])) atoms in
    let many : length results ≡ count = length_is ∙ elements_length count (length ws) atoms in
    let whole : length atoms ≡ length (repeated count ws) = signal_count_is v (ty.Array (ty_of u) count) atoms (operand_value s values array) typed_array shown.0.shows ∙ ap length (leaf_widths-Array (ty_of u) count) in
    let one : length (shown_in scope element) ≡ length ws = signal_count_is v (ty_of u) (shown_in scope element) (operand_value s values element) shown.1.0.typed shown.1.0.shows in
    subst (λ atoms. ShowsValue v atoms (index_value op.ArrayUpdate (operand_value s values index) (operand_value s values array ∷ operand_value s values element ∷ []))) (sym is)
    (array_update_shown v (ty_of u) count (operand_width scope index) (first_or (shown_in scope index)) (operand_value s values array) (operand_value s values element) (operand_value s values index) atoms results
    typed_array x.typed shown.0.shows x.shows many
    (λ n j vs l e less same all.
    shows n j (operand_value s values element) vs (has_number v (operand_width scope index) n (first_or (shown_in scope index)) (operand_value s values index) x.typed l e) one (elements_count count ws atoms whole)
    shown.1.0.shows (all_each v parts vs all) (subst (λ k. j < k) (sym many) less)))

-- ---- what is put for them

-- the front of a list and its last item
at_last : {A : Type 0} (k : ℕ) (xs : List A) (x : A) → length xs ≡ suc k → x ≡ get_or xs k x → xs ≡ take k xs ++ x ∷ []
at_last zero [] x e is = absurd (omega (arith, e))
at_last zero (y ∷ []) x e is = ap (λ z. z ∷ []) (sym is)
at_last zero (y ∷ z ∷ ys) x e is = absurd (omega (arith, e))
at_last (suc k) [] x e is = absurd (omega (arith, e))
at_last (suc k) (y ∷ ys) x e is = ap (λ zs. y ∷ zs) (at_last k ys x (omega (arith, e)) is)

split_last : {A : Type 0} (xs : List A) (x : A) → 1 ≤ length xs → x ≡ get_or xs (length xs - 1) x → xs ≡ take (length xs - 1) xs ++ x ∷ []
split_last xs x some is = at_last (length xs - 1) xs x (omega (arith, some)) is

no_items : {A : Type 0} (xs : List A) → length xs < 1 → xs ≡ []
no_items [] l = refl
no_items (x ∷ xs) l = absurd (omega (arith, l))

pub element_last : {E : Type 0} (o : Result (List Atom) E) (a c : WireList) (selector : Atom) (bits count : ℕ) (elements : List (List Atom)) (item last : List Atom) (m : ℕ) → 1 ≤ length elements → item ≡ get_or elements (length elements - 1) item → last ≡ item
    → m ≡ numbers_below bits (length (take (length elements - 1) elements))
    → IfOk o (λ own. AddsWires a c (λ v. ShowsChosen v selector bits count (take m (take (length elements - 1) elements)) last (length (take m (take (length elements - 1) elements))) own))
    → IfOk o (λ own. AddsWires a c (λ v. ShowsElement v selector bits count elements own))
element_last o a c selector bits count elements item last m some is same e p =
    subst (λ xs. IfOk o (λ own. AddsWires a c (λ v. ShowsElement v selector bits count xs own))) (sym (split_last elements item some is ∙ ap (λ x. take (length elements - 1) elements ++ x ∷ []) (sym same)))
    (element_put o a c selector bits count (take (length elements - 1) elements) last m e p)

pub no_elements : (a : WireList) (selector : Atom) (bits count : ℕ) (elements : List (List Atom)) (own : List Atom) → length elements < 1 → own ≡ [] → AddsWires a a (λ v. ShowsElement v selector bits count elements own)
no_elements a selector bits count elements own l is = λ v h. (h, subst (λ xs. ShowsElement v selector bits count xs own) (sym (no_items elements l)) (no_element v selector bits count own is))

-- the elements of an array, by what the code read
elements_by : (scope : Scope) (array : Operand) (us vs : List ℕ) (each : ℕ) (es elements : List (List Atom)) → us ≡ vs → each ≡ length us → es ≡ elements → elements ≡ parts_of (repeated (operand_size scope array) (each ∷ [])) (shown_in scope array)
    → es ≡ parts_of (repeated (operand_size scope array) (length vs ∷ [])) (shown_in scope array)
elements_by scope array us vs each es elements u e f is = f ∙ is ∙ ap (λ k. parts_of (repeated (operand_size scope array) (k ∷ [])) (shown_in scope array)) (e ∙ ap length u)

pub element_of : {E : Type 0} (o : Result (List Atom) E) (a c : WireList) (scope : Scope) (array index : Operand) (t : IrType) (x : Number) (ws us : List ℕ) (each : ℕ) (es elements : List (List Atom)) → x ≡ number_in scope (Some index)
    → ws ≡ us → us ≡ leaf_widths (ty_of t) → each ≡ length us → es ≡ elements → elements ≡ parts_of (repeated (operand_size scope array) (each ∷ [])) (shown_in scope array)
    → IfOk o (λ own. AddsWires a c (λ v. ShowsElement v x.atom x.width (length ws) es own))
    → IfOk o (λ own. AddsWires a c (λ v. ShowsResult v scope (array ∷ index ∷ []) t (index_fits op.ArrayIndex index (scope_types scope) (array ∷ []) t)
    (λ s values. index_value op.ArrayIndex (operand_value s values index) (operand_value s values array ∷ [])) own))
element_of (Ok own) a c scope array index t x ws us each es elements number w u e f is p = λ v h.
    let both = p v h in (
      both.0,
      element_shown v scope array index t own
          (subst (λ ys. ShowsElement v (first_or (shown_in scope index)) (operand_width scope index) (length (leaf_widths (ty_of t))) ys own) (elements_by scope array us (leaf_widths (ty_of t)) each es elements u e f is)
          (subst (λ k. ShowsElement v (first_or (shown_in scope index)) (operand_width scope index) k es own) (ap length (w ∙ u))
          (subst (λ (y : Number). ShowsElement v y.atom y.width (length ws) es own) number both.1))),
    )
element_of (Err z) a c scope array index t x ws us each es elements number w u e f is p = tt

pub updated_of : {E : Type 0} (o : Result (List Atom) E) (a c : WireList) (scope : Scope) (array element index : Operand) (x : Number) (ws us : List ℕ) (each : ℕ) (es elements : List (List Atom)) (atoms new : List Atom) (rs results : List (List Atom))
    → x ≡ number_in scope (Some index) → ws ≡ us → us ≡ leaf_widths (ty_of (type_in (scope_types scope) element)) → each ≡ length us → es ≡ elements → elements ≡ parts_of (repeated (operand_size scope array) (each ∷ [])) (shown_in scope array)
    → atoms ≡ new → new ≡ shown_in scope element → rs ≡ results → length results ≡ length es → AddsWires a c (λ v. ShowAllUpdated v x.atom x.width (length ws) atoms es results) → IfOk o (λ own. own ≡ all_leaves rs)
    → IfOk o (λ own. AddsWires a c (λ v. (t : IrType) → ShowsResult v scope (array ∷ element ∷ index ∷ []) t (index_fits op.ArrayUpdate index (scope_types scope) (array ∷ element ∷ []) t)
    (λ s values. index_value op.ArrayUpdate (operand_value s values index) (operand_value s values array ∷ operand_value s values element ∷ [])) own))
updated_of (Ok own) a c scope array element index x ws us each es elements atoms new rs results number w u e f is g n r count shows own_is = λ v h.
    let both = shows v h in
    let vs = leaf_widths (ty_of (type_in (scope_types scope) element)) in
    let here = elements_by scope array us vs each es elements u e f is in (
      both.0,
      λ t.
          updated_shown v scope array element index t results own
          (subst (λ ys. ShowAllUpdated v (first_or (shown_in scope index)) (operand_width scope index) (length vs) (shown_in scope element) ys results) here
          (subst (λ zs. ShowAllUpdated v (first_or (shown_in scope index)) (operand_width scope index) (length vs) zs es results) (g ∙ n)
          (subst (λ k. ShowAllUpdated v (first_or (shown_in scope index)) (operand_width scope index) k atoms es results) (ap length (w ∙ u))
          (subst (λ (y : Number). ShowAllUpdated v y.atom y.width (length ws) atoms es results) number both.1))))
          (count ∙ ap length here) (own_is ∙ ap all_leaves r),
    )
updated_of (Err z) a c scope array element index x ws us each es elements atoms new rs results number w u e f is g n r count shows own_is = tt

-- what a selection promises
abbrev pub ShowsSelected : Values → Scope → Operand → IrType → List Operand → Option Operand → List Atom → Type 0
ShowsSelected v scope selector t cases default own =
    ShowsResult v scope (selector ∷ cases ++ optional_read default) t (sel_fits cases default (scope_types scope) (selector ∷ []) t)
    (λ s values. of_one (on_word (λ (x : Word). optional_value s values (chosen cases default x.value))) (operand_value s values selector ∷ [])) own

chosen_by : (v : Values) (scope : Scope) (selector : Operand) (t : IrType) (x : Number) (ws us : List ℕ) (values : List (List Atom)) (other : List Atom) (n : ℕ) (own : List Atom) → x ≡ number_in scope (Some selector) → ws ≡ us → us ≡ leaf_widths (ty_of t)
    → ShowsChosen v x.atom x.width (length ws) values other n own → ShowsChosen v (first_or (shown_in scope selector)) (operand_width scope selector) (length (leaf_widths (ty_of t))) values other n own
chosen_by v scope selector t x ws us values other n own number w u p =
    subst (λ k. ShowsChosen v (first_or (shown_in scope selector)) (operand_width scope selector) k values other n own) (ap length (w ∙ u))
    (subst (λ (y : Number). ShowsChosen v y.atom y.width (length ws) values other n own) number p)

pub selected_given : {E : Type 0} (o : Result (List Atom) E) (a c : WireList) (scope : Scope) (selector : Operand) (t : IrType) (cases : List Operand) (default : Option Operand) (d : Operand) (x : Number) (ws us : List ℕ) → default ≡ Some d
    → x ≡ number_in scope (Some selector) → ws ≡ us → us ≡ leaf_widths (ty_of t)
    → IfOk o (λ own. AddsWires a c (λ v. ShowsChosen v x.atom x.width (length ws) (map (shown_in scope) cases) (shown_in scope d) (length cases) own)) → IfOk o (λ own. AddsWires a c (λ v. ShowsSelected v scope selector t cases default own))
selected_given (Ok own) a c scope selector t cases default d x ws us given number w u p = λ v h.
    let both = p v h in (
      both.0,
      subst (λ q. ShowsSelected v scope selector t cases q own) (sym given)
          (selected_some v scope selector t cases d own (chosen_by v scope selector t x ws us (map (shown_in scope) cases) (shown_in scope d) (length cases) own number w u both.1)),
    )
selected_given (Err z) a c scope selector t cases default d x ws us given number w u p = tt

pub selected_by_last : {E : Type 0} (o : Result (List Atom) E) (a c : WireList) (scope : Scope) (selector : Operand) (t : IrType) (cases : List Operand) (default : Option Operand) (item : Operand) (x : Number) (ws us : List ℕ) → default ≡ None
    → 1 ≤ length cases → item ≡ get_or cases (length cases - 1) item → x ≡ number_in scope (Some selector) → ws ≡ us → us ≡ leaf_widths (ty_of t)
    → IfOk o (λ own. AddsWires a c (λ v. ShowsChosen v x.atom x.width (length ws) (map (shown_in scope) (take (length cases - 1) cases)) (shown_in scope item) (length (take (length cases - 1) cases)) own))
    → IfOk o (λ own. AddsWires a c (λ v. ShowsSelected v scope selector t cases default own))
selected_by_last (Ok own) a c scope selector t cases default item x ws us none some is number w u p = λ v h.
    let both = p v h in
    let front = take (length cases - 1) cases in (
      both.0,
      subst (λ q. ShowsSelected v scope selector t cases q own) (sym none) (subst (λ cs. ShowsSelected v scope selector t cs None own) (sym (split_last cases item some is))
          (selected_last v scope selector t front item own (chosen_by v scope selector t x ws us (map (shown_in scope) front) (shown_in scope item) (length front) own number w u both.1))),
    )
selected_by_last (Err z) a c scope selector t cases default item x ws us none some is number w u p = tt

below : (m n : ℕ) → IsTrue (nat_lt m n) → m < n
below m n h = grind (arith, nat_tests, h)

never_fits : (scope : Scope) (selector : Operand) (t : IrType) (cases : List Operand) → length cases < 1 → IsTrue (sel_fits cases None (scope_types scope) (selector ∷ []) t) → ⊥
never_fits scope selector t cases l fit =
    let both = both_true (list_all (λ o. is_bits_where (cases_count (length cases) None) (type_in (scope_types scope) o)) (selector ∷ []))
    (list_all (λ c. same_type t (type_in (scope_types scope) c)) cases && is_like (scope_types scope) t None) fit in
    let first = both_true (is_bits_where (cases_count (length cases) None) (type_in (scope_types scope) selector)) true both.0 in
    let b = bits_is (cases_count (length cases) None) (type_in (scope_types scope) selector) first.0 in
    let some = both_true (nat_lt 0 (length cases)) (nat_le (length cases) (2 ^ min b.width 128) && defaults (nat_lt (length cases) (2 ^ min b.width 128)) None) b.test in
    let less : 0 < length cases = below 0 (length cases) some.0 in
    omega (arith, less, l)

pub no_cases : (a : WireList) (scope : Scope) (selector : Operand) (t : IrType) (cases : List Operand) (default : Option Operand) (own : List Atom) → default ≡ None → length cases < 1
    → AddsWires a a (λ v. ShowsSelected v scope selector t cases default own)
no_cases a scope selector t cases default own none l = λ v h.
    (h, subst (λ q. ShowsSelected v scope selector t cases q own) (sym none) (λ s values shown fit typed. absurd (never_fits scope selector t cases l fit)))

-- ---- what is put for a node with an operand

pub first_put : {E : Type 0} (o : Result (List Atom) E) (a c : WireList) (scope : Scope) (os extra : List Operand) (p : Operand) (t : IrType) (fits : List Operand → Bool) (f : Value → List Value → List Value → Value) → slice_get os 0 ≡ Some p
    → IfOk o (λ own. AddsWires a c (λ v. ShowsResult v scope (p ∷ extra) t (fits (p ∷ [])) (λ s values. f s values (operand_value s values p ∷ [])) own))
    → IfOk o (λ own. AddsWires a c (λ v. ShowsResult v scope (os ++ extra) t (is_met (Exactly 1) (length os) && fits os) (λ s values. f s values (map (operand_value s values) os)) own))
first_put (Ok own) a c scope os extra p t fits f at q = λ v h. let both = q v h in (both.0, one_operand v scope os extra p t fits f own at both.1)
first_put (Err z) a c scope os extra p t fits f at q = tt

pub first_none : (a : WireList) (scope : Scope) (os extra : List Operand) (t : IrType) (fits : Bool) (value : Value → List Value → Value) (own : List Atom) → slice_get os 0 ≡ None
    → AddsWires a a (λ v. ShowsResult v scope (os ++ extra) t (is_met (Exactly 1) (length os) && fits) value own)
first_none a scope os extra t fits value own at = λ v h. (h, no_operand v scope os extra t fits value own at)

-- the same with no wires
pub part_put : {E : Type 0} (o : Result (List Atom) E) (scope : Scope) (os : List Operand) (p : Operand) (i : ℕ) → slice_get os 0 ≡ Some p → IfOk o (λ own. own ≡ operand_part scope p i)
    → IfOk o (λ own. (v : Values) → ShowsOperation v scope (Exactly 1) os (tuple_index_fits i (scope_types scope) os) (of_one (on_tuple (element_at i))) own)
part_put (Ok own) scope os p i at is = λ v t.
    subst (λ us. ShowsResult v scope us t (is_met (Exactly 1) (length os) && tuple_index_fits i (scope_types scope) os t) (λ s values. of_one (on_tuple (element_at i)) (map (operand_value s values) os)) own) (append-nil os)
    (one_operand v scope os [] p t (λ us. tuple_index_fits i (scope_types scope) us t) (λ s values vs. of_one (on_tuple (element_at i)) vs) own at (part_shown v scope p i t own is))
part_put (Err z) scope os p i at is = tt

pub no_part : (scope : Scope) (os : List Operand) (i : ℕ) (own : List Atom) → slice_get os 0 ≡ None → (v : Values) → ShowsOperation v scope (Exactly 1) os (tuple_index_fits i (scope_types scope) os) (of_one (on_tuple (element_at i))) own
no_part scope os i own at = λ v t.
    subst (λ us. ShowsResult v scope us t (is_met (Exactly 1) (length os) && tuple_index_fits i (scope_types scope) os t) (λ s values. of_one (on_tuple (element_at i)) (map (operand_value s values) os)) own) (append-nil os)
    (no_operand v scope os [] t (tuple_index_fits i (scope_types scope) os t) (λ s values. of_one (on_tuple (element_at i)) (map (operand_value s values) os)) own at)

-- and for one with two
no_first : (v : Values) (scope : Scope) (os extra : List Operand) (t : IrType) (fits : Bool) (value : Value → List Value → Value) (own : List Atom) → slice_get os 0 ≡ None
    → ShowsResult v scope (os ++ extra) t (is_met (Exactly 2) (length os) && fits) value own
no_first v scope os extra t fits value own at = λ s values shown fit typed.
    let two = two_of os (both_true (is_met (Exactly 2) (length os)) fits fit).0 in
    let never : Some two.first ≡ None = sym (ap (λ us. slice_get us 0) two.are) ∙ at in
    absurd (cc)

pub both_none : (a : WireList) (scope : Scope) (os extra : List Operand) (t : IrType) (fits : Bool) (value : Value → List Value → Value) (own : List Atom) → slice_get os 0 ≡ None
    → AddsWires a a (λ v. ShowsResult v scope (os ++ extra) t (is_met (Exactly 2) (length os) && fits) value own)
both_none a scope os extra t fits value own at = λ v h. (h, no_first v scope os extra t fits value own at)

pub second_none : (a : WireList) (scope : Scope) (os extra : List Operand) (t : IrType) (fits : Bool) (value : Value → List Value → Value) (own : List Atom) → slice_get os 1 ≡ None
    → AddsWires a a (λ v. ShowsResult v scope (os ++ extra) t (is_met (Exactly 2) (length os) && fits) value own)
second_none a scope os extra t fits value own at = λ v h. (h, no_second v scope os extra t fits value own at)

pub updated_put : {E : Type 0} (o : Result (List Atom) E) (a c : WireList) (scope : Scope) (os : List Operand) (p q i : Operand) (t : IrType) → slice_get os 0 ≡ Some p → slice_get os 1 ≡ Some q
    → IfOk o (λ own. AddsWires a c (λ v. (u : IrType) → ShowsResult v scope (p ∷ q ∷ i ∷ []) u (index_fits op.ArrayUpdate i (scope_types scope) (p ∷ q ∷ []) u)
    (λ s values. index_value op.ArrayUpdate (operand_value s values i) (operand_value s values p ∷ operand_value s values q ∷ [])) own))
    → IfOk o (λ own. AddsWires a c (λ v. ShowsResult v scope (os ++ i ∷ []) t (is_met (Exactly 2) (length os) && index_fits op.ArrayUpdate i (scope_types scope) os t)
    (λ s values. index_value op.ArrayUpdate (operand_value s values i) (map (operand_value s values) os)) own))
updated_put (Ok own) a c scope os p q i t at then r = λ v h.
    let both = r v h in
    (both.0, two_operands v scope os (i ∷ []) p q t (λ us. index_fits op.ArrayUpdate i (scope_types scope) us t) (λ s values vs. index_value op.ArrayUpdate (operand_value s values i) vs) own at then (both.1 t))
updated_put (Err z) a c scope os p q i t at then r = tt
