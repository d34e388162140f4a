-- Types in printed texts.
use Rattle.std.proofs.Common.{◌≡◌, ◌<◌, ◌≤◌, ℕ, zero, suc, ◌^◌, Bool, true, ◌&&◌, List, [], ◌∷◌, ◌++◌, map, take, drop, length, codes, decimal, refl, sym, ap, ap₂, subst, ◌∙◌, arith, append_assoc, append-nil}
use Rattle.std.specs.Prelude.{nat_lt}
use Rattle.std.specs.List.{list_all}
use Rattle.std.proofs.lemmas.Bool.{and_parts, and_from}
use Rattle.std.proofs.lemmas.Bool.Decides.{nat_tests}
use Rattle.std.proofs.lemmas.List.{drop_at, length-map, take_at}
use Rattle.xb_value.specs.Text.{listed}
use Rattle.xb_value.proofs.Lemmas.Types.{EachHas}
use Rattle.dslx_token.specs.Blank.{after_blank}
use Rattle.ir_builder.specs.declared.token.rules.generated.nonterminal.TheConstants as nonterminals
use Rattle.ir_builder.specs.declared.token.rules.generated.production.TheConstants as productions
use Rattle.ir_builder.specs.Token.Rules.Ir.{ir}
use Rattle.ir_builder.specs.Token.Rules.Rules.{named_rules}
use Rattle.ir_builder.specs.Token.Kinds.{Context}
use Rattle.ir_tree.specs.declared.ir_type.IrType.{IrType, Bits, Token, Tuple, fold-IrType}
use Rattle.ir_tree.specs.declared.ir_type.IrType.TheOpen.{IrType-F}
use Rattle.ir_tree.specs.declared.ir_type.IrType.TheViews.{outs-Bits, outs-Token, outs-Tuple}
use Rattle.ir_tree.specs.NodeTypes.Types.{max_of}
use Rattle.ir_tree.proofs.Lemmas.NodeTypes.IrTypes.{fold-Bits, fold-Token, fold-Tuple}
use Rattle.ir_tree.proofs.Lemmas.Rules.Typed.Tests.{type_induction}
use Rattle.ir_text.specs.Printer.Parts.{sizes_text, type_step, type_text}
use Rattle.ir_builder.specs.declared.state.State.{State}
use Rattle.ir_builder.specs.Rules.{sized, sized_step}
use Rattle.ir_text.specs.RoundTrip.InRange.{all_true, is_held}
use Rattle.ir_text.proofs.OnRoundTrip.Held.{are_held, is_short, type_held, type_held_step}
use Rattle.ir_text.proofs.OnRoundTrip.Walks.{Due, a_tree, complete, Goes, Point, complete_then}
use Rattle.ir_text.proofs.OnRoundTrip.Words.{ends_words}
use Rattle.ir_text.proofs.OnRoundTrip.Lists.{left_over, length_onto, one_more, onto, onto_twice, taken}
use Rattle.ir_text.proofs.OnRoundTrip.Steps.{Reads, behind, by_rule, close_then, comma, complete_as, keyword_then, left_bracket, left_parenthesis, mark_then, open_then, right_bracket, right_parenthesis, spot, the_bits, the_token}
use Rattle.ir_text.proofs.OnRoundTrip.Numbers.{number_reads}

-- ---- what is held

pub held_below : (n : ℕ) → is_held n ≡ true → n < 2 ^ 128
held_below n h = grind (arith, nat_tests)

pub short_below : {T : Type 0} (xs : List T) → is_short xs ≡ true → length xs < 2 ^ 64
short_below xs h = below (length xs) h
  where
    below : (n : ℕ) → nat_lt n (2 ^ 64) ≡ true → n < 2 ^ 64
    below n h = grind (arith, nat_tests)

-- ---- sizes of arrays, in the order of the text

abbrev in_order : List ℕ → List ℕ
in_order [] = []
in_order (m ∷ ms) = 91 ∷ (decimal m ++ (93 ∷ in_order ms))

sizes_ordered : (ns ms : List ℕ) → in_order (onto ns ms) ≡ sizes_text ns ++ in_order ms
sizes_ordered [] ms = refl
sizes_ordered (n ∷ ns) ms =
    sizes_ordered ns (n ∷ ms)
    ∙ sym (append_assoc (sizes_text ns) (91 ∷ (decimal n ++ (93 ∷ []))) (in_order ms)
    ∙ ap (λ x. sizes_text ns ++ (91 ∷ x)) (append_assoc (decimal n) (93 ∷ []) (in_order ms)))

ordered : (ns : List ℕ) → sizes_text ns ≡ in_order (onto ns [])
ordered ns = sym (sizes_ordered ns [] ∙ append-nil (sizes_text ns))

held_onto : (ns ms : List ℕ) → list_all is_held ns ≡ true → list_all is_held ms ≡ true → list_all is_held (onto ns ms) ≡ true
held_onto [] ms h k = k
held_onto (n ∷ ns) ms h k =
    let parts = and_parts (is_held n) (list_all is_held ns) h in
    held_onto ns (n ∷ ms) parts.1 (and_from _ _ parts.0 k)

order_ends : (ms rest : List ℕ) → ends_words rest ≡ true → ends_words (in_order ms ++ rest) ≡ true
order_ends [] rest stop = stop
order_ends (m ∷ ms) rest stop = refl

sizes_end : (ns rest : List ℕ) → ends_words rest ≡ true → ends_words (sizes_text ns ++ rest) ≡ true
sizes_end ns rest stop = subst (λ x. ends_words (x ++ rest) ≡ true) (sym (ordered ns)) (order_ends (onto ns []) rest stop)

-- ---- reading them

abbrev SizesRead : (Point → Type 0) → List ℕ → List ℕ → Type 0
SizesRead P text ms =
    (rest here : List ℕ) (c : Context) (d q : ℕ) (st : State) → list_all is_held ms ≡ true → length ms < 2 ^ 64 → after_blank here ≡ after_blank (in_order ms ++ rest) → Reads text P nonterminals.SIZES (spot here c d (suc q) st) rest (record st { numbers = onto ms st.numbers; counts = length ms ∷ st.counts })

sizes_read : {P : Point → Type 0} → (text ms : List ℕ) → SizesRead P text ms
unfolding ir named_rules
sizes_read text [] rest here c d q st held few e s k = by_rule productions.SIZES__NONE refl (complete_then (k here c.last c.second e))
sizes_read text (m ∷ ms) rest here c d q st held few e s k =
    let parts = and_parts (is_held m) (list_all is_held ms) held in
    by_rule productions.SIZES__LBRACKET refl
    (open_then left_bracket _ q refl e
    (number_reads text m (93 ∷ (in_order ms ++ rest)) _ _ _ _ _ (held_below m parts.0) refl (ap after_blank (append_assoc (decimal m) (93 ∷ in_order ms) rest)) refl _ λ here1 last1 second1 e1.
    close_then right_bracket _ d refl e1
    (sizes_read text ms rest (in_order ms ++ rest) _ d q _ parts.1 (omega arith) refl _ λ here2 last2 second2 e2.
    complete_as (record st { numbers = onto (m ∷ ms) st.numbers; counts = suc (length ms) ∷ st.counts })
    (ap (λ n. record st { numbers = onto (m ∷ ms) st.numbers; counts = n ∷ st.counts }) (one_more (length ms) few))
    (k here2 last2 second2 e2))))

-- an element that was read, the sizes behind it, and all of the type
sized_read : {P : Point → Type 0} → (text ns rest here : List ℕ) (c : Context) (d q : ℕ) (st : State) (element t : IrType) → sized ns element ≡ t → are_held ns ≡ true → after_blank here ≡ after_blank (sizes_text ns ++ rest) → (s : List Due) → ((here : List ℕ) (last second : ℕ) → after_blank here ≡ after_blank rest → Goes text P s (spot here (behind last second c.node) d (suc q) (record st { types = t ∷ st.types }))) → Goes text P (a_tree nonterminals.SIZES ∷ complete productions.TYPE ∷ s) (spot here c d (suc q) (record st { types = element ∷ st.types }))
sized_read text ns rest here c d q st element t is held e s k =
    let parts = and_parts (list_all is_held ns) (is_short ns) held in
    let few = short_below ns parts.1 in
    let count = length_onto ns [] in
    let all : length (onto ns []) ≡ length ns = omega arith in
    let numbers = onto_twice ns [] st.numbers in
    let left : drop (length (onto ns [])) (onto (onto ns []) st.numbers) ≡ st.numbers = ap₂ (λ (n : ℕ) (l : List ℕ). drop n l) all numbers ∙ drop_at ns st.numbers (length ns) refl in
    let top : take (length (onto ns [])) (onto (onto ns []) st.numbers) ≡ ns = ap₂ (λ (n : ℕ) (l : List ℕ). take n l) all numbers ∙ take_at ns st.numbers (length ns) refl in
    sizes_read text (onto ns []) rest here c d q (record st { types = element ∷ st.types }) (held_onto ns [] parts.0 refl) (omega arith) (e ∙ ap (λ x. after_blank (x ++ rest)) (ordered ns)) _ λ here1 last1 second1 e1.
    complete_as (record st { types = t ∷ st.types })
    (ap₂ (λ (a : List ℕ) (u : List ℕ). record st { numbers = a; types = sized u element ∷ st.types }) left top ∙ ap (λ u. record st { types = u ∷ st.types }) is)
    (k here1 last1 second1 e1)

-- ---- types

abbrev pub nesting_step : IrType-F ℕ → ℕ
nesting_step (IrType-F.Bits w ns) = 1
nesting_step (IrType-F.Token ns) = 1
nesting_step (IrType-F.Tuple ls ns) = suc (max_of ls)

-- how many brackets are open at once in a type's text
abbrev pub type_nesting : IrType → ℕ
type_nesting = fold-IrType ℕ nesting_step

abbrev pub TypeReads : (Point → Type 0) → IrType → Type 0
TypeReads P t =
    (text rest here : List ℕ) (c : Context) (d r : ℕ) (st : State) → type_held t ≡ true → type_nesting t ≤ r → ends_words rest ≡ true → after_blank here ≡ after_blank (type_text t ++ rest) → Reads text P nonterminals.TYPE (spot here c d r st) rest (record st { types = t ∷ st.types })

bits_at : {P : Point → Type 0} → (w : ℕ) (ns text rest here : List ℕ) (c : Context) (d q : ℕ) (st : State) → is_held w ≡ true → are_held ns ≡ true → after_blank here ≡ after_blank (type_step (IrType-F.Bits w ns) ++ rest) → Reads text P nonterminals.TYPE (spot here c d (suc q) st) rest (record st { types = Bits w ns ∷ st.types })
unfolding ir named_rules
bits_at w ns text rest here c d q st held sizes e s k =
    by_rule productions.TYPE refl
    (by_rule productions.ELEMENT__BITS refl
    (keyword_then the_bits (91 ∷ ((decimal w ++ (93 ∷ sizes_text ns)) ++ rest)) e refl
    (open_then left_bracket _ q refl refl
    (number_reads text w (93 ∷ (sizes_text ns ++ rest)) _ _ _ _ _ (held_below w held) refl (ap after_blank (append_assoc (decimal w) (93 ∷ sizes_text ns) rest)) refl _ λ here1 last1 second1 e1.
    close_then right_bracket _ d refl e1
    (complete_then (sized_read text ns rest (sizes_text ns ++ rest) _ d q st (Bits w []) (Bits w ns) (ap (sized_step ns) (outs-Bits w [])) sizes refl s k))))))

token_at : {P : Point → Type 0} → (ns text rest here : List ℕ) (c : Context) (d q : ℕ) (st : State) → are_held ns ≡ true → ends_words rest ≡ true → after_blank here ≡ after_blank (type_step (IrType-F.Token ns) ++ rest) → Reads text P nonterminals.TYPE (spot here c d (suc q) st) rest (record st { types = Token ns ∷ st.types })
unfolding ir named_rules
token_at ns text rest here c d q st sizes stop e s k =
    by_rule productions.TYPE refl
    (by_rule productions.ELEMENT__TOKEN refl
    (keyword_then the_token (sizes_text ns ++ rest) e (sizes_end ns rest stop)
    (complete_then (sized_read text ns rest (sizes_text ns ++ rest) _ d q st (Token []) (Token ns) (ap (sized_step ns) (outs-Token [])) sizes refl s k))))

-- ---- lists of types

pub more_ends : (ts : List (List ℕ)) (rest : List ℕ) → ends_words rest ≡ true → ends_words (listed (codes ", ") ts ++ rest) ≡ true
more_ends [] rest stop = stop
more_ends (t ∷ ts) rest stop = refl

more_types : {P : Point → Type 0} → (ts : List IrType) → EachHas (TypeReads P) ts → (text rest here : List ℕ) (c : Context) (d r : ℕ) (st : State) → all_true (map type_held ts) ≡ true → length ts < 2 ^ 64 → max_of (map type_nesting ts) ≤ r → ends_words rest ≡ true → after_blank here ≡ after_blank (listed (codes ", ") (map type_text ts) ++ rest) → Reads text P nonterminals.TYPES_MORE (spot here c d r st) rest (record st { types = onto ts st.types; counts = length ts ∷ st.counts })
unfolding ir named_rules
more_types [] each text rest here c d r st held few deep stop e s k = by_rule productions.TYPES_MORE__NONE refl (complete_then (k here c.last c.second e))
more_types (t ∷ ts) each text rest here c d r st held few deep stop e s k =
    let parts = and_parts (type_held t) (all_true (map type_held ts)) held in
    by_rule productions.TYPES_MORE__COMMA refl
    (mark_then comma _ e
    (each.0 text (listed (codes ", ") (map type_text ts) ++ rest) _ _ _ _ _ parts.0 (omega (arith, deep)) (more_ends (map type_text ts) rest stop) (ap after_blank (append_assoc (type_text t) (listed (codes ", ") (map type_text ts)) rest)) _ λ here1 last1 second1 e1.
    more_types ts each.1 text rest here1 _ d r _ parts.1 (omega arith) (omega (arith, deep)) stop e1 _ λ here2 last2 second2 e2.
    complete_as (record st { types = onto (t ∷ ts) st.types; counts = suc (length ts) ∷ st.counts })
    (ap (λ n. record st { types = onto (t ∷ ts) st.types; counts = n ∷ st.counts }) (one_more (length ts) few))
    (k here2 last2 second2 e2)))

all_types : {P : Point → Type 0} → (ts : List IrType) → EachHas (TypeReads P) ts → (text rest here : List ℕ) (c : Context) (d r : ℕ) (st : State) → all_true (map type_held ts) ≡ true → length ts < 2 ^ 64 → max_of (map type_nesting ts) ≤ r → ends_words rest ≡ true → after_blank here ≡ after_blank (listed [] (map type_text ts) ++ rest) → Reads text P nonterminals.TYPES (spot here c d r st) rest (record st { types = onto ts st.types; counts = length ts ∷ st.counts })
unfolding ir named_rules
all_types [] each text rest here c d r st held few deep stop e s k = by_rule productions.TYPES__NONE refl (complete_then (k here c.last c.second e))
all_types (t ∷ ts) each text rest here c d r st held few deep stop e s k =
    let parts = and_parts (type_held t) (all_true (map type_held ts)) held in
    by_rule productions.TYPES__TYPE refl
    (each.0 text (listed (codes ", ") (map type_text ts) ++ rest) _ _ _ _ _ parts.0 (omega (arith, deep)) (more_ends (map type_text ts) rest stop) (e ∙ ap after_blank (append_assoc (type_text t) (listed (codes ", ") (map type_text ts)) rest)) _ λ here1 last1 second1 e1.
    more_types ts each.1 text rest here1 _ d r _ parts.1 (omega arith) (omega (arith, deep)) stop e1 _ λ here2 last2 second2 e2.
    complete_as (record st { types = onto (t ∷ ts) st.types; counts = suc (length ts) ∷ st.counts })
    (ap (λ n. record st { types = onto (t ∷ ts) st.types; counts = n ∷ st.counts }) (one_more (length ts) few))
    (k here2 last2 second2 e2))

tuple_at : {P : Point → Type 0} → (ts : List IrType) (ns : List ℕ) → EachHas (TypeReads P) ts → (text rest here : List ℕ) (c : Context) (d q : ℕ) (st : State) → all_true (map type_held ts) ≡ true → length ts < 2 ^ 64 → max_of (map type_nesting ts) ≤ q → are_held ns ≡ true → after_blank here ≡ after_blank (type_step (IrType-F.Tuple (map type_text ts) ns) ++ rest) → Reads text P nonterminals.TYPE (spot here c d (suc q) st) rest (record st { types = Tuple ts ns ∷ st.types })
unfolding ir named_rules
tuple_at ts ns each text rest here c d q st held few deep sizes e s k =
    by_rule productions.TYPE refl
    (by_rule productions.ELEMENT__LPAREN refl
    (open_then left_parenthesis _ q refl e
    (all_types ts each text (41 ∷ (sizes_text ns ++ rest)) _ _ (suc d) q _ held few deep refl (ap after_blank (append_assoc (listed [] (map type_text ts)) (41 ∷ sizes_text ns) rest)) _ λ here1 last1 second1 e1.
    close_then right_parenthesis _ d refl e1
    (complete_as (record st { types = Tuple ts [] ∷ st.types })
    (ap₂ (λ (us : List IrType) (ls : List IrType). record st { types = Tuple us [] ∷ ls }) (taken ts st.types) (left_over ts st.types))
    (sized_read text ns rest (sizes_text ns ++ rest) _ d q st (Tuple ts []) (Tuple ts ns) (ap (sized_step ns) (outs-Tuple ts [])) sizes refl s k)))))

few_mapped : (ts : List IrType) → is_short (map type_held ts) ≡ true → length ts < 2 ^ 64
few_mapped ts h =
    let same = length-map ts type_held in
    let few = short_below (map type_held ts) h in
    omega (arith, same, few)

-- ---- each type

pub type_reads : {P : Point → Type 0} → (t : IrType) → TypeReads P t
type_reads {P} = type_induction (TypeReads P) bits token tuple
  where
    bits : (w : ℕ) (ns : List ℕ) → TypeReads P (Bits w ns)
    bits w ns text rest here c d zero st held room stop e = absurd (let one = fold-Bits ℕ nesting_step w ns in omega (arith, one, room))
    bits w ns text rest here c d (suc q) st held room stop e =
        let parts = and_parts (is_held w) (are_held ns) (sym (fold-Bits Bool type_held_step w ns) ∙ held) in
        bits_at w ns text rest here c d q st parts.0 parts.1 (e ∙ ap (λ x. after_blank (x ++ rest)) (fold-Bits (List ℕ) type_step w ns))

    token : (ns : List ℕ) → TypeReads P (Token ns)
    token ns text rest here c d zero st held room stop e = absurd (let one = fold-Token ℕ nesting_step ns in omega (arith, one, room))
    token ns text rest here c d (suc q) st held room stop e =
        token_at ns text rest here c d q st (sym (fold-Token Bool type_held_step ns) ∙ held) stop (e ∙ ap (λ x. after_blank (x ++ rest)) (fold-Token (List ℕ) type_step ns))

    tuple : (ts : List IrType) (ns : List ℕ) → EachHas (TypeReads P) ts → TypeReads P (Tuple ts ns)
    tuple ts ns each text rest here c d zero st held room stop e = absurd (let one = fold-Tuple ℕ nesting_step ts ns in omega (arith, one, room))
    tuple ts ns each text rest here c d (suc q) st held room stop e =
        let parts = and_parts (all_true (map type_held ts) && is_short (map type_held ts)) (are_held ns) (sym (fold-Tuple Bool type_held_step ts ns) ∙ held) in
        let inner = and_parts (all_true (map type_held ts)) (is_short (map type_held ts)) parts.0 in
        let deep = fold-Tuple ℕ nesting_step ts ns in
        tuple_at ts ns each text rest here c d q st inner.0 (few_mapped ts inner.1) (omega (arith, deep, room)) parts.1 (e ∙ ap (λ x. after_blank (x ++ rest)) (fold-Tuple (List ℕ) type_step ts ns))
