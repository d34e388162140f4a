-- Constants in printed texts.
use Rattle.std.proofs.Common.{◌≡◌, ◌<◌, ◌≤◌, ℕ, zero, suc, ◌^◌, Bool, true, false, List, [], ◌∷◌, ◌++◌, map, length, codes, decimal, refl, sym, ap, ap₂, subst, ◌∙◌, arith, append_assoc}
use Rattle.std.proofs.lemmas.Bool.{and_parts}
use Rattle.std.proofs.lemmas.List.{length-map}
use Rattle.xb_value.specs.Text.{listed}
use Rattle.xb_value.proofs.Lemmas.Types.{EachHas, each_of}
use Rattle.dslx_token.specs.Blank.{after_blank}
use Rattle.ir_builder.specs.declared.token.rules.generated.nonterminal.TheConstants as nonterminals
use Rattle.ir_builder.specs.declared.token.rules.generated.production.TheConstants as productions
use Rattle.ir_builder.specs.Token.Rules.Ir.{ir}
use Rattle.ir_builder.specs.Token.Rules.Rules.{named_rules}
use Rattle.ir_builder.specs.Token.Kinds.{Context}
use Rattle.ir_tree.specs.declared.constant.Constant.{Constant, Number, Tuple, Array, fold-Constant}
use Rattle.ir_tree.specs.declared.constant.Constant.TheVariants.{rolls-Number, rolls-Tuple, rolls-Array}
use Rattle.ir_tree.specs.declared.constant.Constant.TheOpen.{Constant-F}
use Rattle.ir_tree.specs.declared.constant.Constant.TheViews.{roll-Constant}
use Rattle.ir_tree.specs.declared.constant.Constant.TheFolds.{fold-roll-Constant, ind-Constant, map-Constant}
use Rattle.ir_tree.specs.NodeTypes.Types.{max_of}
use Rattle.ir_text.specs.Printer.Parts.{constant_step, constant_text}
use Rattle.ir_builder.specs.declared.state.State.{State}
use Rattle.ir_text.specs.RoundTrip.InRange.{all_true, is_held}
use Rattle.ir_text.proofs.OnRoundTrip.Held.{constant_held, constant_held_step, is_short}
use Rattle.ir_text.proofs.OnRoundTrip.Walks.{complete_then, Point}
use Rattle.ir_text.proofs.OnRoundTrip.Words.{ends_words}
use Rattle.ir_text.proofs.OnRoundTrip.Lists.{left_over, one_more, onto, taken}
use Rattle.ir_text.proofs.OnRoundTrip.Steps.{Reads, by_rule, close_then, comma, complete_as, left_bracket, left_parenthesis, mark_then, open_then, right_bracket, right_parenthesis, spot}
use Rattle.ir_text.proofs.OnRoundTrip.Numbers.{is_own_span, number_reads}
use Rattle.ir_text.proofs.OnRoundTrip.TypeTexts.{held_below, more_ends, short_below}

-- ---- folds over constants

pub fold-Number : (A : Type 0) (step : Constant-F A → A) (n : ℕ) → fold-Constant A step (Number n) ≡ step (Constant-F.Number n)
fold-Number A step n = ap (fold-Constant A step) (sym (rolls-Number n)) ∙ fold-roll-Constant A step (Constant-F.Number n)

pub fold-Tuple : (A : Type 0) (step : Constant-F A → A) (cs : List Constant) → fold-Constant A step (Tuple cs) ≡ step (Constant-F.Tuple (map (fold-Constant A step) cs))
fold-Tuple A step cs = ap (fold-Constant A step) (sym (rolls-Tuple cs)) ∙ fold-roll-Constant A step (Constant-F.Tuple cs)

pub fold-Array : (A : Type 0) (step : Constant-F A → A) (cs : List Constant) → fold-Constant A step (Array cs) ≡ step (Constant-F.Array (map (fold-Constant A step) cs))
fold-Array A step cs = ap (fold-Constant A step) (sym (rolls-Array cs)) ∙ fold-roll-Constant A step (Constant-F.Array cs)

pub constant_induction : (P : Constant → Type 0) → ((n : ℕ) → P (Number n)) → ((cs : List Constant) → EachHas P cs → P (Tuple cs)) → ((cs : List Constant) → EachHas P cs → P (Array cs)) → (c : Constant) → P c
constant_induction P number tuple array = ind-Constant P (λ x y is. subst (λ z. P (roll-Constant z)) is (case y))
  where
    case : (y : Constant-F ((c : Constant) × P c)) → P (roll-Constant (map-Constant ((c : Constant) × P c) Constant (λ e. e.0) y))
    case (Constant-F.Number n) = subst P (sym (rolls-Number n)) (number n)
    case (Constant-F.Tuple es) = subst P (sym (rolls-Tuple (map (λ e. e.0) es))) (tuple (map (λ e. e.0) es) (each_of P es))
    case (Constant-F.Array es) = subst P (sym (rolls-Array (map (λ e. e.0) es))) (array (map (λ e. e.0) es) (each_of P es))

-- ---- reading them

abbrev pub constant_nesting_step : Constant-F ℕ → ℕ
constant_nesting_step (Constant-F.Number n) = 0
constant_nesting_step (Constant-F.Tuple ls) = suc (max_of ls)
constant_nesting_step (Constant-F.Array ls) = suc (max_of ls)

-- how many brackets are open at once in a constant's text
abbrev pub constant_nesting : Constant → ℕ
constant_nesting = fold-Constant ℕ constant_nesting_step

abbrev pub ConstantReads : (Point → Type 0) → Constant → Type 0
ConstantReads P v =
    (text rest here : List ℕ) (c : Context) (d r : ℕ) (st : State) → constant_held v ≡ true → constant_nesting v ≤ r → ends_words rest ≡ true → after_blank here ≡ after_blank (constant_text v ++ rest) → is_own_span c ≡ false → Reads text P nonterminals.VALUE (spot here c d r st) rest (record st { constants = v ∷ st.constants })

number_at : {P : Point → Type 0} → (n : ℕ) (text rest here : List ℕ) (c : Context) (d r : ℕ) (st : State) → is_held n ≡ true → ends_words rest ≡ true → after_blank here ≡ after_blank (decimal n ++ rest) → is_own_span c ≡ false → Reads text P nonterminals.VALUE (spot here c d r st) rest (record st { constants = Number n ∷ st.constants })
unfolding ir named_rules
number_at n text rest here c d r st held stop e free s k =
    by_rule productions.VALUE__NUMBER refl
    (number_reads text n rest here c d r st (held_below n held) stop e free _ λ here1 last1 second1 e1.
    complete_then (k here1 last1 second1 e1))

more_values : {P : Point → Type 0} → (vs : List Constant) → EachHas (ConstantReads P) vs → (text rest here : List ℕ) (c : Context) (d r : ℕ) (st : State) → all_true (map constant_held vs) ≡ true → length vs < 2 ^ 64 → max_of (map constant_nesting vs) ≤ r → ends_words rest ≡ true → after_blank here ≡ after_blank (listed (codes ", ") (map constant_text vs) ++ rest) → Reads text P nonterminals.VALUES_MORE (spot here c d r st) rest (record st { constants = onto vs st.constants; counts = length vs ∷ st.counts })
unfolding ir named_rules
more_values [] each text rest here c d r st held few deep stop e s k = by_rule productions.VALUES_MORE__NONE refl (complete_then (k here c.last c.second e))
more_values (v ∷ vs) each text rest here c d r st held few deep stop e s k =
    let parts = and_parts (constant_held v) (all_true (map constant_held vs)) held in
    by_rule productions.VALUES_MORE__COMMA refl
    (mark_then comma _ e
    (each.0 text (listed (codes ", ") (map constant_text vs) ++ rest) _ _ _ _ _ parts.0 (omega (arith, deep)) (more_ends (map constant_text vs) rest stop) (ap after_blank (append_assoc (constant_text v) (listed (codes ", ") (map constant_text vs)) rest)) refl _ λ here1 last1 second1 e1.
    more_values vs each.1 text rest here1 _ d r _ parts.1 (omega arith) (omega (arith, deep)) stop e1 _ λ here2 last2 second2 e2.
    complete_as (record st { constants = onto (v ∷ vs) st.constants; counts = suc (length vs) ∷ st.counts })
    (ap (λ n. record st { constants = onto (v ∷ vs) st.constants; counts = n ∷ st.counts }) (one_more (length vs) few))
    (k here2 last2 second2 e2)))

all_values : {P : Point → Type 0} → (vs : List Constant) → EachHas (ConstantReads P) vs → (text rest here : List ℕ) (c : Context) (d r : ℕ) (st : State) → all_true (map constant_held vs) ≡ true → length vs < 2 ^ 64 → max_of (map constant_nesting vs) ≤ r → ends_words rest ≡ true → after_blank here ≡ after_blank (listed [] (map constant_text vs) ++ rest) → is_own_span c ≡ false → Reads text P nonterminals.VALUES (spot here c d r st) rest (record st { constants = onto vs st.constants; counts = length vs ∷ st.counts })
unfolding ir named_rules
all_values [] each text rest here c d r st held few deep stop e free s k = by_rule productions.VALUES__NONE refl (complete_then (k here c.last c.second e))
all_values (v ∷ vs) each text rest here c d r st held few deep stop e free s k =
    let parts = and_parts (constant_held v) (all_true (map constant_held vs)) held in
    by_rule productions.VALUES__VALUE refl
    (each.0 text (listed (codes ", ") (map constant_text vs) ++ rest) _ _ _ _ _ parts.0 (omega (arith, deep)) (more_ends (map constant_text vs) rest stop) (e ∙ ap after_blank (append_assoc (constant_text v) (listed (codes ", ") (map constant_text vs)) rest)) free _ λ here1 last1 second1 e1.
    more_values vs each.1 text rest here1 _ d r _ parts.1 (omega arith) (omega (arith, deep)) stop e1 _ λ here2 last2 second2 e2.
    complete_as (record st { constants = onto (v ∷ vs) st.constants; counts = suc (length vs) ∷ st.counts })
    (ap (λ n. record st { constants = onto (v ∷ vs) st.constants; counts = n ∷ st.counts }) (one_more (length vs) few))
    (k here2 last2 second2 e2))

tuple_at : {P : Point → Type 0} → (vs : List Constant) → EachHas (ConstantReads P) vs → (text rest here : List ℕ) (c : Context) (d q : ℕ) (st : State) → all_true (map constant_held vs) ≡ true → length vs < 2 ^ 64 → max_of (map constant_nesting vs) ≤ q → after_blank here ≡ after_blank (constant_step (Constant-F.Tuple (map constant_text vs)) ++ rest) → Reads text P nonterminals.VALUE (spot here c d (suc q) st) rest (record st { constants = Tuple vs ∷ st.constants })
unfolding ir named_rules
tuple_at vs each text rest here c d q st held few deep e s k =
    by_rule productions.VALUE__LPAREN refl
    (open_then left_parenthesis _ q refl e
    (all_values vs each text (41 ∷ rest) _ _ (suc d) q _ held few deep refl (ap after_blank (append_assoc (listed [] (map constant_text vs)) (41 ∷ []) rest)) refl _ λ here1 last1 second1 e1.
    close_then right_parenthesis rest d refl e1
    (complete_as (record st { constants = Tuple vs ∷ st.constants })
    (ap₂ (λ (us : List Constant) (ls : List Constant). record st { constants = Tuple us ∷ ls }) (taken vs st.constants) (left_over vs st.constants))
    (k rest _ _ refl))))

array_at : {P : Point → Type 0} → (vs : List Constant) → EachHas (ConstantReads P) vs → (text rest here : List ℕ) (c : Context) (d q : ℕ) (st : State) → all_true (map constant_held vs) ≡ true → length vs < 2 ^ 64 → max_of (map constant_nesting vs) ≤ q → after_blank here ≡ after_blank (constant_step (Constant-F.Array (map constant_text vs)) ++ rest) → Reads text P nonterminals.VALUE (spot here c d (suc q) st) rest (record st { constants = Array vs ∷ st.constants })
unfolding ir named_rules
array_at vs each text rest here c d q st held few deep e s k =
    by_rule productions.VALUE__LBRACKET refl
    (open_then left_bracket _ q refl e
    (all_values vs each text (93 ∷ rest) _ _ (suc d) q _ held few deep refl (ap after_blank (append_assoc (listed [] (map constant_text vs)) (93 ∷ []) rest)) refl _ λ here1 last1 second1 e1.
    close_then right_bracket rest d refl e1
    (complete_as (record st { constants = Array vs ∷ st.constants })
    (ap₂ (λ (us : List Constant) (ls : List Constant). record st { constants = Array us ∷ ls }) (taken vs st.constants) (left_over vs st.constants))
    (k rest _ _ refl))))

few_mapped : (vs : List Constant) → is_short (map constant_held vs) ≡ true → length vs < 2 ^ 64
few_mapped vs h =
    let same = length-map vs constant_held in
    let few = short_below (map constant_held vs) h in
    omega (arith, same, few)

pub constant_reads : {P : Point → Type 0} → (v : Constant) → ConstantReads P v
constant_reads {P} = constant_induction (ConstantReads P) number tuple array
  where
    number : (n : ℕ) → ConstantReads P (Number n)
    number n text rest here c d r st held room stop e =
        number_at n text rest here c d r st (sym (fold-Number Bool constant_held_step n) ∙ held) stop (e ∙ ap (λ x. after_blank (x ++ rest)) (fold-Number (List ℕ) constant_step n))

    tuple : (vs : List Constant) → EachHas (ConstantReads P) vs → ConstantReads P (Tuple vs)
    tuple vs each text rest here c d zero st held room stop e free = absurd (let one = fold-Tuple ℕ constant_nesting_step vs in omega (arith, one, room))
    tuple vs each text rest here c d (suc q) st held room stop e free =
        let parts = and_parts (all_true (map constant_held vs)) (is_short (map constant_held vs)) (sym (fold-Tuple Bool constant_held_step vs) ∙ held) in
        let deep = fold-Tuple ℕ constant_nesting_step vs in
        tuple_at vs each text rest here c d q st parts.0 (few_mapped vs parts.1) (omega (arith, deep, room)) (e ∙ ap (λ x. after_blank (x ++ rest)) (fold-Tuple (List ℕ) constant_step vs))

    array : (vs : List Constant) → EachHas (ConstantReads P) vs → ConstantReads P (Array vs)
    array vs each text rest here c d zero st held room stop e free = absurd (let one = fold-Array ℕ constant_nesting_step vs in omega (arith, one, room))
    array vs each text rest here c d (suc q) st held room stop e free =
        let parts = and_parts (all_true (map constant_held vs)) (is_short (map constant_held vs)) (sym (fold-Array Bool constant_held_step vs) ∙ held) in
        let deep = fold-Array ℕ constant_nesting_step vs in
        array_at vs each text rest here c d q st parts.0 (few_mapped vs parts.1) (omega (arith, deep, room)) (e ∙ ap (λ x. after_blank (x ++ rest)) (fold-Array (List ℕ) constant_step vs))
