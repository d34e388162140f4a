-- Numbers in printed texts.
use Rattle.std.proofs.Common.{◌≡◌, ◌<◌, ℕ, ◌-◌, ◌^◌, min, Bool, true, false, ◌&&◌, List, ◌∷◌, ◌++◌, decimal, refl, ap, ◌∙◌, arith}
use Rattle.std.specs.Prelude.{◌==◌, nat_lt, if◌then◌else◌}
use Rattle.std.proofs.lemmas.Bool.{cond-true, cond-false}
use Rattle.dslx_token.specs.Blank.{after_blank}
use Rattle.ir_builder.specs.declared.token.rules.generated.kind.TheConstants as kinds
use Rattle.ir_builder.specs.declared.token.rules.generated.nonterminal.TheConstants as nonterminals
use Rattle.ir_builder.specs.declared.token.rules.generated.production.TheConstants as productions
use Rattle.ir_builder.specs.Token.Rules.Ir.{ir}
use Rattle.ir_builder.specs.Token.Rules.Rules.{named_rules}
use Rattle.ir_builder.specs.Token.Kinds.{Context, ir_plain_kind, kind_in}
use Rattle.ir_builder.specs.Token.Said.{number_said, small_said}
use Rattle.ir_builder.specs.declared.state.State.{State}
use Rattle.ir_text.proofs.OnRoundTrip.Walks.{a_tree, Goes, Point, stays, token_then}
use Rattle.ir_text.proofs.OnRoundTrip.Words.{ends_words, number_prefix_is, number_kind, number_shown, number_value}
use Rattle.ir_text.proofs.OnRoundTrip.Steps.{Reads, by_rule, complete_as, spot}

-- directly behind `id=`
abbrev pub is_own_span : Context → Bool
is_own_span c = (c.last == kinds.ASSIGN) && (c.second == kinds.ID)

not_own : (p q x : Bool) (kind : ℕ) → (p && q) ≡ false → (if (p && (q && x)) then kinds.OWN else kind) ≡ kind
not_own true true x kind h = absurd (cc)
not_own true false x kind h = refl
not_own false q x kind h = refl

small_own : (c : Context) (word : List ℕ) → is_own_span c ≡ false → kind_in c kinds.SMALL word ≡ kinds.SMALL
small_own c word h = not_own (c.last == kinds.ASSIGN) (c.second == kinds.ID) _ kinds.SMALL h

large_own : (c : Context) (word : List ℕ) → is_own_span c ≡ false → kind_in c kinds.LARGE word ≡ kinds.LARGE
large_own c word h = not_own (c.last == kinds.ASSIGN) (c.second == kinds.ID) _ kinds.LARGE h

number_said_is : (n : ℕ) → n < 2 ^ 128 → number_said (decimal n) ≡ n
number_said_is n h = ap (λ v. min v (2 ^ 128 - 1)) (number_value n h) ∙ omega arith

pub small_said_is : (n : ℕ) → n < 2 ^ 32 → small_said (decimal n) ≡ n
small_said_is n h = let enough : n < 2 ^ 128 = omega arith in ap (λ v. min v (2 ^ 32 - 1)) (number_said_is n enough) ∙ omega arith

-- the kind of a number below 2^32, but directly behind `id=`
pub small_kind : (c : Context) (n : ℕ) → n < 2 ^ 128 → nat_lt n (2 ^ 32) ≡ true → is_own_span c ≡ false → kind_in c (ir_plain_kind (decimal n)) (decimal n) ≡ kinds.SMALL
small_kind c n h small free =
    ap (λ x. kind_in c x (decimal n)) (number_kind n h ∙ cond-true _ kinds.SMALL kinds.LARGE small) ∙ small_own c (decimal n) free

large_kind : (c : Context) (n : ℕ) → n < 2 ^ 128 → nat_lt n (2 ^ 32) ≡ false → is_own_span c ≡ false → kind_in c (ir_plain_kind (decimal n)) (decimal n) ≡ kinds.LARGE
large_kind c n h large free =
    ap (λ x. kind_in c x (decimal n)) (number_kind n h ∙ cond-false _ kinds.SMALL kinds.LARGE large) ∙ large_own c (decimal n) free

pub number_reads : {P : Point → Type 0} → (text : List ℕ) (n : ℕ) (rest here : List ℕ) (c : Context) (d r : ℕ) (st : State) → n < 2 ^ 128 → ends_words rest ≡ true → after_blank here ≡ after_blank (decimal n ++ rest) → is_own_span c ≡ false → Reads text P nonterminals.NUMBER (spot here c d r st) rest (record st { numbers = n ∷ st.numbers })
unfolding ir named_rules
number_reads {P} text n rest here c d r st h stop e free s k = by_size (nat_lt n (2 ^ 32)) refl
  where
    by_size : (small : Bool) → nat_lt n (2 ^ 32) ≡ small → Goes text P (a_tree nonterminals.NUMBER ∷ s) (spot here c d r st)
    by_size true small =
        by_rule productions.NUMBER__SMALL refl
        (token_then (decimal n) rest d r (e ∙ number_shown n rest h) (number_prefix_is n rest h stop) (small_kind c n h small free) (stays d r)
        (complete_as (record st { numbers = n ∷ st.numbers }) (ap (λ v. record st { numbers = v ∷ st.numbers }) (number_said_is n h)) (k rest kinds.SMALL c.last refl)))
    by_size false large =
        by_rule productions.NUMBER__LARGE refl
        (token_then (decimal n) rest d r (e ∙ number_shown n rest h) (number_prefix_is n rest h stop) (large_kind c n h large free) (stays d r)
        (complete_as (record st { numbers = n ∷ st.numbers }) (ap (λ v. record st { numbers = v ∷ st.numbers }) (number_said_is n h)) (k rest kinds.LARGE c.last refl)))
