-- Parts of the walk in turn are one part that mentions what they do.
use Rattle.std.proofs.Common.{◌≡◌, ℕ, Bool, true, false, if◌then◌else◌, List, [], ◌∷◌, ◌++◌, length, Option, Some, None, refl, sym, ap, ◌∙◌}
use Rattle.std.proofs.lemmas.List.{append_assoc, append-nil}
use Rattle.dslx_meaning.specs.Callees.{is_text_function, kind_of_call}
use Rattle.dslx_meaning.specs.Lists.{is_in}
use Rattle.dslx_meaning.specs.Rules.Mentions.{Use, AsFunction, Mentions, NamesBound, all_mentions, mention, mentions_if, nowhere, statements_mentions, value_mention}
use Rattle.dslx_meaning.specs.Names.FirstNames.{first_names}
use Rattle.dslx_meaning.proofs.Lemmas.Names.FirstNames.{back_to}
use Rattle.dslx_check_items.specs.Inner.Walks.{MentionWalk, behind, binding, calling, keeping, mentioning, mentioning_all, mentioning_if, naming, running, valuing}

pub nothing : (w : MentionWalk) → w ≡ mentioning nowhere w
unfolding mentioning
nothing w = λ i. record { found = sym (append-nil w.found) i; bound = w.bound }

pub two : (m n : Mentions) (w : MentionWalk) → mentioning n (mentioning m w) ≡ mentioning (λ bound. m bound ++ n bound) w
unfolding mentioning
two m n w = λ i. record { found = append_assoc w.found (m w.bound) (n w.bound) i; bound = w.bound }

pub three : (l m n : Mentions) (w : MentionWalk) → mentioning n (mentioning m (mentioning l w)) ≡ mentioning (λ bound. l bound ++ m bound ++ n bound) w
three l m n w = ap (mentioning n) (two l m w) ∙ two (λ bound. l bound ++ m bound) n w

pub all_in_turn : (ms : List Mentions) (w : MentionWalk) → mentioning_all ms w ≡ mentioning (all_mentions ms) w
all_in_turn [] w = nothing w
all_in_turn (m ∷ ms) w = all_in_turn ms (mentioning m w) ∙ two m (all_mentions ms) w

pub if_in_turn : (o : Option Mentions) (w : MentionWalk) → mentioning_if o w ≡ mentioning (mentions_if o) w
if_in_turn None w = nothing w
if_in_turn (Some m) w = refl

pub named : (as' : Use) (name : List ℕ) (w : MentionWalk) → naming as' name w ≡ mentioning (λ bound. mention as' name) w
unfolding naming mentioning
named as' name w = refl

pub valued : (name : List ℕ) (w : MentionWalk) → valuing name w ≡ mentioning (value_mention name) w
unfolding naming mentioning
valued name w = by (is_in name w.bound) refl
  where
    by : (b : Bool) → is_in name w.bound ≡ b → valuing name w ≡ mentioning (value_mention name) w
    by true e = rw e (λ i. record { found = sym (append-nil w.found) i; bound = w.bound })
    by false e = rw e refl

pub called : (name : List ℕ) (w : MentionWalk) → calling name w ≡ mentioning (λ bound. if is_text_function (kind_of_call name) then mention AsFunction name else []) w
called name w = by (is_text_function (kind_of_call name))
  where
    by : (b : Bool) → (if b then naming AsFunction name w else w) ≡ mentioning (λ bound. if b then mention AsFunction name else []) w
    by true = named AsFunction name w
    by false = nothing w

-- ---- what is bound, and forgotten again

pub bound_none : (w : MentionWalk) → binding [] w ≡ w
unfolding binding
bound_none w = refl

pub bound_more : (xs ys : List (List ℕ)) (w : MentionWalk) → binding xs (binding ys w) ≡ binding (xs ++ ys) w
unfolding binding
bound_more xs ys w = λ i. record { found = w.found; bound = sym (append_assoc xs ys w.bound) i }

-- a part behind names that are forgotten then
pub around : (m n : Mentions) (names : List (List ℕ)) (w : MentionWalk)
    → keeping (length w.bound) (mentioning n (binding names (mentioning m w))) ≡ mentioning (λ bound. m bound ++ n (names ++ bound)) w
unfolding keeping mentioning binding
around m n names w = λ i. record { found = append_assoc w.found (m w.bound) (n (names ++ w.bound)) i; bound = back_to names w.bound i }

-- ---- statements

bound_by : List NamesBound → List (List ℕ) → List (List ℕ)
bound_by [] bound = bound
bound_by (s ∷ ss) bound = bound_by ss (s.names ++ bound)

back_behind : (ss : List NamesBound) (names bound : List (List ℕ)) → first_names (length bound) (bound_by ss (names ++ bound)) ≡ bound
unfolding bound_by
back_behind [] names bound = back_to names bound
back_behind (s ∷ ss) names bound =
    ap (λ (inner : List (List ℕ)). first_names (length bound) (bound_by ss inner)) (sym (append_assoc s.names names bound)) ∙ back_behind ss (s.names ++ names) bound

run_in_turn : (ss : List NamesBound) (last : Mentions) (w : MentionWalk)
    → mentioning last (running ss w) ≡ record { found = w.found ++ statements_mentions ss last w.bound; bound = bound_by ss w.bound }
unfolding mentioning binding bound_by
run_in_turn [] last w = refl
run_in_turn (s ∷ ss) last w =
    run_in_turn ss last (behind s w)
    ∙ (λ i. record { found = append_assoc w.found (s.mentions w.bound) (statements_mentions ss last (s.names ++ w.bound)) i; bound = bound_by ss (s.names ++ w.bound) })

pub statements_in_turn : (ss : List NamesBound) (last : Mentions) (w : MentionWalk) → keeping (length w.bound) (mentioning last (running ss w)) ≡ mentioning (statements_mentions ss last) w
unfolding keeping mentioning
statements_in_turn ss last w =
    ap (keeping (length w.bound)) (run_in_turn ss last w)
    ∙ (λ i. record { found = w.found ++ statements_mentions ss last w.bound; bound = back_behind ss [] w.bound i })
