-- Names that are bound from the last one on.
use Rattle.std.proofs.Common.{◌≡◌, ◌≢◌, ◌+◌, ◌-◌, ◌≤◌, ℕ, false, List, [], ◌∷◌, drop, get_or, length, map, refl, sym, ap, ◌∙◌}
use Rattle.std.specs.Prelude.{flat_map}
use Rattle.dslx_meaning.specs.Names.Called.{kind_of}
use Rattle.dslx_meaning.specs.declared.names.callee.Callee.{Callee}
use Rattle.dslx_meaning.specs.declared.names.callee.Callee.TheVariants as callee
use Rattle.dslx_meaning.specs.Callees.{is_text_function}
use Rattle.dslx_check_items.specs.Inner.Walks.{MentionWalk, binding}
use Rattle.dslx_check_items.proofs.OnMentions.InTurn.{bound_more, bound_none}
use Rattle.dslx_check_items.proofs.OnMentions.Bounds.{all_left, none_left, one_before}

pub begun : {X : Type 0} (f : X → List (List ℕ)) (xs : List X) (w : MentionWalk) → w ≡ binding (flat_map f (drop (length xs - 0) xs)) w
begun f xs w = sym (ap (λ ys. binding (flat_map f ys) w) (none_left xs) ∙ bound_none w)

pub went_on : {X : Type 0} (f : X → List (List ℕ)) (xs : List X) (i k : ℕ) (x : X) (first here next : MentionWalk)
    → k + i + 1 ≡ length xs → x ≡ get_or xs k x → here ≡ binding (flat_map f (drop (length xs - i) xs)) first → next ≡ binding (f x) here
    → next ≡ binding (flat_map f (drop (length xs - (i + 1)) xs)) first
went_on f xs i k x first here next at is so on =
    on ∙ ap (binding (f x)) so ∙ bound_more (f x) (flat_map f (drop (length xs - i) xs)) first
    ∙ ap (λ ys. binding (flat_map f ys) first) (sym (one_before xs i k x at is))

pub ended : {X : Type 0} (f : X → List (List ℕ)) (xs : List X) (i : ℕ) (first here : MentionWalk)
    → length xs ≤ i → here ≡ binding (flat_map f (drop (length xs - i) xs)) first → here ≡ binding (flat_map f xs) first
ended f xs i first here past so = so ∙ ap (λ ys. binding (flat_map f ys) first) (all_left xs i past)

-- where each has one name
pub singles : {X : Type 0} (f : X → List ℕ) (xs : List X) → flat_map (λ x. f x ∷ []) xs ≡ map f xs
singles f [] = refl
singles f (x ∷ xs) = ap (λ (names : List (List ℕ)). f x ∷ names) (singles f xs)

-- ---- what is called

pub no_function : (c : Callee) → c ≢ callee.Function → is_text_function (kind_of c) ≡ false
no_function callee.Join h = refl
no_function callee.Receive h = refl
no_function callee.ReceiveIf h = refl
no_function callee.Send h = refl
no_function callee.SendIf h = refl
no_function callee.CountLeading h = refl
no_function callee.CountTrailing h = refl
no_function callee.Reverse h = refl
no_function callee.AllOnes h = refl
no_function callee.SomeOne h = refl
no_function callee.Parity h = refl
no_function callee.Update h = refl
no_function callee.Function h = absurd (h refl)
