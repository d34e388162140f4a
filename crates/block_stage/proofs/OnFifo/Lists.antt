-- The list of a FIFO.
use Rattle.std.proofs.Common.{◌≡◌, ℕ, ◌<◌, ◌≤◌, List, [], ◌∷◌, ◌++◌, length, drop, refl, sym, ap, ◌∙◌, subst, arith, cond, true, false, Bool, Option, Some, None, append_assoc}
use Rattle.std.specs.Prelude.{nat_lt, option_to_list}
use Rattle.std.proofs.lemmas.Bool.Decides.{nat_tests}
use Rattle.std.proofs.lemmas.List.{length-append}
use Rattle.base.specs.Lists.Prefix.{IsPrefix}
use Rattle.base.proofs.Lemmas.Lists.Prefixes.{IsPrefix-append}
use Rattle.block_stage.specs.Fifo.Fifo.{given_in, put_in, after_cycle, SinceReset, empty, one_more, Cycle, after_cycles}

-- what is left behind what is given
abbrev pub kept_in : {A : Type 0} → List A → Bool → List A
kept_in words ready = cond ready (drop 1 words) words

pub given_then_kept : {A : Type 0} (words : List A) (ready : Bool) → words ≡ given_in words ready ++ kept_in words ready
given_then_kept [] true = refl
given_then_kept [] false = refl
given_then_kept (w ∷ ws) true = refl
given_then_kept (w ∷ ws) false = refl

-- what was put in is what was given and what is in it
pub put_is_all : {A : Type 0} (put given words : List A) (ready : Bool) (new : List A) → put ≡ given ++ words
    → put ++ new ≡ (given ++ given_in words ready) ++ (kept_in words ready ++ new)
put_is_all put given words ready new e =
    ap (λ z. z ++ new) (e ∙ ap (λ z. given ++ z) (given_then_kept words ready) ∙ sym (append_assoc given (given_in words ready) (kept_in words ready)))
    ∙ append_assoc (given ++ given_in words ready) (kept_in words ready) new

all_put : {A : Type 0} (depth : ℕ) (cycles : List (Cycle A)) (since : SinceReset A) → since.put ≡ since.given ++ since.words
    → (after_cycles depth since cycles).put ≡ (after_cycles depth since cycles).given ++ (after_cycles depth since cycles).words
all_put depth [] since e = e
all_put depth (cycle ∷ more) since e =
    all_put depth more (one_more depth since cycle.ready cycle.valid_data) (put_is_all since.put since.given since.words cycle.ready (put_in depth since.words cycle.valid_data) e)

prefix_of : {A : Type 0} (xs ys zs : List A) → zs ≡ xs ++ ys → IsPrefix xs zs
prefix_of xs ys zs e = subst (IsPrefix xs) (sym e) (IsPrefix-append xs ys)

pub given_words_are_a_prefix : {A : Type 0} (depth : ℕ) (cycles : List (Cycle A)) → IsPrefix (after_cycles depth (empty {A = A}) cycles).given (after_cycles depth (empty {A = A}) cycles).put
given_words_are_a_prefix depth cycles = prefix_of _ _ _ (all_put depth cycles empty refl)

pub given_words_were_put_before : {A : Type 0} (depth : ℕ) (cycles : List (Cycle A)) (ready : Bool) (valid_data : Option A)
    → IsPrefix (one_more depth (after_cycles depth (empty {A = A}) cycles) ready valid_data).given (after_cycles depth (empty {A = A}) cycles).put
given_words_were_put_before depth cycles ready valid_data =
    let since = after_cycles depth empty cycles in
    prefix_of _ (kept_in since.words ready) _
    (all_put depth cycles empty refl ∙ ap (λ z. since.given ++ z) (given_then_kept since.words ready) ∙ sym (append_assoc since.given (given_in since.words ready) (kept_in since.words ready)))

kept_length : {A : Type 0} (words : List A) (ready : Bool) → length (kept_in words ready) ≤ length words
kept_length [] true = omega arith
kept_length [] false = omega arith
kept_length (w ∷ ws) true = omega arith
kept_length (w ∷ ws) false = omega arith

pub lt_true : (a b : ℕ) → a < b → nat_lt a b ≡ true
lt_true a b h = grind (arith, nat_tests)

pub lt_from : (a b : ℕ) → nat_lt a b ≡ true → a < b
lt_from a b h = grind (arith, nat_tests)

pub fits_on : {A : Type 0} (depth : ℕ) (words : List A) (ready : Bool) (valid_data : Option A) → length words ≤ depth → length (after_cycle depth words ready valid_data) ≤ depth
fits_on {A = A} depth words ready valid_data l = go valid_data (nat_lt (length words) depth) refl
  where
    short : length (kept_in words ready) ≤ length words
    short = kept_length words ready

    go : (valid_data : Option A) (room : Bool) → nat_lt (length words) depth ≡ room → length (kept_in words ready ++ cond room (option_to_list valid_data) []) ≤ depth
    go valid_data false e = let h = length-append (kept_in words ready) [] in omega (arith, h, short)
    go None true e = let h = length-append (kept_in words ready) [] in omega (arith, h, short)
    go (Some w) true e = let h = length-append (kept_in words ready) (w ∷ []) in let r = lt_from _ _ e in omega (arith, h, short, r)

all_fit : {A : Type 0} (depth : ℕ) (cycles : List (Cycle A)) (since : SinceReset A) → length since.words ≤ depth → length (after_cycles depth since cycles).words ≤ depth
all_fit depth [] since l = l
all_fit depth (cycle ∷ more) since l = all_fit depth more (one_more depth since cycle.ready cycle.valid_data) (fits_on depth since.words cycle.ready cycle.valid_data l)

pub words_fit_the_depth : {A : Type 0} (depth : ℕ) (cycles : List (Cycle A)) → length (after_cycles depth (empty {A = A}) cycles).words ≤ depth
words_fit_the_depth depth cycles = all_fit depth cycles empty (omega arith)
