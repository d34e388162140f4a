-- A line that is put in pieces.
use Rattle.std.proofs.Common.{◌≡◌, ◌<◌, ◌+◌, ℕ, zero, suc, min, List, [], ◌∷◌, ◌++◌, take, length, get_or, Option, Some, None, refl, ap, sym, ◌∙◌, subst, arith, inl, inr, ◌⊎◌, Result, Ok, Err}
use Rattle.std.specs.Prelude.{flat_map, OnOk, OnErr}
use Rattle.std.proofs.lemmas.List.{append_assoc, append-nil, take-append-le, take_min}
use Rattle.std.specs.Io.KnownBytes.{Appends}
use Rattle.xb_io.specs.Sink.{AppendsPrefix}
use Rattle.xb_io.specs.Counts.{HasRisen}

-- a piece stands in the line behind the pieces before it
pub piece_in_line : {X : Type 0} (f : X → List ℕ) (pieces : List X) (i : ℕ) (d : X) → i < length pieces → (rest : List ℕ) × (flat_map f pieces ≡ flat_map f (take i pieces) ++ (f (get_or pieces i d) ++ rest))
piece_in_line f [] i d within = absurd (omega arith)
piece_in_line f (x ∷ xs) zero d within = (flat_map f xs, refl)
piece_in_line f (x ∷ xs) (suc i) d within =
    let later = piece_in_line f xs i d (omega arith) in
    (later.0, ap (λ t. f x ++ t) later.1 ∙ sym (append_assoc (f x) (flat_map f (take i xs)) (f (get_or xs i d) ++ later.0)))

-- a front, and a front of what follows it
take_behind : (front piece rest : List ℕ) (n : ℕ) → front ++ take n piece ≡ take (length front + min n (length piece)) (front ++ (piece ++ rest))
take_behind [] piece rest n =
    let start : length {A = ℕ} [] + min n (length piece) ≡ min n (length piece) = omega arith in
    sym (take_min n piece) ∙ sym (take-append-le (min n (length piece)) piece rest (omega arith)) ∙ ap (λ k. take k (piece ++ rest)) (sym start)
take_behind (c ∷ cs) piece rest n =
    let more : length (c ∷ cs) + min n (length piece) ≡ suc (length cs + min n (length piece)) = omega arith in
    ap (λ t. c ∷ t) (take_behind cs piece rest n) ∙ ap (λ k. take k (c ∷ (cs ++ (piece ++ rest)))) (sym more)

-- a front, and then a front of the piece behind it
pub appends_then_prefix : (old mid new : Option (List ℕ)) (front piece rest : List ℕ) → Appends old mid front → AppendsPrefix mid new piece → AppendsPrefix old new (front ++ (piece ++ rest))
appends_then_prefix None mid new front piece rest first then = (0, tt)
appends_then_prefix (Some bytes) None new front piece rest first then = absurd first
appends_then_prefix (Some bytes) (Some more) None front piece rest first then = absurd then.1
appends_then_prefix (Some bytes) (Some more) (Some all) front piece rest first then = (
  length front + min then.0 (length piece),
  then.1 ∙ ap (λ b. b ++ take then.0 piece) first ∙ append_assoc bytes front (take then.0 piece) ∙ ap (λ t. bytes ++ t) (take_behind front piece rest then.0),
)

-- the line as far as a piece that broke off
pub breaks_off_at : {X : Type 0} (f : X → List ℕ) (pieces : List X) (i : ℕ) (d : X) (old mid new : Option (List ℕ)) → i < length pieces →
    Appends old mid (flat_map f (take i pieces)) → AppendsPrefix mid new (f (get_or pieces i d)) → AppendsPrefix old new (flat_map f pieces)
breaks_off_at f pieces i d old mid new within first broken =
    let split = piece_in_line f pieces i d within in
    subst (λ line. AppendsPrefix old new line) (sym split.1) (appends_then_prefix old mid new (flat_map f (take i pieces)) (f (get_or pieces i d)) split.0 first broken)

-- what stays as it is has grown by nothing
appends_nothing : (a : Option (List ℕ)) → Appends a a []
appends_nothing None = tt
appends_nothing (Some bytes) = sym (append-nil bytes)

appends_both : (a b c : Option (List ℕ)) (xs ys : List ℕ) → Appends a b xs → Appends b c ys → Appends a c (xs ++ ys)
appends_both None b c xs ys first next = tt
appends_both (Some x) None c xs ys first next = absurd first
appends_both (Some x) (Some y) None xs ys first next = absurd next
appends_both (Some x) (Some y) (Some z) xs ys first next = next ∙ ap (λ front. front ++ ys) first ∙ append_assoc x xs ys

-- Three parts that are put one after the other, by the counts of faults: it breaks off in the first, in the second, or in the last.
pub breaks_in_first : (a b : Option (List ℕ)) (x y z : List ℕ) (m n : ℕ) → AppendsPrefix a b x → HasRisen m n → AppendsPrefix a b ((x ++ y) ++ z) × HasRisen m n
breaks_in_first a b x y z m n broken risen = (rw append_assoc (appends_then_prefix a a b [] x (y ++ z) (appends_nothing a) broken), risen)

pub breaks_in_second : (a b c : Option (List ℕ)) (x y z : List ℕ) (m k n : ℕ) → Appends a b x → k ≡ m → AppendsPrefix b c y → HasRisen k n → AppendsPrefix a c ((x ++ y) ++ z) × HasRisen m n
breaks_in_second a b c x y z m k n first same broken risen = (rw append_assoc (appends_then_prefix a b c x y z first broken), rw same at risen)

pub breaks_in_last : (a b c d : Option (List ℕ)) (x y z : List ℕ) (m k j n : ℕ) → Appends a b x → k ≡ m → Appends b c y → j ≡ k → AppendsPrefix c d z → HasRisen j n →
    AppendsPrefix a d ((x ++ y) ++ z) × HasRisen m n
breaks_in_last a b c d x y z m k j n first same next still broken risen = (
  rw append-nil at (appends_then_prefix a c d (x ++ y) z [] (appends_both a b c x y first next) broken),
  rw (still ∙ same) at risen,
)

-- it was put, or it broke off
pub shown : {E : Type 0} (P Q : Type 0) (r : Result (Unit {0}) E) → OnOk r P → OnErr r Q → P ⊎ Q
shown P Q (Ok done) ok failed = inl ok
shown P Q (Err e) ok failed = inr failed

pub on_err : {T E : Type 0} {P : Type 0} (r : Result T E) → P → OnErr r P
on_err (Ok x) p = tt
on_err (Err e) p = p

pub on_err_map : {T E : Type 0} {P Q : Type 0} (r : Result T E) → (P → Q) → OnErr r P → OnErr r Q
on_err_map (Ok x) f p = tt
on_err_map (Err e) f p = f p
