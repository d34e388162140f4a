-- A piece that is written in parts.
use Rattle.std.proofs.Common.{ℕ, ◌+◌, List, ◌++◌, Option, None, Some, take, drop, ap, ◌∙◌}
use Rattle.std.proofs.lemmas.List.{append_assoc}
use Rattle.std.proofs.Math.Seq.{take-add}
use Rattle.std.specs.Io.KnownBytes.{Appends}
use Rattle.xb_io.specs.Sink.{AppendsPrefix}

-- two parts, one after the other
pub appends_both : (a b c : Option (List ℕ)) (xs ys : List ℕ) → Appends a b xs → Appends b c ys → Appends a c (xs ++ ys)
appends_both None b c xs ys first next = tt
appends_both (Some x) None c xs ys first next = absurd first
appends_both (Some x) (Some y) None xs ys first next = absurd next
appends_both (Some x) (Some y) (Some z) xs ys first next = next ∙ ap (λ front. front ++ ys) first ∙ append_assoc x xs ys

-- i bytes of the piece, and then n more
pub appends_more : (a b c : Option (List ℕ)) (xs : List ℕ) (i n : ℕ) → Appends a b (take i xs) → Appends b c (take n (drop i xs)) → Appends a c (take (i + n) xs)
appends_more a b c xs i n first next = rw take-add (appends_both a b c (take i xs) (take n (drop i xs)) first next)

pub prefix_more : (a b c : Option (List ℕ)) (xs : List ℕ) (i : ℕ) → Appends a b (take i xs) → AppendsPrefix b c (drop i xs) → AppendsPrefix a c xs
prefix_more a b c xs i first next = (i + next.0, appends_more a b c xs i next.0 first next.1)
