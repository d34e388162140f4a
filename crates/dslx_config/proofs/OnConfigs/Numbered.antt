-- Ends by their numbers, one after another.
use Rattle.std.proofs.Common.{◌≡◌, ◌∙◌, ◌<◌, ◌+◌, ℕ, suc, List, [], ◌∷◌, ◌++◌, drop, length, get_or, map, refl, sym, ap, arith}
use Rattle.std.proofs.Math.Seq.{drop-cons}
use Rattle.dslx_tree.specs.declared.process.Channel.{Channel}
use Rattle.dslx_tree.specs.declared.process.End.{End}
use Rattle.dslx_tree.specs.declared.process.ConfigStatement.{ConfigStatement}
use Rattle.dslx_tree.specs.declared.process.ConfigStatement.TheVariants as config_statement
use Rattle.dslx_meaning.specs.Network.{Held, made_ends, outer_ends}
use Rattle.dslx_config.specs.Configs.Shown.{held}
use Rattle.dslx_config.specs.declared.configs.end.NumberedEnd.{NumberedEnd}

one_more : (ends : List NumberedEnd) (n : NumberedEnd) (rest : List Held) → map held (ends ++ n ∷ []) ++ rest ≡ map held ends ++ held n ∷ rest
one_more [] n rest = refl
one_more (e ∷ es) n rest = ap (λ (hs : List Held). held e ∷ hs) (one_more es n rest)

-- both ends of a channel
pub two_more : (ends : List NumberedEnd) (a b : NumberedEnd) → map held ((ends ++ a ∷ []) ++ b ∷ []) ≡ map held ends ++ held a ∷ held b ∷ []
two_more [] a b = refl
two_more (e ∷ es) a b = ap (λ (hs : List Held). held e ∷ hs) (two_more es a b)

-- the next end that is given
pub next_given : (ends : List NumberedEnd) (n : NumberedEnd) (given : List End) (i : ℕ) (e : End) → i < length given → e ≡ get_or given i e → held n ≡ record { name = e.name.name; channel = i }
    → map held (ends ++ n ∷ []) ++ outer_ends (i + 1) (drop (i + 1) given) ≡ map held ends ++ outer_ends i (drop i given)
next_given ends n given i e within at is =
    let next : i + 1 ≡ suc i = omega arith in
    one_more ends n (outer_ends (i + 1) (drop (i + 1) given))
    ∙ (λ k. map held ends ++ is k ∷ outer_ends (next k) (drop (next k) given))
    ∙ sym (ap (λ (es : List End). map held ends ++ outer_ends i es) (drop-cons given i e within ∙ ap (λ (d : End). d ∷ drop (suc i) given) (sym at)))

two_before : (hs : List Held) (a b : Held) (rest : List Held) → (hs ++ a ∷ b ∷ []) ++ rest ≡ hs ++ a ∷ b ∷ rest
two_before [] a b rest = refl
two_before (h ∷ hs) a b rest = ap (λ (gs : List Held). h ∷ gs) (two_before hs a b rest)

-- a channel, and those behind it
pub channel_numbered : (old new : List Held) (number : ℕ) (c : Channel) → new ≡ old ++ made_ends number (config_statement.Channel c ∷ [])
    → (rest : List ConfigStatement) → new ++ made_ends (number + 1) rest ≡ old ++ made_ends number (config_statement.Channel c ∷ rest)
channel_numbered old new number c is rest =
    let next : number + 1 ≡ suc number = omega arith in
    (λ k. is k ++ made_ends (next k) rest)
    ∙ two_before old (record { name = c.sender.name; channel = number }) (record { name = c.receiver.name; channel = number }) (made_ends (suc number) rest)
