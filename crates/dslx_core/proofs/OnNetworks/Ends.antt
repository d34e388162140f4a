-- The channels of ends, from the ends' numbers.
use Rattle.std.proofs.Common.{◌≡◌, ◌++◌, ◌+◌, ◌-◌, ◌≤◌, ℕ, zero, suc, Bool, true, false, if◌then◌else◌, List, [], ◌∷◌, map, length, Some, refl, sym, ap, ◌∙◌, arith}
use Rattle.std.specs.Prelude.{slice_get, get_or}
use Rattle.std.specs.Str.{bytes_eq}
use Rattle.std.proofs.lemmas.List.{map-append, get_or_past}
use Rattle.dslx_tree.specs.declared.ident.Ident.{Ident}
use Rattle.dslx_tree.specs.declared.process.Proc.{Proc}
use Rattle.dslx_tree.specs.declared.process.End.{End}
use Rattle.dslx_tree.specs.declared.process.ConfigStatement.{ConfigStatement}
use Rattle.dslx_tree.specs.declared.process.ConfigStatement.TheVariants as config_statement
use Rattle.dslx_meaning.specs.Network.{Held, channel_held, channels_of_ends, handed_over, made_ends, outer_ends}
use Rattle.dslx_core.proofs.Lemmas.Typing.Typed.{all_there, list_parts, none_some, same_some}
use Rattle.dslx_core.specs.Designs.{channel_of_end}
use Rattle.dslx_core.specs.Networks.Ends.{end_number, end_numbers, numbered_ends}

-- the ends with the channels of their numbers
abbrev pub at_channels : (ℕ → ℕ) → List Held → List Held
at_channels f hs = map (λ (h : Held). record { name = h.name; channel = f h.channel }) hs

held_at : (f : ℕ → ℕ) (name : List ℕ) (hs : List Held) (k : ℕ) → end_number name hs ≡ Some k → channel_held name (at_channels f hs) ≡ f k
held_at f name [] k e = none_some k e
held_at f name (h ∷ hs) k e = by_name (bytes_eq name h.name) e (held_at f name hs k)
  where
    by_name : (b : Bool) → (if b then Some h.channel else end_number name hs) ≡ Some k → (end_number name hs ≡ Some k → channel_held name (at_channels f hs) ≡ f k)
        → (if b then f h.channel else channel_held name (at_channels f hs)) ≡ f k
    by_name true q rest = ap f (same_some h.channel k q)
    by_name false q rest = rest q

pub each_held_at : (f : ℕ → ℕ) (hs : List Held) (idents : List Ident) (ks : List ℕ) → end_numbers hs idents ≡ Some ks → channels_of_ends (at_channels f hs) idents ≡ map f ks
each_held_at f hs idents ks e = go idents ks (all_there (map (λ (i : Ident). end_number i.name hs) idents) ks e)
  where
    go : (is : List Ident) (js : List ℕ) → map (λ (i : Ident). end_number i.name hs) is ≡ map Some js → channels_of_ends (at_channels f hs) is ≡ map f js
    go [] [] q = refl
    go [] (j ∷ js) q = absurd (none_here (ap length q))
      where
        none_here : 0 ≡ suc (length (map Some js)) → ⊥
        none_here h = omega (arith, h)
    go (i ∷ is) [] q = absurd (one_here (ap length q))
      where
        one_here : suc (length (map (λ (i : Ident). end_number i.name hs) is)) ≡ 0 → ⊥
        one_here h = omega (arith, h)
    go (i ∷ is) (j ∷ js) q =
        let parts = list_parts (end_number i.name hs) (Some j) (map (λ (i : Ident). end_number i.name hs) is) (map Some js) q in
        λ t. held_at f i.name hs j parts.0 t ∷ go is js parts.1 t

-- both ends of the channels that are made, from one number and from another
made_at : (f : ℕ → ℕ) (n number : ℕ) (ms : List ConfigStatement) → ((j : ℕ) → f (n + j) ≡ number + j) → made_ends number ms ≡ at_channels f (made_ends n ms)
made_at f n number [] h = refl
made_at f n number (config_statement.Spawn s ∷ ms) h = made_at f n number ms h
made_at f n number (config_statement.Channel c ∷ ms) h =
    λ i. record { name = c.sender.name; channel = first i } ∷ record { name = c.receiver.name; channel = first i } ∷ made_at f (suc n) (suc number) ms further i
  where
    first : number ≡ f n
    first = let a : number ≡ number + 0 = omega arith in let b : n + 0 ≡ n = omega arith in a ∙ sym (h 0) ∙ ap f b

    further : (j : ℕ) → f (suc n + j) ≡ suc number + j
    further j = let a : suc n + j ≡ n + suc j = omega arith in let b : number + suc j ≡ suc number + j = omega arith in ap f a ∙ h (suc j) ∙ b

-- the ends that are handed over
given_at : (f : ℕ → ℕ) (n : ℕ) (es : List End) (given : List ℕ) → length given ≡ length es → ((j c : ℕ) → slice_get given j ≡ Some c → f (n + j) ≡ c)
    → handed_over es given ≡ at_channels f (outer_ends n es)
given_at f n [] [] e h = refl
given_at f n [] (c ∷ cs) e h = refl
given_at f n (x ∷ es) [] e h = absurd (omega (arith, e))
given_at f n (x ∷ es) (c ∷ cs) e h = λ i. record { name = x.name.name; channel = first i } ∷ given_at f (suc n) es cs (let q : length cs ≡ length es = omega (arith, e) in q) further i
  where
    first : c ≡ f n
    first = let a : n + 0 ≡ n = omega arith in sym (h 0 c refl) ∙ ap f a

    further : (j d : ℕ) → slice_get cs j ≡ Some d → f (suc n + j) ≡ d
    further j d q = let a : suc n + j ≡ n + suc j = omega arith in ap f a ∙ h (suc j) d q

got : (xs : List ℕ) (j c d : ℕ) → slice_get xs j ≡ Some c → get_or xs j d ≡ c
got [] zero c d e = none_some c e
got [] (suc j) c d e = none_some c e
got (x ∷ xs) zero c d e = same_some x c e
got (x ∷ xs) (suc j) c d e = got xs j c d e

-- the ends of a `config` at the channels that it is given and those that it makes
pub ends_at : (p : Proc) (given : List ℕ) (number : ℕ) → length given ≡ length p.config.ends
    → handed_over p.config.ends given ++ made_ends number p.config.config_statements ≡ at_channels (channel_of_end given number) (numbered_ends p)
ends_at p given number e =
    (λ i. given_at f 0 p.config.ends given e (λ j c q. ap f (none_added j) ∙ got given j c (number + (j - length given)) q) i ++ made_at f (length p.config.ends) number p.config.config_statements behind i)
    ∙ sym (map-append (λ (h : Held). record { name = h.name; channel = f h.channel }) (outer_ends 0 p.config.ends) (made_ends (length p.config.ends) p.config.config_statements))
  where
    f : ℕ → ℕ
    f = channel_of_end given number

    none_added : (j : ℕ) → 0 + j ≡ j
    none_added j = omega arith

    behind : (j : ℕ) → f (length p.config.ends + j) ≡ number + j
    behind j =
        let past : length given ≤ length p.config.ends + j = omega (arith, e) in
        let count : number + (length p.config.ends + j - length given) ≡ number + j = omega (arith, e) in
        get_or_past given (length p.config.ends + j) (number + (length p.config.ends + j - length given)) past ∙ count

-- the channels of named ends
pub channels_at : (p : Proc) (given : List ℕ) (number : ℕ) → length given ≡ length p.config.ends → (idents : List Ident) (ks : List ℕ) → end_numbers (numbered_ends p) idents ≡ Some ks
    → channels_of_ends (handed_over p.config.ends given ++ made_ends number p.config.config_statements) idents ≡ map (channel_of_end given number) ks
channels_at p given number e idents ks k =
    ap (λ hs. channels_of_ends hs idents) (ends_at p given number e) ∙ each_held_at (channel_of_end given number) (numbered_ends p) idents ks k
