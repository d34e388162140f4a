-- A row without items, channel by channel.
use Rattle.std.proofs.Common.{◌≡◌, ◌<◌, ◌≤◌, ◌+◌, ℕ, zero, suc, Bool, true, false, List, [], ◌∷◌, ◌++◌, map, replicate, drop, length, get_or, refl, sym, ap, ap₂, ◌∙◌, subst, arith, append_assoc, append-nil}
use Rattle.vlog_tree.specs.declared.row.Drive.{Drive}
use Rattle.vlog_tree.specs.Signals.{Channel}
use Rattle.cycle_sim.specs.declared.rows.channels.Shape.{Shape}
use Rattle.cycle_sim.specs.Rows.Inner.Known.{shape_of}
use Rattle.cycle_sim.specs.Rows.Said.{rest_at}

abbrev pub rest_of : Shape → Drive
rest_of s = rest_at s.direction

-- so many channels have a drive
pub record AreBlank (shapes : List Shape) (i : ℕ) (named : List Bool) (drives : List Drive) : Type 0 where
  pub named_are : named ≡ replicate i false
  pub drives_are : drives ++ map rest_of (drop i shapes) ≡ map rest_of shapes

pub none_blank : (shapes : List Shape) → AreBlank shapes 0 [] []
none_blank shapes = record { named_are = refl; drives_are = refl }

replicate_more : (i : ℕ) → replicate i false ++ false ∷ [] ≡ replicate (suc i) false
replicate_more zero = refl
replicate_more (suc i) = ap (λ xs. false ∷ xs) (replicate_more i)

drop_one : (shapes : List Shape) (i : ℕ) (s : Shape) → i < length shapes → s ≡ get_or shapes i s → drop i shapes ≡ s ∷ drop (suc i) shapes
drop_one [] i s h e = absurd (omega (arith, h))
drop_one (x ∷ shapes) zero s h e = ap (λ y. y ∷ shapes) (sym e)
drop_one (x ∷ shapes) (suc i) s h e = drop_one shapes i s (omega (arith, h)) e

pub one_more_blank : (shapes : List Shape) (i j : ℕ) (s : Shape) (named : List Bool) (drives : List Drive) (drive : Drive) → i < length shapes → s ≡ get_or shapes i s → drive ≡ rest_of s → j ≡ i + 1
    → AreBlank shapes i named drives → AreBlank shapes j (named ++ false ∷ []) (drives ++ drive ∷ [])
one_more_blank shapes i j s named drives drive h e d k b =
    let j_is : suc i ≡ j = omega (arith, k) in
    record {
      named_are = ap (λ xs. xs ++ false ∷ []) b.named_are ∙ replicate_more i ∙ ap (λ n. replicate n false) j_is;
      drives_are =
          append_assoc drives (drive ∷ []) (map rest_of (drop j shapes))
          ∙ ap (λ x. drives ++ x ∷ map rest_of (drop j shapes)) d
          ∙ ap (λ n. drives ++ rest_of s ∷ map rest_of (drop n shapes)) (sym j_is)
          ∙ ap (λ xs. drives ++ map rest_of xs) (sym (drop_one shapes i s h e))
          ∙ b.drives_are;
    }

drop_all : (i : ℕ) (shapes : List Shape) → length shapes ≤ i → drop i shapes ≡ []
drop_all zero [] h = refl
drop_all zero (x ∷ shapes) h = absurd (omega (arith, h))
drop_all (suc i) [] h = refl
drop_all (suc i) (x ∷ shapes) h = drop_all i shapes (omega (arith, h))

rests : (channels : List Channel) → map rest_of (map shape_of channels) ≡ map (λ (c : Channel). rest_at c.direction) channels
rests [] = refl
rests (c ∷ channels) = ap (λ xs. rest_at c.direction ∷ xs) (rests channels)

count : (channels : List Channel) → length (map shape_of channels) ≡ length channels
count [] = refl
count (c ∷ channels) = ap suc (count channels)

pub all_blank : (shapes : List Shape) (i : ℕ) (named : List Bool) (drives : List Drive) (channels : List Channel) → AreBlank shapes i named drives → i ≡ length shapes → shapes ≡ map shape_of channels
    → (named ≡ replicate (length channels) false) × (drives ≡ map (λ (c : Channel). rest_at c.direction) channels)
all_blank shapes i named drives channels b e f =
    let over : length shapes ≤ i = omega (arith, e) in (
      b.named_are ∙ ap (λ n. replicate n false) (e ∙ ap length f ∙ count channels),
      sym (append-nil drives) ∙ ap (λ xs. drives ++ map rest_of xs) (sym (drop_all i shapes over)) ∙ b.drives_are ∙ ap (map rest_of) f ∙ rests channels,
    )
