-- The channels of a module, one after the other.
use Rattle.std.proofs.Common.{◌≡◌, ◌<◌, ◌≤◌, ◌+◌, ◌-◌, ℕ, zero, suc, Bool, true, false, List, [], ◌∷◌, ◌++◌, map, take, drop, length, Option, Some, None, refl, sym, ap, ◌∙◌, subst, arith, append_assoc}
use Rattle.std.specs.Prelude.{if◌then◌else◌, bytes_eq, slice_get, option_map, unwrap_or, min, max, is_some, replicate}
use Rattle.std.proofs.lemmas.List.{append-nil}
use Rattle.std.specs.BTreeMap.{BTreeMap}
use Rattle.std.proofs.lemmas.Slice.Eq.{bytes_eq-Decides}
use denote.Ref.{Bor}
use Rattle.vlog_tree.specs.declared.module.Port.{Port}
use Rattle.vlog_tree.specs.Signals.{Channel, channel_of, channels_at}
use Rattle.cycle_sim.specs.declared.rows.channels.Shape.{Shape}
use Rattle.cycle_sim.specs.Rows.Inner.Known.{IsFirst, number_in, or_else, shape_of}
use Rattle.cycle_sim.specs.Rows.Said.{named_from, names_of}

-- some channels are known, and those of the ports that are left come behind them
pub record AreSoFar (channels : List Channel) (left : List Port) (numbers : BTreeMap (Bor (List ℕ)) ℕ) (shapes : List Shape) : Type 0 where
  pub done : List Channel
  pub are : channels ≡ done ++ channels_at left
  pub shapes_are : shapes ≡ map shape_of done
  pub numbers_are : (q : List ℕ) → number_in numbers q ≡ named_from 0 (names_of done) q

-- ---- one name more in a map

or_none : (o : Option ℕ) → o ≡ or_else o None
or_none None = refl
or_none (Some x) = refl

no_value : (o : Option ℕ) (v : ℕ) → is_some o ≡ true → o ≡ or_else o (Some v)
no_value None v h = absurd (cc)
no_value (Some x) v h = refl

new_value : (o : Option ℕ) (v : ℕ) → is_some o ≡ false → Some v ≡ or_else o (Some v)
new_value None v h = refl
new_value (Some x) v h = absurd (cc)

-- a name that is there stays
pub stays : (look : List ℕ → Option ℕ) (name : List ℕ) (v : ℕ) → is_some (look name) ≡ true → (q : List ℕ) → look q ≡ or_else (look q) (if bytes_eq name q then Some v else None)
stays look name v h q = by_case (bytes_eq name q) refl
  where
    by_case : (b : Bool) → bytes_eq name q ≡ b → look q ≡ or_else (look q) (if b then Some v else None)
    by_case true e = let same : name ≡ q = (bytes_eq-Decides name q).0 e in no_value (look q) v (ap (λ x. is_some (look x)) (sym same) ∙ h)
    by_case false e = or_none (look q)

-- a name that isn't there is put
pub comes : (look look' : List ℕ → Option ℕ) (name : List ℕ) (v : ℕ) → is_some (look name) ≡ false → ((q : List ℕ) → look' q ≡ (if bytes_eq name q then Some v else look q))
    → (q : List ℕ) → look' q ≡ or_else (look q) (if bytes_eq name q then Some v else None)
comes look look' name v h puts q = puts q ∙ by_case (bytes_eq name q) refl
  where
    by_case : (b : Bool) → bytes_eq name q ≡ b → (if b then Some v else look q) ≡ or_else (look q) (if b then Some v else None)
    by_case true e = let same : name ≡ q = (bytes_eq-Decides name q).0 e in new_value (look q) v (ap (λ x. is_some (look x)) (sym same) ∙ h)
    by_case false e = or_none (look q)

-- one name behind others
named_behind : (i : ℕ) (names : List (List ℕ)) (name q : List ℕ) → named_from i (names ++ name ∷ []) q ≡ or_else (named_from i names q) (if bytes_eq name q then Some (i + length names) else None)
named_behind i [] name q = go (bytes_eq name q)
  where
    go : (b : Bool) → (if b then Some i else None) ≡ (if b then Some (i + 0) else None)
    go true = ap Some (omega arith)
    go false = refl
named_behind i (n ∷ names) name q = go (bytes_eq n q) (named_behind (suc i) names name q)
  where
    same : suc i + length names ≡ i + length (n ∷ names)
    same = omega arith

    go : (b : Bool) → named_from (suc i) (names ++ name ∷ []) q ≡ or_else (named_from (suc i) names q) (if bytes_eq name q then Some (suc i + length names) else None)
        → (if b then Some i else named_from (suc i) (names ++ name ∷ []) q) ≡ or_else (if b then Some i else named_from (suc i) names q) (if bytes_eq name q then Some (i + length (n ∷ names)) else None)
    go true e = refl
    go false e = e ∙ ap (λ k. or_else (named_from (suc i) names q) (if bytes_eq name q then Some k else None)) same

pub none_known : (channels : List Channel) (left : List Port) (numbers : BTreeMap (Bor (List ℕ)) ℕ) → channels ≡ channels_at left → ((q : List ℕ) → number_in numbers q ≡ None) → AreSoFar channels left numbers []
none_known channels left numbers e none = record { done = []; are = e; shapes_are = refl; numbers_are = none }

names_more : (done : List Channel) (c : Channel) → names_of (done ++ c ∷ []) ≡ names_of done ++ c.name ∷ []
names_more [] c = refl
names_more (d ∷ done) c = ap (λ ns. d.name ∷ ns) (names_more done c)

shapes_more : (done : List Channel) (c : Channel) → map shape_of (done ++ c ∷ []) ≡ map shape_of done ++ shape_of c ∷ []
shapes_more [] c = refl
shapes_more (d ∷ done) c = ap (λ ns. shape_of d ∷ ns) (shapes_more done c)

length_names : (done : List Channel) → length (names_of done) ≡ length (map shape_of done)
length_names [] = refl
length_names (d ∷ done) = ap suc (length_names done)

pub one_more_known : (channels : List Channel) (left rest : List Port) (data_port : Port) (old new : BTreeMap (Bor (List ℕ)) ℕ) (shapes : List Shape) (name : List ℕ) (number : ℕ) (shape : Shape)
    → AreSoFar channels left old shapes → IsFirst left data_port rest → name ≡ (channel_of data_port).name → number ≡ length shapes → shape ≡ shape_of (channel_of data_port)
    → ((q : List ℕ) → number_in new q ≡ or_else (number_in old q) (if bytes_eq name q then Some number else None))
    → AreSoFar channels rest new (shapes ++ shape ∷ [])
one_more_known channels left rest data_port old new shapes name number shape s first named offset shaped put = record {
  done = s.done ++ channel_of data_port ∷ [];
  are = s.are ∙ ap (λ cs. s.done ++ cs) first.channels ∙ sym (append_assoc s.done (channel_of data_port ∷ []) (channels_at rest));
  shapes_are = ap (λ x. shapes ++ x ∷ []) shaped ∙ ap (λ xs. xs ++ shape_of (channel_of data_port) ∷ []) s.shapes_are ∙ sym (shapes_more s.done (channel_of data_port));
  numbers_are = λ q.
      put q
      ∙ ap (λ o. or_else o (if bytes_eq name q then Some number else None)) (s.numbers_are q)
      ∙ ap (λ n. or_else (named_from 0 (names_of s.done) q) (if bytes_eq n q then Some number else None)) named
      ∙ ap (λ k. or_else (named_from 0 (names_of s.done) q) (if bytes_eq (channel_of data_port).name q then Some k else None)) (offset ∙ ap length s.shapes_are ∙ sym (length_names s.done) ∙ zero_plus (length (names_of s.done)))
      ∙ sym (named_behind 0 (names_of s.done) (channel_of data_port).name q)
      ∙ ap (λ ns. named_from 0 ns q) (sym (names_more s.done (channel_of data_port)));
}
  where
    zero_plus : (n : ℕ) → n ≡ 0 + n
    zero_plus n = omega arith

pub all_known : (channels : List Channel) (left : List Port) (numbers : BTreeMap (Bor (List ℕ)) ℕ) (shapes : List Shape) → AreSoFar channels left numbers shapes → channels_at left ≡ []
    → ((q : List ℕ) → number_in numbers q ≡ named_from 0 (names_of channels) q) × (shapes ≡ map shape_of channels)
all_known channels left numbers shapes s none =
    let whole : channels ≡ s.done = s.are ∙ ap (λ cs. s.done ++ cs) none ∙ append-nil s.done in
    (λ q. s.numbers_are q ∙ ap (λ cs. named_from 0 (names_of cs) q) (sym whole), s.shapes_are ∙ ap (map shape_of) (sym whole))
