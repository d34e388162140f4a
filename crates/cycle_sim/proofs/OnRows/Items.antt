-- The items of a row, one after the other.
use Rattle.std.proofs.Common.{◌≡◌, ◌≢◌, ◌<◌, ◌≤◌, ℕ, zero, suc, Bool, true, false, List, [], ◌∷◌, ◌++◌, length, All, refl, sym, ap, ◌∙◌, subst, arith}
use Rattle.std.specs.Prelude.{if◌then◌else◌, ◌&&◌}
use Rattle.std.specs.List.{AllByRecursion}
use Rattle.vlog_tree.specs.Signals.{Channel}
use Rattle.cycle_sim.specs.declared.rows.draft.Draft.{Draft}
use Rattle.cycle_sim.specs.declared.rows.item.Said.{Said}
use Rattle.cycle_sim.specs.Rows.Forms.{before_piece, is_repeat, open_behind, parts_here, pieces_of, repeats_of, times_of, without_repeat}
use Rattle.cycle_sim.specs.Rows.Said.{SaysItem, SaysItems, done, next, noted}

-- some items were read: whatever the rest says of channels that are known so completes what all of them say
pub record AreItemsSoFar (Known : List Channel → Type 0) (all left : List (List ℕ)) (first now : Draft) : Type 0 where
  pub times : times_of all ≡ times_of left
  pub says : (channels : List Channel) → Known channels → (e : Draft) → SaysItems channels (without_repeat left) now e → SaysItems channels (without_repeat all) first e

pub no_items : (Known : List Channel → Type 0) (all : List (List ℕ)) (first : Draft) → AreItemsSoFar Known all all first first
no_items Known all first = record { times = refl; says = λ channels k e h. h }

-- an item that isn't the repeat at the end
kept : (piece : List ℕ) (rest : List (List ℕ)) → (rest ≡ [] → is_repeat piece ≡ false) → without_repeat (piece ∷ rest) ≡ piece ∷ without_repeat rest
kept piece [] h = ap (λ b. if b then [] else (piece ∷ [])) (h refl)
kept piece (p ∷ rest) h = refl

same_times : (piece : List ℕ) (rest : List (List ℕ)) → (rest ≡ [] → is_repeat piece ≡ false) → times_of (piece ∷ rest) ≡ times_of rest
same_times piece [] h = ap (λ b. if b then repeats_of piece else 1) (h refl)
same_times piece (p ∷ rest) h = refl

pub one_item : (Known : List Channel → Type 0) (all left rest : List (List ℕ)) (piece : List ℕ) (first now : Draft) (said : Said) → AreItemsSoFar Known all left first now
    → left ≡ piece ∷ rest → (rest ≡ [] → is_repeat piece ≡ false) → ((channels : List Channel) → Known channels → SaysItem channels now.named piece said) → AreItemsSoFar Known all rest first (noted said now)
one_item Known all left rest piece first now said so_far e other says = record {
  times = so_far.times ∙ ap times_of e ∙ same_times piece rest other;
  says = λ channels k end h. so_far.says channels k end
      (subst (λ ps. SaysItems channels ps now end) (sym (ap without_repeat e ∙ kept piece rest other)) (next piece (without_repeat rest) now end said (says channels k) h));
}

-- the repeat at the end
pub at_repeat : (Known : List Channel → Type 0) (all left : List (List ℕ)) (piece : List ℕ) (first now : Draft) → AreItemsSoFar Known all left first now → left ≡ piece ∷ [] → is_repeat piece ≡ true
    → (channels : List Channel) → Known channels → SaysItems channels (without_repeat all) first now
at_repeat Known all left piece first now so_far e is channels k =
    so_far.says channels k now (subst (λ ps. SaysItems channels ps now now) (sym (ap without_repeat e ∙ ap (λ b. if b then [] else (piece ∷ [])) is)) (done now))

pub times_there : (Known : List Channel → Type 0) (all left : List (List ℕ)) (piece : List ℕ) (first now : Draft) → AreItemsSoFar Known all left first now → left ≡ piece ∷ [] → is_repeat piece ≡ true → repeats_of piece ≡ times_of all
times_there Known all left piece first now so_far e is = sym (so_far.times ∙ ap times_of e ∙ ap (λ b. if b then repeats_of piece else 1) is)

-- the end without a repeat
pub at_end : (Known : List Channel → Type 0) (all left : List (List ℕ)) (first now : Draft) → AreItemsSoFar Known all left first now → left ≡ [] → (channels : List Channel) → Known channels → SaysItems channels (without_repeat all) first now
at_end Known all left first now so_far e channels k = so_far.says channels k now (subst (λ ps. SaysItems channels (without_repeat ps) now now) (sym e) (done now))

pub once : (Known : List Channel → Type 0) (all left : List (List ℕ)) (first now : Draft) → AreItemsSoFar Known all left first now → left ≡ [] → 1 ≡ times_of all
once Known all left first now so_far e = sym (so_far.times ∙ ap times_of e)

-- ---- pieces are no longer than their line

abbrev AreShort : ℕ → List (List ℕ) → Type 0
AreShort n ps = AllByRecursion (λ piece. length piece ≤ n) ps

shorter : (n m : ℕ) (ps : List (List ℕ)) → n ≤ m → AreShort n ps → AreShort m ps
shorter n m [] h a = tt
shorter n m (p ∷ ps) h a = (omega (arith, h, a.0), shorter n m ps h a.1)

before_short : (c n : ℕ) (ps : List (List ℕ)) → AreShort n ps → AreShort (suc n) (before_piece c ps)
before_short c n [] a = (omega arith, tt)
before_short c n (p ∷ ps) a = (omega (arith, a.0), shorter n (suc n) ps (omega arith) a.1)

pieces_le : (depth : ℕ) (line : List ℕ) → AreShort (length line) (pieces_of depth line)
pieces_le depth [] = (omega arith, tt)
pieces_le depth (c ∷ cs) = go (parts_here depth c) (pieces_le 0 cs) (before_short c (length cs) (pieces_of (open_behind depth c) cs) (pieces_le (open_behind depth c) cs))
  where
    go : (b : Bool) → AreShort (length cs) (pieces_of 0 cs) → AreShort (suc (length cs)) (before_piece c (pieces_of (open_behind depth c) cs))
        → AreShort (suc (length cs)) (if b then ([] ∷ pieces_of 0 cs) else before_piece c (pieces_of (open_behind depth c) cs))
    go true a b = (omega arith, shorter (length cs) (suc (length cs)) (pieces_of 0 cs) (omega arith) a)
    go false a b = b

below : (n k : ℕ) (ps : List (List ℕ)) → n < k → AreShort n ps → AllByRecursion (λ piece. length piece < k) ps
below n k [] h a = tt
below n k (p ∷ ps) h a = (omega (arith, h, a.0), below n k ps h a.1)

pub pieces_short : (k : ℕ) (line : List ℕ) → length line < k → AllByRecursion (λ piece. length piece < k) (pieces_of 0 line)
pieces_short k line h = below (length line) k (pieces_of 0 line) h (pieces_le 0 line)
