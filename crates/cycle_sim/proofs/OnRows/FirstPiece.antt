-- The first piece of a line, and those behind it.
use Rattle.std.proofs.Common.{◌≡◌, ℕ, suc, Bool, true, false, List, [], ◌∷◌, take, drop, Option, Some, None, refl, sym, ap, ◌∙◌}
use Rattle.std.specs.Prelude.{if◌then◌else◌, is_some, not, IsTrue}
use denote.Ref.{Bor}
use Rattle.cycle_sim.specs.Rows.Forms.{before_piece, open_behind, parts_here, pieces_of}
use Rattle.cycle_sim.specs.Rows.Inner.Shapes.{more_pieces, piece_len, pieces_left}

pub pieces_split : (depth : ℕ) (line : List ℕ) → pieces_of depth line ≡ take (piece_len depth line) line ∷ more_pieces (drop (piece_len depth line) line)
pieces_split depth [] = refl
pieces_split depth (c ∷ cs) = go (parts_here depth c) (pieces_split (open_behind depth c) cs)
  where
    go : (b : Bool) → pieces_of (open_behind depth c) cs ≡ take (piece_len (open_behind depth c) cs) cs ∷ more_pieces (drop (piece_len (open_behind depth c) cs) cs)
        → (if b then ([] ∷ pieces_of 0 cs) else before_piece c (pieces_of (open_behind depth c) cs))
        ≡ take (if b then 0 else suc (piece_len (open_behind depth c) cs)) (c ∷ cs) ∷ more_pieces (drop (if b then 0 else suc (piece_len (open_behind depth c) cs)) (c ∷ cs))
    go true e = refl
    go false e = ap (before_piece c) e

pub next_is : (line piece behind : List ℕ) (len : ℕ) → len ≡ piece_len 0 line → piece ≡ take len line → behind ≡ drop len line → pieces_of 0 line ≡ piece ∷ more_pieces behind
next_is line piece behind len e f g =
    pieces_split 0 line
    ∙ ap (λ n. take n line ∷ more_pieces (drop n line)) (sym e)
    ∙ ap (λ p. p ∷ more_pieces (drop len line)) (sym f)
    ∙ ap (λ l. piece ∷ more_pieces l) (sym g)

-- a line has a piece
some_piece : (depth : ℕ) (line : List ℕ) → pieces_of depth line ≡ [] → ⊥
some_piece depth line e = let no : take (piece_len depth line) line ∷ more_pieces (drop (piece_len depth line) line) ≡ [] = sym (pieces_split depth line) ∙ e in absurd (cc)

pub is_left : (rest : Option (Bor (List ℕ))) (pieces : List (List ℕ)) (b : Bool) → pieces_left rest ≡ pieces → is_some rest ≡ not b → (IsTrue b → pieces ≡ []) × (pieces ≡ [] → IsTrue b)
is_left None pieces false e f = absurd (cc)
is_left None pieces true e f = (λ h. sym e, λ h. refl)
is_left (Some line) pieces false e f = (λ h. absurd (cc), λ h. absurd (some_piece 0 line.now (e ∙ h)))
is_left (Some line) pieces true e f = absurd (cc)
