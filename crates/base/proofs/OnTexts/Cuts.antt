-- The first line of a text, by the place of its end.
use Rattle.std.proofs.Common.{◌≡◌, ◌≢◌, ◌<◌, ◌+◌, ℕ, zero, suc, Bool, true, List, [], ◌∷◌, take, drop, length, get_or, eqb, refl, ap, ◌∙◌, arith}
use Rattle.std.specs.Prelude.{not}
use Rattle.std.specs.List.{list_all}
use Rattle.std.proofs.lemmas.Bool.{and_parts, cond-true, cond-false, eq-eqb, not-true}
use Rattle.std.proofs.lemmas.List.{length-drop, length-take-le}
use Rattle.base.specs.Texts.Inner.Split.{IsSplit}
use Rattle.base.specs.Texts.Lines.{lines_of, before_lines, positioned}

-- bytes without LF
abbrev pub is_one_line : List ℕ → Bool
is_one_line = list_all (λ c. not (eqb c 10))

-- a text that begins with a line
first_line_suc : (text : List ℕ) (at : ℕ) → is_one_line (take at text) ≡ true → at < length text → get_or text at 0 ≡ 10 → lines_of text ≡ take at text ∷ lines_of (drop (suc at) text)
first_line_suc [] at plain within here = absurd (omega arith)
first_line_suc (c ∷ cs) zero plain within here = cond-true (eqb c 10) ([] ∷ lines_of cs) _ (eq-eqb c 10 here)
first_line_suc (c ∷ cs) (suc at) plain within here =
    let parts = and_parts (not (eqb c 10)) (is_one_line (take at cs)) plain in
    let rest = first_line_suc cs at parts.1 (omega arith) here in
    cond-false (eqb c 10) ([] ∷ lines_of cs) (before_lines c (lines_of cs)) (not-true _ parts.0) ∙ ap (before_lines c) rest

pub first_line : (text : List ℕ) (at : ℕ) → is_one_line (take at text) ≡ true → at < length text → get_or text at 0 ≡ 10 → lines_of text ≡ take at text ∷ lines_of (drop (at + 1) text)
first_line text at plain within here =
    let next : suc at ≡ at + 1 = omega arith in
    first_line_suc text at plain within here ∙ ap (λ k. take at text ∷ lines_of (drop k text)) next

-- a text that is one line
pub last_line : (text : List ℕ) → is_one_line text ≡ true → text ≢ [] → lines_of text ≡ text ∷ []
last_line [] plain some = absurd (some refl)
last_line (c ∷ []) plain some = cond-false (eqb c 10) ([] ∷ []) ((c ∷ []) ∷ []) (not-true _ (and_parts (not (eqb c 10)) true plain).0)
last_line (c ∷ d ∷ cs) plain some =
    let parts = and_parts (not (eqb c 10)) (is_one_line (d ∷ cs)) plain in
    let rest = last_line (d ∷ cs) parts.1 (λ e. cc) in
    cond-false (eqb c 10) ([] ∷ lines_of (d ∷ cs)) (before_lines c (lines_of (d ∷ cs))) (not-true _ parts.0) ∙ ap (before_lines c) rest

-- the places of the lines behind a first one, by how many bytes it and its end take
pub positioned_behind : (at next more : ℕ) (rest : List ℕ) → (0 < length rest → next ≡ at + more) → positioned next (lines_of rest) ≡ positioned (at + more) (lines_of rest)
positioned_behind at next more [] same = refl
positioned_behind at next more (c ∷ cs) same = ap (λ k. positioned k (lines_of (c ∷ cs))) (same (omega arith))

some_length : (text : List ℕ) → text ≢ [] → 0 < length text
some_length [] some = absurd (some refl)
some_length (c ∷ cs) some = omega arith

-- a text that is not empty is one line, or begins with a line and its end
pub cut_at : (text : List ℕ) (at : ℕ) → is_one_line (take at text) ≡ true → at < length text → get_or text at 0 ≡ 10 → IsSplit text (take at text) (drop (at + 1) text)
cut_at text at plain within here = record {
  lines = first_line text at plain within here;
  shorter = omega (arith, length-drop (at + 1) text);
  follows = λ some. omega (arith, length-drop (at + 1) text, length-take-le at text (omega arith));
}

pub cut_whole : (text : List ℕ) → is_one_line text ≡ true → text ≢ [] → IsSplit text text []
cut_whole text plain some = record {
  lines = last_line text plain some;
  shorter = some_length text some;
  follows = λ none. absurd (omega arith);
}
