-- Each value of a type of few bits.
use Rattle.std.proofs.Common.{⊎_elim, ℕ, min, ◌-◌, ◌≡◌, ◌∙◌, ◌<◌, ◌≤◌, ◌+◌, zero, suc, Bool, true, false, List, Some, arith, refl, sym, ap, subst}
use mathlib.Core.Bool.{true≢false}
use Rattle.std.specs.Prelude.{◌&&◌, ◌==◌, ◌^◌, if◌then◌else◌, nat_le}
use Rattle.std.proofs.lemmas.Option.{same_Some}
use Rattle.std.proofs.lemmas.Bool.Decides.{Decides-eqb, leb_tells}
use Rattle.base.specs.Lists.Prefix.{IsPrefix}
use Rattle.xb_bits.specs.Word.{word}
use Rattle.dslx_tree.specs.declared.expr.Arm.{Arm}
use Rattle.dslx_meaning.specs.Types.{flat_bits}
use Rattle.dslx_meaning.specs.Values.{from_word}
use Rattle.dslx_meaning.specs.declared.ty.DslxType.{DslxType}
use Rattle.dslx_meaning.specs.declared.value.DslxValue.{DslxValue}
use Rattle.dslx_meaning.specs.Rules.TypeEnvs.{TypeEnv, found_number}
use Rattle.dslx_check_rules.specs.Interned.{HasRow, type_at}
use Rattle.dslx_check_rules.specs.declared.table.row.TypeId.{TypeId}
use Rattle.dslx_check_rules.specs.declared.table.row.TypeRow.{TypeRow}
use Rattle.dslx_check_facts.specs.Known.{item_names}
use Rattle.dslx_check_facts.specs.Walks.{OnlyMisses, WalkShown}
use Rattle.dslx_check_facts.specs.declared.facts.Facts.{Facts}
use Rattle.dslx_check_facts.proofs.Lemmas.Walks.{misses_trans}
use Rattle.dslx_check_leaves.specs.Fits.Fits.{ArmsFine, ArmsFit, Asked, CatchesAll, MatchesAll, MatchesWords, each_word, some_arm}
use Rattle.dslx_check_leaves.proofs.OnFits.OnFits.Asked.{asked_at, none_before}

-- ---- words

each_caught : (context : TypeEnv) (arms : List Arm) (t : DslxType) (w n : ℕ) → ((v : DslxValue) → some_arm context arms v ≡ true) → each_word context arms t w n ≡ true
each_caught context arms t w zero h = refl
each_caught context arms t w (suc n) h = (λ i. h (from_word t (word w n)) i && each_caught context arms t w n h i)

pub words_caught : {f : Facts} {w : WalkShown} {ty : TypeId} {arms : List Arm} (count : ℕ) → CatchesAll f arms → MatchesWords f w w ty arms count true
words_caught {f} {w} {ty} {arms} count c = record {
  fit = λ known later context t asked none fine width. sym (each_caught context arms t width count (λ v. c.fit known later context v asked.agrees asked.items));
}

-- the words below one
pub record WordsSoFar (f : Facts) (old new : WalkShown) (ty : TypeId) (arms : List Arm) (n : ℕ) : Type 0 where
  pub misses : OnlyMisses old new
  pub so : Asked f old new (Some ty) (λ known context t. ArmsFine context t arms → (w : ℕ) → each_word context arms t w n ≡ true)

pub words_begin : {f : Facts} {w : WalkShown} {ty : TypeId} {arms : List Arm} → OnlyMisses w w → WordsSoFar f w w ty arms 0
words_begin {f} {w} {ty} {arms} m = record { misses = m; so = λ known later context t asked none fine width. refl }

-- the word is this value
pub word_matches : {f : Facts} {w0 w1 w2 : WalkShown} {ty : TypeId} {arms : List Arm} {b : Bool} (n : ℕ) (v : DslxValue) → OnlyMisses w0 w1
    → ((later : List TypeRow) → IsPrefix w1.rows later → HasRow w1.rows ty → v ≡ from_word (type_at (item_names f) later ty) (word 0 n)) → ArmsFit f w1 w2 (Some ty) arms v b
    → Asked f w0 w2 (Some ty) (λ known context t. ArmsFine context t arms → b ≡ some_arm context arms (from_word t (word 0 n)))
word_matches {f} {w0} {w1} {w2} {ty} {arms} {b} n v m value h known later context t asked none fine =
    let now = asked_at m.rows asked in
    h.fit known later context t now none fine
    ∙ ap (some_arm context arms) (value later.rows now.rows now.row ∙ ap (λ (u : DslxType). from_word u (word 0 n)) (same_Some (type_at (item_names f) later.rows ty) t asked.is))

pub words_more : {f : Facts} {w0 w1 w2 : WalkShown} {ty : TypeId} {arms : List Arm} {b : Bool} (n : ℕ) → WordsSoFar f w0 w1 ty arms n → OnlyMisses w1 w2
    → Asked f w0 w2 (Some ty) (λ known context t. ArmsFine context t arms → b ≡ some_arm context arms (from_word t (word 0 n))) → b ≡ true → WordsSoFar f w0 w2 ty arms (n + 1)
words_more {f} {w0} {w1} {w2} {ty} {arms} {b} n far m h so = record {
  misses = misses_trans w0 w1 w2 far.misses m;
  so = λ known later context t asked none fine width.
      let on : n + 1 ≡ suc n = omega arith in
      ap (each_word context arms t width) on
      ∙ (λ i. (sym (h known later context t asked none fine) ∙ so) i && far.so known later context t asked (none_before m none) fine width i);
}

and_false : (a : Bool) → (a && false) ≡ false
and_false true = refl
and_false false = refl

-- one that isn't matched is among all that come behind it
unmatched : (context : TypeEnv) (arms : List Arm) (t : DslxType) (w n count : ℕ) → n < count → some_arm context arms (from_word t (word 0 n)) ≡ false → each_word context arms t w count ≡ false
unmatched context arms t w n zero h e = absurd (omega arith)
unmatched context arms t w n (suc count) h e = by (n == count) refl (λ other. unmatched context arms t w n count (omega (arith, h, other)) e)
  where
    by : (b : Bool) → (n == count) ≡ b → ((n ≡ count → ⊥) → each_word context arms t w count ≡ false) → each_word context arms t w (suc count) ≡ false
    by true q rest = ap (λ k. some_arm context arms (from_word t (word w k)) && each_word context arms t w count) (sym ((Decides-eqb n count).0 q)) ∙ ap (λ b. b && each_word context arms t w count) e
    by false q rest =
        let other : n ≡ count → ⊥ = λ same. true≢false (sym ((Decides-eqb n count).1 same) ∙ q) in
        ap (λ b. some_arm context arms (from_word t (word w count)) && b) (rest other) ∙ and_false (some_arm context arms (from_word t (word w count)))

pub words_not : {f : Facts} {w0 w2 : WalkShown} {ty : TypeId} {arms : List Arm} {b : Bool} (n count : ℕ) → n < count
    → Asked f w0 w2 (Some ty) (λ known context t. ArmsFine context t arms → b ≡ some_arm context arms (from_word t (word 0 n))) → b ≡ false → MatchesWords f w0 w2 ty arms count false
words_not {f} {w0} {w2} {ty} {arms} {b} n count l h not_so = record {
  fit = λ known later context t asked none fine width. sym (unmatched context arms t width n count l (sym (h known later context t asked none fine) ∙ not_so));
}

pub words_all : {f : Facts} {w0 w1 : WalkShown} {ty : TypeId} {arms : List Arm} (n count : ℕ) → n ≡ count → WordsSoFar f w0 w1 ty arms n → MatchesWords f w0 w1 ty arms count true
words_all {f} {w0} {w1} {ty} {arms} n count e far = record {
  fit = λ known later context t asked none fine width. sym (ap (each_word context arms t width) (sym e) ∙ far.so known later context t asked none fine width);
}

-- ---- each value of a type

test_le : (n : ℕ) → n ≤ 8 → nat_le n 8 ≡ true
test_le n h = ⊎_elim (λ q. q.0) (λ q. absurd (omega (arith, h, q.1))) (leb_tells n 8)

not_le : (n : ℕ) → (n ≤ 8 → ⊥) → nat_le n 8 ≡ false
not_le n h = ⊎_elim (λ q. absurd (h q.1)) (λ q. q.0) (leb_tells n 8)

pub values_by_words : {f : Facts} {w0 w1 : WalkShown} {ty : TypeId} {arms : List Arm} {last b : Bool} (bits count : ℕ) → ((later : List TypeRow) → IsPrefix w0.rows later → HasRow w0.rows ty → bits ≡ flat_bits (type_at (item_names f) later ty))
    → count ≡ 2 ^ bits → bits ≤ 8 → MatchesWords f w0 w1 ty arms count b → MatchesAll f w0 w1 ty arms last b
values_by_words {f} {w0} {w1} {ty} {arms} {last} {b} bits count is c few h = record {
  fit = λ known later context t asked none fine.
      let flat : bits ≡ flat_bits t = is later.rows asked.rows asked.row ∙ ap flat_bits (same_Some (type_at (item_names f) later.rows ty) t asked.is) in
      h.fit known later context t asked none fine (flat_bits t) ∙ ap (each_word context arms t (flat_bits t)) (c ∙ ap (λ n. 2 ^ n) flat)
      ∙ sym (ap (λ (x : Bool). if x then each_word context arms t (flat_bits t) (2 ^ flat_bits t) else last) (ap (λ n. nat_le n 8) (sym flat) ∙ test_le bits few));
}

pub values_by_last : {f : Facts} {w : WalkShown} {ty : TypeId} {arms : List Arm} {last : Bool} → ((later : List TypeRow) → IsPrefix w.rows later → HasRow w.rows ty → flat_bits (type_at (item_names f) later ty) ≤ 8 → ⊥)
    → MatchesAll f w w ty arms last last
values_by_last {f} {w} {ty} {arms} {last} wide = record {
  fit = λ known later context t asked none fine.
      let same : type_at (item_names f) later.rows ty ≡ t = same_Some (type_at (item_names f) later.rows ty) t asked.is in
      sym (ap (λ (x : Bool). if x then each_word context arms t (flat_bits t) (2 ^ flat_bits t) else last)
      (not_le (flat_bits t) (λ few. wide later.rows asked.rows asked.row (subst (λ (u : DslxType). flat_bits u ≤ 8) (sym same) few))));
}

-- ---- how many bits

pub flat_known : (bits n : ℕ) → bits ≡ found_number n → bits ≤ 8 → bits ≡ n
flat_known bits n e h = let least : bits ≡ min n (2 ^ 64 - 1) = e in omega (arith, least, h)

pub flat_wide : (bits n : ℕ) → bits ≡ found_number n → 8 < bits → n ≤ 8 → ⊥
flat_wide bits n e h k = let least : bits ≡ min n (2 ^ 64 - 1) = e in omega (arith, least, h, k)
