-- What was read of a file's lines so far.
use Rattle.std.proofs.Common.{◌≡◌, ℕ, zero, suc, ◌+◌, ◌<◌, ◌==◌, List, [], ◌∷◌, ◌++◌, length, get_or, set, replicate, Bool, true, false, if◌then◌else◌, Ok, Err, refl, sym, ap, ap₂, subst, ◌∙◌, arith, append_assoc, append-nil}
use Rattle.std.proofs.lemmas.Bool.Decides.{nat_tests}
use Rattle.std.proofs.lemmas.Option.{slice_get_within}
use Rattle.net_core.specs.WellFormed.{IsNet}
use Rattle.xb_bits.specs.Word.{Word}
use Rattle.base.specs.Lists.Indexed.{indexed}
use Rattle.base.proofs.Lemmas.Lists.Indexed.{length-indexed}
use Rattle.base.specs.Texts.Lines.{lines_of, positioned}
use Rattle.base.proofs.Lemmas.Texts.Lines.{EndWithin}
use Rattle.net_core.specs.declared.net.Net.{Net}
use Rattle.net_core.specs.declared.net.Chan.{Chan}
use Rattle.chan_file.specs.declared.line.Said.TheVariants.{Nothing, Channel, Word as AWord, Fault}
use Rattle.chan_file.specs.declared.named.Named.{Named}
use Rattle.chan_file.specs.declared.refusal.Cause.{Cause}
use Rattle.chan_file.specs.Inner.Named.{HasNamed}
use Rattle.chan_file.proofs.Lemmas.Reading.{AreInputs, channel_input, word_input}
use Rattle.chan_file.specs.ChannelFile.{SaysLine, SaysLines, at_end, behind_nothing, behind_channel, behind_word, at_fault, Words, before_words, words_on, Reads}

-- words before those of an answer
abbrev pub behind : List (ℕ × Word) → Words → Words
behind done (Ok xs) = Ok (done ++ xs)
behind done (Err e) = Err e

-- the words of each channel
abbrev pub lists_by : Net → List (ℕ × Word) → List (List Word)
lists_by net xs = indexed (λ c (chan : Chan). words_on c xs) 0 net.chans

-- Some words were read, and channels named: whatever the lines that are left say completes what all of them say.
pub record IsSoFar (net : Net) (all rest : List (ℕ × List ℕ)) (end : ℕ) (named : Named) (words : List (List Word)) : Type 0 where
  pub before : List ℕ
  pub held : HasNamed (length net.chans) before named
  pub inputs : AreInputs net before
  pub done : List (ℕ × Word)
  pub words_are : words ≡ lists_by net done
  pub within : EndWithin end rest
  pub goes : (r : Words) → SaysLines net before rest r → SaysLines net [] all (behind done r)

no_lists : (i : ℕ) (chans : List Chan) → indexed (λ c (chan : Chan). words_on c []) i chans ≡ replicate (length chans) []
no_lists i [] = refl
no_lists i (chan ∷ chans) = ap (λ xs. [] ∷ xs) (no_lists (suc i) chans)

behind-nil : (r : Words) → behind [] r ≡ r
behind-nil (Ok xs) = refl
behind-nil (Err e) = refl

behind-word : (done : List (ℕ × Word)) (x : ℕ × Word) (r : Words) → behind done (before_words x r) ≡ behind (done ++ x ∷ []) r
behind-word done x (Ok xs) = ap Ok (sym (append_assoc done (x ∷ []) xs))
behind-word done x (Err e) = refl

pub so_far_none : (net : Net) (all : List (ℕ × List ℕ)) (end : ℕ) (named : Named) (words : List (List Word)) → HasNamed (length net.chans) [] named
    → words ≡ replicate (length net.chans) [] → EndWithin end all → IsSoFar net all all end named words
so_far_none net all end named words held none within = record {
  before = [];
  held = held;
  inputs = tt;
  done = [];
  words_are = none ∙ sym (no_lists 0 net.chans);
  within = within;
  goes = λ r k. subst (SaysLines net [] all) (sym (behind-nil r)) k;
}

pub so_far_nothing : (net : Net) (all rest next : List (ℕ × List ℕ)) (end at : ℕ) (line : List ℕ) (named : Named) (words : List (List Word))
    → (s : IsSoFar net all rest end named words) → rest ≡ (at, line) ∷ next → SaysLine net s.before line Nothing → IsSoFar net all next end named words
so_far_nothing net all rest next end at line named words s e says = record {
  before = s.before;
  held = s.held;
  inputs = s.inputs;
  done = s.done;
  words_are = s.words_are;
  within = (subst (EndWithin end) e s.within).1;
  goes = λ r k. s.goes r (subst (λ ls. SaysLines net s.before ls r) (sym e) (behind_nothing s.before at line next r says k));
}

pub so_far_channel : (net : Net) (all rest next : List (ℕ × List ℕ)) (end at : ℕ) (line : List ℕ) (c : ℕ) (named more : Named) (words : List (List Word))
    → (s : IsSoFar net all rest end named words) → rest ≡ (at, line) ∷ next → SaysLine net s.before line (Channel c) → HasNamed (length net.chans) (c ∷ s.before) more
    → IsSoFar net all next end more words
so_far_channel net all rest next end at line c named more words s e says held = record {
  before = c ∷ s.before;
  held = held;
  inputs = (channel_input net s.before line (Channel c) c says refl, s.inputs);
  done = s.done;
  words_are = s.words_are;
  within = (subst (EndWithin end) e s.within).1;
  goes = λ r k. s.goes r (subst (λ ls. SaysLines net s.before ls r) (sym e) (behind_channel s.before at line next r c says k));
}

-- ---- one word more

words_on-more : (c d : ℕ) (w : Word) (xs : List (ℕ × Word)) (t : Bool) → (d == c) ≡ t → words_on c (xs ++ (d, w) ∷ []) ≡ words_on c xs ++ (if t then (w ∷ []) else [])
words_on-more c d w [] t e = ap (λ u. if u then (w ∷ []) else []) e
words_on-more c d w (x ∷ xs) t e = by_case (x.0 == c) (words_on-more c d w xs t e)
  where
    by_case : (u : Bool) → words_on c (xs ++ (d, w) ∷ []) ≡ words_on c xs ++ (if t then (w ∷ []) else [])
        → (if u then (x.1 ∷ words_on c (xs ++ (d, w) ∷ [])) else words_on c (xs ++ (d, w) ∷ [])) ≡ (if u then (x.1 ∷ words_on c xs) else words_on c xs) ++ (if t then (w ∷ []) else [])
    by_case true f = ap (λ ys. x.1 ∷ ys) f
    by_case false f = f

-- the other channels' lists stay
lists_same : (i d : ℕ) (w : Word) (xs : List (ℕ × Word)) (chans : List Chan) → d < i
    → indexed (λ c (chan : Chan). words_on c (xs ++ (d, w) ∷ [])) i chans ≡ indexed (λ c (chan : Chan). words_on c xs) i chans
lists_same i d w xs [] h = refl
lists_same i d w xs (chan ∷ chans) h =
    let other : (d == i) ≡ false = grind (arith, nat_tests) in
    ap₂ (λ ys zs. ys ∷ zs) (words_on-more i d w xs false other ∙ append-nil (words_on i xs)) (lists_same (suc i) d w xs chans (omega arith))

lists_more : (i k d : ℕ) (w : Word) (xs : List (ℕ × Word)) (chans : List Chan) → d ≡ i + k → k < length chans
    → indexed (λ c (chan : Chan). words_on c (xs ++ (d, w) ∷ [])) i chans
    ≡ set (indexed (λ c (chan : Chan). words_on c xs) i chans) k (get_or (indexed (λ c (chan : Chan). words_on c xs) i chans) k [] ++ w ∷ [])
lists_more i k d w xs [] e h = absurd (omega arith)
lists_more i zero d w xs (chan ∷ chans) e h =
    let number : d ≡ i = omega arith in
    let same : (d == i) ≡ true = grind (arith, nat_tests) in
    ap₂ (λ ys zs. ys ∷ zs) (words_on-more i d w xs true same) (lists_same (suc i) d w xs chans (omega arith))
lists_more i (suc k) d w xs (chan ∷ chans) e h =
    let other : (d == i) ≡ false = grind (arith, nat_tests) in
    ap₂ (λ ys zs. ys ∷ zs) (words_on-more i d w xs false other ∙ append-nil (words_on i xs)) (lists_more (suc i) k d w xs chans (omega arith) (omega arith))

-- a channel that was named, or has a word, is there
pub channel_within : (net : Net) (named line : List ℕ) (c : ℕ) → SaysLine net named line (Channel c) → c < length net.chans
channel_within net named line c says =
    let input = channel_input net named line (Channel c) c says refl in
    slice_get_within net.chans c input.0 input.1

pub word_within : (net : Net) (named line : List ℕ) (c : ℕ) (w : Word) → IsNet net → AreInputs net named → SaysLine net named line (AWord c w) → c < length net.chans
word_within net named line c w fine inputs says =
    let fits = word_input net named line (AWord c w) c w fine inputs says refl in
    slice_get_within net.chans c fits.chan fits.there

pub lists_length : (net : Net) (xs : List (ℕ × Word)) → length (lists_by net xs) ≡ length net.chans
lists_length net xs = length-indexed (λ c (chan : Chan). words_on c xs) 0 net.chans

pub so_far_word : (net : Net) (all rest next : List (ℕ × List ℕ)) (end at : ℕ) (line : List ℕ) (c : ℕ) (w : Word) (named : Named) (words more : List (List Word))
    → (s : IsSoFar net all rest end named words) → rest ≡ (at, line) ∷ next → SaysLine net s.before line (AWord c w) → c < length net.chans
    → more ≡ set words c (get_or words c [] ++ w ∷ []) → IsSoFar net all next end named more
so_far_word net all rest next end at line c w named words more s e says room pushed = record {
  before = s.before;
  held = s.held;
  inputs = s.inputs;
  done = s.done ++ (c, w) ∷ [];
  words_are = pushed ∙ ap (λ ws. set ws c (get_or ws c [] ++ w ∷ [])) s.words_are ∙ sym (lists_more 0 c c w s.done net.chans (omega arith) room);
  within = (subst (EndWithin end) e s.within).1;
  goes = λ r k.
      subst (SaysLines net [] all) (behind-word s.done (c, w) r)
      (s.goes (before_words (c, w) r) (subst (λ ls. SaysLines net s.before ls (before_words (c, w) r)) (sym e) (behind_word s.before at line next r c w says k)));
}

-- ---- what the whole file says

pub reads_fault : (net : Net) (text : List ℕ) (rest next : List (ℕ × List ℕ)) (end at : ℕ) (line : List ℕ) (cause : Cause) (named : Named) (words : List (List Word))
    → (s : IsSoFar net (positioned 0 (lines_of text)) rest end named words) → rest ≡ (at, line) ∷ next → SaysLine net s.before line (Fault cause) → Reads net text (Err (cause, at))
reads_fault net text rest next end at line cause named words s e says = record {
  words = Err (cause, at);
  says = s.goes (Err (cause, at)) (subst (λ ls. SaysLines net s.before ls (Err (cause, at))) (sym e) (at_fault s.before at line next cause says));
  is = refl;
}

pub reads_all : (net : Net) (text : List ℕ) (rest : List (ℕ × List ℕ)) (end : ℕ) (named : Named) (words : List (List Word))
    → IsSoFar net (positioned 0 (lines_of text)) rest end named words → rest ≡ [] → Reads net text (Ok (record { words = words }))
reads_all net text rest end named words s e = record {
  words = Ok (s.done ++ []);
  says = s.goes (Ok []) (subst (λ ls. SaysLines net s.before ls (Ok [])) (sym e) (at_end s.before));
  is = ap Ok (λ i. record { words = (s.words_are ∙ ap (lists_by net) (sym (append-nil s.done))) i });
}
