-- What holds of channel files.
use Rattle.std.proofs.Common.{◌≡◌, ℕ, zero, suc, ◌==◌, List, [], ◌∷◌, ◌≤◌, ◌≢◌, get_or, Bool, true, false, if◌then◌else◌, Option, Some, None, Result, Ok, Err, refl, sym, ap, subst, ◌∙◌, arith}
use Rattle.std.specs.Prelude.{slice_get, bytes_eq, option_map}
use Rattle.std.proofs.lemmas.Bool.{and_parts}
use Rattle.std.proofs.lemmas.Bool.Decides.{nat_tests}
use Rattle.std.proofs.lemmas.Option.{get_or_from_slice_get}
use Rattle.base.specs.Lists.Indexed.{indexed}
use Rattle.base.proofs.Lemmas.Lists.Indexed.{indexed_get, length-indexed}
use Rattle.net_core.specs.declared.net.Kind.{Kind}
use Rattle.net_core.specs.declared.net.Kind.TheVariants as kind
use Rattle.net_core.specs.Behavior.{IsWordOf}
use Rattle.net_core.specs.WellFormed.{IsNet, IsInputs, AreWordsOf}
use Rattle.xb_value.specs.Width.{width_of}
use Rattle.xb_value.proofs.Lemmas.Flat.{as_wide, in_range}
use Rattle.chan_file.proofs.Names.{input_from-is}
use Rattle.xb_bits.specs.Word.{Word}
use Rattle.xb_value.specs.declared.ty.Ty.{Ty}
use Rattle.xb_value.proofs.Lemmas.Reads.{Reads-unique, Reads-fits, Reads-spells, Reads-typed, Misfits-spells}
use Rattle.net_core.specs.declared.net.Net.{Net}
use Rattle.net_core.specs.declared.net.Chan.{Chan}
use Rattle.net_core.specs.declared.net.Inputs.{Inputs}
use Rattle.chan_file.specs.declared.line.Said.{Said}
use Rattle.chan_file.specs.declared.line.Said.TheVariants.{Nothing, Channel, Word as AWord, Fault}
use Rattle.chan_file.specs.declared.refusal.Cause.{Cause}
use Rattle.chan_file.specs.declared.refusal.Cause.TheVariants as cause
use Rattle.chan_file.specs.Line.{blank, channel, other}
use Rattle.chan_file.specs.ChannelFile.{SaysLine, blank_line, channel_line, early_word, word_line, SaysWord, says_input, input_named, was_named, is_input, words_on, inputs_by, SaysLines, at_end, behind_nothing, behind_channel, behind_word, at_fault, Words, before_words, with_inputs, Reads}

-- ---- one line says one thing

word_unique : (c : ℕ) (t : Ty) (line : List ℕ) (a b : Said) → SaysWord c t line a → SaysWord c t line b → a ≡ b
word_unique c t line (AWord d v) (AWord e w) x y =
    let channel : d ≡ e = x.0 ∙ sym y.0 in
    let value = Reads-unique line t x.1.0 y.1.0 x.1.1 y.1.1 in
    let word = x.1.2 in
    let others = y.1.2 in
    cc
word_unique c t line (AWord d v) (Fault cause.Syntax) x y = let s = Reads-spells line t x.1.0 x.1.1 in absurd (y s.0 s.1)
word_unique c t line (AWord d v) (Fault cause.Kind) x y = absurd (Reads-fits line t x.1.0 y.0 x.1.1 y.1)
word_unique c t line (Fault cause.Syntax) (AWord e w) x y = let s = Reads-spells line t y.1.0 y.1.1 in absurd (x s.0 s.1)
word_unique c t line (Fault cause.Syntax) (Fault cause.Syntax) x y = refl
word_unique c t line (Fault cause.Syntax) (Fault cause.Kind) x y = let s = Misfits-spells line t y.0 y.1 in absurd (x s.0 s.1)
word_unique c t line (Fault cause.Kind) (AWord e w) x y = absurd (Reads-fits line t y.1.0 x.0 y.1.1 x.1)
word_unique c t line (Fault cause.Kind) (Fault cause.Syntax) x y = let s = Misfits-spells line t x.0 x.1 in absurd (y s.0 s.1)
word_unique c t line (Fault cause.Kind) (Fault cause.Kind) x y = refl
word_unique c t line Nothing b x y = absurd x
word_unique c t line (Channel d) b x y = absurd x
word_unique c t line (Fault cause.Name) b x y = absurd x
word_unique c t line (Fault cause.Twice) b x y = absurd x
word_unique c t line (AWord d v) Nothing x y = absurd y
word_unique c t line (AWord d v) (Channel e) x y = absurd y
word_unique c t line (AWord d v) (Fault cause.Name) x y = absurd y
word_unique c t line (AWord d v) (Fault cause.Twice) x y = absurd y
word_unique c t line (Fault cause.Syntax) Nothing x y = absurd y
word_unique c t line (Fault cause.Syntax) (Channel e) x y = absurd y
word_unique c t line (Fault cause.Syntax) (Fault cause.Name) x y = absurd y
word_unique c t line (Fault cause.Syntax) (Fault cause.Twice) x y = absurd y
word_unique c t line (Fault cause.Kind) Nothing x y = absurd y
word_unique c t line (Fault cause.Kind) (Channel e) x y = absurd y
word_unique c t line (Fault cause.Kind) (Fault cause.Name) x y = absurd y
word_unique c t line (Fault cause.Kind) (Fault cause.Twice) x y = absurd y

line_unique : (net : Net) (named line : List ℕ) (a b : Said) → SaysLine net named line a → SaysLine net named line b → a ≡ b
line_unique net named line a b (blank_line e) (blank_line f) = refl
line_unique net named line a b (blank_line e) (channel_line name f) = let bad : blank ≡ channel name = sym e ∙ f in absurd (cc)
line_unique net named line a b (blank_line e) (early_word f n) = let bad : blank ≡ other = sym e ∙ f in absurd (cc)
line_unique net named line a b (blank_line e) (word_line c before chan said f n g s) = let bad : blank ≡ other = sym e ∙ f in absurd (cc)
line_unique net named line a b (channel_line name e) (blank_line f) = let bad : channel name ≡ blank = sym e ∙ f in absurd (cc)
line_unique net named line a b (channel_line name e) (channel_line others f) =
    let same : channel name ≡ channel others = sym e ∙ f in
    let names : name ≡ others = (cc) in
    ap (λ n. says_input named (input_named net n)) names
line_unique net named line a b (channel_line name e) (early_word f n) = let bad : channel name ≡ other = sym e ∙ f in absurd (cc)
line_unique net named line a b (channel_line name e) (word_line c before chan said f n g s) = let bad : channel name ≡ other = sym e ∙ f in absurd (cc)
line_unique net named line a b (early_word e n) (blank_line f) = let bad : other ≡ blank = sym e ∙ f in absurd (cc)
line_unique net named line a b (early_word e n) (channel_line name f) = let bad : other ≡ channel name = sym e ∙ f in absurd (cc)
line_unique net named line a b (early_word e n) (early_word f m) = refl
line_unique net named line a b (early_word e n) (word_line c before chan said f m g s) = let bad : ◌≡◌ {A = List ℕ} [] (c ∷ before) = sym n ∙ m in absurd (cc)
line_unique net named line a b (word_line c before chan said e n g s) (blank_line f) = let bad : other ≡ blank = sym e ∙ f in absurd (cc)
line_unique net named line a b (word_line c before chan said e n g s) (channel_line name f) = let bad : other ≡ channel name = sym e ∙ f in absurd (cc)
line_unique net named line a b (word_line c before chan said e n g s) (early_word f m) = let bad : ◌≡◌ {A = List ℕ} [] (c ∷ before) = sym m ∙ n in absurd (cc)
line_unique net named line a b (word_line c before chan said e n g s) (word_line d after others spoken f m h t) =
    let lists : c ∷ before ≡ d ∷ after = sym n ∙ m in
    let number : c ≡ d = (cc) in
    let found : slice_get net.chans d ≡ Some chan = subst (λ k. slice_get net.chans k ≡ Some chan) number g in
    let both : Some chan ≡ Some others = sym found ∙ h in
    let chans : chan ≡ others = (cc) in
    let moved : SaysWord d others.ty line said = subst (λ (x : Chan). SaysWord d x.ty line said) chans (subst (λ k. SaysWord k chan.ty line said) number s) in
    word_unique d others.ty line said spoken moved t

-- ---- lines say one thing

lines_unique : (net : Net) (named : List ℕ) (lines : List (ℕ × List ℕ)) (a b : Words) → SaysLines net named lines a → SaysLines net named lines b → a ≡ b
lines_unique net named lines a b (at_end n) (at_end m) = refl
lines_unique net named lines a b (behind_nothing n at line rest r l k) (behind_nothing m p q ls s x y) = lines_unique net named rest r s k y
lines_unique net named lines a b (behind_nothing n at line rest r l k) (behind_channel m p q ls s d x y) = let bad = line_unique net named line Nothing (Channel d) l x in absurd (cc)
lines_unique net named lines a b (behind_nothing n at line rest r l k) (behind_word m p q ls s d w x y) = let bad = line_unique net named line Nothing (AWord d w) l x in absurd (cc)
lines_unique net named lines a b (behind_nothing n at line rest r l k) (at_fault m p q ls f x) = let bad = line_unique net named line Nothing (Fault f) l x in absurd (cc)
lines_unique net named lines a b (behind_channel n at line rest r c l k) (behind_nothing m p q ls s x y) = let bad = line_unique net named line (Channel c) Nothing l x in absurd (cc)
lines_unique net named lines a b (behind_channel n at line rest r c l k) (behind_channel m p q ls s d x y) =
    let one : Channel c ≡ Channel d = line_unique net named line (Channel c) (Channel d) l x in
    let same : c ≡ d = (cc) in
    lines_unique net (d ∷ named) rest r s (subst (λ e. SaysLines net (e ∷ named) rest r) same k) y
lines_unique net named lines a b (behind_channel n at line rest r c l k) (behind_word m p q ls s d w x y) = let bad = line_unique net named line (Channel c) (AWord d w) l x in absurd (cc)
lines_unique net named lines a b (behind_channel n at line rest r c l k) (at_fault m p q ls f x) = let bad = line_unique net named line (Channel c) (Fault f) l x in absurd (cc)
lines_unique net named lines a b (behind_word n at line rest r c v l k) (behind_nothing m p q ls s x y) = let bad = line_unique net named line (AWord c v) Nothing l x in absurd (cc)
lines_unique net named lines a b (behind_word n at line rest r c v l k) (behind_channel m p q ls s d x y) = let bad = line_unique net named line (AWord c v) (Channel d) l x in absurd (cc)
lines_unique net named lines a b (behind_word n at line rest r c v l k) (behind_word m p q ls s d w x y) =
    let one : AWord c v ≡ AWord d w = line_unique net named line (AWord c v) (AWord d w) l x in
    let more : r ≡ s = lines_unique net named rest r s k y in
    let numbers : c ≡ d = (cc) in
    let words : v ≡ w = (cc) in
    cc
lines_unique net named lines a b (behind_word n at line rest r c v l k) (at_fault m p q ls f x) = let bad = line_unique net named line (AWord c v) (Fault f) l x in absurd (cc)
lines_unique net named lines a b (at_fault n at line rest f l) (behind_nothing m p q ls s x y) = let bad = line_unique net named line (Fault f) Nothing l x in absurd (cc)
lines_unique net named lines a b (at_fault n at line rest f l) (behind_channel m p q ls s d x y) = let bad = line_unique net named line (Fault f) (Channel d) l x in absurd (cc)
lines_unique net named lines a b (at_fault n at line rest f l) (behind_word m p q ls s d w x y) = let bad = line_unique net named line (Fault f) (AWord d w) l x in absurd (cc)
lines_unique net named lines a b (at_fault n at line rest f l) (at_fault m p q ls g x) =
    let one : Fault f ≡ Fault g = line_unique net named line (Fault f) (Fault g) l x in
    let same : f ≡ g = (cc) in
    ap (λ h. Err (h, at)) same

-- ---- a text says one thing

pub one_reading : (net : Net) (text : List ℕ) (a b : Result Inputs (Cause × ℕ)) → Reads net text a → Reads net text b → a ≡ b
one_reading net text a b r s = r.is ∙ ap (with_inputs net) (lines_unique net [] _ r.words s.words r.says s.says) ∙ sym s.is

-- ---- what a text says fits the network

abbrev pub IsInputAt : Net → ℕ → Type 0
IsInputAt net c = (chan : Chan) × (slice_get net.chans c ≡ Some chan) × (chan.kind ≡ kind.Input)

abbrev pub AreInputs : Net → List ℕ → Type 0
AreInputs net [] = Unit {0}
AreInputs net (c ∷ cs) = IsInputAt net c × AreInputs net cs

pub record WordFits (net : Net) (x : ℕ × Word) : Type 0 where
  pub chan : Chan
  pub there : slice_get net.chans x.0 ≡ Some chan
  pub kind_is : chan.kind ≡ kind.Input
  pub word : IsWordOf (width_of chan.ty) x.1

abbrev EachFits : Net → List (ℕ × Word) → Type 0
EachFits net [] = Unit {0}
EachFits net (x ∷ xs) = WordFits net x × EachFits net xs

abbrev WordsFit : Net → Words → Type 0
WordsFit net (Ok xs) = EachFits net xs
WordsFit net (Err e) = Unit {0}

input_kind : (k : Kind) → is_input k ≡ true → k ≡ kind.Input
input_kind kind.Input h = refl
input_kind kind.Output h = absurd (cc)
input_kind kind.Inner h = absurd (cc)

-- a line that begins a channel begins one of the inputs
pub channel_input : (net : Net) (named line : List ℕ) (said : Said) (c : ℕ) → SaysLine net named line said → said ≡ Channel c → IsInputAt net c
channel_input net named line said c (blank_line e) h = absurd (cc)
channel_input net named line said c (channel_line name e) h = by_case (input_named net name) refl h
  where
    number_of : (d : ℕ) (t : Bool) → (if t then (Fault cause.Twice) else (Channel d)) ≡ Channel c → d ≡ c
    number_of d true f = absurd (cc)
    number_of d false f = cc

    by_case : (o : Option ℕ) → input_named net name ≡ o → says_input named o ≡ Channel c → IsInputAt net c
    by_case None g f = absurd (cc)
    by_case (Some d) g f =
        let same = number_of d (was_named d named) f in
        let found = input_from-is 0 net.chans name d g in
        let place : c ≡ found.place = let number = found.number in omega arith in
        let both = and_parts (is_input found.chan.kind) (bytes_eq found.chan.name name) found.named in
        (found.chan, subst (λ k. slice_get net.chans k ≡ Some found.chan) (sym place) found.there, input_kind found.chan.kind both.0)
channel_input net named line said c (early_word e n) h = absurd (cc)
channel_input net named line said c (word_line d before chan s e n g says) h = absurd (subst (SaysWord d chan.ty line) h says)

-- a line that is a word is one of the last channel
pub word_input : (net : Net) (named line : List ℕ) (said : Said) (c : ℕ) (w : Word) → IsNet net → AreInputs net named → SaysLine net named line said → said ≡ AWord c w
    → WordFits net (c, w)
word_input net named line said c w fine inputs (blank_line e) h = absurd (cc)
word_input net named line said c w fine inputs (channel_line name e) h = absurd (by_case (input_named net name) h)
  where
    no_word : (d : ℕ) (t : Bool) → (if t then (Fault cause.Twice) else (Channel d)) ≡ AWord c w → ⊥
    no_word d true f = cc
    no_word d false f = cc

    by_case : (o : Option ℕ) → says_input named o ≡ AWord c w → ⊥
    by_case None f = cc
    by_case (Some d) f = no_word d (was_named d named) f
word_input net named line said c w fine inputs (early_word e n) h = absurd (cc)
word_input net named line said c w fine inputs (word_line d before chan s e n g says) h =
    let spoken : SaysWord d chan.ty line (AWord c w) = subst (SaysWord d chan.ty line) h says in
    let input = (subst (AreInputs net) n inputs).0 in
    let both : Some input.0 ≡ Some chan = sym input.1 ∙ g in
    let same : input.0 ≡ chan = (cc) in
    let typed = Reads-typed line chan.ty spoken.1.0 spoken.1.1 in
    let wide = as_wide chan.ty spoken.1.0 typed in
    let range = in_range chan.ty spoken.1.0 typed in
    record {
      chan = chan;
      there = subst (λ k. slice_get net.chans k ≡ Some chan) (sym spoken.0) g;
      kind_is = ap (λ (x : Chan). x.kind) (sym same) ∙ input.2;
      word = subst (IsWordOf (width_of chan.ty)) (sym spoken.1.2) (record {
        word = record {
          some_width = subst (λ k. 1 ≤ k) (sym wide) (fine.some_width d chan g);
          most_width = subst (λ k. k ≤ 128) (sym wide) (fine.most_width d chan g);
          in_range = range;
        };
        fits = wide;
      });
    }

word_before : (net : Net) (x : ℕ × Word) (r : Words) → WordFits net x → WordsFit net r → WordsFit net (before_words x r)
word_before net x (Ok xs) f all = (f, all)
word_before net x (Err e) f all = tt

lines_fit : (net : Net) (named : List ℕ) (lines : List (ℕ × List ℕ)) (r : Words) → IsNet net → AreInputs net named → SaysLines net named lines r → WordsFit net r
lines_fit net named lines r fine inputs (at_end n) = tt
lines_fit net named lines r fine inputs (behind_nothing n at line rest s l k) = lines_fit net named rest s fine inputs k
lines_fit net named lines r fine inputs (behind_channel n at line rest s c l k) =
    lines_fit net (c ∷ named) rest s fine (channel_input net named line (Channel c) c l refl, inputs) k
lines_fit net named lines r fine inputs (behind_word n at line rest s c w l k) =
    word_before net (c, w) s (word_input net named line (AWord c w) c w fine inputs l refl) (lines_fit net named rest s fine inputs k)
lines_fit net named lines r fine inputs (at_fault n at line rest f l) = tt

-- the words of a channel
words_fit : (net : Net) (xs : List (ℕ × Word)) (c : ℕ) (chan : Chan) → EachFits net xs → slice_get net.chans c ≡ Some chan → AreWordsOf (width_of chan.ty) (words_on c xs)
words_fit net [] c chan all g = λ k w at. absurd (cc)
words_fit net (x ∷ xs) c chan all g = by_case (x.0 == c) refl (words_fit net xs c chan all.1 g)
  where
    first : x.0 ≡ c → IsWordOf (width_of chan.ty) x.1
    first e =
        let mine = all.0 in
        let both : Some mine.chan ≡ Some chan = sym mine.there ∙ ap (slice_get net.chans) e ∙ g in
        let same : mine.chan ≡ chan = (cc) in
        subst (λ (y : Chan). IsWordOf (width_of y.ty) x.1) same mine.word

    by_case : (t : Bool) → (x.0 == c) ≡ t → AreWordsOf (width_of chan.ty) (words_on c xs)
        → AreWordsOf (width_of chan.ty) (if t then (x.1 ∷ words_on c xs) else words_on c xs)
    by_case true e rest zero w at =
        let number : x.0 ≡ c = grind (arith, nat_tests) in
        let word : x.1 ≡ w = (cc) in
        subst (IsWordOf (width_of chan.ty)) word (first number)
    by_case true e rest (suc k) w at = rest k w at
    by_case false e rest k w at = rest k w at

no_words_fit : (net : Net) (xs : List (ℕ × Word)) (c : ℕ) (chan : Chan) → EachFits net xs → slice_get net.chans c ≡ Some chan → chan.kind ≢ kind.Input → words_on c xs ≡ []
no_words_fit net [] c chan all g unlike = refl
no_words_fit net (x ∷ xs) c chan all g unlike = by_case (x.0 == c) refl (no_words_fit net xs c chan all.1 g unlike)
  where
    by_case : (t : Bool) → (x.0 == c) ≡ t → words_on c xs ≡ [] → (if t then (x.1 ∷ words_on c xs) else words_on c xs) ≡ []
    by_case true e rest =
        let number : x.0 ≡ c = grind (arith, nat_tests) in
        let mine = all.0 in
        let both : Some mine.chan ≡ Some chan = sym mine.there ∙ ap (slice_get net.chans) number ∙ g in
        let same : mine.chan ≡ chan = (cc) in
        absurd (unlike (ap (λ (y : Chan). y.kind) (sym same) ∙ mine.kind_is))
    by_case false e rest = rest

-- the list of a channel among those of all
pub list_of : (net : Net) (xs : List (ℕ × Word)) (c : ℕ) (chan : Chan) → slice_get net.chans c ≡ Some chan
    → get_or (indexed (λ d (y : Chan). words_on d xs) 0 net.chans) c [] ≡ words_on c xs
list_of net xs c chan g =
    get_or_from_slice_get (indexed (λ d (y : Chan). words_on d xs) 0 net.chans) c (words_on c xs) []
    (indexed_get (λ d (y : Chan). words_on d xs) 0 c c net.chans (omega arith) ∙ ap (option_map (λ (y : Chan). words_on c xs)) g)

pub inputs_fit : (net : Net) (text : List ℕ) (inputs : Inputs) → IsNet net → Reads net text (Ok inputs) → IsInputs net inputs.words
inputs_fit net text inputs fine r = by_case r.words r.is (lines_fit net [] _ r.words fine tt r.says)
  where
    whole : (xs : List (ℕ × Word)) → EachFits net xs → IsInputs net (inputs_by net xs).words
    whole xs all = record {
      count = length-indexed (λ d (y : Chan). words_on d xs) 0 net.chans;
      words = λ c chan g. subst (AreWordsOf (width_of chan.ty)) (sym (list_of net xs c chan g)) (words_fit net xs c chan all g);
      only = λ c chan g unlike. list_of net xs c chan g ∙ no_words_fit net xs c chan all g unlike;
    }

    by_case : (w : Words) → Ok inputs ≡ with_inputs net w → WordsFit net w → IsInputs net inputs.words
    by_case (Ok xs) e all =
        let same : inputs ≡ inputs_by net xs = (cc) in
        subst (λ (i : Inputs). IsInputs net i.words) (sym same) (whole xs all)
    by_case (Err f) e all = absurd (cc)
