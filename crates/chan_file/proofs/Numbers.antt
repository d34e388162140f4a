-- Words of a number type as texts: what is read of one is what the grammar of values says, and what is written is its text.
use Rattle.std.proofs.Common.{◌≡◌, ℕ, zero, suc, ◌+◌, ◌-◌, ◌*◌, ◌/◌, ◌%◌, ◌^◌, ◌<◌, ◌≤◌, ◌==◌, nat_lt, nat_le, List, [], ◌∷◌, ◌++◌, length, take, drop, set, get_or, codes, Bool, true, false, ◌&&◌, if◌then◌else◌, Option, Some, None, IsTrue, refl, sym, ap, subst, ◌∙◌, arith, length-set, take_all}
use Rattle.std.specs.Prelude.{bytes_eq, slice_get}
use Rattle.std.specs.List.{list_all}
use Rattle.std.specs.Char.{is_ascii_hexdigit, digit_value, digit_char}
use Rattle.std.specs.Str.{IsAscii}
use Rattle.std.specs.Str.Parse.{digits_value, digits_value_after}
use Rattle.std.proofs.Math.Pow.{pow_mono}
use Rattle.std.proofs.lemmas.Bool.Decides.{nat_tests}
use Rattle.std.proofs.lemmas.List.{drop_more, take-append-drop, drop-set, drop_all}
use Rattle.std.proofs.lemmas.Nat.{pow-add, pow_pos, shr-shr, mod_low}
use Rattle.std.proofs.lemmas.Nat.Bits.{ones_shr}
use Rattle.std.proofs.lemmas.Slice.Eq.{bytes_eq-Decides}
use Rattle.std.proofs.lemmas.Str.Ascii.{IsAscii-nil, IsAscii-cons}
use Rattle.base.specs.Texts.Hexadecimal.{hex_digits}
use Rattle.base.proofs.Lemmas.Texts.Hexadecimal.{length-hex_digits}
use Rattle.xb_bits.specs.Word.{Word, word}
use Rattle.net_core.specs.declared.net.Chan.{Chan}
use Rattle.net_core.specs.declared.net.Net.{Net}
use Rattle.xb_value.specs.declared.token.Token.TheVariants.{Number}
use Rattle.xb_value.specs.declared.ty.Ty.{Ty}
use Rattle.xb_value.specs.declared.ty.Ty as ty
use Rattle.xb_value.specs.declared.value.Value as value
use Rattle.xb_value.specs.declared.value.Value.TheViews.{outs-Bits}
use Rattle.xb_value.specs.Form.{number, is_form}
use Rattle.xb_value.specs.Reads.{Reads}
use Rattle.xb_value.specs.Text.{text_of, text_step}
use Rattle.xb_value.specs.Typing.{bits_fit, is_word_of}
use Rattle.xb_value.specs.Unflat.{Taker, take_step, unflat_of}
use Rattle.xb_value.specs.Width.{width_of}
use Rattle.xb_value.proofs.Lemmas.Types as types
use Rattle.xb_value.proofs.Lemmas.Types.{width_of-Bits}
use Rattle.xb_value.proofs.Lemmas.Typing.{fits-Bits}
use Rattle.xb_value.proofs.Lemmas.Values as values
use Rattle.xb_value.proofs.Lemmas.Values.{flat_of-Bits, shape_of-Bits}
use Rattle.chan_file.specs.declared.line.Said.TheVariants.{Word as AWord}
use Rattle.chan_file.specs.declared.named.Named.{Named}
use Rattle.chan_file.specs.ChannelFile.{SaysLine, word_line, SaysWord}
use Rattle.chan_file.specs.Line.{other, line_form}
use Rattle.chan_file.specs.Inner.Named.{HasNamed}
use Rattle.chan_file.specs.Inner.Number.{number_of, number_in, held_in, word_in}
use Rattle.chan_file.specs.OutcomeText.{word_text}
use Rattle.chan_file.proofs.Names.{last_some}

-- ---- one digit more

pub hex_from_value : (b : ℕ) → digit_value b < 16 → is_ascii_hexdigit b ≡ true
hex_from_value b h = grind (arith, nat_tests, h)

pub below_more : (v n d : ℕ) → v < 2 ^ (4 * n) → d < 16 → v * 16 + d < 2 ^ (4 * (n + 1))
below_more v n d h small =
    let offset : 4 * (n + 1) ≡ 4 * n + 4 = omega arith in
    subst (λ k. v * 16 + d < k) (sym (ap (λ k. 2 ^ k) offset ∙ pow-add 2 (4 * n) 4)) (omega arith)

-- up to 32 digits fit 128 bits
pub more_fits : (v n d : ℕ) → v < 2 ^ (4 * n) → n < 32 → d < 16 → v * 16 + d < 2 ^ 128
more_fits v n d h less small =
    let within : 4 * (n + 1) ≤ 128 = omega arith in
    let longer : 2 ^ (4 * (n + 1)) ≤ 2 ^ 128 = pow_mono within in
    let below : v * 16 + d < 2 ^ (4 * (n + 1)) = below_more v n d h small in
    omega arith

pub all_more : (ds : List ℕ) (i d : ℕ) → i < length ds → d ≡ digit_value (get_or ds i 0) → d < 16
    → list_all is_ascii_hexdigit (drop i ds) ≡ list_all is_ascii_hexdigit ds → list_all is_ascii_hexdigit (drop (i + 1) ds) ≡ list_all is_ascii_hexdigit ds
all_more ds i d within is small so_far =
    let hex : is_ascii_hexdigit (get_or ds i 0) ≡ true = hex_from_value (get_or ds i 0) (subst (λ k. k < 16) is small) in
    sym (ap (list_all is_ascii_hexdigit) (drop_more ds i 0 within) ∙ ap (λ t. t && list_all is_ascii_hexdigit (drop (i + 1) ds)) hex) ∙ so_far

pub value_more : (ds : List ℕ) (i d v w : ℕ) → i < length ds → d ≡ digit_value (get_or ds i 0)
    → digits_value_after 16 v (drop i ds) ≡ w → digits_value_after 16 (v * 16 + d) (drop (i + 1) ds) ≡ w
value_more ds i d v w within is so_far =
    ap (λ x. digits_value_after 16 (v * 16 + x) (drop (i + 1) ds)) is ∙ sym (ap (digits_value_after 16 v) (drop_more ds i 0 within)) ∙ so_far

-- ---- which numbers the bits hold

ones : (w : ℕ) → w ≤ 128 → (2 ^ 128 - 1) / 2 ^ (128 - w) ≡ 2 ^ w - 1
ones w h =
    let within : 128 - w ≤ 128 = omega arith in
    let back : 128 - (128 - w) ≡ w = omega arith in
    ones_shr 128 (128 - w) within ∙ ap (λ k. 2 ^ k - 1) back

pub below_ones : (w n : ℕ) → w ≤ 128 → n ≤ (2 ^ 128 - 1) / 2 ^ (128 - w) → n < 2 ^ w
below_ones w n h k =
    let same : (2 ^ 128 - 1) / 2 ^ (128 - w) ≡ 2 ^ w - 1 = ones w h in
    let positive : 0 < 2 ^ w = pow_pos w in
    omega arith

is_word : (w n : ℕ) → 1 ≤ w → w ≤ 128 → (t : Bool) → nat_lt n (2 ^ w) ≡ t → is_word_of w (word w n) ≡ t
is_word w n some most t e =
    let same : (w == w) ≡ true = grind (arith, nat_tests) in
    let least : nat_le 1 w ≡ true = grind (arith, nat_tests) in
    let greatest : nat_le w 128 ≡ true = grind (arith, nat_tests) in
    rw (same, least, greatest) e

pub held : (w n : ℕ) → 1 ≤ w → w ≤ 128 → n ≤ (2 ^ 128 - 1) / 2 ^ (128 - w) → Some (word w n) ≡ held_in w (Some n)
held w n some most k =
    let below : n < 2 ^ w = below_ones w n most k in
    let test : nat_lt n (2 ^ w) ≡ true = grind (arith, nat_tests) in
    sym (ap (λ t. if t then (Some (word w n)) else None) (is_word w n some most true test))

pub not_held : (w n : ℕ) → 1 ≤ w → w ≤ 128 → (2 ^ 128 - 1) / 2 ^ (128 - w) < n → None ≡ held_in w (Some n)
not_held w n some most k =
    let same : (2 ^ 128 - 1) / 2 ^ (128 - w) ≡ 2 ^ w - 1 = ones w most in
    let past : 2 ^ w ≤ n = omega arith in
    let test : nat_lt n (2 ^ w) ≡ false = grind (arith, nat_tests) in
    sym (ap (λ t. if t then (Some (word w n)) else None) (is_word w n some most false test))

-- ---- what is read

-- the text is `0x` and digits that write the number
record IsNumberText (text : List ℕ) (n : ℕ) : Type 0 where
  spelled : 48 ∷ 120 ∷ drop 2 text ≡ text
  formed : IsTrue (is_form (number (drop 2 text)))
  value : n ≡ digits_value 16 (drop 2 text)

some_inside : (A : Type 0) (t : Bool) (x y : A) → Some x ≡ (if t then (Some y) else None) → IsTrue t × (x ≡ y)
some_inside A true x y e = (refl, (let same : Some x ≡ Some y = e in cc))
some_inside A false x y e = absurd (cc)

number_in-is : (text : List ℕ) (n : ℕ) → Some n ≡ number_in text → IsNumberText text n
number_in-is text n e = by_case (bytes_eq (codes "0x") (take 2 text)) refl e
  where
    by_case : (t : Bool) → bytes_eq (codes "0x") (take 2 text) ≡ t → Some n ≡ (if t then (number_of (drop 2 text)) else None) → IsNumberText text n
    by_case true f g =
        let front : codes "0x" ≡ take 2 text = (bytes_eq-Decides (codes "0x") (take 2 text)).0 f in
        let inside = some_inside ℕ (is_form (number (drop 2 text))) n (digits_value 16 (drop 2 text)) g in
        record { spelled = ap (λ xs. xs ++ drop 2 text) front ∙ take-append-drop 2 text; formed = inside.0; value = inside.1 }
    by_case false f g = absurd (cc)

-- a word that a text is read as
record IsWordText (w : ℕ) (text : List ℕ) (x : Word) : Type 0 where
  n : ℕ
  text_is : IsNumberText text n
  word_is : x ≡ word w n
  fits : IsTrue (is_word_of w (word w n))

word_in-is : (w : ℕ) (text : List ℕ) (x : Word) (o : Option ℕ) → o ≡ number_in text → Some x ≡ held_in w o → IsWordText w text x
word_in-is w text x None is e = absurd (cc)
word_in-is w text x (Some n) is e =
    let inside = some_inside Word (is_word_of w (word w n)) x (word w n) e in
    record { n = n; text_is = number_in-is text n is; word_is = inside.1; fits = inside.0 }

-- it is what the text reads as
pub word_reads : (w : ℕ) (text : List ℕ) (x : Word) → Some x ≡ word_in w text → Reads text (ty.Bits w) (value.Bits x)
word_reads w text x e =
    let is = word_in-is w text x (number_in text) refl e in
    let same : x.value ≡ digits_value 16 (drop 2 text) = ap (λ (y : Word). y.value) is.word_is ∙ is.text_is.value in
    let fits : IsTrue (is_word_of w x) = subst (λ y. IsTrue (is_word_of w y)) (sym is.word_is) is.fits in (
      Number 0 (digits_value 16 (drop 2 text)) ∷ [],
      (number (drop 2 text), is.text_is.formed, is.text_is.spelled, refl),
      fits-Bits w (value.Bits x) ∙ ap (bits_fit w) (outs-Bits x) ∙ fits,
      ap (λ n. Number 0 n ∷ []) (sym same) ∙ sym (shape_of-Bits x),
    )

word_said : (c w : ℕ) (t : Ty) (line : List ℕ) (x : Word) → t ≡ ty.Bits w → Some x ≡ word_in w line → SaysWord c t line (AWord c x)
word_said c w t line x is e =
    (refl, (value.Bits x, subst (λ u. Reads line u (value.Bits x)) (sym is) (word_reads w line x e), sym (flat_of-Bits x)))

-- a line with it is neither blank nor a channel's name
number_other : (ds : List ℕ) → line_form (48 ∷ 120 ∷ ds) ≡ other
number_other ds = refl

word_other : (w : ℕ) (line : List ℕ) (x : Word) → Some x ≡ word_in w line → line_form line ≡ other
word_other w line x e =
    let is = word_in-is w line x (number_in line) refl e in
    sym (ap line_form is.text_is.spelled) ∙ number_other (drop 2 line)

-- it is a word of the channel that was named last
pub number_line_says : (net : Net) (before line : List ℕ) (named : Named) (c w : ℕ) (chan : Chan) (x : Word) → HasNamed (length net.chans) before named → named.last ≡ Some c
    → slice_get net.chans c ≡ Some chan → chan.ty ≡ ty.Bits w → Some x ≡ word_in w line → SaysLine net before line (AWord c x)
number_line_says net before line named c w chan x held last there is e =
    let list = last_some before c (sym held.last ∙ last) in
    word_line c list.0 chan (AWord c x) (word_other w line x e) list.1 there (word_said c w chan.ty line x is e)

-- ---- what is written

-- one digit before those that are put
pub one_put : (bytes : List ℕ) (i n left : ℕ) → length bytes ≡ 35 → i < 35 → left ≡ n / 2 ^ (4 * i) → drop (35 - i) bytes ≡ hex_digits i n
    → drop (35 - (i + 1)) (set bytes (34 - i) (digit_char (left % 16))) ≡ hex_digits (i + 1) n
unfolding hex_digits
one_put bytes i n left long within is so_far =
    let here : 35 - (i + 1) ≡ 34 - i = omega arith in
    let behind : 34 - i + 1 ≡ 35 - i = omega arith in
    let next : i + 1 ≡ suc i = omega arith in
    ap (λ k. drop k (set bytes (34 - i) (digit_char (left % 16)))) here
    ∙ drop-set bytes (34 - i) (digit_char (left % 16)) (omega arith)
    ∙ ap (λ k. digit_char (left % 16) ∷ drop k bytes) behind
    ∙ ap (λ ds. digit_char (left % 16) ∷ ds) so_far
    ∙ ap (λ k. digit_char (k % 16) ∷ hex_digits i n) is
    ∙ ap (λ k. hex_digits k n) (sym next)

pub less_left : (i n left : ℕ) → left ≡ n / 2 ^ (4 * i) → left / 16 ≡ n / 2 ^ (4 * (i + 1))
less_left i n left is =
    let offset : 4 * i + 4 ≡ 4 * (i + 1) = omega arith in
    ap (λ k. k / 16) is ∙ shr-shr n (4 * i) 4 ∙ ap (λ k. n / 2 ^ k) offset

pub none_put : (bytes : List ℕ) (n : ℕ) → length bytes ≡ 35 → drop (35 - 0) bytes ≡ hex_digits 0 n
unfolding hex_digits
none_put bytes n long = drop_all 35 bytes (omega arith)

digit_ascii : (d : ℕ) → d < 16 → digit_char d < 128
digit_ascii d h = grind (arith, nat_tests)

digits_ascii : (k n : ℕ) → IsAscii (hex_digits k n)
unfolding hex_digits
digits_ascii zero n = IsAscii-nil
digits_ascii (suc k) n = IsAscii-cons _ _ (digit_ascii (n / 2 ^ (4 * k) % 16) (omega arith)) (digits_ascii k n)

-- what stands before the digits
abbrev pub prefixed : List ℕ → ℕ → List ℕ
prefixed bytes count = set (set (set bytes (34 - count) 120) (33 - count) 48) (32 - count) 32

-- a place that is put, before what stands behind it
one_before : (bytes rest : List ℕ) (at next byte : ℕ) → length bytes ≡ 35 → next ≡ at + 1 → at < 35 → drop next bytes ≡ rest → drop at (set bytes at byte) ≡ byte ∷ rest
one_before bytes rest at next byte long is within behind =
    drop-set bytes at byte (omega arith) ∙ ap (λ k. byte ∷ drop k bytes) (sym is) ∙ ap (λ xs. byte ∷ xs) behind

put : (bytes : List ℕ) (count : ℕ) (digits : List ℕ) → length bytes ≡ 35 → count ≤ 32 → drop (35 - count) bytes ≡ digits
    → drop (32 - count) (prefixed bytes count) ≡ 32 ∷ 48 ∷ 120 ∷ digits
put bytes count digits long few behind =
    let one = set bytes (34 - count) 120 in
    let two = set one (33 - count) 48 in
    let long_one : length one ≡ 35 = length-set bytes (34 - count) 120 ∙ long in
    let long_two : length two ≡ 35 = length-set one (33 - count) 48 ∙ long_one in
    one_before two (48 ∷ 120 ∷ digits) (32 - count) (33 - count) 32 long_two (omega arith) (omega arith)
    (one_before one (120 ∷ digits) (33 - count) (34 - count) 48 long_one (omega arith) (omega arith)
    (one_before bytes digits (34 - count) (35 - count) 120 long (omega arith) (omega arith) behind))

-- the space, `0x` and the digits
pub put_text : (bytes : List ℕ) (count n : ℕ) → length bytes ≡ 35 → count ≤ 32 → drop (35 - count) bytes ≡ hex_digits count n
    → take (35 - (32 - count)) (drop (32 - count) (prefixed bytes count)) ≡ 32 ∷ codes "0x" ++ hex_digits count n
put_text bytes count n long few behind =
    let whole : drop (32 - count) (prefixed bytes count) ≡ 32 ∷ 48 ∷ 120 ∷ hex_digits count n = put bytes count (hex_digits count n) long few behind in
    let three : length (32 ∷ 48 ∷ 120 ∷ hex_digits count n) ≡ 3 + count = ap (λ k. suc (suc (suc k))) (length-hex_digits count n) ∙ omega arith in
    ap (take (35 - (32 - count))) whole ∙ take_all (35 - (32 - count)) (32 ∷ 48 ∷ 120 ∷ hex_digits count n) (omega (arith, three))

pub put_ascii : (count n : ℕ) → IsAscii (32 ∷ codes "0x" ++ hex_digits count n)
put_ascii count n =
    let digits = hex_digits count n in
    IsAscii-cons 32 (48 ∷ 120 ∷ digits) (omega arith) (IsAscii-cons 48 (120 ∷ digits) (omega arith) (IsAscii-cons 120 digits (omega arith) (digits_ascii count n)))

-- it is the text of the word at a number type
pub word_written : (chan : Chan) (w : ℕ) (x : Word) → chan.ty ≡ ty.Bits w → width_of chan.ty ≡ x.width → x.value < 2 ^ x.width
    → 32 ∷ codes "0x" ++ hex_digits ((x.width + 3) / 4) x.value ≡ word_text chan x
word_written chan w x is fits below =
    let width : w ≡ x.width = sym (ap width_of is ∙ width_of-Bits w) ∙ fits in
    let within : x.value < 2 ^ w = subst (λ k. x.value < 2 ^ k) (sym width) below in
    let whole : x.value ≡ 0 * 2 ^ w + x.value = omega arith in
    let low : x.value % 2 ^ w ≡ x.value = ap (λ k. k % 2 ^ w) whole ∙ mod_low 0 w x.value within in
    let held : unflat_of chan.ty x.value ≡ value.Bits (word w (x.value % 2 ^ w)) =
    ap (λ t. unflat_of t x.value) is ∙ ap (λ (p : Taker). (p x.value).0) (types.fold-Bits Taker take_step w) in
    let same : word w (x.value % 2 ^ w) ≡ x = rw (low, width) refl in
    sym (ap (λ v. 32 ∷ text_of v) (held ∙ ap value.Bits same) ∙ ap (λ t. 32 ∷ t) (values.fold-Bits (List ℕ) text_step x))
