-- The names of a package's module can stand in a text: each is a word with a `_`, which no reserved word has, but for `clk` and `rst`.
use Rattle.std.proofs.Common.{◌≡◌, ◌<◌, ◌≤◌, ◌+◌, ◌/◌, ◌%◌, ◌==◌, ◌&&◌, ◌||◌, ◌∙◌, ℕ, zero, suc, Bool, true, false, List, [], ◌∷◌, ◌++◌, map, length, IsTrue, refl, sym, ap, subst, arith}
use Rattle.std.specs.Prelude.{codes, decimal, get_or, not, nat_eq, nat_lt, slice_index, if◌then◌else◌}
use Rattle.std.specs.Fmt.{digit_glyph, digits, digits_onto}
use Rattle.std.specs.List.{AllByRecursion, list_all, list_any}
use Rattle.std.specs.Str.{bytes_eq}
use Rattle.std.proofs.lemmas.Bool.{cond-true, cond-false, lt-ltb}
use Rattle.std.proofs.lemmas.Bool.Decides.{nat_tests}
use Rattle.std.proofs.lemmas.Slice.Eq.{bytes_eq-Decides}
use native.Mathlib.Nat.{mod-lt}
use Rattle.base.specs.Texts.Words.{begins_word, is_word, is_word_byte}
use Rattle.dslx_token.specs.Spelling.{Spelling, kind_among}
use Rattle.xb_span.specs.declared.fault.Fault.TheVariants.{Passed}
use Rattle.xb_span.specs.declared.limit.What.TheVariants as what
use Rattle.xb_span.specs.declared.span.Span.{Span}
use Rattle.xb_span.specs.Spans.{nowhere}
use Rattle.ir_tree.specs.declared.package.Channel.{Channel}
use Rattle.ir_tree.specs.declared.package.Ends.{Ends}
use Rattle.ir_tree.specs.declared.package.Ends.TheVariants as ends
use Rattle.ir_tree.specs.declared.package.Package.{Package}
use Rattle.ir_tree.specs.Rules.Checks.{Check}
use Rattle.ir_tree.specs.Rules.Lines.{all_go_on, channel_checks, is_among, is_channel_named, is_name, is_named_well, is_package_named, is_plain, is_some_proc, name_goes_on, package_checks}
use Rattle.ir_tree.specs.Rules.Typed.Typed.{none_broken}
use Rattle.ir_tree.specs.Rules.Verified.{IsVerified, channels_checks, checks_of, count_check, first_fault, nothing_seen, nowhere_at_all, procs_checks}
use Rattle.ir_tree.proofs.Lemmas.Rules.Typed.Checked.{both_true, none_noted, not_not_true, parts_not}
use Rattle.vlog_text.specs.declared.token.rules.generated.kind.TheConstants.{NAME}
use Rattle.vlog_text.specs.Token.Kinds.{verilog_kind, verilog_words}
use Rattle.vlog_tree.specs.declared.module.Declaration.{Declaration}
use Rattle.vlog_tree.specs.declared.module.VModule.{VModule}
use Rattle.vlog_tree.specs.declared.signal.Role.{Role}
use Rattle.vlog_tree.specs.declared.signal.Role.TheVariants.{InputSignal, WireSignal}
use Rattle.vlog_tree.specs.Signals.{Declared, declared_own, declared_port}
use Rattle.vlog_text.specs.Builder.Building.{is_name as is_name_kind}
use Rattle.vlog_text.specs.RoundTrip.Names.{IsTextName, HasTextNames}
use Rattle.block_verilog.specs.Assembly.{own_name}
use Rattle.block_verilog.specs.Ports.{channel_ports, module_ports, ports_by, ports_of}
use Rattle.block_verilog.specs.Modules.{IsModuleOf, IsOwnName}

-- ---- words with a `_`

abbrev is_marked : List ℕ → Bool
is_marked bytes = list_any (λ c. c == 95) bytes

differs : (a b : List ℕ) → is_marked a ≡ false → is_marked b ≡ true → bytes_eq a b ≡ false
differs a b plain marked = by_case (bytes_eq a b) refl
  where
    by_case : (t : Bool) → bytes_eq a b ≡ t → bytes_eq a b ≡ false
    by_case true e =
        let same : a ≡ b = (bytes_eq-Decides a b).0 e in
        let no : false ≡ true = sym plain ∙ ap is_marked same ∙ marked in
        absurd (cc)
    by_case false e = e

-- what isn't spelled so is something else
unspelled : (ss : List Spelling) (bytes : List ℕ) (other : ℕ) → list_all (λ (s : Spelling). not (is_marked s.0)) ss ≡ true → is_marked bytes ≡ true → kind_among ss bytes other ≡ other
unspelled [] bytes other h marked = refl
unspelled (s ∷ ss) bytes other h marked =
    let parts = both_true (not (is_marked s.0)) (list_all (λ (s : Spelling). not (is_marked s.0)) ss) h in
    cond-false (bytes_eq s.0 bytes) s.1 (kind_among ss bytes other) (differs s.0 bytes (plain (is_marked s.0) parts.0) marked) ∙ unspelled ss bytes other parts.1 marked
  where
    plain : (b : Bool) → not b ≡ true → b ≡ false
    plain true e = absurd (cc)
    plain false e = refl

word_kind : (name : List ℕ) → is_word name ≡ true → is_marked name ≡ true → verilog_kind name ≡ NAME
word_kind [] word marked = absurd (cc)
word_kind (c ∷ cs) word marked =
    let begins = (both_true (begins_word c) (list_all is_word_byte cs) word).0 in
    cond-true (begins_word c) (kind_among verilog_words (c ∷ cs) NAME) _ begins ∙ unspelled verilog_words (c ∷ cs) NAME refl marked

text_name : (name : List ℕ) → is_word name ≡ true → is_marked name ≡ true → IsTextName name
text_name name word marked = (word, ap is_name_kind (word_kind name word marked))

-- ---- a word with a part behind it

all_both : (xs ys : List ℕ) → list_all is_word_byte xs ≡ true → list_all is_word_byte ys ≡ true → list_all is_word_byte (xs ++ ys) ≡ true
all_both [] ys h g = g
all_both (x ∷ xs) ys h g =
    let parts = both_true (is_word_byte x) (list_all is_word_byte xs) h in
    ap (λ t. t && list_all is_word_byte (xs ++ ys)) parts.0 ∙ all_both xs ys parts.1 g

longer_word : (name more : List ℕ) → is_word name ≡ true → list_all is_word_byte more ≡ true → is_word (name ++ more) ≡ true
longer_word [] more h g = absurd (cc)
longer_word (c ∷ cs) more h g =
    let parts = both_true (begins_word c) (list_all is_word_byte cs) h in
    ap (λ t. t && list_all is_word_byte (cs ++ more)) parts.0 ∙ all_both cs more parts.1 g

marked_behind : (xs ys : List ℕ) → is_marked ys ≡ true → is_marked (xs ++ ys) ≡ true
marked_behind [] ys h = h
marked_behind (x ∷ xs) ys h = either (x == 95) (is_marked (xs ++ ys)) (marked_behind xs ys h)
  where
    either : (a b : Bool) → b ≡ true → (a || b) ≡ true
    either true b e = refl
    either false b e = e

-- a word, and behind it one of these
ended : (name end : List ℕ) → is_word name ≡ true → list_all is_word_byte end ≡ true → is_marked end ≡ true → IsTextName (name ++ end)
ended name end word all marked = text_name (name ++ end) (longer_word name end word all) (marked_behind name end marked)

-- ---- numbers

digit_in_word : (c : ℕ) → 48 ≤ c → c ≤ 57 → is_word_byte c ≡ true
digit_in_word c low high = grind (arith, nat_tests)

glyph_in_word : (d : ℕ) → d < 10 → is_word_byte (digit_glyph false d) ≡ true
glyph_in_word d h = ap is_word_byte (cond-true (nat_lt d 10) (48 + d) _ (lt-ltb d 10 h)) ∙ digit_in_word (48 + d) (omega arith) (omega arith)

digits_in_word : (k n : ℕ) (acc : List ℕ) → list_all is_word_byte acc ≡ true → list_all is_word_byte (digits_onto k 10 false n acc) ≡ true
digits_in_word zero n acc h = h
digits_in_word (suc k) n acc h = choose (n / 10 == 0) (digit_glyph false (n % 10) ∷ acc) (digits_onto k 10 false (n / 10) (digit_glyph false (n % 10) ∷ acc)) more (digits_in_word k (n / 10) (digit_glyph false (n % 10) ∷ acc) more)
  where
    more : list_all is_word_byte (digit_glyph false (n % 10) ∷ acc) ≡ true
    more = ap (λ t. t && list_all is_word_byte acc) (glyph_in_word (n % 10) (mod-lt n (omega arith))) ∙ h

    choose : (b : Bool) (xs ys : List ℕ) → list_all is_word_byte xs ≡ true → list_all is_word_byte ys ≡ true → list_all is_word_byte (if b then xs else ys) ≡ true
    choose true xs ys p q = p
    choose false xs ys p q = q

decimal_in_word : (n : ℕ) → list_all is_word_byte (decimal n) ≡ true
unfolding digits
decimal_in_word n = digits_in_word 64 n [] refl

own_text_name : (name : List ℕ) → IsOwnName name → IsTextName name
own_text_name name own = subst IsTextName (sym own.1) (text_name (own_name own.0) (longer_word (codes "n_") (decimal own.0) refl (decimal_in_word own.0)) refl)

-- ---- names of a package

letter : (w a b n : Bool) → ((w || a) || (b && n)) ≡ true → (not a && not b) ≡ true → w ≡ true
letter true a b n h g = refl
letter false true b n h g = absurd (cc)
letter false false true n h g = absurd (cc)
letter false false false n h g = absurd (cc)

all_letters : (cs : List ℕ) → all_go_on cs ≡ true → is_plain cs ≡ true → list_all is_word_byte cs ≡ true
all_letters [] h g = refl
all_letters (c ∷ cs) h g =
    let goes = both_true (name_goes_on c (slice_index cs 0)) (all_go_on cs) h in
    let plain = both_true (not (nat_eq c 46) && not (nat_eq c 47)) (is_plain cs) g in
    ap (λ t. t && list_all is_word_byte cs) (letter (is_word_byte c) (c == 46) (c == 47) (not (slice_index cs 0 == 47)) goes.0 plain.0) ∙ all_letters cs goes.1 plain.1

plain_word : (name : List ℕ) → is_name name ≡ true → is_plain name ≡ true → is_word name ≡ true
plain_word [] h g = absurd (cc)
plain_word (c ∷ cs) h g =
    let parts = both_true (begins_word c) (all_go_on (c ∷ cs)) h in
    let goes = both_true (name_goes_on c (slice_index cs 0)) (all_go_on cs) parts.1 in
    let plain = both_true (not (nat_eq c 46) && not (nat_eq c 47)) (is_plain cs) g in
    ap (λ t. t && list_all is_word_byte cs) parts.0 ∙ all_letters cs goes.1 plain.1

-- ---- ports

abbrev AreNamed : List Declared → Type 0
AreNamed xs = AllByRecursion (λ (d : Declared). IsTextName d.name) xs

both_named : (xs ys : List Declared) → AreNamed xs → AreNamed ys → AreNamed (xs ++ ys)
both_named [] ys h g = g
both_named (x ∷ xs) ys h g = (h.0, both_named xs ys h.1 g)

three_named : (ch : Channel) (there back : Role) → is_word ch.name ≡ true → AreNamed (channel_ports ch there back)
three_named ch there back word = (ended ch.name (codes "_data") word refl refl, (ended ch.name (codes "_vld") word refl refl, (ended ch.name (codes "_rdy") word refl refl, tt)))

ports_named : (ch : Channel) (e : Ends) → is_name ch.name ≡ true → is_named_well e ch.name ≡ true → AreNamed (ports_by ch e)
ports_named ch ends.Input h g = three_named ch InputSignal WireSignal (plain_word ch.name h g)
ports_named ch ends.Output h g = three_named ch WireSignal InputSignal (plain_word ch.name h g)
ports_named ch (ends.Inner depth) h g = tt

channel_named : (span : Span) (names : List (List ℕ)) (place : ℕ) (ch : Channel) → IsTrue (none_broken (channel_checks span names place ch)) → AreNamed (ports_by ch ch.ends)
channel_named span names place ch h =
    let a = both_true (not (not (is_channel_named names place ch))) _ h in
    let b = both_true (not (is_among names ch.name)) _ (not_not_true (is_channel_named names place ch) a.0) in
    let c = both_true _ (is_name ch.name && is_named_well ch.ends ch.name) b.1 in
    let d = both_true (is_name ch.name) (is_named_well ch.ends ch.name) c.1 in
    ports_named ch ch.ends d.0 d.1

channels_named : (spans : List Span) (names : List (List ℕ)) (place : ℕ) (chs : List Channel) → IsTrue (none_broken (channels_checks spans names place chs)) → AreNamed (ports_of chs)
channels_named spans names place [] h = tt
channels_named spans names place (ch ∷ chs) h =
    let parts = parts_not (channel_checks (get_or spans place nowhere) names place ch) (channels_checks spans (names ++ ch.name ∷ []) (suc place) chs) h in
    both_named (ports_by ch ch.ends) (ports_of chs) (channel_named (get_or spans place nowhere) names place ch parts.0) (channels_named spans (names ++ ch.name ∷ []) (suc place) chs parts.1)

-- ---- packages

verified_checks : (ir : Package) → IsVerified ir → IsTrue (none_broken (checks_of ir nowhere_at_all))
unfolding first_fault
verified_checks ir h = none_noted (checks_of ir nowhere_at_all) h

abbrev behind_channels : Package → List Check
behind_channels ir =
    procs_checks ir.channels [] [] 0 (nothing_seen ir.channels) ir.procs
    ++ count_check (Passed 0 (record { what = what.Procs; found = 257; most = 256 })) 256 (length ir.procs)
    ∷ count_check (Passed 0 (record { what = what.Channels; found = 1025; most = 1024 })) 1024 (length ir.channels)
    ∷ []

package_word : (ir : Package) → IsVerified ir → is_word ir.name ≡ true
package_word ir h =
    let a = parts_not (package_checks nowhere ir.name ir.procs) (channels_checks [] [] 0 ir.channels ++ behind_channels ir) (verified_checks ir h) in
    let named = both_true (not (not (is_package_named ir.name ir.procs))) true a.0 in
    let parts = both_true (is_name ir.name) (is_plain ir.name && is_some_proc ir.procs) (not_not_true (is_package_named ir.name ir.procs) named.0) in
    plain_word ir.name parts.0 (both_true (is_plain ir.name) (is_some_proc ir.procs) parts.1).0

ports_are_named : (ir : Package) → IsVerified ir → AreNamed (module_ports ir.channels)
ports_are_named ir h =
    let a = parts_not (package_checks nowhere ir.name ir.procs) (channels_checks [] [] 0 ir.channels ++ behind_channels ir) (verified_checks ir h) in
    let b = parts_not (channels_checks [] [] 0 ir.channels) (behind_channels ir) a.1 in
    ((refl, refl), ((refl, refl), channels_named [] [] 0 ir.channels b.0))

own_are_named : (ds : List Declaration) → AllByRecursion (λ (own : Declaration). IsOwnName own.name) ds → AreNamed (map declared_own ds)
own_are_named [] h = tt
own_are_named (d ∷ ds) h = (own_text_name d.name h.0, own_are_named ds h.1)

-- all names of a package's module can stand in a text
pub text_names : (ir : Package) (m : VModule) (schedules : List (List ℕ)) (depths : List ℕ) → IsVerified ir → IsModuleOf m ir schedules depths → HasTextNames m
text_names ir m schedules depths verified is = record {
  own = subst IsTextName (sym is.name) (ended ir.name (codes "_top") (package_word ir verified) refl refl);
  all = both_named (map declared_port m.ports) (map declared_own m.declarations) (subst AreNamed (sym is.ports) (ports_are_named ir verified)) (own_are_named m.declarations is.names);
}
