-- What a text can say: names that are words, numbers that tokens have, and a proc. A package that breaks no rule is so, where its
-- numbers are in range.
use Rattle.std.proofs.Common.{◌≡◌, ℕ, suc, ◌&&◌, Bool, true, false, List, [], ◌∷◌, ◌++◌, length, IsTrue, refl, ap, ◌∙◌, arith}
use Rattle.std.specs.Prelude.{◌==◌, if◌then◌else◌, not, slice_index, get_or}
use Rattle.std.specs.List.{list_all}
use Rattle.std.proofs.lemmas.Bool.{and_parts, cond-true}
use Rattle.std.proofs.lemmas.Bool.Decides.{nat_tests}
use Rattle.xb_span.specs.declared.fault.Fault.TheVariants.{Passed}
use Rattle.xb_span.specs.declared.limit.What.TheVariants as what
use Rattle.xb_span.specs.declared.span.Span.{Span}
use Rattle.xb_span.specs.Spans.{nowhere}
use Rattle.base.specs.Texts.Words.{begins_word}
use Rattle.ir_builder.specs.Token.TokenPrefixes.{name_len, word_goes_on}
use Rattle.ir_tree.specs.declared.package.Channel.{Channel}
use Rattle.ir_tree.specs.declared.package.Package.{Package}
use Rattle.ir_tree.specs.declared.package.Proc.{Proc}
use Rattle.ir_tree.specs.declared.rules.line_spans.ProcSpans.{ProcSpans}
use Rattle.ir_tree.specs.Rules.Checks.{Check}
use Rattle.ir_tree.specs.Rules.Lines.{Seen, all_go_on, channel_checks, head_checks, is_among, is_channel_named, is_name, is_named_well, is_package_named, is_plain, is_proc_named, is_some_proc, package_checks}
use Rattle.ir_tree.specs.Rules.Verified.{IsVerified, at_start, channels_checks, checks_of, count_check, first_fault, nothing_seen, nowhere_at_all, nowhere_proc, proc_checks, procs_checks, seen_after}
use Rattle.ir_tree.specs.Rules.Typed.Typed.{none_broken}
use Rattle.ir_tree.proofs.Lemmas.Rules.Typed.Checked.{and_true, both_true, none_noted, not_not_true, parts_not}
use Rattle.ir_text.specs.RoundTrip.InRange.{IsInRange, channel_in_range, constant_in_range, node_in_range, proc_in_range, type_in_range}

-- the whole of it is one word
abbrev pub is_one_word : List ℕ → Bool
is_one_word [] = false
is_one_word (c ∷ cs) = begins_word c && (name_len (c ∷ cs) == suc (length cs))

abbrev pub channel_writable : Channel → Bool
channel_writable c = is_one_word c.name && type_in_range c.ty

abbrev pub proc_writable : Proc → Bool
proc_writable p =
    (is_one_word p.name && (type_in_range p.state && constant_in_range p.init)) && list_all node_in_range p.nodes

-- each name is a word, each number one that a token has, and there is a proc
abbrev pub is_writable : Package → Bool
is_writable ir =
    (is_one_word ir.name && list_all channel_writable ir.channels) && (list_all proc_writable ir.procs && is_some_proc ir.procs)

abbrev pub IsWritable : Package → Type 0
IsWritable ir = IsTrue (is_writable ir)

-- ---- names

whole : (cs : List ℕ) → IsTrue (all_go_on cs) → name_len cs ≡ length cs
whole [] h = refl
whole (c ∷ cs) h =
    let parts = and_parts (word_goes_on c (slice_index cs 0)) (all_go_on cs) h in
    cond-true (word_goes_on c (slice_index cs 0)) (suc (name_len cs)) 0 parts.0 ∙ ap suc (whole cs parts.1)

same_number : (n m : ℕ) → n ≡ m → IsTrue (n == m)
same_number n m e = grind (arith, nat_tests)

one_word : (name : List ℕ) → IsTrue (is_name name) → IsTrue (is_one_word name)
one_word [] h = absurd (cc)
one_word (c ∷ cs) h =
    let parts = and_parts (begins_word c) (all_go_on (c ∷ cs)) h in
    and_true (begins_word c) _ parts.0 (same_number (name_len (c ∷ cs)) (suc (length cs)) (whole (c ∷ cs) parts.1))

-- ---- lines

channel_written : (span : Span) (names : List (List ℕ)) (place : ℕ) (ch : Channel) → IsTrue (none_broken (channel_checks span names place ch)) → IsTrue (channel_in_range ch) → IsTrue (channel_writable ch)
channel_written span names place ch h range =
    let a = both_true (not (not (is_channel_named names place ch))) _ h in
    let b = both_true (not (is_among names ch.name)) _ (not_not_true (is_channel_named names place ch) a.0) in
    let c = both_true _ (is_name ch.name && is_named_well ch.ends ch.name) b.1 in
    let d = both_true (is_name ch.name) (is_named_well ch.ends ch.name) c.1 in
    and_true (is_one_word ch.name) (type_in_range ch.ty) (one_word ch.name d.0) range

channels_written : (spans : List Span) (names : List (List ℕ)) (place : ℕ) (chs : List Channel) → IsTrue (none_broken (channels_checks spans names place chs)) → IsTrue (list_all channel_in_range chs) → IsTrue (list_all channel_writable chs)
channels_written spans names place [] h range = refl
channels_written spans names place (ch ∷ chs) h range =
    let parts = parts_not (channel_checks (get_or spans place nowhere) names place ch) (channels_checks spans (names ++ ch.name ∷ []) (suc place) chs) h in
    let ranges = and_parts (channel_in_range ch) (list_all channel_in_range chs) range in
    and_true (channel_writable ch) (list_all channel_writable chs) (channel_written (get_or spans place nowhere) names place ch parts.0 ranges.0)
    (channels_written spans (names ++ ch.name ∷ []) (suc place) chs parts.1 ranges.1)

proc_written : (channels : List Channel) (line_spans : ProcSpans) (names : List (List ℕ)) (seen : Seen) (p : Proc) → IsTrue (none_broken (proc_checks channels line_spans names seen p)) → IsTrue (proc_in_range p) → IsTrue (proc_writable p)
proc_written channels line_spans names seen p h range =
    let a = parts_not (head_checks line_spans.head names p) _ h in
    let b = both_true (not (not (is_proc_named names p))) _ a.0 in
    let c = both_true (not (is_among names p.name)) (is_name p.name) (not_not_true (is_proc_named names p) b.0) in
    let ranges = and_parts (type_in_range p.state && constant_in_range p.init) (list_all node_in_range p.nodes) range in
    and_true (is_one_word p.name && (type_in_range p.state && constant_in_range p.init)) (list_all node_in_range p.nodes)
    (and_true (is_one_word p.name) (type_in_range p.state && constant_in_range p.init) (one_word p.name c.1) ranges.0)
    ranges.1

procs_written : (channels : List Channel) (line_spans : List ProcSpans) (names : List (List ℕ)) (place : ℕ) (seen : Seen) (ps : List Proc) → IsTrue (none_broken (procs_checks channels line_spans names place seen ps)) → IsTrue (list_all proc_in_range ps) → IsTrue (list_all proc_writable ps)
procs_written channels line_spans names place seen [] h range = refl
procs_written channels line_spans names place seen (p ∷ ps) h range =
    let parts = parts_not (proc_checks channels (get_or line_spans place nowhere_proc) names seen p) (procs_checks channels line_spans (names ++ p.name ∷ []) (suc place) (seen_after 0 (at_start seen) p.nodes) ps) h in
    let ranges = and_parts (proc_in_range p) (list_all proc_in_range ps) range in
    and_true (proc_writable p) (list_all proc_writable ps) (proc_written channels (get_or line_spans place nowhere_proc) names seen p parts.0 ranges.0)
    (procs_written channels line_spans (names ++ p.name ∷ []) (suc place) (seen_after 0 (at_start seen) p.nodes) ps parts.1 ranges.1)

-- ---- packages

verified_checks : (ir : Package) → IsVerified ir → IsTrue (none_broken (checks_of ir nowhere_at_all))
unfolding first_fault
verified_checks ir h = none_noted (checks_of ir nowhere_at_all) h

abbrev counts : Package → List Check
counts ir =
    count_check (Passed 0 (record { what = what.Procs; found = 257; most = 256 })) 256 (length ir.procs)
    ∷ count_check (Passed 0 (record { what = what.Channels; found = 1025; most = 1024 })) 1024 (length ir.channels)
    ∷ []

abbrev all_procs : Package → List Check
all_procs ir = procs_checks ir.channels [] [] 0 (nothing_seen ir.channels) ir.procs ++ counts ir

pub verified_writable : (ir : Package) → IsVerified ir → IsInRange ir → IsWritable ir
verified_writable ir h range =
    let a = parts_not (package_checks nowhere ir.name ir.procs) (channels_checks [] [] 0 ir.channels ++ all_procs ir) (verified_checks ir h) in
    let b = parts_not (channels_checks [] [] 0 ir.channels) (all_procs ir) a.1 in
    let c = parts_not (procs_checks ir.channels [] [] 0 (nothing_seen ir.channels) ir.procs) (counts ir) b.1 in
    let named = both_true (not (not (is_package_named ir.name ir.procs))) true a.0 in
    let parts = both_true (is_name ir.name) (is_plain ir.name && is_some_proc ir.procs) (not_not_true (is_package_named ir.name ir.procs) named.0) in
    let some = both_true (is_plain ir.name) (is_some_proc ir.procs) parts.1 in
    let ranges = and_parts (list_all channel_in_range ir.channels) (list_all proc_in_range ir.procs) range in
    and_true (is_one_word ir.name && list_all channel_writable ir.channels) (list_all proc_writable ir.procs && is_some_proc ir.procs)
    (and_true (is_one_word ir.name) (list_all channel_writable ir.channels) (one_word ir.name parts.0) (channels_written [] [] 0 ir.channels b.0 ranges.0))
    (and_true (list_all proc_writable ir.procs) (is_some_proc ir.procs) (procs_written ir.channels [] [] 0 (nothing_seen ir.channels) ir.procs c.0 ranges.1) some.1)
