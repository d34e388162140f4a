use Rattle.std.proofs.Common.{◌≡◌, ℕ, ◌<◌, List, [], length, replicate, ap, sym, subst, ◌∙◌, arith, Ok}
use Rattle.xb_bits.specs.Word.{Word}
use Rattle.net_core.specs.declared.net.Net.{Net}
use Rattle.net_core.specs.WellFormed.{IsNet}
use Rattle.base.specs.Texts.Lines.{lines_of, positioned}
use Rattle.base.proofs.Lemmas.Texts.Lines.{lines-within}
use Rattle.chan_file.specs.ChannelFile.{SaysLine, Reads}
use Rattle.chan_file.specs.declared.line.Said.TheVariants.{Word as AWord}
use Rattle.chan_file.specs.declared.named.Named.{Named}
use Rattle.chan_file.specs.Inner.Named.{HasNamed}
use Rattle.chan_file.proofs.Lemmas.Reading.{inputs_fit}
use Rattle.chan_file.proofs.Lines.{IsSoFar, so_far_none, so_far_nothing, so_far_channel, so_far_word, reads_fault, reads_all, channel_within, word_within, lists_length}
use Rattle.chan_file.proofs.inputs.read_inputs.Goals as goal

pub lines-init : goal.lines-init
lines-init c =
    let text = c.args.text.now in
    let held = subst (λ k. HasNamed k [] c.in_ok-named.named) c.len.ensures c.in_ok-named.ensures in
    let none = c.in_ok-words.ensures ∙ ap (λ k. replicate k []) c.len-2.ensures in
    record {
      so_far = subst (λ ls. IsSoFar c.args.net.now (positioned 0 (lines_of text)) ls (length text) c.in_ok-named.named c.in_ok-words.words.items) (sym c.new-lines.ensures)
          (so_far_none c.args.net.now (positioned 0 (lines_of text)) (length text) c.in_ok-named.named c.in_ok-words.words.items held none
          (lines-within 0 (length text) text (omega arith)));
    }

pub lines-preserved-in-Nothing : goal.lines-preserved-in-Nothing
lines-preserved-in-Nothing c =
    let s = c.lines.invariant.so_far in
    let says = subst (λ said. SaysLine c.args.net.now s.before c.in-Some.line.bytes.now said) c.in-Nothing.is (c.in_ok-read_line.ensures s.before s.held) in
    record { so_far = so_far_nothing c.args.net.now _ c.lines.lines c.next.new.self (length c.args.text.now) c.in-Some.line.at c.in-Some.line.bytes.now c.lines.named c.lines.words.items s c.in-Some.ensures says }

pub name-requires : goal.name-requires
name-requires c =
    let s = c.lines.invariant.so_far in
    let says = subst (λ said. SaysLine c.args.net.now s.before c.in-Some.line.bytes.now said) c.in-Channel.is (c.in_ok-read_line.ensures s.before s.held) in
    subst (λ k. c.in-Channel.chan < k) (sym s.held.count_is) (channel_within c.args.net.now s.before c.in-Some.line.bytes.now c.in-Channel.chan says)

pub lines-preserved-in-Channel : goal.lines-preserved-in-Channel
lines-preserved-in-Channel c =
    let s = c.lines.invariant.so_far in
    let says = subst (λ said. SaysLine c.args.net.now s.before c.in-Some.line.bytes.now said) c.in-Channel.is (c.in_ok-read_line.ensures s.before s.held) in
    record {
      so_far = so_far_channel c.args.net.now _ c.lines.lines c.next.new.self (length c.args.text.now) c.in-Some.line.at c.in-Some.line.bytes.now c.in-Channel.chan c.lines.named c.name.new.self c.lines.words.items s c.in-Some.ensures says
          (c.name.ensures (length c.args.net.now.chans) s.before s.held);
    }

-- a word that a line says is a word of a channel that is there
has_room : (net : Net) (all rest : List (ℕ × List ℕ)) (end : ℕ) (named : Named) (words : List (List Word)) (line : List ℕ) (c : ℕ) (w : Word)
    → IsNet net → (s : IsSoFar net all rest end named words) → SaysLine net s.before line (AWord c w) → c < length words
has_room net all rest end named words line c w fine s says =
    let within = word_within net s.before line c w fine s.inputs says in
    let lists : length words ≡ length net.chans = ap length s.words_are ∙ lists_length net s.done in
    omega arith

pub push_word-requires : goal.push_word-requires
push_word-requires c =
    let s = c.lines.invariant.so_far in
    has_room c.args.net.now _ c.lines.lines (length c.args.text.now) c.lines.named c.lines.words.items c.in-Some.line.bytes.now
    c.in-Some-number_line.said.chan c.in-Some-number_line.said.word c.requires.net s (c.in-Some-number_line.ensures s.before s.held)

pub lines-preserved-in-Some-number_line : goal.lines-preserved-in-Some-number_line
lines-preserved-in-Some-number_line c =
    let s = c.lines.invariant.so_far in
    let says = c.in-Some-number_line.ensures s.before s.held in
    let within = word_within c.args.net.now s.before c.in-Some.line.bytes.now c.in-Some-number_line.said.chan c.in-Some-number_line.said.word c.requires.net s.inputs says in
    record {
      so_far = so_far_word c.args.net.now _ c.lines.lines c.next.new.self (length c.args.text.now) c.in-Some.line.at c.in-Some.line.bytes.now c.in-Some-number_line.said.chan c.in-Some-number_line.said.word c.lines.named c.lines.words.items _ s c.in-Some.ensures says within
          c.in_ok-push_word.ensures;
    }

pub push_word-requires-in-Word : goal.push_word-requires-in-Word
push_word-requires-in-Word c =
    let s = c.lines.invariant.so_far in
    has_room c.args.net.now _ c.lines.lines (length c.args.text.now) c.lines.named c.lines.words.items c.in-Some.line.bytes.now
    c.in-Word.chan c.in-Word.word c.requires.net s
    (subst (λ said. SaysLine c.args.net.now s.before c.in-Some.line.bytes.now said) c.in-Word.is (c.in_ok-read_line.ensures s.before s.held))

pub lines-preserved : goal.lines-preserved
lines-preserved c =
    let s = c.lines.invariant.so_far in
    let says = subst (λ said. SaysLine c.args.net.now s.before c.in-Some.line.bytes.now said) c.in-Word.is (c.in_ok-read_line.ensures s.before s.held) in
    let within = word_within c.args.net.now s.before c.in-Some.line.bytes.now c.in-Word.chan c.in-Word.word c.requires.net s.inputs says in
    record {
      so_far = so_far_word c.args.net.now _ c.lines.lines c.next.new.self (length c.args.text.now) c.in-Some.line.at c.in-Some.line.bytes.now c.in-Word.chan c.in-Word.word c.lines.named c.lines.words.items _ s c.in-Some.ensures says within
          c.in_ok-push_word-in-Word.ensures;
    }

pub returns-in-Fault-clause-reads : goal.returns-in-Fault-clause-reads
returns-in-Fault-clause-reads c =
    let s = c.lines.invariant.so_far in
    let says = subst (λ said. SaysLine c.args.net.now s.before c.in-Some.line.bytes.now said) c.in-Fault.is (c.in_ok-read_line.ensures s.before s.held) in
    reads_fault c.args.net.now c.args.text.now c.lines.lines c.next.new.self (length c.args.text.now) c.in-Some.line.at c.in-Some.line.bytes.now c.in-Fault.cause c.lines.named c.lines.words.items s c.in-Some.ensures says

pub returns-clause-reads : goal.returns-clause-reads
returns-clause-reads c =
    subst (λ ws. Reads c.args.net.now c.args.text.now (Ok (record { words = ws }))) (sym c.from_vec.ensures)
    (reads_all c.args.net.now c.args.text.now c.lines.lines (length c.args.text.now) c.lines.named c.lines.words.items c.lines.invariant.so_far c.in_default.ensures.0)

pub returns-clause-inputs : goal.returns-clause-inputs
returns-clause-inputs c =
    inputs_fit c.args.net.now c.args.text.now (record { words = c.from_vec.result }) c.requires.net
    (subst (λ ws. Reads c.args.net.now c.args.text.now (Ok (record { words = ws }))) (sym c.from_vec.ensures)
    (reads_all c.args.net.now c.args.text.now c.lines.lines (length c.args.text.now) c.lines.named c.lines.words.items c.lines.invariant.so_far c.in_default.ensures.0))
