-- What went over a channel in a cut, by the words that its sender sent and by what its receiver counted.
use Rattle.std.proofs.Common.{◌≡◌, ℕ, List, [], take, get_or, refl, sym, ap, ◌∙◌, Some}
use Rattle.std.specs.Prelude.{slice_get}
use Rattle.xb_bits.specs.Word.{Word}
use Rattle.net_core.specs.declared.net.Chan.{Chan}
use Rattle.net_core.specs.declared.net.Kind.{Kind}
use Rattle.net_core.specs.declared.net.Kind.TheVariants.{Input, Output, Inner}
use Rattle.net_core.specs.declared.outcome.Stream.{Stream}
use Rattle.net_core.specs.Cuts.{Run, Cut, sender, receiver, sites_at, words_sent, count_received, words_by, words_at, received_at}
use Rattle.net_core.specs.Outcomes.{stream_of}
use Rattle.chan_queue.proofs.Lemmas.Streams.{input_words}
use Rattle.proc_task.proofs.OnOutcome.Over.{stream_input, stream_output, stream_inner}

-- what procs sent on channel c, and what they received from it
abbrev pub sent_in : Run → Cut → ℕ → List Word
sent_in run cut c = words_sent (sites_at run (sender run c)) c (cut (sender run c))

abbrev pub received_in : Run → Cut → ℕ → ℕ
received_in run cut c = count_received (sites_at run (receiver run c)) c (cut (receiver run c))

pub received_is : (run : Run) (cut : Cut) (c : ℕ) → received_at run cut c ≡ received_in run cut c
unfolding received_at
received_is run cut c = refl

output_words : (run : Run) (cut : Cut) (c : ℕ) (chan : Chan) → slice_get run.chans c ≡ Some chan → chan.kind ≡ Output → words_at run cut c ≡ sent_in run cut c
unfolding words_at words_by
output_words run cut c chan e is = ap (λ o. words_by run cut c o) e ∙ by_kind chan.kind is
  where
    by_kind : (kind : Kind) → kind ≡ Output
        → ◌≡◌ {A = List Word} (elim kind as (λ _. List Word) [ Input ↦ get_or run.inputs c [] | Output ↦ sent_in run cut c | Inner ↦ sent_in run cut c ]) (sent_in run cut c)
    by_kind Input k = cc
    by_kind Output k = refl
    by_kind Inner k = cc

pub inner_is : (run : Run) (cut : Cut) (c : ℕ) (chan : Chan) → slice_get run.chans c ≡ Some chan → chan.kind ≡ Inner → words_at run cut c ≡ sent_in run cut c
unfolding words_at words_by
inner_is run cut c chan e is = ap (λ o. words_by run cut c o) e ∙ by_kind chan.kind is
  where
    by_kind : (kind : Kind) → kind ≡ Inner
        → ◌≡◌ {A = List Word} (elim kind as (λ _. List Word) [ Input ↦ get_or run.inputs c [] | Output ↦ sent_in run cut c | Inner ↦ sent_in run cut c ]) (sent_in run cut c)
    by_kind Input k = cc
    by_kind Output k = cc
    by_kind Inner k = refl

module _ (run : Run) (cut : Cut) (c : ℕ) (chan : Chan) (e : slice_get run.chans c ≡ Some chan) where
  pub input_stream : chan.kind ≡ Input → (outside words : List Word) (received : ℕ) → get_or run.inputs c [] ≡ outside → received ≡ received_in run cut c → words ≡ take received outside
      → ◌≡◌ {A = Stream} (record { words = words; received = received }) (stream_of run cut c chan)
  input_stream k outside words received given count first =
      let all = count ∙ sym (received_is run cut c) in
      let there = sym given ∙ sym (input_words run cut c chan e k) in
      let front = first ∙ (ap (λ (n : ℕ). take n outside) all ∙ ap (λ (ws : List Word). take (received_at run cut c) ws) there) in
      (λ i. record { words = front i; received = all i }) ∙ sym (stream_input run cut c chan k)

  pub output_stream : chan.kind ≡ Output → (words : List Word) → words ≡ sent_in run cut c → ◌≡◌ {A = Stream} (record { words = words; received = 0 }) (stream_of run cut c chan)
  output_stream k words sent =
      let all = sent ∙ sym (output_words run cut c chan e k) in
      (λ i. record { words = all i; received = 0 }) ∙ sym (stream_output run cut c chan k)

  pub inner_stream : chan.kind ≡ Inner → (words : List Word) (received : ℕ) → words ≡ sent_in run cut c → received ≡ received_in run cut c
      → ◌≡◌ {A = Stream} (record { words = words; received = received }) (stream_of run cut c chan)
  inner_stream k words received sent count =
      let all = sent ∙ sym (inner_is run cut c chan e k) in
      let number = count ∙ sym (received_is run cut c) in
      (λ i. record { words = all i; received = number i }) ∙ sym (stream_inner run cut c chan k)
