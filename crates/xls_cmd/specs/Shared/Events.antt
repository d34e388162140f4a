-- What a call does to the files and to the sinks.
use Rattle.std.specs.Prelude.{◌≡◌, ◌+◌, ◌++◌, ◌⊎◌, ℕ, List, Option}
use Rattle.std.specs.Io.KnownBytes.{Appends}
use Rattle.xb_io.specs.Counts.{HasRisen, HasRisenBy}
use Rattle.xb_io.specs.Sink.{AppendsPrefix}
use Rattle.xb_io.specs.declared.files.TheConstants.{FILE_LIMIT}

pub record FileEvents : Type 1 where
  -- these names were asked for, in this order
  pub asks : List (List ℕ) → Type 0
  -- no fault was counted, or one was
  pub sound : Type 0
  pub faulted : Type 0
  -- more bytes were taken than a file may have
  pub took_past_limit : Type 0

abbrev pub file_events : {F : Type 0} → (F → List (List ℕ)) → (F → ℕ) → (F → ℕ) → F → F → FileEvents
file_events asked faults taken old new = record {
  asks = λ names. asked new ≡ asked old ++ names;
  sound = faults new ≡ faults old;
  faulted = HasRisen (faults old) (faults new);
  took_past_limit = HasRisenBy (FILE_LIMIT + 1) (taken old) (taken new);
}

pub record SinkEvents : Type 1 where
  pub untouched : Type 0
  -- these bytes were added, without a fault
  pub puts : List ℕ → Type 0
  -- a prefix of them was added, and a fault was counted
  pub breaks_off : List ℕ → Type 0

abbrev pub sink_events : {S : Type 0} → (S → Option (List ℕ)) → (S → ℕ) → S → S → SinkEvents
sink_events written faults old new = record {
  untouched = new ≡ old;
  puts = λ bytes. Appends (written old) (written new) bytes × (faults new ≡ faults old);
  breaks_off = λ bytes. AppendsPrefix (written old) (written new) bytes × HasRisen (faults old) (faults new);
}

-- the bytes were added, or a prefix of them where a fault was counted
abbrev pub PutsOrBreaksOff : SinkEvents → List ℕ → Type 0
PutsOrBreaksOff sink line = sink.puts line ⊎ sink.breaks_off line
