-- What was read of a file's lines so far.
use Rattle.std.proofs.Common.{◌≡◌, ◌<◌, ◌≤◌, ◌+◌, ℕ, zero, suc, Bool, true, false, List, [], ◌∷◌, ◌++◌, length, nat_lt, Result, Ok, Err, refl, sym, ap, ap₂, ◌∙◌, subst, arith, append_assoc, append-nil}
use Rattle.std.specs.Prelude.{if◌then◌else◌, min}
use Rattle.std.proofs.lemmas.Bool.Decides.{nat_tests}
use Rattle.base.specs.Texts.Lines.{lines_of, positioned}
use Rattle.base.proofs.Lemmas.Texts.Lines.{EndWithin}
use Rattle.chan_file.specs.declared.refusal.Cause.{Cause}
use Rattle.vlog_tree.specs.declared.module.VModule.{VModule}
use Rattle.vlog_tree.specs.Signals.{Channel, channels_of}
use Rattle.cycle_sim.specs.declared.rows.line.LineSaid.TheVariants.{Nothing, Repeat, Fault}
use Rattle.cycle_sim.specs.declared.rows.refusal.RowError.{RowError}
use Rattle.cycle_sim.specs.declared.rows.refusal.RowError.TheVariants.{Input, Over}
use Rattle.cycle_sim.specs.declared.rows.rows.Repeated.{Repeated}
use Rattle.cycle_sim.specs.Rows.Forms.{most_rows}
use Rattle.cycle_sim.specs.Rows.RowFile.{RowLines, Reads, SaysRowLine, SaysRowLines, at_end, at_fault, before_rows, behind_nothing, behind_row, count_rows, cycles_limit, limited}

-- rows before those of an answer
abbrev pub behind : List Repeated → RowLines → RowLines
behind done (Ok xs) = Ok (done ++ xs)
behind done (Err e) = Err e

-- some rows were read: whatever the lines that are left say completes what all of them say
pub record AreRead (channels : List Channel) (all left : List (ℕ × List ℕ)) (end : ℕ) (rows : List Repeated) (count : ℕ) : Type 0 where
  pub within : EndWithin end left
  pub counted : count ≡ min (count_rows rows) 1048577
  pub goes : (r : RowLines) → SaysRowLines channels left r → SaysRowLines channels all (behind rows r)

behind-nil : (r : RowLines) → behind [] r ≡ r
behind-nil (Ok xs) = refl
behind-nil (Err e) = refl

behind-row : (done : List Repeated) (x : Repeated) (r : RowLines) → behind done (before_rows x r) ≡ behind (done ++ x ∷ []) r
behind-row done x (Ok xs) = ap Ok (sym (append_assoc done (x ∷ []) xs))
behind-row done x (Err e) = refl

count-more : (xs : List Repeated) (x : Repeated) → count_rows (xs ++ x ∷ []) ≡ count_rows xs + x.times
count-more [] x = omega arith
count-more (y ∷ xs) x = omega (arith, count-more xs x)

pub none_read : (channels : List Channel) (all : List (ℕ × List ℕ)) (end : ℕ) → EndWithin end all → AreRead channels all all end [] 0
none_read channels all end within = record { within = within; counted = omega arith; goes = λ r k. subst (SaysRowLines channels all) (sym (behind-nil r)) k }

pub nothing_more : (channels : List Channel) (all left next : List (ℕ × List ℕ)) (end at : ℕ) (line : List ℕ) (rows : List Repeated) (count : ℕ)
    → AreRead channels all left end rows count → left ≡ (at, line) ∷ next → SaysRowLine channels line Nothing → AreRead channels all next end rows count
nothing_more channels all left next end at line rows count s e says = record {
  within = (subst (EndWithin end) e s.within).1;
  counted = s.counted;
  goes = λ r k. s.goes r (subst (λ ls. SaysRowLines channels ls r) (sym e) (behind_nothing at line next r says k));
}

pub row_more : (channels : List Channel) (all left next : List (ℕ × List ℕ)) (end at : ℕ) (line : List ℕ) (rows : List Repeated) (x : Repeated) (count more : ℕ)
    → AreRead channels all left end rows count → left ≡ (at, line) ∷ next → SaysRowLine channels line (Repeat x) → more ≡ min (count + x.times) 1048577 → AreRead channels all next end (rows ++ x ∷ []) more
row_more channels all left next end at line rows x count more s e says is = record {
  within = (subst (EndWithin end) e s.within).1;
  counted = omega (arith, s.counted, is, count-more rows x);
  goes = λ r k. subst (SaysRowLines channels all) (behind-row rows x r) (s.goes (before_rows x r) (subst (λ ls. SaysRowLines channels ls (before_rows x r)) (sym e) (behind_row at line next r x says k)));
}

pub fault_read : (m : VModule) (text : List ℕ) (left next : List (ℕ × List ℕ)) (end at : ℕ) (line : List ℕ) (cause : Cause) (rows : List Repeated) (count : ℕ)
    → AreRead (channels_of m) (positioned 0 (lines_of text)) left end rows count → left ≡ (at, line) ∷ next → SaysRowLine (channels_of m) line (Fault cause) → Reads m text (Err (Input cause at))
fault_read m text left next end at line cause rows count s e says = record {
  lines = Err (cause, at);
  says = s.goes (Err (cause, at)) (subst (λ ls. SaysRowLines (channels_of m) ls (Err (cause, at))) (sym e) (at_fault at line next cause says));
  is = refl;
}

all_said : (channels : List Channel) (all left : List (ℕ × List ℕ)) (end : ℕ) (rows : List Repeated) (count : ℕ) → AreRead channels all left end rows count → left ≡ [] → SaysRowLines channels all (Ok rows)
all_said channels all left end rows count s e =
    subst (λ xs. SaysRowLines channels all (Ok xs)) (append-nil rows) (s.goes (Ok []) (subst (λ ls. SaysRowLines channels ls (Ok [])) (sym e) at_end))

pub all_read : (m : VModule) (text : List ℕ) (left : List (ℕ × List ℕ)) (end : ℕ) (rows : List Repeated) (count : ℕ)
    → AreRead (channels_of m) (positioned 0 (lines_of text)) left end rows count → left ≡ [] → count ≤ 1048576 → Reads m text (Ok rows)
all_read m text left end rows count s e few =
    let few_rows : count_rows rows ≤ 1048576 = omega (arith, s.counted, few) in
    let test : nat_lt 1048576 (count_rows rows) ≡ false = grind (arith, nat_tests) in
    record {
      lines = Ok rows;
      says = all_said (channels_of m) (positioned 0 (lines_of text)) left end rows count s e;
      is = sym (ap (λ b. if b then Err (Over cycles_limit) else Ok rows) test);
    }

pub too_many_read : (m : VModule) (text : List ℕ) (left : List (ℕ × List ℕ)) (end : ℕ) (rows : List Repeated) (count : ℕ)
    → AreRead (channels_of m) (positioned 0 (lines_of text)) left end rows count → left ≡ [] → 1048576 < count → Reads m text (Err (Over cycles_limit))
too_many_read m text left end rows count s e many =
    let many_rows : 1048576 < count_rows rows = omega (arith, s.counted, many) in
    let test : nat_lt 1048576 (count_rows rows) ≡ true = grind (arith, nat_tests) in
    record {
      lines = Ok rows;
      says = all_said (channels_of m) (positioned 0 (lines_of text)) left end rows count s e;
      is = sym (ap (λ b. if b then Err (Over cycles_limit) else Ok rows) test);
    }
