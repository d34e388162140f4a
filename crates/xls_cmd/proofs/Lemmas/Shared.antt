-- For the crates of commands: steps one after the other, loads one after the other, and what is answered then.
use Rattle.std.proofs.Common.{◌≡◌, ◌≤◌, ℕ, List, [], ◌∷◌, ◌++◌, inl, inr, Option, Some, None, Result, Ok, Err, refl, sym, ap, ◌∙◌, subst, arith}
use Rattle.std.specs.Prelude.{MatchResult, IfOk, IfErr, IsErrAnd, string_bytes}
use Rattle.std.proofs.lemmas.List.{append_assoc, append-nil}
use Rattle.xb_io.specs.Contents.{Contents}
use Rattle.xls_cmd.specs.declared.shared.refusal.Refusal.{Refusal}
use Rattle.xls_cmd.specs.declared.shared.refusal.Refusal.TheVariants as refusal
use Rattle.xls_cmd.specs.declared.shared.fault.Fault.TheVariants.{Usage, TooBig, Text, Input, Infeasible}
use Rattle.std.specs.Borrow.{Bor}
use Rattle.xls_cmd.specs.declared.shared.fault.Fault as code
use Rattle.xls_cmd.specs.Shared.Fault.{Fault, named, status_of}
use Rattle.xls_cmd.specs.Shared.Step.{Then, goes_on, stops, IsOne, IsOfCommand, IsGivenByCommand, ExpectedBy, Gives}
use Rattle.xls_cmd.specs.Shared.Agrees.{AreAlike, Agrees}
use Rattle.xls_cmd.specs.Shared.Loads.{Loads, whole, past_limit, OfText, accepts, rejects}
use Rattle.xb_span.specs.declared.read_error.ReadError.{ReadError}
use Rattle.xb_span.specs.declared.read_error.ReadError.TheVariants.{Syntax, Broken, Over, OutOfMemory}
use Rattle.xls_cmd.specs.Shared.Events.{FileEvents, SinkEvents, file_events}
use Rattle.xls_cmd.specs.Shared.Done.{text_refusal, RefusesFor, IsBehindLoads, StopsBy, IsRefused, IsDone, IsLast, IsBackedByBytes, GivesExpected}
use Rattle.xls_cmd.specs.Shared.Response.{Writes, ShowsRefusal}
use Rattle.xls_cmd.specs.Shared.Answered.{Answers, wrote, refused, no_memory, unread, unwritten, IsAnswered}

-- ---- steps

-- a refusal of the first step is one of the whole
pub stops_in_first : {A B : Type 0} (first : Result A Fault → Type 0) (next : A → Result B Fault → Type 0) (r : Refusal) → StopsBy first r → StopsBy (Then first next) r
stops_in_first first next refusal.OutOfMemory stop = tt
stops_in_first first next (refusal.Unread name) stop = absurd stop
stops_in_first first next (refusal.Fault fault) stop = (stops (named fault) stop.0, stop.1)
stops_in_first first next (refusal.Infeasible line) stop = stops (Infeasible (string_bytes line)) stop

-- and one of what follows too
pub stops_in_next : {A B : Type 0} (first : Result A Fault → Type 0) (next : A → Result B Fault → Type 0) (x : A) (r : Refusal) → first (Ok x) → StopsBy (next x) r → StopsBy (Then first next) r
stops_in_next first next x refusal.OutOfMemory here stop = tt
stops_in_next first next x (refusal.Unread name) here stop = absurd stop
stops_in_next first next x (refusal.Fault fault) here stop = (goes_on x (Err (named fault)) here stop.0, stop.1)
stops_in_next first next x (refusal.Infeasible line) here stop = goes_on x (Err (Infeasible (string_bytes line))) here stop

-- what follows the first step gives what the whole gives
pub gives_in_next : {A B : Type 0} (first : Result A Fault → Type 0) (next : A → Result B Fault → Type 0) (x : A) (y : B) → first (Ok x) → next x (Ok y) → Then first next (Ok y)
gives_in_next first next x y here there = goes_on x (Ok y) here there

same_ok : {A : Type 0} (x y : A) → ◌≡◌ {A = Result A Fault} (Ok x) (Ok y) → x ≡ y
same_ok x y e = cc

ok_is_no_err : {A : Type 0} (x : A) (f : Fault) → ◌≡◌ {A = Result A Fault} (Ok x) (Err f) → ⊥
ok_is_no_err x f e = cc

-- steps that give one thing each give one thing one after the other
pub then_is_one : {A B : Type 0} (first : Result A Fault → Type 0) (next : A → Result B Fault → Type 0) → IsOne first → ((x : A) → IsOne (next x)) → IsOne (Then first next)
then_is_one first next one each a b (goes_on x given here there) (goes_on x' given' here' there') =
    each x' given given' (subst (λ v. next v given) (same_ok x x' (one (Ok x) (Ok x') here here')) there) there'
then_is_one first next one each a b (goes_on x given here there) (stops fault stop) = absurd (ok_is_no_err x fault (one (Ok x) (Err fault) here stop))
then_is_one first next one each a b (stops fault stop) (goes_on x given here there) = absurd (ok_is_no_err x fault (one (Ok x) (Err fault) here stop))
then_is_one first next one each a b (stops fault stop) (stops fault' stop') =
    let same : fault ≡ fault' = let e = one (Err fault) (Err fault') stop stop' in cc in
    ap Err same

same_err : {A : Type 0} (f g : Fault) → ◌≡◌ {A = Result A Fault} (Err f) (Err g) → f ≡ g
same_err f g e = cc

-- where the first step gives one thing, and what follows agrees, the whole agrees
pub then_agrees : {A B : Type 0} (first : Result A Fault → Type 0) (next : A → Result B Fault → Type 0) → IsOne first → ((x : A) → Agrees (next x)) → Agrees (Then first next)
then_agrees first next one each a b (goes_on x given here there) (goes_on y given' here' there') =
    each y given given' (subst (λ v. next v given) (same_ok x y (one (Ok x) (Ok y) here here')) there) there'
then_agrees first next one each a b (goes_on x given here there) (stops fault stop) = absurd (ok_is_no_err x fault (one (Ok x) (Err fault) here stop))
then_agrees first next one each a b (stops fault stop) (goes_on x given here there) = absurd (ok_is_no_err x fault (one (Ok x) (Err fault) here stop))
then_agrees first next one each a b (stops fault stop) (stops fault' stop') = same_err fault fault' (one (Err fault) (Err fault') stop stop')

-- where the first step agrees, and so does what follows whatever it gave, the whole agrees
pub then_alike : {A B : Type 0} (first : Result A Fault → Type 0) (next : A → Result B Fault → Type 0) → Agrees first → ((x y : A) (a b : Result B Fault) → next x a → next y b → AreAlike a b) → Agrees (Then first next)
then_alike first next agrees each a b (goes_on x given here there) (goes_on y given' here' there') = each x y given given' there there'
then_alike first next agrees each a b (goes_on x given here there) (stops fault stop) = absurd (agrees (Ok x) (Err fault) here stop)
then_alike first next agrees each a b (stops fault stop) (goes_on x given here there) = absurd (agrees (Err fault) (Ok x) stop here)
then_alike first next agrees each a b (stops fault stop) (stops fault' stop') = agrees (Err fault) (Err fault') stop stop'

alike_here : {A : Type 0} (a : Result A Fault) → AreAlike a a
alike_here (Ok x) = tt
alike_here (Err fault) = refl

-- what gives one thing agrees
pub one_agrees : {A : Type 0} (step : Result A Fault → Type 0) → IsOne step → Agrees step
one_agrees step one a b is also = subst (AreAlike a) (one a b is also) (alike_here a)

pub gives_is_one : {A : Type 0} (wanted : Result A Fault) → IsOne (Gives wanted)
gives_is_one wanted a b is also = is ∙ sym also

same_bytes : (holds : Contents) (name a b : List ℕ) → holds name ≡ Some a → holds name ≡ Some b → a ≡ b
same_bytes holds name a b is also = let e : Some a ≡ Some b = sym is ∙ also in cc

pub loads_is_one : (holds : Contents) (name : List ℕ) → IsOne (Loads holds name)
loads_is_one holds name a b (whole bytes held within) (whole bytes' held' within') = ap Ok (same_bytes holds name bytes bytes' held held')
loads_is_one holds name a b (whole bytes held within) (past_limit bytes' held' past) = absurd (let same = same_bytes holds name bytes bytes' held held' in let past' = rw (← same) at past in omega arith)
loads_is_one holds name a b (past_limit bytes held past) (whole bytes' held' within) = absurd (let same = same_bytes holds name bytes bytes' held held' in let past' = rw same at past in omega arith)
loads_is_one holds name a b (past_limit bytes held past) (past_limit bytes' held' past') = refl

-- ---- what is expected by what files hold, where that is told

pub expected_stops : {A B : Type 0} (known_contents : Option Contents) (first : Contents → Result A Fault → Type 0) (next : Contents → A → Result B Fault → Type 0) (fault : Fault) →
    ExpectedBy known_contents first (Err fault) → ExpectedBy known_contents (λ holds. Then (first holds) (next holds)) (Err fault)
expected_stops None first next fault expected = (expected.0, tt)
expected_stops (Some holds) first next fault expected = (expected.0, stops fault expected.1)

pub expected_goes_on : {A B : Type 0} (known_contents : Option Contents) (first : Contents → Result A Fault → Type 0) (next : Contents → A → Result B Fault → Type 0) (x : A) (given : Result B Fault) →
    ExpectedBy known_contents first (Ok x) → ExpectedBy known_contents (λ holds. next holds x) given → ExpectedBy known_contents (λ holds. Then (first holds) (next holds)) given
expected_goes_on None first next x given here there = (there.0, tt)
expected_goes_on (Some holds) first next x given here there = (there.0, goes_on x given here.1 there.1)

pub expected_anyway : {A : Type 0} (known_contents : Option Contents) (step : Result A Fault → Type 0) (given : Result A Fault) → IsGivenByCommand given → step given → ExpectedBy known_contents (λ holds. step) given
expected_anyway None step given of is = (of, tt)
expected_anyway (Some holds) step given of is = (of, is)

-- ---- refusals

-- what is refused for a fault that one thing gives is refused for it as another gives it
pub refused_as : (expected expected' : Result (List ℕ) Fault → Type 0) (files : FileEvents) (names : List (List ℕ)) (r : Refusal) → ((fault : Fault) → expected (Err fault) → expected' (Err fault)) →
    IsRefused expected files names r → IsRefused expected' files names r
refused_as expected expected' files names refusal.OutOfMemory same is = is
refused_as expected expected' files names (refusal.Unread name) same is = is
refused_as expected expected' files names (refusal.Fault fault) same is = (same (named fault) is.0, is.1, is.2)
refused_as expected expected' files names (refusal.Infeasible line) same is = (same (Infeasible (string_bytes line)) is.0, is.1)

-- the last name stays the last one behind others
last_behind : (before names : List (List ℕ)) (name : List ℕ) → IsLast names name → IsLast (before ++ names) name
last_behind before names name last = (before ++ last.0, ap (λ t. before ++ t) last.1 ∙ sym (append_assoc before last.0 (name ∷ [])))

module _ {F : Type 0} (asked : F → List (List ℕ)) (faults taken : F → ℕ) where
  counted_later : (old mid new : F) (fault : Fault) → taken old ≤ taken mid → IsBackedByBytes (file_events asked faults taken mid new) fault → IsBackedByBytes (file_events asked faults taken old new) fault
  counted_later old mid new (TooBig name) rises is = omega arith
  counted_later old mid new _ rises is = tt

  -- a load that refuses after others
  pub refused_later : (expected : Result (List ℕ) Fault → Type 0) (old mid new : F) (before names : List (List ℕ)) (r : Refusal) → faults mid ≡ faults old → taken old ≤ taken mid →
      IsRefused expected (file_events asked faults taken mid new) names r → IsRefused expected (file_events asked faults taken old new) (before ++ names) r
  refused_later expected old mid new before names refusal.OutOfMemory same rises is = is ∙ same
  refused_later expected old mid new before names (refusal.Unread name) same rises is = (omega arith, last_behind before names name.now is.1)
  refused_later expected old mid new before names (refusal.Fault fault) same rises is = (is.0, is.1 ∙ same, counted_later old mid new (named fault) rises is.2)
  refused_later expected old mid new before names (refusal.Infeasible line) same rises is = (is.0, is.1 ∙ same)

  -- the names of loads one after the other
  pub asks_later : (old mid new : F) (before names : List (List ℕ)) → asked mid ≡ asked old ++ before → asked new ≡ asked mid ++ names → asked new ≡ asked old ++ (before ++ names)
  asks_later old mid new before names first next = next ∙ ap (λ t. t ++ names) first ∙ append_assoc (asked old) before names

-- ---- readers of texts

-- a reader that refuses a file's text stops the command
pub stops_at_text : {A : Type 0} (name : Bor (List ℕ)) (reader : Result A ReadError → Type 0) (error : ReadError) → RefusesFor reader error → StopsBy (OfText name.now reader) (text_refusal name error)
stops_at_text name reader (Syntax at) is = (rejects (Syntax at) is, tt)
stops_at_text name reader (Broken rule span) is = (rejects (Broken rule span) is, tt)
stops_at_text name reader (Over limit) is = (rejects (Over limit) is, tt)
stops_at_text name reader OutOfMemory is = tt

-- a reader that gives one thing gives one thing of a file's text
pub of_text_is_one : {A : Type 0} (name : List ℕ) (reader : Result A ReadError → Type 0) → ((a b : Result A ReadError) → reader a → reader b → a ≡ b) → IsOne (OfText name reader)
of_text_is_one name reader one a b (accepts x is) (accepts y also) = let same : x ≡ y = let e = one (Ok x) (Ok y) is also in cc in ap Ok same
of_text_is_one {A} name reader one a b (accepts x is) (rejects e also) = let no : ◌≡◌ {A = Result A ReadError} (Ok x) (Err e) = one (Ok x) (Err e) is also in absurd (cc)
of_text_is_one {A} name reader one a b (rejects e is) (accepts x also) = let no : ◌≡◌ {A = Result A ReadError} (Err e) (Ok x) = one (Err e) (Ok x) is also in absurd (cc)
of_text_is_one {A} name reader one a b (rejects e is) (rejects f also) =
    let same : ◌≡◌ {A = ReadError} e f = let h : ◌≡◌ {A = Result A ReadError} (Err e) (Err f) = one (Err e) (Err f) is also in cc in
    ap (λ x. Err (Text name x)) same

-- ---- commands

counted_behind : (files : FileEvents) (fault : code.Fault (Bor (List ℕ))) → IsBehindLoads fault → IsBackedByBytes files (named fault)
counted_behind files Usage is = tt
counted_behind files (TooBig name) is = absurd is
counted_behind files (Text name error) is = tt
counted_behind files (Input name cause at) is = tt
counted_behind files (Infeasible line) is = tt

of_command : (fault : code.Fault (Bor (List ℕ))) → IsBehindLoads fault → IsOfCommand (named fault)
of_command Usage is = absurd is
of_command (TooBig name) is = tt
of_command (Text name error) is = tt
of_command (Input name cause at) is = tt
of_command (Infeasible line) is = tt

refused_behind : (known_contents : Option Contents) (step : Result (List ℕ) Fault → Type 0) (files : FileEvents) (names : List (List ℕ)) (r : Refusal) → files.sound → StopsBy step r → IsRefused (ExpectedBy known_contents (λ holds. step)) files names r
refused_behind known_contents step files names refusal.OutOfMemory sound stop = sound
refused_behind known_contents step files names (refusal.Unread name) sound stop = absurd stop
refused_behind known_contents step files names (refusal.Fault fault) sound stop = (expected_anyway known_contents step (Err (named fault)) (of_command fault stop.1) stop.0, sound, counted_behind files fault stop.1)
refused_behind known_contents step files names (refusal.Infeasible line) sound stop = (expected_anyway known_contents step (Err (Infeasible (string_bytes line))) tt stop, sound)

gives_behind : {V : Type 0} (items : V → List ℕ) (known_contents : Option Contents) (step : Result (List ℕ) Fault → Type 0) (files : FileEvents) (names : List (List ℕ)) (given : Result V Refusal) → files.sound →
    IfOk given (λ v. step (Ok (items v))) → IfErr given (StopsBy step) → GivesExpected items (ExpectedBy known_contents (λ holds. step)) files names given
gives_behind items known_contents step files names (Ok v) sound ok err = (expected_anyway known_contents step (Ok (items v)) tt ok, sound)
gives_behind items known_contents step files names (Err r) sound ok err = refused_behind known_contents step files names r sound err

module _ {F : Type 0} (asked : F → List (List ℕ)) (faults taken : F → ℕ) {V : Type 0} (items : V → List ℕ) (known_contents : Option Contents) where
  -- what stands behind the loads is done without any
  pub done_behind_loads : (step : Result (List ℕ) Fault → Type 0) (named_files : List (List ℕ)) (now : F) (given : Result V Refusal) →
      IfOk given (λ v. step (Ok (items v))) → IfErr given (StopsBy step) → IsDone items (ExpectedBy known_contents (λ holds. step)) named_files (file_events asked faults taken now now) given
  done_behind_loads step named_files now given ok err = record {
    names = [];
    in_order = tt;
    asked = sym (append-nil (asked now));
    gives = gives_behind items known_contents step (file_events asked faults taken now now) [] given refl ok err;
  }

  -- the load of the next file refuses
  pub done_at_load : (name : List ℕ) (next : Contents → List ℕ → Result (List ℕ) Fault → Type 0) (others : List (List ℕ)) (old new : F) (r : Refusal) → asked new ≡ asked old ++ name ∷ [] →
      IsRefused (ExpectedBy known_contents (λ holds. Loads holds name)) (file_events asked faults taken old new) (name ∷ []) r →
      IsDone items (ExpectedBy known_contents (λ holds. Then (Loads holds name) (next holds))) (name ∷ others) (file_events asked faults taken old new) (Err r)
  done_at_load name next others old new r asks is = record {
    names = name ∷ [];
    in_order = (refl, tt);
    asked = asks;
    gives = refused_as (ExpectedBy known_contents (λ holds. Loads holds name)) (ExpectedBy known_contents (λ holds. Then (Loads holds name) (next holds))) (file_events asked faults taken old new) (name ∷ []) r
        (λ fault expected. expected_stops known_contents (λ holds. Loads holds name) next fault expected) is;
  }

  -- what is done behind a load is done
  pub done_after_load : (name bytes : List ℕ) (next : Contents → List ℕ → Result (List ℕ) Fault → Type 0) (others : List (List ℕ)) (old mid new : F) (given : Result V Refusal) →
      asked mid ≡ asked old ++ name ∷ [] → faults mid ≡ faults old → taken old ≤ taken mid → ExpectedBy known_contents (λ holds. Loads holds name) (Ok bytes) →
      IsDone items (ExpectedBy known_contents (λ holds. next holds bytes)) others (file_events asked faults taken mid new) given →
      IsDone items (ExpectedBy known_contents (λ holds. Then (Loads holds name) (next holds))) (name ∷ others) (file_events asked faults taken old new) given
  done_after_load name bytes next others old mid new given asks same rises loaded done = record {
    names = name ∷ done.names;
    in_order = (refl, done.in_order);
    asked = asks_later asked faults taken old mid new (name ∷ []) done.names asks done.asked;
    gives = gives_after given done.gives;
  }
    where
      gives_after : (given : Result V Refusal) → GivesExpected items (ExpectedBy known_contents (λ holds. next holds bytes)) (file_events asked faults taken mid new) done.names given
          → GivesExpected items (ExpectedBy known_contents (λ holds. Then (Loads holds name) (next holds))) (file_events asked faults taken old new) (name ∷ done.names) given
      gives_after (Ok v) is = (expected_goes_on known_contents (λ holds. Loads holds name) next bytes (Ok (items v)) loaded is.0, is.1 ∙ same)
      gives_after (Err r) is =
          refused_as (ExpectedBy known_contents (λ holds. next holds bytes)) (ExpectedBy known_contents (λ holds. Then (Loads holds name) (next holds))) (file_events asked faults taken old new) (name ∷ done.names) r
          (λ fault expected. expected_goes_on known_contents (λ holds. Loads holds name) next bytes (Err fault) loaded expected)
          (refused_later asked faults taken (ExpectedBy known_contents (λ holds. next holds bytes)) old mid new (name ∷ []) done.names r same rises is)

-- ---- from what is ready

module _ {V W : Type 0} (items : V → List ℕ) (shown_as : W → List ℕ) (expected : Result (List ℕ) Fault → Type 0) (named_files : List (List ℕ)) (files : FileEvents) where
  -- a command that could make nothing ready refuses
  pub done_refused : (r : Refusal) → IsDone items expected named_files files (Err r) → IsDone shown_as expected named_files files (Err r)
  done_refused r done = record { names = done.names; in_order = done.in_order; asked = done.asked; gives = done.gives }

  -- what is made of what is ready is what that stands for, or memory is wanting
  pub done_from : {E : Type 0} (v : V) (made : Result W E) (given : Result W Refusal) → IsDone items expected named_files files (Ok v) → IfOk made (λ w. shown_as w ≡ items v) →
      MatchResult made (λ w. given ≡ Ok w) (λ e. given ≡ Err refusal.OutOfMemory) → IsDone shown_as expected named_files files given
  done_from v (Ok w) given done is same =
      subst (IsDone shown_as expected named_files files) (sym same)
      (record { names = done.names; in_order = done.in_order; asked = done.asked; gives = (subst (λ t. expected (Ok t)) (sym is) done.gives.0, done.gives.1) })
  done_from v (Err e) given done is same =
      subst (IsDone shown_as expected named_files files) (sym same) (record { names = done.names; in_order = done.in_order; asked = done.asked; gives = done.gives.1 })

-- ---- the answer

answers_at : (expected : Result (List ℕ) Fault → Type 0) (files : FileEvents) (names : List (List ℕ)) (out err : SinkEvents) (m n : ℕ) → m ≡ n → Answers expected files names out err n → Answers expected files names out err m
answers_at expected files names out err m n same answer = subst (Answers expected files names out err) (sym same) answer

written : (expected : Result (List ℕ) Fault → Type 0) (files : FileEvents) (names : List (List ℕ)) (out err : SinkEvents) (text : List ℕ) (status : ℕ) → expected (Ok text) → files.sound → Writes out err text status →
    Answers expected files names out err status
written expected files names out err text status is sound (inl w) = answers_at expected files names out err status 0 w.0 (wrote text is sound w.1 w.2)
written expected files names out err text status is sound (inr w) = answers_at expected files names out err status 5 w.0 (unwritten text is sound w.1 w.2)

-- where the name lies makes no difference to the status
status_named : (fault : code.Fault (Bor (List ℕ))) → status_of (named fault) ≡ status_of fault
status_named Usage = refl
status_named (TooBig name) = refl
status_named (Text name error) = refl
status_named (Input name cause at) = refl
status_named (Infeasible line) = refl

shown : (expected : Result (List ℕ) Fault → Type 0) (files : FileEvents) (names : List (List ℕ)) (out err : SinkEvents) (r : Refusal) (status : ℕ) → IsRefused expected files names r → ShowsRefusal out err r status →
    Answers expected files names out err status
shown expected files names out err refusal.OutOfMemory status is shows = answers_at expected files names out err status 3 shows.1 (no_memory is shows.0 shows.2)
shown expected files names out err (refusal.Unread name) status is shows = answers_at expected files names out err status 4 shows.1 (unread name.now is.1 is.0 shows.0 shows.2)
shown expected files names out err (refusal.Fault fault) status is shows = answers_at expected files names out err status _ (shows.1 ∙ sym (status_named fault)) (refused (named fault) is.0 is.1 is.2 shows.0 shows.2)
shown expected files names out err (refusal.Infeasible line) status is shows = answers_at expected files names out err status 9 shows.1 (refused (Infeasible (string_bytes line)) is.0 is.1 tt shows.0 shows.2)

given_answer : {V : Type 0} (items : V → List ℕ) (expected : Result (List ℕ) Fault → Type 0) (files : FileEvents) (names : List (List ℕ)) (out err : SinkEvents) (given : Result V Refusal) (status : ℕ) →
    GivesExpected items expected files names given → MatchResult given (λ v. Writes out err (items v) status) (λ r. ShowsRefusal out err r status) → Answers expected files names out err status
given_answer items expected files names out err (Ok v) status gives response = written expected files names out err (items v) status gives.0 gives.1 response
given_answer items expected files names out err (Err r) status gives response = shown expected files names out err r status gives response

-- a command that did what is expected, and what is put for what it gave
pub answered : {V : Type 0} (items : V → List ℕ) (expected : Result (List ℕ) Fault → Type 0) (named_files : List (List ℕ)) (files : FileEvents) (out err : SinkEvents) (given : Result V Refusal) (status : ℕ) →
    IsDone items expected named_files files given → MatchResult given (λ v. Writes out err (items v) status) (λ r. ShowsRefusal out err r status) → IsAnswered expected named_files files out err status
answered items expected named_files files out err given status done response = record {
  names = done.names;
  in_order = done.in_order;
  asked = done.asked;
  answers = given_answer items expected files done.names out err given status done.gives response;
}

-- ---- what `?` hands on

-- the error is the one that was met
pub err_handed : {T E : Type 0} (r : Result T E) (e : E) (P : E → Type 0) → IsErrAnd r (λ x. x ≡ e) → P e → IfErr r P
err_handed (Ok x) e P is p = tt
err_handed (Err x) e P is p = subst P (sym is) p

-- a whole fact of a result that is the error that was met
pub all_handed : {T E : Type 0} (r : Result T E) (e : E) (P : Result T E → Type 0) → IsErrAnd r (λ x. x ≡ e) → P (Err e) → P r
all_handed (Ok x) e P is p = absurd is
all_handed (Err x) e P is p = subst (λ y. P (Err y)) (sym is) p
