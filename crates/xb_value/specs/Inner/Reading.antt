-- Which value of a type the numbers and brackets of a text say, or the position of the first that does not fit.
use Rattle.std.specs.Prelude.{ℕ, zero, suc, ◌==◌, List, [], ◌∷◌, length, if◌then◌else◌, Result, Ok, Err}
use Rattle.xb_bits.specs.Word.{word}
use Rattle.xb_value.specs.declared.ty.Ty.{Ty, fold-Ty}
use Rattle.xb_value.specs.declared.ty.Ty.TheOpen.{Ty-F}
use Rattle.xb_value.specs.declared.token.Bracket.TheVariants.{Round, Square}
use Rattle.xb_value.specs.declared.token.Token.{Token}
use Rattle.xb_value.specs.declared.token.Token.TheVariants.{Number, Open, Close}
use Rattle.xb_value.specs.declared.value.Value.{Value, Bits, Tuple, Array}
use Rattle.xb_value.specs.Typing.{is_word_of}

-- the value and what stands behind it, or the position of what does not fit
abbrev pub Answer : Type 0
Answer = Result (Value × List Token) ℕ

abbrev pub Reader : Type 0
Reader = List Token → Answer

-- the same of several values
abbrev pub ListAnswer : Type 0
ListAnswer = Result (List Value × List Token) ℕ

-- Numbers and brackets are read from the front. What no text spells, as a bracket that closes nothing, has the fault 0.

-- how many values stand before the bracket that closes, `depth` brackets being open
abbrev pub parts_at : ℕ → List Token → ℕ
parts_at depth [] = 0
parts_at zero (Number at n ∷ ts) = suc (parts_at zero ts)
parts_at (suc depth) (Number at n ∷ ts) = parts_at (suc depth) ts
parts_at zero (Open at b ∷ ts) = suc (parts_at 1 ts)
parts_at (suc depth) (Open at b ∷ ts) = parts_at (suc (suc depth)) ts
parts_at zero (Close ∷ ts) = 0
parts_at (suc depth) (Close ∷ ts) = parts_at depth ts

abbrev pub more_than : Value → ListAnswer → ListAnswer
more_than v (Ok r) = Ok (v ∷ r.0, r.1)
more_than v (Err at) = Err at

abbrev pub and_more : (List Token → ListAnswer) → Answer → ListAnswer
and_more later (Ok r) = more_than r.0 (later r.1)
and_more later (Err at) = Err at

abbrev pub read_each : List Reader → List Token → ListAnswer
read_each [] ts = Ok ([], ts)
read_each (r ∷ rs) ts = and_more (read_each rs) (r ts)

abbrev pub read_times : ℕ → Reader → List Token → ListAnswer
read_times zero r ts = Ok ([], ts)
read_times (suc n) r ts = and_more (read_times n r) (r ts)

-- the values in brackets that open at a position
abbrev pub left : ℕ → (List Value → Value) → List Value → List Token → Answer
left at make vs (Close ∷ ts) = Ok (make vs, ts)
left at make vs _ = Err at

abbrev pub bracketed : ℕ → (List Value → Value) → ListAnswer → Answer
bracketed at make (Ok r) = left at make r.0 r.1
bracketed at make (Err fault) = Err fault

-- a number that the bits hold
abbrev pub read_bits : ℕ → List Token → Answer
read_bits w (Number at n ∷ ts) = if is_word_of w (word w n) then (Ok (Bits (word w n), ts)) else (Err at)
read_bits w (Open at b ∷ ts) = Err at
read_bits w _ = Err 0

-- round brackets with as many values as there are parts
abbrev pub read_tuple : List Reader → List Token → Answer
read_tuple rs (Open at Round ∷ ts) = if parts_at 0 ts == length rs then (bracketed at Tuple (read_each rs ts)) else (Err at)
read_tuple rs (Open at Square ∷ ts) = Err at
read_tuple rs (Number at n ∷ ts) = Err at
read_tuple rs _ = Err 0

-- square brackets with as many values as the count
abbrev pub read_array : Reader → ℕ → List Token → Answer
read_array r k (Open at Square ∷ ts) = if parts_at 0 ts == k then (bracketed at Array (read_times (parts_at 0 ts) r ts)) else (Err at)
read_array r k (Open at Round ∷ ts) = Err at
read_array r k (Number at n ∷ ts) = Err at
read_array r k _ = Err 0

abbrev pub read_step : Ty-F Reader → Reader
read_step (Ty-F.Bits w) ts = read_bits w ts
read_step (Ty-F.Tuple rs) ts = read_tuple rs ts
read_step (Ty-F.Array r k) ts = read_array r k ts

abbrev pub read_as : Ty → Reader
read_as = fold-Ty Reader read_step

-- the value behind which nothing stands
abbrev pub whole : Value → List Token → Result Value ℕ
whole v [] = Ok v
whole v (t ∷ ts) = Err 0

abbrev pub value_in : Answer → Result Value ℕ
value_in (Ok r) = whole r.0 r.1
value_in (Err at) = Err at

-- the value that the numbers and brackets say at the type, or the position of the first that is no value of its part of it
abbrev pub reading : Ty → List Token → Result Value ℕ
reading t ts = value_in (read_as t ts)
