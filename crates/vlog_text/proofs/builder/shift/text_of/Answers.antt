use Rattle.std.proofs.Common.{◌≡◌, ◌∙◌, Bool, true, false, List, [], ℕ, ap, sym}
use Rattle.std.specs.Prelude.{if◌then◌else◌}
use Rattle.std.specs.Str.{is_utf8}
use Rattle.std.proofs.lemmas.Str.{is_utf8-from_IsUtf8, IsUtf8-from_is_utf8}
use Rattle.vlog_text.proofs.builder.shift.text_of.Goals as goal

by_test : (bytes : List ℕ) (b c : Bool) → b ≡ c → (if c then bytes else []) ≡ (if b then bytes else [])
by_test bytes b c e = ap (λ x. if x then bytes else []) (sym e)

not_true : (b : Bool) → (b ≡ true → ⊥) → b ≡ false
not_true true h = absurd (h (cc))
not_true false h = cc

pub returns-in-Ok : goal.returns-in-Ok
returns-in-Ok c = c.in-Ok.ensures.cases.0 ∙ by_test c.args.bytes.now (is_utf8 c.args.bytes.now) true (is_utf8-from_IsUtf8 c.args.bytes.now c.in-Ok.ensures.cases.1)

pub returns-in-Err : goal.returns-in-Err
returns-in-Err c =
    by_test c.args.bytes.now (is_utf8 c.args.bytes.now) false
    (not_true (is_utf8 c.args.bytes.now) (λ e. c.in-Err.ensures.cases.0 (IsUtf8-from_is_utf8 c.args.bytes.now e)))
