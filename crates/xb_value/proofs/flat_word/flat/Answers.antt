use Rattle.std.proofs.Common.{◌≡◌, ℕ, ◌+◌, ◌*◌, ◌^◌, ap, ◌∙◌, arith, rules}
use Rattle.xb_bits.specs.Word.{Word}
use Rattle.xb_value.specs.declared.value.Value.{Value}
use Rattle.xb_value.specs.Flat.{flat_of}
use Rattle.xb_value.specs.Unflat.{taken_low}
use Rattle.xb_value.proofs.FlatBack.{comes_back}
use Rattle.xb_value.proofs.Lemmas.Flat.{as_wide}
use Rattle.xb_value.proofs.flat_word.flat.Goals as goal

pub returns-clause-width : goal.returns-clause-width
returns-clause-width c = λ t of.
    let same : c.new.result ≡ flat_of c.args.value.now = search rules in
    ap (λ (x : Word). x.width) same ∙ as_wide t c.args.value.now of

pub returns-clause-back : goal.returns-clause-back
returns-clause-back c = λ t of.
    let same : c.new.result ≡ flat_of c.args.value.now = search rules in
    let flat = flat_of c.args.value.now in
    let alone : (flat_of c.args.value.now).value ≡ 0 * 2 ^ flat.width + flat.value = omega arith in
    ap (λ n. (taken_low t n).0) (ap (λ (x : Word). x.value) same ∙ alone)
    ∙ ap (λ (r : Value × ℕ). r.0) (comes_back t c.args.value.now of 0)
