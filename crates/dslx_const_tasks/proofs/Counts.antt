-- One less, where there is one.
use Rattle.std.proofs.Common.{◌≡◌, ◌-◌, ℕ, zero, suc, Some, None, refl, ap, arith}
use Rattle.std.specs.Prelude.{◌≢◌}
use Rattle.dslx_meaning.specs.Names.ConstMachine.States.{one_less}

pub less_one : (n : ℕ) → n ≢ 0 → one_less n ≡ Some (n - 1)
less_one zero some = absurd (some refl)
less_one (suc n) some =
    let less : n ≡ suc n - 1 = omega arith in
    ap Some less

pub less_none : (n : ℕ) → n ≡ 0 → one_less n ≡ None
less_none zero none = refl
less_none (suc n) none = absurd (omega (arith, none))
