use Rattle.std.proofs.Common.{◌≡◌, ◌*◌, ℕ, Some, min, sym, ap, ◌∙◌, arith}
use Rattle.dslx_check_rules.specs.Seen.{capped, most_counted}
use Rattle.dslx_check_rules.proofs.Lemmas.Sizes.{product_capped}
use Rattle.dslx_check_rules.proofs.sizes.times_size.Goals as goal

pub returns-in-Some-Some : goal.returns-in-Some-Some
returns-in-Some-Some c = λ n x p q.
    let turns : ℕ = c.in-Some-Some.turns in
    let size : ℕ = c.in-Some-Some.size in
    let least : c.min-turns.result ≡ min most_counted turns = omega arith in
    ap Some (c.capped.ensures ∙ ap (λ t. min most_counted (t * size)) least)
    ∙ product_capped (Some turns) (Some size) n x (sym (ap capped c.in-Some-Some.is-0) ∙ p) (sym c.in-Some-Some.is-1 ∙ q)
