-- Names that are used one after another.
use Rattle.std.proofs.Common.{◌≡◌, ◌∙◌, ◌++◌, ℕ, List, [], ◌∷◌, append_assoc, refl, sym, ap, subst}
use Rattle.std.proofs.lemmas.List.{append-nil}
use Rattle.dslx_check_declarations.specs.declared.config.Made.{Made}
use Rattle.dslx_check_declarations.specs.Config.{AreUsed, UsesNames}

pub uses_none : (made : Made) → UsesNames made made []
uses_none made = record { used = λ names h. subst (AreUsed made) (sym (append-nil names)) h; rest = refl }

pub uses_more : {a b d : Made} {xs ys : List (List ℕ)} → UsesNames a b xs → UsesNames b d ys → UsesNames a d (xs ++ ys)
uses_more {a} {b} {d} {xs} {ys} g h = record {
  used = λ names u. subst (AreUsed d) (append_assoc names xs ys) (h.used (names ++ xs) (g.used names u));
  rest = h.rest ∙ ap (λ (m : Made). record m { uses = d.uses }) g.rest;
}
