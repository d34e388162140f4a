-- What is named of all checks.
use Rattle.std.proofs.lemmas.Bool.{cases_lt}
use Rattle.std.proofs.Common.{◌⊎◌, inl, inr, ◌<◌, ◌≤◌, arith, ◌≡◌, ℕ, true, List, [], ◌∷◌, ◌++◌, refl, sym, ap, ◌∙◌, Option, Some, None, get_or}
use Rattle.xb_span.specs.declared.fault.Fault.{Fault}
use Rattle.xb_span.specs.declared.span.Span.{Span}
use Rattle.xb_span.specs.Spans.{nowhere}
use Rattle.vlog_tree.specs.declared.module.VModule.{VModule}
use Rattle.vlog_tree.specs.declared.verifier.part_spans.PartSpans.{PartSpans}
use Rattle.vlog_tree.specs.Verifier.Checks.{PartCheck, note, noted, rule_at}
use Rattle.vlog_tree.specs.Verifier.Verified.{module_checks, Loops, none, first, IsVerdict}
use Rattle.vlog_tree.specs.Verifier.Inner.Firsts.{IsFirstLoop}
use Rattle.vlog_tree.proofs.OnVerifier.Steps.{noted-append}
use Rattle.vlog_tree.specs.Verifier.RuleNumbers as rule

pub all_noted : (ss ps as_ rs cs ls : List PartCheck) (e : PartCheck) (held h1 h2 h3 h4 h5 : Option Fault) → h1 ≡ noted held ss → h2 ≡ noted h1 (ps ++ e ∷ []) → h3 ≡ noted h2 as_ → h4 ≡ noted h3 (rs ++ cs) → h5 ≡ noted h4 ls
    → h5 ≡ noted held (ss ++ (ps ++ (e ∷ (as_ ++ (rs ++ (cs ++ ls))))))
all_noted ss ps as_ rs cs ls e held h1 h2 h3 h4 h5 e1 e2 e3 e4 e5 =
    e5
    ∙ ap (λ h. noted h ls) (e4 ∙ noted-append rs cs h3)
    ∙ sym (noted-append cs ls (noted h3 rs))
    ∙ sym (noted-append rs (cs ++ ls) h3)
    ∙ ap (λ h. noted h (rs ++ (cs ++ ls))) e3
    ∙ sym (noted-append as_ (rs ++ (cs ++ ls)) h2)
    ∙ ap (λ h. noted h (as_ ++ (rs ++ (cs ++ ls)))) (e2 ∙ noted-append ps (e ∷ []) h1)
    ∙ sym (noted-append ps (e ∷ (as_ ++ (rs ++ (cs ++ ls)))) h1)
    ∙ ap (λ h. noted h (ps ++ (e ∷ (as_ ++ (rs ++ (cs ++ ls)))))) e1
    ∙ sym (noted-append ss (ps ++ (e ∷ (as_ ++ (rs ++ (cs ++ ls))))) held)

nothing_more : (cs : List PartCheck) → cs ++ [] ≡ cs
nothing_more [] = refl
nothing_more (c ∷ cs) = ap (λ ds. c ∷ ds) (nothing_more cs)

pub verdict_free : (m : VModule) (part_spans : PartSpans) (held : Option Fault) → held ≡ noted None (module_checks m part_spans) → IsFirstLoop m None → IsVerdict m part_spans held
verdict_free m part_spans held e free = record { loops = []; looped = none free; is = e ∙ ap (noted None) (sym (nothing_more (module_checks m part_spans))) }

pub verdict_looped : (m : VModule) (part_spans : PartSpans) (held named : Option Fault) (i : ℕ) (span : Span) → held ≡ noted None (module_checks m part_spans) → IsFirstLoop m (Some i)
    → span ≡ get_or part_spans.assignments i nowhere → named ≡ noted held (rule_at span rule.NO_COMBINATIONAL_LOOP true ∷ []) → IsVerdict m part_spans named
verdict_looped m part_spans held named i span e (a, at, depends, before) s n = record {
  loops = rule_at (get_or part_spans.assignments i nowhere) rule.NO_COMBINATIONAL_LOOP true ∷ [];
  looped = first i a at depends before;
  is = n ∙ ap (λ sp. noted held (rule_at sp rule.NO_COMBINATIONAL_LOOP true ∷ [])) s ∙ ap (λ h. noted h (rule_at (get_or part_spans.assignments i nowhere) rule.NO_COMBINATIONAL_LOOP true ∷ [])) e
      ∙ sym (noted-append (module_checks m part_spans) (rule_at (get_or part_spans.assignments i nowhere) rule.NO_COMBINATIONAL_LOOP true ∷ []) None);
}

-- one assignment is the first whose target depends on itself
pub one_loop : (m : VModule) (part_spans : PartSpans) (one other : List PartCheck) → Loops m part_spans one → Loops m part_spans other → one ≡ other
one_loop m part_spans _ _ (none free) (none also) = refl
one_loop m part_spans _ _ (none free) (first i a at d before) = absurd (free i a at d)
one_loop m part_spans _ _ (first i a at d before) (none free) = absurd (free i a at d)
one_loop m part_spans _ _ (first i a at d before) (first j b bt e earlier) = ap (λ k. rule_at (get_or part_spans.assignments k nowhere) rule.NO_COMBINATIONAL_LOOP true ∷ []) (same (cases_lt i j))
  where
    same : (i < j) ⊎ (j ≤ i) → i ≡ j
    same (inl h) = absurd (earlier i a h at d)
    same (inr h) = go (cases_lt j i)
      where
        go : (j < i) ⊎ (i ≤ j) → i ≡ j
        go (inl k) = absurd (before j b k bt e)
        go (inr k) = omega arith
