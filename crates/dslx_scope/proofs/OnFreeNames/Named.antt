-- The names of values among what is mentioned.
use Rattle.std.proofs.Common.{◌≡◌, ℕ, List, [], ◌∷◌, ◌++◌, refl, ap, ◌∙◌}
use Rattle.std.proofs.lemmas.List.{append_assoc}
use Rattle.dslx_meaning.specs.Rules.Mentions.{Use, AsValue, AsPattern, AsType, AsFunction, AsProc, AsEnum, AsStruct, Mention, value_names}

pub value_names_append : (ms ns : List Mention) → value_names (ms ++ ns) ≡ value_names ms ++ value_names ns
value_names_append [] ns = refl
value_names_append (m ∷ ms) ns = by m.use_as m.name (value_names_append ms ns)
  where
    by : (u : Use) (name : List ℕ) → value_names (ms ++ ns) ≡ value_names ms ++ value_names ns
        → value_names ((record { use_as = u; name = name } ∷ ms) ++ ns) ≡ value_names (record { use_as = u; name = name } ∷ ms) ++ value_names ns
    by AsValue name e = ap (λ (names : List (List ℕ)). name ∷ names) e
    by AsPattern name e = e
    by AsType name e = e
    by AsFunction name e = e
    by AsProc name e = e
    by AsEnum name e = e
    by AsStruct name e = e

-- before names that come behind
pub in_two : (ms ns : List Mention) (behind : List (List ℕ)) → value_names (ms ++ ns) ++ behind ≡ value_names ms ++ (value_names ns ++ behind)
in_two ms ns behind = ap (λ (names : List (List ℕ)). names ++ behind) (value_names_append ms ns) ∙ append_assoc (value_names ms) (value_names ns) behind

pub in_three : (ls ms ns : List Mention) (behind : List (List ℕ)) → value_names (ls ++ ms ++ ns) ++ behind ≡ value_names ls ++ (value_names ms ++ (value_names ns ++ behind))
in_three ls ms ns behind = in_two (ls ++ ms) ns behind ∙ in_two ls ms (value_names ns ++ behind)

pub in_seven : (as' bs cs ds es fs gs : List Mention) (behind : List (List ℕ)) → value_names (as' ++ bs ++ cs ++ ds ++ es ++ fs ++ gs) ++ behind
    ≡ value_names as' ++ (value_names bs ++ (value_names cs ++ (value_names ds ++ (value_names es ++ (value_names fs ++ (value_names gs ++ behind))))))
in_seven as' bs cs ds es fs gs behind =
    in_two (as' ++ bs ++ cs ++ ds ++ es ++ fs) gs behind
    ∙ in_two (as' ++ bs ++ cs ++ ds ++ es) fs (value_names gs ++ behind)
    ∙ in_two (as' ++ bs ++ cs ++ ds) es (value_names fs ++ (value_names gs ++ behind))
    ∙ in_two (as' ++ bs ++ cs) ds (value_names es ++ (value_names fs ++ (value_names gs ++ behind)))
    ∙ in_three as' bs cs (value_names ds ++ (value_names es ++ (value_names fs ++ (value_names gs ++ behind))))
