-- Where the walk that finds mentions stands, and what parts do there that mention something.
use Rattle.std.specs.Prelude.{ℕ, List, [], ◌∷◌, ◌++◌, Option, Some, None, if◌then◌else◌}
use Rattle.dslx_meaning.specs.Lists.{is_in}
use Rattle.dslx_meaning.specs.Callees.{is_text_function, kind_of_call}
use Rattle.dslx_meaning.specs.Rules.Mentions.{Use, AsFunction, AsValue, Mention, Mentions, NamesBound, mention}
use Rattle.dslx_meaning.specs.Names.FirstNames.{first_names}

-- what is mentioned so far, and what is bound there, the last name first
pub record MentionWalk : Type 0 where
  pub found : List Mention
  pub bound : List (List ℕ)

abbrev pub starts : MentionWalk
starts = record { found = []; bound = [] }

-- behind a part that mentions this
unfoldable pub mentioning : Mentions → MentionWalk → MentionWalk
mentioning m w = record { found = w.found ++ m w.bound; bound = w.bound }

abbrev pub mentioning_if : Option Mentions → MentionWalk → MentionWalk
mentioning_if None w = w
mentioning_if (Some m) w = mentioning m w

-- behind parts in order
abbrev pub mentioning_all : List Mentions → MentionWalk → MentionWalk
mentioning_all [] w = w
mentioning_all (m ∷ ms) w = mentioning_all ms (mentioning m w)

-- behind a name, bound or not
unfoldable pub naming : Use → List ℕ → MentionWalk → MentionWalk
naming as' name w = record { found = w.found ++ mention as' name; bound = w.bound }

-- behind a name that stands for a value
abbrev pub valuing : List ℕ → MentionWalk → MentionWalk
valuing name w = if is_in name w.bound then w else naming AsValue name w

-- behind a name that is called
abbrev pub calling : List ℕ → MentionWalk → MentionWalk
calling name w = if is_text_function (kind_of_call name) then naming AsFunction name w else w

-- where these are bound too
unfoldable pub binding : List (List ℕ) → MentionWalk → MentionWalk
binding names w = record { found = w.found; bound = names ++ w.bound }

-- where so many are bound
unfoldable pub keeping : ℕ → MentionWalk → MentionWalk
keeping n w = record { found = w.found; bound = first_names n w.bound }

-- behind a statement
abbrev pub behind : NamesBound → MentionWalk → MentionWalk
behind s w = binding s.names (mentioning s.mentions w)

-- behind statements in order
abbrev pub running : List NamesBound → MentionWalk → MentionWalk
running [] w = w
running (s ∷ ss) w = running ss (behind s w)
