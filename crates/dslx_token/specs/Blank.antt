-- What stands between tokens.
use Rattle.std.specs.Prelude.{◌==◌, ◌&&◌, ℕ, Bool, true, false, not, if◌then◌else◌, List, [], ◌∷◌, slice_index}
use Rattle.dslx_token.specs.Characters.{is_white}

-- what stands behind the white space and the comments at the front of a text; a comment runs from `//` to
-- the end of its line, and the first argument says whether the text begins inside one
abbrev pub behind_blank : Bool → List ℕ → List ℕ
behind_blank in_comment [] = []
behind_blank true (c ∷ cs) = behind_blank (not (c == 10)) cs
behind_blank false (c ∷ cs) =
    if is_white c then behind_blank false cs
    else if (c == 47) && (slice_index cs 0 == 47) then behind_blank true cs
    else (c ∷ cs)

abbrev pub after_blank : List ℕ → List ℕ
after_blank = behind_blank false
