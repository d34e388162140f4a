-- The ends in a `config` by their numbers: first those that it takes, and behind these the channels that it makes, whose two
-- ends have one number.
use Rattle.std.specs.Prelude.{ℕ, List, [], ◌∷◌, ◌++◌, map, Option, Some, None, length, if◌then◌else◌}
use Rattle.std.specs.Str.{bytes_eq}
use Rattle.dslx_tree.specs.declared.ident.Ident.{Ident}
use Rattle.dslx_tree.specs.declared.process.Proc.{Proc}
use Rattle.dslx_meaning.specs.Lists.{all_some}
use Rattle.dslx_meaning.specs.Network.{Held, made_ends, outer_ends}

-- each with its number in the place of a channel
abbrev pub numbered_ends : Proc → List Held
numbered_ends p = outer_ends 0 p.config.ends ++ made_ends (length p.config.ends) p.config.config_statements

-- the number of the first one of a name
abbrev pub end_number : List ℕ → List Held → Option ℕ
end_number name [] = None
end_number name (h ∷ hs) = if bytes_eq name h.name then Some h.channel else end_number name hs

abbrev pub end_numbers : List Held → List Ident → Option (List ℕ)
end_numbers held idents = all_some (map (λ (i : Ident). end_number i.name held) idents)
