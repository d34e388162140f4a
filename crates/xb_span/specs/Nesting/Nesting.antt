-- The nesting of a token: how many brackets are open before it, the marks that were read directly in each of them since
-- its last `,`, `;` or `=>`, those outside all brackets since the item's first token, and the heads in which it stands.
use Rattle.std.specs.Prelude.{ℕ, ◌+◌, ◌-◌, Bool, nat_lt, Option, List, [], ◌∷◌, length, sum}
use Rattle.std.specs.List.{position_from}
use Rattle.xb_span.specs.declared.nesting.depth.TheConstants.{MOST}
use Rattle.xb_span.specs.declared.nesting.bracket_class.BracketClass.{BracketClass}
use Rattle.xb_span.specs.declared.nesting.bracket_class.BracketClass.TheVariants.{Open, OpenMark, OpenBody, Close, Mark, Stop, Item, Head, Plain}

-- what is open before a token: the marks of each open bracket, the innermost one first, then those outside all brackets,
-- and the number of heads
pub record Around : Type 0 where
  pub brackets : List ℕ
  pub outside : ℕ
  pub heads : ℕ

abbrev pub at_start : Around
at_start = record { brackets = []; outside = 0; heads = 0 }

-- A bracket counts 1, and each of its marks 1 more.
abbrev pub depth_of : Around → ℕ
depth_of a = ((length a.brackets + sum a.brackets) + a.outside) + a.heads

-- one more mark where the token stands
abbrev pub marked_in : List ℕ → ℕ → ℕ → Around
marked_in [] outside heads = record { brackets = []; outside = outside + 1; heads = heads }
marked_in (marks ∷ more) outside heads = record { brackets = (marks + 1) ∷ more; outside = outside; heads = heads }

abbrev pub marked : Around → Around
marked a = marked_in a.brackets a.outside a.heads

abbrev pub opened : Around → Around
opened a = record { brackets = 0 ∷ a.brackets; outside = a.outside; heads = a.heads }

abbrev pub closed : List ℕ → List ℕ
closed [] = []
closed (marks ∷ more) = more

abbrev pub stopped : List ℕ → List ℕ
stopped [] = []
stopped (marks ∷ more) = 0 ∷ more

-- what is open behind a token
abbrev pub behind : Around → BracketClass → Around
behind a Open = opened a
behind a OpenMark = opened (marked a)
behind a OpenBody = opened (record { brackets = a.brackets; outside = a.outside; heads = a.heads - 1 })
behind a Close = record { brackets = closed a.brackets; outside = a.outside; heads = a.heads }
behind a Mark = marked a
behind a Stop = record { brackets = stopped a.brackets; outside = a.outside; heads = a.heads }
behind a Item = record { brackets = a.brackets; outside = 0; heads = a.heads }
behind a Head = record { brackets = a.brackets; outside = a.outside; heads = a.heads + 1 }
behind a Plain = a

-- the nesting of a token; the `{` behind a head stands no more in it
abbrev pub nesting_in : Around → BracketClass → ℕ
nesting_in a OpenBody = depth_of (record { brackets = a.brackets; outside = a.outside; heads = a.heads - 1 })
nesting_in a _ = depth_of a

-- the nesting of each token
abbrev pub nestings_from : Around → List BracketClass → List ℕ
nestings_from a [] = []
nestings_from a (role ∷ bracket_classes) = nesting_in a role ∷ nestings_from (behind a role) bracket_classes

abbrev pub nestings : List BracketClass → List ℕ
nestings bracket_classes = nestings_from at_start bracket_classes

-- more than the limit
abbrev pub is_past : ℕ → Bool
is_past n = nat_lt MOST n

-- the index of the first token whose nesting is more than the limit
abbrev pub first_past : List BracketClass → Option ℕ
first_past bracket_classes = position_from is_past 0 (nestings bracket_classes)
