-- The numbers of the rules, by name: what each asks. docs/IR.md says what breaks it, and at which span.
use Rattle.std.specs.Prelude.{ℕ}

-- ids rise, operands are there, and names stand once and are plain
abbrev pub NODES_ARE_NAMED : ℕ
NODES_ARE_NAMED = 51

-- a node has the operands, attributes and result that the table of operations gives it
abbrev pub NODE_FITS_TABLE : ℕ
NODE_FITS_TABLE = 52

-- the tokens lead from the one `after_all` from site to site
abbrev pub TOKENS_ARE_CHAINED : ℕ
TOKENS_ARE_CHAINED = 53

-- a site is on a channel that is there, in its direction, and the only one on that end
abbrev pub SITE_FITS_CHANNEL : ℕ
SITE_FITS_CHANNEL = 54

-- types have bits, literals and states have their types
abbrev pub TYPES_ARE_SOUND : ℕ
TYPES_ARE_SOUND = 55
