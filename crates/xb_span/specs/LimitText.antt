-- What a passed limit prints.
use Rattle.std.specs.Prelude.{ℕ, List, codes, ◌++◌}
use Rattle.std.specs.Fmt.{decimal}
use Rattle.xb_span.specs.Limit.{word_of}
use Rattle.xb_span.specs.declared.limit.Limit.{Limit}

-- `limit WHAT: FOUND, at most MOST`
abbrev pub limit_text : Limit → List ℕ
limit_text l =
    codes "limit " ++ word_of l.what ++ codes ": " ++ decimal l.found ++ codes ", at most " ++ decimal l.most
