-- Parts of tokens that stand one behind the other stand so, too.
use Rattle.std.proofs.Common.{◌≡◌, ◌≤◌, ℕ, Bool, true, false, List, [], ◌∷◌, ◌++◌, map, refl, subst, ◌∙◌, append_assoc, append-nil, arith}
use Rattle.std.specs.Prelude.{◌==◌, ◌≢◌, if◌then◌else◌}
use Rattle.dslx_token.specs.Lexeme.{Lexeme}
use Rattle.vlog_text.specs.declared.token.rules.generated.kind.TheConstants.{LITERAL}
use Rattle.vlog_text.specs.Parser.Spans.{LexemesAlong, EndsAlong, AreModuleTokens, Clocked, ModuleTokens, NextPort, PartsAlong, Phrase, all_parts, assignment_tokens, block, clocked_tokens, clocks_in, declaration_tokens, last_to, literal_ends, literals_in, missing, phrases, ports_with_commas, resets_in, span_of}

through : (a b c : ℕ) → a ≤ b → b ≤ c → a ≤ c
through a b c le more = omega (arith, le, more)

-- ---- tokens

goes : (ls : List Lexeme) (a b : ℕ) → LexemesAlong ls a b → a ≤ b
goes [] a b k = k
goes (l ∷ ls) a b k = through a l.span.from b k.0 (through l.span.from l.span.to b k.1 (goes ls l.span.to b k.2))

-- the others begin where these end, or later
split : (own others : List Lexeme) (a b : ℕ) → LexemesAlong (own ++ others) a b → (mid : ℕ) × LexemesAlong own a mid × LexemesAlong others mid b
split [] others a b k = (a, omega arith, k)
split (l ∷ own) others a b k = let rest = split own others l.span.to b k.2 in (rest.0, (k.0, k.1, rest.1), rest.2)

-- where some tokens end
ends_by : (l : Lexeme) (ls : List Lexeme) (a b : ℕ) → LexemesAlong (l ∷ ls) a b → last_to l ls ≤ b
ends_by l [] a b k = k.2
ends_by l (m ∷ ls) a b k = ends_by m ls l.span.to b k.2

-- ---- literals

places_by : (es : List ℕ) (a b c : ℕ) → a ≤ b → EndsAlong es b c → EndsAlong es a c
places_by [] a b c le k = through a b c le k
places_by (e ∷ es) a b c le k = (through a b e le k.0, k.1)

abbrev Ends : Bool → Lexeme → List Lexeme → List ℕ
Ends literal l ls = map (λ (l : Lexeme). l.span.to) (if literal then l ∷ literals_in ls else literals_in ls)

ends_in : (literal : Bool) (l : Lexeme) (ls : List Lexeme) (a to : ℕ) → a ≤ l.span.to → EndsAlong (literal_ends ls) l.span.to to → EndsAlong (Ends literal l ls) a to
ends_in true l ls a to le k = (le, k)
ends_in false l ls a to le k = places_by (literal_ends ls) a l.span.to to le k

literals_along : (l : Lexeme) (ls : List Lexeme) (a b : ℕ) → LexemesAlong (l ∷ ls) a b → EndsAlong (literal_ends (l ∷ ls)) l.span.from (last_to l ls)
literals_along l [] a b k = ends_in (l.kind == LITERAL) l [] l.span.from l.span.to k.1 (omega arith)
literals_along l (m ∷ ls) a b k =
    ends_in (l.kind == LITERAL) l (m ∷ ls) l.span.from (last_to m ls) k.1
    (places_by (literal_ends (m ∷ ls)) l.span.to m.span.from (last_to m ls) k.2.0 (literals_along m ls l.span.to b k.2))

-- ---- parts

parts_by : (xs : List (List Lexeme)) (a b c : ℕ) → a ≤ b → PartsAlong xs b c → PartsAlong xs a c
parts_by [] a b c le k = through a b c le k
parts_by (x ∷ xs) a b c le k = (through a b (span_of x).from le k.0, k.1, k.2)

-- a part in front of others
part_first : (own : List Lexeme) (xs : List (List Lexeme)) (a mid b : ℕ) → own ≢ [] → LexemesAlong own a mid → PartsAlong xs mid b → PartsAlong (own ∷ xs) a b
part_first [] xs a mid b some k more = absurd (some refl)
part_first (l ∷ ls) xs a mid b some k more =
    (k.0, literals_along l ls a mid k, parts_by xs (last_to l ls) mid b (ends_by l ls a mid k) more)

-- tokens that stand between parts
skipped : (own others : List Lexeme) (xs : List (List Lexeme)) (a b : ℕ) → LexemesAlong (own ++ others) a b → ((c : ℕ) → LexemesAlong others c b → PartsAlong xs c b) → PartsAlong xs a b
skipped own others xs a b k more = let s = split own others a b k in parts_by xs a s.0 b (goes own a s.0 s.1) (more s.0 s.2)

one_part : (own others : List Lexeme) (xs : List (List Lexeme)) (a b : ℕ) → own ≢ [] → LexemesAlong (own ++ others) a b → ((c : ℕ) → LexemesAlong others c b → PartsAlong xs c b) → PartsAlong (own ∷ xs) a b
one_part own others xs a b some k more = let s = split own others a b k in part_first own xs a s.0 b some s.1 (more s.0 s.2)

some_parts : {n : ℕ} (ps : List (Phrase n)) (others : List Lexeme) (xs : List (List Lexeme)) (a b : ℕ) → LexemesAlong (phrases ps ++ others) a b → ((c : ℕ) → LexemesAlong others c b → PartsAlong xs c b) → PartsAlong (map (λ p. p.tokens) ps ++ xs) a b
some_parts [] others xs a b k more = more a k
some_parts (p ∷ ps) others xs a b k more =
    one_part p.tokens (phrases ps ++ others) (map (λ p. p.tokens) ps ++ xs) a b p.some (subst (λ ls. LexemesAlong ls a b) (append_assoc p.tokens (phrases ps) others) k)
    (λ c rest. some_parts ps others xs c b rest more)

some_ports : (ps : List NextPort) (others : List Lexeme) (xs : List (List Lexeme)) (a b : ℕ) → LexemesAlong (ports_with_commas ps ++ others) a b → ((c : ℕ) → LexemesAlong others c b → PartsAlong xs c b) → PartsAlong (map (λ p. p.port.tokens) ps ++ xs) a b
some_ports [] others xs a b k more = more a k
some_ports (p ∷ ps) others xs a b k more =
    skipped p.comma.tokens (p.port.tokens ++ (ports_with_commas ps ++ others)) (p.port.tokens ∷ (map (λ p. p.port.tokens) ps ++ xs)) a b
    (subst (λ ls. LexemesAlong ls a b) (append_assoc (p.comma.tokens ++ p.port.tokens) (ports_with_commas ps) others ∙ append_assoc p.comma.tokens p.port.tokens (ports_with_commas ps ++ others)) k)
    (λ c rest.
    one_part p.port.tokens (ports_with_commas ps ++ others) (map (λ p. p.port.tokens) ps ++ xs) c b p.port.some rest (λ d behind. some_ports ps others xs d b behind more))

none_along : (others : List Lexeme) (a b : ℕ) → LexemesAlong others a b → PartsAlong [] a b
none_along others a b k = goes others a b k

clocked_along : (x : Clocked) (others : List Lexeme) (a b : ℕ) → LexemesAlong (clocked_tokens x ++ others) a b → PartsAlong (map (λ p. p.tokens) (resets_in x) ++ map (λ p. p.tokens) (clocks_in x)) a b
clocked_along missing others a b k = none_along others a b k
clocked_along (block opening resets otherwise clocks end) others a b k =
    let clock_runs = map (λ p. p.tokens) clocks in
    let behind = end.tokens ++ others in
    let regrouped : (opening.tokens ++ (phrases resets ++ (otherwise.tokens ++ (phrases clocks ++ end.tokens)))) ++ others
    ≡ opening.tokens ++ (phrases resets ++ (otherwise.tokens ++ (phrases clocks ++ behind))) = simp append_assoc in
    skipped opening.tokens (phrases resets ++ (otherwise.tokens ++ (phrases clocks ++ behind))) (map (λ p. p.tokens) resets ++ clock_runs) a b
    (subst (λ ls. LexemesAlong ls a b) regrouped k)
    (λ c rest.
    some_parts resets (otherwise.tokens ++ (phrases clocks ++ behind)) clock_runs c b rest
    (λ d rest.
    skipped otherwise.tokens (phrases clocks ++ behind) clock_runs d b rest
    (λ e rest. subst (λ xs. PartsAlong xs e b) (append-nil clock_runs) (some_parts clocks behind [] e b rest (λ f rest. none_along behind f b rest)))))

pub parts_along : (ls : List Lexeme) (x : ModuleTokens) (a b : ℕ) → LexemesAlong ls a b → AreModuleTokens ls x → PartsAlong (all_parts x) a b
parts_along ls x a b k are =
    let last = x.end.tokens ++ are.mark.tokens in
    let block_on = clocked_tokens x.clocked ++ last in
    let assignments_on = phrases x.assignments ++ block_on in
    let declarations_on = phrases x.declarations ++ assignments_on in
    let closing_on = x.closing.tokens ++ declarations_on in
    let ports_on = ports_with_commas x.more_ports ++ closing_on in
    let port_on = x.port.tokens ++ ports_on in
    let block_runs = map (λ p. p.tokens) (resets_in x.clocked) ++ map (λ p. p.tokens) (clocks_in x.clocked) in
    let assignment_runs = assignment_tokens x ++ block_runs in
    let declaration_runs = declaration_tokens x ++ assignment_runs in
    let regrouped : ls ≡ x.opening.tokens ++ (x.name.token ∷ (x.bracket.tokens ++ port_on)) = are.are ∙ simp append_assoc in
    skipped x.opening.tokens (x.name.token ∷ (x.bracket.tokens ++ port_on)) (all_parts x) a b (subst (λ ls. LexemesAlong ls a b) regrouped k)
    (λ a k. skipped (x.name.token ∷ []) (x.bracket.tokens ++ port_on) (all_parts x) a b k
    (λ a k. skipped x.bracket.tokens port_on (all_parts x) a b k
    (λ a k. one_part x.port.tokens ports_on (map (λ p. p.port.tokens) x.more_ports ++ declaration_runs) a b x.port.some k
    (λ a k. some_ports x.more_ports closing_on declaration_runs a b k
    (λ a k. skipped x.closing.tokens declarations_on declaration_runs a b k
    (λ a k. some_parts x.declarations assignments_on assignment_runs a b k
    (λ a k. some_parts x.assignments block_on block_runs a b k
    (λ a k. clocked_along x.clocked last a b k))))))))
