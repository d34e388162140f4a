-- Each rule of the grammar that makes a part in which ends stand takes them from its parts.
use Rattle.std.proofs.Common.{◌≡◌, ◌&&◌, ℕ, zero, suc, Bool, true, false, List, [], ◌∷◌, ◌++◌, take, drop, slice_get, Option, Some, None, refl, ap, subst, ◌∙◌}
use Rattle.std.proofs.lemmas.Bool.{false≢true, and_parts}
use Rattle.std.specs.List.{list_all}
use Rattle.base.specs.Texts.Words.{is_word}
use Rattle.base.specs.declared.grammar.table.Symbol.{Symbol}
use Rattle.base.specs.declared.grammar.table.Symbol.TheVariants.{Terminal, Nonterminal}
use Rattle.dslx_parser.specs.Ends.{declares_words, each_declares_words, ends_are_words, named_by_words}
use Rattle.dslx_parser.specs.Syntax.Atoms as atoms
use Rattle.dslx_parser.specs.Syntax.Blocks as blocks
use Rattle.dslx_parser.specs.Syntax.Items as items
use Rattle.dslx_parser.specs.Syntax.Operators as operators
use Rattle.dslx_parser.specs.Syntax.Procs as procs
use Rattle.dslx_parser.specs.Syntax.Statements as statements
use Rattle.dslx_parser.specs.Syntax.Types as types
use Rattle.dslx_parser.specs.Syntax.Sorts as s
use Rattle.dslx_parser.specs.Syntax.Sorts.{Sort, OfSort, sort_of}
use Rattle.dslx_parser.specs.Syntax.SymbolParts.{SemanticAction, PartOf, PartsOf, made_from}
use Rattle.dslx_parser.specs.Syntax.Trees.{semantic_actions}
use Rattle.dslx_parser.proofs.OnEnds.Named.{is_name}

-- ends that stand in a part of this sort have words for names
abbrev pub HasWords : (sort : Sort) → OfSort sort → Type 0
HasWords s.whole m = ends_are_words m ≡ true
HasWords s.items is = each_declares_words is ≡ true
HasWords s.item i = declares_words i.definition ≡ true
HasWords s.definition d = declares_words d ≡ true
HasWords s.ident i = is_word i.name ≡ true
HasWords s.end e = is_word e.name.name ≡ true
HasWords s.ends es = named_by_words es ≡ true
HasWords s.config c = named_by_words c.ends ≡ true
HasWords s.proc_parts p = named_by_words p.0.ends ≡ true
HasWords s.config_and_next p = named_by_words p.0.ends ≡ true
HasWords s.config_and_init p = named_by_words p.0.ends ≡ true
HasWords _ x = Unit {0}

abbrev pub PartHasWords : (symbol : Symbol) → PartOf symbol → Type 0
PartHasWords (Terminal kind) l = is_name kind ≡ true → is_word l.bytes ≡ true
PartHasWords (Nonterminal n) x = HasWords (sort_of n) x

abbrev pub EachHasWords : (symbols : List Symbol) → PartsOf symbols → Type 0
EachHasWords [] parts = Unit {0}
EachHasWords (symbol ∷ symbols) parts = PartHasWords symbol parts.0 × EachHasWords symbols parts.1

-- what the rule makes has words where its parts do
abbrev pub KeepsWords : SemanticAction → Type 0
KeepsWords r = (inner : PartsOf r.body) → EachHasWords r.body inner → HasWords (sort_of r.head) (made_from r.body r.part inner)

abbrev pub EachKeepsWords : List SemanticAction → Type 0
EachKeepsWords [] = Unit {0}
EachKeepsWords (r ∷ rs) = KeepsWords r × EachKeepsWords rs

-- ---- parts in which no end stands

abbrev pub is_without : Sort → Bool
is_without s.whole = false
is_without s.items = false
is_without s.item = false
is_without s.definition = false
is_without s.ident = false
is_without s.end = false
is_without s.ends = false
is_without s.config = false
is_without s.proc_parts = false
is_without s.config_and_next = false
is_without s.config_and_init = false
is_without _ = true

nothing_there : (sort : Sort) → is_without sort ≡ true → (x : OfSort sort) → HasWords sort x
nothing_there s.whole h x = absurd (false≢true h)
nothing_there s.items h x = absurd (false≢true h)
nothing_there s.item h x = absurd (false≢true h)
nothing_there s.definition h x = absurd (false≢true h)
nothing_there s.ident h x = absurd (false≢true h)
nothing_there s.end h x = absurd (false≢true h)
nothing_there s.ends h x = absurd (false≢true h)
nothing_there s.config h x = absurd (false≢true h)
nothing_there s.proc_parts h x = absurd (false≢true h)
nothing_there s.config_and_next h x = absurd (false≢true h)
nothing_there s.config_and_init h x = absurd (false≢true h)
nothing_there _ h x = tt

abbrev are_without : List SemanticAction → Bool
are_without rs = list_all (λ (r : SemanticAction). is_without (sort_of r.head)) rs

keep_nothing : (rs : List SemanticAction) → are_without rs ≡ true → EachKeepsWords rs
keep_nothing [] h = tt
keep_nothing (r ∷ rs) h =
    let parts = and_parts (is_without (sort_of r.head)) (are_without rs) h in
    (λ inner k. nothing_there (sort_of r.head) parts.0 (made_from r.body r.part inner), keep_nothing rs parts.1)

also_keep : (as' bs : List SemanticAction) → EachKeepsWords as' → EachKeepsWords bs → EachKeepsWords (as' ++ bs)
also_keep [] bs h k = k
also_keep (a ∷ as') bs h k = (h.0, also_keep as' bs h.1 k)

-- so many in which no end stands
also_without : (n : ℕ) (rs : List SemanticAction) → are_without (take n rs) ≡ true → EachKeepsWords (drop n rs) → EachKeepsWords rs
also_without zero rs h k = k
also_without (suc n) [] h k = tt
also_without (suc n) (r ∷ rs) h k =
    let parts = and_parts (is_without (sort_of r.head)) (are_without (take n rs)) h in
    (λ inner l. nothing_there (sort_of r.head) parts.0 (made_from r.body r.part inner), also_without n rs parts.1 k)

-- ---- the others

both : (a b : Bool) → a ≡ true → b ≡ true → (a && b) ≡ true
both a b h k = ap (λ x. x && b) h ∙ k

of_items : EachKeepsWords items.rules
unfolding items.rules
of_items = (
  (λ inner k. k.0),  -- module
  (
    (λ inner k. both (declares_words inner.0.definition) (each_declares_words inner.1.0) k.0 k.1.0),  -- items
    (
      (λ inner k. refl),  -- items
      (
        (λ inner k. k.1.0),  -- item
        (
          (λ inner k. k.0),  -- item
          (
            (λ inner k. k.0),  -- definition
            (
              (λ inner k. k.0),  -- definition
              (
                (λ inner k. k.0),  -- definition
                (
                  (λ inner k. k.0),  -- definition
                  (
                    (λ inner k. k.0),  -- definition
                    (
                      (λ inner k. k.0),  -- definition
                      (
                        (λ inner k. k.0 refl),  -- any_name
                        (
                          (λ inner k. k.0 refl),  -- any_name
                          (
                            (λ inner k. k.0 refl),  -- any_name
                            (
                              (λ inner k. k.0 refl),  -- any_name
                              (
                                (λ inner k. k.0 refl),  -- any_name
                                (also_without 4 (drop 16 items.rules) refl (
                                  (λ inner k. refl),  -- function
                                  (also_without 14 (drop 21 items.rules) refl (
                                    (λ inner k. refl),  -- constant
                                    (also_without 2 (drop 36 items.rules) refl (
                                      (λ inner k. refl),  -- alias
                                      (
                                        (λ inner k. refl),  -- structure
                                        (
                                          (λ inner k. refl),  -- enumeration
                                          (keep_nothing (drop 41 items.rules) refl),
                                        ),
                                      ),
                                    )),
                                  )),
                                )),
                              ),
                            ),
                          ),
                        ),
                      ),
                    ),
                  ),
                ),
              ),
            ),
          ),
        ),
      ),
    ),
  ),
)

of_procs : EachKeepsWords procs.rules
unfolding procs.rules
of_procs = (
  (λ inner k. k.1.1.1.1.1.0),  -- proc
  (
    (λ inner k. both (is_word inner.0.name.name) (named_by_words inner.1.0) k.0 k.1.0),  -- proc_members
    (
      (λ inner k. refl),  -- proc_members
      (
        (λ inner k. k.0),  -- proc_member
        (also_without 3 (drop 4 procs.rules) refl (
          (λ inner k. k.0),  -- parts
          (
            (λ inner k. k.1.0),  -- parts
            (
              (λ inner k. k.1.0),  -- parts
              (also_without 2 (drop 10 procs.rules) refl (
                (λ inner k. k.0),  -- parts_config_next
                (
                  (λ inner k. k.1.0),  -- parts_config_next
                  (
                    (λ inner k. k.0),  -- parts_config_init
                    (
                      (λ inner k. k.1.0),  -- parts_config_init
                      (
                        (λ inner k. k.1.1.0),  -- config
                        (
                          (λ inner k. both (is_word inner.0.name.name) (named_by_words inner.1.0) k.0 k.1.0),  -- ends
                          (
                            (λ inner k. refl),  -- ends
                            (
                              (λ inner k. k.1.0),  -- ends_more
                              (
                                (λ inner k. refl),  -- ends_more
                                (
                                  (λ inner k. k.0),  -- end_declared
                                  (keep_nothing (drop 22 procs.rules) refl),
                                ),
                              ),
                            ),
                          ),
                        ),
                      ),
                    ),
                  ),
                ),
              )),
            ),
          ),
        )),
      ),
    ),
  ),
)

-- all rules
pub each_keeps_words : EachKeepsWords semantic_actions
unfolding semantic_actions types.rules statements.rules operators.rules atoms.rules blocks.rules
each_keeps_words =
    also_keep items.rules (procs.rules ++ (types.rules ++ (statements.rules ++ (operators.rules ++ (atoms.rules ++ blocks.rules))))) of_items
    (also_keep procs.rules (types.rules ++ (statements.rules ++ (operators.rules ++ (atoms.rules ++ blocks.rules)))) of_procs
    (keep_nothing (types.rules ++ (statements.rules ++ (operators.rules ++ (atoms.rules ++ blocks.rules)))) refl))

same_some : {A : Type 0} {a b : A} → Some a ≡ Some b → a ≡ b
same_some {A} {a} {b} e = ap (or_this a) e
  where
    or_this : A → Option A → A
    or_this x None = x
    or_this x (Some y) = y

abbrev is_some : Option SemanticAction → Bool
is_some None = false
is_some (Some r) = true

-- the rule of a number
pub keeps_at : (rs : List SemanticAction) (p : ℕ) (r : SemanticAction) → EachKeepsWords rs → slice_get rs p ≡ Some r → KeepsWords r
keeps_at [] p r h e = absurd (false≢true (ap is_some e))
keeps_at (x ∷ xs) zero r h e = subst KeepsWords (same_some e) h.0
keeps_at (x ∷ xs) (suc p) r h e = keeps_at xs p r h.1 e
