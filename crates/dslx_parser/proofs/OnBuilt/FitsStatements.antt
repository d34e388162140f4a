-- What the builder does at the rules of blocks, statements and patterns is what they make.
use Rattle.std.proofs.Common.{refl, ap, [], ◌∷◌, drop}
use Rattle.base.specs.declared.grammar.table.Symbol.TheVariants.{Terminal, Nonterminal}
use Rattle.dslx_token.specs.declared.rules.generated.kind.TheConstants as kind
use Rattle.dslx_token.specs.declared.rules.generated.nonterminal.TheConstants as nonterminal
use Rattle.dslx_tree.specs.declared.pattern.Shape as shapes
use Rattle.dslx_actions.specs.declared.parts.SemanticStacks.{SemanticStacks}
use Rattle.dslx_actions.specs.Empty.{no_ident}
use Rattle.base.specs.Stacks.Tops.{top_or}
use Rattle.dslx_parser.specs.Builder.Building.{reduced, rule_of}
use Rattle.dslx_parser.specs.Builder.Table.{table}
use Rattle.dslx_parser.specs.Syntax.Nodes.{block_at, from_to, pattern_at}
use Rattle.dslx_parser.specs.Syntax.Items as items_rules
use Rattle.dslx_parser.specs.Syntax.Procs as procs_rules
use Rattle.dslx_parser.specs.Syntax.Types as types_rules
use Rattle.dslx_parser.specs.Syntax.Statements as statements_rules
use Rattle.dslx_parser.proofs.OnBuilt.Onto.{dropped, taken}
use Rattle.dslx_parser.proofs.OnBuilt.Putting.{put_all, sized}
use Rattle.dslx_parser.proofs.OnBuilt.Fitting.{AllFit, behind}

pub fit : AllFit (behind types_rules.rules (behind procs_rules.rules (behind items_rules.rules rule_of))) statements_rules.rules
unfolding table items_rules.rules procs_rules.rules types_rules.rules statements_rules.rules
fit =
    -- block = LBRACE statements RBRACE
    (
      λ parts s. λ i. record s { statements = dropped parts.1.0.0 s.statements i; blocks = block_at (from_to parts.0.span parts.1.1.0.span) (taken parts.1.0.0 s.statements i, parts.1.0.1) ∷ s.blocks },
      -- statements = let statements
      (
        λ parts s. refl,
        -- statements = expr statement_end
        (
          λ parts s. refl,
          -- statements = (nothing)
          (
            λ parts s. refl,
            -- statement_end = bare statements
            (
              λ parts s. refl,
              -- statement_end = (nothing)
              (
                λ parts s. refl,
                -- bare = SEMI
                (
                  λ parts s. refl,
                  -- let = LET let_pattern ASSIGN expr SEMI
                  (
                    λ parts s. refl,
                    -- let_pattern = plain_pattern let_type
                    (
                      λ parts s. refl,
                      -- let_pattern = any_name let_name
                      (
                        λ parts s. refl,
                        -- let_name = PATH any_name let_type
                        (
                          λ parts s. refl,
                          -- let_name = name_size type_tail COLON signed let_type
                          (
                            λ parts s. ap (λ (t : SemanticStacks). reduced (rule_of 125) (put_all (Terminal kind.COLON ∷ Nonterminal nonterminal.SIGNED ∷ Nonterminal nonterminal.LET_TYPE ∷ []) parts.1.1 t)) (sized parts.1.0 (parts.0 (top_or no_ident s.idents)) (record s { idents = drop 1 s.idents })),
                            -- let_name = COLON let_colon
                            (
                              λ parts s. refl,
                              -- let_name = (nothing)
                              (
                                λ parts s. refl,
                                -- let_colon = signed let_type
                                (
                                  λ parts s. refl,
                                  -- let_colon = type
                                  (
                                    λ parts s. refl,
                                    -- let_type = COLON type
                                    (
                                      λ parts s. refl,
                                      -- let_type = (nothing)
                                      (
                                        λ parts s. refl,
                                        -- pattern = plain_pattern
                                        (
                                          λ parts s. refl,
                                          -- pattern = any_name pattern_name
                                          (
                                            λ parts s. refl,
                                            -- plain_pattern = WILD
                                            (
                                              λ parts s. refl,
                                              -- plain_pattern = TRUE
                                              (
                                                λ parts s. refl,
                                                -- plain_pattern = FALSE
                                                (
                                                  λ parts s. refl,
                                                  -- plain_pattern = base_keyword type_tail COLON signed
                                                  (
                                                    λ parts s. ap (λ (t : SemanticStacks). reduced (rule_of 137) (put_all (Terminal kind.COLON ∷ Nonterminal nonterminal.SIGNED ∷ []) parts.1.1 t)) (sized parts.1.0 parts.0 s),
                                                    -- plain_pattern = LPAREN patterns RPAREN
                                                    (
                                                      λ parts s. λ i. record s { patterns = pattern_at (from_to parts.0.span parts.1.1.0.span) (shapes.Tuple (taken parts.1.0 s.patterns i)) ∷ dropped parts.1.0 s.patterns i },
                                                      -- pattern_name = PATH any_name
                                                      (
                                                        λ parts s. refl,
                                                        -- pattern_name = COLON signed
                                                        (
                                                          λ parts s. refl,
                                                          -- pattern_name = name_size type_tail COLON signed
                                                          (
                                                            λ parts s. ap (λ (t : SemanticStacks). reduced (rule_of 141) (put_all (Terminal kind.COLON ∷ Nonterminal nonterminal.SIGNED ∷ []) parts.1.1 t)) (sized parts.1.0 (parts.0 (top_or no_ident s.idents)) (record s { idents = drop 1 s.idents })),
                                                            -- pattern_name = (nothing)
                                                            (
                                                              λ parts s. refl,
                                                              -- patterns = pattern patterns_more
                                                              (
                                                                λ parts s. refl,
                                                                -- patterns = (nothing)
                                                                (
                                                                  λ parts s. refl,
                                                                  -- patterns_more = COMMA patterns
                                                                  (
                                                                    λ parts s. refl,
                                                                    -- patterns_more = (nothing)
                                                                    (
                                                                      λ parts s. refl,
                                                                      tt,
                                                                    ),
                                                                  ),
                                                                ),
                                                              ),
                                                            ),
                                                          ),
                                                        ),
                                                      ),
                                                    ),
                                                  ),
                                                ),
                                              ),
                                            ),
                                          ),
                                        ),
                                      ),
                                    ),
                                  ),
                                ),
                              ),
                            ),
                          ),
                        ),
                      ),
                    ),
                  ),
                ),
              ),
            ),
          ),
        ),
      ),
    )
