-- What the builder does at the rules of arguments between `<` and `>`, of numbers and of types is what they make.
use Rattle.std.proofs.Common.{refl, ap, [], ◌∷◌, drop}
use Rattle.base.specs.declared.grammar.table.Symbol.TheVariants.{Terminal, Nonterminal}
use Rattle.dslx_token.specs.declared.rules.generated.kind.TheConstants as kind
use Rattle.dslx_token.specs.declared.rules.generated.nonterminal.TheConstants as nonterminal
use Rattle.dslx_tree.specs.declared.type_expr.TypeNode as types
use Rattle.dslx_actions.specs.declared.parts.SemanticStacks.{SemanticStacks}
use Rattle.dslx_actions.specs.Empty.{no_ident}
use Rattle.base.specs.Stacks.Tops.{top_or}
use Rattle.dslx_parser.specs.Builder.Building.{reduced, rule_of}
use Rattle.dslx_parser.specs.Builder.Table.{table}
use Rattle.dslx_parser.specs.Syntax.Nodes.{from_to, type_at}
use Rattle.dslx_parser.specs.Syntax.Items as items_rules
use Rattle.dslx_parser.specs.Syntax.Procs as procs_rules
use Rattle.dslx_parser.specs.Syntax.Types as types_rules
use Rattle.dslx_parser.proofs.OnBuilt.Onto.{dropped, taken}
use Rattle.dslx_parser.proofs.OnBuilt.Putting.{put_all, sized}
use Rattle.dslx_parser.proofs.OnBuilt.Fitting.{AllFit, behind}

pub fit : AllFit (behind procs_rules.rules (behind items_rules.rules rule_of)) types_rules.rules
unfolding table items_rules.rules procs_rules.rules types_rules.rules
fit =
    -- args_more = COMMA arg args_more
    (
      λ parts s. refl,
      -- args_more = (nothing)
      (
        λ parts s. refl,
        -- arg = NUMBER
        (
          λ parts s. refl,
          -- arg = base_keyword type_tail COLON signed
          (
            λ parts s. ap (λ (t : SemanticStacks). reduced (rule_of 90) (put_all (Terminal kind.COLON ∷ Nonterminal nonterminal.SIGNED ∷ []) parts.1.1 t)) (sized parts.1.0 parts.0 s),
            -- arg = any_name arg_name
            (
              λ parts s. refl,
              -- arg = LBRACE expr RBRACE
              (
                λ parts s. refl,
                -- arg_name = COLON signed
                (
                  λ parts s. refl,
                  -- arg_name = name_size type_tail COLON signed
                  (
                    λ parts s. ap (λ (t : SemanticStacks). reduced (rule_of 94) (put_all (Terminal kind.COLON ∷ Nonterminal nonterminal.SIGNED ∷ []) parts.1.1 t)) (sized parts.1.0 (parts.0 (top_or no_ident s.idents)) (record s { idents = drop 1 s.idents })),
                    -- arg_name = (nothing)
                    (
                      λ parts s. refl,
                      -- signed = MINUS NUMBER
                      (
                        λ parts s. refl,
                        -- signed = NUMBER
                        (
                          λ parts s. refl,
                          -- type = base type_tail
                          (
                            λ parts s. ap (λ (t : SemanticStacks). reduced (rule_of 98) (put_all ([]) parts.1.1 t)) (sized parts.1.0 parts.0 s),
                            -- base = base_keyword
                            (
                              λ parts s. refl,
                              -- base = any_name
                              (
                                λ parts s. refl,
                                -- base = LPAREN types RPAREN
                                (
                                  λ parts s. λ i. record s { types = type_at (from_to parts.0.span parts.1.1.0.span) (types.Tuple (taken parts.1.0 s.types i)) ∷ dropped parts.1.0 s.types i },
                                  -- base_keyword = UNSIGNED
                                  (
                                    λ parts s. refl,
                                    -- base_keyword = SIGNED
                                    (
                                      λ parts s. refl,
                                      -- base_keyword = WIDE LBRACKET expr RBRACKET
                                      (
                                        λ parts s. refl,
                                        -- base_keyword = BOOL
                                        (
                                          λ parts s. refl,
                                          -- type_tail = size type_tail
                                          (
                                            λ parts s. refl,
                                            -- type_tail = (nothing)
                                            (
                                              λ parts s. refl,
                                              -- size = LBRACKET expr RBRACKET
                                              (
                                                λ parts s. refl,
                                                -- name_size = LBRACKET expr RBRACKET
                                                (
                                                  λ parts s. refl,
                                                  -- types = type types_more
                                                  (
                                                    λ parts s. refl,
                                                    -- types = (nothing)
                                                    (
                                                      λ parts s. refl,
                                                      -- types_more = COMMA types
                                                      (
                                                        λ parts s. refl,
                                                        -- types_more = (nothing)
                                                        (
                                                          λ parts s. refl,
                                                          tt,
                                                        ),
                                                      ),
                                                    ),
                                                  ),
                                                ),
                                              ),
                                            ),
                                          ),
                                        ),
                                      ),
                                    ),
                                  ),
                                ),
                              ),
                            ),
                          ),
                        ),
                      ),
                    ),
                  ),
                ),
              ),
            ),
          ),
        ),
      ),
    )
