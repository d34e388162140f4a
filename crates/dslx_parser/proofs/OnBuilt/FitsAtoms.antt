-- What the builder does at the rules of atoms is what they make.
use Rattle.std.proofs.Common.{refl, ap, [], ◌∷◌, drop}
use Rattle.std.specs.Prelude.{None, Some}
use Rattle.xb_span.specs.Spans.{nowhere}
use Rattle.base.specs.declared.grammar.table.Symbol.TheVariants.{Terminal, Nonterminal}
use Rattle.dslx_token.specs.declared.rules.generated.kind.TheConstants as kind
use Rattle.dslx_token.specs.declared.rules.generated.nonterminal.TheConstants as nonterminal
use Rattle.dslx_tree.specs.declared.type_expr.TypeExpr.{out-TypeExpr}
use Rattle.dslx_tree.specs.declared.expr.Node as nodes
use Rattle.dslx_actions.specs.declared.parts.SemanticStacks.{SemanticStacks}
use Rattle.dslx_actions.specs.Empty.{no_expr, no_ident, no_type}
use Rattle.base.specs.Stacks.Tops.{top_or}
use Rattle.dslx_parser.specs.Builder.Building.{reduced, rule_of}
use Rattle.dslx_parser.specs.Builder.Table.{table}
use Rattle.dslx_parser.specs.Syntax.Nodes.{from_to}
use Rattle.dslx_parser.specs.Syntax.Items as items_rules
use Rattle.dslx_parser.specs.Syntax.Procs as procs_rules
use Rattle.dslx_parser.specs.Syntax.Types as types_rules
use Rattle.dslx_parser.specs.Syntax.Statements as statements_rules
use Rattle.dslx_parser.specs.Syntax.Operators as operators_rules
use Rattle.dslx_parser.specs.Syntax.Atoms as atoms_rules
use Rattle.dslx_parser.proofs.OnBuilt.Onto.{dropped, dropped_by, taken, taken_by}
use Rattle.dslx_parser.proofs.OnBuilt.Putting.{offset_of, put_all, sized, value_of, with_operand}
use Rattle.dslx_parser.proofs.OnBuilt.Fitting.{AllFit, behind}

pub fit : AllFit (behind operators_rules.rules (behind statements_rules.rules (behind types_rules.rules (behind procs_rules.rules (behind items_rules.rules rule_of))))) atoms_rules.rules
unfolding table items_rules.rules procs_rules.rules types_rules.rules statements_rules.rules operators_rules.rules atoms_rules.rules
fit =
    -- atom = NUMBER
    (
      λ parts s. refl,
      -- atom = base_keyword type_tail COLON typed
      (
        λ parts s. ap (λ (t : SemanticStacks). reduced (rule_of 185) (put_all (Terminal kind.COLON ∷ Nonterminal nonterminal.TYPED ∷ []) parts.1.1 t)) (sized parts.1.0 parts.0 s),
        -- atom = alias_name type_tail COLON typed
        (
          λ parts s. ap (λ (t : SemanticStacks). reduced (rule_of 186) (put_all (Terminal kind.COLON ∷ Nonterminal nonterminal.TYPED ∷ []) parts.1.1 t)) (sized parts.1.0 parts.0 s),
          -- atom = elements
          (
            λ parts s. λ i. with_operand (record s { expr_spans = dropped_by offset_of parts.0.2 s.expr_spans i; exprs = dropped_by value_of parts.0.2 s.exprs i }) (from_to parts.0.0 parts.0.1) (nodes.Array None (taken_by value_of parts.0.2 s.exprs i) parts.0.3),
            -- atom = TRUE
            (
              λ parts s. refl,
              -- atom = FALSE
              (
                λ parts s. refl,
                -- atom = NAME name_tail
                (
                  λ parts s. refl,
                  -- atom = FUNNAME function_tail
                  (
                    λ parts s. refl,
                    -- atom = STRUCTNAME struct_tail
                    (
                      λ parts s. refl,
                      -- atom = BOTHNAME both_tail
                      (
                        λ parts s. refl,
                        -- atom = LPAREN parenthesis
                        (
                          λ parts s. refl,
                          -- atom = block
                          (
                            λ parts s. refl,
                            -- atom = if
                            (
                              λ parts s. refl,
                              -- atom = match
                              (
                                λ parts s. refl,
                                -- atom = for
                                (
                                  λ parts s. refl,
                                  -- alias_name = TYPENAME
                                  (
                                    λ parts s. refl,
                                    -- typed = signed
                                    (
                                      λ parts s. refl,
                                      -- typed = elements
                                      (
                                        λ parts s. λ i. with_operand (record s { token_spans = drop 1 s.token_spans; types = drop 1 s.types; expr_spans = dropped_by offset_of parts.0.2 s.expr_spans i; exprs = dropped_by value_of parts.0.2 s.exprs i }) (from_to (out-TypeExpr (top_or no_type s.types)).span parts.0.1) (nodes.Array (Some (top_or no_type s.types)) (taken_by value_of parts.0.2 s.exprs i) parts.0.3),
                                        -- name_tail = PATH any_name
                                        (
                                          λ parts s. refl,
                                          -- name_tail = call
                                          (
                                            λ parts s. refl,
                                            -- name_tail = (nothing)
                                            (
                                              λ parts s. refl,
                                              -- function_tail = PATH any_name
                                              (
                                                λ parts s. refl,
                                                -- function_tail = call
                                                (
                                                  λ parts s. refl,
                                                  -- function_tail = call_with_args
                                                  (
                                                    λ parts s. refl,
                                                    -- function_tail = (nothing)
                                                    (
                                                      λ parts s. refl,
                                                      -- struct_tail = PATH any_name
                                                      (
                                                        λ parts s. refl,
                                                        -- struct_tail = call
                                                        (
                                                          λ parts s. refl,
                                                          -- struct_tail = fields
                                                          (
                                                            λ parts s. refl,
                                                            -- struct_tail = (nothing)
                                                            (
                                                              λ parts s. refl,
                                                              -- both_tail = PATH any_name
                                                              (
                                                                λ parts s. refl,
                                                                -- both_tail = call
                                                                (
                                                                  λ parts s. refl,
                                                                  -- both_tail = call_with_args
                                                                  (
                                                                    λ parts s. refl,
                                                                    -- both_tail = fields
                                                                    (
                                                                      λ parts s. refl,
                                                                      -- both_tail = (nothing)
                                                                      (
                                                                        λ parts s. refl,
                                                                        -- call = LPAREN exprs RPAREN
                                                                        (
                                                                          λ parts s. λ i. with_operand (record s { idents = drop 1 s.idents; expr_spans = dropped_by offset_of parts.1.0 s.expr_spans i; exprs = dropped_by value_of parts.1.0 s.exprs i }) (from_to (top_or no_ident s.idents).span parts.1.1.0.span) (nodes.Call (top_or no_ident s.idents) [] (taken_by value_of parts.1.0 s.exprs i)),
                                                                          -- call_with_args = ARGS arg args_more GT LPAREN exprs RPAREN
                                                                          (
                                                                            λ parts s. λ i. with_operand (record s { idents = drop 1 s.idents; args = dropped (parts.1.0 ∷ parts.1.1.0) s.args i; expr_spans = dropped_by offset_of parts.1.1.1.1.1.0 s.expr_spans i; exprs = dropped_by value_of parts.1.1.1.1.1.0 s.exprs i }) (from_to (top_or no_ident s.idents).span parts.1.1.1.1.1.1.0.span) (nodes.Call (top_or no_ident s.idents) (taken (parts.1.0 ∷ parts.1.1.0) s.args i) (taken_by value_of parts.1.1.1.1.1.0 s.exprs i)),
                                                                            -- exprs = expr exprs_more
                                                                            (
                                                                              λ parts s. refl,
                                                                              -- exprs = (nothing)
                                                                              (
                                                                                λ parts s. refl,
                                                                                -- exprs_more = COMMA exprs
                                                                                (
                                                                                  λ parts s. refl,
                                                                                  -- exprs_more = (nothing)
                                                                                  (
                                                                                    λ parts s. refl,
                                                                                    -- fields = FIELDS field_list RBRACE
                                                                                    (
                                                                                      λ parts s. λ i. with_operand (record s { idents = drop 1 s.idents; field_values = dropped parts.1.0.0 s.field_values i }) (from_to (top_or no_ident s.idents).span parts.1.1.0.span) (nodes.Struct (top_or no_ident s.idents) (taken parts.1.0.0 s.field_values i) parts.1.0.1),
                                                                                      -- field_list = any_name field_value field_more
                                                                                      (
                                                                                        λ parts s. refl,
                                                                                        -- field_list = REST expr
                                                                                        (
                                                                                          λ parts s. refl,
                                                                                          -- field_list = (nothing)
                                                                                          (
                                                                                            λ parts s. refl,
                                                                                            -- field_value = COLON expr
                                                                                            (
                                                                                              λ parts s. refl,
                                                                                              -- field_value = (nothing)
                                                                                              (
                                                                                                λ parts s. refl,
                                                                                                -- field_more = COMMA field_list
                                                                                                (
                                                                                                  λ parts s. refl,
                                                                                                  -- field_more = (nothing)
                                                                                                  (
                                                                                                    λ parts s. refl,
                                                                                                    -- parenthesis = RPAREN
                                                                                                    (
                                                                                                      λ parts s. refl,
                                                                                                      -- parenthesis = expr parenthesis_end
                                                                                                      (
                                                                                                        λ parts s. refl,
                                                                                                        -- parenthesis_end = RPAREN
                                                                                                        (
                                                                                                          λ parts s. refl,
                                                                                                          -- parenthesis_end = COMMA exprs RPAREN
                                                                                                          (
                                                                                                            λ parts s. λ i. with_operand (record s { token_spans = drop 1 s.token_spans; expr_spans = drop 1 (dropped_by offset_of parts.1.0 s.expr_spans i); exprs = drop 1 (dropped_by value_of parts.1.0 s.exprs i) }) (from_to (top_or nowhere s.token_spans) parts.1.1.0.span) (nodes.Tuple (top_or no_expr (dropped_by value_of parts.1.0 s.exprs i) ∷ taken_by value_of parts.1.0 s.exprs i)),
                                                                                                            -- elements = LBRACKET expr elements_more RBRACKET
                                                                                                            (
                                                                                                              λ parts s. refl,
                                                                                                              -- elements_more = COMMA elements_next
                                                                                                              (
                                                                                                                λ parts s. refl,
                                                                                                                -- elements_more = (nothing)
                                                                                                                (
                                                                                                                  λ parts s. refl,
                                                                                                                  -- elements_next = expr elements_more
                                                                                                                  (
                                                                                                                    λ parts s. refl,
                                                                                                                    -- elements_next = DOTS elements_end
                                                                                                                    (
                                                                                                                      λ parts s. refl,
                                                                                                                      -- elements_next = (nothing)
                                                                                                                      (
                                                                                                                        λ parts s. refl,
                                                                                                                        -- elements_end = COMMA
                                                                                                                        (
                                                                                                                          λ parts s. refl,
                                                                                                                          -- elements_end = (nothing)
                                                                                                                          (
                                                                                                                            λ parts s. refl,
                                                                                                                            tt,
                                                                                                                          ),
                                                                                                                        ),
                                                                                                                      ),
                                                                                                                    ),
                                                                                                                  ),
                                                                                                                ),
                                                                                                              ),
                                                                                                            ),
                                                                                                          ),
                                                                                                        ),
                                                                                                      ),
                                                                                                    ),
                                                                                                  ),
                                                                                                ),
                                                                                              ),
                                                                                            ),
                                                                                          ),
                                                                                        ),
                                                                                      ),
                                                                                    ),
                                                                                  ),
                                                                                ),
                                                                              ),
                                                                            ),
                                                                          ),
                                                                        ),
                                                                      ),
                                                                    ),
                                                                  ),
                                                                ),
                                                              ),
                                                            ),
                                                          ),
                                                        ),
                                                      ),
                                                    ),
                                                  ),
                                                ),
                                              ),
                                            ),
                                          ),
                                        ),
                                      ),
                                    ),
                                  ),
                                ),
                              ),
                            ),
                          ),
                        ),
                      ),
                    ),
                  ),
                ),
              ),
            ),
          ),
        ),
      ),
    )
