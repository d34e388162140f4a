-- What the builder does at the rules of operators, and of what stands behind an atom is what they make.
use Rattle.std.proofs.Common.{refl, ◌∷◌}
use Rattle.dslx_parser.specs.Builder.Building.{rule_of}
use Rattle.dslx_parser.specs.Builder.Table.{table}
use Rattle.dslx_parser.specs.Syntax.Items as items_rules
use Rattle.dslx_parser.specs.Syntax.Procs as procs_rules
use Rattle.dslx_parser.specs.Syntax.Types as types_rules
use Rattle.dslx_parser.specs.Syntax.Statements as statements_rules
use Rattle.dslx_parser.specs.Syntax.Operators as operators_rules
use Rattle.dslx_parser.proofs.OnBuilt.Onto.{dropped_by}
use Rattle.dslx_parser.proofs.OnBuilt.Chains.{chained, expr_of, linked, operator_of, span_of}
use Rattle.dslx_parser.proofs.OnBuilt.Putting.{posted}
use Rattle.dslx_parser.proofs.OnBuilt.Fitting.{AllFit, behind}

pub fit : AllFit (behind statements_rules.rules (behind types_rules.rules (behind procs_rules.rules (behind items_rules.rules rule_of)))) operators_rules.rules
unfolding table items_rules.rules procs_rules.rules types_rules.rules statements_rules.rules operators_rules.rules
fit =
    -- expr = operand operands
    (
      λ parts s. λ i. chained s (dropped_by span_of parts.1.0 (parts.0.span ∷ s.expr_spans) i) (dropped_by expr_of parts.1.0 (parts.0.expr ∷ s.exprs) i) (dropped_by operator_of parts.1.0 s.operators i) (linked parts.1.0 s.operators (parts.0.span ∷ s.expr_spans) (parts.0.expr ∷ s.exprs) i),
      -- operands = binary operand operands
      (
        λ parts s. refl,
        -- operands = (nothing)
        (
          λ parts s. refl,
          -- binary = STAR
          (
            λ parts s. refl,
            -- binary = SLASH
            (
              λ parts s. refl,
              -- binary = PERCENT
              (
                λ parts s. refl,
                -- binary = PLUS
                (
                  λ parts s. refl,
                  -- binary = MINUS
                  (
                    λ parts s. refl,
                    -- binary = CONCAT
                    (
                      λ parts s. refl,
                      -- binary = SHL
                      (
                        λ parts s. refl,
                        -- binary = SHR
                        (
                          λ parts s. refl,
                          -- binary = AMP
                          (
                            λ parts s. refl,
                            -- binary = CARET
                            (
                              λ parts s. refl,
                              -- binary = PIPE
                              (
                                λ parts s. refl,
                                -- binary = EQ
                                (
                                  λ parts s. refl,
                                  -- binary = NE
                                  (
                                    λ parts s. refl,
                                    -- binary = LT
                                    (
                                      λ parts s. refl,
                                      -- binary = LE
                                      (
                                        λ parts s. refl,
                                        -- binary = GT
                                        (
                                          λ parts s. refl,
                                          -- binary = GE
                                          (
                                            λ parts s. refl,
                                            -- binary = ANDAND
                                            (
                                              λ parts s. refl,
                                              -- binary = OROR
                                              (
                                                λ parts s. refl,
                                                -- operand = prefixed casts
                                                (
                                                  λ parts s. posted parts.1.0 parts.0 s,
                                                  -- prefixed = MINUS prefixed
                                                  (
                                                    λ parts s. refl,
                                                    -- prefixed = BANG prefixed
                                                    (
                                                      λ parts s. refl,
                                                      -- prefixed = atom posts
                                                      (
                                                        λ parts s. posted parts.1.0 parts.0 s,
                                                        -- casts = cast casts
                                                        (
                                                          λ parts s. refl,
                                                          -- casts = (nothing)
                                                          (
                                                            λ parts s. refl,
                                                            -- cast = AS type
                                                            (
                                                              λ parts s. refl,
                                                              -- posts = LBRACKET expr index_end posts
                                                              (
                                                                λ parts s. refl,
                                                                -- posts = DOT part posts
                                                                (
                                                                  λ parts s. refl,
                                                                  -- posts = (nothing)
                                                                  (
                                                                    λ parts s. refl,
                                                                    -- index_end = RBRACKET
                                                                    (
                                                                      λ parts s. refl,
                                                                      -- index_end = COLON expr RBRACKET
                                                                      (
                                                                        λ parts s. refl,
                                                                        -- index_end = PLUSCOLON type RBRACKET
                                                                        (
                                                                          λ parts s. refl,
                                                                          -- part = any_name
                                                                          (
                                                                            λ parts s. refl,
                                                                            -- part = NUMBER
                                                                            (
                                                                              λ parts s. refl,
                                                                              tt,
                                                                            ),
                                                                          ),
                                                                        ),
                                                                      ),
                                                                    ),
                                                                  ),
                                                                ),
                                                              ),
                                                            ),
                                                          ),
                                                        ),
                                                      ),
                                                    ),
                                                  ),
                                                ),
                                              ),
                                            ),
                                          ),
                                        ),
                                      ),
                                    ),
                                  ),
                                ),
                              ),
                            ),
                          ),
                        ),
                      ),
                    ),
                  ),
                ),
              ),
            ),
          ),
        ),
      ),
    )
