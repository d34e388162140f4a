-- What the builder does at the rules of `if`, `match` and `for` is what they make.
use Rattle.std.proofs.Common.{refl, ◌∷◌}
use Rattle.dslx_tree.specs.declared.expr.Arm.{roll-Arm}
use Rattle.dslx_tree.specs.declared.expr.Node as nodes
use Rattle.dslx_parser.specs.Builder.Building.{rule_of}
use Rattle.dslx_parser.specs.Builder.Table.{table}
use Rattle.dslx_parser.specs.Syntax.Nodes.{block_at, from_to}
use Rattle.dslx_parser.specs.Syntax.Items as items_rules
use Rattle.dslx_parser.specs.Syntax.Procs as procs_rules
use Rattle.dslx_parser.specs.Syntax.Types as types_rules
use Rattle.dslx_parser.specs.Syntax.Statements as statements_rules
use Rattle.dslx_parser.specs.Syntax.Operators as operators_rules
use Rattle.dslx_parser.specs.Syntax.Atoms as atoms_rules
use Rattle.dslx_parser.specs.Syntax.Blocks as blocks_rules
use Rattle.dslx_parser.proofs.OnBuilt.Onto.{dropped, taken}
use Rattle.dslx_parser.proofs.OnBuilt.Putting.{with_operand}
use Rattle.dslx_parser.proofs.OnBuilt.Fitting.{AllFit, behind}

pub fit : AllFit (behind atoms_rules.rules (behind operators_rules.rules (behind statements_rules.rules (behind types_rules.rules (behind procs_rules.rules (behind items_rules.rules rule_of)))))) blocks_rules.rules
unfolding table items_rules.rules procs_rules.rules types_rules.rules statements_rules.rules operators_rules.rules atoms_rules.rules blocks_rules.rules
fit =
    -- if = IF expr headed_block ELSE else
    (
      λ parts s. refl,
      -- else = block
      (
        λ parts s. refl,
        -- else = if
        (
          λ parts s. refl,
          -- match = MATCH expr LBRACE arms RBRACE
          (
            λ parts s. λ i. with_operand (record s { arms = dropped parts.1.1.1.0 s.arms i }) (from_to parts.0.span parts.1.1.1.1.0.span) (nodes.Match parts.1.0.expr (taken parts.1.1.1.0 s.arms i)),
            -- arms = arm arms_more
            (
              λ parts s. refl,
              -- arms = (nothing)
              (
                λ parts s. refl,
                -- arms_more = COMMA arms
                (
                  λ parts s. refl,
                  -- arms_more = (nothing)
                  (
                    λ parts s. refl,
                    -- arm = pattern alternatives DARROW expr
                    (
                      λ parts s. λ i. record s { patterns = dropped (parts.0 ∷ parts.1.0) s.patterns i; arms = roll-Arm (record { patterns = taken (parts.0 ∷ parts.1.0) s.patterns i; value = parts.1.1.1.0.expr }) ∷ s.arms },
                      -- alternatives = PIPE pattern alternatives
                      (
                        λ parts s. refl,
                        -- alternatives = (nothing)
                        (
                          λ parts s. refl,
                          -- for = FOR LPAREN pattern COMMA pattern RPAREN for_type for_range
                          (
                            λ parts s. refl,
                            -- for_type = COLON type
                            (
                              λ parts s. refl,
                              -- for_type = (nothing)
                              (
                                λ parts s. refl,
                                -- for_range = IN expr REST expr headed_block LPAREN expr RPAREN
                                (
                                  λ parts s. refl,
                                  -- headed_block = LBRACE statements RBRACE
                                  (
                                    λ parts s. λ i. record s { statements = dropped parts.1.0.0 s.statements i; blocks = block_at (from_to parts.0.span parts.1.1.0.span) (taken parts.1.0.0 s.statements i, parts.1.0.1) ∷ s.blocks },
                                    tt,
                                  ),
                                ),
                              ),
                            ),
                          ),
                        ),
                      ),
                    ),
                  ),
                ),
              ),
            ),
          ),
        ),
      ),
    )
