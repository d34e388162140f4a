-- What the builder does at the rules of procs is what they make.
use Rattle.std.proofs.Common.{refl, ◌∷◌, drop}
use Rattle.dslx_tree.specs.declared.item.Definition.TheVariants as definitions
use Rattle.dslx_tree.specs.declared.process.ConfigStatement.TheVariants as config_statements
use Rattle.dslx_actions.specs.Empty.{no_ident}
use Rattle.base.specs.Stacks.Tops.{top_or}
use Rattle.dslx_parser.specs.Builder.Building.{rule_of}
use Rattle.dslx_parser.specs.Builder.Table.{table}
use Rattle.dslx_parser.specs.Syntax.Nodes.{from_to}
use Rattle.dslx_parser.specs.Syntax.Items as items_rules
use Rattle.dslx_parser.specs.Syntax.Procs as procs_rules
use Rattle.dslx_parser.proofs.OnBuilt.Onto.{dropped, taken}
use Rattle.dslx_parser.proofs.OnBuilt.Fitting.{AllFit, behind}

pub fit : AllFit (behind items_rules.rules rule_of) procs_rules.rules
unfolding table items_rules.rules procs_rules.rules
fit =
    -- proc = PROC any_name parameters open_brace proc_members parts RBRACE
    (
      λ parts s. λ i. record s { ends = dropped parts.1.1.1.1.0 s.ends i; parametrics = dropped parts.1.1.0 s.parametrics i; definitions = definitions.Proc (record { span = from_to parts.0.span parts.1.1.1.1.1.1.0.span; name = parts.1.0; parametrics = taken parts.1.1.0 s.parametrics i; members = taken parts.1.1.1.1.0 s.ends i; config = parts.1.1.1.1.1.0.0; init = parts.1.1.1.1.1.0.1; next = parts.1.1.1.1.1.0.2 }) ∷ s.definitions },
      -- proc_members = proc_member proc_members
      (
        λ parts s. refl,
        -- proc_members = (nothing)
        (
          λ parts s. refl,
          -- proc_member = any_name COLON end SEMI
          (
            λ parts s. refl,
            -- end = CHAN LT type GT direction
            (
              λ parts s. refl,
              -- direction = IN
              (
                λ parts s. refl,
                -- direction = OUT
                (
                  λ parts s. refl,
                  -- parts = config parts_init_next
                  (
                    λ parts s. refl,
                    -- parts = init parts_config_next
                    (
                      λ parts s. refl,
                      -- parts = next parts_config_init
                      (
                        λ parts s. refl,
                        -- parts_init_next = init next
                        (
                          λ parts s. refl,
                          -- parts_init_next = next init
                          (
                            λ parts s. refl,
                            -- parts_config_next = config next
                            (
                              λ parts s. refl,
                              -- parts_config_next = next config
                              (
                                λ parts s. refl,
                                -- parts_config_init = config init
                                (
                                  λ parts s. refl,
                                  -- parts_config_init = init config
                                  (
                                    λ parts s. refl,
                                    -- config = CONFIG LPAREN ends RPAREN LBRACE makings config_result RBRACE
                                    (
                                      λ parts s. λ i. record s { ends = dropped parts.1.1.0 s.ends i; config_statements = dropped parts.1.1.1.1.1.0 s.config_statements i; idents = dropped parts.1.1.1.1.1.1.0 s.idents i; configs = record { span = from_to parts.0.span parts.1.1.1.1.1.1.1.0.span; ends = taken parts.1.1.0 s.ends i; config_statements = taken parts.1.1.1.1.1.0 s.config_statements i; result = taken parts.1.1.1.1.1.1.0 s.idents i } ∷ s.configs },
                                      -- ends = end_declared ends_more
                                      (
                                        λ parts s. refl,
                                        -- ends = (nothing)
                                        (
                                          λ parts s. refl,
                                          -- ends_more = COMMA ends
                                          (
                                            λ parts s. refl,
                                            -- ends_more = (nothing)
                                            (
                                              λ parts s. refl,
                                              -- end_declared = any_name COLON end
                                              (
                                                λ parts s. refl,
                                                -- makings = channel makings
                                                (
                                                  λ parts s. refl,
                                                  -- makings = spawn makings
                                                  (
                                                    λ parts s. refl,
                                                    -- makings = (nothing)
                                                    (
                                                      λ parts s. refl,
                                                      -- channel = LET LPAREN any_name COMMA any_name RPAREN ASSIGN channel_made
                                                      (
                                                        λ parts s. refl,
                                                        -- channel_made = CHAN LT type channel_depth GT LPAREN STRING channel_end
                                                        (
                                                          λ parts s. refl,
                                                          -- channel_end = RPAREN SEMI
                                                          (
                                                            λ parts s. refl,
                                                            -- channel_depth = COMMA arg
                                                            (
                                                              λ parts s. refl,
                                                              -- channel_depth = (nothing)
                                                              (
                                                                λ parts s. refl,
                                                                -- spawn = SPAWN any_name spawn_args LPAREN names RPAREN SEMI
                                                                (
                                                                  λ parts s. λ i. record s { idents = drop 1 (dropped parts.1.1.1.1.0 (parts.1.0 ∷ s.idents) i); args = dropped parts.1.1.0 s.args i; config_statements = config_statements.Spawn (record { span = from_to parts.0.span parts.1.1.1.1.1.1.0.span; target = top_or no_ident (dropped parts.1.1.1.1.0 (parts.1.0 ∷ s.idents) i); arguments = taken parts.1.1.0 s.args i; ends = taken parts.1.1.1.1.0 (parts.1.0 ∷ s.idents) i }) ∷ s.config_statements },
                                                                  -- spawn_args = open_angle arg args_more GT
                                                                  (
                                                                    λ parts s. refl,
                                                                    -- spawn_args = (nothing)
                                                                    (
                                                                      λ parts s. refl,
                                                                      -- config_result = LPAREN names RPAREN
                                                                      (
                                                                        λ parts s. refl,
                                                                        -- config_result = (nothing)
                                                                        (
                                                                          λ parts s. refl,
                                                                          -- names = any_name names_more
                                                                          (
                                                                            λ parts s. refl,
                                                                            -- names = (nothing)
                                                                            (
                                                                              λ parts s. refl,
                                                                              -- names_more = COMMA names
                                                                              (
                                                                                λ parts s. refl,
                                                                                -- names_more = (nothing)
                                                                                (
                                                                                  λ parts s. refl,
                                                                                  -- init = INIT block
                                                                                  (
                                                                                    λ parts s. refl,
                                                                                    -- next = NEXT LPAREN any_name COLON type RPAREN block
                                                                                    (
                                                                                      λ parts s. refl,
                                                                                      tt,
                                                                                    ),
                                                                                  ),
                                                                                ),
                                                                              ),
                                                                            ),
                                                                          ),
                                                                        ),
                                                                      ),
                                                                    ),
                                                                  ),
                                                                ),
                                                              ),
                                                            ),
                                                          ),
                                                        ),
                                                      ),
                                                    ),
                                                  ),
                                                ),
                                              ),
                                            ),
                                          ),
                                        ),
                                      ),
                                    ),
                                  ),
                                ),
                              ),
                            ),
                          ),
                        ),
                      ),
                    ),
                  ),
                ),
              ),
            ),
          ),
        ),
      ),
    )
