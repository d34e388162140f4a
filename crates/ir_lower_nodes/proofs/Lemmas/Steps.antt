-- For other crates' proofs: nodes that are put behind others, their values and sites.
pub use Rattle.ir_lower_nodes.proofs.OnSteps.OnNodes.{bound_kept, site_has, site_put}
pub use Rattle.ir_lower_nodes.proofs.OnSteps.OnRuns.{PlainRun, grown_run, plain_sites, values_more}
pub use Rattle.ir_lower_nodes.proofs.OnSteps.OnWords.{token_type}
