use Rattle.report_laws.proofs.Cycles.{clock_cycle_is_proof, cycle_is_proof, graph_changes_last_line, graph_changes_no_refusal}
use Rattle.report_laws.proofs.reports.cycle_is_proof.Goals as goal

pub returns : goal.returns
returns c = record { proof = cycle_is_proof; clocks = clock_cycle_is_proof; graph = graph_changes_last_line; refusals = graph_changes_no_refusal }
