use Rattle.monitor_words.proofs.laws.values_are_written.Goals as goal
use Rattle.monitor_words.proofs.Joined.{joins_list, joins_refusal, joins_report, joins_resolved, joins_told}

pub returns : goal.returns
returns c = record { told = joins_told; refusal = joins_refusal; resolved = joins_resolved; report = joins_report; list = joins_list }
