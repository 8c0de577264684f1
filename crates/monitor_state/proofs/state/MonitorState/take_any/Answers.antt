use Rattle.std.proofs.Common.{sym, ◌∙◌, ap}
use Rattle.std.specs.Option.{option_map}
use Rattle.monitor_laws.specs.Lines.{PlaysAny}
use Rattle.monitor_words.specs.calls.FaultValues.{fault_of_line}
use Rattle.monitor_state.proofs.LegalLines.{no_fault}
use Rattle.monitor_state.proofs.state.MonitorState.take_any.Goals as goal

pub play_any-requires : goal.play_any-requires
play_any-requires c = record { legal = no_fault c.args.self.now (PlaysAny c.args.w.now) (sym c.any_fault.ensures ∙ ap (option_map fault_of_line) c.in-None.is) }
