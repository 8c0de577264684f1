use Rattle.std.proofs.Common.{sym, ◌∙◌, ap}
use Rattle.std.specs.Option.{option_map}
use Rattle.monitor_laws.specs.Lines.{Announces}
use Rattle.trace_lines.specs.Values.{place_value, said_value}
use Rattle.monitor_words.specs.calls.FaultValues.{fault_of_line}
use Rattle.monitor_state.proofs.LegalLines.{no_fault, place_is_there}
use Rattle.monitor_state.proofs.state.MonitorState.take_announcement.Goals as goal

pub announce-requires : goal.announce-requires
announce-requires c =
    record {
      place = c.place_of-at.ensures.place;
      legal = no_fault c.args.self.now (Announces c.args.t.now (said_value c.args.what.now) (place_value c.args.place))
          (sym (c.announced_fault.ensures (place_value c.args.place) (place_is_there c.args.place ∙ sym c.is_some.ensures)) ∙ ap (option_map fault_of_line) c.in-None.is);
    }
