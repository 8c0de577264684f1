use Rattle.std.proofs.Common.{◌∙◌, map, string_bytes}
use Rattle.std.specs.Prelude.{Some}
use Rattle.program_io.specs.calls.Passages.{passage}
use Rattle.program_io.specs.calls.ExitNumbers.{number_of_status}
use Rattle.armus_top.proofs.Answering.{ends_by_answer}
use Rattle.armus_top.proofs.Ending.{served_by}
use Rattle.armus_top.proofs.Meaning.{means_waiting, serves_by}
use Rattle.armus_top.proofs.RecordsReplay.{writes_replayable}
use Rattle.armus_top.proofs.Served.{call_served, fits_read}
use Rattle.armus_top.proofs.top.armus_journal.Goals as goal

pub serve_waiting-requires-clause-waiting : goal.serve_waiting-requires-clause-waiting
serve_waiting-requires-clause-waiting g c κs within = means_waiting (map string_bytes c.args.words.now) c.in-Ok.request.command c.in-Ok.ensures.means c.requires.waiting

pub serve_waiting-requires-clause-fits : goal.serve_waiting-requires-clause-fits
serve_waiting-requires-clause-fits g c κs within =
    fits_read c.in-Ok.request.command _ c.in-Ok.request.input c.as_slice.result.now c.as_slice.ensures.items c.in-Ok.ensures.read

pub returns-in-Ok-clause-served : goal.returns-in-Ok-clause-served
returns-in-Ok-clause-served g c =
    let r = c.in-Ok.request in
    rw c.code.ensures (served_by (call_served (map string_bytes c.args.words.now) r.command _ _ _ _ (number_of_status c.serve_waiting.result) c.in-Ok.ensures.means
    (rw (← c.in-Ok.ensures.unwritten) (ends_by_answer r.command _ _ r.input c.as_slice.result.now _ c.as_slice.ensures.items c.in-Ok.ensures.read
    c.serve_waiting.ensures.done)) c.in-Ok.ensures.same (λ four. absurd (c.serve_waiting.ensures.silent four))
    (λ off six. c.serve_waiting.ensures.unwritten six ∙ c.in-Ok.ensures.unwritten)))

pub returns-in-Ok-clause-replays : goal.returns-in-Ok-clause-replays
returns-in-Ok-clause-replays g c =
    let r = c.in-Ok.request in
    let words = map string_bytes c.args.words.now in
    rw c.code.ensures (writes_replayable words (passage g.S.Source.left g.S.Source.faults c.args.src.now c.request_of.new.src)
    (passage g.K.Sink.taken g.K.Sink.faults c.args.out.now c.serve_waiting.new.out) (number_of_status c.serve_waiting.result)
    (serves_by words _ _ (number_of_status c.serve_waiting.result) (Some r.command) c.in-Ok.ensures.means
    (rw (← c.in-Ok.ensures.unwritten) (ends_by_answer r.command _ _ r.input c.as_slice.result.now _ c.as_slice.ensures.items c.in-Ok.ensures.read
    c.serve_waiting.ensures.done))))

pub returns-in-Err-clause-served : goal.returns-in-Err-clause-served
returns-in-Err-clause-served g c = rw c.code-in-Err.ensures (served_by c.in-Err.ensures.ends)

pub returns-in-Err-clause-replays : goal.returns-in-Err-clause-replays
returns-in-Err-clause-replays g c = rw c.code-in-Err.ensures (writes_replayable _ _ _ _ c.in-Err.ensures.ends.serves)
