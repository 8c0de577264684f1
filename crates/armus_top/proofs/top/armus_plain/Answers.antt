use Rattle.std.proofs.Common.{◌∙◌, map, string_bytes}
use Rattle.program_io.specs.calls.ExitNumbers.{number_of_status}
use Rattle.armus_top.proofs.Answering.{ends_by_answer}
use Rattle.armus_top.proofs.Ending.{served_by}
use Rattle.armus_top.proofs.Meaning.{means_plain}
use Rattle.armus_top.proofs.Served.{call_served, fits_read}
use Rattle.armus_top.proofs.top.armus_plain.Goals as goal

pub serve-requires-clause-plain : goal.serve-requires-clause-plain
serve-requires-clause-plain g c κs within = means_plain (map string_bytes c.args.words.now) c.in-Ok.request.command c.in-Ok.ensures.means c.requires.plain

pub serve-requires-clause-fits : goal.serve-requires-clause-fits
serve-requires-clause-fits g c κs within =
    fits_read c.in-Ok.request.command _ c.in-Ok.request.input c.as_slice.result.now c.as_slice.ensures.items c.in-Ok.ensures.read

pub returns-in-Ok : goal.returns-in-Ok
returns-in-Ok g c =
    let r = c.in-Ok.request in
    record {
      served = rw c.code.ensures (served_by (call_served (map string_bytes c.args.words.now) r.command _ _ _ _ (number_of_status c.serve.result) c.in-Ok.ensures.means
          (rw (← c.in-Ok.ensures.unwritten) (ends_by_answer r.command _ _ r.input c.as_slice.result.now _ c.as_slice.ensures.items c.in-Ok.ensures.read
          c.serve.ensures.done)) c.in-Ok.ensures.same (λ four. absurd (c.serve.ensures.silent four))
          (λ off six. c.serve.ensures.unwritten off six ∙ c.in-Ok.ensures.unwritten)));
    }

pub returns-in-Err : goal.returns-in-Err
returns-in-Err g c = record { served = rw c.code-in-Err.ensures (served_by c.in-Err.ensures.ends) }
