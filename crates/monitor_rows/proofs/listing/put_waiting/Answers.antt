use Rattle.std.proofs.Common.{◌≡◌, ◌<◌, ℕ, List, [], ◌++◌, length, get_or, take, sym, ◌∙◌, ap, subst, append_assoc, if◌then◌else◌, rules}
use Rattle.std.specs.Prelude.{filter, flat_map}
use Rattle.monitor_laws.specs.Faults.{waits_now}
use Rattle.monitor_laws.specs.States.{Participant}
use Rattle.monitor_words.specs.Messages.{listed_line}
use Rattle.monitor_search.specs.Known.{has_stuck_number}
use Rattle.monitor_rows.proofs.OneMore.{more_written}
use Rattle.monitor_rows.proofs.listing.put_waiting.Goals as goal

pub loop-t-preserved : goal.loop-t-preserved
loop-t-preserved c =
    let s = c.args.state.now in
    let i = c.loop-t.t-index in
    let items = c.participants-t-items.ensures.list in
    let inside : i < length c.participants-t-items.result.now = search rules in
    let within : i < length s.list = subst (λ (l : List Participant). i < length l) items inside in
    let t : Participant = c.t-item.result in
    let is : t ≡ get_or s.list i t = c.t-item.is ∙ ap (λ (l : List Participant). get_or l i t) items in
    let line = listed_line s (has_stuck_number c.args.stuck.now) in
    let more : List ℕ = if waits_now t.condition then line t else [] in
    let before = flat_map line (filter (λ (u : Participant). waits_now u.condition) (take i s.list)) in
    c.in_ok-put_if_waiting.ensures
    ∙ ap (λ l. l ++ more) c.loop-t.invariant
    ∙ append_assoc c.args.out.now.items before more
    ∙ ap (λ l. c.args.out.now.items ++ l) (sym (more_written (λ (u : Participant). waits_now u.condition) s.list i t within is line))
