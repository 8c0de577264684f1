use Rattle.std.proofs.Common.{◌≡◌, sym, ◌∙◌, ap, true, false}
use Rattle.monitor_words.specs.Stops.{lone_task}
use Rattle.monitor_state.specs.Values.{condition_value}
use Rattle.monitor_reasons.specs.inside.Listings.{is_one_word}
use Rattle.monitor_reasons.proofs.LoneTasks.{lone_of_one, lone_of_more}
use Rattle.monitor_reasons.proofs.stopping.lone_task.Goals as goal

pub returns-then-is_one_name : goal.returns-then-is_one_name
returns-then-is_one_name c =
    let one : is_one_word c.in-OneOf.names.items ≡ true = ap is_one_word (sym c.deref.ensures.value) ∙ sym c.is_one_name.ensures ∙ c.if-is_one_name.true in
    c.deref-then-is_one_name.ensures.value
    ∙ sym (lone_of_one c.in-OneOf.names.items c.in-OneOf.tasks.items one)
    ∙ ap (λ x. lone_task (condition_value x)) (sym c.in-OneOf.is)

pub returns-else-is_one_name : goal.returns-else-is_one_name
returns-else-is_one_name c =
    let more : is_one_word c.in-OneOf.names.items ≡ false = ap is_one_word (sym c.deref.ensures.value) ∙ sym c.is_one_name.ensures ∙ c.if-is_one_name.false in
    sym (lone_of_more c.in-OneOf.names.items c.in-OneOf.tasks.items more)
    ∙ ap (λ x. lone_task (condition_value x)) (sym c.in-OneOf.is)
