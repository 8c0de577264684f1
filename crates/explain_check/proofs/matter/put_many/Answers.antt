use Rattle.std.proofs.Common.{◌≡◌, ◌++◌, append_assoc, ap, ◌∙◌, codes, decimal, string_bytes}
use Rattle.explain_check.proofs.matter.put_many.Goals as goal

pub returns : goal.returns
returns c =
    let text : string_bytes c.in_ok-text.text ≡ decimal c.args.tasks ++ codes " tasks and " ++ decimal c.args.phasers ++ codes " phasers would be there" =
    simp append_assoc c.in_ok-text.ensures.ok in
    c.in_ok-extend_from_slice.ensures.items ∙ ap (λ b. c.args.out.now.items ++ b) (c.as_bytes.ensures.value ∙ text)
