use Rattle.std.proofs.Common.{◌++◌, ap, sym, ◌∙◌, codes}
use Rattle.std.proofs.lemmas.Result.{on_ok_weaker}
use Rattle.explain_check.specs.MatterNotes.{note_line, matter_note}
use Rattle.explain_check.proofs.note.put_note.Goals as goal

pub returns-in-HasLeft : goal.returns-in-HasLeft
returns-in-HasLeft c =
    let st = c.args.statements.now in
    let out = c.args.out.now.items in
    on_ok_weaker c.put_line_at.result
    (λ e. e ∙ (ap (λ p. out ++ note_line st.places (codes "it left at ") p) c.place-at-in-HasLeft.ensures
    ∙ ap (λ m. out ++ matter_note st.places st.offsets st.end c.args.forked_by m) (sym c.in-HasLeft.is)))
    c.put_line_at.ensures

pub returns-in-NeverMember : goal.returns-in-NeverMember
returns-in-NeverMember c =
    let st = c.args.statements.now in
    let out = c.args.out.now.items in
    on_ok_weaker c.put_line_at-in-NeverMember.result
    (λ e. e ∙ (ap (λ p. out ++ note_line st.places (codes "it was not registered before its fork at ") p) c.place-at-in-NeverMember.ensures
    ∙ ap (λ m. out ++ matter_note st.places st.offsets st.end c.args.forked_by m) (sym c.in-NeverMember.is)))
    c.put_line_at-in-NeverMember.ensures

pub returns-in-AlreadyMember : goal.returns-in-AlreadyMember
returns-in-AlreadyMember c =
    let st = c.args.statements.now in
    let out = c.args.out.now.items in
    on_ok_weaker c.put_line_at-in-AlreadyMember.result
    (λ e. e ∙ (ap (λ p. out ++ note_line st.places (codes "it was registered at ") p) c.place-at-in-AlreadyMember.ensures
    ∙ ap (λ m. out ++ matter_note st.places st.offsets st.end c.args.forked_by m) (sym c.in-AlreadyMember.is)))
    c.put_line_at-in-AlreadyMember.ensures

pub returns-in-AlreadyForked : goal.returns-in-AlreadyForked
returns-in-AlreadyForked c =
    let st = c.args.statements.now in
    let out = c.args.out.now.items in
    on_ok_weaker c.put_line_at-in-AlreadyForked.result
    (λ e. e ∙ (ap (λ p. out ++ note_line st.places (codes "it was forked at ") p) c.place-at-in-AlreadyForked.ensures
    ∙ ap (λ m. out ++ matter_note st.places st.offsets st.end c.args.forked_by m) (sym c.in-AlreadyForked.is)))
    c.put_line_at-in-AlreadyForked.ensures
