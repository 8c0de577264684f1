use Rattle.std.proofs.Common.{◌++◌, option_map, ap, ◌∙◌}
use Rattle.explain_syntax.specs.CaretLines.{caret_lines}
use Rattle.explain_check.specs.Whereabouts.{whereabouts}
use Rattle.explain_check.proofs.Offsets.{offset_within}
use Rattle.explain_check.proofs.RefusalLines.{lines_are}
use Rattle.explain_check.proofs.check.check_refusal.Goals as goal

pub returns : goal.returns
returns c =
    let text = c.args.text.now in
    let st = c.args.statements.now in
    let scene = c.args.scene.now in
    record {
      lines = record {
        reads = c.requires.reads;
        scene = scene;
        is_scene = c.requires.scene;
        offsets = st.offsets;
        are_offsets = c.requires.offsets;
        lines_are = c.from_vec.ensures.items
            ∙ lines_are (option_map (λ f. f.now) c.args.file) text st.offsets scene st.places st.end c.requires.places c.requires.end c.place.result c.offset-at.result
            _ _ _ _ _ c.place.ensures c.offset-at.ensures (offset_within text c.args.program.now st.offsets c.requires.offsets scene.fault.statement)
            c.new-out.ensures.items c.in_ok-put_first_line.ensures
            (c.in_ok-put_line_and_caret.ensures ∙ ap (λ k. c.put_first_line.new.out.items ++ caret_lines text k) c.min.ensures)
            (c.in_ok-put_whereabouts.ensures
            ∙ ap (λ ts. c.put_line_and_caret.new.out.items ++ whereabouts st.places st.offsets st.end scene.task scene.forked ts) c.as_slice.ensures.items)
            c.in_ok-put_note.ensures;
      };
    }
