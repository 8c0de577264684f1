use Rattle.std.proofs.Common.{option_map, ◌∙◌}
use Rattle.explain_syntax.proofs.Header.{fault_within}
use Rattle.explain_syntax.proofs.RefusalLines.{lines_are}
use Rattle.explain_syntax.proofs.syntax.syntax_refusal.Goals as goal

pub rest_from-rest-requires : goal.rest_from-rest-requires
rest_from-rest-requires c = fault_within c.args.text.now c.args.fault c.requires.fault

pub put_line_and_caret-requires : goal.put_line_and_caret-requires
put_line_and_caret-requires c = fault_within c.args.text.now c.args.fault c.requires.fault

pub returns : goal.returns
returns c =
    record {
      lines = record {
        stand = c.in_ok-stand.stand;
        is_stand = c.in_ok-stand.ensures.stand;
        lines_are = c.from_vec.ensures.items ∙ lines_are (option_map (λ f. f.now) c.args.file) c.args.text.now c.args.fault c.in_ok-stand.stand
            c.args.places.now c.at.result c.rest_from-rest.result.now _ _ _ _ c.requires.places c.at.ensures.place c.rest_from-rest.ensures c.new-out.ensures.items
            c.in_ok-put_first_line.ensures c.in_ok-put_line_and_caret.ensures c.in_ok-put_notes.ensures;
      };
    }
