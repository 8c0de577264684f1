use Rattle.std.proofs.Common.{◌≡◌, ◌++◌, [], ◌∷◌, subst, sym, append_assoc, append-nil, length, rules, List}
use Rattle.schedule.specs.Lines.{IsCut, a_line, AllSay, none}
use Rattle.schedule.specs.declared.lines.Line.{Line}
use Rattle.schedule.proofs.Cuts.{say_more, cut_at_end}
use Rattle.schedule.proofs.lines.read_lines.Goals as goal

pub loop-rest-init : goal.loop-rest-init
loop-rest-init c = ([], subst (AllSay []) (sym c.in_ok-lines.ensures.items) none, λ more cut. cut)

pub loop-rest-preserved : goal.loop-rest-preserved
loop-rest-preserved c =
    let (done, says, cuts) = c.loop-rest.invariant in
    let line = c.first_line.result.0.now in
    let rest = c.first_line.result.1.now in (
      done ++ line ∷ [],
      subst (AllSay (done ++ line ∷ [])) (sym {A = List Line} c.in_ok-push.ensures.items) (say_more done c.loop-rest.lines.items line c.line_of.result says c.line_of.ensures),
      λ more cut. subst (IsCut c.args.bytes.now) (sym (append_assoc done (line ∷ []) more))
          (cuts (line ∷ more) (a_line c.loop-rest.rest.now line rest more c.first_line.ensures.cut cut)),
    )

pub returns : goal.returns
returns c =
    let (done, says, cuts) = c.loop-rest.invariant in
    let ended : length c.loop-rest.rest.now ≡ 0 = search rules in
    record {
      lines = record {
        texts = done;
        cut = subst (IsCut c.args.bytes.now) (append-nil done) (cuts [] (cut_at_end c.loop-rest.rest.now ended));
        say = subst (AllSay done) (sym c.from_vec.ensures.items) says;
      };
    }
