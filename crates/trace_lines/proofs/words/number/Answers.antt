use Rattle.std.proofs.Common.{◌≡◌, ℕ, true, Err, subst, rules}
use Rattle.std.specs.Str.Parse.{ParsesUnsigned}
use Rattle.trace_lines.specs.inside.Reading.{may_be_number}
use Rattle.trace_lines.proofs.Numbers.{not_parsed, not_text}
use Rattle.trace_lines.proofs.words.number.Goals as goal

pub returns-in-Err-parse : goal.returns-in-Err-parse
returns-in-Err-parse c =
    let may : may_be_number c.args.word.now ≡ true = search rules in
    not_parsed c.args.word.now 0 may (subst (λ b. ParsesUnsigned {E = ℕ} 32 10 b (Err 0)) c.in-Ok.ensures.cases.0 c.in-Err-parse.ensures.value.0)

pub returns-in-Err : goal.returns-in-Err
returns-in-Err c =
    let may : may_be_number c.args.word.now ≡ true = search rules in
    not_text c.args.word.now may c.in-Err.ensures.cases.0
