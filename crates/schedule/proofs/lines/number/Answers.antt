use Rattle.std.proofs.Common.{subst, ℕ, Ok, Err, rules}
use Rattle.std.specs.Str.Parse.{ParsesUnsigned}
use Rattle.schedule.specs.inside.Numbers.{MayBeNumber}
use Rattle.schedule.proofs.Numbers.{read_number, not_read}
use Rattle.schedule.proofs.lines.number.Goals as goal

pub returns-in-Ok-parse : goal.returns-in-Ok-parse
returns-in-Ok-parse c =
    let may : MayBeNumber c.args.bytes.now = search rules in
    let n = c.in-Ok-parse.n in
    read_number c.args.bytes.now n may (subst (λ b. ParsesUnsigned {E = ℕ} 32 10 b (Ok n)) c.in-Ok.ensures.cases.0 c.in-Ok-parse.ensures.value.0)

pub returns-in-Err-parse : goal.returns-in-Err-parse
returns-in-Err-parse c =
    let may : MayBeNumber c.args.bytes.now = search rules in
    not_read c.args.bytes.now 0 may (subst (λ b. ParsesUnsigned {E = ℕ} 32 10 b (Err 0)) c.in-Ok.ensures.cases.0 c.in-Err-parse.ensures.value.0)
