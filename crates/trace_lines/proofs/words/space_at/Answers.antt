use Rattle.std.proofs.Common.{◌≡◌, ◌<◌, ℕ, false, length, get_or, sym, arith, rules}
use Rattle.std.proofs.lemmas.Bool.{eq-eqb}
use Rattle.std.proofs.lemmas.List.Sums.{position_or_len_is}
use Rattle.trace_lines.specs.inside.Reading.{is_space}
use Rattle.trace_lines.proofs.words.space_at.Goals as goal

pub returns-then-byte-eq32-clause-at : goal.returns-then-byte-eq32-clause-at
returns-then-byte-eq32-clause-at c =
    let bytes = c.args.bytes.now in
    let here : get_or bytes c.loop-at.at 0 ≡ 32 = search rules in
    sym (position_or_len_is is_space bytes c.loop-at.at 0 (search rules) c.loop-at.invariant (λ within. eq-eqb (get_or bytes c.loop-at.at 0) 32 here))

pub returns-clause-at : goal.returns-clause-at
returns-clause-at c =
    let bytes = c.args.bytes.now in
    let at_end : c.loop-at.at ≡ length bytes = search rules in
    let none : (k : ℕ) → k < length bytes → is_space (get_or bytes k 0) ≡ false = (λ k within. c.loop-at.invariant k (omega arith)) in
    sym (position_or_len_is is_space bytes (length bytes) 0 (omega arith) none (λ within. absurd (omega arith)))
