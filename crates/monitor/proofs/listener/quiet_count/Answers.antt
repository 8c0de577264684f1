use Rattle.std.proofs.Common.{rules, ◌≡◌, ◌<◌, false, [], ◌∷◌, length, get_or, take, sym, subst, arith}
use Rattle.std.specs.Prelude.{◌==◌}
use Rattle.std.proofs.lemmas.Bool.{ne_eqb}
use Rattle.std.proofs.lemmas.List.{take_more}
use Rattle.monitor.specs.HeardLines.{has_line_end}
use Rattle.monitor.proofs.Bytes.{no_end_alone, no_end_more}
use Rattle.monitor.proofs.listener.quiet_count.Goals as goal

pub loop-count-preserved : goal.loop-count-preserved
loop-count-preserved c =
    let bytes = c.args.bytes.now in
    let i = c.loop-count.count in
    let within : i < length bytes = search rules in
    let few = c.loop-count.invariant.0 in
    let room : i ≡ c.args.room → ⊥ = search rules in
    let other : (get_or bytes i 0 == 10) ≡ false = ne_eqb (get_or bytes i 0) 10 (search rules) in (
      omega arith,
      subst (λ l. has_line_end l ≡ false) (sym (take_more bytes i 0 within)) (no_end_more (take i bytes) (get_or bytes i 0 ∷ []) c.loop-count.invariant.1 (no_end_alone (get_or bytes i 0) other)),
    )

pub returns-clause-quiet : goal.returns-clause-quiet
returns-clause-quiet c =
    let at_end : c.loop-count.count ≡ length c.args.bytes.now = search rules in
    subst (λ k. has_line_end (take k c.args.bytes.now) ≡ false) at_end c.loop-count.invariant.1
