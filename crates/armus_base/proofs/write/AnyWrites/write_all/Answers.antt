use Rattle.std.proofs.Common.{◌≡◌, ◌-◌, ◌≤◌, length, arith, take, drop, ap, sym, subst, length-drop}
use Rattle.std.proofs.lemmas.List.{take_rest}
use Rattle.std.specs.Io.KnownBytes.{Appends}
use Rattle.std.proofs.KnownBytes.{Appends-trans}
use lib.Seq.{take-add}
use Rattle.armus_base.proofs.write.AnyWrites.write_all.Goals as goal

pub loop-at-preserved : goal.loop-at-preserved
loop-at-preserved g c =
    let text = c.args.text.now in
    let at = c.loop-at.at in
    let rest : take (length text - at) (drop at text) ≡ drop at text = take_rest text at in
    let within : c.in-Ok.count ≤ length (drop at text) = rw rest at c.in-Ok.ensures.bound.0 in
    let bytes = rw rest at c.in-Ok.ensures.bytes in (
      omega (arith, within, length-drop at text),
      subst (Appends _ _) (sym (take-add at c.in-Ok.count text)) (Appends-trans _ _ _ _ _ c.loop-at.invariant.1 bytes),
      omega (arith, c.loop-at.invariant.2, c.in-Ok.ensures.cause.fine),
      λ e. let none : length text ≡ 0 = ap length e in absurd (omega arith),
    )
