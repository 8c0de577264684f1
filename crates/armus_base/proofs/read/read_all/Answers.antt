use Rattle.std.proofs.Common.{◌+◌, ◌++◌, arith, take, length-append}
use Rattle.std.proofs.lemmas.List.{length-take}
use Rattle.std.proofs.KnownBytes.{Consumes-trans}
use Rattle.armus_base.proofs.read.read_all.Goals as goal

pub returns-then-is_err-clause-bytes : goal.returns-then-is_err-clause-bytes
returns-then-is_err-clause-bytes g c =
    let bytes = c.loop-piece.bytes.items in
    let some = take c.in-Ok.count c.read.new.buf in (
      bytes ++ some,
      Consumes-trans _ _ _ _ _ c.loop-piece.invariant.1 c.in-Ok.ensures.bytes.0,
      simp length-append (omega (
        arith,
        c.loop-piece.bytes.ok.0,
        c.in-Ok.ensures.bound.1,
        c.in-Ok.ensures.bound.0,
        c.read.auto.buf,
        c.min-most.ensures,
        length-take (c.min-most.result + 1) c.loop-piece.piece,
      )),
    )
