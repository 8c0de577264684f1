use Rattle.std.proofs.Common.{inl, inr, refl}
use Rattle.explain.specs.Requests.{asked, help, nothing, version}
use Rattle.explain.proofs.CallEnds.{call_told}
use Rattle.explain.proofs.top.explain.Goals as goal

pub returns-in-Help : goal.returns-in-Help
returns-in-Help g c = record {
  call = rw c.code-in-Help.ensures
      (call_told _ _ _ _ help (asked c.args.words.now) c.as_bytes.result.now 0 _ c.in-Help.ensures.asked (refl, c.as_bytes.ensures.value) refl
      (inl refl) refl c.finish.ensures.done);
}

pub returns-in-Version : goal.returns-in-Version
returns-in-Version g c = record {
  call = rw c.code-in-Version.ensures
      (call_told _ _ _ _ version (asked c.args.words.now) c.as_bytes-in-Version.result.now 0 _ c.in-Version.ensures.asked
      (refl, c.as_bytes-in-Version.ensures.value) refl (inl refl) refl c.finish-in-Version.ensures.done);
}

pub returns-in-Usage : goal.returns-in-Usage
returns-in-Usage g c = record {
  call = rw c.code-in-Usage.ensures
      (call_told _ _ _ _ nothing (asked c.args.words.now) c.as_bytes-in-Usage.result.now 2 _ c.in-Usage.ensures.asked
      (refl, c.as_bytes-in-Usage.ensures.value) refl (inr refl) refl c.finish-in-Usage.ensures.done);
}
