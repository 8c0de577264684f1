use Rattle.std.proofs.Common.{refl}
use Rattle.explain.specs.calls.Requested.{form_named}
use Rattle.explain.proofs.CallEnds.{call_answered}
use Rattle.explain.proofs.top.explain_source.Goals as goal

pub returns-in-Ok : goal.returns-in-Ok
returns-in-Ok g c = record {
  call = call_answered _ _ _ _ c.args.wanted (form_named c.args.file c.args.extent) (form_named c.args.file c.args.extent) c.in-Ok.answer c.as_slice.result.now _ refl
      c.in-Ok.ensures.answers c.as_slice.ensures.items c.finish.ensures.done;
}
