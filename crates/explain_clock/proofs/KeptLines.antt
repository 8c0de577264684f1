-- Lines that are kept for an event.
use Rattle.std.proofs.Common.{◌≡◌, ◌∙◌, ℕ, ◌<◌, true, List, [], ◌∷◌, ◌++◌, ap, get_or, length, subst, sym}
use borrow.Author.Tests.{eqb-true}
use Rattle.std.specs.Prelude.{◌&&◌, ◌==◌}
use Rattle.std.proofs.lemmas.Bool.{and_parts}
use Rattle.std.proofs.lemmas.List.Elements.{All-push}
use Rattle.armus_base.specs.declared.event.Event.{Event}
use Rattle.armus_base.specs.States.{event_at}
use Rattle.explain_clock.specs.ClockFacts.{ClockFacts}
use Rattle.explain_clock.specs.ClockKeepers.{keeper_lines}
use Rattle.explain_clock.specs.declared.kept_lines.Kept.{Kept}
use Rattle.explain_clock.specs.inside.KeptLines.{AreKept}

pub one_event : (a b : Event) → (a.p.0 == b.p.0 && a.n == b.n) ≡ true → a ≡ b
one_event a b e =
    let parts = and_parts (a.p.0 == b.p.0) (a.n == b.n) e in
    let p : a.p.0 ≡ b.p.0 = eqb-true a.p.0 b.p.0 parts.0 in
    let n : a.n ≡ b.n = eqb-true a.n b.n parts.1 in
    let whole : event_at a.p.0 a.n ≡ event_at b.p.0 b.n = cc in
    whole

-- what is kept at a place, for this event
pub kept_there :
    (f : ClockFacts) (kept : List Kept) (i : ℕ) (k : Kept) (e : Event) → AreKept f kept → i < length kept → k ≡ get_or kept i k →
    (k.event.p.0 == e.p.0 && k.event.n == e.n) ≡ true → k.lines.items ≡ keeper_lines f e
kept_there f kept i k e are lt is same =
    ap (λ (x : Kept). x.lines.items) is ∙ are i k lt ∙ ap (λ (x : Kept). keeper_lines f x.event) (sym is) ∙ ap (keeper_lines f) (one_event k.event e same)

-- and of one event more
pub kept_more : (f : ClockFacts) (old new : List Kept) (k : Kept) → AreKept f old → new ≡ old ++ k ∷ [] → k.lines.items ≡ keeper_lines f k.event → AreKept f new
kept_more f old new k are pushed is = subst (AreKept f) (sym pushed) (All-push (λ (x : Kept). x.lines.items ≡ keeper_lines f x.event) old k are is)
