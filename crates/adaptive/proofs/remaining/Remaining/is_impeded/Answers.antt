use Rattle.std.proofs.Common.{◌≡◌, Bool, List, get_or, subst, sym, ap}
use Rattle.std.proofs.lemmas.List.{get_or_default}
use Rattle.armus_base.specs.declared.status.Status.{Status}
use Rattle.adaptive.specs.declared.standings.PhaseStanding.{PhaseStanding}
use Rattle.adaptive.specs.inside.Standings.{IsStandingBelow, IsFront, IsRemainingImpeder, IsStop, IsUnimpeded}
use Rattle.adaptive.proofs.Fronts.{impeded_below, told_map, unimpeded_else}
use Rattle.adaptive.proofs.remaining.Remaining.is_impeded.Goals as goal

pub returns-clause-told : goal.returns-clause-told
returns-clause-told c =
    let ss = c.args.list.now in
    let kept = c.requires.kept in
    let xs = c.args.self.now.standings.items in
    let remains = c.args.self.now.remains.items in
    let event = (get_or ss c.args.k c.index-list-k.result).event in
    let i = c.front_from-front.result in
    let front = subst (λ (ys : List PhaseStanding). IsFront ys remains event.p.0 i) c.deref-2.ensures.value
    (subst (λ (flags : List Bool). IsFront c.deref-2.result.now flags event.p.0 i) c.deref-3.ensures.value c.front_from-front.ensures.front) in
    let stop = subst (λ (ys : List PhaseStanding). IsStop ys remains event.p.0 i) c.deref-2.ensures.value
    (subst (λ (flags : List Bool). IsStop c.deref-2.result.now flags event.p.0 i) c.deref-3.ensures.value c.front_from-front.ensures.stop) in
    let same : (s : Status) → (get_or ss c.args.k s).event ≡ event =
    λ s. ap (λ v. v.event) (get_or_default ss c.args.k s c.index-list-k.result c.requires.status) in
    told_map c.is_impeded_at.result c.is_impeded_at.ensures
    (λ below. λ s.
    let found = impeded_below ss xs remains kept.are kept.ordered event i front stop (subst (λ (ys : List PhaseStanding). IsStandingBelow ys i event) c.deref-4.ensures.value below) in
    (found.0, subst (λ e. IsRemainingImpeder ss remains e found.0) (sym (same s)) found.1))
    (λ not_below. λ s.
    subst (λ e. IsUnimpeded ss remains e) (sym (same s))
    (unimpeded_else ss xs remains kept.are kept.ordered event i front stop
    (λ below. not_below (subst (λ (ys : List PhaseStanding). IsStandingBelow ys i event) (sym c.deref-4.ensures.value) below))))
