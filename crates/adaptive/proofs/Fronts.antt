-- What the front of a phaser says: whether a task whose status remains impedes an event.
use Rattle.std.proofs.Common.{◌≡◌, ℕ, ◌-◌, ◌<◌, Bool, true, false, List, length, sym, ap, ◌∙◌, subst, inl, inr, arith, get_or}
use Rattle.std.specs.Prelude.{Contains, MatchBool}
use Rattle.std.proofs.lemmas.Bool.{cases_Bool, cases_lt}
use Rattle.std.proofs.lemmas.List.{get_or_default}
use Rattle.armus_base.specs.declared.event.Event.{Event}
use Rattle.armus_base.specs.declared.ids.PhaserId.{PhaserId}
use Rattle.armus_base.specs.declared.status.Status.{Status}
use Rattle.adaptive.specs.declared.standings.PhaseStanding.{PhaseStanding}
use Rattle.adaptive.specs.inside.Standings.{AreStandingsOf, IsStandingBelow, IsFirstOnPhaser, IsFront, IsRemainingImpeder, IsStop, IsUnimpeded, StandingsNeverFall, remains_at}

-- a standing as its parts
standing : ℕ → ℕ → ℕ → PhaseStanding
standing k p n = record { at = record { p = record { 0 = p }; n = n }; status = k }

phaser_of : ℕ → PhaserId
phaser_of q = record { 0 = q }

phaser_is : (p q : PhaserId) → p.0 ≡ q.0 → p ≡ q
unfolding phaser_of
phaser_is p q e = ap phaser_of e

module _ (ss : List Status) (xs : List PhaseStanding) (remains : List Bool) (are : AreStandingsOf ss xs) (ordered : StandingsNeverFall xs) (e : Event) (i : ℕ)
    (front : IsFront xs remains e.p.0 i) (stop : IsStop xs remains e.p.0 i) where
  pub impeded_below : IsStandingBelow xs i e → (j : ℕ) × IsRemainingImpeder ss remains e j
  unfolding standing
  impeded_below below =
      let d = standing 0 0 0 in
      let x = get_or xs i d in
      let there = below.1 d in
      let p : x.at.p.0 ≡ e.p.0 = ap (λ q. q.0) there.0 in
      let listed : Contains xs (standing x.status e.p.0 x.at.n) =
      subst (λ q. Contains xs (standing x.status q x.at.n)) p (i, below.0, get_or_default xs i (standing x.status x.at.p.0 x.at.n) d below.0) in (
        x.status,
        (
          x.at.n,
          (are.exact x.status e.p.0 x.at.n).0 listed,
          there.1,
          elim (cases_Bool (remains_at remains x.status)) [ inl yes_it ↦ yes_it | inr no_it ↦ absurd (stop d below.0 (inr (p, no_it))) ],
        ),
      )

  pub unimpeded_else : (IsStandingBelow xs i e → ⊥) → IsUnimpeded ss remains e
  unfolding standing
  unimpeded_else not_below k n stands low =
      let listed = (are.exact k e.p.0 n).1 stands in
      let here = standing k e.p.0 n in
      let j = listed.0 in
      let at = listed.2 in
      elim (cases_lt j i) [
        | inl ahead ↦
            ap (λ x. remains_at remains x.status) (sym at)
            ∙ front j here ahead listed.1 (ap (λ x. x.at.p.0) at)
        | inr from ↦ absurd (
            let inside : i < length xs = (let l = listed.1 in omega arith) in
            let y = get_or xs i here in
            let earlier = ordered i j here from listed.1 in
            elim earlier [
              | inl before ↦ stop here inside (inl (let q = ap (λ x. x.at.p.0) at in omega (arith, before, q)))
              | inr same ↦
                  let p : y.at.p.0 ≡ e.p.0 = same.0 ∙ ap (λ x. x.at.p.0) at in
                  let m : y.at.n < e.n = (let q = ap (λ x. x.at.n) at in omega (arith, same.1, q)) in
                  not_below (
                    inside,
                    λ d. let other = get_or_default xs i d here inside in
                        (ap (λ x. x.at.p) other ∙ phaser_is y.at.p e.p p, subst (λ x. x.at.n < e.n) (sym other) m),
                  )
            ])
      ]

-- an answer to one question is one to another that it decides
pub told_map : {A B C D : Type 0} (b : Bool) → MatchBool b A B → (A → C) → (B → D) → MatchBool b C D
told_map true h f g = f h
told_map false h f g = g h

-- the first standing on a phaser has none on it ahead
pub first_is_front : (xs : List PhaseStanding) (remains : List Bool) (i : ℕ) (d : PhaseStanding) → StandingsNeverFall xs → i < length xs → IsFirstOnPhaser xs i →
    IsFront xs remains (get_or xs i d).at.p.0 i
first_is_front xs remains i d ordered inside first j e ahead within on =
    elim (first d) [
      | inl zero_is ↦ absurd (omega arith)
      | inr earlier ↦ absurd (
          let here : (get_or xs j d).at.p.0 ≡ (get_or xs i d).at.p.0 = ap (λ x. x.at.p.0) (get_or_default xs j d e within) ∙ on in
          elim (ordered j (i - 1) d (omega arith) (omega arith)) [ inl a ↦ omega (arith, a, earlier, here) | inr b ↦ omega (arith, b.0, earlier, here) ])
    ]
