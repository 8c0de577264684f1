use Rattle.std.proofs.Common.{◌≡◌, ℕ, ◌-◌, ◌<◌, List, arith, ap, get_or, inl, inr}
use Rattle.std.proofs.lemmas.Bool.{cases_eq}
use Rattle.std.proofs.lemmas.List.{get_or_default}
use Rattle.armus_base.specs.declared.status.Member.{Member}
use Rattle.dep_state.proofs.order.is_ascending.Goals as goal

pub loop-k-preserved : goal.loop-k-preserved
loop-k-preserved c i j d below lt =
    let xs : List Member = c.args.phases.now in
    let k : ℕ = c.loop-k.k in
    let o : Member = record { p = record { 0 = 0 }; n = 0 } in
    let a : (get_or xs (k - 1) o).p.0 ≡ (get_or xs (k - 1) d).p.0 = ap (λ m. m.p.0) (get_or_default xs (k - 1) o d (omega arith)) in
    let b : (get_or xs k o).p.0 ≡ (get_or xs k d).p.0 = ap (λ m. m.p.0) (get_or_default xs k o d (omega arith)) in
    let step : (get_or xs (k - 1) d).p.0 < (get_or xs k d).p.0 = omega (arith, a, b, c.if-phases-k.false) in
    elim (cases_eq j k) [
      | inl same ↦
          let at : (get_or xs j d).p.0 ≡ (get_or xs k d).p.0 = ap (λ x. (get_or xs x d).p.0) same in
          elim (cases_eq i (k - 1)) [
            | inl e ↦ let from : (get_or xs i d).p.0 ≡ (get_or xs (k - 1) d).p.0 = ap (λ x. (get_or xs x d).p.0) e in omega (arith, at, from, step)
            | inr ne ↦ omega (arith, at, c.loop-k.invariant i (k - 1) d (omega arith) (omega arith), step)
          ]
      | inr ne ↦ c.loop-k.invariant i j d below (omega arith)
    ]
