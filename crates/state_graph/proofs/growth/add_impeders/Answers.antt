use Rattle.std.proofs.Common.{◌≡◌, ◌≤◌, arith, length, sym, ap, ◌∙◌, refl, subst, get_or, inl, inr}
use Rattle.std.proofs.lemmas.Bool.{cases_eq}
use Rattle.dep_state.specs.calls.Deps.{impeders_of}
use Rattle.state_graph.specs.inside.Growing.{IsPassing}
use Rattle.state_graph.proofs.growth.add_impeders.Goals as goal

pub loop-at-init : goal.loop-at-init
loop-at-init c =
    record {
      nodes = refl;
      below = λ m from lt. absurd (omega arith);
      edges = λ i j. (λ h. inl h, λ h. elim h [ inl l ↦ l | inr r ↦ absurd (let (e, (m, from, lt, is)) = r in omega arith) ]);
    }

pub loop-at-preserved : goal.loop-at-preserved
loop-at-preserved c =
    let inv = c.loop-at.invariant in
    let added = c.in_ok-add.ensures.edges in
    let row = c.impeders_at-row.ensures.impeders in
    let at = c.awaits_at.ensures.event ∙ ap (λ v. get_or c.args.deps.now.awaits (get_or v c.loop-at.at 0) 0) row in
    record {
      nodes = added.nodes ∙ inv.nodes;
      below = λ m from lt. elim (cases_eq m c.loop-at.at) [
        | inl e ↦ (let g = ap (λ v. get_or c.impeders_at-row.result.now v 0) e in let f = c.if-row-at.false in omega arith)
        | inr ne ↦ inv.below m from (omega arith)
      ];
      edges = λ i j. (
        λ h. elim ((added.edges i j).0 h) [
          | inl l ↦ elim ((inv.edges i j).0 l) [
            | inl old ↦ inl old
            | inr r ↦ let (e, (m, from, lt, is)) = r in inr (e, (m, from, omega arith, is))
          ]
          | inr r ↦ inr (r.0, (c.loop-at.at, c.loop-at.auto.at, omega arith, r.1 ∙ at))
        ],
        λ h. (added.edges i j).1 (elim h [
          | inl old ↦ inl ((inv.edges i j).1 (inl old))
          | inr r ↦
              let (e, (m, from, lt, is)) = r in
              elim (cases_eq m c.loop-at.at) [
                | inl same ↦ inr (e, is ∙ ap (λ v. get_or c.args.deps.now.awaits (get_or (impeders_of c.args.deps.now c.args.event) v 0) 0) same ∙ sym at)
                | inr ne ↦ inl ((inv.edges i j).1 (inr (e, (m, from, omega arith, is))))
              ]
        ]),
      );
    }

pub returns-then-row-at-clause-place : goal.returns-then-row-at-clause-place
returns-then-row-at-clause-place c =
    subst (λ row. IsPassing row c.args.k c.args.from c.loop-at.at) c.impeders_at-row.ensures.impeders (record {
      onward = c.loop-at.auto.at;
      within = let lt = c.loop-at-test.true in omega arith;
      below = c.loop-at.invariant.below;
      after = λ lt. c.if-row-at.true;
    })

pub returns-then-row-at-clause-edges : goal.returns-then-row-at-clause-edges
returns-then-row-at-clause-edges c = c.loop-at.invariant.edges

pub returns-clause-place : goal.returns-clause-place
returns-clause-place c =
    let from : c.args.from ≤ length c.impeders_at-row.result.now = omega (arith, c.requires.from, ap length c.impeders_at-row.ensures.impeders) in
    let end = c.loop-at.auto.at-end from in
    let past = c.loop-at-test.false in
    subst (λ row. IsPassing row c.args.k c.args.from (length c.impeders_at-row.result.now)) c.impeders_at-row.ensures.impeders (record {
      onward = from;
      within = omega arith;
      below = λ m f lt. c.loop-at.invariant.below m f (omega arith);
      after = λ lt. absurd (omega arith);
    })

pub returns-clause-edges : goal.returns-clause-edges
returns-clause-edges c =
    let from : c.args.from ≤ length c.impeders_at-row.result.now = omega (arith, c.requires.from, ap length c.impeders_at-row.ensures.impeders) in
    let end = c.loop-at.auto.at-end from in
    let past = c.loop-at-test.false in
    let all : c.loop-at.at ≡ length c.impeders_at-row.result.now = omega arith in
    rw all at c.loop-at.invariant.edges
