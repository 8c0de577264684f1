-- The visits of a task by its fork are those by its start.
use Rattle.std.proofs.Common.{◌≡◌, ◌⊎◌, ℕ, Bool, suc, ◌+◌, ◌-◌, ◌<◌, ◌≤◌, Option, Some, None, List, [], ◌∷◌, ◌++◌, length, refl, sym, ap, ◌∙◌, arith, inl, inr}
use Rattle.std.specs.Prelude.{slice_index_or}
use Rattle.std.specs.List.{flat_map}
use Rattle.std.proofs.lemmas.Bool.{cases_lt}
use Rattle.std.proofs.lemmas.List.{get_or-map, get_or_past, length-map}
use Rattle.std.proofs.lemmas.List.Folds.{flat_map-map}
use Rattle.pl_syntax.specs.declared.tree.Program.{Program}
use Rattle.pl_syntax.specs.Tree.{Tree}
use Rattle.pl_plan.specs.Forks.{fork_of, fork_statements, starts_of}
use Rattle.pl_plan.specs.Unfolding.{Coming, Start, visits_of}
use Rattle.source_map.specs.calls.Origins.{last_statement}
use Rattle.source_map.specs.Origins.{last_or, start_of, statements_of_all, statements_where, visits_by}
use Rattle.source_map.specs.Turns.{turned_by, turned_visits}
use Rattle.source_map.specs.inside.Tables.{forked_body, visits_at, visits_by_fork}
use Rattle.source_map.proofs.BodiesStand.{StandsAt, start_stands}
use Rattle.source_map.proofs.ForkBodies.{numbers_of}

module _ (program : Program) where
  -- a start that stands
  visits_same : (o : Option Start) → StandsAt program.body o → visits_by_fork program (fork_of o) ≡ visits_by o
  visits_same None h = refl
  visits_same (Some start) h =
      ap (λ z. visits_at (start.first - 1 + 1) z) h.1
      ∙ ap (λ n. visits_of n start.body) (let z : start.first - 1 + 1 ≡ start.first = omega (arith, h.0.numbered) in z)

  end_same : (o : Option Start) (f : ℕ) → Some f ≡ fork_of o → last_statement o ≡ Some (last_or f (numbers_of (visits_by o)))
  end_same None f e = absurd (cc)
  end_same (Some start) f e = ap (λ m. Some (last_or m (numbers_of (visits_of start.first start.body)))) (let z : start.first - 1 ≡ f = cc in z)

  body_same : (o : Option Start) (f : ℕ) → StandsAt program.body o → Some f ≡ fork_of o → forked_body program.body f ≡ None → ⊥
  body_same None f h e none = cc
  body_same (Some start) f h e none =
      let z : f ≡ start.first - 1 = cc in
      let there : forked_body program.body f ≡ Some start.body = ap (forked_body program.body) z ∙ h.1 in
      cc

  turned_same :
      (o : Option Start) (f : ℕ) (b : Tree) → StandsAt program.body o → Some f ≡ fork_of o → forked_body program.body f ≡ Some b → turned_by o ≡ turned_visits (f + 1) b
  turned_same None f b h e there = absurd (cc)
  turned_same (Some start) f b h e there =
      let z : f ≡ start.first - 1 = cc in
      let n : f + 1 ≡ start.first = omega (arith, z, h.0.numbered) in
      let same : Some start.body ≡ Some b = sym (ap (forked_body program.body) z ∙ h.1) ∙ there in
      let is : start.body ≡ b = cc in
      ap (λ m. turned_visits m start.body) (sym n) ∙ ap (turned_visits (f + 1)) is

  pub fork_by_start : (t : ℕ) → slice_index_or (fork_statements program) t None ≡ fork_of (start_of program t)
  fork_by_start t = by (cases_lt t (length (starts_of program)))
    where
      by : (t < length (starts_of program)) ⊎ (length (starts_of program) ≤ t) → slice_index_or (fork_statements program) t None ≡ fork_of (start_of program t)
      by (inl lt) = get_or-map fork_of (starts_of program) t None None lt
      by (inr le) =
          get_or_past (fork_statements program) t None (omega (arith, length-map (starts_of program) fork_of, le))
          ∙ ap fork_of (sym (get_or_past (starts_of program) t None le))

  -- the visits by what the table of forks has
  pub visits_by_table : (forks : List (Option ℕ)) (t : ℕ) → forks ≡ fork_statements program →
      visits_by_fork program (slice_index_or forks t None) ≡ visits_by (start_of program t)
  visits_by_table forks t are =
      ap (visits_by_fork program) (ap (λ fs. slice_index_or fs t None) are ∙ fork_by_start t) ∙ visits_same (start_of program t) (start_stands program t)

  module _ (forks : List (Option ℕ)) (t f : ℕ) (are : forks ≡ fork_statements program) (is : Some f ≡ slice_index_or forks t None) where
    started : Some f ≡ fork_of (start_of program t)
    started = is ∙ ap (λ fs. slice_index_or fs t None) are ∙ fork_by_start t

    -- the visits of the body that was found
    pub visits_found : (b : Tree) → forked_body program.body f ≡ Some b → visits_by (start_of program t) ≡ visits_of (f + 1) b
    visits_found b e =
        sym (visits_same (start_of program t) (start_stands program t)) ∙ ap (visits_by_fork program) (sym started) ∙ ap (visits_at (f + 1)) e

    -- the same with their turns
    pub turned_found : (b : Tree) → forked_body program.body f ≡ Some b → turned_by (start_of program t) ≡ turned_visits (f + 1) b
    turned_found b e = turned_same (start_of program t) f b (start_stands program t) started e

    pub end_found : (b : Tree) (last : ℕ) → forked_body program.body f ≡ Some b → last ≡ last_or f (numbers_of (visits_of (f + 1) b)) →
        Some last ≡ last_statement (start_of program t)
    end_found b last e l =
        ap Some (l ∙ ap (λ ms. last_or f (numbers_of ms)) (sym (visits_found b e))) ∙ sym (end_same (start_of program t) f started)

    pub body_found : forked_body program.body f ≡ None → ⊥
    body_found none = body_same (start_of program t) f (start_stands program t) started none

  -- a task that is not forked
  pub not_started : (forks : List (Option ℕ)) (t : ℕ) → forks ≡ fork_statements program → None ≡ slice_index_or forks t None → start_of program t ≡ None
  not_started forks t are is = by (start_of program t) refl
    where
      by : (o : Option Start) → start_of program t ≡ o → start_of program t ≡ None
      by None e = e
      by (Some start) e =
          absurd (let z : None ≡ fork_of (Some start) = is ∙ ap (λ fs. slice_index_or fs t None) are ∙ fork_by_start t ∙ ap fork_of e in cc)

  -- ---- all tasks

  abbrev pub where_forked : (Coming → Bool) → Option ℕ → List ℕ
  where_forked test fork = statements_where test (visits_by_fork program fork)

  all_same : (test : Coming → Bool) (starts : List (Option Start)) → ((t : ℕ) → StandsAt program.body (slice_index_or starts t None)) →
      flat_map (λ o. where_forked test (fork_of o)) starts ≡ flat_map (λ o. statements_where test (visits_by o)) starts
  all_same test [] h = refl
  all_same test (o ∷ starts) h =
      ap (λ xs. xs ++ flat_map (λ o. where_forked test (fork_of o)) starts) (ap (statements_where test) (visits_same o (h 0)))
      ∙ ap (λ xs. statements_where test (visits_by o) ++ xs) (all_same test starts (λ t. h (suc t)))

  pub all_found : (test : Coming → Bool) (forks : List (Option ℕ)) → forks ≡ fork_statements program →
      flat_map (λ fork. statements_where test (visits_by_fork program fork)) forks ≡ statements_of_all test program
  all_found test forks are =
      ap (flat_map (λ fork. where_forked test fork)) are ∙ flat_map-map (λ fork. where_forked test fork) fork_of (starts_of program)
      ∙ all_same test (starts_of program) (λ t. start_stands program t)
