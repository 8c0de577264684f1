-- Phasers that are marked, and the marks of tasks found waiting.
use Rattle.std.proofs.Common.{◌≡◌, ◌<◌, ◌≤◌, ◌+◌, ◌∙◌, ◌||◌, ℕ, zero, suc, Bool, true, false, List, [], ◌∷◌, ◌++◌, Option, Some, None, length, take, set, get_or, arith, sym, subst, ap, inl, inr, refl, append-nil, add-one, ◌==◌}
use Rattle.std.specs.Prelude.{slice_get, unwrap_or, if◌then◌else◌, option_to_list}
use Rattle.std.specs.List.{list_any}
use Rattle.std.proofs.lemmas.Bool.{cases_eq, eq-eqb, ne_eqb}
use Rattle.std.proofs.lemmas.List.{take_more, take_all}
use Rattle.std.proofs.lemmas.List.Folds.{list_any-append}
use Rattle.std.proofs.lemmas.Option.{slice_get-get_or}
use Rattle.std.proofs.Math.ListN.{length-set}
use Rattle.armus_base.specs.Finals.{given_below}
use Rattle.armus_base.proofs.Lists.{slice_get-set_same, slice_get-set_other}
use Rattle.schedule.specs.declared.pass.FoundWaiting.{FoundWaiting}
use Rattle.schedule.specs.inside.OpenPasses.{marked_phaser, phaser_of}

pub given_more : {A : Type 0} (f : ℕ → Option A) (n : ℕ) → given_below f (n + 1) ≡ given_below f n ++ option_to_list (f n)
given_more f n = ap (given_below f) (add-one n)

-- one that is marked is listed, and one that is not is not
pub marked_more : (marks : List Bool) (p : ℕ) → p < length marks → get_or marks p false ≡ true →
    given_below (marked_phaser marks) (p + 1) ≡ given_below (marked_phaser marks) p ++ record { 0 = p } ∷ []
marked_more marks p l e =
    given_more (marked_phaser marks) p ∙ ap (λ o. given_below (marked_phaser marks) p ++ option_to_list
    (if unwrap_or o false then Some (record { 0 = p }) else None)) (slice_get-get_or marks p false l ∙ ap Some e)

pub unmarked_more : (marks : List Bool) (p : ℕ) → p < length marks → get_or marks p false ≡ false → given_below (marked_phaser marks) (p + 1) ≡ given_below (marked_phaser marks) p
unmarked_more marks p l e =
    given_more (marked_phaser marks) p ∙ ap (λ o. given_below (marked_phaser marks) p ++ option_to_list
    (if unwrap_or o false then Some (record { 0 = p }) else None)) (slice_get-get_or marks p false l ∙ ap Some e) ∙
    append-nil (given_below (marked_phaser marks) p)

-- given by equal functions
pub given_same : {A : Type 0} (f g : ℕ → Option A) (n : ℕ) → ((k : ℕ) → k < n → f k ≡ g k) → given_below f n ≡ given_below g n
given_same f g zero same = refl
given_same f g (suc n) same =
    ap (λ o. given_below f n ++ option_to_list o) (same n (omega arith)) ∙ ap (λ l. l ++ option_to_list (g n)) (given_same f g n (λ k l. same k (omega arith)))

-- the marks of the tasks so far
pub record AreMarks (marks : List Bool) (waiting : List FoundWaiting) (phasers i : ℕ) : Type 0 where
  pub all : length marks ≡ phasers
  pub each : (p : ℕ) → p < phasers → slice_get marks p ≡ Some (list_any (λ w. w.event.p.0 == p) (take i waiting))

any_more : (waiting : List FoundWaiting) (i p : ℕ) (d : FoundWaiting) → i < length waiting
    → list_any (λ w. w.event.p.0 == p) (take (i + 1) waiting) ≡ (list_any (λ w. w.event.p.0 == p) (take i waiting) || ((get_or waiting i d).event.p.0 == p))
any_more waiting i p d l =
    ap (list_any (λ w. w.event.p.0 == p)) (take_more waiting i d l) ∙ list_any-append (λ w. w.event.p.0 == p) (take i waiting) (get_or waiting i d ∷ [])
    ∙ ap (λ b. list_any (λ w. w.event.p.0 == p) (take i waiting) || b) (or_nothing ((get_or waiting i d).event.p.0 == p))
  where
    or_nothing : (b : Bool) → (b || false) ≡ b
    or_nothing true = refl
    or_nothing false = refl

or_true : (b : Bool) → (b || true) ≡ true
or_true true = refl
or_true false = refl

or_false : (b : Bool) → (b || false) ≡ b
or_false true = refl
or_false false = refl

pub mark_one : (marks : List Bool) (waiting : List FoundWaiting) (phasers i : ℕ) (d : FoundWaiting) → AreMarks marks waiting phasers i → i < length waiting
    → (get_or waiting i d).event.p.0 < phasers → AreMarks (set marks (get_or waiting i d).event.p.0 true) waiting phasers (i + 1)
mark_one marks waiting phasers i d are l within =
    let q = (get_or waiting i d).event.p.0 in
    record {
      all = length-set marks q true ∙ are.all;
      each = λ p lp. elim (cases_eq p q) [
        | inl same ↦ subst (λ r. slice_get (set marks q true) r ≡ Some (list_any (λ w. w.event.p.0 == r) (take (i + 1) waiting))) (sym same)
            (slice_get-set_same marks q true (let a = are.all in
            omega arith) ∙ ap Some (sym (any_more waiting i q d l ∙ ap (λ b. list_any (λ w. w.event.p.0 == q) (take i waiting) || b) (eq-eqb q q refl) ∙
            or_true _)))
        | inr other ↦ slice_get-set_other marks q p true other ∙ are.each p lp ∙
            ap Some (sym (any_more waiting i p d l ∙ ap (λ b. list_any (λ w. w.event.p.0 == p) (take i waiting) || b) (ne_eqb q p (λ e. other (sym e))) ∙
            or_false _))
      ];
    }

pub mark_none : (marks : List Bool) (waiting : List FoundWaiting) (phasers i : ℕ) (d : FoundWaiting) → AreMarks marks waiting phasers i → i < length waiting
    → phasers ≤ (get_or waiting i d).event.p.0 → AreMarks marks waiting phasers (i + 1)
mark_none marks waiting phasers i d are l beyond =
    let q = (get_or waiting i d).event.p.0 in
    record {
      all = are.all;
      each = λ p lp. are.each p lp ∙ ap Some (sym (any_more waiting i p d l ∙
          ap (λ b. list_any (λ w. w.event.p.0 == p) (take i waiting) || b) (ne_eqb q p (λ e. absurd (omega arith))) ∙ or_false _));
    }

-- marked are the phasers of the tasks
pub marks_are : (marks : List Bool) (waiting : List FoundWaiting) (phasers : ℕ) → AreMarks marks waiting phasers (length waiting)
    → given_below (marked_phaser marks) (length marks) ≡ given_below (phaser_of waiting) phasers
marks_are marks waiting phasers are =
    ap (given_below (marked_phaser marks)) are.all
    ∙ given_same (marked_phaser marks) (phaser_of waiting) phasers
    (λ p l. ap (λ o. if unwrap_or o false then Some (record { 0 = p }) else None) (are.each p l)
    ∙ ap (λ t. if list_any (λ w. w.event.p.0 == p) t then Some (record { 0 = p }) else None) (take_all (length waiting) waiting (omega arith)))
