-- Events in order: where those behind a phase begin, and how many there are on its phaser.
use Rattle.std.proofs.Common.{◌≡◌, ℕ, zero, suc, ◌+◌, ◌-◌, ◌<◌, ◌≤◌, Bool, true, false, List, length, refl, sym, ap, ◌∙◌, subst, inl, inr, arith, get_or, add-one, take}
use Rattle.std.specs.Prelude.{count_by}
use Rattle.std.proofs.lemmas.Bool.{cases_eq, cases_lt}
use Rattle.std.proofs.lemmas.Bool.Decides.{nat_tests}
use Rattle.std.proofs.lemmas.List.{take_all}
use Rattle.std.proofs.lemmas.List.Sums.{count_by-le-length, count_by_more_no, count_by_more_yes}
use Rattle.armus_base.specs.declared.event.Event.{Event}
use Rattle.armus_base.specs.declared.status.Member.{Member}
use Rattle.dep_state.specs.inside.Made.{NeverFalls, NotAfter}
use Rattle.adaptive.specs.inside.Waits.{IsFirstOnLater, IsFirstPast, is_later}

-- the member's phase as an event
abbrev pub phase_of : Member → Event
phase_of m = record { p = m.p; n = m.n }

pub not_after_trans : (a b c : Event) → NotAfter a b → NotAfter b c → NotAfter a c
not_after_trans a b c (inl l) (inl m) = inl (omega arith)
not_after_trans a b c (inl l) (inr m) = inl (omega (arith, m.0))
not_after_trans a b c (inr l) (inl m) = inl (omega (arith, l.0))
not_after_trans a b c (inr l) (inr m) = inr (l.0 ∙ m.0, omega (arith, l.1, m.1))

-- of events that never fall none is before one ahead of it
pub never_before : (es : List Event) → NeverFalls es → (i j : ℕ) (d : Event) → i ≤ j → j < length es → NotAfter (get_or es i d) (get_or es j d)
never_before es falls i zero d le lt =
    let same : i ≡ 0 = omega arith in
    subst (λ k. NotAfter (get_or es k d) (get_or es 0 d)) (sym same) (inr (refl, omega arith))
never_before es falls i (suc j) d le lt =
    elim (cases_eq i (suc j)) [
      | inl same ↦ subst (λ k. NotAfter (get_or es k d) (get_or es (suc j) d)) (sym same) (inr (refl, omega arith))
      | inr other ↦
          not_after_trans (get_or es i d) (get_or es j d) (get_or es (suc j) d) (never_before es falls i j d (omega (arith, other)) (omega arith))
          (subst (λ k. NotAfter (get_or es j d) (get_or es k d)) (add-one j) (falls j d (omega arith)))
    ]

pub phaser_not_later : (a b : Event) → NotAfter a b → a.p.0 ≤ b.p.0
phaser_not_later a b (inl l) = omega arith
phaser_not_later a b (inr e) = omega (arith, e.0)

-- how many of a list pass that pass just between two places
module _ {X : Type 0} (p : X → Bool) (xs : List X) (lo hi : ℕ) (d : X) (between : lo ≤ hi) (within : hi ≤ length xs)
    (ahead : (k : ℕ) → k < lo → p (get_or xs k d) ≡ false) (inside : (k : ℕ) → lo ≤ k → k < hi → p (get_or xs k d) ≡ true)
    (behind : (k : ℕ) → hi ≤ k → k < length xs → p (get_or xs k d) ≡ false) where
  to_low : (i : ℕ) → i ≤ lo → count_by p (take i xs) ≡ 0
  to_low zero l = refl
  to_low (suc i) l =
      ap (λ n. count_by p (take n xs)) (sym (add-one i)) ∙ count_by_more_no p xs i d (omega arith) (ahead i (omega arith)) ∙ to_low i (omega arith)

  to_high : (k : ℕ) → k + lo ≤ hi → count_by p (take (k + lo) xs) ≡ k
  to_high zero l =
      let none : 0 + lo ≡ lo = omega arith in
      ap (λ n. count_by p (take n xs)) none ∙ to_low lo (omega arith)
  to_high (suc k) l =
      let next : suc k + lo ≡ (k + lo) + 1 = omega arith in
      ap (λ n. count_by p (take n xs)) next ∙ count_by_more_yes p xs (k + lo) d (omega arith) (inside (k + lo) (omega arith) (omega arith))
      ∙ ap (λ n. n + 1) (to_high k (omega arith)) ∙ add-one k

  to_end : (k : ℕ) → k + hi ≤ length xs → count_by p (take (k + hi) xs) ≡ hi - lo
  to_end zero l =
      let at : 0 + hi ≡ (hi - lo) + lo = omega arith in
      ap (λ n. count_by p (take n xs)) at ∙ to_high (hi - lo) (omega arith)
  to_end (suc k) l =
      let next : suc k + hi ≡ (k + hi) + 1 = omega arith in
      ap (λ n. count_by p (take n xs)) next ∙ count_by_more_no p xs (k + hi) d (omega arith) (behind (k + hi) (omega arith) (omega arith)) ∙ to_end k (omega arith)

  pub count_between : hi - lo ≡ count_by p xs
  count_between =
      let all : (length xs - hi) + hi ≡ length xs = omega arith in
      sym (to_end (length xs - hi) (omega arith)) ∙ ap (λ n. count_by p (take n xs)) all ∙ ap (count_by p) (take_all (length xs) xs (omega arith))

module _ (m : Member) where
  pub is_not_later : (e : Event) → NotAfter e (phase_of m) → is_later m e ≡ false
  is_not_later e (inl l) = grind (arith, nat_tests)
  is_not_later e (inr (s, l)) = same_phaser e s l
    where
      same_phaser : (x : Event) → x.p.0 ≡ m.p.0 → x.n ≤ m.n → is_later m x ≡ false
      same_phaser x f g = grind (arith, nat_tests)

  pub is_beyond : (e : Event) → m.p.0 < e.p.0 → is_later m e ≡ false
  is_beyond e l = grind (arith, nat_tests)

  by_numbers : (e : Event) → e.p.0 ≡ m.p.0 → m.n < e.n → is_later m e ≡ true
  by_numbers e s l = grind (arith, nat_tests)

  pub is_between : (e : Event) → (NotAfter e (phase_of m) → ⊥) → e.p.0 ≤ m.p.0 → is_later m e ≡ true
  is_between e past l =
      elim (cases_eq e.p.0 m.p.0) [
        | inl same ↦ elim (cases_lt m.n e.n) [
          | inl more ↦ by_numbers e same more
          | inr less ↦ absurd (past (inr (same, less)))
        ]
        | inr other ↦ absurd (past (inl (omega (arith, other))))
      ]

  module _ (es : List Event) (from to : ℕ) (first : IsFirstPast es m from) (last : IsFirstOnLater es m.p.0 to) where
    none : Event
    none = record { p = record { 0 = 0 }; n = 0 }

    pub in_order : from ≤ to
    in_order =
        elim (cases_lt to from) [
          | inl less ↦
              absurd (let inside = first.inside in let beyond = last.from to none (omega arith) (omega arith) in
              let before = phaser_not_later (get_or es to none) (phase_of m) (first.ahead to none less) in omega arith)
          | inr more ↦ more
        ]

    pub counted : to - from ≡ count_by (is_later m) es
    counted =
        count_between (is_later m) es from to none in_order last.inside
        (λ k l. is_not_later (get_or es k none) (first.ahead k none l))
        (λ k l h. is_between (get_or es k none) (first.from k none l (let w = last.inside in omega arith)) (last.ahead k none h))
        (λ k l h. is_beyond (get_or es k none) (last.from k none l h))

-- as many of a list as pass are no more than its elements
pub count_small : {X : Type 0} (p : X → Bool) (xs : List X) (n : ℕ) → n ≡ count_by p xs → n ≤ length xs
count_small p xs n e = (let l = count_by-le-length p xs in omega arith)
