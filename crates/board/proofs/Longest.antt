-- The longest common prefix of the places of a task with a meaning exists, and it often has that meaning.
use Rattle.std.proofs.Common.{◌≡◌, ℕ, zero, suc, ◌<◌, ◌≤◌, Bool, true, false, List, [], ◌∷◌, ◌++◌, Option, Some, None, length, sym, refl, ap, ◌∙◌, subst, arith, inl, inr, ◌⊎◌}
use Rattle.std.specs.Prelude.{if◌then◌else◌, is_some}
use Rattle.std.proofs.lemmas.Bool.{cases_eq, cases_lt}
use Rattle.armus_base.specs.Plans.{Aim, Action, Advances, Blocks, Drops, Forks, Makes, Passes, Plan, Refuses, Registers, action_at, actions}
use Rattle.armus_base.specs.calls.Runs.{IsAtAwait, IsPrefix, Precedes}
use Rattle.armus_base.specs.Runs.{Place}
use Rattle.armus_base.specs.Places.{members_below, phases_after}
use Rattle.armus_base.specs.States.{Phases}
use Rattle.armus_base.specs.calls.Seats.{IsLongestPrefix, IsPlaceOf}
use Rattle.armus_base.proofs.Places.{precedes_itself, precedes_trans}

pub place_of : ℕ → Option ℕ → Place
place_of k o = record { done = k; dropped = o }

-- the place at which a refused task was refused
abbrev pub undropped : Place → Place
undropped a = record { done = a.done; dropped = None }

-- the longest place that is a prefix of both, which is one of them, or where one of them was refused
pub record IsMeet (a b c : Place) : Type 0 where
  pub left : IsPrefix c a
  pub right : IsPrefix c b
  pub most : (d : Place) → IsPrefix d a → IsPrefix d b → IsPrefix d c
  pub either : ((c ≡ a) ⊎ (c ≡ b)) ⊎ ((c ≡ undropped a) ⊎ (c ≡ undropped b))

-- with different counts the smaller one
meets_apart : (a b : Place) → a.done < b.done → IsMeet a b (undropped a)
meets_apart a b less =
    record {
      left = below a.done a.dropped;
      right = omega arith;
      most = λ d x y. at_most d.done d.dropped a.done a.dropped b.done b.dropped less x y;
      either = inr (inl refl);
    }
  where
    below : (k : ℕ) (o : Option ℕ) → Precedes k None k o
    below k o = omega arith

    at_most : (i : ℕ) (q : Option ℕ) (k : ℕ) (o : Option ℕ) (j : ℕ) (r : Option ℕ) → k < j → Precedes i q k o → Precedes i q j r → Precedes i q k None
    at_most i None k o j r l x y = x
    at_most i (Some p) k None j r l x y = absurd x
    at_most i (Some p) k (Some d) j None l x y = absurd y
    at_most i (Some p) k (Some d) j (Some e) l x y = absurd (let f = x.0 in let g = y.0 in omega arith)

meets_turned : (a b c : Place) → IsMeet a b c → IsMeet b a c
meets_turned a b c m =
    record {
      left = m.right;
      right = m.left;
      most = λ d x y. m.most d y x;
      either = elim m.either [
        | inl one ↦ elim one [ inl e ↦ inl (inr e) | inr e ↦ inl (inl e) ]
        | inr one ↦ elim one [ inl e ↦ inr (inr e) | inr e ↦ inr (inl e) ]
      ];
    }

-- with one count
meets_with : (k : ℕ) (o r : Option ℕ) → (c : Place) × IsMeet (place_of k o) (place_of k r) c
unfolding place_of
meets_with k None r =
    (place_of k None, record { left = omega arith; right = omega arith; most = λ d x y. x; either = inl (inl refl) })
meets_with k (Some p) None =
    (place_of k None, record { left = omega arith; right = omega arith; most = λ d x y. y; either = inl (inr refl) })
meets_with k (Some p) (Some q) = elim (cases_lt p q) [
  | inl l ↦ (place_of k (Some p), record { left = (refl, omega arith); right = (refl, omega arith); most = λ d x y. x; either = inl (inl refl) })
  | inr l ↦ (place_of k (Some q), record { left = (refl, omega arith); right = (refl, omega arith); most = λ d x y. y; either = inl (inr refl) })
]

pub meets : (a b : Place) → (c : Place) × IsMeet a b c
unfolding place_of
meets a b = elim (cases_eq a.done b.done) [
  | inl same ↦
      subst (λ k. (c : Place) × IsMeet a (place_of k b.dropped) c) same (meets_with a.done a.dropped b.dropped)
  | inr apart ↦ elim (cases_lt a.done b.done) [
    | inl l ↦ (undropped a, meets_apart a b l)
    | inr l ↦ (undropped b, meets_turned b a (undropped b) (meets_apart b a (omega arith)))
  ]
]

-- the candidates, of which there are finitely many
abbrev Among : List Place → Place → Type 0
Among [] b = ⊥
Among (x ∷ xs) b = (x ≡ b) ⊎ Among xs b

among_left : (xs ys : List Place) (b : Place) → Among xs b → Among (xs ++ ys) b
among_left [] ys b h = absurd h
among_left (x ∷ xs) ys b h = elim h [ inl e ↦ inl e | inr g ↦ inr (among_left xs ys b g) ]

among_right : (xs ys : List Place) (b : Place) → Among ys b → Among (xs ++ ys) b
among_right [] ys b h = h
among_right (x ∷ xs) ys b h = inr (among_right xs ys b h)

-- those with this count that have dropped at most m
row : ℕ → ℕ → List Place
row k zero = place_of k None ∷ place_of k (Some 0) ∷ []
row k (suc m) = place_of k (Some (suc m)) ∷ row k m

rows : ℕ → ℕ → List Place
rows zero m = row 0 m
rows (suc k) m = row (suc k) m ++ rows k m

in_row_undropped : (k m : ℕ) → Among (row k m) (place_of k None)
unfolding row
in_row_undropped k zero = inl refl
in_row_undropped k (suc m) = inr (in_row_undropped k m)

in_row_dropped : (k m d : ℕ) → d ≤ m → Among (row k m) (place_of k (Some d))
unfolding row
in_row_dropped k zero d l = inr (inl (ap (λ n. place_of k (Some n)) (let e : 0 ≡ d = omega arith in e)))
in_row_dropped k (suc m) d l = elim (cases_eq d (suc m)) [
  | inl e ↦ inl (ap (λ n. place_of k (Some n)) (sym e))
  | inr n ↦ inr (in_row_dropped k m d (omega arith))
]

abbrev HasRoom : ℕ → Option ℕ → Type 0
HasRoom m None = Unit {0}
HasRoom m (Some d) = d ≤ m

in_row : (k m : ℕ) (o : Option ℕ) → HasRoom m o → Among (row k m) (place_of k o)
in_row k m None r = in_row_undropped k m
in_row k m (Some d) r = in_row_dropped k m d r

in_rows : (n m j : ℕ) (o : Option ℕ) → j ≤ n → HasRoom m o → Among (rows n m) (place_of j o)
unfolding rows
in_rows zero m j o l r = subst (λ k. Among (row 0 m) (place_of k o)) (let e : 0 ≡ j = omega arith in e) (in_row 0 m o r)
in_rows (suc n) m j o l r = elim (cases_eq j (suc n)) [
  | inl e ↦ among_left (row (suc n) m) (rows n m) (place_of j o) (subst (λ k. Among (row (suc n) m) (place_of k o)) (sym e) (in_row (suc n) m o r))
  | inr ne ↦ among_right (row (suc n) m) (rows n m) (place_of j o) (in_rows n m j o (omega arith) r)
]

-- there are no more members than phasers
members_few : (m : Phases) (p : ℕ) → members_below m p ≤ p
members_few m zero = omega arith
members_few m (suc p) = go (m p) (members_few m p)
  where
    go : (o : Option ℕ) → members_below m p ≤ p → (if is_some o then suc (members_below m p) else members_below m p) ≤ suc p
    go None l = omega arith
    go (Some n) l = omega arith

-- whether a place is a prefix of another
precedes_or_not : (k : ℕ) (o : Option ℕ) (j : ℕ) (r : Option ℕ) → Precedes k o j r ⊎ (Precedes k o j r → ⊥)
precedes_or_not k None j r = elim (cases_lt j k) [ inl l ↦ inr (λ h. omega arith) | inr l ↦ inl l ]
precedes_or_not k (Some p) j None = inr (λ h. h)
precedes_or_not k (Some p) j (Some q) = elim (cases_eq k j) [
  | inl e ↦ elim (cases_lt q p) [ inl l ↦ inr (λ h. let m = h.1 in omega arith) | inr l ↦ inl (e, l) ]
  | inr n ↦ inr (λ h. n h.0)
]

-- whether the code goes on with an await
pub await_or_not : (plan : Plan) (t k : ℕ) → ((aim : Aim) × action_at plan t k ≡ Some (Blocks aim)) ⊎ (((aim : Aim) × action_at plan t k ≡ Some (Blocks aim)) → ⊥)
await_or_not plan t k = by_case (action_at plan t k) refl
  where
    by_case : (o : Option Action) → action_at plan t k ≡ o → ((aim : Aim) × action_at plan t k ≡ Some (Blocks aim)) ⊎ (((aim : Aim) × action_at plan t k ≡ Some (Blocks aim)) → ⊥)
    by_case (Some (Blocks aim)) e = inl (aim, e)
    by_case None e = inr (λ h. let f = h.1 in cc)
    by_case (Some (Makes p)) e = inr (λ h. let f = h.1 in cc)
    by_case (Some (Registers c p)) e = inr (λ h. let f = h.1 in cc)
    by_case (Some (Forks c)) e = inr (λ h. let f = h.1 in cc)
    by_case (Some (Advances p)) e = inr (λ h. let f = h.1 in cc)
    by_case (Some (Drops p)) e = inr (λ h. let f = h.1 in cc)
    by_case (Some (Passes p)) e = inr (λ h. let f = h.1 in cc)
    by_case (Some (Refuses p)) e = inr (λ h. let f = h.1 in cc)

module _ (avoids : Bool) (plan : Plan) (t : ℕ) where
  -- whether a place is one of the task's
  place_or_not : (b : Place) → IsPlaceOf avoids plan t b ⊎ (IsPlaceOf avoids plan t b → ⊥)
  place_or_not b = elim (cases_lt (length (actions plan t)) b.done) [
    | inl l ↦ inr (λ p. let w = p.within in omega arith)
    | inr within ↦ by_dropped within b.dropped refl
  ]
    where
      members : ℕ
      members = members_below (phases_after plan t b.done) (length plan.makers)

      by_mode : b.done ≤ length (actions plan t) → (d : ℕ) → b.dropped ≡ Some d → IsAtAwait plan t b → d ≤ members → (m : Bool) → avoids ≡ m →
          IsPlaceOf avoids plan t b ⊎ (IsPlaceOf avoids plan t b → ⊥)
      by_mode within d e stands few false detects = inr (λ p. let n = p.unrefused detects in cc)
      by_mode within d e stands few true avoiding = inl (record {
        within = within;
        unrefused = λ detects. absurd (cc);
        before_await = λ c f. stands;
        no_more = λ c f. let same : d ≡ c = (let two : Some d ≡ Some c = sym e ∙ f in cc) in subst (λ n. n ≤ members) same few;
      })

      by_dropped : b.done ≤ length (actions plan t) → (o : Option ℕ) → b.dropped ≡ o → IsPlaceOf avoids plan t b ⊎ (IsPlaceOf avoids plan t b → ⊥)
      by_dropped within None e = inl (record { within = within; unrefused = λ _. e; before_await = λ d f. absurd (cc); no_more = λ d f. absurd (cc) })
      by_dropped within (Some d) e = elim (await_or_not plan t b.done) [
        | inr n ↦ inr (λ p. n (p.before_await d e))
        | inl stands ↦ elim (cases_lt members d) [
          | inl l ↦ inr (λ p. let m = p.no_more d e in omega arith)
          | inr few ↦ by_mode within d e stands few avoids refl
        ]
      ]

  -- each place of the task is a candidate
  place_among : (b : Place) → IsPlaceOf avoids plan t b → Among (rows (length (actions plan t)) (length plan.makers)) b
  unfolding place_of
  place_among b p = in_rows (length (actions plan t)) (length plan.makers) b.done b.dropped p.within (room b.dropped refl)
    where
      room : (o : Option ℕ) → b.dropped ≡ o → HasRoom (length plan.makers) o
      room None e = tt
      room (Some d) e = (let m = p.no_more d e in let f = members_few (phases_after plan t b.done) (length plan.makers) in omega arith)

  meet_place : (a b c : Place) → IsMeet a b c → IsPlaceOf avoids plan t a → IsPlaceOf avoids plan t b → IsPlaceOf avoids plan t c
  meet_place a b c m p q = elim m.either [
    | inl one ↦ elim one [
      | inl e ↦ subst (IsPlaceOf avoids plan t) (sym e) p
      | inr e ↦ subst (IsPlaceOf avoids plan t) (sym e) q
    ]
    | inr one ↦ elim one [
      | inl e ↦ subst (IsPlaceOf avoids plan t) (sym e) (plain a p)
      | inr e ↦ subst (IsPlaceOf avoids plan t) (sym e) (plain b q)
    ]
  ]
    where
      plain : (x : Place) → IsPlaceOf avoids plan t x → IsPlaceOf avoids plan t (undropped x)
      plain x r = record { within = r.within; unrefused = λ _. refl; before_await = λ d e. absurd (cc); no_more = λ d e. absurd (cc) }

module _ (avoids : Bool) (plan : Plan) (t : ℕ) (Means : Place → Type 0) (test : (b : Place) → Means b ⊎ (Means b → ⊥)) (before : Place) where
  -- a place of the task, from this one on, with the meaning
  pub record IsSuch (b : Place) : Type 0 where
    pub place : IsPlaceOf avoids plan t b
    pub later : IsPrefix before b
    pub means : Means b

  such_or_not : (b : Place) → IsSuch b ⊎ (IsSuch b → ⊥)
  such_or_not b = elim (place_or_not avoids plan t b) [
    | inr n ↦ inr (λ s. n s.place)
    | inl p ↦ elim (precedes_or_not before.done before.dropped b.done b.dropped) [
      | inr n ↦ inr (λ s. n s.later)
      | inl l ↦ elim (test b) [ inr n ↦ inr (λ s. n s.means) | inl m ↦ inl (record { place = p; later = l; means = m }) ]
    ]
  ]

  -- the meaning does not go where a task was not yet refused
  abbrev pub Undrops : Type 0
  Undrops = (b : Place) → IsPlaceOf avoids plan t b → Means b → Means (undropped b)

  -- the longest common prefix of this place and of the candidates with the meaning
  record IsCommon (a : Place) (xs : List Place) (c : Place) : Type 0 where
    pub place : IsPlaceOf avoids plan t c
    pub first : IsPrefix c a
    pub each : (b : Place) → Among xs b → IsSuch b → IsPrefix c b
    pub most : (d : Place) → IsPrefix d a → ((b : Place) → Among xs b → IsSuch b → IsPrefix d b) → IsPrefix d c
    pub means : Undrops → Means c

  common : (a : Place) → IsSuch a → (xs : List Place) → (c : Place) × IsCommon a xs c
  common a s [] = (
    a,
    record {
      place = s.place;
      first = precedes_itself a.done a.dropped;
      each = λ b h g. absurd h;
      most = λ d x y. x;
      means = λ _. s.means;
    },
  )
  common a s (x ∷ xs) = elim (such_or_not x) [
    | inr n ↦ without a x xs n (common a s xs).0 (common a s xs).1
    | inl g ↦ within a s x xs g (common a s xs).0 (common a s xs).1 (meets (common a s xs).0 x).0 (meets (common a s xs).0 x).1
  ]
    where
      without : (a x : Place) (xs : List Place) → (IsSuch x → ⊥) → (c : Place) → IsCommon a xs c → (c : Place) × IsCommon a (x ∷ xs) c
      without a x xs n c r = (
        c,
        record {
          place = r.place;
          first = r.first;
          each = λ b h g. elim h [ inl e ↦ absurd (n (subst IsSuch (sym e) g)) | inr i ↦ r.each b i g ];
          most = λ d y z. r.most d y (λ b h g. z b (inr h) g);
          means = r.means;
        },
      )

      within : (a : Place) → IsSuch a → (x : Place) (xs : List Place) → IsSuch x → (c : Place) → IsCommon a xs c → (m : Place) → IsMeet c x m → (c : Place) × IsCommon a (x ∷ xs) c
      within a s x xs g c r m e = (
        m,
        record {
          place = meet_place avoids plan t c x m e r.place g.place;
          first = precedes_trans m.done c.done a.done m.dropped c.dropped a.dropped e.left r.first;
          each = λ b h i. elim h [
            | inl is ↦ subst (IsPrefix m) is e.right
            | inr j ↦ precedes_trans m.done c.done b.done m.dropped c.dropped b.dropped e.left (r.each b j i)
          ];
          most = λ d y z. e.most d (r.most d y (λ b h i. z b (inr h) i)) (z x (inl refl) g);
          means = λ u. elim e.either [
            | inl one ↦ elim one [
              | inl is ↦ subst Means (sym is) (r.means u)
              | inr is ↦ subst Means (sym is) g.means
            ]
            | inr one ↦ elim one [
              | inl is ↦ subst Means (sym is) (u c r.place (r.means u))
              | inr is ↦ subst Means (sym is) (u x g.place g.means)
            ]
          ];
        },
      )

  -- where some place of the task from this one on has the meaning, there is a longest prefix of all that have
  pub longest_exists : (a : Place) → IsSuch a → (c : Place) × IsLongestPrefix avoids plan t Means before c × (Undrops → Means c)
  longest_exists a s =
      let r = common a s (rows (length (actions plan t)) (length plan.makers)) in (
        r.0,
        record {
          place = r.1.place;
          below = λ b p l m. r.1.each b (place_among avoids plan t b p) (record { place = p; later = l; means = m });
          longest = λ d p all. r.1.most d (all a s.place s.later s.means) (λ b h g. all b g.place g.later g.means);
        },
        r.1.means,
      )
