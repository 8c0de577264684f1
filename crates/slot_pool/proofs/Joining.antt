-- Workers part at the start, and their seats are joined at the end.
use Rattle.std.proofs.Common.{◌≡◌, ◌≢◌, ℕ, zero, suc, List, [], ◌∷◌, ◌++◌, Option, length, set, sym, refl, ap, ◌∙◌, subst, arith, inl, inr, ◌⊎◌}
use Rattle.std.specs.Prelude.{Contains, drop, take}
use Rattle.std.proofs.lemmas.Bool.{cases_eq}
use Rattle.std.proofs.lemmas.List.Elements.{Contains-append_left, Contains-append_right, Contains-append_cases}
use mathlib.Core.Option.{some, none, some-injective}
use lib.ListN.{get_elem?}
use Rattle.atomic_table.specs.Table.{Joins, Splits, State}
use Rattle.atomic_table.proofs.Lists.{at_set, at_longer, at_last, set_else, set_here}
use Rattle.slot_pool.specs.declared.setting.PoolSetting.{PoolSetting}
use Rattle.slot_pool.specs.declared.view.PoolView.{PoolView}
use Rattle.slot_pool.specs.inside.Views.{joined, left_over, split_off, blank_view}
use Rattle.slot_pool.specs.inside.Rule.{Fits, IsHad, IsPlacedIn, PoolHolds, at_home, nowhere, out}
use Rattle.slot_pool.proofs.Members.{contains_first, contains_none, contains_one, contains_rest}
use Rattle.slot_pool.proofs.Changing.{found_within}

-- what is at an index of a list that is longer by one
at_more : {A : Type 0} (l : List A) (a b : A) (j : ℕ) → get_elem? (l ++ a ∷ []) j ≡ some b → (get_elem? l j ≡ some b) ⊎ ((j ≡ length l) × (a ≡ b))
at_more [] a b zero e = inr (refl, some-injective a b e)
at_more [] a b (suc j) e = absurd (let n : none ≡ some b = e in cc)
at_more (x ∷ xs) a b zero e = inl e
at_more (x ∷ xs) a b (suc j) e = elim (at_more xs a b j e) [
  | inl f ↦ inl f
  | inr f ↦ inr (omega arith, f.1)
]

nothing_had : (v : PoolView) (t : ℕ) → v.has ≡ [] → Contains v.has t → ⊥
nothing_had v t idle c = contains_none t (subst (λ ts. Contains ts t) idle c)

-- the same words and slots under other views: what was placed still is and nothing else, and who has something is there as before
pub record Rearranges (before now : List PoolView) : Type 0 where
  pub placed : (u : ℕ) → IsPlacedIn now u → IsPlacedIn before u
  pub placed_still : (u : ℕ) → IsPlacedIn before u → IsPlacedIn now u
  pub had_still : (k u : ℕ) → IsHad before k u → IsHad now k u

rearranged :
    {R : Type 0} (number_of : R → ℕ) (key : PoolSetting) (s : State (Option R) PoolView) → PoolHolds number_of key s → (now : List PoolView) → Rearranges s.views now →
    ((i : ℕ) (v : PoolView) → get_elem? now i ≡ some v → Fits key s.words v) →
    ((i j k : ℕ) (v w : PoolView) → get_elem? now i ≡ some v → get_elem? now j ≡ some w → Contains v.numbers k → Contains w.numbers k → i ≡ j) →
    PoolHolds number_of key (record { words = s.words; homes = s.homes; views = now })
rearranged number_of key s holds now re fits apart =
    record {
      words = holds.words;
      slots = holds.slots;
      tasks = λ u l. elim (holds.tasks u l) [
        | nowhere word home not ↦ nowhere word home (λ p. not (re.placed u p))
        | at_home r word home name p ↦ at_home r word home name (re.placed_still u p)
        | out k word home had p ↦ out k word home (re.had_still k u had) (re.placed_still u p)
      ];
      views = fits;
      one_view = apart;
    }

-- a seat that has nothing gives its first number, and what was placed, to a new one
module _
    {R : Type 0} (number_of : R → ℕ) (key : PoolSetting) (id : ℕ) (v : PoolView) (k j : ℕ) (ks : List ℕ) (numbers : v.numbers ≡ k ∷ (j ∷ ks))
    (once : Contains (j ∷ ks) k → ⊥) (idle : v.has ≡ [])
    (s : State (Option R) PoolView) (holds : PoolHolds number_of key s) (at : get_elem? s.views id ≡ some v) where
  abbrev left : PoolView
  left = left_over v

  abbrev right : PoolView
  right = split_off v

  abbrev half : List PoolView
  half = set s.views id left

  abbrev now : List PoolView
  now = half ++ right ∷ []

  left_is : drop 1 v.numbers ≡ j ∷ ks
  left_is = ap (λ ns. drop 1 ns) numbers

  right_is : take 1 v.numbers ≡ k ∷ []
  right_is = ap (λ ns. take 1 ns) numbers

  -- where a view of these comes from
  data From (i : ℕ) (x : PoolView) : Type 0 where
    untouched : get_elem? s.views i ≡ some x → i ≢ id → From i x
    rest : i ≡ id → left ≡ x → From i x
    new : i ≡ length half → right ≡ x → From i x

  from : (i : ℕ) (x : PoolView) → get_elem? now i ≡ some x → From i x
  from i x e = elim (at_more half right x i e) [
    | inl a ↦ elim (at_set s.views id i left x a) [
      | inl b ↦ rest b.0 b.1
      | inr b ↦ untouched b.1 b.0
    ]
    | inr a ↦ new a.0 a.1
  ]

  still : (i : ℕ) (x : PoolView) → get_elem? s.views i ≡ some x → i ≢ id → get_elem? now i ≡ some x
  still i x e n = at_longer half (right ∷ []) i x (set_else s.views id i left n ∙ e)

  new_there : get_elem? now (length half) ≡ some right
  new_there = at_last half right (length half) refl

  mine : (i : ℕ) (x : PoolView) → get_elem? s.views i ≡ some x → i ≡ id → x ≡ v
  mine i x e same = some-injective x v (sym e ∙ ap (get_elem? s.views) same ∙ at)

  f : Fits key s.words v
  f = holds.views id v at

  in_left : (i : ℕ) → Contains left.numbers i → Contains v.numbers i
  in_left i c = subst (λ ns. Contains ns i) (sym numbers) (contains_rest k (j ∷ ks) i (subst (λ ns. Contains ns i) left_is c))

  in_right : (i : ℕ) → Contains right.numbers i → i ≡ k
  in_right i c = contains_one k i (subst (λ ns. Contains ns i) right_is c)

  re : Rearranges s.views now
  re = record {
    placed = λ u p. elim (from p.index p.view p.found) [
      | untouched e n ↦ record { index = p.index; view = p.view; found = e; placed = p.placed }
      | rest e x ↦ absurd (contains_none u (subst (λ (y : PoolView). Contains y.placed u) (sym x) p.placed))
      | new e x ↦ record { index = id; view = v; found = at; placed = subst (λ (y : PoolView). Contains y.placed u) (sym x) p.placed }
    ];
    placed_still = λ u p. elim (cases_eq p.index id) [
      | inl e ↦ record { index = length half; view = right; found = new_there; placed = subst (λ (y : PoolView). Contains y.placed u) (mine p.index p.view p.found e) p.placed }
      | inr n ↦ record { index = p.index; view = p.view; found = still p.index p.view p.found n; placed = p.placed }
    ];
    had_still = λ i u h. elim (cases_eq h.index id) [
      | inl e ↦ absurd (nothing_had v u idle (subst (λ (y : PoolView). Contains y.has u) (mine h.index h.view h.found e) h.has))
      | inr n ↦ record { index = h.index; view = h.view; found = still h.index h.view h.found n; number = h.number; has = h.has }
    ];
  }

  fits : (i : ℕ) (x : PoolView) → get_elem? now i ≡ some x → Fits key s.words x
  fits i x e = elim (from i x e) [
    | untouched a n ↦ holds.views i x a
    | rest a b ↦ subst (Fits key s.words) b (record { number = λ m c. f.number m (in_left m c); blank = λ z. refl; knows = f.knows; has = λ u c. absurd (nothing_had v u idle c) })
    | new a b ↦ subst (Fits key s.words) b (record {
      number = λ m c. f.number m (subst (λ ns. Contains ns m) (sym numbers) (subst (Contains (k ∷ (j ∷ ks))) (sym (in_right m c)) (contains_first k (j ∷ ks))));
      blank = λ z. absurd (let y : k ∷ [] ≡ [] = sym right_is ∙ z in cc);
      knows = f.knows;
      has = λ u c. absurd (nothing_had v u idle c);
    })
  ]

  -- a number is that of a view that was there, and not both the first and another one of this seat
  not_both : (m : ℕ) → Contains left.numbers m → Contains right.numbers m → ⊥
  not_both m l r = once (subst (Contains (j ∷ ks)) (in_right m r) (subst (λ ns. Contains ns m) left_is l))

  data Origin (i m : ℕ) : Type 0 where
    elsewhere : (x : PoolView) → get_elem? s.views i ≡ some x → i ≢ id → Contains x.numbers m → Origin i m
    in_rest : i ≡ id → Contains left.numbers m → Origin i m
    in_new : i ≡ length half → Contains right.numbers m → Origin i m

  origin : (i m : ℕ) (x : PoolView) → get_elem? now i ≡ some x → Contains x.numbers m → Origin i m
  origin i m x e c = elim (from i x e) [
    | untouched a n ↦ elsewhere x a n c
    | rest a b ↦ in_rest a (subst (λ (y : PoolView). Contains y.numbers m) (sym b) c)
    | new a b ↦ in_new a (subst (λ (y : PoolView). Contains y.numbers m) (sym b) c)
  ]

  right_mine : (m : ℕ) → Contains right.numbers m → Contains v.numbers m
  right_mine m c = subst (λ ns. Contains ns m) (sym numbers) (subst (Contains (k ∷ (j ∷ ks))) (sym (in_right m c)) (contains_first k (j ∷ ks)))

  one : (a b m : ℕ) → Origin a m → Origin b m → a ≡ b
  one a b m (elsewhere x e n c) (elsewhere y f o d) = holds.one_view a b m x y e f c d
  one a b m (elsewhere x e n c) (in_rest f d) = absurd (n (holds.one_view a id m x v e at c (in_left m d)))
  one a b m (elsewhere x e n c) (in_new f d) = absurd (n (holds.one_view a id m x v e at c (right_mine m d)))
  one a b m (in_rest e c) (elsewhere y f o d) = absurd (o (holds.one_view b id m y v f at d (in_left m c)))
  one a b m (in_rest e c) (in_rest f d) = e ∙ sym f
  one a b m (in_rest e c) (in_new f d) = absurd (not_both m c d)
  one a b m (in_new e c) (elsewhere y f o d) = absurd (o (holds.one_view b id m y v f at d (right_mine m c)))
  one a b m (in_new e c) (in_rest f d) = absurd (not_both m d c)
  one a b m (in_new e c) (in_new f d) = e ∙ sym f

  apart : (a b m : ℕ) (x y : PoolView) → get_elem? now a ≡ some x → get_elem? now b ≡ some y → Contains x.numbers m → Contains y.numbers m → a ≡ b
  apart a b m x y e f c d = one a b m (origin a m x e c) (origin b m y f d)

pub splits_off :
    {R : Type 0} (number_of : R → ℕ) (key : PoolSetting) (id : ℕ) (v : PoolView) (k j : ℕ) (ks : List ℕ) → v.numbers ≡ k ∷ (j ∷ ks) → (Contains (j ∷ ks) k → ⊥) → v.has ≡ [] →
    Splits (PoolHolds number_of key) id v (left_over v) (split_off v)
splits_off number_of key id v k j ks numbers once idle s holds at =
    rearranged number_of key s holds (set s.views id (left_over v) ++ split_off v ∷ []) (re number_of key id v k j ks numbers once idle s holds at)
    (fits number_of key id v k j ks numbers once idle s holds at) (apart number_of key id v k j ks numbers once idle s holds at)

-- a seat that has nothing takes in another one that has nothing
module _
    {R : Type 0} (number_of : R → ℕ) (key : PoolSetting) (id other : ℕ) (v w : PoolView) (k : ℕ) (mine : Contains v.numbers k) (idle : v.has ≡ []) (idle' : w.has ≡ [])
    (s : State (Option R) PoolView) (holds : PoolHolds number_of key s) (at : get_elem? s.views id ≡ some v) (apart' : (other ≡ id) → ⊥)
    (there : get_elem? s.views other ≡ some w) where
  abbrev both : PoolView
  both = joined v w

  abbrev first_set : List PoolView
  first_set = set s.views id both

  abbrev joined_views : List PoolView
  joined_views = set first_set other blank_view

  data Comes (i : ℕ) (x : PoolView) : Type 0 where
    as_before : get_elem? s.views i ≡ some x → i ≢ id → i ≢ other → Comes i x
    as_both : i ≡ id → both ≡ x → Comes i x
    as_spent : blank_view ≡ x → Comes i x

  comes : (i : ℕ) (x : PoolView) → get_elem? joined_views i ≡ some x → Comes i x
  comes i x e = elim (at_set first_set other i blank_view x e) [
    | inl a ↦ as_spent a.1
    | inr a ↦ elim (at_set s.views id i both x a.1) [
      | inl b ↦ as_both b.0 b.1
      | inr b ↦ as_before b.1 b.0 a.0
    ]
  ]

  both_there : get_elem? joined_views id ≡ some both
  both_there = set_else first_set other id blank_view (λ e. apart' (sym e)) ∙ set_here s.views id both (found_within s.views id v at)

  stays : (i : ℕ) (x : PoolView) → get_elem? s.views i ≡ some x → i ≢ id → i ≢ other → get_elem? joined_views i ≡ some x
  stays i x e n o = set_else first_set other i blank_view o ∙ set_else s.views id i both n ∙ e

  is_first : (i : ℕ) (x : PoolView) → get_elem? s.views i ≡ some x → i ≡ id → x ≡ v
  is_first i x e same = some-injective x v (sym e ∙ ap (get_elem? s.views) same ∙ at)

  is_second : (i : ℕ) (x : PoolView) → get_elem? s.views i ≡ some x → i ≡ other → x ≡ w
  is_second i x e same = some-injective x w (sym e ∙ ap (get_elem? s.views) same ∙ there)

  rearranges : Rearranges s.views joined_views
  rearranges = record {
    placed = λ u p. elim (comes p.index p.view p.found) [
      | as_before e n o ↦ record { index = p.index; view = p.view; found = e; placed = p.placed }
      | as_both e x ↦ elim (Contains-append_cases v.placed w.placed u (subst (λ (y : PoolView). Contains y.placed u) (sym x) p.placed)) [
        | inl c ↦ record { index = id; view = v; found = at; placed = c }
        | inr c ↦ record { index = other; view = w; found = there; placed = c }
      ]
      | as_spent x ↦ absurd (contains_none u (subst (λ (y : PoolView). Contains y.placed u) (sym x) p.placed))
    ];
    placed_still = λ u p. elim (cases_eq p.index id) [
      | inl e ↦ record {
        index = id;
        view = both;
        found = both_there;
        placed = Contains-append_left v.placed w.placed u
            (subst (λ (y : PoolView). Contains y.placed u) (is_first p.index p.view p.found e) p.placed);
      }
      | inr n ↦ elim (cases_eq p.index other) [
        | inl e ↦ record {
          index = id;
          view = both;
          found = both_there;
          placed = Contains-append_right v.placed w.placed u
              (subst (λ (y : PoolView). Contains y.placed u) (is_second p.index p.view p.found e) p.placed);
        }
        | inr o ↦ record { index = p.index; view = p.view; found = stays p.index p.view p.found n o; placed = p.placed }
      ]
    ];
    had_still = λ i u h. elim (cases_eq h.index id) [
      | inl e ↦ absurd (nothing_had v u idle (subst (λ (y : PoolView). Contains y.has u) (is_first h.index h.view h.found e) h.has))
      | inr n ↦ elim (cases_eq h.index other) [
        | inl e ↦ absurd (nothing_had w u idle' (subst (λ (y : PoolView). Contains y.has u) (is_second h.index h.view h.found e) h.has))
        | inr o ↦ record { index = h.index; view = h.view; found = stays h.index h.view h.found n o; number = h.number; has = h.has }
      ]
    ];
  }

  both_fits : Fits key s.words both
  both_fits =
      let f = holds.views id v at in
      let g = holds.views other w there in
      record {
        number = λ m c. elim (Contains-append_cases v.numbers w.numbers m c) [
          | inl a ↦ f.number m a
          | inr b ↦ ((g.number m b).0, (f.number k mine).1)
        ];
        blank = λ e. absurd (contains_none k (subst (λ ns. Contains ns k) e (Contains-append_left v.numbers w.numbers k mine)));
        knows = λ u c. elim (Contains-append_cases v.knows w.knows u c) [
          | inl a ↦ f.knows u a
          | inr b ↦ g.knows u b
        ];
        has = λ u c. absurd (nothing_had v u idle c);
      }

  spent_fits : Fits key s.words blank_view
  spent_fits = record { number = λ m c. absurd (contains_none m c); blank = λ e. refl; knows = λ u c. absurd (contains_none u c); has = λ u c. absurd (contains_none u c) }

  all_fit : (i : ℕ) (x : PoolView) → get_elem? joined_views i ≡ some x → Fits key s.words x
  all_fit i x e = elim (comes i x e) [
    | as_before a n o ↦ holds.views i x a
    | as_both a b ↦ subst (Fits key s.words) b both_fits
    | as_spent b ↦ subst (Fits key s.words) b spent_fits
  ]

  data Stems (i m : ℕ) : Type 0 where
    from_before : (x : PoolView) → get_elem? s.views i ≡ some x → i ≢ id → i ≢ other → Contains x.numbers m → Stems i m
    from_first : i ≡ id → Contains v.numbers m → Stems i m
    from_second : i ≡ id → Contains w.numbers m → Stems i m

  stems : (i m : ℕ) (x : PoolView) → get_elem? joined_views i ≡ some x → Contains x.numbers m → Stems i m
  stems i m x e c = elim (comes i x e) [
    | as_before a n o ↦ from_before x a n o c
    | as_both a b ↦ elim (Contains-append_cases v.numbers w.numbers m (subst (λ (y : PoolView). Contains y.numbers m) (sym b) c)) [
      | inl d ↦ from_first a d
      | inr d ↦ from_second a d
    ]
    | as_spent b ↦ absurd (contains_none m (subst (λ (y : PoolView). Contains y.numbers m) (sym b) c))
  ]

  meets : (a b m : ℕ) → Stems a m → Stems b m → a ≡ b
  meets a b m (from_before x e n o c) (from_before y f p q d) = holds.one_view a b m x y e f c d
  meets a b m (from_before x e n o c) (from_first f d) = absurd (n (holds.one_view a id m x v e at c d))
  meets a b m (from_before x e n o c) (from_second f d) = absurd (o (holds.one_view a other m x w e there c d))
  meets a b m (from_first e c) (from_before y f p q d) = absurd (p (holds.one_view b id m y v f at d c))
  meets a b m (from_first e c) (from_first f d) = e ∙ sym f
  meets a b m (from_first e c) (from_second f d) = e ∙ sym f
  meets a b m (from_second e c) (from_before y f p q d) = absurd (q (holds.one_view b other m y w f there d c))
  meets a b m (from_second e c) (from_first f d) = e ∙ sym f
  meets a b m (from_second e c) (from_second f d) = e ∙ sym f

  all_joined : PoolHolds number_of key (record { words = s.words; homes = s.homes; views = joined_views })
  all_joined = rearranged number_of key s holds joined_views rearranges all_fit (λ a b m x y e f c d. meets a b m (stems a m x e c) (stems b m y f d))

pub joins_in :
    {R : Type 0} (number_of : R → ℕ) (key : PoolSetting) (id other : ℕ) (v w : PoolView) (k : ℕ) → Contains v.numbers k → v.has ≡ [] → w.has ≡ [] →
    Joins (PoolHolds number_of key) id v other w (joined v w) blank_view
joins_in number_of key id other v w k mine idle idle' s holds at apart' found =
    all_joined number_of key id other v w k mine idle idle' s holds at apart' (sym (set_else s.views id other (joined v w) apart') ∙ found)
