-- The walk to a cycle, on its way and where it comes back.
use Rattle.std.proofs.Common.{◌≡◌, ℕ, ◌+◌, ◌-◌, ◌<◌, Bool, true, false, List, [], ◌∷◌, ◌++◌, length, sym, ap, ◌∙◌, subst, inl, inr, arith, get_or, set, take, drop, length-append, length-drop}
use Rattle.std.specs.Prelude.{Contains, ◌↔◌}
use Rattle.std.proofs.lemmas.Bool.{cases_lt}
use Rattle.std.proofs.lemmas.List.{get_or_append_left, get_or_at, get_or-drop, take-append-drop}
use Rattle.std.proofs.lemmas.List.Elements.{Contains-append_left, Contains-push, Contains-push_cases}
use Rattle.armus_base.specs.Counts.{IsDistinct}
use Rattle.armus_base.specs.Relations.{IsWalk, IsWalkCycle}
use Rattle.armus_base.proofs.Counts.{IsDistinct-push}
use Rattle.armus_base.proofs.Lists.{set_flag}

-- a walk along R from a start has passed the nodes of a path, each once, and goes on to a node
pub record IsWalkTo {X : Type 0} (R : X → X → Type 0) (start : X) (path : List X) (node : X) : Type 0 where
  pub starts : (d : X) → 0 < length path → get_or path 0 d ≡ start
  pub none : length path ≡ 0 → node ≡ start
  pub steps : IsWalk R path
  pub next : (d : X) → 0 < length path → R (get_or path (length path - 1) d) node
  pub distinct : IsDistinct path

-- a walk that goes on to one more node
pub IsWalk-push :
    {X : Type 0} (R : X → X → Type 0) (s : List X) (x : X) → IsWalk R s → ((d : X) → 0 < length s → R (get_or s (length s - 1) d) x) →
    IsWalk R (s ++ x ∷ [])
IsWalk-push R s x all last k d lt =
    let n = length-append s (x ∷ []) in
    elim (cases_lt (k + 1) (length s)) [
      | inl in' ↦
          let a = get_or_append_left s (x ∷ []) d k (omega arith) in
          let b = get_or_append_left s (x ∷ []) d (k + 1) in' in
          rw (a, b) (all k d in')
      | inr out ↦
          let e : length s ≡ k + 1 = omega arith in
          let a = get_or_append_left s (x ∷ []) d k (omega arith) in
          let b = get_or_at s x [] d (k + 1) e in
          let f : length s - 1 ≡ k = omega arith in
          rw (a, b) (subst (λ j. R (get_or s j d) x) f (last d (omega arith)))
    ]

module _ {X : Type 0} (R : X → X → Type 0) (start : X) (path : List X) (node : X) (h : IsWalkTo R start path node) where
  pub walk_more : (next : X) → (Contains path node → ⊥) → R node next → IsWalkTo R start (path ++ node ∷ []) next
  walk_more next new step =
      let n = length-append path (node ∷ []) in
      let last : (d : X) → get_or (path ++ node ∷ []) (length (path ++ node ∷ []) - 1) d ≡ node = λ d. get_or_at path node [] d (length (path ++ node ∷ []) - 1) (omega arith) in
      record {
        starts = λ d _. elim (cases_lt 0 (length path)) [
          | inl some ↦ get_or_append_left path (node ∷ []) d 0 some ∙ h.starts d some
          | inr none ↦ get_or_at path node [] d 0 (omega arith) ∙ h.none (omega arith)
        ];
        none = λ e. absurd (omega arith);
        steps = IsWalk-push R path node h.steps h.next;
        next = λ d _. rw (last d) step;
        distinct = IsDistinct-push path node h.distinct new;
      }

  pub walk_done : (at : ℕ) → at < length path → ((d : X) → get_or path at d ≡ node) → IsWalkCycle R start (drop at path)
  walk_done at lt there =
      let whole = take-append-drop at path in
      let n = length-drop at path in
      let first : (d : X) → get_or (drop at path) 0 d ≡ node = λ d. get_or-drop at path 0 d ∙ ap (λ k. get_or path k d) (omega arith) ∙ there d in
      record {
        before = take at path;
        starts = λ d. rw whole (h.starts d (omega arith));
        steps = rw whole h.steps;
        distinct = rw whole h.distinct;
        some = omega arith;
        back = λ d. rw (whole, first d) (h.next d (omega arith));
      }

-- the flags tell which nodes stand on a path, also where one more does
pub set_flags :
    (flags : List Bool) (path : List ℕ) (node : ℕ) → node < length flags →
    ((v : ℕ) → (get_or flags v false ≡ true) ↔ Contains path v) →
    (v : ℕ) → (get_or (set flags node true) v false ≡ true) ↔ Contains (path ++ node ∷ []) v
set_flags flags path node lt marks v =
    let flag = set_flag flags node v lt in (
      λ t. elim (flag.0 t) [
        | inl e ↦ subst (λ x. Contains (path ++ node ∷ []) x) (sym e) (Contains-push path node)
        | inr o ↦ Contains-append_left path (node ∷ []) v ((marks v).0 o)
      ],
      λ m. flag.1 (elim (Contains-push_cases path node v m) [ inl l ↦ inr ((marks v).1 l) | inr e ↦ inl (sym e) ]),
    )
