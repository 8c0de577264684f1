-- Whoever is stuck in a mix of first lines of a lasting trace has no more lines in that trace.
use Rattle.std.proofs.Common.{◌≡◌, ℕ, ◌<◌, ◌≤◌, Bool, true, false, ◌&&◌, ◌||◌, not, Option, List, [], ◌∷◌, ◌++◌, length, refl, sym, ◌∙◌, ap, subst, inl, inr, ◌⊎◌, arith, append_assoc, length-append, drop}
use Rattle.std.specs.Prelude.{Contains, bytes_eq, eqb, filter, map}
use Rattle.std.specs.List.{list_any}
use Rattle.std.specs.Map.{lookup}
use Rattle.std.proofs.lemmas.Bool.{cases_Bool, cases_lt, and_from, and_parts, not_from_false, or_cases, or_left, or_right, eq-eqb, eqb-true, cond-true, cond-false}
use Rattle.std.proofs.lemmas.Slice.Eq.{bytes_eq-Decides}
use Rattle.std.proofs.lemmas.List.Elements.{Contains-append_left}
use Rattle.std.proofs.Math.Seq.{drop-append_seam}
use Rattle.armus_base.proofs.Elements.{from_map, in_map, nothing_in_nil}
use Rattle.monitor_laws.specs.Lines.{Announcement, Joins, Arrives, Leaves, Waits, Goes, Ends, Stands, TraceLine, SaysNothing, AsksReport, AsksList, AreGone, Announces, PlaysAny, PlaysOneOf}
use Rattle.monitor_laws.specs.States.{Condition, Running, Waiting, Ended, AnyTask, OneOf, Participant, TraceState, after_lines, announced_by, is_live_task, is_live_wildcard, is_there_as, new_participant, placed_at, stays_listed, with_named}
use Rattle.monitor_laws.specs.Faults.{faults_of, is_go, participant_in, waits_now}
use Rattle.monitor_laws.specs.Stuck.{IsClosedSet, IsKeptIn, IsStuck, has_phase_below, is_phase_below}
use Rattle.monitor_laws.specs.Traces.{HasNoWildcard, IsLasting, IsLegalTrace, IsMixedFrom, NobodyIsBelow, WasPassed, is_line_of}
use Rattle.monitor_laws.specs.Laws.{own_list, unnumbered}
use Rattle.monitor_laws.proofs.Changes.{changed_there, from_change, from_named, in_change, in_named, other_is, there_is}
use Rattle.monitor_laws.proofs.Filters.{any_from, any_is, from_filter, in_filter}
use Rattle.monitor_laws.proofs.Lawful.{lawful_lines, placed_condition, placed_phases}
use Rattle.monitor_laws.proofs.Lasting.{lasting_now}
use Rattle.monitor_laws.proofs.OwnLines.{kept, left_out, own_after, own_lines, own_named}
use Rattle.monitor_laws.proofs.Rows.{has_no_fault, member_stays, name_is, named_is}

-- two ends of one list that are of the same length
pub same_end : {A : Type 0} (more later a b : List A) → more ++ a ≡ later ++ b → length a ≡ length b → a ≡ b
same_end more later a b e same =
    let long : length (more ++ a) ≡ length (later ++ b) = ap length e in
    let one = length-append more a in
    let two = length-append later b in
    let equal : length more ≡ length later = omega arith in
    sym (drop-append_seam more a) ∙ ap (drop (length more)) e ∙ ap (λ k. drop k (later ++ b)) equal ∙ drop-append_seam later b

-- who is listed in one state is so in another, where both have the same of the name
pub in_both : (s r : TraceState) (x : List ℕ) → own_list s x ≡ own_list r x → (v : Participant) → Contains s.list v → bytes_eq x v.name ≡ true → (w : Participant) × Contains r.list w × (unnumbered w ≡ unnumbered v)
in_both s r x same v within of =
    let here : Contains (own_list s x) (unnumbered v) = in_map unnumbered (filter (λ u. bytes_eq x u.name) s.list) v (in_filter (λ u. bytes_eq x u.name) s.list v within of) in
    let m = from_map unnumbered (filter (λ u. bytes_eq x u.name) r.list) (unnumbered v) (subst (λ l. Contains l (unnumbered v)) same here) in
    (m.0, (from_filter (λ u. bytes_eq x u.name) r.list m.0 m.1).0, m.2)

pub same_condition : (w v : Participant) → unnumbered w ≡ unnumbered v → w.condition ≡ v.condition
same_condition w v e = ap (λ (x : Participant). x.condition) e

pub same_name : (w v : Participant) → unnumbered w ≡ unnumbered v → w.name ≡ v.name
same_name w v e = ap (λ (x : Participant). x.name) e

pub same_below : (w v : Participant) (p : List ℕ) (n : ℕ) → unnumbered w ≡ unnumbered v → has_phase_below v p n ≡ true → has_phase_below w p n ≡ true
same_below w v p n e below = ap (λ (x : Participant). has_phase_below x p n) e ∙ below

-- where nobody is named as a wildcard there is none
no_wildcard_there : (h : List TraceLine) → HasNoWildcard h → (u : Participant) → Contains (after_lines h).list u → is_live_wildcard u.condition ≡ false
no_wildcard_there [] none u within = absurd (nothing_in_nil u within)
no_wildcard_there (SaysNothing ∷ h) none u within = no_wildcard_there h none.0 u within
no_wildcard_there (AsksReport ∷ h) none u within = no_wildcard_there h none.0 u within
no_wildcard_there (AsksList ∷ h) none u within = no_wildcard_there h none.0 u within
no_wildcard_there (AreGone beginning ∷ h) none u within = absurd (let e = none.1 in cc)
no_wildcard_there (PlaysAny w ∷ h) none u within = absurd (let e = none.1 in cc)
no_wildcard_there (PlaysOneOf w names ∷ h) none u within = absurd (let e = none.1 in cc)
no_wildcard_there (Announces t what place ∷ h) none u within = go (no_wildcard_there h none.0)
  where
    said : (x : Announcement) (v : Participant) → is_live_wildcard v.condition ≡ false → is_live_wildcard (announced_by x v).condition ≡ false
    said (Joins p n) v e = e
    said (Arrives p) v e = e
    said (Leaves p) v e = e
    said (Waits p n) v e = refl
    said Goes v e = refl
    said Ends v e = refl
    said Stands v e = e

    go : ((v : Participant) → Contains (after_lines h).list v → is_live_wildcard v.condition ≡ false) → is_live_wildcard u.condition ≡ false
    go before =
        let m = from_change (changed_there t (λ v. placed_at place (announced_by what v))) (with_named (after_lines h) t) u within in
        let was : is_live_wildcard m.0.condition ≡ false = elim (from_named (after_lines h) t m.0 m.1) [
          | inl old ↦ before m.0 old
          | inr new ↦ ap (λ (x : Participant). is_live_wildcard x.condition) new.1
        ] in
        ap (λ (x : Participant). is_live_wildcard x.condition) (sym m.2) ∙ elim (cases_Bool (is_there_as t m.0)) [
          | inl there ↦
              ap (λ (x : Participant). is_live_wildcard x.condition) (there_is t (λ v. placed_at place (announced_by what v)) m.0 there)
              ∙ ap is_live_wildcard (placed_condition place (announced_by what m.0)) ∙ said what m.0 was
          | inr other ↦ ap (λ (x : Participant). is_live_wildcard x.condition) (other_is t (λ v. placed_at place (announced_by what v)) m.0 other) ∙ was
        ]

-- who has ended stays along lines of the name
own_stays : (t : List ℕ) (ls : List TraceLine) (v : Participant) → Contains (own_after t ls) v → stays_listed v ≡ true
own_stays t [] v within = absurd (nothing_in_nil v within)
own_stays t (SaysNothing ∷ ls) v within = own_stays t ls v within
own_stays t (AsksReport ∷ ls) v within = own_stays t ls v within
own_stays t (AsksList ∷ ls) v within = own_stays t ls v within
own_stays t (AreGone beginning ∷ ls) v within = own_stays t ls v within
own_stays t (PlaysAny w ∷ ls) v within = own_stays t ls v within
own_stays t (PlaysOneOf w names ∷ ls) v within = own_stays t ls v within
own_stays t (Announces u what place ∷ ls) v within =
    (from_filter stays_listed (map (changed_there t (λ x. placed_at place (announced_by what x))) (own_named t (own_after t ls))) v within).1

in_own_named : (t : List ℕ) (l : List Participant) (v : Participant) → Contains l v → Contains (own_named t l) v
in_own_named t l v within = elim (cases_Bool (list_any (is_there_as t) l)) [
  | inl there ↦ subst (λ x. Contains x v) (sym (cond-true (list_any (is_there_as t) l) l (l ++ new_participant 0 t ∷ []) there)) within
  | inr none ↦ subst (λ x. Contains x v) (sym (cond-false (list_any (is_there_as t) l) l (l ++ new_participant 0 t ∷ []) none)) (Contains-append_left l (new_participant 0 t ∷ []) v within)
]

ended_stays : (t : List ℕ) (later ls : List TraceLine) (v : Participant) → v.condition ≡ Ended → Contains (own_after t ls) v → Contains (own_after t (later ++ ls)) v
ended_stays t [] ls v ended within = within
ended_stays t (SaysNothing ∷ later) ls v ended within = ended_stays t later ls v ended within
ended_stays t (AsksReport ∷ later) ls v ended within = ended_stays t later ls v ended within
ended_stays t (AsksList ∷ later) ls v ended within = ended_stays t later ls v ended within
ended_stays t (AreGone beginning ∷ later) ls v ended within = ended_stays t later ls v ended within
ended_stays t (PlaysAny w ∷ later) ls v ended within = ended_stays t later ls v ended within
ended_stays t (PlaysOneOf w names ∷ later) ls v ended within = ended_stays t later ls v ended within
ended_stays t (Announces u what place ∷ later) ls v ended within = go (ended_stays t later ls v ended within)
  where
    change : Participant → Participant
    change x = placed_at place (announced_by what x)

    not_there : is_there_as t v ≡ false
    not_there = subst (λ c. ((is_live_task c || is_live_wildcard c) && bytes_eq t v.name) ≡ false) (sym ended) refl

    go : Contains (own_after t (later ++ ls)) v → Contains (own_after t ((Announces u what place ∷ later) ++ ls)) v
    go before =
        in_filter stays_listed (map (changed_there t change) (own_named t (own_after t (later ++ ls)))) v
        (subst (λ x. Contains (map (changed_there t change) (own_named t (own_after t (later ++ ls)))) x) (other_is t change v not_there)
        (in_map (changed_there t change) (own_named t (own_after t (later ++ ls))) v (in_own_named t (own_after t (later ++ ls)) v before)))
        (own_stays t (later ++ ls) v before)

-- what has ended in a mix of first lines has ended in the trace
pub ended_in_whole :
    (h c : List TraceLine) → HasNoWildcard h → HasNoWildcard c → IsMixedFrom c h → (v : Participant) → Contains (after_lines c).list v → v.condition ≡ Ended →
    (w : Participant) × Contains (after_lines h).list w × (unnumbered w ≡ unnumbered v)
ended_in_whole h c h_none c_none mixed v within ended =
    let x = v.name in
    let of = (bytes_eq-Decides x x).1 refl in
    let here : Contains (own_list (after_lines c) x) (unnumbered v) = in_map unnumbered (filter (λ u. bytes_eq x u.name) (after_lines c).list) v (in_filter (λ u. bytes_eq x u.name) (after_lines c).list v within of) in
    let own : Contains (own_after x (filter (is_line_of x) c)) (unnumbered v) = subst (λ l. Contains l (unnumbered v)) (own_lines c c_none x) here in
    let later = ended_stays x (mixed x).0 (filter (is_line_of x) c) (unnumbered v) ended own in
    let there : Contains (own_list (after_lines h) x) (unnumbered v) = subst (λ l. Contains l (unnumbered v)) (ap (own_after x) (sym (mixed x).1) ∙ sym (own_lines h h_none x)) later in
    let m = from_map unnumbered (filter (λ u. bytes_eq x u.name) (after_lines h).list) (unnumbered v) there in
    (m.0, (from_filter (λ u. bytes_eq x u.name) (after_lines h).list m.0 m.1).0, m.2)

module _
    (c : List TraceLine) (c_none : HasNoWildcard c) (set : ℕ → Bool) (closed : IsClosedSet (after_lines c) set) where
  abbrev pub lines_of : List ℕ → List TraceLine → List TraceLine
  lines_of x h = filter (is_line_of x) h

  -- the names of those who wait in the set
  abbrev pub waits_as : List ℕ → Participant → Bool
  waits_as x u = is_there_as x u && (waits_now u.condition && set u.number)

  abbrev pub has_waiting : List ℕ → Bool
  has_waiting x = list_any (waits_as x) (after_lines c).list

  -- who waits in the set, and who keeps him waiting: one who has ended, or one who waits in the set
  record IsHeldBy (x : List ℕ) : Type 0 where
    task : Participant
    within : Contains (after_lines c).list task
    there : is_there_as x task ≡ true
    p : List ℕ
    n : ℕ
    waits : task.condition ≡ Waiting p n
    by : Participant
    by_within : Contains (after_lines c).list by
    below : has_phase_below by p n ≡ true
    kind : (by.condition ≡ Ended) ⊎ ((has_waiting by.name ≡ true) × (is_there_as by.name by ≡ true) × (waits_now by.condition ≡ true))

  waits_is : (k : Condition) → waits_now k ≡ true → (p : List ℕ) × (n : ℕ) × (k ≡ Waiting p n)
  waits_is Running e = absurd (cc)
  waits_is (Waiting p n) e = (p, n, refl)
  waits_is Ended e = absurd (cc)
  waits_is AnyTask e = absurd (cc)
  waits_is (OneOf names tasks) e = absurd (cc)

  pub has_waiting_from : (u : Participant) → Contains (after_lines c).list u → (p : List ℕ) (n : ℕ) → u.condition ≡ Waiting p n → set u.number ≡ true → (has_waiting u.name ≡ true) × (is_there_as u.name u ≡ true) × (waits_now u.condition ≡ true)
  has_waiting_from u within p n waits inside =
      let there : is_there_as u.name u ≡ true = and_from (is_live_task u.condition || is_live_wildcard u.condition) (bytes_eq u.name u.name) (subst (λ k. (is_live_task k || is_live_wildcard k) ≡ true) (sym waits) refl) ((bytes_eq-Decides u.name u.name).1 refl) in
      (any_from (waits_as u.name) (after_lines c).list u within (and_from (is_there_as u.name u) (waits_now u.condition && set u.number) there (and_from (waits_now u.condition) (set u.number) (ap waits_now waits) inside)), there, ap waits_now waits)

  kind_of : (v : Participant) → Contains (after_lines c).list v → set v.number ≡ true → (k : Condition) → v.condition ≡ k → (v.condition ≡ Ended) ⊎ ((has_waiting v.name ≡ true) × (is_there_as v.name v ≡ true) × (waits_now v.condition ≡ true))
  kind_of v within inside Running is = absurd (subst (λ k. IsKeptIn (after_lines c) set k) is (closed v within inside))
  kind_of v within inside (Waiting p n) is = inr (has_waiting_from v within p n is inside)
  kind_of v within inside Ended is = inl is
  kind_of v within inside AnyTask is = absurd (let e = no_wildcard_there c c_none v within in let f = ap is_live_wildcard is in cc)
  kind_of v within inside (OneOf names tasks) is = absurd (let e = no_wildcard_there c c_none v within in let f = ap is_live_wildcard is in cc)

  each : (x : List ℕ) → has_waiting x ≡ true → IsHeldBy x
  each x inside =
      let u = any_is (waits_as x) (after_lines c).list inside in
      let parts = and_parts (is_there_as x u.0) (waits_now u.0.condition && set u.0.number) u.2 in
      let more = and_parts (waits_now u.0.condition) (set u.0.number) parts.1 in
      let w = waits_is u.0.condition more.0 in
      let keeper : IsKeptIn (after_lines c) set (Waiting w.0 w.1) = subst (λ k. IsKeptIn (after_lines c) set k) w.2 (closed u.0 u.1 more.1) in
      record {
        task = u.0;
        within = u.1;
        there = parts.0;
        p = w.0;
        n = w.1;
        waits = w.2;
        by = keeper.0;
        by_within = keeper.1;
        below = keeper.2;
        kind = kind_of keeper.0 keeper.1 keeper.3 keeper.0.condition refl;
      }

  -- in a trace of which c is a mix of first lines
  module _ (whole : List TraceLine) (whole_none : HasNoWildcard whole) (whole_lasting : IsLasting whole) (mixed : IsMixedFrom c whole) where
    -- what has been said with a name of the set in h, and in c, are first lines of the same
    abbrev OnWay : List TraceLine → Type 0
    OnWay h = (x : List ℕ) → has_waiting x ≡ true → (more : List TraceLine) × (later : List TraceLine) × (more ++ lines_of x h ≡ later ++ lines_of x c)

    on_way_before : (l : TraceLine) (h : List TraceLine) → OnWay (l ∷ h) → OnWay h
    on_way_before l h way x inside =
        let (more, later, is) = way x inside in
        elim (cases_Bool (is_line_of x l)) [
          | inl own ↦ (more ++ l ∷ [], later, append_assoc more (l ∷ []) (lines_of x h) ∙ ap (λ k. more ++ k) (sym (kept (is_line_of x) l h own)) ∙ is)
          | inr other ↦ (more, later, ap (λ k. more ++ k) (sym (left_out (is_line_of x) l h other)) ∙ is)
        ]

    -- no name of the set has more lines in h than in c
    abbrev NobodyGone : List TraceLine → Type 0
    NobodyGone h = (x : List ℕ) → has_waiting x ≡ true → length (lines_of x h) ≤ length (lines_of x c)

    -- a phase was passed below which somebody of the set is in c, who has fewer lines in h than in c
    record SomebodyLate (h : List TraceLine) : Type 0 where
      p : List ℕ
      n : ℕ
      passed : WasPassed h p n
      by : Participant
      within : Contains (after_lines c).list by
      inside : has_waiting by.name ≡ true
      late : length (lines_of by.name h) < length (lines_of by.name c)
      below : has_phase_below by p n ≡ true

    same_lines : (h : List TraceLine) → OnWay h → (x : List ℕ) → has_waiting x ≡ true → length (lines_of x h) ≡ length (lines_of x c) → lines_of x h ≡ lines_of x c
    same_lines h way x inside same = let (more, later, is) = way x inside in same_end more later (lines_of x h) (lines_of x c) is same

    -- with the same lines a name has the same state
    same_own : (h : List TraceLine) → HasNoWildcard h → (x : List ℕ) → lines_of x h ≡ lines_of x c → own_list (after_lines c) x ≡ own_list (after_lines h) x
    same_own h none x same = own_lines c c_none x ∙ ap (own_after x) (sym same) ∙ sym (own_lines h none x)

    -- below a phase that was passed is nobody who has as many lines
    settle :
        (h : List TraceLine) → HasNoWildcard h → OnWay h → (p : List ℕ) (n : ℕ) → WasPassed h p n → NobodyIsBelow (after_lines h) p n →
        (by : Participant) → Contains (after_lines c).list by → has_waiting by.name ≡ true → has_phase_below by p n ≡ true →
        length (lines_of by.name h) ≤ length (lines_of by.name c) → SomebodyLate h
    settle h none way p n passed nobody by within inside below most =
        elim (cases_lt (length (lines_of by.name h)) (length (lines_of by.name c))) [
          | inl late ↦ record { p = p; n = n; passed = passed; by = by; within = within; inside = inside; late = late; below = below }
          | inr all ↦
              absurd (let same = same_lines h way by.name inside (let e : length (lines_of by.name h) ≡ length (lines_of by.name c) = omega arith in e) in
              let w = in_both (after_lines c) (after_lines h) by.name (same_own h none by.name same) by within ((bytes_eq-Decides by.name by.name).1 refl) in
              let b = same_below w.0 by p n w.2 below in
              let o = nobody w.0 w.1 in cc)
        ]

    -- where nobody has gone, a line of a name of the set that has said all is a go, and somebody is late
    goes_first :
        (t : List ℕ) (what : Announcement) (place : Option (List ℕ)) (h : List TraceLine) → faults_of (after_lines h) (Announces t what place) ≡ [] →
        HasNoWildcard (Announces t what place ∷ h) → ((p : List ℕ) (n : ℕ) → WasPassed (Announces t what place ∷ h) p n → NobodyIsBelow (after_lines (Announces t what place ∷ h)) p n) →
        ((p : List ℕ) (n : ℕ) → WasPassed (Announces t what place ∷ h) p n → WasPassed whole p n) →
        OnWay (Announces t what place ∷ h) → NobodyGone h → has_waiting t ≡ true → lines_of t h ≡ lines_of t c → SomebodyLate (Announces t what place ∷ h)
    goes_first t what place h legal none lasting passes way nobody inside same = by_keeper (each t inside)
      where
        own : own_list (after_lines c) t ≡ own_list (after_lines h) t
        own = same_own h none.0 t same

        change : Participant → Participant
        change u = placed_at place (announced_by what u)

        by_keeper : IsHeldBy t → SomebodyLate (Announces t what place ∷ h)
        by_keeper held =
            let name = name_is t held.task held.there in
            let u = in_both (after_lines c) (after_lines h) t own held.task held.within ((bytes_eq-Decides t held.task.name).1 name) in
            let waiting : u.0.condition ≡ Waiting held.p held.n = same_condition u.0 held.task u.2 ∙ held.waits in
            let u_name : t ≡ u.0.name = name ∙ sym (same_name u.0 held.task u.2) in
            let there : is_there_as t u.0 ≡ true = and_from (is_live_task u.0.condition || is_live_wildcard u.0.condition) (bytes_eq t u.0.name) (subst (λ k. (is_live_task k || is_live_wildcard k) ≡ true) (sym waiting) refl) ((bytes_eq-Decides t u.0.name).1 u_name) in
            let goes : what ≡ Goes = is_goes u.0 u.1 there held.p held.n waiting in
            let passed : WasPassed (Announces t what place ∷ h) held.p held.n = inr (u.0, place, ap (λ x. Announces x what place) u_name ∙ ap (λ x. Announces u.0.name x place) goes, u.1, waiting) in
            elim held.kind [
              | inl ended ↦
                  absurd (let w = ended_in_whole whole c whole_none c_none mixed held.by held.by_within ended in
                  let b = same_below w.0 held.by held.p held.n w.2 held.below in
                  let o = lasting_now whole whole_lasting held.p held.n (passes held.p held.n passed) w.0 w.1 in cc)
              | inr waits ↦ by_name held goes passed waits (cases_Bool (bytes_eq held.by.name t))
            ]
          where
            is_goes : (u : Participant) → Contains (after_lines h).list u → is_there_as t u ≡ true → (p : List ℕ) (n : ℕ) → u.condition ≡ Waiting p n → what ≡ Goes
            is_goes u within there p n waits =
                elim (cases_Bool (is_go what)) [
                  | inl go ↦ only_go what go
                  | inr other ↦
                      absurd (let w : waits_now (participant_in (after_lines h) t).condition ≡ true = ap (λ (x : Participant). waits_now x.condition) (named_is (after_lines h) (lawful_lines h) t u within there) ∙ ap waits_now waits in
                      let both = and_from (waits_now (participant_in (after_lines h) t).condition) (not (is_go what)) w (not_from_false (is_go what) other) in
                      let free = (has_no_fault (after_lines h) t what place legal).no_wait in cc)
                ]
              where
                only_go : (x : Announcement) → is_go x ≡ true → x ≡ Goes
                only_go Goes e = refl
                only_go (Joins q m) e = absurd (cc)
                only_go (Arrives q) e = absurd (cc)
                only_go (Leaves q) e = absurd (cc)
                only_go (Waits q m) e = absurd (cc)
                only_go Ends e = absurd (cc)
                only_go Stands e = absurd (cc)

            by_name : (held : IsHeldBy t) → what ≡ Goes → WasPassed (Announces t what place ∷ h) held.p held.n → (has_waiting held.by.name ≡ true) × (is_there_as held.by.name held.by ≡ true) × (waits_now held.by.condition ≡ true) → ((bytes_eq held.by.name t ≡ true) ⊎ (bytes_eq held.by.name t ≡ false)) → SomebodyLate (Announces t what place ∷ h)
            by_name held goes passed waits (inl own_name) =
                absurd (let e : held.by.name ≡ t = (bytes_eq-Decides held.by.name t).0 own_name in
                let w = in_both (after_lines c) (after_lines h) t own held.by held.by_within ((bytes_eq-Decides t held.by.name).1 (sym e)) in
                let b = same_below w.0 held.by held.p held.n w.2 held.below in
                let phases : (changed_there t change w.0).phases ≡ w.0.phases = elim (cases_Bool (is_there_as t w.0)) [
                  | inl there ↦ ap (λ (x : Participant). x.phases) (there_is t change w.0 there) ∙ placed_phases place (announced_by what w.0) ∙ ap (λ x. (announced_by x w.0).phases) goes
                  | inr other ↦ ap (λ (x : Participant). x.phases) (other_is t change w.0 other)
                ] in
                let now : has_phase_below (changed_there t change w.0) held.p held.n ≡ true = ap (λ k. is_phase_below (lookup (bytes_eq held.p) k) held.n) phases ∙ b in
                let there = in_change (changed_there t change) (with_named (after_lines h) t) w.0 (in_named (after_lines h) t w.0 w.1) (member_stays (changed_there t change w.0) held.p held.n now) in
                let o = lasting held.p held.n passed (changed_there t change w.0) there in cc)
            by_name held goes passed waits (inr other) =
                settle (Announces t what place ∷ h) none way held.p held.n passed (lasting held.p held.n passed) held.by held.by_within waits.0 held.below
                (let k = nobody held.by.name waits.0 in let e = ap length (left_out (is_line_of held.by.name) (Announces t what place) h other) in omega arith)

    nobody_or_late :
        (h : List TraceLine) → IsLegalTrace h → HasNoWildcard h → IsLasting h → ((p : List ℕ) (n : ℕ) → WasPassed h p n → WasPassed whole p n) → OnWay h →
        NobodyGone h ⊎ SomebodyLate h
    nobody_or_late [] legal none lasting passes way = inl (λ x inside. omega arith)
    nobody_or_late (l ∷ h) legal none lasting passes way =
        elim (nobody_or_late h legal.0 none.0 lasting.0 (λ p n passed. passes p n (inl passed)) (on_way_before l h way)) [ inl nobody ↦ go l legal none lasting passes way nobody | inr late ↦ inr (still late) ]
      where
        still : SomebodyLate h → SomebodyLate (l ∷ h)
        still late =
            settle (l ∷ h) none way late.p late.n (inl late.passed) (lasting.1 late.p late.n (inl late.passed)) late.by late.within late.inside late.below
            (let k = late.late in
            elim (cases_Bool (is_line_of late.by.name l)) [
              | inl own ↦ (let e = ap length (kept (is_line_of late.by.name) l h own) in omega arith)
              | inr other ↦ (let e = ap length (left_out (is_line_of late.by.name) l h other) in omega arith)
            ])

        go : (m : TraceLine) → IsLegalTrace (m ∷ h) → HasNoWildcard (m ∷ h) → IsLasting (m ∷ h) → ((p : List ℕ) (n : ℕ) → WasPassed (m ∷ h) p n → WasPassed whole p n) → OnWay (m ∷ h) → NobodyGone h → NobodyGone (m ∷ h) ⊎ SomebodyLate (m ∷ h)
        go SaysNothing legal none lasting passes way nobody = inl nobody
        go AsksReport legal none lasting passes way nobody = inl nobody
        go AsksList legal none lasting passes way nobody = inl nobody
        go (AreGone beginning) legal none lasting passes way nobody = absurd (let e = none.1 in cc)
        go (PlaysAny w) legal none lasting passes way nobody = absurd (let e = none.1 in cc)
        go (PlaysOneOf w names) legal none lasting passes way nobody = absurd (let e = none.1 in cc)
        go (Announces t what place) legal none lasting passes way nobody =
            elim (cases_lt (length (lines_of t h)) (length (lines_of t c))) [
              | inl less ↦ inl (λ x inside.
                  elim (cases_Bool (bytes_eq x t)) [
                    | inl own ↦
                        (let e = ap length (kept (is_line_of x) (Announces t what place) h own) in
                        let same : x ≡ t = (bytes_eq-Decides x t).0 own in
                        let a = ap (λ y. length (lines_of y h)) same in let b = ap (λ y. length (lines_of y c)) same in omega arith)
                    | inr other ↦ (let e = ap length (left_out (is_line_of x) (Announces t what place) h other) in let m = nobody x inside in omega arith)
                  ])
              | inr not_less ↦
                  elim (cases_Bool (has_waiting t)) [
                    | inl inside ↦ inr (goes_first t what place h legal.1 none lasting.1 passes way nobody inside
                        (same_lines h (on_way_before (Announces t what place) h way) t inside (let m = nobody t inside in omega arith)))
                    | inr outside ↦ inl (λ x inside.
                        let other : bytes_eq x t ≡ false = elim (cases_Bool (bytes_eq x t)) [
                          | inl own ↦ absurd (let o = ap has_waiting ((bytes_eq-Decides x t).0 own) in cc)
                          | inr off ↦ off
                        ] in
                        let e = ap length (left_out (is_line_of x) (Announces t what place) h other) in let m = nobody x inside in omega arith)
                  ]
            ]

    -- a name of the set has no more lines in the trace
    pub says_no_more : IsLegalTrace whole → (x : List ℕ) → has_waiting x ≡ true → lines_of x whole ≡ lines_of x c
    says_no_more legal x inside =
        same_lines whole way x inside (by_claim (nobody_or_late whole legal whole_none whole_lasting (λ p n passed. passed) way))
      where
        way : OnWay whole
        way y i = ([], (mixed y).0, (mixed y).1)

        least : (y : List ℕ) → length (lines_of y c) ≤ length (lines_of y whole)
        least y = let m = mixed y in let l = length-append m.0 (lines_of y c) in let n = ap length m.1 in omega arith

        by_claim : NobodyGone whole ⊎ SomebodyLate whole → length (lines_of x whole) ≡ length (lines_of x c)
        by_claim (inl nobody) = let n = nobody x inside in let l = least x in omega arith
        by_claim (inr late) = absurd (let l = least late.by.name in let n = late.late in omega arith)

  -- who stands in the set, in a trace where the names of the set have the same states and those who have ended are listed
  module _
      (g : List TraceLine) (same : (x : List ℕ) → has_waiting x ≡ true → own_list (after_lines c) x ≡ own_list (after_lines g) x)
      (ended : (v : Participant) → Contains (after_lines c).list v → v.condition ≡ Ended → (w : Participant) × Contains (after_lines g).list w × (unnumbered w ≡ unnumbered v)) where
    abbrev has_ended : Condition → Bool
    has_ended k = not (is_live_task k || is_live_wildcard k)

    abbrev stands : ℕ → Participant → Bool
    stands k w = eqb w.number k && (has_ended w.condition || (has_waiting w.name && waits_now w.condition))

    abbrev there_set : ℕ → Bool
    there_set k = list_any (stands k) (after_lines g).list

    in_there : (w : Participant) → Contains (after_lines g).list w → (has_ended w.condition || (has_waiting w.name && waits_now w.condition)) ≡ true → there_set w.number ≡ true
    in_there w within is =
        any_from (stands w.number) (after_lines g).list w within
        (and_from (eqb w.number w.number) (has_ended w.condition || (has_waiting w.name && waits_now w.condition)) (eq-eqb w.number w.number refl) is)

    is_ended : (k : Condition) → has_ended k ≡ true → k ≡ Ended
    is_ended Running e = absurd (cc)
    is_ended (Waiting p n) e = absurd (cc)
    is_ended Ended e = refl
    is_ended AnyTask e = absurd (cc)
    is_ended (OneOf names tasks) e = absurd (cc)

    -- whoever waits in c with this name
    the_one : (x : List ℕ) (inside : has_waiting x ≡ true) (v : Participant) → Contains (after_lines c).list v → bytes_eq x v.name ≡ true → waits_now v.condition ≡ true → (each x inside).task ≡ v
    the_one x inside v within of waits =
        (lawful_lines c).one_name x (each x inside).task v (each x inside).within within (each x inside).there
        (and_from (is_live_task v.condition || is_live_wildcard v.condition) (bytes_eq x v.name) (live v.condition waits) of)
      where
        live : (k : Condition) → waits_now k ≡ true → (is_live_task k || is_live_wildcard k) ≡ true
        live Running e = refl
        live (Waiting p n) e = refl
        live Ended e = absurd (cc)
        live AnyTask e = absurd (cc)
        live (OneOf names tasks) e = absurd (cc)

    keeps_there : (x : List ℕ) (held : IsHeldBy x) → IsKeptIn (after_lines g) there_set (Waiting held.p held.n)
    keeps_there x held = elim held.kind [
      | inl over ↦
          (let w = ended held.by held.by_within over in (
            w.0,
            w.1,
            same_below w.0 held.by held.p held.n w.2 held.below,
            in_there w.0 w.1 (or_left (has_ended w.0.condition) (has_waiting w.0.name && waits_now w.0.condition) (ap has_ended (same_condition w.0 held.by w.2 ∙ over))),
          ))
      | inr waits ↦
          (let w = in_both (after_lines c) (after_lines g) held.by.name (same held.by.name waits.0) held.by held.by_within ((bytes_eq-Decides held.by.name held.by.name).1 refl) in (
            w.0,
            w.1,
            same_below w.0 held.by held.p held.n w.2 held.below,
            in_there w.0 w.1 (or_right (has_ended w.0.condition) (has_waiting w.0.name && waits_now w.0.condition)
                (and_from (has_waiting w.0.name) (waits_now w.0.condition) (ap has_waiting (same_name w.0 held.by w.2) ∙ waits.0) (ap waits_now (same_condition w.0 held.by w.2) ∙ waits.2))),
          ))
    ]

    closed_there : IsClosedSet (after_lines g) there_set
    closed_there v within inside =
        let w = any_is (stands v.number) (after_lines g).list inside in
        let parts = and_parts (eqb w.0.number v.number) (has_ended w.0.condition || (has_waiting w.0.name && waits_now w.0.condition)) w.2 in
        let one : w.0 ≡ v = (lawful_lines g).one_number w.0 v w.1 within (eqb-true w.0.number v.number parts.0) in
        elim (or_cases (has_ended w.0.condition) (has_waiting w.0.name && waits_now w.0.condition) parts.1) [
          | inl over ↦ subst (λ k. IsKeptIn (after_lines g) there_set k) (sym (ap (λ (x : Participant). x.condition) (sym one) ∙ is_ended w.0.condition over)) tt
          | inr waits ↦
              (let both = and_parts (has_waiting w.0.name) (waits_now w.0.condition) waits in
              let u = in_both (after_lines g) (after_lines c) w.0.name (sym (same w.0.name both.0)) w.0 w.1 ((bytes_eq-Decides w.0.name w.0.name).1 refl) in
              let held = each w.0.name both.0 in
              let task : held.task ≡ u.0 = the_one w.0.name both.0 u.0 u.1 ((bytes_eq-Decides w.0.name u.0.name).1 (sym (same_name u.0 w.0 u.2))) (ap waits_now (same_condition u.0 w.0 u.2) ∙ both.1) in
              let condition : v.condition ≡ Waiting held.p held.n =
              ap (λ (x : Participant). x.condition) (sym one) ∙ sym (same_condition u.0 w.0 u.2) ∙ ap (λ (x : Participant). x.condition) (sym task) ∙ held.waits in
              subst (λ k. IsKeptIn (after_lines g) there_set k) (sym condition) (keeps_there w.0.name held))
        ]

    pub stuck_there : (t : Participant) → Contains (after_lines c).list t → (p : List ℕ) (n : ℕ) → t.condition ≡ Waiting p n → set t.number ≡ true → (u : Participant) × IsStuck (after_lines g) u × (unnumbered u ≡ unnumbered t)
    stuck_there t within p n waits inside =
        let has = has_waiting_from t within p n waits inside in
        let u = in_both (after_lines c) (after_lines g) t.name (same t.name has.0) t within ((bytes_eq-Decides t.name t.name).1 refl) in
        let condition : u.0.condition ≡ Waiting p n = same_condition u.0 t u.2 ∙ waits in (
          u.0,
          record {
            listed = u.1;
            waits = (p, n, condition);
            set = there_set;
            closed = closed_there;
            inside = in_there u.0 u.1 (or_right (has_ended u.0.condition) (has_waiting u.0.name && waits_now u.0.condition)
                (and_from (has_waiting u.0.name) (waits_now u.0.condition) (ap has_waiting (same_name u.0 t u.2) ∙ has.0) (ap waits_now condition)));
          },
          u.2,
        )
