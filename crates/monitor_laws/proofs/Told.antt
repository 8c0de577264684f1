-- Whoever is told is stuck in the program, nothing is taken back, and all are told.
use Rattle.std.proofs.Common.{◌≡◌, ℕ, List, [], ◌∷◌, ◌++◌, refl, sym, ◌∙◌, ap, append_assoc, length, length-append, arith}
use Rattle.std.specs.Prelude.{filter}
use Rattle.std.proofs.lemmas.List.Elements.{filter-append}
use Rattle.std.proofs.lemmas.Slice.Eq.{bytes_eq-Decides}
use Rattle.monitor_laws.specs.Lines.{TraceLine}
use Rattle.monitor_laws.specs.States.{after_lines}
use Rattle.monitor_laws.specs.Traces.{HasNoWildcard, IsMixedFrom, is_line_of}
use Rattle.monitor_laws.specs.Laws.{AllAreTold, NothingIsTakenBack, WhoIsToldIsStuck}
use Rattle.monitor_laws.proofs.OwnLines.{own_after, own_lines, same_lines_same_states}
use Rattle.monitor_laws.proofs.Mixed.{ended_in_whole, has_waiting_from, in_both, same_end, says_no_more, stuck_there}

pub who_is_told_is_stuck : WhoIsToldIsStuck
who_is_told_is_stuck h c t legal h_none c_none lasting mixed stuck =
    let (p, n, waits) = stuck.waits in
    let no_more = says_no_more c c_none stuck.set stuck.closed h h_none lasting mixed legal in (
      stuck_there c c_none stuck.set stuck.closed h
          (λ x inside. own_lines c c_none x ∙ ap (own_after x) (sym (no_more x inside)) ∙ sym (own_lines h h_none x))
          (λ v within ended. ended_in_whole h c h_none c_none mixed v within ended) t stuck.listed p n waits stuck.inside,
      no_more t.name (has_waiting_from c c_none stuck.set stuck.closed t stuck.listed p n waits stuck.inside).0,
    )

-- without wildcards before more lines
none_before : (more g : List TraceLine) → HasNoWildcard (more ++ g) → HasNoWildcard g
none_before [] g none = none
none_before (l ∷ more) g none = none_before more g none.0

-- first lines of a mix are a mix
part_is_mixed : (more g h : List TraceLine) → IsMixedFrom (more ++ g) h → IsMixedFrom g h
part_is_mixed more g h mixed t =
    let m = mixed t in
    (m.0 ++ filter (is_line_of t) more, m.1 ∙ ap (λ k. m.0 ++ k) (filter-append (is_line_of t) more g) ∙ sym (append_assoc m.0 (filter (is_line_of t) more) (filter (is_line_of t) g)))

-- two lists of which each ends in the other
as_long : (first second l k : List TraceLine) → k ≡ second ++ l → l ≡ first ++ k → l ≡ k
as_long first second l k is back =
    let one : length k ≡ length (second ++ l) = ap length is in
    let two : length l ≡ length (first ++ k) = ap length back in
    let a = length-append second l in
    let b = length-append first k in
    same_end second [] l k (sym is) (omega arith)

pub nothing_is_taken_back : NothingIsTakenBack
nothing_is_taken_back h g more t legal h_none none lasting mixed stuck =
    let g_none = none_before more g none in
    let (p, n, waits) = stuck.waits in
    let no_more = says_no_more g g_none stuck.set stuck.closed h h_none lasting (part_is_mixed more g h mixed) legal in
    stuck_there g g_none stuck.set stuck.closed (more ++ g)
    (λ x inside. own_lines g g_none x ∙ ap (own_after x) (same x (no_more x inside)) ∙ sym (own_lines (more ++ g) none x))
    (λ v within ended. ended_in_whole (more ++ g) g none g_none (λ x. (filter (is_line_of x) more, filter-append (is_line_of x) more g)) v within ended)
    t stuck.listed p n waits stuck.inside
  where
    same : (x : List ℕ) → filter (is_line_of x) h ≡ filter (is_line_of x) g → filter (is_line_of x) g ≡ filter (is_line_of x) (more ++ g)
    same x all =
        let m = mixed x in
        as_long m.0 (filter (is_line_of x) more) (filter (is_line_of x) g) (filter (is_line_of x) (more ++ g)) (filter-append (is_line_of x) more g) (sym all ∙ m.1)

pub all_are_told : AllAreTold
all_are_told h c t h_none c_none same stuck =
    let (p, n, waits) = stuck.waits in
    let states = same_lines_same_states h c h_none c_none same in
    stuck_there h h_none stuck.set stuck.closed c (λ x inside. states x)
    (λ v within ended. in_both (after_lines h) (after_lines c) v.name (states v.name) v within ((bytes_eq-Decides v.name v.name).1 refl))
    t stuck.listed p n waits stuck.inside
