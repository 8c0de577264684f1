-- Steps of a walk over pieces: where it stands after them, and what is left.
use Rattle.std.proofs.Common.{◌≡◌, ℕ, zero, suc, ◌+◌, ◌-◌, ◌<◌, ◌≤◌, ◌⊎◌, inl, inr, Option, Some, None, List, [], ◌∷◌, ◌++◌, length, reverse, take, set, get_or}
use Rattle.std.proofs.Common.{refl, sym, ap, subst, ◌∙◌, arith, append_assoc, append-nil, add-one}
use Rattle.std.specs.Prelude.{slice_get}
use Rattle.std.proofs.lemmas.List.{length-set, reverse-append, take_more, take_more_set}
use Rattle.std.proofs.lemmas.Option.{slice_get_within, some_pair_parts}
use Rattle.armus_base.specs.declared.op.Op.{Op}
use Rattle.armus_base.specs.declared.piece.Piece.{Piece}
use Rattle.armus_base.specs.declared.piece.Piece.TheVariants.{Op as Single, Repeat}
use Rattle.armus_base.specs.declared.cursor.frame.OpenRepeat.{OpenRepeat}
use Rattle.armus_base.specs.declared.cursor.position.Position.{Position}
use Rattle.armus_base.specs.calls.Pieces.{AreNested, IsFolded, max_open_repeats, ops_between, unfolded}
use Rattle.armus_base.specs.Pieces.{times}
use Rattle.armus_base.specs.inside.Positions.{AreOpen, IsBefore, IsFirst, IsInside, IsSettled, KeepsOps, StandsAt}
use Rattle.armus_base.specs.inside.Positions.{end_of_body, entered, op_of, open_frames, ops_behind, ops_left, repeat_of}
use Rattle.armus_base.proofs.Unfolding.{nested_within}
use Rattle.armus_base.proofs.Nesting.{nested_op, nested_order, nested_repeat, none_between, op_first, repeat_first}

-- ---- the Repeats that are open

-- one more
opened : (frames : List OpenRepeat) (d : ℕ) (frame : OpenRepeat) → d < length frames → reverse (take (d + 1) (set frames d frame)) ≡ frame ∷ reverse (take d frames)
opened frames d frame h = ap reverse (take_more_set frames d frame h) ∙ reverse-append (take d frames) (frame ∷ [])

-- the innermost
innermost : (frames : List OpenRepeat) (d : ℕ) (other : OpenRepeat) → d < length frames → reverse (take (d + 1) frames) ≡ get_or frames d other ∷ reverse (take d frames)
innermost frames d other h = ap reverse (take_more frames d other h) ∙ reverse-append (take d frames) (get_or frames d other ∷ [])

-- a position, by the Repeats that are open there
stands_by : (ps : List Piece) (p : Position) (d : ℕ) (frames : List OpenRepeat) → length p.frames ≡ max_open_repeats → p.depth ≤ max_open_repeats →
    max_open_repeats - p.depth ≡ d → open_frames p ≡ frames → AreNested d ps p.at (end_of_body ps frames) → AreOpen d ps frames → StandsAt ps p
stands_by ps p d frames sized deep less same here round = record {
  sized = sized;
  deep = deep;
  here = subst (λ e. AreNested e ps p.at (end_of_body ps (open_frames p))) (sym less) (subst (λ fs. AreNested d ps p.at (end_of_body ps fs)) (sym same) here);
  round = subst (λ e. AreOpen e ps (open_frames p)) (sym less) (subst (λ fs. AreOpen d ps fs) (sym same) round);
}

-- what is left there
left_by : (ps : List Piece) (p : Position) (frames : List OpenRepeat) → open_frames p ≡ frames →
    ops_left ps p ≡ ops_between ps p.at (end_of_body ps frames) ++ ops_behind ps frames
left_by ps p frames same = ap (λ fs. ops_between ps p.at (end_of_body ps fs) ++ ops_behind ps fs) same

-- ---- a walk that begins

pub first_stands : (ps : List Piece) (p : Position) → IsFolded ps → IsFirst p → StandsAt ps p
first_stands ps p folded first =
    stands_by ps p max_open_repeats [] first.sized (omega (arith, first.depth)) (omega (arith, first.depth)) (ap (λ d. reverse (take d p.frames)) first.depth)
    (subst (λ a. AreNested max_open_repeats ps a (length ps)) (sym first.at) folded.whole) tt

pub first_inside : (p : Position) → IsFirst p → IsInside p
first_inside p first = subst (λ fs. IsBefore p.at fs) (sym (ap (λ d. reverse (take d p.frames)) first.depth)) tt

pub first_left : (ps : List Piece) (p : Position) → IsFirst p → ops_left ps p ≡ unfolded ps
first_left ps p first =
    left_by ps p [] (ap (λ d. reverse (take d p.frames)) first.depth) ∙ append-nil (ops_between ps p.at (length ps))
    ∙ ap (λ a. ops_between ps a (length ps)) first.at

-- ---- a Repeat is opened

-- a walk that has a piece before it, and is not at the end of the innermost body
before_end : (ps : List Piece) (at : ℕ) (frames : List OpenRepeat) → IsBefore at frames → at < length ps → at < end_of_body ps frames
before_end ps at [] inside there = there
before_end ps at (frame ∷ frames) inside there = inside

-- the first turn, and the others
first_turn : (k : ℕ) (once rest behind : List Op) → 1 ≤ k → once ++ (times (k - 1) once ++ (rest ++ behind)) ≡ (times k once ++ rest) ++ behind
first_turn zero once rest behind h = absurd (omega arith)
first_turn (suc k) once rest behind h = let one_less : suc k - 1 ≡ k = omega arith in rw one_less (simp append_assoc)

-- what opening a Repeat needs, and what it leaves
pub record Enters (ps : List Piece) (p : Position) (k len : ℕ) : Type 0 where
  pub room : p.depth < max_open_repeats
  pub turn : 1 ≤ k
  pub fits : p.at + 1 + len ≤ length ps
  pub same : KeepsOps ps p (entered k len p)
  pub inside : IsInside (entered k len p)

pub enters : (ps : List Piece) (p : Position) (k len : ℕ) → StandsAt ps p → IsInside p →
    slice_get ps p.at ≡ Some (Repeat k len) → Enters ps p k len
enters ps p k len stands inside is =
    let at = p.at in
    let fs = open_frames p in
    let e = p.at + 1 + len in
    let place : e ≡ suc at + len = omega arith in
    let before : at < end_of_body ps fs = before_end ps at fs inside (slice_get_within ps at (Repeat k len) is) in
    let o = nested_repeat (max_open_repeats - p.depth) ps k len at e (end_of_body ps fs) is place before stands.here in
    let room : p.depth < max_open_repeats = omega (arith, o.one_more) in
    let frame : OpenRepeat = record { from = at + 1; to = e; turns = k - 1 } in
    let now : open_frames (entered k len p) ≡ frame ∷ fs = opened p.frames p.depth frame (omega (arith, stands.sized)) in
    let body : AreNested o.less ps (at + 1) e = subst (λ a. AreNested o.less ps a e) (sym (add-one at)) o.body in
    let round : AreOpen (suc o.less) ps fs = subst (λ d. AreOpen d ps fs) o.one_more stands.round in
    let longer : at + 1 < e = omega (arith, o.pieces) in
    let rest = ops_between ps e (end_of_body ps fs) in
    let first : ops_between ps at (end_of_body ps fs) ≡ times k (ops_between ps (at + 1) e) ++ rest =
    repeat_first ps k len at e (end_of_body ps fs) is place before ∙ ap (λ a. times k (ops_between ps a e) ++ rest) (sym (add-one at)) in
    let sized = length-set p.frames p.depth frame ∙ stands.sized in
    record {
      room = room;
      turn = o.turns;
      fits = nested_within o.less ps (suc at) e o.body;
      same = record {
        stands = stands_by ps (entered k len p) o.less (frame ∷ fs) sized (omega arith) (omega (arith, o.one_more)) now body (longer, body, o.behind, round);
        same = left_by ps (entered k len p) (frame ∷ fs) now
            ∙ first_turn k (ops_between ps (at + 1) e) rest (ops_behind ps fs) o.turns
            ∙ sym (ap (λ os. os ++ ops_behind ps fs) first);
      };
      inside = subst (λ gs. IsBefore (at + 1) gs) (sym now) longer;
    }

-- a Repeat was found here
repeat_of_is : (o : Option Piece) (k len : ℕ) → repeat_of o ≡ Some (k, len) → o ≡ Some (Repeat k len)
repeat_of_is None k len e = absurd (cc)
repeat_of_is (Some (Single o)) k len e = absurd (cc)
repeat_of_is (Some (Repeat j n)) k len e = let parts = some_pair_parts j k n len e in cc

pub enters_found : (ps : List Piece) (p : Position) (r : Option (ℕ × ℕ)) (k len : ℕ) → StandsAt ps p → IsInside p →
    r ≡ repeat_of (slice_get ps p.at) → r ≡ Some (k, len) → Enters ps p k len
enters_found ps p r k len stands inside is found = enters ps p k len stands inside (repeat_of_is (slice_get ps p.at) k len (sym is ∙ found))

-- ---- the innermost body ends

-- a walk at the end of a body
ended_left : (ps : List Piece) (p : Position) (frame : OpenRepeat) (frames : List OpenRepeat) → open_frames p ≡ frame ∷ frames → frame.to ≤ p.at → StandsAt ps p →
    ops_left ps p ≡ ops_behind ps (frame ∷ frames)
ended_left ps p frame frames is end stands =
    let d = max_open_repeats - p.depth in
    let here : AreNested d ps p.at frame.to = subst (λ fs. AreNested d ps p.at (end_of_body ps fs)) is stands.here in
    let there : p.at ≡ frame.to = omega (arith, nested_order d ps p.at frame.to here) in
    left_by ps p (frame ∷ frames) is ∙ ap (λ a. ops_between ps a frame.to ++ ops_behind ps (frame ∷ frames)) there
    ∙ ap (λ os. os ++ ops_behind ps (frame ∷ frames)) (none_between ps frame.to)

-- the innermost Repeat that is open, of which there is one
abbrev frame_of : Position → OpenRepeat → OpenRepeat
frame_of p other = get_or p.frames (p.depth - 1) other

-- the next turn of the innermost Repeat
abbrev pub turned : Position → OpenRepeat → Position
turned p frame = record {
  at = frame.from;
  depth = p.depth;
  frames = set p.frames (p.depth - 1) (record { from = frame.from; to = frame.to; turns = frame.turns - 1 });
}

one_turn_less : (k : ℕ) (once behind : List Op) → 0 < k → once ++ (times (k - 1) once ++ behind) ≡ times k once ++ behind
one_turn_less zero once behind h = absurd (omega arith)
one_turn_less (suc k) once behind h = let one_less : suc k - 1 ≡ k = omega arith in rw one_less (simp append_assoc)

module _ (ps : List Piece) (p : Position) (other : OpenRepeat) (some : 0 < p.depth) (stands : StandsAt ps p) where
  innermost_is : open_frames p ≡ frame_of p other ∷ reverse (take (p.depth - 1) p.frames)
  innermost_is =
      let depth : p.depth ≡ p.depth - 1 + 1 = omega arith in
      ap (λ n. reverse (take n p.frames)) depth ∙ innermost p.frames (p.depth - 1) other (omega (arith, stands.deep, stands.sized))

  -- before the end of its body
  pub inside_by : p.at < (frame_of p other).to → IsInside p
  inside_by before = subst (λ gs. IsBefore p.at gs) (sym innermost_is) before

  -- at the end of its body, with a turn left
  pub turns_again : (frame_of p other).to ≤ p.at → 0 < (frame_of p other).turns →
      KeepsOps ps p (turned p (frame_of p other)) × IsInside (turned p (frame_of p other))
  turns_again end turn =
      let frame = frame_of p other in
      let fs = reverse (take (p.depth - 1) p.frames) in
      let next : OpenRepeat = record { from = frame.from; to = frame.to; turns = frame.turns - 1 } in
      let depth : p.depth ≡ p.depth - 1 + 1 = omega arith in
      let now : open_frames (turned p frame) ≡ next ∷ fs =
      ap (λ n. reverse (take n (set p.frames (p.depth - 1) next))) depth ∙ opened p.frames (p.depth - 1) next (omega (arith, stands.deep, stands.sized)) in
      let sized = length-set p.frames (p.depth - 1) next ∙ stands.sized in
      let d = max_open_repeats - p.depth in
      let round = subst (λ gs. AreOpen d ps gs) innermost_is stands.round in (
        record {
          stands = stands_by ps (turned p frame) d (next ∷ fs) sized stands.deep refl now round.1 round;
          same = left_by ps (turned p frame) (next ∷ fs) now
              ∙ one_turn_less frame.turns (ops_between ps frame.from frame.to) (ops_between ps frame.to (end_of_body ps fs) ++ ops_behind ps fs) turn
              ∙ sym (ended_left ps p frame fs innermost_is end stands);
        },
        subst (λ gs. IsBefore frame.from gs) (sym now) round.0,
      )

  -- at the end of its body, with no turn left
  pub closes : (frame_of p other).to ≤ p.at → (frame_of p other).turns ≤ 0 → KeepsOps ps p (record p { depth = p.depth - 1 })
  closes end turn =
      let frame = frame_of p other in
      let fs = reverse (take (p.depth - 1) p.frames) in
      let none : frame.turns ≡ 0 = omega arith in
      let d = max_open_repeats - p.depth in
      let round = subst (λ gs. AreOpen d ps gs) innermost_is stands.round in
      let here : AreNested d ps p.at frame.to = subst (λ gs. AreNested d ps p.at (end_of_body ps gs)) innermost_is stands.here in
      let same_place : frame.to ≡ p.at = omega (arith, nested_order d ps p.at frame.to here) in
      let behind = subst (λ a. AreNested (suc d) ps a (end_of_body ps fs)) same_place round.2 in
      let deep : p.depth - 1 ≤ max_open_repeats = omega (arith, stands.deep) in
      let one_more : max_open_repeats - (p.depth - 1) ≡ suc d = omega (arith, stands.deep, some) in
      record {
        stands = stands_by ps (record p { depth = p.depth - 1 }) (suc d) fs stands.sized deep one_more refl behind round.3;
        same = ap (λ a. ops_between ps a (end_of_body ps fs) ++ ops_behind ps fs) (sym same_place)
            ∙ ap (λ k. times k (ops_between ps frame.from frame.to) ++ (ops_between ps frame.to (end_of_body ps fs) ++ ops_behind ps fs)) (sym none)
            ∙ sym (ended_left ps p frame fs innermost_is end stands);
      }

-- no Repeat is open
pub none_open : (p : Position) → p.depth ≤ 0 → IsInside p
none_open p none = let e : p.depth ≡ 0 = omega arith in subst (λ fs. IsBefore p.at fs) (sym (ap (λ d. reverse (take d p.frames)) e)) tt

-- ---- an op is taken

-- the op that stands here, and no Repeat
op_is : (o : Option Piece) → repeat_of o ≡ None → ((o ≡ None) × (op_of o ≡ None)) ⊎ ((x : Op) × (o ≡ Some (Single x)) × (op_of o ≡ Some x))
op_is None e = inl (refl, refl)
op_is (Some (Single x)) e = inr (x, refl, refl)
op_is (Some (Repeat k len)) e = absurd (cc)

-- this op stands here
op_of_is : (o : Option Piece) (x : Op) → op_of o ≡ Some x → o ≡ Some (Single x)
op_of_is None x e = absurd (cc)
op_of_is (Some (Single y)) x e = cc
op_of_is (Some (Repeat k len)) x e = absurd (cc)

-- what taking an op leaves
pub record Takes (ps : List Piece) (p : Position) (x : Op) : Type 0 where
  pub fits : p.at + 1 ≤ length ps
  pub stands : StandsAt ps (record p { at = p.at + 1 })
  pub left : ops_left ps p ≡ x ∷ ops_left ps (record p { at = p.at + 1 })

pub takes : (ps : List Piece) (p : Position) (x : Op) → IsSettled ps p → op_of (slice_get ps p.at) ≡ Some x → Takes ps p x
takes ps p x settled is =
    let d = max_open_repeats - p.depth in
    let fs = open_frames p in
    let e = end_of_body ps fs in
    let piece = op_of_is (slice_get ps p.at) x is in
    let there : p.at < length ps = slice_get_within ps p.at (Single x) piece in
    let before = before_end ps p.at fs settled.inside there in
    let here : AreNested d ps (p.at + 1) e = subst (λ a. AreNested d ps a e) (sym (add-one p.at)) (nested_op d ps x p.at e piece before settled.stands.here) in
    record {
      fits = omega arith;
      stands = record { sized = settled.stands.sized; deep = settled.stands.deep; here = here; round = settled.stands.round };
      left = ap (λ os. os ++ ops_behind ps fs) (op_first ps x p.at e piece before)
          ∙ ap (λ a. x ∷ (ops_between ps a e ++ ops_behind ps fs)) (sym (add-one p.at));
    }

-- no piece is left
nothing_left : (d : ℕ) (ps : List Piece) (at : ℕ) (frames : List OpenRepeat) → IsBefore at frames → AreNested d ps at (end_of_body ps frames) → length ps ≤ at →
    ops_between ps at (end_of_body ps frames) ++ ops_behind ps frames ≡ []
nothing_left d ps at [] inside here past =
    let end : at ≡ length ps = omega (arith, nested_order d ps at (length ps) here) in
    append-nil (ops_between ps at (length ps)) ∙ ap (λ a. ops_between ps a (length ps)) end ∙ none_between ps (length ps)
nothing_left d ps at (frame ∷ frames) inside here past = absurd (omega (arith, nested_within d ps at frame.to here))

no_piece : (ps : List Piece) (at : ℕ) → slice_get ps at ≡ None → length ps ≤ at
no_piece [] at e = omega arith
no_piece (piece ∷ ps) zero e = absurd (cc)
no_piece (piece ∷ ps) (suc at) e = let h = no_piece ps at e in omega arith

settled_left : (ps : List Piece) (p : Position) → IsSettled ps p → slice_get ps p.at ≡ None → ops_left ps p ≡ []
settled_left ps p settled none =
    nothing_left (max_open_repeats - p.depth) ps p.at (open_frames p) settled.inside settled.stands.here (no_piece ps p.at none)

next_by : (ps : List Piece) (p : Position) → IsSettled ps p →
    ((slice_get ps p.at ≡ None) × (op_of (slice_get ps p.at) ≡ None))
    ⊎ ((x : Op) × (slice_get ps p.at ≡ Some (Single x)) × (op_of (slice_get ps p.at) ≡ Some x)) →
    op_of (slice_get ps p.at) ≡ slice_get (ops_left ps p) 0
next_by ps p settled (inl e) = e.1 ∙ sym (ap (λ os. slice_get os 0) (settled_left ps p settled e.0))
next_by ps p settled (inr e) = e.2 ∙ sym (ap (λ os. slice_get os 0) (takes ps p e.0 settled e.2).left)

-- a settled walk stands before the next op, or at the end
pub settled_next : (ps : List Piece) (p : Position) → IsSettled ps p → op_of (slice_get ps p.at) ≡ slice_get (ops_left ps p) 0
settled_next ps p settled = next_by ps p settled (op_is (slice_get ps p.at) settled.op)

-- nothing is first where there is nothing
empty_by : (ops : List Op) → None ≡ slice_get ops 0 → ops ≡ []
empty_by [] e = refl
empty_by (o ∷ ops) e = absurd (cc)

pub settled_none : (ps : List Piece) (p : Position) → IsSettled ps p → op_of (slice_get ps p.at) ≡ None → ops_left ps p ≡ []
settled_none ps p settled none = empty_by (ops_left ps p) (sym none ∙ settled_next ps p settled)

-- ---- steps one after the other

pub keeps_none : (ps : List Piece) (p : Position) → StandsAt ps p → KeepsOps ps p p
keeps_none ps p stands = record { stands = stands; same = refl }

pub keeps_more : (ps : List Piece) (a b c : Position) → KeepsOps ps a b → KeepsOps ps b c → KeepsOps ps a c
keeps_more ps a b c first second = record { stands = second.stands; same = second.same ∙ first.same }
