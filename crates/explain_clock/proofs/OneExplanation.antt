-- The places of a plan have one explanation.
use Rattle.std.proofs.Common.{◌≡◌, ℕ, zero, suc, ◌+◌, List, [], ◌∷◌, ◌++◌, Option, None, length, arith, refl, sym, ◌∙◌, ap, subst}
use Rattle.std.specs.Prelude.{count_by, drop, slice_get, slice_index_or, take}
use Rattle.armus_base.specs.declared.ending.TaskEnd.{TaskEnd}
use Rattle.armus_base.specs.declared.ending.TaskEnd.TheVariants.{Blocked, Done, Refused, Unforked}
use Rattle.armus_base.specs.declared.op.Op.{Op}
use Rattle.armus_base.specs.declared.status.Status.{Status}
use Rattle.armus_base.specs.Finals.{end_of, final_of, list_below}
use Rattle.armus_base.specs.Plans.{Plan, code_of}
use Rattle.armus_base.specs.States.{State}
use Rattle.explain_facts.proofs.AtSomeOp.{at_some_op}
use Rattle.clock_syntax.specs.Trees.{ClockTree}
use Rattle.clock_semantics.specs.Unfolding.{ClockUnfolding}
use Rattle.clock_source_map.specs.ClockOffsets.{clock_offsets}
use Rattle.clock_source_map.specs.ClockOrigins.{StartedActivity, MadeThing, all_begun, all_things, all_waits}
use Rattle.clock_source_map.specs.ClockOps.{all_op_origins, is_await}
use Rattle.explain_clock.specs.ClockCircles.{IsClockCircle}
use Rattle.explain_clock.specs.ClockExplanations.{clock_lines, some_activity_waits}
use Rattle.explain_clock.specs.ClockFacts.{AreClockFacts, AreTextFacts, ClockFacts, ClockWait, IsWaitBy, ClockTextValue, is_pending, moves_from}
use Rattle.explain_clock.specs.calls.Laws.{ClockExplanationExists, OneClockExplanation}
use Rattle.explain_clock.proofs.Circles.{one_circle, some_circle}
use Rattle.explain_clock.proofs.Told.{AreTold, one_list, told_all, told_more, told_none}

-- ---- one

same_text_facts :
    (a a' : List ℕ) (b b' : Option (List ℕ)) (c c' : List ℕ) (d d' : List StartedActivity) (e e' : List MadeThing) → a ≡ a' → b ≡ b' → c ≡ c' → d ≡ d' → e ≡ e' →
    let x : ClockTextValue = record { text = a; file = b; offsets = c; begun = d; things = e } in
    let y : ClockTextValue = record { text = a'; file = b'; offsets = c'; begun = d'; things = e' } in x ≡ y
same_text_facts a a' b b' c c' d d' e e' p q r s t = cc

pub one_text_facts :
    (file : Option (List ℕ)) (text : List ℕ) (p : ClockTree) (u : ClockUnfolding) (f g : ClockTextValue) → AreTextFacts file text p u f → AreTextFacts file text p u g → f ≡ g
one_text_facts file text p u f g x y =
    same_text_facts f.text g.text f.file g.file f.offsets g.offsets f.begun g.begun f.things g.things
    (x.text_is ∙ sym y.text_is) (x.file_is ∙ sym y.file_is) (x.offsets_are ∙ sym y.offsets_are) (x.begun_are ∙ sym y.begun_are) (x.things_are ∙ sym y.things_are)

same_facts :
    (a a' : ClockTextValue) (f f' : List TaskEnd) (g g' : List Status) (h h' : List ClockWait) → a ≡ a' → f ≡ f' → g ≡ g' → h ≡ h' →
    let x : ClockFacts = record { of_text = a; ends = f; blocked = g; waits = h } in
    let y : ClockFacts = record { of_text = a'; ends = f'; blocked = g'; waits = h' } in x ≡ y
same_facts a a' f f' g g' h h' p u v w = cc

one_facts :
    (file : Option (List ℕ)) (text : List ℕ) (p : ClockTree) (u : ClockUnfolding) (plan : Plan) (s : State) (done : ℕ → ℕ) (f g : ClockFacts) →
    AreClockFacts file text p u plan s done f → AreClockFacts file text p u plan s done g → f ≡ g
one_facts file text p u plan s done f g x y =
    same_facts f.of_text g.of_text f.ends g.ends f.blocked g.blocked f.waits g.waits (one_text_facts file text p u f.of_text g.of_text x.text_facts y.text_facts)
    (x.ends_are ∙ sym y.ends_are) (x.blocked_are ∙ sym y.blocked_are) (one_list (all_waits u) (all_op_origins u) plan s done f.waits g.waits x.waits_are y.waits_are)

pub one_clock_explanation : OneClockExplanation
one_clock_explanation file text p u plan s done lines others waits other x y =
    let same = one_facts file text p u plan s done x.facts y.facts x.are_facts y.are_facts in
    let own : IsClockCircle y.facts.blocked x.circle = subst (λ (f : ClockFacts). IsClockCircle f.blocked x.circle) same x.circle_is in
    let circles : x.circle ≡ y.circle = one_circle y.facts.blocked x.circle y.circle own y.circle_is in (
      x.lines_are ∙ ap (λ (f : ClockFacts). clock_lines f plan x.circle) same ∙ ap (clock_lines y.facts plan) circles ∙ sym y.lines_are,
      x.waits_are ∙ ap (λ (f : ClockFacts). some_activity_waits f.ends) same ∙ sym y.waits_are,
    )

-- ---- some

abbrev no_wait : ClockWait
no_wait = record { statement = None; pending = []; ahead = [] }

wait_exists : (code : List Op) (own : List ℕ) (ops : List (Option ℕ)) (clocks done : ℕ) (end : TaskEnd) → (w : ClockWait) × IsWaitBy code own ops clocks done end w
wait_exists code own ops clocks done (Blocked e) =
    let (op, stands) = at_some_op code done in (
      record {
        statement = slice_get own (count_by is_await (take op code));
        pending = list_below (is_pending (take op code)) clocks;
        ahead = moves_from ops op (drop op code);
      },
      record { op = op; stands = stands; statement_is = refl; pending_is = refl; ahead_is = refl },
    )
wait_exists code own ops clocks done Done = (no_wait, record { statement_is = refl; pending_is = refl; ahead_is = refl })
wait_exists code own ops clocks done (Refused e) = (no_wait, record { statement_is = refl; pending_is = refl; ahead_is = refl })
wait_exists code own ops clocks done Unforked = (no_wait, record { statement_is = refl; pending_is = refl; ahead_is = refl })

module _ (waits : List (List ℕ)) (origins : List (List (Option ℕ))) (plan : Plan) (s : State) (done : ℕ → ℕ) where
  told_exists : (n : ℕ) → (ws : List ClockWait) × AreTold waits origins plan s done n ws
  told_exists zero = ([], told_none waits origins plan s done)
  told_exists (suc n) =
      let (ws, told) = told_exists n in
      let (w, is) =
      wait_exists (code_of plan n) (slice_index_or waits n []) (slice_index_or origins n []) (length plan.makers) (done n) (end_of s n) in (
        ws ++ w ∷ [],
        subst (λ k. AreTold waits origins plan s done k (ws ++ w ∷ [])) (let same : n + 1 ≡ suc n = omega arith in same)
            (told_more waits origins plan s done n ws (ws ++ w ∷ []) w told refl is),
      )

-- a text has some
abbrev pub facts_of_text : Option (List ℕ) → List ℕ → ClockTree → ClockUnfolding → ClockTextValue
facts_of_text file text p u = record { text = text; file = file; offsets = clock_offsets text p; begun = all_begun u; things = all_things u }

pub are_facts_of_text : (file : Option (List ℕ)) (text : List ℕ) (p : ClockTree) (u : ClockUnfolding) → AreTextFacts file text p u (facts_of_text file text p u)
are_facts_of_text file text p u = record { text_is = refl; file_is = refl; offsets_are = refl; begun_are = refl; things_are = refl }

pub clock_explanation_exists : ClockExplanationExists
clock_explanation_exists file text p u plan s done reads unfolds plan_is =
    let (ws, told) = told_exists (all_waits u) (all_op_origins u) plan s done (length plan.parents) in
    let facts : ClockFacts = record {
      of_text = facts_of_text file text p u;
      ends = (final_of plan s).ends;
      blocked = (final_of plan s).blocked;
      waits = ws;
    } in
    let (circle, circle_is) = some_circle facts.blocked in (
      clock_lines facts plan circle,
      some_activity_waits facts.ends,
      record {
        reads = reads;
        unfolds = unfolds;
        plan_is = plan_is;
        facts = facts;
        are_facts = record {
          text_facts = are_facts_of_text file text p u;
          ends_are = refl;
          blocked_are = refl;
          waits_are = told_all (all_waits u) (all_op_origins u) plan s done (length plan.parents) ws refl told;
        };
        circle = circle;
        circle_is = circle_is;
        lines_are = refl;
        waits_are = refl;
      },
    )
