-- Each generated text has its two lines.
use Rattle.std.proofs.Common.{ℕ, ◌≡◌, ◌≤◌, ◌<◌, [], ◌∷◌, ◌++◌, zero, suc, List, length, inl, refl, sym, subst, ap, arith}
use Rattle.armus_base.specs.declared.ending.Final.{Final}
use Rattle.armus_base.specs.Finals.{final_of}
use Rattle.command_line.specs.declared.command.Command.TheVariants.{Gen}
use Rattle.adaptive.specs.declared.analysis.Wanted.{Wanted}
use Rattle.adaptive.specs.declared.analysis.Wanted.TheVariants as wanted
use Rattle.pl_generator.proofs.Accepted.{accepted as generated_is_accepted}
use Rattle.pl_generator.specs.Generated.{generated_text}
use Rattle.report.specs.Reports.{IsReport}
use Rattle.schedule.specs.Lines.{IsCut, IsFirstLine, a_line, no_line}
use Rattle.schedule.proofs.LinesExist.{first_exists}
use Rattle.program_io.specs.Texts.{Text}
use Rattle.pl_syntax.specs.Printed.{line}
use Rattle.armus_top.specs.Generated.{IsFirstAndLast}
use Rattle.armus_top.specs.calls.Inputs.{MayGenerate}
use Rattle.program_io.specs.Programs.{IsChecked}
use Rattle.armus_top.proofs.TwoLines.{more_lines, report_has_two}
use Rattle.armus_top.proofs.WholeOutputs.{IsMet}
use Rattle.program_io.proofs.OnePlan.{checked_plan}
use Rattle.armus_top.proofs.RunsMet.{run_met}

-- bytes that are some have a last line
last_within : (most : ℕ) (b : ℕ) (bytes : Text) → length (b ∷ bytes) ≤ most → (before : List Text) × (last : Text) × IsCut (b ∷ bytes) (before ++ last ∷ [])
last_within zero b bytes few = absurd (omega arith)
last_within (suc most) b bytes few =
    let h = first_exists b bytes in
    by_lines h.rest h.line h.first (λ c cs is. last_within most c cs (omega (arith, h.shorter, ap length is))) h.rest refl
  where
    by_lines :
        (rest line : Text) → IsFirstLine (b ∷ bytes) line rest →
        ((c : ℕ) (cs : Text) → rest ≡ c ∷ cs → (before : List Text) × (last : Text) × IsCut (c ∷ cs) (before ++ last ∷ [])) → (same : Text) → rest ≡ same →
        (before : List Text) × (last : Text) × IsCut (b ∷ bytes) (before ++ last ∷ [])
    by_lines rest line first later [] is = ([], line, a_line (b ∷ bytes) line rest [] first (subst (λ r. IsCut r []) (sym is) no_line))
    by_lines rest line first later (c ∷ cs) is =
        let (before, last, cut) = later c cs is in
        (line ∷ before, last, a_line (b ∷ bytes) line rest (before ++ last ∷ []) first (subst (λ r. IsCut r (before ++ last ∷ [])) (sym is) cut))

first_and_last : (end : Final) (g : Wanted) (report : Text) → IsReport end g report → (text : Text) × IsFirstAndLast report text
first_and_last end g [] is = absurd (let two = report_has_two end g [] is in nothing_two two)
  where
    some_line : (front : Text) → line front ≡ [] → ⊥
    some_line [] e = absurd (cc)
    some_line (b ∷ bs) e = absurd (cc)

    nothing_two : (front : Text) × (back : Text) × ([] ≡ line (front ++ 10 ∷ back)) → ⊥
    nothing_two (front, back, e) = some_line (front ++ 10 ∷ back) (sym e)
first_and_last end g (b ∷ bytes) is =
    let h = first_exists b bytes in
    by_rest_of h.line h.rest h.first (more_lines (b ∷ bytes) h.line h.rest (report_has_two end g (b ∷ bytes) is) h.first)
  where
    by_rest_of : (line_is rest : Text) → IsFirstLine (b ∷ bytes) line_is rest → 0 < length rest → (text : Text) × IsFirstAndLast (b ∷ bytes) text
    by_rest_of first [] here some = absurd (omega arith)
    by_rest_of first (c ∷ cs) here some =
        let (before, last, cut) = last_within (length (c ∷ cs)) c cs (omega arith) in
        (line first ++ line last, record { first = first; between = before; last = last; cut = a_line (b ∷ bytes) first (c ∷ cs) (before ++ last ∷ []) here cut; text_is = refl })

pub gen_met : (count : ℕ) (input : Text) → MayGenerate (Gen count) → IsMet (Gen count) input
gen_met count input may =
    let (program, reads, plan, unfolds) = generated_is_accepted count (omega (arith, may)) in
    let is : IsChecked (generated_text count) program plan = record { reads = reads; unfolds = unfolds } in
    let (status, report, run) = run_met plan (checked_plan (generated_text count) plan (program, is)) wanted.Auto in
    let (text, short) = first_and_last (final_of plan run.state) wanted.Auto report run.report_is in
    (status, text, inl (record { plan = plan; plan_is = (program, is); report = report; run = run; short = short }))
