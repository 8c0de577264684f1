-- One more byte: what a listener has behind it.
use Rattle.std.proofs.Common.{◌≡◌, ℕ, zero, suc, ◌<◌, ◌≤◌, ◌-◌, false, ◌||◌, None, Some, List, [], ◌∷◌, ◌+◌, ◌++◌, length, take, refl, sym, ◌∙◌, ap, subst, inl, inr, ◌⊎◌, arith, append-nil, append_assoc, length-append}
use Rattle.std.specs.Prelude.{min, nat_lt, ◌==◌}
use Rattle.std.proofs.Math.Nat.{min-le_left, min-le_right}
use Rattle.std.proofs.lemmas.Bool.{cond-true, cond-false, lt-ltb, le-ltb, or_parts}
use Rattle.std.proofs.lemmas.List.{length-take, take_all, take-append-le}
use Rattle.armus_base.proofs.Elements.{Contains-cons_cases}
use Rattle.trace_lines.specs.Grammar.{most_line_bytes}
use Rattle.monitor_messages.specs.Runs.{IsNextRun, IsMonitorRunOf, MonitorOptions, MonitorRun, SaysLine}
use Rattle.monitor.specs.HeardLines.{AreHeardLines, HasHeardAll, all_lines, called_lines, ended_lines, has_line_end}
use Rattle.monitor.specs.inside.Listening.{Heard, HearsBytes, IsListening}

-- a line that is not too long is not heard before its end
pub called_short : (lines : List (List ℕ)) (rest : List ℕ) → length rest < 512 → called_lines lines rest ≡ lines
called_short lines rest short = cond-false (nat_lt most_line_bytes (length rest)) (rest ∷ lines) lines (le-ltb most_line_bytes (length rest) (omega arith))

pub called_long : (lines : List (List ℕ)) (rest : List ℕ) → 512 ≤ length rest → called_lines lines rest ≡ rest ∷ lines
called_long lines rest long = cond-true (nat_lt most_line_bytes (length rest)) (rest ∷ lines) lines (lt-ltb most_line_bytes (length rest) (omega arith))

-- what is kept of a line that is not too long is all of it
pub kept_short : (line rest : List ℕ) → line ≡ take 512 rest → length line < 512 → (line ≡ rest) × (length rest < 512)
kept_short line rest front short =
    let long : length line ≡ min 512 (length rest) = ap length front ∙ length-take 512 rest in
    let below : length rest < 512 = shorter long in
    (front ∙ take_all 512 rest (omega arith), below)
  where
    shorter : length line ≡ min 512 (length rest) → length rest < 512
    shorter e = grind arith

pub kept_long : (line rest : List ℕ) → line ≡ take 512 rest → 512 ≤ length line → 512 ≤ length rest
kept_long line rest front long =
    let e : length line ≡ min 512 (length rest) = ap length front ∙ length-take 512 rest in
    let f = min-le_right 512 (length rest) in
    omega arith

-- a line with more bytes, of which none is an LF
pub no_end_more : (rest part : List ℕ) → has_line_end rest ≡ false → has_line_end part ≡ false → has_line_end (rest ++ part) ≡ false
no_end_more [] part none other = other
no_end_more (r ∷ rest) part none other =
    let parts = or_parts (r == 10) (has_line_end rest) none in
    ap (λ x. x || has_line_end (rest ++ part)) parts.0 ∙ no_end_more rest part parts.1 other

pub no_end_alone : (b : ℕ) → (b == 10) ≡ false → has_line_end (b ∷ []) ≡ false
no_end_alone b other = ap (λ x. x || false) other

pub cut_more : (bytes : List ℕ) (lines : List (List ℕ)) (rest part : List ℕ) → AreHeardLines bytes lines rest → has_line_end part ≡ false → AreHeardLines (bytes ++ part) lines (rest ++ part)
cut_more bytes lines rest part cut other = record {
  are = ap (λ l. l ++ part) cut.are ∙ append_assoc (ended_lines lines) rest part;
  whole = cut.whole;
  open_end = no_end_more rest part cut.open_end other;
}

-- the LF of a line
pub cut_end : (bytes : List ℕ) (lines : List (List ℕ)) (rest : List ℕ) → AreHeardLines bytes lines rest → AreHeardLines (bytes ++ 10 ∷ []) (rest ∷ lines) []
cut_end bytes lines rest cut = record {
  are = ap (λ l. l ++ 10 ∷ []) cut.are ∙ sym (append-nil (ended_lines (rest ∷ lines)));
  whole = λ line there. elim (Contains-cons_cases rest lines line there) [ inl is ↦ subst (λ l. has_line_end l ≡ false) is cut.open_end | inr t ↦ cut.whole line t ];
  open_end = refl;
}

-- lines that are too long are heard alike
says_no_line : (bytes : List ℕ) → 512 ≤ length bytes → SaysLine bytes None
says_no_line bytes long = λ l is. let short = is.0 in absurd (omega arith)

next_alike : (was run : MonitorRun) (rest more : List ℕ) (message : List ℕ) → 512 ≤ length rest → 512 ≤ length more → IsNextRun was rest run message → IsNextRun was more run message
next_alike was run rest more message long longer (inl stopped) = inl stopped
next_alike was run rest more message long longer (inr (goes, None, says, heard)) = inr (goes, None, says_no_line more longer, heard)
next_alike was run rest more message long longer (inr (goes, Some l, says, heard)) = absurd (let short = says.0 in omega arith)

run_alike : (options : MonitorOptions) (lines : List (List ℕ)) (rest more : List ℕ) (run : MonitorRun) (output : List ℕ) → 512 ≤ length rest → 512 ≤ length more → IsMonitorRunOf options (rest ∷ lines) run output → IsMonitorRunOf options (more ∷ lines) run output
run_alike options lines rest more run output long longer (was, earlier, message, leads, next, is) =
    (was, earlier, message, leads, next_alike was run rest more message long longer next, is)

-- the LF of a line that was not heard yet
pub end_heard : (options : MonitorOptions) (bytes output : List ℕ) (h : Heard) (run : MonitorRun) (message : List ℕ) → IsListening options bytes output h → length h.line < 512 → IsNextRun h.run h.line run message → IsListening options (bytes ++ 10 ∷ []) (output ++ message) (record { run = run; line = [] })
end_heard options bytes output h run message l short next =
    let kept = kept_short h.line l.rest l.front short in
    record {
      lines = l.rest ∷ l.lines;
      rest = [];
      cut = cut_end bytes l.lines l.rest l.cut;
      leads = (
        h.run,
        output,
        message,
        subst (λ lines. IsMonitorRunOf options lines h.run output) (called_short l.lines l.rest kept.1) l.leads,
        subst (λ line. IsNextRun h.run line run message) kept.0 next,
        refl,
      );
      front = refl;
    }

-- and of one that was, since it is too long
pub long_end_heard : (options : MonitorOptions) (bytes output : List ℕ) (h : Heard) → IsListening options bytes output h → 512 ≤ length h.line → IsListening options (bytes ++ 10 ∷ []) (output ++ []) (record { run = h.run; line = [] })
long_end_heard options bytes output h l long =
    record {
      lines = l.rest ∷ l.lines;
      rest = [];
      cut = cut_end bytes l.lines l.rest l.cut;
      leads =
          subst (IsMonitorRunOf options (l.rest ∷ l.lines) h.run) (sym (append-nil output))
          (subst (λ lines. IsMonitorRunOf options lines h.run output) (called_long l.lines l.rest (kept_long h.line l.rest l.front long)) l.leads);
      front = refl;
    }

-- bytes of a line that is not too long with them
pub bytes_kept : (options : MonitorOptions) (bytes output : List ℕ) (h : Heard) (part more : List ℕ) → more ≡ h.line ++ part → IsListening options bytes output h → has_line_end part ≡ false → length h.line + length part < 512 → IsListening options (bytes ++ part) (output ++ []) (record { run = h.run; line = more })
bytes_kept options bytes output h part more is l other short =
    let kept = kept_short h.line l.rest l.front (omega arith) in
    let long = length-append l.rest part in
    let same = ap length kept.0 in
    record {
      lines = l.lines;
      rest = l.rest ++ part;
      cut = cut_more bytes l.lines l.rest part l.cut other;
      leads =
          subst (IsMonitorRunOf options (called_lines l.lines (l.rest ++ part)) h.run) (sym (append-nil output))
          (subst (λ lines. IsMonitorRunOf options lines h.run output) (called_short l.lines l.rest kept.1 ∙ sym (called_short l.lines (l.rest ++ part) (omega arith))) l.leads);
      front = is ∙ ap (λ l. l ++ part) kept.0 ∙ sym (take_all 512 (l.rest ++ part) (omega arith));
    }

pub byte_kept : (options : MonitorOptions) (bytes output : List ℕ) (h : Heard) (b : ℕ) (more : List ℕ) → more ≡ h.line ++ b ∷ [] → IsListening options bytes output h → (b == 10) ≡ false → length h.line < 511 → IsListening options (bytes ++ b ∷ []) (output ++ []) (record { run = h.run; line = more })
byte_kept options bytes output h b more is l other short = bytes_kept options bytes output h (b ∷ []) more is l (no_end_alone b other) (omega arith)

-- there is room for these first bytes, or there are none
pub room_for : (line bytes : List ℕ) (room count : ℕ) → room ≡ 511 - length line → count ≤ room → count ≤ length bytes → (length line + length (take count bytes) < 512) ⊎ (take count bytes ≡ [])
room_for line bytes room zero is few within = inr refl
room_for line bytes room (suc n) is few within =
    inl (let long : length (take (suc n) bytes) ≡ min (suc n) (length bytes) = length-take (suc n) bytes in let most = min-le_left (suc n) (length bytes) in omega arith)

-- some first bytes that have room, or none where there is none
pub quiet_kept : (h : Heard) (part more : List ℕ) → more ≡ h.line ++ part → has_line_end part ≡ false → (length h.line + length part < 512) ⊎ (part ≡ []) → HearsBytes h part [] (record { run = h.run; line = more })
quiet_kept h part more is none (inl short) options heard earlier l = bytes_kept options heard earlier h part more is l none short
quiet_kept h part more is none (inr empty) options heard earlier l =
    let same : more ≡ h.line = is ∙ ap (λ p. h.line ++ p) empty ∙ append-nil h.line in
    subst (λ p. IsListening options (heard ++ p) (earlier ++ []) (record { run = h.run; line = more })) (sym empty)
    (subst (λ line. IsListening options (heard ++ []) (earlier ++ []) (record { run = h.run; line = line })) (sym same)
    (subst (λ bytes. IsListening options bytes (earlier ++ []) h) (sym (append-nil heard)) (subst (λ output. IsListening options heard output h) (sym (append-nil earlier)) l)))

-- a byte by which a line is too long
pub byte_too_many : (options : MonitorOptions) (bytes output : List ℕ) (h : Heard) (b : ℕ) (more : List ℕ) (run : MonitorRun) (message : List ℕ) → more ≡ h.line ++ b ∷ [] → IsListening options bytes output h → (b == 10) ≡ false → length h.line ≡ 511 → IsNextRun h.run more run message → IsListening options (bytes ++ b ∷ []) (output ++ message) (record { run = run; line = more })
byte_too_many options bytes output h b more run message is l other full next =
    let kept = kept_short h.line l.rest l.front (omega arith) in
    let long = length-append l.rest (b ∷ []) in
    let same = ap length kept.0 in
    record {
      lines = l.lines;
      rest = l.rest ++ b ∷ [];
      cut = cut_more bytes l.lines l.rest (b ∷ []) l.cut (no_end_alone b other);
      leads =
          subst (λ lines. IsMonitorRunOf options lines run (output ++ message)) (sym (called_long l.lines (l.rest ++ b ∷ []) (omega arith))) (
            h.run,
            output,
            message,
            subst (λ lines. IsMonitorRunOf options lines h.run output) (called_short l.lines l.rest kept.1) l.leads,
            subst (λ line. IsNextRun h.run line run message) (is ∙ ap (λ l. l ++ b ∷ []) kept.0) next,
            refl,
          );
      front = is ∙ ap (λ l. l ++ b ∷ []) kept.0 ∙ sym (take_all 512 (l.rest ++ b ∷ []) (omega arith));
    }

-- a byte of a line that is too long already
pub byte_passed : (options : MonitorOptions) (bytes output : List ℕ) (h : Heard) (b : ℕ) → IsListening options bytes output h → (b == 10) ≡ false → 512 ≤ length h.line → IsListening options (bytes ++ b ∷ []) (output ++ []) h
byte_passed options bytes output h b l other long =
    let longer = kept_long h.line l.rest l.front long in
    let more = length-append l.rest (b ∷ []) in
    let behind : 512 ≤ length (l.rest ++ b ∷ []) = omega arith in
    record {
      lines = l.lines;
      rest = l.rest ++ b ∷ [];
      cut = cut_more bytes l.lines l.rest (b ∷ []) l.cut (no_end_alone b other);
      leads =
          subst (IsMonitorRunOf options (called_lines l.lines (l.rest ++ b ∷ [])) h.run) (sym (append-nil output))
          (subst (λ lines. IsMonitorRunOf options lines h.run output) (sym (called_long l.lines (l.rest ++ b ∷ []) behind))
          (run_alike options l.lines l.rest (l.rest ++ b ∷ []) h.run output longer behind
          (subst (λ lines. IsMonitorRunOf options lines h.run output) (called_long l.lines l.rest longer) l.leads)));
      front = l.front ∙ sym (take-append-le 512 l.rest (b ∷ []) longer);
    }

-- what the LF of a line makes of what is known and of the output
abbrev pub EndOfLine : MonitorRun → List ℕ → List ℕ → MonitorRun → List ℕ → Type 0
EndOfLine was line old run new =
    (message : List ℕ) × (new ≡ old ++ message)
    × (((length line < 512) × IsNextRun was line run message) ⊎ ((512 ≤ length line) × (run ≡ was) × (message ≡ [])))

pub end_of_line_heard : (options : MonitorOptions) (bytes output : List ℕ) (h : Heard) (run : MonitorRun) (line message : List ℕ) → line ≡ [] → IsListening options bytes output h → ((length h.line < 512) × IsNextRun h.run h.line run message) ⊎ ((512 ≤ length h.line) × (run ≡ h.run) × (message ≡ [])) → IsListening options (bytes ++ 10 ∷ []) (output ++ message) (record { run = run; line = line })
end_of_line_heard options bytes output h run line message none l (inl (short, next)) =
    subst (λ line. IsListening options (bytes ++ 10 ∷ []) (output ++ message) (record { run = run; line = line })) (sym none)
    (end_heard options bytes output h run message l short next)
end_of_line_heard options bytes output h run line message none l (inr (long, same, silent)) =
    subst (λ line. IsListening options (bytes ++ 10 ∷ []) (output ++ message) (record { run = run; line = line })) (sym none)
    (subst (λ m. IsListening options (bytes ++ 10 ∷ []) (output ++ m) (record { run = run; line = [] })) (sym silent)
    (subst (λ r. IsListening options (bytes ++ 10 ∷ []) (output ++ []) (record { run = r; line = [] })) (sym same)
    (long_end_heard options bytes output h l long)))

-- bytes behind bytes
pub hears_none : (h : Heard) → HearsBytes h [] [] h
hears_none h options heard earlier l =
    subst (λ bytes. IsListening options bytes (earlier ++ []) h) (sym (append-nil heard))
    (subst (λ output. IsListening options heard output h) (sym (append-nil earlier)) l)

pub hears_more : (a b c : Heard) (one later first second : List ℕ) → HearsBytes a one first b → HearsBytes b later second c → HearsBytes a (one ++ later) (first ++ second) c
hears_more a b c one later first second to_b to_c options heard earlier l =
    subst (λ bytes. IsListening options bytes (earlier ++ (first ++ second)) c) (append_assoc heard one later)
    (subst (λ output. IsListening options ((heard ++ one) ++ later) output c) (append_assoc earlier first second)
    (to_c options (heard ++ one) (earlier ++ first) (to_b options heard earlier l)))

-- the end of the trace
none_kept : (line rest : List ℕ) → line ≡ take 512 rest → line ≡ [] → rest ≡ []
none_kept line [] front none = refl
none_kept line (b ∷ rest) front none = absurd (let e : take 512 (b ∷ rest) ≡ [] = sym front ∙ none in cc)

all_behind : (lines : List (List ℕ)) (rest : List ℕ) → 0 < length rest → all_lines lines rest ≡ rest ∷ lines
all_behind lines [] some = absurd (omega arith)
all_behind lines (b ∷ rest) some = refl

end_without_rest : (options : MonitorOptions) (bytes output : List ℕ) (h : Heard) → IsListening options bytes output h → h.line ≡ [] → HasHeardAll options bytes h.run (output ++ [])
end_without_rest options bytes output h l none =
    let empty = none_kept h.line l.rest l.front none in
    record {
      lines = l.lines;
      rest = l.rest;
      cut = l.cut;
      leads =
          subst (λ rest. IsMonitorRunOf options (all_lines l.lines rest) h.run (output ++ [])) (sym empty)
          (subst (IsMonitorRunOf options l.lines h.run) (sym (append-nil output))
          (subst (λ rest. IsMonitorRunOf options (called_lines l.lines rest) h.run output) empty l.leads));
    }

end_behind_long : (options : MonitorOptions) (bytes output : List ℕ) (h : Heard) → IsListening options bytes output h → 512 ≤ length h.line → HasHeardAll options bytes h.run (output ++ [])
end_behind_long options bytes output h l long =
    let longer = kept_long h.line l.rest l.front long in
    record {
      lines = l.lines;
      rest = l.rest;
      cut = l.cut;
      leads =
          subst (λ lines. IsMonitorRunOf options lines h.run (output ++ [])) (called_long l.lines l.rest longer ∙ sym (all_behind l.lines l.rest (omega arith)))
          (subst (IsMonitorRunOf options (called_lines l.lines l.rest) h.run) (sym (append-nil output)) l.leads);
    }

pub end_behind_rest : (options : MonitorOptions) (bytes output : List ℕ) (h : Heard) (run : MonitorRun) (message : List ℕ) → IsListening options bytes output h → 0 < length h.line → length h.line < 512 → IsNextRun h.run h.line run message → HasHeardAll options bytes run (output ++ message)
end_behind_rest options bytes output h run message l some short next =
    let kept = kept_short h.line l.rest l.front short in
    let same = ap length kept.0 in
    record {
      lines = l.lines;
      rest = l.rest;
      cut = l.cut;
      leads =
          subst (λ lines. IsMonitorRunOf options lines run (output ++ message)) (sym (all_behind l.lines l.rest (omega arith))) (
            h.run,
            output,
            message,
            subst (λ lines. IsMonitorRunOf options lines h.run output) (called_short l.lines l.rest kept.1) l.leads,
            subst (λ line. IsNextRun h.run line run message) kept.0 next,
            refl,
          );
    }

pub end_unheard : (options : MonitorOptions) (bytes output : List ℕ) (h : Heard) → IsListening options bytes output h → (h.line ≡ []) ⊎ (512 ≤ length h.line) → HasHeardAll options bytes h.run (output ++ [])
end_unheard options bytes output h l (inl none) = end_without_rest options bytes output h l none
end_unheard options bytes output h l (inr long) = end_behind_long options bytes output h l long
