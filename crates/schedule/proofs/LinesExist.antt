-- Bytes have lines, each line says something, and each input is split.
use Rattle.std.proofs.Common.{◌≡◌, ◌≢◌, ◌<◌, ◌≤◌, ◌^◌, ◌∙◌, ◌⊎◌, ℕ, zero, suc, List, [], ◌∷◌, ◌++◌, length, arith, subst, ap, refl, codes, inl, inr, length-append}
use Rattle.std.specs.Fmt.{decimal}
use Rattle.std.proofs.lemmas.Bool.{cases_eq}
use Rattle.armus_base.proofs.Tasks.{all_or_one}
use Rattle.schedule.specs.declared.lines.Line.{Line}
use Rattle.schedule.specs.declared.lines.Line.TheVariants.{Step, Pass, Load, Unreadable}
use Rattle.schedule.specs.declared.lines.TheConstants.{MOST_DIGITS}
use Rattle.schedule.specs.Lines.{AllSay, HasNoEnd, IsCut, IsFirstLine, Says, Spells, a_line, ended, more, no_line, none, unended}
use Rattle.schedule.specs.Split.{IsSplit, at_mark, mark, more_text, no_text}
use Rattle.schedule.specs.calls.Laws.{BytesHaveLines, InputIsSplit}
use Rattle.schedule.proofs.Cuts.{front_of}

-- bytes are equal, or they are not
pub same_or_not : (a b : List ℕ) → (a ≡ b) ⊎ (a ≢ b)
same_or_not [] [] = inl refl
same_or_not [] (y ∷ ys) = inr (λ e. absurd (cc))
same_or_not (x ∷ xs) [] = inr (λ e. absurd (cc))
same_or_not (x ∷ xs) (y ∷ ys) =
    elim (cases_eq x y) [
      | inl first ↦ elim (same_or_not xs ys) [
        | inl rest ↦ inl (ap (λ z. z ∷ xs) first ∙ ap (λ zs. y ∷ zs) rest)
        | inr other ↦ inr (λ e. other (cc))
      ]
      | inr other ↦ inr (λ e. other (cc))
    ]

-- ---- the first line

pub no_end_more : (b : ℕ) (bytes : List ℕ) → b ≢ 10 → HasNoEnd bytes → HasNoEnd (b ∷ bytes)
no_end_more b bytes other free zero d l = other
no_end_more b bytes other free (suc k) d l = free k d (omega arith)

pub no_end_nil : HasNoEnd []
no_end_nil = λ k d l. absurd (omega arith)

-- no line ends within the bytes, or the first one does
abbrev EndsIn : List ℕ → Type 0
EndsIn bytes = (line : List ℕ) × (rest : List ℕ) × HasNoEnd line × (bytes ≡ line ++ 10 ∷ rest)

first_end : (bytes : List ℕ) → HasNoEnd bytes ⊎ EndsIn bytes
first_end [] = inl no_end_nil
first_end (b ∷ bytes) =
    elim (cases_eq b 10) [
      | inl e ↦ inr ([], bytes, no_end_nil, ap (λ x. x ∷ bytes) e)
      | inr other ↦ elim (first_end bytes) [
        | inl free ↦ inl (no_end_more b bytes other free)
        | inr one ↦ let (line, rest, free, e) = one in inr (b ∷ line, rest, no_end_more b line other free, ap (λ l. b ∷ l) e)
      ]
    ]

-- some bytes have a first line, and fewer bytes stand behind it
pub record HasFirst (bytes : List ℕ) : Type 0 where
  pub line : List ℕ
  pub rest : List ℕ
  pub first : IsFirstLine bytes line rest
  pub shorter : length rest < length bytes

pub first_exists : (b : ℕ) (bytes : List ℕ) → HasFirst (b ∷ bytes)
first_exists b bytes =
    elim (first_end (b ∷ bytes)) [
      | inl free ↦ record { line = b ∷ bytes; rest = []; first = unended free (λ e. absurd (cc)) refl refl; shorter = omega arith }
      | inr one ↦
          let (line, rest, free, e) = one in
          record { line = line; rest = rest; first = ended free e; shorter = omega (arith, ap length e, length-append line (10 ∷ rest)) }
    ]

-- ---- all lines

cut_within : (most : ℕ) (bytes : List ℕ) → length bytes ≤ most → (lines : List (List ℕ)) × IsCut bytes lines
cut_within most [] few = ([], no_line)
cut_within zero (b ∷ bytes) few = absurd (omega arith)
cut_within (suc most) (b ∷ bytes) few =
    let h = first_exists b bytes in
    let (lines, cut) = cut_within most h.rest (omega (arith, h.shorter)) in
    (h.line ∷ lines, a_line (b ∷ bytes) h.line h.rest lines h.first cut)

-- what a line says
says_some : (bytes : List ℕ) → (line : Line) × Says bytes line
says_some bytes =
    elim (same_or_not bytes (codes "pass")) [
      | inl pass ↦ (Pass, pass)
      | inr no_pass ↦ elim (same_or_not bytes (codes "l")) [
        | inl load ↦ (Load, load)
        | inr no_load ↦ elim (all_or_one (λ n. bytes ≢ codes "t " ++ decimal n) (λ n. bytes ≡ codes "t " ++ decimal n) tell (10 ^ MOST_DIGITS)) [
          | inl no_step ↦ (Unreadable, spells_not no_pass no_load no_step)
          | inr one ↦ let (n, small, e) = one in (Step n, (small, e))
        ]
      ]
    ]
  where
    tell : (n : ℕ) → (bytes ≢ codes "t " ++ decimal n) ⊎ (bytes ≡ codes "t " ++ decimal n)
    tell n = elim (same_or_not bytes (codes "t " ++ decimal n)) [ inl e ↦ inr e | inr other ↦ inl other ]

    spells_not : bytes ≢ codes "pass" → bytes ≢ codes "l" → ((n : ℕ) → n < 10 ^ MOST_DIGITS → bytes ≢ codes "t " ++ decimal n) → (line : Line) → Spells bytes line → ⊥
    spells_not no_pass no_load no_step (Step n) h = no_step n h.0 h.1
    spells_not no_pass no_load no_step Pass h = no_pass h
    spells_not no_pass no_load no_step Load h = no_load h
    spells_not no_pass no_load no_step Unreadable h = h

all_say_some : (texts : List (List ℕ)) → (lines : List Line) × AllSay texts lines
all_say_some [] = ([], none)
all_say_some (bytes ∷ texts) =
    let (line, says) = says_some bytes in
    let (lines, all) = all_say_some texts in
    (line ∷ lines, more bytes line texts lines says all)

pub bytes_have_lines : BytesHaveLines
bytes_have_lines bytes =
    let (texts, cut) = cut_within (length bytes) bytes (omega arith) in
    let (lines, say) = all_say_some texts in
    (lines, record { texts = texts; cut = cut; say = say })

-- ---- the split

split_within : (most : ℕ) (input : List ℕ) → length input ≤ most → (text : List ℕ) × (schedule : List ℕ) × IsSplit input text schedule
split_within most [] few = ([], [], no_text)
split_within zero (b ∷ input) few = absurd (omega arith)
split_within (suc most) (b ∷ input) few =
    let h = first_exists b input in
    elim (same_or_not h.line mark) [
      | inl same ↦ ([], h.rest, at_mark (b ∷ input) h.rest (subst (λ l. IsFirstLine (b ∷ input) l h.rest) same h.first))
      | inr unlike ↦
          let (front, whole) = front_of (b ∷ input) h.line h.rest h.first in
          let (text, schedule, split) = split_within most h.rest (omega (arith, h.shorter)) in
          (front ++ text, schedule, more_text (b ∷ input) h.line h.rest front text schedule h.first unlike whole split)
    ]

pub input_is_split : InputIsSplit
input_is_split input = split_within (length input) input (omega arith)
