-- The program of a generated text, whose printed form that text is.
use Rattle.std.proofs.Common.{◌≡◌, ℕ, ◌%◌, ◌≤◌, Bool, true, false, refl, ap, sym, ◌∙◌, subst, append_assoc, arith, lit≤}
use Rattle.std.specs.Prelude.{◌==◌, List, [], ◌∷◌, ◌++◌, codes, decimal}
use Rattle.std.specs.Fmt.{digits}
use Rattle.pl_syntax.specs.declared.limits.TheConstants.{MAX_NUMBER, MAX_OPEN_BRACES}
use Rattle.armus_base.specs.declared.offset.Offset.TheVariants.{Here}
use Rattle.pl_syntax.specs.declared.tree.Program.{Program}
use Rattle.pl_syntax.specs.calls.Words.{IsName}
use Rattle.pl_syntax.specs.Words.{keyword_of}
use Rattle.pl_syntax.specs.Tree.{Tree, done, plain, fork, loop, new_task, new_phaser, reg, dereg, adv, await, height}
use Rattle.pl_syntax.specs.calls.Tree.{AllHere}
use Rattle.pl_syntax.specs.Grammar.{IsText}
use Rattle.pl_syntax.specs.Printed.{indented_line, plain_text, printed_at, printed_of}
use Rattle.pl_syntax.specs.calls.Printed.{TreeIsWritable}
use Rattle.pl_syntax.proofs.RoundTrip.{prints_text}
use Rattle.pl_generator.specs.Generated.{generated_text}

-- the workers' barrier
abbrev pub pc : List ℕ
pc = codes "pc"

-- the barrier on which task 0 waits for the workers
abbrev pub pb : List ℕ
pb = codes "pb"

-- the name of each worker
abbrev pub child : List ℕ
child = codes "t"

-- a round of a worker
abbrev pub round : Tree
round = plain (adv pc) (plain (await pc Here) done)

-- what a worker does
abbrev pub worker : Tree
worker = loop 8 round (plain (dereg pc) (plain (dereg pb) done))

-- how task 0 makes a worker
abbrev pub draws : Tree
draws = plain (new_task child) (plain (reg child pc) (plain (reg child pb) (fork child worker done)))

-- how task 0 waits for the workers
abbrev pub waits : Tree
waits = plain (adv pb) (plain (await pb Here) done)

-- what task 0 does when the workers are there: it stays on their barrier, or it leaves it
abbrev pub goes_on : Bool → Tree
goes_on true = waits
goes_on false = plain (dereg pc) waits

-- the statements
abbrev pub generated_body : ℕ → Tree
generated_body n = plain (new_phaser pc) (plain (new_phaser pb) (loop n draws (goes_on (n % 3 == 0))))

-- the program, one of PL 1
abbrev pub generated_program : ℕ → Program
generated_program n = record { two = false; body = generated_body n }

-- the first lines up to the number of workers
abbrev before_number : List ℕ
before_number = indented_line 0 (plain_text (new_phaser pc)) ++ indented_line 0 (plain_text (new_phaser pb)) ++ codes "loop "

-- the rest of that line
abbrev number_line : ℕ → List ℕ
number_line n = decimal n ++ codes " {" ++ 10 ∷ []

grouped : (n : ℕ) (rest : List ℕ) →
    before_number ++ (number_line n ++ (printed_at 1 draws ++ (indented_line 0 (codes "}") ++ rest)))
    ≡ before_number ++ (((number_line n ++ printed_at 1 draws) ++ indented_line 0 (codes "}")) ++ rest)
grouped n rest =
    ap (λ (xs : List ℕ). before_number ++ xs)
    (sym (append_assoc (number_line n ++ printed_at 1 draws) (indented_line 0 (codes "}")) rest ∙
    append_assoc (number_line n) (printed_at 1 draws) (indented_line 0 (codes "}") ++ rest)))

eight : decimal 8 ≡ codes "8"
unfolding digits
eight = refl

printed_is : (n : ℕ) (stays : Bool) → (n % 3 == 0) ≡ stays → generated_text n ≡ printed_of (generated_program n)
printed_is n true e = rw (e, eight) (rw eight at (grouped n (printed_at 0 (goes_on true))))
printed_is n false e = rw (e, eight) (rw eight at (grouped n (printed_at 0 (goes_on false))))

pc_is_name : IsName pc
unfolding keyword_of
pc_is_name = record { form = refl; short = lit≤ tt; free = refl }

pb_is_name : IsName pb
unfolding keyword_of
pb_is_name = record { form = refl; short = lit≤ tt; free = refl }

child_is_name : IsName child
unfolding keyword_of
child_is_name = record { form = refl; short = lit≤ tt; free = refl }

ending_writable : (stays : Bool) → TreeIsWritable (goes_on stays)
ending_writable true = (pb_is_name, ((pb_is_name, tt), tt))
ending_writable false = (pc_is_name, (pb_is_name, ((pb_is_name, tt), tt)))

worker_writable : TreeIsWritable worker
worker_writable = (lit≤ tt, (pc_is_name, ((pc_is_name, tt), tt)), (pc_is_name, (pb_is_name, tt)))

draws_writable : TreeIsWritable draws
draws_writable = (child_is_name, ((child_is_name, pc_is_name), ((child_is_name, pb_is_name), (child_is_name, worker_writable, tt))))

writable : (n : ℕ) → n ≤ MAX_NUMBER → TreeIsWritable (generated_body n)
writable n l = (pc_is_name, (pb_is_name, (l, draws_writable, ending_writable (n % 3 == 0))))

here_after : (stays : Bool) → AllHere (goes_on stays)
here_after true = (tt, (refl, tt))
here_after false = (tt, (tt, (refl, tt)))

all_here : (n : ℕ) (stays : Bool) → AllHere (plain (new_phaser pc) (plain (new_phaser pb) (loop n draws (goes_on stays))))
all_here n stays = (tt, (tt, ((tt, (tt, (tt, (((tt, (refl, tt)), (tt, (tt, tt))), tt)))), here_after stays)))

low : (stays : Bool) → height (goes_on stays) ≡ 0
low true = refl
low false = refl

shallow : (n : ℕ) → height (generated_body n) ≤ MAX_OPEN_BRACES
shallow n = omega (arith, low (n % 3 == 0))

-- the text is that of the program
pub is_text : (n : ℕ) → n ≤ MAX_NUMBER → IsText (generated_text n) (generated_program n)
is_text n l = subst (λ (text : List ℕ). IsText text (generated_program n)) (sym (printed_is n (n % 3 == 0) refl))
    (prints_text (generated_program n) (record { tree = writable n l; here = λ _. all_here n (n % 3 == 0) }) (shallow n))
