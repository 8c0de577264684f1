-- What the words mean to the program is one command at most, and it tells whether the first word is `record` or `pool`.
use Rattle.std.proofs.Common.{◌≡◌, ◌∙◌, ◌⊎◌, List, inl, inr, ap, sym, refl, subst, arith, Bool, true, false}
use Rattle.std.specs.Prelude.{ℕ, ◌∷◌, Option, Some, None}
use Rattle.command_line.specs.Commands.{AreWorkers, IsCommand, IsRunKind, first_of, Means}
use Rattle.command_line.specs.inside.Form.{first_named}
use Rattle.command_line.proofs.Meaning.{first_is, head_is, one_meaning}
use Rattle.command_line.specs.declared.command.Command.{Command}
use Rattle.command_line.specs.declared.command.Command.TheVariants.{Run, Avoid, Record, Clock, Pool}
use Rattle.command_line.specs.declared.command.RunKind.{RunKind}
use Rattle.command_line.specs.declared.table.FirstWord.TheVariants as first
use Rattle.program_io.specs.Texts.{Text}
use Rattle.command_line.specs.Words.{HaveForm}
use Rattle.armus_top.specs.calls.Meanings.{BeginsRecordOrPool}
use Rattle.armus_top.specs.inside.Serving.{MayHaveSites, MayWork, WaitsForNoThread, WaitsForThreads}
use Rattle.program_io.specs.Passages.{Passage}
use Rattle.armus_top.specs.Headline.{Ends, IsCall, Serves, reads_input, writes_lines}

pub serves_by : (words : List Text) (src out : Passage) (number : ℕ) (meaning : Option Command) → Means words meaning → Ends meaning src out number
    → Serves words src out number
serves_by words src out number meaning is ends = λ c means.
    subst (λ (m : Option Command). Ends m src out number) (one_meaning words meaning c is means) ends

-- a call that ended as the command may that the words mean
pub call_by : (words : List Text) (src out : Passage) (same_source same_sink : Type 0) (number : ℕ) (meaning : Option Command) → Means words meaning
    → Ends meaning src out number → (reads_input meaning ≡ false → same_source) → (number ≡ 4 → same_sink)
    → (writes_lines meaning ≡ false → number ≡ 6 → same_sink) → (number ≡ 6 → HaveForm words)
    → IsCall words src out same_source same_sink number
call_by words src out same_source same_sink number meaning is ends same silent unwritten formed = record {
  serves = serves_by words src out number meaning is ends;
  unread = λ c means no. same (subst (λ (m : Option Command). reads_input m ≡ false) (one_meaning words c meaning means is) no);
  silent = silent;
  unwritten = λ c means no. unwritten (subst (λ (m : Option Command). writes_lines m ≡ false) (one_meaning words c meaning means is) no);
  formed = formed;
}

workers_may : (given : Option Text) (workers : ℕ) → AreWorkers given workers → MayWork workers
workers_may (Some text) workers is = (is.from_one, is.to_most)
workers_may None workers is = (omega (arith, is), omega (arith, is))

kinds_may : (live : Bool) (sites : Option Text) (kind : RunKind) → IsRunKind live sites kind → MayHaveSites kind
kinds_may false None kind is = subst MayHaveSites (sym is) tt
kinds_may true None kind is = subst MayHaveSites (sym is) tt
kinds_may false (Some text) kind (sites, same, is) = subst MayHaveSites (sym same) (is.from_one, is.to_most)
kinds_may true (Some text) kind is = absurd is

-- words that mean a command have the form of one
pub form_of : (words : List Text) (c : Command) → IsCommand words c → HaveForm words
form_of words c is = (first_of c, is.uses, is.alone, is.form)

-- words that begin with neither `record` nor `pool` mean a command that waits for no thread
pub means_plain : (words : List Text) (c : Command) → IsCommand words c → (BeginsRecordOrPool words → ⊥) → WaitsForNoThread c
means_plain words (Run workers graph kind) is other =
    let (few, wants, kind_is) = is.values in (workers_may _ workers few, kinds_may _ _ kind kind_is)
means_plain words (Avoid workers graph kept) is other = workers_may _ workers is.values.0
means_plain words (Record workers) is other = absurd (other (_, _, is.form.words_are, inl refl))
means_plain words (Clock workers graph live) is other = workers_may _ workers is.values.0
means_plain words (Pool workers graph) is other = absurd (other (_, _, is.form.words_are, inr refl))
means_plain words c is other = tt

-- a command whose words begin with this one has it as its first word
named_by : (c : Command) (words : List Text) (word : Text) (rest : List Text) → IsCommand words c → words ≡ word ∷ rest → Some (first_of c) ≡ first_named word
named_by c words word rest is begins = sym (first_is (first_of c)) ∙ ap first_named (head_is (sym is.form.words_are ∙ begins))

-- so where they begin with `record` or `pool`, its first word is one of the two
record_or_pool : (c : Command) (words : List Text) → IsCommand words c → BeginsRecordOrPool words → (first_of c ≡ first.Record) ⊎ (first_of c ≡ first.Pool)
record_or_pool c words is (word, rest, begins, inl same) =
    let named : Some (first_of c) ≡ Some first.Record = named_by c words word rest is begins ∙ ap first_named same ∙ first_is first.Record in inl (cc)
record_or_pool c words is (word, rest, begins, inr same) =
    let named : Some (first_of c) ≡ Some first.Pool = named_by c words word rest is begins ∙ ap first_named same ∙ first_is first.Pool in inr (cc)

-- words that begin with one of the two and mean a command mean one that waits for threads
pub means_waiting : (words : List Text) (c : Command) → IsCommand words c → BeginsRecordOrPool words → WaitsForThreads c
means_waiting words c is begins = by_first c is (record_or_pool c words is begins)
  where
    by_first : (c : Command) → IsCommand words c → (first_of c ≡ first.Record) ⊎ (first_of c ≡ first.Pool) → WaitsForThreads c
    by_first (Record workers) is one = workers_may _ workers is.values
    by_first (Pool workers graph) is one = workers_may _ workers is.values.0
    by_first c is one = elim one [ inl e ↦ absurd (cc) | inr e ↦ absurd (cc) ]
