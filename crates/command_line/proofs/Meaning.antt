-- The words mean one command at most.
use Rattle.std.proofs.Common.{◌≡◌, ◌∙◌, ◌++◌, ℕ, List, [], ◌∷◌, Bool, true, false, inl, inr, ap, sym, refl, subst, arith}
use Rattle.std.specs.Prelude.{Option, Some, None, ◌==◌, option_to_list}
use Rattle.std.specs.List.{list_all}
use Rattle.std.specs.Str.{bytes_eq}
use Rattle.std.proofs.lemmas.Bool.{and_parts, cases_Bool}
use Rattle.std.proofs.lemmas.Slice.Eq.{bytes_eq-Decides}
use Rattle.std.proofs.lemmas.Grind.{common_steps}
use Rattle.program_io.specs.Texts.{Text}
use Rattle.command_line.specs.Words.{Use, valued, flag, AreUses, AreWords, IsValue, StandsAlone}
use Rattle.command_line.specs.Words.{all_words, dashed, first_word, has_value_alone, is_value_byte, name_of, use_words, wants_value, without}
use Rattle.command_line.specs.inside.Form.{first_named, option_named}
use Rattle.command_line.specs.Commands.{AreWorkers, Given, IsCommand, IsGenerated, IsRunKind, IsWantedGraph, IsNumber, Reads, first_of, given_by, graph_word}
use Rattle.command_line.specs.calls.Commands.{OneMeaning}
use Rattle.command_line.specs.declared.table.FirstWord.{FirstWord}
use Rattle.command_line.specs.declared.table.FirstWord.TheVariants as first
use Rattle.command_line.specs.declared.table.OptionWord.{OptionWord}
use Rattle.command_line.specs.declared.table.OptionWord.TheVariants.{Print}
use Rattle.command_line.specs.declared.command.Graph.{Graph}
use Rattle.command_line.specs.declared.command.Graph.TheVariants.{Auto, Wfg, Sg, Grg}
use Rattle.command_line.specs.declared.command.Command.{Command}
use Rattle.command_line.specs.declared.command.Command.TheVariants.{Check, Run, Avoid, Record, Replay, Gen, Clock, Pool}
use Rattle.command_line.specs.declared.command.RunKind.{RunKind}
use Rattle.command_line.specs.declared.command.RunKind.TheVariants as kinds

differ : (x y : Text) → bytes_eq x y ≡ false → x ≡ y → ⊥
differ x y unlike e = let yes : bytes_eq x y ≡ true = (bytes_eq-Decides x y).1 e in absurd (cc)

-- a word names the command whose word it is, and the option whose word it is
pub first_is : (f : FirstWord) → first_named (first_word f) ≡ Some f
first_is first.Check = refl
first_is f = refl

pub named_is : (o : OptionWord) → option_named (dashed o) ≡ Some o
named_is Print = refl
named_is o = refl

one_first : (a b : FirstWord) → first_word a ≡ first_word b → a ≡ b
one_first a b e = let both : Some a ≡ Some b = sym (first_is a) ∙ ap first_named e ∙ first_is b in cc

one_option : (a b : OptionWord) → dashed a ≡ dashed b → a ≡ b
one_option a b e = let both : Some a ≡ Some b = sym (named_is a) ∙ ap option_named e ∙ named_is b in cc

-- options of one name are one
pub one_name : (a b : OptionWord) → bytes_eq (name_of a) (name_of b) ≡ true → a ≡ b
one_name a b e =
    let names : name_of a ≡ name_of b = (bytes_eq-Decides (name_of a) (name_of b)).0 e in one_option a b (ap (λ (n : Text). 45 ∷ 45 ∷ n) names)

-- a flag and an option that wants a value have two names
pub names_differ : (a b : OptionWord) → (wants_value a ≡ wants_value b → ⊥) → bytes_eq (name_of a) (name_of b) ≡ false
names_differ a b other =
    elim (cases_Bool (bytes_eq (name_of a) (name_of b))) [ inl same ↦ absurd (other (ap wants_value (one_name a b same))) | inr differs ↦ differs ]

pub head_is : {x y : Text} {xs ys : List Text} → x ∷ xs ≡ y ∷ ys → x ≡ y
head_is e = cc

pub tail_is : {x y : Text} {xs ys : List Text} → x ∷ xs ≡ y ∷ ys → xs ≡ ys
tail_is e = cc

pub no_hyphen : (x : ℕ) → is_value_byte x ≡ true → (x == 45) ≡ false
no_hyphen x e = grind (arith, common_steps)

-- a value begins with no hyphen
pub no_option : (o : OptionWord) (v : Text) → IsValue v → dashed o ≡ v → ⊥
no_option o [] is e = absurd (cc)
no_option o (x ∷ xs) is e =
    let begins : 45 ≡ x = cc in
    let plain : (x == 45) ≡ false = no_hyphen x (and_parts (is_value_byte x) (list_all is_value_byte xs) is.plain).0 in
    let same : (45 == 45) ≡ false = subst (λ y. (y == 45) ≡ false) (sym begins) plain in absurd (cc)

-- no use and then more is the value that stands by itself
use_or_alone : (n : Bool) (u : Use) (us : List Use) (more : List Text) (alone : Option Text) → StandsAlone n alone
    → use_words u ++ more ≡ option_to_list alone → ⊥
use_or_alone true (valued o v) us more (Some w) stands e = no_option o w stands (head_is e)
use_or_alone true (flag o) us more (Some w) stands e = no_option o w stands (head_is e)
use_or_alone true u us more None stands e = absurd stands
use_or_alone false u us more (Some w) stands e = absurd stands
use_or_alone false (valued o v) us more None stands e = absurd (cc)
use_or_alone false (flag o) us more None stands e = absurd (cc)

-- what the same words stand for is the same
pub record SameUses (us vs : List Use) (a b : Option Text) : Type 0 where
  pub uses : us ≡ vs
  pub alone : a ≡ b

same_alone : (n : Bool) (a b : Option Text) → StandsAlone n a → StandsAlone n b → option_to_list a ≡ option_to_list b → a ≡ b
same_alone true (Some v) (Some w) p q e = ap Some (head_is e)
same_alone true (Some v) None p q e = absurd q
same_alone true None b p q e = absurd p
same_alone false (Some v) b p q e = absurd p
same_alone false None (Some w) p q e = absurd q
same_alone false None None p q e = refl

mixed : (o p : OptionWord) → o ≡ p → wants_value o ≡ true → wants_value p ≡ false → ⊥
mixed o p e f g = absurd (cc (ap wants_value e))

same_uses : (n : Bool) (free fresh : OptionWord → Bool) (us vs : List Use) (a b : Option Text) → AreUses free us → AreUses fresh vs
    → StandsAlone n a → StandsAlone n b → all_words us ++ option_to_list a ≡ all_words vs ++ option_to_list b → SameUses us vs a b
same_uses n free fresh [] [] a b p q s t e = record { uses = refl; alone = same_alone n a b s t e }
same_uses n free fresh [] (valued o v ∷ vs) a b p q s t e = absurd (use_or_alone n (valued o v) vs (all_words vs ++ option_to_list b) a s (sym e))
same_uses n free fresh [] (flag o ∷ vs) a b p q s t e = absurd (use_or_alone n (flag o) vs (all_words vs ++ option_to_list b) a s (sym e))
same_uses n free fresh (valued o v ∷ us) [] a b p q s t e = absurd (use_or_alone n (valued o v) us (all_words us ++ option_to_list a) b t e)
same_uses n free fresh (flag o ∷ us) [] a b p q s t e = absurd (use_or_alone n (flag o) us (all_words us ++ option_to_list a) b t e)
same_uses n free fresh (valued o v ∷ us) (valued o' w ∷ vs) a b p q s t e =
    let option_is : o ≡ o' = one_option o o' (head_is e) in
    let value_is : v ≡ w = head_is (tail_is e) in
    let more = same_uses n (without o free) (without o' fresh) us vs a b p.2 q.2 s t (tail_is (tail_is e)) in
    let uses_are : us ≡ vs = more.uses in
    record { uses = cc; alone = more.alone }
same_uses n free fresh (flag o ∷ us) (flag o' ∷ vs) a b p q s t e =
    let option_is : o ≡ o' = one_option o o' (head_is e) in
    let more = same_uses n (without o free) (without o' fresh) us vs a b p.2 q.2 s t (tail_is e) in
    let uses_are : us ≡ vs = more.uses in
    record { uses = cc; alone = more.alone }
same_uses n free fresh (valued o v ∷ us) (flag o' ∷ vs) a b p q s t e = absurd (mixed o o' (one_option o o' (head_is e)) p.1.0 q.1)
same_uses n free fresh (flag o ∷ us) (valued o' w ∷ vs) a b p q s t e = absurd (mixed o' o (sym (one_option o o' (head_is e))) q.1.0 p.1)

same_graph : (g h : Graph) → graph_word g ≡ graph_word h → g ≡ h
same_graph Auto Auto e = refl
same_graph Wfg Wfg e = refl
same_graph Sg Sg e = refl
same_graph Grg Grg e = refl
same_graph g h e = absurd (differ (graph_word g) (graph_word h) refl e)

one_number : (text : Text) (most a b : ℕ) → IsNumber text most a → IsNumber text most b → a ≡ b
one_number text most a b p q = sym p.value ∙ q.value

one_workers : (o : Option Text) (a b : ℕ) → AreWorkers o a → AreWorkers o b → a ≡ b
one_workers (Some text) a b p q = one_number text _ a b p q
one_workers None a b p q = p ∙ sym q

one_graph : (o : Option Text) (g h : Graph) → IsWantedGraph o g → IsWantedGraph o h → g ≡ h
one_graph (Some text) g h p q = same_graph g h (sym p ∙ q)
one_graph None g h p q = p ∙ sym q

one_generated : (o : Option Text) (a b : ℕ) → IsGenerated o a → IsGenerated o b → a ≡ b
one_generated (Some text) a b p q = one_number text _ a b p q
one_generated None a b p q = absurd p

one_kind : (live : Bool) (sites : Option Text) (a b : RunKind) → IsRunKind live sites a → IsRunKind live sites b → a ≡ b
one_kind false None a b p q = p ∙ sym q
one_kind true None a b p q = p ∙ sym q
one_kind false (Some text) a b (m, a_is, p) (n, b_is, q) = a_is ∙ ap kinds.Sites (one_number text _ m n p q) ∙ sym b_is
one_kind true (Some text) a b p q = absurd p

-- the command has this first word, and no other
pub data Begins : FirstWord → Command → Type 0 where
  check : (print : Bool) → Begins first.Check (Check print)
  run : (workers : ℕ) (graph : Graph) (kind : RunKind) → Begins first.Run (Run workers graph kind)
  avoid : (workers : ℕ) (graph : Graph) (kept : Bool) → Begins first.Avoid (Avoid workers graph kept)
  record_run : (workers : ℕ) → Begins first.Record (Record workers)
  replay : Begins first.Replay Replay
  generate : (count : ℕ) → Begins first.Gen (Gen count)
  clock : (workers : ℕ) (graph : Graph) (live : Bool) → Begins first.Clock (Clock workers graph live)
  pool : (workers : ℕ) (graph : Graph) → Begins first.Pool (Pool workers graph)

begins : (c : Command) → Begins (first_of c) c
begins (Check print) = check print
begins (Run workers graph kind) = run workers graph kind
begins (Avoid workers graph kept) = avoid workers graph kept
begins (Record workers) = record_run workers
begins Replay = replay
begins (Gen count) = generate count
begins (Clock workers graph live) = clock workers graph live
begins (Pool workers graph) = pool workers graph

pub begins_with : (f : FirstWord) (c : Command) → first_of c ≡ f → Begins f c
begins_with f c is = subst (λ g. Begins g c) is (begins c)

-- what is given is that of one command with this first word
same_run : (w v : ℕ) (g h : Graph) (k l : RunKind) (given : Given) → Reads (Run w g k) given → Reads (Run v h l) given → Run w g k ≡ Run v h l
same_run w v g h k l given (few, wants, kind) (few_too, wants_too, kind_too) =
    let workers_are : w ≡ v = one_workers given.workers w v few few_too in
    let graph_is : g ≡ h = one_graph given.graph g h wants wants_too in
    let kind_is : k ≡ l = one_kind given.live given.sites k l kind kind_too in cc

same_pool : (w v : ℕ) (g h : Graph) (given : Given) → Reads (Pool w g) given → Reads (Pool v h) given → Pool w g ≡ Pool v h
same_pool w v g h given p q =
    let workers_are : w ≡ v = one_workers given.workers w v p.0 q.0 in
    let graph_is : g ≡ h = one_graph given.graph g h p.1 q.1 in cc

same_avoid : (w v : ℕ) (g h : Graph) (k l : Bool) (given : Given) → Reads (Avoid w g k) given → Reads (Avoid v h l) given → Avoid w g k ≡ Avoid v h l
same_avoid w v g h k l given p q =
    let workers_are : w ≡ v = one_workers given.workers w v p.0 q.0 in
    let graph_is : g ≡ h = one_graph given.graph g h p.1 q.1 in
    let kept_is : k ≡ l = p.2 ∙ sym q.2 in cc

same_clock : (w v : ℕ) (g h : Graph) (k l : Bool) (given : Given) → Reads (Clock w g k) given → Reads (Clock v h l) given → Clock w g k ≡ Clock v h l
same_clock w v g h k l given p q =
    let workers_are : w ≡ v = one_workers given.workers w v p.0 q.0 in
    let graph_is : g ≡ h = one_graph given.graph g h p.1 q.1 in
    let live_is : k ≡ l = p.2 ∙ sym q.2 in cc

one_reading : (f : FirstWord) (c d : Command) (given : Given) → Begins f c → Begins f d → Reads c given → Reads d given → c ≡ d
one_reading _ _ _ given (check a) (check b) p q = ap Check (p ∙ sym q)
one_reading _ _ _ given (run w g k) (run v h l) p q = same_run w v g h k l given p q
one_reading _ _ _ given (avoid w g k) (avoid v h l) p q = same_avoid w v g h k l given p q
one_reading _ _ _ given (record_run w) (record_run v) p q = ap Record (one_workers given.workers w v p q)
one_reading _ _ _ given replay replay p q = refl
one_reading _ _ _ given (generate n) (generate k) p q = ap Gen (one_generated given.alone n k p q)
one_reading _ _ _ given (clock w g k) (clock v h l) p q = same_clock w v g h k l given p q
one_reading _ _ _ given (pool w g) (pool v h) p q = same_pool w v g h given p q

-- words have the form of one first word alone
pub record SameForm (a b : FirstWord) (us vs : List Use) (x y : Option Text) : Type 0 where
  pub first : a ≡ b
  pub same : SameUses us vs x y

pub same_form : (words : List Text) (a b : FirstWord) (us vs : List Use) (x y : Option Text) → AreWords words a us x → AreWords words b vs y → SameForm a b us vs x y
same_form words a b us vs x y p q =
    let both : first_word a ∷ (all_words us ++ option_to_list x) ≡ first_word b ∷ (all_words vs ++ option_to_list y) = sym p.words_are ∙ q.words_are in
    let firsts : a ≡ b = one_first a b (head_is both) in
    record {
      first = firsts;
      same = same_uses (has_value_alone a) _ _ us vs x y p.uses_fit q.uses_fit p.alone_fits
          (subst (λ f. StandsAlone (has_value_alone f) y) (sym firsts) q.alone_fits) (tail_is both);
    }

one_command : (words : List Text) (c d : Command) → IsCommand words c → IsCommand words d → c ≡ d
one_command words c d p q =
    let form = same_form words (first_of c) (first_of d) p.uses q.uses p.alone q.alone p.form q.form in
    let uses_are : p.uses ≡ q.uses = form.same.uses in
    let alone_is : p.alone ≡ q.alone = form.same.alone in
    let given_is : given_by q.uses q.alone ≡ given_by p.uses p.alone = cc in
    one_reading (first_of d) c d (given_by p.uses p.alone) (begins_with (first_of d) c form.first) (begins d) p.values (subst (Reads d) given_is q.values)

pub one_meaning : OneMeaning
one_meaning words (Some c) (Some d) p q = ap Some (one_command words c d p q)
one_meaning words (Some c) None p q = absurd (q c p)
one_meaning words None (Some d) p q = absurd (p d q)
one_meaning words None None p q = refl
