-- When two outputs of a command are alike: they are the same, but for the order of live lines.
use Rattle.std.specs.Prelude.{◌≡◌, ◌≢◌, ◌++◌, ◌↔◌, ◌⊎◌, List, AllPairs, Contains, true, false}
use Rattle.armus_base.specs.declared.status.Dead.{Dead}
use Rattle.report.specs.Live.{live_text}
use Rattle.command_line.specs.declared.command.Command.{Command}
use Rattle.command_line.specs.declared.command.Command.TheVariants.{Check, Run, Avoid, Record, Replay, Gen, Clock, Pool}
use Rattle.command_line.specs.declared.command.RunKind.TheVariants.{Plain, Live, Sites}
use Rattle.program_io.specs.Texts.{Text}

-- no two of them name one task
abbrev pub NameEachOnce : List Dead → Type 0
NameEachOnce named = AllPairs (λ a b. a.t ≢ b.t) named

-- the same live lines, each once, in this order or another, ahead of the same report
pub record HaveSameLines (p q : Text) : Type 0 where
  pub named : List Dead
  pub others : List Dead
  pub report : Text
  pub first : p ≡ live_text named ++ report
  pub second : q ≡ live_text others ++ report
  pub once : NameEachOnce named
  pub once_too : NameEachOnce others
  pub same : (d : Dead) → Contains named d ↔ Contains others d

-- the same, or the same but for the order of live lines
abbrev pub AreSameLines : Text → Text → Type 0
AreSameLines p q = (p ≡ q) ⊎ HaveSameLines p q

-- two outputs of the command are alike
abbrev pub AreAlike : Command → Text → Text → Type 0
AreAlike (Run workers g Plain) p q = p ≡ q
AreAlike (Run workers g Live) p q = AreSameLines p q
AreAlike (Run workers g (Sites sites)) p q = p ≡ q
AreAlike (Pool workers g) p q = p ≡ q
AreAlike (Check print) p q = p ≡ q
AreAlike (Avoid workers g kept) p q = p ≡ q
AreAlike (Record workers) p q = p ≡ q
AreAlike Replay p q = p ≡ q
AreAlike (Gen count) p q = p ≡ q
AreAlike (Clock workers g false) p q = p ≡ q
AreAlike (Clock workers g true) p q = AreSameLines p q
