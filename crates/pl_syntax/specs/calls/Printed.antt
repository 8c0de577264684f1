-- The printed form of a program.
use Rattle.std.specs.Prelude.{◌≡◌, false, ◌≤◌}
use Rattle.pl_syntax.specs.declared.limits.TheConstants.{MAX_NUMBER}
use Rattle.armus_base.specs.Offsets.{IsNear}
use Rattle.pl_syntax.specs.declared.tree.Program.{Program}
use Rattle.pl_syntax.specs.calls.Words.{IsName}
use Rattle.pl_syntax.specs.Tree.{Tree, done, plain, fork, loop, Plain, new_task, new_phaser, reg, dereg, adv, await, skip}
use Rattle.pl_syntax.specs.calls.Tree.{AllHere}

-- ---- what can be printed

-- the names of a statement without a body have the form of names, and its offset is no greater than a number of a text
abbrev pub PlainIsWritable : Plain → Type 0
PlainIsWritable (new_task x) = IsName x
PlainIsWritable (new_phaser x) = IsName x
PlainIsWritable (reg x y) = IsName x × IsName y
PlainIsWritable (dereg x) = IsName x
PlainIsWritable (adv x) = IsName x
PlainIsWritable (await x off) = IsName x × IsNear off
PlainIsWritable skip = Unit {0}

-- all names have the form of names, and no number is above the greatest
abbrev pub TreeIsWritable : Tree → Type 0
TreeIsWritable done = Unit {0}
TreeIsWritable (plain s rest) = PlainIsWritable s × TreeIsWritable rest
TreeIsWritable (fork x body rest) = IsName x × TreeIsWritable body × TreeIsWritable rest
TreeIsWritable (loop k body rest) = (k ≤ MAX_NUMBER) × TreeIsWritable body × TreeIsWritable rest

-- the program can be printed: in PL 1 no await looks back or ahead
pub record IsWritable (p : Program) : Type 0 where
  pub tree : TreeIsWritable p.body
  pub here : p.two ≡ false → AllHere p.body
