-- What is written of a text, byte by byte.
use Rattle.std.specs.Prelude.{ℕ, suc, zero, if◌then◌else◌, nat_lt}
use Rattle.std.specs.Str.{continuation_len}
use Rattle.program_io.specs.Texts.{Text}
use Rattle.program_io.specs.Legible.{begins_character}

-- what is written of a byte before these, where so many bytes go on a character
abbrev pub legible_byte : ℕ → ℕ → Text → ℕ
legible_byte zero byte rest = if begins_character byte rest then byte else 63
legible_byte (suc n) byte rest = byte

-- how many bytes go on a character behind this byte, with which so many do
abbrev pub behind_byte : ℕ → ℕ → Text → ℕ
behind_byte zero byte rest = if begins_character byte rest then continuation_len byte else 0
behind_byte (suc n) byte rest = n

-- what is told of a byte of the name of a file
abbrev pub told_byte : ℕ → ℕ
told_byte byte = if nat_lt byte 32 then 63 else byte
