-- The characters that stand between words, in ASCII.
use Rattle.std.specs.Prelude.{ℕ}

abbrev pub space : ℕ
space = 32

abbrev pub line_feed : ℕ
line_feed = 10
