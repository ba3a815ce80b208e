-- Little-endian numbers in a list of bytes.
use Rattle.std.specs.Prelude.{ℕ, ◌+◌, ◌*◌, ◌/◌, ◌%◌, ◌^◌, Bool, List, [], ◌∷◌, get_or, eqb}

-- the 16-bit number at a byte place
abbrev pub word : List ℕ → ℕ → ℕ
word f at = get_or f at 0 + 256 * get_or f (at + 1) 0

-- the 32-bit number at a byte place
abbrev pub long : List ℕ → ℕ → ℕ
long f at = word f at + 65536 * word f (at + 2)

-- the 16-bit numbers that a part of a file holds, one after another
abbrev pub words : List ℕ → List ℕ
words [] = []
words (a ∷ []) = []
words (a ∷ b ∷ r) = (a + 256 * b) ∷ words r

-- bit b of a byte is set, bit 0 worth 1
abbrev pub bitb : ℕ → ℕ → Bool
bitb byte b = eqb (byte / 2 ^ b % 2) 1
