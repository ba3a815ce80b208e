-- What the answer to a read tells, and what counts as the input.
use Rattle.std.specs.Prelude.{ℕ, ◌≡◌, ◌<◌, ◌≤◌, Bool, true, false, List, [], take, length, Option, Result, Ok, Err}
use Rattle.std.specs.Io.KnownBytes.{Consumes, IsAtEnd}
use Rattle.lists.specs.Lists.{pick}

-- the read failed: the answer is an error
abbrev pub failed_read : {E : Type 0} → Result ℕ E → Bool
failed_read (Ok count) = false
failed_read (Err e) = true

-- what counts as the input: an input that could not be read to its end, since a read failed, counts as empty
abbrev pub input_of : (failed : Bool) (read : List ℕ) → List ℕ
input_of failed read = pick failed [] read

-- the part is the first bytes of an input, so many or all that there are
pub record FirstBytes (most : ℕ) (input part : List ℕ) : Type 0 where
  pub are : part ≡ take most input

-- What was read of an input, of which so many bytes decide, by a reader that had the bytes `before` left and then has the
-- bytes `after`, where those are known: they are its next bytes, no more than decide. If no read failed and they are fewer,
-- the input has ended.
pub record InputRead (enough : ℕ) (before after : Option (List ℕ)) (failed : Bool) (read : List ℕ) : Type 0 where
  pub bytes : Consumes before after read
  pub most : length read ≤ enough
  pub ended : failed ≡ false → length read < enough → IsAtEnd after
