-- Bytes as numbers, and numbers of two and four bytes in a list of bytes.
use Rattle.std.specs.Prelude.{ℕ, ◌+◌, ◌/◌, ◌%◌, ◌<◌, ◌≡◌, List, set}
use Rattle.meaning.specs.Basics.{word, quad}

-- r is the byte x
pub record Byte (x r : ℕ) : Type 0 where
  pub is : r ≡ x
  pub small : r < 256

-- r is the two-byte number at a place
pub record Word (b : List ℕ) (at r : ℕ) : Type 0 where
  pub is : r ≡ word b at
  pub small : r < 65536

-- r is the four-byte number at a place
pub record Quad (b : List ℕ) (at r : ℕ) : Type 0 where
  pub is : r ≡ quad b at
  pub small : r < 4294967296

-- the bytes with v at a place, "high byte first"
unfoldable pub with_word : List ℕ → ℕ → ℕ → List ℕ
with_word b at v = set (set b at (v / 256)) (at + 1) (v % 256)
