-- However a file is cut into parts: runs of steps over it, and the text that they write.
use Rattle.std.specs.Prelude.{ℕ, ◌≡◌, Bool, true, List, [], ◌++◌, drop}
use Rattle.meaning.specs.Records.{House, new_house, file_text, End, end_here, end_behind, file_end}
use Rattle.record.specs.Turns.{wrote, wants, full, ends, turn}

-- the part at hand and what comes behind it are what is left of the file; the input has ended only where nothing comes behind
pub record Cut (left part rest : List ℕ) (ended : Bool) : Type 0 where
  pub joins : left ≡ part ++ rest
  pub last : ended ≡ true → rest ≡ []

-- steps, each over a part of what is left, of any size and with any room for output, until reading has ended; the joined text, and the end
pub data Steps : House → ℕ → List ℕ → List ℕ → End → Type 0 where
  line : {s t : House} {lines next taken : ℕ} {left part rest text texts : List ℕ} {ended : Bool} {e : End} (room : ℕ) → Cut left part rest ended
      → turn s lines ended part room ≡ wrote text taken t next → Steps t next (drop taken left) texts e → Steps s lines left (text ++ texts) (end_behind taken e)
  wanting : {s : House} {lines : ℕ} {left part rest texts : List ℕ} {ended : Bool} {e : End} (room : ℕ) → Cut left part rest ended
      → turn s lines ended part room ≡ wants → Steps s lines left texts e → Steps s lines left texts e
  filled : {s : House} {lines : ℕ} {left part rest texts : List ℕ} {ended : Bool} {e : End} (room : ℕ) → Cut left part rest ended
      → turn s lines ended part room ≡ full → Steps s lines left texts e → Steps s lines left texts e
  over : {s : House} {lines refusal : ℕ} {left part rest text : List ℕ} {ended : Bool} (room : ℕ) → Cut left part rest ended
      → turn s lines ended part room ≡ ends text refusal → Steps s lines left text (end_here refusal s)

-- "the joined text is the meaning's text of the whole file", however it is cut, and so is the end
abbrev pub AnyCut : Type 0
AnyCut = (file text : List ℕ) (e : End) → Steps new_house 0 file text e → (text ≡ file_text file) × (e ≡ file_end file)
