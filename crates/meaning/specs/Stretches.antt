-- Demand 3 on conditioning, in document 01's words: how the CAs of a list cover the incoming digits. proofs/Stretches.antt proves it of every
-- set that keeps the group rules and fits its rule.
use Rattle.std.specs.Prelude.{ℕ, ◌+◌, ◌-◌, ◌≤◌, ◌<◌, ◌≡◌, ◌↔◌, true, List, [], ◌∷◌, length, T}
use Rattle.meaning.specs.Basics.{within, part}
use Rattle.meaning.specs.Filters.{Filter}
use Rattle.meaning.specs.Actions.{LAST-COUNTED, CA, is_ign, is_x, is_fpfx, is_ccdef, value_of, ActionSet}
use Rattle.meaning.specs.Groups.{fixed_sum}
use Rattle.meaning.specs.Conditioning.{short, Stretch, digits_at, joined}

abbrev pub stretch_at : ℕ → ℕ → Stretch
stretch_at start count = record { start = start; count = count }

-- the CAs cover the digits from place `at` to the end, each starting where the one before it ended; `read` gives the stretch of a value
pub data Covers (read : ℕ → Stretch) (prefix ds : List ℕ) : ℕ → List CA → Type 0 where
  -- nothing is left
  covered : Covers read prefix ds (length ds) []
  -- a fixed action: exactly its count of digits
  fixed : {at : ℕ} {a : CA} {xs : List CA} → T (within 2 LAST-COUNTED a.code) → read (value_of a.code) ≡ stretch_at at a.count
      → at + a.count ≤ length ds → Covers read prefix ds (at + a.count) xs → Covers read prefix ds at (a ∷ xs)
  -- "IGN drops its digits"
  ignored : {at : ℕ} {a : CA} {xs : List CA} → T (is_ign a)
      → at + a.count ≤ length ds → Covers read prefix ds (at + a.count) xs → Covers read prefix ds at (a ∷ xs)
  -- "FPFX takes the matched prefix"
  matched : {at : ℕ} {a : CA} {xs : List CA} → T (is_fpfx a) → read (value_of a.code) ≡ stretch_at at (length prefix)
      → part at (length prefix) ds ≡ prefix → at + length prefix ≤ length ds
      → Covers read prefix ds (at + length prefix) xs → Covers read prefix ds at (a ∷ xs)
  -- "An X action takes all that is left, at least one"
  all_left : {at : ℕ} {a : CA} {xs : List CA} → T (is_x a) → read (value_of a.code) ≡ stretch_at at (length ds - at)
      → at < length ds → Covers read prefix ds (length ds) xs → Covers read prefix ds at (a ∷ xs)
  -- "CCDEF takes none"
  takes_none : {at : ℕ} {a : CA} {xs : List CA} → T (is_ccdef a) → Covers read prefix ds at xs → Covers read prefix ds at (a ∷ xs)

-- SHORT "comes exactly when the rule's length is a wildcard and the number is no longer than document 01's sum F"
abbrev pub ShortExactly : Filter → ActionSet → List ℕ → Type 0
ShortExactly f s ds =
    (short (length f.prefix) (length ds) s.cas ≡ true) ↔ ((f.len ≡ 0) × (length ds ≤ fixed_sum (length f.prefix) s.cas))

-- "Otherwise the stretches taken and ignored .. joined in the order of the actions, are the incoming digits"
pub record Accounted (read : ℕ → Stretch) (f : Filter) (s : ActionSet) (ds : List ℕ) : Type 0 where
  pub covers : Covers read f.prefix ds 0 s.cas
  pub joins : joined (λ (v : ℕ). digits_at (read v) ds) ds 0 s.cas ≡ ds
