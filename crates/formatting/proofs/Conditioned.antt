-- The conditioned number: the parts that its values are, and how a loop over its codes goes on.
use Prim.Native.Nat.{ℕ, ◌+◌, ◌-◌, ◌≤◌}
use mathlib.Core.Path.{◌≡◌, refl, sym, ap, ◌∙◌}
use mathlib.Core.Bool.{Bool, true, false}
use mathlib.Core.List.{List, [], ◌∷◌, ◌++◌, append_assoc, append-nil}
use native.Mathlib.Nat.{sub-zero}
use native.Mathlib.Omega.{arith}
use lib.ListN.{length, take, get_or, length-append}
use lib.Seq.{take_all}
use borrow.Rule.Slice.PartMut.{put_mid, mid_of}
use Rattle.meaning.specs.Basics.{part, written_over}
use Rattle.std.specs.Prelude.{if◌then◌else◌}
use Rattle.meaning.specs.Settings.{settings_of}
use Rattle.meaning.specs.Actions.{CC, AC, SN, DN, ZN, CA, cas_of}
use Rattle.meaning.specs.Groups.{is_set}
use Rattle.meaning.specs.Conditioning.{short, stretch_of, digits_at, value_from, conditioned_from}
use Rattle.meaning.specs.Services.{join}
use Rattle.blocks.proofs.OverLaws.{length_over, written_behind}
use Rattle.conditioning.specs.Spans.{stretch_in}
use Rattle.formatting.specs.Joins.{conditioned, conditioned_codes, Writes}

-- THE PARTS

-- the default country code
country_is : (settings : List ℕ) → (settings_of settings).country ≡ take (get_or settings 0 0) (part 1 3 settings)
unfolding settings_of
country_is [] = refl
country_is (n ∷ ds) = refl

-- its length byte n is within the width, or not
module _ (settings : List ℕ) (n : ℕ) (n-is : n ≡ get_or settings 0 0) where
  pub country_some : take (n - 0) (part 1 3 settings) ≡ (settings_of settings).country
  country_some = rw (sub-zero, n-is) (sym (country_is settings))

  pub country_full : length (part 1 3 settings) ≤ n → part 1 3 settings ≡ (settings_of settings).country
  country_full h = sym (country_is settings ∙ take_all (get_or settings 0 0) (part 1 3 settings) (rw n-is at h))

-- where the digits are enough, no stretch is empty for SHORT
pub stretch_enough : (v prefix : ℕ) (xs : List CA) (digits : List ℕ) → short prefix (length digits) xs ≡ false
    → digits_at (stretch_in v prefix (length digits) xs) digits ≡ digits_at (stretch_of v prefix (length digits) xs) digits
stretch_enough v prefix xs digits e = rw e

-- WHICH VALUES

abbrev pub values_of : List ℕ → List ℕ → List ℕ → ℕ → ℕ → List ℕ
values_of settings digits cas prefix v = value_from (settings_of settings).country prefix digits (cas_of cas) v

conditioned_by_lem : (xs : List CA) (value : ℕ → List ℕ) → join value (conditioned_codes xs) ≡ conditioned_from xs value
unfolding conditioned_codes conditioned_from
conditioned_by_lem xs value = go (is_set ZN xs) (is_set DN xs)
  where
    go : (z d : Bool) → join value (if z then (ZN ∷ []) else if d then (CC ∷ DN ∷ []) else (CC ∷ AC ∷ SN ∷ []))
        ≡ (if z then value ZN else if d then value CC ++ value DN else value CC ++ (value AC ++ value SN))
    go true d = append-nil (value ZN)
    go false true = rw append-nil
    go false false = rw append-nil

module _ (settings digits cas : List ℕ) (prefix : ℕ) where
  conditioned_is : join (values_of settings digits cas prefix) (conditioned_codes (cas_of cas)) ≡ conditioned settings digits cas prefix
  unfolding conditioned
  conditioned_is = conditioned_by_lem (cas_of cas) (values_of settings digits cas prefix)

  pub conditioned_room : {codes : List ℕ} {n : ℕ} → codes ≡ conditioned_codes (cas_of cas) → length (conditioned settings digits cas prefix) ≤ n → length (join (values_of settings digits cas prefix) codes) ≤ n
  conditioned_room e h = rw (e, conditioned_is) h

  pub conditioned_writes : {codes old out : List ℕ} {r : ℕ} → codes ≡ conditioned_codes (cas_of cas) → Writes (join (values_of settings digits cas prefix) codes) old out r
      → Writes (conditioned settings digits cas prefix) old out r
  conditioned_writes e w = rw (e, conditioned_is) at w

-- HOW A LOOP OVER THE CODES GOES ON

-- at `end`, the values before those that are left are written over the front of what was lent, of the codes `all`
pub record JoiningOver (v : ℕ → List ℕ) (all left old : List ℕ) (end : ℕ) (out : List ℕ) : Type 0 where
  pub done : List ℕ
  pub out_is : out ≡ written_over done old
  pub end_is : end ≡ length done
  pub inside : end ≤ length old
  pub joins : done ++ join v left ≡ join v all

pub over_none : (v : ℕ → List ℕ) (all old : List ℕ) → JoiningOver v all all old 0 old
over_none v all old = record { done = []; out_is = refl; end_is = refl; inside = omega arith; joins = refl }

module _ {v : ℕ → List ℕ} {all left old out : List ℕ} {end : ℕ} (g : JoiningOver v all left old end out) where
  pub over_long : length out ≡ length old
  over_long = ap length g.out_is ∙ length_over g.done old (omega (arith, g.end_is, g.inside))

  -- none is left
  pub over_all : left ≡ [] → Writes (join v all) old out end
  over_all e =
      let d : g.done ≡ join v all = sym (append-nil g.done) ∙ (rw e at g.joins) in
      record { written = g.out_is ∙ ap (λ (x : List ℕ). written_over x old) d; count = g.end_is ∙ ap length d }

  module _ {f : ℕ} {later : List ℕ} (e : left ≡ f ∷ later) (value : List ℕ) (is : value ≡ v f) (room : length (join v all) ≤ length old) where
    next : g.done ++ (value ++ join v later) ≡ join v all
    next = rw (e, ← is) at g.joins

    fits : end + length value ≤ length old
    fits = omega (arith, simp length-append at (ap length next), g.end_is)

    pub over_room_lem : end + length value ≤ length out
    over_room_lem = omega (arith, fits, over_long)

    -- the value directly behind those before it
    pub over_more : (last : List ℕ) → last ≡ written_over value (mid_of end (length out - end) out)
        → JoiningOver v all later old (end + length value) (put_mid end (length out - end) out last)
    over_more last w =
        record {
          done = g.done ++ value;
          out_is = written_behind g.done value old end g.out_is g.end_is fits last w;
          end_is = ap (λ (k : ℕ). k + length value) g.end_is ∙ sym (length-append g.done value);
          inside = fits;
          joins = append_assoc g.done value _ ∙ next;
        }
