-- Document 01, "Carrying it out", conditioning: which stretch of the incoming number each CA takes, SHORT, the values and the conditioned number.
-- `prefix` is the length of the matched prefix, `left` how many digits are left, `at` the place reached.
use Rattle.std.specs.Prelude.{ℕ, ◌+◌, ◌-◌, Bool, false, ◌&&◌, ◌||◌, not, List, [], ◌∷◌, ◌++◌, length, ltb, eqb}
use Rattle.meaning.specs.Basics.{any, is_zero, part}
use Rattle.std.specs.Prelude.{if◌then◌else◌}
use Rattle.meaning.specs.Actions.{CC, AC, SN, DN, ZN, CA, is_ign, is_x, is_ccdef, value_of, sets_value}
use Rattle.meaning.specs.Groups.{is_set, fixed_of}

-- how many digits a CA takes: "Each takes that many digits .. An X action takes all that is left .. FPFX takes the matched prefix .. CCDEF takes none"
abbrev pub width : ℕ → ℕ → CA → ℕ
width prefix left a = if is_x a then left else fixed_of prefix a

-- too few digits for it; an X action takes "at least one"
abbrev pub meets_too_few : ℕ → ℕ → CA → Bool
meets_too_few prefix left a = if is_x a then is_zero left else ltb left (fixed_of prefix a)

-- SHORT: "conditioning meets too few digits", each CA taking "from the front of what is left"
abbrev pub short : ℕ → ℕ → List CA → Bool
short prefix left [] = false
short prefix left (a ∷ xs) = meets_too_few prefix left a || short prefix (left - width prefix left a) xs

-- STRETCHES

pub record Stretch : Type 0 where
  pub start : ℕ
  pub count : ℕ

-- "an empty stretch if the value isn't taken from the number"; where it starts is the project's choice (docs/DECISIONS.md, 15)
abbrev pub empty_stretch : Stretch
empty_stretch = record { start = 0; count = 0 }

-- the CA takes value v from the number: CCDEF takes none
abbrev pub takes_value : ℕ → CA → Bool
takes_value v a = sets_value v a && not (is_ccdef a)

-- the stretch that value v covers, from place `at` on
abbrev pub stretch_from : ℕ → ℕ → ℕ → ℕ → List CA → Stretch
stretch_from v prefix at left [] = empty_stretch
stretch_from v prefix at left (a ∷ xs) =
    let rest : Stretch = stretch_from v prefix (at + width prefix left a) (left - width prefix left a) xs in
    if takes_value v a then record { start = at; count = width prefix left a } else rest

unfoldable pub stretch_of : ℕ → ℕ → ℕ → List CA → Stretch
stretch_of v prefix n xs = stretch_from v prefix 0 n xs

abbrev pub digits_at : Stretch → List ℕ → List ℕ
digits_at s ds = part s.start s.count ds

-- THE VALUES

-- value v of the digits ds: its stretch, or "CCDEF .. sets CC to the default"
unfoldable pub value_from : List ℕ → ℕ → List ℕ → List CA → ℕ → List ℕ
value_from country prefix ds xs v =
    if eqb v CC && any is_ccdef xs then country else digits_at (stretch_of v prefix (length ds) xs) ds

-- "The conditioned number is ZN, or CC then DN, or CC then AC then SN", by the format that stands
unfoldable pub conditioned_from : List CA → (ℕ → List ℕ) → List ℕ
conditioned_from xs value =
    if is_set ZN xs then value ZN else
    if is_set DN xs then value CC ++ value DN else value CC ++ (value AC ++ value SN)

-- JOINING ALONG THE CA LIST, for demand 3

-- "a value adds its stretch as read, IGN its count of incoming digits from the place reached, CCDEF nothing"
abbrev pub adds : (ℕ → List ℕ) → List ℕ → ℕ → CA → List ℕ
adds read ds at a = if is_ign a then part at a.count ds else if is_ccdef a then [] else read (value_of a.code)

abbrev pub joined : (ℕ → List ℕ) → List ℕ → ℕ → List CA → List ℕ
joined read ds at [] = []
joined read ds at (a ∷ xs) = adds read ds at a ++ joined read ds (at + length (adds read ds at a)) xs
