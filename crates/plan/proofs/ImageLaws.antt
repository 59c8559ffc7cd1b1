-- The image of a sound plan has the size that its rooms need, decodes to that plan whatever stands behind, and is sound; a sound memory is
-- its plan's image and the rest.
use Prim.Native.Nat.{ℕ, ◌+◌, ◌-◌, ◌*◌, ◌/◌, ◌%◌, ◌≤◌}
use mathlib.Core.Path.{◌≡◌, refl, ap, ap₂, sym, subst, ◌∙◌}
use mathlib.Core.Bool.{Bool, true, false}
use mathlib.Core.List.{List, [], ◌∷◌, ◌++◌, map, append_assoc}
use mathlib.Core.Option.{Option, none, some}
use native.Mathlib.Omega.{arith}
use native.Mathlib.Nat.{div-add-mod'}
use lib.ListN.{length, take, drop, get_or, length-append, length-drop, length-map, take-append-drop}
use lib.Seq.{take_at, drop_at, drop-append-le, take-append-le, drop-drop, get_or-drop, length-take-le}
use lib.Dec.{T, eqb→eq, leb→le, le→leb}
use Rattle.meaning.specs.Sizes.{ROOMS-BYTES, SETTINGS-BYTES, CONTENT-BYTES, FILTER-BYTES, SET-AT, RULE-BODY, SETTINGS-AT, SETTINGS-END, SETS-AT, COUNT-AT, SET-WIDTH, RULE-WIDTH}
use Rattle.meaning.specs.Basics.{all, word, part}
use Rattle.meaning.specs.Settings.{rooms_of, bytes_needed}
use Rattle.meaning.specs.Rules.{Rule}
use Rattle.meaning.specs.Plan.{Plan, rooms_in, sound, sized, content_rules, content_passes, slot_passes, code_passes, codes_pass}
use Rattle.meaning.proofs.Tests.{is_true, true_is, and_left, and_right, all_at, each_all, same_tests, same_self, same_bytes_lem}
use Rattle.meaning.proofs.Soundness.{Sound, sound_of_lem, sound_parts}
use Rattle.buffer.proofs.ListLaws.{part_part}
use Rattle.buffer.specs.Zeros.{zeros}
use Rattle.buffer.specs.Slots.{slots, flat, Wide}
use Rattle.buffer.proofs.ZeroLaws.{length_zeros}
use Rattle.buffer.proofs.SlotLaws.{length_flat, slots_flat}
use Rattle.filter.specs.Slots.{rule_of, rules_of}
use Rattle.plan.specs.Layout.{word_bytes, mark, header_image, slot_image, rule_image, sets_image, rules_image, image, rooms_at, size_of, set_room, rule_count, slot_of, slots_of, plan_of}
use Rattle.plan.specs.State.{sound_tests, sound_of, state_of, rest_of}

-- two bytes of a number are the number
pub word_bytes_lem : (n : ℕ) → n / 256 * 256 + n % 256 ≡ n
word_bytes_lem n = div-add-mod' n 256

-- a number further on stands at the front of what is left
pub word_drop : (b : List ℕ) (at : ℕ) → word b at ≡ get_or (drop at b) 0 0 * 256 + get_or (drop at b) 1 0
word_drop b at =
    let here : at + 0 ≡ at = omega arith in
    rw (get_or-drop at b 0 0, get_or-drop at b 1 0, here)

-- ONE SLOT

content_size : (c : List ℕ) → T (content_passes c) → length c ≡ CONTENT-BYTES
unfolding content_passes
content_size c t = eqb→eq (length c) CONTENT-BYTES (all_at 0 (content_rules c) t)

pub slot_size : (n : ℕ) (o : Option (List ℕ)) → T (slot_passes o) → length (slot_image n o) ≡ SET-WIDTH
slot_size n none t = rw (length-append (zeros COUNT-AT) (word_bytes n), length_zeros COUNT-AT)
slot_size n (some c) t = rw (length-append c (word_bytes n), content_size c t)

pub slot_back : (n : ℕ) (o : Option (List ℕ)) → T (slot_passes o) → slot_of (slot_image n o) ≡ o
unfolding slot_of zeros
slot_back n none t = refl
slot_back n (some c) t = ap some (take_at c (word_bytes n) CONTENT-BYTES (content_size c t))

pub code_size : (c : List ℕ) → T (code_passes c) → length c ≡ FILTER-BYTES
unfolding code_passes
code_size c t = eqb→eq (length c) FILTER-BYTES (and_left (sized FILTER-BYTES c) _ t)

pub rule_size : (r : Rule) → T (code_passes r.code) → length (rule_image r) ≡ RULE-WIDTH
unfolding rule_image
rule_size r t = rw (length-append r.code (word_bytes r.set ++ zeros (RULE-WIDTH - RULE-BODY)), code_size r.code t, length-append (word_bytes r.set) (zeros (RULE-WIDTH - RULE-BODY)), length_zeros (RULE-WIDTH - RULE-BODY))

pub rule_back : (r : Rule) → T (code_passes r.code) → rule_of (rule_image r) ≡ r
unfolding rule_of rule_image
rule_back r t =
    let code : take FILTER-BYTES (r.code ++ (word_bytes r.set ++ zeros (RULE-WIDTH - RULE-BODY))) ≡ r.code = take_at r.code (word_bytes r.set ++ zeros (RULE-WIDTH - RULE-BODY)) FILTER-BYTES (code_size r.code t) in
    let behind : drop FILTER-BYTES (r.code ++ (word_bytes r.set ++ zeros (RULE-WIDTH - RULE-BODY))) ≡ word_bytes r.set ++ zeros (RULE-WIDTH - RULE-BODY) =
    drop_at r.code (word_bytes r.set ++ zeros (RULE-WIDTH - RULE-BODY)) FILTER-BYTES (code_size r.code t) in
    let set : word (r.code ++ (word_bytes r.set ++ zeros (RULE-WIDTH - RULE-BODY))) SET-AT ≡ r.set =
    rw (word_drop (r.code ++ (word_bytes r.set ++ zeros (RULE-WIDTH - RULE-BODY))) SET-AT, behind) (word_bytes_lem r.set) in
    λ i. record { code = code i; set = set i }

-- ALL SLOTS

pub wide_sets : (n : ℕ) (os : List (Option (List ℕ))) → T (all slot_passes os) → Wide SET-WIDTH (map (slot_image n) os)
wide_sets n [] t = tt
wide_sets n (o ∷ os) t = (slot_size n o (and_left (slot_passes o) (all slot_passes os) t), wide_sets n os (and_right (slot_passes o) (all slot_passes os) t))

sets_back : (n : ℕ) (os : List (Option (List ℕ))) → T (all slot_passes os) → map slot_of (map (slot_image n) os) ≡ os
sets_back n [] t = refl
sets_back n (o ∷ os) t = ap₂ ◌∷◌ (slot_back n o (and_left (slot_passes o) (all slot_passes os) t)) (sets_back n os (and_right (slot_passes o) (all slot_passes os) t))

abbrev pub rule_passes : Rule → Bool
rule_passes r = code_passes r.code

pub wide_rules : (rs : List Rule) → T (all rule_passes rs) → Wide RULE-WIDTH (map rule_image rs)
wide_rules [] t = tt
wide_rules (r ∷ rs) t = (rule_size r (and_left (rule_passes r) (all rule_passes rs) t), wide_rules rs (and_right (rule_passes r) (all rule_passes rs) t))

rules_back : (rs : List Rule) → T (all rule_passes rs) → map rule_of (map rule_image rs) ≡ rs
rules_back [] t = refl
rules_back (r ∷ rs) t = ap₂ ◌∷◌ (rule_back r (and_left (rule_passes r) (all rule_passes rs) t)) (rules_back rs (and_right (rule_passes r) (all rule_passes rs) t))

-- SIZES

pub two_unused : zeros 2 ≡ 0 ∷ 0 ∷ []
unfolding zeros
two_unused = refl

module _ (p : Plan) (s : Sound p) where
  pub codes : T (all rule_passes p.rules)
  unfolding codes_pass
  codes = s.codes

  pub header_size : length (header_image p) ≡ SETS-AT
  unfolding header_image
  header_size =
      rw (
        length-append (zeros 2) (p.rooms ++ (p.settings ++ zeros (SETS-AT - SETTINGS-END))),
        length-append p.rooms (p.settings ++ zeros (SETS-AT - SETTINGS-END)),
        length-append p.settings (zeros (SETS-AT - SETTINGS-END)),
        length_zeros 2,
        length_zeros (SETS-AT - SETTINGS-END),
        s.rooms_size,
        s.settings_size,
      )

  pub sets_size : length (sets_image p) ≡ SET-WIDTH * (rooms_in p).sets
  unfolding sets_image
  sets_size = length_flat SET-WIDTH (map (slot_image 0) p.slots) (wide_sets 0 p.slots s.pass) ∙ ap (λ n. SET-WIDTH * n) (length-map p.slots (slot_image 0) ∙ s.room)

  pub rules_size : length (rules_image p) ≡ RULE-WIDTH * (rooms_in p).rules
  unfolding rules_image
  rules_size =
      let few : length p.rules ≤ (rooms_in p).rules = s.few in
      let held : length (flat (map rule_image p.rules)) ≡ RULE-WIDTH * length p.rules =
      length_flat RULE-WIDTH (map rule_image p.rules) (wide_rules p.rules codes) ∙ ap (λ n. RULE-WIDTH * n) (length-map p.rules rule_image) in
      rw (length-append (flat (map rule_image p.rules)) (zeros (RULE-WIDTH * ((rooms_in p).rules - length p.rules))), held, length_zeros (RULE-WIDTH * ((rooms_in p).rules - length p.rules)))
      (omega arith)

  pub image_size : length (image p) ≡ bytes_needed (rooms_in p)
  unfolding image bytes_needed
  image_size =
      rw (length-append (header_image p) (sets_image p ++ rules_image p), length-append (sets_image p) (rules_image p), header_size, sets_size, rules_size) (omega arith)

  image_more : SETS-AT ≤ length (image p)
  unfolding bytes_needed
  image_more = rw image_size (omega arith)

  -- THE PLAN BACK

  module _ (rest : List ℕ) where
    -- the header's bytes one by one, then the rooms, the settings and the slots
    shape : image p ++ rest ≡ mark ++ (word_bytes (length p.rules) ++ 0 ∷ 0
        ∷ (p.rooms ++ (p.settings ++ (zeros (SETS-AT - SETTINGS-END) ++ (sets_image p ++ (rules_image p ++ rest))))))
    unfolding image header_image
    shape = rw two_unused (simp append_assoc)

    pub rooms_back : rooms_at (image p ++ rest) ≡ p.rooms
    rooms_back = rw shape (take_at p.rooms (p.settings ++ (zeros (SETS-AT - SETTINGS-END) ++ (sets_image p ++ (rules_image p ++ rest)))) ROOMS-BYTES s.rooms_size)

    behind_rooms : drop SETTINGS-AT (image p ++ rest) ≡ p.settings ++ (zeros (SETS-AT - SETTINGS-END) ++ (sets_image p ++ (rules_image p ++ rest)))
    behind_rooms = rw shape (drop_at p.rooms (p.settings ++ (zeros (SETS-AT - SETTINGS-END) ++ (sets_image p ++ (rules_image p ++ rest)))) ROOMS-BYTES s.rooms_size)

    pub settings_back : part SETTINGS-AT SETTINGS-BYTES (image p ++ rest) ≡ p.settings
    settings_back = rw behind_rooms (take_at p.settings (zeros (SETS-AT - SETTINGS-END) ++ (sets_image p ++ (rules_image p ++ rest))) SETTINGS-BYTES s.settings_size)

    pub count_back : rule_count (image p ++ rest) ≡ length p.rules
    count_back = rw shape (word_bytes_lem (length p.rules))

    pub size_back : size_of (image p ++ rest) ≡ length (image p)
    size_back = ap (λ (r : List ℕ). bytes_needed (rooms_of r)) rooms_back ∙ sym image_size

    pub set_area_lem : drop SETS-AT (image p ++ rest) ≡ sets_image p ++ (rules_image p ++ rest)
    unfolding image
    set_area_lem =
        ap (drop SETS-AT) (append_assoc (header_image p) (sets_image p ++ rules_image p) rest ∙ ap (λ (l : List ℕ). header_image p ++ l) (append_assoc (sets_image p) (rules_image p) rest))
        ∙ drop_at (header_image p) (sets_image p ++ (rules_image p ++ rest)) SETS-AT header_size

    pub rule_area_lem : drop (SETS-AT + SET-WIDTH * (rooms_in p).sets) (image p ++ rest) ≡ rules_image p ++ rest
    rule_area_lem =
        sym (drop-drop (SET-WIDTH * (rooms_in p).sets) SETS-AT (image p ++ rest)) ∙ (ap (drop (SET-WIDTH * (rooms_in p).sets)) set_area_lem
        ∙ drop_at (sets_image p) (rules_image p ++ rest) (SET-WIDTH * (rooms_in p).sets) sets_size)

    sets_are : slots_of (rooms_in p).sets (drop SETS-AT (image p ++ rest)) ≡ p.slots
    unfolding slots_of sets_image
    sets_are =
        let n : length (map (slot_image 0) p.slots) ≡ (rooms_in p).sets = length-map p.slots (slot_image 0) ∙ s.room in
        let cut : slots SET-WIDTH (rooms_in p).sets (flat (map (slot_image 0) p.slots) ++ (rules_image p ++ rest)) ≡ map (slot_image 0) p.slots =
        ap (λ k. slots SET-WIDTH k (flat (map (slot_image 0) p.slots) ++ (rules_image p ++ rest))) (sym n)
        ∙ slots_flat SET-WIDTH (map (slot_image 0) p.slots) (rules_image p ++ rest) (wide_sets 0 p.slots s.pass) in
        rw (set_area_lem, cut) (sets_back 0 p.slots s.pass)

    rules_are : rules_of (length p.rules) (rules_image p ++ rest) ≡ p.rules
    unfolding rules_of rules_image
    rules_are =
        let free : List ℕ = zeros (RULE-WIDTH * ((rooms_in p).rules - length p.rules)) in
        let n : length (map rule_image p.rules) ≡ length p.rules = length-map p.rules rule_image in
        let cut : slots RULE-WIDTH (length p.rules) ((flat (map rule_image p.rules) ++ free) ++ rest) ≡ map rule_image p.rules =
        ap₂ (λ k l. slots RULE-WIDTH k l) (sym n) (append_assoc (flat (map rule_image p.rules)) free rest)
        ∙ slots_flat RULE-WIDTH (map rule_image p.rules) (free ++ rest) (wide_rules p.rules codes) in
        rw cut (rules_back p.rules codes)

    pub plan_back : plan_of (image p ++ rest) ≡ p
    unfolding plan_of
    plan_back =
        let a : set_room (image p ++ rest) ≡ (rooms_in p).sets = ap (λ (r : List ℕ). (rooms_of r).sets) rooms_back in
        let slots-is : slots_of (set_room (image p ++ rest)) (drop SETS-AT (image p ++ rest)) ≡ p.slots = ap (λ n. slots_of n (drop SETS-AT (image p ++ rest))) a ∙ sets_are in
        let rules-is : rules_of (rule_count (image p ++ rest)) (drop (SETS-AT + SET-WIDTH * set_room (image p ++ rest)) (image p ++ rest)) ≡ p.rules =
        ap₂ (λ n k. rules_of n (drop (SETS-AT + SET-WIDTH * k) (image p ++ rest))) count_back a ∙ (ap (rules_of (length p.rules)) rule_area_lem ∙ rules_are) in
        λ i. record { rooms = rooms_back i; settings = settings_back i; slots = slots-is i; rules = rules-is i }

    -- and it is sound
    pub image_sound : T (sound_of (image p ++ rest))
    unfolding sound_of
    image_sound =
        let long : length (image p) ≤ length (image p ++ rest) = rw (length-append (image p) rest) (omega arith) in
        let head : SETS-AT ≤ length (image p ++ rest) = omega (arith, image_more) in
        let bytes : take (size_of (image p ++ rest)) (image p ++ rest) ≡ image (plan_of (image p ++ rest)) =
        ap (λ n. take n (image p ++ rest)) size_back ∙ (take_at (image p) rest (length (image p)) refl ∙ ap image (sym plan_back)) in
        each_all (sound_tests (image p ++ rest)) (
          le→leb SETS-AT (length (image p ++ rest)) head,
          (
            le→leb (size_of (image p ++ rest)) (length (image p ++ rest)) (rw size_back long),
            (subst (λ (q : Plan). T (sound q)) (sym plan_back) (sound_of_lem p s), (rw bytes (same_self (image (plan_of (image p ++ rest)))), tt)),
          ),
        )

    pub state_image : state_of (image p ++ rest) ≡ some p
    unfolding state_of
    state_image = rw (is_true (sound_of (image p ++ rest)) image_sound) (ap some plan_back)

-- A SOUND MEMORY

pub record SoundMemory (m : List ℕ) : Type 0 where
  pub header : SETS-AT ≤ length m
  pub fits : size_of m ≤ length m
  pub plan : Sound (plan_of m)
  pub own : take (size_of m) m ≡ image (plan_of m)
  pub bytes : m ≡ image (plan_of m) ++ rest_of m

pub sound_memory : (m : List ℕ) → T (sound_of m) → SoundMemory m
unfolding sound_of
sound_memory m t =
    let at : (k : ℕ) → T (get_or (sound_tests m) k true) = λ k. all_at k (sound_tests m) t in
    let own : take (size_of m) m ≡ image (plan_of m) = same_bytes_lem (take (size_of m) m) (image (plan_of m)) (at 3) in
    record {
      header = leb→le SETS-AT (length m) (at 0);
      fits = leb→le (size_of m) (length m) (at 1);
      plan = sound_parts (plan_of m) (at 2);
      own = own;
      bytes = sym (take-append-drop (size_of m) m) ∙ ap (λ (l : List ℕ). l ++ drop (size_of m) m) own;
    }

pub state_some : (m : List ℕ) → sound_of m ≡ true → state_of m ≡ some (plan_of m)
unfolding state_of
state_some m e = rw e

pub state_none : (m : List ℕ) → sound_of m ≡ false → state_of m ≡ none
unfolding state_of
state_none m e = rw e

-- two sound plans with one image are one
pub one_plan : (p q : Plan) → Sound p → Sound q → image p ≡ image q → p ≡ q
one_plan p q s t e = sym (plan_back p s []) ∙ (ap (λ (l : List ℕ). plan_of (l ++ [])) e ∙ plan_back q t [])

-- ONLY THE BYTES OF THE SIZE THAT THE ROOMS NEED MATTER

size_more : (m : List ℕ) → SETS-AT ≤ size_of m
unfolding bytes_needed
size_more m = omega arith

-- the rooms stand before the sets
same_rooms : (m rest : List ℕ) (n : ℕ) → SETS-AT ≤ n → n ≤ length m → rooms_at (take n m ++ rest) ≡ rooms_at m
same_rooms m rest n h k =
    let size : length (take n m) ≡ n = length-take-le n m k in
    let cut : drop 8 (take n m ++ rest) ≡ drop 8 (take n m) ++ rest = drop-append-le 8 (take n m) rest (omega arith) in
    let long : ROOMS-BYTES ≤ length (drop 8 (take n m)) = rw (length-drop 8 (take n m)) (omega arith) in
    rw (cut, take-append-le ROOMS-BYTES (drop 8 (take n m)) rest long) (part_part 8 ROOMS-BYTES n m (omega arith))

module _ (m rest : List ℕ) (fits : size_of m ≤ length m) where
  same_size : size_of (take (size_of m) m ++ rest) ≡ size_of m
  same_size = ap (λ (r : List ℕ). bytes_needed (rooms_of r)) (same_rooms m rest (size_of m) (size_more m) fits)

  -- a memory that begins with the image of a sound plan
  begins_sound : (p : Plan) → Sound p → take (size_of m) m ≡ image p → (T (sound_of m)) × (state_of m ≡ some p)
  begins_sound p s e =
      let whole : m ≡ image p ++ drop (size_of m) m = sym (take-append-drop (size_of m) m) ∙ ap (λ (l : List ℕ). l ++ drop (size_of m) m) e in
      (subst (λ (l : List ℕ). T (sound_of l)) (sym whole) (image_sound p s (drop (size_of m) m)), ap state_of whole ∙ state_image p s (drop (size_of m) m))

  to : T (sound_of m) → T (sound_of (take (size_of m) m ++ rest))
  to t = let s = sound_memory m t in rw s.own (image_sound (plan_of m) s.plan rest)

  from_plan : T (sound_of (take (size_of m) m ++ rest)) → take (size_of m) m ≡ image (plan_of (take (size_of m) m ++ rest))
  from_plan t =
      let s = sound_memory (take (size_of m) m ++ rest) t in
      sym (take_at (take (size_of m) m) rest (size_of m) (length-take-le (size_of m) m fits))
      ∙ (ap (λ n. take n (take (size_of m) m ++ rest)) (sym same_size) ∙ s.own)

  from : T (sound_of (take (size_of m) m ++ rest)) → T (sound_of m)
  from t = (begins_sound (plan_of (take (size_of m) m ++ rest)) (sound_memory (take (size_of m) m ++ rest) t).plan (from_plan t)).0

  pub same_soundness : sound_of (take (size_of m) m ++ rest) ≡ sound_of m
  same_soundness = same_tests (sound_of (take (size_of m) m ++ rest)) (sound_of m) from to

  pub same_state : state_of (take (size_of m) m ++ rest) ≡ state_of m
  same_state = go (sound_of m) refl
    where
      go : (b : Bool) → sound_of m ≡ b → state_of (take (size_of m) m ++ rest) ≡ state_of m
      go true e =
          let s = sound_memory m (true_is (sound_of m) e) in
          ap (λ (l : List ℕ). state_of (l ++ rest)) s.own ∙ (state_image (plan_of m) s.plan rest ∙ sym (state_some m e))
      go false e = state_none (take (size_of m) m ++ rest) (same_soundness ∙ e) ∙ sym (state_none m e)
