-- However a file is cut into parts, the joined text of the steps is the meaning's text of the whole file, and its end is theirs; and there is such a run for every file.
use Prim.Native.Nat.{ℕ, zero, suc, ◌+◌, ◌-◌, ◌≤◌, ◌<◌}
use mathlib.Core.Path.{◌≡◌, refl, ap, sym, subst, ◌∙◌}
use mathlib.Core.Logic.{◌⊎◌, inl, inr}
use mathlib.Core.Bool.{Bool, true, false, not}
use mathlib.Core.List.{List, [], ◌∷◌, ◌++◌, append-nil, append_assoc}
use mathlib.Core.Option.{Option, none, some}
use native.Mathlib.Nat.{not-suc-le-zero, zero-add}
use native.Mathlib.Omega.{arith}
use lib.ListN.{length, take, drop, get_elem?, length-append, length-drop}
use lib.Seq.{take-append-le, drop-drop}
use lib.Dec.{leb, ltb, eqb}
use borrow.Author.Tests.{eqb-true, ltb-false, le-ltb, leb-true, leb-false}
use Rattle.meaning.specs.Sizes.{DISTRICTS}
use Rattle.std.specs.Prelude.{if◌then◌else◌}
use Rattle.meaning.specs.Refusals.{CUT, KIND, PLAN}
use Rattle.meaning.specs.Plan.{Plan}
use Rattle.meaning.specs.Reads.{Listed, listing}
use Rattle.meaning.specs.Ledger.{Ledger, totals_at, has_records}
use Rattle.meaning.specs.Calls.{LIST, LOSSES, is_kind, is_call, body_length}
use Rattle.meaning.specs.Records.{House, new_house, no_line, listed_line, end_line, listed_lines, list_text, loss_line, total_line, loss_lines, loss_text, record_text, record_house, text_from, file_text, End, end_here, end_behind, end_from, file_end}
use Rattle.text.specs.Writes.{LONGEST}
use Rattle.billing.specs.Parts.{Part, last_part, part_before, loss_part_from, loss_part}
use Rattle.record.specs.Turns.{Turn, wrote, wants, full, ends, listed_part, list_part, record_part, turn_by, record_turn, turn_at, turn}
use Rattle.record.specs.Cuts.{Cut, Steps, line, wanting, filled, over, AnyCut}

-- LISTS

module _ {A : Type 0} where
  abbrev first : List A → Option A
  first [] = none
  first (x ∷ xs) = some x

  -- the element at a place is the first from there on
  at_place : (xs : List A) (i : ℕ) → get_elem? xs i ≡ first (drop i xs)
  at_place [] zero = refl
  at_place [] (suc i) = refl
  at_place (x ∷ xs) zero = refl
  at_place (x ∷ xs) (suc i) = at_place xs i

  -- what is behind it
  behind : (xs : List A) (i : ℕ) (x : A) (ys : List A) → drop i xs ≡ x ∷ ys → drop (i + 1) xs ≡ ys
  behind xs i x ys e = sym (drop-drop 1 i xs) ∙ ap (drop 1) e

-- WHAT IS STILL TO BE WRITTEN, over the state of the run and how many lines are counted already

abbrev list_left : Option Plan → ℕ → List ℕ
list_left none lines = no_line PLAN
list_left (some p) lines = listed_lines (drop lines (listing p)) ++ end_line (length (listing p))

abbrev loss_left : Ledger → ℕ → List ℕ
loss_left l d = loss_lines l.districts d (DISTRICTS - d) ++ total_line l.whole

abbrev record_left : House → ℕ → List ℕ → ℕ → List ℕ
record_left s k body lines = if eqb k LIST then list_left s.plan lines else if eqb k LOSSES then loss_left s.ledger lines else record_text s k body

-- the most that lines are counted to
abbrev pub lines_in : Option Plan → ℕ
lines_in none = 0
lines_in (some p) = length (listing p)

abbrev pub most_lines : House → ℕ → ℕ
most_lines s k = if eqb k LIST then lines_in s.plan else if eqb k LOSSES then DISTRICTS else 0

-- a line, and what is left behind it, are what is left; and the count of lines rises
abbrev Splits : (ℕ → List ℕ) → ℕ → ℕ → List ℕ → Option ℕ → Type 0
Splits left most lines text none = left lines ≡ text
Splits left most lines text (some next) = (left lines ≡ text ++ left next) × (lines < next) × (next ≤ most)

abbrev SplitsPart : (ℕ → List ℕ) → ℕ → ℕ → Part → Type 0
SplitsPart left most lines p = Splits left most lines p.text p.next

list_splits : (o : Option Plan) (lines : ℕ) → SplitsPart (list_left o) (lines_in o) lines (list_part o lines)
list_splits none lines = refl
list_splits (some p) lines = rw (at_place (listing p) lines) (go (drop lines (listing p)) refl)
  where
    go : (ls : List Listed) → drop lines (listing p) ≡ ls → SplitsPart (list_left (some p)) (length (listing p)) lines (listed_part p lines (first ls))
    go [] e = rw e
    go (l ∷ ls) e =
        let inside : 1 ≤ length (drop lines (listing p)) = rw e (omega arith) in
        let few : lines + 1 ≤ length (listing p) = omega (arith, rw (length-drop lines (listing p)) at inside) in
        (rw (e, behind (listing p) lines l ls e) (append_assoc (listed_line l) (listed_lines ls) (end_line (length (listing p)))), omega arith, few)

module _ (l : Ledger) where
  -- of n districts from d on
  abbrev lossesFrom : ℕ → ℕ → List ℕ
  lossesFrom d n = loss_lines l.districts d n ++ total_line l.whole

  loss_splits_from : (d n : ℕ) → SplitsPart (λ (k : ℕ). lossesFrom k (d + n - k)) (d + n) d (loss_part_from l d n)
  loss_splits_from d zero = let e : d + 0 - d ≡ 0 = omega arith in rw e
  loss_splits_from d (suc n) = go (has_records (totals_at l.districts d)) refl (loss_splits_from (d + 1) n)
    where
      later : (text : List ℕ) (next : Option ℕ) → has_records (totals_at l.districts d) ≡ false → Splits (λ (k : ℕ). lossesFrom k (d + 1 + n - k)) (d + 1 + n) (d + 1) text next
          → Splits (λ (k : ℕ). lossesFrom k (d + suc n - k)) (d + suc n) d text next
      later text none h e =
          let a : d + suc n - d ≡ suc n = omega arith in
          let b : d + 1 + n - (d + 1) ≡ n = omega arith in
          rw (a, h) (rw b at e)
      later text (some k) h e =
          let a : d + suc n - d ≡ suc n = omega arith in
          let b : d + 1 + n - (d + 1) ≡ n = omega arith in
          let c : d + 1 + n - k ≡ d + suc n - k = omega arith in
          let whole : lossesFrom (d + 1) n ≡ text ++ lossesFrom k (d + suc n - k) = rw (b, c) at e.0 in
          (rw (a, h) whole, omega (arith, e.1), omega (arith, e.2))

      go : (b : Bool) → has_records (totals_at l.districts d) ≡ b → SplitsPart (λ (k : ℕ). lossesFrom k (d + 1 + n - k)) (d + 1 + n) (d + 1) (loss_part_from l (d + 1) n)
          → SplitsPart (λ (k : ℕ). lossesFrom k (d + suc n - k)) (d + suc n) d
          (if b then part_before (d + 1) (loss_line d (totals_at l.districts d)) else loss_part_from l (d + 1) n)
      go true h later-is =
          let a : d + suc n - d ≡ suc n = omega arith in
          let b : d + suc n - (d + 1) ≡ n = omega arith in
          (rw (a, b, h) (append_assoc (loss_line d (totals_at l.districts d)) (loss_lines l.districts (d + 1) n) (total_line l.whole)), omega arith, omega arith)
      go false h later-is = later (loss_part_from l (d + 1) n).text (loss_part_from l (d + 1) n).next h later-is

  loss_splits : (d : ℕ) → SplitsPart (loss_left l) DISTRICTS d (loss_part l d)
  loss_splits d = go (leb d DISTRICTS) refl
    where
      go : (b : Bool) → leb d DISTRICTS ≡ b → SplitsPart (loss_left l) DISTRICTS d (loss_part l d)
      go true h =
          let e : d + (DISTRICTS - d) ≡ DISTRICTS = omega (arith, leb-true d DISTRICTS h) in
          rw e at (loss_splits_from d (DISTRICTS - d))
      go false h = let e : DISTRICTS - d ≡ 0 = omega (arith, leb-false d DISTRICTS h) in rw e (rw e)

record_splits : (s : House) (k : ℕ) (body : List ℕ) (lines : ℕ) → SplitsPart (record_left s k body) (most_lines s k) lines (record_part s lines k body)
unfolding record_part
record_splits s k body lines = go (eqb k LIST) (eqb k LOSSES)
  where
    go : (a b : Bool)
        → SplitsPart (λ (n : ℕ). if a then list_left s.plan n else if b then loss_left s.ledger n else record_text s k body)
        (if a then lines_in s.plan else if b then DISTRICTS else 0) lines
        (if a then list_part s.plan lines else if b then loss_part s.ledger lines else last_part (record_text s k body))
    go true b = list_splits s.plan lines
    go false true = loss_splits s.ledger lines
    go false false = refl

-- a line that is not the last of its record counts more lines
pub counts_more : (s : House) (lines k : ℕ) (body : List ℕ) (next : ℕ) → (record_part s lines k body).next ≡ some next → (lines < next) × (next ≤ most_lines s k)
counts_more s lines k body next e = let splits = rw e at (record_splits s k body lines) in (splits.1, splits.2)

abbrev text_left : House → ℕ → List ℕ → List ℕ
text_left s lines [] = []
text_left s lines (k ∷ bytes) =
    if not (is_kind k) then no_line KIND else
    if ltb (length bytes) (body_length k) then no_line CUT else
    record_left s k (take (body_length k) bytes) lines
    ++ text_from (length (drop (body_length k) bytes)) (record_house s k (take (body_length k) bytes)) (drop (body_length k) bytes)

-- the end that reading comes to, whatever is written already
abbrev end_left : House → List ℕ → End
end_left s [] = end_here 0 s
end_left s (k ∷ bytes) =
    if not (is_kind k) then end_here KIND s else
    if ltb (length bytes) (body_length k) then end_here CUT s else
    end_behind (1 + body_length k) (end_from (length (drop (body_length k) bytes)) (record_house s k (take (body_length k) bytes)) (drop (body_length k) bytes))

none_before : (e : End) → end_behind 0 e ≡ e
none_before e = rw (zero-add e.place)

-- fuel for every byte is enough
enough : (m n : ℕ) (s : House) (bytes : List ℕ) → length bytes ≤ m → length bytes ≤ n
    → (text_from m s bytes ≡ text_from n s bytes) × (end_from m s bytes ≡ end_from n s bytes)
enough zero zero s bytes h i = (refl, refl)
enough zero (suc n) s [] h i = (refl, refl)
enough zero (suc n) s (k ∷ bytes) h i = absurd (not-suc-le-zero h)
enough (suc m) zero s [] h i = (refl, refl)
enough (suc m) zero s (k ∷ bytes) h i = absurd (not-suc-le-zero i)
enough (suc m) (suc n) s [] h i = (refl, refl)
enough (suc m) (suc n) s (k ∷ bytes) h i =
    let next : House = record_house s k (take (body_length k) bytes) in
    let rest : List ℕ = drop (body_length k) bytes in
    let shorter : length rest ≤ length bytes = rw (length-drop (body_length k) bytes) (omega arith) in
    let same : (text_from m next rest ≡ text_from n next rest) × (end_from m next rest ≡ end_from n next rest) =
    enough m n next rest (omega (arith, h, shorter)) (omega (arith, i, shorter)) in
    (rw same.0, rw same.1)

-- before its first line, a record's text
whole_record : (s : House) (k : ℕ) (body : List ℕ) → record_left s k body 0 ≡ record_text s k body
unfolding record_text is_call loss_text
whole_record s k body = go (eqb k LIST) (eqb k LOSSES) refl refl
  where
    listed : (o : Option Plan) → list_left o 0 ≡ list_text o
    listed none = refl
    listed (some p) = refl

    go : (a b : Bool) → eqb k LIST ≡ a → eqb k LOSSES ≡ b
        → (if a then list_left s.plan 0 else if b then loss_left s.ledger 0 else record_text s k body) ≡ record_text s k body
    go true b e f = rw (eqb-true k LIST e) (listed s.plan)
    go false true e f = rw (eqb-true k LOSSES f)
    go false false e f = refl

-- nothing written yet: the meaning's text, and its end
all_left_lem : (fuel : ℕ) (s : House) (left : List ℕ) → length left ≤ fuel → (text_from fuel s left ≡ text_left s 0 left) × (end_from fuel s left ≡ end_left s left)
all_left_lem zero s [] h = (refl, refl)
all_left_lem zero s (k ∷ bytes) h = absurd (not-suc-le-zero h)
all_left_lem (suc fuel) s [] h = (refl, refl)
all_left_lem (suc fuel) s (k ∷ bytes) h =
    let next : House = record_house s k (take (body_length k) bytes) in
    let rest : List ℕ = drop (body_length k) bytes in
    let n : ℕ = length rest in
    let shorter : n ≤ length bytes = rw (length-drop (body_length k) bytes) (omega arith) in
    let same : (text_from fuel next rest ≡ text_from n next rest) × (end_from fuel next rest ≡ end_from n next rest) =
    enough fuel n next rest (omega (arith, h, shorter)) (omega arith) in
    (rw (same.0, whole_record s k (take (body_length k) bytes)), rw same.1)

-- at a whole record: what is left of it, and the text of the rest
record_left_lem : (s : House) (lines k : ℕ) (bytes : List ℕ) → is_kind k ≡ true → ltb (length bytes) (body_length k) ≡ false
    → (text_left s lines (k ∷ bytes)
    ≡ record_left s k (take (body_length k) bytes) lines ++ text_left (record_house s k (take (body_length k) bytes)) 0 (drop (body_length k) bytes))
    × (end_left s (k ∷ bytes) ≡ end_behind (1 + body_length k) (end_left (record_house s k (take (body_length k) bytes)) (drop (body_length k) bytes)))
record_left_lem s lines k bytes e f =
    let rest = all_left_lem (length (drop (body_length k) bytes)) (record_house s k (take (body_length k) bytes)) (drop (body_length k) bytes) (omega arith) in
    (rw (e, f, rest.0), rw (e, f, rest.1))

-- ONE STEP

-- what a step owes, over the state, what is left, the text of it and the end: its own text and what is left then are that text, and the end is the same
abbrev Owes : House → List ℕ → List ℕ → End → Turn → Type 0
Owes s left all end (wrote text taken t next) = (text ++ text_left t next (drop taken left) ≡ all) × (end_behind taken (end_left t (drop taken left)) ≡ end)
Owes s left all end wants = Unit {0}
Owes s left all end full = Unit {0}
Owes s left all end (ends text refusal) = (text ≡ all) × (end_here refusal s ≡ end)

abbrev OwesLeft : House → ℕ → List ℕ → Turn → Type 0
OwesLeft s lines left = Owes s left (text_left s lines left) (end_left s left)

record_owes : (s : House) (lines k : ℕ) (bytes : List ℕ) → is_kind k ≡ true → ltb (length bytes) (body_length k) ≡ false
    → OwesLeft s lines (k ∷ bytes) (record_turn s lines k (take (body_length k) bytes))
unfolding record_turn
record_owes s lines k bytes e f = go (record_part s lines k body).text (record_part s lines k body).next (record_splits s k body lines)
  where
    body : List ℕ
    body = take (body_length k) bytes

    texts : List ℕ
    texts = text_left (record_house s k body) 0 (drop (body_length k) bytes)

    go : (text : List ℕ) (next : Option ℕ) → Splits (record_left s k body) (most_lines s k) lines text next → OwesLeft s lines (k ∷ bytes) (turn_by s k body text next)
    go text none h =
        let taken : drop (1 + body_length k) (k ∷ bytes) ≡ drop (body_length k) bytes = sym (drop-drop (body_length k) 1 (k ∷ bytes)) in
        let both = record_left_lem s lines k bytes e f in
        rw taken (ap (λ (xs : List ℕ). xs ++ texts) (sym h) ∙ sym both.0, sym both.1)
    go text (some next) h = (
      ap (λ (xs : List ℕ). text ++ xs) (record_left_lem s next k bytes e f).0
          ∙ (sym (append_assoc text (record_left s k body next) texts) ∙ (ap (λ (xs : List ℕ). xs ++ texts) (sym h.0) ∙ sym (record_left_lem s lines k bytes e f).0)),
      none_before (end_left s (k ∷ bytes)),
    )

-- a part that begins with a record's kind
kind_owes : (s : House) (lines k : ℕ) (bytes rest : List ℕ) (ended : Bool) → (ended ≡ true → rest ≡ [])
    → OwesLeft s lines (k ∷ (bytes ++ rest)) (turn_at s lines ended k bytes)
unfolding turn_at
kind_owes s lines k bytes rest ended h = kind (is_kind k) refl
  where
    body : is_kind k ≡ true → (b ended : Bool) → ltb (length bytes) (body_length k) ≡ b → (ended ≡ true → rest ≡ [])
        → OwesLeft s lines (k ∷ (bytes ++ rest))
        (if b then (if ended then ends (no_line CUT) CUT else wants) else record_turn s lines k (take (body_length k) bytes))
    body e true true f h = rw (h refl, append-nil bytes, e, f) (refl, refl)
    body e true false f h = tt
    body e false ended f h =
        let fits : body_length k ≤ length bytes = ltb-false (length bytes) (body_length k) f in
        let more : body_length k ≤ length (bytes ++ rest) = rw (length-append bytes rest) (omega arith) in
        rw (← take-append-le (body_length k) bytes rest fits) (record_owes s lines k (bytes ++ rest) e (le-ltb (length (bytes ++ rest)) (body_length k) more))

    kind : (b : Bool) → is_kind k ≡ b
        → OwesLeft s lines (k ∷ (bytes ++ rest))
        (if not b then ends (no_line KIND) KIND else
        if ltb (length bytes) (body_length k) then (if ended then ends (no_line CUT) CUT else wants) else
        record_turn s lines k (take (body_length k) bytes))
    kind false e = rw e (refl, refl)
    kind true e = body e (ltb (length bytes) (body_length k)) ended refl h

part_owes : (s : House) (lines room : ℕ) (part rest : List ℕ) (ended : Bool) → (ended ≡ true → rest ≡ [])
    → OwesLeft s lines (part ++ rest) (turn s lines ended part room)
part_owes s lines room [] rest true h = rw (h refl) (refl, refl)
part_owes s lines room [] rest false h = tt
part_owes s lines room (k ∷ bytes) rest ended h = go (ltb room LONGEST)
  where
    go : (b : Bool) → OwesLeft s lines (k ∷ (bytes ++ rest)) (if b then full else turn_at s lines ended k bytes)
    go true = tt
    go false = kind_owes s lines k bytes rest ended h

-- however the part is cut, and whatever room there is
turn_owes : (s : House) (lines room : ℕ) (left part rest : List ℕ) (ended : Bool) → Cut left part rest ended
    → OwesLeft s lines left (turn s lines ended part room)
turn_owes s lines room left part rest ended c = rw c.joins (part_owes s lines room part rest ended c.last)

-- ANY RUN

any_run : {s : House} {lines : ℕ} {left text : List ℕ} {e : End} → Steps s lines left text e → (text ≡ text_left s lines left) × (e ≡ end_left s left)
any_run (line {s} {t} {lines} {next} {taken} {left} {part} {rest} {text} {texts} {ended} room c e r) =
    let owed : OwesLeft s lines left (wrote text taken t next) = subst (OwesLeft s lines left) e (turn_owes s lines room left part rest ended c) in
    (ap (λ (xs : List ℕ). text ++ xs) (any_run r).0 ∙ owed.0, ap (end_behind taken) (any_run r).1 ∙ owed.1)
any_run (wanting room c e r) = any_run r
any_run (filled room c e r) = any_run r
any_run (over {s} {lines} {refusal} {left} {part} {rest} {text} {ended} room c e) =
    subst (OwesLeft s lines left) e (turn_owes s lines room left part rest ended c)

-- "the joined text is the meaning's text of the whole file", and the end is its end
pub any_cut : AnyCut
unfolding file_text file_end
any_cut file text e r =
    let all = all_left_lem (length file) new_house file (omega arith) in
    ((any_run r).0 ∙ sym all.0, (any_run r).1 ∙ sym all.1)

pub empty_file : (text : List ℕ) (e : End) → Steps new_house 0 [] text e → (text ≡ []) × (e ≡ end_here 0 new_house)
unfolding file_text file_end
empty_file text e r = any_cut [] text e r

-- A RUN FOR EVERY FILE: each part is all that is left

pub whole_cut : (left : List ℕ) → Cut left left [] true
whole_cut left = record { joins = sym (append-nil left); last = λ e. refl }

-- the lines of a record that are left, before a run over the rest
record_runs : (fuel : ℕ) (s : House) (k : ℕ) (bytes texts : List ℕ) (end : End) → is_kind k ≡ true → ltb (length bytes) (body_length k) ≡ false
    → Steps (record_house s k (take (body_length k) bytes)) 0 (drop (body_length k) bytes) texts end → (lines : ℕ) → most_lines s k - lines < fuel
    → Steps s lines (k ∷ bytes) (record_left s k (take (body_length k) bytes) lines ++ texts) (end_behind (1 + body_length k) end)
unfolding turn_at record_turn
record_runs zero s k bytes texts end e f r lines few = absurd (not-suc-le-zero few)
record_runs (suc fuel) s k bytes texts end e f r lines few =
    go (record_part s lines k body).text (record_part s lines k body).next step (record_splits s k body lines) (record_runs fuel s k bytes texts end e f r)
  where
    body : List ℕ
    body = take (body_length k) bytes

    step : turn s lines true (k ∷ bytes) LONGEST ≡ turn_by s k (take (body_length k) bytes) (record_part s lines k (take (body_length k) bytes)).text (record_part s lines k (take (body_length k) bytes)).next
    step = rw (e, f)

    go : (text : List ℕ) (next : Option ℕ) → turn s lines true (k ∷ bytes) LONGEST ≡ turn_by s k (take (body_length k) bytes) text next
        → Splits (record_left s k (take (body_length k) bytes)) (most_lines s k) lines text next
        → ((later : ℕ) → most_lines s k - later < fuel → Steps s later (k ∷ bytes) (record_left s k (take (body_length k) bytes) later ++ texts) (end_behind (1 + body_length k) end))
        → Steps s lines (k ∷ bytes) (record_left s k (take (body_length k) bytes) lines ++ texts) (end_behind (1 + body_length k) end)
    go text none t h more =
        rw h
        (line LONGEST (whole_cut (k ∷ bytes)) t
        (subst (λ (xs : List ℕ). Steps (record_house s k (take (body_length k) bytes)) 0 xs texts end) (drop-drop (body_length k) 1 (k ∷ bytes)) r))
    go text (some next) t h more =
        rw (h.0, append_assoc text (record_left s k (take (body_length k) bytes) next) texts, ← none_before (end_behind (1 + body_length k) end))
        (line LONGEST (whole_cut (k ∷ bytes)) t (more next (omega (arith, h.1, h.2, few))))

-- a whole record before a run over the rest
record_run : (s : House) (k : ℕ) (bytes texts : List ℕ) (end : End) → is_kind k ≡ true → ltb (length bytes) (body_length k) ≡ false
    → Steps (record_house s k (take (body_length k) bytes)) 0 (drop (body_length k) bytes) texts end
    → Steps s 0 (k ∷ bytes) (record_text s k (take (body_length k) bytes) ++ texts) (end_behind (1 + body_length k) end)
record_run s k bytes texts end e f r =
    rw (← whole_record s k (take (body_length k) bytes)) (record_runs (suc (most_lines s k)) s k bytes texts end e f r 0 (omega arith))

-- a file that begins with a kind, before a run over what is behind its record
kind_run : (s : House) (k : ℕ) (bytes texts : List ℕ) (end : End)
    → Steps (record_house s k (take (body_length k) bytes)) 0 (drop (body_length k) bytes) texts end
    → Steps s 0 (k ∷ bytes)
    (if not (is_kind k) then no_line KIND else if ltb (length bytes) (body_length k) then no_line CUT else record_text s k (take (body_length k) bytes) ++ texts)
    (if not (is_kind k) then end_here KIND s else if ltb (length bytes) (body_length k) then end_here CUT s else end_behind (1 + body_length k) end)
unfolding turn_at
kind_run s k bytes texts end r = go (is_kind k) (ltb (length bytes) (body_length k)) refl refl
  where
    go : (a b : Bool) → is_kind k ≡ a → ltb (length bytes) (body_length k) ≡ b
        → Steps s 0 (k ∷ bytes) (if not a then no_line KIND else if b then no_line CUT else record_text s k (take (body_length k) bytes) ++ texts)
        (if not a then end_here KIND s else if b then end_here CUT s else end_behind (1 + body_length k) end)
    go false b e f =
        let step : turn s 0 true (k ∷ bytes) LONGEST ≡ ends (no_line KIND) KIND = rw e in
        over LONGEST (whole_cut (k ∷ bytes)) step
    go true true e f =
        let step : turn s 0 true (k ∷ bytes) LONGEST ≡ ends (no_line CUT) CUT = rw (e, f) in
        over LONGEST (whole_cut (k ∷ bytes)) step
    go true false e f = record_run s k bytes texts end e f r

whole_from : (fuel : ℕ) (s : House) (left : List ℕ) → length left ≤ fuel → Steps s 0 left (text_from fuel s left) (end_from fuel s left)
whole_from zero s [] h = over LONGEST (whole_cut []) refl
whole_from zero s (k ∷ bytes) h = absurd (not-suc-le-zero h)
whole_from (suc fuel) s [] h = over LONGEST (whole_cut []) refl
whole_from (suc fuel) s (k ∷ bytes) h =
    let next : House = record_house s k (take (body_length k) bytes) in
    let rest : List ℕ = drop (body_length k) bytes in
    let shorter : length rest ≤ length bytes = rw (length-drop (body_length k) bytes) (omega arith) in
    kind_run s k bytes (text_from fuel next rest) (end_from fuel next rest) (whole_from fuel next rest (omega (arith, h, shorter)))

pub whole_run : (file : List ℕ) → Steps new_house 0 file (file_text file) (file_end file)
unfolding file_text file_end
whole_run file = whole_from (length file) new_house file (omega arith)

-- THE LAST STEP

-- what a step that ends has written, and its refusal
abbrev Last : Bool → List ℕ → Turn → Type 0
Last ended part (wrote text taken t next) = Unit {0}
Last ended part wants = Unit {0}
Last ended part full = Unit {0}
Last ended part (ends text refusal) =
    ((text ≡ no_line KIND) × (refusal ≡ KIND)) ⊎ (((text ≡ no_line CUT) × (refusal ≡ CUT) × (ended ≡ true)) ⊎ ((text ≡ []) × (refusal ≡ 0) × (part ≡ []) × (ended ≡ true)))

record_last : (s : House) (k : ℕ) (ended : Bool) (part body text : List ℕ) (next : Option ℕ) → Last ended part (turn_by s k body text next)
record_last s k ended part body text none = tt
record_last s k ended part body text (some next) = tt

kind_last : (s : House) (lines k : ℕ) (ended : Bool) (part bytes : List ℕ) → Last ended part (turn_at s lines ended k bytes)
unfolding turn_at record_turn
kind_last s lines k ended part bytes = go (is_kind k) (ltb (length bytes) (body_length k)) ended
  where
    body : List ℕ
    body = take (body_length k) bytes

    go : (a b c : Bool) → Last c part (if not a then ends (no_line KIND) KIND else if b then (if c then ends (no_line CUT) CUT else wants) else
        record_turn s lines k (take (body_length k) bytes))
    go false b c = inl (refl, refl)
    go true true true = inr (inl (refl, refl, refl))
    go true true false = tt
    go true false c =
        record_last s k c part (take (body_length k) bytes) (record_part s lines k (take (body_length k) bytes)).text (record_part s lines k (take (body_length k) bytes)).next

turn_last : (s : House) (lines : ℕ) (ended : Bool) (part : List ℕ) (room : ℕ) → Last ended part (turn s lines ended part room)
turn_last s lines true [] room = inr (inr (refl, refl, refl, refl))
turn_last s lines false [] room = tt
turn_last s lines ended (k ∷ bytes) room = go (ltb room LONGEST)
  where
    go : (b : Bool) → Last ended (k ∷ bytes) (if b then full else turn_at s lines ended k bytes)
    go true = tt
    go false = kind_last s lines k ended (k ∷ bytes) bytes

pub nothing_after : (s : House) (lines : ℕ) (ended : Bool) (part : List ℕ) (room : ℕ) (text : List ℕ) (refusal : ℕ)
    → turn s lines ended part room ≡ ends text refusal
    → ((text ≡ no_line KIND) × (refusal ≡ KIND)) ⊎ (((text ≡ no_line CUT) × (refusal ≡ CUT) × (ended ≡ true)) ⊎ ((text ≡ []) × (refusal ≡ 0) × (part ≡ []) × (ended ≡ true)))
nothing_after s lines ended part room text refusal e = subst (Last ended part) e (turn_last s lines ended part room)
