-- Kind 18 in any file: the sums behind some records are those of their accepted call records, and the text of a file is that of its parts.
use Prim.Native.Nat.{ℕ, zero, suc, ◌+◌, ◌≤◌}
use mathlib.Core.Path.{◌≡◌, refl, ap, ap₂, sym, ◌∙◌}
use mathlib.Core.Bool.{Bool, true, false, not}
use mathlib.Core.List.{List, [], ◌∷◌, ◌++◌, append-nil, append_assoc}
use mathlib.Core.Option.{Option, none, some}
use native.Mathlib.Nat.{not-suc-le-zero}
use native.Mathlib.Omega.{arith}
use lib.ListN.{length, take, drop, length-append, length-drop}
use lib.Seq.{take-append-le, drop-append-le}
use lib.Dec.{leb, ltb, eqb}
use borrow.Author.Tests.{eqb-true, ltb-false, le-ltb, leb-true, lt-leb}
use Rattle.meaning.specs.Sizes.{CALL-BYTES, DIGIT-ROOM, DISTRICTS}
use Rattle.meaning.specs.Basics.{is_zero, is_empty}
use Rattle.std.specs.Prelude.{if◌then◌else◌}
use Rattle.meaning.specs.Refusals.{CUT, KIND}
use Rattle.meaning.specs.Plan.{Plan}
use Rattle.meaning.specs.Prices.{PriceRow, rows_after}
use Rattle.meaning.specs.Ledger.{Ledger, has_records, Entry}
use Rattle.meaning.specs.declared.Totals.{Totals}
use Rattle.meaning.specs.Charges.{taking_refusal, ledger_after}
use Rattle.meaning.specs.Calls.{CALL, PRICE, LOSSES, REMOVE-RULE, is_kind, is_call, body_length, call_of, after}
use Rattle.meaning.specs.Records.{House, house_with, with_plan, rows_or, new_house, loss_line, loss_lines, total_line, loss_text, lacks_program_room, record_text, record_house, text_from, file_text, End, end_here, end_behind, end_from, file_end}
use Rattle.month.specs.Entries.{of_district, totals_over, ledger_over}
use Rattle.month.specs.Events.{entries_after}
use Rattle.month.specs.Reports.{entry_by, entries_of_call, record_entries, entries_in, entries_of, lines_over, report_over, EveryReport}
use Rattle.month.proofs.Sums.{ledger_none, ledger_at, ledger_whole}
use Rattle.month.proofs.Records.{ledger_behind}

-- THE SUMS

-- a call record
call_sums : (s : Option Plan) (rs : List PriceRow) (es : List Entry) (body : List ℕ)
    → ledger_after s (some rs) (ledger_over es) DIGIT-ROOM body ≡ ledger_over (es ++ entries_of_call s rs (ledger_over es) body)
call_sums s rs es body =
    ledger_behind s (some rs) es DIGIT-ROOM body ∙ ap ledger_over (same s (is_zero (taking_refusal s (some rs) (ledger_over es) DIGIT-ROOM body)))
  where
    same : (o : Option Plan) (t : Bool)
        → (if t then entries_after o (some rs) (take CALL-BYTES body) es else es) ≡ es ++ (if t then entry_by o rs (take CALL-BYTES body) else [])
    same o false = sym (append-nil es)
    same none true = sym (append-nil es)
    same (some p) true = refl

-- any record
record_sums : (h : House) (es : List Entry) (k : ℕ) (body : List ℕ) → h.ledger ≡ ledger_over es
    → (record_house h k body).ledger ≡ ledger_over (es ++ record_entries h k body)
unfolding record_house record_entries is_call
record_sums h es k body is = go (is_call k) (eqb k CALL) (eqb k PRICE) refl refl
  where
    none_more : h.ledger ≡ ledger_over (es ++ [])
    none_more = is ∙ ap ledger_over (sym (append-nil es))

    go : (a b c : Bool) → leb k REMOVE-RULE ≡ a → eqb k CALL ≡ b
        → (if a then with_plan (after lacks_program_room h.plan (call_of k body)) h else
        if b then house_with h.plan h.rows (ledger_after h.plan (some h.rows) h.ledger DIGIT-ROOM body) else
        if c then house_with h.plan (rows_or h.rows (rows_after (some h.rows) body)) h.ledger else h).ledger
        ≡ ledger_over (es ++ (if b then entries_of_call h.plan h.rows h.ledger body else []))
    go true true c e f = absurd (omega (arith, leb-true k REMOVE-RULE e, eqb-true k CALL f))
    go true false c e f = none_more
    go false true c e f = rw is (call_sums h.plan h.rows es body)
    go false false true e f = none_more
    go false false false e f = none_more

-- some bytes
sums_behind : (fuel : ℕ) (h : House) (bytes : List ℕ) (es : List Entry) → h.ledger ≡ ledger_over es
    → (end_from fuel h bytes).house.ledger ≡ ledger_over (es ++ entries_in fuel h bytes)
sums_behind zero h bytes es is = is ∙ ap ledger_over (sym (append-nil es))
sums_behind (suc fuel) h [] es is = is ∙ ap ledger_over (sym (append-nil es))
sums_behind (suc fuel) h (k ∷ bytes) es is = go (is_kind k) (ltb (length bytes) (body_length k)) (sums_behind fuel next rest (es ++ added) (record_sums h es k body is))
  where
    body : List ℕ
    body = take (body_length k) bytes

    rest : List ℕ
    rest = drop (body_length k) bytes

    next : House
    next = record_house h k body

    added : List Entry
    added = record_entries h k body

    go : (a b : Bool) → (end_from fuel next rest).house.ledger ≡ ledger_over ((es ++ added) ++ entries_in fuel next rest)
        → (if not a then end_here KIND h else if b then end_here CUT h else end_behind (1 + body_length k) (end_from fuel next rest)).house.ledger
        ≡ ledger_over (es ++ (if not a then [] else if b then [] else added ++ entries_in fuel next rest))
    go false b later = is ∙ ap ledger_over (sym (append-nil es))
    go true true later = is ∙ ap ledger_over (sym (append-nil es))
    go true false later = later ∙ ap ledger_over (append_assoc es added (entries_in fuel next rest))

-- THE TEXT

-- fuel for every byte is enough
enough : (m n : ℕ) (h : House) (bytes : List ℕ) → length bytes ≤ m → length bytes ≤ n
    → (text_from m h bytes ≡ text_from n h bytes) × (end_from m h bytes ≡ end_from n h bytes)
enough zero zero h bytes i j = (refl, refl)
enough zero (suc n) h [] i j = (refl, refl)
enough zero (suc n) h (k ∷ bytes) i j = absurd (not-suc-le-zero i)
enough (suc m) zero h [] i j = (refl, refl)
enough (suc m) zero h (k ∷ bytes) i j = absurd (not-suc-le-zero j)
enough (suc m) (suc n) h [] i j = (refl, refl)
enough (suc m) (suc n) h (k ∷ bytes) i j =
    let next : House = record_house h k (take (body_length k) bytes) in
    let rest : List ℕ = drop (body_length k) bytes in
    let shorter : length rest ≤ length bytes = rw (length-drop (body_length k) bytes) (omega arith) in
    let same : (text_from m next rest ≡ text_from n next rest) × (end_from m next rest ≡ end_from n next rest) =
    enough m n next rest (omega (arith, i, shorter)) (omega (arith, j, shorter)) in
    (rw same.0, rw same.1)

-- whole records of known kinds, and what is behind them: their text, and the text from the state that they leave
joined : (fuel : ℕ) (h : House) (front rest : List ℕ) → length (front ++ rest) ≤ fuel → (end_from fuel h front).refusal ≡ 0
    → text_from fuel h (front ++ rest) ≡ text_from fuel h front ++ text_from (length rest) (end_from fuel h front).house rest
joined zero h [] [] few ends = refl
joined zero h [] (k ∷ rest) few ends = absurd (not-suc-le-zero few)
joined zero h (k ∷ bytes) rest few ends = absurd (not-suc-le-zero few)
joined (suc fuel) h [] rest few ends = (enough (suc fuel) (length rest) h rest few (omega arith)).0
joined (suc fuel) h (k ∷ bytes) rest few ends =
    go (is_kind k) (ltb (length bytes) (body_length k)) refl refl ends (joined fuel (record_house h k (take (body_length k) bytes)) (drop (body_length k) bytes) rest)
  where
    n : ℕ
    n = body_length k

    next : House
    next = record_house h k (take n bytes)

    left : List ℕ
    left = drop n bytes

    go : (a b : Bool) → is_kind k ≡ a → ltb (length bytes) n ≡ b
        → (if not a then end_here KIND h else if b then end_here CUT h else end_behind (1 + n) (end_from fuel next left)).refusal ≡ 0
        → (length (left ++ rest) ≤ fuel → (end_from fuel next left).refusal ≡ 0
        → text_from fuel next (left ++ rest) ≡ text_from fuel next left ++ text_from (length rest) (end_from fuel next left).house rest)
        → text_from (suc fuel) h (k ∷ (bytes ++ rest)) ≡ text_from (suc fuel) h (k ∷ bytes) ++ text_from (length rest) (end_from (suc fuel) h (k ∷ bytes)).house rest
    go false b e f z later = absurd (omega (arith, z))
    go true true e f z later = absurd (omega (arith, z))
    go true false e f z later =
        let fits : n ≤ length bytes = ltb-false (length bytes) n f in
        let more : n ≤ length (bytes ++ rest) = rw (length-append bytes rest) (omega arith) in
        let shorter : length (left ++ rest) ≤ fuel = rw (length-append left rest, length-drop n bytes) (omega (arith, few, length-append bytes rest)) in
        let own : List ℕ = record_text h k (take n bytes) in
        rw (e, f, le-ltb (length (bytes ++ rest)) n more, take-append-le n bytes rest fits, drop-append-le n bytes rest fits)
        (ap (λ (xs : List ℕ). own ++ xs) (later shorter z) ∙ sym (append_assoc own (text_from fuel next left) (text_from (length rest) (end_from fuel next left).house rest)))

-- kind 18 has no body, and leaves the state
losses_text : (h : House) (rest : List ℕ) → text_from (length (LOSSES ∷ rest)) h (LOSSES ∷ rest) ≡ loss_text h.ledger ++ text_from (length rest) h rest
unfolding is_kind is_call body_length record_text record_house
losses_text h rest = rw (le-ltb (length rest) 0 (omega arith))

-- THE LINES

records_here : (xs : List Entry) (text : List ℕ) → (if has_records (totals_over xs) then text else []) ≡ (if is_empty xs then [] else text)
records_here [] text = refl
records_here (x ∷ xs) text = rw (lt-leb (length (x ∷ xs)) 0 (omega arith))

module _ (es : List Entry) where
  district_lines : (d n : ℕ) → d + n ≤ DISTRICTS → loss_lines (ledger_over es).districts d n ≡ lines_over d n es
  district_lines d zero few = refl
  district_lines d (suc n) few =
      ap₂ ◌++◌
      (ap (λ (t : Totals). if has_records t then loss_line d t else []) (ledger_at es d (omega (arith, few))) ∙ records_here (of_district d es) (loss_line d (totals_over (of_district d es))))
      (district_lines (d + 1) n (omega (arith, few)))

  report_lines : loss_text (ledger_over es) ≡ report_over es
  unfolding loss_text report_over
  report_lines = ap₂ ◌++◌ (district_lines 0 DISTRICTS (omega arith)) (ap total_line (ledger_whole es))

-- EVERY REPORT

pub every_report : EveryReport
unfolding file_text file_end entries_of
every_report front rest whole =
    let behind : List ℕ = LOSSES ∷ rest in
    let all : ℕ = length (front ++ behind) in
    let many : length front ≤ all = omega (arith, length-append front behind) in
    let same : (text_from all new_house front ≡ text_from (length front) new_house front) × (end_from all new_house front ≡ end_from (length front) new_house front) =
    enough all (length front) new_house front many (omega arith) in
    let ends : (end_from all new_house front).refusal ≡ 0 = ap (λ (e : End). e.refusal) same.1 ∙ whole in
    let sums : (end_from (length front) new_house front).house.ledger ≡ ledger_over (entries_in (length front) new_house front) = sums_behind (length front) new_house front [] (sym ledger_none) in
    let state : House = (end_from (length front) new_house front).house in
    let parts : text_from all new_house (front ++ behind) ≡ text_from (length front) new_house front ++ text_from (length behind) state behind =
    joined all new_house front behind (omega arith) ends ∙ ap₂ (λ (xs : List ℕ) (e : End). xs ++ text_from (length behind) e.house behind) same.0 same.1 in
    record {
      text = parts ∙ ap (λ (xs : List ℕ). text_from (length front) new_house front ++ xs) (losses_text state rest ∙ ap (λ (l : Ledger). loss_text l ++ text_from (length rest) state rest) sums);
      sums = sums;
      lines = report_lines (entries_of front);
    }
