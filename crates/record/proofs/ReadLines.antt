-- The lines that leave the plan as it was: a count, a line of a listing, and which of them a record gives.
use Prim.Native.Nat.{ℕ, zero, suc, ◌+◌, ◌-◌, ◌≤◌, ◌<◌}
use mathlib.Core.Path.{◌≡◌, refl, ap, sym, ◌∙◌}
use mathlib.Core.Bool.{Bool, true, false, not}
use mathlib.Core.List.{List, [], ◌∷◌}
use mathlib.Core.Option.{Option, none, some}
use native.Mathlib.Omega.{arith}
use lib.ListN.{length, take, get_or, get_elem?, replicate, length-map, get_or-map}
use lib.Seq.{take_at}
use lib.Dec.{T, leb}
use borrow.Author.Tests.{leb-true, leb-false}
use Rattle.std.proofs.Math.Option.{some-injective}
use Rattle.meaning.specs.Sizes.{SET-NUMBER-BYTES, PREFIX-AT, FILTER-BYTES}
use Rattle.meaning.specs.Basics.{count, is_some, word, part, padded, digits_in_range}
use Rattle.std.specs.Prelude.{if◌then◌else◌}
use Rattle.meaning.specs.Refusals.{PLAN, RANGE, ABSENT, Line, first_of}
use Rattle.meaning.specs.Filters.{filter_of, filter_ranges, filter_in_range}
use Rattle.meaning.specs.Rules.{Rule, filter_in, names}
use Rattle.meaning.specs.Plan.{sized, code_passes, codes_pass, held, referrers}
use Rattle.meaning.specs.History.{no_rule}
use Rattle.meaning.specs.Calls.{REFS, LIST, is_call, body_length}
use Rattle.meaning.specs.Reads.{over_room, count_after, referrer_count, Listed, listed, listing, listed_or, rule_at_place}
use Rattle.meaning.specs.Answers.{set_of, count_of, rule_listed, rule_given, rule_wanted}
use Rattle.meaning.specs.Ledger.{empty_ledger}
use Rattle.meaning.specs.Records.{no_line, refs_line, listed_line, end_line, record_text, record_house, House, house_with}
use Rattle.std.specs.Prelude.{Result, Ok, Err}
use Rattle.meaning.specs.declared.Refusal.{Refusal}
use Rattle.meaning.specs.declared.SetNumber.{SetNumber}
use Rattle.meaning.specs.declared.ListedRule.{ListedRule}
use Rattle.meaning.proofs.Telling.{refusal_number}
use Rattle.meaning.proofs.Tests.{and_right, all_at, all_place, digits_few}
use Rattle.buffer.proofs.ListLaws.{element_at, no_element}
use Rattle.plan.specs.Layout.{plan_of}
use Rattle.plan.specs.State.{sound_of, state_of}
use Rattle.plan.proofs.ImageLaws.{state_some, state_none}
use Rattle.plan.proofs.ReadLaws.{rule_count_is, sound_is, numbers}
use Rattle.text.specs.Writes.{Writes, listed_of, ListedIn}
use Rattle.text.proofs.Lines.{named, front_is}
use Rattle.number.proofs.AnswerFacts.{digits_of_lem}
use Rattle.record.specs.Turns.{Turn, wrote, list_part, record_part, turn_by, record_turn}
use Rattle.record.specs.Promises.{plan_house, line_of, ReadPromise}
use Rattle.record.specs.declared.Run.{Run}
use Rattle.record.specs.declared.Line.{Line as Written}

-- A LINE THAT IS WRITTEN

module _ {text out last : List ℕ} {n : ℕ} (m : List ℕ) (run : Run) (w : Writes text out last n) where
  pub read_line : {t : Turn} {r : Written} (taken lines : ℕ) (opened : Bool) → t ≡ wrote text taken (plan_house m) lines → r ≡ line_of taken n opened lines run.whole
      → opened ≡ run.opened → ReadPromise t m run out last r
  read_line taken lines opened t-is r-is o =
      rw (t-is, r-is)
      (record {
        turn_is = ap (λ (x : List ℕ). wrote x taken (plan_house m) lines) (front_is w);
        output_is = w.buffer_is;
        count_is = w.count_is;
        inside = w.inside;
        opened_is = o;
        whole_is = refl;
      })

-- A COUNT

-- "room .. for rules 1 to 4,096"
pub rules_few : (m : List ℕ) → sound_of m ≡ true → length (plan_of m).rules ≤ 4096
rules_few m s = rw (← rule_count_is m) (omega (arith, (numbers m s).count_most, (numbers m s).rules_most))

count_few : (p : Rule → Bool) (rs : List Rule) → count p rs ≤ length rs
count_few p [] = omega arith
count_few p (r ∷ rs) = go (p r) (count_few p rs)
  where
    go : (b : Bool) → count p rs ≤ length rs → (if b then 1 else 0) + count p rs ≤ suc (length rs)
    go true h = omega arith
    go false h = omega arith

counted_few : (r n : ℕ) → (count_after r n).number ≤ n
counted_few zero n = omega arith
counted_few (suc r) n = omega arith

module _ (m : List ℕ) where
  pub refs_few : (c : Result ℕ Refusal) (n : ℕ) → sound_of m ≡ true → count_of c ≡ referrer_count (some (plan_of m)) n → (count_of c).number < 65536
  unfolding referrers
  refs_few c n s e =
      let lines : List Line = (over_room (plan_of m) n, RANGE) ∷ (not (is_some (held (plan_of m) n)), ABSENT) ∷ [] in
      rw e (omega (arith, counted_few (first_of lines) (referrers (plan_of m) n), count_few (names n) (plan_of m).rules, rules_few m s))

  pub refs_no_plan : {out last : List ℕ} {n : ℕ} (k : ℕ) → sound_of m ≡ false → Writes (no_line PLAN) out last n
      → Writes (refs_line (referrer_count (state_of m) k)) out last n
  unfolding refs_line
  refs_no_plan k s w = rw (state_none m s) w

  pub refs_known : {out last : List ℕ} {n : ℕ} (c : Result ℕ Refusal) (set : SetNumber) (k : ℕ) → sound_of m ≡ true → set ≡ set_of k
      → count_of c ≡ referrer_count (some (plan_of m)) set.0 → Writes (refs_line (count_of c)) out last n
      → Writes (refs_line (referrer_count (state_of m) k)) out last n
  refs_known c set k s k-is e w =
      let same : count_of c ≡ referrer_count (some (plan_of m)) k = e ∙ ap (λ (x : SetNumber). referrer_count (some (plan_of m)) x.0) k-is in
      rw (state_some m s) (named (ap refs_line same) w)

-- A RULE OF THE LISTING

prefix_range : (code : List ℕ) → T (code_passes code) → T (digits_in_range 0 16 (part PREFIX-AT 17 code))
unfolding code_passes filter_in_range
prefix_range code t = all_at 1 (filter_ranges code) (and_right (sized FILTER-BYTES code) (filter_in_range code) t)

-- a prefix that is filled up
prefix_back : (xs : List ℕ) → take (length xs) (padded 16 xs) ≡ xs
prefix_back xs = take_at xs (replicate (16 - length xs) 0) (length xs) refl

pub listed_back : (l : Listed) → listed_of (rule_listed l) ≡ l
listed_back l =
    ap (λ (xs : List ℕ). record { filter = record { class = l.filter.class; prefix = xs; len = l.filter.len }; set = l.set }) (prefix_back l.filter.prefix)

listed_in : (r : Rule) → T (code_passes r.code) → ListedIn (rule_listed (listed r))
unfolding filter_of
listed_in r t =
    let range = prefix_range r.code t in
    record { few = digits_few 0 16 (part PREFIX-AT 17 r.code) range; digits = rw (prefix_back (filter_in r).prefix) (digits_of_lem 0 16 (part PREFIX-AT 17 r.code) range) }

-- A LINE OF THE LISTING

list_by : (s : House) (lines : ℕ) → record_turn s lines LIST [] ≡ turn_by s LIST [] (list_part s.plan lines).text (list_part s.plan lines).next
unfolding record_turn record_part
list_by s lines = refl

-- its last line takes the kind's byte, and every other none
list_last : (s : House) (text : List ℕ) → turn_by s LIST [] text none ≡ wrote text 1 s 0
unfolding record_house is_call body_length
list_last s text = refl

module _ (m : List ℕ) (run : Run) where
  abbrev Lists : List ℕ → List ℕ → Written → Type 0
  Lists out last r = ReadPromise (record_turn (plan_house m) run.lines LIST []) m run out last r

  pub list_no_plan : {out last : List ℕ} {n : ℕ} {r : Written} → sound_of m ≡ false → run.opened ≡ false → Writes (no_line PLAN) out last n → r ≡ line_of 1 n false 0 run.whole
      → Lists out last r
  list_no_plan s o w e =
      let t : record_turn (plan_house m) run.lines LIST [] ≡ wrote (no_line PLAN) 1 (plan_house m) 0 =
      list_by (plan_house m) run.lines ∙ rw (state_none m s) (list_last (house_with none [] empty_ledger) (no_line PLAN)) in
      read_line m run w 1 0 false t e (sym o)

  module _ (s : sound_of m ≡ true) (o : run.opened ≡ true) where
    abbrev rules : List Listed
    rules = listing (plan_of m)

    pub listing_few : (c : ℕ) → c ≡ length rules → c ≤ 4096
    unfolding listing
    listing_few c e = rw (e, length-map (plan_of m).rules listed) (rules_few m s)

    pub list_end : {out last : List ℕ} {n : ℕ} {r : Written} (c : ℕ) → c ≡ length rules → c ≤ run.lines → Writes (end_line c) out last n → r ≡ line_of 1 n true 0 run.whole
        → Lists out last r
    list_end c c-is h w e =
        let t : record_turn (plan_house m) run.lines LIST [] ≡ wrote (end_line c) 1 (plan_house m) 0 =
        list_by (plan_house m) run.lines
        ∙ rw (state_some m s, no_element rules run.lines (rw (← c-is) h), c-is) (list_last (house_with (some (plan_of m)) [] empty_ledger) (end_line (length rules))) in
        read_line m run w 1 0 true t e (sym o)

    abbrev here : Rule
    here = get_or (plan_of m).rules run.lines no_rule

    rule_here : run.lines < length rules → get_elem? rules run.lines ≡ some (listed here)
    unfolding listing
    rule_here h = element_at rules run.lines (listed no_rule) h ∙ ap some (get_or-map listed (plan_of m).rules run.lines no_rule)

    -- the rule at the place, or none at or above the count
    module _ (given : Result ListedRule Refusal) (is : rule_given given ≡ rule_wanted (rule_at_place (some (plan_of m)) run.lines)) where
      pub goes_on : (rule : ListedRule) → given ≡ Ok rule → (run.lines < length rules) × (rule ≡ rule_listed (listed here))
      goes_on rule e = go (leb (length rules) run.lines) refl
        where
          go : (b : Bool) → leb (length rules) run.lines ≡ b → (run.lines < length rules) × (rule ≡ rule_listed (listed here))
          go true q =
              let none_there : rule_given given ≡ (RANGE, none) = is ∙ ap (λ (x : Option Listed). rule_wanted (listed_or x)) (no_element rules run.lines (leb-true (length rules) run.lines q)) in
              absurd (zero_range (ap (λ (x : ℕ × Option ListedRule). x.0) (ap rule_given (sym e) ∙ none_there)))
            where
              zero_range : 0 ≡ RANGE → ⊥
              zero_range z = omega (arith, z)
          go false q =
              let h : run.lines < length rules = leb-false (length rules) run.lines q in
              let there : rule_given given ≡ (0, some (rule_listed (listed here))) = is ∙ ap (λ (x : Option Listed). rule_wanted (listed_or x)) (rule_here h) in
              (h, some-injective rule (rule_listed (listed here)) (ap (λ (x : ℕ × Option ListedRule). x.1) (ap rule_given (sym e) ∙ there)))

      pub is_over : (r : Refusal) → given ≡ Err r → length rules ≤ run.lines
      is_over r e = go (leb (length rules) run.lines) refl
        where
          go : (b : Bool) → leb (length rules) run.lines ≡ b → length rules ≤ run.lines
          go true q = leb-true (length rules) run.lines q
          go false q =
              let there : rule_given given ≡ (0, some (rule_listed (listed here))) =
              is ∙ ap (λ (x : Option Listed). rule_wanted (listed_or x)) (rule_here (leb-false (length rules) run.lines q)) in
              absurd (refusal_number r (ap (λ (x : ℕ × Option ListedRule). x.0) (ap rule_given (sym e) ∙ there)))

    module _ (rule : ListedRule) (h : run.lines < length rules) (rule_is : rule ≡ rule_listed (listed here)) where
      passes : T (code_passes here.code)
      unfolding listing codes_pass
      passes =
          let l : length rules ≡ length (plan_of m).rules = length-map (plan_of m).rules listed in
          all_place (λ (r : Rule). code_passes r.code) (plan_of m).rules no_rule run.lines (sound_is m s).plan.codes (rw (← l) h)

      pub next_in : ListedIn rule
      next_in = rw rule_is (listed_in here passes)

      pub list_next : {out last : List ℕ} {n : ℕ} {r : Written} → Writes (listed_line (listed_of rule)) out last n → r ≡ line_of 0 n true (run.lines + 1) run.whole
          → Lists out last r
      list_next w e =
          let t : record_turn (plan_house m) run.lines LIST [] ≡ wrote (listed_line (listed here)) 0 (plan_house m) (run.lines + 1) =
          list_by (plan_house m) run.lines ∙ rw (state_some m s, rule_here h) in
          let text : listed_line (listed_of rule) ≡ listed_line (listed here) = ap listed_line (ap listed_of rule_is ∙ listed_back (listed here)) in
          read_line m run (named text w) 0 (run.lines + 1) true t e (sym o)

-- A RECORD THAT READS THE PLAN

refs_turn : (s : House) (lines : ℕ) (body : List ℕ) → record_turn s lines REFS body ≡ wrote (refs_line (referrer_count s.plan (word body 0))) (1 + SET-NUMBER-BYTES) s 0
unfolding record_turn record_part record_text record_house is_call body_length
refs_turn s lines body = refl

-- a listing has no body
list_turn : (s : House) (lines : ℕ) (body : List ℕ) → record_turn s lines LIST body ≡ record_turn s lines LIST []
unfolding record_turn record_part record_house is_call
list_turn s lines body = go (list_part s.plan lines).text (list_part s.plan lines).next
  where
    go : (text : List ℕ) (next : Option ℕ) → turn_by s LIST body text next ≡ turn_by s LIST [] text next
    go text none = refl
    go text (some next) = refl

module _ (m : List ℕ) (run : Run) (body : List ℕ) where
  pub read_refs : {out last : List ℕ} {n : ℕ} {r : Written} → Writes (refs_line (referrer_count (state_of m) (word body 0))) out last n
      → r ≡ line_of (1 + SET-NUMBER-BYTES) n run.opened 0 run.whole → ReadPromise (record_turn (plan_house m) run.lines REFS body) m run out last r
  read_refs w e = read_line m run w (1 + SET-NUMBER-BYTES) 0 run.opened (refs_turn (plan_house m) run.lines body) e refl

  pub read_list : {out last : List ℕ} {r : Written} → Lists m run out last r → ReadPromise (record_turn (plan_house m) run.lines LIST body) m run out last r
  read_list p = rw (list_turn (plan_house m) run.lines body) p
