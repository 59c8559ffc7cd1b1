-- How `replay` goes on: the calls that are left decide, from the memory and the numbers as they are now.
use Prim.Native.Nat.{ℕ, zero, suc, ◌+◌, ◌-◌, ◌≤◌, ◌<◌, zero-le}
use mathlib.Core.Path.{◌≡◌, refl, sym, ap, ◌∙◌}
use mathlib.Core.Bool.{Bool, true, false, ◌&&◌}
use mathlib.Core.List.{List, [], ◌∷◌, ◌++◌}
use native.Mathlib.Nat.{not-suc-le-zero, le_of_suc-le-suc, zero-add}
use native.Mathlib.Numerals.{add-one}
use native.Mathlib.Omega.{arith}
use lib.ListN.{length, take, drop, get_or, set, length-set, length-drop, take-append-drop, drop_of_length-le}
use lib.Seq.{drop-cons, drop-drop}
use lib.Dec.{leb, ltb}
use borrow.Author.Tests.{leb-true, ltb-true, ltb-false}
use Rattle.meaning.specs.Basics.{written_over}
use Rattle.meaning.specs.Calls.{Call, is_call, body_length, call_of}
use Rattle.changes.specs.Promise.{number_for, memory_after, Provides}
use Rattle.changes.proofs.Chains.{keeps_length}
use Rattle.history.specs.Replays.{Replays, calls_in, numbers_of, memory_behind}
use Rattle.history.specs.Parts.{begins_whole}

-- WHERE A RECORD BEGINS

both : (a b : Bool) → (a && b) ≡ true → (a ≡ true) × (b ≡ true)
both true b e = (refl, e)
both false b e = (e, cc)

pub none_past : (bytes : List ℕ) (at : ℕ) → length bytes ≤ at → begins_whole (drop at bytes) ≡ false
none_past bytes at h = rw (drop_of_length-le bytes h)

module _ (bytes : List ℕ) (at : ℕ) where
  pub whole_is : at < length bytes
      → begins_whole (drop at bytes) ≡ (is_call (get_or bytes at 0) && leb (body_length (get_or bytes at 0)) (length bytes - (at + 1)))
  whole_is h = rw (add-one, drop-cons bytes at 0 h, length-drop (suc at) bytes)

  -- a whole record of a call begins there
  pub record WholeAt : Type 0 where
    pub inside : at < length bytes
    pub kind : is_call (get_or bytes at 0) ≡ true
    pub fits : at + 1 + body_length (get_or bytes at 0) ≤ length bytes

  whole_at : begins_whole (drop at bytes) ≡ true → WholeAt
  whole_at e = go (ltb at (length bytes)) refl
    where
      go : (b : Bool) → ltb at (length bytes) ≡ b → WholeAt
      go true t =
          let h : at < length bytes = ltb-true at (length bytes) t in
          let k : ℕ = get_or bytes at 0 in
          let w = both (is_call k) (leb (body_length k) (length bytes - (at + 1))) (sym (whole_is h) ∙ e) in
          let fits : body_length k ≤ length bytes - (at + 1) = leb-true (body_length k) (length bytes - (at + 1)) w.1 in
          record { inside = h; kind = w.0; fits = omega arith }
      go false t =
          let f : begins_whole (drop at bytes) ≡ false = none_past bytes at (ltb-false at (length bytes) t) in
          let z : ◌≡◌ {A = ℕ} 0 1 = cc in
          absurd (omega arith)

-- THE CALLS THAT ARE LEFT

calls_none : (room : ℕ) (bytes : List ℕ) → begins_whole bytes ≡ false → calls_in room bytes ≡ []
calls_none zero bytes e = refl
calls_none (suc room) [] e = refl
calls_none (suc room) (k ∷ bytes) e = rw e

calls_more : (room : ℕ) (bytes : List ℕ) (at : ℕ) → at < length bytes → begins_whole (drop at bytes) ≡ true
    → calls_in (suc room) (drop at bytes)
    ≡ call_of (get_or bytes at 0) (take (body_length (get_or bytes at 0)) (drop (at + 1) bytes)) ∷ calls_in room (drop (at + 1 + body_length (get_or bytes at 0)) bytes)
calls_more room bytes at h e =
    let d : drop at bytes ≡ get_or bytes at 0 ∷ drop (suc at) bytes = drop-cons bytes at 0 h in
    let w : begins_whole (get_or bytes at 0 ∷ drop (suc at) bytes) ≡ true = rw d at e in
    rw (d, w, add-one, drop-drop)

-- THE LOOP

-- a number stored at i, and the others behind it
store : (w ns : List ℕ) (i v : ℕ) → i < length w
    → take (i + 1) (set w i v) ++ written_over ns (drop (i + 1) (set w i v)) ≡ take i w ++ written_over (v ∷ ns) (drop i w)
store w ns i v h = rw add-one (go w i h)
  where
    go : (w : List ℕ) (i : ℕ) → i < length w
        → take (suc i) (set w i v) ++ written_over ns (drop (suc i) (set w i v)) ≡ take i w ++ written_over (v ∷ ns) (drop i w)
    go [] i h = absurd (not-suc-le-zero h)
    go (x ∷ w) zero h = refl
    go (x ∷ w) (suc i) h = ap (λ (l : List ℕ). x ∷ l) (go w i (le_of_suc-le-suc h))

-- at byte `at`, with `done` calls carried out: the calls that are left give what all of them give
pub record Going (m bytes numbers : List ℕ) (done at : ℕ) (plan written : List ℕ) : Type 0 where
  pub inside : at ≤ length bytes
  pub room : done ≤ length numbers
  pub long : length written ≡ length numbers
  pub size : length plan ≡ length m
  pub count : done + length (calls_in (length numbers - done) (drop at bytes)) ≡ length (calls_in (length numbers) bytes)
  pub memory : memory_behind (calls_in (length numbers - done) (drop at bytes)) plan ≡ memory_behind (calls_in (length numbers) bytes) m
  pub answers : take done written ++ written_over (numbers_of (calls_in (length numbers - done) (drop at bytes)) plan) (drop done written)
      ≡ written_over (numbers_of (calls_in (length numbers) bytes) m) numbers

pub going_start : (m bytes numbers : List ℕ) → Going m bytes numbers 0 0 m numbers
going_start m bytes numbers =
    let z : length numbers - 0 ≡ length numbers = omega arith in
    record { inside = zero-le; room = zero-le; long = refl; size = refl; count = rw (z, zero-add); memory = rw z; answers = rw z }

module _ {m bytes numbers plan written : List ℕ} {done at : ℕ} (g : Going m bytes numbers done at plan written) where
  ends : calls_in (length numbers - done) (drop at bytes) ≡ [] → Replays m bytes numbers plan written done
  ends e =
      record {
        count_is = omega (arith, rw e at g.count);
        numbers_are = sym (take-append-drop done written) ∙ (rw e at g.answers);
        memory_is = rw e at g.memory;
      }

  -- `numbers` is full
  pub going_full : length numbers ≤ done → Replays m bytes numbers plan written done
  going_full h = let z : length numbers - done ≡ 0 = omega arith in ends (rw z)

  -- no whole record begins
  pub going_stops : begins_whole (drop at bytes) ≡ false → Replays m bytes numbers plan written done
  going_stops e = ends (calls_none (length numbers - done) (drop at bytes) e)

  -- one begins
  pub going_whole : begins_whole (drop at bytes) ≡ true → WholeAt bytes at
  going_whole e = whole_at bytes at e

  -- and is carried out
  pub going_more : (after : List ℕ) (b n v : ℕ) → done < length numbers → begins_whole (drop at bytes) ≡ true → b ≡ body_length (get_or bytes at 0)
      → Provides (call_of (get_or bytes at 0) (take (at + 1 + b - (at + 1)) (drop (at + 1) bytes))) plan after n → v ≡ n
      → Going m bytes numbers (done + 1) (at + 1 + b) after (set written done v)
  going_more after b n v h e l p q =
      let w = whole_at bytes at e in
      let c : Call = call_of (get_or bytes at 0) (take (at + 1 + b - (at + 1)) (drop (at + 1) bytes)) in
      let rest : List Call = calls_in (length numbers - (done + 1)) (drop (at + 1 + b) bytes) in
      let s : length numbers - done ≡ suc (length numbers - (done + 1)) = omega arith in
      let k : at + 1 + b - (at + 1) ≡ b = omega arith in
      let left : calls_in (length numbers - done) (drop at bytes) ≡ c ∷ rest =
      rw (s, k, l) (calls_more (length numbers - (done + 1)) bytes at w.inside e) in
      let n-is : v ≡ number_for c plan = q ∙ p.number_is in
      let count : done + length (c ∷ rest) ≡ length (calls_in (length numbers) bytes) = rw left at g.count in
      let memory : memory_behind rest (memory_after c plan) ≡ memory_behind (calls_in (length numbers) bytes) m = rw left at g.memory in
      let answers : take done written ++ written_over (number_for c plan ∷ numbers_of rest (memory_after c plan)) (drop done written)
      ≡ written_over (numbers_of (calls_in (length numbers) bytes) m) numbers = rw left at g.answers in
      record {
        inside = omega (arith, w.fits);
        room = omega arith;
        long = length-set written done v ∙ g.long;
        size = keeps_length c plan after n p ∙ g.size;
        count = omega arith;
        memory = rw p.memory_is memory;
        answers = rw (p.memory_is, store written (numbers_of rest (memory_after c plan)) done v (omega (arith, g.long)), n-is) answers;
      }
