-- Joined values: what is left of a list of codes decides. And which values the outgoing digits join.
use Prim.Native.Nat.{ℕ, zero, suc, ◌+◌, ◌-◌, ◌≤◌, ◌<◌}
use mathlib.Core.Path.{◌≡◌, refl, sym, ap, subst, ◌∙◌}
use mathlib.Core.Bool.{Bool, true, false, ◌||◌}
use mathlib.Core.List.{List, [], ◌∷◌, ◌++◌, append_assoc, append-nil}
use native.Mathlib.Omega.{arith}
use lib.ListN.{length, take, get_or, length-append}
use lib.Seq.{take-append-add, length-take-le}
use lib.Dec.{T, leb, eqb}
use borrow.Author.Tests.{eq-eqb, le-leb, lt-leb, leb-true, leb-false}
use borrow.Rule.Slice.PartMut.{put_mid, mid_of, same_len_mid}
use Rattle.meaning.specs.Basics.{contains}
use Rattle.std.specs.Prelude.{if◌then◌else◌}
use Rattle.meaning.specs.Settings.{Settings, Lookup, settings_of, lookup_of}
use Rattle.meaning.specs.Actions.{LAST-CONDITIONED, RN, cas_of, codes_of}
use Rattle.meaning.specs.Conditioning.{value_from}
use Rattle.meaning.specs.Services.{rn_set, value_to_send, join}
use Rattle.meaning.proofs.Tests.{is_true}
use Rattle.buffer.proofs.ListLaws.{rest_back}
use Rattle.services.specs.declared.Served.{Served}
use Rattle.services.specs.Stages.{stage_of, stage_after, ServedAs}
use Rattle.formatting.specs.Tables.{served_over}
use Rattle.formatting.specs.Joins.{JoinsInto}

-- WHICH VALUES

-- document 01's outgoing digits: "the FA values joined in order", by the stage that these FAs make
unfoldable pub outgoing : List ℕ → List ℕ → List ℕ → List ℕ → ℕ → Served → List ℕ → List ℕ
outgoing settings lookup digits cas prefix served fas =
    join
    (value_to_send (settings_of settings) (value_from (settings_of settings).country prefix digits (cas_of cas))
    (stage_of (settings_of settings) (lookup_of lookup) (codes_of fas) served)) (codes_of fas)

-- two values that agree on every code of a list join alike
pub join_same : (u v : ℕ → List ℕ) (cs : List ℕ) → ((f : ℕ) → T (contains f cs) → u f ≡ v f) → join u cs ≡ join v cs
join_same u v [] h = refl
join_same u v (c ∷ cs) h =
    let a : u c ≡ v c = h c (rw (eq-eqb c c refl) tt) in
    let b : join u cs ≡ join v cs = join_same u v cs (λ f t. h f (later (eqb f c) (contains f cs) t)) in
    rw (a, b)
  where
    later : (p q : Bool) → T q → T (p || q)
    later true q t = tt
    later false q t = t

module _ (settings : Settings) (lookup : Lookup) (served : Served) (fas : List ℕ) where
  -- RN is the same by any FAs that contain it
  rn_asked : contains RN fas ≡ true → (stage_of settings lookup (RN ∷ []) served).rn ≡ (stage_of settings lookup fas served).rn
  unfolding stage_of rn_set
  rn_asked h = rw h

  -- the values behind RN do not depend on the FAs
  abbrev others : List (List ℕ)
  others =
      (stage_of settings lookup fas served).sp ∷ (stage_of settings lookup fas served).asd ∷ (stage_of settings lookup fas served).grn
      ∷ settings.delimiter_a ∷ settings.delimiter_b ∷ []

  -- and so is every value that they ask for
  pub asked : (value : ℕ → List ℕ) (f : ℕ) → T (contains f fas)
      → value_to_send settings value (stage_of settings lookup (RN ∷ []) served) f ≡ value_to_send settings value (stage_of settings lookup fas served) f
  unfolding value_to_send stage_of
  asked value f t = go (leb f LAST-CONDITIONED) (f - RN) refl refl
    where
      only_rn : leb f LAST-CONDITIONED ≡ false → f - RN ≡ 0 → (stage_of settings lookup (RN ∷ []) served).rn ≡ (stage_of settings lookup fas served).rn
      only_rn l k =
          let e : f ≡ RN = omega (arith, leb-false f LAST-CONDITIONED l, k) in
          rn_asked (rw e at (is_true (contains f fas) t))

      go : (b : Bool) (k : ℕ) → leb f LAST-CONDITIONED ≡ b → f - RN ≡ k
          → (if b then value f else get_or ((stage_of settings lookup (RN ∷ []) served).rn ∷ others) k []) ≡ (if b then value f else get_or ((stage_of settings lookup fas served).rn ∷ others) k [])
      go true k l e = refl
      go false zero l e = only_rn l e
      go false (suc k) l e = refl

-- the outgoing digits join the values as they are sent
pub outgoing_is : (settings lookup digits cas : List ℕ) (prefix : ℕ) (served : Served) (fas : List ℕ)
    → outgoing settings lookup digits cas prefix served fas ≡ join (served_over settings lookup served (value_from (settings_of settings).country prefix digits (cas_of cas))) (codes_of fas)
unfolding outgoing
outgoing_is settings lookup digits cas prefix served fas =
    let value : ℕ → List ℕ = value_from (settings_of settings).country prefix digits (cas_of cas) in
    sym (join_same _ _ (codes_of fas) (asked (settings_of settings) (lookup_of lookup) served (codes_of fas) value))

-- they are those of document 01's stage after the service actions
pub outgoing_after : {placed : List ℕ → List ℕ} {sas settings lookup : List ℕ} {served : Served} → ServedAs placed sas settings lookup served
    → (digits cas : List ℕ) (prefix : ℕ) (fas : List ℕ) → outgoing settings lookup digits cas prefix served fas
    ≡ join (value_to_send (settings_of settings) (value_from (settings_of settings).country prefix digits (cas_of cas)) (stage_after (codes_of fas) sas settings lookup)) (codes_of fas)
unfolding outgoing
outgoing_after s digits cas prefix fas = rw (s.stage (codes_of fas))

-- HOW A LOOP OVER THE CODES GOES ON

-- at `end`, the values of the codes before those that are left are written, of the codes `all`
pub record Joining (v : ℕ → List ℕ) (all left : List ℕ) (end : ℕ) (out : List ℕ) : Type 0 where
  pub inside : end ≤ length out
  pub written : take end out ++ join v left ≡ join v all

pub joining_none : (v : ℕ → List ℕ) {all left : List ℕ} (out : List ℕ) → left ≡ all → Joining v all left 0 out
joining_none v out e = record { inside = omega arith; written = ap (join v) e }

module _ {v : ℕ → List ℕ} {all left out : List ℕ} {end : ℕ} (g : Joining v all left end out) (most : ℕ) where
  front_long : length (take end out) ≡ end
  front_long = length-take-le end out g.inside

  -- none is left
  pub joined : left ≡ [] → end ≤ most → JoinsInto (join v all) most out end
  joined e h =
      let t : take end out ≡ join v all = sym (append-nil (take end out)) ∙ (rw e at g.written) in
      let l : length (join v all) ≡ end = sym (ap length t) ∙ front_long in
      record { count = rw (l, le-leb end most h); digits = λ k. t }

  module _ {f : ℕ} {later : List ℕ} (e : left ≡ f ∷ later) (n : ℕ) (n-is : n ≡ length (v f)) where
    next : take end out ++ (v f ++ join v later) ≡ join v all
    next = rw e at g.written

    -- the next value is one too many
    pub joined_long : most < end + n → (exit : List ℕ) → JoinsInto (join v all) most exit (most + 1)
    joined_long h exit =
        let l : most < length (join v all) = omega (arith, simp (length-append, front_long) at (ap length next)) in
        record { count = rw (lt-leb (length (join v all)) most l); digits = λ k. absurd (omega arith) }

    -- the value directly behind those before it
    pub joining_more : (last : List ℕ) → end + n ≤ length out → length last ≡ length (mid_of end (length out - end) out) → take n last ≡ v f
        → Joining v all later (end + n) (put_mid end (length out - end) out last)
    joining_more last room long t =
        let k : take (end + n) (take end out ++ last) ≡ take end out ++ take n last =
        ap (λ (m : ℕ). take (m + n) (take end out ++ last)) (sym front_long) ∙ take-append-add (take end out) last n in
        record {
          inside = rw (same_len_mid end (length out - end) out last long) room;
          written = rw (rest_back end out last g.inside, k, t, append_assoc) next;
        }

pub joins_as : {ds es exit : List ℕ} {most r : ℕ} → ds ≡ es → JoinsInto ds most exit r → JoinsInto es most exit r
joins_as {ds} {es} {exit} {most} {r} e j = subst (λ (x : List ℕ). JoinsInto x most exit r) e j

-- whether they are too many is seen from the count
joined_tests : (b : Bool) (n most r : ℕ) → r ≡ (if b then n else most + 1) → r ≤ most → b ≡ true
joined_tests true n most r e h = refl
joined_tests false n most r e h = absurd (omega arith)

module _ {ds exit : List ℕ} {most r : ℕ} (j : JoinsInto ds most exit r) where
  pub joined_few : r ≤ most → length ds ≤ most
  joined_few h = leb-true (length ds) most (joined_tests (leb (length ds) most) (length ds) most r j.count h)

  pub joined_many : most < r → most < length ds
  joined_many h = leb-false (length ds) most (go (leb (length ds) most) refl)
    where
      go : (b : Bool) → leb (length ds) most ≡ b → leb (length ds) most ≡ false
      go true e = let f : r ≡ length ds = j.count ∙ rw e in absurd (omega (arith, leb-true (length ds) most e))
      go false e = e

-- where the digits are not too many
module _ {ds exit : List ℕ} {most r : ℕ} (j : JoinsInto ds most exit r) (h : length ds ≤ most) where
  pub joined_count : r ≡ length ds
  joined_count = j.count ∙ rw (le-leb (length ds) most h)
