-- Tables of places: a value put in, the values that conditioning and the service actions set, and the outgoing digits joined by them.
use Prim.Native.Nat.{ℕ, ◌+◌, ◌-◌, ◌≤◌, ◌<◌}
use mathlib.Core.Path.{◌≡◌, refl, sym, ap, subst, ◌∙◌}
use mathlib.Core.Logic.{◌≢◌}
use mathlib.Core.Bool.{Bool, true, false, ◌&&◌, ◌||◌}
use mathlib.Core.List.{List, [], ◌∷◌}
use native.Mathlib.Omega.{arith}
use lib.ListN.{length, drop, get_or, set, length-set, length-drop, get_or-eq_default}
use lib.Seq.{get_or-set_same, get_or-set_other, length-take-le}
use lib.Dec.{T, leb, eqb}
use borrow.Author.Tests.{eqb-true, eqb-false, leb-true, leb-false, le-leb, lt-leb}
use Rattle.meaning.specs.Sizes.{SETTINGS-BYTES, DIALLED-DIGITS-AT, VALUE-BYTES, NUMBER-BYTES}
use Rattle.meaning.specs.Basics.{any, is_zero, contains, part, digits_of}
use Rattle.std.specs.Prelude.{if◌then◌else◌}
use Rattle.meaning.specs.Settings.{settings_of}
use Rattle.meaning.specs.Actions.{CC, LAST-CONDITIONED, RN, DELIMITER-B, CA, is_ccdef, cas_of, codes_of}
use Rattle.meaning.specs.Conditioning.{Stretch, stretch_of, digits_at, value_from}
use Rattle.meaning.specs.Services.{value_to_send, join}
use Rattle.meaning.specs.declared.Span.{Span}
use Rattle.services.specs.declared.Served.{Served}
use Rattle.conditioning.specs.declared.Marks.{Marks}
use Rattle.conditioning.specs.Marks.{marked_anew, MarksOne, MarksAll}
use Rattle.formatting.specs.Sources.{LAST-STRING, settings_in, lookup_in, digits_in, Formattable, Lies}
use Rattle.formatting.specs.Tables.{Table, value_at, Has, place_of, sent_at, conditioned_value, served_over, value_made}
use Rattle.formatting.specs.Joins.{outgoing_by}
use Rattle.formatting.proofs.Places.{part_within, digits_long}
use Rattle.formatting.proofs.Joining.{outgoing, join_same, outgoing_is}

-- A VALUE PUT IN

module _ {source : List ℕ} {m : Marks} (t : Table source m) (u : ℕ) (inside : u ≤ DELIMITER-B) (r : Span) {value : List ℕ} (lies : Lies value source r) where
  put_at : (v : ℕ) → v ≡ u → (get_or (set m.starts u r.start) v 0 ≡ r.start) × (get_or (set m.counts u r.count) v 0 ≡ r.count)
  put_at v e = rw e (get_or-set_same m.starts u r.start 0 (omega (arith, t.starts_long)), get_or-set_same m.counts u r.count 0 (omega (arith, t.counts_long)))

  kept_at : (v : ℕ) → v ≢ u → (get_or (set m.starts u r.start) v 0 ≡ get_or m.starts v 0) × (get_or (set m.counts u r.count) v 0 ≡ get_or m.counts v 0)
  kept_at v h = (get_or-set_other m.starts u v r.start 0 h, get_or-set_other m.counts u v r.count 0 h)

  pub value_put : (v : ℕ) → v ≡ u → value_at source (marked_anew m u r) v ≡ value
  value_put v e = rw ((put_at v e).0, (put_at v e).1) lies.is

  pub value_kept : (v : ℕ) → v ≢ u → value_at source (marked_anew m u r) v ≡ value_at source m v
  value_kept v h = rw ((kept_at v h).0, (kept_at v h).1)

  pub table_put : Table source (marked_anew m u r)
  table_put =
      record {
        long = t.long;
        starts_long = length-set m.starts u r.start ∙ t.starts_long;
        counts_long = length-set m.counts u r.count ∙ t.counts_long;
        low = λ v. low v (eqb v u) refl;
        few = λ v. few v (eqb v u) refl;
      }
    where
      low : (v : ℕ) (b : Bool) → eqb v u ≡ b → get_or (set m.starts u r.start) v 0 ≤ LAST-STRING + 1
      low v true e = rw (put_at v (eqb-true v u e)).0 lies.low
      low v false e = rw (kept_at v (eqb-false v u e)).0 (t.low v)

      few : (v : ℕ) (b : Bool) → eqb v u ≡ b → get_or (set m.counts u r.count) v 0 ≤ 32
      few v true e = rw (put_at v (eqb-true v u e)).1 lies.few
      few v false e = rw (kept_at v (eqb-false v u e)).1 (t.few v)

-- CC BY CCDEF

module _ {source : List ℕ} {m : Marks} (t : Table source m) (cas : List ℕ) where
  -- no CCDEF: every value stays
  pub country_kept : any is_ccdef (cas_of cas) ≡ false → Has (conditioned_value (settings_in source) source cas m) source m
  unfolding conditioned_value
  country_kept d = record { table = t; values = λ v h. rw d (go v (eqb v CC)) }
    where
      go : (v : ℕ) (b : Bool) → value_at source m v ≡ (if b && false then (settings_of (settings_in source)).country else value_at source m v)
      go v true = refl
      go v false = refl

  -- CCDEF: CC is the default, and any other value stays
  pub country_put : any is_ccdef (cas_of cas) ≡ true → (r : Span) → Lies (digits_of (part VALUE-BYTES 4 source)) source r
      → Has (conditioned_value (settings_in source) source cas m) source (marked_anew m CC r)
  unfolding conditioned_value settings_of
  country_put d r lies = record { table = table_put t CC (omega arith) r lies; values = λ v h. rw d (go v (eqb v CC) refl) }
    where
      go : (v : ℕ) (b : Bool) → eqb v CC ≡ b
          → value_at source (marked_anew m CC r) v ≡ (if b && true then digits_of (part 0 4 (settings_in source)) else value_at source m v)
      go v true e = value_put t CC (omega arith) r lies v (eqb-true v CC e) ∙ ap digits_of (sym (part_within 0 4 VALUE-BYTES SETTINGS-BYTES source (omega arith)))
      go v false e = value_kept t CC (omega arith) r lies v (eqb-false v CC e)

-- THE VALUES BEHIND THOSE THAT CONDITIONING SETS, put in one after the other

-- those of the codes below f are there
pub record Serving (taken : ℕ → List ℕ) (served : Served) (source : List ℕ) (m : Marks) (f : ℕ) : Type 0 where
  pub table : Table source m
  pub values : (v : ℕ) → v < f → value_at source m v ≡ served_over (settings_in source) (lookup_in source) served taken v

pub serving_none : (served : Served) {source : List ℕ} {m : Marks} → Table source m → Serving (value_at source m) served source m RN
unfolding value_to_send
serving_none served t = record { table = t; values = λ v h. let few : v ≤ LAST-CONDITIONED = omega arith in rw (le-leb v LAST-CONDITIONED few) }

module _ {taken : ℕ → List ℕ} {served : Served} {source : List ℕ} {m : Marks} {f : ℕ} (g : Serving taken served source m f) where
  pub serving_more : LAST-CONDITIONED < f → f ≤ DELIMITER-B → (v : ℕ) → v ≡ f → (r : Span) → Lies (served_over (settings_in source) (lookup_in source) served (λ v. []) f) source r
      → Serving taken served source (marked_anew m v r) (f + 1)
  unfolding value_to_send
  serving_more behind inside v v-is r lies =
      rw v-is (record { table = table_put g.table f inside r lies; values = λ u h. go u h (eqb u f) refl })
    where
      go : (u : ℕ) → u < f + 1 → (b : Bool) → eqb u f ≡ b
          → value_at source (marked_anew m f r) u ≡ served_over (settings_in source) (lookup_in source) served taken u
      go u h true e =
          let u-is : u ≡ f = eqb-true u f e in
          value_put g.table f inside r lies u u-is ∙ rw (u-is, lt-leb f LAST-CONDITIONED behind)
      go u h false e =
          let apart : u ≢ f = eqb-false u f e in
          value_kept g.table f inside r lies u apart ∙ g.values u (omega arith)

  pub serving_all : DELIMITER-B + 1 ≤ f → Has (served_over (settings_in source) (lookup_in source) served taken) source m
  serving_all h = record { table = g.table; values = λ v k. g.values v (omega arith) }

served_same : (settings lookup : List ℕ) (served : Served) (u v : ℕ → List ℕ) (f : ℕ) → u f ≡ v f → served_over settings lookup served u f ≡ served_over settings lookup served v f
unfolding value_to_send
served_same settings lookup served u v f e = rw e

-- over a table that has the values of conditioning
pub has_made : (source cas : List ℕ) (m : Marks) {m' m'' : Marks} (served : Served) → Has (conditioned_value (settings_in source) source cas m) source m'
    → Has (served_over (settings_in source) (lookup_in source) served (value_at source m')) source m''
    → Has (value_made (settings_in source) source cas m served) source m''
has_made source cas m served a b = record { table = b.table; values = λ f h. b.values f h ∙ served_same (settings_in source) (lookup_in source) served _ _ f (a.values f h) }

-- WHAT AN FA SENDS

module _ {source : List ℕ} {m : Marks} (t : Table source m) (f : ℕ) where
  pub sent_lies : {r : Span} → r ≡ place_of m f → Lies (sent_at source m f) source r
  unfolding sent_at
  sent_lies {r} e = subst (λ (x : Span). Lies (sent_at source m f) source x) (sym e) (go (leb f DELIMITER-B))
    where
      go : (b : Bool) → Lies (if b then value_at source m f else []) source (if b then record { start = get_or m.starts f 0; count = get_or m.counts f 0 } else record { start = 0; count = 0 })
      go true =
          record {
            is = refl;
            count = sym (length-take-le (get_or m.counts f 0) (drop (get_or m.starts f 0) source) (rw length-drop (omega (arith, t.long, t.low f, t.few f))));
            low = t.low f;
            few = t.few f;
          }
      go false = record { is = refl; count = refl; low = omega arith; few = omega arith }

-- no value has a code above that of delimiter B
pub no_value : (settings lookup : List ℕ) (served : Served) (taken : ℕ → List ℕ) (f : ℕ) → DELIMITER-B < f → [] ≡ served_over settings lookup served taken f
unfolding value_to_send
no_value settings lookup served taken f h =
    let behind : LAST-CONDITIONED < f = omega arith in
    let past : 6 ≤ f - RN = omega arith in
    rw (lt-leb f LAST-CONDITIONED behind, get_or-eq_default)

-- so what a table sends that has the values of all FAs
pub sent_made : (settings body cas : List ℕ) (m : Marks) (served : Served) {source : List ℕ} {m' : Marks} → Has (value_made settings body cas m served) source m'
    → (fas : List ℕ) → join (sent_at source m') (codes_of fas) ≡ outgoing_by settings body cas m served fas
unfolding sent_at
sent_made settings body cas m served {source} {m'} has fas = join_same _ _ (codes_of fas) (λ f t. go f (leb f DELIMITER-B) refl)
  where
    go : (f : ℕ) (b : Bool) → leb f DELIMITER-B ≡ b → (if b then value_at source m' f else []) ≡ value_made settings body cas m served f
    go f true e = has.values f (leb-true f DELIMITER-B e)
    go f false e = no_value settings (lookup_in body) served _ f (leb-false f DELIMITER-B e)

-- WHAT CONDITIONING MARKS

-- a stretch of the number's digits, which begin behind their count in a body
marked_value : (body : List ℕ) (n : ℕ) (s : Stretch) (start count : ℕ) → MarksOne DIALLED-DIGITS-AT n s start count → part start count body ≡ digits_at s (digits_in n body)
marked_value body n s start count m = go (eqb count 0) refl
  where
    go : (b : Bool) → eqb count 0 ≡ b → part start count body ≡ digits_at s (digits_in n body)
    go true e =
        let z : count ≡ 0 = eqb-true count 0 e in
        let y : s.count ≡ 0 = sym m.counted ∙ z in
        rw (z, y)
    go false e = rw (m.begins (eqb-false count 0 e), m.counted) (sym (part_within s.start s.count DIALLED-DIGITS-AT n body m.within))

-- no code of a list is 0
codes_positive : (cs : List ℕ) (f : ℕ) → T (contains f (codes_of cs)) → 0 < f
codes_positive [] f t = absurd t
codes_positive (c ∷ cs) f t = go (codes_positive cs f) (is_zero c) refl t
  where
    go : (T (contains f (codes_of cs)) → 0 < f) → (b : Bool) → is_zero c ≡ b → T (contains f (if b then [] else (c ∷ codes_of cs))) → 0 < f
    go later true e s = absurd s
    go later false e s = pick (eqb f c) refl s
      where
        pick : (b : Bool) → eqb f c ≡ b → T (b || contains f (codes_of cs)) → 0 < f
        pick true q s =
            let c-is : c ≢ 0 = eqb-false c 0 e in
            let f-is : f ≡ c = eqb-true f c q in
            omega arith
        pick false q s = later s

-- what conditioning marks is within the digits of a body
pub marks_formattable : (settings body : List ℕ) {xs : List CA} {m : Marks} {prefix n : ℕ} → length settings ≡ SETTINGS-BYTES → length body ≡ NUMBER-BYTES → n ≤ 32
    → MarksAll prefix n DIALLED-DIGITS-AT xs m → Formattable settings body m
marks_formattable settings body s long few all =
    record {
      settings_long = s;
      body_long = long;
      starts_long = all.starts_long;
      counts_long = all.counts_long;
      low = λ v. omega (arith, all.low v);
      few = λ v. omega (arith, all.few v);
    }

module _ (settings body cas : List ℕ) {m : Marks} {prefix n : ℕ} (long : length body ≡ NUMBER-BYTES) (few : n ≤ 32) (all : MarksAll prefix n DIALLED-DIGITS-AT (cas_of cas) m) where
  -- the values are those of document 01
  taken_is : (v : ℕ) → 0 < v → conditioned_value settings body cas m v ≡ value_from (settings_of settings).country prefix (digits_in n body) (cas_of cas) v
  unfolding conditioned_value value_from
  taken_is v h = go (eqb v CC && any is_ccdef (cas_of cas))
    where
      go : (b : Bool) → (if b then (settings_of settings).country else value_at body m v)
          ≡ (if b then (settings_of settings).country else digits_at (stretch_of v prefix (length (digits_in n body)) (cas_of cas)) (digits_in n body))
      go true = refl
      go false = rw (digits_long body n (omega arith)) (marked_value body n (stretch_of v prefix n (cas_of cas)) (get_or m.starts v 0) (get_or m.counts v 0) (all.marks v h))

  pub marked_outgoing : (served : Served) (fas : List ℕ) → outgoing_by settings body cas m served fas ≡ outgoing settings (lookup_in body) (digits_in n body) cas prefix served fas
  marked_outgoing served fas =
      join_same _ _ (codes_of fas) (λ f t. served_same settings (lookup_in body) served _ _ f (taken_is f (codes_positive fas f t)))
      ∙ sym (outgoing_is settings (lookup_in body) (digits_in n body) cas prefix served fas)
