-- A source made of a body and the settings: a table of the body's digits serves it as well, and the outgoing digits are the same.
use Prim.Native.Nat.{ℕ, ◌+◌, ◌-◌, ◌≤◌}
use mathlib.Core.Path.{◌≡◌, refl, sym, ap, ◌∙◌}
use mathlib.Core.List.{List}
use native.Mathlib.Omega.{arith}
use lib.ListN.{length, take, get_or, replicate}
use lib.Seq.{take_all, length-take-le}
use borrow.Rule.Slice.PartMut.{put_mid, mid_of}
use Rattle.meaning.specs.Sizes.{SETTINGS-BYTES, LOOKUP-AT, LOOKUP-BYTES, VALUE-BYTES}
use Rattle.meaning.specs.Basics.{part, written_over}
use Rattle.meaning.specs.Actions.{codes_of}
use Rattle.meaning.specs.Services.{value_to_send}
use Rattle.services.specs.declared.Served.{Served}
use Rattle.conditioning.specs.declared.Marks.{Marks}
use Rattle.buffer.proofs.ListLaws.{part_part}
use Rattle.blocks.proofs.OverLaws.{array_behind, length_over}
use Rattle.formatting.specs.Sources.{SOURCE-BYTES, settings_in, lookup_in, Formattable}
use Rattle.formatting.specs.Tables.{Table, value_at, conditioned_value, value_made}
use Rattle.formatting.specs.Joins.{outgoing_by, JoinsInto}
use Rattle.formatting.proofs.Places.{source_of, source_is, source_long, source_settings, source_part}
use Rattle.formatting.proofs.Joining.{join_same, joins_as}

-- bytes that are 0, with what values are taken from of a body over the front of them and the settings behind it
module _ {settings body : List ℕ} {m : Marks} (f : Formattable settings body m) {after : List ℕ}
    (first : after ≡ written_over (take VALUE-BYTES body) (replicate SOURCE-BYTES 0)) (last : List ℕ)
    (second : last ≡ written_over (take SETTINGS-BYTES settings) (mid_of VALUE-BYTES (SOURCE-BYTES - VALUE-BYTES) after)) where
  abbrev source : List ℕ
  source = put_mid VALUE-BYTES (SOURCE-BYTES - VALUE-BYTES) after last

  front_long : length (take VALUE-BYTES body) ≡ VALUE-BYTES
  front_long = length-take-le VALUE-BYTES body (omega (arith, f.body_long))

  made_is : source ≡ source_of settings (take VALUE-BYTES body) (replicate SOURCE-BYTES 0)
  made_is =
      let s : take SETTINGS-BYTES settings ≡ settings = take_all SETTINGS-BYTES settings (omega (arith, f.settings_long)) in
      let behind : last ≡ written_over settings (mid_of VALUE-BYTES (SOURCE-BYTES - VALUE-BYTES) after) = rw s at second in
      let long : length after ≡ SOURCE-BYTES = ap length first ∙ length_over (take VALUE-BYTES body) (replicate SOURCE-BYTES 0) (omega (arith, front_long)) in
      array_behind (take VALUE-BYTES body) settings (replicate SOURCE-BYTES 0) VALUE-BYTES (SOURCE-BYTES - VALUE-BYTES) (omega arith) first (sym front_long) (omega (arith, f.settings_long)) last behind
      ∙ source_is settings (take VALUE-BYTES body) (replicate SOURCE-BYTES 0) f.settings_long front_long

  pub table_made : Table source m
  table_made =
      record {
        long = ap length made_is ∙ source_long settings (take VALUE-BYTES body) (replicate SOURCE-BYTES 0) f.settings_long front_long refl;
        starts_long = f.starts_long;
        counts_long = f.counts_long;
        low = λ v. omega (arith, f.low v);
        few = f.few;
      }

  settings_is : settings_in source ≡ settings
  settings_is = ap settings_in made_is ∙ source_settings settings (take VALUE-BYTES body) (replicate SOURCE-BYTES 0) f.settings_long front_long

  -- a part of a source that ends before the settings is the body's
  part_is : (a n : ℕ) → a + n ≤ VALUE-BYTES → part a n source ≡ part a n body
  part_is a n h =
      ap (part a n) made_is ∙ source_part settings (take VALUE-BYTES body) (replicate SOURCE-BYTES 0) f.settings_long front_long a n h ∙ part_part a n VALUE-BYTES body h

  lookup_is : lookup_in source ≡ lookup_in body
  lookup_is = part_is LOOKUP-AT LOOKUP-BYTES (omega arith)

  value_is : (v : ℕ) → value_at source m v ≡ value_at body m v
  value_is v = part_is (get_or m.starts v 0) (get_or m.counts v 0) (omega (arith, f.low v, f.few v))

  -- each value is the same in the source and in the body
  values_same : (cas : List ℕ) (served : Served) (v : ℕ) → value_made (settings_in source) source cas m served v ≡ value_made settings body cas m served v
  unfolding value_to_send conditioned_value
  values_same cas served v = rw (settings_is, lookup_is, value_is v)

  pub joined_made : (cas : List ℕ) (served : Served) (fas : List ℕ) {out : List ℕ} {most r : ℕ} → JoinsInto (outgoing_by (settings_in source) source cas m served fas) most out r
      → JoinsInto (outgoing_by settings body cas m served fas) most out r
  joined_made cas served fas j = joins_as (join_same _ _ (codes_of fas) (λ v t. values_same cas served v)) j
