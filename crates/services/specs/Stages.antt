-- What the service stage's struct says of a stage of document 01, and what its functions promise.
use Rattle.std.specs.Prelude.{ℕ, ◌≤◌, ◌≡◌, Bool, false, ◌&&◌, ◌||◌, List, [], length, take, get_or, leb, ltb, eqb}
use Rattle.meaning.specs.Sizes.{SETTINGS-BYTES, LOOKUP-BYTES}
use Rattle.meaning.specs.Basics.{written_over}
use Rattle.std.specs.Prelude.{if◌then◌else◌}
use Rattle.meaning.specs.Settings.{Settings, Lookup, settings_of, lookup_of}
use Rattle.meaning.specs.Actions.{INPRTG, CDPNNP, ASDLKUP, GRNLKUP, CDIAL, codes_of}
use Rattle.meaning.specs.Services.{Stage, at_start, rn_set, serve, eight_places}
use Rattle.services.specs.declared.Served.{Served}
use Rattle.services.specs.declared.Effect.{Effect}

-- RN and SP where CDPNNP was carried out
abbrev pub rn_of : Settings → Lookup → List ℕ → Bool → List ℕ
rn_of settings lookup fas ported = if ported then rn_set settings lookup fas at_start else []

abbrev pub sp_of : Lookup → Bool → List ℕ
sp_of lookup ported = if ported && eqb lookup.kind 3 then lookup.entity else []

-- the stage: a value is set where its action was carried out, to what the settings and the lookup have
unfoldable pub stage_of : Settings → Lookup → List ℕ → Served → Stage
stage_of settings lookup fas s =
    record {
      response = s.effect.response;
      done = take s.count s.actions;
      rn = rn_of settings lookup fas s.effect.ported;
      sp = sp_of lookup s.effect.ported;
      asd = (if s.effect.asd then lookup.asd else []);
      grn = (if s.effect.grn then lookup.grn else []);
      withheld = s.effect.withheld;
    }

-- what the actions come to beside their list, before the first
abbrev pub no_effect : Effect
no_effect = record { response = 0; withheld = false; ported = false; asd = false; grn = false }

-- so many actions listed, and what they have come to
abbrev pub served_with : List ℕ → ℕ → Effect → Served
served_with actions count e = record { actions = actions; count = count; effect = e }

-- one more action, by its code, field by field
abbrev pub response_after : ℕ → ℕ → ℕ → ℕ
response_after code answer response = if eqb code INPRTG then answer else response

abbrev pub withheld_after : ℕ → Bool → Bool → Bool
withheld_after code fails withheld = if eqb code CDPNNP then fails || withheld else if leb CDIAL code then false else withheld

abbrev pub carried_after : ℕ → ℕ → Bool → Bool
carried_after code action carried = eqb code action || carried

unfoldable pub effect_after : ℕ → Bool → ℕ → Effect → Effect
effect_after code fails answer e =
    record {
      response = response_after code answer e.response;
      withheld = withheld_after code fails e.withheld;
      ported = carried_after code CDPNNP e.ported;
      asd = carried_after code ASDLKUP e.asd;
      grn = carried_after code GRNLKUP e.grn;
    }

-- the code by which it is listed
unfoldable pub code_listed : ℕ → ℕ
code_listed code = if ltb CDIAL code then CDIAL else code

-- what the stage is asked over: a set's service actions, the settings, and a lookup with its kind in range
pub record Serviceable (sas settings lookup : List ℕ) : Type 0 where
  pub few : length sas ≤ 8
  pub settings_long : length settings ≡ SETTINGS-BYTES
  pub lookup_long : length lookup ≡ LOOKUP-BYTES
  pub kind : get_or lookup 0 0 ≤ 3

-- document 01's stage after all the actions
abbrev pub stage_after : List ℕ → List ℕ → List ℕ → List ℕ → Stage
stage_after fas sas settings lookup = serve (settings_of settings) (lookup_of lookup) fas (codes_of sas) at_start

-- r is the stage after all the actions, by any formatting actions; the actions carried out lie in eight places as `placed` says
pub record ServedAs (placed : List ℕ → List ℕ) (sas settings lookup : List ℕ) (r : Served) : Type 0 where
  pub stage : (fas : List ℕ) → stage_of (settings_of settings) (lookup_of lookup) fas r ≡ stage_after fas sas settings lookup
  pub count : (fas : List ℕ) → r.count ≡ length (stage_after fas sas settings lookup).done
  pub actions : (fas : List ℕ) → r.actions ≡ placed (stage_after fas sas settings lookup).done
  pub most : r.count ≤ 8

-- over the front of the places passed in
abbrev pub ServedFrom : List ℕ → List ℕ → List ℕ → List ℕ → Served → Type 0
ServedFrom places = ServedAs (λ done. written_over done places)

-- from zeros: "in eight places, zero after the last, and their count"
abbrev pub ServedAnew : List ℕ → List ℕ → List ℕ → Served → Type 0
ServedAnew = ServedAs eight_places
