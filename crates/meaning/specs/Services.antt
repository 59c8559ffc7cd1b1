-- Document 01, "Carrying it out", the service actions and formatting.
use Rattle.std.specs.Prelude.{ℕ, ◌-◌, Bool, false, ◌&&◌, ◌||◌, not, List, [], ◌∷◌, ◌++◌, take, get_or, replicate, leb, eqb}
use Rattle.meaning.specs.Basics.{is_zero, is_empty, contains}
use Rattle.std.specs.Prelude.{if◌then◌else◌}
use Rattle.meaning.specs.Settings.{Settings, Lookup}
use Rattle.meaning.specs.Actions.{RN, LAST-CONDITIONED, INPRTG, CDPNNP, ASDLKUP, GRNLKUP, CDIAL}

-- what the service actions have come to
pub record Stage : Type 0 where
  pub response : ℕ
  pub done : List ℕ
  pub rn : List ℕ
  pub sp : List ℕ
  pub asd : List ℕ
  pub grn : List ℕ
  pub withheld : Bool

unfoldable pub at_start : Stage
at_start = record { response = 0; done = []; rn = []; sp = []; asd = []; grn = []; withheld = false }

-- "If it is not RELAY nothing more is carried out": the response is 2, 3 or 4
unfoldable pub responded : Stage → Bool
responded s = leb 2 s.response

-- CDPNNP: "Kinds 0 and 1 are unsuccessful"; C-12: "0 as before, 1 for success on kind 1"
unfoldable pub unsuccessful : Settings → Lookup → Bool
unsuccessful settings lookup = is_zero lookup.kind || (eqb lookup.kind 1 && is_zero settings.accepting)

module _ (settings : Settings) (lookup : Lookup) (fas : List ℕ) where
  -- "INPRTG sets the response for the lookup's kind"; the answers stand in the order of the kinds (docs/DECISIONS.md, 2)
  unfoldable pub inprtg : Stage → Stage
  inprtg s =
      record {
        response = get_or settings.answers lookup.kind 0;
        done = s.done ++ (INPRTG ∷ []);
        rn = s.rn;
        sp = s.sp;
        asd = s.asd;
        grn = s.grn;
        withheld = s.withheld;
      }

  -- "kind 2 sets RN; kind 3 sets .. RN to DFLTRN if that is configured and the FAs contain RN"
  unfoldable pub rn_set : Stage → List ℕ
  rn_set s =
      if eqb lookup.kind 2 then lookup.entity else
      if eqb lookup.kind 3 && (not (is_empty settings.dfltrn) && contains RN fas) then settings.dfltrn else s.rn

  -- CDPNNP; "kind 3 sets SP"; "unsuccessful: formatting is withheld"
  unfoldable pub cdpnnp : Stage → Stage
  cdpnnp s =
      record {
        response = s.response;
        done = s.done ++ (CDPNNP ∷ []);
        rn = rn_set s;
        sp = (if eqb lookup.kind 3 then lookup.entity else s.sp);
        asd = s.asd;
        grn = s.grn;
        withheld = unsuccessful settings lookup || s.withheld;
      }

  -- "ASDLKUP and GRNLKUP set ASD and GRN if the lookup has digits"
  unfoldable pub asdlkup : Stage → Stage
  asdlkup s =
      record {
        response = s.response;
        done = s.done ++ (ASDLKUP ∷ []);
        rn = s.rn;
        sp = s.sp;
        asd = (if is_empty lookup.asd then s.asd else lookup.asd);
        grn = s.grn;
        withheld = s.withheld;
      }

  unfoldable pub grnlkup : Stage → Stage
  grnlkup s =
      record {
        response = s.response;
        done = s.done ++ (GRNLKUP ∷ []);
        rn = s.rn;
        sp = s.sp;
        asd = s.asd;
        grn = (if is_empty lookup.grn then s.grn else lookup.grn);
        withheld = s.withheld;
      }

  -- "CDIAL lifts the withholding (002)"
  unfoldable pub cdial : Stage → Stage
  cdial s =
      record {
        response = s.response;
        done = s.done ++ (CDIAL ∷ []);
        rn = s.rn;
        sp = s.sp;
        asd = s.asd;
        grn = s.grn;
        withheld = false;
      }

  unfoldable pub carry_out : ℕ → Stage → Stage
  carry_out c s =
      if eqb c INPRTG then inprtg s else
      if eqb c CDPNNP then cdpnnp s else
      if eqb c ASDLKUP then asdlkup s else
      if eqb c GRNLKUP then grnlkup s else cdial s

  -- "Then the SAs in list order"
  abbrev pub serve : List ℕ → Stage → Stage
  serve [] s = s
  serve (c ∷ cs) s = let next : Stage = serve cs (carry_out c s) in if responded s then s else next

-- "the list of service actions carried out, in eight places, zero after the last"
unfoldable pub eight_places : List ℕ → List ℕ
eight_places cs = take 8 (cs ++ replicate 8 0)

-- FORMATTING

-- the value of an FA, by its code: 1 to 10 as conditioned, then RN, SP, ASD, GRN and the delimiters
unfoldable pub value_to_send : Settings → (ℕ → List ℕ) → Stage → ℕ → List ℕ
value_to_send settings value s f =
    if leb f LAST-CONDITIONED then value f else
    get_or (s.rn ∷ s.sp ∷ s.asd ∷ s.grn ∷ settings.delimiter_a ∷ settings.delimiter_b ∷ []) (f - RN) []

-- "the FA values joined in order, empty ones adding nothing"
abbrev pub join : (ℕ → List ℕ) → List ℕ → List ℕ
join value [] = []
join value (f ∷ fs) = value f ++ join value fs
