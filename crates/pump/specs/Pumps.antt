-- Steps over the input at hand, one behind the other, until none can be taken: no whole record is left, the output has no room for a line, or reading has ended.
use Rattle.std.specs.Prelude.{ℕ, ◌-◌, ◌≤◌, ◌≡◌, Bool, true, false, List, [], ◌++◌, length, take, drop}
use Rattle.record.specs.Turns.{wants, full, turn}
use Rattle.record.specs.declared.Run.{Run}
use Rattle.record.specs.Promises.{Lent, house_of, InHouse, ending_number, Runs, RunEnd, run_end_here, run_end_behind}
use Rattle.pump.specs.declared.Stop.{Stop}
use Rattle.pump.specs.declared.Stop.TheVariants.{Wants, Full, Over}
use Rattle.pump.specs.declared.Pumped.{Pumped}

abbrev pub pumped_as : ℕ → ℕ → Run → Stop → Pumped
pumped_as taken written run stop = record { taken = taken; written = written; run = run; stop = stop }

-- the output has no room for a line; reading has ended, with a refusal or 0
abbrev pub is_full : Stop → Bool
is_full Wants = false
is_full Full = true
is_full (Over r) = false

abbrev pub is_over : Stop → Bool
is_over Wants = false
is_over Full = false
is_over (Over r) = true

abbrev pub refusal_of : Stop → ℕ
refusal_of Wants = 0
refusal_of Full = 0
refusal_of (Over r) = ending_number r

-- THE PROMISE: what was written is the text of steps over the input at hand, whatever comes behind it; `rest` is what the input goes on with
pub record PumpPromise (m : Lent) (run : Run) (ended : Bool) (input output : List ℕ) (after : Lent) (left : List ℕ) (r : Pumped) : Type 0 where
  -- every run of steps over what is left makes one over all of it
  pub goes_on : is_over r.stop ≡ false → (rest texts : List ℕ) (e : RunEnd) → (ended ≡ true → rest ≡ []) → Runs after r.run (drop r.taken (input ++ rest)) texts e
      → Runs m run (input ++ rest) (take r.written left ++ texts) (run_end_behind r.taken e)
  -- or reading has ended, at the place of what is not taken
  pub ends : is_over r.stop ≡ true → (rest : List ℕ) → (ended ≡ true → rest ≡ [])
      → Runs m run (input ++ rest) (take r.written left) (run_end_behind r.taken (run_end_here (refusal_of r.stop) after))
  pub none_yet : is_over r.stop ≡ false → refusal_of r.stop ≡ 0
  -- where no line was written nothing was done
  pub idle : is_over r.stop ≡ false → r.written ≡ 0 → (after ≡ m) × (r.taken ≡ 0) × (r.run ≡ run)
  -- "the bytes behind them stay"
  pub behind : drop r.written left ≡ drop r.written output
  pub same_size : length left ≡ length output
  pub memory_size : length after.plan ≡ length m.plan
  pub inside : r.taken ≤ length input
  pub room : r.written ≤ length output
  pub in_house : InHouse after r.run.opened
  -- why it stopped: no whole record is left and more is to come, or a line has no room
  pub stops_wanting : is_over r.stop ≡ false → is_full r.stop ≡ false
      → turn (house_of after) r.run.lines ended (drop r.taken input) (length output - r.written) ≡ wants
  pub stops_full : is_full r.stop ≡ true → turn (house_of after) r.run.lines ended (drop r.taken input) (length output - r.written) ≡ full
