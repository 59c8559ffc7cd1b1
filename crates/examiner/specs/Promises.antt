-- What an examined memory gives.
use Rattle.std.specs.Prelude.{ℕ, ◌≡◌, false, List, Result, MatchResult}
use Rattle.meaning.specs.declared.Refusal.{Refusal}
use Rattle.meaning.specs.declared.Refusal.TheVariants.{Plan}
use Rattle.plan.specs.State.{sound_of}
use Rattle.plan.specs.declared.SoundPlan.{SoundPlan}

-- the memory as a sound plan, or PLAN exactly where it is none
abbrev pub GivesPlan : List ℕ → Result SoundPlan Refusal → Type 0
GivesPlan m r = MatchResult r (λ p. p.memory.now ≡ m) (λ f. (f ≡ Plan) × (sound_of m ≡ false))
