-- C-20 over the promises of the public calls: when a comparison is refused with ROOM; and, where it gives no difference, that the plans answer and list alike.
use Rattle.std.specs.Prelude.{ℕ, ◌<◌, ◌≡◌, ◌↔◌, List, map, length, T, Result, Ok, Err}
use Rattle.std.proofs.Math.Option.{some}
use Rattle.meaning.specs.Sizes.{DIFFERENCE-BYTES}
use Rattle.meaning.specs.Refusals.{ROOM}
use Rattle.meaning.specs.Plan.{Plan, settings_in, sound}
use Rattle.meaning.specs.Compare.{differences, difference_bytes}
use Rattle.meaning.specs.Answers.{number_of_refusal, count_of}
use Rattle.meaning.specs.declared.Refusal.{Refusal}
use Rattle.meaning.specs.declared.Answered.{Answered}
use Rattle.meaning.specs.declared.ListedRule.{ListedRule}
use Rattle.buffer.specs.Slots.{flat, Wide}
use Rattle.plan.specs.Layout.{plan_of}
use Rattle.plan.specs.State.{state_of}
use Rattle.number.specs.Promises.{AnswerPromise}
use Rattle.listing.specs.Promises.{ListedPromise}
use Rattle.compare.specs.Promises.{ComparePromise}

-- "An entry is 24 bytes": each that is listed of two sound plans
abbrev pub EntriesWide : Type 0
EntriesWide = (p q : Plan) → T (sound p) → T (sound q) → Wide DIFFERENCE-BYTES (map difference_bytes (differences p q))

-- "4 ROOM exactly if the entries don't all fit": over two sound plans, if the buffer is shorter than all of them together
abbrev pub RoomExactly : Type 0
RoomExactly =
    (left right out after : List ℕ) (r : Result ℕ Refusal) (p q : Plan) → state_of left ≡ some p → state_of right ≡ some q → ComparePromise left right out after r
    → ((count_of r).refusal ≡ ROOM) ↔ (length out < length (flat (map difference_bytes (differences p q))))

-- "under equal settings": those of the plans that two memories hold
abbrev pub SameSettings : List ℕ → List ℕ → Type 0
SameSettings left right = settings_in (plan_of left) ≡ settings_in (plan_of right)

-- a comparison of two memories gave no difference
pub record NoDifference (left right : List ℕ) : Type 0 where
  pub out : List ℕ
  pub after : List ℕ
  pub given : Result ℕ Refusal
  pub promised : ComparePromise left right out after given
  pub none_listed : count_of given ≡ record { refusal = 0; number = 0 }

-- "Then, under equal settings, both plans give every number the same answer": every field of it, and every byte of the buffer, for any body
abbrev pub ComparedAlike : Type 0
ComparedAlike =
    (left right : List ℕ) → NoDifference left right → SameSettings left right
    → (body out a b : List ℕ) (x y : Answered) → AnswerPromise left body out a x → AnswerPromise right body out b y → (x ≡ y) × (a ≡ b)

-- the same rule but for the number of its set
pub record SameFilter (x y : ListedRule) : Type 0 where
  pub class : x.class ≡ y.class
  pub digits : x.digits ≡ y.digits
  pub prefix : x.prefix ≡ y.prefix
  pub length : x.length ≡ y.length

-- the same refusal, or such a rule of both
abbrev pub ListsSameFilter : Result ListedRule Refusal → Result ListedRule Refusal → Type 0
ListsSameFilter (Ok x) (Ok y) = SameFilter x y
ListsSameFilter (Ok x) (Err g) = ⊥
ListsSameFilter (Err f) (Ok y) = ⊥
ListsSameFilter (Err f) (Err g) = number_of_refusal f ≡ number_of_refusal g

-- the listing has the same filter at every place of both, whatever the settings
abbrev pub ListedAlike : Type 0
ListedAlike =
    (left right : List ℕ) → NoDifference left right
    → (k : ℕ) (x y : Result ListedRule Refusal) → ListedPromise left k x → ListedPromise right k y → ListsSameFilter x y
