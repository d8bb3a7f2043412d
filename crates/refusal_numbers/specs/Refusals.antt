-- Why a call refuses, and the number by which a caller is told. Assumes nothing.
use Rattle.std.specs.Prelude.{ℕ, Result, Ok, Err}
use Rattle.meaning.specs.Calls.{Answer, refused, accepted}
use Rattle.meaning.specs.Reading.{beside}
use Rattle.refusal_numbers.specs.declared.Refusal as refusal
use Rattle.refusal_numbers.specs.declared.Refusal.TheVariants as R
use Rattle.refusal_numbers.specs.declared.ReadRefusal as read
use Rattle.refusal_numbers.specs.declared.ReadRefusal.TheVariants.{Plain, Spoilt}

-- The number of a reason.
abbrev pub number : refusal.Refusal → ℕ
number R.WrongSize = 1
number R.WrongHeader = 2
number R.NotSound = 3
number R.BadBatch = 4
number R.BadOrder = 5
number R.FewSlots = 7
number R.NotKept = 8
number R.NoRoom = 9
number R.NotInForm = 10
number R.NotHolding = 11
number R.Not32Bytes = 12
number R.TooManyVisits = 13
number R.EmptyVersion = 14
number R.NotRaw = 15
number R.WrongIndex = 16
number R.Lost = 17
number R.NotAbove = 18
number R.OutsidePocket = 19
number R.PastNumber = 20
number R.TooManyBits = 21

-- What a read answers: the number alone, or 3 with the slot beside it.
abbrev pub code : read.ReadRefusal → ℕ
code (Plain r) = number r
code (Spoilt i) = beside 3 i

-- What a caller in another language is told: 0, or the number of the reason.
abbrev pub number_told : {T : Type 0} → Result T refusal.Refusal → ℕ
number_told (Ok x) = 0
number_told (Err r) = number r

-- What a result says: it is refused by the number of its reason, or accepted with what its value says.
abbrev pub answer_of : {T A : Type 0} → (T → A) → Result T refusal.Refusal → Answer A
answer_of says (Ok x) = accepted (says x)
answer_of says (Err r) = refused (number r)

-- The same of a read.
abbrev pub read_answer_of : {T A : Type 0} → (T → A) → Result T read.ReadRefusal → Answer A
read_answer_of says (Ok x) = accepted (says x)
read_answer_of says (Err r) = refused (code r)
