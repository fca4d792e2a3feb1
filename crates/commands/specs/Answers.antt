-- The reply that says what a receiver answers. Assumes nothing.
use Rattle.std.specs.Prelude.{◌≡◌, ℕ, ◌^◌, ◌≤◌, if◌then◌else◌, List, [], ◌∷◌, ◌++◌, length, Some, None, Ok, Err, Option, Result, ◌≢◌, nat_lt, slice_index, slice_index_or}
use Rattle.arrayvec.specs.ArrayVec.{ArrayVec}
use Rattle.std.specs.Result.{result_map_both}
use Rattle.digits.specs.Fields.{field_of}
use Rattle.framing.specs.Frames.{NoEnd}
use Rattle.commands.specs.declared.rows.Row.{Row}
use Rattle.commands.specs.declared.answers.Answer.{Answer}
use Rattle.commands.specs.declared.answers.Answer.TheVariants.{Done, Failed, Number}
use Rattle.commands.specs.declared.answers.Unanswerable.{Unanswerable}
use Rattle.commands.specs.declared.answers.Unanswerable.TheVariants.{NoSuchSetting, DoesNotFit}
use Rattle.commands.specs.Rows.{row_of, read_bytes}

-- the bytes that tell a number: the command that reads its setting, the sub command, and the field
abbrev pub row_bytes : Row → ℕ → Result (List ℕ) Unanswerable
row_bytes r n =
    if nat_lt n (100 ^ r.bytes) then Ok (read_bytes r ++ field_of r.order r.bytes n) else Err DoesNotFit

-- by the row of the setting, or for want of one
abbrev pub number_bytes : Option Row → ℕ → Result (List ℕ) Unanswerable
number_bytes None n = Err NoSuchSetting
number_bytes (Some r) n = row_bytes r n

-- the bytes of an answer
abbrev pub answer_bytes : Answer → Result (List ℕ) Unanswerable
answer_bytes Done = Ok (0xFB ∷ [])
answer_bytes Failed = Ok (0xFA ∷ [])
answer_bytes (Number s n) = number_bytes (row_of s) n

-- the bytes that were told, or why there are none
abbrev pub told_bytes : Result (ArrayVec ℕ) Unanswerable → Result (List ℕ) Unanswerable
told_bytes = result_map_both (λ told. told.items) (λ e. e)

-- what a reply begins with: FE FE, the address that it goes to, the one that it comes from
abbrev pub front : ℕ → ℕ → List ℕ
front to from = 0xFE ∷ 0xFE ∷ to ∷ from ∷ []

-- what is told follows it, and FD ends them
abbrev pub framed : ℕ → ℕ → Result (List ℕ) Unanswerable → Result (List ℕ) Unanswerable
framed to from = result_map_both (λ told. front to from ++ told ++ (0xFD ∷ [])) (λ e. e)

-- the bytes of a reply, or why it has none
abbrev pub reply_of : ℕ → ℕ → Answer → Result (List ℕ) Unanswerable
reply_of to from answer = framed to from (answer_bytes answer)

-- no reply is longer than sixteen bytes
abbrev pub ShortReplies : Type 0
ShortReplies = (to from : ℕ) (answer : Answer) (bytes : List ℕ) → reply_of to from answer ≡ Ok bytes → length bytes ≤ 16

-- what the fifth byte of a reply says of its answer
abbrev pub Says : Answer → ℕ → Type 0
Says Done b = b ≡ 0xFB
Says Failed b = b ≡ 0xFA
Says (Number s n) b = (b ≢ 0xFB) × (b ≢ 0xFA)

-- what the bytes of a reply tell: it ends with FD; the third byte is the address that it goes to, the fourth the one that it comes from,
-- and the fifth says which answer it has; unless an address is FD, the one at the end is the only one
pub record Told (to from : ℕ) (answer : Answer) (bytes : List ℕ) : Type 0 where
  pub inner : List ℕ
  pub ends : bytes ≡ inner ++ (0xFD ∷ [])
  pub goes_to : slice_index_or bytes 2 0 ≡ to
  pub comes_from : slice_index_or bytes 3 0 ≡ from
  pub says : Says answer (slice_index bytes 4)
  pub once : (to ≢ 0xFD) → (from ≢ 0xFD) → NoEnd inner

abbrev pub RepliesTell : Type 0
RepliesTell = (to from : ℕ) (answer : Answer) (bytes : List ℕ) → reply_of to from answer ≡ Ok bytes → Told to from answer bytes
