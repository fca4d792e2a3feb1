-- A data reply that was saved, sent back under the command that writes its setting. Assumes nothing.
use Rattle.std.specs.Prelude.{◌≡◌, ℕ, ◌+◌, ◌≤◌, true, List, [], ◌∷◌, ◌++◌, length, drop, Ok, Option, slice_get, slice_index}
use Rattle.std.specs.Option.{option_map_or, option_to_list}
use Rattle.framing.specs.Frames.{NoEnd, sound}
use Rattle.commands.specs.declared.settings.Setting.{Setting}
use Rattle.commands.specs.declared.rows.Row.{Row}
use Rattle.commands.specs.declared.instructions.Instruction.TheVariants.{Write}
use Rattle.commands.specs.declared.answers.Answer.TheVariants.{Number}
use Rattle.commands.specs.Settings.{lawful}
use Rattle.commands.specs.Rows.{row_for, write_bytes}
use Rattle.commands.specs.Instructions.{instruction_of}
use Rattle.commands.specs.Answers.{reply_of}

-- the row of a data reply, by the command and sub command that follow its addresses
abbrev pub saved_row : List ℕ → Option Row
saved_row reply = row_for (slice_index reply 4) (slice_get reply 5)

-- its field, which follows them: the reply is taken without its FD
abbrev pub saved_field : Row → List ℕ → List ℕ
saved_field r reply = drop (5 + length (option_to_list r.sub)) reply

-- they become the command that writes the setting, the sub command, and the same field
abbrev pub rewritten : Option Row → List ℕ → List ℕ
rewritten o reply = option_map_or (λ r. write_bytes r ++ saved_field r reply) o []

-- the body of the frame that sends a data reply back to an address, from a sender
abbrev pub write_back : ℕ → ℕ → List ℕ → List ℕ
write_back address sender reply = address ∷ sender ∷ rewritten (saved_row reply) reply

-- a number's reply can be saved, without its FD, and sent back from any sender to any address: it then sets the same setting to the same number,
-- and from a controller to an address that a receiver can have it is the body of a sound frame, with no FD in it
pub record GoesBack (to from : ℕ) (s : Setting) (n : ℕ) : Type 0 where
  pub saved : List ℕ
  pub replied : reply_of to from (Number s n) ≡ Ok (saved ++ (0xFD ∷ []))
  pub sets_again : (address sender : ℕ) → instruction_of (write_back address sender saved) ≡ Ok (Write s n)
  pub sound_again : (address sender : ℕ) → address ≤ 0xDF → 0xE0 ≤ sender → sender ≤ 0xEF →
      (sound (write_back address sender saved) ≡ true) × NoEnd (write_back address sender saved)

-- every lawful number has a reply, which goes back
abbrev pub SavedGoesBack : Type 0
SavedGoesBack = (to from : ℕ) (s : Setting) (n : ℕ) → lawful s.number n ≡ true → GoesBack to from s n
