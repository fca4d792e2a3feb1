-- What the body of a frame asks: a reading, a writing or a VFO command. Assumes nothing.
use Rattle.std.specs.Prelude.{ℕ, ◌+◌, Bool, if◌then◌else◌, ◌&&◌, ◌||◌, List, length, drop, slice_get, Some, None, Ok, Err, Option, Result, ◌==◌}
use Rattle.std.specs.Option.{option_to_list}
use Rattle.framing.specs.Frames.{command_of}
use Rattle.commands.specs.declared.settings.Setting.{Setting}
use Rattle.commands.specs.declared.rows.Row.{Row}
use Rattle.commands.specs.declared.faults.Fault.{Fault}
use Rattle.commands.specs.declared.faults.Fault.TheVariants.{UnknownCommand, UnknownSubCommand, WrongLength}
use Rattle.commands.specs.declared.requests.Shown.TheVariants.{VfoA, VfoB}
use Rattle.commands.specs.declared.requests.VfoCommand.{VfoCommand}
use Rattle.commands.specs.declared.requests.VfoCommand.TheVariants.{Select, Show, Copy, Exchange}
use Rattle.commands.specs.declared.requests.Request.{Request}
use Rattle.commands.specs.declared.requests.Request.TheVariants.{Read, Write, Vfo}
use Rattle.commands.specs.Rows.{row_for, is_known}

-- a request by its parts: a writing has its data bytes, and the place where they begin in the body
pub data Asked : Type 0 where
  read : Setting → Asked
  write : Setting → List ℕ → ℕ → Asked
  vfo : VfoCommand → Asked

-- what the reference of a request points to, in its place
abbrev pub asked : Request → Asked
asked (Read s) = read s
asked (Write s bytes place) = write s bytes.now place
asked (Vfo v) = vfo v

abbrev pub seen : Result Request Fault → Result Asked Fault
seen (Ok q) = Ok (asked q)
seen (Err f) = Err f

-- the VFO command of a byte after 07
abbrev pub vfo_under : ℕ → Option VfoCommand
vfo_under k =
    if k == 0x00 then Some (Show VfoA)
    else if k == 0x01 then Some (Show VfoB)
    else if k == 0xA0 then Some Copy
    else if k == 0xB0 then Some Exchange
    else None

-- nothing follows that byte
abbrev pub vfo_request : Option VfoCommand → ℕ → Result Asked Fault
vfo_request None length = Err UnknownSubCommand
vfo_request (Some v) length = if length == 4 then Ok (vfo v) else Err (WrongLength length)

-- what a body of some length asks under 07, by the byte after it: 07 alone is a VFO command too
abbrev pub by_vfo : Option ℕ → ℕ → Result Asked Fault
by_vfo None length = Ok (vfo Select)
by_vfo (Some k) length = vfo_request (vfo_under k) length

-- where the data of a row's command begin: after address, sender, command and sub command
abbrev pub data_place : Row → ℕ
data_place r = 3 + length (option_to_list r.sub)

-- the data, to the end of the body
abbrev pub data_of : Row → List ℕ → List ℕ
data_of r body = drop (data_place r) body

-- how many data bytes a row's writing has: as many as its number, or the mode byte alone
abbrev pub takes_length : Row → ℕ → Bool
takes_length r n = n == r.bytes || (r.setting.number == 1 && n == 1)

-- a command with so many data bytes reads the row's setting, or writes it
abbrev pub is_reading : Row → ℕ → ℕ → Bool
is_reading r c n = r.read == c && n == 0

abbrev pub is_writing : Row → ℕ → ℕ → Bool
is_writing r c n = r.write == c && takes_length r n

-- what a body asks by the row that its command and sub command are of
abbrev pub by_row : Row → List ℕ → Result Asked Fault
by_row r body =
    if is_reading r (command_of body) (length (data_of r body)) then Ok (read r.setting)
    else if is_writing r (command_of body) (length (data_of r body)) then Ok (write r.setting (data_of r body) (data_place r))
    else Err (WrongLength (length body))

-- why no row is for a command: rows have it with other sub commands, or none has it
abbrev pub unknown : ℕ → Fault
unknown c = if is_known c then UnknownSubCommand else UnknownCommand

-- what a body asks, by that row or for want of one
abbrev pub by_command : Option Row → List ℕ → Result Asked Fault
by_command None body = Err (unknown (command_of body))
by_command (Some r) body = by_row r body

-- the byte that follows the command, if there is one
abbrev pub next_of : List ℕ → Option ℕ
next_of body = slice_get body 3

-- what a body asks
unfoldable pub request_of : List ℕ → Result Asked Fault
request_of body =
    if command_of body == 0x07 then by_vfo (next_of body) (length body)
    else by_command (row_for (command_of body) (next_of body)) body
