-- What a receiver is told: a request whose data have become a lawful number. Assumes nothing.
use Rattle.std.specs.Prelude.{ℕ, ◌+◌, ◌*◌, if◌then◌else◌, ◌&&◌, List, length, Ok, Err, Result, ◌==◌}
use Rattle.std.specs.Option.{option_map_or}
use Rattle.digits.specs.declared.Order.{Order}
use Rattle.digits.specs.declared.Order.TheVariants.{HighFirst}
use Rattle.digits.specs.Fields.{number_or_stray}
use Rattle.commands.specs.declared.settings.Setting.{Setting}
use Rattle.commands.specs.declared.faults.Fault.{Fault}
use Rattle.commands.specs.declared.faults.Fault.TheVariants.{NotDigits, NotLawful}
use Rattle.commands.specs.declared.instructions.Instruction.{Instruction}
use Rattle.commands.specs.declared.instructions.Instruction.TheVariants.{Read, Write, Vfo}
use Rattle.commands.specs.Settings.{lawful}
use Rattle.commands.specs.Rows.{row_of}
use Rattle.commands.specs.Requests.{Asked, read, write, vfo, request_of}

-- the order of the bytes of a setting's number
abbrev pub order_of : Setting → Order
order_of s = option_map_or (λ r. r.order) (row_of s) HighFirst

-- the filter that a mode byte alone means
abbrev pub default_filter : ℕ → ℕ
default_filter mode = 1

-- the number that a field of some length names: a mode byte alone is the mode, and its filter is added
abbrev pub completed : Setting → ℕ → ℕ → ℕ
completed s length n = if s.number == 1 && length == 1 then 100 * n + default_filter n else n

-- it has to be lawful, or else the place of the first data byte is told
abbrev pub if_lawful : Setting → ℕ → ℕ → Result ℕ Fault
if_lawful s place n = if lawful s.number n then Ok n else Err (NotLawful place)

-- a stray byte is told first, by its place in the body
abbrev pub if_digits : Setting → ℕ → ℕ → Result ℕ ℕ → Result ℕ Fault
if_digits s length place (Ok n) = if_lawful s place (completed s length n)
if_digits s length place (Err stray) = Err (NotDigits (place + stray))

-- the lawful number that the data of a writing name, which begin at a place of the body
abbrev pub written : Setting → List ℕ → ℕ → Result ℕ Fault
written s bytes place = if_digits s (length bytes) place (number_or_stray (order_of s) bytes)

-- the writing of a number, if it has one
abbrev pub writing : Setting → Result ℕ Fault → Result Instruction Fault
writing s (Ok n) = Ok (Write s n)
writing s (Err f) = Err f

-- what a request tells a receiver to do, or the first fault
abbrev pub instructed : Result Asked Fault → Result Instruction Fault
instructed (Ok (read s)) = Ok (Read s)
instructed (Ok (write s bytes place)) = writing s (written s bytes place)
instructed (Ok (vfo v)) = Ok (Vfo v)
instructed (Err f) = Err f

-- what a body tells a receiver to do, or its first fault
abbrev pub instruction_of : List ℕ → Result Instruction Fault
instruction_of body = instructed (request_of body)
