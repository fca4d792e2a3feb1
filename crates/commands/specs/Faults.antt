-- The numbers of the faults. Assumes nothing.
use Rattle.std.specs.Prelude.{ℕ}
use Rattle.commands.specs.declared.faults.Fault.{Fault}
use Rattle.commands.specs.declared.faults.Fault.TheVariants.{UnknownCommand, UnknownSubCommand, WrongLength, NotDigits, NotLawful}
use Rattle.commands.specs.declared.faults.FaultReport.{FaultReport}

-- each fault's cause
abbrev pub cause_of : Fault → ℕ
cause_of UnknownCommand = 21
cause_of UnknownSubCommand = 21
cause_of (WrongLength length) = 22
cause_of (NotDigits place) = 23
cause_of (NotLawful place) = 24

-- its place in the body: the command's, the sub command's, the body's length, that of the first stray byte, that of the first data byte
abbrev pub place_of : Fault → ℕ
place_of UnknownCommand = 2
place_of UnknownSubCommand = 3
place_of (WrongLength length) = length
place_of (NotDigits place) = place
place_of (NotLawful place) = place

-- what is reported of it at a slot: no layer of a receiver refused
abbrev pub report_of : Fault → ℕ → FaultReport
report_of f s = record { cause = cause_of f; place = place_of f; layer = 0; slot = s }
