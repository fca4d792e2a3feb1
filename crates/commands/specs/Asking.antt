-- Requests told from their bytes: which bytes ask for what, and when none do. Assumes nothing.
use Rattle.std.specs.Prelude.{◌≡◌, ℕ, ◌+◌, ◌≤◌, true, List, [], ◌∷◌, ◌++◌, length, Ok, Err, Option, IsSomeAnd, slice_get, slice_index}
use Rattle.std.specs.Option.{option_map_or}
use Rattle.framing.specs.Frames.{command_of}
use Rattle.commands.specs.declared.rows.Row.{Row}
use Rattle.commands.specs.declared.faults.Fault.{Fault}
use Rattle.commands.specs.declared.faults.Fault.TheVariants.{UnknownCommand, UnknownSubCommand, WrongLength, NotDigits, NotLawful}
use Rattle.commands.specs.declared.requests.Shown.TheVariants.{VfoA, VfoB}
use Rattle.commands.specs.declared.requests.VfoCommand.{VfoCommand}
use Rattle.commands.specs.declared.requests.VfoCommand.TheVariants.{Select, Show, Copy, Exchange}
use Rattle.commands.specs.Rows.{row_of, read_bytes, write_bytes, has_sub}
use Rattle.commands.specs.Requests.{Asked, read, write, vfo, request_of, takes_length, next_of}

-- the byte after 07 of each VFO command, if it has one
abbrev pub vfo_bytes : VfoCommand → List ℕ
vfo_bytes Select = []
vfo_bytes (Show VfoA) = 0x00 ∷ []
vfo_bytes (Show VfoB) = 0x01 ∷ []
vfo_bytes Copy = 0xA0 ∷ []
vfo_bytes Exchange = 0xB0 ∷ []

-- the bytes of a row, if there is one
abbrev pub named : (Row → List ℕ) → Option Row → List ℕ
named bytes o = option_map_or bytes o []

-- the bytes that name a request: its command and sub command
abbrev pub naming : Asked → List ℕ
naming (read s) = named read_bytes (row_of s)
naming (write s bytes place) = named write_bytes (row_of s)
naming (vfo v) = 0x07 ∷ vfo_bytes v

-- the bytes that follow them
abbrev pub data_bytes : Asked → List ℕ
data_bytes (read s) = []
data_bytes (write s bytes place) = bytes
data_bytes (vfo v) = []

-- a writing of the setting may have so many data bytes
abbrev pub Takes : Option Row → ℕ → Type 0
Takes o n = IsSomeAnd o (λ r. takes_length r n ≡ true)

-- a request that can be asked: of one of the fifteen settings, with data of the right length that begin behind the bytes that name it
abbrev pub Askable : Asked → Type 0
Askable (read s) = s.number ≤ 14
Askable (write s bytes place) =
    (s.number ≤ 14) × Takes (row_of s) (length bytes) × (place ≡ 2 + length (naming (write s bytes place)))
Askable (vfo v) = Unit {0}

-- a body asks for a request: behind address and sender it has the bytes that name it, and its data
abbrev pub Asks : List ℕ → Asked → Type 0
Asks body q =
    Askable q × ((address : ℕ) × ((sender : ℕ) × (body ≡ address ∷ sender ∷ (naming q ++ data_bytes q))))

-- a body is read as a request just when it asks for it
abbrev pub RequestsByTheirBytes : Type 0
RequestsByTheirBytes =
    (body : List ℕ) (q : Asked) → (request_of body ≡ Ok q → Asks body q) × (Asks body q → request_of body ≡ Ok q)

-- a body has the command of a request
abbrev pub HasCommand : List ℕ → Asked → Type 0
HasCommand body q = command_of body ≡ slice_index (naming q) 0

-- it has the command of a row, and behind it the sub command if the row has one
abbrev pub Under : List ℕ → (Row → ℕ) → Option Row → Type 0
Under body command o = IsSomeAnd o (λ r. (command_of body ≡ command r) × (has_sub (next_of body) r.sub ≡ true))

-- it has the command of a request and its sub command
abbrev pub HasName : List ℕ → Asked → Type 0
HasName body (read s) = Under body (λ r. r.read) (row_of s)
HasName body (write s bytes place) = Under body (λ r. r.write) (row_of s)
HasName body (vfo v) = (command_of body ≡ 0x07) × (next_of body ≡ slice_get (vfo_bytes v) 0)

-- the cause of each fault: no request has the command; one has it, but none has the sub command too; one has both, but the body asks for none
abbrev pub Caused : List ℕ → Fault → Type 0
Caused body UnknownCommand = (q : Asked) → Askable q → HasCommand body q → ⊥
Caused body UnknownSubCommand =
    ((q : Asked) × (Askable q × HasCommand body q)) × ((q : Asked) → Askable q → HasName body q → ⊥)
Caused body (WrongLength n) =
    (n ≡ length body) × ((q : Asked) × (Askable q × HasName body q)) × ((q : Asked) → Asks body q → ⊥)
Caused body (NotDigits place) = ⊥
Caused body (NotLawful place) = ⊥

-- a body has a fault just when that is caused; the faults of data are not looked for yet
abbrev pub FaultsByTheirCauses : Type 0
FaultsByTheirCauses =
    (body : List ℕ) (f : Fault) → (request_of body ≡ Err f → Caused body f) × (Caused body f → request_of body ≡ Err f)
