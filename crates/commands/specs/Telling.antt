-- Instructions told from all bytes of a body, its data too. Assumes nothing.
use Rattle.std.specs.Prelude.{◌≡◌, ℕ, ◌+◌, true, false, List, ◌∷◌, ◌++◌, length, Ok, Err}
use Rattle.digits.specs.Bytes.{is_digit_byte}
use Rattle.digits.specs.Fields.{AllDigits, number_of}
use Rattle.commands.specs.declared.settings.Setting.{Setting}
use Rattle.commands.specs.declared.faults.Fault.{Fault}
use Rattle.commands.specs.declared.faults.Fault.TheVariants.{UnknownCommand, UnknownSubCommand, WrongLength, NotDigits, NotLawful}
use Rattle.commands.specs.declared.instructions.Instruction.{Instruction}
use Rattle.commands.specs.declared.instructions.Instruction.TheVariants.{Read, Write, Vfo}
use Rattle.commands.specs.Settings.{lawful}
use Rattle.commands.specs.Requests.{read, write, vfo}
use Rattle.commands.specs.Instructions.{order_of, completed, instruction_of}
use Rattle.commands.specs.Asking.{Asks, Caused}

-- a body that asks for a writing
pub record AsksToWrite (body : List ℕ) : Type 0 where
  pub setting : Setting
  pub bytes : List ℕ
  pub place : ℕ
  pub asks : Asks body (write setting bytes place)

-- the number that its data name
abbrev pub number_named : {body : List ℕ} → AsksToWrite body → ℕ
number_named w = completed w.setting (length w.bytes) (number_of (order_of w.setting) w.bytes)

-- the first byte that is no digit byte has so many before it
pub record FirstStray (bytes : List ℕ) (k : ℕ) : Type 0 where
  pub front : List ℕ
  pub stray : ℕ
  pub back : List ℕ
  pub stands : bytes ≡ front ++ (stray ∷ back)
  pub digits : AllDigits front
  pub none : is_digit_byte stray ≡ false
  pub place : length front ≡ k

-- a body tells a receiver to do what it asks for, where the data of a writing are digit bytes that name a lawful number
abbrev pub Tells : List ℕ → Instruction → Type 0
Tells body (Read s) = Asks body (read s)
Tells body (Write s n) =
    (w : AsksToWrite body) ×
    ((w.setting ≡ s) × AllDigits w.bytes × (number_named w ≡ n) × (lawful s.number n ≡ true))
Tells body (Vfo v) = Asks body (vfo v)

-- the cause of each fault, of those that the data can have too
abbrev pub Faulted : List ℕ → Fault → Type 0
Faulted body UnknownCommand = Caused body UnknownCommand
Faulted body UnknownSubCommand = Caused body UnknownSubCommand
Faulted body (WrongLength n) = Caused body (WrongLength n)
Faulted body (NotDigits place) = (w : AsksToWrite body) × ((k : ℕ) × (FirstStray w.bytes k × (place ≡ w.place + k)))
Faulted body (NotLawful place) =
    (w : AsksToWrite body) ×
    (AllDigits w.bytes × (lawful w.setting.number (number_named w) ≡ false) × (place ≡ w.place))

-- a body is decoded as an instruction just when it tells that, and under a fault just when that is caused
abbrev pub DecodedByTheBytes : Type 0
DecodedByTheBytes =
    (body : List ℕ) →
    ((i : Instruction) → (instruction_of body ≡ Ok i → Tells body i) × (Tells body i → instruction_of body ≡ Ok i)) ×
    ((f : Fault) → (instruction_of body ≡ Err f → Faulted body f) × (Faulted body f → instruction_of body ≡ Err f))
