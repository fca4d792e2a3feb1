-- The framing machine: what it remembers of a stretch, and which frames it gives. Assumes nothing.
use Rattle.std.specs.Prelude.{◌≡◌, ℕ, Bool, true, false, not, if◌then◌else◌, ◌&&◌, ◌||◌, List, [], ◌∷◌, ◌++◌, length, ◌==◌, nat_le}
use Rattle.framing.specs.declared.framer.State.{State}
use Rattle.framing.specs.declared.framer.State.TheVariants.{Preamble, Body, Void}
use Rattle.std.specs.List.{concat}
use Rattle.framing.specs.Frames.{from_controller, is_answer, sound_frames}

-- where the machine stands, and the body that it gathered last
pub record Machine : Type 0 where
  pub state : State
  pub held : List ℕ

abbrev pub at : State → List ℕ → Machine
at s held = record { state = s; held = held }

-- at the start of a stream
abbrev pub fresh : Machine
fresh = at (Preamble false) []

-- an FE: the second in a row begins a body, and one inside a body spoils it
abbrev pub marked : State → List ℕ → Machine
marked (Preamble false) held = at (Preamble true) held
marked (Preamble true) held = at Body []
marked Body [] = at Body []
marked Body (b ∷ bs) = at (Void true) (b ∷ bs)
marked (Void false) held = at (Void true) held
marked (Void true) held = at Body []

-- a byte that is neither FD nor FE: an FC spoils a body, and so does a byte after 40
abbrev pub grown : State → List ℕ → ℕ → Machine
grown (Preamble m) held b = at (Preamble false) held
grown Body held b = if b == 0xFC || nat_le 40 (length held) then at (Void false) held else at Body (held ++ (b ∷ []))
grown (Void m) held b = at (Void false) held

-- the machine after a byte
abbrev pub stepped : Machine → ℕ → Machine
stepped m b =
    if b == 0xFD then at (Preamble false) m.held else if b == 0xFE then marked m.state m.held else grown m.state m.held b

-- the rules that are left to the end of a body
abbrev pub complete : List ℕ → Bool
complete body = nat_le 3 (length body) && (from_controller body && not (is_answer body))

abbrev pub in_body : State → Bool
in_body (Preamble m) = false
in_body Body = true
in_body (Void m) = false

-- a sound frame ends with the byte
abbrev pub ends_frame : Machine → ℕ → Bool
ends_frame m b = b == 0xFD && (in_body m.state && complete m.held)

-- the frames that the machine gives over a piece of the stream, each by the body that it then holds
abbrev pub gives : Machine → List ℕ → List (List ℕ)
gives m [] = []
gives m (b ∷ bs) = if ends_frame m b then (stepped m b).held ∷ gives (stepped m b) bs else gives (stepped m b) bs

-- the machine after a piece
abbrev pub leaves : Machine → List ℕ → Machine
leaves m [] = m
leaves m (b ∷ bs) = leaves (stepped m b) bs

-- the frames that it gives over pieces, one after the other
abbrev pub gives_over : Machine → List (List ℕ) → List (List ℕ)
gives_over m [] = []
gives_over m (p ∷ ps) = gives m p ++ gives_over (leaves m p) ps

-- however a stream is cut, the machine gives just its sound frames, in order
abbrev pub GivesSoundFrames : Type 0
GivesSoundFrames = (pieces : List (List ℕ)) → gives_over fresh pieces ≡ sound_frames (concat pieces)
