-- Stretches of a stream, their bodies, and the sound frames. Assumes nothing.
-- FE is the mark, FD the end, FC the jammer; FB and FA are a receiver's answers.
use Rattle.std.specs.Prelude.{◌≡◌, ℕ, Bool, true, false, not, if◌then◌else◌, ◌&&◌, ◌||◌, List, [], ◌∷◌, ◌++◌, map, length, filter, Some, None, Option, ◌==◌, ◌≢◌, nat_le, slice_index}
use Rattle.std.specs.List.{concat}
use Rattle.std.specs.Option.{option_or}
use Rattle.framing.specs.Lists.{All}

-- the stretches that an FD ends in some bytes, where `kept` came since the last FD before them
abbrev pub stretches : List ℕ → List ℕ → List (List ℕ)
stretches kept [] = []
stretches kept (b ∷ bs) = if b == 0xFD then kept ∷ stretches [] bs else stretches (kept ++ (b ∷ [])) bs

-- what follows the last FD, and waits for more
abbrev pub waiting : List ℕ → List ℕ → List ℕ
waiting kept [] = kept
waiting kept (b ∷ bs) = if b == 0xFD then waiting [] bs else waiting (kept ++ (b ∷ [])) bs

-- no FD is among the bytes
abbrev pub NoEnd : List ℕ → Type 0
NoEnd = All (λ b. b ≢ 0xFD)

-- a stream is its stretches, each with the FD that ends it, and then what waits
abbrev pub StretchesEndAtFd : Type 0
StretchesEndAtFd =
    (stream : List ℕ) →
    (stream ≡ concat (map (λ stretch. stretch ++ (0xFD ∷ [])) (stretches [] stream)) ++ waiting [] stream) ×
    All NoEnd (stretches [] stream) ×
    NoEnd (waiting [] stream)

-- no two adjacent FE
abbrev pub NoPair : List ℕ → Type 0
NoPair xs = (front back : List ℕ) → xs ≢ front ++ (0xFE ∷ 0xFE ∷ back)

-- the body of a stretch is what follows its last two adjacent FE
pub record IsBody (stretch body : List ℕ) : Type 0 where
  pub front : List ℕ
  pub stands : stretch ≡ front ++ (0xFE ∷ 0xFE ∷ body)
  pub last : NoPair (0xFE ∷ body)

-- the body of a stretch by a later pair, if there is one, else by a pair at its front
abbrev pub body_of : List ℕ → Option (List ℕ)
body_of [] = None
body_of (a ∷ []) = None
body_of (a ∷ b ∷ bs) = option_or (body_of (b ∷ bs)) (if a == 0xFE && b == 0xFE then Some bs else None)

-- that is the body after the last pair, and there is none only where there is no pair
abbrev pub BodiesFollowLastPairs : Type 0
BodiesFollowLastPairs =
    (stretch : List ℕ) →
    ((body : List ℕ) → body_of stretch ≡ Some body → IsBody stretch body) ×
    ((body : List ℕ) → IsBody stretch body → body_of stretch ≡ Some body) ×
    (body_of stretch ≡ None → NoPair stretch)

-- the sender of a frame, its second byte, and its command, the third
abbrev pub sender_of : List ℕ → ℕ
sender_of body = slice_index body 1

abbrev pub command_of : List ℕ → ℕ
command_of body = slice_index body 2

-- neither FC nor FE is among the bytes
abbrev pub clean : List ℕ → Bool
clean [] = true
clean (b ∷ bs) = not (b == 0xFC || b == 0xFE) && clean bs

-- controllers have the addresses E0 to EF
abbrev pub from_controller : List ℕ → Bool
from_controller body = nat_le 0xE0 (sender_of body) && nat_le (sender_of body) 0xEF

-- the command is FA or FB
abbrev pub is_answer : List ℕ → Bool
is_answer body = command_of body == 0xFA || command_of body == 0xFB

-- the body of a sound frame
abbrev pub sound : List ℕ → Bool
sound body =
    (nat_le 3 (length body) && nat_le (length body) 40) && (clean body && (from_controller body && not (is_answer body)))

-- the frame that a stretch holds, if it has a body and that is sound
abbrev pub frame_in : Option (List ℕ) → List (List ℕ)
frame_in None = []
frame_in (Some body) = if sound body then body ∷ [] else []

abbrev pub frames_in : List (List ℕ) → List (List ℕ)
frames_in [] = []
frames_in (s ∷ ss) = frame_in (body_of s) ++ frames_in ss

-- the sound frames of a stream, in order, each by its body
abbrev pub sound_frames : List ℕ → List (List ℕ)
sound_frames stream = frames_in (stretches [] stream)

-- the first byte of a frame is the address that it is for
abbrev pub is_for : ℕ → List ℕ → Bool
is_for address [] = false
is_for address (b ∷ bs) = b == address

abbrev pub frames_for : ℕ → List (List ℕ) → List (List ℕ)
frames_for address frames = filter (is_for address) frames
