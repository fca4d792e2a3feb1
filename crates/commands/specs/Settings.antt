-- The fifteen settings, by their numbers, and the numbers that are lawful for each. Assumes nothing.
use Rattle.std.specs.Prelude.{◌≡◌, ℕ, ◌/◌, ◌%◌, ◌<◌, Bool, false, ◌&&◌, ◌||◌, List, [], ◌∷◌, ◌==◌, nat_le, slice_index_or}
use Rattle.std.specs.List.{list_any}

-- a number from one number up to another
abbrev pub between : ℕ → ℕ → ℕ → Bool
between low high n = nat_le low n && nat_le n high

-- a number up to another
abbrev pub upto : ℕ → ℕ → Bool
upto high n = nat_le n high

-- one of some numbers
abbrev pub among : List ℕ → ℕ → Bool
among ms n = list_any (λ m. n == m) ms

-- the modes that there are
abbrev pub is_mode : ℕ → Bool
is_mode m = upto 8 m || among (11 ∷ 14 ∷ 15 ∷ []) m

-- 100 × mode + filter, with a filter from 1 to 3
abbrev pub mode_with_filter : ℕ → Bool
mode_with_filter n = is_mode (n / 100) && between 1 3 (n % 100)

-- the attenuations that there are, in dB
abbrev pub attenuation : ℕ → Bool
attenuation n = among (0 ∷ 10 ∷ 20 ∷ 30 ∷ []) n

-- the lawful numbers of each setting, by its number
abbrev pub lawful_numbers : List (ℕ → Bool)
lawful_numbers =
    upto 9999999999 ∷  -- 0 frequency, in Hz
    mode_with_filter ∷  -- 1 mode
    upto 999999 ∷  -- 2 offset, in 100 Hz
    between 10 12 ∷  -- 3 duplex
    upto 14 ∷  -- 4 tuning step
    attenuation ∷  -- 5 attenuator
    upto 2 ∷  -- 6 antenna
    upto 255 ∷  -- 7 AF gain
    upto 255 ∷  -- 8 RF gain
    upto 255 ∷  -- 9 squelch
    upto 255 ∷  -- 10 NR level
    upto 1 ∷  -- 11 preamp
    between 1 3 ∷  -- 12 AGC
    upto 1 ∷  -- 13 noise blanker
    upto 1 ∷  -- 14 noise reduction
    []

-- a number is lawful for a setting
unfoldable pub lawful : ℕ → ℕ → Bool
lawful s n = slice_index_or lawful_numbers s (λ m. false) n

-- no number is lawful for a setting above 14
abbrev pub NoneAbove14 : Type 0
NoneAbove14 = (s n : ℕ) → 14 < s → lawful s n ≡ false
