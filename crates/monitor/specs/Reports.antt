-- What the monitor prints of a text. Assumes nothing.
use Rattle.std.specs.Prelude.{◌≡◌, ℕ, Bool, true, false, List, [], ◌∷◌, ◌++◌, length, Ok, Err, codes, decimal}
use Rattle.std.specs.List.{flat_map}
use Rattle.framing.specs.Frames.{sound_frames}
use Rattle.hexadecimal.specs.Lines.{line}
use Rattle.monitor.specs.declared.report.Given.{Given}
use Rattle.monitor.specs.declared.report.Given.TheVariants.{Whole, Cut}
use Rattle.hexadecimal.specs.Texts.{Reading, text_reading, overlong}

-- the characters that are given, and whether the text goes on behind them
abbrev pub characters : Given → List ℕ
characters (Whole text) = text.now
characters (Cut text) = text.now

abbrev pub goes_on : Given → Bool
goes_on (Whole text) = false
goes_on (Cut text) = true

-- a word with a space after it, a number, and LF
abbrev pub count_line : List ℕ → ℕ → List ℕ
count_line word n = word ++ (decimal n ++ (10 ∷ []))

-- a line for each frame
abbrev pub frame_lines : List (List ℕ) → List ℕ
frame_lines frames = flat_map line frames

-- the frames, and how many there are
abbrev pub listing : List (List ℕ) → List ℕ
listing frames = frame_lines frames ++ count_line (codes "frames ") (length frames)

abbrev pub report_of : Reading → List ℕ
report_of (Ok bytes) = listing (sound_frames bytes)
report_of (Err bad) = count_line (codes "BAD ") bad.position

-- the report of a whole text
abbrev pub text_report : List ℕ → List ℕ
text_report text = report_of (text_reading text)

-- the reading of a whole text, and of 4,096 characters after which it goes on
abbrev pub reading_of : Given → Reading
reading_of (Whole text) = text_reading text.now
reading_of (Cut text) = Err (overlong (text_reading text.now))

-- a page that reports the text that was given, whatever follows where it is cut
abbrev pub Reports : Given → List ℕ → Type 0
Reports (Whole text) page = page ≡ text_report text.now
Reports (Cut text) page = length text.now ≡ 4096 → (c : ℕ) (more : List ℕ) → page ≡ text_report (text.now ++ (c ∷ more))
