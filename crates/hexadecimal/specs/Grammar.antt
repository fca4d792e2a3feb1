-- The rules for a text, as a grammar, and that a text is read by them. Assumes nothing.
use Rattle.std.specs.Prelude.{◌≡◌, ℕ, ◌+◌, ◌*◌, ◌<◌, ◌≤◌, ◌⊎◌, List, [], ◌∷◌, ◌++◌, length, take, Ok, ◌≢◌}
use Rattle.std.specs.List.{All}
use Rattle.hexadecimal.specs.declared.symbols.Symbol.TheVariants.{Digit, Blank, LineEnd, Hash}
use Rattle.hexadecimal.specs.Symbols.{symbol_of}
use Rattle.hexadecimal.specs.Texts.{text_reading, bad}

-- no CR or LF is among the characters
abbrev pub OneLine : List ℕ → Type 0
OneLine text = All (λ c. symbol_of c ≢ LineEnd) text

-- a text of some bytes, of any length: pairs of digits, and between pairs blanks, line ends, and remarks
-- that run from a # to a line end or to the end of the text
pub data Spells : List ℕ → List ℕ → Type 0 where
  nothing : Spells [] []
  pair : (c e h l : ℕ) (text bytes : List ℕ) → symbol_of c ≡ Digit h → symbol_of e ≡ Digit l → Spells text bytes → Spells (c ∷ e ∷ text) ((16 * h + l) ∷ bytes)
  blank : (c : ℕ) (text bytes : List ℕ) → (symbol_of c ≡ Blank) ⊎ (symbol_of c ≡ LineEnd) → Spells text bytes → Spells (c ∷ text) bytes
  remark : (c e : ℕ) (skipped text bytes : List ℕ) → symbol_of c ≡ Hash → OneLine skipped → symbol_of e ≡ LineEnd → Spells text bytes → Spells (c ∷ (skipped ++ (e ∷ text))) bytes
  last_remark : (c : ℕ) (skipped : List ℕ) → symbol_of c ≡ Hash → OneLine skipped → Spells (c ∷ skipped) []

-- some text of the grammar begins with these characters
abbrev pub CanGoOn : List ℕ → Type 0
CanGoOn front = (more bytes : List ℕ) × Spells (front ++ more) bytes

-- the first fault of a text: up to there it could be the beginning of a good text, and then it is too
-- long, or it ends though it is no text, or its next character belongs to no text
pub record FirstFault (text : List ℕ) (p : ℕ) : Type 0 where
  pub begins : CanGoOn (take p text)
  pub breaks : ((p ≡ 4096) × (4096 < length text)) ⊎ (((p ≡ length text) × ((bytes : List ℕ) → Spells text bytes → ⊥)) ⊎ ((p < length text) × (CanGoOn (take (p + 1) text) → ⊥)))

-- a text is read as its bytes just when it is in the grammar and has at most 4,096 characters, and else
-- the position told is that of its first fault
abbrev pub ReadsByRules : Type 0
ReadsByRules =
    (text : List ℕ) →
    ((bytes : List ℕ) → text_reading text ≡ Ok bytes → Spells text bytes × (length text ≤ 4096)) ×
    ((bytes : List ℕ) → Spells text bytes → length text ≤ 4096 → text_reading text ≡ Ok bytes) ×
    ((p : ℕ) → text_reading text ≡ bad p → FirstFault text p)
