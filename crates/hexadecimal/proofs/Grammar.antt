-- A text is read by the rules. Assumes nothing.
use Rattle.std.proofs.Common.{◌≡◌, ℕ, ◌+◌, ◌*◌, ◌⊎◌, List, [], ◌∷◌, ◌++◌, Some, None, Option, sym, refl, ap, subst, inl, inr, ◌≢◌}
use Rattle.std.proofs.lemmas.List.Elements.{All-nil, All-cons, All-head, All-tail}
use Rattle.hexadecimal.specs.declared.symbols.Symbol.{Symbol}
use Rattle.hexadecimal.specs.declared.symbols.Symbol.TheVariants.{Digit, Blank, LineEnd, Hash, Other}
use Rattle.hexadecimal.specs.declared.reader.Standing.{Standing}
use Rattle.hexadecimal.specs.declared.reader.Standing.TheVariants.{Between, Half, Remark}
use Rattle.hexadecimal.specs.declared.reader.Step.{Step}
use Rattle.hexadecimal.specs.declared.reader.Step.TheVariants.{Onward, Pair}
use Rattle.hexadecimal.specs.Symbols.{symbol_of}
use Rattle.hexadecimal.specs.Texts.{advanced}
use Rattle.hexadecimal.specs.Grammar.{OneLine, Spells, nothing, pair, blank, remark, last_remark}

-- what no character of a line is
abbrev pub NoLineEnd : ℕ → Type 0
NoLineEnd c = symbol_of c ≢ LineEnd

-- the rest of a text after the first digit of a pair
pub record HalfRead (h : ℕ) (text bytes : List ℕ) : Type 0 where
  pub second : ℕ
  pub digit : ℕ
  pub rest : List ℕ
  pub others : List ℕ
  pub is : text ≡ second ∷ rest
  pub shows : symbol_of second ≡ Digit digit
  pub gives : bytes ≡ (16 * h + digit) ∷ others
  pub spells : Spells rest others

-- the rest of a text in a remark that a line end closes
pub record Closed (text bytes : List ℕ) : Type 0 where
  pub skipped : List ℕ
  pub end : ℕ
  pub rest : List ℕ
  pub is : text ≡ skipped ++ (end ∷ rest)
  pub one_line : OneLine skipped
  pub ends : symbol_of end ≡ LineEnd
  pub spells : Spells rest bytes

-- the rest of a text, from where the reader stands
abbrev pub Left : Standing → List ℕ → List ℕ → Type 0
Left Between text bytes = Spells text bytes
Left (Half h) text bytes = HalfRead h text bytes
Left Remark text bytes = (OneLine text × (bytes ≡ [])) ⊎ Closed text bytes

-- the same after a step
abbrev pub After : Option Step → List ℕ → List ℕ → Type 0
After (Some (Onward s)) text bytes = Left s text bytes
After (Some (Pair b)) text bytes = (others : List ℕ) × (bytes ≡ b ∷ others) × Spells text others
After None text bytes = ⊥

half_pair : (h c : ℕ) (text bytes : List ℕ) → symbol_of c ≡ Digit h → HalfRead h text bytes → Spells (c ∷ text) bytes
half_pair h c text bytes e r =
    subst (λ t. Spells (c ∷ t) bytes) (sym r.is) (subst (λ b. Spells (c ∷ r.second ∷ r.rest) b) (sym r.gives) (pair c r.second h r.digit r.rest r.others e r.shows r.spells))

hash_remark : (c : ℕ) (text bytes : List ℕ) → symbol_of c ≡ Hash → Left Remark text bytes → Spells (c ∷ text) bytes
hash_remark c text bytes e (inl r) = subst (λ b. Spells (c ∷ text) b) (sym r.1) (last_remark c text e r.0)
hash_remark c text bytes e (inr r) = subst (λ t. Spells (c ∷ t) bytes) (sym r.is) (remark c r.end r.skipped r.rest bytes e r.one_line r.ends r.spells)

skip_more : (c : ℕ) (text bytes : List ℕ) → (symbol_of c ≡ LineEnd → ⊥) → Left Remark text bytes → Left Remark (c ∷ text) bytes
skip_more c text bytes n (inl r) = inl (All-cons NoLineEnd c text n r.0, r.1)
skip_more c text bytes n (inr r) =
    inr (record { skipped = c ∷ r.skipped; end = r.end; rest = r.rest; is = ap (λ t. c ∷ t) r.is; one_line = All-cons NoLineEnd c r.skipped n r.one_line; ends = r.ends; spells = r.spells })

-- a character in front of a rest
pub derive : (s : Standing) (m : Symbol) (c : ℕ) (text bytes : List ℕ) → symbol_of c ≡ m → After (advanced s m) text bytes → Left s (c ∷ text) bytes
derive Between (Digit d) c text bytes e r = half_pair d c text bytes e r
derive Between Blank c text bytes e r = blank c text bytes (inl e) r
derive Between LineEnd c text bytes e r = blank c text bytes (inr e) r
derive Between Hash c text bytes e r = hash_remark c text bytes e r
derive Between Other c text bytes e r = absurd r
derive (Half h) (Digit d) c text bytes e r =
    record { second = c; digit = d; rest = text; others = r.0; is = refl; shows = e; gives = r.1; spells = r.2 }
derive (Half h) Blank c text bytes e r = absurd r
derive (Half h) LineEnd c text bytes e r = absurd r
derive (Half h) Hash c text bytes e r = absurd r
derive (Half h) Other c text bytes e r = absurd r
derive Remark (Digit d) c text bytes e r = skip_more c text bytes (λ l. cc) r
derive Remark Blank c text bytes e r = skip_more c text bytes (λ l. cc) r
derive Remark LineEnd c text bytes e r =
    inr (record { skipped = []; end = c; rest = text; is = refl; one_line = All-nil NoLineEnd; ends = e; spells = r })
derive Remark Hash c text bytes e r = skip_more c text bytes (λ l. cc) r
derive Remark Other c text bytes e r = skip_more c text bytes (λ l. cc) r

-- and the other way round: what a text of the grammar has after its first character
abbrev pub Next : List ℕ → List ℕ → Type 0
Next [] bytes = bytes ≡ []
Next (c ∷ text) bytes = After (advanced Between (symbol_of c)) text bytes

by_symbol : (s : Standing) (c : ℕ) (m : Symbol) (text bytes : List ℕ) → symbol_of c ≡ m → After (advanced s m) text bytes → After (advanced s (symbol_of c)) text bytes
by_symbol s c m text bytes e r = subst (λ n. After (advanced s n) text bytes) (sym e) r

pub next : (text bytes : List ℕ) → Spells text bytes → Next text bytes
next text bytes nothing = refl
next text bytes (pair c e h l rest others f g r) =
    by_symbol Between c (Digit h) (e ∷ rest) _ f
    (record { second = e; digit = l; rest = rest; others = others; is = refl; shows = g; gives = refl; spells = r })
next text bytes (blank c rest others (inl f) r) = by_symbol Between c Blank rest others f r
next text bytes (blank c rest others (inr f) r) = by_symbol Between c LineEnd rest others f r
next text bytes (remark c e skipped rest others f o g r) =
    by_symbol Between c Hash (skipped ++ (e ∷ rest)) others f
    (inr (record { skipped = skipped; end = e; rest = rest; is = refl; one_line = o; ends = g; spells = r }))
next text bytes (last_remark c skipped f o) = by_symbol Between c Hash skipped [] f (inl (o, refl))

stays_remark : (m : Symbol) (text bytes : List ℕ) → (m ≡ LineEnd → ⊥) → Left Remark text bytes → After (advanced Remark m) text bytes
stays_remark (Digit d) text bytes n r = r
stays_remark Blank text bytes n r = r
stays_remark LineEnd text bytes n r = absurd (n refl)
stays_remark Hash text bytes n r = r
stays_remark Other text bytes n r = r

closed : (c : ℕ) (text bytes skipped : List ℕ) (end : ℕ) (rest : List ℕ) → c ∷ text ≡ skipped ++ (end ∷ rest) → OneLine skipped → symbol_of end ≡ LineEnd → Spells rest bytes → After (advanced Remark (symbol_of c)) text bytes
closed c text bytes [] end rest e o l r =
    let same : rest ≡ text = cc in
    by_symbol Remark c LineEnd text bytes (cc) (subst (λ t. Spells t bytes) same r)
closed c text bytes (x ∷ xs) end rest e o l r =
    stays_remark (symbol_of c) text bytes (λ q. All-head NoLineEnd x xs o cc)
    (inr (record { skipped = xs; end = end; rest = rest; is = cc; one_line = All-tail NoLineEnd x xs o; ends = l; spells = r }))

pub inverse : (s : Standing) (c : ℕ) (text bytes : List ℕ) → Left s (c ∷ text) bytes → After (advanced s (symbol_of c)) text bytes
inverse Between c text bytes r = next (c ∷ text) bytes r
inverse (Half h) c text bytes r =
    let same : r.rest ≡ text = cc in
    by_symbol (Half h) c (Digit r.digit) text bytes (cc) (r.others, r.gives, subst (λ t. Spells t r.others) same r.spells)
inverse Remark c text bytes (inl r) = stays_remark (symbol_of c) text bytes (All-head NoLineEnd c text r.0) (inl (All-tail NoLineEnd c text r.0, r.1))
inverse Remark c text bytes (inr r) = closed c text bytes r.skipped r.end r.rest r.is r.one_line r.ends r.spells
