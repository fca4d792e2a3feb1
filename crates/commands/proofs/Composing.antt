-- The bytes of an answer, put together. Assumes nothing.
use Rattle.std.proofs.Common.{◌≡◌, ℕ, ◌^◌, ◌<◌, ◌≤◌, Bool, true, false, cond, ltb, List, [], ◌∷◌, ◌++◌, length, Some, None, Ok, Err, Option, Result, refl, ap, arith, length-append}
use Rattle.std.proofs.lemmas.Bool.{ltb-true}
use Rattle.digits.specs.Fields.{field_of}
use Rattle.digits.proofs.Fields.{field_is_one}
use Rattle.commands.specs.declared.settings.Setting.{Setting}
use Rattle.commands.specs.declared.rows.Row.{Row}
use Rattle.commands.specs.declared.answers.Answer.{Answer}
use Rattle.commands.specs.declared.answers.Answer.TheVariants.{Done, Failed, Number}
use Rattle.commands.specs.declared.answers.Unanswerable.{Unanswerable}
use Rattle.commands.specs.declared.answers.Unanswerable.TheVariants.{DoesNotFit}
use Rattle.commands.specs.Rows.{row_of, read_bytes}
use Rattle.commands.specs.Answers.{number_bytes, answer_bytes, front, framed, ShortReplies}
use Rattle.commands.proofs.Parsing.{sub_short}
use Rattle.commands.proofs.Tabled.{Tabled, found_tabled}

-- the bytes that tell a number: the name of a row of the table, and the number's field
pub record NumberBytes (n : ℕ) (ws : List ℕ) : Type 0 where
  pub row : Row
  pub tabled : Tabled row
  pub fits : n < 100 ^ row.bytes
  pub are : ws ≡ read_bytes row ++ field_of row.order row.bytes n

row_told : (r : Row) (n : ℕ) (ws : List ℕ) (b : Bool) → Tabled r → ltb n (100 ^ r.bytes) ≡ b →
    ◌≡◌ {A = Result (List ℕ) Unanswerable} (cond b (Ok (read_bytes r ++ field_of r.order r.bytes n)) (Err DoesNotFit)) (Ok ws) → NumberBytes n ws
row_told r n ws true z h e = record { row = r; tabled = z; fits = ltb-true n (100 ^ r.bytes) h; are = cc }
row_told r n ws false z h e = absurd (grind arith)

pub number_told : (s : Setting) (n : ℕ) (ws : List ℕ) → answer_bytes (Number s n) ≡ Ok ws → NumberBytes n ws
number_told s n ws e = go (row_of s) refl e
  where
    go : (o : Option Row) → row_of s ≡ o → number_bytes o n ≡ Ok ws → NumberBytes n ws
    go None f e = absurd (grind arith)
    go (Some r) f e = row_told r n ws (ltb n (100 ^ r.bytes)) (found_tabled _ r f) refl e

-- an answer has at most seven bytes
pub answer_short : (answer : Answer) (ws : List ℕ) → answer_bytes answer ≡ Ok ws → length ws ≤ 7
answer_short Done ws e = let same : 0xFB ∷ [] ≡ ws = cc in omega (arith, ap length same)
answer_short Failed ws e = let same : 0xFA ∷ [] ≡ ws = cc in omega (arith, ap length same)
answer_short (Number s n) ws e =
    let t = number_told s n ws e in
    let r = t.row in
    omega (
      arith,
      ap length t.are,
      length-append (read_bytes r) (field_of r.order r.bytes n),
      sub_short r.sub,
      (field_is_one r.order r.bytes n t.fits).long,
      t.tabled.most,
    )

pub short_replies : ShortReplies
short_replies to from answer bytes e = go (answer_bytes answer) refl e
  where
    go : (w : Result (List ℕ) Unanswerable) → answer_bytes answer ≡ w → framed to from w ≡ Ok bytes → length bytes ≤ 16
    go (Ok ws) f e =
        let same : front to from ++ ws ++ (0xFD ∷ []) ≡ bytes = cc in
        omega (arith, ap length same, length-append ws (0xFD ∷ []), answer_short answer ws f)
    go (Err x) f e = absurd (grind arith)
