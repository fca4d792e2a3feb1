-- What the bytes of a reply tell. Assumes nothing.
use Rattle.std.proofs.Common.{◌≡◌, ℕ, ◌≤◌, List, [], ◌∷◌, ◌++◌, get_or, Ok, Err, Result, sym, refl, ap, subst, arith}
use Rattle.std.proofs.lemmas.List.Elements.{All-head}
use Rattle.digits.specs.Fields.{field_of}
use Rattle.digits.proofs.Fields.{field_is_one}
use Rattle.framing.specs.Frames.{NoEnd}
use Rattle.commands.specs.declared.answers.Answer.{Answer}
use Rattle.commands.specs.declared.answers.Answer.TheVariants.{Done, Failed, Number}
use Rattle.commands.specs.declared.answers.Unanswerable.{Unanswerable}
use Rattle.commands.specs.Rows.{read_bytes}
use Rattle.commands.specs.Answers.{answer_bytes, front, framed, Says, Told, RepliesTell}
use Rattle.commands.proofs.Composing.{number_told}
use Rattle.commands.proofs.Tabled.{Small}
use Rattle.commands.proofs.Quiet.{named_field_quiet, quiet_no_end}

-- the bytes of an answer: none is FD, and the first says which answer it is
pub record Fair (answer : Answer) (bytes : List ℕ) : Type 0 where
  pub no_end : NoEnd bytes
  pub says : (rest : List ℕ) → Says answer (get_or (bytes ++ rest) 0 0)

one_fair : (answer : Answer) (b : ℕ) (ws : List ℕ) → (b ≡ 0xFD → ⊥) → Says answer b → b ∷ [] ≡ ws → Fair answer ws
one_fair answer b ws n s same = subst (Fair answer) same (record { no_end = (n, tt); says = λ rest. s })

fair : (answer : Answer) (ws : List ℕ) → answer_bytes answer ≡ Ok ws → Fair answer ws
fair Done ws e = one_fair Done 0xFB ws (λ h. omega arith) refl (let same : 0xFB ∷ [] ≡ ws = cc in same)
fair Failed ws e = one_fair Failed 0xFA ws (λ h. omega arith) refl (let same : 0xFA ∷ [] ≡ ws = cc in same)
fair (Number s n) ws e =
    let t = number_told s n ws e in
    let r = t.row in
    let field = field_of r.order r.bytes n in
    let small : r.read ≤ 0x99 = All-head Small r.read _ t.tabled.read_small in
    subst (Fair (Number s n)) (sym t.are)
    (record {
      no_end =
          quiet_no_end (read_bytes r ++ field)
          (named_field_quiet (read_bytes r) field t.tabled.read_small (field_is_one r.order r.bytes n t.fits).digits);
      says = λ rest. (λ x. omega arith, λ x. omega arith);
    })

pub replies_tell : RepliesTell
replies_tell to from answer bytes e = go (answer_bytes answer) refl e
  where
    go : (w : Result (List ℕ) Unanswerable) → answer_bytes answer ≡ w → framed to from w ≡ Ok bytes → Told to from answer bytes
    go (Ok ws) f e =
        let same : front to from ++ ws ++ (0xFD ∷ []) ≡ bytes = cc in
        let ok = fair answer ws f in
        record {
          inner = front to from ++ ws;
          ends = sym same;
          goes_to = ap (λ xs. get_or xs 2 0) (sym same);
          comes_from = ap (λ xs. get_or xs 3 0) (sym same);
          says = subst (λ xs. Says answer (get_or xs 4 0)) same (ok.says (0xFD ∷ []));
          once = λ h k.
              (λ x. omega arith, (λ x. omega arith, (h, (k, ok.no_end))));
        }
    go (Err x) f e = absurd (grind arith)
