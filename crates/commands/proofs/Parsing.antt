-- A body taken apart. Assumes nothing.
use Rattle.std.proofs.Common.{◌≡◌, ℕ, ◌+◌, ◌<◌, ◌≤◌, true, List, [], ◌∷◌, length, Some, None, Err, Option, sym, refl, arith}
use Rattle.std.specs.Prelude.{slice_get}
use Rattle.std.specs.Option.{option_to_list}
use Rattle.std.proofs.lemmas.Option.{slice_get_within}
use Rattle.std.proofs.lemmas.Bool.{and_parts}
use Rattle.framing.specs.Frames.{command_of}
use Rattle.commands.specs.declared.rows.Row.{Row}
use Rattle.commands.specs.declared.faults.Fault.TheVariants.{UnknownCommand}
use Rattle.commands.specs.Rows.{rows, row_for, has_command, has_sub}
use Rattle.commands.specs.Requests.{request_of, next_of, data_place}
use Rattle.commands.proofs.Searching.{found}

-- a sub command is one byte at most
pub sub_short : (sub : Option ℕ) → length (option_to_list sub) ≤ 1
sub_short None = omega arith
sub_short (Some k) = omega arith

-- the data of a row that a body is for begin within the body

sub_within : (sub : Option ℕ) (body : List ℕ) → 3 ≤ length body → has_sub (slice_get body 3) sub ≡ true → 3 + length (option_to_list sub) ≤ length body
sub_within None body h e = omega arith
sub_within (Some k) body h e = go (slice_get body 3) refl e
  where
    go : (o : Option ℕ) → slice_get body 3 ≡ o → has_sub o (Some k) ≡ true → 4 ≤ length body
    go None f g = absurd (grind arith)
    go (Some b) f g = omega (arith, slice_get_within body 3 b f)

pub data_within : (r : Row) (body : List ℕ) → 3 ≤ length body → Some r ≡ row_for (command_of body) (next_of body) → data_place r ≤ length body
data_within r body h e =
    let asked = (found _ rows r (sym e)).0 in
    sub_within r.sub body h (and_parts (has_command (command_of body) r) (has_sub (next_of body) r.sub) asked).1

-- a body without a command
pub too_short : (body : List ℕ) → length body < 3 → Err UnknownCommand ≡ request_of body
unfolding request_of rows
too_short [] h = refl
too_short (a ∷ []) h = refl
too_short (a ∷ b ∷ []) h = refl
too_short (a ∷ b ∷ c ∷ body) h = absurd (omega arith)
