-- What the monitor prints fits a page: lines are at most three times as long as the stream. Assumes nothing.
use Rattle.std.proofs.Common.{◌≡◌, ℕ, ◌+◌, ◌*◌, ◌^◌, ◌<◌, ◌≤◌, true, false, cond, eqb, List, [], ◌∷◌, ◌++◌, length, Some, None, codes, decimal, Option, refl, ap, ◌∙◌, arith, length-append}
use Rattle.std.proofs.lemmas.Fmt.{length-decimal-le}
use Rattle.std.proofs.lemmas.List.Concat.{flat_map-append}
use Rattle.framing.specs.Frames.{stretches, body_of, IsBody, frame_in, frames_in, sound, sound_frames}
use Rattle.framing.proofs.Bodies.{bodies_follow_last_pairs}
use Rattle.hexadecimal.specs.Lines.{line}
use Rattle.monitor.specs.Reports.{frame_lines, count_line, listing}

line_length : (bs : List ℕ) → length (line bs) ≤ 3 * length bs + 1
line_length [] = omega arith
line_length (b ∷ []) = omega arith
line_length (b ∷ c ∷ cs) = omega (arith, line_length (c ∷ cs))

-- a body leaves out the pair before it, at least
stretch_length : (s : List ℕ) → length (frame_lines (frame_in (body_of s))) ≤ 3 * length s
stretch_length s = go (body_of s) (bodies_follow_last_pairs s).0
  where
    go : (o : Option (List ℕ)) → ((t : List ℕ) → o ≡ Some t → IsBody s t) → length (frame_lines (frame_in o)) ≤ 3 * length s
    go None h = omega arith
    go (Some t) h =
        let b = h t refl in
        let l = ap length b.stands ∙ length-append b.front (0xFE ∷ 0xFE ∷ t) in
        elim (sound t) as (λ u. length (frame_lines (cond u (t ∷ []) [])) ≤ 3 * length s)
        [ true ↦ omega (arith, line_length t, length-append (line t) []) | false ↦ omega arith ]

stretches_length : (kept bs : List ℕ) → length (frame_lines (frames_in (stretches kept bs))) ≤ 3 * (length kept + length bs)
stretches_length kept [] = omega arith
stretches_length kept (b ∷ bs) =
    elim (eqb b 0xFD) as (λ t. length (frame_lines (frames_in (cond t (kept ∷ stretches [] bs) (stretches (kept ++ (b ∷ [])) bs)))) ≤ 3 * (length kept + length (b ∷ bs))) [
      | true ↦ omega (
        arith,
        stretch_length kept,
        stretches_length [] bs,
        ap length (flat_map-append line (frame_in (body_of kept)) (frames_in (stretches [] bs))),
        length-append (frame_lines (frame_in (body_of kept))) (frame_lines (frames_in (stretches [] bs))),
      )
      | false ↦ omega (arith, stretches_length (kept ++ (b ∷ [])) bs, length-append kept (b ∷ []))
    ]

-- at most one frame for each FD
frame_few : (o : Option (List ℕ)) → length (frame_in o) ≤ 1
frame_few None = omega arith
frame_few (Some t) = elim (sound t) as (λ u. length (cond u (t ∷ []) []) ≤ 1) [ true ↦ omega arith | false ↦ omega arith ]

frames_few : (kept bs : List ℕ) → length (frames_in (stretches kept bs)) ≤ length bs
frames_few kept [] = omega arith
frames_few kept (b ∷ bs) =
    elim (eqb b 0xFD) as (λ t. length (frames_in (cond t (kept ∷ stretches [] bs) (stretches (kept ++ (b ∷ [])) bs))) ≤ length (b ∷ bs)) [
      | true ↦ omega (arith, frame_few (body_of kept), frames_few [] bs, length-append (frame_in (body_of kept)) (frames_in (stretches [] bs)))
      | false ↦ omega (arith, frames_few (kept ++ (b ∷ [])) bs)
    ]

count_length : (word : List ℕ) (n : ℕ) → n < 2 ^ 64 → length (count_line word n) ≤ length word + 21
count_length word n h =
    omega (
      arith,
      length-decimal-le 20 n (omega arith) (omega arith) h,
      length-append word (decimal n ++ (10 ∷ [])),
      length-append (decimal n) (10 ∷ []),
    )

-- a page has room for what is printed of so few bytes
pub listing_fits : (stream : List ℕ) → length stream ≤ 2048 → length (listing (sound_frames stream)) ≤ 32768
listing_fits stream few =
    let frames = sound_frames stream in
    let many = frames_few [] stream in
    omega (
      arith,
      stretches_length [] stream,
      count_length (codes "frames ") (length frames) (omega arith),
      length-append (frame_lines frames) (count_line (codes "frames ") (length frames)),
    )

-- and for a position
pub position_fits : (p : ℕ) → p < 2 ^ 64 → length (count_line (codes "BAD ") p) ≤ 32768
position_fits p h = omega (arith, count_length (codes "BAD ") p h)
